use Rattle.rl_text.proofs.LiteralLaws.{literal-text, literal-raw}
use Rattle.rl_text.proofs.literal.prints_a_literal.Goals as goal

-- a text and a raw value that there are have their sizes, and bytes
pub returns-in-Text : goal.returns-in-Text
returns-in-Text c = rw c.in-Text.is (literal-text c.in-Text.text c.bytes.ensures.text
    (rw c.bytes.ensures.same at c.hold_bytes.ensures))

pub returns-in-Raw : goal.returns-in-Raw
returns-in-Raw c = rw c.in-Raw.is (literal-raw c.in-Raw.raw c.bytes-in-Raw.ensures.raw
    (rw c.bytes-in-Raw.ensures.same at c.hold_bytes-in-Raw.ensures))
