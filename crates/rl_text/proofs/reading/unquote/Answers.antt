use Rattle.std.proofs.Common.{◌≡◌, ◌≤◌, ℕ, List, [], ◌∷◌, length, get_or, Bool, false, None, sym, ap, ◌∙◌, arith}
use Rattle.rl_value.specs.LiteralValue.{unquoted}
use Rattle.rl_text.specs.Reading.{with_read}
use Rattle.rl_text.proofs.reading.unquote.Goals as goal

-- a byte that may not stand there leaves nothing to read
stopped : (read : List ℕ) (half : Bool) (rest bytes : List ℕ) → 1 ≤ length rest →
    ((after : List ℕ) → unquoted half (get_or rest 0 0 ∷ after) ≡ None)
    → with_read read (unquoted half rest) ≡ unquoted false bytes → None ≡ unquoted false bytes
stopped read half [] bytes some bad whole = absurd (omega arith)
stopped read half (b ∷ after) bytes some bad whole = sym (ap (λ o. with_read read o) (bad after)) ∙ whole

pub returns-in-None : goal.returns-in-None
returns-in-None c =
    stopped c.loop-rest.read.items c.loop-rest.half c.loop-rest.rest.now c.args.bytes.now c.in-len1-up.len_at_least
    (rw c.in-None.is at c.in_ok-read_step.ensures.bad) c.loop-rest.invariant
