use Rattle.rl_text.proofs.Moves.{AppendsFront-longer, AppendsFront-behind, on_err, OnErr-weaker}
use Rattle.rl_text.proofs.output.put_line.Goals as goal

-- a front of the line was written
pub returns-in_err-put_bytes-clause-front : goal.returns-in_err-put_bytes-clause-front
returns-in_err-put_bytes-clause-front g c =
    on_err _ _ (AppendsFront-longer _ _ _ _ (rw c.items.ensures.same at c.in_err-put_bytes.ensures.front))

-- the line was written, and a front of the line end
pub returns-clause-front : goal.returns-clause-front
returns-clause-front g c =
    OnErr-weaker _ _ _ (λ f. AppendsFront-behind _ _ _ _ _ (rw c.items.ensures.same at c.in_ok-put_bytes.ensures.bytes) f)
    c.put_bytes-2.ensures.front
