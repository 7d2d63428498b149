use Rattle.std.proofs.Common.{◌≡◌, ◌++◌, take}
use Rattle.rl_text.specs.Joined.{literals_behind}
use Rattle.rl_text.proofs.literal.add_others.Given as goal

-- the values so far are there, the byte before each
abbrev pub invariant-loop-value : goal.invariant-loop-value
invariant-loop-value l = l.text ≡ l.fn.text ++ literals_behind l.between (take l.value-index l.values)
