use Rattle.std.proofs.Common.{◌≡◌, ◌++◌, take, drop}
use Rattle.script_words.specs.Parts.{before, behind}
use Rattle.script_words.proofs.parts.cut_at.Given as goal

-- no mark so far
abbrev pub invariant-loop-at : goal.invariant-loop-at
invariant-loop-at l =
    (before l.mark l.word ≡ take l.at l.word ++ before l.mark (drop l.at l.word))
    × (behind l.mark l.word ≡ behind l.mark (drop l.at l.word))
