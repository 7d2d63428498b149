-- What a fold is printed as: the lines that the definitions give for it.
use Rattle.std.specs.Prelude.{ℕ, ◌≡◌, List, take, Option, Result, Ok, Err}
use Rattle.std.specs.Io.KnownBytes.{Appends}
use Rattle.rl_base.specs.declared.status.Status.{Status}
use Rattle.redo_spec.specs.Fold.{Folded}
use Rattle.redo_spec.specs.Lines.{written, fold_lines}
use Rattle.primary.specs.declared.plain.Folded.{Folded as Plainly}
use Rattle.primary.specs.Starts.{folded_of}
use Rattle.standby.specs.declared.fold.Printout.{Printout}
use Rattle.standby.specs.declared.reading.FoldFault.{FoldFault}
use Rattle.standby.specs.Answers.{IsEnd, end_status}

-- the status and the text of a fold
pub record IsPrintout (f : Folded) (p : Printout) : Type 0 where
  pub ended : IsEnd p.status
  pub status : p.status ≡ end_status f.verdict
  pub text : p.text.items ≡ written (fold_lines f)

-- there is a fold, and this is its printout
abbrev pub IsPrintoutOf : Result Plainly FoldFault → Printout → Type 0
IsPrintoutOf (Ok f) p = IsPrintout (folded_of f) p
IsPrintoutOf (Err fault) p = ⊥

-- there is a printout of this status, and its text was written
abbrev pub IsWritten : Result Printout FoldFault → Status → Option (List ℕ) → Option (List ℕ) → Type 0
IsWritten (Ok p) status old new = (status ≡ p.status) × Appends old new p.text.items
IsWritten (Err fault) status old new = ⊥

-- a prefix of this text was written
pub record IsPrefix (text : List ℕ) (old new : Option (List ℕ)) : Type 0 where
  pub count : ℕ
  pub lines : Appends old new (take count text)

-- there is a printout, and a prefix of its text was written
abbrev pub IsPrefixWritten : Result Printout FoldFault → Option (List ℕ) → Option (List ℕ) → Type 0
IsPrefixWritten (Ok p) old new = IsPrefix p.text.items old new
IsPrefixWritten (Err fault) old new = ⊥
