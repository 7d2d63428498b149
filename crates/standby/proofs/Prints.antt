-- What was written is what the archive's log, or its absence, is folded to.
use Rattle.std.proofs.Common.{◌≡◌, ℕ, List, take, ap, subst, ◌∙◌, Option, Some, None, Result, Ok, Err, IfOk}
use Rattle.std.specs.Io.KnownBytes.{Appends}
use Rattle.rl_base.specs.declared.status.Status.{Status}
use Rattle.rl_base.specs.declared.status.Status.TheVariants as statuses
use Rattle.rl_ports.specs.Faults.{Told}
use Rattle.redo_spec.specs.Fold.{Folded}
use Rattle.redo_spec.specs.Redo.{fold_of_log}
use Rattle.redo_spec.specs.Lines.{written, fold_lines}
use Rattle.primary.specs.declared.plain.Folded.{Folded as Plainly}
use Rattle.primary.specs.Starts.{folded_of}
use Rattle.standby.specs.declared.fold.Printout.{Printout}
use Rattle.standby.specs.declared.reading.FoldFault.{FoldFault}
use Rattle.standby.specs.Printout.{IsPrintoutOf, IsWritten, IsPrefix, IsPrefixWritten}
use Rattle.standby.specs.Answers.{Prints, PrintsPrefix, IsEnd, SaysFault, end_status, fault_line}
use Rattle.standby.specs.Writing.{AppendsPrefix}

-- a prefix of the text was written
pub written-prefix : (p : Printout) (text : List ℕ) (old new : Option (List ℕ)) (P : Type 0) → text ≡ p.text.items →
    AppendsPrefix old new text P → IsPrefixWritten (Ok p) old new
written-prefix p text old new P same a = record {
  count = a.count;
  lines = subst (λ whole. Appends old new (take a.count whole)) same a.prefix;
}

one-prints : (seq : ℕ) (logs : ℕ → Option (List ℕ)) (folded : Result Plainly FoldFault) (p : Printout) (status : Status)
    (old new : Option (List ℕ)) →
    IfOk folded (λ f. folded_of f ≡ fold_of_log seq (logs seq)) → IsPrintoutOf folded p → status ≡ p.status →
    Appends old new p.text.items → Prints logs seq status old new
one-prints seq logs (Err fault) p status old new is out same a = absurd out
one-prints seq logs (Ok f) p status old new is out same a = record {
  ended = same ∙ out.status ∙ ap (λ (g : Folded). end_status g.verdict) is;
  lines = subst (Appends old new) (out.text ∙ ap (λ (g : Folded). written (fold_lines g)) is) a;
}

one-prefix : (seq : ℕ) (logs : ℕ → Option (List ℕ)) (folded : Result Plainly FoldFault) (p : Printout)
    (old new : Option (List ℕ)) →
    IfOk folded (λ f. folded_of f ≡ fold_of_log seq (logs seq)) → IsPrintoutOf folded p → IsPrefix p.text.items old new →
    PrintsPrefix logs seq old new
one-prefix seq logs (Err fault) p old new is out a = absurd out
one-prefix seq logs (Ok f) p old new is out a = record {
  count = a.count;
  lines = subst (λ text. Appends old new (take a.count text)) (out.text ∙ ap (λ (g : Folded). written (fold_lines g)) is) a.lines;
}

-- what was written of a fold is what the log that the archive tells is folded to
pub prints : (known : Option (ℕ → Option (List ℕ))) (seq : ℕ) (folded : Result Plainly FoldFault)
    (printout : Result Printout FoldFault) (status : Status) (old new : Option (List ℕ)) →
    Told known (λ logs. IfOk folded (λ f. folded_of f ≡ fold_of_log seq (logs seq))) → IfOk printout (IsPrintoutOf folded) →
    IsWritten printout status old new → Told known (λ logs. Prints logs seq status old new)
prints None seq folded printout status old new is out w = tt
prints (Some logs) seq folded (Err fault) status old new is out w = absurd w
prints (Some logs) seq folded (Ok p) status old new is out w = one-prints seq logs folded p status old new is out w.0 w.1

pub prints_prefix : (known : Option (ℕ → Option (List ℕ))) (seq : ℕ) (folded : Result Plainly FoldFault)
    (printout : Result Printout FoldFault) (old new : Option (List ℕ)) →
    Told known (λ logs. IfOk folded (λ f. folded_of f ≡ fold_of_log seq (logs seq))) → IfOk printout (IsPrintoutOf folded) →
    IsPrefixWritten printout old new → Told known (λ logs. PrintsPrefix logs seq old new)
prints_prefix None seq folded printout old new is out w = tt
prints_prefix (Some logs) seq folded (Err fault) old new is out w = absurd w
prints_prefix (Some logs) seq folded (Ok p) old new is out w = one-prefix seq logs folded p old new is out w

-- a printout's status is an end of a run
ended-of : (folded : Result Plainly FoldFault) (p : Printout) → IsPrintoutOf folded p → IsEnd p.status
ended-of (Ok f) p out = out.ended
ended-of (Err fault) p out = absurd out

pub ends : (folded : Result Plainly FoldFault) (printout : Result Printout FoldFault) → IfOk printout (IsPrintoutOf folded) →
    IfOk printout (λ p. IsEnd p.status)
ends folded (Ok p) out = ended-of folded p out
ends folded (Err fault) out = tt

-- an end of a run has no line of its own
pub says-nothing : (s : Status) (old new : Option (List ℕ)) (P : Type 0) → IsEnd s → SaysFault (fault_line s) old new P
says-nothing statuses.Done old new P end = tt
says-nothing statuses.Gap old new P end = tt
says-nothing statuses.Malformed old new P end = tt
says-nothing statuses.Mismatch old new P end = tt
says-nothing statuses.RowLimit old new P end = tt
says-nothing other old new P end = absurd end
