-- Where the redo has further commits, one more record follows, and the redo is well with it.
use Rattle.std.proofs.Common.{◌≡◌, ℕ, ◌+◌, ◌≤◌, ◌<◌, List, [], ◌∷◌, drop, length, refl, ap, ◌∙◌, Option, Some, None, arith}
use Rattle.rl_value.specs.declared.cause.LawFault.{LawFault}
use Rattle.redo_spec.specs.History.{Entry, commit_count, history_after}
use Rattle.redo_spec.specs.Law.{Admitted, record_fault, dictionary_left, admitted_or, admission}
use Rattle.redo_spec.specs.Standing.{record_after}
use Rattle.standby_spec.specs.KeptState.{KeptState}
use Rattle.standby_spec.specs.StandbyRedo.{Archived, redo_entries, commits_of, front_at}
use Rattle.run_spec.specs.Taken.{commits_by}
use Rattle.run_spec.proofs.Starting.{redo_from_front}
use Rattle.run_spec.proofs.OneMore.{more-there, front-more, one-fault}

record GoesFurther (logs : Archived) (s : KeptState) (k : ℕ) : Type 0 where
  there : k + 1 ≤ length (redo_entries logs s)
  well : (front_at logs s (k + 1)).fault ≡ None

further-by : (logs : Archived) (s : KeptState) (k : ℕ) (rest : List Entry) → drop k (redo_entries logs s) ≡ rest →
    (front_at logs s k).fault ≡ None → commits_by logs s k < commit_count (commits_of logs s) → GoesFurther logs s k
further-by logs s k [] is good low =
    let a = front_at logs s k in
    let count : commit_count (commits_of logs s) ≡ commits_by logs s k =
    ap (λ (x : Admitted). commit_count x.history.commits) (redo_from_front s.first s.base (redo_entries logs s) k good)
    ∙ ap (λ (es : List Entry). commit_count (admission a.standing a.history es).history.commits) is in
    absurd (omega (arith, count, low))
further-by logs s k (e ∷ more) is good low =
    let a = front_at logs s k in
    let later = admission (record_after e a.standing) (history_after (a.standing.rec + 1) e a.history) more in
    elim (record_fault a.standing e) as (λ o. record_fault a.standing e ≡ o → GoesFurther logs s k) [
      | Some fault ↦ λ bad.
          let count : commit_count (commits_of logs s) ≡ commits_by logs s k =
          ap (λ (x : Admitted). commit_count x.history.commits) (redo_from_front s.first s.base (redo_entries logs s) k good)
          ∙ ap (λ (es : List Entry). commit_count (admission a.standing a.history es).history.commits) is
          ∙ ap (λ (o : Option LawFault). commit_count
          (admitted_or o (dictionary_left a.standing e) a.standing a.history later).history.commits) bad in
          absurd (omega (arith, count, low))
      | None ↦ λ fits. record {
        there = more-there k (redo_entries logs s) e more is;
        well = ap (λ (x : Admitted). x.fault) (front-more logs s k e more is good)
            ∙ one-fault a.standing a.history e
            ∙ fits;
      }
    ] refl

further : (logs : Archived) (s : KeptState) (k : ℕ) → (front_at logs s k).fault ≡ None →
    commits_by logs s k < commit_count (commits_of logs s) → GoesFurther logs s k
further logs s k good low = further-by logs s k (drop k (redo_entries logs s)) refl good low

pub further-there : (logs : Archived) (s : KeptState) (k : ℕ) → (front_at logs s k).fault ≡ None →
    commits_by logs s k < commit_count (commits_of logs s) → k + 1 ≤ length (redo_entries logs s)
further-there logs s k good low = (further logs s k good low).there

pub further-well : (logs : Archived) (s : KeptState) (k : ℕ) → (front_at logs s k).fault ≡ None →
    commits_by logs s k < commit_count (commits_of logs s) → (front_at logs s (k + 1)).fault ≡ None
further-well logs s k good low = (further logs s k good low).well
