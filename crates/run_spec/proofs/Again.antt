-- The reference evaluator over a base has come to the fold of the applied commits behind the record of the last of them.
use Rattle.std.proofs.Common.{◌≡◌, ℕ, ◌+◌, ◌<◌, List, [], take, sym, ap, ◌∙◌, Option, None, arith}
use Rattle.std.specs.Option.{option_map_or}
use Rattle.rl_value.specs.declared.cause.LawFault.{LawFault}
use Rattle.rl_value.specs.declared.cause.Cause.TheVariants as causes
use Rattle.rl_value.specs.declared.verdict.Stop.TheVariants.{Drained, Malformed}
use Rattle.redo_vec.specs.declared.table.TableRow.{TableRow}
use Rattle.redo_spec.specs.Dictionary.{Dictionary}
use Rattle.redo_spec.specs.Fold.{Base, folded, redo_end, named_by}
use Rattle.redo_spec.specs.Tables.{Tables, RowsById, assembled, definitions_of}
use Rattle.primary.specs.Progress.{tables_shown, end_of}
use Rattle.primary.specs.Starts.{base_of as base_by, progress_after}
use Rattle.primary.proofs.FoldsLaw.{progress_folds}
use Rattle.standby_spec.specs.KeptState.{KeptState}
use Rattle.standby_spec.specs.StandbyRedo.{Archived, redo_entries, commits_of, front_at}
use Rattle.standby_spec.specs.Lawful.{Belongs}
use Rattle.run_spec.specs.Again.{folded_again, start_again}
use Rattle.run_spec.specs.Taken.{commits_by, commits_up_to}
use Rattle.run_spec.proofs.Firsts.{first-commits, first-whole}
use Rattle.run_spec.proofs.Starting.{whole_front}

pub folds-again : (logs : Archived) (s : KeptState) (b : Base) (rows : RowsById) (k : ℕ) → Belongs logs s →
    (front_at logs s k).fault ≡ None → commits_by logs s k ≡ s.n → 0 < s.n → definitions_of b.tables ≡ definitions_of s.tables →
    assembled (definitions_of b.tables) rows ≡ b.tables →
    end_of Drained (progress_after (start_again s b rows) s.skips (take k (redo_entries logs s))) ≡
    named_by (front_at logs s k).left.tables (folded_again logs b s)
folds-again logs s b rows k is well count some same shows =
    let start = start_again s b rows in
    let a = front_at logs s k in
    let whole = first-whole logs s k (omega (arith, count, some)) in
    let tables : tables_shown a.standing.dictionary.finished a.standing.dictionary.tables rows ≡ b.tables =
    ap (λ (d : Dictionary). tables_shown d.finished d.tables rows) (sym (whole_front logs s k is well whole))
    ∙ ap (λ (ds : List TableRow). assembled ds rows) (sym same)
    ∙ shows in
    let base : base_by start a.standing ≡ record b { local = [] } =
    ap (λ (ts : Tables). record { tables = ts; n = b.n; scn = b.scn; local = [] }) tables in
    let commits : a.history.commits ≡ commits_up_to s.n (commits_of logs s) =
    sym (first-commits logs s k well) ∙ ap (λ (n : ℕ). commits_up_to n (commits_of logs s)) count in
    let end : redo_end a Drained ≡ Drained = ap
    (λ (o : Option LawFault). option_map_or (λ (f : LawFault). Malformed (a.standing.rec + 1) (causes.Law f)) o Drained) well in
    progress_folds start s.skips (take k (redo_entries logs s)) Drained (omega arith)
    ∙ (λ i. named_by a.left.tables (folded (base i) s.skips (commits i) (end i)))
