-- The redo of a standby folded again, as CHECK does it: over a base, up to the applied count.
-- No local rows are shown beside the fold: the rows of each table are those that the base has, with the changes that are not
-- passed over. This project's own.
use Rattle.std.specs.Prelude.{[]}
use Rattle.rl_value.specs.declared.verdict.Stop.TheVariants.{Drained}
use Rattle.redo_spec.specs.Fold.{Base, Folded, folded}
use Rattle.redo_spec.specs.Tables.{RowsById}
use Rattle.primary.specs.declared.plain.Plain.{Plain}
use Rattle.primary.specs.Starts.{first_start}
use Rattle.standby_spec.specs.KeptState.{KeptState}
use Rattle.standby_spec.specs.StandbyRedo.{Archived, commits_of}
use Rattle.run_spec.specs.Taken.{commits_up_to}

-- the applied commits of this state folded over a base, with its skip rules and logs
abbrev pub folded_again : Archived → Base → KeptState → Folded
folded_again logs b s = folded (record b { local = [] }) s.skips (commits_up_to s.n (commits_of logs s)) Drained

-- where the reference evaluator begins over that base, whose rows are these
abbrev pub start_again : KeptState → Base → RowsById → Plain
start_again s b rows = record (first_start s.first s.base) { n = b.n; scn = b.scn; tables = rows }
