-- Where memory may want: a table is copied before anything is looked for, and what an answer says of it.
use Rattle.std.proofs.Common.{◌≡◌, ◌≢◌, List, [], ◌∷◌, length, nat_le, refl, Bool, true, false, ◌||◌, Result, Ok, Err}
use Rattle.std.specs.List.{list_any}
use Rattle.rl_value.specs.declared.cause.LawFault.TheVariants as laws
use Rattle.rl_value.specs.Outcome.{first_fault}
use Rattle.redo_vec.specs.declared.table.TableRow.{TableRow}
use Rattle.redo_spec.specs.Dictionary.{table_fault, table_limit, same_table, has_bad_names, has_bad_keys, is_too_wide}
use Rattle.redo_law.specs.declared.fault.AdmitFault.{AdmitFault}
use Rattle.redo_law.specs.declared.fault.AdmitFault.TheVariants as faults
use Rattle.redo_law.specs.Calls.{OnWant, may_want}

four_faults : (a b c d : Bool) → may_want (first_fault ((a, laws.Twice) ∷ (b, laws.Names) ∷ (c, laws.Keys) ∷
    (d, laws.Limit) ∷ [])) ≡ true
four_faults true b c d = refl
four_faults false true c d = refl
four_faults false false true d = refl
four_faults false false false true = refl
four_faults false false false false = refl

-- a table is copied before anything is looked for
pub may_want_table : (tables : List TableRow) (t : TableRow) → may_want (table_fault tables t) ≡ true
may_want_table tables t = four_faults (list_any (same_table t) tables) (has_bad_names t) (has_bad_keys t)
    (nat_le table_limit (length tables) || is_too_wide t)

-- what follows where memory wants
pub wanted : {T P : Type 0} (r : Result T AdmitFault) → P → OnWant r P
wanted (Ok x) p = tt
wanted (Err (faults.Law fault)) p = tt
wanted (Err faults.Memory) p = p

pub never : {T : Type 0} (P : Type 0) (r : Result T AdmitFault) → r ≢ Err faults.Memory → OnWant r P
never P (Ok x) other = tt
never P (Err (faults.Law fault)) other = tt
never P (Err faults.Memory) other = absurd (other refl)
