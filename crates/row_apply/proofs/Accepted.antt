-- What is known of a change that its table accepts: its cells fit, an insert has one for each column, and an update logs what
-- is supplemental.
use Rattle.std.proofs.Common.{◌≡◌, List, [], ◌∷◌, length, refl, sym, ap, ◌∙◌, Bool, true, false, not, ◌&&◌, ◌||◌, ◌==◌, arith, Some, None, is_some}
use Rattle.std.proofs.lemmas.Bool.Decides.{nat_tests}
use Rattle.std.specs.FinMap.Entries as entries
use Rattle.rl_value.specs.declared.value.Value.{Value}
use Rattle.rl_value.specs.declared.cause.LawFault.{LawFault}
use Rattle.rl_value.specs.declared.cause.LawFault.TheVariants as faults
use Rattle.rl_value.specs.Order.{row_cmp}
use Rattle.rl_value.specs.Outcome.{first_fault, is_empty}
use Rattle.rl_value.specs.Text.{are_cells}
use Rattle.redo_vec.specs.declared.change.Change.{Change}
use Rattle.redo_vec.specs.declared.change.Op.TheVariants.{Insert}
use Rattle.redo_vec.specs.declared.table.TableRow.{TableRow}
use Rattle.redo_spec.specs.ChangeForm.{change_fault_in, change_fault, fault_of_table, beyond, wrong_cells, wrong_supplement, cells_fit, is_row_of}
use Rattle.redo_spec.specs.Dictionary.{table_of}
use Rattle.redo_spec.specs.Effect.{cell_values, with_cells}
use Rattle.redo_spec.specs.Tables.{Tables}
use Rattle.row_apply.specs.Kept.{Slots, rows_seen}
use Rattle.row_apply.specs.Soundness.{AreSoundRows}
use Rattle.row_apply.proofs.Fitting.{both, either, inserted_fits, updated_fits}

no_fault : (b : Bool) (f : LawFault) (rest : List (Bool × LawFault)) → first_fault ((b, f) ∷ rest) ≡ None → (b ≡ false) ×
    (first_fault rest ≡ None)
no_fault true f rest e = absurd (cc)
no_fault false f rest e = (refl, e)

pub holds : (b : Bool) → not b ≡ false → b ≡ true
holds true e = refl
holds false e = absurd (cc)

pub record AreAccepted (t : TableRow) (c : Change) : Type 0 where
  pub within : beyond t c.new ≡ false
  pub within_old : beyond t c.old ≡ false
  pub shape : wrong_cells t c.op c.old c.new ≡ false
  pub fit : cells_fit t c.new ≡ true
  pub logged : wrong_supplement t c.op c.old c.new ≡ false

pub accepted : (t : TableRow) (c : Change) → change_fault_in t c ≡ None → AreAccepted t c
accepted t c e =
    let last = (wrong_supplement t c.op c.old c.new, faults.Supplement) ∷ [] in
    let p = no_fault (beyond t c.old || beyond t c.new || wrong_cells t c.op c.old c.new) faults.Columns
    ((not (cells_fit t c.old && cells_fit t c.new), faults.Types) ∷ last) e in
    let q = no_fault (not (cells_fit t c.old && cells_fit t c.new)) faults.Types last p.1 in
    let r = either (beyond t c.old || beyond t c.new) (wrong_cells t c.op c.old c.new) p.0 in
    record {
      within = (either (beyond t c.old) (beyond t c.new) r.0).1;
      within_old = (either (beyond t c.old) (beyond t c.new) r.0).0;
      shape = r.1;
      fit = (both (cells_fit t c.old) (cells_fit t c.new) (holds (cells_fit t c.old && cells_fit t c.new) q.0)).1;
      logged = (no_fault (wrong_supplement t c.op c.old c.new) faults.Supplement [] q.1).0;
    }

pub insert_count : (t : TableRow) (c : Change) → c.op ≡ Insert → change_fault_in t c ≡ None → length c.new ≡ length t.columns
insert_count t c op e =
    let a = accepted t c e in
    let s : not (is_empty c.old && (length c.new == length t.columns)) ≡ false =
    sym (ap (λ o. wrong_cells t o c.old c.new) op) ∙ a.shape in
    let n = both (is_empty c.old) (length c.new == length t.columns)
    (holds (is_empty c.old && (length c.new == length t.columns)) s) in
    grind (arith, nat_tests, n.1)

pub insert_fits : (t : TableRow) (c : Change) → c.op ≡ Insert → are_cells c.new ≡ true → change_fault_in t c ≡ None →
    is_row_of t.columns (cell_values c.new) ≡ true
insert_fits t c op r e = let a = accepted t c e in inserted_fits t c.new r (insert_count t c op e) a.within a.fit

pub update_fits : (tables : Tables) (es : Slots) (t : TableRow) (c : Change) (key row : List Value) →
    AreSoundRows t (rows_seen tables es t) → change_fault_in t c ≡ None →
    entries.find row_cmp key (rows_seen tables es t) ≡ Some row → is_row_of t.columns (with_cells t row c.new) ≡ true
update_fits tables es t c key row s e f = updated_fits t row c.new (s.fit key row f) (accepted t c e).fit

-- the table of an accepted change is there
pub accepted_table : (ts : List TableRow) (c : Change) → change_fault ts c ≡ None → is_some (table_of ts c.table) ≡ true
accepted_table ts c e =
    elim (table_of ts c.table) as (λ o. fault_of_table o c ≡ None → is_some o ≡ true) [
      | None ↦ λ h. absurd (cc)
      | Some t ↦ λ h. refl
    ] e
