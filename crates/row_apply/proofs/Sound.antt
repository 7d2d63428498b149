-- Laws of sound tables.
use Rattle.std.proofs.Common.{◌≡◌, List, [], ◌∷◌, refl, ap, true, false, cond, ◌==◌, Option, None}
use Rattle.rl_value.specs.declared.key.Key.{Key}
use Rattle.rl_value.specs.declared.value.Value.{Value}
use Rattle.rl_value.specs.Order.{row_cmp}
use Rattle.std.specs.FinMap.Entries as entries
use Rattle.redo_vec.specs.declared.table.TableRow.{TableRow}
use Rattle.redo_spec.specs.Tables.{Rows, Tables, empty_tables}
use Rattle.redo_spec.specs.Work.{row_at}
use Rattle.row_apply.specs.Found.{owner_of}
use Rattle.row_apply.specs.Overlaid.{overlaid}
use Rattle.row_apply.specs.Soundness.{AreSoundRows, AreSound}

-- no rows are sound
pub no_rows-sound : (t : TableRow) → AreSoundRows t []
no_rows-sound t = record {
  rising = refl;
  keyed = λ key row e. absurd (cc);
  fit = λ key row e. absurd (cc);
  single = λ index columns s key other row like e f n v. absurd (cc);
}

pub empty-sound : (tables : List TableRow) → AreSound (empty_tables tables)
empty-sound [] = tt
empty-sound (t ∷ ts) = (no_rows-sound t, empty-sound ts)

pub overlaid-none : (tables : Tables) → overlaid tables [] ≡ tables
overlaid-none [] = refl
overlaid-none (t ∷ ts) = ap (λ us. t ∷ us) (overlaid-none ts)

-- a table without rows has no row, and no owner of a unique value
pub nothing_found : (t : TableRow) (key : Key) → row_at (empty_tables (t ∷ [])) key ≡ None
nothing_found t key =
    let empty : Rows = [] in
    elim (t.id == key.table) as (λ b. entries.find row_cmp key.values (cond b empty empty) ≡ None) [
      | true ↦ refl
      | false ↦ refl
    ]

pub nobody_owns : (t : TableRow) (key : Key) → owner_of (empty_tables (t ∷ [])) key ≡ None
nobody_owns t key =
    let nobody : Option (List Value) = None in
    elim (t.id == key.table) as (λ b. cond b nobody nobody ≡ None) [
      | true ↦ refl
      | false ↦ refl
    ]
