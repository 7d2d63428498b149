-- Whether another row has one of a row's unique values, as it is asked: each key by its owner, in the order of the keys.
use Rattle.std.proofs.Common.{◌≡◌, ℕ, List, [], Bool, true, false, refl, sym, ap, ◌∙◌, Option, Some, None, is_some, slice_get, unwrap_or}
use Rattle.std.specs.Prelude.{if◌then◌else◌}
use Rattle.std.specs.List.{list_any}
use Rattle.std.specs.Option.{option_map, option_or}
use Rattle.rl_value.specs.declared.key.Key.{Key}
use Rattle.rl_value.specs.declared.miss.Miss.{Miss}
use Rattle.rl_value.specs.declared.miss.Miss.TheVariants.{Taken}
use Rattle.rl_value.specs.declared.value.Value.{Value}
use Rattle.redo_vec.specs.declared.table.TableRow.{TableRow}
use Rattle.redo_spec.specs.ConflictKeys.{is_null}
use Rattle.redo_spec.specs.Dictionary.{table_of}
use Rattle.redo_spec.specs.Effect.{taken_at}
use Rattle.redo_spec.specs.Tables.{Rows, Tables, definitions_of, named, owner_in}
use Rattle.redo_spec.specs.Work.{rows_of}
use Rattle.row_apply.specs.Found.{owner_of}
use Rattle.row_apply.proofs.Effects.{owner_of-in}

pub taken_on : (o rest : Option Miss) → is_some o ≡ false → is_some (option_or o rest) ≡ is_some rest
taken_on None rest e = refl
taken_on (Some m) rest e = absurd (cc)

pub taken_here : (o rest : Option Miss) → is_some o ≡ true → is_some (option_or o rest) ≡ true
taken_here None rest e = absurd (cc)
taken_here (Some m) rest e = refl

abbrev taken_with : ℕ → TableRow → Option (List Value) → Bool → Option Miss
taken_with index t owner null = if null then None else option_map (λ k. Taken index (named t k)) owner

still_some : (index : ℕ) (t : TableRow) (o : Option (List Value)) → is_some o ≡ is_some (taken_with index t o false)
still_some index t None = refl
still_some index t (Some k) = refl

-- a value with a Null in it is nobody's
pub null_not_taken : (t : TableRow) (rows : Rows) (index : ℕ) (columns : List ℕ) (values : List Value) →
    list_any is_null values ≡ true → false ≡ is_some (taken_at t rows index columns values)
null_not_taken t rows index columns values null =
    sym (ap (λ b. is_some (taken_with index t (owner_in rows columns values) b)) null)

-- the owner that is found tells whether the value is taken
pub owner_tells : (ts : Tables) (t : TableRow) (key : Key) (columns : List ℕ) (o : Option (List Value)) →
    table_of (definitions_of ts) key.table ≡ Some t → slice_get t.keys key.index ≡ Some columns →
    list_any is_null key.values ≡ false → o ≡ owner_of ts key →
    is_some o ≡ is_some (taken_at t (rows_of ts key.table) key.index columns key.values)
owner_tells ts t key columns o defined at full is =
    let owns : o ≡ owner_in (rows_of ts key.table) columns key.values =
    is ∙ owner_of-in ts t key defined ∙
    ap (λ found. owner_in (rows_of ts key.table) (unwrap_or found []) key.values) at in
    ap is_some owns
    ∙ still_some key.index t (owner_in (rows_of ts key.table) columns key.values)
    ∙ sym (ap (λ b. is_some (taken_with key.index t (owner_in (rows_of ts key.table) columns key.values) b)) full)
