-- Tables without bad keys: so is each of them, and they stay so with one more.
use Rattle.std.proofs.Common.{◌≡◌, ℕ, List, [], ◌∷◌, true, false, Bool, cond, ◌||◌, ◌==◌, nat_lt, refl, sym, Option, Some, None}
use Rattle.std.specs.List.{list_any}
use Rattle.std.specs.Option.{option_copied, IfSome}
use denote.Ref.{Bor}
use Rattle.redo_vec.specs.declared.table.TableRow.{TableRow}
use Rattle.redo_spec.specs.Dictionary.{table_of, with_table, has_bad_keys}

neither : (a b : Bool) → (a || b) ≡ false → (a ≡ false) × (b ≡ false)
neither true b e = absurd (cc)
neither false b e = (refl, e)

joined : (a b : Bool) → a ≡ false → b ≡ false → (a || b) ≡ false
joined true b x y = absurd (cc)
joined false b x y = y

-- none has bad keys with a new one that has none
pub keys_with : (t : TableRow) (ts : List TableRow) → list_any has_bad_keys ts ≡ false → has_bad_keys t ≡ false →
    list_any has_bad_keys (with_table t ts) ≡ false
keys_with t [] e new = joined (has_bad_keys t) false new refl
keys_with t (u ∷ us) e new =
    let parts = neither (has_bad_keys u) (list_any has_bad_keys us) e in
    elim (nat_lt t.id u.id) as (λ b. list_any has_bad_keys (cond b (t ∷ u ∷ us) (u ∷ with_table t us)) ≡ false) [
      | true ↦ joined (has_bad_keys t) _ new e
      | false ↦ joined (has_bad_keys u) _ parts.0 (keys_with t us parts.1 new)
    ]

-- a table that is found has none
found_keys : (ts : List TableRow) (id : ℕ) (t : TableRow) → list_any has_bad_keys ts ≡ false → table_of ts id ≡ Some t →
    has_bad_keys t ≡ false
found_keys [] id t e found = absurd (cc)
found_keys (u ∷ us) id t e found =
    let parts = neither (has_bad_keys u) (list_any has_bad_keys us) e in
    elim (u.id == id) as (λ b. cond b (Some u) (table_of us id) ≡ Some t → has_bad_keys t ≡ false) [
      | true ↦ λ h. cc
      | false ↦ λ h. found_keys us id t parts.1 h
    ] found

pub found_has_none : (ts : List TableRow) (id : ℕ) (o : Option (Bor TableRow)) → list_any has_bad_keys ts ≡ false →
    option_copied o ≡ table_of ts id → IfSome o (λ t. has_bad_keys t.now ≡ false)
found_has_none ts id None e found = tt
found_has_none ts id (Some t) e found = found_keys ts id t.now e (sym found)
