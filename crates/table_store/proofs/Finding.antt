-- A table that is found by its id: its rows, its owners, and that it is sound.
use Rattle.std.proofs.Common.{◌≡◌, ℕ, ◌<◌, length, [], ◌∷◌, refl, ap, subst, true, false, cond, ◌==◌, Some, None, IfSome}
use Rattle.rl_value.specs.declared.key.Key.{Key}
use Rattle.redo_spec.specs.Dictionary.{table_of}
use Rattle.redo_spec.specs.Tables.{Table, Tables, definitions_of, owner_in}
use Rattle.redo_spec.specs.Work.{rows_of}
use Rattle.row_apply.specs.Found.{owner_of, key_columns}
use Rattle.row_apply.specs.Soundness.{AreSound, AreSoundRows}
use Rattle.table_store.specs.Shared.{found_in}

pub rows_found : (ts : Tables) (id : ℕ) (t : Table) → found_in id ts ≡ Some t → rows_of ts id ≡ t.rows
rows_found [] id t e = absurd (cc)
rows_found (u ∷ us) id t e =
    elim (u.row.id == id) as (λ b. cond b (Some u) (found_in id us) ≡ Some t → cond b u.rows (rows_of us id) ≡ t.rows) [
      | true ↦ λ h. let same : u ≡ t = cc in ap (λ (v : Table). v.rows) same
      | false ↦ λ h. rows_found us id t h
    ] e

pub rows_none : (ts : Tables) (id : ℕ) → found_in id ts ≡ None → rows_of ts id ≡ []
rows_none [] id e = refl
rows_none (u ∷ us) id e =
    elim (u.row.id == id) as (λ b. cond b (Some u) (found_in id us) ≡ None → cond b u.rows (rows_of us id) ≡ []) [
      | true ↦ λ h. absurd (cc)
      | false ↦ λ h. rows_none us id h
    ] e

pub owner_at : (ts : Tables) (key : Key) (t : Table) → found_in key.table ts ≡ Some t →
    owner_of ts key ≡ owner_in t.rows (key_columns t.row key.index) key.values
owner_at [] key t e = absurd (cc)
owner_at (u ∷ us) key t e =
    elim (u.row.id == key.table) as (λ b. cond b (Some u) (found_in key.table us) ≡ Some t →
    cond b (owner_in u.rows (key_columns u.row key.index) key.values) (owner_of us key) ≡
    owner_in t.rows (key_columns t.row key.index) key.values) [
      | true ↦ λ h. let same : u ≡ t = cc in ap (λ (v : Table). owner_in v.rows (key_columns v.row key.index) key.values) same
      | false ↦ λ h. owner_at us key t h
    ] e

pub owner_nowhere : (ts : Tables) (key : Key) → found_in key.table ts ≡ None → owner_of ts key ≡ None
owner_nowhere [] key e = refl
owner_nowhere (u ∷ us) key e =
    elim (u.row.id == key.table) as (λ b. cond b (Some u) (found_in key.table us) ≡ None →
    cond b (owner_in u.rows (key_columns u.row key.index) key.values) (owner_of us key) ≡ None) [
      | true ↦ λ h. absurd (cc)
      | false ↦ λ h. owner_nowhere us key h
    ] e

pub sound_at : (ts : Tables) (id : ℕ) (t : Table) → AreSound ts → found_in id ts ≡ Some t → AreSoundRows t.row t.rows
sound_at [] id t sound e = absurd (cc)
sound_at (u ∷ us) id t sound e =
    elim (u.row.id == id) as (λ b. cond b (Some u) (found_in id us) ≡ Some t → AreSoundRows t.row t.rows) [
      | true ↦ λ h.
          let same : u ≡ t = cc in
          let P : Table → Type 0 = λ v. AreSoundRows v.row v.rows in
          subst P same sound.0
      | false ↦ λ h. sound_at us id t sound.1 h
    ] e

pub inside_at : (ts : Tables) (id index : ℕ) (t : Table) → found_in id ts ≡ Some t →
    IfSome (table_of (definitions_of ts) id) (λ u. index < length u.keys) → index < length t.row.keys
inside_at [] id index t e inside = absurd (cc)
inside_at (u ∷ us) id index t e inside =
    elim (u.row.id == id) as (λ b. cond b (Some u) (found_in id us) ≡ Some t →
    IfSome (cond b (Some u.row) (table_of (definitions_of us) id)) (λ v. index < length v.keys) → index < length t.row.keys) [
      | true ↦ λ h i.
          let same : u ≡ t = cc in
          let P : Table → Type 0 = λ v. index < length v.row.keys in
          subst P same i
      | false ↦ λ h i. inside_at us id index t h i
    ] e inside
