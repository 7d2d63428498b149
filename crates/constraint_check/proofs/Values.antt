-- The unique values of written rows: each may be looked for in its table.
use Rattle.std.proofs.Common.{◌≡◌, ◌≤◌, ◌<◌, ◌+◌, ℕ, List, [], ◌∷◌, ◌++◌, length, drop, arith, true, false, refl, sym, ap, ◌∙◌, subst, Option, Some, None, inl, inr, cond, ◌==◌}
use Rattle.std.specs.Prelude.{if◌then◌else◌, IfSome, ◌⊎◌}
use Rattle.std.specs.List.{AllByRecursion, list_any}
use Rattle.rl_value.specs.declared.key.Key.{Key}
use Rattle.rl_value.specs.declared.value.Value.{Value}
use Rattle.redo_vec.specs.declared.table.TableRow.{TableRow}
use Rattle.redo_spec.specs.ConflictKeys.{is_null}
use Rattle.redo_spec.specs.Dictionary.{table_of, uniques_of}
use Rattle.redo_spec.specs.Tables.{values_at}
use Rattle.row_apply.specs.declared.writes.Write.{Write}
use Rattle.row_apply.specs.Kept.{unique_key}
use Rattle.constraint_check.specs.LookUps.{with_value, values_behind, values_with, written_values, IsAskable}
use Rattle.constraint_check.proofs.Rising.{same_number}

all-with : (P : Key → Type 0) (keys : List Key) (k : Key) → AllByRecursion P keys → P k → AllByRecursion P (keys ++ k ∷ [])
all-with P [] k all here = (here, tt)
all-with P (l ∷ ls) k all here = (all.0, all-with P ls k all.1 here)

with-askable : (defs : List TableRow) (t : TableRow) (keys : List Key) (row : List Value) (index : ℕ) (columns : List ℕ) →
    table_of defs t.id ≡ Some t → 0 < index → index < length t.keys → AllByRecursion (IsAskable defs) keys →
    AllByRecursion (IsAskable defs) (with_value keys t.id row index columns)
with-askable defs t keys row index columns there low high all =
    elim (list_any is_null (values_at row columns)) as (λ b. list_any is_null (values_at row columns) ≡ b →
    AllByRecursion (IsAskable defs) (if b then keys else keys ++ unique_key t.id index (values_at row columns) ∷ [])) [
      | true ↦ λ null. all
      | false ↦ λ full. all-with (IsAskable defs) keys (unique_key t.id index (values_at row columns)) all (record {
        unique = low;
        inside = subst (λ o. IfSome o (λ u. index < length u.keys)) (sym there) high;
        filled = full;
      })
    ] refl

behind-askable : (defs : List TableRow) (t : TableRow) (keys : List Key) (row : List Value) (index : ℕ) (more : List (List ℕ)) →
    table_of defs t.id ≡ Some t → 0 < index → index + length more ≤ length t.keys → AllByRecursion (IsAskable defs) keys →
    AllByRecursion (IsAskable defs) (values_behind keys t.id row index more)
behind-askable defs t keys row index [] there low high all = all
behind-askable defs t keys row index (columns ∷ more) there low high all =
    behind-askable defs t (with_value keys t.id row index columns) row (index + 1) more there (omega arith) (omega (arith, high))
    (with-askable defs t keys row index columns there low (omega (arith, high)) all)

-- those of a table without a key are none
uniques-few : (keys : List (List ℕ)) → (1 + length (drop 1 keys) ≤ length keys) ⊎ (drop 1 keys ≡ [])
uniques-few [] = inr refl
uniques-few (k ∷ ks) = inl (omega arith)

row-askable : (defs : List TableRow) (t : TableRow) (keys : List Key) (row : List Value) → table_of defs t.id ≡ Some t →
    AllByRecursion (IsAskable defs) keys → AllByRecursion (IsAskable defs) (values_behind keys t.id row 1 (uniques_of t))
row-askable defs t keys row there all = elim (uniques-few t.keys) [
  | inl few ↦ behind-askable defs t keys row 1 (uniques_of t) there (omega arith) few all
  | inr none ↦ subst (λ us. AllByRecursion (IsAskable defs) (values_behind keys t.id row 1 us)) (sym none) all
]

-- a table that is found has the id that was asked for
pub its-id : (defs : List TableRow) (id : ℕ) (t : TableRow) → table_of defs id ≡ Some t → t.id ≡ id
its-id [] id t e = absurd (cc)
its-id (u ∷ us) id t e =
    elim (u.id == id) as (λ b. (u.id == id) ≡ b → cond b (Some u) (table_of us id) ≡ Some t → t.id ≡ id) [
      | true ↦ λ is given.
          let same : u ≡ t = cc in
          ap (λ (x : TableRow). x.id) (sym same) ∙ same_number u.id id is
      | false ↦ λ other given. its-id us id t given
    ] refl e

pub found-id : (defs : List TableRow) (id : ℕ) (t : TableRow) → table_of defs id ≡ Some t → table_of defs t.id ≡ Some t
found-id defs id t e = subst (λ i. table_of defs i ≡ Some t) (sym (its-id defs id t e)) e

with-askable-of : (defs : List TableRow) (id : ℕ) (keys : List Key) (o : Option TableRow) (row : Option (List Value)) →
    table_of defs id ≡ o → AllByRecursion (IsAskable defs) keys → AllByRecursion (IsAskable defs) (values_with keys o row)
with-askable-of defs id keys None row e all = all
with-askable-of defs id keys (Some t) None e all = all
with-askable-of defs id keys (Some t) (Some row) e all = row-askable defs t keys row (found-id defs id t e) all

-- each of those of written rows may be looked for
pub all-askable : (defs : List TableRow) (keys : List Key) (ws : List Write) → AllByRecursion (IsAskable defs) keys →
    AllByRecursion (IsAskable defs) (written_values keys defs ws)
all-askable defs keys [] all = all
all-askable defs keys (w ∷ ws) all =
    all-askable defs (values_with keys (table_of defs w.table) w.row) ws
    (with-askable-of defs w.table keys (table_of defs w.table) w.row refl all)
