-- Cells behind cells, values one behind the other, and the keys of a table one behind the other.
use Rattle.std.proofs.Common.{◌≡◌, ℕ, ◌+◌, ◌≤◌, ◌<◌, List, [], ◌∷◌, ◌++◌, length, refl, ap, Bool, true, false, cond, ◌&&◌, ◌==◌, nat_le, nat_lt, Option, Some, None, append_assoc, arith}
use Rattle.std.proofs.lemmas.Bool.Decides.{nat_tests}
use Rattle.std.specs.Option.{option_map, option_or}
use Rattle.rl_value.specs.declared.value.Value.{Value}
use Rattle.redo_vec.specs.Forms.{are_keys, is_key_columns, rises}
use Rattle.redo_spec.specs.ConflictKeys.{cell_of}

pub cell_behind : (first second : List (ℕ × Value)) (column : ℕ) →
    cell_of (first ++ second) column ≡ option_or (cell_of first column) (cell_of second column)
cell_behind [] second column = refl
cell_behind (c ∷ cs) second column =
    elim (c.0 == column) as (λ b. cond b (Some c.1) (cell_of (cs ++ second) column) ≡
    option_or (cond b (Some c.1) (cell_of cs column)) (cell_of second column)) [
      | true ↦ refl
      | false ↦ cell_behind cs second column
    ]

-- the values so far, with those that are left
abbrev pub values_with : List Value → Option (List Value) → Option (List Value)
values_with front rest = option_map (λ values. front ++ values) rest

pub values_more : (front : List Value) (v : Value) (rest : Option (List Value)) →
    values_with (front ++ v ∷ []) rest ≡ values_with front (option_map (λ values. v ∷ values) rest)
values_more front v None = refl
values_more front v (Some values) = ap (λ (vs : List Value). Some vs) (simp append_assoc refl)

three : (a b c : Bool) → (a && b && c) ≡ true → b ≡ true
three true true c e = refl
three true false c e = absurd (cc)
three false b c e = absurd (cc)

-- a table has at most five keys
pub keys_few : (keys : List (List ℕ)) → are_keys keys ≡ true → length keys ≤ 5
keys_few keys e = let few = three (nat_le 1 (length keys)) (nat_le (length keys) 5) _ e in grind (arith, nat_tests, few)

both : (a b : Bool) → (a && b) ≡ true → (a ≡ true) × (b ≡ true)
both true true e = (refl, refl)
both true false e = absurd (cc)
both false b e = absurd (cc)

-- columns that rise below 32 are at most 32
rising_few : (from : ℕ) (columns : List ℕ) → from ≤ 32 → rises from columns ≡ true → from + length columns ≤ 32
rising_few from [] low e = omega (arith, low)
rising_few from (c ∷ cs) low e =
    let first = both (nat_le from c && nat_lt c 32) (rises (c + 1) cs) e in
    let parts = both (nat_le from c) (nat_lt c 32) first.0 in
    let above : from ≤ c = grind (arith, nat_tests, parts.0) in
    let below : c < 32 = grind (arith, nat_tests, parts.1) in
    let rest = rising_few (c + 1) cs (omega (arith, below)) first.1 in
    omega (arith, above, rest)

-- a key has 1 to 32 columns
pub columns_some : (columns : List ℕ) → is_key_columns columns ≡ true → 1 ≤ length columns
columns_some columns e = let some = (both (nat_le 1 (length columns)) (rises 0 columns) e).0 in grind (arith, nat_tests, some)

pub columns_few : (columns : List ℕ) → is_key_columns columns ≡ true → length columns ≤ 32
columns_few columns e = let rest = rising_few 0 columns (omega arith) (both _ (rises 0 columns) e).1 in omega (arith, rest)
