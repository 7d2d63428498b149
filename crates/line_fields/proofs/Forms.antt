-- What forms say of sizes.
use Rattle.std.proofs.Common.{◌≡◌, ℕ, ◌≤◌, List, [], ◌∷◌, length, true, refl, arith}
use Rattle.std.specs.Prelude.{nat_le}
use Rattle.std.proofs.lemmas.Bool.{and_parts, leb-true, le-leb}
use Rattle.redo_vec.specs.declared.columns.Column.{Column}
use Rattle.redo_vec.specs.Columns.{are_columns}
use Rattle.redo_vec.specs.Forms.{is_line30}
use Rattle.rl_value.specs.Text.{is_name, first_is_letter}

pub columns_few : (columns : List Column) → are_columns columns ≡ true → length columns ≤ 32
columns_few columns form =
    let p = and_parts _ _ form in
    let q = and_parts _ _ p.0 in
    leb-true _ _ q.1

some_byte : (bytes : List ℕ) → first_is_letter bytes ≡ true → 1 ≤ length bytes
some_byte [] e = absurd cc
some_byte (b ∷ bytes) e = omega arith

-- a name has 1 to 30 bytes
pub name_fits : (bytes : List ℕ) → is_name bytes ≡ true → is_line30 bytes ≡ true
name_fits bytes form =
    let p = and_parts _ _ form in
    let q = and_parts _ _ p.0 in
    let some : 1 ≤ length bytes = some_byte bytes q.0 in
    let low : nat_le 1 (length bytes) ≡ true = le-leb _ _ some in
    rw (low, q.1) refl
