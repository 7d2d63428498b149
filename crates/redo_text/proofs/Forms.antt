-- What forms say of sizes.
use Rattle.std.proofs.Common.{◌≡◌, ℕ, ◌+◌, ◌<◌, ◌≤◌, List, [], ◌∷◌, length, true, arith}
use Rattle.std.proofs.lemmas.Bool.{and_parts, leb-true, ltb-true}
use Rattle.rl_value.specs.declared.value.Value.{Value}
use Rattle.rl_value.specs.Text.{columns_rise, are_cells}
use Rattle.redo_vec.specs.Forms.{is_line30, are_keys}

pub keys_few : (keys : List (List ℕ)) → are_keys keys ≡ true → length keys ≤ 5
keys_few keys form =
    let p = and_parts _ _ form in
    let q = and_parts _ _ p.0 in
    leb-true _ _ q.1

pub word_few : (bytes : List ℕ) → is_line30 bytes ≡ true → length bytes ≤ 30
word_few bytes form = leb-true _ _ (and_parts _ _ form).1

cells_room : (from : ℕ) (cells : List (ℕ × Value)) → from ≤ 32 → columns_rise from cells ≡ true → from + length cells ≤ 32
cells_room from [] low form = omega arith
cells_room from ((column, value) ∷ cells) low form =
    let p = and_parts _ _ form in
    let q = and_parts _ _ p.0 in
    let above : from ≤ column = leb-true _ _ q.0 in
    let below : column < 32 = ltb-true _ _ q.1 in
    let more : column + 1 + length cells ≤ 32 = cells_room (column + 1) cells (omega arith) p.1 in
    omega arith

-- cells are of rising columns below 32
pub cells_few : (cells : List (ℕ × Value)) → are_cells cells ≡ true → length cells ≤ 32
cells_few cells form = let room : 0 + length cells ≤ 32 = cells_room 0 cells (omega arith) form in omega arith
