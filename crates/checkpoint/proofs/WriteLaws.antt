-- The write of a row, as it is made: step by step, and none where a step gives none.
use Rattle.std.proofs.Common.{◌≡◌, ℕ, ◌<◌, ◌≤◌, List, Bool, true, false, sym, ap, ◌∙◌, Option, Some, None, arith}
use Rattle.std.specs.Prelude.{nat_lt, if◌then◌else◌}
use Rattle.std.proofs.lemmas.Bool.Decides.{nat_tests}
use Rattle.rl_value.specs.declared.value.Value.{Value}
use Rattle.redo_vec.specs.declared.table.TableRow.{TableRow}
use Rattle.redo_spec.specs.Dictionary.{table_of}
use Rattle.redo_spec.specs.Fold.{live_row_limit}
use Rattle.redo_spec.specs.Tables.{Tables, definitions_of, row_count}
use Rattle.redo_spec.specs.Work.{rows_of}
use Rattle.row_apply.specs.declared.writes.Write.{Write}
use Rattle.standby_spec.specs.Loading.{when_true}
use Rattle.kept_layout.specs.Pairs.{row_of_bytes, place_of_key}
use Rattle.checkpoint.specs.RowWrites.{may_come, row_put, write_to, write_at, write_of_pair}

abbrev may_at : TableRow → Tables → List Value → List Value → ℕ → Bool
may_at t ts key row n = may_come t (rows_of ts n) key row

pub write_refused : (ts : Tables) (found : Option TableRow) (t : TableRow) (id : ℕ) (key row : List Value) → found ≡ Some t →
    t.id ≡ id → may_come t (rows_of ts t.id) key row ≡ false → None ≡ write_to found ts id key row
write_refused ts found t id key row defined at wrong =
    sym (ap (λ o. write_to o ts id key row) defined
    ∙ ap (λ b. when_true b (row_put id key row)) (ap (may_at t ts key row) (sym at) ∙ wrong))

pub write_made : (ts : Tables) (found : Option TableRow) (t : TableRow) (id : ℕ) (key row : List Value) → found ≡ Some t →
    t.id ≡ id → may_come t (rows_of ts t.id) key row ≡ true → Some (row_put id key row) ≡ write_to found ts id key row
write_made ts found t id key row defined at may =
    sym (ap (λ o. write_to o ts id key row) defined
    ∙ ap (λ b. when_true b (row_put id key row)) (ap (may_at t ts key row) (sym at) ∙ may))

pub write_missing : (ts : Tables) (found : Option TableRow) (id : ℕ) (key row : List Value) → found ≡ None →
    None ≡ write_to found ts id key row
write_missing ts found id key row none = sym (ap (λ o. write_to o ts id key row) none)

abbrev write_room : Bool → Tables → List ℕ → List ℕ → Option Write
write_room b ts key value = if b then write_at ts (place_of_key key) (row_of_bytes value) else None

pub write_full : (ts : Tables) (key value : List ℕ) → live_row_limit ≤ row_count ts → None ≡ write_of_pair ts (key, value)
write_full ts key value full =
    let wrong : nat_lt (row_count ts) live_row_limit ≡ false = grind (arith, nat_tests) in
    sym (ap (λ b. write_room b ts key value) wrong)

write_open : (ts : Tables) (key value : List ℕ) → row_count ts < live_row_limit →
    write_of_pair ts (key, value) ≡ write_at ts (place_of_key key) (row_of_bytes value)
write_open ts key value room =
    let right : nat_lt (row_count ts) live_row_limit ≡ true = grind (arith, nat_tests) in
    ap (λ b. write_room b ts key value) right

pub no_place : (ts : Tables) (key value : List ℕ) → row_count ts < live_row_limit → None ≡ place_of_key key →
    None ≡ write_of_pair ts (key, value)
no_place ts key value room none =
    ap (λ o. write_at ts o (row_of_bytes value)) none ∙ sym (write_open ts key value room)

pub no_row : (ts : Tables) (key value : List ℕ) (place : ℕ × List Value) → row_count ts < live_row_limit →
    Some place ≡ place_of_key key → None ≡ row_of_bytes value → None ≡ write_of_pair ts (key, value)
no_row ts key value place room at none =
    ap (write_at ts (Some place)) none
    ∙ ap (λ o. write_at ts o (row_of_bytes value)) at
    ∙ sym (write_open ts key value room)

pub a_row : (ts : Tables) (key value : List ℕ) (place : ℕ × List Value) (row : List Value) → row_count ts < live_row_limit →
    Some place ≡ place_of_key key → Some row ≡ row_of_bytes value →
    write_to (table_of (definitions_of ts) place.0) ts place.0 place.1 row ≡ write_of_pair ts (key, value)
a_row ts key value place row room at is =
    ap (write_at ts (Some place)) is
    ∙ ap (λ o. write_at ts o (row_of_bytes value)) at
    ∙ sym (write_open ts key value room)
