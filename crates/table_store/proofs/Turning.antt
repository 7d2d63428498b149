-- Writes and tables that rise by their ids are walked together: each table takes the first of the writes that are left.
use Rattle.std.proofs.Common.{◌≡◌, ℕ, suc, ◌+◌, ◌-◌, ◌<◌, ◌≤◌, length, List, [], ◌∷◌, map, take, refl, ap, ◌∙◌, Bool, true, false, cond, ◌&&◌, ◌||◌, ◌==◌, nat_le, nat_lt, arith}
use Rattle.std.proofs.lemmas.Bool.Decides.{nat_tests}
use Rattle.std.specs.declared.cmp.Ordering.{Ordering}
use Rattle.std.specs.declared.cmp.Ordering.TheVariants.{Less, Equal, Greater}
use Rattle.std.specs.List.{list_any}
use Rattle.std.specs.Ordering.{nat_cmp, ordering_then, is_lt}
use Rattle.rl_value.specs.declared.key.Key.{Key}
use Rattle.rl_value.specs.Order.{keys_rise, is_below_first}
use Rattle.redo_vec.specs.declared.table.TableRow.{TableRow}
use Rattle.redo_spec.specs.Dictionary.{ids_rise}
use Rattle.redo_spec.specs.Tables.{Rows, Tables, definitions_of}
use Rattle.redo_spec.specs.Work.{write_row}
use Rattle.row_apply.specs.declared.writes.Write.{Write}
use Rattle.row_apply.specs.Overlaid.{written_key, writes_rise, rows_after, overlaid}
use Rattle.table_store.specs.Shared.{writes_up_to, writes_past, overlaid_in_turn}
use Rattle.table_store.proofs.Writing.{rise_on, rows_stay}

both : (a b : Bool) → (a && b) ≡ true → (a ≡ true) × (b ≡ true)
both true true e = (refl, refl)
both true false e = absurd (cc)
both false b e = absurd (cc)

-- ---- writes that rise have rising tables

not_after : (x y : ℕ) (rest : Ordering) → is_lt (ordering_then (nat_cmp x y) rest) ≡ true → x ≤ y
not_after x y rest =
    elim (nat_lt x y) as (λ b. nat_lt x y ≡ b →
    is_lt (ordering_then (cond b Less (cond (x == y) Equal Greater)) rest) ≡ true → x ≤ y) [
      | true ↦ λ e h. grind (arith, nat_tests, e)
      | false ↦ λ e. elim (x == y) as (λ b. (x == y) ≡ b →
          is_lt (ordering_then (cond b Equal Greater) rest) ≡ true → x ≤ y) [
            | true ↦ λ f h. grind (arith, nat_tests, f)
            | false ↦ λ f h. absurd (cc)
          ] refl
    ] refl

rise_first : (w v : Write) (ws : List Write) → writes_rise (w ∷ v ∷ ws) ≡ true → w.table ≤ v.table
rise_first w v ws rise =
    let first = (both (is_below_first (written_key w) (map written_key (v ∷ ws))) (keys_rise (map written_key (v ∷ ws))) rise).0
    in
    not_after w.table v.table _ first

-- behind a write of a table above this id no write is of it
none_of : (id : ℕ) (w : Write) (ws : List Write) → writes_rise (w ∷ ws) ≡ true → id < w.table →
    list_any (λ (v : Write). v.table == id) (w ∷ ws) ≡ false
none_of id w [] rise above =
    let other : (w.table == id) ≡ false = grind (arith, nat_tests, above) in
    ap (λ b. b || false) other
none_of id w (v ∷ vs) rise above =
    let other : (w.table == id) ≡ false = grind (arith, nat_tests, above) in
    let next = rise_first w v vs rise in
    ap (λ b. b || list_any (λ (x : Write). x.table == id) (v ∷ vs)) other ∙
    none_of id v vs (rise_on w (v ∷ vs) rise) (omega (arith, next, above))

-- ---- the first of the writes, and the others

above_of : (m n : ℕ) → nat_le m n ≡ false → n < m
above_of m n e = grind (arith, nat_tests)

within_of : (m n : ℕ) → nat_le m n ≡ true → m ≤ n
within_of m n e = grind (arith, nat_tests)

pub past_rise : (id : ℕ) (ws : List Write) → writes_rise ws ≡ true → writes_rise (writes_past id ws) ≡ true
past_rise id [] rise = refl
past_rise id (w ∷ ws) rise =
    elim (nat_le w.table id) as (λ b. writes_rise (cond b (writes_past id ws) (w ∷ ws)) ≡ true) [
      | true ↦ past_rise id ws (rise_on w ws rise)
      | false ↦ rise
    ]

both_true : (a b : Bool) → a ≡ true → b ≡ true → (a && b) ≡ true
both_true true b p q = q
both_true false b p q = absurd (cc)

below_up_to : (id : ℕ) (k : Key) (ws : List Write) → is_below_first k (map written_key ws) ≡ true →
    is_below_first k (map written_key (writes_up_to id ws)) ≡ true
below_up_to id k [] below = refl
below_up_to id k (w ∷ ws) below =
    elim (nat_le w.table id) as (λ b. is_below_first k (map written_key (cond b (w ∷ writes_up_to id ws) [])) ≡ true) [
      | true ↦ below
      | false ↦ refl
    ]

pub up_to_rise : (id : ℕ) (ws : List Write) → writes_rise ws ≡ true → writes_rise (writes_up_to id ws) ≡ true
up_to_rise id [] rise = refl
up_to_rise id (w ∷ ws) rise =
    let first = (both (is_below_first (written_key w) (map written_key ws)) (keys_rise (map written_key ws)) rise).0 in
    elim (nat_le w.table id) as (λ b. writes_rise (cond b (w ∷ writes_up_to id ws) []) ≡ true) [
      | true ↦ both_true (is_below_first (written_key w) (map written_key (writes_up_to id ws)))
          (keys_rise (map written_key (writes_up_to id ws))) (below_up_to id (written_key w) ws first)
          (up_to_rise id ws (rise_on w ws rise))
      | false ↦ refl
    ]

past_length : (id : ℕ) (ws : List Write) → length (writes_past id ws) ≤ length ws
past_length id [] = omega arith
past_length id (w ∷ ws) =
    elim (nat_le w.table id) as (λ b. length (cond b (writes_past id ws) (w ∷ ws)) ≤ length (w ∷ ws)) [
      | true ↦ let more = past_length id ws in omega (arith, more)
      | false ↦ omega arith
    ]

-- the first ones are those that the others leave
pub up_to_taken : (id : ℕ) (ws : List Write) → take (length ws - length (writes_past id ws)) ws ≡ writes_up_to id ws
up_to_taken id [] = refl
up_to_taken id (w ∷ ws) =
    let few = past_length id ws in
    elim (nat_le w.table id) as (λ b. take (length (w ∷ ws) - length (cond b (writes_past id ws) (w ∷ ws))) (w ∷ ws) ≡
    cond b (w ∷ writes_up_to id ws) []) [
      | true ↦
          let count : length (w ∷ ws) - length (writes_past id ws) ≡ suc (length ws - length (writes_past id ws)) =
          omega (arith, few) in
          ap (λ n. take n (w ∷ ws)) count ∙ ap (λ vs. w ∷ vs) (up_to_taken id ws)
      | false ↦
          let count : length (w ∷ ws) - length (w ∷ ws) ≡ 0 = omega arith in
          ap (λ n. take n (w ∷ ws)) count
    ]

-- ---- a table takes the first ones, and the tables behind it the others

own_rows : (id : ℕ) (ws : List Write) (rows : Rows) → writes_rise ws ≡ true →
    rows_after id ws rows ≡ rows_after id (writes_up_to id ws) rows
own_rows id [] rows rise = refl
own_rows id (w ∷ ws) rows rise =
    elim (nat_le w.table id) as (λ b. nat_le w.table id ≡ b →
    rows_after id (w ∷ ws) rows ≡ rows_after id (cond b (w ∷ writes_up_to id ws) []) rows) [
      | true ↦ λ e. own_rows id ws (cond (w.table == id) (write_row rows w.key w.row) rows) (rise_on w ws rise)
      | false ↦ λ e. rows_stay id (w ∷ ws) rows (none_of id w ws rise (above_of w.table id e))
    ] refl

other_rows : (id other : ℕ) (ws : List Write) (rows : Rows) → id < other →
    rows_after other ws rows ≡ rows_after other (writes_past id ws) rows
other_rows id other [] rows above = refl
other_rows id other (w ∷ ws) rows above =
    elim (nat_le w.table id) as (λ b. nat_le w.table id ≡ b →
    rows_after other (w ∷ ws) rows ≡ rows_after other (cond b (writes_past id ws) (w ∷ ws)) rows) [
      | true ↦ λ e.
          let low = within_of w.table id e in
          let apart : (w.table == other) ≡ false = grind (arith, nat_tests, low, above) in
          ap (λ b. rows_after other ws (cond b (write_row rows w.key w.row) rows)) apart ∙ other_rows id other ws rows above
      | false ↦ λ e. refl
    ] refl

-- ids that rise from one on rise from a lower one on
lower_start : (low high : ℕ) (definitions : List TableRow) → low ≤ high → ids_rise high definitions ≡ true →
    ids_rise low definitions ≡ true
lower_start low high [] order rise = refl
lower_start low high (d ∷ ds) order rise =
    let parts = both (nat_le high d.id) (ids_rise (d.id + 1) ds) rise in
    let reach = within_of high d.id parts.0 in
    let there : nat_le low d.id ≡ true = grind (arith, nat_tests, reach, order) in
    both_true (nat_le low d.id) (ids_rise (d.id + 1) ds) there parts.1

other_tables : (id : ℕ) (ts : Tables) (ws : List Write) → ids_rise (id + 1) (definitions_of ts) ≡ true →
    overlaid ts ws ≡ overlaid ts (writes_past id ws)
other_tables id [] ws rise = refl
other_tables id (t ∷ ts) ws rise =
    let parts = both (nat_le (id + 1) t.row.id) (ids_rise (t.row.id + 1) (definitions_of ts)) rise in
    let reach = within_of (id + 1) t.row.id parts.0 in
    let own = other_rows id t.row.id ws t.rows (omega (arith, reach)) in
    let others = other_tables id ts ws (lower_start (id + 1) (t.row.id + 1) (definitions_of ts) (omega (arith, reach)) parts.1) in
    λ i. record { row = t.row; rows = own i } ∷ others i

-- walked together, writes and tables give the tables with the written rows
pub in_turn_from : (low : ℕ) (ts : Tables) (ws : List Write) → ids_rise low (definitions_of ts) ≡ true → writes_rise ws ≡ true →
    overlaid ts ws ≡ overlaid_in_turn ts ws
in_turn_from low [] ws ids rise = refl
in_turn_from low (t ∷ ts) ws ids rise =
    let parts = both (nat_le low t.row.id) (ids_rise (t.row.id + 1) (definitions_of ts)) ids in
    let own = own_rows t.row.id ws t.rows rise in
    let others = other_tables t.row.id ts ws parts.1 ∙
    in_turn_from (t.row.id + 1) ts (writes_past t.row.id ws) parts.1 (past_rise t.row.id ws rise) in
    λ i. record { row = t.row; rows = own i } ∷ others i

pub in_turn : (ts : Tables) (ws : List Write) → ids_rise 0 (definitions_of ts) ≡ true → writes_rise ws ≡ true →
    overlaid ts ws ≡ overlaid_in_turn ts ws
in_turn ts ws ids rise = in_turn_from 0 ts ws ids rise
