-- How many rows there are behind writes.
use Rattle.std.proofs.Common.{◌≡◌, ℕ, ◌+◌, ◌*◌, ◌≤◌, length, List, [], ◌∷◌, refl, ap, ◌∙◌, T, Bool, true, false, cond, not, ◌&&◌, ◌==◌, arith, Option, is_some, nat_le}
use Rattle.std.proofs.lemmas.Bool.Decides.{nat_tests}
use Rattle.std.specs.FinMap.Entries as entries
use Rattle.std.specs.List.{list_any}
use Rattle.std.specs.Ordering.{eq_by_cmp}
use Rattle.rl_value.specs.declared.value.Value.{Value}
use Rattle.rl_value.specs.Order.{row_cmp}
use Rattle.redo_spec.specs.Fold.{live_row_limit}
use Rattle.redo_spec.specs.Tables.{Rows, Tables, row_count}
use Rattle.redo_spec.specs.Work.{write_row}
use Rattle.row_apply.specs.declared.writes.Write.{Write}
use Rattle.row_apply.specs.Overlaid.{overlaid, table_after, rows_after, writes_rise}
use Rattle.row_apply.specs.Soundness.{AreSound}
use Rattle.row_apply.proofs.Orders.{row_turned}
use Rattle.row_apply.proofs.Slots.{find_write, sorted_write, to_T}
use Rattle.table_store.specs.Counts.{added_in, removed_in}
use Rattle.table_store.specs.Leads.{count_of, keys_in}
use Rattle.table_store.specs.Shared.{tables_in}
use Rattle.table_store.specs.declared.shared_table.SharedTable.{SharedTable}
use Rattle.table_store.proofs.Counting.{rows_counted, counted_write}
use Rattle.table_store.proofs.Writing.{rise_on, not_again, neither}

-- ---- a bound without a look

at_most_one : (b : Bool) → count_of b ≤ 1
at_most_one true = omega arith
at_most_one false = omega arith

length_bound : (id : ℕ) (ws : List Write) (rows : Rows) → T (entries.is_sorted row_cmp rows) →
    length (rows_after id ws rows) ≤ length rows + length ws
length_bound id [] rows sorted = omega arith
length_bound id (w ∷ ws) rows sorted =
    elim (w.table == id) as (λ b. length (rows_after id ws (cond b (write_row rows w.key w.row) rows)) ≤ length rows + length
    (w ∷ ws)) [
      | true ↦
          let more = length_bound id ws (write_row rows w.key w.row) (sorted_write w.key w.row rows sorted) in
          let one = counted_write w.key w.row rows sorted in
          let few = at_most_one (is_some w.row) in
          omega (arith, more, one, few)
      | false ↦ let more = length_bound id ws rows sorted in omega (arith, more)
    ]

more_of : (n w : ℕ) → (n + 1) * w ≡ w + n * w
more_of n w = omega arith

-- each table has at most one row more for each write
pub count_bound : (ts : Tables) (ws : List Write) → AreSound ts →
    row_count (overlaid ts ws) ≤ row_count ts + length ts * length ws
count_bound [] ws sound = omega arith
count_bound (t ∷ ts) ws sound =
    let own = length_bound t.row.id ws t.rows (to_T (entries.is_sorted row_cmp t.rows) sound.0.rising) in
    let others = count_bound ts ws sound.1 in
    let now = rows_counted (table_after ws t) (overlaid ts ws) in
    let was = rows_counted t ts in
    let size : length (t ∷ ts) ≡ length ts + 1 = omega arith in
    let product : length (t ∷ ts) * length ws ≡ length ws + length ts * length ws = ap (λ n. n * length ws) size ∙
    more_of (length ts) (length ws) in
    omega (arith, own, others, now, was, product)

-- ---- exactly, by a look at the rows before the writes

-- another row's look is the same after a write
same_look : (key q : List Value) (slot : Option (List Value)) (rows : Rows) → eq_by_cmp row_cmp q key ≡ false →
    entries.find row_cmp q (write_row rows key slot) ≡ entries.find row_cmp q rows
same_look key q slot rows other = find_write q key slot rows ∙ ap (λ b. cond b slot (entries.find row_cmp q rows)) other

added_on : (id : ℕ) (ws : List Write) (key : List Value) (slot : Option (List Value)) (rows : Rows) →
    list_any (eq_by_cmp row_cmp key) (keys_in id ws) ≡ false →
    added_in id ws (write_row rows key slot) ≡ added_in id ws rows
added_on id [] key slot rows free = refl
added_on id (w ∷ ws) key slot rows free =
    elim (w.table == id) as (λ b. list_any (eq_by_cmp row_cmp key) (cond b (w.key ∷ keys_in id ws) (keys_in id ws)) ≡ false →
    count_of (b && (is_some w.row && not (is_some (entries.find row_cmp w.key (write_row rows key slot))))) +
    added_in id ws (write_row rows key slot) ≡
    count_of (b && (is_some w.row && not (is_some (entries.find row_cmp w.key rows)))) + added_in id ws rows) [
      | true ↦ λ h.
          let p = neither (eq_by_cmp row_cmp key w.key) (list_any (eq_by_cmp row_cmp key) (keys_in id ws)) h in
          let look = same_look key w.key slot rows (row_turned w.key key ∙ p.0) in
          let later = added_on id ws key slot rows p.1 in
          λ i. count_of (is_some w.row && not (is_some (look i))) + later i
      | false ↦ λ h. ap (λ n. 0 + n) (added_on id ws key slot rows h)
    ] free

removed_on : (id : ℕ) (ws : List Write) (key : List Value) (slot : Option (List Value)) (rows : Rows) →
    list_any (eq_by_cmp row_cmp key) (keys_in id ws) ≡ false →
    removed_in id ws (write_row rows key slot) ≡ removed_in id ws rows
removed_on id [] key slot rows free = refl
removed_on id (w ∷ ws) key slot rows free =
    elim (w.table == id) as (λ b. list_any (eq_by_cmp row_cmp key) (cond b (w.key ∷ keys_in id ws) (keys_in id ws)) ≡ false →
    count_of (b && (not (is_some w.row) && is_some (entries.find row_cmp w.key (write_row rows key slot)))) +
    removed_in id ws (write_row rows key slot) ≡
    count_of (b && (not (is_some w.row) && is_some (entries.find row_cmp w.key rows))) + removed_in id ws rows) [
      | true ↦ λ h.
          let p = neither (eq_by_cmp row_cmp key w.key) (list_any (eq_by_cmp row_cmp key) (keys_in id ws)) h in
          let look = same_look key w.key slot rows (row_turned w.key key ∙ p.0) in
          let later = removed_on id ws key slot rows p.1 in
          λ i. count_of (not (is_some w.row) && is_some (look i)) + later i
      | false ↦ λ h. ap (λ n. 0 + n) (removed_on id ws key slot rows h)
    ] free

one_write : (was is : Bool) (m n : ℕ) → m + count_of was ≡ n + count_of is →
    m + count_of (not is && was) ≡ n + count_of (is && not was)
one_write true true m n e = omega (arith, e)
one_write true false m n e = omega (arith, e)
one_write false true m n e = omega (arith, e)
one_write false false m n e = omega (arith, e)

pub counted_exactly : (id : ℕ) (ws : List Write) (rows : Rows) → T (entries.is_sorted row_cmp rows) → writes_rise ws ≡ true →
    length (rows_after id ws rows) + removed_in id ws rows ≡ length rows + added_in id ws rows
counted_exactly id [] rows sorted rise = refl
counted_exactly id (w ∷ ws) rows sorted rise =
    elim (w.table == id) as (λ b. (w.table == id) ≡ b →
    length (rows_after id ws (cond b (write_row rows w.key w.row) rows)) +
    (count_of (b && (not (is_some w.row) && is_some (entries.find row_cmp w.key rows))) + removed_in id ws rows) ≡
    length rows + (count_of (b && (is_some w.row && not (is_some (entries.find row_cmp w.key rows)))) + added_in id ws rows)) [
      | true ↦ λ of.
          let again = not_again id w ws of rise in
          let more = counted_exactly id ws (write_row rows w.key w.row) (sorted_write w.key w.row rows sorted) (rise_on w ws rise)
          in
          let one = one_write (is_some (entries.find row_cmp w.key rows)) (is_some w.row) (length (write_row rows w.key w.row))
          (length rows) (counted_write w.key w.row rows sorted) in
          let added = added_on id ws w.key w.row rows again in
          let removed = removed_on id ws w.key w.row rows again in
          omega (arith, more, one, added, removed)
      | false ↦ λ of. let more = counted_exactly id ws rows sorted (rise_on w ws rise) in omega (arith, more)
    ] refl

pub counted_so : (id : ℕ) (ws : List Write) (rows : Rows) → entries.is_sorted row_cmp rows ≡ true → writes_rise ws ≡ true →
    length (rows_after id ws rows) + removed_in id ws rows ≡ length rows + added_in id ws rows
counted_so id ws rows sorted rise = counted_exactly id ws rows (to_T (entries.is_sorted row_cmp rows) sorted) rise

tables_many : (ss : List SharedTable) → length (tables_in ss) ≡ length ss
tables_many [] = refl
tables_many (s ∷ ss) = let more = tables_many ss in omega (arith, more)

not_above : (m n : ℕ) → m ≤ n → true ≡ nat_le m n
not_above m n e = grind (arith, nat_tests)

-- where there is room for one row more in each table for each write, there are not too many
pub room_fits : (ss : List SharedTable) (ws : List Write) (count : ℕ) → AreSound (tables_in ss) →
    count ≡ row_count (tables_in ss) → count + length ss * length ws ≤ live_row_limit →
    true ≡ nat_le (row_count (overlaid (tables_in ss) ws)) live_row_limit
room_fits ss ws count sound counted room =
    let most = count_bound (tables_in ss) ws sound in
    let product : length (tables_in ss) * length ws ≡ length ss * length ws = ap (λ n. n * length ws) (tables_many ss) in
    not_above (row_count (overlaid (tables_in ss) ws)) live_row_limit (omega (arith, most, product, counted, room))
