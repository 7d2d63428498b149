-- How many rows there are, in tables and after a write.
use Rattle.std.proofs.Common.{◌≡◌, ℕ, ◌+◌, ◌<◌, length, List, [], ◌∷◌, refl, ap, ◌∙◌, T, Bool, true, false, cond, Option, Some, None, is_some, arith}
use Rattle.std.proofs.lemmas.List.Sums.{sum_by-cons}
use Rattle.std.specs.FinMap.Entries as entries
use Rattle.rl_value.specs.declared.value.Value.{Value}
use Rattle.rl_value.specs.Order.{row_cmp, row_total}
use Rattle.redo_spec.specs.Tables.{Rows, Table, Tables, row_count}
use Rattle.redo_spec.specs.Work.{write_row}
use Rattle.table_store.specs.Leads.{count_of}

-- the rows of the first table, and of the others
pub rows_counted : (t : Table) (ts : Tables) → row_count (t ∷ ts) ≡ length t.rows + row_count ts
rows_counted t ts = sum_by-cons (λ (u : Table). length u.rows) t ts

one_or_none : (b : Bool) → cond b 1 0 ≡ count_of b
one_or_none true = refl
one_or_none false = refl

put_more : (b : Bool) (n : ℕ) → cond b n (n + 1) + count_of b ≡ n + 1
put_more true n = refl
put_more false n = omega arith

-- a row more, or one fewer, or as many
pub counted_write : (key : List Value) (slot : Option (List Value)) (rows : Rows) → T (entries.is_sorted row_cmp rows) →
    length (write_row rows key slot) + count_of (is_some (entries.find row_cmp key rows)) ≡ length rows + count_of (is_some slot)
counted_write key None rows h =
    let one = entries.length_without row_cmp row_total key rows h in
    let same = one_or_none (is_some (entries.find row_cmp key rows)) in
    omega (arith, one, same)
counted_write key (Some row) rows h =
    ap (λ n. n + count_of (is_some (entries.find row_cmp key rows))) (entries.length-put row_cmp row_total key row rows h) ∙
    put_more (is_some (entries.find row_cmp key rows)) (length rows)

-- where a row is found there is one
pub found_some : (key : List Value) (rows : Rows) → is_some (entries.find row_cmp key rows) ≡ true → 0 < length rows
found_some key [] e = absurd (cc)
found_some key (r ∷ rs) e = omega arith
