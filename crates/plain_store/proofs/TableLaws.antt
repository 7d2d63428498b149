-- Tables that a dictionary makes of rows: what is found in them, and what writes make of them.
use Rattle.std.proofs.Common.{◌≡◌, ℕ, ◌+◌, length, ◌==◌, List, [], ◌∷◌, refl, sym, ap, ◌∙◌, Bool, true, false, cond, not, Option, Some, None, is_some, unwrap_or, arith}
use Rattle.std.specs.FinMap.Entries as entries
use Rattle.std.specs.Option.{IsSome}
use Rattle.std.specs.Ordering.{nat_cmp, eq_by_cmp}
use Rattle.std.specs.BTreeMap.{is_at, insert_entry}
use Rattle.std.specs.Map.{lookup, set_value}
use Rattle.std.specs.Cmp.{nat_cmp_total, eq_by_cmp_equiv}
use Rattle.std.proofs.lemmas.Bool.Decides.{nat_tests}
use Rattle.std.proofs.lemmas.Map.{lookup-set_value}
use Rattle.std.proofs.lemmas.List.Sums.{sum_by-cons}
use Rattle.rl_value.specs.declared.value.Value.{Value}
use Rattle.rl_value.specs.declared.key.Key.{Key}
use Rattle.rl_value.specs.Order.{row_cmp}
use Rattle.redo_vec.specs.declared.table.TableRow.{TableRow}
use Rattle.redo_spec.specs.Dictionary.{table_of}
use Rattle.redo_spec.specs.Tables.{Rows, RowsById, Table, rows_by, assembled, definitions_of, owner_in, row_count}
use Rattle.row_apply.specs.declared.writes.Write.{Write}
use Rattle.redo_spec.specs.Work.{rows_of, row_at, write_row}
use Rattle.row_apply.specs.Found.{key_columns, owner_of}
use Rattle.row_apply.specs.Overlaid.{rows_after, overlaid}
use Rattle.plain_store.specs.ById.{table_in, with_row, put_beside, without_row, take_from, rows_after_write, rows_after_writes}
use Rattle.plain_store.proofs.MapLemmas.{rows_by_is, find_is_lookup, put_is_insert}

-- the tables are those of the dictionary
pub definitions_assembled : (ts : List TableRow) (by : RowsById) → definitions_of (assembled ts by) ≡ ts
definitions_assembled [] by = refl
definitions_assembled (t ∷ ts) by = ap (λ us. t ∷ us) (definitions_assembled ts by)

pub equal_numbers : (a b : ℕ) → (a == b) ≡ true → a ≡ b
equal_numbers a b e = grind (arith, nat_tests)

found_case : (b : Bool) (t : TableRow) (o : Option TableRow) (rest : Rows) (by : RowsById) (id : ℕ) → (b ≡ true → t.id ≡ id) →
    is_some (cond b (Some t) o) ≡ true → (is_some o ≡ true → rest ≡ rows_by by id) →
    cond b (rows_by by t.id) rest ≡ rows_by by id
found_case true t o rest by id same there later = ap (rows_by by) (same refl)
found_case false t o rest by id same there later = later there

-- the rows of a table that is there
pub rows_of_assembled : (ts : List TableRow) (by : RowsById) (id : ℕ) → IsSome (table_of ts id) →
    rows_of (assembled ts by) id ≡ rows_by by id
rows_of_assembled [] by id there = absurd (cc)
rows_of_assembled (t ∷ ts) by id there =
    found_case (t.id == id) t (table_of ts id) (rows_of (assembled ts by) id) by id (equal_numbers t.id id) there
    (rows_of_assembled ts by id)

pub row_at_assembled : (ts : List TableRow) (by : RowsById) (key : Key) → IsSome (table_of ts key.table) →
    row_at (assembled ts by) key ≡ entries.find row_cmp key.values (rows_by by key.table)
row_at_assembled ts by key there = ap (λ rows. entries.find row_cmp key.values rows) (rows_of_assembled ts by key.table there)

owner_case : (b : Bool) (t u : TableRow) (o : Option TableRow) (rest : Option (List Value)) (by : RowsById) (key : Key) →
    (b ≡ true → t.id ≡ key.table) → cond b (Some t) o ≡ Some u →
    (o ≡ Some u → rest ≡ owner_in (rows_by by key.table) (key_columns u key.index) key.values) →
    cond b (owner_in (rows_by by t.id) (key_columns t key.index) key.values) rest ≡
    owner_in (rows_by by key.table) (key_columns u key.index) key.values
owner_case true t u o rest by key same is later =
    let one : t ≡ u = cc in
    ap (λ id. owner_in (rows_by by id) (key_columns t key.index) key.values) (same refl) ∙
    ap (λ v. owner_in (rows_by by key.table) (key_columns v key.index) key.values) one
owner_case false t u o rest by key same is later = later is

-- the owner of a unique value of a table that is there
pub owner_of_assembled : (ts : List TableRow) (by : RowsById) (key : Key) (u : TableRow) → table_of ts key.table ≡ Some u →
    owner_of (assembled ts by) key ≡ owner_in (rows_by by key.table) (key_columns u key.index) key.values
owner_of_assembled [] by key u is = absurd (cc)
owner_of_assembled (t ∷ ts) by key u is =
    owner_case (t.id == key.table) t u (table_of ts key.table) (owner_of (assembled ts by) key) by key
    (equal_numbers t.id key.table) is (owner_of_assembled ts by key u)

no_owner : (b : Bool) (t : TableRow) (o : Option TableRow) (x rest : Option (List Value)) → cond b (Some t) o ≡ None →
    (o ≡ None → rest ≡ None) → cond b x rest ≡ None
no_owner true t o x rest is later = absurd (cc)
no_owner false t o x rest is later = later is

pub owner_of_none : (ts : List TableRow) (by : RowsById) (key : Key) → table_of ts key.table ≡ None →
    owner_of (assembled ts by) key ≡ None
owner_of_none [] by key is = refl
owner_of_none (t ∷ ts) by key is = no_owner (t.id == key.table) t (table_of ts key.table) _ _ is (owner_of_none ts by key)

-- ---- writes

one_key : (id a b : ℕ) → is_at (nat_cmp id) a ≡ true → is_at (nat_cmp id) b ≡ eq_by_cmp nat_cmp a b
one_key id a b e = (eq_by_cmp_equiv nat_cmp_total).congr id a b e

flip : (id q : ℕ) → is_at (nat_cmp id) q ≡ (id == q)
flip id q = grind (arith, nat_tests)

flop : (id q : ℕ) → eq_by_cmp nat_cmp q id ≡ (id == q)
flop id q = grind (arith, nat_tests)

chosen : (b : Bool) (rows : Rows) (o : Option Rows) → unwrap_or (cond b (Some rows) o) [] ≡ cond b rows (unwrap_or o [])
chosen true rows o = refl
chosen false rows o = refl

-- the rows by id where those of one table are set
set_rows : (by : RowsById) (id : ℕ) (rows was : Rows) → table_in by id ≡ Some was → (q : ℕ) →
    rows_by (set_value (is_at (nat_cmp id)) by rows) q ≡ cond (id == q) rows (rows_by by q)
set_rows by id rows was is q =
    rows_by_is (set_value (is_at (nat_cmp id)) by rows) q
    ∙ ap (λ o. unwrap_or o []) (lookup-set_value (eq_by_cmp_equiv nat_cmp_total) (is_at (nat_cmp id)) (one_key id) q rows by
    (ap is_some is))
    ∙ chosen (is_at (nat_cmp id) q) rows (lookup (is_at (nat_cmp q)) by)
    ∙ ap (λ b. cond b rows (unwrap_or (lookup (is_at (nat_cmp q)) by) [])) (flip id q)
    ∙ ap (λ o. cond (id == q) rows o) (sym (rows_by_is by q))

insert_rows : (by : RowsById) (id : ℕ) (rows : Rows) (q : ℕ) →
    rows_by (insert_entry nat_cmp by id rows) q ≡ cond (id == q) rows (rows_by by q)
insert_rows by id rows q =
    rows_by_is (insert_entry nat_cmp by id rows) q
    ∙ ap (λ o. unwrap_or o []) (ap (λ es. lookup (is_at (nat_cmp q)) es) (put_is_insert nat_cmp id rows by) ∙
    find_is_lookup nat_cmp q (entries.put nat_cmp id rows by)
    ∙ entries.find-put nat_cmp nat_cmp_total q id rows by ∙
    ap (λ o. cond (eq_by_cmp nat_cmp q id) (Some rows) o) (sym (find_is_lookup nat_cmp q by)))
    ∙ chosen (eq_by_cmp nat_cmp q id) rows (lookup (is_at (nat_cmp q)) by)
    ∙ ap (λ b. cond b rows (unwrap_or (lookup (is_at (nat_cmp q)) by) [])) (flop id q)
    ∙ ap (λ o. cond (id == q) rows o) (sym (rows_by_is by q))

-- the rows of each table after a row is put
pub rows_with : (by : RowsById) (id : ℕ) (key row : List Value) (q : ℕ) →
    rows_by (with_row by id key row) q ≡ cond (id == q) (entries.put row_cmp key row (rows_by by id)) (rows_by by q)
rows_with by id key row q = go (table_in by id) refl
  where
    go : (o : Option Rows) → table_in by id ≡ o → rows_by (put_beside by id key row o) q ≡
        cond (id == q) (entries.put row_cmp key row (rows_by by id)) (rows_by by q)
    go None e =
        insert_rows by id ((key, row) ∷ []) q
        ∙ ap (λ rows. cond (id == q) (entries.put row_cmp key row rows) (rows_by by q))
        (sym (rows_by_is by id ∙ ap (λ o. unwrap_or o []) e))
    go (Some rows) e =
        set_rows by id (entries.put row_cmp key row rows) rows e q
        ∙ ap (λ rs. cond (id == q) (entries.put row_cmp key row rs) (rows_by by q))
        (sym (rows_by_is by id ∙ ap (λ o. unwrap_or o []) e))

-- and after one is taken away
pub rows_without : (by : RowsById) (id : ℕ) (key : List Value) (q : ℕ) →
    rows_by (without_row by id key) q ≡ cond (id == q) (entries.where_key row_cmp (λ k. not (eq_by_cmp row_cmp key k))
    (rows_by by id)) (rows_by by q)
rows_without by id key q = go (table_in by id) refl
  where
    left : Rows → Rows
    left rows = entries.where_key row_cmp (λ k. not (eq_by_cmp row_cmp key k)) rows

    nothing : (b : Bool) → b ≡ (id == q) → table_in by id ≡ None → rows_by by q ≡ cond b [] (rows_by by q)
    nothing true is e = ap (rows_by by) (sym (equal_numbers id q (sym is))) ∙ rows_by_is by id ∙ ap (λ o. unwrap_or o []) e
    nothing false is e = refl

    go : (o : Option Rows) → table_in by id ≡ o → rows_by (take_from by id key o) q ≡
        cond (id == q) (entries.where_key row_cmp (λ k. not (eq_by_cmp row_cmp key k)) (rows_by by id)) (rows_by by q)
    go None e =
        nothing (id == q) refl e
        ∙ ap (λ rows. cond (id == q) (entries.where_key row_cmp (λ k. not (eq_by_cmp row_cmp key k)) rows) (rows_by by q))
        (sym (rows_by_is by id ∙ ap (λ o. unwrap_or o []) e))
    go (Some rows) e =
        set_rows by id (entries.where_key row_cmp (λ k. not (eq_by_cmp row_cmp key k)) rows) rows e q
        ∙ ap (λ rs. cond (id == q) (entries.where_key row_cmp (λ k. not (eq_by_cmp row_cmp key k)) rs) (rows_by by q))
        (sym (rows_by_is by id ∙ ap (λ o. unwrap_or o []) e))

-- the rows of each table after a write
pub rows_written : (by : RowsById) (w : Write) (q : ℕ) →
    rows_by (rows_after_write by w w.row) q ≡ cond (w.table == q) (write_row (rows_by by q) w.key w.row) (rows_by by q)
rows_written by w q = go w.row
  where
    here : (b : Bool) → b ≡ (w.table == q) → (f : Rows → Rows) →
        cond b (f (rows_by by w.table)) (rows_by by q) ≡ cond b (f (rows_by by q)) (rows_by by q)
    here true is f = ap (λ id. f (rows_by by id)) (equal_numbers w.table q (sym is))
    here false is f = refl

    go : (o : Option (List Value)) → rows_by (rows_after_write by w o) q ≡
        cond (w.table == q) (write_row (rows_by by q) w.key o) (rows_by by q)
    go None = rows_without by w.table w.key q ∙ here (w.table == q) refl
        (λ rows. entries.where_key row_cmp (λ k. not (eq_by_cmp row_cmp w.key k)) rows)
    go (Some row) = rows_with by w.table w.key row q ∙ here (w.table == q) refl (λ rows. entries.put row_cmp w.key row rows)

rows_written_all : (by : RowsById) (ws : List Write) (q : ℕ) →
    rows_by (rows_after_writes by ws) q ≡ rows_after q ws (rows_by by q)
rows_written_all by [] q = refl
rows_written_all by (w ∷ ws) q = rows_written_all (rows_after_write by w w.row) ws q ∙
    ap (λ rows. rows_after q ws rows) (rows_written by w q)

-- the tables of the written rows are the tables with the writes in place
pub assembled_written : (ts : List TableRow) (by : RowsById) (ws : List Write) →
    assembled ts (rows_after_writes by ws) ≡ overlaid (assembled ts by) ws
assembled_written [] by ws = refl
assembled_written (t ∷ ts) by ws =
    let one : Table = record { row = t; rows = rows_by (rows_after_writes by ws) t.id } in
    ap (λ rows. record { row = t; rows = rows } ∷ assembled ts (rows_after_writes by ws)) (rows_written_all by ws t.id)
    ∙ ap (λ us. record { row = t; rows = rows_after t.id ws (rows_by by t.id) } ∷ us) (assembled_written ts by ws)

-- the rows of the first table, and of the others
pub rows_counted : (t : TableRow) (ts : List TableRow) (by : RowsById) →
    row_count (assembled (t ∷ ts) by) ≡ length (rows_by by t.id) + row_count (assembled ts by)
rows_counted t ts by = sum_by-cons (λ (u : Table). length u.rows) (record { row = t; rows = rows_by by t.id }) (assembled ts by)
