-- A row as it is read: what its pair gives is what its write leaves, and that is sound where the rows before it are.
use Rattle.std.proofs.Common.{◌≡◌, ℕ, suc, ◌+◌, ◌<◌, ◌≤◌, List, [], ◌∷◌, length, drop, Bool, true, false, cond, not, refl, sym, ap, ◌∙◌, subst, Option, Some, None, is_some, arith}
use Rattle.std.specs.Prelude.{◌&&◌, ◌==◌, nat_le, nat_lt, if◌then◌else◌}
use Rattle.std.proofs.lemmas.Bool.Decides.{nat_tests}
use Rattle.std.specs.Int.{w32}
use Rattle.std.specs.List.{find, list_all, enumerate_from, AllByRecursion}
use Rattle.std.specs.Option.{option_map, option_and_then, option_or}
use Rattle.std.specs.Ordering.{eq_by_cmp}
use Rattle.std.specs.FinMap.Entries as entries
use Rattle.rl_value.specs.declared.value.Value.{Value}
use Rattle.rl_value.specs.declared.miss.Miss.{Miss}
use Rattle.rl_value.specs.declared.miss.Miss.TheVariants.{Exists}
use Rattle.rl_value.specs.Order.{row_cmp}
use Rattle.rl_value.specs.Outcome.{refused_by}
use Rattle.redo_vec.specs.declared.columns.Column.{Column}
use Rattle.redo_vec.specs.declared.table.TableRow.{TableRow}
use Rattle.redo_vec.specs.Cutting.{number_in}
use Rattle.redo_vec.specs.Forms.{is_key_columns, are_keys}
use Rattle.redo_vec.specs.Ranges.{IsTable}
use Rattle.redo_vec.proofs.Forming.{key_short}
use Rattle.redo_spec.specs.ChangeForm.{fits, is_row_of}
use Rattle.redo_spec.specs.Dictionary.{table_of, first_of, primary_of, uniques_of, ids_rise}
use Rattle.redo_spec.specs.Effect.{taken_by, add_row}
use Rattle.redo_spec.specs.Fold.{live_row_limit}
use Rattle.redo_spec.specs.Tables.{Table, Tables, definitions_of, primary_key, values_at, row_count, named}
use Rattle.redo_spec.specs.Work.{rows_of}
use Rattle.row_apply.specs.declared.writes.Write.{Write}
use Rattle.row_apply.specs.Overlaid.{table_after, overlaid}
use Rattle.row_apply.proofs.Orders.{row_is}
use Rattle.standby_spec.specs.Loading.{when_true, values_in, table_added, row_into, with_rows_of, row_step}
use Rattle.standby_spec.proofs.StoreLaws.{and-left, and-right, same_nat}
use Rattle.kept_layout.specs.Pairs.{as_row}
use Rattle.checkpoint.specs.RowWrites.{is_keyed_row, is_there, is_taken, may_come, row_put, write_to, write_at, write_of_pair}

-- ---- tables by their ids

later_apart : (m n : ℕ) → m < n → (n == m) ≡ false
later_apart m n lt = grind (arith, nat_tests)

pub first_apart : (m n : ℕ) → m < n → (m == n) ≡ false
first_apart m n lt = grind (arith, nat_tests)

pub same_id : (m n : ℕ) → m ≡ n → (m == n) ≡ true
same_id m n e = grind (arith, nat_tests)

turned : (m n : ℕ) → (m == n) ≡ false → (n == m) ≡ false
turned m n e = grind (arith, nat_tests)

pub low_id : (least : ℕ) (t : TableRow) (ts : List TableRow) → ids_rise least (t ∷ ts) ≡ true → least ≤ t.id
low_id least t ts rise =
    let here : nat_le least t.id ≡ true = and-left (nat_le least t.id) (ids_rise (t.id + 1) ts) rise in
    grind (arith, nat_tests, here)

abbrev pub found_table : ℕ → Tables → Option Table
found_table id ts = find (λ u. u.row.id == id) ts

-- the table that is found, and what the other words say of it
pub record IsFound (id : ℕ) (ts : Tables) (t : Table) : Type 0 where
  pub at : t.row.id ≡ id
  pub defined : table_of (definitions_of ts) id ≡ Some t.row
  pub rows : rows_of ts id ≡ t.rows

pub found_is : (id : ℕ) (t : Table) (ts : Tables) → found_table id ts ≡ Some t → IsFound id ts t
found_is id t [] e = absurd (cc)
found_is id t (u ∷ us) e =
    elim (u.row.id == id) as (λ b. (u.row.id == id) ≡ b → cond b (Some u) (found_table id us) ≡ Some t → IsFound id (u ∷ us) t) [
      | true ↦ λ is given.
          let same : u ≡ t = cc in
          record {
            at = sym (ap (λ (x : Table). x.row.id) same) ∙ same_nat u.row.id id is;
            defined = ap (λ b. cond b (Some u.row) (table_of (definitions_of us) id)) is ∙ ap (λ (x : Table). Some x.row) same;
            rows = ap (λ b. cond b u.rows (rows_of us id)) is ∙ ap (λ (x : Table). x.rows) same;
          }
      | false ↦ λ other given.
          let rest = found_is id t us given in
          record {
            at = rest.at;
            defined = ap (λ b. cond b (Some u.row) (table_of (definitions_of us) id)) other ∙ rest.defined;
            rows = ap (λ b. cond b u.rows (rows_of us id)) other ∙ rest.rows;
          }
    ] refl e

pub none_found : (id : ℕ) (ts : Tables) → found_table id ts ≡ None → table_of (definitions_of ts) id ≡ None
none_found id [] e = refl
none_found id (u ∷ us) e =
    elim (u.row.id == id) as (λ b. cond b (Some u) (found_table id us) ≡ None →
    cond b (Some u.row) (table_of (definitions_of us) id) ≡ None) [
      | true ↦ λ given. absurd (cc)
      | false ↦ λ given. none_found id us given
    ] e

-- ---- one write

abbrev pub put_in : Table → List Value → List Value → Table
put_in t k row = record t { rows = entries.put row_cmp k row t.rows }

later_stay : (x : Table) (least : ℕ) (ts : Tables) → ids_rise least (definitions_of ts) ≡ true → x.row.id < least →
    with_rows_of x ts ≡ ts
later_stay x least [] rise lt = refl
later_stay x least (u ∷ us) rise lt =
    let low = low_id least u.row (definitions_of us) rise in
    let here : (if u.row.id == x.row.id then x else u) ≡ u =
    ap (λ b. if b then x else u) (later_apart x.row.id u.row.id (omega (arith, low, lt))) in
    let rest = later_stay x (u.row.id + 1) us (and-right (nat_le least u.row.id) (ids_rise (u.row.id + 1) (definitions_of us))
    rise)
    (omega (arith, low, lt)) in
    λ i. here i ∷ rest i

pub later_over : (id : ℕ) (k row : List Value) (least : ℕ) (ts : Tables) → ids_rise least (definitions_of ts) ≡ true →
    id < least →
    overlaid ts (row_put id k row ∷ []) ≡ ts
later_over id k row least [] rise lt = refl
later_over id k row least (u ∷ us) rise lt =
    let low = low_id least u.row (definitions_of us) rise in
    let here : table_after (row_put id k row ∷ []) u ≡ u =
    ap (λ b. record u { rows = if b then entries.put row_cmp k row u.rows else u.rows })
    (first_apart id u.row.id (omega (arith, low, lt))) in
    let rest = later_over id k row (u.row.id + 1) us
    (and-right (nat_le least u.row.id) (ids_rise (u.row.id + 1) (definitions_of us)) rise) (omega (arith, low, lt)) in
    λ i. here i ∷ rest i

-- the table with the row in place is what the write leaves
with_over : (id : ℕ) (k row : List Value) (t : Table) (least : ℕ) (ts : Tables) → ids_rise least (definitions_of ts) ≡ true →
    found_table id ts ≡ Some t → with_rows_of (put_in t k row) ts ≡ overlaid ts (row_put id k row ∷ [])
with_over id k row t least [] rise e = absurd (cc)
with_over id k row t least (u ∷ us) rise e =
    let more = and-right (nat_le least u.row.id) (ids_rise (u.row.id + 1) (definitions_of us)) rise in
    elim (u.row.id == id) as (λ b. (u.row.id == id) ≡ b → cond b (Some u) (found_table id us) ≡ Some t →
    with_rows_of (put_in t k row) (u ∷ us) ≡ overlaid (u ∷ us) (row_put id k row ∷ [])) [
      | true ↦ λ is given.
          let same : u ≡ t = cc in
          let at : u.row.id ≡ id = same_nat u.row.id id is in
          let id_t : u.row.id ≡ t.row.id = ap (λ (x : Table). x.row.id) same in
          let here : (if u.row.id == t.row.id then put_in t k row else u) ≡ table_after (row_put id k row ∷ []) u =
          ap (λ b. if b then put_in t k row else u) (same_id u.row.id t.row.id id_t)
          ∙ ap (λ x. put_in x k row) (sym same)
          ∙ sym (ap (λ b. record u { rows = if b then entries.put row_cmp k row u.rows else u.rows })
          (same_id id u.row.id (sym at))) in
          let rest : with_rows_of (put_in t k row) us ≡ overlaid us (row_put id k row ∷ []) =
          later_stay (put_in t k row) (u.row.id + 1) us more (omega (arith, id_t))
          ∙ sym (later_over id k row (u.row.id + 1) us more (omega (arith, at))) in
          λ i. here i ∷ rest i
      | false ↦ λ other given.
          let found = found_is id t us given in
          let at : t.row.id ≡ id = found.at in
          let here : (if u.row.id == t.row.id then put_in t k row else u) ≡ table_after (row_put id k row ∷ []) u =
          ap (λ b. if b then put_in t k row else u) (ap (λ n. u.row.id == n) at ∙ other)
          ∙ sym (ap (λ b. record u { rows = if b then entries.put row_cmp k row u.rows else u.rows })
          (turned u.row.id id other)) in
          let rest = with_over id k row t (u.row.id + 1) us more given in
          λ i. here i ∷ rest i
    ] refl e

-- ---- how long a row and a key are

row_long : (columns : List Column) (row : List Value) → is_row_of columns row ≡ true → length row ≡ length columns
row_long [] [] e = refl
row_long [] (v ∷ vs) e = absurd (cc)
row_long (c ∷ cs) [] e = absurd (cc)
row_long (c ∷ cs) (v ∷ vs) e = ap suc (row_long cs vs (and-right (fits c v) (is_row_of cs vs) e))

at_long : (row : List Value) (columns : List ℕ) → length (values_at row columns) ≡ length columns
at_long row [] = refl
at_long row (c ∷ cs) = ap suc (at_long row cs)

is_row_long : (values : List Value) → 1 ≤ length values → length values ≤ 32 → as_row values ≡ Some values
is_row_long values some most =
    let low : nat_le 1 (length values) ≡ true = grind (arith, nat_tests, some) in
    let high : nat_le (length values) 32 ≡ true = grind (arith, nat_tests, most) in
    ap (λ b. when_true (b && nat_le (length values) 32) values) low ∙ ap (λ b. when_true b values) high

primary_form : (t : TableRow) (keys : List (List ℕ)) → t.keys ≡ keys → are_keys keys ≡ true → is_key_columns (primary_of t) ≡ true
primary_form t [] is e = absurd (cc)
primary_form t (columns ∷ keys) is e =
    let first : primary_of t ≡ columns = ap first_of is in
    ap is_key_columns first ∙ and-left (is_key_columns columns) (list_all is_key_columns keys)
    (and-right (nat_le 1 (length (columns ∷ keys)) && nat_le (length (columns ∷ keys)) 5)
    (list_all is_key_columns (columns ∷ keys)) e)

key_row_long : (t : TableRow) (row : List Value) → IsTable t → as_row (primary_key t row) ≡ Some (primary_key t row)
key_row_long t row is =
    let form = primary_form t t.keys refl is.keys in
    let size : length (primary_key t row) ≡ length (primary_of t) = at_long row (primary_of t) in
    let some : nat_le 1 (length (primary_of t)) ≡ true = and-left (nat_le 1 (length (primary_of t))) _ form in
    let low : 1 ≤ length (primary_of t) = grind (arith, nat_tests, some) in
    let high = key_short (primary_of t) form in
    is_row_long (primary_key t row) (omega (arith, size, low)) (omega (arith, size, high))

row_row_long : (t : TableRow) (row : List Value) → IsTable t → is_row_of t.columns row ≡ true → as_row row ≡ Some row
row_row_long t row is fit =
    let size = row_long t.columns row fit in
    let some = is.some in
    let most = is.most in
    is_row_long row (omega (arith, size, some)) (omega (arith, size, most))

-- ---- a row that comes to the others

abbrev come_to : Table → List Value → List Value → Option (List Value) → Option Miss → Option Table
come_to t k row there taken =
    table_added (refused_by (option_or (option_map (λ r. Exists (named t.row k)) there) taken) (put_in t k row))

come_free : (t : Table) (k row : List Value) (there : Option (List Value)) (taken : Option Miss) →
    come_to t k row there taken ≡ when_true (not (is_some there) && not (is_some taken)) (put_in t k row)
come_free t k row None None = refl
come_free t k row None (Some m) = refl
come_free t k row (Some r) None = refl
come_free t k row (Some r) (Some m) = refl

-- a row that fits, under its own key
own_key : (t : Table) (k row : List Value) → is_keyed_row t.row k row ≡ true → primary_key t.row row ≡ k
own_key t k row is = row_is (primary_key t.row row) k
    (and-right (is_row_of t.row.columns row) (eq_by_cmp row_cmp (primary_key t.row row) k) is)

pub into_is : (t : Table) (k row : List Value) → row_into t k row ≡ when_true (may_come t.row t.rows k row) (put_in t k row)
into_is t k row =
    elim (is_keyed_row t.row k row) as (λ b. is_keyed_row t.row k row ≡ b → (if b then table_added (add_row t row) else None) ≡
    when_true (b && not (is_there t.rows k) && not (is_taken t.row t.rows row)) (put_in t k row)) [
      | true ↦ λ is.
          ap (λ x. come_to t x row (entries.find row_cmp x t.rows) (taken_by t.row t.rows row
          (enumerate_from 1 (uniques_of t.row))))
          (own_key t k row is)
          ∙ come_free t k row (entries.find row_cmp k t.rows) (taken_by t.row t.rows row (enumerate_from 1 (uniques_of t.row)))
      | false ↦ λ is. refl
    ] refl

-- ---- the pair

abbrev step_with : Tables → Option Table → Option (List Value) → Option (List Value) → Option Tables
step_with ts t key row =
    option_map (λ u. with_rows_of u ts) (option_and_then (λ u. option_and_then (λ k. option_and_then (row_into u k) row) key) t)

abbrev put_with : Tables → ℕ → Option (List Value) → Option (List Value) → Option Tables
put_with ts id key row =
    option_map (λ w. overlaid ts (w ∷ [])) (write_at ts (option_map (λ k. (id, k)) (option_and_then as_row key))
    (option_and_then as_row row))

nothing_to : (ts : Tables) (id : ℕ) (key row : Option (List Value)) → table_of (definitions_of ts) id ≡ None →
    write_at ts (option_map (λ k. (id, k)) key) row ≡ None
nothing_to ts id None row none = refl
nothing_to ts id (Some k) None none = refl
nothing_to ts id (Some k) (Some r) none = ap (λ o. write_to o ts id k r) none

no_row : (ts : Tables) (place : Option (ℕ × List Value)) → write_at ts place None ≡ None
no_row ts None = refl
no_row ts (Some place) = refl

-- a row that does not fit
unfit : (ts : Tables) (id : ℕ) (t : TableRow) (k row : List Value) (key other : Option (List Value)) →
    table_of (definitions_of ts) id ≡ Some t → is_keyed_row t k row ≡ false → (a b : Bool) → key ≡ when_true a k →
    other ≡ when_true b row →
    write_at ts (option_map (λ x. (id, x)) key) other ≡ None
unfit ts id t k row key other there wrong true true e f =
    ap (λ o. write_at ts (option_map (λ x. (id, x)) o) other) e ∙ ap (write_at ts (Some (id, k))) f
    ∙ ap (λ o. write_to o ts id k row) there
    ∙ ap (λ b. when_true (b && not (is_there (rows_of ts id) k) && not (is_taken t (rows_of ts id) row)) (row_put id k row)) wrong
unfit ts id t k row key other there wrong true false e f = ap (write_at ts (option_map (λ x. (id, x)) key)) f ∙
    no_row ts (option_map (λ x. (id, x)) key)
unfit ts id t k row key other there wrong false b e f = ap (λ o. write_at ts (option_map (λ x. (id, x)) o) other) e

when_moved : (ts : Tables) (b : Bool) (w : Write) (t : Table) → with_rows_of t ts ≡ overlaid ts (w ∷ []) →
    option_map (λ u. with_rows_of u ts) (when_true b t) ≡ option_map (λ x. overlaid ts (x ∷ [])) (when_true b w)
when_moved ts true w t e = ap (λ us. Some us) e
when_moved ts false w t e = refl

pairs_at : (ts : Tables) (id : ℕ) (t : Table) (k row : List Value) → IsTable t.row → ids_rise 0 (definitions_of ts) ≡ true →
    found_table id ts ≡ Some t →
    option_map (λ u. with_rows_of u ts) (row_into t k row) ≡ put_with ts id (Some k) (Some row)
pairs_at ts id t k row is rise e =
    let found = found_is id t ts e in
    elim (is_keyed_row t.row k row) as (λ b. is_keyed_row t.row k row ≡ b →
    option_map (λ u. with_rows_of u ts) (row_into t k row) ≡ put_with ts id (Some k) (Some row)) [
      | true ↦ λ keyed.
          let key : as_row k ≡ Some k = subst (λ x. as_row x ≡ Some x) (own_key t k row keyed) (key_row_long t.row row is) in
          let whole : as_row row ≡ Some row = row_row_long t.row row is
          (and-left (is_row_of t.row.columns row) (eq_by_cmp row_cmp (primary_key t.row row) k) keyed) in
          ap (option_map (λ u. with_rows_of u ts)) (into_is t k row)
          ∙ when_moved ts (may_come t.row t.rows k row) (row_put id k row) (put_in t k row) (with_over id k row t 0 ts rise e)
          ∙ sym (ap (λ o. option_map (λ w. overlaid ts (w ∷ [])) (write_at ts (option_map (λ x. (id, x)) o)
          (option_and_then as_row (Some row)))) key
          ∙ ap (λ o. option_map (λ w. overlaid ts (w ∷ [])) (write_at ts (Some (id, k)) o)) whole
          ∙ ap (λ o. option_map (λ w. overlaid ts (w ∷ [])) (write_to o ts id k row)) found.defined
          ∙ ap (λ rs. option_map (λ w. overlaid ts (w ∷ [])) (when_true (may_come t.row rs k row) (row_put id k row))) found.rows)
      | false ↦ λ other.
          ap (λ b. option_map (λ u. with_rows_of u ts) (if b then table_added (add_row t row) else None)) other
          ∙ sym (ap (option_map (λ w. overlaid ts (w ∷ [])))
          (unfit ts id t.row k row (as_row k) (as_row row) found.defined other
          (nat_le 1 (length k) && nat_le (length k) 32) (nat_le 1 (length row) && nat_le (length row) 32) refl refl))
    ] refl

pairs_in : (ts : Tables) (id : ℕ) (t : Table) (key row : Option (List Value)) → IsTable t.row →
    ids_rise 0 (definitions_of ts) ≡ true →
    found_table id ts ≡ Some t → step_with ts (Some t) key row ≡ put_with ts id key row
pairs_in ts id t None row is rise e = refl
pairs_in ts id t (Some k) None is rise e =
    sym (ap (option_map (λ w. overlaid ts (w ∷ []))) (no_row ts (option_map (λ x. (id, x)) (as_row k))))
pairs_in ts id t (Some k) (Some r) is rise e = pairs_at ts id t k r is rise e

defined_form : (id : ℕ) (t : TableRow) (ds : List TableRow) → AllByRecursion IsTable ds → table_of ds id ≡ Some t → IsTable t
defined_form id t [] all e = absurd (cc)
defined_form id t (d ∷ ds) all e =
    elim (d.id == id) as (λ b. cond b (Some d) (table_of ds id) ≡ Some t → IsTable t) [
      | true ↦ λ given. let same : d ≡ t = cc in subst IsTable same all.0
      | false ↦ λ given. defined_form id t ds all.1 given
    ] e

any_table : (ts : Tables) (id : ℕ) (key row : Option (List Value)) → AllByRecursion IsTable (definitions_of ts) →
    ids_rise 0 (definitions_of ts) ≡ true → (o : Option Table) → found_table id ts ≡ o →
    step_with ts o key row ≡ put_with ts id key row
any_table ts id key row all rise None e =
    sym (ap (option_map (λ w. overlaid ts (w ∷ []))) (nothing_to ts id (option_and_then as_row key) (option_and_then as_row row)
    (none_found id ts e)))
any_table ts id key row all rise (Some t) e =
    pairs_in ts id t key row (defined_form id t.row (definitions_of ts) all (found_is id t ts e).defined) rise e

-- the tests of the key's length and of the room
tested : (l r : Bool) (ts : Tables) (id : ℕ) (key row : Option (List Value)) →
    step_with ts (found_table id ts) key row ≡ put_with ts id key row →
    (if l && r then step_with ts (found_table id ts) key row else None) ≡
    option_map (λ w. overlaid ts (w ∷ [])) (if r then write_at ts (if l then option_map (λ k. (id, k))
    (option_and_then as_row key)
    else None) (option_and_then as_row row) else None)
tested true true ts id key row e = e
tested true false ts id key row e = refl
tested false true ts id key row e = refl
tested false false ts id key row e = refl

-- reading a pair gives what its write leaves
pub write_is_step : (ts : Tables) (key value : List ℕ) → AllByRecursion IsTable (definitions_of ts) →
    ids_rise 0 (definitions_of ts) ≡ true →
    row_step ts (key, value) ≡ option_map (λ w. overlaid ts (w ∷ [])) (write_of_pair ts (key, value))
write_is_step ts key value all rise =
    let id = number_in w32 0 key in
    tested (nat_le 4 (length key)) (nat_lt (row_count ts) live_row_limit) ts id (values_in (drop 4 key)) (values_in value)
    (any_table ts id (values_in (drop 4 key)) (values_in value) all rise (found_table id ts) refl)
