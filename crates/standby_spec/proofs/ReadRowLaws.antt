-- Laws of reading rows: in whatever order the pairs of sound tables come, each row is accepted behind those before it, and all of
-- them give the tables. What was read so far is written as the tables without the rows whose pairs are still ahead.
use Rattle.std.proofs.Common.{◌≡◌, ℕ, zero, suc, ◌+◌, ◌^◌, ◌<◌, ◌≤◌, List, [], ◌∷◌, ◌++◌, map, length, Bool, true, false, cond, not, refl, sym, ap, ◌∙◌, subst, Option, Some, None, is_some, Ok, arith, inl, inr}
use Rattle.std.specs.Prelude.{◌==◌, ◌⊎◌, nat_eq, nat_le, nat_lt, if◌then◌else◌, slice_get}
use Rattle.std.proofs.Math.Dec.{T}
use Rattle.std.proofs.lemmas.Bool.Decides.{nat_tests}
use Rattle.std.proofs.lemmas.List.{length-append}
use Rattle.std.proofs.lemmas.List.Sums.{sum_by-cons}
use Rattle.std.proofs.lemmas.Nat.{from_be_bytes-to_be_bytes_4}
use Rattle.std.specs.Int.{w32}
use Rattle.std.specs.List.{flat_map, find, list_any, enumerate_from, AllByRecursion}
use Rattle.std.specs.Option.{option_map, option_and_then, option_or}
use Rattle.std.specs.Ordering.{eq_by_cmp, is_lt}
use Rattle.std.specs.Cmp.{tied_itself}
use Rattle.std.specs.Cmp.Lexicographic.{pointwise, nat_list_cmp_total, texts_ties}
use Rattle.std.specs.FinMap.Entries as entries
use Rattle.rl_value.specs.declared.value.Value.{Value}
use Rattle.rl_value.specs.declared.value.Value.TheVariants.{Null, Number, Text, Raw}
use Rattle.rl_value.specs.declared.miss.Miss.TheVariants.{Exists, Taken}
use Rattle.rl_value.specs.Order.{row_cmp, row_total, bytes_cmp}
use Rattle.rl_value.specs.Outcome.{◌>>=◌, or_err, refused_by}
use Rattle.redo_vec.specs.declared.table.TableRow.{TableRow}
use Rattle.redo_vec.specs.Cutting.{number_in}
use Rattle.redo_vec.specs.Reading.{value_at}
use Rattle.redo_vec.specs.Spelling.{value}
use Rattle.redo_vec.proofs.ChangeLaws.{value_whole}
use Rattle.redo_spec.specs.ConflictKeys.{is_null}
use Rattle.redo_spec.specs.Dictionary.{uniques_of}
use Rattle.redo_spec.specs.Effect.{taken_by, exists_at, add_row}
use Rattle.redo_spec.specs.Fold.{live_row_limit}
use Rattle.redo_spec.specs.Tables.{Rows, Table, Tables, row_count, empty_tables, definitions_of, values_at, primary_key, named, owner_in}
use Rattle.redo_spec.proofs.ListLaws.{filter_all, filter_no, filter_fewer}
use Rattle.row_apply.specs.Soundness.{AreSoundRows, AreSound, HaveOneOwner}
use Rattle.row_apply.proofs.Orders.{row_is, row_same, row_self}
use Rattle.row_apply.proofs.Owners.{owner_none}
use Rattle.row_apply.proofs.Slots.{rows_same}
use Rattle.standby_spec.specs.Layout.{row_place, row_item, row_items}
use Rattle.standby_spec.specs.HasLayout.{AreValues, IsRowOfValues, IsTableOfValues}
use Rattle.standby_spec.specs.Loading.{KeyValue, read_area, after_value, values_within, values_in, table_added, row_into, with_rows_of, table_with_pair, row_step}
use Rattle.standby_spec.proofs.AreaLaws.{none-below}
use Rattle.standby_spec.proofs.PlaceLaws.{table-same, key-same}
use Rattle.standby_spec.proofs.RowLaws.{AreKeysOfValues, bytes_of, same_row, is-place, IsTableOfKeys, AreTablesOfKeys}
use Rattle.standby_spec.proofs.RuleLaws.{filter-same}
use Rattle.standby_spec.proofs.StoreLaws.{both-true, first-of, second-of, bytes_is, value_after_all, value-append}

-- ---- values

value-long : (v : Value) → 1 ≤ length (value v)
value-long Null = omega arith
value-long (Number z) = omega arith
value-long (Text t) = omega arith
value-long (Raw t) = omega arith

within-step : (n : ℕ) (v : Value) (rest : List ℕ) → values_within (suc n) (value v ++ rest) ≡
    after_value (value_at 0 (value v ++ rest)) (values_within n)
within-step n Null rest = refl
within-step n (Number z) rest = refl
within-step n (Text t) rest = refl
within-step n (Raw t) rest = refl

values-within : (n : ℕ) (vs : List Value) → AreValues vs → length (flat_map value vs) ≤ n →
    values_within n (flat_map value vs) ≡ Some vs
values-within n [] f few = refl
values-within zero (v ∷ vs) f few = absurd (omega (arith, few, value-long v, length-append (value v) (flat_map value vs)))
values-within (suc n) (v ∷ vs) f few =
    within-step n v (flat_map value vs)
    ∙ ap (λ r. after_value r (values_within n)) (value_whole 0 v (flat_map value vs) f.0)
    ∙ ap (option_map (λ us. v ∷ us)) (values-within n vs f.1
    (omega (arith, few, value-long v, length-append (value v) (flat_map value vs))))

values-read : (vs : List Value) → AreValues vs → values_in (flat_map value vs) ≡ Some vs
values-read vs f = values-within (length (flat_map value vs)) vs f (omega arith)

-- ---- the rows that were read before these pairs

abbrev is_ahead : List KeyValue → ℕ → List Value → Bool
is_ahead ps id k = is_some (entries.find bytes_cmp (row_place id k) ps)

abbrev rows_before : List KeyValue → ℕ → Rows → Rows
rows_before ps id rows = entries.where_key row_cmp (λ k. not (is_ahead ps id k)) rows

abbrev table_before : List KeyValue → Table → Table
table_before ps t = record t { rows = rows_before ps t.row.id t.rows }

abbrev tables_before : List KeyValue → Tables → Tables
tables_before ps ts = map (table_before ps) ts

found-before : (ps : List KeyValue) (id : ℕ) (q : List Value) (rows : Rows) →
    entries.find row_cmp q (rows_before ps id rows) ≡ cond (not (is_ahead ps id q)) (entries.find row_cmp q rows) None
found-before ps id q rows = entries.find-where_key row_cmp (λ k. not (is_ahead ps id k)) q
    (λ x e. ap (λ k. not (is_ahead ps id k)) (sym (row_same q x e))) rows

kept : (b : Bool) (o : Option (List Value)) (row : List Value) → cond b o None ≡ Some row → o ≡ Some row
kept true o row e = e
kept false o row e = absurd (cc)

-- what is found there is found in all the rows
was-found : (ps : List KeyValue) (id : ℕ) (q row : List Value) (rows : Rows) →
    entries.find row_cmp q (rows_before ps id rows) ≡ Some row →
    entries.find row_cmp q rows ≡ Some row
was-found ps id q row rows e = kept (not (is_ahead ps id q)) (entries.find row_cmp q rows) row
    (sym (found-before ps id q rows) ∙ e)

no-none : (b : Bool) → ◌≡◌ {A = Option (List Value)} (cond b None None) None
no-none true = refl
no-none false = refl

found-key-step : (q row : List Value) (e : List Value × List Value) (rows : Rows) → AreValues e.0 →
    (entries.find row_cmp q rows ≡ Some row → AreValues q) →
    (b : Bool) → eq_by_cmp row_cmp q e.0 ≡ b → cond b (Some e.1) (entries.find row_cmp q rows) ≡ Some row → AreValues q
found-key-step q row e rows f rest true is found = subst AreValues (sym (row_is q e.0 is)) f
found-key-step q row e rows f rest false is found = rest found

found-key : (q row : List Value) (rows : Rows) → AreKeysOfValues rows → entries.find row_cmp q rows ≡ Some row → AreValues q
found-key q row [] f e = absurd (cc)
found-key q row (r ∷ rows) f e = found-key-step q row r rows f.0 (found-key q row rows f.1) (eq_by_cmp row_cmp q r.0) refl e

-- ---- one row more

differs : (k l : List Value) → eq_by_cmp row_cmp k l ≡ false → k ≡ l → ⊥
differs k l is same = let like : eq_by_cmp row_cmp k l ≡ true = ap (eq_by_cmp row_cmp k) (sym same) ∙ row_self k in absurd (cc)

same-bytes : (xs : List ℕ) → pointwise nat_eq xs xs ≡ true
same-bytes [] = refl
same-bytes (x ∷ xs) = let here : (x == x) ≡ true = grind (arith, nat_tests) in
    both-true (x == x) (pointwise nat_eq xs xs) here (same-bytes xs)

place-apart : (m n : ℕ) (k l : List Value) → (row_place m k ≡ row_place n l → ⊥) → (b : Bool) →
    eq_by_cmp bytes_cmp (row_place m k) (row_place n l) ≡ b → b ≡ false
place-apart m n k l apart true is = absurd (apart (bytes_is (row_place m k) (row_place n l)
    (texts_ties (row_place m k) (row_place n l) ∙ is)))
place-apart m n k l apart false is = refl

put-at : (id : ℕ) (k row : List Value) (v : List ℕ) (ps : List KeyValue) (rows : Rows) → AreKeysOfValues rows → AreValues k →
    entries.find row_cmp k rows ≡ Some row → T (entries.below_all bytes_cmp (row_place id k) ps) → (q : List Value) (b : Bool) →
    eq_by_cmp row_cmp q k ≡ b →
    (o : Option (List Value)) → entries.find row_cmp q rows ≡ o →
    cond b (Some row) (cond (not (is_ahead ((row_place id k, v) ∷ ps) id q)) o None) ≡ cond (not (is_ahead ps id q)) o None
put-at id k row v ps rows f g found below q true is o e =
    let same : q ≡ k = row_is q k is in
    let gone : is_ahead ps id q ≡ false = ap (is_ahead ps id) same ∙
    ap is_some (none-below bytes_cmp (row_place id k) ps below) in
    sym (ap (λ b. cond (not b) o None) gone ∙ sym e ∙ ap (λ x. entries.find row_cmp x rows) same ∙ found)
put-at id k row v ps rows f g found below q false is None e =
    no-none (not (is_ahead ((row_place id k, v) ∷ ps) id q)) ∙ sym (no-none (not (is_ahead ps id q)))
put-at id k row v ps rows f g found below q false is (Some r) e =
    let fits : AreValues q = found-key q r rows f e in
    let apart : (row_place id q ≡ row_place id k → ⊥) = λ same. differs q k is (key-same id id q k fits g same) in
    ap (λ b. cond (not (is_some (cond b (Some v) (entries.find bytes_cmp (row_place id q) ps)))) (Some r) None)
    (place-apart id id q k apart (eq_by_cmp bytes_cmp (row_place id q) (row_place id k)) refl)

put-before : (id : ℕ) (k row : List Value) (v : List ℕ) (ps : List KeyValue) (rows : Rows) → AreKeysOfValues rows → AreValues k →
    T (entries.is_sorted row_cmp rows) → entries.find row_cmp k rows ≡ Some row →
    T (entries.below_all bytes_cmp (row_place id k) ps) →
    entries.put row_cmp k row (rows_before ((row_place id k, v) ∷ ps) id rows) ≡ rows_before ps id rows
put-before id k row v ps rows f g h found below =
    rows_same (entries.put row_cmp k row (rows_before ((row_place id k, v) ∷ ps) id rows)) (rows_before ps id rows)
    (entries.is_sorted-put row_cmp row_total k row (rows_before ((row_place id k, v) ∷ ps) id rows)
    (entries.is_sorted-where_key row_cmp (λ l. not (is_ahead ((row_place id k, v) ∷ ps) id l)) rows h))
    (entries.is_sorted-where_key row_cmp (λ l. not (is_ahead ps id l)) rows h)
    (λ q. entries.find-put row_cmp row_total q k row (rows_before ((row_place id k, v) ∷ ps) id rows)
    ∙ ap (cond (eq_by_cmp row_cmp q k) (Some row)) (found-before ((row_place id k, v) ∷ ps) id q rows)
    ∙ put-at id k row v ps rows f g found below q (eq_by_cmp row_cmp q k) refl (entries.find row_cmp q rows) refl
    ∙ sym (found-before ps id q rows))

-- the rows of another table stay
other-before : (m id : ℕ) (k : List Value) (v : List ℕ) (ps : List KeyValue) (rows : Rows) → m < 2 ^ 32 →
    id < 2 ^ 32 → (m ≡ id → ⊥) →
    rows_before ((row_place id k, v) ∷ ps) m rows ≡ rows_before ps m rows
other-before m id k v ps rows f g apart = filter-same
    (λ (e : List Value × List Value). not (is_ahead ((row_place id k, v) ∷ ps) m e.0)) (λ e. not (is_ahead ps m e.0))
    (λ e. ap (λ b. not (is_some (cond b (Some v) (entries.find bytes_cmp (row_place m e.0) ps))))
    (place-apart m id e.0 k (λ same. apart (table-same m id e.0 k f g same))
    (eq_by_cmp bytes_cmp (row_place m e.0) (row_place id k)) refl)) rows

-- ---- a table among others

abbrev Among : Table → Tables → Type 0
Among t [] = ⊥
Among t (u ∷ us) = (u ≡ t) ⊎ Among t us

among-least : (least : ℕ) (t : Table) (ts : Tables) → AreTablesOfKeys least ts → Among t ts → least ≤ t.row.id
among-least least t [] of is = absurd is
among-least least t (u ∷ us) of (inl e) = subst (λ (x : Table). least ≤ x.row.id) e of.0.0
among-least least t (u ∷ us) of (inr more) =
    let low : least ≤ u.row.id = of.0.0 in let next = among-least (u.row.id + 1) t us of.1 more in omega (arith, low, next)

all-among : (P : Table → Type 0) (t : Table) (ts : Tables) → AllByRecursion P ts → Among t ts → P t
all-among P t [] all is = absurd is
all-among P t (u ∷ us) all (inl e) = subst P e all.0
all-among P t (u ∷ us) all (inr more) = all-among P t us all.1 more

keys-among : (least : ℕ) (t : Table) (ts : Tables) → AreTablesOfKeys least ts → Among t ts → IsTableOfKeys t
keys-among least t [] of is = absurd is
keys-among least t (u ∷ us) of (inl e) = subst IsTableOfKeys e of.0.1
keys-among least t (u ∷ us) of (inr more) = keys-among (u.row.id + 1) t us of.1 more

same_id : (m n : ℕ) → m ≡ n → (m == n) ≡ true
same_id m n e = grind (arith, nat_tests)

apart_id : (m n : ℕ) → m < n → (m == n) ≡ false
apart_id m n lt = grind (arith, nat_tests)

apart_above : (m n : ℕ) → m < n → (n == m) ≡ false
apart_above m n lt = grind (arith, nat_tests)

find-among : (ps : List KeyValue) (least : ℕ) (t : Table) (ts : Tables) → AreTablesOfKeys least ts → Among t ts →
    find (λ u. u.row.id == t.row.id) (tables_before ps ts) ≡ Some (table_before ps t)
find-among ps least t [] of is = absurd is
find-among ps least t (u ∷ us) of (inl e) =
    ap (λ b. if b then Some (table_before ps u) else find (λ x. x.row.id == t.row.id) (tables_before ps us))
    (same_id u.row.id t.row.id (ap (λ (x : Table). x.row.id) e))
    ∙ ap (λ x. Some (table_before ps x)) e
find-among ps least t (u ∷ us) of (inr more) =
    let next = among-least (u.row.id + 1) t us of.1 more in
    ap (λ b. if b then Some (table_before ps u) else find (λ x. x.row.id == t.row.id) (tables_before ps us))
    (apart_id u.row.id t.row.id (omega (arith, next)))
    ∙ find-among ps (u.row.id + 1) t us of.1 more

later-same : (id : ℕ) (k : List Value) (v : List ℕ) (ps : List KeyValue) (x : Table) (least : ℕ) (ts : Tables) →
    AreTablesOfKeys least ts →
    x.row.id ≡ id → id < least → id < 2 ^ 32 → with_rows_of x (tables_before ((row_place id k, v) ∷ ps) ts) ≡ tables_before ps ts
later-same id k v ps x least [] of e lt f = refl
later-same id k v ps x least (u ∷ us) of e lt f =
    let low : least ≤ u.row.id = of.0.0 in
    let here : (if u.row.id == x.row.id then x else table_before ((row_place id k, v) ∷ ps) u) ≡ table_before ps u =
    ap (λ b. if b then x else table_before ((row_place id k, v) ∷ ps) u)
    (apart_above x.row.id u.row.id (omega (arith, low, lt, e)))
    ∙ ap (λ rows. record u { rows = rows }) (other-before u.row.id id k v ps u.rows of.0.1.id f
    (λ same. omega (arith, low, lt, same))) in
    let rest = later-same id k v ps x (u.row.id + 1) us of.1 e (omega (arith, low, lt)) f in
    λ i. here i ∷ rest i

rows-among : (k : List Value) (v : List ℕ) (ps : List KeyValue) (t : Table) (least : ℕ) (ts : Tables) →
    AreTablesOfKeys least ts → Among t ts →
    t.row.id < 2 ^ 32 → with_rows_of (table_before ps t) (tables_before ((row_place t.row.id k, v) ∷ ps) ts) ≡ tables_before ps ts
rows-among k v ps t least [] of is f = absurd is
rows-among k v ps t least (u ∷ us) of (inl e) f =
    let id : u.row.id ≡ t.row.id = ap (λ (x : Table). x.row.id) e in
    let here : (if u.row.id == t.row.id then table_before ps t else table_before ((row_place t.row.id k, v) ∷ ps) u) ≡
    table_before ps u =
    ap (λ b. if b then table_before ps t else table_before ((row_place t.row.id k, v) ∷ ps) u) (same_id u.row.id t.row.id id)
    ∙ ap (table_before ps) (sym e) in
    let rest = later-same t.row.id k v ps (table_before ps t) (u.row.id + 1) us of.1 refl (omega (arith, id)) f in
    λ i. here i ∷ rest i
rows-among k v ps t least (u ∷ us) of (inr more) f =
    let next = among-least (u.row.id + 1) t us of.1 more in
    let here : (if u.row.id == t.row.id then table_before ps t else table_before ((row_place t.row.id k, v) ∷ ps) u) ≡
    table_before ps u =
    ap (λ b. if b then table_before ps t else table_before ((row_place t.row.id k, v) ∷ ps) u)
    (apart_id u.row.id t.row.id (omega (arith, next)))
    ∙ ap (λ rows. record u { rows = rows }) (other-before u.row.id t.row.id k v ps u.rows of.0.1.id f
    (λ same. omega (arith, next, same))) in
    let rest = rows-among k v ps t (u.row.id + 1) us of.1 more f in
    λ i. here i ∷ rest i

-- ---- how many rows are there

fewer-step : (p : List Value → Bool) (q : List Value) (e : List Value × List Value) (rows : Rows) → p q ≡ false →
    (is_some (entries.find row_cmp q rows) ≡ true → length (entries.where_key row_cmp p rows) < length rows) →
    (b : Bool) → eq_by_cmp row_cmp q e.0 ≡ b → is_some (cond b (Some e.1) (entries.find row_cmp q rows)) ≡ true →
    (t : Bool) → p e.0 ≡ t →
    length (cond t (e ∷ entries.where_key row_cmp p rows) (entries.where_key row_cmp p rows)) < suc (length rows)
fewer-step p q e rows none rest true is found true t =
    let same : q ≡ e.0 = row_is q e.0 is in
    let yes : p q ≡ true = ap p same ∙ t in
    absurd (cc)
fewer-step p q e rows none rest true is found false t = omega (arith, filter_fewer (λ (x : List Value × List Value). p x.0) rows)
fewer-step p q e rows none rest false is found true t = omega (arith, rest found)
fewer-step p q e rows none rest false is found false t = omega (arith, rest found)

fewer-rows : (p : List Value → Bool) (q : List Value) (rows : Rows) → p q ≡ false → is_some (entries.find row_cmp q rows) ≡ true →
    length (entries.where_key row_cmp p rows) < length rows
fewer-rows p q [] none found = absurd (cc)
fewer-rows p q (e ∷ rows) none found =
    fewer-step p q e rows none (fewer-rows p q rows none) (eq_by_cmp row_cmp q e.0) refl found (p e.0) refl

table-fewer : (ps : List KeyValue) (t : Table) → length (table_before ps t).rows ≤ length t.rows
table-fewer ps t = filter_fewer (λ (e : List Value × List Value). not (is_ahead ps t.row.id e.0)) t.rows

count-more : (t : Table) (ts : Tables) → row_count (t ∷ ts) ≡ length t.rows + row_count ts
count-more t ts = sum_by-cons (λ (u : Table). length u.rows) t ts

all-fewer : (ps : List KeyValue) (ts : Tables) → row_count (tables_before ps ts) ≤ row_count ts
all-fewer ps [] = omega arith
all-fewer ps (t ∷ ts) = omega (
  arith,
  all-fewer ps ts,
  table-fewer ps t,
  count-more t ts,
  count-more (table_before ps t) (tables_before ps ts),
)

some-fewer : (ps : List KeyValue) (k : List Value) (t : Table) (ts : Tables) → Among t ts → is_ahead ps t.row.id k ≡ true →
    is_some (entries.find row_cmp k t.rows) ≡ true → row_count (tables_before ps ts) < row_count ts
some-fewer ps k t [] is ahead found = absurd is
some-fewer ps k t (u ∷ us) (inl e) ahead found =
    let less : length (table_before ps u).rows < length u.rows =
    subst (λ (x : Table). length (table_before ps x).rows < length x.rows) (sym e)
    (fewer-rows (λ l. not (is_ahead ps t.row.id l)) k t.rows (ap not ahead) found) in
    omega (arith, less, all-fewer ps us, count-more u us, count-more (table_before ps u) (tables_before ps us))
some-fewer ps k t (u ∷ us) (inr more) ahead found =
    omega (
      arith,
      some-fewer ps k t us more ahead found,
      table-fewer ps u,
      count-more u us,
      count-more (table_before ps u) (tables_before ps us),
    )

-- ---- a row is accepted

all-single : (P : List ℕ → Type 0) (us : List (List ℕ)) →
    ((i : ℕ) (columns : List ℕ) → slice_get us i ≡ Some columns → P columns) → AllByRecursion P us
all-single P [] f = tt
all-single P (u ∷ us) f = (f zero u refl, all-single P us (λ i columns e. f (suc i) columns e))

-- a unique value of a row has no owner among the rows that do not have this row
free-at : (t : TableRow) (index : ℕ) (columns : List ℕ) (row : List Value) (rows : Rows) →
    (list_any is_null (values_at row columns) ≡ false → owner_in rows columns (values_at row columns) ≡ None) →
    (b : Bool) → list_any is_null (values_at row columns) ≡ b →
    (if b then None else option_map (λ owner. Taken index (named t owner)) (owner_in rows columns (values_at row columns))) ≡ None
free-at t index columns row rows free true e = refl
free-at t index columns row rows free false e = ap (option_map (λ owner. Taken index (named t owner))) (free e)

never : (ps : List KeyValue) (id : ℕ) (k row : List Value) (rows : Rows) (columns : List ℕ) → HaveOneOwner columns rows →
    entries.find row_cmp k rows ≡ Some row →
    is_ahead ps id k ≡ true → list_any is_null (values_at row columns) ≡ false → (key like : List Value) →
    entries.find row_cmp key (rows_before ps id rows) ≡ Some like → values_at like columns ≡ values_at row columns → ⊥
never ps id k row rows columns single found ahead full key like e same =
    let there : entries.find row_cmp key rows ≡ Some like = was-found ps id key like rows e in
    let is : key ≡ k = single key k like row there found (ap (list_any is_null) same ∙ full) same in
    let gone : entries.find row_cmp key (rows_before ps id rows) ≡ None =
    ap (λ x. entries.find row_cmp x (rows_before ps id rows)) is ∙ found-before ps id k rows ∙
    ap (λ b. cond (not b) (entries.find row_cmp k rows) None) ahead in
    absurd (cc)

untaken : (t : TableRow) (ps : List KeyValue) (k row : List Value) (rows : Rows) (index : ℕ) (us : List (List ℕ)) →
    T (entries.is_sorted row_cmp rows) →
    AllByRecursion (λ columns. HaveOneOwner columns rows) us → entries.find row_cmp k rows ≡ Some row →
    is_ahead ps t.id k ≡ true →
    taken_by t (rows_before ps t.id rows) row (enumerate_from index us) ≡ None
untaken t ps k row rows index [] h all found ahead = refl
untaken t ps k row rows index (u ∷ us) h all found ahead =
    let left = rows_before ps t.id rows in
    ap (λ o. option_or o (taken_by t left row (enumerate_from (index + 1) us)))
    (free-at t index u row left
    (λ full. owner_none left u (values_at row u) (entries.is_sorted-where_key row_cmp (λ l. not (is_ahead ps t.id l)) rows h)
    (never ps t.id k row rows u all.0 found ahead full)) (list_any is_null (values_at row u)) refl)
    ∙ untaken t ps k row rows (index + 1) us h all.1 found ahead

ahead-itself : (id : ℕ) (k : List Value) (v : List ℕ) (ps : List KeyValue) → is_ahead ((row_place id k, v) ∷ ps) id k ≡ true
ahead-itself id k v ps = ap (λ b. is_some (cond b (Some v) (entries.find bytes_cmp (row_place id k) ps)))
    (sym (texts_ties (row_place id k) (row_place id k)) ∙ same-bytes (row_place id k))

-- the row comes to the others
row-added : (t : Table) (k row : List Value) (v : List ℕ) (ps : List KeyValue) → IsTableOfKeys t →
    AreSoundRows t.row t.rows → AreValues k →
    entries.find row_cmp k t.rows ≡ Some row → T (entries.below_all bytes_cmp (row_place t.row.id k) ps) →
    row_into (table_before ((row_place t.row.id k, v) ∷ ps) t) k row ≡ Some (table_before ps t)
row-added t k row v ps of sound g found below =
    let all = (row_place t.row.id k, v) ∷ ps in
    let before = table_before all t in
    let key : primary_key t.row row ≡ k = sound.keyed k row found in
    let ahead : is_ahead all t.row.id k ≡ true = ahead-itself t.row.id k v ps in
    let absent : entries.find row_cmp k before.rows ≡ None =
    found-before all t.row.id k t.rows ∙ ap (λ b. cond (not b) (entries.find row_cmp k t.rows) None) ahead in
    let free : option_or (exists_at before k) (taken_by t.row before.rows row (enumerate_from 1 (uniques_of t.row))) ≡ None =
    ap (λ o. option_or (option_map (λ r. Exists (named t.row k)) o)
    (taken_by t.row before.rows row (enumerate_from 1 (uniques_of t.row)))) absent
    ∙ untaken t.row all k row t.rows 1 (uniques_of t.row) of.rising
    (all-single (λ columns. HaveOneOwner columns t.rows) (uniques_of t.row) sound.single) found ahead in
    ap (λ b. if b then table_added (add_row before row) else None)
    (both-true _ _ (sound.fit k row found) (ap (λ x. eq_by_cmp row_cmp x k) key ∙ row_self k))
    ∙ ap (λ x. table_added (refused_by (option_or (exists_at before x)
    (taken_by t.row before.rows row (enumerate_from 1 (uniques_of t.row))))
    (record before { rows = entries.put row_cmp x row before.rows }))) key
    ∙ ap (λ o. table_added (refused_by o (record before { rows = entries.put row_cmp k row before.rows }))) free
    ∙ ap (λ rows. Some (record t { rows = rows })) (put-before t.row.id k row v ps t.rows of.keys g of.rising found below)

-- ---- one pair

-- a pair of a row of one of the tables
record IsPairOf (ts : Tables) (p : KeyValue) : Type 0 where
  table : Table
  key : List Value
  row : List Value
  among : Among table ts
  place : p.0 ≡ row_place table.row.id key
  value : p.1 ≡ bytes_of row
  found : entries.find row_cmp key table.rows ≡ Some row

-- the row of a found key has a spelling
found-row-step : (q row : List Value) (e : List Value × List Value) (rows : Rows) → AreValues e.1 →
    (entries.find row_cmp q rows ≡ Some row → AreValues row) →
    (b : Bool) → cond b (Some e.1) (entries.find row_cmp q rows) ≡ Some row → AreValues row
found-row-step q row e rows f rest true found = let same : e.1 ≡ row = cc in subst AreValues same f
found-row-step q row e rows f rest false found = rest found

found-row : (q row : List Value) (rows : Rows) → AllByRecursion IsRowOfValues rows →
    entries.find row_cmp q rows ≡ Some row → AreValues row
found-row q row [] f e = absurd (cc)
found-row q row (r ∷ rows) f e = found-row-step q row r rows f.0.1 (found-row q row rows f.1) (eq_by_cmp row_cmp q r.0) e

pair-read : (t : Table) (k row : List Value) (v : List ℕ) (ps : List KeyValue) → IsTableOfKeys t → AreSoundRows t.row t.rows →
    AreValues k → AreValues row →
    entries.find row_cmp k t.rows ≡ Some row → T (entries.below_all bytes_cmp (row_place t.row.id k) ps) →
    table_with_pair (table_before ((row_place t.row.id k, bytes_of row) ∷ ps) t) (row_place t.row.id k, bytes_of row) ≡
    Some (table_before ps t)
pair-read t k row v ps of sound g r found below =
    let before = table_before ((row_place t.row.id k, bytes_of row) ∷ ps) t in
    ap (λ o. option_and_then (λ l. option_and_then (row_into before l) (values_in (bytes_of row))) o) (values-read k g)
    ∙ ap (option_and_then (row_into before k)) (values-read row r)
    ∙ row-added t k row (bytes_of row) ps of sound g found below

pair-taken : (t : Table) (k row : List Value) (ps : List KeyValue) (ts : Tables) → AreTablesOfKeys 0 ts → AreSound ts →
    AllByRecursion IsTableOfValues ts →
    row_count ts ≤ live_row_limit → Among t ts → entries.find row_cmp k t.rows ≡ Some row →
    T (entries.below_all bytes_cmp (row_place t.row.id k) ps) →
    row_step (tables_before ((row_place t.row.id k, bytes_of row) ∷ ps) ts) (row_place t.row.id k, bytes_of row) ≡
    Some (tables_before ps ts)
pair-taken t k row ps ts of sound values few among found below =
    let all = (row_place t.row.id k, bytes_of row) ∷ ps in
    let before = tables_before all ts in
    let here = keys-among 0 t ts of among in
    let g : AreValues k = found-key k row t.rows here.keys found in
    let r : AreValues row = found-row k row t.rows (all-among IsTableOfValues t ts values among) found in
    let less : row_count before < row_count ts = some-fewer all k t ts among (ahead-itself t.row.id k (bytes_of row) ps)
    (ap is_some found) in
    let room : nat_lt (row_count before) live_row_limit ≡ true = grind (arith, nat_tests, less, few) in
    let enough : 4 ≤ length (row_place t.row.id k) = omega arith in
    let long : nat_le 4 (length (row_place t.row.id k)) ≡ true = grind (arith, nat_tests) in
    ap (λ b. if b then option_map (λ u. with_rows_of u before)
    (option_and_then (λ u. table_with_pair u (row_place t.row.id k, bytes_of row))
    (find (λ u. u.row.id == number_in w32 0 (row_place t.row.id k)) before)) else None) (both-true _ _ long room)
    ∙ ap (λ n. option_map (λ u. with_rows_of u before) (option_and_then
    (λ u. table_with_pair u (row_place t.row.id k, bytes_of row))
    (find (λ u. u.row.id == n) before))) (from_be_bytes-to_be_bytes_4 t.row.id here.id)
    ∙ ap (λ o. option_map (λ u. with_rows_of u before) (option_and_then
    (λ u. table_with_pair u (row_place t.row.id k, bytes_of row)) o))
    (find-among all 0 t ts of among)
    ∙ ap (option_map (λ u. with_rows_of u before))
    (pair-read t k row (bytes_of row) ps here (all-among (λ u. AreSoundRows u.row u.rows) t ts sound among) g r found below)
    ∙ ap (λ us. Some us) (rows-among k (bytes_of row) ps t 0 ts of among here.id)

-- ---- all pairs

pair-step : (p : KeyValue) (ps : List KeyValue) (ts : Tables) → AreTablesOfKeys 0 ts → AreSound ts →
    AllByRecursion IsTableOfValues ts →
    row_count ts ≤ live_row_limit → IsPairOf ts p → T (entries.below_all bytes_cmp p.0 ps) →
    row_step (tables_before (p ∷ ps) ts) p ≡ Some (tables_before ps ts)
pair-step p ps ts of sound values few is below =
    let same : p ≡ (row_place is.table.row.id is.key, bytes_of is.row) = λ i. (is.place i, is.value i) in
    subst (λ (x : KeyValue). row_step (tables_before (x ∷ ps) ts) x ≡ Some (tables_before ps ts)) (sym same)
    (pair-taken is.table is.key is.row ps ts of sound values few is.among is.found
    (subst (λ q. T (entries.below_all bytes_cmp q ps)) is.place below))

pairs-read : (ps : List KeyValue) (ts : Tables) → AreTablesOfKeys 0 ts → AreSound ts → AllByRecursion IsTableOfValues ts →
    row_count ts ≤ live_row_limit →
    AllByRecursion (IsPairOf ts) ps → T (entries.is_sorted bytes_cmp ps) →
    read_area 5 row_step (tables_before ps ts) ps ≡ Ok (tables_before [] ts)
pairs-read [] ts of sound values few all h = refl
pairs-read (p ∷ ps) ts of sound values few all h =
    ap (λ o. or_err o (5, p.0) >>= λ next. read_area 5 row_step next ps)
    (pair-step p ps ts of sound values few all.0 (first-of _ _ h))
    ∙ pairs-read ps ts of sound values few all.1 (second-of _ _ h)

-- ---- where no pair is ahead, and where all are

no-test : (rows : Rows) → AllByRecursion (λ (e : List Value × List Value). true ≡ true) rows
no-test [] = tt
no-test (e ∷ rows) = (refl, no-test rows)

none-ahead : (ts : Tables) → tables_before [] ts ≡ ts
none-ahead [] = refl
none-ahead (t ∷ ts) =
    let here : table_before [] t ≡ t = ap (λ rows. record t { rows = rows })
    (filter_all (λ (e : List Value × List Value). true) t.rows (no-test t.rows)) in
    let rest = none-ahead ts in
    λ i. here i ∷ rest i

abbrev AllAhead : List KeyValue → Table → Type 0
AllAhead ps t = AllByRecursion (λ (e : List Value × List Value). is_ahead ps t.row.id e.0 ≡ true) t.rows

hidden : (ps : List KeyValue) (id : ℕ) (rows : Rows) → AllByRecursion
    (λ (e : List Value × List Value). is_ahead ps id e.0 ≡ true) rows →
    AllByRecursion (λ (e : List Value × List Value). not (is_ahead ps id e.0) ≡ false) rows
hidden ps id [] all = tt
hidden ps id (e ∷ rows) all = (ap not all.0, hidden ps id rows all.1)

all-ahead : (ps : List KeyValue) (ts : Tables) → AllByRecursion (AllAhead ps) ts →
    tables_before ps ts ≡ empty_tables (definitions_of ts)
all-ahead ps [] all = refl
all-ahead ps (t ∷ ts) all =
    let here : table_before ps t ≡ record { row = t.row; rows = [] } =
    ap (λ rows. record t { rows = rows }) (filter_no (λ (e : List Value × List Value). not (is_ahead ps t.row.id e.0)) t.rows
    (hidden ps t.row.id t.rows all.0)) in
    let rest = all-ahead ps ts all.1 in
    λ i. here i ∷ rest i

-- ---- the pairs of tables are those of their rows

stays-step : (b : Bool) (v : List ℕ) (old : Option (List ℕ)) → is_some old ≡ true → is_some (cond b (Some v) old) ≡ true
stays-step true v old is = refl
stays-step false v old is = is

stays : (at : List ℕ) (id : ℕ) (rows : Rows) (old : Option (List ℕ)) → is_some old ≡ true →
    is_some (value_after_all (5, at) (map (row_item id) rows) old) ≡ true
stays at id [] old is = is
stays at id ((k, row) ∷ rows) old is = stays at id rows (cond (same_row at id k) (Some (bytes_of row)) old)
    (stays-step (same_row at id k) (bytes_of row) old is)

all-stay : (at : List ℕ) (ts : Tables) (old : Option (List ℕ)) → is_some old ≡ true →
    is_some (value_after_all (5, at) (flat_map row_items ts) old) ≡ true
all-stay at [] old is = is
all-stay at (t ∷ ts) old is =
    ap is_some (value-append (5, at) (row_items t) (flat_map row_items ts) old)
    ∙ all-stay at ts (value_after_all (5, at) (row_items t) old) (stays at t.row.id t.rows old is)

in-rows : (id : ℕ) (rows : Rows) (old : List ℕ → Option (List ℕ)) →
    AllByRecursion (λ (e : List Value × List Value). is_some
    (value_after_all (5, row_place id e.0) (map (row_item id) rows) (old (row_place id e.0))) ≡ true) rows
in-rows id [] old = tt
in-rows id ((k, row) ∷ rows) old =
    let here : same_row (row_place id k) id k ≡ true = same-bytes (row_place id k) in (
      stays (row_place id k) id rows (cond (same_row (row_place id k) id k) (Some (bytes_of row)) (old (row_place id k)))
          (ap (λ b. is_some (cond b (Some (bytes_of row)) (old (row_place id k)))) here),
      in-rows id rows (λ at. cond (same_row at id k) (Some (bytes_of row)) (old at)),
    )

after-rows : (id : ℕ) (rows others : Rows) (ts : Tables) (old : List ℕ → Option (List ℕ)) →
    AllByRecursion (λ (e : List Value × List Value). is_some
    (value_after_all (5, row_place id e.0) (map (row_item id) others) (old (row_place id e.0))) ≡ true) rows →
    AllByRecursion (λ (e : List Value × List Value). is_some
    (value_after_all (5, row_place id e.0) (map (row_item id) others ++ flat_map row_items ts) (old (row_place id e.0))) ≡
    true) rows
after-rows id [] others ts old all = tt
after-rows id (e ∷ rows) others ts old all = (
  ap is_some (value-append (5, row_place id e.0) (map (row_item id) others) (flat_map row_items ts) (old (row_place id e.0)))
      ∙ all-stay (row_place id e.0) ts (value_after_all (5, row_place id e.0) (map (row_item id) others) (old (row_place id e.0)))
      all.0,
  after-rows id rows others ts old all.1,
)

abbrev IsTold : Tables → (List ℕ → Option (List ℕ)) → Table → Type 0
IsTold all old t =
    AllByRecursion (λ (e : List Value × List Value). is_some
    (value_after_all (5, row_place t.row.id e.0) (flat_map row_items all) (old (row_place t.row.id e.0))) ≡ true) t.rows

told-behind : (t : Table) (all : Tables) (old : List ℕ → Option (List ℕ)) (u : Table) (rows : Rows) →
    AllByRecursion (λ (e : List Value × List Value). is_some (value_after_all (5, row_place u.row.id e.0) (flat_map row_items all)
    (value_after_all (5, row_place u.row.id e.0) (row_items t) (old (row_place u.row.id e.0)))) ≡ true) rows →
    AllByRecursion (λ (e : List Value × List Value). is_some
    (value_after_all (5, row_place u.row.id e.0) (flat_map row_items (t ∷ all)) (old (row_place u.row.id e.0))) ≡ true) rows
told-behind t all old u [] is = tt
told-behind t all old u (e ∷ rows) is = (
  ap is_some (value-append (5, row_place u.row.id e.0) (row_items t) (flat_map row_items all) (old (row_place u.row.id e.0))) ∙
      is.0,
  told-behind t all old u rows is.1,
)

told-more : (t : Table) (all us : Tables) (old : List ℕ → Option (List ℕ)) →
    AllByRecursion (IsTold all (λ at. value_after_all (5, at) (row_items t) (old at))) us →
    AllByRecursion (IsTold (t ∷ all) old) us
told-more t all [] old is = tt
told-more t all (u ∷ us) old is = (told-behind t all old u u.rows is.0, told-more t all us old is.1)

in-tables : (ts : Tables) (old : List ℕ → Option (List ℕ)) → AllByRecursion (IsTold ts old) ts
in-tables [] old = tt
in-tables (t ∷ ts) old = (
  after-rows t.row.id t.rows t.rows ts old (in-rows t.row.id t.rows old),
  told-more t ts ts old (in-tables ts (λ at. value_after_all (5, at) (row_items t) (old at))),
)

-- ---- each pair is that of a row

record IsRowAt (id : ℕ) (rows : Rows) (at v : List ℕ) : Type 0 where
  key : List Value
  row : List Value
  place : at ≡ row_place id key
  value : v ≡ bytes_of row
  found : entries.find row_cmp key rows ≡ Some row

not-first : (e : List Value × List Value) (rows : Rows) (k row : List Value) → T (entries.below_all row_cmp e.0 rows) →
    entries.find row_cmp k rows ≡ Some row →
    (b : Bool) → eq_by_cmp row_cmp k e.0 ≡ b → cond b (Some e.1) (entries.find row_cmp k rows) ≡ Some row
not-first e rows k row below found true is =
    let same : k ≡ e.0 = row_is k e.0 is in
    let gone : entries.find row_cmp k rows ≡ None = ap (λ q. entries.find row_cmp q rows) same ∙
    none-below row_cmp e.0 rows below in
    absurd (cc)
not-first e rows k row below found false is = found

first-found : (k row : List Value) (rows : Rows) → entries.find row_cmp k ((k, row) ∷ rows) ≡ Some row
first-found k row rows = ap (λ b. cond b (Some row) (entries.find row_cmp k rows)) (row_self k)

here-or-old : (at : List ℕ) (id : ℕ) (k row : List Value) (rows : Rows) (old : Option (List ℕ)) (v : List ℕ) → (b : Bool) →
    same_row at id k ≡ b →
    cond b (Some (bytes_of row)) old ≡ Some v → IsRowAt id ((k, row) ∷ rows) at v ⊎ (old ≡ Some v)
here-or-old at id k row rows old v true is e =
    let same : bytes_of row ≡ v = cc in
    inl (record { key = k; row = row; place = is-place at id k is; value = sym same; found = first-found k row rows })
here-or-old at id k row rows old v false is e = inr e

row-or-old : (at : List ℕ) (id : ℕ) (rows : Rows) (old : Option (List ℕ)) (v : List ℕ) → T (entries.is_sorted row_cmp rows) →
    value_after_all (5, at) (map (row_item id) rows) old ≡ Some v → IsRowAt id rows at v ⊎ (old ≡ Some v)
row-or-old at id [] old v h e = inr e
row-or-old at id ((k, row) ∷ rows) old v h e =
    elim (row-or-old at id rows (cond (same_row at id k) (Some (bytes_of row)) old) v (second-of _ _ h) e) [
      | inl is ↦ inl (record {
        key = is.key;
        row = is.row;
        place = is.place;
        value = is.value;
        found = not-first (k, row) rows is.key is.row (first-of _ _ h) is.found (eq_by_cmp row_cmp is.key k) refl;
      })
      | inr was ↦ here-or-old at id k row rows old v (same_row at id k) refl was
    ]

pair-or-old : (at : List ℕ) (least : ℕ) (ts : Tables) (old : Option (List ℕ)) (v : List ℕ) → AreTablesOfKeys least ts →
    value_after_all (5, at) (flat_map row_items ts) old ≡ Some v → IsPairOf ts (at, v) ⊎ (old ≡ Some v)
pair-or-old at least [] old v of e = inr e
pair-or-old at least (t ∷ ts) old v of e =
    elim (pair-or-old at (t.row.id + 1) ts (value_after_all (5, at) (row_items t) old) v of.1
    (sym (value-append (5, at) (row_items t) (flat_map row_items ts) old) ∙ e)) [
      | inl is ↦ inl (record {
        table = is.table;
        key = is.key;
        row = is.row;
        among = inr is.among;
        place = is.place;
        value = is.value;
        found = is.found;
      })
      | inr was ↦ elim (row-or-old at t.row.id t.rows old v of.0.1.rising was) [
        | inl is ↦ inl (record {
          table = t;
          key = is.key;
          row = is.row;
          among = inl refl;
          place = is.place;
          value = is.value;
          found = is.found;
        })
        | inr was ↦ inr was
      ]
    ]

is-pair : (at : List ℕ) (ts : Tables) (v : List ℕ) → AreTablesOfKeys 0 ts →
    value_after_all (5, at) (flat_map row_items ts) None ≡ Some v → IsPairOf ts (at, v)
is-pair at ts v of e = elim (pair-or-old at 0 ts None v of e) [ inl is ↦ is | inr was ↦ absurd (cc) ]

-- each pair of a list in order is found there
later-key : (p q : KeyValue) → T (is_lt (bytes_cmp p.0 q.0)) → (b : Bool) → eq_by_cmp bytes_cmp q.0 p.0 ≡ b → b ≡ false
later-key p q lt true is =
    let same : q.0 ≡ p.0 = bytes_is q.0 p.0 (texts_ties q.0 p.0 ∙ is) in
    absurd (subst (λ r. T (is_lt r)) (tied_itself nat_list_cmp_total p.0) (subst (λ x. T (is_lt (bytes_cmp p.0 x))) same lt))
later-key p q lt false is = refl

still-found : (p : KeyValue) (ps qs : List KeyValue) → T (entries.below_all bytes_cmp p.0 qs) →
    AllByRecursion (λ q. entries.find bytes_cmp q.0 ps ≡ Some q.1) qs →
    AllByRecursion (λ q. entries.find bytes_cmp q.0 (p ∷ ps) ≡ Some q.1) qs
still-found p ps [] h all = tt
still-found p ps (q ∷ qs) h all = (
  ap (λ b. cond b (Some p.1) (entries.find bytes_cmp q.0 ps))
      (later-key p q (first-of _ _ h) (eq_by_cmp bytes_cmp q.0 p.0) refl) ∙ all.0,
  still-found p ps qs (second-of _ _ h) all.1,
)

each-found : (ps : List KeyValue) → T (entries.is_sorted bytes_cmp ps) →
    AllByRecursion (λ q. entries.find bytes_cmp q.0 ps ≡ Some q.1) ps
each-found [] h = tt
each-found (p ∷ ps) h = (
  ap (λ b. cond b (Some p.1) (entries.find bytes_cmp p.0 ps)) (sym (texts_ties p.0 p.0) ∙ same-bytes p.0),
  still-found p ps ps (first-of _ _ h) (each-found ps (second-of _ _ h)),
)

-- ---- the pairs of tables give the tables

-- a list in order that has under each key what the items of the rows leave there
abbrev pub HasRowsOf : Tables → List KeyValue → Type 0
HasRowsOf ts ps = (at : List ℕ) → entries.find bytes_cmp at ps ≡ value_after_all (5, at) (flat_map row_items ts) None

each-pair : (ts : Tables) (all ps : List KeyValue) → AreTablesOfKeys 0 ts → HasRowsOf ts all →
    AllByRecursion (λ q. entries.find bytes_cmp q.0 all ≡ Some q.1) ps →
    AllByRecursion (IsPairOf ts) ps
each-pair ts all [] of has is = tt
each-pair ts all (p ∷ ps) of has is = (is-pair p.0 ts p.1 of (sym (has p.0) ∙ is.0), each-pair ts all ps of has is.1)

ahead-of : (ts : Tables) (ps : List KeyValue) (id : ℕ) (rows : Rows) → HasRowsOf ts ps →
    AllByRecursion (λ (e : List Value × List Value). is_some
    (value_after_all (5, row_place id e.0) (flat_map row_items ts) None) ≡ true) rows →
    AllByRecursion (λ (e : List Value × List Value). is_ahead ps id e.0 ≡ true) rows
ahead-of ts ps id [] has all = tt
ahead-of ts ps id (e ∷ rows) has all = (ap is_some (has (row_place id e.0)) ∙ all.0, ahead-of ts ps id rows has all.1)

all-are-ahead : (ts us : Tables) (ps : List KeyValue) → HasRowsOf ts ps → AllByRecursion (IsTold ts (λ at. None)) us →
    AllByRecursion (AllAhead ps) us
all-are-ahead ts [] ps has all = tt
all-are-ahead ts (u ∷ us) ps has all = (ahead-of ts ps u.row.id u.rows has all.0, all-are-ahead ts us ps has all.1)

pub rows-read : (ts : Tables) (ps : List KeyValue) → AreTablesOfKeys 0 ts → AreSound ts → AllByRecursion IsTableOfValues ts →
    row_count ts ≤ live_row_limit →
    T (entries.is_sorted bytes_cmp ps) → HasRowsOf ts ps → read_area 5 row_step (empty_tables (definitions_of ts)) ps ≡ Ok ts
rows-read ts ps of sound values few h has =
    ap (λ us. read_area 5 row_step us ps) (sym (all-ahead ps ts (all-are-ahead ts ts ps has (in-tables ts (λ at. None)))))
    ∙ pairs-read ps ts of sound values few (each-pair ts ps ps of has (each-found ps h)) h
    ∙ ap (λ us. Ok us) (none-ahead ts)
