-- Laws of the pairs of rows: what writes leave of a table's rows has the pairs that their items leave of its pairs.
use Rattle.std.proofs.Common.{◌≡◌, ℕ, ◌+◌, ◌^◌, ◌<◌, ◌≤◌, List, [], ◌∷◌, ◌++◌, map, Bool, true, false, cond, not, refl, sym, ap, ◌∙◌, subst, Option, Some, None, is_some, arith}
use Rattle.std.specs.Prelude.{◌==◌, if◌then◌else◌}
use Rattle.std.proofs.Math.Dec.{T}
use Rattle.std.specs.List.{flat_map, AllByRecursion}
use Rattle.std.specs.declared.cmp.Ordering.{Ordering}
use Rattle.std.specs.declared.cmp.Ordering.TheVariants.{Less, Equal, Greater}
use Rattle.std.specs.Ordering.{is_lt, eq_by_cmp}
use Rattle.std.specs.FinMap.Entries as entries
use Rattle.std.specs.FinMap.Entries.{by_order}
use Rattle.std.proofs.lemmas.Bool.Decides.{nat_tests}
use Rattle.rl_value.specs.declared.value.Value.{Value}
use Rattle.rl_value.specs.Order.{row_cmp, row_total}
use Rattle.rl_ports.specs.Store.{same_place}
use Rattle.redo_vec.specs.Spelling.{value}
use Rattle.redo_spec.specs.Dictionary.{table_of}
use Rattle.redo_spec.specs.Tables.{Rows, Table, Tables, definitions_of}
use Rattle.redo_spec.specs.Work.{write_row}
use Rattle.row_apply.specs.declared.writes.Write.{Write}
use Rattle.row_apply.specs.Overlaid.{table_after, overlaid}
use Rattle.row_apply.proofs.Orders.{equal, row_same, row_is, row_self}
use Rattle.standby_spec.specs.Layout.{row_place, row_item, row_items}
use Rattle.standby_spec.specs.Writings.{write_item, write_item_of}
use Rattle.standby_spec.specs.HasLayout.{AreValues}
use Rattle.standby_spec.proofs.PlaceLaws.{table-same, key-same}
use Rattle.standby_spec.proofs.StoreLaws.{both-true, first-of, second-of, from_T, to_T, same_nat, place_is, value_after, value_after_all, value-append}

-- the keys of rows are values that have a spelling
abbrev pub AreKeysOfValues : Rows → Type 0
AreKeysOfValues rows = AllByRecursion (λ r. AreValues r.0) rows

abbrev pub bytes_of : List Value → List ℕ
bytes_of row = flat_map value row

-- what a write leaves under its place, where this stood there
abbrev pub left_by : Option (List Value) → Option (List ℕ) → Option (List ℕ)
left_by None old = old
left_by (Some row) old = Some (bytes_of row)

abbrev pub same_row : List ℕ → ℕ → List Value → Bool
same_row at id key = same_place (5, at) (5, row_place id key)

-- ---- places of rows that differ

pub is-place : (at : List ℕ) (id : ℕ) (key : List Value) → same_row at id key ≡ true → at ≡ row_place id key
is-place at id key e = ap (λ (p : ℕ × List ℕ). p.1) (place_is (5, at) (5, row_place id key) e)

less-itself : (k : List Value) → T (is_lt (row_cmp k k)) → ⊥
less-itself k h = subst (λ r. T (is_lt r)) (equal (row_cmp k k) (row_self k)) h

-- under the place of a lesser key the rows above it leave what stands there
other-key : (at : List ℕ) (id : ℕ) (k l : List Value) → AreValues k → AreValues l → at ≡ row_place id k →
    (k ≡ l → ⊥) → (t : Bool) → same_row at id l ≡ t → t ≡ false
other-key at id k l f g e apart true is = absurd (apart (key-same id id k l f g (sym e ∙ is-place at id l is)))
other-key at id k l f g e apart false is = refl

below-left : (at : List ℕ) (id : ℕ) (k : List Value) (rows : Rows) → AreValues k → AreKeysOfValues rows → at ≡ row_place id k →
    T (entries.below_all row_cmp k rows) → (old : Option (List ℕ)) → value_after_all (5, at) (map (row_item id) rows) old ≡ old
below-left at id k [] f g e h old = refl
below-left at id k ((l, row) ∷ rows) f g e h old =
    let apart : (k ≡ l → ⊥) = λ same. less-itself k (subst (λ x. T (is_lt (row_cmp k x))) (sym same) (first-of _ _ h)) in
    ap (λ b. value_after_all (5, at) (map (row_item id) rows) (cond b (Some (bytes_of row)) old))
    (other-key at id k l f g.0 e apart (same_row at id l) refl)
    ∙ below-left at id k rows f g.1 e (second-of _ _ h) old

-- rows of another table leave it too
other-table : (at : List ℕ) (m n : ℕ) (k l : List Value) → m < 2 ^ 32 → n < 2 ^ 32 → at ≡ row_place m k → (m == n) ≡ false →
    (t : Bool) → same_row at n l ≡ t → t ≡ false
other-table at m n k l f g e apart true is =
    let same : m ≡ n = table-same m n k l f g (sym e ∙ is-place at n l is) in
    let like : (m == n) ≡ true = grind (arith, nat_tests) in
    sym like ∙ apart
other-table at m n k l f g e apart false is = refl

table-left-at : (at : List ℕ) (m n : ℕ) (k : List Value) (rows : Rows) → m < 2 ^ 32 → n < 2 ^ 32 → at ≡ row_place m k →
    (m == n) ≡ false → (old : Option (List ℕ)) → value_after_all (5, at) (map (row_item n) rows) old ≡ old
table-left-at at m n k [] f g e apart old = refl
table-left-at at m n k ((l, row) ∷ rows) f g e apart old =
    ap (λ b. value_after_all (5, at) (map (row_item n) rows) (cond b (Some (bytes_of row)) old))
    (other-table at m n k l f g e apart (same_row at n l) refl)
    ∙ table-left-at at m n k rows f g e apart old

-- ---- one row written

less : (r : Ordering) → T (is_lt r) → r ≡ Less
less Less h = refl
less Equal h = absurd h
less Greater h = absurd h

below-less : (k l : List Value) (rows : Rows) → row_cmp k l ≡ Less → T (entries.below_all row_cmp l rows) →
    T (entries.below_all row_cmp k rows)
below-less k l [] is h = tt
below-less k l ((m, row) ∷ rows) is h =
    let next : row_cmp k m ≡ Less = row_total.trans k l m is (less (row_cmp l m) (first-of _ _ h)) in
    to_T _ (both-true _ _ (ap is_lt next) (from_T _ (below-less k l rows is (second-of _ _ h))))

below-first : (k l row : List Value) (rows : Rows) → row_cmp k l ≡ Less → T (entries.below_all row_cmp l rows) →
    T (entries.below_all row_cmp k ((l, row) ∷ rows))
below-first k l row rows is h = to_T _ (both-true _ _ (ap is_lt is) (from_T _ (below-less k l rows is h)))

same-both : {A : Type 0} (b : Bool) (x : A) → x ≡ cond b x x
same-both true x = refl
same-both false x = refl

differs : (k l : List Value) → eq_by_cmp row_cmp k l ≡ false → k ≡ l → ⊥
differs k l is same = let like : eq_by_cmp row_cmp k l ≡ true = ap (eq_by_cmp row_cmp k) (sym same) ∙ row_self k in absurd (cc)

put-step : (at : List ℕ) (id : ℕ) (k v l row : List Value) (rows : Rows) (old : Option (List ℕ)) → AreValues k → AreValues l →
    AreKeysOfValues rows → T (entries.below_all row_cmp l rows) →
    ((o : Option (List ℕ)) → value_after_all (5, at) (map (row_item id) (entries.put row_cmp k v rows)) o
    ≡ cond (same_row at id k) (Some (bytes_of v)) (value_after_all (5, at) (map (row_item id) rows) o)) →
    (r : Ordering) → row_cmp k l ≡ r → (t : Bool) → same_row at id k ≡ t →
    value_after_all (5, at) (map (row_item id) (by_order r ((k, v) ∷ (l, row) ∷ rows) ((l, v) ∷ rows)
    ((l, row) ∷ entries.put row_cmp k v rows))) old
    ≡ cond t (Some (bytes_of v)) (value_after_all (5, at) (map (row_item id) ((l, row) ∷ rows)) old)
put-step at id k v l row rows old f g more b h Less is true e =
    let below : T (entries.below_all row_cmp k ((l, row) ∷ rows)) = below-first k l row rows is b in
    ap (λ t. value_after_all (5, at) (map (row_item id) ((l, row) ∷ rows)) (cond t (Some (bytes_of v)) old)) e
    ∙ below-left at id k ((l, row) ∷ rows) f (g, more) (is-place at id k e) below (Some (bytes_of v))
put-step at id k v l row rows old f g more b h Less is false e =
    ap (λ t. value_after_all (5, at) (map (row_item id) ((l, row) ∷ rows)) (cond t (Some (bytes_of v)) old)) e
put-step at id k v l row rows old f g more b h Equal is true e =
    let same : k ≡ l = row_same k l is in
    ap (λ t. value_after_all (5, at) (map (row_item id) rows) (cond t (Some (bytes_of v)) old))
    (ap (same_row at id) (sym same) ∙ e)
    ∙ below-left at id l rows g more (is-place at id k e ∙ ap (row_place id) same) b (Some (bytes_of v))
put-step at id k v l row rows old f g more b h Equal is false e =
    let same : k ≡ l = row_same k l is in
    ap (λ t. value_after_all (5, at) (map (row_item id) rows) (cond t (Some (bytes_of v)) old))
    (ap (same_row at id) (sym same) ∙ e)
    ∙ sym (ap (λ t. value_after_all (5, at) (map (row_item id) rows) (cond t (Some (bytes_of row)) old))
    (ap (same_row at id) (sym same) ∙ e))
put-step at id k v l row rows old f g more b h Greater is true e =
    h (cond (same_row at id l) (Some (bytes_of row)) old)
    ∙ ap (λ t. cond t (Some (bytes_of v)) (value_after_all (5, at) (map (row_item id) ((l, row) ∷ rows)) old)) e
put-step at id k v l row rows old f g more b h Greater is false e =
    h (cond (same_row at id l) (Some (bytes_of row)) old)
    ∙ ap (λ t. cond t (Some (bytes_of v)) (value_after_all (5, at) (map (row_item id) ((l, row) ∷ rows)) old)) e

put-rows : (at : List ℕ) (id : ℕ) (k v : List Value) (rows : Rows) (old : Option (List ℕ)) → AreValues k → AreKeysOfValues rows →
    T (entries.is_sorted row_cmp rows) → value_after_all (5, at) (map (row_item id) (entries.put row_cmp k v rows)) old
    ≡ cond (same_row at id k) (Some (bytes_of v)) (value_after_all (5, at) (map (row_item id) rows) old)
put-rows at id k v [] old f g h = refl
put-rows at id k v ((l, row) ∷ rows) old f g h = put-step at id k v l row rows old f g.0 g.1 (first-of _ _ h)
    (λ o. put-rows at id k v rows o f g.1 (second-of _ _ h)) (row_cmp k l) refl (same_row at id k) refl

-- the row under a key taken away
drop-step : (at : List ℕ) (id : ℕ) (k l row : List Value) (rows : Rows) (old : Option (List ℕ)) → AreValues k → AreValues l →
    AreKeysOfValues rows →
    ((o : Option (List ℕ)) → value_after_all (5, at) (map (row_item id)
    (entries.where_key row_cmp (λ x. not (eq_by_cmp row_cmp k x)) rows)) o
    ≡ cond (same_row at id k) o (value_after_all (5, at) (map (row_item id) rows) o)) → (r : Bool) → eq_by_cmp row_cmp k l ≡ r →
    (t : Bool) → same_row at id k ≡ t →
    value_after_all (5, at) (map (row_item id) (cond (not r)
    ((l, row) ∷ entries.where_key row_cmp (λ x. not (eq_by_cmp row_cmp k x)) rows)
    (entries.where_key row_cmp (λ x. not (eq_by_cmp row_cmp k x)) rows))) old
    ≡ cond t old (value_after_all (5, at) (map (row_item id) ((l, row) ∷ rows)) old)
drop-step at id k l row rows old f g more h true is true e =
    h old
    ∙ ap (λ t. cond t old (value_after_all (5, at) (map (row_item id) rows) old)) e
drop-step at id k l row rows old f g more h true is false e =
    let same : k ≡ l = row_is k l is in
    h old
    ∙ ap (λ t. cond t old (value_after_all (5, at) (map (row_item id) rows) old)) e
    ∙ sym (ap (λ t. value_after_all (5, at) (map (row_item id) rows) (cond t (Some (bytes_of row)) old))
    (ap (same_row at id) (sym same) ∙ e))
drop-step at id k l row rows old f g more h false is true e =
    let apart : (k ≡ l → ⊥) = λ same. differs k l is same in
    h (cond (same_row at id l) (Some (bytes_of row)) old)
    ∙ ap (λ t. cond t (cond (same_row at id l) (Some (bytes_of row)) old)
    (value_after_all (5, at) (map (row_item id) ((l, row) ∷ rows)) old)) e
    ∙ ap (λ t. cond t (Some (bytes_of row)) old) (other-key at id k l f g (is-place at id k e) apart (same_row at id l) refl)
drop-step at id k l row rows old f g more h false is false e =
    h (cond (same_row at id l) (Some (bytes_of row)) old)
    ∙ ap (λ t. cond t (cond (same_row at id l) (Some (bytes_of row)) old)
    (value_after_all (5, at) (map (row_item id) ((l, row) ∷ rows)) old)) e

drop-rows : (at : List ℕ) (id : ℕ) (k : List Value) (rows : Rows) (old : Option (List ℕ)) → AreValues k → AreKeysOfValues rows →
    value_after_all (5, at) (map (row_item id) (entries.where_key row_cmp (λ x. not (eq_by_cmp row_cmp k x)) rows)) old
    ≡ cond (same_row at id k) old (value_after_all (5, at) (map (row_item id) rows) old)
drop-rows at id k [] old f g = same-both (same_row at id k) old
drop-rows at id k ((l, row) ∷ rows) old f g = drop-step at id k l row rows old f g.0 g.1
    (λ o. drop-rows at id k rows o f g.1) (eq_by_cmp row_cmp k l) refl (same_row at id k) refl

-- a row written, or taken away
write-rows : (at : List ℕ) (id : ℕ) (k : List Value) (v : Option (List Value)) (rows : Rows) (old : Option (List ℕ)) →
    AreValues k →
    AreKeysOfValues rows → T (entries.is_sorted row_cmp rows) →
    value_after_all (5, at) (map (row_item id) (write_row rows k v)) old
    ≡ cond (same_row at id k) (left_by v old) (value_after_all (5, at) (map (row_item id) rows) old)
write-rows at id k None rows old f g h = drop-rows at id k rows old f g
write-rows at id k (Some v) rows old f g h = put-rows at id k v rows old f g h

-- ---- tables

-- tables of which this law speaks: ids rise from this one on and fit their field, rows rise, keys have a spelling
pub record IsTableOfKeys (t : Table) : Type 0 where
  pub id : t.row.id < 2 ^ 32
  pub rising : T (entries.is_sorted row_cmp t.rows)
  pub keys : AreKeysOfValues t.rows

abbrev pub AreTablesOfKeys : ℕ → Tables → Type 0
AreTablesOfKeys least [] = Unit {0}
AreTablesOfKeys least (t ∷ ts) = ((least ≤ t.row.id) × IsTableOfKeys t) × AreTablesOfKeys (t.row.id + 1) ts

-- a table of a lesser id is none of these
pub lesser : (w : Write) (least : ℕ) (ts : Tables) → AreTablesOfKeys least ts → w.table < least → overlaid ts (w ∷ []) ≡ ts
lesser w least [] of lt = refl
lesser w least (t ∷ ts) of lt =
    let low : least ≤ t.row.id = of.0.0 in
    let apart : (w.table == t.row.id) ≡ false = grind (arith, nat_tests) in
    let here : table_after (w ∷ []) t ≡ t = ap (λ b. record t { rows = if b then write_row t.rows w.key w.row else t.rows }) apart
    in
    let rest : overlaid ts (w ∷ []) ≡ ts = lesser w (t.row.id + 1) ts of.1 (omega (arith, low, lt)) in
    λ i. here i ∷ rest i

lesser-left : (at : List ℕ) (m least : ℕ) (k : List Value) (ts : Tables) → AreTablesOfKeys least ts → m < least → m < 2 ^ 32 →
    at ≡ row_place m k → (old : Option (List ℕ)) → value_after_all (5, at) (flat_map row_items ts) old ≡ old
lesser-left at m least k [] of lt f e old = refl
lesser-left at m least k (t ∷ ts) of lt f e old =
    let low : least ≤ t.row.id = of.0.0 in
    let apart : (m == t.row.id) ≡ false = grind (arith, nat_tests) in
    value-append (5, at) (row_items t) (flat_map row_items ts) old
    ∙ ap (value_after_all (5, at) (flat_map row_items ts)) (table-left-at at m t.row.id k t.rows f of.0.1.id e apart old)
    ∙ lesser-left at m (t.row.id + 1) k ts of.1 (omega (arith, low, lt)) f e old

-- what the rows of the table leave, and then those of the others, where the write is of this table
table-here : (at : List ℕ) (w : Write) (t : Table) (old : Option (List ℕ)) → IsTableOfKeys t → AreValues w.key →
    (t.row.id == w.table) ≡ true →
    value_after_all (5, at) (row_items (table_after (w ∷ []) t)) old
    ≡ cond (same_row at w.table w.key) (left_by w.row old) (value_after_all (5, at) (row_items t) old)
table-here at w t old of g is =
    let same : t.row.id ≡ w.table = same_nat t.row.id w.table is in
    let like : (w.table == t.row.id) ≡ true = grind (arith, nat_tests) in
    ap (λ b. value_after_all (5, at) (map (row_item t.row.id) (if b then write_row t.rows w.key w.row else t.rows)) old) like
    ∙ write-rows at t.row.id w.key w.row t.rows old g of.keys of.rising
    ∙ ap (λ id. cond (same_row at id w.key) (left_by w.row old) (value_after_all (5, at) (row_items t) old)) same

table-step : (at : List ℕ) (w : Write) (least : ℕ) (t : Table) (ts : Tables) (old : Option (List ℕ)) →
    AreTablesOfKeys least (t ∷ ts) →
    w.table < 2 ^ 32 → AreValues w.key →
    ((o : Option (List ℕ)) → is_some (table_of (definitions_of ts) w.table) ≡ true →
    value_after_all (5, at) (flat_map row_items (overlaid ts (w ∷ []))) o
    ≡ cond (same_row at w.table w.key) (left_by w.row o) (value_after_all (5, at) (flat_map row_items ts) o)) → (b : Bool) →
    (t.row.id == w.table) ≡ b →
    is_some (cond b (Some t.row) (table_of (definitions_of ts) w.table)) ≡ true → (e : Bool) → same_row at w.table w.key ≡ e →
    value_after_all (5, at) (flat_map row_items (overlaid (t ∷ ts) (w ∷ []))) old
    ≡ cond e (left_by w.row old) (value_after_all (5, at) (flat_map row_items (t ∷ ts)) old)
table-step at w least t ts old of f g h true is there true e =
    let same : t.row.id ≡ w.table = same_nat t.row.id w.table is in
    value-append (5, at) (row_items (table_after (w ∷ []) t)) (flat_map row_items (overlaid ts (w ∷ []))) old
    ∙ ap (λ us. value_after_all (5, at) (flat_map row_items us)
    (value_after_all (5, at) (row_items (table_after (w ∷ []) t)) old))
    (lesser w (t.row.id + 1) ts of.1 (omega (arith, same)))
    ∙ ap (value_after_all (5, at) (flat_map row_items ts)) (table-here at w t old of.0.1 g is)
    ∙ ap (λ b. value_after_all (5, at) (flat_map row_items ts)
    (cond b (left_by w.row old) (value_after_all (5, at) (row_items t) old))) e
    ∙ lesser-left at w.table (t.row.id + 1) w.key ts of.1 (omega (arith, same)) f (is-place at w.table w.key e)
    (left_by w.row old)
table-step at w least t ts old of f g h true is there false e =
    let same : t.row.id ≡ w.table = same_nat t.row.id w.table is in
    value-append (5, at) (row_items (table_after (w ∷ []) t)) (flat_map row_items (overlaid ts (w ∷ []))) old
    ∙ ap (λ us. value_after_all (5, at) (flat_map row_items us)
    (value_after_all (5, at) (row_items (table_after (w ∷ []) t)) old))
    (lesser w (t.row.id + 1) ts of.1 (omega (arith, same)))
    ∙ ap (value_after_all (5, at) (flat_map row_items ts)) (table-here at w t old of.0.1 g is)
    ∙ ap (λ b. value_after_all (5, at) (flat_map row_items ts)
    (cond b (left_by w.row old) (value_after_all (5, at) (row_items t) old))) e
    ∙ sym (value-append (5, at) (row_items t) (flat_map row_items ts) old)
table-step at w least t ts old of f g h false is there true e =
    let like : (w.table == t.row.id) ≡ false = grind (arith, nat_tests) in
    let here : table_after (w ∷ []) t ≡ t = ap (λ b. record t { rows = if b then write_row t.rows w.key w.row else t.rows }) like
    in
    value-append (5, at) (row_items (table_after (w ∷ []) t)) (flat_map row_items (overlaid ts (w ∷ []))) old
    ∙ ap (λ u. value_after_all (5, at) (flat_map row_items (overlaid ts (w ∷ []))) (value_after_all (5, at) (row_items u) old))
    here
    ∙ h (value_after_all (5, at) (row_items t) old) there
    ∙ ap (λ b. cond b (left_by w.row (value_after_all (5, at) (row_items t) old))
    (value_after_all (5, at) (flat_map row_items ts) (value_after_all (5, at) (row_items t) old))) e
    ∙ ap (left_by w.row) (table-left-at at w.table t.row.id w.key t.rows f of.0.1.id (is-place at w.table w.key e) like old)
table-step at w least t ts old of f g h false is there false e =
    let like : (w.table == t.row.id) ≡ false = grind (arith, nat_tests) in
    let here : table_after (w ∷ []) t ≡ t = ap (λ b. record t { rows = if b then write_row t.rows w.key w.row else t.rows }) like
    in
    value-append (5, at) (row_items (table_after (w ∷ []) t)) (flat_map row_items (overlaid ts (w ∷ []))) old
    ∙ ap (λ u. value_after_all (5, at) (flat_map row_items (overlaid ts (w ∷ []))) (value_after_all (5, at) (row_items u) old))
    here
    ∙ h (value_after_all (5, at) (row_items t) old) there
    ∙ ap (λ b. cond b (left_by w.row (value_after_all (5, at) (row_items t) old))
    (value_after_all (5, at) (flat_map row_items ts) (value_after_all (5, at) (row_items t) old))) e
    ∙ sym (value-append (5, at) (row_items t) (flat_map row_items ts) old)

tables-write : (at : List ℕ) (w : Write) (least : ℕ) (ts : Tables) (old : Option (List ℕ)) → AreTablesOfKeys least ts →
    w.table < 2 ^ 32 →
    AreValues w.key → is_some (table_of (definitions_of ts) w.table) ≡ true →
    value_after_all (5, at) (flat_map row_items (overlaid ts (w ∷ []))) old
    ≡ cond (same_row at w.table w.key) (left_by w.row old) (value_after_all (5, at) (flat_map row_items ts) old)
tables-write at w least [] old of f g there = absurd (cc)
tables-write at w least (t ∷ ts) old of f g there =
    table-step at w least t ts old of f g (λ o some. tables-write at w (t.row.id + 1) ts o of.1 f g some) (t.row.id == w.table)
    refl there (same_row at w.table w.key) refl

-- the item of a write leaves of the pairs of rows those of the rows after it
item-left : (at : List ℕ) (table : ℕ) (key : List Value) (v : Option (List Value)) (old : Option (List ℕ)) →
    value_after (5, at) (write_item_of table key v) old ≡ cond (same_row at table key) (left_by v None) old
item-left at table key None old = refl
item-left at table key (Some v) old = refl

left-none : (v : Option (List Value)) → left_by v None ≡ left_by v None
left-none v = refl

pub write-leaves : (at : List ℕ) (w : Write) (ts : Tables) → AreTablesOfKeys 0 ts → w.table < 2 ^ 32 → AreValues w.key →
    is_some (table_of (definitions_of ts) w.table) ≡ true →
    value_after_all (5, at) (flat_map row_items ts ++ write_item w ∷ []) None ≡
    value_after_all (5, at) (flat_map row_items (overlaid ts (w ∷ []))) None
write-leaves at w ts of f g there =
    value-append (5, at) (flat_map row_items ts) (write_item w ∷ []) None
    ∙ item-left at w.table w.key w.row (value_after_all (5, at) (flat_map row_items ts) None)
    ∙ sym (tables-write at w 0 ts None of f g there)
