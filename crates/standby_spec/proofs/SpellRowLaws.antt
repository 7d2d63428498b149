-- Laws of spelling rows again: pairs that give tables leave under each place what the items of the tables' rows leave there.
use Rattle.std.proofs.Common.{◌≡◌, ℕ, zero, suc, ◌+◌, ◌^◌, ◌<◌, ◌≤◌, List, [], ◌∷◌, ◌++◌, map, length, take, drop, true, false, refl, sym, ap, ◌∙◌, subst, Option, Some, None, is_some, Ok, Err, Result, arith}
use Rattle.std.specs.Prelude.{◌&&◌, ◌==◌, nat_le, nat_lt, if◌then◌else◌}
use Rattle.std.proofs.Math.Dec.{T}
use Rattle.std.proofs.lemmas.Bool.Decides.{nat_tests}
use Rattle.std.proofs.lemmas.List.{take-append-drop}
use Rattle.std.specs.Int.{w32}
use Rattle.std.specs.List.{flat_map, find, enumerate_from, AllByRecursion}
use Rattle.std.specs.Option.{option_map, option_and_then, option_or}
use Rattle.std.specs.Ordering.{eq_by_cmp}
use Rattle.std.specs.FinMap.Entries as entries
use Rattle.rl_value.specs.declared.value.Value.{Value}
use Rattle.rl_value.specs.declared.miss.Miss.{Miss}
use Rattle.rl_value.specs.Order.{row_cmp, bytes_cmp}
use Rattle.rl_value.specs.Outcome.{refused_by}
use Rattle.rl_ports.specs.declared.batch.Item.TheVariants.{Put}
use Rattle.redo_vec.specs.declared.table.TableRow.{TableRow}
use Rattle.redo_vec.specs.Cutting.{number_in}
use Rattle.redo_vec.specs.Ranges.{AreBytes}
use Rattle.redo_vec.specs.Reading.{value_at}
use Rattle.redo_vec.specs.Spelling.{be32, value}
use Rattle.redo_vec.proofs.ChangeLaws.{value_sound}
use Rattle.redo_spec.specs.ChangeForm.{is_row_of}
use Rattle.redo_spec.specs.Dictionary.{table_of, uniques_of}
use Rattle.redo_spec.specs.Effect.{taken_by, exists_at, add_row}
use Rattle.redo_spec.specs.Fold.{live_row_limit}
use Rattle.redo_spec.specs.Tables.{Table, Tables, row_count, empty_tables, definitions_of, primary_key}
use Rattle.row_apply.specs.declared.writes.Write.{Write}
use Rattle.row_apply.specs.Overlaid.{table_after, overlaid}
use Rattle.row_apply.proofs.Orders.{row_is}
use Rattle.standby_spec.specs.Layout.{row_place, row_items}
use Rattle.standby_spec.specs.HasLayout.{AreValues}
use Rattle.standby_spec.specs.Loading.{KeyValue, read_area, after_value, values_within, values_in, table_added, row_into, with_rows_of, table_with_pair, row_step}
use Rattle.standby_spec.proofs.AreaLaws.{put_items}
use Rattle.redo_spec.proofs.FieldLaws.{bytes_fit, are_bytes, spelled4, drop_fits, below32}
use Rattle.standby_spec.proofs.ItemLaws.{written-tables, same-definitions}
use Rattle.standby_spec.proofs.ReadLaws.{table_pair}
use Rattle.standby_spec.proofs.RowLaws.{bytes_of, AreTablesOfKeys, lesser, write-leaves}
use Rattle.standby_spec.proofs.SpellLaws.{ArePairsOfBytes, if-given, then-given, map-given, ok-same, step-given, number-less}
use Rattle.standby_spec.proofs.StoreLaws.{and-left, and-right, first-of, second-of, same_nat, value_after_all, value-append}

-- ---- values

values-spelled : (n : ℕ) (bytes : List ℕ) (vs : List Value) → AreBytes bytes → values_within n bytes ≡ Some vs → AreValues vs ×
    (bytes ≡ flat_map value vs)
values-spelled n [] vs f e = let none : [] ≡ vs = cc in (subst AreValues none tt, ap (flat_map value) none)
values-spelled zero (b ∷ bytes) vs f e = absurd (cc)
values-spelled (suc n) (b ∷ bytes) vs f e =
    elim (value_at 0 (b ∷ bytes)) as (λ r. value_at 0 (b ∷ bytes) ≡ r → after_value r (values_within n) ≡ Some vs → AreValues vs ×
    (b ∷ bytes ≡ flat_map value vs)) [
      | Ok x ↦ λ is given.
          let a = map-given (λ us. x.0 ∷ us) (values_within n x.1) vs given in
          let sound = value_sound 0 (b ∷ bytes) x (bytes_fit (b ∷ bytes) f) is in
          let rest = values-spelled n x.1 a.0 (are_bytes x.1 sound.0.rest_fits) a.1.0 in
          let back = rest.1 in
          (subst AreValues a.1.1 (sound.1, rest.0), sound.0.parts ∙ ap (λ ys. value x.0 ++ ys) back ∙ ap (flat_map value) a.1.1)
      | Err fault ↦ λ is given. absurd (cc)
    ] refl e

-- ---- one row

added-is : (r : Result Table Miss) (t : Table) → table_added r ≡ Some t → r ≡ Ok t
added-is (Ok u) t e = let same : u ≡ t = cc in ap (λ x. Ok x) same
added-is (Err miss) t e = absurd (cc)

unrefused : (refusal : Option Miss) (x y : Table) → refused_by refusal x ≡ Ok y → x ≡ y
unrefused None x y e = cc
unrefused (Some r) x y e = absurd (cc)

find-id : (id : ℕ) (t : Table) (ts : Tables) → find (λ u. u.row.id == id) ts ≡ Some t → t.row.id ≡ id
find-id id t [] e = absurd (cc)
find-id id t (u ∷ us) e =
    elim (u.row.id == id) as (λ b. (u.row.id == id) ≡ b → (if b then Some u else find (λ x. x.row.id == id) us) ≡ Some t →
    t.row.id ≡ id) [
      | true ↦ λ is given. let same : u ≡ t = cc in ap (λ (x : Table). x.row.id) (sym same) ∙ same_nat u.row.id id is
      | false ↦ λ other given. find-id id t us given
    ] refl e

find-there : (id : ℕ) (t : Table) (ts : Tables) → find (λ u. u.row.id == id) ts ≡ Some t →
    is_some (table_of (definitions_of ts) id) ≡ true
find-there id t [] e = absurd (cc)
find-there id t (u ∷ us) e =
    elim (u.row.id == id) as (λ b. (if b then Some u else find (λ x. x.row.id == id) us) ≡ Some t →
    is_some (if b then Some u.row else table_of (definitions_of us) id) ≡ true) [
      | true ↦ λ given. refl
      | false ↦ λ given. find-there id t us given
    ] e

same_id : (m n : ℕ) → m ≡ n → (m == n) ≡ true
same_id m n e = grind (arith, nat_tests)

apart_above : (m n : ℕ) → m < n → (n == m) ≡ false
apart_above m n lt = grind (arith, nat_tests)

turned_id : (m n : ℕ) → (m == n) ≡ false → (n == m) ≡ false
turned_id m n e = grind (arith, nat_tests)

later-stay : (x : Table) (least : ℕ) (ts : Tables) → AreTablesOfKeys least ts → x.row.id < least → with_rows_of x ts ≡ ts
later-stay x least [] of lt = refl
later-stay x least (u ∷ us) of lt =
    let low : least ≤ u.row.id = of.0.0 in
    let here : (if u.row.id == x.row.id then x else u) ≡ u =
    ap (λ b. if b then x else u) (apart_above x.row.id u.row.id (omega (arith, low, lt))) in
    let rest = later-stay x (u.row.id + 1) us of.1 (omega (arith, low, lt)) in
    λ i. here i ∷ rest i

abbrev put_in : Table → List Value → List Value → Table
put_in t k row = record t { rows = entries.put row_cmp k row t.rows }

abbrev write_in : ℕ → List Value → List Value → Write
write_in id k row = record { table = id; key = k; row = Some row }

with-overlaid : (id : ℕ) (k row : List Value) (t : Table) (least : ℕ) (ts : Tables) → AreTablesOfKeys least ts →
    find (λ u. u.row.id == id) ts ≡ Some t →
    with_rows_of (put_in t k row) ts ≡ overlaid ts (write_in id k row ∷ [])
with-overlaid id k row t least [] of e = absurd (cc)
with-overlaid id k row t least (u ∷ us) of e =
    elim (u.row.id == id) as (λ b. (u.row.id == id) ≡ b → (if b then Some u else find (λ x. x.row.id == id) us) ≡ Some t →
    with_rows_of (put_in t k row) (u ∷ us) ≡ overlaid (u ∷ us) (write_in id k row ∷ [])) [
      | true ↦ λ is given.
          let same : u ≡ t = cc in
          let at : u.row.id ≡ id = same_nat u.row.id id is in
          let id_t : u.row.id ≡ t.row.id = ap (λ (x : Table). x.row.id) same in
          let here : (if u.row.id == t.row.id then put_in t k row else u) ≡ table_after (write_in id k row ∷ []) u =
          ap (λ b. if b then put_in t k row else u) (same_id u.row.id t.row.id id_t)
          ∙ ap (λ x. put_in x k row) (sym same)
          ∙ sym (ap (λ b. record u { rows = if b then entries.put row_cmp k row u.rows else u.rows })
          (same_id id u.row.id (sym at))) in
          let rest : with_rows_of (put_in t k row) us ≡ overlaid us (write_in id k row ∷ []) =
          later-stay (put_in t k row) (u.row.id + 1) us of.1 (omega (arith, id_t))
          ∙ sym (lesser (write_in id k row) (u.row.id + 1) us of.1 (omega (arith, at))) in
          λ i. here i ∷ rest i
      | false ↦ λ other given.
          let at : t.row.id ≡ id = find-id id t us given in
          let here : (if u.row.id == t.row.id then put_in t k row else u) ≡ table_after (write_in id k row ∷ []) u =
          ap (λ b. if b then put_in t k row else u) (ap (λ n. u.row.id == n) at ∙ other)
          ∙ sym (ap (λ b. record u { rows = if b then entries.put row_cmp k row u.rows else u.rows })
          (turned_id u.row.id id other)) in
          let rest = with-overlaid id k row t (u.row.id + 1) us of.1 given in
          λ i. here i ∷ rest i
    ] refl e

-- a pair that is taken is that of a write, whose tables are what it gives
record IsWriteOf (ts next : Tables) (p : KeyValue) : Type 0 where
  id : ℕ
  key : List Value
  row : List Value
  fits : id < 2 ^ 32
  values : AreValues key
  there : is_some (table_of (definitions_of ts) id) ≡ true
  place : p.0 ≡ row_place id key
  value : p.1 ≡ bytes_of row
  gives : next ≡ overlaid ts (write_in id key row ∷ [])

row-taken : (ts next : Tables) (p : KeyValue) → AreTablesOfKeys 0 ts → AreBytes p.0 → AreBytes p.1 → row_step ts p ≡ Some next →
    IsWriteOf ts next p
row-taken ts next (key, bytes) of f g e =
    let id = number_in w32 0 key in
    let a = if-given (nat_le 4 (length key) && nat_lt (row_count ts) live_row_limit)
    (option_map (λ t. with_rows_of t ts) (option_and_then (λ t. table_with_pair t (key, bytes)) (find (λ t. t.row.id == id) ts)))
    next e in
    let b = map-given (λ t. with_rows_of t ts) (option_and_then (λ t. table_with_pair t (key, bytes))
    (find (λ t. t.row.id == id) ts)) next a.1 in
    let c = then-given (λ t. table_with_pair t (key, bytes)) (find (λ t. t.row.id == id) ts) b.0 b.1.0 in
    let d = then-given (λ k. option_and_then (row_into c.0 k) (values_in bytes)) (values_in (drop 4 key)) b.0 c.1.1 in
    let r = then-given (row_into c.0 d.0) (values_in bytes) b.0 d.1.1 in
    let h = if-given (is_row_of c.0.row.columns r.0 && eq_by_cmp row_cmp (primary_key c.0.row r.0) d.0)
    (table_added (add_row c.0 r.0)) b.0 r.1.1 in
    let own : primary_key c.0.row r.0 ≡ d.0 =
    row_is (primary_key c.0.row r.0) d.0 (and-right (is_row_of c.0.row.columns r.0)
    (eq_by_cmp row_cmp (primary_key c.0.row r.0) d.0) h.0) in
    let put : put_in c.0 (primary_key c.0.row r.0) r.0 ≡ b.0 =
    unrefused (option_or (exists_at c.0 (primary_key c.0.row r.0))
    (taken_by c.0.row c.0.rows r.0 (enumerate_from 1 (uniques_of c.0.row))))
    (put_in c.0 (primary_key c.0.row r.0) r.0) b.0 (added-is (add_row c.0 r.0) b.0 h.1) in
    let enough : nat_le 4 (length key) ≡ true = and-left (nat_le 4 (length key)) (nat_lt (row_count ts) live_row_limit) a.0 in
    let long : 4 ≤ length key = grind (arith, nat_tests) in
    let front : take 4 key ≡ be32 id = spelled4 0 key (bytes_fit key f) (omega (arith, long)) in
    let rest = values-spelled (length (drop 4 key)) (drop 4 key) d.0
    (are_bytes (drop 4 key) (drop_fits 4 key (bytes_fit key f))) d.1.0 in
    let back = rest.1 in
    record {
      id = id;
      key = d.0;
      row = r.0;
      fits = below32 key (bytes_fit key f);
      values = rest.0;
      there = find-there id c.0 ts c.1.0;
      place = sym (take-append-drop 4 key) ∙ (λ i. front i ++ back i);
      value = (values-spelled (length bytes) bytes r.0 g r.1.0).1;
      gives = sym b.1.1 ∙ ap (λ t. with_rows_of t ts) (sym put ∙ ap (λ k. put_in c.0 k r.0) own) ∙
          with-overlaid id d.0 r.0 c.0 0 ts of c.1.0;
    }

-- ---- all rows

pub rows-spelled : (ts : Tables) (ps : List KeyValue) (next : Tables) → ArePairsOfBytes ps → AreTablesOfKeys 0 ts →
    read_area 5 row_step ts ps ≡ Ok next → (at : List ℕ) →
    value_after_all (5, at) (flat_map row_items next) None ≡
    value_after_all (5, at) (put_items 5 ps) (value_after_all (5, at) (flat_map row_items ts) None)
rows-spelled ts [] next f of e at = ap (λ us. value_after_all (5, at) (flat_map row_items us) None) (sym (ok-same ts next e))
rows-spelled ts (p ∷ ps) next f of e at =
    let a = step-given 5 row_step ts next p ps e in
    let w = row-taken ts a.0 p of f.0.0 f.0.1 a.1.0 in
    let write = write_in w.id w.key w.row in
    let fits : AreTablesOfKeys 0 a.0 = subst (AreTablesOfKeys 0) (sym w.gives) (written-tables write 0 ts of w.values) in
    let same : p ≡ (row_place w.id w.key, bytes_of w.row) = λ i. (w.place i, w.value i) in
    rows-spelled a.0 ps next f.1 fits a.1.1 at
    ∙ ap (λ us. value_after_all (5, at) (put_items 5 ps) (value_after_all (5, at) (flat_map row_items us) None)) w.gives
    ∙ sym (ap (value_after_all (5, at) (put_items 5 ps)) (write-leaves at write ts of w.fits w.values w.there))
    ∙ ap (value_after_all (5, at) (put_items 5 ps)) (value-append (5, at) (flat_map row_items ts)
    (Put 5 (row_place w.id w.key) (bytes_of w.row) ∷ []) None)
    ∙ ap (λ (x : KeyValue). value_after_all (5, at) (put_items 5 (x ∷ ps)) (value_after_all (5, at) (flat_map row_items ts) None))
    (sym same)

pub rows-definitions : (ts : Tables) (ps : List KeyValue) (next : Tables) → ArePairsOfBytes ps → AreTablesOfKeys 0 ts →
    read_area 5 row_step ts ps ≡ Ok next →
    definitions_of next ≡ definitions_of ts
rows-definitions ts [] next f of e = ap definitions_of (sym (ok-same ts next e))
rows-definitions ts (p ∷ ps) next f of e =
    let a = step-given 5 row_step ts next p ps e in
    let w = row-taken ts a.0 p of f.0.0 f.0.1 a.1.0 in
    let write = write_in w.id w.key w.row in
    let fits : AreTablesOfKeys 0 a.0 = subst (AreTablesOfKeys 0) (sym w.gives) (written-tables write 0 ts of w.values) in
    rows-definitions a.0 ps next f.1 fits a.1.1 ∙ ap definitions_of w.gives ∙ same-definitions (write ∷ []) ts

-- ---- tables without rows

pub empty-definitions : (ds : List TableRow) → definitions_of (empty_tables ds) ≡ ds
empty-definitions [] = refl
empty-definitions (d ∷ ds) = ap (λ x. d ∷ x) (empty-definitions ds)

empty-behind : (m : ℕ) (ds : List TableRow) → m < 2 ^ 32 → AllByRecursion (λ t. t.id < 2 ^ 32) ds →
    T (entries.below_all bytes_cmp (be32 m) (map table_pair ds)) →
    T (entries.is_sorted bytes_cmp (map table_pair ds)) → AreTablesOfKeys (m + 1) (empty_tables ds)
empty-behind m [] f all below h = tt
empty-behind m (d ∷ ds) f all below h =
    let above : m < d.id = number-less m d.id f all.0 (first-of _ _ below) in (
      (omega (arith, above), record { id = all.0; rising = tt; keys = tt }),
      empty-behind d.id ds all.0 all.1 (first-of _ _ h) (second-of _ _ h),
    )

pub empty-keys : (ds : List TableRow) → AllByRecursion (λ t. t.id < 2 ^ 32) ds →
    T (entries.is_sorted bytes_cmp (map table_pair ds)) → AreTablesOfKeys 0 (empty_tables ds)
empty-keys [] all h = tt
empty-keys (d ∷ ds) all h = (
  (omega arith, record { id = all.0; rising = tt; keys = tt }),
  empty-behind d.id ds all.0 all.1 (first-of _ _ h) (second-of _ _ h),
)

pub empty-left : (at : List ℕ) (ds : List TableRow) (old : Option (List ℕ)) →
    value_after_all (5, at) (flat_map row_items (empty_tables ds)) old ≡ old
empty-left at [] old = refl
empty-left at (d ∷ ds) old = empty-left at ds old
