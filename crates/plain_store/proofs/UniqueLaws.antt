-- Unique values of rows: what it means that a row has one, that one row has it, and that the index answers which.
use Rattle.std.proofs.Common.{◌≡◌, ℕ, zero, suc, ◌+◌, ◌<◌, length, List, [], ◌∷◌, refl, sym, ap, subst, ◌∙◌, T, Bool, true, false, cond, ◌&&◌, ◌||◌, ◌==◌, arith, Option, Some, None, if◌then◌else◌, slice_get, unwrap_or, get_or, drop}
use Rattle.std.specs.FinMap.Entries as entries
use Rattle.std.specs.List.{list_any}
use Rattle.std.specs.Option.{IfSome}
use Rattle.std.specs.Ordering.{eq_by_cmp}
use Rattle.rl_value.specs.declared.value.Value.{Value}
use Rattle.rl_value.specs.declared.key.Key.{Key}
use Rattle.rl_value.specs.Order.{row_cmp, key_cmp}
use Rattle.redo_vec.specs.declared.table.TableRow.{TableRow}
use Rattle.redo_spec.specs.ConflictKeys.{is_null}
use Rattle.redo_spec.specs.Dictionary.{uniques_of, table_of}
use Rattle.redo_spec.specs.Tables.{Rows, RowsById, rows_by, assembled, values_at, owner_in}
use Rattle.row_apply.specs.Found.{key_columns}
use Rattle.row_apply.specs.Soundness.{AreSound, AreSoundRows}
use Rattle.row_apply.proofs.Orders.{key_is, key_self, row_is, row_self}
use Rattle.row_apply.proofs.Owners.{owner_is, owner_none}
use Rattle.plain_store.specs.Beneath.{Beneath}
use Rattle.plain_store.specs.Unique.{lead_of, unique_at, is_value_of, has_from, has_unique, lead_with, lead_without, is_lead, LeadsToRows, IsIndexed}
use Rattle.plain_store.specs.declared.unique_index.UniqueIndex.{UniqueIndex}
use Rattle.plain_store.proofs.TableLaws.{equal_numbers}

-- ---- one unique value more, in each call that goes through the keys of a table

entered_twice : (a b : Bool) (key : List Value) (o : Option (List Value)) →
    lead_with b key (lead_with a key o) ≡ lead_with (a || b) key o
entered_twice true true key o = refl
entered_twice true false key o = refl
entered_twice false b key o = refl

pub entered_more : (old new : Key → Option (List Value)) (id number : ℕ) (columns : List ℕ) (more : List (List ℕ))
    (key row : List Value) (u : Option Key) → u ≡ unique_at id number columns row →
    ((q : Key) → new q ≡ lead_with (is_value_of q u) key (old q)) → (q : Key) →
    lead_with (has_from id (number + 1) more row q) key (new q) ≡
    lead_with (has_from id number (columns ∷ more) row q) key (old q)
entered_more old new id number columns more key row u same is q =
    ap (lead_with (has_from id (number + 1) more row q) key) (is q ∙ ap (λ v. lead_with (is_value_of q v) key (old q)) same)
    ∙ entered_twice (is_value_of q (unique_at id number columns row)) (has_from id (number + 1) more row q) key (old q)

left_by : (a b c : Bool) (key : List Value) (o : Option (List Value)) → is_lead key o ≡ c →
    lead_without b key (cond (a && c) None o) ≡ cond ((a || b) && c) None o
left_by true true true key o e = refl
left_by true false true key o e = refl
left_by true true false key o e = ap (λ t. cond t None o) e
left_by true false false key o e = refl
left_by false true c key o e = ap (λ t. cond t None o) e
left_by false false c key o e = refl

pub left_more : (old new : Key → Option (List Value)) (id number : ℕ) (columns : List ℕ) (more : List (List ℕ))
    (key row : List Value) (u : Option Key) → u ≡ unique_at id number columns row →
    ((q : Key) → new q ≡ lead_without (is_value_of q u) key (old q)) → (q : Key) →
    lead_without (has_from id (number + 1) more row q) key (new q) ≡
    lead_without (has_from id number (columns ∷ more) row q) key (old q)
left_more old new id number columns more key row u same is q =
    ap (lead_without (has_from id (number + 1) more row q) key) (is q ∙ ap (λ v. lead_without (is_value_of q v) key (old q)) same)
    ∙ left_by (is_value_of q (unique_at id number columns row)) (has_from id (number + 1) more row q) (is_lead key (old q))
    key (old q) refl

-- a value that leads there leads nowhere once it is taken out
pub left_own : (old : Key → Option (List Value)) (u : Key) (key : List Value) → is_lead key (old u) ≡ true → (q : Key) →
    cond (eq_by_cmp key_cmp u q) None (old q) ≡ lead_without (eq_by_cmp key_cmp u q) key (old q)
left_own old u key there q =
    elim (eq_by_cmp key_cmp u q) as (λ b. eq_by_cmp key_cmp u q ≡ b →
    cond b None (old q) ≡ cond (b && is_lead key (old q)) None (old q)) [
      | true ↦ λ b. sym (ap (λ t. cond t None (old q)) (ap (λ k. is_lead key (old k)) (sym (key_is u q b)) ∙ there))
      | false ↦ λ b. refl
    ] refl

-- and one that leads elsewhere stays
pub left_other : (old : Key → Option (List Value)) (u : Key) (key : List Value) → is_lead key (old u) ≡ false → (q : Key) →
    old q ≡ lead_without (eq_by_cmp key_cmp u q) key (old q)
left_other old u key elsewhere q =
    elim (eq_by_cmp key_cmp u q) as (λ b. eq_by_cmp key_cmp u q ≡ b → old q ≡ cond (b && is_lead key (old q)) None (old q)) [
      | true ↦ λ b. sym (ap (λ t. cond t None (old q)) (ap (λ k. is_lead key (old k)) (sym (key_is u q b)) ∙ elsewhere))
      | false ↦ λ b. refl
    ] refl

-- ---- a row that has a unique value

-- the columns at which it has it, and the value
pub record Has (id number : ℕ) (uniques : List (List ℕ)) (row : List Value) (q : Key) : Type 0 where
  pub at : ℕ
  pub columns : List ℕ
  pub there : slice_get uniques at ≡ Some columns
  pub full : list_any is_null (values_at row columns) ≡ false
  pub key : q ≡ record { table = id; index = number + at; values = values_at row columns }

has_later : (id number : ℕ) (columns : List ℕ) (more : List (List ℕ)) (row : List Value) (q : Key) →
    Has id (number + 1) more row q → Has id number (columns ∷ more) row q
has_later id number columns more row q p =
    let place : (number + 1) + p.at ≡ number + suc p.at = omega arith in
    record {
      at = suc p.at;
      columns = p.columns;
      there = p.there;
      full = p.full;
      key = p.key ∙ ap (λ (m : ℕ). record { table = id; index = m; values = values_at row p.columns }) place;
    }

pub has_is : (id number : ℕ) (uniques : List (List ℕ)) (row : List Value) (q : Key) → has_from id number uniques row q ≡ true →
    Has id number uniques row q
has_is id number [] row q e = absurd (cc)
has_is id number (columns ∷ more) row q e =
    let k : Key = record { table = id; index = number; values = values_at row columns } in
    elim (list_any is_null (values_at row columns)) as (λ n. list_any is_null (values_at row columns) ≡ n →
    (is_value_of q (if n then None else Some k) || has_from id (number + 1) more row q) ≡ true →
    Has id number (columns ∷ more) row q) [
      | true ↦ λ n h. has_later id number columns more row q (has_is id (number + 1) more row q h)
      | false ↦ λ n h.
          elim (eq_by_cmp key_cmp k q) as (λ b. eq_by_cmp key_cmp k q ≡ b → (b || has_from id (number + 1) more row q) ≡ true →
          Has id number (columns ∷ more) row q) [
            | true ↦ λ b h.
                let place : number ≡ number + 0 = omega arith in
                record {
                  at = 0;
                  columns = columns;
                  there = refl;
                  full = n;
                  key = sym (key_is k q b) ∙ ap (λ (m : ℕ). record { table = id; index = m; values = values_at row columns })
                      place;
                }
            | false ↦ λ b h. has_later id number columns more row q (has_is id (number + 1) more row q h)
          ] refl h
    ] refl e

or_first : (a b : Bool) → a ≡ true → (a || b) ≡ true
or_first true b e = refl
or_first false b e = absurd (cc)

or_second : (a b : Bool) → b ≡ true → (a || b) ≡ true
or_second true b e = refl
or_second false b e = e

pub is_had : (id number : ℕ) (uniques : List (List ℕ)) (row : List Value) (q : Key) (at : ℕ) (columns : List ℕ) →
    slice_get uniques at ≡ Some columns → list_any is_null (values_at row columns) ≡ false →
    q ≡ record { table = id; index = number + at; values = values_at row columns } → has_from id number uniques row q ≡ true
is_had id number [] row q at columns there full key = absurd (cc)
is_had id number (u ∷ us) row q zero columns there full key =
    let same : u ≡ columns = cc in
    let place : number + 0 ≡ number = omega arith in
    let k : Key = record { table = id; index = number; values = values_at row u } in
    let is : q ≡ k = key ∙ (λ i. record { table = id; index = place i; values = values_at row (sym same i) }) in
    let none : list_any is_null (values_at row u) ≡ false = ap (λ c. list_any is_null (values_at row c)) same ∙ full in
    or_first (is_value_of q (unique_at id number u row)) (has_from id (number + 1) us row q)
    (ap (λ n. is_value_of q (if n then None else Some k)) none ∙ ap (eq_by_cmp key_cmp k) is ∙ key_self k)
is_had id number (u ∷ us) row q (suc at) columns there full key =
    let place : number + suc at ≡ (number + 1) + at = omega arith in
    or_second (is_value_of q (unique_at id number u row)) (has_from id (number + 1) us row q)
    (is_had id (number + 1) us row q at columns there full
    (key ∙ ap (λ (m : ℕ). record { table = id; index = m; values = values_at row columns }) place))

-- the value is of the table
pub has_table : (t : TableRow) (row : List Value) (q : Key) → has_unique t row q ≡ true → q.table ≡ t.id
has_table t row q e = ap (λ k. k.table) (has_is t.id 1 (uniques_of t) row q e).key

one_place : (i j : ℕ) → 1 + i ≡ 1 + j → i ≡ j
one_place i j e = omega (arith, e)

-- one row has it
pub one_has : (t : TableRow) (rows : Rows) (key other row like : List Value) (q : Key) → AreSoundRows t rows →
    entries.find row_cmp key rows ≡ Some row → entries.find row_cmp other rows ≡ Some like →
    has_unique t row q ≡ true → has_unique t like q ≡ true → key ≡ other
one_has t rows key other row like q sound found like_found has like_has =
    let a = has_is t.id 1 (uniques_of t) row q has in
    let b = has_is t.id 1 (uniques_of t) like q like_has in
    let keys : record { table = t.id; index = 1 + a.at; values = values_at row a.columns } ≡
    record { table = t.id; index = 1 + b.at; values = values_at like b.columns } = sym a.key ∙ b.key in
    let place : a.at ≡ b.at = one_place a.at b.at (ap (λ (k : Key). k.index) keys) in
    let lists : Some a.columns ≡ Some b.columns = sym a.there ∙ ap (slice_get (uniques_of t)) place ∙ b.there in
    let columns : b.columns ≡ a.columns = ap (λ (o : Option (List ℕ)). unwrap_or o []) (sym lists) in
    let values : values_at row a.columns ≡ values_at like b.columns = ap (λ (k : Key). k.values) keys in
    sound.single a.at a.columns a.there key other row like found like_found a.full (values ∙ ap (values_at like) columns)

-- ---- which row has it

item_there : {A : Type 0} (xs : List A) (i : ℕ) (or : A) → i < length xs → slice_get xs i ≡ Some (unwrap_or (slice_get xs i) or)
item_there [] i or inside = absurd (omega (arith, inside))
item_there (x ∷ xs) zero or inside = refl
item_there (x ∷ xs) (suc i) or inside = item_there xs i or (omega (arith, inside))

pub record Place (keys : List (List ℕ)) (number : ℕ) : Type 0 where
  pub at : ℕ
  pub number_is : number ≡ 1 + at
  pub there : slice_get (drop 1 keys) at ≡ Some (unwrap_or (slice_get keys number) [])

pub place_of : (keys : List (List ℕ)) (number : ℕ) → 0 < number → number < length keys → Place keys number
place_of keys zero some inside = absurd (omega (arith, some))
place_of [] (suc at) some inside = absurd (omega (arith, inside))
place_of (k ∷ ks) (suc at) some inside = record {
  at = at;
  number_is = omega arith;
  there = item_there ks at [] (omega (arith, inside));
}

-- a row with the values has the unique value
pub values_had : (t : TableRow) (row : List Value) (q : Key) → q.table ≡ t.id → 0 < q.index → q.index < length t.keys →
    list_any is_null q.values ≡ false → values_at row (key_columns t q.index) ≡ q.values → has_unique t row q ≡ true
values_had t row q table some inside full values =
    let p = place_of t.keys q.index some inside in
    is_had t.id 1 (uniques_of t) row q p.at (key_columns t q.index) p.there (ap (list_any is_null) values ∙ full)
    (λ i. record { table = table i; index = p.number_is i; values = sym values i })

-- where no row that the value leads to has it, no row has
pub none_owns_it : (t : TableRow) (rows : Rows) (index : UniqueIndex) (q : Key) → AreSoundRows t rows → LeadsToRows t rows index →
    q.table ≡ t.id → 0 < q.index → q.index < length t.keys → list_any is_null q.values ≡ false →
    ((key row : List Value) → lead_of index q ≡ Some key → entries.find row_cmp key rows ≡ Some row →
    values_at row (key_columns t q.index) ≡ q.values → ⊥) → owner_in rows (key_columns t q.index) q.values ≡ None
none_owns_it t rows index q sound indexed table some inside full never =
    owner_none rows (key_columns t q.index) q.values (subst T (sym sound.rising) tt) (λ key row found values.
    never key row (indexed key row q found (values_had t row q table some inside full values)) found values)

pub leads_nowhere : (t : TableRow) (rows : Rows) (index : UniqueIndex) (q : Key) → AreSoundRows t rows →
    LeadsToRows t rows index → q.table ≡ t.id → 0 < q.index → q.index < length t.keys → list_any is_null q.values ≡ false →
    lead_of index q ≡ None → owner_in rows (key_columns t q.index) q.values ≡ None
leads_nowhere t rows index q sound indexed table some inside full none =
    none_owns_it t rows index q sound indexed table some inside full
    (λ key row lead found values. let both : Some key ≡ None = sym lead ∙ none in absurd (cc))

pub leads_to_none : (t : TableRow) (rows : Rows) (index : UniqueIndex) (q : Key) (to : List Value) → AreSoundRows t rows →
    LeadsToRows t rows index → q.table ≡ t.id → 0 < q.index → q.index < length t.keys → list_any is_null q.values ≡ false →
    lead_of index q ≡ Some to → entries.find row_cmp to rows ≡ None → owner_in rows (key_columns t q.index) q.values ≡ None
leads_to_none t rows index q to sound indexed table some inside full is gone =
    none_owns_it t rows index q sound indexed table some inside full (λ key row lead found values.
    let leads_on : Some key ≡ Some to = sym lead ∙ is in
    let same : key ≡ to = cc in
    let both : Some row ≡ None = sym found ∙ ap (λ k. entries.find row_cmp k rows) same ∙ gone in
    absurd (cc))

pub leads_to_other : (t : TableRow) (rows : Rows) (index : UniqueIndex) (q : Key) (to there : List Value) → AreSoundRows t rows →
    LeadsToRows t rows index → q.table ≡ t.id → 0 < q.index → q.index < length t.keys →
    list_any is_null q.values ≡ false → lead_of index q ≡ Some to → entries.find row_cmp to rows ≡ Some there →
    eq_by_cmp row_cmp (values_at there (key_columns t q.index)) q.values ≡ false →
    owner_in rows (key_columns t q.index) q.values ≡ None
leads_to_other t rows index q to there sound indexed table some inside full is stands differs =
    none_owns_it t rows index q sound indexed table some inside full (λ key row lead found values.
    let leads_on : Some key ≡ Some to = sym lead ∙ is in
    let same : key ≡ to = cc in
    let rows_same : Some row ≡ Some there = sym found ∙ ap (λ k. entries.find row_cmp k rows) same ∙ stands in
    let one : row ≡ there = cc in
    let ties : eq_by_cmp row_cmp (values_at there (key_columns t q.index)) q.values ≡ true =
    ap (λ r. eq_by_cmp row_cmp (values_at r (key_columns t q.index)) q.values) (sym one) ∙
    ap (λ v. eq_by_cmp row_cmp v q.values) values ∙ row_self q.values in
    absurd (cc))

pub leads_to_owner : (t : TableRow) (rows : Rows) (q : Key) (to there : List Value) → AreSoundRows t rows → 0 < q.index →
    q.index < length t.keys → list_any is_null q.values ≡ false →
    entries.find row_cmp to rows ≡ Some there → eq_by_cmp row_cmp (values_at there (key_columns t q.index)) q.values ≡ true →
    owner_in rows (key_columns t q.index) q.values ≡ Some to
leads_to_owner t rows q to there sound some inside full stands ties =
    let p = place_of t.keys q.index some inside in
    owner_is rows (key_columns t q.index) q.values to there (subst T (sym sound.rising) tt)
    (sound.single p.at (key_columns t q.index) p.there) full stands
    (row_is (values_at there (key_columns t q.index)) q.values ties)

-- ---- the tables of a dictionary

pub table_id : (ts : List TableRow) (id : ℕ) (t : TableRow) → table_of ts id ≡ Some t → t.id ≡ id
table_id [] id t e = absurd (cc)
table_id (u ∷ us) id t e =
    elim (u.id == id) as (λ b. (u.id == id) ≡ b → cond b (Some u) (table_of us id) ≡ Some t → t.id ≡ id) [
      | true ↦ λ b h. let same : u ≡ t = cc in sym (ap (λ (v : TableRow). v.id) same) ∙ equal_numbers u.id id b
      | false ↦ λ b h. table_id us id t h
    ] refl e

-- each table's rows are sound
pub sound_rows : (ts : List TableRow) (by : RowsById) (id : ℕ) (t : TableRow) → AreSound (assembled ts by) →
    table_of ts id ≡ Some t → AreSoundRows t (rows_by by id)
sound_rows [] by id t sound e = absurd (cc)
sound_rows (u ∷ us) by id t sound e =
    elim (u.id == id) as (λ b. (u.id == id) ≡ b → cond b (Some u) (table_of us id) ≡ Some t → AreSoundRows t (rows_by by id)) [
      | true ↦ λ b h.
          let same : u ≡ t = cc in
          let number : u.id ≡ id = equal_numbers u.id id b in
          let P : TableRow → Type 0 = λ v. AreSoundRows v (rows_by by id) in
          let Q : ℕ → Type 0 = λ i. AreSoundRows u (rows_by by i) in
          subst P same (subst Q number sound.0)
      | false ↦ λ b h. sound_rows us by id t sound.1 h
    ] refl e

-- ---- what a look-up finds beneath a change

-- the item at an index that is inside
pub keyed : (keys : List (List ℕ)) (index : ℕ) (columns : List ℕ) → index < length keys → columns ≡ get_or keys index columns →
    unwrap_or (slice_get keys index) [] ≡ columns
keyed [] index columns inside is = absurd (omega (arith, inside))
keyed (k ∷ ks) zero columns inside is = sym is
keyed (k ∷ ks) (suc index) columns inside is = keyed ks index columns (omega (arith, inside)) is

pub inside_key : (o : Option TableRow) (u : TableRow) (index : ℕ) → o ≡ Some u → IfSome o (λ t. index < length t.keys) →
    index < length u.keys
inside_key o u index is inside = let P : Option TableRow → Type 0 =
    λ p. IfSome p (λ t. index < length t.keys) in subst P is inside

pub indexed_beneath : (before b : Beneath) (index : UniqueIndex) (t : TableRow) (id : ℕ) → before ≡ b →
    IsIndexed before.dictionary.tables before.rows index → table_of b.dictionary.tables id ≡ Some t →
    LeadsToRows t (rows_by b.rows id) index
indexed_beneath before b index t id same indexed there =
    let P : Beneath → Type 0 = λ v. IsIndexed v.dictionary.tables v.rows index in
    subst P same indexed id t there
