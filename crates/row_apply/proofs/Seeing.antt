-- What is found where some rows were written over others.
use Rattle.std.proofs.Common.{◌≡◌, ℕ, ◌+◌, ◌<◌, zero, suc, List, [], ◌∷◌, length, refl, sym, ap, subst, ◌∙◌, Bool, true, false, ◌&&◌, ◌==◌, arith, Option, Some, None, if◌then◌else◌, slice_get, drop, unwrap_or, get_or}
use Rattle.std.specs.List.{list_any}
use Rattle.std.specs.Option.{IfSome}
use Rattle.std.specs.FinMap.Entries as entries
use Rattle.std.proofs.lemmas.Bool.Decides.{nat_tests}
use Rattle.rl_value.specs.declared.value.Value.{Value}
use Rattle.rl_value.specs.declared.key.Key.{Key}
use Rattle.rl_value.specs.Order.{row_cmp}
use Rattle.redo_vec.specs.declared.table.TableRow.{TableRow}
use Rattle.redo_spec.specs.ConflictKeys.{is_null}
use Rattle.redo_spec.specs.Dictionary.{table_of}
use Rattle.redo_spec.specs.Tables.{Tables, values_at, owner_in, definitions_of}
use Rattle.row_apply.specs.declared.written.Written.{Written}
use Rattle.redo_spec.specs.Work.{rows_of, row_at}
use Rattle.row_apply.specs.Found.{owner_of}
use Rattle.row_apply.specs.Kept.{Slots, Owners, row_key, unique_key, slot_at, owner_at, indexed_at, IsLive, AreSlots, AreIndexed, OneLive, rows_seen}
use Rattle.row_apply.specs.KeptIn.{slots_of, owners_of, indexed_of, IsKept}
use Rattle.row_apply.specs.Soundness.{AreSoundRows, HaveOneOwner}
use Rattle.row_apply.specs.Adding.{rows_without, owner_unless, if_beneath, owns, slot_has, if_owns, written_owner, goes, OwnsWritten, IsUnowned, IsUnownedBut, HasIndex, IsReady}
use Rattle.row_apply.proofs.Effects.{owner_of-in, sound_base}
use Rattle.row_apply.proofs.Fitting.{three}
use Rattle.row_apply.proofs.Owners.{unless_none, owner_written, owner_nowhere, owner_beneath, found_live}
use Rattle.row_apply.proofs.Shapes.{has_at-is, is-has_at}
use Rattle.row_apply.proofs.Slots.{over, find_after, to_T}

-- the row found is the written one, or else the one beneath
pub found_seen : (tables : Tables) (es : Slots) (t : TableRow) (key : Key) → AreSlots es → key ≡ row_key t.id key.values →
    entries.find row_cmp key.values (rows_seen tables es t) ≡ over (slot_at es key) (row_at tables key)
found_seen tables es t key a named =
    find_after es t.id key.values (rows_of tables t.id) a.primary a.ordered
    ∙ (λ i. over (slot_at es (sym named i)) (row_at tables (sym named i)))

-- ---- the index answers right

same_number : (a b : ℕ) → (a == b) ≡ true → a ≡ b
same_number a b e = grind (arith, nat_tests)

-- what it answers owns the value
slot_owns : (S : Option (Option (List Value))) (columns : List ℕ) (values : List Value) → slot_has S columns values ≡ true →
    (row : List Value) × ((S ≡ Some (Some row)) × (values_at row columns ≡ values))
slot_owns None columns values e = absurd (cc)
slot_owns (Some None) columns values e = absurd (cc)
slot_owns (Some (Some row)) columns values e = (row, (refl, has_at-is row columns values e))

owned : (es : Slots) (key owner : Key) (columns : List ℕ) → owns es key columns owner ≡ true →
    OwnsWritten es key.table columns key.values owner.values
owned es key owner columns e =
    let p = three (owner.table == key.table) (owner.index == 0) (slot_has (slot_at es owner) columns key.values) e in
    let table = same_number owner.table key.table p.0 in
    let index = same_number owner.index 0 p.1 in
    let s = slot_owns (slot_at es owner) columns key.values p.2 in
    (s.0, (ap (slot_at es) (λ i. record { table = sym table i; index = sym index i; values = owner.values }) ∙ s.1.0, s.1.1))

pub written_owns : (es : Slots) (key : Key) (columns : List ℕ) (found : Option Key) (owner : List Value) →
    if_owns es key columns found ≡ Some owner → OwnsWritten es key.table columns key.values owner
written_owns es key columns None owner e = absurd (cc)
written_owns es key columns (Some k) owner e =
    elim (owns es key columns k) as (λ b. owns es key columns k ≡ b → (if b then Some k.values else None) ≡ Some owner →
    OwnsWritten es key.table columns key.values owner) [
      | true ↦ λ t h. let same : k.values ≡ owner = cc in
          subst (λ (v : List Value). OwnsWritten es key.table columns key.values v) same (owned es key k columns t)
      | false ↦ λ t h. absurd (cc)
    ] refl e

-- where it answers none, nobody that was written does
self_number : (a : ℕ) → (a == a) ≡ true
self_number a = grind (arith, nat_tests)

has_slot : (S : Option (Option (List Value))) (row : List Value) (columns : List ℕ) (values : List Value) → S ≡ Some (Some row) →
    values_at row columns ≡ values → slot_has S columns values ≡ true
has_slot S row columns values s v = ap (λ (o : Option (Option (List Value))). slot_has o columns values) s ∙
    is-has_at row columns values v

all_three : (a b c : Bool) → a ≡ true → b ≡ true → c ≡ true → (a && b && c) ≡ true
all_three true true true p q r = refl
all_three true true false p q r = r
all_three true false c p q r = absurd (cc)
all_three false b c p q r = absurd (cc)

pub owner_told : (es : Slots) (key : Key) (columns : List ℕ) (found : Option Key) (k row : List Value) →
    found ≡ Some (row_key key.table k) → IsLive es key.table k row → values_at row columns ≡ key.values →
    if_owns es key columns found ≡ Some k
owner_told es key columns found k row is live v =
    let owner = row_key key.table k in
    ap (if_owns es key columns) is
    ∙ ap (λ b. if b then Some k else None) (all_three (key.table == key.table) (0 == 0)
    (slot_has (slot_at es owner) columns key.values) (self_number key.table) refl
    (has_slot (slot_at es owner) row columns key.values live v))

indexed_unique : (es : Slots) (owners : Owners) (indexed : List (ℕ × List (List ℕ))) (t : TableRow) (table index : ℕ)
    (keys : List (List ℕ)) (values : List Value) (columns : List ℕ) → AreIndexed es owners indexed →
    indexed_at indexed t.id ≡ Some keys → table ≡ t.id → 0 < index → slice_get keys index ≡ Some columns →
    list_any is_null values ≡ false →
    (k row : List Value) → IsLive es table k row → values_at row columns ≡ values →
    owner_at owners (unique_key table index values) ≡ Some (row_key table k)
indexed_unique es owners indexed t table zero keys values columns was at same some s full k row live v =
    absurd (omega (arith, some))
indexed_unique es owners indexed t table (suc i) [] values columns was at same some s full k row live v = absurd (cc)
indexed_unique es owners indexed t table (suc i) (first ∷ keys) values columns was at same some s full k row live v =
    let number : 1 + i ≡ suc i = omega arith in
    let here : owner_at owners (unique_key table (1 + i) (values_at row columns)) ≡ Some (row_key table k) =
    was table (first ∷ keys) (ap (indexed_at indexed) same ∙ at) k row i columns live s (ap (list_any is_null) v ∙ full) in
    sym (λ j. owner_at owners (unique_key table (number j) (v j))) ∙ here

pub untold : (es : Slots) (owners : Owners) (indexed : List (ℕ × List (List ℕ))) (t : TableRow) (key : Key) (columns : List ℕ) →
    AreIndexed es owners indexed → indexed_at indexed t.id ≡ Some t.keys → key.table ≡ t.id →
    0 < key.index → slice_get t.keys key.index ≡ Some columns → list_any is_null key.values ≡ false →
    written_owner es owners key columns ≡ None → IsUnowned es key.table columns key.values
untold es owners indexed t key columns was at same some s full none k row live v =
    let told : written_owner es owners key columns ≡ Some k =
    owner_told es key columns (owner_at owners key) k row
    (indexed_unique es owners indexed t key.table key.index t.keys key.values columns was at same some s full k row live v)
    live v in
    cc

-- no written row that stays has a unique value, where the index knows of none but the one that goes
module _ (w : Written) (t : TableRow) (key : Key) (columns : List ℕ) (gone : Option (List Value)) (kept : IsKept w)
    (at : HasIndex w t) (same : key.table ≡ t.id) (some : 0 < key.index)
    (s : slice_get t.keys key.index ≡ Some columns) (full : list_any is_null key.values ≡ false) where
  pub unowned_none : written_owner (slots_of w) (owners_of w) key columns ≡ None →
      IsUnownedBut (slots_of w) t.id gone columns key.values
  unowned_none e k x live stays v =
      untold (slots_of w) (owners_of w) (indexed_of w) t key columns kept.index at same some s full e k x
      (subst (λ (id : ℕ). IsLive (slots_of w) id k x) (sym same) live) v

  pub unowned_other : (owner : List Value) → written_owner (slots_of w) (owners_of w) key columns ≡ Some owner →
      owner_unless gone owner ≡ None → IsUnownedBut (slots_of w) t.id gone columns key.values
  unowned_other owner e none k x live stays v =
      let there : IsLive (slots_of w) key.table k x = subst (λ (id : ℕ). IsLive (slots_of w) id k x) (sym same) live in
      let told : written_owner (slots_of w) (owners_of w) key columns ≡ Some k =
      owner_told (slots_of w) key columns (owner_at (owners_of w) key) k x
      (indexed_unique (slots_of w) (owners_of w) (indexed_of w) t key.table key.index t.keys key.values columns kept.index at same
      some s full k x there v) there v in
      let is : owner ≡ k = cc in
      let going : goes gone k ≡ true = ap (goes gone) (sym is) ∙ unless_none gone owner none in
      cc

-- ---- who else has a unique value

column_list : (keys : List (List ℕ)) (index : ℕ) (columns : List ℕ) → slice_get keys index ≡ Some columns →
    unwrap_or (slice_get keys index) [] ≡ columns
column_list keys index columns s = ap (λ o. unwrap_or o []) s

unique_at : (keys : List (List ℕ)) (index : ℕ) (columns : List ℕ) → 0 < index → slice_get keys index ≡ Some columns → (i : ℕ) ×
    (slice_get (drop 1 keys) i ≡ Some columns)
unique_at keys zero columns some s = absurd (omega (arith, some))
unique_at [] (suc i) columns some s = absurd (cc)
unique_at (k ∷ keys) (suc i) columns some s = (i, s)

module _ (tables : Tables) (w : Written) (t : TableRow) (key : Key) (columns : List ℕ) (gone : Option (List Value))
    (ready : IsReady tables w t) (same : key.table ≡ t.id) (some : 0 < key.index)
    (s : slice_get t.keys key.index ≡ Some columns) (full : list_any is_null key.values ≡ false) where
  one_seen : HaveOneOwner columns (rows_seen tables (slots_of w) t)
  one_seen = let u = unique_at t.keys key.index columns some s in ready.sound.single u.0 columns u.1

  base_rows : AreSoundRows t (rows_of tables t.id)
  base_rows = sound_base tables t t.id ready.there ready.base_sound

  one_beneath : HaveOneOwner columns (rows_of tables t.id)
  one_beneath = let u = unique_at t.keys key.index columns some s in base_rows.single u.0 columns u.1

  owner_base : owner_of tables key ≡ owner_in (rows_of tables t.id) columns key.values
  owner_base =
      owner_of-in tables t key (ap (table_of (definitions_of tables)) same ∙ ready.there)
      ∙ (λ i. owner_in (rows_of tables (same i)) (column_list t.keys key.index columns s i) key.values)

  pub other_owner_written : (owner : List Value) → written_owner (slots_of w) (owners_of w) key columns ≡ Some owner →
      owner_unless gone owner ≡ owner_in (rows_without gone (rows_seen tables (slots_of w) t)) columns key.values
  other_owner_written owner e =
      let owns_it : OwnsWritten (slots_of w) t.id columns key.values owner =
      subst (λ (id : ℕ). OwnsWritten (slots_of w) id columns key.values owner) same
      (written_owns (slots_of w) key columns (owner_at (owners_of w) key) owner e) in
      sym (owner_written gone (slots_of w) t.id (rows_of tables t.id) columns key.values owner ready.kept.slots
      (to_T _ ready.sound.rising) one_seen full owns_it)

  nobody : written_owner (slots_of w) (owners_of w) key columns ≡ None → IsUnowned (slots_of w) t.id columns key.values
  nobody e = subst (λ (id : ℕ). IsUnowned (slots_of w) id columns key.values) same
      (untold (slots_of w) (owners_of w) (indexed_of w) t key columns ready.kept.index ready.indexed same some s full e)

  pub other_owner_nowhere : written_owner (slots_of w) (owners_of w) key columns ≡ None → owner_of tables key ≡ None →
      None ≡ owner_in (rows_without gone (rows_seen tables (slots_of w) t)) columns key.values
  other_owner_nowhere e none =
      sym (owner_nowhere gone (slots_of w) t.id (rows_of tables t.id) columns key.values ready.kept.slots
      (to_T _ ready.sound.rising) (nobody e) (sym owner_base ∙ none))

  pub other_owner_beneath : (owner : List Value) → written_owner (slots_of w) (owners_of w) key columns ≡ None →
      owner_of tables key ≡ Some owner →
      if_beneath (slots_of w) t.id gone owner ≡ owner_in (rows_without gone (rows_seen tables (slots_of w) t)) columns key.values
  other_owner_beneath owner e is =
      sym (owner_beneath gone (slots_of w) t.id (rows_of tables t.id) columns key.values owner ready.kept.slots
      (to_T _ base_rows.rising) one_beneath (to_T _ ready.sound.rising) one_seen full (nobody e)
      (sym owner_base ∙ is))

-- written rows of sound tables have one owner for each unique value
pub one_live : (tables : Tables) (es : Slots) (t : TableRow) → AreSlots es → AreSoundRows t (rows_seen tables es t) → OneLive t es
one_live tables es t a s i columns k x l y u first second full same =
    s.single i columns u k l x y (found_live es t.id k x (rows_of tables t.id) a first)
    (found_live es t.id l y (rows_of tables t.id) a second) full same

-- ---- the keys of the table

in_range : (keys : List (List ℕ)) (index : ℕ) (columns : List ℕ) → slice_get keys index ≡ Some columns → index < length keys
in_range [] index columns s = absurd (cc)
in_range (k ∷ keys) zero columns s = omega arith
in_range (k ∷ keys) (suc i) columns s = let rest = in_range keys i columns s in omega (arith, rest)

found_key : (us : List (List ℕ)) (i : ℕ) (columns : List ℕ) → i < length us → columns ≡ get_or us i columns →
    slice_get us i ≡ Some columns
found_key [] i columns inside is = absurd (omega (arith, inside))
found_key (u ∷ us) zero columns inside is = ap (λ c. Some c) (sym is)
found_key (u ∷ us) (suc i) columns inside is = found_key us i columns (omega (arith, inside)) is

behind_first : (keys : List (List ℕ)) (i : ℕ) (columns : List ℕ) → slice_get (drop 1 keys) i ≡ Some columns →
    slice_get keys (suc i) ≡ Some columns
behind_first [] i columns s = absurd (cc)
behind_first (k ∷ keys) i columns s = s

-- the unique keys count from 1
pub unique_found : (keys us : List (List ℕ)) (index i : ℕ) (columns : List ℕ) → us ≡ drop 1 keys → index ≡ 1 + i → i < length us →
    columns ≡ get_or us i columns → slice_get keys index ≡ Some columns
unique_found keys us index i columns same number inside is =
    let next : 1 + i ≡ suc i = omega arith in
    ap (slice_get keys) (number ∙ next) ∙ behind_first keys i columns
    (ap (λ ks. slice_get ks i) (sym same) ∙ found_key us i columns inside is)

pub key_there : (ts : List TableRow) (t : TableRow) (table index : ℕ) (columns : List ℕ) → table_of ts t.id ≡ Some t →
    table ≡ t.id → slice_get t.keys index ≡ Some columns → IfSome (table_of ts table) (λ u. index < length u.keys)
key_there ts t table index columns named same s =
    let at : table_of ts table ≡ Some t = ap (table_of ts) same ∙ named in
    subst (λ (o : Option TableRow). IfSome o (λ u. index < length u.keys)) (sym at) (in_range t.keys index columns s)
