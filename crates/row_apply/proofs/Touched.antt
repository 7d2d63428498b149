-- What a change touches is written: each row key among its conflict keys, with the row that the tables have there.
use Rattle.std.proofs.Common.{◌≡◌, ◌≢◌, ℕ, ◌+◌, ◌<◌, List, [], ◌∷◌, ◌++◌, map, refl, sym, ap, subst, ◌∙◌, Bool, true, false, cond, not, ◌&&◌, ◌||◌, ◌==◌, nat_lt, length, arith, if◌then◌else◌, Option, Some, None, is_some, Result, Ok, Err}
use Rattle.std.specs.Prelude.{IsSome, OnOk, OnErr}
use Rattle.std.specs.List.{AllByRecursion, flat_map, enumerate_from, list_any}
use Rattle.std.specs.Ordering.{is_eq}
use Rattle.std.specs.FinMap.Entries as entries
use Rattle.std.proofs.lemmas.Bool.Decides.{nat_tests}
use Rattle.rl_value.specs.declared.value.Value.{Value}
use Rattle.rl_value.specs.declared.key.Key.{Key}
use Rattle.rl_value.specs.Order.{key_cmp, row_cmp}
use Rattle.rl_value.specs.Outcome.{all_of, is_empty}
use Rattle.rl_value.specs.Text.{columns_rise}
use Rattle.redo_vec.specs.Forms.{is_key_columns}
use Rattle.redo_vec.specs.declared.change.Change.{Change}
use Rattle.redo_vec.specs.declared.change.Op.{Op}
use Rattle.redo_vec.specs.declared.change.Op.TheVariants.{Insert, Update, Delete}
use Rattle.redo_vec.specs.declared.table.TableRow.{TableRow}
use Rattle.redo_spec.specs.ChangeForm.{change_fault_in, wrong_cells}
use Rattle.redo_spec.specs.ConflictKeys.{is_null, cell_of, after_op, key_by_columns, key_if_whole, keys_given, conflict_keys, conflict_keys_of, conflict_keys_in}
use Rattle.redo_spec.specs.Dictionary.{table_of, first_of, primary_of, has_bad_keys}
use Rattle.redo_spec.specs.Effect.{cell_values, with_cells, logged_key, difference}
use Rattle.redo_spec.specs.Tables.{Tables, primary_key, definitions_of}
use Rattle.redo_spec.specs.Work.{rows_of, row_at}
use Rattle.row_apply.specs.declared.writes.Write.{Write}
use Rattle.row_apply.specs.declared.fault.EffectFault.{EffectFault}
use Rattle.row_apply.specs.Kept.{Slots, row_key, slot_at, ArePrimary, AreSlots, Sets, Puts, SlotsOnly, AreWritten, keys_put}
use Rattle.row_apply.specs.Overlaid.{overlaid, rows_after, written_at, WritesAll, WritesStay}
use Rattle.row_apply.specs.Written.{writes_in}
use Rattle.row_apply.proofs.Accepted.{accepted, holds}
use Rattle.row_apply.proofs.Effects.{named_later, named_id}
use Rattle.row_apply.proofs.Fitting.{both}
use Rattle.row_apply.proofs.Orders.{key_is, key_self}
use Rattle.row_apply.proofs.Slots.{over, find_after}
use Rattle.row_apply.proofs.Untouched.{written_slot, logged_given, insert_given, update_given}

-- ---- single writes

some_of_two : (b : Bool) (x y : Option (List Value)) → is_some (cond b (Some x) (Some y)) ≡ true
some_of_two true x y = refl
some_of_two false x y = refl

pub sets_written : (old new : Slots) (key : Key) (slot : Option (List Value)) → Sets old new key slot →
    is_some (slot_at new key) ≡ true
sets_written old new key slot sets = ap is_some (sets key ∙ ap (λ b. cond b (Some slot) (slot_at old key)) (key_self key))

comes : (new : Slots) (key : Key) (row : List Value) (before : Key → Option (Option (List Value))) →
    ((q : Key) → slot_at new q ≡ cond (is_eq (key_cmp key q)) (Some (Some row)) (before q)) → is_some (slot_at new key) ≡ true
comes new key row before puts = ap is_some (puts key ∙ ap (λ b. cond b (Some (Some row)) (before key)) (key_self key))

goes : (old new : Slots) (gone key : Key) (row : List Value) → Puts old new (Some gone) key row →
    is_some (slot_at new gone) ≡ true
goes old new gone key row puts =
    ap is_some (puts gone ∙ ap (λ b. cond (is_eq (key_cmp key gone)) (Some (Some row)) (cond b (Some None) (slot_at old gone)))
    (key_self gone)) ∙ some_of_two (is_eq (key_cmp key gone)) (Some row) None

pub puts_written : (old new : Slots) (gone : Option Key) (key : Key) (row : List Value) → Puts old new gone key row →
    AreWritten (keys_put gone key) new
puts_written old new None key row puts = (λ primary. comes new key row (slot_at old) puts, tt)
puts_written old new (Some gone) key row puts = (
  λ primary. goes old new gone key row puts,
  (
    λ primary. comes new key row
        (λ q. cond (is_eq (key_cmp gone q)) (Some None) (slot_at old q)) puts,
    tt,
  ),
)

-- ---- the row keys that cells give: the primary key alone

all_appended : (P : Key → Type 0) (xs ys : List Key) → AllByRecursion P xs → AllByRecursion P ys → AllByRecursion P (xs ++ ys)
all_appended P [] ys p q = q
all_appended P (x ∷ xs) ys p q = (p.0, all_appended P xs ys p.1 q)

one_later : (P : Key → Type 0) (id n : ℕ) (o : Option (List Value)) → 0 < n →
    AllByRecursion (λ k. k.index ≡ 0 → P k) (key_if_whole id n o)
one_later P id n None low = tt
one_later P id n (Some values) low =
    elim (nat_lt 0 n && list_any is_null values) as (λ b. AllByRecursion (λ (k : Key). k.index ≡ 0 → P k)
    (if b then [] else record { table = id; index = n; values = values } ∷ [])) [
      | true ↦ tt
      | false ↦ (λ primary. absurd (omega (arith, primary, low)), tt)
    ]

later_keys : (P : Key → Type 0) (id n : ℕ) (given : ℕ → Option Value) (keys : List (List ℕ)) → 0 < n →
    AllByRecursion (λ k. k.index ≡ 0 → P k) (flat_map (key_by_columns id given) (enumerate_from n keys))
later_keys P id n given [] low = tt
later_keys P id n given (columns ∷ more) low =
    all_appended (λ k. k.index ≡ 0 → P k) (key_by_columns id given (n, columns))
    (flat_map (key_by_columns id given) (enumerate_from (n + 1) more)) (one_later P id n (all_of (map given columns)) low)
    (later_keys P id (n + 1) given more (omega (arith, low)))

row_keys : (P : Key → Type 0) (id : ℕ) (given : ℕ → Option Value) (keys : List (List ℕ)) →
    ((values : List Value) → all_of (map given (first_of keys)) ≡ Some values → P (row_key id values)) →
    AllByRecursion (λ k. k.index ≡ 0 → P k) (flat_map (key_by_columns id given) (enumerate_from 0 keys))
row_keys P id given [] each = tt
row_keys P id given (first ∷ more) each =
    elim (all_of (map given first)) as (λ o. all_of (map given first) ≡ o →
    AllByRecursion (λ (k : Key). k.index ≡ 0 → P k) (key_if_whole id 0 o ++
    flat_map (key_by_columns id given) (enumerate_from 1 more))) [
      | None ↦ λ e. later_keys P id 1 given more (omega arith)
      | Some values ↦ λ e. (λ primary. each values e, later_keys P id 1 given more (omega arith))
    ] refl

of_table : (id n : ℕ) (given : ℕ → Option Value) (keys : List (List ℕ)) →
    AllByRecursion (λ (k : Key). k.table ≡ id) (flat_map (key_by_columns id given) (enumerate_from n keys))
of_table id n given [] = tt
of_table id n given (columns ∷ more) =
    all_appended (λ (k : Key). k.table ≡ id) (key_by_columns id given (n, columns))
    (flat_map (key_by_columns id given) (enumerate_from (n + 1) more)) (one (all_of (map given columns)))
    (of_table id (n + 1) given more)
  where
    one : (o : Option (List Value)) → AllByRecursion (λ (k : Key). k.table ≡ id) (key_if_whole id n o)
    one None = tt
    one (Some values) =
        elim (nat_lt 0 n && list_any is_null values) as (λ b. AllByRecursion (λ (k : Key). k.table ≡ id)
        (if b then [] else record { table = id; index = n; values = values } ∷ [])) [
          | true ↦ tt
          | false ↦ (refl, tt)
        ]

-- no cells give no key
nothing_given : (columns : List ℕ) (values : List Value) → is_key_columns columns ≡ true →
    all_of (map (cell_of []) columns) ≡ Some values → ⊥
nothing_given [] values form e = absurd (cc)
nothing_given (c ∷ cs) values form e = absurd (cc)

empty_is : (cells : List (ℕ × Value)) → is_empty cells ≡ true → cells ≡ []
empty_is [] e = refl
empty_is (c ∷ cs) e = absurd (cc)

-- ---- what each kind of change writes

module _ (t : TableRow) (c : Change) (keys : has_bad_keys t ≡ false) (form : is_key_columns (primary_of t) ≡ true)
    (accept : change_fault_in t c ≡ None) (new : Slots) where
  -- the one row key that these cells give is written
  given_written : (given : ℕ → Option Value) (own : List Value) → all_of (map given (primary_of t)) ≡ Some own →
      is_some (slot_at new (row_key t.id own)) ≡ true → AreWritten (keys_given t given) new
  given_written given own all there =
      row_keys (λ k. IsSome (slot_at new k)) t.id given t.keys
      (λ values e. let same : own ≡ values = cc in subst (λ (vs : List Value). IsSome (slot_at new (row_key t.id vs))) same there)

  none_given : (cells : List (ℕ × Value)) → cells ≡ [] → AreWritten (keys_given t (cell_of cells)) new
  none_given cells none =
      row_keys (λ k. IsSome (slot_at new k)) t.id (cell_of cells) t.keys
      (λ values e. absurd (nothing_given (primary_of t) values form
      (ap (λ (cs : List (ℕ × Value)). all_of (map (cell_of cs) (primary_of t))) (sym none) ∙ e)))

  -- the old and the new ones
  all_written : (op : Op) → c.op ≡ op → AreWritten (keys_given t (cell_of c.old)) new →
      AreWritten (keys_given t (cell_of (after_op op c.old c.new))) new → AreWritten (conflict_keys_in t c) new
  all_written op is old after =
      all_appended (λ k. k.index ≡ 0 → IsSome (slot_at new k)) (keys_given t (cell_of c.old))
      (keys_given t (cell_of (after_op c.op c.old c.new))) old
      (subst (λ (o : Op). AreWritten (keys_given t (cell_of (after_op o c.old c.new))) new) (sym is) after)

  pub delete_written : (old : Slots) (key : Key) → c.op ≢ Insert → c.op ≡ Delete → columns_rise 0 c.old ≡ true →
      key ≡ row_key t.id (logged_key t c.old) → Sets old new key None → AreWritten (conflict_keys_in t c) new
  delete_written old key not_insert op r named sets =
      all_written Delete op
      (given_written (cell_of c.old) (logged_key t c.old) (logged_given t c keys form accept not_insert r)
      (ap (λ (k : Key). is_some (slot_at new k)) (sym named) ∙ sets_written old new key None sets))
      (none_given [] refl)

  pub insert_written : c.op ≡ Insert → columns_rise 0 c.new ≡ true →
      AreWritten (keys_put None (row_key t.id (primary_key t (cell_values c.new)))) new → AreWritten (conflict_keys_in t c) new
  insert_written op r puts =
      let a = accepted t c accept in
      let s : not (is_empty c.old && (length c.new == length t.columns)) ≡ false =
      sym (ap (λ o. wrong_cells t o c.old c.new) op) ∙ a.shape in
      let none = empty_is c.old (both (is_empty c.old) (length c.new == length t.columns)
      (holds (is_empty c.old && (length c.new == length t.columns)) s)).0 in
      all_written Insert op (none_given c.old none) (given_written (cell_of c.new) (primary_key t (cell_values c.new))
      (insert_given t c keys form accept op r) (puts.0 refl))

  pub update_written : (key : Key) (row after : List Value) → c.op ≢ Insert → c.op ≡ Update → columns_rise 0 c.old ≡ true →
      key ≡ row_key t.id (logged_key t c.old) → after ≡ with_cells t row c.new →
      difference row c.old ≡ None → AreWritten (keys_put (Some key) (row_key t.id (primary_key t after))) new →
      AreWritten (conflict_keys_in t c) new
  update_written key row after not_insert op r named made d puts =
      all_written Update op
      (given_written (cell_of c.old) (logged_key t c.old) (logged_given t c keys form accept not_insert r)
      (subst (λ (k : Key). k.index ≡ 0 → IsSome (slot_at new k)) named puts.0 refl))
      (given_written (cell_of (c.new ++ c.old)) (primary_key t (with_cells t row c.new))
      (update_given t c keys form accept row not_insert r d)
      (subst (λ (values : List Value). IsSome (slot_at new (row_key t.id (primary_key t values)))) made (puts.1.0 refl)))

-- ---- slots as writes

rows_overlaid : (ts : Tables) (ws : List Write) (id : ℕ) (t : TableRow) → table_of (definitions_of ts) id ≡ Some t →
    rows_of (overlaid ts ws) id ≡ rows_after id ws (rows_of ts id)
rows_overlaid [] ws id t named = absurd (cc)
rows_overlaid (u ∷ ts) ws id t named =
    elim (u.row.id == id) as (λ b. (u.row.id == id) ≡ b →
    (if b then rows_after u.row.id ws u.rows else rows_of (overlaid ts ws) id) ≡
    rows_after id ws (if b then u.rows else rows_of ts id)) [
      | true ↦ λ is. let at : u.row.id ≡ id = grind (arith, nat_tests, is) in ap (λ (n : ℕ). rows_after n ws u.rows) at
      | false ↦ λ other. rows_overlaid ts ws id t (named_later u ts t id other named)
    ] refl

told : (slot : Option (Option (List Value))) (beneath : Option (List Value)) → is_some slot ≡ true →
    slot ≡ Some (over slot beneath)
told None beneath e = absurd (cc)
told (Some row) beneath e = refl

module _ (tables : Tables) (defs : List TableRow) (t : TableRow) (c : Change) (new : Slots)
    (defined : definitions_of tables ≡ defs) (found : Some t ≡ table_of defs c.table) (n : AreSlots new) where
  named : table_of (definitions_of tables) c.table ≡ Some t
  named = ap (λ ds. table_of ds c.table) defined ∙ sym found

  there : table_of (definitions_of tables) t.id ≡ Some t
  there = ap (table_of (definitions_of tables)) (named_id (definitions_of tables) c.table t named) ∙ named

  one : (k : Key) → k.table ≡ t.id → k.index ≡ 0 → is_some (slot_at new k) ≡ true →
      written_at (writes_in new) k ≡ Some (row_at (overlaid tables (writes_in new)) k)
  one k of primary some =
      let beneath = entries.find row_cmp k.values (rows_of tables k.table) in
      let own : row_key k.table k.values ≡ k = λ i. record { table = k.table; index = sym primary i; values = k.values } in
      let row : row_at (overlaid tables (writes_in new)) k ≡ over (slot_at new k) beneath =
      ap (entries.find row_cmp k.values) (rows_overlaid tables (writes_in new) k.table t
      (ap (table_of (definitions_of tables)) of ∙ there))
      ∙ find_after new k.table k.values (rows_of tables k.table) n.primary n.ordered ∙
      ap (λ (q : Key). over (slot_at new q) beneath) own in
      written_slot new k n.primary ∙ told (slot_at new k) beneath some ∙ ap (λ (r : Option (List Value)). Some r) (sym row)

  each : (ks : List Key) → AllByRecursion (λ k. k.table ≡ t.id) ks → AreWritten ks new →
      WritesAll ks (overlaid tables (writes_in new)) (writes_in new)
  each [] of written = tt
  each (k ∷ ks) of written = (λ primary. one k of.0 primary (written.0 primary), each ks of.1 written.1)

  pub writes_all : AreWritten (conflict_keys_in t c) new →
      WritesAll (conflict_keys defs c) (overlaid tables (writes_in new)) (writes_in new)
  writes_all written =
      subst (λ (o : Option TableRow). WritesAll (conflict_keys_of o c) (overlaid tables (writes_in new)) (writes_in new)) found
      (each (conflict_keys_in t c)
      (all_appended (λ (k : Key). k.table ≡ t.id) (keys_given t (cell_of c.old))
      (keys_given t (cell_of (after_op c.op c.old c.new))) (of_table t.id 0 (cell_of c.old) t.keys)
      (of_table t.id 0 (cell_of (after_op c.op c.old c.new)) t.keys)) written)

-- ---- what was written stays so

among : (keys : List Key) (new : Slots) (q : Key) → q.index ≡ 0 → list_any (λ k. is_eq (key_cmp k q)) keys ≡ true →
    AreWritten keys new → is_some (slot_at new q) ≡ true
among [] new q primary t written = absurd (cc)
among (k ∷ ks) new q primary t written =
    elim (is_eq (key_cmp k q)) as (λ b. is_eq (key_cmp k q) ≡ b → (b || list_any (λ k. is_eq (key_cmp k q)) ks) ≡ true →
    is_some (slot_at new q) ≡ true) [
      | true ↦ λ is h. let same : k ≡ q = key_is k q is in
          subst (λ (p : Key). is_some (slot_at new p) ≡ true) same (written.0 (ap (λ (p : Key). p.index) same ∙ primary))
      | false ↦ λ is h. among ks new q primary h written.1
    ] refl t

primary_there : (es : Slots) (q : Key) → ArePrimary es → is_some (slot_at es q) ≡ true → q.index ≡ 0
primary_there [] q primary some = absurd (cc)
primary_there (e ∷ es) q primary some =
    elim (is_eq (key_cmp q e.0)) as (λ b. is_eq (key_cmp q e.0) ≡ b →
    is_some (cond b (Some e.1) (slot_at es q)) ≡ true → q.index ≡ 0) [
      | true ↦ λ is h. ap (λ (p : Key). p.index) (key_is q e.0 is) ∙ primary.0
      | false ↦ λ is h. primary_there es q primary.1 h
    ] refl some

stays : (keys : List Key) (old new : Slots) → ArePrimary old → SlotsOnly keys old new → AreWritten keys new → (q : Key) →
    is_some (slot_at old q) ≡ true → is_some (slot_at new q) ≡ true
stays keys old new primary only written q some =
    elim (list_any (λ k. is_eq (key_cmp k q)) keys) as (λ b. list_any (λ k. is_eq (key_cmp k q)) keys ≡ b →
    is_some (slot_at new q) ≡ true) [
      | true ↦ λ touched. among keys new q (primary_there old q primary some) touched written
      | false ↦ λ untouched. ap is_some (only q untouched) ∙ some
    ] refl

pub writes_stay : {T : Type 0} (r : Result T EffectFault) (keys : List Key) (old new : Slots) → AreSlots old → AreSlots new →
    OnErr r (new ≡ old) → OnOk r (SlotsOnly keys old new) → OnOk r (AreWritten keys new) →
    WritesStay (writes_in old) (writes_in new)
writes_stay (Ok x) keys old new o n same only written q some =
    ap is_some (written_slot new q n.primary) ∙ stays keys old new o.primary only written q
    (sym (ap is_some (written_slot old q o.primary)) ∙ some)
writes_stay (Err fault) keys old new o n same only written q some =
    subst (λ (es : Slots). is_some (written_at (writes_in es) q) ≡ true) (sym same) some
