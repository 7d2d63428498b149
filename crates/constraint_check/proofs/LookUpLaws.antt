-- What look-ups tell of written rows is whether those that are left have their unique values alone.
use Rattle.std.proofs.Common.{◌≡◌, ℕ, suc, List, [], ◌∷◌, Bool, true, false, refl, sym, ap, ◌∙◌, subst, Option, Some, None, arith, slice_get, inl, inr, ◌==◌, ◌||◌}
use Rattle.std.proofs.Math.Dec.{T}
use Rattle.std.specs.List.{AllByRecursion, list_any}
use Rattle.std.specs.Ordering.{eq_by_cmp}
use Rattle.std.specs.FinMap.Entries as entries
use Rattle.rl_value.specs.declared.key.Key.{Key}
use Rattle.rl_value.specs.declared.value.Value.{Value}
use Rattle.rl_value.specs.Order.{row_cmp}
use Rattle.redo_vec.specs.declared.table.TableRow.{TableRow}
use Rattle.redo_spec.specs.ConflictKeys.{is_null}
use Rattle.redo_spec.specs.Dictionary.{table_of, uniques_of}
use Rattle.redo_spec.specs.Tables.{Rows, Tables, values_at, definitions_of, owner_in}
use Rattle.redo_spec.specs.Work.{rows_of}
use Rattle.row_apply.specs.declared.writes.Write.{Write}
use Rattle.row_apply.specs.Found.{owner_of}
use Rattle.row_apply.specs.Kept.{unique_key}
use Rattle.row_apply.specs.Overlaid.{rows_after, overlaid, writes_rise}
use Rattle.row_apply.specs.Soundness.{AreSound}
use Rattle.row_apply.proofs.Orders.{row_is, row_self}
use Rattle.row_apply.proofs.Owners.{owner_is, owner_found}
use Rattle.row_apply.proofs.Slots.{to_T}
use Rattle.standby_spec.specs.Writable.{is_alone_at, is_left_alone, are_left_alone}
use Rattle.constraint_check.specs.LookUps.{same_row, is_written, is_over, is_gone, owners_gone, keys_differ, written_values, are_told_alone}
use Rattle.constraint_check.proofs.Rising.{same_number, same_id, left_true, right_true, both, rise_on}
use Rattle.constraint_check.proofs.Values.{its-id, found-id}
use Rattle.constraint_check.proofs.Left.{sound-of, after-of, owner-of, columns-of, find-unwritten, find-written, not-again, after-sorted, IsLone, lone-by-alone, alone-by-lone}
use Rattle.constraint_check.proofs.Apart.{all-two, all-front, all-back, all-weaker, all-true, true-all, row_values, slot_values, all_values, values-list, of-row, by-row, apart-of, differ-by, none-seen}
use Rattle.constraint_check.proofs.Clashes.{NoClash, AreClear, IsClearOf, clear-by-apart, every, apart-by-clear}

same-bools : (a b : Bool) → (a ≡ true → b ≡ true) → (b ≡ true → a ≡ true) → a ≡ b
same-bools true b f g = sym (f refl)
same-bools false true f g = g refl
same-bools false false f g = refl

not-both : (b : Bool) → b ≡ true → b ≡ false → ⊥
not-both b e f = cc

all-both : {A : Type 0} (P Q R : A → Type 0) (xs : List A) → ((x : A) → P x → Q x → R x) → AllByRecursion P xs →
    AllByRecursion Q xs → AllByRecursion R xs
all-both P Q R [] f a b = tt
all-both P Q R (x ∷ xs) f a b = (f x a.0 b.0, all-both P Q R xs f a.1 b.1)

in-any : {A : Type 0} (C : Type 0) (p : A → Bool) (xs : List A) → list_any p xs ≡ true →
    AllByRecursion (λ x. p x ≡ true → C) xs → C
in-any C p [] e all = absurd (cc)
in-any C p (x ∷ xs) e all = elim (p x) as (λ b. p x ≡ b → (b || list_any p xs) ≡ true → C) [
  | true ↦ λ here given. all.0 here
  | false ↦ λ apart given. in-any C p xs given all.1
] refl e

none-any : {A : Type 0} (p : A → Bool) (xs : List A) → list_any p xs ≡ false → AllByRecursion (λ x. p x ≡ false) xs
none-any p [] e = tt
none-any p (x ∷ xs) e = elim (p x) as (λ b. p x ≡ b → (b || list_any p xs) ≡ false → AllByRecursion (λ y. p y ≡ false) (x ∷ xs)) [
  | true ↦ λ here given. absurd (cc)
  | false ↦ λ apart given. (apart, none-any p xs given)
] refl e

swapped : {A : Type 0} (P : ℕ → A → Type 0) (xs : List A) → ((n : ℕ) → AllByRecursion (P n) xs) →
    AllByRecursion (λ x. (n : ℕ) → P n x) xs
swapped P [] each = tt
swapped P (x ∷ xs) each = ((λ n. (each n).0), swapped P xs (λ n. (each n).1))

-- ---- what is known of each write

-- the rows of a table once all writes are put in place
abbrev left_in : Tables → List Write → ℕ → Rows
left_in ts ws id = rows_after id ws (rows_of ts id)

-- it is found as it was written
abbrev IsFoundSo : Tables → List Write → Write → Type 0
IsFoundSo ts ws u = (id : ℕ) → (u.table == id) ≡ true → entries.find row_cmp u.key (left_in ts ws id) ≡ u.row

found-so : (ts : Tables) (ws : List Write) → writes_rise ws ≡ true → AllByRecursion (IsFoundSo ts ws) ws
found-so ts ws rise = swapped (λ id u. (u.table == id) ≡ true → entries.find row_cmp u.key (left_in ts ws id) ≡ u.row) ws
    (λ id. find-written id ws (rows_of ts id) rise)

-- its row has its unique values alone
abbrev IsLoneSo : Tables → List Write → Write → Type 0
IsLoneSo ts ws w = (t : TableRow) (row : List Value) → table_of (definitions_of ts) w.table ≡ Some t → w.row ≡ Some row →
    IsLone t (left_in ts ws w.table) w.key row

self-same : (w : Write) → same_row w.table w.key w ≡ true
self-same w = both (w.table == w.table) (eq_by_cmp row_cmp w.key w.key) (same_id w.table) (row_self w.key)

or-left : (a b : Bool) → a ≡ true → (a || b) ≡ true
or-left true b e = refl
or-left false b e = absurd (cc)

or-right : (a b : Bool) → b ≡ true → (a || b) ≡ true
or-right true b e = refl
or-right false b e = e

self-written : (ws : List Write) → AllByRecursion (λ w. is_written ws w.table w.key ≡ true) ws
self-written [] = tt
self-written (w ∷ ws) = (
  or-left (same_row w.table w.key w) (is_written ws w.table w.key) (self-same w),
  all-weaker (λ u. is_written ws u.table u.key ≡ true) (λ u. is_written (w ∷ ws) u.table u.key ≡ true) ws
      (λ u there. or-right (same_row u.table u.key w) (is_written ws u.table u.key) there) (self-written ws),
)

-- ---- lone rows and the test of the rows that are left

test-by-lone : (t : TableRow) (left : Rows) (key : List Value) → T (entries.is_sorted row_cmp left) →
    ((row : List Value) → entries.find row_cmp key left ≡ Some row → IsLone t left key row) → is_left_alone (Some t) left key ≡ true
test-by-lone t left key sorted lone =
    elim (entries.find row_cmp key left) as (λ o. entries.find row_cmp key left ≡ o → is_alone_at t left key o ≡ true) [
      | None ↦ λ e. refl
      | Some row ↦ λ e. alone-by-lone t left key row sorted (lone row e)
    ] refl

left-by-lone : (ts : Tables) (ws : List Write) → AreSound ts → (w : Write) → IsFoundSo ts ws w → IsLoneSo ts ws w →
    (o : Option TableRow) → table_of (definitions_of ts) w.table ≡ o →
    is_left_alone o (rows_of (overlaid ts ws) w.table) w.key ≡ true
left-by-lone ts ws sound w found lone None e = refl
left-by-lone ts ws sound w found lone (Some t) e =
    ap (λ left. is_left_alone (Some t) left w.key) (after-of ts ws w.table t e)
    ∙ test-by-lone t (left_in ts ws w.table) w.key
    (after-sorted w.table ws (rows_of ts w.table) (to_T _ (sound-of ts w.table t sound e).rising))
    (λ row there. lone t row e (sym (found w.table (same_id w.table)) ∙ there))

lone-by-left : (ts : Tables) (ws : List Write) (w : Write) → IsFoundSo ts ws w →
    is_left_alone (table_of (definitions_of ts) w.table) (rows_of (overlaid ts ws) w.table) w.key ≡ true → IsLoneSo ts ws w
lone-by-left ts ws w found alone t row e r =
    let left = left_in ts ws w.table in
    let test : is_left_alone (Some t) left w.key ≡ true =
    sym (ap (λ o. is_left_alone o left w.key) e)
    ∙ sym (ap (λ rows. is_left_alone (table_of (definitions_of ts) w.table) rows w.key) (after-of ts ws w.table t e))
    ∙ alone in
    let there : entries.find row_cmp w.key left ≡ Some row = found w.table (same_id w.table) ∙ r in
    lone-by-alone t left w.key row (sym (ap (is_alone_at t left w.key) there) ∙ test)

-- ---- from the look-ups to the rows

abbrev IsGoneSo : Tables → List Write → Key → Type 0
IsGoneSo ts ws k = is_gone ts ws k ≡ true

slots-of : (P : Key → Type 0) (defs : List TableRow) (ws : List Write) → AllByRecursion P (all_values defs ws) →
    AllByRecursion (λ w. AllByRecursion P (slot_values (table_of defs w.table) w.row)) ws
slots-of P defs [] all = tt
slots-of P defs (w ∷ ws) all = (
  all-front P (slot_values (table_of defs w.table) w.row) (all_values defs ws) all,
  slots-of P defs ws (all-back P (slot_values (table_of defs w.table) w.row) (all_values defs ws) all),
)

-- the owner before the writes of a value, by its look-up
owner-by : (ts : Tables) (t : TableRow) (i : ℕ) (columns : List ℕ) (values : List Value) →
    table_of (definitions_of ts) t.id ≡ Some t → slice_get (uniques_of t) i ≡ Some columns →
    owner_of ts (unique_key t.id (suc i) values) ≡ owner_in (rows_of ts t.id) columns values
owner-by ts t i columns values there unique =
    owner-of ts (unique_key t.id (suc i) values) t there
    ∙ ap (λ cs. owner_in (rows_of ts t.id) cs values) (columns-of t i (suc i) columns refl unique)

lone-by-told : (ts : Tables) (ws : List Write) → AreSound ts → AllByRecursion (IsFoundSo ts ws) ws → (w : Write) →
    IsFoundSo ts ws w → AllByRecursion (IsGoneSo ts ws) (slot_values (table_of (definitions_of ts) w.table) w.row) →
    AllByRecursion (IsClearOf (definitions_of ts) w) ws → IsLoneSo ts ws w
lone-by-told ts ws sound founds w found gone clear t row e r i columns unique full k x there same =
    let id : t.id ≡ w.table = its-id (definitions_of ts) w.table t e in
    let values = values_at row columns in
    elim (is_written ws w.table k) as (λ b. is_written ws w.table k ≡ b → k ≡ w.key) [
      | true ↦ λ is. in-any (k ≡ w.key) (same_row w.table k) ws is
          (all-both (IsFoundSo ts ws) (IsClearOf (definitions_of ts) w) (λ u. same_row w.table k u ≡ true → k ≡ w.key) ws
          (λ u so clear_of of.
          let tables : (u.table == w.table) ≡ true = left_true (u.table == w.table) (eq_by_cmp row_cmp u.key k) of in
          let keys : u.key ≡ k = row_is u.key k (right_true (u.table == w.table) (eq_by_cmp row_cmp u.key k) of) in
          let stands : u.row ≡ Some x = sym (so w.table tables)
          ∙ ap (λ q. entries.find row_cmp q (left_in ts ws w.table)) keys ∙ there in
          elim clear_of [
            | inl is_own ↦ sym keys ∙ is_own
            | inr never ↦ absurd (never t i columns row x e (same_number u.table w.table tables) r stands unique full same)
          ]) founds clear)
      | false ↦ λ free.
          let before : entries.find row_cmp k (rows_of ts w.table) ≡ Some x =
          sym (find-unwritten w.table ws k (rows_of ts w.table) free) ∙ there in
          let rows = sound-of ts w.table t sound e in
          let owner : owner_in (rows_of ts w.table) columns values ≡ Some k =
          owner_is (rows_of ts w.table) columns values k x (to_T _ rows.rising) (rows.single i columns unique) full before same in
          let known : AllByRecursion (IsGoneSo ts ws) (row_values t.id row 1 (uniques_of t)) =
          subst (λ o. AllByRecursion (IsGoneSo ts ws) (slot_values (Some t) o)) r
          (subst (λ o. AllByRecursion (IsGoneSo ts ws) (slot_values o w.row)) e gone) in
          let told = of-row (IsGoneSo ts ws) t.id row 1 (uniques_of t) known i columns unique full (suc i) (omega arith) in
          let found_owner : owner_of ts (unique_key t.id (suc i) values) ≡ Some k =
          owner-by ts t i columns values (found-id (definitions_of ts) w.table t e) unique
          ∙ ap (λ j. owner_in (rows_of ts j) columns values) id ∙ owner in
          let over : is_written ws t.id k ≡ true = sym (ap (is_over ws t.id) found_owner) ∙ told in
          absurd (not-both (is_written ws t.id k) over (ap (λ j. is_written ws j k) id ∙ free))
    ] refl

told-to-left : (ts : Tables) (ws : List Write) → AreSound ts → writes_rise ws ≡ true → are_told_alone ts ws ≡ true →
    are_left_alone ts ws ≡ true
told-to-left ts ws sound rise told =
    let defs = definitions_of ts in
    let list = values-list [] defs ws in
    let gone : owners_gone ts ws (all_values defs ws) ≡ true =
    sym (ap (owners_gone ts ws) list)
    ∙ left_true (owners_gone ts ws (written_values [] defs ws)) (keys_differ [] (written_values [] defs ws)) told in
    let differ : keys_differ [] (all_values defs ws) ≡ true =
    sym (ap (keys_differ []) list)
    ∙ right_true (owners_gone ts ws (written_values [] defs ws)) (keys_differ [] (written_values [] defs ws)) told in
    let clear = every defs ws (clear-by-apart defs ws (apart-of [] (all_values defs ws) differ)) in
    let slots = slots-of (IsGoneSo ts ws) defs ws (all-true (is_gone ts ws) (all_values defs ws) gone) in
    let founds = found-so ts ws rise in
    let known = all-both (IsFoundSo ts ws) (λ w. AllByRecursion (IsGoneSo ts ws) (slot_values (table_of defs w.table) w.row))
    (λ w. IsFoundSo ts ws w × AllByRecursion (IsGoneSo ts ws) (slot_values (table_of defs w.table) w.row)) ws
    (λ w a b. (a, b)) founds slots in
    true-all (λ w. is_left_alone (table_of defs w.table) (rows_of (overlaid ts ws) w.table) w.key) ws
    (all-both (λ w. IsFoundSo ts ws w × AllByRecursion (IsGoneSo ts ws) (slot_values (table_of defs w.table) w.row))
    (λ w. AllByRecursion (IsClearOf defs w) ws)
    (λ w. is_left_alone (table_of defs w.table) (rows_of (overlaid ts ws) w.table) w.key ≡ true) ws
    (λ w a b. left-by-lone ts ws sound w a.0 (lone-by-told ts ws sound founds w a.0 a.1 b) (table_of defs w.table) refl)
    known clear)

-- ---- from the rows to the look-ups

gone-by-lone : (ts : Tables) (ws : List Write) → AreSound ts → (w : Write) → is_written ws w.table w.key ≡ true →
    IsLoneSo ts ws w → (t : TableRow) (row : List Value) → table_of (definitions_of ts) w.table ≡ Some t → w.row ≡ Some row →
    (i : ℕ) (columns : List ℕ) → slice_get (uniques_of t) i ≡ Some columns → list_any is_null (values_at row columns) ≡ false →
    (o : Option (List Value)) → owner_in (rows_of ts t.id) columns (values_at row columns) ≡ o → is_over ws t.id o ≡ true
gone-by-lone ts ws sound w self lone t row e r i columns unique full None is = refl
gone-by-lone ts ws sound w self lone t row e r i columns unique full (Some o) is =
    let id : t.id ≡ w.table = its-id (definitions_of ts) w.table t e in
    elim (is_written ws t.id o) as (λ b. is_written ws t.id o ≡ b → b ≡ true) [
      | true ↦ λ there. refl
      | false ↦ λ free.
          let rows = sound-of ts w.table t sound e in
          let owner : owner_in (rows_of ts w.table) columns (values_at row columns) ≡ Some o =
          sym (ap (λ j. owner_in (rows_of ts j) columns (values_at row columns)) id) ∙ is in
          let p = owner_found (rows_of ts w.table) columns (values_at row columns) o (to_T _ rows.rising) owner in
          let out : is_written ws w.table o ≡ false = sym (ap (λ j. is_written ws j o) id) ∙ free in
          let stays : entries.find row_cmp o (left_in ts ws w.table) ≡ Some p.0 =
          find-unwritten w.table ws o (rows_of ts w.table) out ∙ p.1.0 in
          let own : o ≡ w.key = lone t row e r i columns unique full o p.0 stays p.1.1 in
          absurd (not-both (is_written ws w.table o) (ap (is_written ws w.table) own ∙ self) out)
    ] refl

slot-gone : (ts : Tables) (ws : List Write) → AreSound ts → (w : Write) → is_written ws w.table w.key ≡ true →
    IsLoneSo ts ws w → (o : Option TableRow) → table_of (definitions_of ts) w.table ≡ o → (x : Option (List Value)) →
    w.row ≡ x → AllByRecursion (IsGoneSo ts ws) (slot_values o x)
slot-gone ts ws sound w self lone None e x r = tt
slot-gone ts ws sound w self lone (Some t) e None r = tt
slot-gone ts ws sound w self lone (Some t) e (Some row) r =
    by-row (IsGoneSo ts ws) t.id row 1 (uniques_of t) (λ i columns unique full m is.
    let number : m ≡ suc i = omega (arith, is) in
    subst (λ k. is_gone ts ws (unique_key t.id k (values_at row columns)) ≡ true) (sym number)
    (ap (is_over ws t.id) (owner-by ts t i columns (values_at row columns) (found-id (definitions_of ts) w.table t e) unique)
    ∙ gone-by-lone ts ws sound w self lone t row e r i columns unique full
    (owner_in (rows_of ts t.id) columns (values_at row columns)) refl))

slots-gone : (ts : Tables) (whole ws : List Write) → AllByRecursion (λ w. AllByRecursion (IsGoneSo ts whole)
    (slot_values (table_of (definitions_of ts) w.table) w.row)) ws → AllByRecursion (IsGoneSo ts whole) (all_values (definitions_of ts) ws)
slots-gone ts whole [] all = tt
slots-gone ts whole (w ∷ ws) all =
    all-two (IsGoneSo ts whole) (slot_values (table_of (definitions_of ts) w.table) w.row) (all_values (definitions_of ts) ws) all.0
    (slots-gone ts whole ws all.1)

clear-by-lone : (ts : Tables) (whole : List Write) (w : Write) (us : List Write) → IsLoneSo ts whole w →
    AllByRecursion (λ u. same_row w.table w.key u ≡ false) us → AllByRecursion (IsFoundSo ts whole) us →
    AllByRecursion (NoClash (definitions_of ts) w) us
clear-by-lone ts whole w us lone apart founds =
    all-both (λ u. same_row w.table w.key u ≡ false) (IsFoundSo ts whole) (NoClash (definitions_of ts) w) us
    (λ u free so t i columns row x there same r s unique full eq.
    let tables : (u.table == w.table) ≡ true = ap (λ j. j == w.table) same ∙ same_id w.table in
    let own : u.key ≡ w.key = lone t row there r i columns unique full u.key x (so w.table tables ∙ s) eq in
    not-both (same_row w.table w.key u) (both (u.table == w.table) (eq_by_cmp row_cmp u.key w.key) tables
    (ap (λ k. eq_by_cmp row_cmp u.key k) (sym own) ∙ row_self u.key)) free) apart founds

clear-all : (ts : Tables) (whole ws : List Write) → writes_rise ws ≡ true → AllByRecursion (IsLoneSo ts whole) ws →
    AllByRecursion (IsFoundSo ts whole) ws → AreClear (definitions_of ts) ws
clear-all ts whole [] rise lones founds = tt
clear-all ts whole (w ∷ ws) rise lones founds = (
  clear-by-lone ts whole w ws lones.0 (none-any (same_row w.table w.key) ws (not-again w ws rise)) founds.1,
  clear-all ts whole ws (rise_on w ws rise) lones.1 founds.1,
)

left-to-told : (ts : Tables) (ws : List Write) → AreSound ts → writes_rise ws ≡ true → are_left_alone ts ws ≡ true →
    are_told_alone ts ws ≡ true
left-to-told ts ws sound rise alone =
    let defs = definitions_of ts in
    let founds = found-so ts ws rise in
    let lones = all-both (IsFoundSo ts ws)
    (λ w. is_left_alone (table_of defs w.table) (rows_of (overlaid ts ws) w.table) w.key ≡ true) (IsLoneSo ts ws) ws
    (λ w so test. lone-by-left ts ws w so test) founds
    (all-true (λ w. is_left_alone (table_of defs w.table) (rows_of (overlaid ts ws) w.table) w.key) ws alone) in
    let gone : owners_gone ts ws (all_values defs ws) ≡ true = true-all (is_gone ts ws) (all_values defs ws)
    (slots-gone ts ws ws (all-both (λ w. is_written ws w.table w.key ≡ true) (IsLoneSo ts ws)
    (λ w. AllByRecursion (IsGoneSo ts ws) (slot_values (table_of defs w.table) w.row)) ws
    (λ w self lone. slot-gone ts ws sound w self lone (table_of defs w.table) refl w.row refl) (self-written ws) lones)) in
    let differ : keys_differ [] (all_values defs ws) ≡ true = differ-by [] (all_values defs ws)
    (apart-by-clear defs ws (clear-all ts ws ws rise lones founds)) (none-seen (all_values defs ws)) in
    let list = values-list [] defs ws in
    both (owners_gone ts ws (written_values [] defs ws)) (keys_differ [] (written_values [] defs ws))
    (ap (owners_gone ts ws) list ∙ gone) (ap (keys_differ []) list ∙ differ)

pub told-is-left : (ts : Tables) (ws : List Write) → AreSound ts → writes_rise ws ≡ true →
    are_told_alone ts ws ≡ are_left_alone ts ws
told-is-left ts ws sound rise =
    same-bools (are_told_alone ts ws) (are_left_alone ts ws) (told-to-left ts ws sound rise) (left-to-told ts ws sound rise)
