-- Written rows two by two: no key stands twice among their unique values where no two of them have one value, and the other way round.
use Rattle.std.proofs.Common.{◌≡◌, ℕ, suc, ◌+◌, List, [], ◌∷◌, Bool, true, false, refl, sym, ap, ◌∙◌, subst, Option, Some, None, arith, slice_get, inl, inr, if◌then◌else◌}
use Rattle.std.specs.Prelude.{◌⊎◌}
use Rattle.std.specs.List.{AllByRecursion, list_any}
use Rattle.rl_value.specs.declared.key.Key.{Key}
use Rattle.rl_value.specs.declared.value.Value.{Value}
use Rattle.redo_vec.specs.declared.table.TableRow.{TableRow}
use Rattle.redo_spec.specs.ConflictKeys.{is_null}
use Rattle.redo_spec.specs.Dictionary.{table_of, uniques_of}
use Rattle.redo_spec.specs.Tables.{values_at}
use Rattle.row_apply.specs.declared.writes.Write.{Write}
use Rattle.row_apply.specs.Kept.{unique_key}
use Rattle.constraint_check.proofs.Apart.{all-two, all-front, all-back, all-weaker, one_value, row_values, slot_values, all_values, of-row, by-row, IsNot, Apart, apart-back, apart-across, apart-two}
use Rattle.constraint_check.proofs.Values.{its-id}

-- two written rows of a table do not have one unique value
abbrev pub NoClash : List TableRow → Write → Write → Type 0
NoClash defs w u = (t : TableRow) (i : ℕ) (columns : List ℕ) (row x : List Value) → table_of defs w.table ≡ Some t →
    u.table ≡ w.table → w.row ≡ Some row → u.row ≡ Some x → slice_get (uniques_of t) i ≡ Some columns →
    list_any is_null (values_at row columns) ≡ false → values_at x columns ≡ values_at row columns → ⊥

turned : (defs : List TableRow) (w u : Write) → NoClash defs w u → NoClash defs u w
turned defs w u never t i columns row x there same r s unique full eq =
    never t i columns x row (subst (λ j. table_of defs j ≡ Some t) (sym same) there) (sym same) s r unique
    (ap (list_any is_null) eq ∙ full) (sym eq)

-- each write and those behind it
abbrev pub AreClear : List TableRow → List Write → Type 0
AreClear defs [] = Unit {0}
AreClear defs (w ∷ ws) = AllByRecursion (NoClash defs w) ws × AreClear defs ws

-- ---- from the values to the rows

abbrev IsApartFrom : List Key → Key → Type 0
IsApartFrom ks k = AllByRecursion (IsNot k) ks

slot-at : (P : Key → Type 0) (defs : List TableRow) (w : Write) (t : TableRow) (row : List Value) →
    table_of defs w.table ≡ Some t → w.row ≡ Some row → AllByRecursion P (slot_values (table_of defs w.table) w.row) →
    AllByRecursion P (row_values t.id row 1 (uniques_of t))
slot-at P defs w t row there r all =
    subst (λ o. AllByRecursion P (slot_values (Some t) o)) r (subst (λ o. AllByRecursion P (slot_values o w.row)) there all)

no-clash : (defs : List TableRow) (w : Write) (us : List Write) →
    AllByRecursion (IsApartFrom (all_values defs us)) (slot_values (table_of defs w.table) w.row) →
    AllByRecursion (NoClash defs w) us
no-clash defs w [] all = tt
no-clash defs w (u ∷ us) all = (
  (λ t i columns row x there same r s unique full eq.
      let k = unique_key t.id (suc i) (values_at row columns) in
      let mine = of-row (IsApartFrom (all_values defs (u ∷ us))) t.id row 1 (uniques_of t)
      (slot-at (IsApartFrom (all_values defs (u ∷ us))) defs w t row there r all) i columns unique full (suc i) (omega arith) in
      let theirs = all-front (IsNot k) (slot_values (table_of defs u.table) u.row) (all_values defs us) mine in
      of-row (IsNot k) t.id x 1 (uniques_of t)
      (slot-at (IsNot k) defs u t x (ap (table_of defs) same ∙ there) s theirs) i columns unique (ap (list_any is_null) eq ∙ full)
      (suc i) (omega arith) (ap (λ v. unique_key t.id (suc i) v) eq)),
  no-clash defs w us (all-weaker (IsApartFrom (all_values defs (u ∷ us))) (IsApartFrom (all_values defs us))
      (slot_values (table_of defs w.table) w.row)
      (λ k apart. all-back (IsNot k) (slot_values (table_of defs u.table) u.row) (all_values defs us) apart) all),
)

pub clear-by-apart : (defs : List TableRow) (ws : List Write) → Apart (all_values defs ws) → AreClear defs ws
clear-by-apart defs [] apart = tt
clear-by-apart defs (w ∷ ws) apart = (
  no-clash defs w ws (apart-across (slot_values (table_of defs w.table) w.row) (all_values defs ws) apart),
  clear-by-apart defs ws (apart-back (slot_values (table_of defs w.table) w.row) (all_values defs ws) apart),
)

-- each write and all of them, where it need not differ from itself
abbrev pub IsClearOf : List TableRow → Write → Write → Type 0
IsClearOf defs w u = (u.key ≡ w.key) ⊎ NoClash defs w u

joined : (defs : List TableRow) (h : Write) (all us : List Write) → AllByRecursion (NoClash defs h) us →
    AllByRecursion (λ w. AllByRecursion (IsClearOf defs w) all) us → AllByRecursion (λ w. AllByRecursion (IsClearOf defs w) (h ∷ all)) us
joined defs h all [] a b = tt
joined defs h all (w ∷ us) a b = ((inr (turned defs h w a.0), b.0), joined defs h all us a.1 b.1)

pub every : (defs : List TableRow) (ws : List Write) → AreClear defs ws → AllByRecursion (λ w. AllByRecursion (IsClearOf defs w) ws) ws
every defs [] clear = tt
every defs (h ∷ rest) clear = (
  (inl refl, all-weaker (NoClash defs h) (IsClearOf defs h) rest (λ u never. inr never) clear.0),
  joined defs h rest rest clear.0 (every defs rest clear.1),
)

-- ---- from the rows to the values

some-same : {A : Type 0} (x y : A) → Some x ≡ Some y → x ≡ y
some-same x y e = cc

other-row : (defs : List TableRow) (w u : Write) (t : TableRow) (row : List Value) (i m : ℕ) (columns : List ℕ) →
    NoClash defs w u → table_of defs w.table ≡ Some t → w.row ≡ Some row → slice_get (uniques_of t) i ≡ Some columns →
    list_any is_null (values_at row columns) ≡ false → m ≡ 1 + i → (o : Option TableRow) → table_of defs u.table ≡ o →
    (x : Option (List Value)) → u.row ≡ x →
    AllByRecursion (IsNot (unique_key t.id m (values_at row columns))) (slot_values o x)
other-row defs w u t row i m columns never there r unique full is None e x s = tt
other-row defs w u t row i m columns never there r unique full is (Some v) e None s = tt
other-row defs w u t row i m columns never there r unique full is (Some v) e (Some x) s =
    by-row (IsNot (unique_key t.id m (values_at row columns))) v.id x 1 (uniques_of v) (λ j others unique2 full2 n is2 same.
    let ids : v.id ≡ t.id = ap (λ (k : Key). k.table) same in
    let numbers : n ≡ m = ap (λ (k : Key). k.index) same in
    let values : values_at x others ≡ values_at row columns = ap (λ (k : Key). k.values) same in
    let index : j ≡ i = omega (arith, numbers, is, is2) in
    let tables : u.table ≡ w.table = sym (its-id defs u.table v e) ∙ ids ∙ its-id defs w.table t there in
    let one : v ≡ t = some-same v t (sym e ∙ ap (table_of defs) tables ∙ there) in
    let found : Some others ≡ Some columns =
    sym unique2 ∙ ap (λ k. slice_get (uniques_of v) k) index ∙ ap (λ (y : TableRow). slice_get (uniques_of y) i) one ∙ unique in
    let cols : others ≡ columns = some-same others columns found in
    never t i columns row x there tables r s unique full (ap (values_at x) (sym cols) ∙ values))

key-free : (defs : List TableRow) (w : Write) (us : List Write) (t : TableRow) (row : List Value) (i m : ℕ) (columns : List ℕ) →
    AllByRecursion (NoClash defs w) us → table_of defs w.table ≡ Some t → w.row ≡ Some row →
    slice_get (uniques_of t) i ≡ Some columns → list_any is_null (values_at row columns) ≡ false → m ≡ 1 + i →
    IsApartFrom (all_values defs us) (unique_key t.id m (values_at row columns))
key-free defs w [] t row i m columns never there r unique full is = tt
key-free defs w (u ∷ us) t row i m columns never there r unique full is =
    all-two (IsNot (unique_key t.id m (values_at row columns))) (slot_values (table_of defs u.table) u.row) (all_values defs us)
    (other-row defs w u t row i m columns never.0 there r unique full is (table_of defs u.table) refl u.row refl)
    (key-free defs w us t row i m columns never.1 there r unique full is)

slot-free : (defs : List TableRow) (w : Write) (us : List Write) → AllByRecursion (NoClash defs w) us → (o : Option TableRow) →
    table_of defs w.table ≡ o → (x : Option (List Value)) → w.row ≡ x →
    AllByRecursion (IsApartFrom (all_values defs us)) (slot_values o x)
slot-free defs w us never None e x r = tt
slot-free defs w us never (Some t) e None r = tt
slot-free defs w us never (Some t) e (Some row) r = by-row (IsApartFrom (all_values defs us)) t.id row 1 (uniques_of t)
    (λ i columns unique full m is. key-free defs w us t row i m columns never e r unique full is)

-- the values of one row have different numbers
one-apart : (b : Bool) (k : Key) → Apart (if b then [] else k ∷ [])
one-apart true k = tt
one-apart false k = (tt, tt)

one-across : (b : Bool) (k : Key) (ks : List Key) → AllByRecursion (IsNot k) ks →
    AllByRecursion (IsApartFrom ks) (if b then [] else k ∷ [])
one-across true k ks apart = tt
one-across false k ks apart = (apart, tt)

row-apart : (table : ℕ) (row : List Value) (n : ℕ) (us : List (List ℕ)) → Apart (row_values table row n us)
row-apart table row n [] = tt
row-apart table row n (u ∷ us) =
    let k = unique_key table n (values_at row u) in
    apart-two (one_value table row n u) (row_values table row (n + 1) us) (one-apart (list_any is_null (values_at row u)) k)
    (row-apart table row (n + 1) us)
    (one-across (list_any is_null (values_at row u)) k (row_values table row (n + 1) us)
    (by-row (IsNot k) table row (n + 1) us (λ i columns e full m is same.
    let number : m ≡ n = ap (λ (l : Key). l.index) same in
    absurd (omega (arith, is, number)))))

slot-apart : (o : Option TableRow) (x : Option (List Value)) → Apart (slot_values o x)
slot-apart None x = tt
slot-apart (Some t) None = tt
slot-apart (Some t) (Some row) = row-apart t.id row 1 (uniques_of t)

pub apart-by-clear : (defs : List TableRow) (ws : List Write) → AreClear defs ws → Apart (all_values defs ws)
apart-by-clear defs [] clear = tt
apart-by-clear defs (w ∷ ws) clear =
    apart-two (slot_values (table_of defs w.table) w.row) (all_values defs ws) (slot-apart (table_of defs w.table) w.row)
    (apart-by-clear defs ws clear.1) (slot-free defs w ws clear.0 (table_of defs w.table) refl w.row refl)
