-- The index of a unique key follows each write of a commit: what leads to a row that stays still does.
use Rattle.std.proofs.Common.{◌≡◌, ℕ, zero, suc, length, ◌++◌, append-nil, arith, List, [], ◌∷◌, refl, sym, ap, ◌∙◌, Bool, true, false, cond, not, subst, Option, Some, None, unwrap_or, ◌||◌, slice_get, map}
use Rattle.std.specs.Ordering.{eq_by_cmp}
use Rattle.std.specs.List.{list_any}
use Rattle.std.specs.FinMap.Entries as entries
use Rattle.rl_value.specs.declared.value.Value.{Value}
use Rattle.rl_value.specs.Order.{row_cmp, row_total}
use Rattle.redo_spec.specs.Tables.{Rows}
use Rattle.redo_spec.specs.Work.{write_row}
use Rattle.row_tree.specs.Entries.{without}
use Rattle.row_apply.proofs.Orders.{row_is, row_self, row_turned, row_same}
use Rattle.table_store.specs.Leads.{unique_of, slot_unique, IsLedBut, AreLedBut, leads_to, leave_if, leave, enter_unless, enter, departing, leads_after}

pub same_some : (x y : List Value) → Some x ≡ Some y → x ≡ y
same_some x y e = ap (λ o. unwrap_or o x) e

without_find : (k q : List Value) (es : Rows) →
    entries.find row_cmp q (without k es) ≡ cond (not (eq_by_cmp row_cmp k q)) (entries.find row_cmp q es) None
without_find k q es = entries.find-where_key row_cmp (λ x. not (eq_by_cmp row_cmp k x)) q
    (λ x t. ap (λ y. not (eq_by_cmp row_cmp k y)) (sym (row_same q x t))) es

false_not_true : {A : Type 0} → false ≡ true → A
false_not_true e = absurd (cc)

none_not_some : {A : Type 0} (x : List Value) → None ≡ Some x → A
none_not_some x e = absurd (cc)

-- ---- one value leaves

-- where another value is taken away because it led to another key, this one stays
stays_if : (x key q v : List Value) (index : Rows) (b : Bool) → entries.find row_cmp v index ≡ Some q →
    eq_by_cmp row_cmp key q ≡ false → leads_to key (entries.find row_cmp x index) ≡ b →
    entries.find row_cmp v (leave_if b x index) ≡ Some q
stays_if x key q v index false found apart e = found
stays_if x key q v index true found apart e =
    elim (eq_by_cmp row_cmp x v) as (λ t. eq_by_cmp row_cmp x v ≡ t → entries.find row_cmp v (without x index) ≡ Some q) [
      | true ↦ λ t.
          let is : x ≡ v = row_is x v t in
          let led : leads_to key (Some q) ≡ true =
          sym (ap (leads_to key) (ap (λ y. entries.find row_cmp y index) is ∙ found)) ∙ e in
          false_not_true (sym apart ∙ row_turned key q ∙ led)
      | false ↦ λ t. without_find x v index ∙ ap (λ b. cond (not b) (entries.find row_cmp v index) None) t ∙ found
    ] refl

stays_left : (w : Option (List Value)) (key q v : List Value) (index : Rows) → entries.find row_cmp v index ≡ Some q →
    eq_by_cmp row_cmp key q ≡ false → entries.find row_cmp v (leave w key index) ≡ Some q
stays_left None key q v index found apart = found
stays_left (Some x) key q v index found apart =
    stays_if x key q v index (leads_to key (entries.find row_cmp x index)) found apart refl

-- ---- one value enters

stays_beside : (b : Bool) (x key q v : List Value) (index : Rows) → entries.find row_cmp v index ≡ Some q →
    eq_by_cmp row_cmp v x ≡ false → entries.find row_cmp v (enter_unless b x key index) ≡ Some q
stays_beside true x key q v index found apart = found
stays_beside false x key q v index found apart =
    entries.find-put row_cmp row_total v x key index ∙ ap (λ b. cond b (Some key) (entries.find row_cmp v index)) apart ∙ found

stays_entered : (w : Option (List Value)) (key q v : List Value) (index : Rows) → entries.find row_cmp v index ≡ Some q →
    ((x : List Value) → w ≡ Some x → eq_by_cmp row_cmp v x ≡ false) → entries.find row_cmp v (enter w key index) ≡ Some q
stays_entered None key q v index found apart = found
stays_entered (Some x) key q v index found apart =
    stays_beside (leads_to key (entries.find row_cmp x index)) x key q v index found (apart x refl)

leads_is : (key : List Value) (o : Option (List Value)) → leads_to key o ≡ true → o ≡ Some key
leads_is key None e = absurd (cc)
leads_is key (Some found) e = ap Some (row_is found key e)

entered_if : (b : Bool) (x key : List Value) (index : Rows) → leads_to key (entries.find row_cmp x index) ≡ b →
    entries.find row_cmp x (enter_unless b x key index) ≡ Some key
entered_if true x key index e = leads_is key (entries.find row_cmp x index) e
entered_if false x key index e =
    entries.find-put row_cmp row_total x x key index ∙
    ap (λ b. cond b (Some key) (entries.find row_cmp x index)) (row_self x)

entered_leads : (w : Option (List Value)) (key v : List Value) (index : Rows) → w ≡ Some v →
    entries.find row_cmp v (enter w key index) ≡ Some key
entered_leads None key v index e = none_not_some v e
entered_leads (Some x) key v index e =
    ap (λ y. entries.find row_cmp y (enter (Some x) key index)) (sym (same_some x v e)) ∙
    entered_if (leads_to key (entries.find row_cmp x index)) x key index refl

-- ---- one index after a write

-- no other row that stays has the unique value that is written
abbrev pub IsSingle : List ℕ → List (List Value) → Rows → List Value → Option (List Value) → Type 0
IsSingle columns left rows key slot = (q r v x : List Value) → entries.find row_cmp q rows ≡ Some r →
    eq_by_cmp row_cmp q key ≡ false → list_any (eq_by_cmp row_cmp q) left ≡ false → unique_of columns r ≡ Some v →
    slot_unique columns slot ≡ Some x → eq_by_cmp row_cmp v x ≡ false

led_put : (columns : List ℕ) (left : List (List Value)) (rows index : Rows) (key row : List Value) (gone : Option (List Value)) →
    IsLedBut columns (key ∷ left) rows index → IsSingle columns left rows key (Some row) →
    IsLedBut columns left (entries.put row_cmp key row rows) (enter (unique_of columns row) key (leave gone key index))
led_put columns left rows index key row gone led single = λ q r v found free has.
    let seen : cond (eq_by_cmp row_cmp q key) (Some row) (entries.find row_cmp q rows) ≡ Some r =
    sym (entries.find-put row_cmp row_total q key row rows) ∙ found in
    elim (eq_by_cmp row_cmp q key) as (λ b. eq_by_cmp row_cmp q key ≡ b →
    cond b (Some row) (entries.find row_cmp q rows) ≡ Some r →
    entries.find row_cmp v (enter (unique_of columns row) key (leave gone key index)) ≡ Some q) [
      | true ↦ λ t s.
          let own : unique_of columns row ≡ Some v = ap (unique_of columns) (same_some row r s) ∙ has in
          entered_leads (unique_of columns row) key v (leave gone key index) own ∙ ap Some (sym (row_is q key t))
      | false ↦ λ t s.
          let there = led q r v s (ap (λ b. b || list_any (eq_by_cmp row_cmp q) left) t ∙ free) has in
          stays_entered (unique_of columns row) key q v (leave gone key index)
          (stays_left gone key q v index there (row_turned key q ∙ t)) (λ x e. single q r v x s t free has e)
    ] refl seen

led_take : (columns : List ℕ) (left : List (List Value)) (rows index : Rows) (key : List Value) (gone : Option (List Value)) →
    IsLedBut columns (key ∷ left) rows index → IsLedBut columns left (without key rows) (leave gone key index)
led_take columns left rows index key gone led = λ q r v found free has.
    let seen : cond (not (eq_by_cmp row_cmp key q)) (entries.find row_cmp q rows) None ≡ Some r =
    sym (without_find key q rows) ∙ found in
    elim (eq_by_cmp row_cmp key q) as (λ b. eq_by_cmp row_cmp key q ≡ b →
    cond (not b) (entries.find row_cmp q rows) None ≡ Some r → entries.find row_cmp v (leave gone key index) ≡ Some q) [
      | true ↦ λ t s. none_not_some r s
      | false ↦ λ t s.
          let there = led q r v s (ap (λ b. b || list_any (eq_by_cmp row_cmp q) left) (row_turned q key ∙ t) ∙ free) has in
          stays_left gone key q v index there t
    ] refl seen

led_write : (columns : List ℕ) (left : List (List Value)) (rows index : Rows) (key : List Value)
    (gone slot : Option (List Value)) → IsLedBut columns (key ∷ left) rows index → IsSingle columns left rows key slot →
    IsLedBut columns left (write_row rows key slot) (enter (slot_unique columns slot) key (leave gone key index))
led_write columns left rows index key gone None led single = led_take columns left rows index key gone led
led_write columns left rows index key gone (Some row) led single = led_put columns left rows index key row gone led single

-- ---- all of them

pub all_led_write : (keys : List (List ℕ)) (left : List (List Value)) (rows : Rows) (indexes : List Rows) (key : List Value)
    (was slot : Option (List Value)) → AreLedBut keys (key ∷ left) rows indexes →
    ((index : ℕ) (columns : List ℕ) → slice_get keys index ≡ Some columns → IsSingle columns left rows key slot) →
    AreLedBut keys left (write_row rows key slot) (leads_after keys key was slot indexes)
all_led_write [] left rows indexes key was slot led single = refl
all_led_write (columns ∷ more) left rows [] key was slot led single = absurd led
all_led_write (columns ∷ more) left rows (index ∷ others) key was slot led single = (
  led_write columns left rows index key (departing (slot_unique columns was) (slot_unique columns slot)) slot led.0
      (single 0 columns refl),
  all_led_write more left rows others key was slot led.1 (λ n cs e. single (suc n) cs e),
)

-- what leads to every row leads to those whose keys are not among these
pub all_led_less : (keys : List (List ℕ)) (left : List (List Value)) (rows : Rows) (indexes : List Rows) →
    AreLedBut keys [] rows indexes → AreLedBut keys left rows indexes
all_led_less [] left rows indexes led = led
all_led_less (columns ∷ more) left rows [] led = absurd led
all_led_less (columns ∷ more) left rows (index ∷ others) led =
    ((λ q r v found free has. led.0 q r v found refl has), all_led_less more left rows others led.1)

-- no rows are led to by indexes that are empty
pub none_led : (keys : List (List ℕ)) → AreLedBut keys [] [] (map (λ _. []) keys)
none_led [] = refl
none_led (columns ∷ more) = ((λ q r v found free has. none_not_some r found), none_led more)

-- the index of the unique key at this place
pub led_at : (keys : List (List ℕ)) (rows : Rows) (indexes : List Rows) (at : ℕ) (columns : List ℕ) (index : Rows) →
    AreLedBut keys [] rows indexes → slice_get keys at ≡ Some columns → slice_get indexes at ≡ Some index →
    IsLedBut columns [] rows index
led_at [] rows indexes at columns index led key there = absurd (cc)
led_at (k ∷ ks) rows [] at columns index led key there = absurd led
led_at (k ∷ ks) rows (i ∷ is) zero columns index led key there =
    let same_key : k ≡ columns = cc in
    let same : i ≡ index = cc in
    let P : List ℕ → Rows → Type 0 = λ c x. IsLedBut c [] rows x in
    subst (λ c. P c index) same_key (subst (P k) same led.0)
led_at (k ∷ ks) rows (i ∷ is) (suc at) columns index led key there = led_at ks rows is at columns index led.1 key there

longer : {A B : Type 0} (x : A) (y : B) (xs : List A) (ys : List B) → length xs ≡ length ys →
    length (x ∷ xs) ≡ length (y ∷ ys)
longer x y xs ys e = omega (arith, e)

-- there are as many indexes as unique keys
pub as_many_led : (keys : List (List ℕ)) (left : List (List Value)) (rows : Rows) (indexes : List Rows) →
    AreLedBut keys left rows indexes → length indexes ≡ length keys
as_many_led [] left rows indexes led = led
as_many_led (columns ∷ more) left rows [] led = absurd led
as_many_led (columns ∷ more) left rows (index ∷ others) led =
    longer index columns others more (as_many_led more left rows others led.1)

-- where none is left all is done
follow_none : (keys : List (List ℕ)) (key : List Value) (was now : Option (List Value)) → leads_after keys key was now [] ≡ []
follow_none [] key was now = refl
follow_none (columns ∷ more) key was now = refl

pub follow_done : (done left total : List Rows) (keys : List (List ℕ)) (key : List Value) (was now : Option (List Value)) →
    length left ≡ 0 → done ++ leads_after keys key was now left ≡ total → done ≡ total
follow_done done [] total keys key was now none is =
    sym (append-nil done) ∙ ap (λ xs. done ++ xs) (sym (follow_none keys key was now)) ∙ is
follow_done done (x ∷ xs) total keys key was now none is = absurd (omega (arith, none))
