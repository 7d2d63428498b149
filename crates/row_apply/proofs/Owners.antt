-- Owners of unique values: in rows that rise, and where some rows were written over others.
use Rattle.std.proofs.Common.{◌≡◌, ℕ, List, [], ◌∷◌, refl, sym, ap, ◌∙◌, Bool, true, false, cond, ◌&&◌, Option, Some, None, if◌then◌else◌, is_some}
use Rattle.std.proofs.Math.Dec.{T}
use Rattle.std.specs.declared.cmp.Ordering.{Ordering}
use Rattle.std.specs.declared.cmp.Ordering.TheVariants.{Less, Equal, Greater}
use Rattle.std.specs.Ordering.{is_eq, is_lt, eq_by_cmp}
use Rattle.std.specs.Option.{option_map}
use Rattle.std.specs.List.{list_any, find}
use Rattle.std.specs.FinMap.Entries as entries
use Rattle.rl_value.specs.declared.value.Value.{Value}
use Rattle.rl_value.specs.Order.{row_cmp}
use Rattle.redo_spec.specs.ConflictKeys.{is_null}
use Rattle.redo_spec.specs.Tables.{Rows, values_at, owner_in}
use Rattle.row_apply.specs.Overlaid.{rows_after}
use Rattle.row_apply.specs.Written.{writes_in}
use Rattle.row_apply.specs.Kept.{Slots, row_key, slot_at, IsLive, AreSlots}
use Rattle.row_apply.specs.Soundness.{HaveOneOwner}
use Rattle.row_apply.specs.Adding.{rows_without, goes, owner_unless, if_beneath, OwnsWritten, IsUnowned}
use Rattle.row_apply.proofs.Orders.{row_is, row_self, row_turned}
use Rattle.row_apply.proofs.Slots.{find_after, over, sorted_minus, find_minus}

and_first : (a b : Bool) → T (a && b) → T a
and_first true b p = tt
and_first false b p = p

and_second : (a b : Bool) → T (a && b) → T b
and_second true b p = p
and_second false b p = absurd p

less : (o : Ordering) → T (is_lt o) → is_eq o ≡ false
less Less p = refl
less Equal p = absurd p
less Greater p = absurd p

-- no row stands under a key that is below them all
none_below : (key : List Value) (rows : Rows) → T (entries.below_all row_cmp key rows) → entries.find row_cmp key rows ≡ None
none_below key [] h = refl
none_below key (r ∷ rs) h =
    ap (λ b. cond b (Some r.1) (entries.find row_cmp key rs)) (less (row_cmp key r.0) (and_first _ _ h)) ∙
    none_below key rs (and_second (is_lt (row_cmp key r.0)) (entries.below_all row_cmp key rs) h)

-- an owner's row has the values
later : (b : Bool) (o : List Value) (r : List Value × List Value) (rs : Rows) (y : List Value) → eq_by_cmp row_cmp o r.0 ≡ b →
    T (entries.below_all row_cmp r.0 rs) → entries.find row_cmp o rs ≡ Some y →
    cond b (Some r.1) (entries.find row_cmp o rs) ≡ Some y
later true o r rs y t h e =
    let same : o ≡ r.0 = row_is o r.0 t in
    let none : entries.find row_cmp o rs ≡ None = ap (λ k. entries.find row_cmp k rs) same ∙ none_below r.0 rs h in
    absurd (cc)
later false o r rs y t h e = e

pub owner_found : (rows : Rows) (columns : List ℕ) (values owner : List Value) → T (entries.is_sorted row_cmp rows) →
    owner_in rows columns values ≡ Some owner →
    (row : List Value) × ((entries.find row_cmp owner rows ≡ Some row) × (values_at row columns ≡ values))
owner_found [] columns values owner s e = absurd (cc)
owner_found (r ∷ rs) columns values owner s e =
    elim (eq_by_cmp row_cmp (values_at r.1 columns) values) as (λ b. eq_by_cmp row_cmp (values_at r.1 columns) values ≡ b →
    option_map (λ (x : List Value × List Value). x.0) (cond b (Some r)
    (find (λ (x : List Value × List Value). eq_by_cmp row_cmp (values_at x.1 columns) values) rs)) ≡ Some owner →
    (row : List Value) × ((entries.find row_cmp owner (r ∷ rs) ≡ Some row) × (values_at row columns ≡ values))) [
      | true ↦ λ t h.
          let same : r.0 ≡ owner = cc in (
            r.1,
            (
              ap (λ k. entries.find row_cmp k (r ∷ rs)) (sym same) ∙
                  ap (λ b. cond b (Some r.1) (entries.find row_cmp r.0 rs)) (row_self r.0),
              row_is (values_at r.1 columns) values t,
            ),
          )
      | false ↦ λ t h.
          let p = owner_found rs columns values owner (and_second (entries.below_all row_cmp r.0 rs)
          (entries.is_sorted row_cmp rs) s) h in (
            p.0,
            (
              later (eq_by_cmp row_cmp owner r.0) owner r rs p.0 refl
                  (and_first (entries.below_all row_cmp r.0 rs) (entries.is_sorted row_cmp rs) s) p.1.0,
              p.1.1,
            ),
          )
    ] refl e

-- a row that has the values has an owner found
skipped : (b : Bool) (r : List Value × List Value) (rest : Option (List Value × List Value)) →
    option_map (λ (x : List Value × List Value). x.0) (cond b (Some r) rest) ≡ None →
    (b ≡ false) × (option_map (λ (x : List Value × List Value). x.0) rest ≡ None)
skipped true r rest e = absurd (cc)
skipped false r rest e = (refl, e)

pub none_owns : (rows : Rows) (columns : List ℕ) (values key row : List Value) → owner_in rows columns values ≡ None →
    entries.find row_cmp key rows ≡ Some row → values_at row columns ≡ values → ⊥
none_owns [] columns values key row e f v = cc
none_owns (r ∷ rs) columns values key row e f v =
    let p = skipped (eq_by_cmp row_cmp (values_at r.1 columns) values) r
    (find (λ (x : List Value × List Value). eq_by_cmp row_cmp (values_at x.1 columns) values) rs) e in
    elim (eq_by_cmp row_cmp key r.0) as (λ b. cond b (Some r.1) (entries.find row_cmp key rs) ≡ Some row → ⊥) [
      | true ↦ λ h.
          let same : r.1 ≡ row = cc in
          let ties : eq_by_cmp row_cmp (values_at r.1 columns) values ≡ true =
          ap (λ x. eq_by_cmp row_cmp (values_at x columns) values) same ∙ ap (λ x. eq_by_cmp row_cmp x values) v ∙
          row_self values in
          let differs : eq_by_cmp row_cmp (values_at r.1 columns) values ≡ false = p.0 in
          cc
      | false ↦ λ h. none_owns rs columns values key row p.1 h v
    ] f

-- where each value has one owner, the row that has the values is the owner
pub owner_is : (rows : Rows) (columns : List ℕ) (values key row : List Value) → T (entries.is_sorted row_cmp rows) →
    HaveOneOwner columns rows → list_any is_null values ≡ false →
    entries.find row_cmp key rows ≡ Some row → values_at row columns ≡ values → owner_in rows columns values ≡ Some key
owner_is rows columns values key row s one full f v =
    elim (owner_in rows columns values) as (λ o. owner_in rows columns values ≡ o → o ≡ Some key) [
      | None ↦ λ e. absurd (none_owns rows columns values key row e f v)
      | Some owner ↦ λ e.
          let p = owner_found rows columns values owner s e in
          let same : key ≡ owner = one key owner row p.0 f p.1.0 (ap (list_any is_null) v ∙ full) (v ∙ sym p.1.1) in
          ap Some (sym same)
    ] refl

pub owner_none : (rows : Rows) (columns : List ℕ) (values : List Value) → T (entries.is_sorted row_cmp rows) →
    ((key row : List Value) → entries.find row_cmp key rows ≡ Some row → values_at row columns ≡ values → ⊥) →
    owner_in rows columns values ≡ None
owner_none rows columns values s never =
    elim (owner_in rows columns values) as (λ o. owner_in rows columns values ≡ o → o ≡ None) [
      | None ↦ λ e. refl
      | Some owner ↦ λ e. let p = owner_found rows columns values owner s e in absurd (never owner p.0 p.1.0 p.1.1)
    ] refl

-- ---- without the row that goes

kept_if : (b : Bool) (F : Option (List Value)) (x : List Value) → cond b None F ≡ Some x → (b ≡ false) × (F ≡ Some x)
kept_if true F x e = absurd (cc)
kept_if false F x e = (refl, e)

-- a row that is left was there
pub left_was : (gone : Option (List Value)) (q row : List Value) (rows : Rows) →
    entries.find row_cmp q (rows_without gone rows) ≡ Some row → (goes gone q ≡ false) × (entries.find row_cmp q rows ≡ Some row)
left_was gone q row rows e = kept_if (goes gone q) (entries.find row_cmp q rows) row (sym (find_minus gone q rows) ∙ e)

pub one_owner-minus : (gone : Option (List Value)) (columns : List ℕ) (rows : Rows) → HaveOneOwner columns rows →
    HaveOneOwner columns (rows_without gone rows)
one_owner-minus gone columns rows one key other row like e f =
    one key other row like (left_was gone key row rows e).1 (left_was gone other like rows f).1

unless_goes : (gone : Option (List Value)) (owner : List Value) →
    owner_unless gone owner ≡ cond (goes gone owner) None (Some owner)
unless_goes None owner = refl
unless_goes (Some k) owner = ap (λ b. cond b None (Some owner)) (row_turned k owner)

hidden : (b : Bool) (owner : List Value) → cond b None (Some owner) ≡ None → b ≡ true
hidden true owner e = refl
hidden false owner e = absurd (cc)

-- an owner that is not told goes
pub unless_none : (gone : Option (List Value)) (owner : List Value) → owner_unless gone owner ≡ None → goes gone owner ≡ true
unless_none gone owner e = hidden (goes gone owner) owner (sym (unless_goes gone owner) ∙ e)

-- the owner, or none where it goes
pub owner_minus : (gone : Option (List Value)) (rows : Rows) (columns : List ℕ) (values key row : List Value) →
    T (entries.is_sorted row_cmp rows) → HaveOneOwner columns rows →
    list_any is_null values ≡ false → entries.find row_cmp key rows ≡ Some row → values_at row columns ≡ values →
    owner_in (rows_without gone rows) columns values ≡ owner_unless gone key
owner_minus gone rows columns values key row s one full f v =
    elim (goes gone key) as (λ b. goes gone key ≡ b → owner_in (rows_without gone rows) columns values ≡ cond b None (Some key)) [
      | true ↦ λ g. owner_none (rows_without gone rows) columns values (sorted_minus gone rows s) (λ k x e w.
          let p = left_was gone k x rows e in
          let same : key ≡ k = one key k row x f p.1 (ap (list_any is_null) v ∙ full) (v ∙ sym w) in
          let still : goes gone key ≡ false = ap (goes gone) same ∙ p.0 in
          cc)
      | false ↦ λ g. owner_is (rows_without gone rows) columns values key row (sorted_minus gone rows s)
          (one_owner-minus gone columns rows one) full
          (find_minus gone key rows ∙ ap (λ b. cond b None (entries.find row_cmp key rows)) g ∙ f) v
    ] refl
    ∙ sym (unless_goes gone key)

-- ---- where rows were written over others

pub found_live : (es : Slots) (id : ℕ) (q row : List Value) (beneath : Rows) → AreSlots es → IsLive es id q row →
    entries.find row_cmp q (rows_after id (writes_in es) beneath) ≡ Some row
found_live es id q row beneath a live = find_after es id q beneath a.primary a.ordered ∙
    ap (λ s. over s (entries.find row_cmp q beneath)) live

-- a row that is found is written, or stands beneath where nothing was written
seen_from : (S : Option (Option (List Value))) (F : Option (List Value)) (x : List Value) → (S ≡ Some (Some x) → ⊥) →
    over S F ≡ Some x → (S ≡ None) × (F ≡ Some x)
seen_from None F x never e = (refl, e)
seen_from (Some s) F x never e = absurd (never (ap Some e))

-- a written row that has the values owns them
pub owner_written : (gone : Option (List Value)) (es : Slots) (id : ℕ) (beneath : Rows) (columns : List ℕ)
    (values owner : List Value) → AreSlots es →
    T (entries.is_sorted row_cmp (rows_after id (writes_in es) beneath)) →
    HaveOneOwner columns (rows_after id (writes_in es) beneath) → list_any is_null values ≡ false →
    OwnsWritten es id columns values owner → owner_in (rows_without gone (rows_after id (writes_in es) beneath)) columns values ≡
    owner_unless gone owner
owner_written gone es id beneath columns values owner a s one full owns =
    owner_minus gone (rows_after id (writes_in es) beneath) columns values owner owns.0 s one full
    (found_live es id owner owns.0 beneath a owns.1.0) owns.1.1

-- else nobody owns them where nobody does beneath
pub owner_nowhere : (gone : Option (List Value)) (es : Slots) (id : ℕ) (beneath : Rows) (columns : List ℕ) (values : List Value) →
    AreSlots es →
    T (entries.is_sorted row_cmp (rows_after id (writes_in es) beneath)) → IsUnowned es id columns values →
    owner_in beneath columns values ≡ None →
    owner_in (rows_without gone (rows_after id (writes_in es) beneath)) columns values ≡ None
owner_nowhere gone es id beneath columns values a s never none =
    owner_none (rows_without gone (rows_after id (writes_in es) beneath)) columns values
    (sorted_minus gone (rows_after id (writes_in es) beneath) s) (λ k x e w.
    let p = left_was gone k x (rows_after id (writes_in es) beneath) e in
    let q = seen_from (slot_at es (row_key id k)) (entries.find row_cmp k beneath) x (λ live. never k x live w)
    (sym (find_after es id k beneath a.primary a.ordered) ∙ p.1) in
    none_owns beneath columns values k x none q.1 w)

written_over : (S : Option (Option (List Value))) (F : Option (List Value)) (x : List Value) → is_some S ≡ false → over S F ≡ F
written_over None F x e = refl
written_over (Some s) F x e = absurd (cc)

is_none : (S : Option (Option (List Value))) → S ≡ None → is_some S ≡ false
is_none None e = refl
is_none (Some s) e = absurd (cc)

-- the owner beneath owns them where it was not written over
pub owner_beneath : (gone : Option (List Value)) (es : Slots) (id : ℕ) (beneath : Rows) (columns : List ℕ)
    (values owner : List Value) → AreSlots es →
    T (entries.is_sorted row_cmp beneath) → HaveOneOwner columns beneath →
    T (entries.is_sorted row_cmp (rows_after id (writes_in es) beneath)) →
    HaveOneOwner columns (rows_after id (writes_in es) beneath) → list_any is_null values ≡ false →
    IsUnowned es id columns values → owner_in beneath columns values ≡ Some owner →
    owner_in (rows_without gone (rows_after id (writes_in es) beneath)) columns values ≡ if_beneath es id gone owner
owner_beneath gone es id beneath columns values owner a sb oneb s one full never is =
    let rows = rows_after id (writes_in es) beneath in
    let p = owner_found beneath columns values owner sb is in
    elim (is_some (slot_at es (row_key id owner))) as (λ b. is_some (slot_at es (row_key id owner)) ≡ b →
    owner_in (rows_without gone (rows_after id (writes_in es) beneath)) columns values ≡
    (if b then None else owner_unless gone owner)) [
      | true ↦ λ t. owner_none (rows_without gone rows) columns values (sorted_minus gone rows s) (λ k x e w.
          let l = left_was gone k x rows e in
          let q = seen_from (slot_at es (row_key id k)) (entries.find row_cmp k beneath) x (λ live. never k x live w)
          (sym (find_after es id k beneath a.primary a.ordered) ∙ l.1) in
          let same : k ≡ owner = oneb k owner x p.0 q.1 p.1.0 (ap (list_any is_null) w ∙ full) (w ∙ sym p.1.1) in
          let not_there : is_some (slot_at es (row_key id owner)) ≡ false =
          ap (λ v. is_some (slot_at es (row_key id v))) (sym same) ∙ is_none (slot_at es (row_key id k)) q.0 in
          cc)
      | false ↦ λ t. owner_minus gone rows columns values owner p.0 s one full
          (find_after es id owner beneath a.primary a.ordered ∙
          written_over (slot_at es (row_key id owner)) (entries.find row_cmp owner beneath) p.0 t ∙ p.1.0) p.1.1
    ] refl
