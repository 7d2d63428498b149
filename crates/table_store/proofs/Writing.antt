-- Writes of one table, one after the other: the rows, the indexes and the count go together.
use Rattle.std.proofs.Common.{◌≡◌, ℕ, length, List, [], ◌∷◌, map, refl, sym, ap, subst, ◌∙◌, Bool, true, false, cond, ◌&&◌, ◌||◌, ◌==◌, ◌≤◌, ◌-◌, get_or, take, drop, arith, Option, Some, None}
use Rattle.std.proofs.Math.Seq.{take-length}
use Rattle.std.proofs.lemmas.Bool.Decides.{nat_tests}
use Rattle.std.specs.declared.cmp.Ordering.{Ordering}
use Rattle.std.specs.declared.cmp.Ordering.TheVariants.{Less, Equal, Greater}
use Rattle.std.specs.FinMap.Entries as entries
use Rattle.std.specs.List.{list_any}
use Rattle.std.specs.Ordering.{eq_by_cmp, is_lt, is_eq}
use Rattle.rl_value.specs.declared.value.Value.{Value}
use Rattle.rl_value.specs.declared.key.Key.{Key}
use Rattle.rl_value.specs.Order.{row_cmp, key_cmp, key_total, keys_rise, is_below_first}
use Rattle.redo_vec.specs.declared.table.TableRow.{TableRow}
use Rattle.redo_spec.specs.ConflictKeys.{is_null}
use Rattle.redo_spec.specs.Dictionary.{uniques_of}
use Rattle.redo_spec.specs.Tables.{Rows, values_at}
use Rattle.redo_spec.specs.Work.{write_row}
use Rattle.row_apply.specs.declared.writes.Write.{Write}
use Rattle.row_apply.specs.Overlaid.{written_key, writes_rise, rows_after}
use Rattle.row_apply.specs.Soundness.{AreSoundRows, HaveOneOwner}
use Rattle.row_apply.proofs.Orders.{row_is, row_self, key_self}
use Rattle.row_apply.proofs.Slots.{find_write, sorted_write, to_T, from_T}
use Rattle.table_store.specs.Leads.{unique_of, slot_unique, AreLedBut, keys_in, leads_after}
use Rattle.table_store.proofs.Leading.{IsSingle, same_some, all_led_write, all_led_less}

left_true : (a b : Bool) → (a && b) ≡ true → a ≡ true
left_true true b e = refl
left_true false b e = absurd (cc)

right_true : (a b : Bool) → (a && b) ≡ true → b ≡ true
right_true true b e = e
right_true false b e = absurd (cc)

pub neither : (a b : Bool) → (a || b) ≡ false → (a ≡ false) × (b ≡ false)
neither true b e = absurd (cc)
neither false b e = (refl, e)

either : (a b : Bool) → a ≡ false → b ≡ false → (a || b) ≡ false
either true b p q = absurd (cc)
either false b p q = q

is_not : (b : Bool) → (b ≡ true → ⊥) → b ≡ false
is_not true never = absurd (never refl)
is_not false never = refl

same_number : (a b : ℕ) → (a == b) ≡ true → a ≡ b
same_number a b e = grind (arith, nat_tests)

less_is : (o : Ordering) → is_lt o ≡ true → o ≡ Less
less_is Less e = refl
less_is Equal e = absurd (cc)
less_is Greater e = absurd (cc)

-- ---- writes that rise are of different rows

is_less : (k l m : Key) (ms : List Key) → key_cmp k l ≡ Less → is_below_first l (m ∷ ms) ≡ true → is_below_first k (m ∷ ms) ≡ true
is_less k l m ms less below = ap is_lt (key_total.trans k l m less (less_is (key_cmp l m) below))

below_next : (k l : Key) (ms : List Key) → key_cmp k l ≡ Less → is_below_first l ms ≡ true → is_below_first k ms ≡ true
below_next k l [] less below = refl
below_next k l (m ∷ ms) less below = is_less k l m ms less below

no_less : (o : Ordering) → o ≡ Less → is_eq o ≡ true → ⊥
no_less Less e f = cc
no_less Equal e f = cc
no_less Greater e f = cc

tied_keys : (v w : Write) → w.table ≡ v.table → v.key ≡ w.key → key_cmp (written_key v) (written_key w) ≡ Less → ⊥
tied_keys v w table key less =
    let same : written_key v ≡ written_key w = λ i. record { table = sym table i; index = 0; values = key i } in
    no_less (key_cmp (written_key v) (written_key w)) less
    (ap (λ k. is_eq (key_cmp (written_key v) k)) (sym same) ∙ key_self (written_key v))

not_among : (id : ℕ) (w : Write) (ws : List Write) → (w.table == id) ≡ true →
    is_below_first (written_key w) (map written_key ws) ≡ true → keys_rise (map written_key ws) ≡ true →
    list_any (eq_by_cmp row_cmp w.key) (keys_in id ws) ≡ false
not_among id w [] of below rise = refl
not_among id w (v ∷ vs) of below rise =
    let less = less_is (key_cmp (written_key w) (written_key v)) below in
    let next = left_true (is_below_first (written_key v) (map written_key vs)) (keys_rise (map written_key vs)) rise in
    let later = right_true (is_below_first (written_key v) (map written_key vs)) (keys_rise (map written_key vs)) rise in
    let more = not_among id w vs of (below_next (written_key w) (written_key v) (map written_key vs) less next) later in
    elim (v.table == id) as (λ b. (v.table == id) ≡ b →
    list_any (eq_by_cmp row_cmp w.key) (cond b (v.key ∷ keys_in id vs) (keys_in id vs)) ≡ false) [
      | true ↦ λ b. either (eq_by_cmp row_cmp w.key v.key) (list_any (eq_by_cmp row_cmp w.key) (keys_in id vs))
          (is_not (eq_by_cmp row_cmp w.key v.key)
          (λ tie. tied_keys w v (same_number v.table id b ∙ sym (same_number w.table id of)) (row_is w.key v.key tie) less)) more
      | false ↦ λ b. more
    ] refl

pub rise_on : (w : Write) (ws : List Write) → writes_rise (w ∷ ws) ≡ true → writes_rise ws ≡ true
rise_on w ws rise = right_true (is_below_first (written_key w) (map written_key ws)) (keys_rise (map written_key ws)) rise

pub not_again : (id : ℕ) (w : Write) (ws : List Write) → (w.table == id) ≡ true → writes_rise (w ∷ ws) ≡ true →
    list_any (eq_by_cmp row_cmp w.key) (keys_in id ws) ≡ false
not_again id w ws of rise =
    not_among id w ws of (left_true (is_below_first (written_key w) (map written_key ws)) (keys_rise (map written_key ws)) rise)
    (rise_on w ws rise)

-- ---- what is found after writes

-- a row that is not written is there as before
pub find_unwritten : (id : ℕ) (ws : List Write) (q : List Value) (rows : Rows) →
    list_any (eq_by_cmp row_cmp q) (keys_in id ws) ≡ false →
    entries.find row_cmp q (rows_after id ws rows) ≡ entries.find row_cmp q rows
find_unwritten id [] q rows free = refl
find_unwritten id (w ∷ ws) q rows free =
    elim (w.table == id) as (λ b. list_any (eq_by_cmp row_cmp q) (cond b (w.key ∷ keys_in id ws) (keys_in id ws)) ≡ false →
    entries.find row_cmp q (rows_after id ws (cond b (write_row rows w.key w.row) rows)) ≡ entries.find row_cmp q rows) [
      | true ↦ λ h.
          let p = neither (eq_by_cmp row_cmp q w.key) (list_any (eq_by_cmp row_cmp q) (keys_in id ws)) h in
          find_unwritten id ws q (write_row rows w.key w.row) p.1 ∙ find_write q w.key w.row rows ∙
          ap (λ b. cond b w.row (entries.find row_cmp q rows)) p.0
      | false ↦ λ h. find_unwritten id ws q rows h
    ] free

-- where no write is of the table its rows stay
pub rows_stay : (id : ℕ) (ws : List Write) (rows : Rows) → list_any (λ (w : Write). w.table == id) ws ≡ false →
    rows_after id ws rows ≡ rows
rows_stay id [] rows free = refl
rows_stay id (w ∷ ws) rows free =
    let p = neither (w.table == id) (list_any (λ (v : Write). v.table == id) ws) free in
    ap (λ b. rows_after id ws (cond b (write_row rows w.key w.row) rows)) p.0 ∙ rows_stay id ws rows p.1

-- ---- one owner in the end is one owner among those that stay

unique_is : (columns : List ℕ) (row v : List Value) → unique_of columns row ≡ Some v →
    (list_any is_null (values_at row columns) ≡ false) × (values_at row columns ≡ v)
unique_is columns row v =
    elim (list_any is_null (values_at row columns)) as (λ b. cond b None (Some (values_at row columns)) ≡ Some v →
    (b ≡ false) × (values_at row columns ≡ v)) [
      | true ↦ λ e. absurd (cc)
      | false ↦ λ e. (refl, same_some (values_at row columns) v e)
    ]

slot_is : (columns : List ℕ) (slot : Option (List Value)) (x : List Value) → slot_unique columns slot ≡ Some x →
    (row : List Value) × ((slot ≡ Some row) × (unique_of columns row ≡ Some x))
slot_is columns None x e = absurd (cc)
slot_is columns (Some row) x e = (row, (refl, e))

single_of : (id : ℕ) (w : Write) (ws : List Write) (columns : List ℕ) (rows : Rows) →
    list_any (eq_by_cmp row_cmp w.key) (keys_in id ws) ≡ false →
    HaveOneOwner columns (rows_after id ws (write_row rows w.key w.row)) → IsSingle columns (keys_in id ws) rows w.key w.row
single_of id w ws columns rows again one = λ q r v x found apart free has written.
    let slot = slot_is columns w.row x written in
    let own = unique_is columns slot.0 x slot.1.1 in
    let theirs = unique_is columns r v has in
    let stays : entries.find row_cmp q (rows_after id ws (write_row rows w.key w.row)) ≡ Some r =
    find_unwritten id ws q (write_row rows w.key w.row) free ∙ find_write q w.key w.row rows ∙
    ap (λ b. cond b w.row (entries.find row_cmp q rows)) apart ∙ found in
    let there : entries.find row_cmp w.key (rows_after id ws (write_row rows w.key w.row)) ≡ Some slot.0 =
    find_unwritten id ws w.key (write_row rows w.key w.row) again ∙ find_write w.key w.key w.row rows ∙
    ap (λ b. cond b w.row (entries.find row_cmp w.key rows)) (row_self w.key) ∙ slot.1.0 in
    is_not (eq_by_cmp row_cmp v x) (λ tie.
    let values : values_at r columns ≡ values_at slot.0 columns = theirs.1 ∙ row_is v x tie ∙ sym own.1 in
    let same : q ≡ w.key = one q w.key r slot.0 stays there theirs.0 values in
    let ties : eq_by_cmp row_cmp q w.key ≡ true = ap (eq_by_cmp row_cmp q) (sym same) ∙ row_self q in
    let both : true ≡ false = sym ties ∙ apart in
    absurd (cc))

-- ---- as the writes go on

pub record Writing (t : TableRow) (final : Rows) (rest : List Write) (rows : Rows) (indexes : List Rows) (count : ℕ) : Type 0
  where
    pub same : rows_after t.id rest rows ≡ final
    pub rising : writes_rise rest ≡ true
    pub led : AreLedBut (uniques_of t) (keys_in t.id rest) rows indexes
    pub sorted : entries.is_sorted row_cmp rows ≡ true
    pub counted : count ≡ length rows

pub writing_begins : (t : TableRow) (ws : List Write) (rows : Rows) (indexes : List Rows) (count : ℕ) → writes_rise ws ≡ true →
    AreLedBut (uniques_of t) [] rows indexes → entries.is_sorted row_cmp rows ≡ true → count ≡ length rows →
    Writing t (rows_after t.id ws rows) ws rows indexes count
writing_begins t ws rows indexes count rising led sorted counted = record {
  same = refl;
  rising = rising;
  led = all_led_less (uniques_of t) (keys_in t.id ws) rows indexes led;
  sorted = sorted;
  counted = counted;
}

pub writing_more : (t : TableRow) (final : Rows) (w : Write) (ws : List Write) (rows after : Rows) (indexes followed : List Rows)
    (count counted : ℕ) → Writing t final (w ∷ ws) rows indexes count → (w.table == t.id) ≡ true → AreSoundRows t final →
    after ≡ write_row rows w.key w.row →
    followed ≡ leads_after (uniques_of t) w.key (entries.find row_cmp w.key rows) w.row indexes → counted ≡ length after →
    Writing t final ws after followed counted
writing_more t final w ws rows after indexes followed count counted s of sound is follows counts =
    let again = not_again t.id w ws of s.rising in
    let ends : rows_after t.id ws (write_row rows w.key w.row) ≡ final =
    sym (ap (λ b. rows_after t.id ws (cond b (write_row rows w.key w.row) rows)) of) ∙ s.same in
    let was : AreLedBut (uniques_of t) (w.key ∷ keys_in t.id ws) rows indexes =
    subst (λ b. AreLedBut (uniques_of t) (cond b (w.key ∷ keys_in t.id ws) (keys_in t.id ws)) rows indexes) of s.led in
    let led = all_led_write (uniques_of t) (keys_in t.id ws) rows indexes w.key (entries.find row_cmp w.key rows) w.row was
    (λ n columns e. single_of t.id w ws columns rows again
    (subst (HaveOneOwner columns) (sym ends) (sound.single n columns e))) in
    let P : Rows → List Rows → Type 0 = λ r i. AreLedBut (uniques_of t) (keys_in t.id ws) r i in
    record {
      same = ap (rows_after t.id ws) is ∙ ends;
      rising = rise_on w ws s.rising;
      led = subst (λ r. P r followed) (sym is) (subst (P (write_row rows w.key w.row)) (sym follows) led);
      sorted = ap (entries.is_sorted row_cmp) is ∙
          from_T (entries.is_sorted row_cmp (write_row rows w.key w.row))
          (sorted_write w.key w.row rows (to_T (entries.is_sorted row_cmp rows) s.sorted));
      counted = counts;
    }

pub writing_other : (t : TableRow) (final : Rows) (w : Write) (ws : List Write) (rows : Rows) (indexes : List Rows) (count : ℕ) →
    Writing t final (w ∷ ws) rows indexes count → (w.table == t.id) ≡ false → Writing t final ws rows indexes count
writing_other t final w ws rows indexes count s other = record {
  same = sym (ap (λ b. rows_after t.id ws (cond b (write_row rows w.key w.row) rows)) other) ∙ s.same;
  rising = rise_on w ws s.rising;
  led = subst (λ b. AreLedBut (uniques_of t) (cond b (w.key ∷ keys_in t.id ws) (keys_in t.id ws)) rows indexes) other s.led;
  sorted = s.sorted;
  counted = s.counted;
}

-- ---- the first of the writes that are left

same_id : (a b : ℕ) → a ≡ b → (a == b) ≡ true
same_id a b e = grind (arith, nat_tests)

other_id : (a b : ℕ) → (a ≡ b → ⊥) → (a == b) ≡ false
other_id a b never = is_not (a == b) (λ e. never (same_number a b e))

all_of_first : (all : List Write) (w : Write) → 1 ≤ length all → w ≡ get_or all 0 w →
    all ≡ w ∷ take (length all - 1) (drop 1 all)
all_of_first [] w some is = absurd (omega (arith, some))
all_of_first (v ∷ vs) w some is =
    let count : length (v ∷ vs) - 1 ≡ length vs = omega arith in
    sym ((λ i. is i ∷ take (count i) vs) ∙ ap (λ ws. v ∷ ws) (take-length vs))

pub writing_first : (t : TableRow) (final : Rows) (all : List Write) (w : Write) (rows after : Rows)
    (indexes followed : List Rows) (count counted : ℕ) → Writing t final all rows indexes count → 1 ≤ length all →
    w ≡ get_or all 0 w → w.table ≡ t.id → AreSoundRows t final → after ≡ write_row rows w.key w.row →
    followed ≡ leads_after (uniques_of t) w.key (entries.find row_cmp w.key rows) w.row indexes → counted ≡ length after →
    Writing t final (take (length all - 1) (drop 1 all)) after followed counted
writing_first t final all w rows after indexes followed count counted s some is of sound written follows counts =
    let P : List Write → Type 0 = λ ws. Writing t final ws rows indexes count in
    writing_more t final w (take (length all - 1) (drop 1 all)) rows after indexes followed count counted
    (subst P (all_of_first all w some is) s) (same_id w.table t.id of) sound written follows counts

pub writing_past : (t : TableRow) (final : Rows) (all : List Write) (w : Write) (rows : Rows) (indexes : List Rows) (count : ℕ) →
    Writing t final all rows indexes count → 1 ≤ length all → w ≡ get_or all 0 w → (w.table ≡ t.id → ⊥) →
    Writing t final (take (length all - 1) (drop 1 all)) rows indexes count
writing_past t final all w rows indexes count s some is other =
    let P : List Write → Type 0 = λ ws. Writing t final ws rows indexes count in
    writing_other t final w (take (length all - 1) (drop 1 all)) rows indexes count (subst P (all_of_first all w some is) s)
    (other_id w.table t.id other)
