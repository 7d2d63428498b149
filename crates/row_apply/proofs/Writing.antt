-- Slots as a list of writes, and as a copy made one by one.
use Rattle.std.proofs.Common.{◌≡◌, ℕ, List, [], ◌∷◌, ◌++◌, map, refl, sym, ap, subst, ◌∙◌, Bool, true, false, cond, ◌==◌, arith, Option, Some, is_some}
use Rattle.std.specs.declared.cmp.Ordering.TheVariants.{Less, Greater}
use Rattle.std.specs.Ordering.{is_eq, is_lt, match_ordering, ordering_reverse}
use Rattle.std.specs.List.{AllByRecursion, list_all}
use Rattle.std.specs.List.Sorted.{IsStrictlySortedBy}
use Rattle.std.specs.Map.{keys_of}
use Rattle.std.specs.BTreeMap.{insert_entry}
use Rattle.std.proofs.lemmas.Bool.Decides.{nat_tests}
use Rattle.std.proofs.lemmas.Map.Keys.{sorted_head, sorted_tail}
use Rattle.rl_value.specs.declared.value.Value.{Value}
use Rattle.rl_value.specs.declared.key.Key.{Key}
use Rattle.rl_value.specs.Order.{key_cmp, key_total, keys_rise, is_below_first}
use Rattle.redo_vec.specs.declared.table.TableRow.{TableRow}
use Rattle.redo_spec.specs.Dictionary.{table_of}
use Rattle.row_apply.specs.declared.writes.Write.{Write}
use Rattle.row_apply.specs.Overlaid.{writes_rise, written_key, are_of}
use Rattle.row_apply.specs.Written.{writes_in, write_of}
use Rattle.row_apply.specs.Kept.{Slots, slot_at, ArePrimary, AreSlots, ChangesOnly}
use Rattle.row_apply.proofs.Orders.{key_is}
use Rattle.row_apply.proofs.Indexes.{StandIn, stand}
use Rattle.row_apply.proofs.Fitting.{both, join}

-- ---- the writes rise

pub same_key : (e : Key × Option (List Value)) → e.0.index ≡ 0 → written_key (write_of e) ≡ e.0
same_key e p = λ i. record { table = e.0.table; index = sym p i; values = e.0.values }

same_keys : (es : Slots) → ArePrimary es → map written_key (writes_in es) ≡ keys_of es
same_keys [] p = refl
same_keys (e ∷ es) p = let head = same_key e p.0 in let tail = same_keys es p.1 in λ i. head i ∷ tail i

first_below : (k : Key) (ks : List Key) → AllByRecursion (λ l. key_cmp k l ≡ Less) ks → is_below_first k ks ≡ true
first_below k [] h = refl
first_below k (l ∷ ls) h = ap is_lt h.0

rising : (ks : List Key) → IsStrictlySortedBy key_cmp ks → keys_rise ks ≡ true
rising [] s = refl
rising (k ∷ ks) s = join (is_below_first k ks) (keys_rise ks) (first_below k ks (sorted_head key_cmp k ks s))
    (rising ks (sorted_tail key_cmp k ks s))

pub writes_rising : (es : Slots) → AreSlots es → writes_rise (writes_in es) ≡ true
writes_rising es a = ap keys_rise (same_keys es a.primary) ∙ rising (keys_of es) a.ordered

-- ---- an entry that comes last

turned_less : (k l : Key) → key_cmp l k ≡ Less → key_cmp k l ≡ Greater
turned_less k l e = key_total.antisymm k l ∙ ap ordering_reverse e

in_middle : (k : Key) (es : Slots) (e : Key × Option (List Value)) (rest : Slots) →
    AllByRecursion (λ l. key_cmp k l ≡ Less) (keys_of (es ++ e ∷ rest)) → key_cmp k e.0 ≡ Less
in_middle k [] e rest h = h.0
in_middle k (f ∷ es) e rest h = in_middle k es e rest h.1

pub inserted_last : (es : Slots) (e : Key × Option (List Value)) (rest : Slots) →
    IsStrictlySortedBy key_cmp (keys_of (es ++ e ∷ rest)) → insert_entry key_cmp es e.0 e.1 ++ rest ≡ es ++ e ∷ rest
inserted_last [] e rest s = refl
inserted_last (f ∷ es) e rest s =
    let after = turned_less e.0 f.0 (in_middle f.0 es e rest (sorted_head key_cmp f.0 (keys_of (es ++ e ∷ rest)) s)) in
    ap (λ o. match_ordering o (e ∷ f ∷ es) ((f.0, e.1) ∷ es) (f ∷ insert_entry key_cmp es e.0 e.1) ++ rest) after
    ∙ ap (λ l. f ∷ l) (inserted_last es e rest (sorted_tail key_cmp f.0 (keys_of (es ++ e ∷ rest)) s))

-- ---- which tables they are of

found_passes : (b : Bool) (p : ℕ → Bool) (k : Key) (e : Key × Option (List Value)) (rest : Option (Option (List Value)))
    (s : Option (List Value)) → is_eq (key_cmp k e.0) ≡ b → p e.0.table ≡ true →
    (rest ≡ Some s → p k.table ≡ true) → cond b (Some e.1) rest ≡ Some s → p k.table ≡ true
found_passes true p k e rest s t here there h = ap (λ (q : Key). p q.table) (key_is k e.0 t) ∙ here
found_passes false p k e rest s t here there h = there h

all_found : (p : ℕ → Bool) (es : Slots) (k : Key) (s : Option (List Value)) →
    list_all (λ (w : Write). p w.table) (writes_in es) ≡ true → slot_at es k ≡ Some s → p k.table ≡ true
all_found p [] k s all f = absurd (cc)
all_found p (e ∷ es) k s all f =
    let g = both (p e.0.table) (list_all (λ (w : Write). p w.table) (writes_in es)) all in
    found_passes (is_eq (key_cmp k e.0)) p k e (slot_at es k) s refl g.0 (λ h. all_found p es k s g.1 h) f

from_found : (p : ℕ → Bool) (all es : Slots) → StandIn all es →
    ((k : Key) (s : Option (List Value)) → slot_at all k ≡ Some s → p k.table ≡ true) →
    list_all (λ (w : Write). p w.table) (writes_in es) ≡ true
from_found p all [] stands each = refl
from_found p all (e ∷ es) stands each = join (p e.0.table) (list_all (λ (w : Write). p w.table) (writes_in es))
    (each e.0 e.1 stands.0.0) (from_found p all es stands.1 each)

pub still_of : (tables : List TableRow) (t : TableRow) (old new : Slots) → table_of tables t.id ≡ Some t → AreSlots new →
    ChangesOnly t.id old new → are_of tables (writes_in old) ≡ true → are_of tables (writes_in new) ≡ true
still_of tables t old new named n only of =
    from_found (λ id. is_some (table_of tables id)) new new (stand new n.primary n.ordered)
    (λ k s f. elim (k.table == t.id) as (λ b. (k.table == t.id) ≡ b → is_some (table_of tables k.table) ≡ true) [
      | true ↦ λ is. let same : k.table ≡ t.id = grind (arith, nat_tests) in
          ap (λ (id : ℕ). is_some (table_of tables id)) same ∙ ap is_some named
      | false ↦ λ other. all_found (λ id. is_some (table_of tables id)) old k s of (sym (only k other) ∙ f)
    ] refl)

pub copied_step : (es rest left all new : Slots) (k : Key) (v : Option (List Value)) → IsStrictlySortedBy key_cmp (keys_of all) →
    es ++ rest ≡ all → rest ≡ (k, v) ∷ left → new ≡ insert_entry key_cmp es k v → new ++ left ≡ all
copied_step es rest left all new k v s whole first is =
    let before : es ++ (k, v) ∷ left ≡ all = ap (λ (r : Slots). es ++ r) (sym first) ∙ whole in
    ap (λ (n : Slots). n ++ left) is ∙ inserted_last es (k, v) left
    (subst (λ (a : Slots). IsStrictlySortedBy key_cmp (keys_of a)) (sym before) s) ∙ before
