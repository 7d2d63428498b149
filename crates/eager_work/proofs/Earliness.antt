-- Changes that are done over the tables of earlier counts come to what they come to over those of the last.
use Rattle.std.proofs.Common.{◌≡◌, ℕ, List, [], ◌∷◌, map, filter, refl, sym, ap, subst, ◌∙◌, Bool, true, false, cond, not, ◌||◌, ◌==◌, arith, Option, Result, Ok, Err}
use Rattle.std.specs.List.{list_any, list_all, AllByRecursion}
use Rattle.std.specs.Ordering.{is_eq, eq_by_cmp}
use Rattle.std.proofs.lemmas.Bool.Decides.{nat_tests}
use Rattle.rl_value.specs.declared.value.Value.{Value}
use Rattle.rl_value.specs.declared.key.Key.{Key}
use Rattle.rl_value.specs.declared.miss.Miss.{Miss}
use Rattle.rl_value.specs.Order.{key_cmp, key_set}
use Rattle.rl_value.specs.Outcome.{map_err}
use Rattle.redo_vec.specs.declared.change.Change.{Change}
use Rattle.redo_vec.specs.declared.table.TableRow.{TableRow}
use Rattle.redo_spec.specs.ChangeForm.{change_fault}
use Rattle.redo_spec.specs.ConflictKeys.{conflict_keys}
use Rattle.redo_spec.specs.Dictionary.{ids_rise}
use Rattle.redo_spec.specs.Effect.{effect}
use Rattle.redo_spec.specs.Fold.{Missed, effects, commit_effect}
use Rattle.redo_spec.specs.History.{Placed, Committed}
use Rattle.redo_spec.specs.Skips.{Skip, is_skipped, kept_changes}
use Rattle.redo_spec.specs.Tables.{Tables, definitions_of}
use Rattle.redo_spec.specs.Watermark.{shares_key, touches}
use Rattle.redo_spec.specs.Work.{Written, writes_of, row_at}
use Rattle.row_apply.specs.Kept.{row_key}
use Rattle.row_apply.specs.Overlaid.{overlaid}
use Rattle.row_apply.specs.Soundness.{AreSound}
use Rattle.row_apply.specs.Written.{writes_in}
use Rattle.row_apply.proofs.Fitting.{both, either}
use Rattle.row_apply.proofs.Logged.{left, right}
use Rattle.row_apply.proofs.Orders.{key_is, key_self, key_turned}
use Rattle.row_apply.proofs.Staying.{bound, effect_same, effect_sound}
use Rattle.eager_work.specs.Attempts.{left_by}
use Rattle.eager_work.specs.Early.{is_table, are_tables, IsAccepted}
use Rattle.eager_work.proofs.Given.{among}
use Rattle.eager_work.proofs.Pairing.{Paired, AreApart}
use Rattle.eager_work.proofs.Alike.{AreAlike, alike_self, alike_then, rows_alike, effect_paired, effect_stays}
use Rattle.eager_work.proofs.Overlaying.{among_set, effect_is_its_writes}

-- ---- keys

any_turned : (q : Key) (ks : List Key) → among ks q ≡ list_any (eq_by_cmp key_cmp q) ks
any_turned q [] = refl
any_turned q (k ∷ ks) =
    ap (λ (b : Bool). b || among ks q) (key_turned k q) ∙ ap (λ (b : Bool). is_eq (key_cmp q k) || b) (any_turned q ks)

-- keys that share none are apart
pub unshared : (keys others : List Key) → shares_key keys others ≡ false → AreApart others keys
unshared [] others e q m = refl
unshared (k ∷ keys) others e q m =
    let p = either (list_any (eq_by_cmp key_cmp k) others) (shares_key keys others) e in
    elim (is_eq (key_cmp k q)) as (λ b. is_eq (key_cmp k q) ≡ b → (b || among keys q) ≡ false) [
      | true ↦ λ t.
          let same : k ≡ q = key_is k q t in
          let there : list_any (eq_by_cmp key_cmp k) others ≡ true =
          ap (λ (l : Key). list_any (eq_by_cmp key_cmp l) others) same ∙ sym (any_turned q others) ∙ m in
          absurd (cc)
      | false ↦ λ t. unshared keys others p.1 q m
    ] refl

one_apart : (touched : List Key) (q : Key) → among touched q ≡ false → AreApart touched (q ∷ [])
one_apart touched q out r m =
    elim (is_eq (key_cmp q r)) as (λ b. is_eq (key_cmp q r) ≡ b → (b || false) ≡ false) [
      | true ↦ λ t.
          let there : among touched q ≡ true = ap (among touched) (key_is q r t) ∙ m in
          absurd (cc)
      | false ↦ λ t. refl
    ] refl

none_apart : (touched : List Key) → AreApart touched []
none_apart touched q m = refl

-- ---- one change

-- tables of these definitions, whose rows are sound
pub record AreOf (rows : List TableRow) (ts : Tables) : Type 0 where
  pub defined : definitions_of ts ≡ rows
  pub sound : AreSound ts

-- ---- what stands at keys in tables that agree at them

primary_key_is : (k : Key) → (k.index == 0) ≡ true → k ≡ row_key k.table k.values
primary_key_is k e =
    let zero : k.index ≡ 0 = grind (arith, nat_tests, e) in
    λ i. record { table = k.table; index = zero i; values = k.values }

abbrev slot_of : Tables → Key → Written
slot_of tables k = (k, row_at tables k)

writes_alike : (ks touched : List Key) (one other : Tables) → AreAlike touched one other →
    ((k : Key) → among ks k ≡ true → among touched k ≡ true) → writes_of ks one ≡ writes_of ks other
writes_alike [] touched one other a m = refl
writes_alike (k ∷ ks) touched one other a m =
    let primary = filter (λ (l : Key). l.index == 0) ks in
    let rest : map (slot_of one) primary ≡ map (slot_of other) primary =
    writes_alike ks touched one other a (λ l h. m l (right (is_eq (key_cmp k l)) (among ks l) h)) in
    elim (k.index == 0) as (λ b. (k.index == 0) ≡ b →
    map (slot_of one) (cond b (k ∷ primary) primary) ≡ map (slot_of other) (cond b (k ∷ primary) primary)) [
      | true ↦ λ e.
          let there : among touched (row_key k.table k.values) ≡ true =
          ap (among touched) (sym (primary_key_is k e)) ∙ m k (left (is_eq (key_cmp k k)) (among ks k) (key_self k)) in
          let here : row_at one k ≡ row_at other k =
          ap (row_at one) (primary_key_is k e) ∙ rows_alike touched one other k there a ∙
          ap (row_at other) (sym (primary_key_is k e)) in
          let slot : slot_of one k ≡ slot_of other k = ap (λ (row : Option (List Value)). (k, row)) here in
          λ i. slot i ∷ rest i
      | false ↦ λ e. rest
    ] refl

module _ (rows : List TableRow) (good : are_tables rows ≡ true) where
  risen : ids_rise 0 rows ≡ true
  risen = (both (ids_rise 0 rows) (list_all is_table rows) good).0

  are_good : list_all is_table rows ≡ true
  are_good = (both (ids_rise 0 rows) (list_all is_table rows) good).1

  pub after_change : (ts us : Tables) (c : Change) → AreOf rows ts → IsAccepted rows c → effect ts c ≡ Ok us → AreOf rows us
  after_change ts us c o a e = record {
    defined = effect_same ts us c e ∙ o.defined;
    sound = effect_sound ts us c o.sound (ap (λ (rs : List TableRow). change_fault rs c) o.defined ∙ a.fits) a.new e;
  }

  pub change_stays : (ts us : Tables) (c : Change) (keys : List Key) → AreOf rows ts → IsAccepted rows c →
      AreApart (conflict_keys rows c) keys → effect ts c ≡ Ok us → AreAlike keys ts us
  change_stays ts us c keys o a off e =
      effect_stays ts us c (conflict_keys rows c) keys o.sound (ap (list_all is_table) o.defined ∙ are_good)
      (ap (λ (rs : List TableRow). change_fault rs c) o.defined ∙ a.fits) a.old a.new
      (ap (λ (rs : List TableRow). conflict_keys rs c) (sym o.defined)) off e

  pub change_paired : (ts us : Tables) (c : Change) (keys : List Key) → AreOf rows ts → AreOf rows us → IsAccepted rows c →
      AreAlike (conflict_keys rows c) ts us → AreAlike keys ts us → Paired (AreAlike keys) (effect ts c) (effect us c)
  change_paired ts us c keys o p a own more =
      effect_paired ts us c (conflict_keys rows c) keys o.sound p.sound (ap (list_all is_table) o.defined ∙ are_good)
      (ap (λ (rs : List TableRow). change_fault rs c) o.defined ∙ a.fits) a.old a.new
      (ap (λ (rs : List TableRow). conflict_keys rs c) (sym o.defined)) own more

  pub change_writes : (ts us : Tables) (c : Change) → AreOf rows ts → IsAccepted rows c → effect ts c ≡ Ok us →
      overlaid ts (left_by rows c us) ≡ us
  change_writes ts us c o a e =
      let p = after_change ts us c o a e in
      ap (λ (rs : List TableRow). overlaid ts (left_by rs c us)) (sym o.defined)
      ∙ effect_is_its_writes ts us c o.sound p.sound (p.defined ∙ sym o.defined) (ap (ids_rise 0) o.defined ∙ risen)
      (change_stays ts us c [] o a (none_apart (conflict_keys rows c)) e)
      (λ q out. change_stays ts us c (q ∷ []) o a
      (one_apart (conflict_keys rows c) q (ap (λ (rs : List TableRow). among (conflict_keys rs c) q) (sym o.defined) ∙ out)) e)

  -- ---- several changes

  no_miss : {A : Type 0} (f : Miss → Missed) (r : Result A Miss) (x : A) → map_err f r ≡ Ok x → r ≡ Ok x
  no_miss f (Ok y) x e = cc
  no_miss f (Err m) x e = absurd (cc)

  pub record After (keys : List Key) (ts us : Tables) : Type 0 where
    pub are : AreOf rows us
    pub alike : AreAlike keys ts us

  pub after_changes : (ps : List Placed) (ts us : Tables) (keys : List Key) → AreOf rows ts →
      AllByRecursion (λ p. IsAccepted rows p.1) ps →
      list_any (λ p. shares_key keys (conflict_keys rows p.1)) ps ≡ false → effects ts ps ≡ Ok us → After keys ts us
  after_changes [] ts us keys o a off e =
      let same : ts ≡ us = cc in
      subst (After keys ts) same (record { are = o; alike = alike_self keys ts })
  after_changes (p ∷ ps) ts us keys o a off e =
      let f : Miss → Missed = λ miss. record { pos = p.0; table = p.1.table; miss = miss } in
      let b = bound (map_err f (effect ts p.1)) (λ after. effects after ps) us e in
      let done = no_miss f (effect ts p.1) b.0 b.1.0 in
      let out = either (shares_key keys (conflict_keys rows p.1))
      (list_any (λ (x : Placed). shares_key keys (conflict_keys rows x.1)) ps)
      off in
      let stay = change_stays ts b.0 p.1 keys o a.0 (unshared keys (conflict_keys rows p.1) out.0) done in
      let rest = after_changes ps b.0 us keys (after_change ts b.0 p.1 o a.0 done) a.1 out.1 b.1.1 in
      record { are = rest.are; alike = alike_then keys ts b.0 us stay rest.alike }

  none_shared : (ps : List Placed) → list_any (λ p. shares_key [] (conflict_keys rows p.1)) ps ≡ false
  none_shared [] = refl
  none_shared (p ∷ ps) = none_shared ps

  pub all_kept : (P : Placed → Type 0) (test : Placed → Bool) (ps : List Placed) → AllByRecursion P ps →
      AllByRecursion P (filter test ps)
  all_kept P test [] a = tt
  all_kept P test (p ∷ ps) a =
      elim (test p) as (λ b. AllByRecursion P (cond b (p ∷ filter test ps) (filter test ps))) [
        | true ↦ (a.0, all_kept P test ps a.1)
        | false ↦ all_kept P test ps a.1
      ]

  pub after_commit : (skips : List Skip) (k : ℕ) (made : Committed) (ts us : Tables) (keys : List Key) → AreOf rows ts →
      AllByRecursion (λ p. IsAccepted rows p.1) made.txn.survivors → touches skips rows k made keys ≡ false →
      commit_effect skips k ts made ≡ Ok us → After keys ts us
  after_commit skips k made ts us keys o a off e =
      after_changes (kept_changes skips rows k made) ts us keys o
      (all_kept (λ p. IsAccepted rows p.1) (λ p. not (is_skipped skips rows k p)) made.txn.survivors a) off
      (ap (λ (rs : List TableRow). effects ts (kept_changes skips rs k made)) (sym o.defined) ∙ e)

  pub untouched : (skips : List Skip) (k : ℕ) (made : Committed) → touches skips rows k made [] ≡ false
  untouched skips k made = none_shared (kept_changes skips rows k made)

  -- ---- what a change leaves

  pub left_alike : (c : Change) (one other : Tables) → AreAlike (conflict_keys rows c) one other →
      left_by rows c one ≡ left_by rows c other
  left_alike c one other a =
      ap writes_in (writes_alike (key_set (conflict_keys rows c)) (conflict_keys rows c) one other a
      (λ k m. sym (among_set (conflict_keys rows c) k) ∙ m))
