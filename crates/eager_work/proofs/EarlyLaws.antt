-- Work that was done early ends as the kept changes do over the tables of the last count.
use Rattle.std.proofs.Common.{◌≡◌, ℕ, zero, suc, ◌+◌, ◌-◌, ◌≤◌, ◌<◌, List, [], ◌∷◌, ◌++◌, length, map, filter, refl, sym, ap, subst, ◌∙◌, Bool, true, false, cond, not, ◌&&◌, ◌||◌, nat_le, arith, append_assoc, Option, Some, None, is_some, Result, Ok, Err, inl, inr}
use Rattle.std.specs.Prelude.{◌⊎◌}
use Rattle.std.specs.List.{list_any, list_all, AllByRecursion}
use Rattle.std.specs.Option.{option_or}
use Rattle.std.proofs.lemmas.Bool.Decides.{nat_tests}
use Rattle.std.proofs.lemmas.List.{append-nil}
use Rattle.rl_value.specs.declared.key.Key.{Key}
use Rattle.rl_value.specs.declared.miss.Miss.{Miss}
use Rattle.rl_value.specs.Outcome.{◌>>=◌, map_err}
use Rattle.redo_vec.specs.declared.table.TableRow.{TableRow}
use Rattle.redo_spec.specs.ChangeForm.{change_fault}
use Rattle.redo_spec.specs.ConflictKeys.{conflict_keys}
use Rattle.redo_spec.specs.Dictionary.{table_of}
use Rattle.redo_spec.specs.Effect.{effect}
use Rattle.redo_spec.specs.Fold.{Missed, effects, commit_effect}
use Rattle.redo_spec.specs.History.{Placed, Committed}
use Rattle.redo_spec.specs.Skips.{Skip, is_skipped, skips_table, names_xid, names_table}
use Rattle.redo_spec.specs.Tables.{Tables}
use Rattle.redo_spec.specs.Watermark.{touches}
use Rattle.redo_spec.specs.Work.{Done}
use Rattle.row_apply.specs.declared.writes.Write.{Write}
use Rattle.row_apply.specs.Overlaid.{overlaid}
use Rattle.row_apply.specs.Soundness.{AreSound}
use Rattle.row_apply.proofs.Fitting.{both}
use Rattle.row_apply.proofs.Sound.{overlaid-none}
use Rattle.row_apply.proofs.Staying.{bound}
use Rattle.eager_work.specs.Attempts.{Tried, Wrote, Passed, Missing, Waits, Attempt, writes, writes_tried, stuck, missed_at, left_by, came_of, tried, tried_unless, next_attempt, attempted_over, worked_on, done_at, IsWork}
use Rattle.eager_work.specs.Early.{are_tables, IsAccepted, AreCounts, AreEarly, ownerless, ownerless_missed}
use Rattle.eager_work.proofs.Alike.{AreAlike, alike_self, alike_turned, alike_then}
use Rattle.eager_work.proofs.Earliness.{AreOf, after_change, change_paired, change_writes, left_alike, after_commit, untouched}
use Rattle.eager_work.proofs.Overlaying.{overlaid_more}
use Rattle.eager_work.proofs.Pairing.{Paired}
use Rattle.eager_work.proofs.Trying.{over_same}
use Rattle.eager_work.proofs.WorkLaws.{stuck-more}

-- ---- results

ok_is : {A E : Type 0} (r : Result A E) (x y : A) → r ≡ Ok x → r ≡ Ok y → x ≡ y
ok_is r x y e f = cc

paired_ok : {A : Type 0} (P : A → A → Type 0) (r s : Result A Miss) (x : A) → Paired P r s → r ≡ Ok x →
    (y : A) × ((s ≡ Ok y) × P x y)
paired_ok P (Ok z) (Ok y) x p e = let same : z ≡ x = cc in (y, (refl, subst (λ w. P w y) same p))
paired_ok P (Ok z) (Err n) x p e = absurd p
paired_ok P (Err m) (Ok y) x p e = absurd p
paired_ok P (Err m) (Err n) x p e = absurd (cc)

paired_err : {A : Type 0} (P : A → A → Type 0) (r s : Result A Miss) (m : Miss) → Paired P r s → r ≡ Err m →
    (n : Miss) × ((s ≡ Err n) × (ownerless m ≡ ownerless n))
paired_err P (Ok z) (Ok y) m p e = absurd (cc)
paired_err P (Ok z) (Err n) m p e = absurd p
paired_err P (Err l) (Ok y) m p e = absurd p
paired_err P (Err l) (Err n) m p e = let same : l ≡ m = cc in (n, (refl, ap ownerless (sym same) ∙ p))

bind_then : {A B C E : Type 0} (r : Result A E) (g : A → Result C E) (h : A → Result B E) (k : B → Result C E) →
    ((x : A) → g x ≡ (h x >>= k)) → (r >>= g) ≡ ((r >>= h) >>= k)
bind_then (Ok x) g h k each = each x
bind_then (Err m) g h k each = refl

effects_then : (ts : Tables) (ps qs : List Placed) → effects ts (ps ++ qs) ≡ (effects ts ps >>= λ us. effects us qs)
effects_then ts [] qs = refl
effects_then ts (p ∷ ps) qs =
    bind_then (map_err (λ miss. record { pos = p.0; table = p.1.table; miss = miss }) (effect ts p.1))
    (λ after. effects after (ps ++ qs)) (λ after. effects after ps) (λ us. effects us qs) (λ after. effects_then after ps qs)

effects_one : (ts us : Tables) (ps : List Placed) (p : Placed) → effects ts ps ≡ Ok us →
    effects ts (ps ++ p ∷ []) ≡ (map_err (λ miss. record { pos = p.0; table = p.1.table; miss = miss }) (effect us p.1) >>=
    λ after. Ok after)
effects_one ts us ps p e =
    effects_then ts ps (p ∷ []) ∙ ap (λ (r : Result Tables Missed). r >>= λ vs. effects vs (p ∷ [])) e

effects_ok : (ts us vs : Tables) (ps : List Placed) (p : Placed) → effects ts ps ≡ Ok us → effect us p.1 ≡ Ok vs →
    effects ts (ps ++ p ∷ []) ≡ Ok vs
effects_ok ts us vs ps p e f =
    effects_one ts us ps p e
    ∙ ap (λ (r : Result Tables Miss). map_err (λ miss. record { pos = p.0; table = p.1.table; miss = miss }) r >>=
    λ after. Ok after) f

effects_err : (ts us : Tables) (ps : List Placed) (p : Placed) (m : Miss) → effects ts ps ≡ Ok us → effect us p.1 ≡ Err m →
    effects ts (ps ++ p ∷ []) ≡ Err (record { pos = p.0; table = p.1.table; miss = m })
effects_err ts us ps p m e f =
    effects_one ts us ps p e
    ∙ ap (λ (r : Result Tables Miss). map_err (λ miss. record { pos = p.0; table = p.1.table; miss = miss }) r >>=
    λ after. Ok after) f

effects_still : (ts : Tables) (ps qs : List Placed) (m : Missed) → effects ts ps ≡ Err m → effects ts (ps ++ qs) ≡ Err m
effects_still ts ps qs m e = effects_then ts ps qs ∙ ap (λ (r : Result Tables Missed). r >>= λ us. effects us qs) e

-- ---- rules

any_from : (skips : List Skip) (f : Skip → Bool) (low k : ℕ) → list_all (λ s. nat_le s.from low) skips ≡ true → low ≤ k →
    list_any (λ s. nat_le s.from k && f s) skips ≡ list_any f skips
any_from [] f low k all le = refl
any_from (s ∷ skips) f low k all le =
    let p = both (nat_le s.from low) (list_all (λ s. nat_le s.from low) skips) all in
    let counts : nat_le s.from k ≡ true = grind (arith, nat_tests, p.0, le) in
    ap (λ (b : Bool). (b && f s) || list_any (λ (r : Skip). nat_le r.from k && f r) skips) counts
    ∙ ap (λ (b : Bool). f s || b) (any_from skips f low k p.1 le)

table_from : (skips : List Skip) (o : Option TableRow) (low k n : ℕ) → list_all (λ s. nat_le s.from low) skips ≡ true →
    low ≤ k → low ≤ n → skips_table skips k o ≡ skips_table skips n o
table_from skips None low k n all le more = refl
table_from skips (Some t) low k n all le more =
    ap (λ (b : Bool). not (not b)) (any_from skips (λ s. names_table s.rule t) low k all le
    ∙ sym (any_from skips (λ s. names_table s.rule t) low n all more))

pub skipped_alike : (skips : List Skip) (rows : List TableRow) (p : Placed) (low k n : ℕ) →
    list_all (λ s. nat_le s.from low) skips ≡ true → low ≤ k → low ≤ n → is_skipped skips rows k p ≡ is_skipped skips rows n p
skipped_alike skips rows p low k n all le more =
    let xid = any_from skips (λ s. names_xid s.rule p.1.xid) low k all le
    ∙ sym (any_from skips (λ s. names_xid s.rule p.1.xid) low n all more) in
    let table = table_from skips (table_of rows p.1.table) low k n all le more in
    λ i. xid i || table i

-- ---- the tables of counts

module _ (skips : List Skip) (rows : List TableRow) (made : ℕ → Committed) (at : ℕ → Result Tables Missed) (low n : ℕ)
    (good : are_tables rows ≡ true) (counts : AreCounts skips rows made at low n) (first last : Tables)
    (begins : at low ≡ Ok first)
    (begun : AreOf rows first) (ends : at n ≡ Ok last) (room : low ≤ n) where
  before : (k : ℕ) (us : Tables) → low ≤ k → k < n → at (k + 1) ≡ Ok us →
      (ts : Tables) × ((at k ≡ Ok ts) × (commit_effect skips k ts (made k) ≡ Ok us))
  before k us le few e =
      bound (at k) (λ ts. commit_effect skips k ts (made k)) us (sym (counts.steps k le few) ∙ e)

  are_by : (d : ℕ) (us : Tables) → low + d ≤ n → at (low + d) ≡ Ok us → AreOf rows us
  are_by zero us few e =
      let none : low + 0 ≡ low = omega arith in
      subst (AreOf rows) (ok_is (at low) first us begins (ap at (sym none) ∙ e)) begun
  are_by (suc d) us few e =
      let one : low + suc d ≡ low + d + 1 = omega arith in
      let b = before (low + d) us (omega arith) (omega (arith, few)) (ap at (sym one) ∙ e) in
      let o = are_by d b.0 (omega (arith, few)) b.1.0 in
      (after_commit rows good skips (low + d) (made (low + d)) b.0 us [] o
      (counts.accepted (low + d) (omega arith) (omega (arith, few))) (untouched rows good skips (low + d) (made (low + d)))
      b.1.1).are

  pub are_at : (k : ℕ) (us : Tables) → low ≤ k → k ≤ n → at k ≡ Ok us → AreOf rows us
  are_at k us le few e =
      let z : low + (k - low) ≡ k = omega (arith, le) in
      are_by (k - low) us (omega (arith, z, few)) (ap at z ∙ e)

  -- no commit from k on, up to n, touches one of the keys
  abbrev Unmoved : ℕ → List Key → Type 0
  Unmoved k keys = (j : ℕ) → k ≤ j → j < n → touches skips rows j (made j) keys ≡ false

  alike_by : (d k : ℕ) (ts us : Tables) (keys : List Key) → low ≤ k → k + d ≤ n → at k ≡ Ok ts → at (k + d) ≡ Ok us →
      Unmoved k keys → AreAlike keys ts us
  alike_by zero k ts us keys le few e f off =
      let none : k + 0 ≡ k = omega arith in
      subst (AreAlike keys ts) (ok_is (at k) ts us e (ap at (sym none) ∙ f)) (alike_self keys ts)
  alike_by (suc d) k ts us keys le few e f off =
      let one : k + suc d ≡ k + d + 1 = omega arith in
      let b = before (k + d) us (omega (arith, le)) (omega (arith, few)) (ap at (sym one) ∙ f) in
      let a = alike_by d k ts b.0 keys le (omega (arith, few)) e b.1.0 off in
      let o = are_at (k + d) b.0 (omega (arith, le)) (omega (arith, few)) b.1.0 in
      alike_then keys ts b.0 us a (after_commit rows good skips (k + d) (made (k + d)) b.0 us keys o
      (counts.accepted (k + d) (omega (arith, le)) (omega (arith, few)))
      (off (k + d) (omega arith) (omega (arith, few))) b.1.1).alike

  alike_to : (k j : ℕ) (ts us : Tables) (keys : List Key) → low ≤ k → k ≤ j → j ≤ n → at k ≡ Ok ts → at j ≡ Ok us →
      Unmoved k keys → AreAlike keys ts us
  alike_to k j ts us keys le up few e f off =
      let z : k + (j - k) ≡ j = omega (arith, up) in
      alike_by (j - k) k ts us keys le (omega (arith, z, few)) e (ap at z ∙ f) off

  ok_by : (d k : ℕ) (us : Tables) → low ≤ k → k + d ≤ n → at (k + d) ≡ Ok us → (ts : Tables) × (at k ≡ Ok ts)
  ok_by zero k us le few e = let none : k + 0 ≡ k = omega arith in (us, ap at (sym none) ∙ e)
  ok_by (suc d) k us le few e =
      let one : k + suc d ≡ k + d + 1 = omega arith in
      let b = before (k + d) us (omega (arith, le)) (omega (arith, few)) (ap at (sym one) ∙ e) in
      ok_by d k b.0 le (omega (arith, few)) b.1.0

  ok_at : (k : ℕ) → low ≤ k → k ≤ n → (ts : Tables) × (at k ≡ Ok ts)
  ok_at k le few = let z : k + (n - k) ≡ n = omega (arith, few) in ok_by (n - k) k last le (omega (arith, z)) (ap at z ∙ ends)

  -- ---- work that is not stuck

  pub record Going (xs : List Attempt) (kept : List Placed) (k : ℕ) : Type 0 where
    pub above : low ≤ k
    pub few : k ≤ n
    pub free : stuck xs ≡ None
    pub done : (j : ℕ) (ts : Tables) → k ≤ j → j ≤ n → at j ≡ Ok ts → effects ts kept ≡ Ok (overlaid ts (writes xs))
    pub are : (j : ℕ) (ts : Tables) → k ≤ j → j ≤ n → at j ≡ Ok ts → AreOf rows (overlaid ts (writes xs))
    pub alike : (i j : ℕ) (ts us : Tables) (keys : List Key) → k ≤ i → i ≤ n → k ≤ j → j ≤ n → at i ≡ Ok ts → at j ≡ Ok us →
        AreAlike keys ts us → AreAlike keys (overlaid ts (writes xs)) (overlaid us (writes xs))

  no_work : Going [] [] low
  no_work = record {
    above = omega arith;
    few = room;
    free = refl;
    done = λ j ts up le e. ap (λ (us : Tables). Ok us) (sym (overlaid-none ts));
    are = λ j ts up le e. subst (AreOf rows) (sym (overlaid-none ts)) (are_at j ts up le e);
    alike = λ i j ts us keys ui li uj lj e f a.
        subst (λ (vs : Tables). AreAlike keys vs (overlaid us [])) (sym (overlaid-none ts))
        (subst (AreAlike keys ts) (sym (overlaid-none us)) a);
  }

  -- work that is stuck where the kept changes miss, too
  pub record Stopped (xs : List Attempt) (kept : List Placed) (k : ℕ) : Type 0 where
    pub above : low ≤ k
    pub few : k ≤ n
    pub missed : Missed
    pub found : Missed
    pub is : stuck xs ≡ Some missed
    pub misses : effects last kept ≡ Err found
    pub same : ownerless_missed missed ≡ ownerless_missed found
    pub are : (j : ℕ) (ts : Tables) → k ≤ j → j ≤ n → at j ≡ Ok ts → AreOf rows (overlaid ts (writes xs))

  -- ---- one change more

  -- it is passed over
  passes : (xs : List Attempt) (kept : List Placed) (was k : ℕ) → Going xs kept was → was ≤ k → k ≤ n → (x : Attempt) →
      x.came ≡ Passed → Going (xs ++ x ∷ []) (kept ++ []) k
  passes xs kept was k g up le x came =
      let same : writes xs ≡ writes (xs ++ x ∷ []) = over_same xs x (ap writes_tried came) in
      let moved : Going xs kept k = record {
        above = omega (arith, g.above, up);
        few = le;
        free = g.free;
        done = λ j us uj lj e. g.done j us (omega (arith, up, uj)) lj e;
        are = λ j us uj lj e. g.are j us (omega (arith, up, uj)) lj e;
        alike = λ i j us vs keys ui li uj lj e f a. g.alike i j us vs keys (omega (arith, up, ui)) li
            (omega (arith, up, uj)) lj e f a;
      } in
      let all : kept ≡ kept ++ [] = sym (append-nil kept) in
      record {
        above = omega (arith, g.above, up);
        few = le;
        free = stuck-more xs x ∙ ap (λ (o : Option Missed). option_or o (missed_at x.pos x.table x.came)) g.free
            ∙ ap (missed_at x.pos x.table) came;
        done = λ j us uj lj e. ap (effects us) (sym all) ∙ moved.done j us uj lj e ∙
            ap (λ (ws : List Write). Ok (overlaid us ws)) same;
        are = λ j us uj lj e. subst (λ (ws : List Write). AreOf rows (overlaid us ws)) same (moved.are j us uj lj e);
        alike = λ i j us vs keys ui li uj lj e f a.
            subst (λ (ws : List Write). AreAlike keys (overlaid us ws) (overlaid vs ws)) same
            (moved.alike i j us vs keys ui li uj lj e f a);
      }

  module _ (xs : List Attempt) (kept : List Placed) (was k : ℕ) (p : Placed) (ts : Tables) (g : Going xs kept was) (up : was ≤ k)
      (le : k ≤ n) (there : at k ≡ Ok ts) (accept : IsAccepted rows p.1) (off : Unmoved k (conflict_keys rows p.1)) where
    above_k : low ≤ k
    above_k = omega (arith, g.above, up)

    -- what the change finds at a later count agrees at its keys with what it found
    own : (j : ℕ) (us : Tables) → k ≤ j → j ≤ n → at j ≡ Ok us →
        AreAlike (conflict_keys rows p.1) (overlaid ts (writes xs)) (overlaid us (writes xs))
    own j us uj lj e =
        g.alike k j ts us (conflict_keys rows p.1) up le (omega (arith, up, uj)) lj there e
        (alike_to k j ts us (conflict_keys rows p.1) above_k uj lj there e off)

    are_k : AreOf rows (overlaid ts (writes xs))
    are_k = g.are k ts up le there

    module _ (after : Tables) (x : Attempt) (made_so : effect (overlaid ts (writes xs)) p.1 ≡ Ok after)
        (came : x.came ≡ Wrote (left_by rows p.1 after)) where
      record LaterDone (us : Tables) : Type 0 where
        later : Tables
        effect_is : effect (overlaid us (writes xs)) p.1 ≡ Ok later
        over_is : overlaid us (writes (xs ++ x ∷ [])) ≡ later
        are_later : AreOf rows later

      later_done : (j : ℕ) (us : Tables) → k ≤ j → j ≤ n → at j ≡ Ok us → LaterDone us
      later_done j us uj lj e =
          let keys = conflict_keys rows p.1 in
          let are_j = g.are j us (omega (arith, up, uj)) lj e in
          let paired = change_paired rows good (overlaid ts (writes xs)) (overlaid us (writes xs)) p.1 keys are_k are_j accept
          (own j us uj lj e) (own j us uj lj e) in
          let found = paired_ok (AreAlike keys) (effect (overlaid ts (writes xs)) p.1)
          (effect (overlaid us (writes xs)) p.1) after paired
          made_so in
          let left = left_alike rows good p.1 after found.0 found.1.1 in
          record {
            later = found.0;
            effect_is = found.1.0;
            over_is = overlaid_more us xs x (are_at j us (omega (arith, above_k, uj)) lj e).sound
                ∙ ap (λ (t : Tried). overlaid (overlaid us (writes xs)) (writes_tried t)) came
                ∙ ap (λ (ws : List Write). overlaid (overlaid us (writes xs)) ws) left
                ∙ change_writes rows good (overlaid us (writes xs)) found.0 p.1 are_j accept found.1.0;
            are_later = after_change rows good (overlaid us (writes xs)) found.0 p.1 are_j accept found.1.0;
          }

      free_still : stuck (xs ++ x ∷ []) ≡ None
      free_still =
          stuck-more xs x ∙ ap (λ (o : Option Missed). option_or o (missed_at x.pos x.table x.came)) g.free
          ∙ ap (missed_at x.pos x.table) came

      goes_on : Going (xs ++ x ∷ []) (kept ++ p ∷ []) k
      goes_on = record {
        above = above_k;
        few = le;
        free = free_still;
        done = λ j us uj lj e.
            let d = later_done j us uj lj e in
            effects_ok us (overlaid us (writes xs)) d.later kept p (g.done j us (omega (arith, up, uj)) lj e) d.effect_is
            ∙ ap (λ (vs : Tables). Ok vs) (sym d.over_is);
        are = λ j us uj lj e.
            let d = later_done j us uj lj e in
            subst (AreOf rows) (sym d.over_is) d.are_later;
        alike = λ i j us vs keys ui li uj lj e f a.
            let d = later_done i us ui li e in
            let l = later_done j vs uj lj f in
            let one = overlaid us (writes xs) in
            let other = overlaid vs (writes xs) in
            let mine = conflict_keys rows p.1 in
            let paired = change_paired rows good one other p.1 keys (g.are i us (omega (arith, up, ui)) li e)
            (g.are j vs (omega (arith, up, uj)) lj f) accept
            (alike_then mine one (overlaid ts (writes xs)) other
            (alike_turned mine (overlaid ts (writes xs)) one (own i us ui li e)) (own j vs uj lj f))
            (g.alike i j us vs keys (omega (arith, up, ui)) li (omega (arith, up, uj)) lj e f a) in
            let found = paired_ok (AreAlike keys) (effect one p.1) (effect other p.1) d.later paired d.effect_is in
            let same : found.0 ≡ l.later = ok_is (effect other p.1) found.0 l.later found.1.0 l.effect_is in
            subst (λ (ws : Tables). AreAlike keys ws (overlaid vs (writes (xs ++ x ∷ [])))) (sym d.over_is)
            (subst (AreAlike keys d.later) (same ∙ sym l.over_is) found.1.1);
      }

    -- it misses
    stops : (x : Attempt) (m : Miss) → effect (overlaid ts (writes xs)) p.1 ≡ Err m → x.came ≡ Missing m → x.pos ≡ p.0 →
        x.table ≡ p.1.table → Stopped (xs ++ x ∷ []) (kept ++ p ∷ []) k
    stops x m e came pos table =
        let keys = conflict_keys rows p.1 in
        let here = overlaid last (writes xs) in
        let paired = change_paired rows good (overlaid ts (writes xs)) here p.1 keys are_k
        (g.are n last (omega (arith, up, le)) (omega arith) ends) accept (own n last le (omega arith) ends)
        (own n last le (omega arith) ends) in
        let found = paired_err (AreAlike keys) (effect (overlaid ts (writes xs)) p.1) (effect here p.1) m paired e in
        record {
          above = above_k;
          few = le;
          missed = record { pos = p.0; table = p.1.table; miss = m };
          found = record { pos = p.0; table = p.1.table; miss = found.0 };
          is = stuck-more xs x ∙ ap (λ (o : Option Missed). option_or o (missed_at x.pos x.table x.came)) g.free
              ∙ ap (missed_at x.pos x.table) came
              ∙ (λ i. Some (record { pos = pos i; table = table i; miss = m }));
          misses = effects_err last here kept p found.0 (g.done n last (omega (arith, up, le)) (omega arith) ends) found.1.0;
          same = ap (λ (l : Miss). record { pos = p.0; table = p.1.table; miss = l }) found.1.1;
          are = λ j us uj lj f.
              subst (λ (ws : List Write). AreOf rows (overlaid us ws)) (over_same xs x (ap writes_tried came))
              (g.are j us (omega (arith, up, uj)) lj f);
        }

  -- ---- all changes

  abbrev keep : Placed → Bool
  keep p = not (is_skipped skips rows n p)

  abbrev Stands : List Attempt → List Placed → ℕ → Type 0
  Stands xs kept k = Going xs kept k ⊎ Stopped xs kept k

  step : (xs : List Attempt) (kept : List Placed) (was k : ℕ) (p : Placed) (ts : Tables) → Stands xs kept was → was ≤ k → k ≤ n →
      at k ≡ Ok ts → IsAccepted rows p.1 → (is_skipped skips rows n p ≡ false → Unmoved k (conflict_keys rows p.1)) →
      Stands (xs ++ next_attempt rows skips k ts xs p ∷ []) (kept ++ filter keep (p ∷ [])) k
  step xs kept was k p ts (inl g) up le there accept off =
      let x = next_attempt rows skips k ts xs p in
      let here = overlaid ts (writes xs) in
      let came : x.came ≡ tried rows skips k ts (writes xs) p =
      ap (λ (o : Option Missed). tried_unless o (tried rows skips k ts (writes xs) p)) g.free in
      let fits : is_some (change_fault rows p.1) ≡ false = ap is_some accept.fits in
      let above : low ≤ k = omega (arith, g.above, up) in
      let same = skipped_alike skips rows p low k n counts.rules above room in
      let tested : (b : Bool) → is_skipped skips rows n p ≡ b →
      (is_some (change_fault rows p.1) || is_skipped skips rows k p) ≡ b =
      λ b s. ap (λ (a : Bool). a || is_skipped skips rows k p) fits ∙ same ∙ s in
      elim (is_skipped skips rows n p) as (λ b. is_skipped skips rows n p ≡ b →
      Stands (xs ++ x ∷ []) (kept ++ cond (not b) (p ∷ []) []) k) [
        | true ↦ λ s. inl (passes xs kept was k g up le x (came
            ∙ ap (λ (b : Bool). cond b Passed (came_of rows p.1 (effect here p.1))) (tested true s)))
        | false ↦ λ s.
            let so : x.came ≡ came_of rows p.1 (effect here p.1) =
            came ∙ ap (λ (b : Bool). cond b Passed (came_of rows p.1 (effect here p.1))) (tested false s) in
            elim (effect here p.1) as (λ r. effect here p.1 ≡ r → Stands (xs ++ x ∷ []) (kept ++ p ∷ []) k) [
              | Ok after ↦ λ e. inl (goes_on xs kept was k p ts g up le there accept (off s) after x e
                  (so ∙ ap (came_of rows p.1) e))
              | Err m ↦ λ e. inr (stops xs kept was k p ts g up le there accept (off s) x m e
                  (so ∙ ap (came_of rows p.1) e) refl refl)
            ] refl
      ] refl
  step xs kept was k p ts (inr s) up le there accept off =
      let x = next_attempt rows skips k ts xs p in
      let waits : x.came ≡ Waits = ap (λ (o : Option Missed). tried_unless o (tried rows skips k ts (writes xs) p)) s.is in
      inr (record {
        above = omega (arith, s.above, up);
        few = le;
        missed = s.missed;
        found = s.found;
        is = stuck-more xs x ∙ ap (λ (o : Option Missed). option_or o (missed_at x.pos x.table x.came)) s.is;
        misses = effects_still last kept (filter keep (p ∷ [])) s.found s.misses;
        same = s.same;
        are = λ j us uj lj e.
            subst (λ (ws : List Write). AreOf rows (overlaid us ws)) (over_same xs x (ap writes_tried waits))
            (s.are j us (omega (arith, up, uj)) lj e);
      })

  filter_more : (p : Placed) (ps : List Placed) → filter keep (p ∷ []) ++ filter keep ps ≡ filter keep (p ∷ ps)
  filter_more p ps =
      elim (keep p) as (λ b. cond b (p ∷ []) [] ++ filter keep ps ≡ cond b (p ∷ filter keep ps) (filter keep ps)) [
        | true ↦ refl
        | false ↦ refl
      ]

  all_stand : (ds : List Done) (xs : List Attempt) (kept : List Placed) (k : ℕ) → Stands xs kept k → low ≤ k →
      AreEarly skips rows made n k ds → AllByRecursion (λ d. IsAccepted rows d.0.1) ds →
      (j : ℕ) × Stands (worked_on at skips xs ds) (kept ++ filter keep (map (λ d. d.0) ds)) j
  all_stand [] xs kept k s le early accept = (k, subst (λ (ps : List Placed). Stands xs ps k) (sym (append-nil kept)) s)
  all_stand (d ∷ ds) xs kept k s le early accept =
      let above : low ≤ d.1 = omega (arith, le, early.0) in
      let there = ok_at d.1 above early.1.0 in
      let x = next_attempt rows skips d.1 there.0 xs d.0 in
      let next = step xs kept k d.1 d.0 there.0 s early.0 early.1.0 there.1 accept.0 early.1.1.0 in
      let rest = all_stand ds (xs ++ x ∷ []) (kept ++ filter keep (d.0 ∷ [])) d.1 next above early.1.1.1 accept.1 in
      let more = filter keep (map (λ (e : Done). e.0) ds) in
      let all : (kept ++ filter keep (d.0 ∷ [])) ++ more ≡ kept ++ filter keep (d.0 ∷ map (λ (e : Done). e.0) ds) =
      append_assoc kept (filter keep (d.0 ∷ [])) more
      ∙ ap (λ (ps : List Placed). kept ++ ps) (filter_more d.0 (map (λ (e : Done). e.0) ds)) in
      let one : attempted_over skips d.1 (at d.1) xs d.0 ≡ xs ++ x ∷ [] =
      ap (λ (r : Result Tables Missed). attempted_over skips d.1 r xs d.0) there.1
      ∙ ap (λ (rs : List TableRow). xs ++ next_attempt rs skips d.1 there.0 xs d.0 ∷ [])
      (are_at d.1 there.0 above early.1.0 there.1).defined in (
        rest.0,
        subst (λ (ys : List Attempt). Stands (worked_on at skips ys ds)
            (kept ++ filter keep (d.0 ∷ map (λ (e : Done). e.0) ds)) rest.0)
            (sym one)
            (subst (λ (ps : List Placed). Stands (worked_on at skips (xs ++ x ∷ []) ds) ps rest.0) all rest.1),
      )

  done_firsts : (ps : List Placed) (xs : List Attempt) → length xs ≡ length ps → map (λ (d : Done). d.0) (done_at ps xs) ≡ ps
  done_firsts [] xs e = refl
  done_firsts (p ∷ ps) [] e = absurd (omega (arith, e))
  done_firsts (p ∷ ps) (x ∷ xs) e = ap (λ (qs : List Placed). p ∷ qs) (done_firsts ps xs (omega (arith, e)))

  done_accepted : (ps : List Placed) (xs : List Attempt) → AllByRecursion (λ p. IsAccepted rows p.1) ps →
      AllByRecursion (λ (d : Done). IsAccepted rows d.0.1) (done_at ps xs)
  done_accepted [] xs a = tt
  done_accepted (p ∷ ps) [] a = tt
  done_accepted (p ∷ ps) (x ∷ xs) a = (a.0, done_accepted ps xs a.1)

  module _ (ps : List Placed) (attempts : List Attempt) (work : IsWork at skips ps attempts)
      (early : AreEarly skips rows made n low (done_at ps attempts)) (accept : AllByRecursion (λ p. IsAccepted rows p.1) ps) where
    stands : (j : ℕ) × Stands attempts (filter keep ps) j
    stands =
        let ds = done_at ps attempts in
        let s = all_stand ds [] [] low (inl no_work) (omega arith) early (done_accepted ps attempts accept) in (
          s.0,
          subst (λ (ys : List Attempt). Stands ys (filter keep ps) s.0) (sym work.comes)
              (subst (λ (qs : List Placed). Stands (worked_on at skips [] ds) (filter keep qs) s.0)
              (done_firsts ps attempts work.each) s.1),
        )

    sound_by : (qs : List Placed) (j : ℕ) → Stands attempts qs j → AreOf rows (overlaid last (writes attempts))
    sound_by qs j (inl g) = g.are n last g.few (omega arith) ends
    sound_by qs j (inr s) = s.are n last s.few (omega arith) ends

    -- the tables of the last count with what was written in place are sound
    pub early_sound : AreSound (overlaid last (writes attempts))
    early_sound = (sound_by (filter keep ps) stands.0 stands.1).sound

    ends_by : (qs : List Placed) (j : ℕ) → Stands attempts qs j → stuck attempts ≡ None →
        effects last qs ≡ Ok (overlaid last (writes attempts))
    ends_by qs j (inl g) free = g.done n last g.few (omega arith) ends
    ends_by qs j (inr s) free = let is = s.is in absurd (cc)

    misses_by : (qs : List Placed) (j : ℕ) → Stands attempts qs j → (m : Missed) → stuck attempts ≡ Some m →
        (found : Missed) × ((effects last qs ≡ Err found) × (ownerless_missed m ≡ ownerless_missed found))
    misses_by qs j (inl g) m e = let free = g.free in absurd (cc)
    misses_by qs j (inr s) m e =
        let is = s.is in
        let same : m ≡ s.missed = cc in
        (s.found, (s.misses, ap ownerless_missed same ∙ s.same))

    -- so end the kept changes over them
    pub early_done : stuck attempts ≡ None → effects last (filter keep ps) ≡ Ok (overlaid last (writes attempts))
    early_done free = ends_by (filter keep ps) stands.0 stands.1 free

    pub early_missed : (m : Missed) → stuck attempts ≡ Some m →
        (found : Missed) × ((effects last (filter keep ps) ≡ Err found) × (ownerless_missed m ≡ ownerless_missed found))
    early_missed m e = misses_by (filter keep ps) stands.0 stands.1 m e
