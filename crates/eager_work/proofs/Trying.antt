-- What the tries of changes come to: the attempts so far, and the rows that they left.
use Rattle.std.proofs.Common.{◌≡◌, ℕ, List, [], ◌∷◌, ◌++◌, map, filter, refl, sym, ap, subst, ◌∙◌, Bool, true, false, cond, ◌||◌, ◌==◌, arith, append_assoc, Option, Some, None, is_some}
use Rattle.std.specs.Prelude.{◌↔◌, Result, Ok, Err, OnOk, is_err}
use Rattle.std.specs.Cmp.{eq_by_cmp_equiv}
use Rattle.std.specs.List.{AllByRecursion, list_any, find}
use Rattle.std.specs.Option.{option_map}
use Rattle.std.specs.Ordering.{is_eq, eq_by_cmp}
use Rattle.std.proofs.lemmas.Bool.Decides.{nat_tests}
use Rattle.std.proofs.lemmas.List.{append-nil, map-append}
use Rattle.rl_value.specs.declared.value.Value.{Value}
use Rattle.rl_value.specs.declared.key.Key.{Key}
use Rattle.rl_value.specs.declared.cause.LawFault.{LawFault}
use Rattle.rl_value.specs.declared.miss.Miss.{Miss}
use Rattle.rl_value.specs.Order.{key_cmp, key_total, key_set}
use Rattle.redo_vec.specs.declared.change.Change.{Change}
use Rattle.redo_vec.specs.declared.table.TableRow.{TableRow}
use Rattle.redo_dict.specs.declared.fault.ChangeFault.{ChangeFault}
use Rattle.redo_dict.specs.Refusals.{Accepts}
use Rattle.redo_law.specs.Touched.{HasSameKeys}
use Rattle.redo_spec.specs.ConflictKeys.{conflict_keys}
use Rattle.redo_spec.specs.ChangeForm.{change_fault}
use Rattle.redo_spec.specs.Effect.{effect}
use Rattle.redo_spec.specs.Fold.{Missed}
use Rattle.redo_spec.specs.History.{Placed}
use Rattle.redo_spec.specs.Skips.{Skip, is_skipped}
use Rattle.redo_spec.specs.Tables.{Tables}
use Rattle.redo_spec.specs.Work.{row_at, writes_of}
use Rattle.row_apply.specs.declared.writes.Write.{Write}
use Rattle.row_apply.specs.Overlaid.{overlaid, written_key, written_at, writes_rise, WritesOnly}
use Rattle.row_apply.specs.Written.{writes_in, put_writes}
use Rattle.eager_work.specs.declared.did.Did.{Did}
use Rattle.eager_work.specs.declared.waiting.Waiting.{Waiting}
use Rattle.eager_work.specs.declared.waiting.Conflict.{Conflict}
use Rattle.eager_work.specs.Attempts.{Tried, Attempt, Wrote, Passed, Missing, Waits, writes_tried, all_written, writes, stuck, came_of, tried, tried_unless, attempt_of, mark_of, marks, placed_marks}
use Rattle.eager_work.specs.Keeping.{done_attempt, conflict_attempts, waiting_attempt}
use Rattle.eager_work.specs.Trying.{write_if, found_at, found_all}
use Rattle.eager_work.proofs.Gathered.{stuck_done}
use Rattle.eager_work.proofs.WorkLaws.{written-more}

-- ---- one attempt more

pub did_more : (before old new : List Did) (d : Did) (c : Option Conflict) (w : List Waiting) → new ≡ old ++ d ∷ [] →
    c ≡ None → w ≡ [] →
    map done_attempt (before ++ new) ++ (conflict_attempts c ++ map waiting_attempt w)
    ≡ (map done_attempt (before ++ old) ++ (conflict_attempts c ++ map waiting_attempt w)) ++ done_attempt d ∷ []
did_more before old new d None [] is e f =
    append-nil (map done_attempt (before ++ new))
    ∙ ap (λ (ds : List Did). map done_attempt (before ++ ds)) is
    ∙ ap (map done_attempt) (sym (append_assoc before old (d ∷ [])))
    ∙ map-append done_attempt (before ++ old) (d ∷ [])
    ∙ ap (λ (xs : List Attempt). xs ++ done_attempt d ∷ []) (sym (append-nil (map done_attempt (before ++ old))))
did_more before old new d None (v ∷ w) is e f = absurd (cc)
did_more before old new d (Some c) w is e f = absurd (cc)

pub miss_more : (D : List Attempt) (c : Conflict) (old : Option Conflict) (w : List Waiting) → old ≡ None → w ≡ [] →
    D ++ (conflict_attempts (Some c) ++ map waiting_attempt w)
    ≡ (D ++ (conflict_attempts old ++ map waiting_attempt w)) ++ conflict_attempts (Some c)
miss_more D c None [] e f = ap (λ (xs : List Attempt). xs ++ conflict_attempts (Some c)) (sym (append-nil D))
miss_more D c None (v ∷ w) e f = absurd (cc)
miss_more D c (Some b) w e f = absurd (cc)

pub wait_more : (D C : List Attempt) (old new : List Waiting) (w : Waiting) → new ≡ old ++ w ∷ [] →
    D ++ (C ++ map waiting_attempt new) ≡ (D ++ (C ++ map waiting_attempt old)) ++ waiting_attempt w ∷ []
wait_more D C old new w is =
    ap (λ (ws : List Waiting). D ++ (C ++ map waiting_attempt ws)) is
    ∙ ap (λ (xs : List Attempt). D ++ (C ++ xs)) (map-append waiting_attempt old (w ∷ []))
    ∙ ap (λ (xs : List Attempt). D ++ xs) (sym (append_assoc C (map waiting_attempt old) (waiting_attempt w ∷ [])))
    ∙ sym (append_assoc D (C ++ map waiting_attempt old) (waiting_attempt w ∷ []))

-- what it writes
pub over_more : (xs : List Attempt) (x : Attempt) (ws over : List Write) → x.came ≡ Wrote ws →
    over ≡ writes_in (put_writes [] (all_written xs ++ ws)) → over ≡ writes (xs ++ x ∷ [])
over_more xs x ws over came is =
    let told : all_written (xs ++ x ∷ []) ≡ all_written xs ++ ws =
    written-more xs x ∙ ap (λ t. all_written xs ++ writes_tried t) came in
    is ∙ ap (λ (vs : List Write). writes_in (put_writes [] vs)) (sym told)

pub over_same : (xs : List Attempt) (x : Attempt) → writes_tried x.came ≡ [] → writes xs ≡ writes (xs ++ x ∷ [])
over_same xs x none =
    let told : all_written (xs ++ x ∷ []) ≡ all_written xs =
    written-more xs x ∙ ap (λ (ws : List Write). all_written xs ++ ws) none ∙ append-nil (all_written xs) in
    ap (λ (vs : List Write). writes_in (put_writes [] vs)) (sym told)

-- a miss writes nothing
pub missed_same : (xs ys : List Attempt) (n : ℕ) (p : Placed) (m : Miss) → ys ≡ xs ++ attempt_of n p (Missing m) ∷ [] →
    writes xs ≡ writes ys
missed_same xs ys n p m is = over_same xs (attempt_of n p (Missing m)) refl ∙ ap writes (sym is)

-- ---- keys

-- keys that the order does not tell apart are the same
abbrev pub Ties : Type 0
Ties = (one other : Key) → (eq_by_cmp key_cmp one other ≡ true) ↔ (one ≡ other)

key_turned : (x y : Key) → eq_by_cmp key_cmp x y ≡ eq_by_cmp key_cmp y x
key_turned x y = (eq_by_cmp_equiv key_total).symm x y

any_turned : (q : Key) (ks : List Key) → list_any (λ k. is_eq (key_cmp k q)) ks ≡ list_any (eq_by_cmp key_cmp q) ks
any_turned q [] = refl
any_turned q (k ∷ ks) = ap (λ b. b || list_any (λ l. is_eq (key_cmp l q)) ks) (key_turned k q) ∙
    ap (λ b. eq_by_cmp key_cmp q k || b) (any_turned q ks)

found_in : Ties → (P : Key → Type 0) (ks : List Key) → AllByRecursion P ks → (k : Key) →
    list_any (eq_by_cmp key_cmp k) ks ≡ true → P k
found_in ties P [] all k e = absurd (cc)
found_in ties P (l ∷ ls) all k e =
    elim (eq_by_cmp key_cmp k l) as (λ b. eq_by_cmp key_cmp k l ≡ b → (b || list_any (eq_by_cmp key_cmp k) ls) ≡ true → P k) [
      | true ↦ λ t h. subst P (sym ((ties k l).0 t)) all.0
      | false ↦ λ t h. found_in ties P ls all.1 k h
    ] refl e

left_or : (a b : Bool) → a ≡ true → (a || b) ≡ true
left_or true b e = refl
left_or false b e = absurd (cc)

right_or : (a b : Bool) → b ≡ true → (a || b) ≡ true
right_or true b e = refl
right_or false b e = e

all_in : Ties → (P : Key → Type 0) (all ks : List Key) → AllByRecursion P all →
    ((k : Key) → list_any (eq_by_cmp key_cmp k) ks ≡ true → list_any (eq_by_cmp key_cmp k) all ≡ true) → AllByRecursion P ks
all_in ties P all [] holds among = tt
all_in ties P all (l ∷ ls) holds among = (
  found_in ties P all holds l (among l (left_or (eq_by_cmp key_cmp l l) (list_any (eq_by_cmp key_cmp l) ls) ((ties l l).1 refl))),
  all_in ties P all ls holds (λ k h. among k (right_or (eq_by_cmp key_cmp k l) (list_any (eq_by_cmp key_cmp k) ls) h)),
)

is_zero : (n : ℕ) → (n == 0) ≡ true → n ≡ 0
is_zero n e = grind (arith, nat_tests)

zero_is : (n : ℕ) → n ≡ 0 → (n == 0) ≡ true
zero_is n e = grind (arith, nat_tests)

-- ---- what was left under keys

-- under each row key stands what the tables have there
abbrev pub AreLeft : List Write → Tables → List Key → Type 0
AreLeft ws after ks = AllByRecursion (λ k. k.index ≡ 0 → written_at ws k ≡ Some (row_at after k)) ks

found_left : (ws : List Write) (after : Tables) (ks : List Key) → AreLeft ws after ks →
    found_all ws ks ≡ writes_in (writes_of ks after)
found_left ws after [] left = refl
found_left ws after (k ∷ ks) left =
    elim (k.index == 0) as (λ b. (k.index == 0) ≡ b →
    cond b (write_if k (written_at ws k)) [] ++ found_all ws ks ≡
    writes_in (map (λ l. (l, row_at after l)) (cond b (k ∷ filter (λ l. l.index == 0) ks) (filter (λ l. l.index == 0) ks)))) [
      | true ↦ λ e.
          ap (λ o. write_if k o ++ found_all ws ks) (left.0 (is_zero k.index e))
          ∙ ap (λ (vs : List Write). record { table = k.table; key = k.values; row = row_at after k } ∷ vs)
          (found_left ws after ks left.1)
      | false ↦ λ e. found_left ws after ks left.1
    ] refl

pub left_is : Ties → (ws : List Write) (after : Tables) (all ks : List Key) → HasSameKeys ks all → AreLeft ws after all →
    found_all ws ks ≡ writes_in (writes_of ks after)
left_is ties ws after all ks same left =
    found_left ws after ks (all_in ties (λ k. k.index ≡ 0 → written_at ws k ≡ Some (row_at after k)) all ks left
    (λ k h. sym (same k) ∙ h))

-- each of the writes is what was left under its key
abbrev pub StandsIn : List Write → Write → Type 0
StandsIn ws w = written_at ws (written_key w) ≡ Some w.row

same_key : (k : Key) (row : Option (List Value)) → k.index ≡ 0 →
    written_key (record { table = k.table; key = k.values; row = row }) ≡ k
same_key k row zero = λ i. record { table = k.table; index = sym zero i; values = k.values }

all_joined : {A : Type 0} (P : A → Type 0) (xs ys : List A) → AllByRecursion P xs → AllByRecursion P ys →
    AllByRecursion P (xs ++ ys)
all_joined P [] ys a b = b
all_joined P (x ∷ xs) ys a b = (a.0, all_joined P xs ys a.1 b)

each_if : (ws : List Write) (k : Key) → k.index ≡ 0 → (o : Option (Option (List Value))) → written_at ws k ≡ o →
    AllByRecursion (StandsIn ws) (write_if k o)
each_if ws k zero None e = tt
each_if ws k zero (Some row) e = (ap (written_at ws) (same_key k row zero) ∙ e, tt)

each_at : (ws : List Write) (k : Key) → AllByRecursion (StandsIn ws) (found_at ws k)
each_at ws k =
    elim (k.index == 0) as (λ b. (k.index == 0) ≡ b → AllByRecursion (StandsIn ws) (cond b (write_if k (written_at ws k)) [])) [
      | true ↦ λ e. each_if ws k (is_zero k.index e) (written_at ws k) refl
      | false ↦ λ e. tt
    ] refl

pub each_found : (ws : List Write) (ks : List Key) → AllByRecursion (StandsIn ws) (found_all ws ks)
each_found ws [] = tt
each_found ws (k ∷ ks) = all_joined (StandsIn ws) (found_at ws k) (found_all ws ks) (each_at ws k) (each_found ws ks)

-- ---- what was not left there

-- nothing is written under a unique key
other_index : Ties → (ws : List Write) (q : Key) → (q.index == 0) ≡ false → written_at ws q ≡ None
other_index ties [] q e = refl
other_index ties (w ∷ ws) q e =
    elim (is_eq (key_cmp (written_key w) q)) as (λ b. is_eq (key_cmp (written_key w) q) ≡ b →
    option_map (λ (v : Write). v.row) (cond b (Some w) (find (λ v. is_eq (key_cmp (written_key v) q)) ws)) ≡ None) [
      | true ↦ λ t.
          let zero : q.index ≡ 0 = sym (ap (λ (k : Key). k.index) ((ties (written_key w) q).0 t)) in
          let there : (q.index == 0) ≡ true = zero_is q.index zero in
          absurd (cc)
      | false ↦ λ t. other_index ties ws q e
    ] refl

any_front : (p : Write → Bool) (xs ys : List Write) → list_any p xs ≡ true → list_any p (xs ++ ys) ≡ true
any_front p [] ys e = absurd (cc)
any_front p (x ∷ xs) ys e =
    elim (p x) as (λ b. (b || list_any p xs) ≡ true → (b || list_any p (xs ++ ys)) ≡ true) [
      | true ↦ λ h. refl
      | false ↦ λ h. any_front p xs ys h
    ] e

any_back : (p : Write → Bool) (xs ys : List Write) → list_any p ys ≡ true → list_any p (xs ++ ys) ≡ true
any_back p [] ys e = e
any_back p (x ∷ xs) ys e = right_or (p x) (list_any p (xs ++ ys)) (any_back p xs ys e)

-- the writes have one under this row key
abbrev pub is_under : Key → Write → Bool
is_under q w = is_eq (key_cmp (written_key w) q)

at_has : Ties → (ws : List Write) (q : Key) (row : Option (List Value)) → q.index ≡ 0 → written_at ws q ≡ Some row →
    list_any (is_under q) (found_at ws q) ≡ true
at_has ties ws q row zero there =
    let w : Write = record { table = q.table; key = q.values; row = row } in
    let is : found_at ws q ≡ w ∷ [] =
    ap (λ b. cond b (write_if q (written_at ws q)) []) (zero_is q.index zero) ∙ ap (write_if q) there in
    ap (list_any (is_under q)) is ∙ left_or (is_under q w) false ((ties (written_key w) q).1 (same_key q row zero))

found_has : Ties → (ws : List Write) (ks : List Key) (q : Key) (row : Option (List Value)) → q.index ≡ 0 →
    written_at ws q ≡ Some row → list_any (eq_by_cmp key_cmp q) ks ≡ true → list_any (is_under q) (found_all ws ks) ≡ true
found_has ties ws [] q row zero there e = absurd (cc)
found_has ties ws (k ∷ ks) q row zero there e =
    elim (eq_by_cmp key_cmp q k) as (λ b. eq_by_cmp key_cmp q k ≡ b → (b || list_any (eq_by_cmp key_cmp q) ks) ≡ true →
    list_any (is_under q) (found_at ws k ++ found_all ws ks) ≡ true) [
      | true ↦ λ t h.
          any_front (is_under q) (found_at ws k) (found_all ws ks)
          (subst (λ (l : Key). list_any (is_under q) (found_at ws l) ≡ true) ((ties q k).0 t) (at_has ties ws q row zero there))
      | false ↦ λ t h. any_back (is_under q) (found_at ws k) (found_all ws ks) (found_has ties ws ks q row zero there h)
    ] refl e

-- what the change did not touch stands as it did
pub others_left : Ties → (new old : List Write) (after : Tables) (all ks : List Key) → HasSameKeys ks all →
    WritesOnly all old new →
    AreLeft new after all → (q : Key) → list_any (is_under q) (found_all new ks) ≡ false → written_at new q ≡ written_at old q
others_left ties new old after all ks same only left q out =
    elim (list_any (λ k. is_eq (key_cmp k q)) all) as (λ b. list_any (λ k. is_eq (key_cmp k q)) all ≡ b →
    written_at new q ≡ written_at old q) [
      | true ↦ λ h. elim (q.index == 0) as (λ b. (q.index == 0) ≡ b → written_at new q ≡ written_at old q) [
        | true ↦ λ e.
            let zero = is_zero q.index e in
            let among : list_any (eq_by_cmp key_cmp q) all ≡ true = sym (any_turned q all) ∙ h in
            let there : written_at new q ≡ Some (row_at after q) =
            found_in ties (λ k. k.index ≡ 0 → written_at new k ≡ Some (row_at after k)) all left q among zero in
            let has : list_any (is_under q) (found_all new ks) ≡ true =
            found_has ties new ks q (row_at after q) zero there (same q ∙ among) in
            absurd (cc)
        | false ↦ λ e. other_index ties new q e ∙ sym (other_index ties old q e)
      ] refl
      | false ↦ λ h. only q h
    ] refl

-- ---- a change that was done

-- writes behind others are told by what stands under each key
abbrev pub PutsIn : Type 0
PutsIn = (before ws new : List Write) → writes_rise new ≡ true → AllByRecursion (StandsIn new) ws →
    ((key : Key) → list_any (is_under key) ws ≡ false → written_at new key ≡ written_at (writes_in (put_writes [] before)) key) →
    new ≡ writes_in (put_writes [] (before ++ ws))

-- the overlay has what the attempts left, with what this one did
pub change_over : Ties → PutsIn → (xs : List Attempt) (x : Attempt) (new old : List Write) (after : Tables) (all ks : List Key) →
    writes_rise new ≡ true → HasSameKeys ks all → WritesOnly all old new → AreLeft new after all → old ≡ writes xs →
    x.came ≡ Wrote (found_all new ks) → new ≡ writes (xs ++ x ∷ [])
change_over ties puts xs x new old after all ks rise same only left is came =
    over_more xs x (found_all new ks) new came
    (puts (all_written xs) (found_all new ks) new rise (each_found new ks)
    (λ q out. others_left ties new old after all ks same only left q out ∙ ap (λ (ws : List Write). written_at ws q) is))

-- what came of it is its effect
pub change_came : Ties → (rows : List TableRow) (c : Change) (tables : Tables) (new old : List Write) (xs : List Attempt) →
    HasSameKeys (key_set (conflict_keys rows c)) (conflict_keys rows c) →
    AreLeft new (overlaid tables new) (conflict_keys rows c) → old ≡ writes xs →
    effect (overlaid tables old) c ≡ Ok (overlaid tables new) →
    Wrote (found_all new (key_set (conflict_keys rows c))) ≡ came_of rows c (effect (overlaid tables (writes xs)) c)
change_came ties rows c tables new old xs same left is done =
    ap Wrote (left_is ties new (overlaid tables new) (conflict_keys rows c) (key_set (conflict_keys rows c)) same left)
    ∙ sym (ap (came_of rows c) (ap (λ (ws : List Write). effect (overlaid tables ws) c) (sym is) ∙ done))

-- ---- what is said of a result

pub on_ok : {T E P Q : Type 0} (r : Result T E) → (P → Q) → OnOk r P → OnOk r Q
on_ok (Ok x) f p = f p
on_ok (Err e) f p = p

pub on_given : {T E P : Type 0} (r : Result T E) → P → OnOk r P
on_given (Ok x) p = p
on_given (Err e) p = tt

pub on_both : {T E P Q S : Type 0} (r : Result T E) → (P → Q → S) → OnOk r P → OnOk r Q → OnOk r S
on_both (Ok x) f p q = f p q
on_both (Err e) f p q = p

-- one mark more
pub marks_more : (xs ys : List Attempt) (n : ℕ) (p : Placed) (came : Tried) → ys ≡ xs ++ attempt_of n p came ∷ [] →
    marks ys ≡ marks xs ++ placed_marks n (p ∷ [])
marks_more xs ys n p came is = ap marks is ∙ map-append mark_of xs (attempt_of n p came ∷ [])

-- ---- a change that is passed over, or waits

-- a change that is not accepted is told
pub refused_is : (reason : Option LawFault) (r : Result (Unit {0}) ChangeFault) → Accepts reason r → is_err r ≡ is_some reason
refused_is reason (Ok done) e = ap is_some (sym e)
refused_is reason (Err fault) e = ap is_some (sym e)

-- ---- what a change comes to behind the others

pub none_is : {A : Type 0} (o : Option A) → is_some o ≡ false → o ≡ None
none_is None e = refl
none_is (Some x) e = absurd (cc)

-- the attempts so far
abbrev so_far : List Did → Option Conflict → List Waiting → List Attempt
so_far ds c ws = map done_attempt ds ++ (conflict_attempts c ++ map waiting_attempt ws)

-- behind a conflict it waits
pub waits_so : (ds : List Did) (c : Option Conflict) (ws : List Waiting) → is_some c ≡ true → (t : Tried) →
    Waits ≡ tried_unless (stuck (so_far ds c ws)) t
waits_so ds None ws e t = absurd (cc)
waits_so ds (Some c) ws e t =
    sym (ap (λ (o : Option Missed). tried_unless o t) (stuck_done ds (conflict_attempts (Some c) ++ map waiting_attempt ws)))

free_so : (ds : List Did) (c : Option Conflict) (ws : List Waiting) → is_some c ≡ false → ws ≡ [] → (t : Tried) →
    t ≡ tried_unless (stuck (so_far ds c ws)) t
free_so ds None [] e f t = sym (ap (λ (o : Option Missed). tried_unless o t) (stuck_done ds []))
free_so ds None (w ∷ ws) e f t = absurd (cc)
free_so ds (Some c) ws e f t = absurd (cc)

-- where there is none, it is passed over or tried
module _ (ds : List Did) (c : Option Conflict) (ws : List Waiting) (free : is_some c ≡ false) (alone : ws ≡ [])
    (rows : List TableRow) (skips : List Skip) (n : ℕ) (base : Tables) (p : Placed) where
  abbrev came_so : Tried
  came_so = came_of rows p.1 (effect (overlaid base (writes (so_far ds c ws))) p.1)

  pub passed_so : (is_some (change_fault rows p.1) || is_skipped skips rows n p) ≡ true →
      Passed ≡ tried_unless (stuck (so_far ds c ws)) (tried rows skips n base (writes (so_far ds c ws)) p)
  passed_so e =
      sym (ap (λ (b : Bool). cond b Passed came_so) e)
      ∙ free_so ds c ws free alone (tried rows skips n base (writes (so_far ds c ws)) p)

  pub tried_so : (is_some (change_fault rows p.1) || is_skipped skips rows n p) ≡ false →
      came_of rows p.1 (effect (overlaid base (writes (so_far ds c ws))) p.1) ≡
      tried_unless (stuck (so_far ds c ws)) (tried rows skips n base (writes (so_far ds c ws)) p)
  tried_so e =
      sym (ap (λ (b : Bool). cond b Passed came_so) e)
      ∙ free_so ds c ws free alone (tried rows skips n base (writes (so_far ds c ws)) p)
