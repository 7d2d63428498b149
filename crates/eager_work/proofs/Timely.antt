-- Changes that are done in time are done early: a watermark that is reached leaves no earlier commit to wait for.
use Rattle.std.proofs.Common.{◌≡◌, ℕ, zero, suc, ◌+◌, ◌-◌, ◌≤◌, ◌<◌, List, [], ◌∷◌, length, take, filter, get_or, refl, sym, ap, subst, ◌∙◌, Bool, true, false, cond, not, ◌&&◌, nat_le, arith, slice_get, Some, None, Ok, Err}
use Rattle.std.specs.Prelude.{max, if◌then◌else◌}
use Rattle.std.specs.List.{list_all, AllByRecursion}
use Rattle.rl_value.specs.declared.pos.Pos.{Pos}
use Rattle.rl_value.specs.declared.key.Key.{Key}
use Rattle.rl_value.specs.Outcome.{map_ok}
use Rattle.redo_vec.specs.declared.table.TableRow.{TableRow}
use Rattle.redo_spec.specs.ConflictKeys.{conflict_keys}
use Rattle.redo_spec.specs.Fold.{Base, Missed, tables_at, with_commit, commit_effects, effects}
use Rattle.redo_spec.specs.History.{Placed, Committed, Commits, commit_count, commits_after}
use Rattle.redo_spec.specs.Skips.{Skip, is_skipped, kept_changes}
use Rattle.redo_spec.specs.Tables.{Tables, definitions_of}
use Rattle.redo_spec.specs.Watermark.{is_before, touches, waits_for, greatest_wait, watermark_at}
use Rattle.redo_spec.specs.Work.{Done}
use Rattle.row_apply.specs.Overlaid.{overlaid, writes_rise}
use Rattle.row_apply.specs.Soundness.{AreSound}
use Rattle.row_apply.specs.Written.{put_writes}
use Rattle.row_apply.proofs.Writing.{writes_rising}
use Rattle.eager_work.specs.Attempts.{Attempt, writes, all_written, stuck, done_at}
use Rattle.eager_work.specs.Early.{IsAccepted, AreCounts, AreEarly, AreTimely, IsTimelyWork, MissesAlike, made_after}
use Rattle.eager_work.proofs.Earliness.{AreOf}
use Rattle.eager_work.proofs.EarlyLaws.{skipped_alike, are_at, early_sound, early_done, early_missed}
use Rattle.eager_work.proofs.Overlaying.{slots_put, no_slots}

at_most : (a b c : ℕ) → a ≡ b → a ≤ max b c
at_most a b c e = omega (arith, e)

behind : (a b c : ℕ) → a ≤ c → a ≤ max b c
behind a b c e = omega (arith, e)

through : (a b c : ℕ) → a ≤ b → b ≤ c → a ≤ c
through a b c e f = omega (arith, e, f)

wait_of : (skips : List Skip) (rows : List TableRow) (at : Pos) (keys : List Key) (cs : List Committed) (before i : ℕ)
    (c : Committed) → slice_get cs i ≡ Some c →
    waits_for skips rows at keys (before + i) c ≤ greatest_wait skips rows at keys before cs
wait_of skips rows at keys [] before i c s = absurd (cc)
wait_of skips rows at keys (d ∷ cs) before zero c s =
    let same : d ≡ c = cc in
    let none : before + 0 ≡ before = omega arith in
    let is : waits_for skips rows at keys (before + 0) c ≡ waits_for skips rows at keys before d =
    ap (λ (e : Committed). waits_for skips rows at keys (before + 0) e) (sym same)
    ∙ ap (λ (k : ℕ). waits_for skips rows at keys k d) none in
    at_most (waits_for skips rows at keys (before + 0) c) (waits_for skips rows at keys before d)
    (greatest_wait skips rows at keys (before + 1) cs) is
wait_of skips rows at keys (d ∷ cs) before (suc i) c s =
    let next : before + suc i ≡ before + 1 + i = omega arith in
    behind (waits_for skips rows at keys (before + suc i) c) (waits_for skips rows at keys before d)
    (greatest_wait skips rows at keys (before + 1) cs)
    (subst (λ (k : ℕ). waits_for skips rows at keys k c ≤ greatest_wait skips rows at keys (before + 1) cs) (sym next)
    (wait_of skips rows at keys cs (before + 1) i c s))

-- no commit before the position that was not applied at count k touches a key
free_of : (b c : Bool) (j k : ℕ) → (if b && c then j + 1 else 0) ≤ k → k ≤ j → (b ≡ false → c ≡ false) → c ≡ false
free_of true true j k low up lock = absurd (omega (arith, low, up))
free_of true false j k low up lock = refl
free_of false c j k low up lock = lock refl

pub reached_free : (skips : List Skip) (rows : List TableRow) (cs : Commits) (at : Pos) (keys : List Key) (k j : ℕ)
    (c : Committed) →
    cs.before ≤ j → slice_get cs.made (j - cs.before) ≡ Some c → watermark_at skips rows cs at keys ≤ k → k ≤ j →
    (is_before c.at at ≡ false → touches skips rows j c keys ≡ false) → touches skips rows j c keys ≡ false
reached_free skips rows cs at keys k j c low s reached up lock =
    let z : cs.before + (j - cs.before) ≡ j = omega (arith, low) in
    let w : waits_for skips rows at keys j c ≤ watermark_at skips rows cs at keys =
    subst (λ (i : ℕ). waits_for skips rows at keys i c ≤ watermark_at skips rows cs at keys) z
    (wait_of skips rows at keys cs.made cs.before (j - cs.before) c s) in
    free_of (is_before c.at at) (touches skips rows j c keys) j k
    (through (waits_for skips rows at keys j c) (watermark_at skips rows cs at keys) k w reached) up lock

-- ---- the commits of a redo

found_there : (cs : List Committed) (i : ℕ) (other : Committed) → i < length cs → slice_get cs i ≡ Some (get_or cs i other)
found_there [] i other low = absurd (omega (arith, low))
found_there (c ∷ cs) zero other low = refl
found_there (c ∷ cs) (suc i) other low = found_there cs i other (omega (arith, low))

unless_skipped : (b : Bool) (m k : ℕ) → b ≡ false → cond b 0 m ≤ k → m ≤ k
unless_skipped true m k e le = absurd (cc)
unless_skipped false m k e le = le

pub timely_early : (skips : List Skip) (rows : List TableRow) (cs : Commits) (other : Committed) (low n k : ℕ) (ds : List Done) →
    list_all (λ s. nat_le s.from low) skips ≡ true → cs.before ≤ low → low ≤ k → low ≤ n → n ≤ commit_count cs →
    AreTimely skips rows cs low n k ds → AreEarly skips rows (made_after cs other) n k ds
timely_early skips rows cs other low n k [] rules before above room there a = tt
timely_early skips rows cs other low n k (d ∷ ds) rules before above room there a =
    let here = a.0 in (
      here.rises,
      (
        here.few,
        (
          (λ kept j up less.
              let keys = conflict_keys rows d.0.1 in
              let alike = skipped_alike skips rows d.0 low low n rules (omega arith) room in
              let water : watermark_at skips rows cs d.0.0 keys ≤ d.1 =
              unless_skipped (is_skipped skips rows low d.0) (watermark_at skips rows cs d.0.0 keys) d.1 (alike ∙ kept)
              here.reached in
              let low_j : cs.before ≤ j = omega (arith, before, above, here.rises, up) in
              let s = found_there cs.made (j - cs.before) other (omega (arith, low_j, less, there)) in
              reached_free skips rows cs d.0.0 keys d.1 j (made_after cs other j) low_j s water up
              (here.locked j (made_after cs other j) up less s)),
          timely_early skips rows cs other low n d.1 ds rules before (omega (arith, above, here.rises)) room there a.1,
        ),
      ),
    )

all_there : {A : Type 0} (P : A → Type 0) (xs : List A) (i : ℕ) (d : A) → i < length xs → AllByRecursion P xs → P (get_or xs i d)
all_there P [] i d low a = absurd (omega (arith, low))
all_there P (x ∷ xs) zero d low a = a.0
all_there P (x ∷ xs) (suc i) d low a = all_there P xs i d (omega (arith, low)) a.1

-- one commit more leads from the tables of a count to those of the next
abbrev pub Steps : Type 0
Steps = (b : Base) (skips : List Skip) (cs : Commits) (n : ℕ) (c : Committed) → cs.before ≤ b.n → b.n ≤ n → n < commit_count cs →
    get_or cs.made (n - cs.before) c ≡ c → tables_at b skips cs (n + 1) ≡ with_commit skips n c (tables_at b skips cs n)

same_default : (cs : List Committed) (i : ℕ) (c d : Committed) → i < length cs → get_or cs i c ≡ get_or cs i d
same_default [] i c d low = absurd (omega (arith, low))
same_default (x ∷ cs) zero c d low = refl
same_default (x ∷ cs) (suc i) c d low = same_default cs i c d (omega (arith, low))

pub are_counts : Steps → (b : Base) (skips : List Skip) (rows : List TableRow) (cs : Commits) (other : Committed) (n : ℕ) →
    cs.before ≤ b.n → n ≤ commit_count cs → list_all (λ s. nat_le s.from b.n) skips ≡ true →
    AllByRecursion (λ (c : Committed). AllByRecursion (λ p. IsAccepted rows p.1) c.txn.survivors) cs.made →
    AreCounts skips rows (made_after cs other) (tables_at b skips cs) b.n n
are_counts step b skips rows cs other n before there rules accept = record {
  steps = λ k low few.
      let in_range : k - cs.before < length cs.made = omega (arith, before, low, few, there) in
      step b skips cs k (made_after cs other k) before low (omega (arith, few, there))
      (same_default cs.made (k - cs.before) (made_after cs other k) other in_range);
  accepted = λ k low few.
      all_there (λ (c : Committed). AllByRecursion (λ p. IsAccepted rows p.1) c.txn.survivors) cs.made (k - cs.before) other
      (omega (arith, before, low, few, there)) accept;
  rules = rules;
}

-- ---- the work of a commit

slice_some : (cs : List Committed) (i : ℕ) (c : Committed) → slice_get cs i ≡ Some c → i < length cs
slice_some [] i c e = absurd (cc)
slice_some (x ∷ cs) zero c e = omega arith
slice_some (x ∷ cs) (suc i) c e = omega (arith, slice_some cs i c e)

get_is : (cs : List Committed) (i : ℕ) (c other : Committed) → slice_get cs i ≡ Some c → get_or cs i other ≡ c
get_is [] i c other e = absurd (cc)
get_is (x ∷ cs) zero c other e = cc
get_is (x ∷ cs) (suc i) c other e = get_is cs i c other e

-- a commit for a count behind the last one
no_commit : Committed
no_commit = record {
  txn = record { start = record { rec = 0; vec = 0 }; xid = record { usn = 0; slot = 0; sqn = 0 }; survivors = [] };
  at = record { rec = 0; vec = 0 };
  scn = 0;
}

module _ (step : Steps) (b : Base) (skips : List Skip) (cs : Commits) (n : ℕ) (ps : List Placed) (attempts : List Attempt)
    (w : IsTimelyWork b skips cs n ps attempts) where
  counts : AreCounts skips (definitions_of b.tables) (made_after cs no_commit) (tables_at b skips cs) b.n n
  counts = are_counts step b skips (definitions_of b.tables) cs no_commit n w.before w.there w.rules w.committed

  begins : tables_at b skips cs b.n ≡ Ok b.tables
  begins =
      let none : b.n - b.n ≡ 0 = omega arith in
      ap (λ (k : ℕ). commit_effects skips b.n b.tables (take k (commits_after cs b.n))) none

  begun : AreOf (definitions_of b.tables) b.tables
  begun = record { defined = refl; sound = w.sound }

  early : AreEarly skips (definitions_of b.tables) (made_after cs no_commit) n b.n (done_at ps attempts)
  early =
      timely_early skips (definitions_of b.tables) cs no_commit b.n n b.n (done_at ps attempts) w.rules w.before
      (omega arith) w.room
      w.there w.timely

  pub timely_sound : (last : Tables) → tables_at b skips cs n ≡ Ok last → AreSound (overlaid last (writes attempts))
  timely_sound last ends =
      early_sound skips (definitions_of b.tables) (made_after cs no_commit) (tables_at b skips cs) b.n n w.tables
      counts b.tables last
      begins begun ends w.room ps attempts w.work early w.accepted

  module _ (c : Committed) (made : slice_get cs.made (n - cs.before) ≡ Some c) (is : ps ≡ c.txn.survivors) where
    -- the commit leads on
    goes_on : tables_at b skips cs (n + 1) ≡ with_commit skips n c (tables_at b skips cs n)
    goes_on =
        step b skips cs n c w.before w.room (omega (arith, slice_some cs.made (n - cs.before) c made, w.before, w.room))
        (get_is cs.made (n - cs.before) c c made)

    kept_so : (last : Tables) → tables_at b skips cs n ≡ Ok last →
        tables_at b skips cs (n + 1) ≡ effects last (filter (λ p. not (is_skipped skips (definitions_of b.tables) n p)) ps)
    kept_so last ends =
        let are = are_at skips (definitions_of b.tables) (made_after cs no_commit) (tables_at b skips cs) b.n n w.tables
        counts b.tables
        last begins begun ends w.room n last w.room (omega arith) ends in
        goes_on
        ∙ ap (with_commit skips n c) ends
        ∙ ap (λ (rs : List TableRow). effects last (kept_changes skips rs n c)) are.defined
        ∙ ap (λ (qs : List Placed). effects last (filter (λ p. not (is_skipped skips (definitions_of b.tables) n p)) qs)) (sym is)

    pub timely_leads : stuck attempts ≡ None →
        map_ok (λ tables. overlaid tables (writes attempts)) (tables_at b skips cs n) ≡ tables_at b skips cs (n + 1)
    timely_leads free =
        elim (tables_at b skips cs n) as (λ r. tables_at b skips cs n ≡ r →
        map_ok (λ tables. overlaid tables (writes attempts)) r ≡ tables_at b skips cs (n + 1)) [
          | Ok last ↦ λ e. sym (kept_so last e
              ∙ early_done skips (definitions_of b.tables) (made_after cs no_commit) (tables_at b skips cs) b.n n w.tables counts
              b.tables last begins begun e w.room ps attempts w.work early w.accepted free)
          | Err m ↦ λ e. sym (goes_on ∙ ap (with_commit skips n c) e)
        ] refl

    pub timely_misses : (m : Missed) → stuck attempts ≡ Some m → (last : Tables) → tables_at b skips cs n ≡ Ok last →
        MissesAlike m (tables_at b skips cs (n + 1))
    timely_misses m e last ends =
        let r = early_missed skips (definitions_of b.tables) (made_after cs no_commit) (tables_at b skips cs) b.n n
        w.tables counts
        b.tables last begins begun ends w.room ps attempts w.work early w.accepted m e in
        subst (MissesAlike m) (sym (kept_so last ends ∙ r.1.0)) r.1.1

-- the writes of work rise
pub work_rises : (attempts : List Attempt) → writes_rise (writes attempts) ≡ true
work_rises attempts =
    let es = put_writes [] (all_written attempts) in
    writes_rising es (slots_put [] (all_written attempts) no_slots)
