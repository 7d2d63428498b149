-- The steps of a progress are the fold: after any records it stands where `folded` of their commits stands.
use Rattle.std.proofs.Common.{◌≡◌, ℕ, zero, suc, ◌+◌, ◌-◌, ◌≤◌, ◌<◌, ◌==◌, nat_lt, List, [], ◌∷◌, ◌++◌, drop, take, length, slice_get, refl, sym, ap, ◌∙◌, subst, true, false, cond, Option, Some, None, unwrap_or, arith}
use Rattle.std.proofs.lemmas.Bool.Decides.{nat_tests}
use Rattle.std.specs.Option.{option_map_or}
use Rattle.std.proofs.lemmas.List.{length-append}
use Rattle.redo_law.specs.Calls.{standing_of}
use Rattle.rl_value.specs.declared.pos.Pos.{Pos}
use Rattle.rl_value.specs.declared.cause.LawFault.{LawFault}
use Rattle.rl_value.specs.declared.cause.Cause.TheVariants as causes
use Rattle.rl_value.specs.declared.verdict.Stop.{Stop}
use Rattle.rl_value.specs.declared.verdict.Stop.TheVariants.{Malformed}
use Rattle.rl_value.specs.declared.verdict.Verdict.{Verdict}
use Rattle.rl_value.specs.declared.verdict.Verdict.TheVariants.{Stopped}
use Rattle.redo_vec.specs.declared.table.TableRow.{TableRow}
use Rattle.redo_vec.specs.declared.vector.Vector.{Vector}
use Rattle.redo_vec.specs.declared.vector.Vector.TheVariants.{Start, Change as OfChange, Undo, Commit, Rollback, Table, DictEnd}
use Rattle.redo_spec.specs.declared.header.Header.{Header}
use Rattle.redo_spec.specs.Tables.{Tables, RowsById, definitions_of}
use Rattle.redo_spec.specs.History.{Entry, Placed, Txn, Committed, Commits, History, commits_after, commit_count, no_history, with_commits_at, after_vector as history_vector, after_vectors as history_vectors, history_after}
use Rattle.redo_spec.specs.Dictionary.{Dictionary}
use Rattle.redo_spec.specs.Standing.{Standing, standing_after, standing_after_all, standing_at_record as entered_standing, record_after}
use Rattle.redo_spec.specs.Law.{dictionary_fault, vector_fault, vectors_fault, whole_fault, record_fault, dictionary_left, admitted_or, admission}
use Rattle.redo_spec.specs.Skips.{Skip}
use Rattle.redo_spec.specs.Fold.{Folded, effects, commit_effect, commit_effects, folded, named_by}
use Rattle.primary.specs.declared.plain.Plain.{Plain}
use Rattle.primary.specs.Progress.{OpenChanges, changes_of, FoldState, Progress, Going, Ended, kept_of, tables_or, progress_or_end, progress_after_effects, progress_after_commit, live_after, commit_of, progress_with_commit, progress_after_vector, progress_after_vectors, tables_shown, waiting_until, tables_then, state_at_record, progress_unless_bad, progress_after_record, progress_after_records, held_at, end_of}
use Rattle.primary.specs.Starts.{base_of, fold_admitted, fold_from, first_progress, progress_after}
use Rattle.primary.proofs.WalkLaws.{Walked, came, halted, walk, walk_from, walk-snoc, walk_stays, walked_or, seen, walk_is_fold}
use Rattle.primary.proofs.FitLaws.{none_first, none_second, no_fault, is_whole, both, opens_after}
use Rattle.primary.specs.Running.{Opens}
use Rattle.primary.proofs.LiveLaws.{nothing_rises}
use Rattle.primary.proofs.HistoryFit.{Lives, lives_after, commit_ends}
use Rattle.primary.proofs.DictionaryLaws.{record_keeps, left_same}

-- ---- lists

drop_front : {A : Type 0} (k : ℕ) (xs ys : List A) → k ≤ length xs → drop k (xs ++ ys) ≡ drop k xs ++ ys
drop_front zero xs ys h = refl
drop_front (suc k) [] ys h = absurd (omega (arith, h))
drop_front (suc k) (x ∷ xs) ys h = drop_front k xs ys (omega (arith, h))

drop_past : {A : Type 0} (k : ℕ) (xs : List A) → length xs ≤ k → drop k xs ≡ []
drop_past zero [] h = refl
drop_past zero (x ∷ xs) h = absurd (omega (arith, h))
drop_past (suc k) [] h = refl
drop_past (suc k) (x ∷ xs) h = drop_past k xs (omega (arith, h))

-- ---- commits

-- the walk over the commits behind the start
abbrev pub goes : Plain → List Skip → Tables → Commits → Walked
goes start skips base cs = walk skips start.n start.scn base (commits_after cs start.n)

pub record Counts (start : Plain) (skips : List Skip) (base : Tables) (cs : Commits) (a : FoldState) : Type 0 where
  pub before : cs.before ≡ start.before
  pub made : a.made ≡ commit_count cs
  pub least : start.n ≤ a.n
  pub most : a.made ≤ a.n
  pub same : start.n < a.n → a.n ≡ a.made
  pub walked : goes start skips base cs ≡ came a.n a.scn a.tables None

pub record Halts (start : Plain) (skips : List Skip) (base : Tables) (cs : Commits) (f : Folded) : Type 0 where
  pub before : cs.before ≡ start.before
  pub past : start.n ≤ commit_count cs
  pub walked : goes start skips base cs ≡ came f.n f.scn f.tables (Some f.verdict)

abbrev pub Holds : Plain → List Skip → Tables → Commits → Progress → Type 0
Holds start skips base cs (Going a) = Counts start skips base cs a
Holds start skips base cs (Ended f) = Halts start skips base cs f

abbrev pub and_then : Commits → List Committed → Commits
and_then cs more = record cs { made = cs.made ++ more }

halts_on : (start : Plain) (skips : List Skip) (base : Tables) (cs : Commits) (f : Folded) (more : List Committed) →
    Halts start skips base cs f → Halts start skips base (and_then cs more) f
halts_on start skips base cs f more h =
    let k = start.n - cs.before in
    let long = length-append cs.made more in
    let inside : k ≤ length cs.made = omega (arith, h.past) in
    record {
      before = h.before;
      past = omega (arith, h.past, long);
      walked = ap (λ ds. walk skips start.n start.scn base ds) (drop_front k cs.made more inside)
          ∙ walk_stays skips start.n start.scn base (drop k cs.made) more f.verdict (ap (λ w. w.stop) h.walked)
          ∙ h.walked;
    }

-- a count that is above what was made is that of the start
count_at_start : (m n made : ℕ) → m ≤ n → (m < n → n ≡ made) → made < n → n ≡ m
count_at_start m n made least same below =
    elim (nat_lt m n) as (λ b. nat_lt m n ≡ b → n ≡ m) [
      | true ↦ λ is. let past : m < n = grind (arith, nat_tests, is) in let level =
          same past in absurd (omega (arith, level, below))
      | false ↦ λ is. grind (arith, nat_tests, is, least)
    ] refl

-- a commit that the tables have already is counted and changes nothing
counted : (start : Plain) (skips : List Skip) (base : Tables) (cs : Commits) (a : FoldState) (c : Committed) →
    start.before ≤ start.n → Counts start skips base cs a → a.made < a.n →
    Counts start skips base (and_then cs (c ∷ [])) (record a { made = a.made + 1 })
counted start skips base cs a c first k below =
    let long = length-append cs.made (c ∷ []) in
    let made = k.made in
    let before = k.before in
    let least = k.least in
    let same = k.same in
    let at_start : a.n ≡ start.n = count_at_start start.n a.n a.made least same below in
    let few : length cs.made + 1 ≤ start.n - cs.before = omega (arith, at_start, made, before, first, below) in
    record {
      before = k.before;
      made = omega (arith, made, long);
      least = k.least;
      most = omega (arith, below);
      same = λ past. absurd (omega (arith, past, at_start));
      walked = ap (λ ds. walk skips start.n start.scn base ds)
          (drop_past (start.n - cs.before) (cs.made ++ c ∷ []) (omega (arith, few, long)) ∙
          sym (drop_past (start.n - cs.before) cs.made (omega (arith, few))))
          ∙ k.walked;
    }

next_walk : (start : Plain) (skips : List Skip) (base : Tables) (cs : Commits) (a : FoldState) (c : Committed) →
    Counts start skips base cs a → a.made ≡ a.n →
    goes start skips base (and_then cs (c ∷ [])) ≡ walk skips a.n a.scn a.tables (c ∷ [])
next_walk start skips base cs a c k level =
    let made = k.made in
    let before = k.before in
    let least = k.least in
    let inside : start.n - cs.before ≤ length cs.made = omega (arith, made, level, least, before) in
    ap (λ ds. walk skips start.n start.scn base ds) (drop_front (start.n - cs.before) cs.made (c ∷ []) inside)
    ∙ walk-snoc skips start.n start.scn base (drop (start.n - cs.before) cs.made) c
    ∙ ap (λ w. walk_from w.stop skips c w) k.walked

-- the next commit is applied, or ends the fold
taken : (start : Plain) (skips : List Skip) (base : Tables) (cs : Commits) (a : FoldState) (c : Committed) →
    Counts start skips base cs a → a.made ≡ a.n →
    (o : Option Verdict) → halted c.scn (commit_effect skips a.n a.tables c) ≡ o →
    Holds start skips base (and_then cs (c ∷ [])) (progress_or_end o c.scn
    (tables_or a.tables (commit_effect skips a.n a.tables c)) a)
taken start skips base cs a c k level (Some v) is =
    let made = k.made in
    let least = k.least in
    let long = length-append cs.made (c ∷ []) in
    record {
      before = k.before;
      past = omega (arith, made, level, least, long);
      walked = next_walk start skips base cs a c k level ∙
          ap (λ p. walked_or p a.n a.scn a.tables (came (a.n + 1) c.scn
          (tables_or a.tables (commit_effect skips a.n a.tables c)) None)) is;
    }
taken start skips base cs a c k level None is =
    let made = k.made in
    let least = k.least in
    let most = k.most in
    let long = length-append cs.made (c ∷ []) in
    record {
      before = k.before;
      made = omega (arith, made, long);
      least = omega (arith, least);
      most = omega (arith, most);
      same = λ past. ap (λ (m : ℕ). m + 1) (sym level);
      walked = next_walk start skips base cs a c k level ∙
          ap (λ p. walked_or p a.n a.scn a.tables (came (a.n + 1) c.scn
          (tables_or a.tables (commit_effect skips a.n a.tables c)) None)) is;
    }

-- a commit of these changes
commit_holds : (start : Plain) (skips : List Skip) (base : Tables) (cs : Commits) (a : FoldState) (c : Committed) →
    start.before ≤ start.n → Counts start skips base cs a →
    Holds start skips base (and_then cs (c ∷ [])) (progress_after_commit skips c.scn c.txn.survivors a)
commit_holds start skips base cs a c first k =
    let most = k.most in
    elim (nat_lt a.made a.n) as (λ b. nat_lt a.made a.n ≡ b → Holds start skips base (and_then cs (c ∷ []))
    (cond b (Going (record a { made = a.made + 1 })) (progress_after_effects c.scn (commit_effect skips a.n a.tables c) a))) [
      | true ↦ λ is. let below : a.made < a.n = grind (arith, nat_tests, is) in counted start skips base cs a c first k below
      | false ↦ λ is. let level : a.made ≡ a.n = grind (arith, nat_tests, is, most) in
          taken start skips base cs a c k level (halted c.scn (commit_effect skips a.n a.tables c)) refl
    ] refl

-- ---- vectors

abbrev pub IfGoing : Progress → (FoldState → Type 0) → Type 0
IfGoing (Going a) P = P a
IfGoing (Ended f) P = Unit {0}

going_same : (skips : List Skip) (scn : ℕ) (ps : List Placed) (a : FoldState) (P : Standing → OpenChanges → RowsById → Type 0) →
    P a.standing a.live a.waiting → IfGoing (progress_after_commit skips scn ps a) (λ b. P b.standing b.live b.waiting)
going_same skips scn ps a P p =
    elim (nat_lt a.made a.n) as (λ b. IfGoing (cond b (Going (record a { made = a.made + 1 }))
    (progress_after_effects scn (effects a.tables (kept_of skips (definitions_of a.tables) a.n ps)) a))
    (λ b. P b.standing b.live b.waiting)) [
      | true ↦ p
      | false ↦ by (halted scn (effects a.tables (kept_of skips (definitions_of a.tables) a.n ps)))
    ]
  where
    by : (o : Option Verdict) → IfGoing (progress_or_end o scn
        (tables_or a.tables (effects a.tables (kept_of skips (definitions_of a.tables) a.n ps))) a)
        (λ b. P b.standing b.live b.waiting)
    by None = p
    by (Some v) = tt

if_going : (p : Progress) (P Q : FoldState → Type 0) → ((a : FoldState) → P a → Q a) → IfGoing p P → IfGoing p Q
if_going (Going a) P Q more h = more a h
if_going (Ended f) P Q more h = tt

-- the open transactions of a fold that goes on, and what it has judged
pub record Tied (last s : Standing) (hist : History) (standing : Standing) (live : OpenChanges) : Type 0 where
  pub judged : standing ≡ last
  pub opens : Opens s live
  pub lives : Lives hist.active live

pub record Within (start : Plain) (skips : List Skip) (base : Tables) (last s : Standing) (hist : History)
    (p : Progress) : Type 0 where
  pub holds : Holds start skips base hist.commits p
  pub tied : IfGoing p (λ a. Tied last s hist a.standing a.live)

vector_holds : (start : Plain) (skips : List Skip) (base : Tables) (last : Standing) (h : Header) (vec : ℕ) (v : Vector)
    (s : Standing) (hist : History) (p : Progress) →
    start.before ≤ start.n → vector_fault h s v ≡ None → Within start skips base last s hist p →
    Within start skips base last (standing_after vec v s) (history_vector s.scn (record { rec = s.rec; vec = vec }) v hist)
    (progress_after_vector skips s.scn (record { rec = s.rec; vec = vec }) v p)
vector_holds start skips base last h vec v s hist (Ended f) first fits w = record { holds = by v; tied = tt }
  where
    by : (v : Vector) → Halts start skips base (history_vector s.scn (record { rec = s.rec; vec = vec }) v hist).commits f
    by (Start x) = w.holds
    by (OfChange c) = w.holds
    by (Undo x) = w.holds
    by (Commit x) = halts_on start skips base hist.commits f _ w.holds
    by (Rollback x) = w.holds
    by (Table t) = w.holds
    by DictEnd = w.holds
vector_holds start skips base last h vec v s hist (Going a) first fits w =
    let at : Pos = record { rec = s.rec; vec = vec } in
    let opens = opens_after vec at v s a.live w.tied.opens in
    let lives = lives_after h s.scn at v s hist a.live w.tied.opens fits w.tied.lives in
    let tied : Tied last (standing_after vec v s) (history_vector s.scn at v hist) a.standing (live_after at v a.live) =
    record { judged = w.tied.judged; opens = opens; lives = lives } in
    by v tied
  where
    by : (v : Vector) → Tied last (standing_after vec v s) (history_vector s.scn (record { rec = s.rec; vec = vec }) v hist)
        a.standing (live_after (record { rec = s.rec; vec = vec }) v a.live) →
        Within start skips base last (standing_after vec v s) (history_vector s.scn (record { rec = s.rec; vec = vec }) v hist)
        (progress_after_vector skips s.scn (record { rec = s.rec; vec = vec }) v (Going a))
    by (Start x) t = record {
      holds = record {
        before = w.holds.before;
        made = w.holds.made;
        least = w.holds.least;
        most = w.holds.most;
        same = w.holds.same;
        walked = w.holds.walked;
      };
      tied = t;
    }
    by (OfChange c) t = record {
      holds = record {
        before = w.holds.before;
        made = w.holds.made;
        least = w.holds.least;
        most = w.holds.most;
        same = w.holds.same;
        walked = w.holds.walked;
      };
      tied = t;
    }
    by (Undo x) t = record {
      holds = record {
        before = w.holds.before;
        made = w.holds.made;
        least = w.holds.least;
        most = w.holds.most;
        same = w.holds.same;
        walked = w.holds.walked;
      };
      tied = t;
    }
    by (Rollback x) t = record {
      holds = record {
        before = w.holds.before;
        made = w.holds.made;
        least = w.holds.least;
        most = w.holds.most;
        same = w.holds.same;
        walked = w.holds.walked;
      };
      tied = t;
    }
    by (Table u) t = record { holds = w.holds; tied = t }
    by DictEnd t = record { holds = w.holds; tied = t }
    by (Commit x) t =
        let at : Pos = record { rec = s.rec; vec = vec } in
        let ends = commit_ends at x hist.active a.live w.tied.lives in
        let c : Committed = record { txn = ends.txn; at = at; scn = s.scn } in
        let b : FoldState = record a { live = live_after at (Commit x) a.live } in
        let kept : Counts start skips base hist.commits b =
        record {
          before = w.holds.before;
          made = w.holds.made;
          least = w.holds.least;
          most = w.holds.most;
          same = w.holds.same;
          walked = w.holds.walked;
        } in
        let one : Holds start skips base (and_then hist.commits (c ∷ [])) (progress_after_commit skips s.scn ends.txn.survivors b)
        = commit_holds start skips base hist.commits b c first kept in
        record {
          holds = subst (λ (ps : List Placed). Holds start skips base (history_vector s.scn at (Commit x) hist).commits
              (progress_after_commit skips s.scn ps b)) ends.survivors
              (subst (λ (ts : List Txn). Holds start skips base (with_commits_at at s.scn ts hist.commits)
              (progress_after_commit skips s.scn ends.txn.survivors b)) (sym ends.is) one);
          tied = going_same skips s.scn (unwrap_or (changes_of x a.live) []) b
              (λ standing live waiting. Tied last (standing_after vec (Commit x) s) (history_vector s.scn at (Commit x) hist)
              standing live) t;
        }

pub ended_vectors : (skips : List Skip) (scn rec vec : ℕ) (vs : List Vector) (f : Folded) →
    progress_after_vectors skips scn rec vec vs (Ended f) ≡ Ended f
ended_vectors skips scn rec vec [] f = refl
ended_vectors skips scn rec vec (v ∷ vs) f = ended_vectors skips scn rec (vec + 1) vs f

vectors_hold : (start : Plain) (skips : List Skip) (base : Tables) (last : Standing) (h : Header) (vec : ℕ) (vs : List Vector)
    (s : Standing) (hist : History) (p : Progress) →
    start.before ≤ start.n → vectors_fault h vec vs s ≡ None → Within start skips base last s hist p →
    Within start skips base last (standing_after_all vec vs s) (history_vectors s.scn s.rec vec vs hist)
    (progress_after_vectors skips s.scn s.rec vec vs p)
vectors_hold start skips base last h vec [] s hist p first fits w = w
vectors_hold start skips base last h vec (v ∷ vs) s hist p first fits w =
    let at : Pos = record { rec = s.rec; vec = vec } in
    vectors_hold start skips base last h (vec + 1) vs (standing_after vec v s) (history_vector s.scn at v hist)
    (progress_after_vector skips s.scn at v p) first (none_second (vector_fault h s v) _ fits)
    (vector_holds start skips base last h vec v s hist p first (none_first (vector_fault h s v) _ fits) w)

-- ---- names

-- the definitions that name tables where it ends here
abbrev pub names_of : Progress → List TableRow
names_of (Going a) = a.standing.dictionary.tables
names_of (Ended f) = f.names

names_committed : (skips : List Skip) (scn : ℕ) (ps : List Placed) (a : FoldState) →
    names_of (progress_after_commit skips scn ps a) ≡ a.standing.dictionary.tables
names_committed skips scn ps a =
    elim (nat_lt a.made a.n) as (λ b. names_of (cond b (Going (record a { made = a.made + 1 }))
    (progress_after_effects scn (effects a.tables (kept_of skips (definitions_of a.tables) a.n ps)) a)) ≡
    a.standing.dictionary.tables) [
      | true ↦ refl
      | false ↦ by (halted scn (effects a.tables (kept_of skips (definitions_of a.tables) a.n ps)))
    ]
  where
    by : (o : Option Verdict) → names_of (progress_or_end o scn
        (tables_or a.tables (effects a.tables (kept_of skips (definitions_of a.tables) a.n ps))) a) ≡ a.standing.dictionary.tables
    by None = refl
    by (Some v) = refl

names_vector : (skips : List Skip) (scn : ℕ) (at : Pos) (v : Vector) (p : Progress) →
    names_of (progress_after_vector skips scn at v p) ≡ names_of p
names_vector skips scn at v (Ended f) = refl
names_vector skips scn at v (Going a) = by (commit_of v a.live)
  where
    by : (o : Option (List Placed)) → names_of (progress_with_commit skips scn o (record a { live = live_after at v a.live })) ≡
        a.standing.dictionary.tables
    by None = refl
    by (Some ps) = names_committed skips scn ps (record a { live = live_after at v a.live })

-- within a record nothing changes them
names_vectors : (skips : List Skip) (scn rec vec : ℕ) (vs : List Vector) (p : Progress) →
    names_of (progress_after_vectors skips scn rec vec vs p) ≡ names_of p
names_vectors skips scn rec vec [] p = refl
names_vectors skips scn rec vec (v ∷ vs) p =
    let at : Pos = record { rec = rec; vec = vec } in
    names_vectors skips scn rec (vec + 1) vs (progress_after_vector skips scn at v p) ∙ names_vector skips scn at v p

-- ---- records

-- the tables of the start, by this dictionary
abbrev pub base_at : Plain → Standing → Tables
base_at start s = tables_shown s.dictionary.finished s.dictionary.tables start.tables

-- before the dictionary is whole nothing was committed
abbrev pub Early : Standing → History → Type 0
Early s hist = s.dictionary.finished ≡ false → hist.commits.made ≡ []

-- the rows of the start wait for it
abbrev pub Waits : Plain → Standing → RowsById → Type 0
Waits start s rows = s.dictionary.finished ≡ false → rows ≡ start.tables

early_vector : (h : Header) (vec : ℕ) (v : Vector) (s : Standing) (hist : History) → vector_fault h s v ≡ None → Early s hist →
    Early (standing_after vec v s) (history_vector s.scn (record { rec = s.rec; vec = vec }) v hist)
early_vector h vec (Start x) s hist fits e = e
early_vector h vec (OfChange c) s hist fits e = e
early_vector h vec (Undo x) s hist fits e = e
early_vector h vec (Commit x) s hist fits e = λ part. both s.dictionary.finished
    (is_whole s.dictionary.finished _ (no_fault _ _ (none_first (dictionary_fault h s (Commit x)) _ fits))) part
early_vector h vec (Rollback x) s hist fits e = e
early_vector h vec (Table t) s hist fits e = e
early_vector h vec DictEnd s hist fits e = λ part. absurd (cc)

early_vectors : (h : Header) (vec : ℕ) (vs : List Vector) (s : Standing) (hist : History) →
    vectors_fault h vec vs s ≡ None → Early s hist →
    Early (standing_after_all vec vs s) (history_vectors s.scn s.rec vec vs hist)
early_vectors h vec [] s hist fits e = e
early_vectors h vec (v ∷ vs) s hist fits e =
    early_vectors h (vec + 1) vs (standing_after vec v s) _ (none_second (vector_fault h s v) _ fits)
    (early_vector h vec v s hist (none_first (vector_fault h s v) _ fits) e)

-- within a record neither what is judged changes, nor what waits
waits_vector : (skips : List Skip) (scn : ℕ) (at : Pos) (v : Vector) (p : Progress) (P : Standing → RowsById → Type 0) →
    IfGoing p (λ a. P a.standing a.waiting) → IfGoing (progress_after_vector skips scn at v p) (λ b. P b.standing b.waiting)
waits_vector skips scn at v (Ended f) P h = tt
waits_vector skips scn at v (Going a) P h = by (commit_of v a.live)
  where
    by : (o : Option (List Placed)) → IfGoing (progress_with_commit skips scn o (record a { live = live_after at v a.live }))
        (λ b. P b.standing b.waiting)
    by None = h
    by (Some ps) = going_same skips scn ps (record a { live = live_after at v a.live })
        (λ standing live waiting. P standing waiting) h

pub waits_vectors : (skips : List Skip) (scn rec vec : ℕ) (vs : List Vector) (p : Progress) (P : Standing → RowsById → Type 0) →
    IfGoing p (λ a. P a.standing a.waiting) → IfGoing (progress_after_vectors skips scn rec vec vs p)
    (λ b. P b.standing b.waiting)
waits_vectors skips scn rec vec [] p P h = h
waits_vectors skips scn rec vec (v ∷ vs) p P h =
    let at : Pos = record { rec = rec; vec = vec } in
    waits_vectors skips scn rec (vec + 1) vs (progress_after_vector skips scn at v p) P (waits_vector skips scn at v p P h)

-- a dictionary that is not whole was not whole before
part_before : (e : Entry) (s : Standing) → record_fault s e ≡ None → (record_after e s).dictionary.finished ≡ false →
    s.dictionary.finished ≡ false
part_before e s fits part =
    elim s.dictionary.finished as (λ b. s.dictionary.finished ≡ b → b ≡ false) [
      | true ↦ λ whole. sym (ap (λ (d : Dictionary). d.finished) (record_keeps e s fits whole) ∙ whole) ∙ part
      | false ↦ λ is. refl
    ] refl

-- after one more record the rows of the start wait as long as they have to
pub waits_record : (start : Plain) (skips : List Skip) (e : Entry) (a : FoldState) → record_fault a.standing e ≡ None →
    Waits start a.standing a.waiting →
    IfGoing (progress_after_record skips e (Going a)) (λ b. (b.standing ≡ record_after e a.standing) ×
    Waits start b.standing b.waiting)
waits_record start skips (h, r) a fits waits =
    let last = record_after (h, r) a.standing in
    let P : Standing → RowsById → Type 0 = λ s rows. (s ≡ last) × Waits start s rows in
    let begins : Waits start last (waiting_until last.dictionary.finished a.waiting) =
    λ part. ap (λ b. waiting_until b a.waiting) part ∙ waits (part_before (h, r) a.standing fits part) in
    subst (λ (o : Option LawFault). IfGoing (progress_unless_bad o skips (h, r) a) (λ b. P b.standing b.waiting)) (sym fits)
    (waits_vectors skips r.scn (a.standing.rec + 1) 1 r.vectors (Going (state_at_record (h, r) a)) P (refl, begins))

pub record Between (start : Plain) (skips : List Skip) (s : Standing) (hist : History) (p : Progress) : Type 0 where
  pub within : Within start skips (base_at start s) s s hist p
  pub early : Early s hist
  pub waits : IfGoing p (λ a. Waits start a.standing a.waiting)
  pub named : names_of p ≡ s.dictionary.tables

-- a walk over no commits stands where it began
stands : (start : Plain) (skips : List Skip) (base : Tables) (cs : Commits) → cs.made ≡ [] →
    goes start skips base cs ≡ came start.n start.scn base None
stands start skips base cs none = ap (λ ds. walk skips start.n start.scn base (drop (start.n - cs.before) ds)) none ∙
    ap (λ ds. walk skips start.n start.scn base ds) (drop_past (start.n - cs.before) [] (omega arith))

no_end : (start : Plain) (skips : List Skip) (base : Tables) (cs : Commits) (v : Verdict) → cs.made ≡ [] →
    (goes start skips base cs).stop ≡ Some v → (P : Type 0) → P
no_end start skips base cs v none ends P = let gone : None ≡ Some v =
    sym (ap (λ w. w.stop) (stands start skips base cs none)) ∙ ends in absurd (cc)

-- the dictionary of a fold that has ended with a commit is whole
ended_whole : (start : Plain) (skips : List Skip) (s : Standing) (hist : History) (f : Folded) → Early s hist →
    Halts start skips (base_at start s) hist.commits f → s.dictionary.finished ≡ true
ended_whole start skips s hist f early h =
    elim s.dictionary.finished as (λ b. s.dictionary.finished ≡ b → b ≡ true) [
      | true ↦ λ whole. refl
      | false ↦ λ part. no_end start skips (base_at start s) hist.commits f.verdict (early part) (ap (λ w. w.stop) h.walked) _
    ] refl

-- as an admitted record begins, its dictionary is the one by which the base has its tables
rebased : (start : Plain) (skips : List Skip) (e : Entry) (a : FoldState) (hist : History) → record_fault a.standing e ≡ None →
    Early a.standing hist → Waits start a.standing a.waiting →
    Counts start skips (base_at start a.standing) hist.commits a →
    Counts start skips (base_at start (record_after e a.standing)) hist.commits (state_at_record e a)
rebased start skips e a hist fits early waits k =
    elim a.standing.dictionary.finished as (λ b. a.standing.dictionary.finished ≡ b →
    Counts start skips (base_at start (record_after e a.standing)) hist.commits
    (record a {
      standing = record_after e a.standing;
      waiting = waiting_until (record_after e a.standing).dictionary.finished a.waiting;
      tables = tables_then b a.waiting a.tables (record_after e a.standing);
    })) [
      | true ↦ λ whole.
          let same = record_keeps e a.standing fits whole in
          record {
            before = k.before;
            made = k.made;
            least = k.least;
            most = k.most;
            same = k.same;
            walked = ap (λ d. goes start skips (tables_shown d.finished d.tables start.tables) hist.commits) same ∙ k.walked;
          }
      | false ↦ λ part.
          let s = record_after e a.standing in
          let base : base_at start s ≡ tables_shown s.dictionary.finished s.dictionary.tables a.waiting =
          ap (λ rows. tables_shown s.dictionary.finished s.dictionary.tables rows) (sym (waits part)) in
          let was = sym (stands start skips (base_at start a.standing) hist.commits (early part)) ∙ k.walked in
          record {
            before = k.before;
            made = k.made;
            least = k.least;
            most = k.most;
            same = k.same;
            walked = stands start skips (base_at start s) hist.commits (early part) ∙
                (λ i. came (was i).n (was i).scn (base i) None);
          }
    ] refl

-- a fold that has ended keeps its base
base_stays : (start : Plain) (skips : List Skip) (e : Entry) (s : Standing) (hist : History) (f : Folded) →
    record_fault s e ≡ None → Early s hist →
    Halts start skips (base_at start s) hist.commits f → Halts start skips (base_at start (record_after e s)) hist.commits f
base_stays start skips e s hist f fits early h =
    let same = record_keeps e s fits (ended_whole start skips s hist f early h) in
    record {
      before = h.before;
      past = h.past;
      walked = ap
          (λ d. goes start skips (tables_shown d.finished d.tables start.tables) hist.commits) same ∙ h.walked;
    }

record_holds : (start : Plain) (skips : List Skip) (e : Entry) (s : Standing) (hist : History) (p : Progress) →
    start.before ≤ start.n → record_fault s e ≡ None → Between start skips s hist p →
    Between start skips (record_after e s) (history_after (s.rec + 1) e hist) (progress_after_record skips e p)
record_holds start skips (h, r) s hist (Ended f) first fits b =
    let of_vectors = none_second (whole_fault s (h, r)) _ fits in
    let begins : Within start skips (base_at start (record_after (h, r) s)) (record_after (h, r) s) (entered_standing (h, r) s)
    hist (Ended f) =
    record { holds = base_stays start skips (h, r) s hist f fits b.early b.within.holds; tied = tt } in
    record {
      within = subst (λ (q : Progress). Within start skips (base_at start (record_after (h, r) s)) (record_after (h, r) s)
          (record_after (h, r) s) (history_after (s.rec + 1) (h, r) hist) q)
          (ended_vectors skips r.scn (s.rec + 1) 1 r.vectors f)
          (vectors_hold start skips (base_at start (record_after (h, r) s)) (record_after (h, r) s) h 1 r.vectors
          (entered_standing (h, r) s) hist (Ended f) first of_vectors begins);
      early = early_vectors h 1 r.vectors (entered_standing (h, r) s) hist of_vectors b.early;
      waits = tt;
      named = b.named ∙ ap (λ (d : Dictionary). d.tables)
          (sym (record_keeps (h, r) s fits (ended_whole start skips s hist f b.early b.within.holds)));
    }
record_holds start skips (h, r) s hist (Going a) first fits b =
    let P : Standing → Type 0 = λ t. record_fault t (h, r) ≡ None →
    Within start skips (base_at start t) a.standing t hist (Going a) → Early t hist → Waits start a.standing a.waiting →
    Between start skips (record_after (h, r) t) (history_after (t.rec + 1) (h, r) hist)
    (progress_after_record skips (h, r) (Going a)) in
    let at_own : P a.standing = λ own w early waits.
    let of_vectors = none_second (whole_fault a.standing (h, r)) _ own in
    let last = record_after (h, r) a.standing in
    let begins : Within start skips (base_at start last) last (entered_standing (h, r) a.standing) hist
    (Going (state_at_record (h, r) a)) = record {
      holds = rebased start skips (h, r) a hist own early waits w.holds;
      tied = record {
        judged = refl;
        opens = record { rising = w.tied.opens.rising; alike = w.tied.opens.alike };
        lives = w.tied.lives;
      };
    } in
    let ends = vectors_hold start skips (base_at start last) last h 1 r.vectors (entered_standing (h, r) a.standing) hist
    (Going (state_at_record (h, r) a)) first of_vectors begins in
    record {
      within = subst (λ (o : Option LawFault). Within start skips (base_at start last) last last
          (history_after (a.standing.rec + 1) (h, r) hist) (progress_unless_bad o skips (h, r) a)) (sym own) ends;
      early = early_vectors h 1 r.vectors (entered_standing (h, r) a.standing) hist of_vectors early;
      waits = if_going (progress_after_record skips (h, r) (Going a)) _ (λ b. Waits start b.standing b.waiting) (λ b both. both.1)
          (waits_record start skips (h, r) a own waits);
      named = ap (λ o. names_of (progress_unless_bad o skips (h, r) a)) own ∙
          names_vectors skips r.scn (a.standing.rec + 1) 1 r.vectors (Going (state_at_record (h, r) a));
    } in
    let tied = b.within.tied in
    subst P tied.judged at_own fits
    (record { holds = b.within.holds; tied = record { judged = refl; opens = tied.opens; lives = tied.lives } }) b.early b.waits

-- ---- the end

folds_end : (start : Plain) (skips : List Skip) (base : Tables) (cs : Commits) (stop : Stop) (names : List TableRow)
    (p : Progress) → names_of p ≡ names → Holds start skips base cs p →
    end_of stop p ≡ seen names stop (goes start skips base cs)
folds_end start skips base cs stop names (Going a) named h = λ i. seen (named i) stop (sym h.walked i)
folds_end start skips base cs stop names (Ended f) named h = λ i. seen (named i) stop (sym h.walked i)

first_before : (start : Plain) (skips : List Skip) (base : Tables) (cs : Commits) (p : Progress) → start.before ≤ start.n →
    Holds start skips base cs p → cs.before ≤ start.n
first_before start skips base cs (Going a) first h = let before = h.before in omega (arith, before, first)
first_before start skips base cs (Ended f) first h = let before = h.before in omega (arith, before, first)

-- the fold of these commits is the walk over them
fold_goes : (start : Plain) (skips : List Skip) (s : Standing) (cs : Commits) (stop : Stop) (names : List TableRow) →
    cs.before ≤ start.n →
    named_by names (folded (base_of start s) skips cs stop) ≡ seen names stop (goes start skips (base_at start s) cs)
fold_goes start skips s cs stop names first =
    let b = base_of start s in
    let here : start.n - start.n ≡ 0 = omega arith in
    let level : (start.n == start.n) ≡ true = grind (arith, nat_tests) in
    ap (named_by names) (walk_is_fold b skips cs stop refl first (commits_after cs start.n) start.n start.scn (base_at start s)
    (omega arith) refl
    (ap (λ (m : ℕ). commit_effects skips start.n (base_at start s) (take m (commits_after cs start.n))) here)
    (ap (λ e. cond e start.scn (option_map_or (λ d. d.scn) (slice_get cs.made (start.n - (cs.before + 1))) start.scn)) level))

ended_stays : (skips : List Skip) (es : List Entry) (f : Folded) → progress_after_records skips es (Ended f) ≡ Ended f
ended_stays skips [] f = refl
ended_stays skips (e ∷ es) f = ended_stays skips es f

folds : (start : Plain) (skips : List Skip) (stop : Stop) (es : List Entry) (s : Standing) (hist : History) (p : Progress) →
    start.before ≤ start.n → Between start skips s hist p →
    end_of stop (progress_after_records skips es p) ≡ fold_admitted start skips stop (admission s hist es)
folds start skips stop [] s hist p first b =
    folds_end start skips (base_at start s) hist.commits stop s.dictionary.tables p b.named b.within.holds
    ∙ sym (fold_goes start skips s hist.commits stop s.dictionary.tables
    (first_before start skips (base_at start s) hist.commits p first b.within.holds))
folds start skips stop (e ∷ es) s hist p first b =
    elim (record_fault s e) as (λ o. record_fault s e ≡ o →
    end_of stop (progress_after_records skips es (progress_after_record skips e p))
    ≡ fold_admitted start skips stop (admitted_or o (dictionary_left s e) s hist
    (admission (record_after e s) (history_after (s.rec + 1) e hist) es))) [
      | None ↦ λ fits. folds start skips stop es (record_after e s) (history_after (s.rec + 1) e hist)
          (progress_after_record skips e p) first (record_holds start skips e s hist p first fits b)
      | Some fault ↦ λ is.
          let bad : Stop = Malformed (s.rec + 1) (causes.Law fault) in
          ends_bad start skips stop e es s hist fault p b is
          ∙ sym (fold_goes start skips s hist.commits bad (dictionary_left s e).tables
          (first_before start skips (base_at start s) hist.commits p first b.within.holds))
    ] refl
  where
    ends_bad : (start : Plain) (skips : List Skip) (stop : Stop) (e : Entry) (es : List Entry) (s : Standing) (hist : History)
        (fault : LawFault) (p : Progress) → Between start skips s hist p → record_fault s e ≡ Some fault →
        end_of stop (progress_after_records skips es (progress_after_record skips e p)) ≡
        seen (dictionary_left s e).tables (Malformed (s.rec + 1) (causes.Law fault))
        (goes start skips (base_at start s) hist.commits)
    ends_bad start skips stop e es s hist fault (Ended f) b is =
        let bad : Stop = Malformed (s.rec + 1) (causes.Law fault) in
        let same = left_same e s (ended_whole start skips s hist f b.early b.within.holds) in
        ap (end_of stop) (ended_stays skips es f)
        ∙ folds_end start skips (base_at start s) hist.commits bad (dictionary_left s e).tables (Ended f)
        (b.named ∙ ap (λ (d : Dictionary). d.tables) (sym same)) b.within.holds
    ends_bad start skips stop e es s hist fault (Going a) b is =
        let same = b.within.tied.judged in
        ap (λ o. end_of stop (progress_after_records skips es (progress_unless_bad o skips e a)))
        (ap (λ t. record_fault t e) same ∙ is)
        ∙ ap (end_of stop) (ended_stays skips es (ends_at a.standing))
        ∙ ap ends_at same
        ∙ ap (seen (dictionary_left s e).tables (Malformed (s.rec + 1) (causes.Law fault))) (sym b.within.holds.walked)
      where
        ends_at : Standing → Folded
        ends_at t = named_by (dictionary_left t e).tables (held_at a (Stopped (Malformed (t.rec + 1) (causes.Law fault))))

-- The progress of a fold after any records is the fold of them.
pub progress_folds : (start : Plain) (skips : List Skip) (entries : List Entry) (stop : Stop) → start.before ≤ start.n →
    end_of stop (progress_after start skips entries) ≡ fold_from start skips entries stop
progress_folds start skips entries stop first =
    folds start skips stop entries (standing_of start.law) (no_history start.before) (first_progress start) first (record {
      within = record {
        holds = record {
          before = refl;
          made = omega arith;
          least = omega arith;
          most = first;
          same = λ past. absurd (omega (arith, past));
          walked = stands start skips (base_at start (standing_of start.law)) (record { before = start.before; made = [] }) refl;
        };
        tied = record {
          judged = refl;
          opens = record { rising = nothing_rises; alike = λ y. refl };
          lives = record { of = λ y. refl };
        };
      };
      early = λ part. refl;
      waits = λ part. ap (λ b. waiting_until b start.tables) part;
      named = refl;
    })
