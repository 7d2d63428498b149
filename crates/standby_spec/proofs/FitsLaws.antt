-- Laws of what fits: a mark that is kept, the guard, and the end of a run.
use Rattle.std.proofs.Common.{◌≡◌, ℕ, ◌+◌, ◌-◌, ◌≤◌, ◌<◌, List, [], ◌∷◌, take, Bool, true, false, Option, Some, None, Ok, refl, sym, ap, ◌∙◌, subst, arith}
use Rattle.std.specs.Prelude.{IfSome, ◌==◌, nat_le, nat_lt, if◌then◌else◌, unwrap_or, slice_get}
use Rattle.std.specs.List.{find, AllByRecursion}
use Rattle.std.specs.Option.{option_map_or}
use Rattle.std.proofs.lemmas.Bool.Decides.{nat_tests}
use Rattle.rl_value.specs.declared.verdict.Verdict.TheVariants.{RowLimit}
use Rattle.rl_value.specs.Outcome.{map_ok}
use Rattle.redo_spec.specs.Dictionary.{ids_rise}
use Rattle.redo_spec.specs.History.{commits_after, commit_count}
use Rattle.redo_spec.specs.Skips.{Skip, is_maintained}
use Rattle.redo_spec.specs.Tables.{Table, Tables, row_count, definitions_of}
use Rattle.redo_spec.specs.Fold.{Base, commit_effects, tables_at, scn_at, live_row_limit, visible_tables, stop_of_commit, stop_at}
use Rattle.redo_spec.proofs.ListLaws.{all_weaker}
use Rattle.redo_spec.proofs.MarkLaws.{fits_at_more}
use Rattle.skip_guard.specs.declared.guard.Level.{Level}
use Rattle.standby_spec.specs.declared.mark.Mark.{Mark}
use Rattle.standby_spec.specs.KeptState.{KeptState, base_of}
use Rattle.standby_spec.specs.StandbyRedo.{Archived, redo_entries, commits_of}
use Rattle.standby_spec.specs.Checkpoint.{IsMarkOf}
use Rattle.standby_spec.specs.Writings.{state_after, KeepMark, SetLevel}
use Rattle.standby_spec.specs.Fits.{Fits}
use Rattle.standby_spec.proofs.PublishLaws.{row-counted}
use Rattle.standby_spec.proofs.StoreLaws.{and-left, and-right}

-- a mark that is right is so at each greater count
pub mark-at-more : (logs : Archived) (s : KeptState) (n k : ℕ) (m : Mark) → IsMarkOf logs s n m → n ≤ k → IsMarkOf logs s k m
mark-at-more logs s n k m is le = record {
  fits = fits_at_more s.first s.base (redo_entries logs s) m.q m.m n k is.fits le;
  before = is.before;
  place = is.place;
  q_scn = is.q_scn;
  m_scn = is.m_scn;
  commit_scn = is.commit_scn;
}

pub kept-mark-fits : (b : Base) (logs : Archived) (begun : ℕ) (s : KeptState) (m : Mark) → Fits b logs begun s →
    IsMarkOf logs s m.n m → m.n ≤ s.n → Fits b logs begun (state_after (KeepMark m) s)
kept-mark-fits b logs begun s m f is le =
    let right = mark-at-more logs s m.n s.n m is le in
    record {
      base = f.base;
      run = f.run;
      shows = f.shows;
      applied = f.applied;
      mark = record {
        fits = right.fits;
        before = right.before;
        place = right.place;
        q_scn = right.q_scn;
        m_scn = right.m_scn;
        commit_scn = right.commit_scn;
      };
      skips = f.skips;
    }

-- a state that differs in nothing of which a mark speaks
mark-of-same : (logs : Archived) (s : KeptState) (level : Level) (n : ℕ) (m : Option Mark) → IfSome m (IsMarkOf logs s n) →
    IfSome m (IsMarkOf logs (state_after (SetLevel level) s) n)
mark-of-same logs s level n None is = tt
mark-of-same logs s level n (Some k) is = record {
  fits = is.fits;
  before = is.before;
  place = is.place;
  q_scn = is.q_scn;
  m_scn = is.m_scn;
  commit_scn = is.commit_scn;
}

pub level-fits : (b : Base) (logs : Archived) (begun : ℕ) (s : KeptState) (level : Level) → Fits b logs begun s →
    Fits b logs begun (state_after (SetLevel level) s)
level-fits b logs begun s level f = record {
  base = f.base;
  run = f.run;
  shows = f.shows;
  applied = f.applied;
  mark = mark-of-same logs s level s.n s.mark f.mark;
  skips = f.skips;
}

-- between runs a state begins at its own count
pub still-fits : (b : Base) (logs : Archived) (begun : ℕ) (s : KeptState) → Fits b logs begun s → Fits b logs s.n s
still-fits b logs begun s f =
    let first = f.base in
    let run = f.run in
    record {
      base = omega (arith, first, run);
      run = omega arith;
      shows = f.shows;
      applied = λ i from to. f.applied i (omega (arith, run, from)) to;
      mark = f.mark;
      skips = all_weaker (λ k. k.from ≤ begun) (λ k. k.from ≤ s.n) (λ k le. omega (arith, le, run)) s.skips f.skips;
    }

-- ---- a state over itself

-- a table is found by its id among tables whose ids rise
rise-least : (least : ℕ) (t : Table) (ts : Tables) → ids_rise least (definitions_of (t ∷ ts)) ≡ true → least ≤ t.row.id
rise-least least t ts rise =
    let here : nat_le least t.row.id ≡ true = and-left (nat_le least t.row.id)
    (ids_rise (t.row.id + 1) (definitions_of ts)) rise in
    grind (arith, nat_tests)

rise-rest : (least : ℕ) (t : Table) (ts : Tables) → ids_rise least (definitions_of (t ∷ ts)) ≡ true →
    ids_rise (t.row.id + 1) (definitions_of ts) ≡ true
rise-rest least t ts rise = and-right (nat_le least t.row.id) (ids_rise (t.row.id + 1) (definitions_of ts)) rise

same_id : (n : ℕ) → (n == n) ≡ true
same_id n = grind (arith, nat_tests)

apart_id : (m n : ℕ) → m < n → (m == n) ≡ false
apart_id m n lt = grind (arith, nat_tests)

-- each table of these shows itself, where the local ones are these behind others of lesser ids
abbrev pub FindsItself : Tables → Table → Type 0
FindsItself all t = unwrap_or (find (λ u. u.row.id == t.row.id) all) t ≡ t

behind-one : (t : Table) (all ts : Tables) (least : ℕ) → t.row.id < least → ids_rise least (definitions_of ts) ≡ true →
    AllByRecursion (FindsItself all) ts →
    AllByRecursion (FindsItself (t ∷ all)) ts
behind-one t all [] least lt rise is = tt
behind-one t all (u ∷ us) least lt rise is =
    let low = rise-least least u us rise in (
      ap (λ b. unwrap_or (if b then Some t else find (λ x. x.row.id == u.row.id) all) u)
          (apart_id t.row.id u.row.id (omega (arith, low, lt))) ∙ is.0,
      behind-one t all us (u.row.id + 1) (omega (arith, low, lt)) (rise-rest least u us rise) is.1,
    )

pub finds-itself : (least : ℕ) (ts : Tables) → ids_rise least (definitions_of ts) ≡ true → AllByRecursion (FindsItself ts) ts
finds-itself least [] rise = tt
finds-itself least (t ∷ ts) rise = (
  ap (λ b. unwrap_or (if b then Some t else find (λ u. u.row.id == t.row.id) ts) t) (same_id t.row.id),
  behind-one t ts ts (t.row.id + 1) (omega arith) (rise-rest least t ts rise)
      (finds-itself (t.row.id + 1) ts (rise-rest least t ts rise)),
)

shows-itself : (skips : List Skip) (n : ℕ) (all : Tables) (t : Table) (b : Bool) → FindsItself all t →
    (if b then t else unwrap_or (find (λ u. u.row.id == t.row.id) all) t) ≡ t
shows-itself skips n all t true is = refl
shows-itself skips n all t false is = is

all-shown : (skips : List Skip) (n : ℕ) (all ts : Tables) → AllByRecursion (FindsItself all) ts →
    visible_tables skips n all ts ≡ ts
all-shown skips n all [] is = refl
all-shown skips n all (t ∷ ts) is =
    let here = shows-itself skips n all t (is_maintained skips n t.row) is.0 in
    let rest = all-shown skips n all ts is.1 in
    λ i. here i ∷ rest i

-- a commit that is not stopped leaves no more rows than the limit
pub few-rows : (scn : ℕ) (rows : ℕ) → (if nat_lt live_row_limit rows then Some (RowLimit scn) else None) ≡ None →
    nat_lt live_row_limit rows ≡ false
few-rows scn rows e = elim (nat_lt live_row_limit rows) as (λ b. (if b then Some (RowLimit scn) else None) ≡ None → b ≡ false) [
  | true ↦ λ given. absurd (cc)
  | false ↦ λ given. refl
] e

same-count : (m n : ℕ) → m ≤ n → n ≤ m → m ≡ n
same-count m n f g = omega (arith, f, g)

-- a state whose mark and rules are right at its count, and whose rows are few enough, fits over itself
pub own-fits : (logs : Archived) (s : KeptState) → s.n ≤ commit_count (commits_of logs s) →
    nat_lt live_row_limit (row_count s.tables) ≡ false → IfSome s.mark (IsMarkOf logs s s.n) →
    AllByRecursion (λ k. k.from ≤ s.n) s.skips → ids_rise 0 (definitions_of s.tables) ≡ true → Fits (base_of s) logs s.n s
own-fits logs s made few mark rules rise =
    let cs = commits_of logs s in
    let none : s.n - s.n ≡ 0 = omega arith in
    let at : tables_at (base_of s) s.skips cs s.n ≡ Ok s.tables =
    ap (λ k. commit_effects s.skips s.n s.tables (take k (commits_after cs s.n))) none in
    let shown : visible_tables s.skips s.n s.tables s.tables ≡ s.tables =
    all-shown s.skips s.n s.tables s.tables (finds-itself 0 s.tables rise) in
    let scn : scn_at (base_of s) cs s.n ≡ s.scn =
    ap (λ t. if t then s.scn else option_map_or (λ c. c.scn) (slice_get cs.made (s.n - (cs.before + 1))) s.scn) (same_id s.n) in
    let limit : stop_at (base_of s) s.skips cs s.n ≡ None =
    ap (λ r. stop_of_commit (scn_at (base_of s) cs s.n) (map_ok
    (λ tables. row_count (visible_tables s.skips s.n s.tables tables)) r)) at
    ∙ ap (λ ts. stop_of_commit (scn_at (base_of s) cs s.n) (Ok (row_count ts))) shown
    ∙ ap (λ t. if t then Some (RowLimit (scn_at (base_of s) cs s.n)) else None) few in
    record {
      base = omega arith;
      run = omega arith;
      shows = record {
        made = made;
        shown = ap (map_ok (visible_tables s.skips s.n s.tables)) at ∙ ap (λ ts. Ok ts) shown;
        scn = sym scn;
      };
      applied = λ i from to. subst (λ k. stop_at (base_of s) s.skips cs k ≡ None) (same-count s.n i from to) limit;
      mark = mark;
      skips = rules;
    }

pub itself-fits : (b : Base) (logs : Archived) (begun : ℕ) (s : KeptState) → Fits b logs begun s →
    ids_rise 0 (definitions_of s.tables) ≡ true →
    Fits (base_of s) logs s.n s
itself-fits b logs begun s f rise =
    let cs = commits_of logs s in
    let run = f.run in
    let before : stop_at b s.skips cs s.n ≡ None = f.applied s.n run (omega arith) in
    let few : nat_lt live_row_limit (row_count s.tables) ≡ false = few-rows (scn_at b cs s.n) (row_count s.tables)
    (sym (ap (stop_of_commit (scn_at b cs s.n)) (row-counted (visible_tables s.skips s.n b.local) s.tables
    (tables_at b s.skips cs s.n) f.shows.shown)) ∙ before) in
    own-fits logs s f.shows.made few f.mark
    (all_weaker (λ k. k.from ≤ begun) (λ k. k.from ≤ s.n) (λ k le. omega (arith, le, run)) s.skips f.skips) rise
