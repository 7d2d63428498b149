-- Laws of publishing: the next commit of the redo leaves a state that fits.
use Rattle.std.proofs.Common.{◌≡◌, ℕ, ◌+◌, ◌≤◌, List, [], ◌∷◌, sym, ap, ◌∙◌, refl, subst, Bool, true, false, cond, not, ◌||◌, ◌&&◌, ◌==◌, nat_le, Option, Some, None, Result, Ok, Err, IfOk, arith, length}
use Rattle.std.specs.Prelude.{if◌then◌else◌, IfSome, unwrap_or}
use Rattle.std.proofs.lemmas.Bool.Decides.{nat_tests}
use Rattle.std.specs.List.{list_any, list_all, find, AllByRecursion}
use Rattle.rl_value.specs.Outcome.{map_ok}
use Rattle.rl_value.specs.declared.verdict.Verdict.TheVariants.{RowLimit}
use Rattle.redo_vec.specs.declared.table.TableRow.{TableRow}
use Rattle.redo_spec.specs.History.{commit_count}
use Rattle.redo_spec.specs.Skips.{Skip, names_table, is_maintained}
use Rattle.redo_spec.specs.Tables.{Rows, Table, Tables, row_count}
use Rattle.redo_spec.specs.Work.{write_row}
use Rattle.redo_spec.specs.Fold.{Base, Missed, tables_at, scn_at, visible_table, visible_tables, stop_at, stop_of_commit}
use Rattle.redo_spec.proofs.MarkLaws.{fits_at_more}
use Rattle.row_apply.specs.declared.writes.Write.{Write}
use Rattle.row_apply.specs.Overlaid.{rows_after, table_after, overlaid}
use Rattle.standby_spec.specs.declared.mark.Mark.{Mark}
use Rattle.standby_spec.specs.KeptState.{KeptState}
use Rattle.standby_spec.specs.Checkpoint.{IsMarkOf}
use Rattle.standby_spec.specs.StandbyRedo.{Archived, redo_entries, commits_of}
use Rattle.standby_spec.specs.Writings.{state_after, state_after_all, Publish, writable}
use Rattle.standby_spec.specs.HasLayout.{AreWhole}
use Rattle.standby_spec.specs.Refusals.{passes_limit, front_of}
use Rattle.standby_spec.specs.NextCommit.{is_left, leave_local, IsNextCommit, AreNextCommits}
use Rattle.standby_spec.specs.Fits.{Fits}

-- ---- tests

or-left : (a b : Bool) → (a || b) ≡ false → a ≡ false
or-left false b e = refl
or-left true b e = absurd (cc)

or-right : (a b : Bool) → (a || b) ≡ false → b ≡ false
or-right false b e = e
or-right true b e = absurd (cc)

and-left : (a b : Bool) → (a && b) ≡ true → a ≡ true
and-left true b e = refl
and-left false b e = absurd (cc)

and-right : (a b : Bool) → (a && b) ≡ true → b ≡ true
and-right true b e = e
and-right false b e = absurd (cc)

not-true : (b : Bool) → not b ≡ true → b ≡ false
not-true false e = refl
not-true true e = absurd (cc)

same_nat : (a b : ℕ) → (a == b) ≡ true → a ≡ b
same_nat a b e = grind (arith, nat_tests)

-- ---- local rows stay

rows-left : (id : ℕ) (ws : List Write) (rows : Rows) → list_any (λ w. w.table == id) ws ≡ false → rows_after id ws rows ≡ rows
rows-left id [] rows e = refl
rows-left id (w ∷ ws) rows e =
    ap (λ t. rows_after id ws (if t then write_row rows w.key w.row else rows))
    (or-left (w.table == id) (list_any (λ v. v.table == id) ws) e)
    ∙ rows-left id ws rows (or-right (w.table == id) (list_any (λ v. v.table == id) ws) e)

table-left : (ws : List Write) (t : Table) → list_any (λ w. w.table == t.row.id) ws ≡ false → table_after ws t ≡ t
table-left ws t e = ap (λ rows. record t { rows = rows }) (rows-left t.row.id ws t.rows e)

picked : (ws : List Write) (t u : Table) (others : Option Table) → list_any (λ w. w.table == t.row.id) ws ≡ false → (x : Bool) →
    (u.row.id == t.row.id) ≡ x →
    unwrap_or others (table_after ws t) ≡ table_after ws (unwrap_or others t) →
    unwrap_or (cond x (Some u) others) (table_after ws t) ≡ table_after ws (unwrap_or (cond x (Some u) others) t)
picked ws t u others e true is rest = sym (table-left ws u
    (subst (λ id. list_any (λ w. w.table == id) ws ≡ false) (sym (same_nat u.row.id t.row.id is)) e))
picked ws t u others e false is rest = rest

local-left : (ws : List Write) (t : Table) (us : List Table) → list_any (λ w. w.table == t.row.id) ws ≡ false →
    unwrap_or (find (λ u. u.row.id == t.row.id) us) (table_after ws t) ≡
    table_after ws (unwrap_or (find (λ u. u.row.id == t.row.id) us) t)
local-left ws t [] e = refl
local-left ws t (u ∷ us) e = picked ws t u (find (λ v. v.row.id == t.row.id) us) e (u.row.id == t.row.id) refl
    (local-left ws t us e)

-- ---- what is visible

visible-or-left : (ws : List Write) (local : Tables) (t : Table) (x : Bool) → (x || is_left ws t.row) ≡ true →
    (if x then table_after ws t else unwrap_or (find (λ u. u.row.id == t.row.id) local) (table_after ws t))
    ≡ table_after ws (if x then t else unwrap_or (find (λ u. u.row.id == t.row.id) local) t)
visible-or-left ws local t true e = refl
visible-or-left ws local t false e = local-left ws t local (not-true (list_any (λ w. w.table == t.row.id) ws) e)

-- a rule that counts at a count does so at the next
both-count : (from n : ℕ) → from ≤ n → nat_le from (n + 1) ≡ nat_le from n
both-count from n le = let here : nat_le from n ≡ true = grind (arith, nat_tests) in let next : nat_le from (n + 1) ≡ true =
    grind (arith, nat_tests) in next ∙ sym here

names-same : (skips : List Skip) (begun n : ℕ) (t : TableRow) → AllByRecursion (λ k. k.from ≤ begun) skips → begun ≤ n →
    list_any (λ k. nat_le k.from (n + 1) && names_table k.rule t) skips ≡
    list_any (λ k. nat_le k.from n && names_table k.rule t) skips
names-same [] begun n t all le = refl
names-same (k ∷ ks) begun n t all le =
    let one : k.from ≤ begun = all.0 in
    ap (λ b. (b && names_table k.rule t) || list_any (λ j. nat_le j.from (n + 1) && names_table j.rule t) ks)
    (both-count k.from n (omega (arith, one, le)))
    ∙ ap (λ b. (nat_le k.from n && names_table k.rule t) || b) (names-same ks begun n t all.1 le)

visible-after : (skips : List Skip) (begun n : ℕ) (ws : List Write) (local : Tables) (t : Table) →
    AllByRecursion (λ k. k.from ≤ begun) skips → begun ≤ n →
    (is_maintained skips n t.row || is_left ws t.row) ≡ true →
    visible_table skips (n + 1) local (table_after ws t) ≡ table_after ws (visible_table skips n local t)
visible-after skips begun n ws local t all le e =
    ap (λ b. if not b then table_after ws t else unwrap_or (find (λ u. u.row.id == t.row.id) local) (table_after ws t))
    (names-same skips begun n t.row all le)
    ∙ visible-or-left ws local t (is_maintained skips n t.row) e

tables-after : (skips : List Skip) (begun n : ℕ) (ws : List Write) (local tables : Tables) →
    AllByRecursion (λ k. k.from ≤ begun) skips → begun ≤ n →
    leave_local skips n ws tables ≡ true → visible_tables skips (n + 1) local (overlaid tables ws) ≡
    overlaid (visible_tables skips n local tables) ws
tables-after skips begun n ws local [] all le e = refl
tables-after skips begun n ws local (t ∷ ts) all le e =
    let here = is_maintained skips n t.row || is_left ws t.row in
    let more = list_all (λ u. is_maintained skips n u.row || is_left ws u.row) ts in
    ap (λ u. u ∷ visible_tables skips (n + 1) local (overlaid ts ws))
    (visible-after skips begun n ws local t all le (and-left here more e))
    ∙ ap (λ us. table_after ws (visible_table skips n local t) ∷ us)
    (tables-after skips begun n ws local ts all le (and-right here more e))

shown-next : (skips : List Skip) (begun n : ℕ) (ws : List Write) (local shown : Tables) →
    AllByRecursion (λ k. k.from ≤ begun) skips → begun ≤ n → (r : Result Tables Missed) →
    IfOk r (λ tables. leave_local skips n ws tables ≡ true) → map_ok (visible_tables skips n local) r ≡ Ok shown →
    map_ok (visible_tables skips (n + 1) local) (map_ok (λ tables. overlaid tables ws) r) ≡ Ok (overlaid shown ws)
shown-next skips begun n ws local shown all le (Ok tables) left e =
    ap (λ x. Ok x) (tables-after skips begun n ws local tables all le left) ∙ ap (map_ok (λ x. overlaid x ws)) e
shown-next skips begun n ws local shown all le (Err m) left e = absurd (cc)

-- ---- counts

abbrev with_writes : KeptState → ℕ → List Write → KeptState
with_writes s at_scn ws = record s { tables = overlaid s.tables ws; n = s.n + 1; scn = at_scn }

pub row-counted : (f : Tables → Tables) (shown : Tables) (r : Result Tables Missed) → map_ok f r ≡ Ok shown →
    map_ok (λ x. row_count (f x)) r ≡ Ok (row_count shown)
row-counted f shown (Ok x) e = ap (map_ok row_count) e
row-counted f shown (Err m) e = absurd (cc)

to-next : (P : ℕ → Type 0) (begun n : ℕ) → ((i : ℕ) → begun ≤ i → i ≤ n → P i) → P (n + 1) → (i : ℕ) → begun ≤ i → i ≤ n + 1 →
    (x : Bool) → nat_le i n ≡ x → P i
to-next P begun n before last i from to true is = before i from (grind (arith, nat_tests))
to-next P begun n before last i from to false is =
    let over : n + 1 ≡ i = grind (arith, nat_tests) in subst P over last

mark-next : (logs : Archived) (s : KeptState) (at_scn : ℕ) (ws : List Write) (m : Option Mark) → IfSome m (IsMarkOf logs s s.n) →
    IfSome m (IsMarkOf logs (with_writes s at_scn ws) (s.n + 1))
mark-next logs s at_scn ws None is = tt
mark-next logs s at_scn ws (Some k) is = record {
  fits = fits_at_more s.first s.base (redo_entries logs s) k.q k.m s.n (s.n + 1) is.fits (omega arith);
  before = is.before;
  place = is.place;
  q_scn = is.q_scn;
  m_scn = is.m_scn;
  commit_scn = is.commit_scn;
}

-- ---- the next commit

pub next-fits : (b : Base) (logs : Archived) (begun : ℕ) (s : KeptState) (at_scn : ℕ) (ws : List Write) →
    Fits b logs begun s → IsNextCommit b s.skips (commits_of logs s) s.n at_scn ws → s.n + 1 ≤ commit_count (commits_of logs s) →
    writable s.tables ws ≡ ws → passes_limit s.tables ws ≡ false → Fits b logs begun (state_after (Publish at_scn ws) s)
next-fits b logs begun s at_scn ws f c there whole few =
    let cs = commits_of logs s in
    let run = f.run in
    let shown : map_ok (visible_tables s.skips (s.n + 1) b.local) (tables_at b s.skips cs (s.n + 1)) ≡ Ok (overlaid s.tables ws) =
    ap (map_ok (visible_tables s.skips (s.n + 1) b.local)) (sym c.leads)
    ∙ shown-next s.skips begun s.n ws b.local s.tables f.skips f.run (tables_at b s.skips cs s.n) c.maintained f.shows.shown in
    let limit : stop_at b s.skips cs (s.n + 1) ≡ None =
    ap (stop_of_commit (scn_at b cs (s.n + 1)))
    (row-counted (visible_tables s.skips (s.n + 1) b.local) (overlaid s.tables ws) (tables_at b s.skips cs (s.n + 1)) shown)
    ∙ ap (λ t. if t then Some (RowLimit (scn_at b cs (s.n + 1))) else None) few in
    let fits : Fits b logs begun (with_writes s at_scn ws) = record {
      base = f.base;
      run = omega (arith, run);
      shows = record { made = there; shown = shown; scn = c.scn };
      applied = λ i from to. to-next (λ k. stop_at b s.skips cs k ≡ None) begun s.n f.applied limit i from to (nat_le i s.n) refl;
      mark = mark-next logs s at_scn ws s.mark f.mark;
      skips = f.skips;
    } in
    subst (λ v. Fits b logs begun (with_writes s at_scn v)) (sym whole) fits

-- ---- the commits of a group

-- a group that is its own front is published whole
pub group-fits : (b : Base) (logs : Archived) (begun : ℕ) (s : KeptState) (commits : List (ℕ × List Write)) →
    Fits b logs begun s → AreNextCommits b s.skips (commits_of logs s) s.n commits →
    s.n + length commits ≤ commit_count (commits_of logs s) → AreWhole commits s →
    length (front_of s commits) ≡ length commits → Fits b logs begun (state_after_all (front_of s commits) s)
group-fits b logs begun s [] f next there whole all = f
group-fits b logs begun s ((at_scn, ws) ∷ more) f next there whole all =
    let later = state_after (Publish at_scn ws) s in
    let first : s.n + 1 ≤ commit_count (commits_of logs s) = omega (arith, there) in
    let others : (s.n + 1) + length more ≤ commit_count (commits_of logs s) = omega (arith, there) in
    elim (passes_limit s.tables (writable s.tables ws)) as (λ x. passes_limit s.tables (writable s.tables ws) ≡ x →
    length (if x then [] else Publish at_scn ws ∷ front_of later more) ≡ length ((at_scn, ws) ∷ more) →
    Fits b logs begun (state_after_all (if x then [] else Publish at_scn ws ∷ front_of later more) s)) [
      | true ↦ λ over given. absurd (omega (arith, given))
      | false ↦ λ few given. group-fits b logs begun later more
          (next-fits b logs begun s at_scn ws f next.0 first whole.0.1.0
          (sym (ap (passes_limit s.tables) whole.0.1.0) ∙ few))
          next.1 others whole.1 (omega (arith, given))
    ] refl all
