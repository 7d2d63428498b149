-- A fold as a walk over its commits: one after another, until one is not applied.
-- `folded` asks at each count for the tables of that count from the base on; a walk carries them along.
use Rattle.std.proofs.Common.{◌≡◌, ℕ, zero, suc, ◌+◌, ◌-◌, ◌≤◌, ◌<◌, ◌==◌, List, [], ◌∷◌, ◌++◌, drop, length, get_or, slice_get, refl, ap, ◌∙◌, true, false, cond, Option, Some, None, Result, Ok, Err, arith}
use Rattle.std.specs.Option.{option_map_or}
use Rattle.std.proofs.lemmas.Bool.Decides.{nat_tests}
use Rattle.rl_value.specs.declared.verdict.Stop.{Stop}
use Rattle.rl_value.specs.declared.verdict.Verdict.{Verdict}
use Rattle.rl_value.specs.declared.verdict.Verdict.TheVariants.{Stopped}
use Rattle.rl_value.specs.Outcome.{◌>>=◌, map_ok}
use Rattle.redo_vec.specs.declared.table.TableRow.{TableRow}
use Rattle.redo_spec.specs.Tables.{Tables, row_count, definitions_of}
use Rattle.redo_spec.specs.History.{Committed, Commits, commit_count}
use Rattle.redo_spec.specs.Skips.{Skip, is_maintained}
use Rattle.redo_spec.specs.Fold.{Base, Folded, Missed, Reached, commit_effect, tables_at, scn_at, stop_of_commit, stop_at, visible_tables, reached, reached_or, verdict_of, tables_or_base, folded_to}
use Rattle.redo_spec.proofs.FoldLaws.{tables_at-next}
use Rattle.primary.specs.Progress.{tables_or}

pub record Walked : Type 0 where
  pub n : ℕ
  pub scn : ℕ
  pub tables : Tables
  pub stop : Option Verdict

abbrev pub came : ℕ → ℕ → Tables → Option Verdict → Walked
came n scn tables stop = record { n = n; scn = scn; tables = tables; stop = stop }

-- why a commit is not applied
abbrev pub halted : ℕ → Result Tables Missed → Option Verdict
halted scn r = stop_of_commit scn (map_ok row_count r)

abbrev pub walked_or : Option Verdict → ℕ → ℕ → Tables → Walked → Walked
walked_or (Some v) n scn tables later = came n scn tables (Some v)
walked_or None n scn tables later = later

abbrev pub walk : List Skip → ℕ → ℕ → Tables → List Committed → Walked
walk skips n scn tables [] = came n scn tables None
walk skips n scn tables (c ∷ cs) =
    walked_or (halted c.scn (commit_effect skips n tables c)) n scn tables
    (walk skips (n + 1) c.scn (tables_or tables (commit_effect skips n tables c)) cs)

-- one commit more, unless it has come to an end
abbrev pub walk_from : Option Verdict → List Skip → Committed → Walked → Walked
walk_from (Some v) skips c w = w
walk_from None skips c w = walk skips w.n w.scn w.tables (c ∷ [])

pub walk-snoc : (skips : List Skip) (n scn : ℕ) (tables : Tables) (cs : List Committed) (c : Committed) →
    walk skips n scn tables (cs ++ c ∷ []) ≡ walk_from (walk skips n scn tables cs).stop skips c (walk skips n scn tables cs)
walk-snoc skips n scn tables [] c = refl
walk-snoc skips n scn tables (d ∷ ds) c =
    let after = tables_or tables (commit_effect skips n tables d) in
    elim (halted d.scn (commit_effect skips n tables d))
    as (λ o. walked_or o n scn tables (walk skips (n + 1) d.scn after (ds ++ c ∷ []))
    ≡ walk_from (walked_or o n scn tables (walk skips (n + 1) d.scn after ds)).stop skips c
    (walked_or o n scn tables (walk skips (n + 1) d.scn after ds))) [
      | Some v ↦ refl
      | None ↦ walk-snoc skips (n + 1) d.scn after ds c
    ]

-- a walk that has come to an end goes no further
pub walk_stays : (skips : List Skip) (n scn : ℕ) (tables : Tables) (cs more : List Committed) (v : Verdict) →
    (walk skips n scn tables cs).stop ≡ Some v → walk skips n scn tables (cs ++ more) ≡ walk skips n scn tables cs
walk_stays skips n scn tables [] more v ends = absurd (cc)
walk_stays skips n scn tables (d ∷ ds) more v ends =
    let after = tables_or tables (commit_effect skips n tables d) in
    elim (halted d.scn (commit_effect skips n tables d))
    as (λ o. (walked_or o n scn tables (walk skips (n + 1) d.scn after ds)).stop ≡ Some v →
    walked_or o n scn tables (walk skips (n + 1) d.scn after (ds ++ more)) ≡
    walked_or o n scn tables (walk skips (n + 1) d.scn after ds)) [
      | Some u ↦ λ e. refl
      | None ↦ λ e. walk_stays skips (n + 1) d.scn after ds more v e
    ] ends

-- ---- beside the fold

-- where no table shows local rows, what is visible is what there is
visible_same : (skips : List Skip) (n : ℕ) (tables : Tables) → visible_tables skips n [] tables ≡ tables
visible_same skips n [] = refl
visible_same skips n (t ∷ ts) =
    elim (is_maintained skips n t.row) as (λ b. (cond b t t ∷ visible_tables skips n [] ts) ≡ t ∷ ts) [
      | true ↦ ap (λ us. t ∷ us) (visible_same skips n ts)
      | false ↦ ap (λ us. t ∷ us) (visible_same skips n ts)
    ]

rows_seen : (skips : List Skip) (n : ℕ) (local : Tables) → local ≡ [] → (r : Result Tables Missed) →
    map_ok (λ tables. row_count (visible_tables skips n local tables)) r ≡ map_ok row_count r
rows_seen skips n local none (Ok tables) = ap (λ l. Ok (row_count (visible_tables skips n l tables))) none ∙
    ap (λ ts. Ok (row_count ts)) (visible_same skips n tables)
rows_seen skips n local none (Err m) = refl

-- what is not halted has its effects
pub applies : (scn : ℕ) (tables : Tables) (r : Result Tables Missed) → halted scn r ≡ None → r ≡ Ok (tables_or tables r)
applies scn tables (Ok after) e = refl
applies scn tables (Err m) e = absurd (cc)

-- the element behind the first k
record At {A : Type 0} (k : ℕ) (xs : List A) (x : A) (more : List A) : Type 0 where
  inside : k < length xs
  item : get_or xs k x ≡ x
  got : slice_get xs k ≡ Some x
  rest : drop (k + 1) xs ≡ more

at_drop : {A : Type 0} (k : ℕ) (xs : List A) (x : A) (more : List A) → drop k xs ≡ x ∷ more → At k xs x more
at_drop zero [] x more e = absurd (cc)
at_drop zero (y ∷ ys) x more e =
    let first : y ≡ x = cc in
    let later : ys ≡ more = cc in
    record { inside = omega arith; item = first; got = ap Some first; rest = later }
at_drop (suc k) [] x more e = absurd (cc)
at_drop (suc k) (y ∷ ys) x more e =
    let later = at_drop k ys x more e in
    let up : suc k + 1 ≡ suc (k + 1) = omega arith in
    record {
      inside = omega (arith, later.inside);
      item = later.item;
      got = later.got;
      rest = ap (λ (m : ℕ). drop m (y ∷ ys)) up ∙ later.rest;
    }

-- the fold that a walk comes to, where these definitions name its tables
abbrev pub seen : List TableRow → Stop → Walked → Folded
seen names stop w = record { n = w.n; scn = w.scn; tables = w.tables; names = names; verdict = verdict_of w.stop stop }

folded_by : (b : Base) (skips : List Skip) (cs : Commits) (stop : Stop) (n scn : ℕ) (tables : Tables) →
    tables_at b skips cs n ≡ Ok tables → scn_at b cs n ≡ scn →
    (later : Reached) (walked : Walked) (o : Option Verdict) →
    (o ≡ None → folded_to b skips cs stop later ≡ seen (definitions_of b.tables) stop walked) →
    folded_to b skips cs stop (reached_or o n later) ≡ seen (definitions_of b.tables) stop (walked_or o n scn tables walked)
folded_by b skips cs stop n scn tables t s later walked None more = more refl
folded_by b skips cs stop n scn tables t s later walked (Some v) more =
    λ i. record { n = n; scn = s i; tables = tables_or_base b (t i); names = definitions_of b.tables; verdict = v }

-- the fold from a count on, where these commits follow, is the walk over them
pub walk_is_fold : (b : Base) (skips : List Skip) (cs : Commits) (stop : Stop) → b.local ≡ [] → cs.before ≤ b.n →
    (more : List Committed) (n scn : ℕ) (tables : Tables) → b.n ≤ n → drop (n - cs.before) cs.made ≡ more →
    tables_at b skips cs n ≡ Ok tables → scn_at b cs n ≡ scn →
    folded_to b skips cs stop (reached b skips cs n more) ≡ seen (definitions_of b.tables) stop (walk skips n scn tables more)
walk_is_fold b skips cs stop none first [] n scn tables from are t s =
    λ i. record { n = n; scn = s i; tables = tables_or_base b (t i); names = definitions_of b.tables; verdict = Stopped stop }
walk_is_fold b skips cs stop none first (c ∷ more) n scn tables from are t s =
    let k = n - cs.before in
    let at = at_drop k cs.made c more are in
    let inside : n < commit_count cs = omega (arith, at.inside, first, from) in
    let up : (n + 1) - cs.before ≡ k + 1 = omega (arith, first, from) in
    let down : (n + 1) - (cs.before + 1) ≡ k = omega (arith, first, from) in
    let beyond : ((n + 1) == b.n) ≡ false = grind (arith, nat_tests, from) in
    let after = commit_effect skips n tables c in
    let next : tables_at b skips cs (n + 1) ≡ after = tables_at-next b skips cs n c first from inside at.item ∙
    ap (λ r. r >>= λ ts. commit_effect skips n ts c) t in
    let scn_next : scn_at b cs (n + 1) ≡ c.scn =
    ap (λ e. cond e b.scn (option_map_or (λ d. d.scn) (slice_get cs.made ((n + 1) - (cs.before + 1))) b.scn)) beyond
    ∙ ap (λ (j : ℕ). option_map_or (λ d. d.scn) (slice_get cs.made j) b.scn) down
    ∙ ap (λ o. option_map_or (λ d. d.scn) o b.scn) at.got in
    let stops : stop_at b skips cs (n + 1) ≡ halted c.scn after =
    ap (λ (m : ℕ). stop_of_commit m (map_ok (λ ts. row_count (visible_tables skips (n + 1) b.local ts))
    (tables_at b skips cs (n + 1)))) scn_next
    ∙ ap (λ r. stop_of_commit c.scn r) (rows_seen skips (n + 1) b.local none (tables_at b skips cs (n + 1)))
    ∙ ap (λ r. halted c.scn r) next in
    ap (λ o. folded_to b skips cs stop (reached_or o n (reached b skips cs (n + 1) more))) stops
    ∙ folded_by b skips cs stop n scn tables t s (reached b skips cs (n + 1) more)
    (walk skips (n + 1) c.scn (tables_or tables after) more) (halted c.scn after)
    (λ goes. walk_is_fold b skips cs stop none first more (n + 1) c.scn (tables_or tables after) (omega (arith, from))
    (ap (λ (m : ℕ). drop m cs.made) up ∙ at.rest)
    (next ∙ applies c.scn tables after goes) scn_next)
