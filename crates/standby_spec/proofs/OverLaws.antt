-- Laws of bases: what fits over the state with which a run began fits over each base over which that state did. The two folds
-- differ in tables that are not maintained alone, and no kept change is of one.
use Rattle.std.proofs.Common.{◌≡◌, ℕ, zero, suc, ◌+◌, ◌-◌, ◌<◌, ◌≤◌, List, [], ◌∷◌, filter, take, length, get_or, Bool, true, false, cond, not, refl, sym, ap, ◌∙◌, subst, Option, Some, None, Ok, Err, Result, arith}
use Rattle.std.specs.Prelude.{◌&&◌, ◌||◌, ◌==◌, nat_le, if◌then◌else◌, slice_get, unwrap_or}
use Rattle.std.proofs.lemmas.Bool.Decides.{nat_tests}
use Rattle.std.specs.List.{find, list_any, AllByRecursion}
use Rattle.std.specs.Option.{option_map_or}
use Rattle.rl_value.specs.declared.pos.Pos.{Pos}
use Rattle.rl_value.specs.declared.miss.Miss.{Miss}
use Rattle.rl_value.specs.declared.verdict.Verdict.TheVariants.{RowLimit}
use Rattle.rl_value.specs.Outcome.{◌>>=◌, map_ok, map_err}
use Rattle.redo_vec.specs.declared.change.Change.{Change}
use Rattle.redo_vec.specs.declared.table.TableRow.{TableRow}
use Rattle.redo_vec.specs.declared.vector.Vector.{Vector}
use Rattle.redo_vec.specs.declared.vector.Vector.TheVariants as vectors
use Rattle.redo_spec.specs.Dictionary.{table_of, ids_rise}
use Rattle.redo_spec.specs.Effect.{effect_on, effect}
use Rattle.redo_spec.specs.Fold.{Base, Missed, effects, commit_effect, commit_effects, tables_at, scn_at, visible_table, visible_tables, stop_of_commit}
use Rattle.redo_spec.specs.History.{Entry, Placed, Committed, Commits, History, commit_count, commits_after, after_vector, after_vectors, history_after, no_history}
use Rattle.redo_spec.specs.Law.{admission, admitted_or, record_fault, dictionary_left}
use Rattle.redo_spec.specs.Skips.{Skip, names_table, is_maintained, skips_table, is_skipped, kept_changes}
use Rattle.redo_spec.specs.Standing.{Standing, beginning, record_after}
use Rattle.redo_spec.specs.Tables.{Table, Tables, row_count, definitions_of}
use Rattle.redo_spec.proofs.FoldLaws.{tables_at-next}
use Rattle.row_apply.proofs.Staying.{effect_same}
use Rattle.standby_spec.specs.KeptState.{KeptState, base_of}
use Rattle.standby_spec.specs.StandbyRedo.{Archived, redo_entries, commits_of}
use Rattle.standby_spec.specs.Fits.{Fits, FitsStill}
use Rattle.standby_spec.specs.Publishing.{in_run}
use Rattle.standby_spec.proofs.FitsLaws.{FindsItself, finds-itself, few-rows}
use Rattle.standby_spec.proofs.StoreLaws.{same_nat}

-- ---- commits are counted from none

vector-before : (scn : ℕ) (at : Pos) (v : Vector) (h : History) → (after_vector scn at v h).commits.before ≡ h.commits.before
vector-before scn at (vectors.Start x) h = refl
vector-before scn at (vectors.Change c) h = refl
vector-before scn at (vectors.Undo x) h = refl
vector-before scn at (vectors.Commit x) h = refl
vector-before scn at (vectors.Rollback x) h = refl
vector-before scn at (vectors.Table t) h = refl
vector-before scn at vectors.DictEnd h = refl

vectors-before : (scn rec vec : ℕ) (vs : List Vector) (h : History) →
    (after_vectors scn rec vec vs h).commits.before ≡ h.commits.before
vectors-before scn rec vec [] h = refl
vectors-before scn rec vec (v ∷ vs) h =
    vectors-before scn rec (vec + 1) vs (after_vector scn (record { rec = rec; vec = vec }) v h) ∙
    vector-before scn (record { rec = rec; vec = vec }) v h

pub admitted-before : (s : Standing) (h : History) (es : List Entry) →
    (admission s h es).history.commits.before ≡ h.commits.before
admitted-before s h [] = refl
admitted-before s h (e ∷ es) =
    elim (record_fault s e) as (λ o. (admitted_or o (dictionary_left s e) s h
    (admission (record_after e s) (history_after (s.rec + 1) e h) es)).history.commits.before ≡ h.commits.before) [
      | Some fault ↦ refl
      | None ↦ admitted-before (record_after e s) (history_after (s.rec + 1) e h) es ∙
          vectors-before e.1.scn (s.rec + 1) 1 e.1.vectors h
    ]

-- ---- rules that count stay

abbrev AreOld : ℕ → List Skip → Type 0
AreOld m skips = AllByRecursion (λ k. k.from ≤ m) skips

counts-still : (from m n : ℕ) → from ≤ m → m ≤ n → nat_le from n ≡ nat_le from m
counts-still from m n f le =
    let here : nat_le from m ≡ true = grind (arith, nat_tests, f) in
    let next : nat_le from n ≡ true = grind (arith, nat_tests, f, le) in
    next ∙ sym here

names-still : (skips : List Skip) (m n : ℕ) (t : TableRow) → AreOld m skips → m ≤ n →
    list_any (λ k. nat_le k.from n && names_table k.rule t) skips ≡ list_any (λ k. nat_le k.from m && names_table k.rule t) skips
names-still [] m n t old le = refl
names-still (k ∷ ks) m n t old le =
    let one : k.from ≤ m = old.0 in
    ap (λ b. (b && names_table k.rule t) || list_any (λ j. nat_le j.from n && names_table j.rule t) ks)
    (counts-still k.from m n one le)
    ∙ ap (λ b. (nat_le k.from m && names_table k.rule t) || b) (names-still ks m n t old.1 le)

maintained-still : (skips : List Skip) (m n : ℕ) (t : TableRow) → AreOld m skips → m ≤ n →
    is_maintained skips n t ≡ is_maintained skips m t
maintained-still skips m n t old le = ap not (names-still skips m n t old le)

-- ---- tables that differ in what is not maintained alone

-- of a table at the beginning, and what it is now over the base and over the opening state
abbrev IsPart : Bool → Table → Table → Table → Table → Type 0
IsPart true shown o t u = (t ≡ u) × (t.row ≡ o.row)
IsPart false shown o t u = (t ≡ o) × (u ≡ shown)

abbrev AreAlike : List Skip → ℕ → Tables → Tables → Tables → Tables → Type 0
AreAlike skips m local [] [] [] = Unit {0}
AreAlike skips m local [] [] (u ∷ us) = ⊥
AreAlike skips m local [] (t ∷ ts) us = ⊥
AreAlike skips m local (o ∷ os) [] us = ⊥
AreAlike skips m local (o ∷ os) (t ∷ ts) [] = ⊥
AreAlike skips m local (o ∷ os) (t ∷ ts) (u ∷ us) =
    IsPart (is_maintained skips m o.row) (visible_table skips m local o) o t u × AreAlike skips m local os ts us

abbrev AreAlikeResults : List Skip → ℕ → Tables → Tables → {E : Type 0} → Result Tables E → Result Tables E → Type 0
AreAlikeResults skips m local os (Ok ts) (Ok us) = AreAlike skips m local os ts us
AreAlikeResults skips m local os (Ok ts) (Err b) = ⊥
AreAlikeResults skips m local os (Err a) (Ok us) = ⊥
AreAlikeResults skips m local os (Err a) (Err b) = a ≡ b

-- each table shows one of its own definition
abbrev ShowsOwn : List Skip → ℕ → Tables → Tables → Type 0
ShowsOwn skips m local os = AllByRecursion (λ o. (visible_table skips m local o).row ≡ o.row) os

begin-part : (b : Bool) (o x : Table) → IsPart b (if b then o else x) o o (if b then o else x)
begin-part true o x = (refl, refl)
begin-part false o x = (refl, refl)

begins-alike : (skips : List Skip) (m : ℕ) (local os : Tables) → AreAlike skips m local os os (visible_tables skips m local os)
begins-alike skips m local [] = tt
begins-alike skips m local (o ∷ os) = (
  begin-part (is_maintained skips m o.row) o (unwrap_or (find (λ u. u.row.id == o.row.id) local) o),
  begins-alike skips m local os,
)

part-row : (b : Bool) (shown o t u : Table) → shown.row ≡ o.row → IsPart b shown o t u → (t.row ≡ o.row) × (u.row ≡ o.row)
part-row true shown o t u own is = (is.1, ap (λ (x : Table). x.row) (sym is.0) ∙ is.1)
part-row false shown o t u own is = (ap (λ (x : Table). x.row) is.0, ap (λ (x : Table). x.row) is.1 ∙ own)

same-rows : (skips : List Skip) (m : ℕ) (local os ts us : Tables) → ShowsOwn skips m local os → AreAlike skips m local os ts us →
    (definitions_of ts ≡ definitions_of os) × (definitions_of us ≡ definitions_of os)
same-rows skips m local [] [] [] own is = (refl, refl)
same-rows skips m local [] [] (u ∷ us) own is = absurd is
same-rows skips m local [] (t ∷ ts) us own is = absurd is
same-rows skips m local (o ∷ os) [] us own is = absurd is
same-rows skips m local (o ∷ os) (t ∷ ts) [] own is = absurd is
same-rows skips m local (o ∷ os) (t ∷ ts) (u ∷ us) own is =
    let here = part-row (is_maintained skips m o.row) (visible_table skips m local o) o t u own.0 is.0 in
    let rest = same-rows skips m local os ts us own.1 is.1 in
    let one = here.0 in
    let two = here.1 in
    let ones = rest.0 in
    let twos = rest.1 in
    (λ i. one i ∷ ones i, λ i. two i ∷ twos i)

-- ---- one change

effect-row : (t u : Table) (c : Change) → (t.row.id == c.table) ≡ true → effect_on t c.op c.old c.new ≡ Ok u → u.row ≡ t.row
effect-row t u c is e =
    let one : effect (t ∷ []) c ≡ Ok (u ∷ []) =
    ap (λ b. if b then (effect_on t c.op c.old c.new >>= λ changed. Ok (changed ∷ [])) else
    (effect [] c >>= λ others. Ok (t ∷ others))) is
    ∙ ap (λ r. r >>= λ changed. Ok (changed ∷ [])) e in
    let same : u.row ∷ [] ≡ t.row ∷ [] = effect_same (t ∷ []) (u ∷ []) c one in
    cc

-- the change is of a table that is maintained, or of none that is there
abbrev IsKept : List Skip → ℕ → Tables → Change → Type 0
IsKept skips m os c = skips_table skips m (table_of (definitions_of os) c.table) ≡ false

unskipped : (skips : List Skip) (m : ℕ) (t : TableRow) → skips_table skips m (Some t) ≡ false → is_maintained skips m t ≡ true
unskipped skips m t e = elim (is_maintained skips m t) as (λ b. not b ≡ false → b ≡ true) [
  | true ↦ λ given. refl
  | false ↦
      λ given. absurd (cc)
] e

here-alike : (skips : List Skip) (m : ℕ) (local os : Tables) (o t u : Table) (ts us : Tables) (c : Change) →
    (t.row.id == c.table) ≡ true → is_maintained skips m o.row ≡ true →
    IsPart true (visible_table skips m local o) o t u → AreAlike skips m local os ts us → (r : Result Table Miss) →
    effect_on t c.op c.old c.new ≡ r →
    AreAlikeResults skips m local (o ∷ os) (r >>= λ changed. Ok (changed ∷ ts))
    (effect_on u c.op c.old c.new >>= λ changed. Ok (changed ∷ us))
here-alike skips m local os o t u ts us c is kept part rest (Ok x) e =
    let same : effect_on u c.op c.old c.new ≡ Ok x = ap (λ (y : Table). effect_on y c.op c.old c.new) (sym part.0) ∙ e in
    subst (λ r. AreAlikeResults skips m local (o ∷ os) (Ok (x ∷ ts)) (r >>= λ changed. Ok (changed ∷ us))) (sym same)
    (subst (λ b. IsPart b (visible_table skips m local o) o x x) (sym kept) (refl, effect-row t x c is e ∙ part.1), rest)
here-alike skips m local os o t u ts us c is kept part rest (Err miss) e =
    let same : effect_on u c.op c.old c.new ≡ Err miss = ap (λ (y : Table). effect_on y c.op c.old c.new) (sym part.0) ∙ e in
    subst (λ r. AreAlikeResults skips m local (o ∷ os) (Err miss) (r >>= λ changed. Ok (changed ∷ us))) (sym same) refl

there-alike : (skips : List Skip) (m : ℕ) (local os : Tables) (o t u : Table) →
    IsPart (is_maintained skips m o.row) (visible_table skips m local o) o t u →
    (r q : Result Tables Miss) → AreAlikeResults skips m local os r q →
    AreAlikeResults skips m local (o ∷ os) (r >>= λ others. Ok (t ∷ others)) (q >>= λ others. Ok (u ∷ others))
there-alike skips m local os o t u part (Ok ts) (Ok us) is = (part, is)
there-alike skips m local os o t u part (Ok ts) (Err b) is = absurd is
there-alike skips m local os o t u part (Err a) (Ok us) is = absurd is
there-alike skips m local os o t u part (Err a) (Err b) is = is

effect-alike : (skips : List Skip) (m : ℕ) (local os ts us : Tables) (c : Change) → ShowsOwn skips m local os →
    IsKept skips m os c → AreAlike skips m local os ts us →
    AreAlikeResults skips m local os (effect ts c) (effect us c)
effect-alike skips m local [] [] [] c own kept is = tt
effect-alike skips m local [] [] (u ∷ us) c own kept is = absurd is
effect-alike skips m local [] (t ∷ ts) us c own kept is = absurd is
effect-alike skips m local (o ∷ os) [] us c own kept is = absurd is
effect-alike skips m local (o ∷ os) (t ∷ ts) [] c own kept is = absurd is
effect-alike skips m local (o ∷ os) (t ∷ ts) (u ∷ us) c own kept is =
    let rows = part-row (is_maintained skips m o.row) (visible_table skips m local o) o t u own.0 is.0 in
    let id_t : t.row.id ≡ o.row.id = ap (λ (x : TableRow). x.id) rows.0 in
    let id_u : u.row.id ≡ o.row.id = ap (λ (x : TableRow). x.id) rows.1 in
    elim (o.row.id == c.table) as (λ b. (o.row.id == c.table) ≡ b →
    skips_table skips m (if b then Some o.row else table_of (definitions_of os) c.table) ≡ false →
    AreAlikeResults skips m local (o ∷ os) (effect (t ∷ ts) c) (effect (u ∷ us) c)) [
      | true ↦ λ at test.
          let good = unskipped skips m o.row test in
          let at_t : (t.row.id == c.table) ≡ true = ap (λ n. n == c.table) id_t ∙ at in
          let at_u : (u.row.id == c.table) ≡ true = ap (λ n. n == c.table) id_u ∙ at in
          let part : IsPart true (visible_table skips m local o) o t u =
          subst (λ b. IsPart b (visible_table skips m local o) o t u) good is.0 in
          subst (λ b. AreAlikeResults skips m local (o ∷ os)
          (if b then (effect_on t c.op c.old c.new >>= λ changed. Ok (changed ∷ ts))
          else (effect ts c >>= λ others. Ok (t ∷ others))) (effect (u ∷ us) c)) (sym at_t)
          (subst (λ b. AreAlikeResults skips m local (o ∷ os) (effect_on t c.op c.old c.new >>= λ changed. Ok (changed ∷ ts))
          (if b then (effect_on u c.op c.old c.new >>= λ changed. Ok (changed ∷ us)) else
          (effect us c >>= λ others. Ok (u ∷ others)))) (sym at_u)
          (here-alike skips m local os o t u ts us c at_t good part is.1 (effect_on t c.op c.old c.new) refl))
      | false ↦ λ other test.
          let at_t : (t.row.id == c.table) ≡ false = ap (λ n. n == c.table) id_t ∙ other in
          let at_u : (u.row.id == c.table) ≡ false = ap (λ n. n == c.table) id_u ∙ other in
          subst (λ b. AreAlikeResults skips m local (o ∷ os)
          (if b then (effect_on t c.op c.old c.new >>= λ changed. Ok (changed ∷ ts))
          else (effect ts c >>= λ others. Ok (t ∷ others))) (effect (u ∷ us) c)) (sym at_t)
          (subst (λ b. AreAlikeResults skips m local (o ∷ os) (effect ts c >>= λ others. Ok (t ∷ others))
          (if b then (effect_on u c.op c.old c.new >>= λ changed. Ok (changed ∷ us)) else
          (effect us c >>= λ others. Ok (u ∷ others)))) (sym at_u)
          (there-alike skips m local os o t u is.0 (effect ts c) (effect us c)
          (effect-alike skips m local os ts us c own.1 test is.1)))
    ] refl kept

-- ---- the kept changes of a commit

abbrev AreKept : List Skip → ℕ → Tables → List Placed → Type 0
AreKept skips m os ps = AllByRecursion (λ p. IsKept skips m os p.1) ps

abbrev missed-at : Pos → Change → Miss → Missed
missed-at at c miss = record { pos = at; table = c.table; miss = miss }

bind-alike : (skips : List Skip) (m : ℕ) (local os : Tables) (at : Pos) (c : Change) (f g : Tables → Result Tables Missed)
    (r q : Result Tables Miss) →
    AreAlikeResults skips m local os r q → ((ts us : Tables) → AreAlike skips m local os ts us →
    AreAlikeResults skips m local os (f ts) (g us)) →
    AreAlikeResults skips m local os (map_err (λ miss. missed-at at c miss) r >>= f)
    (map_err (λ miss. missed-at at c miss) q >>= g)
bind-alike skips m local os at c f g (Ok ts) (Ok us) is next = next ts us is
bind-alike skips m local os at c f g (Ok ts) (Err b) is next = absurd is
bind-alike skips m local os at c f g (Err a) (Ok us) is next = absurd is
bind-alike skips m local os at c f g (Err a) (Err b) is next = ap (missed-at at c) is

effects-alike : (skips : List Skip) (m : ℕ) (local os ts us : Tables) (ps : List Placed) → ShowsOwn skips m local os →
    AreKept skips m os ps → AreAlike skips m local os ts us →
    AreAlikeResults skips m local os (effects ts ps) (effects us ps)
effects-alike skips m local os ts us [] own kept is = is
effects-alike skips m local os ts us ((at, c) ∷ ps) own kept is =
    bind-alike skips m local os at c (λ after. effects after ps) (λ after. effects after ps) (effect ts c) (effect us c)
    (effect-alike skips m local os ts us c own kept.0 is)
    (λ xs ys alike. effects-alike skips m local os xs ys ps own kept.1 alike)

-- the changes of a commit that are kept at a later count are of maintained tables
same-test : (skips : List Skip) (m n : ℕ) (t : Option TableRow) → AreOld m skips → m ≤ n →
    skips_table skips n t ≡ skips_table skips m t
same-test skips m n None old le = refl
same-test skips m n (Some t) old le = ap not (maintained-still skips m n t old le)

or-second : (a b : Bool) → (a || b) ≡ false → b ≡ false
or-second false b e = e
or-second true b e = absurd (cc)

all-kept : (skips : List Skip) (m n : ℕ) (os : Tables) (ps : List Placed) → AreOld m skips → m ≤ n →
    AreKept skips m os (filter (λ p. not (is_skipped skips (definitions_of os) n p)) ps)
all-kept skips m n os [] old le = tt
all-kept skips m n os (p ∷ ps) old le =
    elim (is_skipped skips (definitions_of os) n p) as (λ b. is_skipped skips (definitions_of os) n p ≡ b →
    AreKept skips m os (cond (not b) (p ∷ filter (λ q. not (is_skipped skips (definitions_of os) n q)) ps)
    (filter (λ q. not (is_skipped skips (definitions_of os) n q)) ps))) [
      | true ↦ λ e. all-kept skips m n os ps old le
      | false ↦ λ e. (
        sym (same-test skips m n (table_of (definitions_of os) p.1.table) old le) ∙ or-second _ _ e,
        all-kept skips m n os ps old le,
      )
    ] refl

commit-alike : (skips : List Skip) (m n : ℕ) (local os ts us : Tables) (c : Committed) → ShowsOwn skips m local os →
    AreOld m skips → m ≤ n → AreAlike skips m local os ts us →
    AreAlikeResults skips m local os (commit_effect skips n ts c) (commit_effect skips n us c)
commit-alike skips m n local os ts us c own old le is =
    let rows = same-rows skips m local os ts us own is in
    subst (λ ds. AreAlikeResults skips m local os (effects ts (kept_changes skips ds n c)) (commit_effect skips n us c))
    (sym rows.0)
    (subst (λ ds. AreAlikeResults skips m local os (effects ts (kept_changes skips (definitions_of os) n c))
    (effects us (kept_changes skips ds n c))) (sym rows.1)
    (effects-alike skips m local os ts us (kept_changes skips (definitions_of os) n c) own
    (all-kept skips m n os c.txn.survivors old le) is))

step-alike : (skips : List Skip) (m n : ℕ) (local os : Tables) (c : Committed) → ShowsOwn skips m local os → AreOld m skips →
    m ≤ n → (r q : Result Tables Missed) →
    AreAlikeResults skips m local os r q →
    AreAlikeResults skips m local os (r >>= λ ts. commit_effect skips n ts c) (q >>= λ us. commit_effect skips n us c)
step-alike skips m n local os c own old le (Ok ts) (Ok us) is = commit-alike skips m n local os ts us c own old le is
step-alike skips m n local os c own old le (Ok ts) (Err b) is = absurd is
step-alike skips m n local os c own old le (Err a) (Ok us) is = absurd is
step-alike skips m n local os c own old le (Err a) (Err b) is = is

-- ---- what is visible

part-shown : (skips : List Skip) (m n : ℕ) (local all : Tables) (o t u : Table) → AreOld m skips → m ≤ n →
    (visible_table skips m local o).row ≡ o.row →
    FindsItself all (visible_table skips m local o) → (b : Bool) → is_maintained skips m o.row ≡ b →
    IsPart b (visible_table skips m local o) o t u →
    visible_table skips n local t ≡ visible_table skips n all u
part-shown skips m n local all o t u old le own finds true e is =
    let kept_t : is_maintained skips n t.row ≡ true = ap (is_maintained skips n) is.1 ∙
    maintained-still skips m n o.row old le ∙ e in
    let kept_u : is_maintained skips n u.row ≡ true = ap (λ (x : Table). is_maintained skips n x.row) (sym is.0) ∙ kept_t in
    ap (λ b. if b then t else unwrap_or (find (λ x. x.row.id == t.row.id) local) t) kept_t
    ∙ is.0
    ∙ sym (ap (λ b. if b then u else unwrap_or (find (λ x. x.row.id == u.row.id) all) u) kept_u)
part-shown skips m n local all o t u old le own finds false e is =
    let left_o : is_maintained skips n o.row ≡ false = maintained-still skips m n o.row old le ∙ e in
    let left_t : is_maintained skips n t.row ≡ false = ap (λ (x : Table). is_maintained skips n x.row) is.0 ∙ left_o in
    let left_u : is_maintained skips n u.row ≡ false = ap (λ (x : Table). is_maintained skips n x.row) is.1 ∙
    ap (is_maintained skips n) own ∙ left_o in
    ap (λ b. if b then t else unwrap_or (find (λ x. x.row.id == t.row.id) local) t) left_t
    ∙ ap (λ (y : Table). unwrap_or (find (λ x. x.row.id == y.row.id) local) y) is.0
    ∙ sym (ap (λ b. if b then o else unwrap_or (find (λ x. x.row.id == o.row.id) local) o) e)
    ∙ sym finds
    ∙ sym (ap (λ (y : Table). unwrap_or (find (λ x. x.row.id == y.row.id) all) y) is.1)
    ∙ sym (ap (λ b. if b then u else unwrap_or (find (λ x. x.row.id == u.row.id) all) u) left_u)

all-shown-alike : (skips : List Skip) (m n : ℕ) (local all os ts us : Tables) → AreOld m skips → m ≤ n →
    ShowsOwn skips m local os →
    AllByRecursion (λ o. FindsItself all (visible_table skips m local o)) os → AreAlike skips m local os ts us →
    visible_tables skips n local ts ≡ visible_tables skips n all us
all-shown-alike skips m n local all [] [] [] old le own finds is = refl
all-shown-alike skips m n local all [] [] (u ∷ us) old le own finds is = absurd is
all-shown-alike skips m n local all [] (t ∷ ts) us old le own finds is = absurd is
all-shown-alike skips m n local all (o ∷ os) [] us old le own finds is = absurd is
all-shown-alike skips m n local all (o ∷ os) (t ∷ ts) [] old le own finds is = absurd is
all-shown-alike skips m n local all (o ∷ os) (t ∷ ts) (u ∷ us) old le own finds is =
    let here = part-shown skips m n local all o t u old le own.0 finds.0 (is_maintained skips m o.row) refl is.0 in
    let rest = all-shown-alike skips m n local all os ts us old le own.1 finds.1 is.1 in
    λ i. here i ∷ rest i

-- a fact of what is visible is the same over both
result-alike : {A : Type 0} (f : Tables → A) (skips : List Skip) (m n : ℕ) (local all os : Tables) → AreOld m skips → m ≤ n →
    ShowsOwn skips m local os →
    AllByRecursion (λ o. FindsItself all (visible_table skips m local o)) os → (r q : Result Tables Missed) →
    AreAlikeResults skips m local os r q →
    map_ok (λ ts. f (visible_tables skips n local ts)) r ≡ map_ok (λ us. f (visible_tables skips n all us)) q
result-alike f skips m n local all os old le own finds (Ok ts) (Ok us) is =
    ap (λ xs. Ok (f xs)) (all-shown-alike skips m n local all os ts us old le own finds is)
result-alike f skips m n local all os old le own finds (Ok ts) (Err b) is = absurd is
result-alike f skips m n local all os old le own finds (Err a) (Ok us) is = absurd is
result-alike f skips m n local all os old le own finds (Err a) (Err b) is = ap (λ x. Err x) is

-- ---- definitions stay

effects-same : (ts us : Tables) (ps : List Placed) → effects ts ps ≡ Ok us → definitions_of us ≡ definitions_of ts
effects-same ts us [] e = let same : ts ≡ us = cc in ap definitions_of (sym same)
effects-same ts us ((at, c) ∷ ps) e =
    elim (effect ts c) as (λ r. effect ts c ≡ r → (map_err (missed-at at c) r >>= λ after. effects after ps) ≡ Ok us →
    definitions_of us ≡ definitions_of ts) [
      | Ok xs ↦ λ is given. effects-same xs us ps given ∙ effect_same ts xs c is
      | Err miss ↦ λ is given. absurd (cc)
    ] refl e

pub commits-same : (skips : List Skip) (n : ℕ) (ts us : Tables) (cs : List Committed) → commit_effects skips n ts cs ≡ Ok us →
    definitions_of us ≡ definitions_of ts
commits-same skips n ts us [] e = let same : ts ≡ us = cc in ap definitions_of (sym same)
commits-same skips n ts us (c ∷ cs) e =
    elim (commit_effect skips n ts c) as (λ r. commit_effect skips n ts c ≡ r →
    (r >>= λ after. commit_effects skips (n + 1) after cs) ≡ Ok us →
    definitions_of us ≡ definitions_of ts) [
      | Ok xs ↦ λ is given. commits-same skips (n + 1) xs us cs given ∙
          effects-same ts xs (kept_changes skips (definitions_of ts) n c) is
      | Err miss ↦ λ is given. absurd (cc)
    ] refl e

shows-own : (skips : List Skip) (m : ℕ) (local os : Tables) →
    definitions_of (visible_tables skips m local os) ≡ definitions_of os → ShowsOwn skips m local os
shows-own skips m local [] e = tt
shows-own skips m local (o ∷ os) e =
    let here : (visible_table skips m local o).row ≡ o.row = cc in
    let rest : definitions_of (visible_tables skips m local os) ≡ definitions_of os = cc in
    (here, shows-own skips m local os rest)

finds-shown : (skips : List Skip) (m : ℕ) (local all os : Tables) →
    AllByRecursion (FindsItself all) (visible_tables skips m local os) →
    AllByRecursion (λ o. FindsItself all (visible_table skips m local o)) os
finds-shown skips m local all [] is = tt
finds-shown skips m local all (o ∷ os) is = (is.0, finds-shown skips m local all os is.1)

-- ---- from the beginning on

found-at : {A : Type 0} (xs : List A) (i : ℕ) → i < length xs → (c : A) × ((get_or xs i c ≡ c) × (slice_get xs i ≡ Some c))
found-at [] i lt = absurd (omega (arith, lt))
found-at (x ∷ xs) zero lt = (x, (refl, refl))
found-at (x ∷ xs) (suc i) lt = found-at xs i (omega (arith, lt))

record IsBegun (b : Base) (opening : KeptState) (cs : Commits) (os : Tables) : Type 0 where
  none : cs.before ≡ 0
  base : b.n ≤ opening.n
  old : AreOld opening.n opening.skips
  own : ShowsOwn opening.skips opening.n b.local os
  over : tables_at b opening.skips cs opening.n ≡ Ok os
  itself : tables_at (base_of opening) opening.skips cs opening.n ≡ Ok (visible_tables opening.skips opening.n b.local os)
  finds : AllByRecursion (λ o. FindsItself opening.tables (visible_table opening.skips opening.n b.local o)) os

walk : (b : Base) (opening : KeptState) (cs : Commits) (os : Tables) → IsBegun b opening cs os → (k : ℕ) →
    opening.n + k ≤ commit_count cs →
    AreAlikeResults opening.skips opening.n b.local os (tables_at b opening.skips cs (opening.n + k))
    (tables_at (base_of opening) opening.skips cs (opening.n + k))
walk b opening cs os is zero le =
    let at : opening.n + 0 ≡ opening.n = omega arith in
    subst (λ n. AreAlikeResults opening.skips opening.n b.local os (tables_at b opening.skips cs n)
    (tables_at (base_of opening) opening.skips cs n)) (sym at)
    (subst (λ r. AreAlikeResults opening.skips opening.n b.local os r (tables_at (base_of opening) opening.skips cs opening.n))
    (sym is.over)
    (subst (λ r. AreAlikeResults opening.skips opening.n b.local os (Ok os) r) (sym is.itself)
    (begins-alike opening.skips opening.n b.local os)))
walk b opening cs os is (suc k) le =
    let none = is.none in
    let base = is.base in
    let n = opening.n + k in
    let at : opening.n + suc k ≡ n + 1 = omega arith in
    let c = found-at cs.made (n - cs.before) (omega (arith, le, none)) in
    let over = tables_at-next b opening.skips cs n c.0 (omega (arith, none)) (omega (arith, base)) (omega (arith, le)) c.1.0 in
    let itself = tables_at-next (base_of opening) opening.skips cs n c.0 (omega (arith, none)) (omega arith)
    (omega (arith, le)) c.1.0 in
    subst (λ j. AreAlikeResults opening.skips opening.n b.local os (tables_at b opening.skips cs j)
    (tables_at (base_of opening) opening.skips cs j)) (sym at)
    (subst (λ r. AreAlikeResults opening.skips opening.n b.local os r (tables_at (base_of opening) opening.skips cs (n + 1)))
    (sym over)
    (subst (λ r. AreAlikeResults opening.skips opening.n b.local os
    (tables_at b opening.skips cs n >>= λ ts. commit_effect opening.skips n ts c.0) r) (sym itself)
    (step-alike opening.skips opening.n n b.local os c.0 is.own is.old (omega arith) (tables_at b opening.skips cs n)
    (tables_at (base_of opening) opening.skips cs n)
    (walk b opening cs os is k (omega (arith, le))))))

at-count : (b : Base) (opening : KeptState) (cs : Commits) (os : Tables) → IsBegun b opening cs os → (n : ℕ) → opening.n ≤ n →
    n ≤ commit_count cs →
    AreAlikeResults opening.skips opening.n b.local os (tables_at b opening.skips cs n)
    (tables_at (base_of opening) opening.skips cs n)
at-count b opening cs os is n from to =
    let at : opening.n + (n - opening.n) ≡ n = omega (arith, from) in
    subst (λ j. AreAlikeResults opening.skips opening.n b.local os (tables_at b opening.skips cs j)
    (tables_at (base_of opening) opening.skips cs j)) at
    (walk b opening cs os is (n - opening.n) (omega (arith, from, to)))

-- ---- SCNs and limits

any-scn : (a b : ℕ) (r : Result ℕ Missed) → stop_of_commit a r ≡ None → stop_of_commit b r ≡ None
any-scn a b (Ok rows) e = ap (λ t. if t then Some (RowLimit b) else None) (few-rows a rows e)
any-scn a b (Err m) e = absurd (cc)

later-scn : (cs : Commits) (i a b : ℕ) → i < length cs.made →
    option_map_or (λ c. c.scn) (slice_get cs.made i) a ≡ option_map_or (λ c. c.scn) (slice_get cs.made i) b
later-scn cs i a b lt =
    let c = found-at cs.made i lt in
    ap (λ o. option_map_or (λ x. x.scn) o a) c.1.1 ∙ sym (ap (λ o. option_map_or (λ x. x.scn) o b) c.1.1)

pub same-scn : (b : Base) (opening : KeptState) (cs : Commits) (n : ℕ) → cs.before ≡ 0 → b.n ≤ opening.n → opening.n ≤ n →
    n ≤ commit_count cs →
    opening.scn ≡ scn_at b cs opening.n → scn_at (base_of opening) cs n ≡ scn_at b cs n
same-scn b opening cs n none base from to here =
    elim (n == opening.n) as (λ t. (n == opening.n) ≡ t →
    (if t then opening.scn else option_map_or (λ c. c.scn) (slice_get cs.made (n - (cs.before + 1))) opening.scn) ≡
    scn_at b cs n) [
      | true ↦ λ e. here ∙ ap (scn_at b cs) (sym (same_nat n opening.n e))
      | false ↦ λ e.
          let above : opening.n < n = grind (arith, nat_tests, from) in
          let apart : (n == b.n) ≡ false = grind (arith, nat_tests, above, base) in
          later-scn cs (n - (cs.before + 1)) opening.scn b.scn (omega (arith, none, above, to))
          ∙ sym (ap (λ t. if t then b.scn else option_map_or (λ c. c.scn) (slice_get cs.made (n - (cs.before + 1))) b.scn) apart)
    ] refl

-- ---- the law

pub given : (f : Tables → Tables) (r : Result Tables Missed) (shown : Tables) → map_ok f r ≡ Ok shown → (ts : Tables) ×
    ((r ≡ Ok ts) × (f ts ≡ shown))
given f (Ok ts) shown e = (ts, (refl, cc))
given f (Err m) shown e = absurd (cc)

begun : (b : Base) (logs : Archived) (opening : KeptState) → FitsStill b logs opening →
    definitions_of b.tables ≡ definitions_of opening.tables →
    ids_rise 0 (definitions_of opening.tables) ≡ true → (os : Tables) × IsBegun b opening (commits_of logs opening) os
begun b logs opening f same rise =
    let cs = commits_of logs opening in
    let t = given (visible_tables opening.skips opening.n b.local) (tables_at b opening.skips cs opening.n) opening.tables
    f.shows.shown in
    let none : opening.n - opening.n ≡ 0 = omega arith in
    let kept : definitions_of t.0 ≡ definitions_of b.tables =
    commits-same opening.skips b.n b.tables t.0 (take (opening.n - b.n) (commits_after cs b.n)) t.1.0 in
    let own = shows-own opening.skips opening.n b.local t.0 (ap definitions_of t.1.1 ∙ sym (kept ∙ same)) in (
      t.0,
      record {
        none = admitted-before (beginning opening.first opening.base) (no_history 0) (redo_entries logs opening);
        base = f.base;
        old = f.skips;
        own = own;
        over = t.1.0;
        itself = ap (λ k. commit_effects opening.skips opening.n opening.tables (take k (commits_after cs opening.n))) none ∙
            ap (λ x. Ok x) (sym t.1.1);
        finds = finds-shown opening.skips opening.n b.local opening.tables t.0
            (subst (AllByRecursion (FindsItself opening.tables)) (sym t.1.1) (finds-itself 0 opening.tables rise));
      },
    )

over-run : (b : Base) (logs : Archived) (opening s : KeptState) → FitsStill b logs opening →
    definitions_of b.tables ≡ definitions_of opening.tables →
    ids_rise 0 (definitions_of opening.tables) ≡ true → Fits (base_of opening) logs opening.n (in_run opening s) →
    Fits b logs opening.n (in_run opening s)
over-run b logs opening s f same rise g =
    let cs = commits_of logs opening in
    let t = begun b logs opening f same rise in
    let run = g.run in
    let made = g.shows.made in
    let alike = λ (i : ℕ) (from : opening.n ≤ i) (to : i ≤ s.n). at-count b opening cs t.0 t.1 i from (omega (arith, to, made)) in
    record {
      base = f.base;
      run = g.run;
      shows = record {
        made = g.shows.made;
        shown = result-alike (λ ts. ts) opening.skips opening.n s.n b.local opening.tables t.0 t.1.old run t.1.own t.1.finds
            (tables_at b opening.skips cs s.n) (tables_at (base_of opening) opening.skips cs s.n) (alike s.n run (omega arith))
            ∙ g.shows.shown;
        scn = g.shows.scn ∙ same-scn b opening cs s.n t.1.none f.base run made f.shows.scn;
      };
      applied = λ i from to.
          ap (stop_of_commit (scn_at b cs i)) (result-alike row_count opening.skips opening.n i b.local opening.tables t.0 t.1.old
          from t.1.own t.1.finds
          (tables_at b opening.skips cs i) (tables_at (base_of opening) opening.skips cs i) (alike i from to))
          ∙ any-scn (scn_at (base_of opening) cs i) (scn_at b cs i)
          (map_ok (λ ts. row_count (visible_tables opening.skips i opening.tables ts))
          (tables_at (base_of opening) opening.skips cs i)) (g.applied i from to);
      mark = g.mark;
      skips = g.skips;
    }

pub over-fits : (b : Base) (logs : Archived) (opening s : KeptState) → FitsStill b logs opening →
    definitions_of b.tables ≡ definitions_of opening.tables →
    ids_rise 0 (definitions_of opening.tables) ≡ true → s ≡ in_run opening s → Fits (base_of opening) logs opening.n s →
    Fits b logs opening.n s
over-fits b logs opening s f same rise run g =
    subst (Fits b logs opening.n) (sym run) (over-run b logs opening s f same rise
    (subst (Fits (base_of opening) logs opening.n) run g))
