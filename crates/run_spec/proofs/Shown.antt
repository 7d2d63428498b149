-- What is visible in a run are the tables of its fold: every rule counts from its beginning or before, and no kept change is of a
-- table that is not maintained then.
use Rattle.std.proofs.Common.{◌≡◌, ℕ, ◌+◌, ◌≤◌, List, [], ◌∷◌, filter, Bool, true, false, cond, not, refl, sym, ap, ◌∙◌, subst, Option, Some, None, Ok, Err, Result, arith}
use Rattle.std.specs.Prelude.{◌&&◌, ◌||◌, ◌==◌, nat_le, if◌then◌else◌, unwrap_or}
use Rattle.std.proofs.lemmas.Bool.Decides.{nat_tests}
use Rattle.std.specs.List.{find, list_any, AllByRecursion}
use Rattle.rl_value.specs.declared.pos.Pos.{Pos}
use Rattle.rl_value.specs.declared.miss.Miss.{Miss}
use Rattle.rl_value.specs.Outcome.{◌>>=◌, map_err}
use Rattle.redo_vec.specs.declared.change.Change.{Change}
use Rattle.redo_vec.specs.declared.table.TableRow.{TableRow}
use Rattle.redo_spec.specs.Dictionary.{table_of}
use Rattle.redo_spec.specs.Effect.{effect_on, effect}
use Rattle.redo_spec.specs.Fold.{Missed, effects, commit_effect, commit_effects, visible_table, visible_tables}
use Rattle.redo_spec.specs.History.{Placed, Committed}
use Rattle.redo_spec.specs.Skips.{Skip, names_table, is_maintained, skips_table, is_skipped, kept_changes}
use Rattle.redo_spec.specs.Tables.{Table, Tables, definitions_of}
use Rattle.row_apply.proofs.Staying.{effect_same}

-- ---- rules that count stay

abbrev pub AreOld : ℕ → List Skip → Type 0
AreOld m skips = AllByRecursion (λ k. k.from ≤ m) skips

counts-still : (from m n : ℕ) → from ≤ m → m ≤ n → nat_le from n ≡ nat_le from m
counts-still from m n f le =
    let here : nat_le from m ≡ true = grind (arith, nat_tests, f) in
    let next : nat_le from n ≡ true = grind (arith, nat_tests, f, le) in
    next ∙ sym here

names-still : (skips : List Skip) (m n : ℕ) (t : TableRow) → AreOld m skips → m ≤ n →
    list_any (λ k. nat_le k.from n && names_table k.rule t) skips ≡ list_any (λ k. nat_le k.from m && names_table k.rule t) skips
names-still [] m n t old le = refl
names-still (k ∷ ks) m n t old le =
    let one : k.from ≤ m = old.0 in
    ap (λ b. (b && names_table k.rule t) || list_any (λ j. nat_le j.from n && names_table j.rule t) ks)
    (counts-still k.from m n one le)
    ∙ ap (λ b. (nat_le k.from m && names_table k.rule t) || b) (names-still ks m n t old.1 le)

pub maintained-still : (skips : List Skip) (m n : ℕ) (t : TableRow) → AreOld m skips → m ≤ n →
    is_maintained skips n t ≡ is_maintained skips m t
maintained-still skips m n t old le = ap not (names-still skips m n t old le)

same-test : (skips : List Skip) (m n : ℕ) (t : Option TableRow) → AreOld m skips → m ≤ n →
    skips_table skips n t ≡ skips_table skips m t
same-test skips m n None old le = refl
same-test skips m n (Some t) old le = ap not (maintained-still skips m n t old le)

-- ---- tables that are not maintained stay

-- a table that is not maintained is the one of its id among these
abbrev pub IsLeft : List Skip → ℕ → Tables → Table → Type 0
IsLeft skips m all t = is_maintained skips m t.row ≡ false → unwrap_or (find (λ u. u.row.id == t.row.id) all) t ≡ t

abbrev pub AreLeft : List Skip → ℕ → Tables → Tables → Type 0
AreLeft skips m all ts = AllByRecursion (IsLeft skips m all) ts

abbrev pub AreLeftBy : {E : Type 0} → List Skip → ℕ → Tables → Result Tables E → Type 0
AreLeftBy skips m all (Ok ts) = AreLeft skips m all ts
AreLeftBy skips m all (Err e) = Unit {0}

-- the change is of a table that is maintained, or of none that is there
abbrev IsKept : List Skip → ℕ → Tables → Change → Type 0
IsKept skips m ts c = skips_table skips m (table_of (definitions_of ts) c.table) ≡ false

unskipped : (skips : List Skip) (m : ℕ) (t : TableRow) → skips_table skips m (Some t) ≡ false → is_maintained skips m t ≡ true
unskipped skips m t e = elim (is_maintained skips m t) as (λ b. not b ≡ false → b ≡ true) [
  | true ↦ λ given. refl
  | false ↦ λ given. absurd (cc)
] e

effect-row : (t u : Table) (c : Change) → (t.row.id == c.table) ≡ true → effect_on t c.op c.old c.new ≡ Ok u → u.row ≡ t.row
effect-row t u c is e =
    let one : effect (t ∷ []) c ≡ Ok (u ∷ []) =
    ap (λ b. if b then (effect_on t c.op c.old c.new >>= λ changed. Ok (changed ∷ [])) else
    (effect [] c >>= λ others. Ok (t ∷ others))) is
    ∙ ap (λ r. r >>= λ changed. Ok (changed ∷ [])) e in
    let same : u.row ∷ [] ≡ t.row ∷ [] = effect_same (t ∷ []) (u ∷ []) c one in
    cc

-- the changed table is maintained, as it was before
changed-left : (skips : List Skip) (m : ℕ) (all ts : Tables) (t : Table) (c : Change) → (t.row.id == c.table) ≡ true →
    is_maintained skips m t.row ≡ true → AreLeft skips m all ts → (r : Result Table Miss) →
    effect_on t c.op c.old c.new ≡ r → AreLeftBy skips m all (r >>= λ changed. Ok (changed ∷ ts))
changed-left skips m all ts t c is kept left (Ok u) e =
    let same : is_maintained skips m u.row ≡ true = ap (is_maintained skips m) (effect-row t u c is e) ∙ kept in
    (λ not_kept. absurd (cc), left)
changed-left skips m all ts t c is kept left (Err miss) e = tt

others-left : (skips : List Skip) (m : ℕ) (all : Tables) (t : Table) → IsLeft skips m all t → (r : Result Tables Miss) →
    AreLeftBy skips m all r → AreLeftBy skips m all (r >>= λ others. Ok (t ∷ others))
others-left skips m all t here (Ok ts) left = (here, left)
others-left skips m all t here (Err miss) left = tt

effect-left : (skips : List Skip) (m : ℕ) (all ts : Tables) (c : Change) → IsKept skips m ts c → AreLeft skips m all ts →
    AreLeftBy skips m all (effect ts c)
effect-left skips m all [] c kept left = tt
effect-left skips m all (t ∷ ts) c kept left =
    elim (t.row.id == c.table) as (λ b. (t.row.id == c.table) ≡ b →
    skips_table skips m (if b then Some t.row else table_of (definitions_of ts) c.table) ≡ false →
    AreLeftBy skips m all (if b then (effect_on t c.op c.old c.new >>= λ changed. Ok (changed ∷ ts))
    else (effect ts c >>= λ others. Ok (t ∷ others)))) [
      | true ↦ λ at test. changed-left skips m all ts t c at (unskipped skips m t.row test) left.1
          (effect_on t c.op c.old c.new) refl
      | false ↦ λ other test. others-left skips m all t left.0 (effect ts c) (effect-left skips m all ts c test left.1)
    ] refl kept

-- ---- the kept changes of a commit

abbrev AreKept : List Skip → ℕ → Tables → List Placed → Type 0
AreKept skips m ts ps = AllByRecursion (λ p. IsKept skips m ts p.1) ps

abbrev missed-at : Pos → Change → Miss → Missed
missed-at at c miss = record { pos = at; table = c.table; miss = miss }

kept-still : (skips : List Skip) (m : ℕ) (ts us : Tables) (ps : List Placed) → definitions_of us ≡ definitions_of ts →
    AreKept skips m ts ps → AreKept skips m us ps
kept-still skips m ts us [] same kept = tt
kept-still skips m ts us (p ∷ ps) same kept = (
  subst (λ ds. skips_table skips m (table_of ds p.1.table) ≡ false) (sym same) kept.0,
  kept-still skips m ts us ps same kept.1,
)

effects-left : (skips : List Skip) (m : ℕ) (all ts : Tables) (ps : List Placed) → AreKept skips m ts ps → AreLeft skips m all ts →
    AreLeftBy skips m all (effects ts ps)
effects-left skips m all ts [] kept left = left
effects-left skips m all ts ((at, c) ∷ ps) kept left =
    elim (effect ts c) as (λ r. effect ts c ≡ r → AreLeftBy skips m all r →
    AreLeftBy skips m all (map_err (missed-at at c) r >>= λ after. effects after ps)) [
      | Ok us ↦ λ is here. effects-left skips m all us ps (kept-still skips m ts us ps (effect_same ts us c is) kept.1) here
      | Err miss ↦ λ is here. tt
    ] refl (effect-left skips m all ts c kept.0 left)

or-second : (a b : Bool) → (a || b) ≡ false → b ≡ false
or-second false b e = e
or-second true b e = absurd (cc)

all-kept : (skips : List Skip) (m n : ℕ) (ts : Tables) (ps : List Placed) → AreOld m skips → m ≤ n →
    AreKept skips m ts (filter (λ p. not (is_skipped skips (definitions_of ts) n p)) ps)
all-kept skips m n ts [] old le = tt
all-kept skips m n ts (p ∷ ps) old le =
    elim (is_skipped skips (definitions_of ts) n p) as (λ b. is_skipped skips (definitions_of ts) n p ≡ b →
    AreKept skips m ts (cond (not b) (p ∷ filter (λ q. not (is_skipped skips (definitions_of ts) n q)) ps)
    (filter (λ q. not (is_skipped skips (definitions_of ts) n q)) ps))) [
      | true ↦ λ e. all-kept skips m n ts ps old le
      | false ↦ λ e. (
        sym (same-test skips m n (table_of (definitions_of ts) p.1.table) old le) ∙ or-second _ _ e,
        all-kept skips m n ts ps old le,
      )
    ] refl

-- commits, the first of which is the one behind n
pub commits-left : (skips : List Skip) (m n : ℕ) (all ts : Tables) (cs : List Committed) → AreOld m skips → m ≤ n →
    AreLeft skips m all ts → AreLeftBy skips m all (commit_effects skips n ts cs)
commits-left skips m n all ts [] old le left = left
commits-left skips m n all ts (c ∷ cs) old le left =
    elim (commit_effect skips n ts c) as (λ r. AreLeftBy skips m all r →
    AreLeftBy skips m all (r >>= λ after. commit_effects skips (n + 1) after cs)) [
      | Ok us ↦ λ here. commits-left skips m (n + 1) all us cs old (omega (arith, le)) here
      | Err missed ↦ λ here. tt
    ] (effects-left skips m all ts (kept_changes skips (definitions_of ts) n c)
    (all-kept skips m n ts c.txn.survivors old le) left)

-- ---- what is visible

shown-left : (skips : List Skip) (m n : ℕ) (all : Tables) (t : Table) → AreOld m skips → m ≤ n → IsLeft skips m all t →
    visible_table skips n all t ≡ t
shown-left skips m n all t old le left =
    elim (is_maintained skips n t.row) as (λ b. is_maintained skips n t.row ≡ b →
    (if b then t else unwrap_or (find (λ u. u.row.id == t.row.id) all) t) ≡ t) [
      | true ↦ λ is. refl
      | false ↦ λ is. left (sym (maintained-still skips m n t.row old le) ∙ is)
    ] refl

pub visible-left : (skips : List Skip) (m n : ℕ) (all ts : Tables) → AreOld m skips → m ≤ n → AreLeft skips m all ts →
    visible_tables skips n all ts ≡ ts
visible-left skips m n all [] old le left = refl
visible-left skips m n all (t ∷ ts) old le left =
    let here = shown-left skips m n all t old le left.0 in
    let rest = visible-left skips m n all ts old le left.1 in
    λ i. here i ∷ rest i

-- where each table shows local rows of none, it is itself
pub visible-without : (skips : List Skip) (n : ℕ) (ts : Tables) → visible_tables skips n [] ts ≡ ts
visible-without skips n [] = refl
visible-without skips n (t ∷ ts) =
    let rest = visible-without skips n ts in
    elim (is_maintained skips n t.row) as (λ b. ((if b then t else t) ∷ visible_tables skips n [] ts) ≡ t ∷ ts) [
      | true ↦ ap (λ us. t ∷ us) rest
      | false ↦ ap (λ us. t ∷ us) rest
    ]
