-- Laws of the fold: one commit more.
use Rattle.std.proofs.Common.{◌≡◌, ℕ, ◌+◌, ◌-◌, suc, ◌≤◌, ◌<◌, List, [], ◌∷◌, ◌++◌, take, drop, length, get_or, arith, ap, ◌∙◌, refl, Ok, Err, None, Result}
use Rattle.std.proofs.lemmas.List.{take_more}
use Rattle.std.proofs.lemmas.Grind.{common_steps}
use Rattle.rl_value.specs.Outcome.{◌>>=◌, map_err}
use Rattle.redo_spec.specs.Tables.{Tables}
use Rattle.redo_spec.specs.Effect.{effect}
use Rattle.redo_spec.specs.History.{Placed, Committed, Commits, commit_count}
use Rattle.redo_spec.specs.Skips.{Skip}
use Rattle.redo_spec.specs.Fold.{Base, effects, commit_effect, commit_effects, tables_at, stop_at, reached, reached_or}

-- what is there is there, when nothing is done with it
bind_ok : {A E : Type 0} (r : Result A E) → (r >>= λ x. Ok x) ≡ r
bind_ok (Ok x) = refl
bind_ok (Err e) = refl

-- changes one after another
pub effects-append : (tables : Tables) (ps qs : List Placed) →
    effects tables (ps ++ qs) ≡ (effects tables ps >>= λ after. effects after qs)
effects-append tables [] qs = refl
effects-append tables ((at, c) ∷ ps) qs =
    elim (effect tables c) as (λ r. (map_err (λ miss. record { pos = at; table = c.table; miss = miss }) r >>=
    λ after. effects after (ps ++ qs))
    ≡ ((map_err (λ miss. record { pos = at; table = c.table; miss = miss }) r >>= λ after. effects after ps) >>=
    λ after. effects after qs)) [
      | Ok after ↦ effects-append after ps qs
      | Err miss ↦ refl
    ]

-- commits one after another, and one more
pub commit_effects-snoc : (skips : List Skip) (n : ℕ) (tables : Tables) (cs : List Committed) (c : Committed) →
    commit_effects skips n tables (cs ++ c ∷ []) ≡ (commit_effects skips n tables cs >>=
    λ after. commit_effect skips (n + length cs) after c)
commit_effects-snoc skips n tables [] c =
    let here : n ≡ n + 0 = omega arith in
    bind_ok (commit_effect skips n tables c) ∙ ap (λ k. commit_effect skips k tables c) here
commit_effects-snoc skips n tables (d ∷ ds) c =
    let next : (n + 1) + length ds ≡ n + suc (length ds) = omega arith in
    elim (commit_effect skips n tables d) as (λ r. (r >>= λ after. commit_effects skips (n + 1) after (ds ++ c ∷ []))
    ≡ ((r >>= λ after. commit_effects skips (n + 1) after ds) >>= λ after. commit_effect skips (n + suc (length ds)) after c)) [
      | Ok after ↦ commit_effects-snoc skips (n + 1) after ds c ∙
          ap (λ k. commit_effects skips (n + 1) after ds >>= λ u. commit_effect skips k u c) next
      | Err miss ↦ refl
    ]

-- At one commit more the tables are those of before with its kept changes.
pub tables_at-next : (b : Base) (skips : List Skip) (cs : Commits) (n : ℕ) (c : Committed) → cs.before ≤ b.n → b.n ≤ n →
    n < commit_count cs → get_or cs.made (n - cs.before) c ≡ c →
    tables_at b skips cs (n + 1) ≡ (tables_at b skips cs n >>= λ tables. commit_effect skips n tables c)
tables_at-next b skips cs n c first from here is =
    let k = n - b.n in
    let more = drop (b.n - cs.before) cs.made in
    let steps : (n + 1) - b.n ≡ k + 1 = omega (arith, from) in
    let inside : k < length more = grind (arith, common_steps) in
    let place : (b.n - cs.before) + k ≡ n - cs.before = omega (arith, first, from) in
    let found : get_or more k c ≡ c = grind (arith, common_steps) in
    let one : take (k + 1) more ≡ take k more ++ c ∷ [] = take_more more k c inside ∙ ap (λ d. take k more ++ d ∷ []) found in
    let count : b.n + length (take k more) ≡ n = grind (arith, common_steps) in
    ap (λ m. commit_effects skips b.n b.tables (take m more)) steps
    ∙ ap (λ ds. commit_effects skips b.n b.tables ds) one
    ∙ commit_effects-snoc skips b.n b.tables (take k more) c
    ∙ ap (λ m. commit_effects skips b.n b.tables (take k more) >>= λ tables. commit_effect skips m tables c) count

-- a fold that nothing stops comes to the end
pub reached-all : (b : Base) (skips : List Skip) (cs : Commits) (n : ℕ) (more : List Committed) →
    ((k : ℕ) → n ≤ k → k < n + length more → stop_at b skips cs (k + 1) ≡ None) →
    reached b skips cs n more ≡ record { n = n + length more; stop = None }
reached-all b skips cs n [] none = ap (λ k. record { n = k; stop = None }) (omega arith)
reached-all b skips cs n (c ∷ more) none =
    let next : (n + 1) + length more ≡ n + suc (length more) = omega arith in
    ap (λ o. reached_or o n (reached b skips cs (n + 1) more)) (none n (omega arith) (omega arith))
    ∙ reached-all b skips cs (n + 1) more (λ k from here. none k (omega (arith, from)) (omega (arith, here)))
    ∙ ap (λ k. record { n = k; stop = None }) next
