-- Laws of skip rules: a rule that counts from a later commit changes nothing before it.
use Rattle.std.proofs.Common.{◌≡◌, ℕ, ◌+◌, ◌-◌, ◌≤◌, ◌<◌, List, [], ◌∷◌, ◌++◌, take, length, filter, ap, ◌∙◌, refl, Bool, false, cond, not, ◌||◌, ◌&&◌, nat_le, Option, Some, None, Ok, Err, arith}
use Rattle.std.proofs.lemmas.Bool.Decides.{nat_tests}
use Rattle.std.proofs.lemmas.Grind.{common_steps}
use Rattle.std.specs.List.{list_any}
use Rattle.rl_value.specs.Outcome.{◌>>=◌}
use Rattle.redo_vec.specs.declared.table.TableRow.{TableRow}
use Rattle.redo_spec.specs.Dictionary.{table_of}
use Rattle.redo_spec.specs.History.{Placed, Committed, Commits, commits_after}
use Rattle.redo_spec.specs.Skips.{Skip, names_table, names_xid, is_maintained, skips_table, is_skipped, kept_changes}
use Rattle.redo_spec.specs.Tables.{Tables, definitions_of}
use Rattle.redo_spec.specs.Fold.{Base, effects, commit_effect, commit_effects, tables_at}

-- one more that does not pass the test
any-more : {A : Type 0} (f : A → Bool) (xs : List A) (x : A) → f x ≡ false → list_any f (xs ++ x ∷ []) ≡ list_any f xs
any-more f [] x e = ap (λ b. b || false) e
any-more f (y ∷ ys) x e = ap (λ b. f y || b) (any-more f ys x e)

pub filter-same : {A : Type 0} (f g : A → Bool) → ((x : A) → f x ≡ g x) → (xs : List A) → filter f xs ≡ filter g xs
filter-same f g same [] = refl
filter-same f g same (x ∷ xs) = ap (λ ys. cond (f x) (x ∷ ys) ys) (filter-same f g same xs) ∙
    ap (λ b. cond b (x ∷ filter g xs) (filter g xs)) (same x)

later-le : (n from : ℕ) → n < from → nat_le from n ≡ false
later-le n from later = grind (arith, nat_tests)

maintained-more : (skips : List Skip) (s : Skip) (n : ℕ) (t : TableRow) → n < s.from →
    is_maintained (skips ++ s ∷ []) n t ≡ is_maintained skips n t
maintained-more skips s n t later =
    ap not (any-more (λ u. nat_le u.from n && names_table u.rule t) skips s
    (ap (λ b. b && names_table s.rule t) (later-le n s.from later)))

skips_table-more : (skips : List Skip) (s : Skip) (n : ℕ) (t : Option TableRow) → n < s.from →
    skips_table (skips ++ s ∷ []) n t ≡ skips_table skips n t
skips_table-more skips s n None later = refl
skips_table-more skips s n (Some t) later = ap not (maintained-more skips s n t later)

skipped-more : (skips : List Skip) (s : Skip) (rows : List TableRow) (n : ℕ) → n < s.from → (p : Placed) →
    is_skipped (skips ++ s ∷ []) rows n p ≡ is_skipped skips rows n p
skipped-more skips s rows n later p =
    ap (λ b. b || skips_table (skips ++ s ∷ []) n (table_of rows p.1.table))
    (any-more (λ u. nat_le u.from n && names_xid u.rule p.1.xid) skips s
    (ap (λ b. b && names_xid s.rule p.1.xid) (later-le n s.from later)))
    ∙ ap (λ b. list_any (λ u. nat_le u.from n && names_xid u.rule p.1.xid) skips || b)
    (skips_table-more skips s n (table_of rows p.1.table) later)

kept-more : (skips : List Skip) (s : Skip) (rows : List TableRow) (n : ℕ) (c : Committed) → n < s.from →
    kept_changes (skips ++ s ∷ []) rows n c ≡ kept_changes skips rows n c
kept-more skips s rows n c later =
    filter-same (λ p. not (is_skipped (skips ++ s ∷ []) rows n p)) (λ p. not (is_skipped skips rows n p))
    (λ p. ap not (skipped-more skips s rows n later p)) c.txn.survivors

commits-more : (skips : List Skip) (s : Skip) (n : ℕ) (tables : Tables) (cs : List Committed) → n + length cs ≤ s.from →
    commit_effects (skips ++ s ∷ []) n tables cs ≡ commit_effects skips n tables cs
commits-more skips s n tables [] later = refl
commits-more skips s n tables (c ∷ cs) later =
    ap (λ ps. effects tables ps >>= λ after. commit_effects (skips ++ s ∷ []) (n + 1) after cs)
    (kept-more skips s (definitions_of tables) n c (omega (arith, later)))
    ∙ elim (commit_effect skips n tables c) as (λ r. (r >>= λ after. commit_effects (skips ++ s ∷ []) (n + 1) after cs) ≡
    (r >>= λ after. commit_effects skips (n + 1) after cs)) [
      | Ok after ↦ commits-more skips s (n + 1) after cs (omega (arith, later))
      | Err missed ↦ refl
    ]

-- A rule that counts from the commit after n leaves the tables of each count up to n.
pub tables_at-more : (b : Base) (skips : List Skip) (s : Skip) (cs : Commits) (n : ℕ) → b.n ≤ n → n ≤ s.from →
    tables_at b (skips ++ s ∷ []) cs n ≡ tables_at b skips cs n
tables_at-more b skips s cs n from later =
    let short : length (take (n - b.n) (commits_after cs b.n)) ≤ n - b.n = grind (arith, common_steps) in
    commits-more skips s b.n b.tables (take (n - b.n) (commits_after cs b.n)) (omega (arith, from, later, short))
