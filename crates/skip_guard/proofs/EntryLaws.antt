-- Laws of the tests over entries: what a test finds among the rules that entries say, and by a table's full name.
use Rattle.std.proofs.Common.{◌≡◌, ◌≤◌, ◌<◌, ℕ, List, [], ◌∷◌, ◌++◌, Bool, true, false, not, ◌&&◌, ◌||◌, nat_le, map, length, refl, ap, sym, ◌∙◌, subst, arith, length-append}
use Rattle.std.proofs.lemmas.Bool.{and_parts, and_from, or_parts, or_from, not-true, not_from_false}
use Rattle.std.proofs.lemmas.Bool.Decides.{nat_tests}
use Rattle.std.proofs.lemmas.List.{length-map}
use Rattle.std.proofs.lemmas.List.Folds.{list_any-append}
use Rattle.std.specs.List.{list_any}
use Rattle.redo_vec.specs.declared.table.TableRow.{TableRow}
use Rattle.redo_spec.specs.Skips.{Rule, Tables, Transaction, Skip, names_table, full_name, has_rule, same_rule, skip_limit}
use Rattle.skip_guard.specs.declared.entry.SkipEntry.{SkipEntry}
use Rattle.skip_guard.specs.Rules.{names_text, skip_of, rule_of, rules_differ, are_skips}

-- a test of what stands for the elements
pub any_of_map : {X Y : Type 0} (f : Y → Bool) (g : X → Y) (xs : List X) → list_any f (map g xs) ≡ list_any (λ x. f (g x)) xs
any_of_map f g [] = refl
any_of_map f g (x ∷ xs) = ap (λ b. f (g x) || b) (any_of_map f g xs)

-- a rule names a table by its full name
named : (rule : Rule) (t : TableRow) → names_text rule (full_name t) ≡ names_table rule t
named (Tables pattern) t = refl
named (Transaction x) t = refl

-- and so do the rules that count
pub any_named : (at : ℕ) (t : TableRow) (skips : List Skip) →
    list_any (λ s. nat_le s.from at && names_text s.rule (full_name t)) skips ≡
    list_any (λ s. nat_le s.from at && names_table s.rule t) skips
any_named at t [] = refl
any_named at t (s ∷ ss) =
    ap (λ b. (nat_le s.from at && b) || list_any (λ s. nat_le s.from at && names_text s.rule (full_name t)) ss) (named s.rule t)
    ∙ ap (λ b. (nat_le s.from at && names_table s.rule t) || b) (any_named at t ss)

-- one more rule that none equals
pub differ_with : (skips : List Skip) (more : Skip) → rules_differ skips ≡ true → has_rule skips more.rule ≡ false →
    rules_differ (skips ++ more ∷ []) ≡ true
differ_with [] more e new = refl
differ_with (s ∷ ss) more e new =
    let parts = and_parts (not (list_any (λ t. same_rule s.rule t.rule) ss)) (rules_differ ss) e in
    let apart = or_parts (same_rule s.rule more.rule) (has_rule ss more.rule) new in
    let none = or_from (list_any (λ t. same_rule s.rule t.rule) ss) (same_rule s.rule more.rule || false) (not-true _ parts.0)
    (or_from (same_rule s.rule more.rule) false apart.0 refl) in
    and_from _ (rules_differ (ss ++ more ∷ []))
    (not_from_false _ (list_any-append (λ t. same_rule s.rule t.rule) ss (more ∷ []) ∙ none))
    (differ_with ss more parts.1 apart.1)

-- what stands for the elements, with one more
pub map_with : {X Y : Type 0} (f : X → Y) (xs : List X) (x : X) → map f (xs ++ x ∷ []) ≡ map f xs ++ f x ∷ []
map_with f [] x = refl
map_with f (y ∷ ys) x = ap (λ zs. f y ∷ zs) (map_with f ys x)

-- within the limit
pub skips_with : (entries : List SkipEntry) (more : SkipEntry) → are_skips (map skip_of entries) ≡ true →
    has_rule (map skip_of entries) (rule_of more.rule) ≡ false → length entries < 256 →
    are_skips (map skip_of (entries ++ more ∷ [])) ≡ true
skips_with entries more e new room =
    let parts = and_parts (nat_le (length (map skip_of entries)) skip_limit) (rules_differ (map skip_of entries)) e in
    let few : length (map skip_of (entries ++ more ∷ [])) ≤ 256 = simp (length-map, length-append) (omega arith) in
    and_from _ _ (grind (arith, nat_tests, few))
    (subst (λ s. rules_differ s ≡ true) (sym (map_with skip_of entries more))
    (differ_with (map skip_of entries) (skip_of more) parts.1 new))

-- not once more
pub not_twice : (b : Bool) → b ≡ not (not b)
not_twice true = refl
not_twice false = refl
