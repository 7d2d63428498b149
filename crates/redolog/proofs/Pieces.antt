-- Fronts of a text, one behind the other.
use Rattle.std.proofs.Common.{◌≡◌, ℕ, ◌+◌, ◌-◌, List, ◌++◌, take, drop, length, sym, ap, ◌∙◌, arith}
use Rattle.std.proofs.lemmas.Grind.{common_steps}
use Rattle.std.proofs.Math.Seq.{take-add}

whole : (xs : List ℕ) (a : ℕ) → take (length xs - a) (drop a xs) ≡ drop a xs
whole xs a = grind (arith, common_steps)

-- a front, and then a front of what is behind it
pub take-more : (xs : List ℕ) (a n : ℕ) → take (a + n) xs ≡ take a xs ++ take n (take (length xs - a) (drop a xs))
take-more xs a n = take-add a n xs ∙ ap (λ ys. take a xs ++ take n ys) (sym (whole xs a))
