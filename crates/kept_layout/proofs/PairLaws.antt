-- A test that is made after another one.
use Rattle.std.proofs.Common.{◌≡◌, Bool, true, sym, ap, ◌∙◌}
use Rattle.std.specs.Prelude.{◌&&◌}

pub both : (first next found : Bool) → first ≡ true → found ≡ next → found ≡ (first && next)
both first next found right is = is ∙ sym (ap (λ b. b && next) right)
