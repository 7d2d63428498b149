-- Texts that are put together piece by piece.
use Rattle.std.proofs.Common.{◌≡◌, ℕ, List, ◌++◌, append_assoc, ap, ◌∙◌, Result, Ok, Err, OnOk}

-- one piece after another
pub appended : (old mid new a b : List ℕ) → mid ≡ old ++ a → new ≡ mid ++ b → new ≡ old ++ (a ++ b)
appended old mid new a b first second = second ∙ ap (λ m. m ++ b) first ∙ append_assoc old a b

-- the same of a last piece that may not come
pub appended_on_ok : {T E : Type 0} (r : Result T E) (old mid new a b : List ℕ) → mid ≡ old ++ a → OnOk r (new ≡ mid ++ b) →
    OnOk r (new ≡ old ++ (a ++ b))
appended_on_ok (Ok x) old mid new a b first second = appended old mid new a b first second
appended_on_ok (Err e) old mid new a b first second = tt
