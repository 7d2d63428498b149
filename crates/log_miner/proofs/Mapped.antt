-- A list of which each item is changed in its turn.
use Rattle.std.proofs.Common.{◌≡◌, ℕ, ◌+◌, ◌<◌, zero, suc, List, [], ◌∷◌, ◌++◌, length, take, drop, map, get_or, set, refl, ap, ◌∙◌, arith}

step : {A : Type 0} (f : A → A) (all : List A) (i : ℕ) (d : A) → i < length all →
    set (map f (take i all) ++ drop i all) i (f (get_or (map f (take i all) ++ drop i all) i d)) ≡
    map f (take (suc i) all) ++ drop (suc i) all
step f [] i d h = absurd (omega arith)
step f (a ∷ xs) zero d h = refl
step f (a ∷ xs) (suc i) d h = ap (λ l. f a ∷ l) (step f xs i d (omega arith))

-- one more is changed
pub changed_next : {A : Type 0} (f : A → A) (all now : List A) (i : ℕ) (d y : A) → i < length all →
    now ≡ map f (take i all) ++ drop i all → y ≡ f (get_or now i d) →
    set now i y ≡ map f (take (i + 1) all) ++ drop (i + 1) all
changed_next f all now i d y h so_far changed =
    let next : suc i ≡ i + 1 = omega arith in
    ap (set now i) changed
    ∙ ap (λ l. set l i (f (get_or l i d))) so_far
    ∙ step f all i d h
    ∙ ap (λ n. map f (take n all) ++ drop n all) next
