-- The numbers of events: one more keeps them in order, and so does dropping the oldest.
use Rattle.std.proofs.Common.{◌≡◌, ℕ, suc, zero, ◌-◌, List, [], ◌∷◌, ◌++◌, length, drop, Bool, true, false, refl}
use Rattle.std.specs.Prelude.{◌&&◌, ◌==◌, IsTrue}
use Rattle.std.proofs.lemmas.Bool.Decides.{nat_tests}
use Rattle.std.proofs.Common.{arith}
use Rattle.circular_buffer.specs.Buffer.{keep_last}
use Rattle.rl_base.specs.Events.{next_event_number, follow, are_numbered}

both : (a b : Bool) → a ≡ true → b ≡ true → (a && b) ≡ true
both true b p q = q
both false b p q = p

first : (a b : Bool) → (a && b) ≡ true → a ≡ true
first true b p = refl
first false b p = p

second : (a b : Bool) → (a && b) ≡ true → b ≡ true
second true b p = p
second false b p = cc

same : (n : ℕ) → (n == n) ≡ true
same n = grind (arith, nat_tests)

next_too : (a b : ℕ) → (a == b) ≡ true → (next_event_number b == next_event_number a) ≡ true
next_too a b h = let e : a ≡ b = grind (arith, nat_tests) in rw e (same (next_event_number b))

one_more : (c b : ℕ) (line : List ℕ) (es : List (ℕ × List ℕ)) → follow c b es ≡ true →
    follow (next_event_number c) b (es ++ (next_event_number c, line) ∷ []) ≡ true
one_more c b line [] h = both _ _ (next_too b c h) (same (next_event_number c))
one_more c b line (e ∷ es) h = both _ _ (first _ _ h) (one_more c e.0 line es (second _ _ h))

appended : (c : ℕ) (line : List ℕ) (es : List (ℕ × List ℕ)) → are_numbered c es ≡ true →
    are_numbered (next_event_number c) (es ++ (next_event_number c, line) ∷ []) ≡ true
appended c line [] h = same (next_event_number c)
appended c line (e ∷ es) h = one_more c e.0 line es h

rest : (c : ℕ) (e : ℕ × List ℕ) (es : List (ℕ × List ℕ)) → are_numbered c (e ∷ es) ≡ true → are_numbered c es ≡ true
rest c e [] h = refl
rest c e (x ∷ xs) h = second _ _ h

dropped : (n c : ℕ) (es : List (ℕ × List ℕ)) → are_numbered c es ≡ true → are_numbered c (drop n es) ≡ true
dropped zero c es h = h
dropped (suc n) c [] h = refl
dropped (suc n) c (e ∷ es) h = dropped n c es (rest c e es h)

-- the numbers after one more event
pub numbered-noted : (c : ℕ) (line : List ℕ) (es : List (ℕ × List ℕ)) → IsTrue (are_numbered c es) →
    IsTrue (are_numbered (next_event_number c) (keep_last 100 (es ++ (next_event_number c, line) ∷ [])))
numbered-noted c line es h = dropped (length (es ++ (next_event_number c, line) ∷ []) - 100) (next_event_number c)
    (es ++ (next_event_number c, line) ∷ []) (appended c line es h)
