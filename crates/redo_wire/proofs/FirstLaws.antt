-- The first record of bytes stays the first when more bytes follow, and so does its fault.
use Rattle.std.proofs.Common.{◌≡◌, ℕ, ◌≤◌, Bool, true, false, List, [], ◌∷◌, ◌++◌, length, take, drop, Result, Ok, Err, refl, sym, ap, subst, ◌∙◌, arith}
use Rattle.std.specs.Prelude.{◌||◌, ◌==◌, nat_lt}
use Rattle.std.specs.Int.{w16, w32, from_be_bytes}
use Rattle.std.proofs.lemmas.Bool.{ltb-false, le-ltb}
use Rattle.std.proofs.lemmas.List.{length-append, length-drop, length-take-le, take_all, drop_all, take-append-drop, take-append-le, drop-append-le}
use Rattle.rl_value.specs.declared.cause.CutFault.{CutFault}
use Rattle.rl_value.specs.declared.cause.CutFault.TheVariants as cuts
use Rattle.rl_value.specs.Outcome.{first_fault, refused_by}
use Rattle.redo_vec.specs.Cutting.{number_in, first_record}

-- the four tests of the cutter in their order
abbrev Judged : Bool → Bool → Bool → Bool → List ℕ × List ℕ → Result (List ℕ × List ℕ) CutFault
Judged a b c d x = refused_by (first_fault ((a, cuts.Truncated) ∷ (b, cuts.Length) ∷ (c, cuts.Truncated) ∷ (d, cuts.Count) ∷ []))
    x

record Passed (a b c d : Bool) : Type 0 where
  some : a ≡ false
  size : b ≡ false
  whole : c ≡ false
  count : d ≡ false

passes : (a b c d : Bool) (x y : List ℕ × List ℕ) → Judged a b c d x ≡ Ok y → Passed a b c d × (x ≡ y)
passes true b c d x y e = absurd cc
passes false true c d x y e = absurd cc
passes false false true d x y e = absurd cc
passes false false false true x y e = absurd cc
passes false false false false x y e = (record { some = refl; size = refl; whole = refl; count = refl }, cc)

judged_ok : (a b c d : Bool) (x : List ℕ × List ℕ) → a ≡ false → b ≡ false → c ≡ false → d ≡ false → Judged a b c d x ≡ Ok x
judged_ok a b c d x p q r s = rw (p, q, r, s) refl

judged_length : (a b c d : Bool) (x : List ℕ × List ℕ) → a ≡ false → b ≡ true → Judged a b c d x ≡ Err cuts.Length
judged_length a b c d x p q = rw (p, q) refl

judged_count : (a b c d : Bool) (x : List ℕ × List ℕ) → a ≡ false → b ≡ false → c ≡ false → d ≡ true →
    Judged a b c d x ≡ Err cuts.Count
judged_count a b c d x p q r s = rw (p, q, r, s) refl

is_length : (a b c d : Bool) (x : List ℕ × List ℕ) → Judged a b c d x ≡ Err cuts.Length → (a ≡ false) × (b ≡ true)
is_length true b c d x e = absurd cc
is_length false true c d x e = (refl, refl)
is_length false false true d x e = absurd cc
is_length false false false true x e = absurd cc
is_length false false false false x e = absurd cc

is_count : (a b c d : Bool) (x : List ℕ × List ℕ) → Judged a b c d x ≡ Err cuts.Count → (a ≡ false) × (b ≡ false) ×
    (c ≡ false) × (d ≡ true)
is_count true b c d x e = absurd cc
is_count false true c d x e = absurd cc
is_count false false true d x e = absurd cc
is_count false false false true x e = (refl, refl, refl, refl)
is_count false false false false x e = absurd cc

no_trailing : (a b c d : Bool) (x : List ℕ × List ℕ) → Judged a b c d x ≡ Err cuts.Trailing → ⊥
no_trailing true b c d x e = cc
no_trailing false true c d x e = cc
no_trailing false false true d x e = cc
no_trailing false false false true x e = cc
no_trailing false false false false x e = cc

size_more : (a b : List ℕ) → 4 ≤ length a → number_in w32 0 (a ++ b) ≡ number_in w32 0 a
size_more [] b h = absurd (omega arith)
size_more (x ∷ []) b h = absurd (omega arith)
size_more (x ∷ y ∷ []) b h = absurd (omega arith)
size_more (x ∷ y ∷ z ∷ []) b h = absurd (omega arith)
size_more (x ∷ y ∷ z ∷ w ∷ a) b h = refl

two_more : (a b : List ℕ) → 2 ≤ length a → from_be_bytes w16 (a ++ b) ≡ from_be_bytes w16 a
two_more [] b h = absurd (omega arith)
two_more (x ∷ []) b h = absurd (omega arith)
two_more (x ∷ y ∷ a) b h = refl

count_more : (a b : List ℕ) → 14 ≤ length a → number_in w16 12 (a ++ b) ≡ number_in w16 12 a
count_more a b h = ap (from_be_bytes w16) (drop-append-le 12 a b (omega arith)) ∙
    two_more (drop 12 a) b (omega (arith, length-drop 12 a))

abbrev bad_size : ℕ → Bool
bad_size n = nat_lt n 15 || nat_lt 65536 n

abbrev bad_count : ℕ → Bool
bad_count n = n == 0 || nat_lt 255 n

neither : (a b : Bool) → (a || b) ≡ false → (a ≡ false) × (b ≡ false)
neither true b e = absurd cc
neither false b e = (refl, e)

longer : (a b : List ℕ) (n : ℕ) → nat_lt (length a) n ≡ false → nat_lt (length (a ++ b)) n ≡ false
longer a b n e = let h : n ≤ length a = ltb-false _ _ e in le-ltb _ _ (omega (arith, length-append a b))

pub first_more : (a b : List ℕ) (x : List ℕ × List ℕ) → first_record a ≡ Ok x → first_record (a ++ b) ≡ Ok (x.0, x.1 ++ b)
first_more a b x e =
    let size = number_in w32 0 a in
    let p = passes (nat_lt (length a) 4) (bad_size (number_in w32 0 a)) (nat_lt (length a) (number_in w32 0 a))
    (bad_count (number_in w16 12 a)) (take (number_in w32 0 a) a, drop (number_in w32 0 a) a) x e in
    let four : 4 ≤ length a = ltb-false _ _ p.0.some in
    let sizes : number_in w32 0 (a ++ b) ≡ number_in w32 0 a = size_more a b four in
    let low : 15 ≤ number_in w32 0 a = ltb-false _ _ (neither _ _ p.0.size).0 in
    let long : number_in w32 0 a ≤ length a = ltb-false _ _ p.0.whole in
    let counts : number_in w16 12 (a ++ b) ≡ number_in w16 12 a = count_more a b (omega arith) in
    let front : take (number_in w32 0 (a ++ b)) (a ++ b) ≡ x.0 =
    ap (λ (n : ℕ). take n (a ++ b)) sizes ∙ take-append-le (number_in w32 0 a) a b long ∙
    ap (λ (y : List ℕ × List ℕ). y.0) p.1 in
    let rest : drop (number_in w32 0 (a ++ b)) (a ++ b) ≡ x.1 ++ b =
    ap (λ (n : ℕ). drop n (a ++ b)) sizes ∙ drop-append-le (number_in w32 0 a) a b long ∙
    ap (λ (y : List ℕ × List ℕ). y.1 ++ b) p.1 in
    let ok = judged_ok (nat_lt (length (a ++ b)) 4) (bad_size (number_in w32 0 (a ++ b)))
    (nat_lt (length (a ++ b)) (number_in w32 0 (a ++ b))) (bad_count (number_in w16 12 (a ++ b)))
    (take (number_in w32 0 (a ++ b)) (a ++ b), drop (number_in w32 0 (a ++ b)) (a ++ b))
    (longer a b 4 p.0.some) (ap bad_size sizes ∙ p.0.size)
    (ap (λ (n : ℕ). nat_lt (length (a ++ b)) n) sizes ∙ longer a b (number_in w32 0 a) p.0.whole)
    (ap bad_count counts ∙ p.0.count) in
    ok ∙ ap (λ (f : List ℕ). Ok (f, drop (number_in w32 0 (a ++ b)) (a ++ b))) front ∙ ap (λ (r : List ℕ). Ok (x.0, r)) rest

pub length_more : (a b : List ℕ) → first_record a ≡ Err cuts.Length → first_record (a ++ b) ≡ Err cuts.Length
length_more a b e =
    let p = is_length (nat_lt (length a) 4) (bad_size (number_in w32 0 a)) (nat_lt (length a) (number_in w32 0 a))
    (bad_count (number_in w16 12 a)) (take (number_in w32 0 a) a, drop (number_in w32 0 a) a) e in
    let sizes : number_in w32 0 (a ++ b) ≡ number_in w32 0 a = size_more a b (ltb-false _ _ p.0) in
    judged_length (nat_lt (length (a ++ b)) 4) (bad_size (number_in w32 0 (a ++ b)))
    (nat_lt (length (a ++ b)) (number_in w32 0 (a ++ b))) (bad_count (number_in w16 12 (a ++ b)))
    (take (number_in w32 0 (a ++ b)) (a ++ b), drop (number_in w32 0 (a ++ b)) (a ++ b))
    (longer a b 4 p.0) (ap bad_size sizes ∙ p.1)

pub count_fault_more : (a b : List ℕ) → first_record a ≡ Err cuts.Count → first_record (a ++ b) ≡ Err cuts.Count
count_fault_more a b e =
    let p = is_count (nat_lt (length a) 4) (bad_size (number_in w32 0 a)) (nat_lt (length a) (number_in w32 0 a))
    (bad_count (number_in w16 12 a)) (take (number_in w32 0 a) a, drop (number_in w32 0 a) a) e in
    let sizes : number_in w32 0 (a ++ b) ≡ number_in w32 0 a = size_more a b (ltb-false _ _ p.0) in
    let low : 15 ≤ number_in w32 0 a = ltb-false _ _ (neither _ _ p.1).0 in
    let long : number_in w32 0 a ≤ length a = ltb-false _ _ p.2 in
    let counts : number_in w16 12 (a ++ b) ≡ number_in w16 12 a = count_more a b (omega arith) in
    judged_count (nat_lt (length (a ++ b)) 4) (bad_size (number_in w32 0 (a ++ b)))
    (nat_lt (length (a ++ b)) (number_in w32 0 (a ++ b))) (bad_count (number_in w16 12 (a ++ b)))
    (take (number_in w32 0 (a ++ b)) (a ++ b), drop (number_in w32 0 (a ++ b)) (a ++ b))
    (longer a b 4 p.0) (ap bad_size sizes ∙ p.1) (ap (λ (n : ℕ). nat_lt (length (a ++ b)) n) sizes ∙
    longer a b (number_in w32 0 a) p.2) (ap bad_count counts ∙ p.3)

pub never_trailing : (a : List ℕ) → first_record a ≡ Err cuts.Trailing → ⊥
never_trailing a e = no_trailing (nat_lt (length a) 4) (bad_size (number_in w32 0 a)) (nat_lt (length a) (number_in w32 0 a))
    (bad_count (number_in w16 12 a)) (take (number_in w32 0 a) a, drop (number_in w32 0 a) a) e

-- the first record by itself is one record, with nothing behind it
pub alone : (a : List ℕ) (x : List ℕ × List ℕ) → first_record a ≡ Ok x → first_record x.0 ≡ Ok (x.0, [])
alone a x e =
    let p = passes (nat_lt (length a) 4) (bad_size (number_in w32 0 a)) (nat_lt (length a) (number_in w32 0 a))
    (bad_count (number_in w16 12 a)) (take (number_in w32 0 a) a, drop (number_in w32 0 a) a) x e in
    let low : 15 ≤ number_in w32 0 a = ltb-false _ _ (neither _ _ p.0.size).0 in
    let long : number_in w32 0 a ≤ length a = ltb-false _ _ p.0.whole in
    let f : List ℕ = take (number_in w32 0 a) a in
    let joined : f ++ drop (number_in w32 0 a) a ≡ a = take-append-drop (number_in w32 0 a) a in
    let size : length f ≡ number_in w32 0 a = length-take-le (number_in w32 0 a) a long in
    let sizes : number_in w32 0 f ≡ number_in w32 0 a = sym (size_more f (drop (number_in w32 0 a) a) (omega arith)) ∙
    ap (number_in w32 0) joined in
    let counts : number_in w16 12 f ≡ number_in w16 12 a =
    sym (count_more f (drop (number_in w32 0 a) a) (omega arith)) ∙ ap (number_in w16 12) joined in
    let all : take (number_in w32 0 f) f ≡ f = take_all (number_in w32 0 f) f (omega arith) in
    let none : drop (number_in w32 0 f) f ≡ [] = drop_all (number_in w32 0 f) f (omega arith) in
    let ok : first_record f ≡ Ok (take (number_in w32 0 f) f, drop (number_in w32 0 f) f) =
    judged_ok (nat_lt (length f) 4) (bad_size (number_in w32 0 f)) (nat_lt (length f) (number_in w32 0 f))
    (bad_count (number_in w16 12 f)) (take (number_in w32 0 f) f, drop (number_in w32 0 f) f)
    (le-ltb _ _ (omega arith)) (ap bad_size sizes ∙ p.0.size) (le-ltb _ _ (omega arith)) (ap bad_count counts ∙ p.0.count) in
    let only : first_record f ≡ Ok (f, []) = ok ∙ ap (λ (y : List ℕ). Ok (y, drop (number_in w32 0 f) f)) all ∙
    ap (λ (y : List ℕ). Ok (f, y)) none in
    let is : f ≡ x.0 = ap (λ (y : List ℕ × List ℕ). y.0) p.1 in
    subst (λ (y : List ℕ). first_record y ≡ Ok (y, [])) is only
