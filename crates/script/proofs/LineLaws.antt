-- Laws of lines: bytes before the first of them, and how a line ends.
use Rattle.std.proofs.Common.{◌≡◌, ℕ, ◌+◌, ◌-◌, ◌<◌, ◌≤◌, true, false, List, [], ◌∷◌, ◌++◌, length, get_or, take, drop, Some, None, zero, suc, refl, ap, ◌∙◌, arith}
use Rattle.std.specs.Prelude.{◌==◌}
use Rattle.std.proofs.Math.ListN.{drop_of_length-le}
use Rattle.std.proofs.lemmas.List.{take_all, take_rest}
use Rattle.std.specs.Option.{option_map}
use Rattle.script.specs.Lines.{in_first, lines_of, without_last}

-- these bytes before the first of the lines
abbrev pub in_front : List ℕ → List (List ℕ) → List (List ℕ)
in_front [] lines = lines
in_front (b ∷ bytes) lines = in_first b (in_front bytes lines)

pub front_ended : (p : List ℕ) (b : ℕ) (lines : List (List ℕ)) → in_front p ((b ∷ []) ∷ lines) ≡ (p ++ b ∷ []) ∷ lines
front_ended [] b lines = refl
front_ended (c ∷ p) b lines = ap (in_first c) (front_ended p b lines)

pub front_more : (p : List ℕ) (b : ℕ) (lines : List (List ℕ)) → in_front p (in_first b lines) ≡ in_front (p ++ b ∷ []) lines
front_more [] b lines = refl
front_more (c ∷ p) b lines = ap (in_first c) (front_more p b lines)

pub front_alone : (b : ℕ) (p : List ℕ) → in_front (b ∷ p) [] ≡ (b ∷ p) ∷ []
front_alone b [] = refl
front_alone b (c ∷ p) = ap (in_first b) (front_alone c p)

ended_here : (n : ℕ) (bytes : List ℕ) (d : ℕ) → n < length bytes → (get_or bytes n d == 10) ≡ true →
    in_front (take n bytes) (lines_of (drop n bytes)) ≡ take (n + 1) bytes ∷ lines_of (drop (n + 1) bytes)
ended_here n [] d low ends = absurd (omega arith)
ended_here zero (b ∷ bytes) d low ends = rw ends refl
ended_here (suc n) (b ∷ bytes) d low ends =
    let on : suc n + 1 ≡ suc (n + 1) = omega arith in
    rw on (ap (in_first b) (ended_here n bytes d (omega arith) ends))

not_here : (n : ℕ) (bytes : List ℕ) (d : ℕ) → n < length bytes → (get_or bytes n d == 10) ≡ false →
    in_front (take n bytes) (lines_of (drop n bytes)) ≡ in_front (take (n + 1) bytes) (lines_of (drop (n + 1) bytes))
not_here n [] d low other = absurd (omega arith)
not_here zero (b ∷ bytes) d low other = rw other refl
not_here (suc n) (b ∷ bytes) d low other =
    let on : suc n + 1 ≡ suc (n + 1) = omega arith in
    rw on (ap (in_first b) (not_here n bytes d (omega arith) other))

-- a line ends at its first LF
pub line_ends : (n : ℕ) (bytes : List ℕ) (d : ℕ) (lines : List (List ℕ)) → n < length bytes → (get_or bytes n d == 10) ≡ true →
    lines ≡ in_front (take n bytes) (lines_of (drop n bytes))
    → lines ≡ take (n + 1) bytes ∷ lines_of (drop (n + 1) bytes)
line_ends n bytes d lines low ends so_far = so_far ∙ ended_here n bytes d low ends

-- and goes on at another byte
pub line_goes_on : (n : ℕ) (bytes : List ℕ) (d : ℕ) (lines : List (List ℕ)) → n < length bytes →
    (get_or bytes n d == 10) ≡ false →
    lines ≡ in_front (take n bytes) (lines_of (drop n bytes))
    → lines ≡ in_front (take (n + 1) bytes) (lines_of (drop (n + 1) bytes))
line_goes_on n bytes d lines low other so_far = so_far ∙ not_here n bytes d low other

-- the last line may have no LF
alone : (bytes : List ℕ) → 1 ≤ length bytes → in_front bytes [] ≡ bytes ∷ []
alone [] some = absurd (omega arith)
alone (b ∷ bytes) some = front_alone b bytes

pub last_line : (n : ℕ) (bytes : List ℕ) (lines : List (List ℕ)) → 1 ≤ length bytes → length bytes ≤ n →
    lines ≡ in_front (take n bytes) (lines_of (drop n bytes))
    → lines ≡ bytes ∷ lines_of (take (length bytes - length bytes) (drop (length bytes) bytes))
last_line n bytes lines some high so_far =
    let whole : take n bytes ≡ bytes = take_all n bytes high in
    let none : drop n bytes ≡ [] = drop_of_length-le bytes high in
    let rest : take (length bytes - length bytes) (drop (length bytes) bytes) ≡ [] =
    take_rest bytes (length bytes) ∙ drop_of_length-le bytes (omega arith) in
    so_far ∙ rw (whole, none, rest) (alone bytes some)

-- ---- the last byte

pub last_is : (mark : ℕ) (n : ℕ) (bytes : List ℕ) (d : ℕ) → length bytes ≡ n + 1 → (get_or bytes n d == mark) ≡ true →
    without_last mark bytes ≡ Some (take n bytes)
last_is mark n [] d size is = absurd (omega arith)
last_is mark zero (b ∷ []) d size is = rw is refl
last_is mark zero (b ∷ c ∷ bytes) d size is = absurd (omega arith)
last_is mark (suc n) (b ∷ []) d size is = absurd (omega arith)
last_is mark (suc n) (b ∷ c ∷ bytes) d size is =
    ap (option_map (λ (front : List ℕ). b ∷ front)) (last_is mark n (c ∷ bytes) d (omega arith) is)

pub last_is_not : (mark : ℕ) (n : ℕ) (bytes : List ℕ) (d : ℕ) → length bytes ≡ n + 1 → (get_or bytes n d == mark) ≡ false →
    without_last mark bytes ≡ None
last_is_not mark n [] d size is = absurd (omega arith)
last_is_not mark zero (b ∷ []) d size is = rw is refl
last_is_not mark zero (b ∷ c ∷ bytes) d size is = absurd (omega arith)
last_is_not mark (suc n) (b ∷ []) d size is = absurd (omega arith)
last_is_not mark (suc n) (b ∷ c ∷ bytes) d size is =
    ap (option_map (λ (front : List ℕ). b ∷ front)) (last_is_not mark n (c ∷ bytes) d (omega arith) is)
