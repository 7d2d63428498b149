-- Of a script no more than one byte above the limit counts.
use Rattle.std.proofs.Common.{◌≡◌, ℕ, ◌+◌, ◌<◌, ◌≤◌, Bool, true, false, List, [], ◌∷◌, ◌++◌, length, take, zero, suc, Err, refl, sym, ap, ◌∙◌, length-append, arith}
use Rattle.std.specs.Prelude.{◌==◌, nat_lt, nat_le}
use Rattle.std.proofs.lemmas.Bool.{leb-true}
use Rattle.script.specs.declared.limits.TheConstants.{MAX_BYTES, MAX_STATEMENTS}
use Rattle.script.specs.Lines.{in_first, with_byte, lines_of, text_of, said_of_line, with_said, counted, script_from, script_of}
use Rattle.script.proofs.LineLaws.{in_front, front_ended, front_more}

not_over : (t : Bool) (size : ℕ) → nat_le size MAX_BYTES ≡ t → MAX_BYTES < size → t ≡ false
not_over true size is over = let le : size ≤ MAX_BYTES = leb-true _ _ is in absurd (omega arith)
not_over false size is over = refl

too_long : (size : ℕ) → MAX_BYTES < size → nat_le size MAX_BYTES ≡ false
too_long size over = not_over _ size refl over

-- the first of these lines has at least the bytes of p
record Begins (p : List ℕ) (lines : List (List ℕ)) : Type 0 where
  pub first : List ℕ
  pub more : List (List ℕ)
  pub is : lines ≡ first ∷ more
  pub long : length p ≤ length first

begins : (b : ℕ) (p : List ℕ) (lines : List (List ℕ)) → Begins (b ∷ p) (in_front (b ∷ p) lines)
begins b [] [] = record { first = b ∷ []; more = []; is = refl; long = omega arith }
begins b [] (l ∷ ls) = record { first = b ∷ l; more = ls; is = refl; long = omega arith }
begins b (c ∷ p) lines =
    let r : Begins (c ∷ p) (in_front (c ∷ p) lines) = begins c p lines in
    let longer : length (b ∷ c ∷ p) ≤ length (b ∷ r.first) = omega (arith, r.long) in
    record { first = b ∷ r.first; more = r.more; is = ap (in_first b) r.is; long = longer }

-- a first line that is over the limit whatever is behind it
over_at : (line used count : ℕ) (l : List ℕ) (ls : List (List ℕ)) → MAX_BYTES < used + length l →
    script_from line used count (l ∷ ls) ≡ Err line
over_at line used count l ls over =
    let no : nat_le (used + length l) MAX_BYTES ≡ false = too_long (used + length l) over in rw no refl

over : (line used count : ℕ) (p : List ℕ) (lines : List (List ℕ)) → 1 ≤ length p → MAX_BYTES < used + length p →
    script_from line used count (in_front p lines) ≡ Err line
over line used count [] lines some high = absurd (omega arith)
over line used count (b ∷ p) lines some high =
    let r : Begins (b ∷ p) (in_front (b ∷ p) lines) = begins b p lines in
    let higher : MAX_BYTES < used + length r.first = omega (arith, r.long, high) in
    ap (script_from line used count) r.is ∙ over_at line used count r.first r.more higher

-- a whole first line, and two ways to go on that come to the same if it is within the limit
same_first : (t : Bool) (line used count : ℕ) (l : List ℕ) (ls ms : List (List ℕ)) → nat_le (used + length l) MAX_BYTES ≡ t →
    (t ≡ true →
    (c : ℕ) → script_from (line + 1) (used + length l) c ls ≡ script_from (line + 1) (used + length l) c ms)
    → script_from line used count (l ∷ ls) ≡ script_from line used count (l ∷ ms)
same_first true line used count l ls ms is go_on =
    rw is (ap (with_said line (said_of_line (nat_lt count MAX_STATEMENTS) (text_of l)))
    (go_on refl (counted count (said_of_line (nat_lt count MAX_STATEMENTS) (text_of l)))))
same_first false line used count l ls ms is go_on = rw is refl

-- what is taken of the bytes behind the begin of a line, of as many as reach the first byte that is too many
abbrev Alike : ℕ → List ℕ → Type 0
Alike n bytes = (q : List ℕ) (line used count : ℕ) → used ≤ MAX_BYTES → used + length q + n ≡ MAX_BYTES + 1 →
    script_from line used count (in_front q (lines_of (take n bytes))) ≡ script_from line used count (in_front q (lines_of bytes))

alike_by : (t : Bool) (n b : ℕ) (p bytes : List ℕ) (line used count : ℕ) → Alike n bytes → used ≤ MAX_BYTES →
    used + length p + suc n ≡ MAX_BYTES + 1
    → script_from line used count (in_front p (with_byte t b (lines_of (take n bytes))))
    ≡ script_from line used count (in_front p (with_byte t b (lines_of bytes)))
alike_by false n b p bytes line used count next low e =
    let size : length (p ++ b ∷ []) ≡ length p + 1 = length-append p (b ∷ []) in
    ap (script_from line used count) (front_more p b (lines_of (take n bytes)))
    ∙ next (p ++ b ∷ []) line used count low (omega (arith, size, e))
    ∙ sym (ap (script_from line used count) (front_more p b (lines_of bytes)))
alike_by true n b p bytes line used count next low e =
    let size : length (p ++ b ∷ []) ≡ length p + 1 = length-append p (b ∷ []) in
    ap (script_from line used count) (front_ended p b (lines_of (take n bytes)))
    ∙ same_first (nat_le (used + length (p ++ b ∷ [])) MAX_BYTES) line used count (p ++ b ∷ [])
    (lines_of (take n bytes)) (lines_of bytes) refl
    (λ fits c. next [] (line + 1) (used + length (p ++ b ∷ [])) c (leb-true _ _ fits) (omega (arith, size, e)))
    ∙ sym (ap (script_from line used count) (front_ended p b (lines_of bytes)))

alike_from : (n : ℕ) (bytes : List ℕ) → Alike n bytes
alike_from zero [] q line used count low e = refl
alike_from (suc n) [] q line used count low e = refl
alike_from zero (b ∷ bytes) q line used count low e =
    let some : 1 ≤ length q = omega (arith, low, e) in
    let high : MAX_BYTES < used + length q = omega (arith, e) in
    over line used count q [] some high ∙ sym (over line used count q (lines_of (b ∷ bytes)) some high)
alike_from (suc n) (b ∷ bytes) q line used count low e =
    alike_by (b == 10) n b q bytes line used count (alike_from n bytes) low e

-- the first bytes of a script say what it says
pub alike : (bytes : List ℕ) → script_of (take (MAX_BYTES + 1) bytes) ≡ script_of bytes
unfolding script_of
alike bytes = alike_from (MAX_BYTES + 1) bytes [] 1 0 0 (omega arith) (omega arith)
