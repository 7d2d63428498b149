-- Parts that are put together are split again as they were: where each closes the quotes that it opens, and the byte between
-- them stands in none of them outside of quotes.
use Rattle.std.proofs.Common.{◌≡◌, ℕ, Bool, true, false, List, [], ◌∷◌, ◌++◌, refl, sym, ap, ◌∙◌, append_assoc}
use Rattle.std.specs.Prelude.{not, ◌&&◌, ◌==◌}
use Rattle.std.specs.List.{list_all, AllByRecursion}
use Rattle.std.proofs.lemmas.Bool.{and_parts, eqb-true, eq-eqb}
use Rattle.std.proofs.lemmas.List.{append-nil}
use Rattle.rl_base.specs.Lines.{is_line}
use Rattle.rl_value.specs.Literal.{quote}
use Rattle.line_fields.specs.Words.{inside_after, separates, split_from, split, joined_behind, joined}

-- a byte that ends neither the part nor the line
abbrev pub stays : ℕ → Bool → ℕ → Bool
stays between inside b = not (separates between inside b) && not (b == 10)

-- the byte between stands nowhere outside of quotes, no byte ends the line, and the quotes are closed at the end
abbrev pub closes : ℕ → Bool → List ℕ → Bool
closes between inside [] = not inside
closes between inside (b ∷ bytes) = stays between inside b && closes between (inside_after inside b) bytes

pub both_true : (a b : Bool) → a ≡ true → b ≡ true → (a && b) ≡ true
both_true true b p q = q
both_true false b p q = p

not_true : (a : Bool) → not a ≡ true → a ≡ false
not_true true e = cc
not_true false e = refl

outside : (a b : Bool) → not a ≡ true → b ≡ true → (not a && b) ≡ true
outside a b p q = both_true (not a) b p q

-- ---- one part

split-end : (between : ℕ) (inside : Bool) (part bytes : List ℕ) → closes between inside bytes ≡ true →
    split_from between inside part bytes ≡ (part ++ bytes) ∷ []
split-end between inside part [] e = ap (λ (p : List ℕ). p ∷ []) (sym (append-nil part))
split-end between inside part (b ∷ bytes) e =
    let p = and_parts _ _ e in
    let in_part : separates between inside b ≡ false = not_true _ (and_parts _ _ p.0).0 in
    rw in_part (split-end between (inside_after inside b) (part ++ b ∷ []) bytes p.1
    ∙ ap (λ (t : List ℕ). t ∷ []) (append_assoc part (b ∷ []) bytes))

split-next : (between : ℕ) (inside : Bool) (part bytes rest : List ℕ) → closes between inside bytes ≡ true →
    split_from between inside part (bytes ++ between ∷ rest) ≡ (part ++ bytes) ∷ split_from between false [] rest
split-next between inside part [] rest e =
    let out : inside ≡ false = not_true _ e in
    let here : separates between inside between ≡ true = outside inside (between == between) e (eq-eqb between between refl) in
    rw here (ap (λ (p : List ℕ). p ∷ split_from between false [] rest) (sym (append-nil part)))
split-next between inside part (b ∷ bytes) rest e =
    let p = and_parts _ _ e in
    let in_part : separates between inside b ≡ false = not_true _ (and_parts _ _ p.0).0 in
    rw in_part (split-next between (inside_after inside b) (part ++ b ∷ []) bytes rest p.1
    ∙ ap (λ (t : List ℕ). t ∷ split_from between false [] rest) (append_assoc part (b ∷ []) bytes))

-- ---- all parts

pub Closed : ℕ → List (List ℕ) → Type 0
Closed between parts = AllByRecursion (λ part. closes between false part ≡ true) parts

split-parts : (between : ℕ) (part : List ℕ) (parts : List (List ℕ)) → closes between false part ≡ true →
    AllByRecursion (λ p. closes between false p ≡ true) parts
    → split_from between false [] (part ++ joined_behind between parts) ≡ part ∷ parts
split-parts between part [] e each =
    ap (split_from between false []) (append-nil part) ∙ split-end between false [] part e
split-parts between part (other ∷ parts) e each =
    split-next between false [] part (other ++ joined_behind between parts) e ∙
    ap (λ (ps : List (List ℕ)). part ∷ ps) (split-parts between other parts each.0 each.1)

-- the parts that were joined
pub split-joined : (between : ℕ) (part : List ℕ) (parts : List (List ℕ)) → closes between false part ≡ true →
    AllByRecursion (λ p. closes between false p ≡ true) parts → split between (joined between (part ∷ parts)) ≡ part ∷ parts
split-joined between part parts e each = split-parts between part parts e each

-- ---- what closes its quotes

pub closes-append : (between : ℕ) (inside : Bool) (front bytes : List ℕ) → closes between inside front ≡ true →
    closes between false bytes ≡ true → closes between inside (front ++ bytes) ≡ true
closes-append between inside [] bytes e f =
    let out : inside ≡ false = not_true _ e in rw out f
closes-append between inside (b ∷ front) bytes e f =
    let p = and_parts _ _ e in
    both_true _ _ p.0 (closes-append between (inside_after inside b) front bytes p.1 f)

closes-behind : (between byte : ℕ) (parts : List (List ℕ)) → closes between false (byte ∷ []) ≡ true →
    AllByRecursion (λ p. closes between false p ≡ true) parts → closes between false (joined_behind byte parts) ≡ true
closes-behind between byte [] one each = refl
closes-behind between byte (part ∷ parts) one each =
    closes-append between false (byte ∷ part) (joined_behind byte parts)
    (closes-append between false (byte ∷ []) part one each.0) (closes-behind between byte parts one each.1)

pub closes-joined : (between byte : ℕ) (parts : List (List ℕ)) → closes between false (byte ∷ []) ≡ true →
    AllByRecursion (λ p. closes between false p ≡ true) parts → closes between false (joined byte parts) ≡ true
closes-joined between byte [] one each = refl
closes-joined between byte (part ∷ parts) one each =
    closes-append between false part (joined_behind byte parts) each.0 (closes-behind between byte parts one each.1)

-- a byte of which a test holds that fails at k is not k
apart_if : (p : ℕ → Bool) (b k : ℕ) (t : Bool) → (b == k) ≡ t → p b ≡ true → p k ≡ false → t ≡ false
apart_if p b k true is h e =
    let same : b ≡ k = eqb-true b k is in
    let both : p b ≡ p k = ap p same in cc
apart_if p b k false is h e = refl

pub apart : (p : ℕ → Bool) (b k : ℕ) → p b ≡ true → p k ≡ false → (b == k) ≡ false
apart p b k h e = apart_if p b k (b == k) refl h e

-- bytes of a kind of which neither the quote nor the byte between is
pub closes-kind : (p : ℕ → Bool) (between : ℕ) (bytes : List ℕ) → p quote ≡ false → p 10 ≡ false → p between ≡ false →
    list_all p bytes ≡ true → closes between false bytes ≡ true
closes-kind p between [] q n e all = refl
closes-kind p between (b ∷ bytes) q n e all =
    let a = and_parts _ _ all in
    let no_quote : (b == quote) ≡ false = apart p b quote a.0 q in
    let no_end : (b == 10) ≡ false = apart p b 10 a.0 n in
    let within : (b == between) ≡ false = apart p b between a.0 e in
    rw (no_quote, no_end, within) (closes-kind p between bytes q n e a.1)

-- ---- what ends no line

pub closed-is_line : (between : ℕ) (inside : Bool) (bytes : List ℕ) → closes between inside bytes ≡ true → is_line bytes ≡ true
closed-is_line between inside [] e = refl
closed-is_line between inside (b ∷ bytes) e =
    let p = and_parts _ _ e in
    both_true _ _ (and_parts _ _ p.0).1 (closed-is_line between (inside_after inside b) bytes p.1)

is_line-append : (front bytes : List ℕ) → is_line front ≡ true → is_line bytes ≡ true → is_line (front ++ bytes) ≡ true
is_line-append [] bytes e f = f
is_line-append (b ∷ front) bytes e f =
    let p = and_parts _ _ e in both_true _ _ p.0 (is_line-append front bytes p.1 f)

is_line-behind : (parts : List (List ℕ)) → AllByRecursion (λ p. closes 32 false p ≡ true) parts →
    is_line (joined_behind 32 parts) ≡ true
is_line-behind [] each = refl
is_line-behind (part ∷ parts) each =
    is_line-append (32 ∷ part) (joined_behind 32 parts) (closed-is_line 32 false part each.0) (is_line-behind parts each.1)

-- words that stand whole make a line
pub is_line-joined : (words : List (List ℕ)) → AllByRecursion (λ p. closes 32 false p ≡ true) words →
    is_line (joined 32 words) ≡ true
is_line-joined [] each = refl
is_line-joined (w ∷ ws) each =
    is_line-append w (joined_behind 32 ws) (closed-is_line 32 false w each.0) (is_line-behind ws each.1)
