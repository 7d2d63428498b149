-- Laws of matching an end of a text: what lies behind a byte that was compared, and behind a %.
use Rattle.std.proofs.Common.{◌≡◌, ◌<◌, ◌≤◌, ℕ, List, [], ◌∷◌, length, Bool, true, false, ◌&&◌, ◌||◌, ◌==◌, cond, refl, sym, ◌∙◌, arith, ap, suc}
use Rattle.std.proofs.lemmas.Bool.{or_left, or_right, and_parts}
use Rattle.std.proofs.lemmas.Bool.Decides.{nat_tests}
use Rattle.redo_spec.specs.Skips.{matches, after_some, after_one}
use Rattle.skip_guard.specs.Comparing.{Found, Answer, Rest, comparison_of, comparison_after, matches_end, IsRight}

-- the whole text is an end of it
pub at_once : (f : List ℕ → Bool) (text : List ℕ) → f text ≡ true → after_some f text ≡ true
at_once f [] e = e
at_once f (b ∷ bs) e = or_left (f (b ∷ bs)) (after_some f bs) e

-- one of two tests holds, and each leads there
either_way : {P : Type 0} (x y : Bool) → (x ≡ true → P) → (y ≡ true → P) → (x || y) ≡ true → P
either_way true y f g e = f refl
either_way false y f g e = g e

-- behind one byte of the pattern and of the text
behind_one : (c : ℕ) (f : List ℕ → Bool) (b : ℕ) (bs : List ℕ) → after_some (after_one c f) (b ∷ bs) ≡ true →
    after_some f bs ≡ true
behind_one c f b [] e =
    either_way (((c == 95) || (c == b)) && f []) false (λ h. (and_parts ((c == 95) || (c == b)) (f []) h).1) (λ h. absurd (cc)) e
behind_one c f b (d ∷ ds) e =
    either_way (((c == 95) || (c == b)) && f (d ∷ ds)) (after_some (after_one c f) (d ∷ ds))
    (λ h. at_once f (d ∷ ds) (and_parts ((c == 95) || (c == b)) (f (d ∷ ds)) h).1)
    (λ h. or_right (f (d ∷ ds)) (after_some f ds) (behind_one c f d ds h)) e

-- what lies behind any bytes behind any bytes
behind_any : (f : List ℕ → Bool) (text : List ℕ) → after_some (after_some f) text ≡ true → after_some f text ≡ true
behind_any f [] e = e
behind_any f (b ∷ bs) e =
    either_way (after_some f (b ∷ bs)) (after_some (after_some f) bs) (λ h. h)
    (λ h. or_right (f (b ∷ bs)) (after_some f bs) (behind_any f bs h)) e

-- nothing behind any bytes
nothing_behind : (text : List ℕ) → matches_end [] text ≡ true
nothing_behind [] = refl
nothing_behind (b ∷ bs) = nothing_behind bs

-- and so it is where nothing is left of the pattern
pub nothing_left : (pattern text : List ℕ) → true ≡ (length pattern == 0) → true ≡ matches_end pattern text
nothing_left [] text e = sym (nothing_behind text)
nothing_left (c ∷ cs) text e = absurd (grind (arith, nat_tests, e))

-- two tests of which each leads to the other
both_or_none : (x y : Bool) → (x ≡ true → y ≡ true) → (y ≡ true → x ≡ true) → x ≡ y
both_or_none true y f g = sym (f refl)
both_or_none false true f g = g refl
both_or_none false false f g = refl

-- What is found for a pattern of this length answers for a test of texts: at this place; and where the test holds of an
-- end of the text, what is left matches one.
abbrev Leads : (List ℕ → Bool) → ℕ → List ℕ → Found → Type 0
Leads test n text (Answer answer) = test text ≡ answer
Leads test n text (Rest others more) =
    (test text ≡ matches_end others more)
    × (after_some test text ≡ true → matches_end others more ≡ true)
    × (length others < n)
    × (length more ≤ length text)

-- one byte further
further : (c : ℕ) (f : List ℕ → Bool) (n b : ℕ) (bs : List ℕ) (r : Found) → after_one c f (b ∷ bs) ≡ f bs → Leads f n bs r →
    Leads (after_one c f) (suc n) (b ∷ bs) r
further c f n b bs (Answer answer) e l = e ∙ l
further c f n b bs (Rest others more) e l = (e ∙ l.0, λ h. l.1 (behind_one c f b bs h), omega (arith, l.2), omega (arith, l.3))

-- what is found behind a byte that is no %
one_leads : (c : ℕ) (cs text : List ℕ) → ((rest : List ℕ) → Leads (matches cs) (length cs) rest (comparison_of cs rest)) →
    Leads (after_one c (matches cs)) (suc (length cs)) text (comparison_after c (comparison_of cs) text)
one_leads c cs [] rest = refl
one_leads c cs (b ∷ bs) rest =
    elim ((c == 95) || (c == b)) as (λ x. ((c == 95) || (c == b)) ≡ x →
    Leads (after_one c (matches cs)) (suc (length cs)) (b ∷ bs) (cond x (comparison_of cs bs) (Answer false))) [
      | true ↦ λ h. further c (matches cs) (length cs) b bs (comparison_of cs bs) (ap (λ x. x && matches cs bs) h) (rest bs)
      | false ↦ λ h. ap (λ x. x && matches cs bs) h
    ] refl

-- what is found leads to the answer
leads : (pattern text : List ℕ) → Leads (matches pattern) (length pattern) text (comparison_of pattern text)
leads [] text = refl
leads (c ∷ cs) text =
    elim (c == 37) as (λ x. Leads (cond x (after_some (matches cs)) (after_one c (matches cs))) (suc (length cs)) text
    (cond x (Rest cs text) (comparison_after c (comparison_of cs) text))) [
      | true ↦ (refl, behind_any (matches cs) text, omega arith, omega arith)
      | false ↦ one_leads c cs text (leads cs)
    ]

answers : (pattern text : List ℕ) (r : Found) → Leads (matches pattern) (length pattern) text r → IsRight pattern text r
answers pattern text (Answer answer) l = l
answers pattern text (Rest others more) l = (
  l.0,
  both_or_none (matches_end pattern text) (matches_end others more) l.1 (λ h. at_once (matches pattern) text (l.0 ∙ h)),
  l.2,
  l.3,
)

-- and so it is right
pub is_right : (pattern text : List ℕ) → IsRight pattern text (comparison_of pattern text)
is_right pattern text = answers pattern text (comparison_of pattern text) (leads pattern text)
