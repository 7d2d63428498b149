-- What a reading that ended well has passed: its steps, its tests, its items.
use Rattle.std.proofs.Common.{◌≡◌, ℕ, ◌<◌, ◌⊎◌, Bool, true, false, List, [], ◌∷◌, ◌++◌, Result, Ok, Err, refl, subst, inl, inr}
use Rattle.std.specs.Prelude.{◌||◌, if◌then◌else◌}
use Rattle.std.specs.List.{AllByRecursion}
use Rattle.rl_value.specs.Outcome.{◌>>=◌}
use Rattle.redo_vec.specs.Ranges.{AreBytes}
use Rattle.line_fields.specs.declared.fault.LineFault.{LineFault}
use Rattle.line_fields.specs.Fields.{Said, if_so}
use Rattle.redo_lines.specs.Reading.{Line, items_until, at_end}
use Rattle.line_fields.specs.Words.{inside_after, separates, split_from, split}
use Rattle.redo_lines.proofs.ListLaws.{each-append}

-- the value of a step that did not fail
pub bind_ok : {A B E : Type 0} (r : Result A E) (f : A → Result B E) (y : B) → (r >>= f) ≡ Ok y →
    (x : A) × (r ≡ Ok x) × (f x ≡ Ok y)
bind_ok (Ok x) f y e = (x, refl, e)
bind_ok (Err d) f y e = absurd cc

-- a test that had to hold
pub so_ok : {A : Type 0} (t : Bool) (fault : LineFault) (x y : A) → if_so t fault x ≡ Ok y →
    (t ≡ true) × (if_so true fault x ≡ Ok y)
so_ok true fault x y e = (refl, e)
so_ok false fault x y e = absurd cc

-- a test that did not refuse
pub passed : {A : Type 0} (t : Bool) (fault : LineFault) (r : Said A) (y : A) → (if t then Err fault else r) ≡ Ok y →
    (t ≡ false) × (r ≡ Ok y)
passed true fault r y e = absurd cc
passed false fault r y e = (refl, e)

pub held : {A : Type 0} (t : Bool) (fault : LineFault) (r : Said A) (y : A) → (if t then r else Err fault) ≡ Ok y →
    (t ≡ true) × (r ≡ Ok y)
held true fault r y e = (refl, e)
held false fault r y e = absurd cc

-- which way a test went
pub chosen : {A : Type 0} (t : Bool) (x y z : A) → (if t then x else y) ≡ z → ((t ≡ true) × (x ≡ z)) ⊎ ((t ≡ false) × (y ≡ z))
chosen true x y z e = inl (refl, e)
chosen false x y z e = inr (refl, e)

abbrev pub said : {A : Type 0} → A → Said A
said x = Ok x

pub ok_is : {A : Type 0} (x y : A) → said x ≡ said y → x ≡ y
ok_is x y e = cc

pub neither : (a b : Bool) → (a || b) ≡ false → (a ≡ false) × (b ≡ false)
neither true b e = absurd cc
neither false b e = (refl, e)

pub ended : {A : Type 0} (words : Line) (x y : A) → at_end words x ≡ Ok y → x ≡ y
ended [] x y e = ok_is x y e
ended (w ∷ ws) x y e = absurd cc

-- ---- bytes of parts

pub split_bytes : (between : ℕ) (inside : Bool) (part bytes : List ℕ) → AreBytes part → AreBytes bytes →
    AllByRecursion AreBytes (split_from between inside part bytes)
split_bytes between inside part [] p q = (p, tt)
split_bytes between inside part (b ∷ bytes) p q =
    elim (separates between inside b) as (λ (t : Bool). AllByRecursion AreBytes (if t then part ∷
    split_from between false [] bytes else split_from between (inside_after inside b) (part ++ b ∷ []) bytes)) [
      | true ↦ (p, split_bytes between false [] bytes tt q.1)
      | false ↦ split_bytes between (inside_after inside b) (part ++ b ∷ []) bytes
          (each-append (λ c. c < 256) part (b ∷ []) p (q.0, tt)) q.1
    ]

pub parts_bytes : (between : ℕ) (bytes : List ℕ) → AreBytes bytes → AllByRecursion AreBytes (split between bytes)
parts_bytes between bytes p = split_bytes between false [] bytes tt p

-- ---- items

pub items_sound : {A : Type 0} (stops : List ℕ → Bool) (item : List ℕ → Said A) (P : A → Type 0) →
    ((w : List ℕ) (x : A) → AreBytes w → item w ≡ Ok x → P x) → (words : Line) (y : List A × Line) →
    AllByRecursion AreBytes words → items_until stops item words ≡ Ok y →
    AllByRecursion P y.0 × AllByRecursion AreBytes y.1
items_sound stops item P each [] y bytes e =
    subst (λ (z : List _ × Line). AllByRecursion P z.0 × AllByRecursion AreBytes z.1) (ok_is ([], []) y e) (tt, tt)
items_sound stops item P each (w ∷ ws) y bytes e =
    elim (chosen (stops w) (Ok ([], w ∷ ws)) _ (Ok y) e) [
      | inl s ↦ subst (λ (z : List _ × Line). AllByRecursion P z.0 × AllByRecursion AreBytes z.1)
          (ok_is ([], w ∷ ws) y s.1) (tt, bytes)
      | inr s ↦
          let a = bind_ok (item w) (λ x. items_until stops item ws >>= λ more. Ok (x ∷ more.0, more.1)) y s.1 in
          let b = bind_ok (items_until stops item ws) (λ more. Ok (a.0 ∷ more.0, more.1)) y a.2 in
          let rest = items_sound stops item P each ws b.0 bytes.1 b.1 in
          subst (λ (z : List _ × Line). AllByRecursion P z.0 × AllByRecursion AreBytes z.1)
          (ok_is (a.0 ∷ b.0.0, b.0.1) y b.2) ((each w a.0 bytes.0 a.1, rest.0), rest.1)
    ]
