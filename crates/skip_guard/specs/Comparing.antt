-- What comparing a pattern with a text up to a `%` finds.
use Rattle.std.specs.Prelude.{◌≡◌, ◌<◌, ◌≤◌, ℕ, List, [], ◌∷◌, length, Bool, false, ◌==◌, ◌||◌, if◌then◌else◌}
use Rattle.rl_value.specs.Outcome.{is_empty}
use Rattle.redo_spec.specs.Skips.{matches, after_some}
use Rattle.skip_guard.specs.declared.matching.Compared.{Compared}
use Rattle.skip_guard.specs.declared.matching.Compared.TheVariants.{Ended, Any}

-- the answer; or what is left of the pattern behind a %, and of the text
pub data Found : Type 0 where
  Answer : Bool → Found
  Rest : List ℕ → List ℕ → Found

-- a byte of the pattern is compared, and then the rest
abbrev pub comparison_after : ℕ → (List ℕ → Found) → List ℕ → Found
comparison_after c rest [] = Answer false
comparison_after c rest (b ∷ bs) = if (c == 95) || (c == b) then rest bs else Answer false

-- what is found from the left up to a %
abbrev pub comparison_of : List ℕ → List ℕ → Found
comparison_of [] text = Answer (is_empty text)
comparison_of (c ∷ cs) text = if c == 37 then Rest cs text else comparison_after c (comparison_of cs) text

-- what was found, as it is handed out
abbrev pub found_of : Compared → Found
found_of (Ended answer) = Answer answer
found_of (Any others more) = Rest others.now more.now

-- the pattern matches an end of the text
abbrev pub matches_end : List ℕ → List ℕ → Bool
matches_end pattern text = after_some (matches pattern) text

-- an answer is right; and else what is left has the answer, at this place and over all places behind it
abbrev pub IsRight : List ℕ → List ℕ → Found → Type 0
IsRight pattern text (Answer answer) = matches pattern text ≡ answer
IsRight pattern text (Rest others more) =
    (matches pattern text ≡ matches_end others more)
    × (matches_end pattern text ≡ matches_end others more)
    × (length others < length pattern)
    × (length more ≤ length text)
