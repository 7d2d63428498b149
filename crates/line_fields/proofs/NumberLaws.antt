-- A line of a keyword and a number: it is cut into both again, and no byte ends it.
use Rattle.std.proofs.Common.{◌≡◌, ℕ, ◌<◌, ◌^◌, true, false, List, [], ◌∷◌, refl}
use Rattle.std.specs.Fmt.{decimal}
use Rattle.std.specs.List.{list_all}
use Rattle.rl_base.specs.Lines.{is_line}
use Rattle.rl_value.specs.Text.{is_letter}
use Rattle.line_fields.specs.Words.{split, joined, space}
use Rattle.line_fields.proofs.Splitting.{closes, closes-kind, split-joined, is_line-joined}
use Rattle.line_fields.proofs.FieldLaws.{closes-decimal}

closes-letters : (keyword : List ℕ) → list_all is_letter keyword ≡ true → closes 32 false keyword ≡ true
closes-letters keyword all = closes-kind is_letter 32 keyword refl refl refl all

pub number_words : (keyword : List ℕ) (n : ℕ) → list_all is_letter keyword ≡ true → n < 2 ^ 64 →
    split space (joined space (keyword ∷ decimal n ∷ [])) ≡ keyword ∷ decimal n ∷ []
number_words keyword n all h =
    split-joined 32 keyword (decimal n ∷ []) (closes-letters keyword all) (closes-decimal 32 n refl h, tt)

pub number_alone : (keyword : List ℕ) (n : ℕ) → list_all is_letter keyword ≡ true → n < 2 ^ 64 →
    is_line (joined space (keyword ∷ decimal n ∷ [])) ≡ true
number_alone keyword n all h =
    is_line-joined (keyword ∷ decimal n ∷ []) (closes-letters keyword all, (closes-decimal 32 n refl h, tt))
