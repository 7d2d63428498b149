-- What the laws of redo_lines say, as the lemmas here take it.
use Rattle.std.proofs.Common.{◌≡◌, ℕ, ◌<◌, ◌≤◌, ◌^◌, true, List, [], ◌∷◌, Ok}
use Rattle.std.specs.Fmt.{decimal}
use Rattle.std.specs.List.{list_all}
use Rattle.rl_base.specs.Lines.{is_line}
use Rattle.rl_value.specs.Text.{is_letter}
use Rattle.redo_vec.specs.declared.table.TableRow.{TableRow}
use Rattle.redo_vec.specs.declared.vector.Vector.{Vector}
use Rattle.redo_vec.specs.Ranges.{AreBytes, IsVector}
use Rattle.line_fields.specs.Fields.{number_said}
use Rattle.line_fields.specs.Known.{HaveIds, known_after}
use Rattle.redo_lines.specs.Printing.{vector_words, line_of_vector}
use Rattle.redo_lines.specs.Reading.{vector_of_line}
use Rattle.line_fields.specs.Words.{split, joined, space}

-- `a_printed_vector_is_read`
pub record VectorsRead : Type 0 where
  pub read : (tables : List TableRow) (v : Vector) → IsVector v → vector_of_line tables (line_of_vector tables v) ≡ Ok v
  pub words : (tables : List TableRow) (v : Vector) → IsVector v →
      split space (line_of_vector tables v) ≡ vector_words tables v
  pub one_line : (tables : List TableRow) (v : Vector) → IsVector v → is_line (line_of_vector tables v) ≡ true

-- `a_printed_number_is_read`
pub record NumbersRead : Type 0 where
  pub read : (most n : ℕ) → n ≤ most → n < 2 ^ 64 → number_said most (decimal n) ≡ Ok n
  pub words : (keyword : List ℕ) (n : ℕ) → list_all is_letter keyword ≡ true → n < 2 ^ 64 →
      split space (joined space (keyword ∷ decimal n ∷ [])) ≡ keyword ∷ decimal n ∷ []
  pub one_line : (keyword : List ℕ) (n : ℕ) → list_all is_letter keyword ≡ true → n < 2 ^ 64 →
      is_line (joined space (keyword ∷ decimal n ∷ [])) ≡ true

-- `a_line_says_what_fits`
pub record Fitting : Type 0 where
  pub vector_fits : (tables : List TableRow) (line : List ℕ) (v : Vector) → HaveIds tables → AreBytes line →
      vector_of_line tables line ≡ Ok v → IsVector v
  pub tables_fit : (tables : List TableRow) (v : Vector) → HaveIds tables → IsVector v → HaveIds (known_after tables v)
  pub number_fits : (most n : ℕ) (word : List ℕ) → number_said most word ≡ Ok n → n ≤ most
