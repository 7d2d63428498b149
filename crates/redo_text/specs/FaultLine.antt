-- The line that is shown where a log cannot be read on: the number of the record, why, the offset in the log, and the bytes
-- there.
--   FAULT 3 KIND 149 X'0A00010002'
-- No text with such a line is written as a log.
use Rattle.std.specs.Prelude.{ℕ, List, [], ◌∷◌, ◌++◌, codes}
use Rattle.std.specs.Fmt.{decimal}
use Rattle.rl_value.specs.declared.value.Value.TheVariants.{Raw}
use Rattle.rl_value.specs.Literal.{literal}
use Rattle.redo_spec.specs.Lines.{head_word, cut_word, vec_word}
use Rattle.redo_text.specs.declared.fault_line.LogFault.{LogFault}
use Rattle.redo_text.specs.declared.fault_line.LogFault.TheVariants as faults
use Rattle.redo_text.specs.Showing.{with_end}
use Rattle.line_fields.specs.Words.{joined, space}

abbrev pub fault_words : LogFault → List (List ℕ)
fault_words (faults.Head f) = codes "HEADER" ∷ head_word f ∷ []
fault_words (faults.Cut f) = cut_word f ∷ []
fault_words (faults.Vector f) = vec_word f ∷ []

-- bytes as a raw value, or nothing where there are none
abbrev pub bytes_words : List ℕ → List (List ℕ)
bytes_words [] = []
bytes_words (b ∷ bytes) = literal (Raw (b ∷ bytes)) ∷ []

abbrev pub fault_line : ℕ → LogFault → ℕ → List ℕ → List ℕ
fault_line rec fault at bytes =
    with_end (joined space (codes "FAULT" ∷ decimal rec ∷ (fault_words fault ++ decimal at ∷ bytes_words bytes)))
