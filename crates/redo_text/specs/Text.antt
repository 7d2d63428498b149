-- The log that a text says, or its first bad line.
-- A line ends with LF; what stands behind the last LF is a line too. Lines count from 1, and what is bad at the end of the
-- text is told of the line behind the last LF.
use Rattle.std.specs.Prelude.{ℕ, ◌+◌, List, [], ◌∷◌, ◌++◌, ◌==◌, if◌then◌else◌, Result}
use Rattle.rl_value.specs.Outcome.{◌>>=◌, map_ok, map_err}
use Rattle.redo_vec.specs.declared.redo_rec.RedoRec.{RedoRec}
use Rattle.redo_spec.specs.declared.header.Header.{Header}
use Rattle.redo_spec.specs.Log.{Log, header_bytes}
use Rattle.line_fields.specs.declared.fault.LineFault.{LineFault}
use Rattle.line_fields.specs.Fields.{Said}
use Rattle.redo_text.specs.Draft.{Draft, beginning, line_taken, finished, add_record, add_bytes}

-- the first bad line, and why it is bad
pub record Bad : Type 0 where
  pub line : ℕ
  pub fault : LineFault

abbrev pub at_line : {A : Type 0} → ℕ → Said A → Result A Bad
at_line n said = map_err (λ fault. record { line = n; fault = fault }) said

-- the last line, and then the end
abbrev pub last_line : {R : Type 0} → (R → RedoRec → R) → Draft R → ℕ → List ℕ → Result (Header × R) Bad
last_line add d n line = at_line n (line_taken add d line >>= λ e. finished add e)

-- the lines from the one of this number on, which has begun so
abbrev pub text_from : {R : Type 0} → (R → RedoRec → R) → Draft R → ℕ → List ℕ → List ℕ → Result (Header × R) Bad
text_from add d n line [] = last_line add d n line
text_from add d n line (b ∷ bytes) =
    if b == 10 then (at_line n (line_taken add d line) >>= λ e. text_from add e (n + 1) [] bytes)
    else text_from add d n (line ++ b ∷ []) bytes

abbrev pub log_of : Header × List RedoRec → Log
log_of (head, records) = record { head = head; records = records }

-- the log that a text says, or its first bad line
unfoldable pub log_said : List ℕ → Result Log Bad
log_said text = map_ok log_of (text_from add_record (beginning []) 1 [] text)

-- the same as bytes, whose records are spelled as they come
unfoldable pub bytes_said : List ℕ → Result (List ℕ) Bad
bytes_said text = map_ok (λ x. header_bytes x.0 ++ x.1) (text_from add_bytes (beginning []) 1 [] text)
