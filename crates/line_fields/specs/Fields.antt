-- Fields of a line: numbers and transaction ids, as in scripts, names of the dictionary, and values. What one says, or the fault
-- of its line; and how one is printed.
use Rattle.std.specs.Prelude.{ℕ, List, Bool, true, false, if◌then◌else◌, Option, Some, None, Result, Ok, Err}
use Rattle.rl_value.specs.declared.value.Value.{Value}
use Rattle.rl_value.specs.declared.value.Value.TheVariants.{Null, Number, Text, Raw}
use Rattle.rl_value.specs.declared.xid.Xid.{Xid}
use Rattle.rl_value.specs.Literal.{literal}
use Rattle.rl_value.specs.LiteralValue.{value_of_literal}
use Rattle.rl_value.specs.Outcome.{or_err}
use Rattle.rl_value.specs.Text.{is_name}
use Rattle.script_words.specs.Numbers.{number_in}
use Rattle.script_words.specs.Parts.{xid_of}
use Rattle.redo_vec.specs.Forms.{is_line30}
use Rattle.line_fields.specs.declared.fault.LineFault.{LineFault}
use Rattle.line_fields.specs.declared.fault.LineFault.TheVariants as faults

-- what a part of a line says, or why the line is bad
abbrev pub Said : Type 0 → Type 0
Said A = Result A LineFault

-- the value where the test holds, and else this fault
abbrev pub if_so : {A : Type 0} → Bool → LineFault → A → Said A
if_so true fault x = Ok x
if_so false fault x = Err fault

-- ---- numbers

-- a number of at most this
unfoldable pub number_said : ℕ → List ℕ → Said ℕ
number_said most word = or_err (number_in 0 most word) faults.Number

-- ---- transaction ids

-- undo segment, slot and sequence
unfoldable pub xid_said : List ℕ → Said Xid
xid_said word = or_err (xid_of word) faults.Number

-- ---- names of the dictionary

-- a raw value of 1 to 30 bytes
unfoldable pub name_of_value : Option Value → Said (List ℕ)
name_of_value None = Err faults.Name
name_of_value (Some Null) = Err faults.Name
name_of_value (Some (Number z)) = Err faults.Name
name_of_value (Some (Text bytes)) = Err faults.Name
name_of_value (Some (Raw bytes)) = if_so (is_line30 bytes) faults.Name bytes

-- a name, or any other bytes in hexadecimal
unfoldable pub name_said : List ℕ → Said (List ℕ)
name_said part = if is_name part then Ok part else name_of_value (value_of_literal part)

abbrev pub name_word : List ℕ → List ℕ
name_word bytes = if is_name bytes then bytes else literal (Raw bytes)

-- the value of a literal
abbrev pub value_said : List ℕ → Said Value
value_said part = or_err (value_of_literal part) faults.Literal
