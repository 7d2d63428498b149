-- A script: its lines, and the statement of each that is neither empty nor a comment.
-- A line ends with LF, and holds it; a CR before the LF is dropped; the last LF may be missing. Lines count from 1. A line
-- that begins with # is a comment. The first line that is no statement is told; so is the one that holds byte
-- 2^20 + 1, and the one of statement 10,001. This project's own.
use Rattle.std.specs.Prelude.{ℕ, ◌≡◌, ◌+◌, ⊤, List, [], ◌∷◌, ◌++◌, length, Bool, true, false, ◌==◌, nat_lt, nat_le, if◌then◌else◌, Option, Some, None, Result, Ok, Err}
use Rattle.std.specs.Option.{option_map}
use Rattle.rl_value.specs.Outcome.{map_ok}
use Rattle.rl_base.specs.Lines.{line_end}
use Rattle.script.specs.declared.fault.ScriptFault.{ScriptFault}
use Rattle.script.specs.declared.fault.ScriptFault.TheVariants as faults
use Rattle.script.specs.declared.statement.Statement.{Statement}
use Rattle.script.specs.declared.limits.TheConstants.{MAX_BYTES, MAX_STATEMENTS}
use Rattle.script.specs.Statements.{statement_of}

-- ---- lines

-- a byte before the first of these lines, or a line of it alone where there is none
abbrev pub in_first : ℕ → List (List ℕ) → List (List ℕ)
in_first b [] = (b ∷ []) ∷ []
in_first b (line ∷ lines) = (b ∷ line) ∷ lines

-- a byte before these lines, which ends a line of its own or is in the first of them
abbrev pub with_byte : Bool → ℕ → List (List ℕ) → List (List ℕ)
with_byte true b lines = (b ∷ []) ∷ lines
with_byte false b lines = in_first b lines

-- bytes in lines, each with its LF
abbrev pub lines_of : List ℕ → List (List ℕ)
lines_of [] = []
lines_of (b ∷ bytes) = with_byte (b == line_end) b (lines_of bytes)

-- the byte CR
abbrev pub carriage_return : ℕ
carriage_return = 13

-- the bytes before the last one, where that is this
abbrev pub without_last : ℕ → List ℕ → Option (List ℕ)
without_last mark [] = None
without_last mark (b ∷ []) = if b == mark then Some [] else None
without_last mark (b ∷ c ∷ bytes) = option_map (λ front. b ∷ front) (without_last mark (c ∷ bytes))

-- what is there, or else these bytes
abbrev pub or_these : List ℕ → Option (List ℕ) → List ℕ
or_these bytes None = bytes
or_these bytes (Some front) = front

-- a line before its LF, where it has one, without a CR at its end; else the line as it is
abbrev pub before_end : List ℕ → Option (List ℕ) → List ℕ
before_end line None = line
before_end line (Some front) = or_these front (without_last carriage_return front)

-- a line without its end: the LF, and a CR before it
unfoldable pub text_of : List ℕ → List ℕ
text_of line = before_end line (without_last line_end line)

-- nothing, or a comment
abbrev pub is_passed : List ℕ → Bool
is_passed [] = true
is_passed (b ∷ bytes) = b == 35

-- ---- the script

-- the statement of a line, none where it is passed over; nothing where it is bad, and where there may be no more statements
unfoldable pub said_of_line : Bool → List ℕ → Option (Option Statement)
said_of_line room text = if is_passed text then Some None else if room then option_map Some (statement_of text) else None

-- the statements of a script, or the number of its first bad line
abbrev pub Read : Type 0
Read = Result (List (ℕ × Statement)) ℕ

-- what a line says, before what later ones say
abbrev pub with_said : ℕ → Option (Option Statement) → Read → Read
with_said line None later = Err line
with_said line (Some None) later = later
with_said line (Some (Some s)) later = map_ok (λ items. (line, s) ∷ items) later

-- how many statements there are with this line
abbrev pub counted : ℕ → Option (Option Statement) → ℕ
counted count None = count
counted count (Some None) = count
counted count (Some (Some s)) = count + 1

-- the line is within the bytes of a script
abbrev pub within : Bool → ℕ → Read → Read
within true line found = found
within false line found = Err line

-- what these lines are, the first of which has this number, stands behind so many bytes, and behind so many statements
abbrev pub script_from : ℕ → ℕ → ℕ → List (List ℕ) → Read
script_from line bytes count [] = Ok []
script_from line bytes count (l ∷ lines) =
    let said = said_of_line (nat_lt count MAX_STATEMENTS) (text_of l) in
    within (nat_le (bytes + length l) MAX_BYTES) line
    (with_said line said (script_from (line + 1) (bytes + length l) (counted count said) lines))

-- the script of these bytes, or the number of the first line that is none of it
unfoldable pub script_of : List ℕ → Read
script_of bytes = script_from 1 0 0 (lines_of bytes)

-- what `parse` answers: the script, or the first bad line; want of memory has no cause
abbrev pub Parses : List ℕ → Result (List (ℕ × Statement)) ScriptFault → Type 0
Parses bytes (Ok script) = script_of bytes ≡ Ok script
Parses bytes (Err (faults.Line line)) = script_of bytes ≡ Err line
Parses bytes (Err faults.Memory) = ⊤

-- what was read before, in front of what is still read
abbrev pub behind_items : List (ℕ × Statement) → Read → Read
behind_items items (Ok more) = Ok (items ++ more)
behind_items items (Err line) = Err line

-- what a line adds to the statements
abbrev pub items_of : ℕ → Option Statement → List (ℕ × Statement)
items_of line None = []
items_of line (Some s) = (line, s) ∷ []

-- what a reader of a line with this number gives: what it says, or that it is bad; or memory ran out
abbrev pub SaysAt : ℕ → Result (Option Statement) ScriptFault → Option (Option Statement) → Type 0
SaysAt number (Ok said) line = line ≡ Some said
SaysAt number (Err (faults.Line n)) line = (n ≡ number) × (line ≡ None)
SaysAt number (Err faults.Memory) line = ⊤
