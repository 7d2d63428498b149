-- The lines of a text before its first record, and how far its records have come.
--   LOG sequence, first; then DBID number, and FIRST scn and NEXT scn where they are given, in any order
--   RECORD scn, or RECORD alone: one above the record before, and for the first one FIRST, or 1
use Rattle.std.specs.Prelude.{ℕ, ◌+◌, List, [], ◌∷◌, Bool, ◌==◌, ◌||◌, nat_lt, if◌then◌else◌, Option, Some, None, Ok, Err, codes}
use Rattle.rl_value.specs.Order.{same_bytes}
use Rattle.rl_value.specs.Outcome.{◌>>=◌}
use Rattle.redo_spec.specs.declared.header.Header.{Header}
use Rattle.line_fields.specs.declared.fault.LineFault.TheVariants as faults
use Rattle.redo_text.specs.declared.heading.Heading.{Heading}
use Rattle.redo_text.specs.declared.heading.Begun.{Begun}
use Rattle.line_fields.specs.Fields.{Said, number_said}
use Rattle.redo_lines.specs.Reading.{Line, at_end}

-- the greatest number of 32 bits, and of 64
abbrev pub most32 : ℕ
most32 = 4294967295

abbrev pub most64 : ℕ
most64 = 18446744073709551615

abbrev pub no_heading : Heading
no_heading = record { seq = None; dbid = None; first = None; next = None }

-- one number, and nothing behind it
unfoldable pub number_alone : ℕ → Line → Said ℕ
number_alone most [] = Err faults.Words
number_alone most (word ∷ words) = number_said most word >>= λ n. at_end words n

-- a number that is given once
unfoldable pub given_once : ℕ → Option ℕ → Line → Said (Option ℕ)
given_once most (Some n) words = Err faults.Twice
given_once most None words = number_alone most words >>= λ n. Ok (Some n)

-- a line behind the first one
unfoldable pub heading_line : Heading → List ℕ → Line → Said Heading
heading_line h keyword words =
    if same_bytes keyword (codes "DBID") then (given_once most32 h.dbid words >>= λ n. Ok (record h { dbid = n }))
    else if same_bytes keyword (codes "FIRST") then (given_once most64 h.first words >>= λ n. Ok (record h { first = n }))
    else if same_bytes keyword (codes "NEXT") then (given_once most64 h.next words >>= λ n. Ok (record h { next = n }))
    else Err faults.Order

abbrev pub behind_log : Option ℕ → Said Heading → Said Heading
behind_log None said = Err faults.Order
behind_log (Some seq) said = said

-- the heading after a line
unfoldable pub heading_said : Heading → List ℕ → Line → Said Heading
heading_said h keyword words =
    if same_bytes keyword (codes "LOG") then (given_once most32 h.seq words >>= λ n. Ok (record h { seq = n }))
    else behind_log h.seq (heading_line h keyword words)

-- a keyword of the heading
abbrev pub is_heading_word : List ℕ → Bool
is_heading_word keyword =
    same_bytes keyword (codes "LOG") || same_bytes keyword (codes "DBID") || same_bytes keyword (codes "FIRST")
    || same_bytes keyword (codes "NEXT")

-- ---- records

abbrev pub number_or : ℕ → Option ℕ → ℕ
number_or n None = n
number_or n (Some m) = m

-- one above the record before
abbrev pub scn_after : Heading → Option Begun → Said ℕ
scn_after h None = Ok (number_or 1 h.first)
scn_after h (Some b) = if b.scn == most64 then Err faults.Number else Ok (b.scn + 1)

-- the SCN of a record, with the words behind RECORD
unfoldable pub scn_said : Heading → Option Begun → Line → Said ℕ
scn_said h begun [] = scn_after h begun
scn_said h begun (w ∷ ws) = number_alone most64 (w ∷ ws)

abbrev pub greater : ℕ → ℕ → ℕ
greater a b = if nat_lt a b then b else a

-- one record more
unfoldable pub begun_after : Option Begun → ℕ → Said Begun
begun_after None scn = Ok (record { count = 1; scn = scn; first = scn; greatest = scn })
begun_after (Some b) scn =
    if b.count == most32 then Err faults.Many
    else Ok (record { count = b.count + 1; scn = scn; first = b.first; greatest = greater b.greatest scn })

-- the SCN above all of the log's
abbrev pub next_of : Option ℕ → Begun → Said ℕ
next_of (Some next) b = Ok next
next_of None b = if b.greatest == most64 then Err faults.Number else Ok (b.greatest + 1)

-- the number that has to be there
abbrev pub number_there : Option ℕ → Said ℕ
number_there None = Err faults.Order
number_there (Some n) = Ok n

-- the header of the log, when all its records have come
unfoldable pub header_said : Heading → Begun → Said Header
header_said h b = do
  seq ← number_there h.seq
  dbid ← number_there h.dbid
  next ← next_of h.next b
  Ok (record { seq = seq; dbid = dbid; first = number_or b.first h.first; next = next; count = b.count })
