-- Single steps of reading a literal: two digits as a byte, and what a byte between quotes does.
use Rattle.std.specs.Prelude.{ℕ, ◌+◌, ◌*◌, List, ◌++◌, Bool, true, false, ◌==◌, if◌then◌else◌, Option, Some, None}
use Rattle.std.specs.Option.{option_map}
use Rattle.rl_value.specs.Literal.{quote, is_printed}

-- two digits as a byte
abbrev pub pair_value : Option ℕ → Option ℕ → Option ℕ
pair_value None low = None
pair_value (Some h) None = None
pair_value (Some h) (Some l) = Some (16 * h + l)

-- a byte between quotes is one of the text's own (true), or a quote that may close it (false); after such a quote only
-- a second one may stand
abbrev pub quoted_step : Bool → ℕ → Option Bool
quoted_step true b = if b == quote then Some true else None
quoted_step false b = if b == quote then Some false else if is_printed b then Some true else None

-- what is still to be read, behind what was read
abbrev pub with_read : List ℕ → Option (List ℕ) → Option (List ℕ)
with_read read rest = option_map (λ bytes. read ++ bytes) rest
