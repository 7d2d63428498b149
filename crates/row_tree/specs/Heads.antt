-- The number that a row begins with, and what two rows' numbers tell of their order.
use Rattle.std.specs.Prelude.{List, [], ◌∷◌, ℤ, Bool, true, false, Option, Some, None, unwrap_or}
use Rattle.std.specs.declared.cmp.Ordering.{Ordering}
use Rattle.std.specs.declared.cmp.Ordering.TheVariants.{Less, Equal, Greater}
use Rattle.std.specs.Ordering.{int_cmp}
use Rattle.rl_value.specs.declared.value.Value.{Value}
use Rattle.rl_value.specs.declared.value.Value.TheVariants.{Null, Number, Text, Raw}
use Rattle.row_tree.specs.Entries.{Entries, first_key}

-- the number itself, where the value is one
abbrev pub number_head : Value → Option ℤ
number_head Null = None
number_head (Number z) = Some z
number_head (Text bytes) = None
number_head (Raw bytes) = None

-- the number that a row begins with, where it begins with one
abbrev pub head_of : List Value → Option ℤ
head_of [] = None
head_of (v ∷ vs) = number_head v

-- a row that begins below another one is not above it; equal heads tell nothing
abbrev pub told_by : Ordering → Option Bool
told_by Less = Some true
told_by Equal = None
told_by Greater = Some false

-- whether a row with the first head is not above one with the second, where both heads are numbers that differ
abbrev pub reach_by_heads : Option ℤ → Option ℤ → Option Bool
reach_by_heads None key = None
reach_by_heads (Some l) None = None
reach_by_heads (Some l) (Some k) = told_by (int_cmp l k)

-- the least key; of no entries none, for which the empty row stands
abbrev pub least_key : Entries → List Value
least_key es = unwrap_or (first_key es) []
