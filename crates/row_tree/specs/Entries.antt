-- Entries of a map in rising order of their keys, as a block of a tree has them.
use Rattle.std.specs.Prelude.{◌≡◌, ◌≢◌, List, [], ◌∷◌, Bool, true, not, ◌&&◌, Option, Some, None}
use Rattle.std.specs.FinMap.Entries as entries
use Rattle.std.specs.Ordering.{is_lt, eq_by_cmp}
use Rattle.rl_value.specs.declared.value.Value.{Value}
use Rattle.rl_value.specs.Order.{row_cmp}

-- keys with their rows
abbrev pub Entries : Type 0
Entries = List (List Value × List Value)

-- the least key, if there is one
abbrev pub first_key : Entries → Option (List Value)
first_key [] = None
first_key (e ∷ es) = Some e.0

-- each key is below this one
abbrev pub all_below : Entries → List Value → Bool
all_below [] k = true
all_below (e ∷ es) k = is_lt (row_cmp e.0 k) && all_below es k

-- the entries but for that of this key
abbrev pub without : List Value → Entries → Entries
without k es = entries.where_key row_cmp (λ q. not (eq_by_cmp row_cmp k q)) es

-- those of a block, and of the one that was cut from its end, if one was
abbrev pub and_more : {K : Type 0} → (K → Entries) → Option K → Entries
and_more f None = []
and_more f (Some k) = f k

-- the one, if there is one
abbrev pub option_list : {K : Type 0} → Option K → List K
option_list None = []
option_list (Some k) = k ∷ []

-- an entry is no empty list, nor is a list that has a least key
pub one_entry : (entry : List Value × List Value) → (entry ∷ []) ≢ []
one_entry entry e = absurd (cc)

pub begun : (es : Entries) (key : List Value) → first_key es ≡ Some key → es ≢ []
begun [] key first e = absurd (cc)
begun (entry ∷ es) key first e = absurd (cc)
