-- Short words for definitions that may fail, so that each branch is a named function by cases.
use Rattle.std.specs.Prelude.{List, [], ◌∷◌, Bool, true, false, if◌then◌else◌, Option, Some, None, Result, Ok, Err}
use Rattle.std.specs.Option.{option_map}

-- the next step, unless this one failed
infixl 10 ◌>>=◌
abbrev pub ◌>>=◌ : {A B E : Type 0} → Result A E → (A → Result B E) → Result B E
(Ok x) >>= f = f x
(Err e) >>= f = Err e

-- the value, unless it is refused
abbrev pub refused_by : {A E : Type 0} → Option E → A → Result A E
refused_by None x = Ok x
refused_by (Some e) x = Err e

-- the value that is there, and else this error
abbrev pub or_err : {A E : Type 0} → Option A → E → Result A E
or_err None e = Err e
or_err (Some x) e = Ok x

-- the value changed, or the error as it is; and the other way round
abbrev pub map_ok : {A B E : Type 0} → (A → B) → Result A E → Result B E
map_ok f (Ok x) = Ok (f x)
map_ok f (Err e) = Err e

abbrev pub map_err : {A E F : Type 0} → (E → F) → Result A E → Result A F
map_err f (Ok x) = Ok x
map_err f (Err e) = Err (f e)

-- the first of these faults whose test holds
abbrev pub first_fault : {F : Type 0} → List (Bool × F) → Option F
first_fault [] = None
first_fault ((found, fault) ∷ rest) = if found then Some fault else first_fault rest

-- the values, where none is missing
abbrev pub all_of : {A : Type 0} → List (Option A) → Option (List A)
all_of [] = Some []
all_of (None ∷ rest) = None
all_of (Some x ∷ rest) = option_map (λ xs. x ∷ xs) (all_of rest)

-- nothing is in the list
abbrev pub is_empty : {A : Type 0} → List A → Bool
is_empty [] = true
is_empty (x ∷ xs) = false
