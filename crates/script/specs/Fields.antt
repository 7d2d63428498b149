-- The fields of statements: tables, values, and which rows a query asks for. This project's own.
use Rattle.std.specs.Prelude.{ℕ, List, [], ◌∷◌, map, Bool, if◌then◌else◌, codes, Option, Some, None}
use Rattle.std.specs.Option.{option_map, option_and_then}
use Rattle.rl_value.specs.declared.value.Value.{Value}
use Rattle.rl_value.specs.LiteralValue.{value_of_literal}
use Rattle.rl_value.specs.Order.{same_bytes}
use Rattle.rl_value.specs.Outcome.{all_of}
use Rattle.script_words.specs.Parts.{before, behind, dot, both, name_of}
use Rattle.script.specs.declared.statement.TableName.{TableName}
use Rattle.script.specs.declared.statement.Asked.{Asked}
use Rattle.script.specs.declared.statement.Asked.TheVariants.{All, Count, Key}

-- the word is this one
abbrev pub is : List ℕ → List ℕ → Bool
is keyword word = same_bytes word keyword

abbrev pub table_named : List ℕ → List ℕ → TableName
table_named schema name = record { schema = schema; name = name }

-- a table: two names with a dot between
unfoldable pub table_of : List ℕ → Option TableName
table_of word = both table_named (name_of (before dot word)) (option_and_then name_of (behind dot word))

-- one or more
abbrev pub some_of : {A : Type 0} → List A → Option (List A)
some_of [] = None
some_of (x ∷ xs) = Some (x ∷ xs)

-- the value of a literal
unfoldable pub value_said : List ℕ → Option Value
value_said word = value_of_literal word

-- one or more literals
unfoldable pub values_of : List (List ℕ) → Option (List Value)
values_of words = option_and_then some_of (all_of (map value_said words))

-- ALL, COUNT, or KEY with the values of a key
abbrev pub form_of_one : List ℕ → Option Asked
form_of_one word = if is (codes "ALL") word then Some All else if is (codes "COUNT") word then Some Count else None

abbrev pub form_of_key : List ℕ → List (List ℕ) → Option Asked
form_of_key word values = if is (codes "KEY") word then option_map Key (values_of values) else None

unfoldable pub form_of : List (List ℕ) → Option Asked
form_of [] = None
form_of (word ∷ []) = form_of_one word
form_of (word ∷ value ∷ values) = form_of_key word (value ∷ values)
