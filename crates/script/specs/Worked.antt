-- Worked examples: short words for lines and scripts. `src/worked.rt` states what they say as theorems that hold by computing.
use Rattle.std.specs.Prelude.{ℕ, pos, List, [], ◌∷◌, ◌++◌, codes}
use Rattle.std.specs.List.{flat_map}
use Rattle.rl_value.specs.declared.value.Value.{Value}
use Rattle.rl_value.specs.declared.value.Value.TheVariants.{Number}
use Rattle.script.specs.declared.statement.TableName.{TableName}
use Rattle.script.specs.Fields.{table_named}

-- lines, each with its LF
abbrev pub text : List (List ℕ) → List ℕ
text lines = flat_map (λ line. line ++ 10 ∷ []) lines

-- HR.EMP
abbrev pub emp : TableName
emp = table_named (codes "HR") (codes "EMP")

-- a number
abbrev pub n : ℕ → Value
n k = Number (pos k)
