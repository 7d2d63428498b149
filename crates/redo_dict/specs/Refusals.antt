-- What a refusal of the dictionary says: the first reason against a table or a change, in the words of the redo's faults.
use Rattle.std.specs.Prelude.{◌≡◌, Option, Some, None, Result, Ok, Err}
use Rattle.rl_value.specs.declared.cause.LawFault.{LawFault}
use Rattle.rl_value.specs.declared.cause.LawFault.TheVariants as laws
use Rattle.redo_vec.specs.declared.table.TableRow.{TableRow}
use Rattle.redo_dict.specs.declared.fault.DictFault.{DictFault}
use Rattle.redo_dict.specs.declared.fault.DictFault.TheVariants as tables
use Rattle.redo_dict.specs.declared.fault.ChangeFault.{ChangeFault}
use Rattle.redo_dict.specs.declared.fault.ChangeFault.TheVariants as changes

-- a table is refused for this reason; memory is wanted only where there is none
abbrev pub IsTableRefusal : DictFault → Option LawFault → Type 0
IsTableRefusal tables.Twice reason = reason ≡ Some laws.Twice
IsTableRefusal tables.Names reason = reason ≡ Some laws.Names
IsTableRefusal tables.Keys reason = reason ≡ Some laws.Keys
IsTableRefusal tables.Limit reason = reason ≡ Some laws.Limit
IsTableRefusal tables.Memory reason = reason ≡ None

-- a table is taken where there is no reason against it, and comes back where it is refused
abbrev pub TakesTable : {T : Type 0} → Option LawFault → TableRow → Result T (DictFault × TableRow) → Type 0
TakesTable reason row (Ok done) = reason ≡ None
TakesTable reason row (Err (fault, back)) = IsTableRefusal fault reason × (back ≡ row)

-- the reason of a refused change
abbrev pub change_reason : ChangeFault → LawFault
change_reason changes.NoTable = laws.NoTable
change_reason changes.Columns = laws.Columns
change_reason changes.Types = laws.Types
change_reason changes.Supplement = laws.Supplement

-- a change is accepted where there is no reason against it, and is else refused for the first
abbrev pub Accepts : {T : Type 0} → Option LawFault → Result T ChangeFault → Type 0
Accepts reason (Ok done) = reason ≡ None
Accepts reason (Err fault) = reason ≡ Some (change_reason fault)
