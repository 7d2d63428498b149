-- The one table of a workload, LOAD.ACC: an account's number ID and its balance BAL. Both are numbers and never Null, and ID is
-- the key. A transaction opens an account with an amount, or adds an amount to its balance.
use Rattle.std.specs.Prelude.{ℕ, ◌+◌, pos, List, [], ◌∷◌, false, codes, if◌then◌else◌, ◌==◌}
use Rattle.rl_value.specs.declared.value.Value.{Value}
use Rattle.rl_value.specs.declared.value.Value.TheVariants.{Number}
use Rattle.rl_value.specs.declared.xid.Xid.{Xid}
use Rattle.redo_vec.specs.declared.change.Change.{Change}
use Rattle.redo_vec.specs.declared.change.Op.TheVariants.{Insert, Update}
use Rattle.redo_vec.specs.declared.columns.Kind.TheVariants as kinds
use Rattle.redo_vec.specs.declared.columns.Column.{Column}
use Rattle.redo_vec.specs.declared.table.TableRow.{TableRow}
use Rattle.redo_vec.specs.declared.vector.Vector.{Vector}
use Rattle.redo_vec.specs.declared.vector.Vector.TheVariants.{Table, DictEnd}

abbrev pub number_column : List ℕ → Column
number_column name = record { name = name; kind = kinds.Number; nullable = false }

abbrev pub accounts : TableRow
accounts = record {
  id = 1;
  schema = codes "LOAD";
  name = codes "ACC";
  columns = number_column (codes "ID") ∷ number_column (codes "BAL") ∷ [];
  keys = (0 ∷ []) ∷ [];
}

-- the vectors of the first record
unfoldable pub dictionary_vectors : List Vector
dictionary_vectors = Table accounts ∷ DictEnd ∷ []

-- the id of the transaction of this number
abbrev pub xid_of : ℕ → Xid
xid_of number = record { usn = 1; slot = 1; sqn = number }

abbrev pub natural : ℕ → Value
natural k = Number (pos k)

abbrev pub opening : ℕ → ℕ → ℕ → Change
opening number id amount =
    record { xid = xid_of number; op = Insert; table = 1; old = []; new = (0, natural id) ∷ (1, natural amount) ∷ [] }

abbrev pub paying_in : ℕ → ℕ → ℕ → ℕ → Change
paying_in number id balance amount =
    record {
      xid = xid_of number;
      op = Update;
      table = 1;
      old = (0, natural id) ∷ (1, natural balance) ∷ [];
      new = (1, natural (balance + amount)) ∷ [];
    }

-- transaction number opens account id with an amount, or adds the amount to its balance
abbrev pub account_change : ℕ → ℕ → ℕ → ℕ → Change
account_change number id balance amount = if balance == 0 then opening number id amount else paying_in number id balance amount
