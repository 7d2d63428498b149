-- Which records have a spelling: each number fits its field, and each list its form.
-- A value of the code meets all of this by its type but the length of the record; a variable of a law has to be told.
use Rattle.std.specs.Prelude.{ℕ, ◌+◌, ◌≤◌, ◌<◌, ◌^◌, List, length, IsTrue, FitsSigned, ⊤}
use Rattle.std.specs.Int.{w64}
use Rattle.std.specs.List.{flat_map, AllByRecursion}
use Rattle.rl_value.specs.declared.value.Value.{Value}
use Rattle.rl_value.specs.declared.value.Value.TheVariants.{Null, Number, Text, Raw}
use Rattle.rl_value.specs.declared.xid.Xid.{Xid}
use Rattle.rl_value.specs.Text.{IsText, IsRaw, are_cells}
use Rattle.redo_vec.specs.declared.change.Change.{Change}
use Rattle.redo_vec.specs.declared.columns.Kind.{Kind}
use Rattle.redo_vec.specs.declared.columns.Kind.TheVariants as kinds
use Rattle.redo_vec.specs.declared.columns.Column.{Column}
use Rattle.redo_vec.specs.declared.table.TableRow.{TableRow}
use Rattle.redo_vec.specs.declared.vector.Vector.{Vector}
use Rattle.redo_vec.specs.declared.vector.Vector.TheVariants as vectors
use Rattle.redo_vec.specs.declared.redo_rec.RedoRec.{RedoRec}
use Rattle.redo_vec.specs.Forms.{is_line30, are_keys}
use Rattle.redo_vec.specs.Spelling.{vector}

abbrev pub AreBytes : List ℕ → Type 0
AreBytes bytes = AllByRecursion (λ b. b < 256) bytes

abbrev pub IsValue : Value → Type 0
IsValue Null = ⊤
IsValue (Number z) = FitsSigned w64 z
IsValue (Text bytes) = IsText bytes × AreBytes bytes
IsValue (Raw bytes) = IsRaw bytes × AreBytes bytes

abbrev pub AreCells : List (ℕ × Value) → Type 0
AreCells cells = IsTrue (are_cells cells) × AllByRecursion (λ c. IsValue c.1) cells

pub record IsXid (x : Xid) : Type 0 where
  pub usn : x.usn < 2 ^ 16
  pub slot : x.slot < 2 ^ 16
  pub sqn : x.sqn < 2 ^ 32

pub record IsChange (c : Change) : Type 0 where
  pub xid : IsXid c.xid
  pub table : c.table < 2 ^ 32
  pub old : AreCells c.old
  pub new : AreCells c.new

abbrev pub IsKind : Kind → Type 0
IsKind kinds.Number = ⊤
IsKind (kinds.Text size) = (1 ≤ size) × (size ≤ 500)
IsKind (kinds.Raw size) = (1 ≤ size) × (size ≤ 500)

abbrev pub IsWord : List ℕ → Type 0
IsWord bytes = IsTrue (is_line30 bytes) × AreBytes bytes

pub record IsColumn (c : Column) : Type 0 where
  pub name : IsWord c.name
  pub kind : IsKind c.kind

pub record IsTable (t : TableRow) : Type 0 where
  pub id : t.id < 2 ^ 32
  pub schema : IsWord t.schema
  pub name : IsWord t.name
  pub some : 1 ≤ length t.columns
  pub most : length t.columns ≤ 32
  pub columns : AllByRecursion IsColumn t.columns
  pub keys : IsTrue (are_keys t.keys)

abbrev pub IsVector : Vector → Type 0
IsVector (vectors.Start x) = IsXid x
IsVector (vectors.Change c) = IsChange c
IsVector (vectors.Undo x) = IsXid x
IsVector (vectors.Commit x) = IsXid x
IsVector (vectors.Rollback x) = IsXid x
IsVector (vectors.Table t) = IsTable t
IsVector vectors.DictEnd = ⊤

-- a record that has a spelling
pub record IsRecord (r : RedoRec) : Type 0 where
  pub scn : r.scn < 2 ^ 64
  pub some : 1 ≤ length r.vectors
  pub most : length r.vectors ≤ 255
  pub vectors : AllByRecursion IsVector r.vectors
  pub size : 14 + length (flat_map vector r.vectors) ≤ 65536
