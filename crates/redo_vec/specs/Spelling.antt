-- The one spelling of a record, field by field. Numbers are big-endian.
use Rattle.std.specs.Prelude.{ℕ, ◌+◌, List, [], ◌∷◌, ◌++◌, length, if◌then◌else◌}
use Rattle.std.specs.List.{flat_map}
use Rattle.std.specs.Int.{w16, w32, w64, to_be_bytes, cast_unsigned}
use Rattle.rl_value.specs.declared.value.Value.{Value}
use Rattle.rl_value.specs.declared.value.Value.TheVariants.{Null, Number, Text, Raw}
use Rattle.rl_value.specs.declared.xid.Xid.{Xid}
use Rattle.redo_vec.specs.declared.change.Change.{Change}
use Rattle.redo_vec.specs.declared.change.Op.{Op}
use Rattle.redo_vec.specs.declared.change.Op.TheVariants.{Insert, Update, Delete}
use Rattle.redo_vec.specs.declared.columns.Kind.{Kind}
use Rattle.redo_vec.specs.declared.columns.Kind.TheVariants as kinds
use Rattle.redo_vec.specs.declared.columns.Column.{Column}
use Rattle.redo_vec.specs.declared.table.TableRow.{TableRow}
use Rattle.redo_vec.specs.declared.vector.Vector.{Vector}
use Rattle.redo_vec.specs.declared.vector.Vector.TheVariants as vectors
use Rattle.redo_vec.specs.declared.redo_rec.RedoRec.{RedoRec}

abbrev pub be16 : ℕ → List ℕ
be16 n = to_be_bytes w16 n

abbrev pub be32 : ℕ → List ℕ
be32 n = to_be_bytes w32 n

abbrev pub be64 : ℕ → List ℕ
be64 n = to_be_bytes w64 n

-- a tag, and what it announces
abbrev pub value : Value → List ℕ
value Null = 0 ∷ []
value (Number z) = 1 ∷ be64 (cast_unsigned w64 z)
value (Text bytes) = 2 ∷ be16 (length bytes) ++ bytes
value (Raw bytes) = 3 ∷ be16 (length bytes) ++ bytes

abbrev pub cell : ℕ × Value → List ℕ
cell (column, v) = column ∷ value v

abbrev pub cells : List (ℕ × Value) → List ℕ
cells cs = length cs ∷ flat_map cell cs

abbrev pub xid : Xid → List ℕ
xid x = be16 x.usn ++ be16 x.slot ++ be32 x.sqn

abbrev pub name : List ℕ → List ℕ
name bytes = length bytes ∷ bytes

abbrev pub kind : Kind → List ℕ
kind kinds.Number = 1 ∷ be16 0
kind (kinds.Text size) = 2 ∷ be16 size
kind (kinds.Raw size) = 3 ∷ be16 size

abbrev pub column : Column → List ℕ
column c = name c.name ++ kind c.kind ++ (if c.nullable then 1 else 0) ∷ []

abbrev pub key : List ℕ → List ℕ
key columns = length columns ∷ columns

-- the primary key, and then the unique keys with their count before them
abbrev pub keys : List (List ℕ) → List ℕ
keys [] = []
keys (primary ∷ uniques) = key primary ++ length uniques ∷ flat_map key uniques

-- the body of a TABLE vector after the id
abbrev pub table : TableRow → List ℕ
table t = name t.schema ++ name t.name ++ length t.columns ∷ flat_map column t.columns ++ keys t.keys

abbrev pub op : Op → ℕ
op Insert = 2
op Update = 3
op Delete = 4

abbrev pub change : Change → List ℕ
change c = op c.op ∷ xid c.xid ++ be32 c.table ++ cells c.old ++ cells c.new

abbrev pub vector : Vector → List ℕ
vector (vectors.Start x) = 1 ∷ xid x
vector (vectors.Change c) = change c
vector (vectors.Undo x) = 5 ∷ xid x
vector (vectors.Commit x) = 6 ∷ xid x
vector (vectors.Rollback x) = 7 ∷ xid x
vector (vectors.Table t) = 8 ∷ be32 t.id ++ table t
vector vectors.DictEnd = 9 ∷ []

-- the length of the whole record, its SCN, and its vectors with their count before them
abbrev pub record_bytes : RedoRec → List ℕ
record_bytes r =
    let body = flat_map vector r.vectors in
    be32 (14 + length body) ++ be64 r.scn ++ be16 (length r.vectors) ++ body
