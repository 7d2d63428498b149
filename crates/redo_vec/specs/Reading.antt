-- Reading a record from left to right, with the first fault and its place. n is the record's length.
-- A field is refused at its first byte, and a field that is not whole, before its contents are judged, at the
-- record's length. What a record is spelled like stands in Spelling, and that the two agree in the clauses of
-- `decode_record`.
use Rattle.std.specs.Prelude.{ℕ, zero, suc, ◌+◌, ◌-◌, List, [], ◌∷◌, ◌++◌, length, take, drop, Bool, ◌&&◌, ◌||◌, ◌==◌, nat_le, nat_lt, if◌then◌else◌, Result, Ok, Err}
use Rattle.std.specs.Int.{Width, w16, w32, w64, byte_len, from_be_bytes, cast_signed}
use Rattle.std.specs.Str.Lossy.{utf8_valid_len}
use Rattle.rl_value.specs.declared.value.Value.{Value}
use Rattle.rl_value.specs.declared.value.Value.TheVariants.{Null, Number, Text, Raw}
use Rattle.rl_value.specs.declared.cause.VecFault.{VecFault}
use Rattle.rl_value.specs.declared.cause.VecFault.TheVariants as faults
use Rattle.rl_value.specs.declared.xid.Xid.{Xid}
use Rattle.redo_vec.specs.declared.change.Change.{Change}
use Rattle.redo_vec.specs.declared.change.Op.{Op}
use Rattle.redo_vec.specs.declared.change.Op.TheVariants.{Insert, Update, Delete}
use Rattle.redo_vec.specs.declared.columns.Kind.{Kind}
use Rattle.redo_vec.specs.declared.columns.Kind.TheVariants as kinds
use Rattle.redo_vec.specs.declared.columns.Column.{Column}
use Rattle.redo_vec.specs.declared.table.TableRow.{TableRow}
use Rattle.redo_vec.specs.declared.vector.Vector.{Vector}
use Rattle.redo_vec.specs.declared.vector.Vector.TheVariants as vectors
use Rattle.redo_vec.specs.declared.redo_rec.RedoRec.{RedoRec}

pub record Fault : Type 0 where
  pub fault : VecFault
  pub place : ℕ

-- a field, and the bytes behind it
abbrev pub Read : Type 0 → Type 0
Read A = Result (A × List ℕ) Fault

infixl 10 ◌>>=◌
abbrev pub ◌>>=◌ : {A B : Type 0} → Result A Fault → (A → Result B Fault) → Result B Fault
(Ok x) >>= f = f x
(Err e) >>= f = Err e

-- a fault of the field that begins where these bytes are left
abbrev pub fault_at : {A : Type 0} → VecFault → ℕ → List ℕ → Result A Fault
fault_at fault n left = Err (record { fault = fault; place = n - length left })

abbrev pub number_at : Width → ℕ → List ℕ → Read ℕ
number_at w n bytes = if nat_lt (length bytes) (byte_len w) then fault_at faults.End n [] else Ok
    (from_be_bytes w (take (byte_len w) bytes), drop (byte_len w) bytes)

abbrev pub byte_at : ℕ → List ℕ → Read ℕ
byte_at n [] = fault_at faults.End n []
byte_at n (b ∷ bytes) = Ok (b, bytes)

abbrev pub bytes_at : ℕ → ℕ → List ℕ → Read (List ℕ)
bytes_at n count bytes = if nat_lt (length bytes) count then fault_at faults.End n [] else Ok (take count bytes, drop count bytes)

unfoldable pub xid_at : ℕ → List ℕ → Read Xid
xid_at n bytes = do
  usn ← number_at w16 n bytes
  slot ← number_at w16 n usn.1
  sqn ← number_at w32 n slot.1
  Ok (record { usn = usn.0; slot = slot.0; sqn = sqn.0 }, sqn.1)

-- so many items one behind the other; each is read under a number that the one before tells
abbrev pub items_from : {A : Type 0} → (ℕ → List ℕ → Read A) → (A → ℕ) → ℕ → ℕ → List ℕ → Read (List A)
items_from item next zero under bytes = Ok ([], bytes)
items_from item next (suc count) under bytes = do
  first ← item under bytes
  more ← items_from item next count (next first.0) first.1
  Ok (first.0 ∷ more.0, more.1)

-- what was read before, and what is still read
abbrev pub with_front : {A : Type 0} → List A → Read (List A) → Read (List A)
with_front front read = read >>= λ x. Ok (front ++ x.0, x.1)

-- a column from this one on, below 32
abbrev pub rising_at : ℕ → ℕ → List ℕ → Read ℕ
rising_at n from bytes = do
  column ← byte_at n bytes
  if nat_lt column.0 from || nat_lt 31 column.0 then fault_at faults.Cells n bytes else Ok column

-- ---- values and cells

-- the bytes of a text or a raw, 1 to 500
unfoldable pub content_at : ℕ → List ℕ → Read (List ℕ)
content_at n bytes = do
  size ← number_at w16 n bytes
  if size.0 == 0 then fault_at faults.Empty n bytes
      else if nat_lt 500 size.0 then fault_at faults.Size n bytes
      else bytes_at n size.0 size.1

unfoldable pub text_at : ℕ → List ℕ → Read Value
text_at n bytes = do
  text ← content_at n bytes
  if utf8_valid_len text.0 == length text.0 then Ok (Text text.0, text.1) else fault_at faults.Utf8 n (text.0 ++ text.1)

unfoldable pub value_at : ℕ → List ℕ → Read Value
value_at n bytes = do
  tag ← byte_at n bytes
  if tag.0 == 0 then Ok (Null, tag.1)
      else if tag.0 == 1 then (number_at w64 n tag.1 >>= λ z. Ok (Number (cast_signed w64 z.0), z.1))
      else if tag.0 == 2 then text_at n tag.1
      else if tag.0 == 3 then (content_at n tag.1 >>= λ raw. Ok (Raw raw.0, raw.1))
      else fault_at faults.Tag n bytes

-- a cell, whose column is this one or a later one
abbrev pub cell_at : ℕ → ℕ → List ℕ → Read (ℕ × Value)
cell_at n from bytes = do
  column ← rising_at n from bytes
  v ← value_at n column.1
  Ok ((column.0, v.0), v.1)

-- the first column that may follow
abbrev pub after_cell : ℕ × Value → ℕ
after_cell (column, v) = column + 1

-- so many cells, whose columns rise from this one on
unfoldable pub cells_from : ℕ → ℕ → ℕ → List ℕ → Read (List (ℕ × Value))
cells_from count from n bytes = items_from (cell_at n) after_cell count from bytes

unfoldable pub cells_at : ℕ → List ℕ → Read (List (ℕ × Value))
cells_at n bytes = do
  count ← byte_at n bytes
  if nat_lt 32 count.0 then fault_at faults.Cells n bytes else cells_from count.0 0 n count.1

unfoldable pub change_at : Op → ℕ → List ℕ → Read Change
change_at op n bytes = do
  xid ← xid_at n bytes
  table ← number_at w32 n xid.1
  old ← cells_at n table.1
  new ← cells_at n old.1
  Ok (record { xid = xid.0; op = op; table = table.0; old = old.0; new = new.0 }, new.1)

-- ---- tables

unfoldable pub name_at : ℕ → List ℕ → Read (List ℕ)
name_at n bytes = do
  size ← byte_at n bytes
  if size.0 == 0 || nat_lt 30 size.0 then fault_at faults.Size n bytes else bytes_at n size.0 size.1

abbrev pub is_size_of : ℕ → ℕ → Bool
is_size_of kind size = if kind == 1 then size == 0 else nat_le 1 size && nat_le size 500

abbrev pub kind_by_number : ℕ → ℕ → Kind
kind_by_number kind size = if kind == 1 then kinds.Number else if kind == 2 then kinds.Text size else kinds.Raw size

unfoldable pub kind_at : ℕ → List ℕ → Read Kind
kind_at n bytes = do
  kind ← byte_at n bytes
  if kind.0 == 0 || nat_lt 3 kind.0 then fault_at faults.Tag n bytes
      else (number_at w16 n kind.1 >>= λ size. if is_size_of kind.0 size.0 then Ok (kind_by_number kind.0 size.0, size.1) else
      fault_at faults.Size n kind.1)

unfoldable pub flag_at : ℕ → List ℕ → Read Bool
flag_at n bytes = do
  flag ← byte_at n bytes
  if nat_lt 1 flag.0 then fault_at faults.Tag n bytes else Ok (flag.0 == 1, flag.1)

unfoldable pub column_at : ℕ → List ℕ → Read Column
column_at n bytes = do
  name ← name_at n bytes
  kind ← kind_at n name.1
  nullable ← flag_at n kind.1
  Ok (record { name = name.0; kind = kind.0; nullable = nullable.0 }, nullable.1)

unfoldable pub columns_from : ℕ → ℕ → List ℕ → Read (List Column)
columns_from count n bytes = items_from (λ _. column_at n) (λ _. 0) count 0 bytes

-- a count from 1 to 32
unfoldable pub count_at : ℕ → List ℕ → Read ℕ
count_at n bytes = do
  count ← byte_at n bytes
  if count.0 == 0 || nat_lt 32 count.0 then fault_at faults.Cells n bytes else Ok count

-- so many columns, which rise from this one on
unfoldable pub rising_from : ℕ → ℕ → ℕ → List ℕ → Read (List ℕ)
rising_from count from n bytes = items_from (rising_at n) (λ c. c + 1) count from bytes

unfoldable pub key_at : ℕ → List ℕ → Read (List ℕ)
key_at n bytes = do
  count ← count_at n bytes
  rising_from count.0 0 n count.1

unfoldable pub keys_from : ℕ → ℕ → List ℕ → Read (List (List ℕ))
keys_from count n bytes = items_from (λ _. key_at n) (λ _. 0) count 0 bytes

unfoldable pub keys_at : ℕ → List ℕ → Read (List (List ℕ))
keys_at n bytes = do
  primary ← key_at n bytes
  count ← byte_at n primary.1
  if nat_lt 4 count.0 then fault_at faults.Cells n primary.1
      else (keys_from count.0 n count.1 >>= λ uniques. Ok (primary.0 ∷ uniques.0, uniques.1))

unfoldable pub table_at : ℕ → List ℕ → Read TableRow
table_at n bytes = do
  id ← number_at w32 n bytes
  schema ← name_at n id.1
  name ← name_at n schema.1
  count ← count_at n name.1
  columns ← columns_from count.0 n count.1
  keys ← keys_at n columns.1
  Ok (record { id = id.0; schema = schema.0; name = name.0; columns = columns.0; keys = keys.0 }, keys.1)

-- ---- vectors

abbrev pub of : {A : Type 0} → (A → Vector) → Read A → Read Vector
of make read = read >>= λ x. Ok (make x.0, x.1)

unfoldable pub vector_at : ℕ → List ℕ → Read Vector
vector_at n bytes = do
  kind ← byte_at n bytes
  if kind.0 == 1 then of vectors.Start (xid_at n kind.1)
      else if kind.0 == 2 then of vectors.Change (change_at Insert n kind.1)
      else if kind.0 == 3 then of vectors.Change (change_at Update n kind.1)
      else if kind.0 == 4 then of vectors.Change (change_at Delete n kind.1)
      else if kind.0 == 5 then of vectors.Undo (xid_at n kind.1)
      else if kind.0 == 6 then of vectors.Commit (xid_at n kind.1)
      else if kind.0 == 7 then of vectors.Rollback (xid_at n kind.1)
      else if kind.0 == 8 then of vectors.Table (table_at n kind.1)
      else if kind.0 == 9 then Ok (vectors.DictEnd, kind.1)
      else fault_at faults.Kind n bytes

unfoldable pub vectors_from : ℕ → ℕ → List ℕ → Read (List Vector)
vectors_from count n bytes = items_from (λ _. vector_at n) (λ _. 0) count 0 bytes

-- a record that the cutter accepts: its length, its SCN, its count of vectors, and the vectors to its end
unfoldable pub record_at : List ℕ → Result RedoRec Fault
record_at bytes = do
  size ← number_at w32 (length bytes) bytes
  scn ← number_at w64 (length bytes) size.1
  count ← number_at w16 (length bytes) scn.1
  found ← vectors_from count.0 (length bytes) count.1
  if length found.1 == 0 then Ok (record { scn = scn.0; vectors = found.0 }) else fault_at faults.End (length bytes) found.1
