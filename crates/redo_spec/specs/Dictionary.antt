-- The dictionary: the tables that the redo defines at its front, and which further one it accepts.
-- Its tables rise by id, which is also the order in which they are kept and printed. That a dictionary may stand in the
-- redo is LogMiner's; what a table must be is this project's own.
use Rattle.std.specs.Prelude.{ℕ, ◌+◌, List, [], ◌∷◌, length, Bool, true, false, not, ◌&&◌, ◌||◌, nat_le, nat_lt, ◌==◌, if◌then◌else◌, Option, Some, None, slice_get, sum_by, drop}
use Rattle.std.specs.List.{list_all, list_any, find}
use Rattle.std.specs.Option.{option_map}
use Rattle.rl_value.specs.declared.cause.LawFault.{LawFault}
use Rattle.rl_value.specs.declared.cause.LawFault.TheVariants as faults
use Rattle.rl_value.specs.Text.{is_name}
use Rattle.rl_value.specs.Order.{same_bytes}
use Rattle.rl_value.specs.Outcome.{first_fault}
use Rattle.redo_vec.specs.declared.columns.Kind.{Kind}
use Rattle.redo_vec.specs.declared.columns.Kind.TheVariants as kinds
use Rattle.redo_vec.specs.declared.columns.Column.{Column}
use Rattle.redo_vec.specs.declared.table.TableRow.{TableRow}
use Rattle.redo_vec.specs.declared.vector.Vector.{Vector}
use Rattle.redo_vec.specs.declared.vector.Vector.TheVariants.{Start, Change as OfChange, Undo, Commit, Rollback, Table, DictEnd}

-- the tables, which rise by id, and whether the dictionary is whole
pub record Dictionary : Type 0 where
  pub tables : List TableRow
  pub finished : Bool

-- before the first TABLE vector
abbrev pub no_dictionary : Dictionary
no_dictionary = record { tables = []; finished = false }

-- the table of this id
abbrev pub table_of : List TableRow → ℕ → Option TableRow
table_of tables id = find (λ t. t.id == id) tables

-- the id of the table of this schema and name
abbrev pub id_of : List TableRow → List ℕ → List ℕ → Option ℕ
id_of tables schema name = option_map (λ t. t.id) (find (λ t. same_bytes t.schema schema && same_bytes t.name name) tables)

-- the tables with one more in its place
abbrev pub with_table : TableRow → List TableRow → List TableRow
with_table t [] = t ∷ []
with_table t (u ∷ us) = if nat_lt t.id u.id then t ∷ u ∷ us else u ∷ with_table t us

abbrev pub first_of : List (List ℕ) → List ℕ
first_of [] = []
first_of (x ∷ xs) = x

-- the columns of its primary key
abbrev pub primary_of : TableRow → List ℕ
primary_of t = first_of t.keys

-- the columns of each of its unique keys
abbrev pub uniques_of : TableRow → List (List ℕ)
uniques_of t = drop 1 t.keys

-- n, n + 1 and so on, one for each of these columns
abbrev pub numbers_from : ℕ → List Column → List ℕ
numbers_from n [] = []
numbers_from n (c ∷ cs) = n ∷ numbers_from (n + 1) cs

-- 0, 1 and so on, one for each column
abbrev pub column_numbers : TableRow → List ℕ
column_numbers t = numbers_from 0 t.columns

-- ids rise from this one on
abbrev pub ids_rise : ℕ → List TableRow → Bool
ids_rise from [] = true
ids_rise from (t ∷ ts) = nat_le from t.id && ids_rise (t.id + 1) ts

-- ---- what is accepted as a table

-- the most tables of a dictionary, and the most bytes of a row and of a key
abbrev pub table_limit : ℕ
table_limit = 256

abbrev pub row_width_limit : ℕ
row_width_limit = 1024

abbrev pub key_width_limit : ℕ
key_width_limit = 128

-- the bytes of the widest value of a column: 9 for a number, and else its size and 3
abbrev pub widest : Kind → ℕ
widest kinds.Number = 9
widest (kinds.Text size) = 3 + size
widest (kinds.Raw size) = 3 + size

abbrev pub widest_of : Option Column → ℕ
widest_of None = 0
widest_of (Some c) = widest c.kind

-- the bytes of the widest row
abbrev pub widest_row : TableRow → ℕ
widest_row t = sum_by (λ c. widest c.kind) t.columns

-- the bytes of the widest key of these columns
abbrev pub widest_key : TableRow → List ℕ → ℕ
widest_key t columns = sum_by (λ c. widest_of (slice_get t.columns c)) columns

-- they have one id, or one schema and name
abbrev pub same_table : TableRow → TableRow → Bool
same_table t u = (t.id == u.id) || (same_bytes t.schema u.schema && same_bytes t.name u.name)

-- one of the lists stands twice among them
abbrev pub stands_twice : List (List ℕ) → Bool
stands_twice [] = false
stands_twice (x ∷ xs) = list_any (same_bytes x) xs || stands_twice xs

abbrev pub is_nullable : Option Column → Bool
is_nullable None = false
is_nullable (Some c) = c.nullable

-- two of the columns have one name
abbrev pub names_stand_twice : List Column → Bool
names_stand_twice [] = false
names_stand_twice (c ∷ cs) = list_any (λ d. same_bytes c.name d.name) cs || names_stand_twice cs

-- a name that is none, or a column's name twice
abbrev pub has_bad_names : TableRow → Bool
has_bad_names t = not (is_name t.schema && is_name t.name && list_all (λ c. is_name c.name) t.columns) ||
    names_stand_twice t.columns

-- a key column that is none, a column of the primary key that may be Null, or a key twice
abbrev pub has_bad_keys : TableRow → Bool
has_bad_keys t =
    not (list_all (λ key. list_all (λ c. nat_lt c (length t.columns)) key) t.keys)
    || list_any (λ c. is_nullable (slice_get t.columns c)) (primary_of t) || stands_twice t.keys

-- a row or a key that may be too wide
abbrev pub is_too_wide : TableRow → Bool
is_too_wide t = nat_lt row_width_limit (widest_row t) || list_any (λ key. nat_lt key_width_limit (widest_key t key)) t.keys

-- the first reason for which these tables do not take one more
abbrev pub table_fault : List TableRow → TableRow → Option LawFault
table_fault tables t = first_fault (
    (list_any (same_table t) tables, faults.Twice)
    ∷ (has_bad_names t, faults.Names)
    ∷ (has_bad_keys t, faults.Keys)
    ∷ (nat_le table_limit (length tables) || is_too_wide t, faults.Limit)
    ∷ [])

-- ---- the dictionary in the redo

-- a vector of the dictionary
abbrev pub is_of_dictionary : Vector → Bool
is_of_dictionary (Start x) = false
is_of_dictionary (OfChange c) = false
is_of_dictionary (Undo x) = false
is_of_dictionary (Commit x) = false
is_of_dictionary (Rollback x) = false
is_of_dictionary (Table t) = true
is_of_dictionary DictEnd = true

-- the dictionary after one more vector
abbrev pub dictionary_after : Dictionary → Vector → Dictionary
dictionary_after d (Start x) = d
dictionary_after d (OfChange c) = d
dictionary_after d (Undo x) = d
dictionary_after d (Commit x) = d
dictionary_after d (Rollback x) = d
dictionary_after d (Table t) = record d { tables = with_table t d.tables }
dictionary_after d DictEnd = record d { finished = true }
