-- Which values are a primary key of a table, and which queries a dictionary knows.
-- Any query is answered (Answers); a script's statement is refused where its table or its key is none. This project's own.
use Rattle.std.specs.Prelude.{ℕ, List, [], ◌∷◌, Bool, true, false, ◌&&◌, Option, Some, None, slice_get}
use Rattle.rl_value.specs.declared.value.Value.{Value}
use Rattle.redo_vec.specs.declared.columns.Column.{Column}
use Rattle.redo_vec.specs.declared.table.TableRow.{TableRow}
use Rattle.redo_spec.specs.ChangeForm.{fits_at}
use Rattle.redo_spec.specs.Dictionary.{primary_of, table_of}
use Rattle.query_sessions.specs.declared.query.Form.{Form}
use Rattle.query_sessions.specs.declared.query.Form.TheVariants.{All, Count, Key}
use Rattle.query_sessions.specs.declared.query.Query.{Query}

-- there is one value for each of these column numbers, and each fits its column
abbrev pub are_of_columns : List Column → List ℕ → List Value → Bool
are_of_columns columns [] [] = true
are_of_columns columns [] (v ∷ vs) = false
are_of_columns columns (k ∷ ks) [] = false
are_of_columns columns (k ∷ ks) (v ∷ vs) = fits_at (slice_get columns k) v && are_of_columns columns ks vs

-- the values are a primary key of the table
abbrev pub is_key_of : TableRow → List Value → Bool
is_key_of t values = are_of_columns t.columns (primary_of t) values

-- the table may be asked so
abbrev pub is_form_of : TableRow → Form → Bool
is_form_of t All = true
is_form_of t Count = true
is_form_of t (Key values) = is_key_of t values

abbrev pub may_be_asked_in : Option TableRow → Form → Bool
may_be_asked_in None form = false
may_be_asked_in (Some t) form = is_form_of t form

-- the query's table is one of these, and a key that it asks for is one of this table
abbrev pub may_be_asked : List TableRow → Query → Bool
may_be_asked tables q = may_be_asked_in (table_of tables q.table) q.form
