-- A change vector is read from the line that is printed for it.
use Rattle.std.proofs.Common.{◌≡◌, ◌≤◌, true, false, List, [], ◌∷◌, ◌++◌, length, Ok, refl, ap, ◌∙◌, subst, arith}
use Rattle.std.specs.Prelude.{codes}
use Rattle.std.specs.List.{AllByRecursion}
use Rattle.rl_base.specs.Lines.{is_line}
use Rattle.rl_value.specs.declared.xid.Xid.{Xid}
use Rattle.rl_value.specs.Literal.{xid_text}
use Rattle.redo_vec.specs.declared.change.Change.{Change}
use Rattle.redo_vec.specs.declared.change.Op.{Op}
use Rattle.redo_vec.specs.declared.change.Op.TheVariants.{Insert, Update, Delete}
use Rattle.redo_vec.specs.declared.table.TableRow.{TableRow}
use Rattle.redo_vec.specs.declared.vector.Vector.{Vector}
use Rattle.redo_vec.specs.declared.vector.Vector.TheVariants as vectors
use Rattle.redo_vec.specs.Ranges.{IsXid, IsChange, IsVector}
use Rattle.line_fields.specs.Known.{columns_known, table_word}
use Rattle.redo_lines.specs.Printing.{cells_words, op_word, vector_words, line_of_vector}
use Rattle.redo_lines.specs.Reading.{Line, change_said, xid_alone, vector_of_words, vector_said, vector_of_line}
use Rattle.line_fields.specs.Words.{split, space}
use Rattle.line_fields.proofs.Splitting.{closes, is_line-joined}
use Rattle.line_fields.proofs.FieldLaws.{xid_printed, closes-xid}
use Rattle.redo_lines.proofs.ListLaws.{split-all}
use Rattle.redo_lines.proofs.ChangeLaws.{change_read, change_closes}
use Rattle.redo_lines.proofs.TableLaws.{definition_read, definition_closes}

xid_read : (x : Xid) → IsXid x → xid_alone (xid_text x ∷ []) ≡ Ok x
unfolding xid_alone
xid_read x ok = rw (xid_printed x ok) refl

-- the words of a change behind its keyword
abbrev words_behind : List TableRow → Change → Line
words_behind tables c =
    xid_text c.xid ∷ table_word tables c.table
    ∷ (cells_words (codes "OLD") (columns_known tables c.table) c.old ++
    cells_words (codes "NEW") (columns_known tables c.table) c.new)

change_of_op : (tables : List TableRow) (o : Op) (c : Change) → c.op ≡ o → IsChange c →
    change_said tables o (words_behind tables c) ≡ Ok c
change_of_op tables o c e ok = subst (λ (p : Op). change_said tables p (words_behind tables c) ≡ Ok c) e (change_read tables c ok)

change_as : (tables : List TableRow) (o : Op) (c : Change) → c.op ≡ o → IsChange c →
    vector_of_words tables (op_word o) (words_behind tables c) ≡ Ok (vectors.Change c)
unfolding vector_of_words
change_as tables Insert c e ok = rw (change_of_op tables Insert c e ok) refl
change_as tables Update c e ok = rw (change_of_op tables Update c e ok) refl
change_as tables Delete c e ok = rw (change_of_op tables Delete c e ok) refl

words_read : (tables : List TableRow) (v : Vector) → IsVector v → vector_said tables (vector_words tables v) ≡ Ok v
unfolding vector_said vector_of_words
words_read tables (vectors.Start x) ok = rw (xid_read x ok) refl
words_read tables (vectors.Change c) ok = change_as tables c.op c refl ok
words_read tables (vectors.Undo x) ok = rw (xid_read x ok) refl
words_read tables (vectors.Commit x) ok = rw (xid_read x ok) refl
words_read tables (vectors.Rollback x) ok = rw (xid_read x ok) refl
words_read tables (vectors.Table t) ok = rw (definition_read t ok) refl
words_read tables vectors.DictEnd ok = refl

words_close : (tables : List TableRow) (v : Vector) → IsVector v →
    AllByRecursion (λ w. closes 32 false w ≡ true) (vector_words tables v)
words_close tables (vectors.Start x) ok = (refl, (closes-xid x ok, tt))
words_close tables (vectors.Change c) ok = change_closes tables c ok
words_close tables (vectors.Undo x) ok = (refl, (closes-xid x ok, tt))
words_close tables (vectors.Commit x) ok = (refl, (closes-xid x ok, tt))
words_close tables (vectors.Rollback x) ok = (refl, (closes-xid x ok, tt))
words_close tables (vectors.Table t) ok = definition_closes t ok
words_close tables vectors.DictEnd ok = (refl, tt)

some_word : (tables : List TableRow) (v : Vector) → 1 ≤ length (vector_words tables v)
some_word tables (vectors.Start x) = omega arith
some_word tables (vectors.Change c) = omega arith
some_word tables (vectors.Undo x) = omega arith
some_word tables (vectors.Commit x) = omega arith
some_word tables (vectors.Rollback x) = omega arith
some_word tables (vectors.Table t) = omega arith
some_word tables vectors.DictEnd = omega arith

-- the printed line is cut into its words
pub words_split : (tables : List TableRow) (v : Vector) → IsVector v →
    split space (line_of_vector tables v) ≡ vector_words tables v
words_split tables v ok = split-all 32 (vector_words tables v) (some_word tables v) (words_close tables v ok)

pub line_read : (tables : List TableRow) (v : Vector) → IsVector v → vector_of_line tables (line_of_vector tables v) ≡ Ok v
line_read tables v ok = ap (vector_said tables) (words_split tables v ok) ∙ words_read tables v ok

-- and no byte ends it
pub line_alone : (tables : List TableRow) (v : Vector) → IsVector v → is_line (line_of_vector tables v) ≡ true
line_alone tables v ok = is_line-joined (vector_words tables v) (words_close tables v ok)
