-- Changes of rows as they are printed: they are read as they were, and each word stands whole.
use Rattle.std.proofs.Common.{◌≡◌, ℕ, ◌+◌, ◌<◌, true, false, List, [], ◌∷◌, ◌++◌, Ok, refl, sym, ap, ◌∙◌}
use Rattle.std.specs.Prelude.{codes}
use Rattle.std.specs.List.{AllByRecursion}
use Rattle.std.proofs.lemmas.Bool.{and_parts, ltb-true}
use Rattle.std.proofs.lemmas.List.{append-nil}
use Rattle.rl_value.specs.declared.value.Value.{Value}
use Rattle.rl_value.specs.Literal.{literal, xid_text}
use Rattle.rl_value.specs.Text.{columns_rise, are_cells}
use Rattle.redo_vec.specs.declared.change.Change.{Change}
use Rattle.redo_vec.specs.declared.change.Op.{Op}
use Rattle.redo_vec.specs.declared.change.Op.TheVariants.{Insert, Update, Delete}
use Rattle.redo_vec.specs.declared.columns.Column.{Column}
use Rattle.redo_vec.specs.declared.table.TableRow.{TableRow}
use Rattle.redo_vec.specs.Ranges.{IsValue, AreCells, IsChange}
use Rattle.line_fields.specs.Known.{columns_known, column_word, table_word}
use Rattle.redo_lines.specs.Printing.{cell_word, cell_words, cells_words, op_word, change_words}
use Rattle.redo_lines.specs.Reading.{Line, items_until, is_new, cell_of_parts, cell_said, cells_said, cells_behind, change_of_cells, change_said}
use Rattle.line_fields.proofs.Splitting.{closes, split-joined, closes-joined}
use Rattle.line_fields.proofs.FieldLaws.{IsOutside, closes-literal, value_printed, xid_printed, closes-xid}
use Rattle.line_fields.proofs.KnownLaws.{table_printed, closes-table, column_printed, closes-column}
use Rattle.redo_lines.proofs.ListLaws.{each-append, each-map, each-then, IsRead, items_printed, no_keyword}

-- a space and = stand in no literal outside of quotes
outside_space : IsOutside 32
outside_space = record { digit = refl; name = refl; quotes = refl; minus = refl; text = refl; raw = refl; null = refl }

outside_equals : IsOutside 61
outside_equals = record { digit = refl; name = refl; quotes = refl; minus = refl; text = refl; raw = refl; null = refl }

-- ---- cells

-- a cell that has a spelling
pub record IsCell (cell : ℕ × Value) : Type 0 where
  pub column : cell.0 < 32
  pub value : IsValue cell.1

cell_read : (columns : List Column) (cell : ℕ × Value) → IsCell cell → cell_said columns (cell_word columns cell) ≡ Ok cell
unfolding cell_said cell_of_parts
cell_read columns (n, v) ok =
    let below : n < 32 = ok.column in
    ap (cell_of_parts columns) (split-joined 61 (column_word columns n) (literal v ∷ [])
    (closes-column 61 columns n refl refl below) (closes-literal 61 v outside_equals ok.value, tt))
    ∙ rw (column_printed columns n below, value_printed v ok.value) refl

cell_goes : (columns : List Column) (cell : ℕ × Value) → is_new (cell_word columns cell) ≡ false
cell_goes columns (n, v) = no_keyword 61 (column_word columns n) (literal v ++ []) (codes "NEW") refl

cell_closes : (columns : List Column) (cell : ℕ × Value) → IsCell cell → closes 32 false (cell_word columns cell) ≡ true
cell_closes columns (n, v) ok =
    let below : n < 32 = ok.column in
    closes-joined 32 61 (column_word columns n ∷ literal v ∷ []) refl
    (closes-column 32 columns n refl refl below, (closes-literal 32 v outside_space ok.value, tt))

cells_below : (from : ℕ) (cells : List (ℕ × Value)) → columns_rise from cells ≡ true →
    AllByRecursion (λ c. IsValue c.1) cells → AllByRecursion IsCell cells
cells_below from [] e each = tt
cells_below from ((n, v) ∷ cells) e each =
    let p = and_parts _ _ e in
    let q = and_parts _ _ p.0 in
    (record { column = ltb-true _ _ q.1; value = each.0 }, cells_below (n + 1) cells p.1 each.1)

are_cells_each : (cells : List (ℕ × Value)) → AreCells cells → AllByRecursion IsCell cells
are_cells_each cells ok = cells_below 0 cells ok.0 ok.1

cells_read : (columns : List Column) (c : ℕ × Value) (cells : List (ℕ × Value)) (rest : Line) → AreCells (c ∷ cells) →
    items_until is_new (cell_said columns) rest ≡ Ok ([], rest)
    → cells_said columns (cell_words columns (c ∷ cells) ++ rest) ≡ Ok (c ∷ cells, rest)
unfolding cells_said
cells_read columns c cells rest ok stop =
    let each = each-then IsCell (IsRead is_new (cell_said columns) (cell_word columns))
    (λ x h. record { goes = cell_goes columns x; read = cell_read columns x h }) (c ∷ cells) (are_cells_each (c ∷ cells) ok) in
    let form : are_cells (c ∷ cells) ≡ true = ok.0 in
    rw (items_printed is_new (cell_said columns) (cell_word columns) (c ∷ cells) rest each stop, form) refl

new_stops : (columns : List Column) (new : List (ℕ × Value)) → items_until is_new (cell_said columns)
    (cells_words (codes "NEW") columns new) ≡ Ok ([], cells_words (codes "NEW") columns new)
new_stops columns [] = refl
new_stops columns (c ∷ cells) = refl

old_read : (columns : List Column) (old new : List (ℕ × Value)) → AreCells old →
    cells_behind (codes "OLD") columns (cells_words (codes "OLD") columns old ++ cells_words (codes "NEW") columns new)
    ≡ Ok (old, cells_words (codes "NEW") columns new)
unfolding cells_behind
old_read columns [] [] ok = refl
old_read columns [] (c ∷ new) ok = refl
old_read columns (c ∷ old) new ok = cells_read columns c old (cells_words (codes "NEW") columns new) ok (new_stops columns new)

new_read : (columns : List Column) (new : List (ℕ × Value)) → AreCells new →
    cells_behind (codes "NEW") columns (cells_words (codes "NEW") columns new) ≡ Ok (new, [])
unfolding cells_behind
new_read columns [] ok = refl
new_read columns (c ∷ new) ok =
    ap (cells_said columns) (sym (append-nil (cell_words columns (c ∷ new)))) ∙ cells_read columns c new [] ok refl

-- ---- changes

pub change_read : (tables : List TableRow) (c : Change) → IsChange c → change_said tables c.op (xid_text c.xid
    ∷ table_word tables c.table
    ∷ (cells_words (codes "OLD") (columns_known tables c.table) c.old ++
    cells_words (codes "NEW") (columns_known tables c.table) c.new)) ≡ Ok c
unfolding change_said change_of_cells
change_read tables c ok =
    rw (
      xid_printed c.xid ok.xid,
      table_printed tables c.table ok.table,
      old_read (columns_known tables c.table) c.old c.new ok.old,
      new_read (columns_known tables c.table) c.new ok.new,
    ) refl

cells_close : (keyword : List ℕ) (columns : List Column) (cells : List (ℕ × Value)) → closes 32 false keyword ≡ true →
    AreCells cells → AllByRecursion (λ w. closes 32 false w ≡ true) (cells_words keyword columns cells)
cells_close keyword columns [] e ok = tt
cells_close keyword columns (c ∷ cells) e ok = (
  e,
  each-map IsCell (λ w. closes 32 false w ≡ true) (cell_word columns) (cell_closes columns) (c ∷ cells)
      (are_cells_each (c ∷ cells) ok),
)

op_closes : (o : Op) → closes 32 false (op_word o) ≡ true
op_closes Insert = refl
op_closes Update = refl
op_closes Delete = refl

pub change_closes : (tables : List TableRow) (c : Change) → IsChange c →
    AllByRecursion (λ w. closes 32 false w ≡ true) (change_words tables c)
change_closes tables c ok = (
  op_closes c.op,
  (
    closes-xid c.xid ok.xid,
    (
      closes-table tables c.table ok.table,
      each-append (λ w. closes 32 false w ≡ true) (cells_words (codes "OLD") (columns_known tables c.table) c.old)
          (cells_words (codes "NEW") (columns_known tables c.table) c.new)
          (cells_close (codes "OLD") (columns_known tables c.table) c.old refl ok.old)
          (cells_close (codes "NEW") (columns_known tables c.table) c.new refl ok.new),
    ),
  ),
)
