-- Words and lines, joined in one step or two.
use Rattle.std.proofs.Common.{◌≡◌, ℕ, List, [], ◌∷◌, ◌++◌, Bool, true, false, refl, ap, ◌∙◌, sym, map, append-nil, codes, length}
use Rattle.std.specs.List.{flat_map, join_with_byte}
use Rattle.std.specs.Fmt.{decimal}
use Rattle.rl_value.specs.declared.verdict.Verdict.{Verdict}
use Rattle.redo_vec.specs.declared.table.TableRow.{TableRow}
use Rattle.redo_spec.specs.Tables.{Rows, RowsById, Table, assembled, rows_by}
use Rattle.std.proofs.lemmas.Grind.{flat_map-append}
use Rattle.std.proofs.lemmas.List.{append_assoc}
use Rattle.redo_spec.specs.Lines.{words, written, table_lines, fold_lines, end_line, verdict_text}
use Rattle.rl_value.specs.Literal.{row_text}
use Rattle.primary.specs.declared.plain.Folded.{Folded as Plainly}
use Rattle.primary.specs.Progress.{tables_shown}
use Rattle.primary.specs.Starts.{folded_of}
use Rattle.standby.specs.Printing.{spaced_words, end_words, with_end, row_line, rows_text, table_line, table_text, definitions_shown, applied_text, end_text}

-- a first word, and each later one with a space before it
pub joined-spaced : (w : List ℕ) (ws : List (List ℕ)) → join_with_byte 32 (w ∷ ws) ≡ w ++ spaced_words ws
joined-spaced w [] = sym (append-nil w)
joined-spaced w (v ∷ ws) = ap (λ l. w ++ (32 ∷ l)) (joined-spaced v ws)

pub end-line : (tables : List TableRow) (scn n : ℕ) (verdict : Verdict) →
    end_line tables scn n verdict ≡ end_words tables scn n verdict
end-line tables scn n verdict = joined-spaced (codes "END") (decimal scn ∷ decimal n ∷ verdict_text tables verdict)

-- the lines of rows, with their keys and without
pub rows-lines : (rows : Rows) → flat_map row_line (map (λ r. r.1) rows) ≡ rows_text rows
rows-lines [] = refl
rows-lines (r ∷ rows) = ap (λ l. row_line r.1 ++ l) (rows-lines rows)

pub ruleset lines_of_rows = (rows-lines)

-- ---- a whole fold

rows-written : (rows : Rows) → written (map (λ r. words (codes "ROW" ∷ row_text r.1 ∷ [])) rows) ≡ rows_text rows
rows-written [] = refl
rows-written (r ∷ rows) = ap (λ l. row_line r.1 ++ l) (rows-written rows)

tables-written : (by : RowsById) (ts : List TableRow) → written (flat_map table_lines (assembled ts by)) ≡
    flat_map (table_text by) ts
tables-written by [] = refl
tables-written by (t ∷ ts) =
    let table : Table = record { row = t; rows = rows_by by t.id } in
    flat_map-append with_end (table_lines table) (flat_map table_lines (assembled ts by))
    ∙ ap (λ l. l ++ written (flat_map table_lines (assembled ts by)))
    (ap (λ l. table_line t (length (rows_by by t.id)) ++ l) (rows-written (rows_by by t.id)))
    ∙ ap (λ l. table_text by t ++ l) (tables-written by ts)

shown-written : (whole : Bool) (by : RowsById) (ts : List TableRow) →
    written (flat_map table_lines (tables_shown whole ts by)) ≡ flat_map (table_text by) (definitions_shown whole ts)
shown-written true by ts = tables-written by ts
shown-written false by ts = refl

pub fold-text : (f : Plainly) → written (fold_lines (folded_of f)) ≡
    applied_text f.scn ++ (flat_map (table_text f.tables) (definitions_shown f.whole f.dict.tables) ++
    end_text f.dict.tables f.scn f.n f.end)
fold-text f =
    let lines = flat_map table_lines (tables_shown f.whole f.dict.tables f.tables) in
    let end = end_line f.dict.tables f.scn f.n f.end in
    ap (λ l. applied_text f.scn ++ l) (
    flat_map-append with_end lines (end ∷ [])
    ∙ ap (λ l. l ++ written (end ∷ [])) (shown-written f.whole f.tables f.dict.tables)
    ∙ ap (λ l. flat_map (table_text f.tables) (definitions_shown f.whole f.dict.tables) ++ l) (append-nil (with_end end)))

-- what is put piece by piece is the whole text
pub printed-all : (f : Plainly) (o₀ o₁ o₂ o₃ : List ℕ) (ts : List TableRow) → o₀ ≡ [] → o₁ ≡ o₀ ++ applied_text f.scn →
    ts ≡ definitions_shown f.whole f.dict.tables →
    o₂ ≡ o₁ ++ flat_map (table_text f.tables) ts → o₃ ≡ o₂ ++ end_text f.dict.tables f.scn f.n f.end →
    o₃ ≡ written (fold_lines (folded_of f))
printed-all f o₀ o₁ o₂ o₃ ts none first same second third =
    let a = applied_text f.scn in
    let end = end_text f.dict.tables f.scn f.n f.end in
    third
    ∙ ap (λ o. o ++ end) (second ∙ ap (λ o. o ++ flat_map (table_text f.tables) ts) (first ∙ ap (λ o. o ++ a) none) ∙
    ap (λ x. a ++ flat_map (table_text f.tables) x) same)
    ∙ append_assoc a (flat_map (table_text f.tables) (definitions_shown f.whole f.dict.tables)) end
    ∙ sym (fold-text f)
