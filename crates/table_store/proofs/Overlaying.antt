-- Tables without rows, and with written rows in place of theirs.
use Rattle.std.proofs.Common.{◌≡◌, List, [], ◌∷◌, refl, ap, arith}
use Rattle.redo_vec.specs.declared.table.TableRow.{TableRow}
use Rattle.redo_spec.specs.Tables.{Tables, definitions_of, empty_tables, row_count}
use Rattle.row_apply.specs.declared.writes.Write.{Write}
use Rattle.row_apply.specs.Overlaid.{overlaid}
use Rattle.table_store.proofs.Counting.{rows_counted}

pub empty_definitions : (definitions : List TableRow) → definitions_of (empty_tables definitions) ≡ definitions
empty_definitions [] = refl
empty_definitions (t ∷ ts) = ap (λ us. t ∷ us) (empty_definitions ts)

pub empty_count : (definitions : List TableRow) → 0 ≡ row_count (empty_tables definitions)
empty_count [] = refl
empty_count (t ∷ ts) =
    let more = empty_count ts in
    let first = rows_counted (record { row = t; rows = [] }) (empty_tables ts) in
    omega (arith, more, first)

pub overlaid_definitions : (tables : Tables) (ws : List Write) → definitions_of (overlaid tables ws) ≡ definitions_of tables
overlaid_definitions [] ws = refl
overlaid_definitions (t ∷ ts) ws = ap (λ us. t.row ∷ us) (overlaid_definitions ts ws)
