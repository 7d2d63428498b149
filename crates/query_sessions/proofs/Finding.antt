-- Rows that are found by the id of their table: how many there are, and that a table that is not there has none.
use Rattle.std.proofs.Common.{◌≡◌, ℕ, length, List, [], ◌∷◌, refl, true, false, cond, ◌==◌, Some, None}
use Rattle.std.proofs.lemmas.List.{length-map}
use Rattle.rl_value.specs.declared.value.Value.{Value}
use Rattle.redo_spec.specs.Dictionary.{table_of}
use Rattle.redo_spec.specs.Tables.{Tables, definitions_of}
use Rattle.redo_spec.specs.Work.{rows_of}
use Rattle.query_sessions.specs.Answers.{rows_in}

-- as many rows are in a table as it has with their keys
pub as_many_rows : (ts : Tables) (id : ℕ) → length (rows_in ts id) ≡ length (rows_of ts id)
as_many_rows ts id = length-map (rows_of ts id) (λ (r : List Value × List Value). r.1)

-- a table that is not there has no row
pub none_there : (ts : Tables) (id : ℕ) → table_of (definitions_of ts) id ≡ None → rows_of ts id ≡ []
none_there [] id e = refl
none_there (u ∷ us) id e =
    elim (u.row.id == id) as (λ b. cond b (Some u.row) (table_of (definitions_of us) id) ≡ None →
    cond b u.rows (rows_of us id) ≡ []) [
      | true ↦ λ h. absurd (cc)
      | false ↦ λ h. none_there us id h
    ] e
