-- Worked examples of single bytes: records of one vector, by the bytes of the vector. `src/worked_bytes.rt` states each fault of
-- them, with its place, as a theorem that holds by computing.
use Rattle.std.specs.Prelude.{ℕ, ◌+◌, List, ◌∷◌, ◌++◌, length, Option, Some, None, Result, Ok, Err}
use Rattle.rl_value.specs.declared.cause.VecFault.{VecFault}
use Rattle.redo_vec.specs.declared.redo_rec.RedoRec.{RedoRec}
use Rattle.redo_vec.specs.Reading.{Fault, record_at}
use Rattle.redo_vec.specs.Spelling.{be16, be32, be64}

-- a record of one vector, at SCN 5
abbrev pub record_with : List ℕ → List ℕ
record_with vector = be32 (14 + length vector) ++ be64 5 ++ be16 1 ++ vector

-- the fault that is told, with its place
abbrev pub told : Result RedoRec Fault → Option (VecFault × ℕ)
told (Ok r) = None
told (Err f) = Some (f.fault, f.place)

-- the first fault of a record of one vector, and its place
abbrev pub vector_fault_in : List ℕ → Option (VecFault × ℕ)
vector_fault_in vector = told (record_at (record_with vector))

-- an INSERT without old cells, by the bytes of its new ones, which begin at 28
abbrev pub insert_with : List ℕ → List ℕ
insert_with new = 2 ∷ 0 ∷ 1 ∷ 0 ∷ 1 ∷ 0 ∷ 0 ∷ 0 ∷ 1 ∷ 0 ∷ 0 ∷ 0 ∷ 1 ∷ 0 ∷ new

-- a TABLE A.B by the bytes of its columns and keys, which begin at 23
abbrev pub table_with : List ℕ → List ℕ
table_with rest = 8 ∷ 0 ∷ 0 ∷ 0 ∷ 1 ∷ 1 ∷ 65 ∷ 1 ∷ 66 ∷ rest
