-- The bytes of a chunk that is spilled, both ways.
--   count (1), then for each change its record (8), its vector (1), and the change as a vector of a redo record
-- Numbers are big-endian. Bytes are a chunk where they are the spelling of one and nothing follows. This project's own.
use Rattle.std.specs.Prelude.{ℕ, zero, suc, ◌<◌, ◌^◌, List, [], ◌∷◌, ◌++◌, length, ◌&&◌, if◌then◌else◌, Option, Some, None, Ok, Err}
use Rattle.std.specs.Int.{w64}
use Rattle.std.specs.List.{flat_map, AllByRecursion}
use Rattle.rl_value.specs.declared.cause.VecFault.TheVariants.{Kind}
use Rattle.rl_value.specs.declared.pos.Pos.{Pos}
use Rattle.rl_value.specs.Outcome.{is_empty}
use Rattle.redo_vec.specs.declared.vector.Vector.{Vector}
use Rattle.redo_vec.specs.declared.vector.Vector.TheVariants as vectors
use Rattle.redo_vec.specs.Ranges.{IsChange}
use Rattle.redo_vec.specs.Reading.{◌>>=◌, Read, byte_at, number_at, vector_at}
use Rattle.redo_vec.specs.Spelling.{be64, change}
use Rattle.redo_spec.specs.History.{Placed}
use Rattle.lcr.specs.Chunks.{is_chunk}

-- ---- spelling

abbrev pub placed_bytes : Placed → List ℕ
placed_bytes p = be64 p.0.rec ++ p.0.vec ∷ change p.1

-- the spelling of a chunk
abbrev pub chunk_bytes : List Placed → List ℕ
chunk_bytes ps = length ps ∷ flat_map placed_bytes ps

-- each number of the change fits its field
pub record IsPlaced (p : Placed) : Type 0 where
  pub rec : p.0.rec < 2 ^ 64
  pub vec : p.0.vec < 256
  pub change : IsChange p.1

abbrev pub ArePlaced : List Placed → Type 0
ArePlaced ps = AllByRecursion IsPlaced ps

-- ---- reading

-- the change of a vector that is one, at this position, and the bytes behind it
abbrev pub only_change : Pos → Vector → List ℕ → Read Placed
only_change at (vectors.Start x) rest = Err (record { fault = Kind; place = 0 })
only_change at (vectors.Change c) rest = Ok ((at, c), rest)
only_change at (vectors.Undo x) rest = Err (record { fault = Kind; place = 0 })
only_change at (vectors.Commit x) rest = Err (record { fault = Kind; place = 0 })
only_change at (vectors.Rollback x) rest = Err (record { fault = Kind; place = 0 })
only_change at (vectors.Table t) rest = Err (record { fault = Kind; place = 0 })
only_change at vectors.DictEnd rest = Err (record { fault = Kind; place = 0 })

abbrev pub pos_at : List ℕ → Read Pos
pos_at bytes = do
  rec ← number_at w64 0 bytes
  vec ← byte_at 0 rec.1
  Ok (record { rec = rec.0; vec = vec.0 }, vec.1)

abbrev pub placed_at : List ℕ → Read Placed
placed_at bytes = do
  at ← pos_at bytes
  v ← vector_at 0 at.1
  only_change at.0 v.0 v.1

-- so many changes, one behind the other
abbrev pub placed_from : ℕ → List ℕ → Read (List Placed)
placed_from zero bytes = Ok ([], bytes)
placed_from (suc count) bytes = do
  first ← placed_at bytes
  more ← placed_from count first.1
  Ok (first.0 ∷ more.0, more.1)

abbrev pub chunk_at : List ℕ → Read (List Placed)
chunk_at bytes = do
  count ← byte_at 0 bytes
  placed_from count.0 count.1

-- what was read, where it is a chunk and nothing follows
abbrev pub if_chunk : Read (List Placed) → Option (List Placed)
if_chunk (Ok x) = if is_empty x.1 && is_chunk x.0 then Some x.0 else None
if_chunk (Err f) = None

-- the chunk that bytes are the spelling of, if they are one
abbrev pub chunk_in : List ℕ → Option (List Placed)
chunk_in bytes = if_chunk (chunk_at bytes)
