-- Records whose changes have new cells as decoded ones do: their columns rise, and each stands once.
use Rattle.std.specs.Prelude.{◌≡◌, List, ⊤, true}
use Rattle.std.specs.List.{AllByRecursion}
use Rattle.rl_value.specs.Text.{are_cells}
use Rattle.redo_vec.specs.declared.vector.Vector.{Vector}
use Rattle.redo_vec.specs.declared.vector.Vector.TheVariants.{Start, Change as OfChange, Undo, Commit, Rollback, Table, DictEnd}
use Rattle.redo_spec.specs.History.{Entry, Placed}

-- the new cells of each change rise by their columns
abbrev pub HaveCells : List Placed → Type 0
HaveCells ps = AllByRecursion (λ p. are_cells p.1.new ≡ true) ps

-- the new cells of a vector that is a change rise by their columns
abbrev pub HasCells : Vector → Type 0
HasCells (Start x) = ⊤
HasCells (OfChange c) = are_cells c.new ≡ true
HasCells (Undo x) = ⊤
HasCells (Commit x) = ⊤
HasCells (Rollback x) = ⊤
HasCells (Table t) = ⊤
HasCells DictEnd = ⊤

-- those of each change of these records do
abbrev pub AreOfCells : List Entry → Type 0
AreOfCells entries = AllByRecursion (λ e. AllByRecursion HasCells e.1.vectors) entries
