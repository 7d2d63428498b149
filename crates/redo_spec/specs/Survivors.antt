-- Survivors: the changes of a transaction that no UNDO has taken back, the oldest first.
-- A change is named by its position and never by its contents, so two equal changes stay apart.
-- UNDO as a vector of its own is this project's; it stands for a rollback to a savepoint.
use Rattle.std.specs.Prelude.{◌-◌, List, [], ◌∷◌, ◌++◌, length, take}

-- the survivors after one more change
abbrev pub after_change : {P : Type 0} → List P → P → List P
after_change survivors change = survivors ++ change ∷ []

-- the survivors after an UNDO, which takes the latest one back
abbrev pub after_undo : {P : Type 0} → List P → List P
after_undo survivors = take (length survivors - 1) survivors
