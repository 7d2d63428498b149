-- What an outcome says of its job.
use Rattle.std.specs.Prelude.{List, [], ◌∷◌}
use Rattle.rl_value.specs.declared.pos.Pos.{Pos}
use Rattle.redo_spec.specs.History.{Placed}

abbrev pub no_pos : Pos
no_pos = record { rec = 0; vec = 0 }

-- the position of the last of these changes, or this one where there is none
abbrev pub last_from : Pos → List Placed → Pos
last_from at [] = at
last_from at (p ∷ ps) = last_from p.0 ps
