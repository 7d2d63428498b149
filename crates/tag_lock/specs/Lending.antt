-- What is left in a guard once the value that it lends has been changed.
use Rattle.std.specs.Borrow.{Lends, MutBor, Fml}
use denote.RattleType.{RattleType}
use Rattle.tag_lock.specs.Guard.{Guard}
use Rattle.tag_lock.specs.declared.meaning.Tagged.{Ghosts}
use Rattle.tag_lock.specs.contracts.guard.Held.{the_row}

-- the guard with this value
abbrev pub with_value : {T V : Type 0} → Guard T V → V → Guard T V
with_value held value = record held { value = value }

-- the guard ends with the last value behind r
abbrev pub LendsValue : (V T : RattleType) (g : Ghosts V.Denot T.Denot) → MutBor (Guard T.Denot V.Denot) → MutBor V.Denot → Fml
LendsValue V T g held r = Lends (the_row V T g) V held r (with_value held.now)
