-- What the code has cut off bytes, as the definition says it.
use Rattle.redo_wire.specs.declared.cutting.Taken.{Taken}
use Rattle.redo_wire.specs.Stream.{Cut}

abbrev pub cut_of_taken : Taken → Cut
cut_of_taken t = record { raws = t.raws.items; place = t.place; left = t.left.items; cause = t.cause }
