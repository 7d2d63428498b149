use Rattle.std.proofs.Common.{arith}
use Rattle.row_tree.proofs.Sounding.{cut_in}
use Rattle.row_tree.proofs.level.Level.cut.Goals as goal

pub returns-in-Ok-clause-sound : goal.returns-in-Ok-clause-sound
returns-in-Ok-clause-sound g c =
    cut_in g.K.Part.entries g.K.Part.sound 16 c.args.self.now.children.items c.split_off.new.self.items c.in-Ok.children.items
    (omega arith) (omega (arith, c.requires.large)) c.requires.sound c.in-Ok.ensures.items
    c.in-Ok.ensures.tail
