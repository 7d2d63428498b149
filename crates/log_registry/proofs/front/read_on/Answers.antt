use Rattle.std.proofs.Common.{◌-◌, length}
use borrow.Rule.Slice.PartMut.{post_of}
use Rattle.log_registry.proofs.FrontLaws.{told_more, room_size}
use Rattle.log_registry.proofs.front.read_on.Goals as goal

pub returns-clause-read : goal.returns-clause-read
returns-clause-read g c =
    let front = c.args.front.now in
    let count = c.args.count in
    told_more (g.A.Archive.logs c.args.archive.now) c.args.seq c.read_once.result front c.read_once.new.into
    (post_of count (length front - count) front) count c.requires.within c.read_once.ensures.bound
    (room_size front c.read_once.new.into count c.requires.within) c.requires.read c.read_once.ensures.bytes
