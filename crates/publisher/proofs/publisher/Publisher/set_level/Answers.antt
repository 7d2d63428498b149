use Rattle.std.proofs.Common.{None}
use Rattle.standby_spec.specs.Writings.{SetLevel}
use Rattle.checkpoint.specs.Images.{image_state}
use Rattle.publisher.specs.Endings.{ending_of}
use Rattle.publisher.proofs.Calls.{ready-over, written, rests}
use Rattle.publisher.proofs.publisher.Publisher.set_level.Goals as goal

pub write-requires-clause-ready : goal.write-requires-clause-ready
write-requires-clause-ready g c =
    let s = image_state c.shown.result.now in
    ready-over c.args.self.now.state s (SetLevel c.args.level) None
    c.prepare_level-prepared.result c.shown.ensures.shown c.prepare_level-prepared.ensures.prepared

pub returns-clause-written : goal.returns-clause-written
returns-clause-written g c =
    let s = image_state c.shown.result.now in
    written g.K.Keeper.holds g.K.Keeper.faults g.K.Keeper.counts_failures_alone (SetLevel c.args.level)
    c.args.self.now c.write.new.self s None c.prepare_level-prepared.result
    (ending_of c.write.result) c.shown.ensures.shown c.prepare_level-prepared.ensures.prepared c.write.ensures.leaves

pub returns-clause-refused : goal.returns-clause-refused
returns-clause-refused g c = c.write.ensures.refused None c.prepare_level-prepared.ensures.prepared.declined

pub returns-clause-rests : goal.returns-clause-rests
returns-clause-rests g c =
    rests g.K.Keeper.holds g.K.Keeper.faults g.K.Keeper.counts_failures_alone (SetLevel c.args.level)
    c.args.self.now c.write.new.self (ending_of c.write.result) c.requires.running
    (returns-clause-written g c) c.a_call_between_runs_leaves_a_publisher_at_rest.ensures.rests
