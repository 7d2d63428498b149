use Rattle.standby_spec.specs.Refusals.{log_refusal}
use Rattle.standby_spec.specs.Writings.{AddLog}
use Rattle.checkpoint.specs.Images.{image_state}
use Rattle.publisher.specs.Endings.{ending_of}
use Rattle.publisher.proofs.Calls.{ready-over, written, refused, rests}
use Rattle.publisher.proofs.publisher.Publisher.add_log.Goals as goal

pub write-requires-clause-ready : goal.write-requires-clause-ready
write-requires-clause-ready g c =
    let s = image_state c.shown.result.now in
    ready-over c.args.self.now.state s (AddLog c.args.entry) (log_refusal s)
    c.prepare_log-prepared.result c.shown.ensures.shown c.prepare_log-prepared.ensures.prepared

pub returns-clause-written : goal.returns-clause-written
returns-clause-written g c =
    let s = image_state c.shown.result.now in
    written g.K.Keeper.holds g.K.Keeper.faults g.K.Keeper.counts_failures_alone (AddLog c.args.entry)
    c.args.self.now c.write.new.self s (log_refusal s) c.prepare_log-prepared.result
    (ending_of c.write.result) c.shown.ensures.shown c.prepare_log-prepared.ensures.prepared c.write.ensures.leaves

pub returns-clause-refused : goal.returns-clause-refused
returns-clause-refused g c =
    refused c.args.self.now.state (image_state c.shown.result.now) (AddLog c.args.entry)
    log_refusal c.prepare_log-prepared.result c.write.result
    c.shown.ensures.shown c.prepare_log-prepared.ensures.prepared c.write.ensures.refused

pub returns-clause-rests : goal.returns-clause-rests
returns-clause-rests g c =
    rests g.K.Keeper.holds g.K.Keeper.faults g.K.Keeper.counts_failures_alone (AddLog c.args.entry)
    c.args.self.now c.write.new.self (ending_of c.write.result) c.requires.running
    (returns-clause-written g c) c.a_call_between_runs_leaves_a_publisher_at_rest.ensures.rests
