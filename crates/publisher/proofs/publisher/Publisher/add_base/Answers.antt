use Rattle.standby_spec.specs.Refusals.{base_refusal}
use Rattle.standby_spec.specs.Writings.{PutRow}
use Rattle.checkpoint.specs.Images.{image_state}
use Rattle.publisher.specs.Endings.{ending_of}
use Rattle.publisher.proofs.Calls.{ready-over, written, refused, rests}
use Rattle.publisher.proofs.publisher.Publisher.add_base.Goals as goal

pub write-requires-clause-ready : goal.write-requires-clause-ready
write-requires-clause-ready g c =
    let s = image_state c.shown.result.now in
    ready-over c.args.self.now.state s (PutRow c.args.table c.args.row) (base_refusal s c.args.table c.args.row)
    c.prepare_base-prepared.result c.shown.ensures.shown c.prepare_base-prepared.ensures.prepared

pub returns-clause-written : goal.returns-clause-written
returns-clause-written g c =
    let s = image_state c.shown.result.now in
    written g.K.Keeper.holds g.K.Keeper.faults g.K.Keeper.counts_failures_alone (PutRow c.args.table c.args.row)
    c.args.self.now c.write.new.self s (base_refusal s c.args.table c.args.row) c.prepare_base-prepared.result
    (ending_of c.write.result) c.shown.ensures.shown c.prepare_base-prepared.ensures.prepared c.write.ensures.leaves

pub returns-clause-refused : goal.returns-clause-refused
returns-clause-refused g c =
    refused c.args.self.now.state (image_state c.shown.result.now) (PutRow c.args.table c.args.row)
    (λ s. base_refusal s c.args.table c.args.row) c.prepare_base-prepared.result c.write.result
    c.shown.ensures.shown c.prepare_base-prepared.ensures.prepared c.write.ensures.refused

pub returns-clause-rests : goal.returns-clause-rests
returns-clause-rests g c =
    rests g.K.Keeper.holds g.K.Keeper.faults g.K.Keeper.counts_failures_alone (PutRow c.args.table c.args.row)
    c.args.self.now c.write.new.self (ending_of c.write.result) c.requires.running
    (returns-clause-written g c) c.a_call_between_runs_leaves_a_publisher_at_rest.ensures.rests
