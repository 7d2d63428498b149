use Rattle.standby_spec.specs.Refusals.{mark_refusal}
use Rattle.standby_spec.specs.Writings.{KeepMark}
use Rattle.checkpoint.specs.Images.{image_state}
use Rattle.publisher.specs.Endings.{ending_of}
use Rattle.publisher.proofs.Calls.{ready-over, written, refused}
use Rattle.publisher.proofs.FitsCalls.{mark-fits}
use Rattle.publisher.proofs.publisher.Publisher.keep_mark.Goals as goal

pub write-requires-clause-ready : goal.write-requires-clause-ready
write-requires-clause-ready g c =
    let s = image_state c.shown.result.now in
    ready-over c.args.self.now.state s (KeepMark c.args.mark.now) (mark_refusal s c.args.mark.now)
    c.prepare_mark-prepared.result c.shown.ensures.shown c.prepare_mark-prepared.ensures.prepared

pub returns-clause-written : goal.returns-clause-written
returns-clause-written g c =
    let s = image_state c.shown.result.now in
    written g.K.Keeper.holds g.K.Keeper.faults g.K.Keeper.counts_failures_alone (KeepMark c.args.mark.now)
    c.args.self.now c.write.new.self s (mark_refusal s c.args.mark.now) c.prepare_mark-prepared.result
    (ending_of c.write.result) c.shown.ensures.shown c.prepare_mark-prepared.ensures.prepared c.write.ensures.leaves

pub returns-clause-refused : goal.returns-clause-refused
returns-clause-refused g c =
    refused c.args.self.now.state (image_state c.shown.result.now) (KeepMark c.args.mark.now)
    (λ s. mark_refusal s c.args.mark.now) c.prepare_mark-prepared.result c.write.result
    c.shown.ensures.shown c.prepare_mark-prepared.ensures.prepared c.write.ensures.refused

pub returns-clause-fits : goal.returns-clause-fits
returns-clause-fits g c = λ start b logs opening s fits is leaves.
    mark-fits g.K.Keeper.holds g.K.Keeper.faults g.K.Keeper.counts_failures_alone start b logs opening s c.args.mark.now
    c.args.self.now c.write.new.self c.write.result c.a_kept_mark_fits.ensures.mark
    c.a_writing_leaves_a_layout.ensures.layout c.a_call_of_a_run_leaves_a_publisher_that_fits.ensures.fits
    c.a_refused_call_leaves_a_publisher_that_fits.ensures.fits c.requires.running
    (returns-clause-refused g c s fits.there) (returns-clause-written g c s fits.there) fits is leaves
