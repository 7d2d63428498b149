use Rattle.std.proofs.Common.{Ok, Err}
use Rattle.standby_spec.specs.Publishing.{Done}
use Rattle.standby_spec.specs.Refusals.{publish_refusal}
use Rattle.standby_spec.specs.Writings.{Publish}
use Rattle.checkpoint.specs.Images.{image_state}
use Rattle.publisher.specs.Endings.{ending_of_fault}
use Rattle.publisher.proofs.Calls.{ready-over, written, refused}
use Rattle.publisher.proofs.FitsCalls.{publish-fits}
use Rattle.publisher.proofs.publisher.Publisher.publish.Goals as goal

pub write-requires-clause-ready : goal.write-requires-clause-ready
write-requires-clause-ready g c =
    let s = image_state c.shown.result.now in
    ready-over c.args.self.now.state s (Publish c.args.commit.scn c.args.commit.writes)
    (publish_refusal s c.args.commit.number c.args.commit.writes)
    c.prepare_commit-prepared.result c.shown.ensures.shown c.prepare_commit-prepared.ensures.prepared

pub returns-in-Ok-clause-written : goal.returns-in-Ok-clause-written
returns-in-Ok-clause-written g c =
    let s = image_state c.shown.result.now in
    written g.K.Keeper.holds g.K.Keeper.faults g.K.Keeper.counts_failures_alone (Publish c.args.commit.scn c.args.commit.writes)
    c.args.self.now c.write.new.self s (publish_refusal s c.args.commit.number c.args.commit.writes)
    c.prepare_commit-prepared.result Done c.shown.ensures.shown c.prepare_commit-prepared.ensures.prepared c.in-Ok.ensures.leaves

pub returns-in-Err-clause-written : goal.returns-in-Err-clause-written
returns-in-Err-clause-written g c =
    let s = image_state c.shown.result.now in
    written g.K.Keeper.holds g.K.Keeper.faults g.K.Keeper.counts_failures_alone (Publish c.args.commit.scn c.args.commit.writes)
    c.args.self.now c.write.new.self s (publish_refusal s c.args.commit.number c.args.commit.writes)
    c.prepare_commit-prepared.result (ending_of_fault c.in-Err.fault) c.shown.ensures.shown
    c.prepare_commit-prepared.ensures.prepared c.in-Err.ensures.leaves

pub returns-in-Ok-clause-refused : goal.returns-in-Ok-clause-refused
returns-in-Ok-clause-refused g c =
    refused {T = Unit {0}} c.args.self.now.state (image_state c.shown.result.now) (Publish c.args.commit.scn c.args.commit.writes)
    (λ s. publish_refusal s c.args.commit.number c.args.commit.writes) c.prepare_commit-prepared.result (Ok tt)
    c.shown.ensures.shown c.prepare_commit-prepared.ensures.prepared c.in-Ok.ensures.refused

pub returns-in-Err-clause-refused : goal.returns-in-Err-clause-refused
returns-in-Err-clause-refused g c =
    refused {T = Unit {0}} c.args.self.now.state (image_state c.shown.result.now) (Publish c.args.commit.scn c.args.commit.writes)
    (λ s. publish_refusal s c.args.commit.number c.args.commit.writes) c.prepare_commit-prepared.result (Err c.in-Err.fault)
    c.shown.ensures.shown c.prepare_commit-prepared.ensures.prepared c.in-Err.ensures.refused

pub returns-in-Ok-clause-fits : goal.returns-in-Ok-clause-fits
returns-in-Ok-clause-fits g c = λ start b logs opening s fits handed.
    publish-fits {T = Unit {0}} g.K.Keeper.holds g.K.Keeper.faults g.K.Keeper.counts_failures_alone start b logs opening s
    c.args.commit c.args.self.now c.write.new.self (Ok tt) c.a_published_commit_fits.ensures.fits
    c.a_writing_leaves_a_layout.ensures.layout c.a_call_of_a_run_leaves_a_publisher_that_fits.ensures.fits
    c.a_refused_call_leaves_a_publisher_that_fits.ensures.fits c.requires.running
    (returns-in-Ok-clause-refused g c s fits.there) (returns-in-Ok-clause-written g c s fits.there) fits handed

pub returns-in-Err-clause-fits : goal.returns-in-Err-clause-fits
returns-in-Err-clause-fits g c = λ start b logs opening s fits handed.
    publish-fits {T = Unit {0}} g.K.Keeper.holds g.K.Keeper.faults g.K.Keeper.counts_failures_alone start b logs opening s
    c.args.commit c.args.self.now c.write.new.self (Err c.in-Err.fault) c.a_published_commit_fits.ensures.fits
    c.a_writing_leaves_a_layout.ensures.layout c.a_call_of_a_run_leaves_a_publisher_that_fits.ensures.fits
    c.a_refused_call_leaves_a_publisher_that_fits.ensures.fits c.requires.running
    (returns-in-Err-clause-refused g c s fits.there) (returns-in-Err-clause-written g c s fits.there) fits handed
