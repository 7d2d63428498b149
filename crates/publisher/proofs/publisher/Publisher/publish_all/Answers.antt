use Rattle.std.proofs.Common.{Ok, Err}
use Rattle.standby_spec.specs.Publishing.{Done}
use Rattle.standby_spec.specs.Refusals.{group_refusal}
use Rattle.checkpoint.specs.Images.{image_state}
use Rattle.publisher.specs.Groups.{ending_of_group_fault, first_number, parts_of}
use Rattle.publisher.proofs.GroupCalls.{group-ready-over, group-written, group-refused}
use Rattle.publisher.proofs.FitsCalls.{group-fits}
use Rattle.publisher.proofs.publisher.Publisher.publish_all.Goals as goal

pub write_group-requires-clause-ready : goal.write_group-requires-clause-ready
write_group-requires-clause-ready g c =
    let s = image_state c.shown.result.now in
    group-ready-over c.args.self.now.state s c.args.commits (group_refusal s (first_number c.args.commits) (parts_of c.args.commits))
    c.prepare_group-prepared.result c.shown.ensures.shown c.prepare_group-prepared.ensures.prepared

pub returns-in-Ok-clause-written : goal.returns-in-Ok-clause-written
returns-in-Ok-clause-written g c =
    let s = image_state c.shown.result.now in
    group-written g.K.Keeper.holds g.K.Keeper.faults g.K.Keeper.counts_failures_alone c.args.commits
    c.args.self.now c.write_group.new.self s (group_refusal s (first_number c.args.commits) (parts_of c.args.commits))
    c.prepare_group-prepared.result Done c.shown.ensures.shown c.prepare_group-prepared.ensures.prepared c.in-Ok.ensures.leaves

pub returns-in-Err-clause-written : goal.returns-in-Err-clause-written
returns-in-Err-clause-written g c =
    let s = image_state c.shown.result.now in
    group-written g.K.Keeper.holds g.K.Keeper.faults g.K.Keeper.counts_failures_alone c.args.commits
    c.args.self.now c.write_group.new.self s (group_refusal s (first_number c.args.commits) (parts_of c.args.commits))
    c.prepare_group-prepared.result (ending_of_group_fault c.in-Err.fault) c.shown.ensures.shown
    c.prepare_group-prepared.ensures.prepared c.in-Err.ensures.leaves

pub returns-in-Ok-clause-refused : goal.returns-in-Ok-clause-refused
returns-in-Ok-clause-refused g c =
    group-refused {T = Unit {0}} c.args.self.now.state (image_state c.shown.result.now) c.args.commits
    (λ s. group_refusal s (first_number c.args.commits) (parts_of c.args.commits)) c.prepare_group-prepared.result (Ok tt)
    c.shown.ensures.shown c.prepare_group-prepared.ensures.prepared c.in-Ok.ensures.refused

pub returns-in-Err-clause-refused : goal.returns-in-Err-clause-refused
returns-in-Err-clause-refused g c =
    group-refused {T = Unit {0}} c.args.self.now.state (image_state c.shown.result.now) c.args.commits
    (λ s. group_refusal s (first_number c.args.commits) (parts_of c.args.commits)) c.prepare_group-prepared.result
    (Err c.in-Err.fault) c.shown.ensures.shown c.prepare_group-prepared.ensures.prepared c.in-Err.ensures.refused

pub returns-in-Ok-clause-fits : goal.returns-in-Ok-clause-fits
returns-in-Ok-clause-fits g c = λ start b logs opening s fits handed.
    group-fits {T = Unit {0}} g.K.Keeper.holds g.K.Keeper.faults g.K.Keeper.counts_failures_alone start b logs opening s
    c.args.commits c.args.self.now c.write_group.new.self (Ok tt) c.a_published_group_fits.ensures.fits
    c.a_published_group_fits.ensures.may c.a_published_group_fits.ensures.layout
    c.a_group_of_a_run_leaves_a_publisher_that_fits.ensures.fits c.a_refused_call_leaves_a_publisher_that_fits.ensures.fits
    c.requires.running c.items-items.ensures.group (returns-in-Ok-clause-refused g c s fits.there)
    (returns-in-Ok-clause-written g c s fits.there) fits handed

pub returns-in-Err-clause-fits : goal.returns-in-Err-clause-fits
returns-in-Err-clause-fits g c = λ start b logs opening s fits handed.
    group-fits {T = Unit {0}} g.K.Keeper.holds g.K.Keeper.faults g.K.Keeper.counts_failures_alone start b logs opening s
    c.args.commits c.args.self.now c.write_group.new.self (Err c.in-Err.fault) c.a_published_group_fits.ensures.fits
    c.a_published_group_fits.ensures.may c.a_published_group_fits.ensures.layout
    c.a_group_of_a_run_leaves_a_publisher_that_fits.ensures.fits c.a_refused_call_leaves_a_publisher_that_fits.ensures.fits
    c.requires.running c.items-items.ensures.group (returns-in-Err-clause-refused g c s fits.there)
    (returns-in-Err-clause-written g c s fits.there) fits handed
