use Rattle.std.proofs.Common.{refl, Ok, Err}
use Rattle.publisher.proofs.LoadCalls.{told-loaded, sound-loaded, layout-loaded, told-bad, counts-loaded, counts-fault}
use Rattle.publisher.proofs.publisher.Publisher.load.Goals as goal

pub invariant_of-result : goal.invariant_of-result
invariant_of-result g c = (
  sound-loaded c.in-Ok.loaded c.image_in.result c.image_in.ensures.image c.in-Ok.ensures.layout,
  (c.new.ensures.empty, c.new-in-Ok.ensures.empty),
)

pub returns-in-Ok-clause-loaded : goal.returns-in-Ok-clause-loaded
returns-in-Ok-clause-loaded g c =
    told-loaded (g.K.Keeper.holds c.args.keeper) c.in-Ok.loaded _ c.image_in.ensures.image c.in-Ok.ensures.image
    c.in-Ok.ensures.fresh

pub returns-in-Ok-clause-layout : goal.returns-in-Ok-clause-layout
returns-in-Ok-clause-layout g c = layout-loaded c.in-Ok.loaded _ c.image_in.ensures.image c.in-Ok.ensures.layout

pub returns-in-Ok-clause-counted : goal.returns-in-Ok-clause-counted
returns-in-Ok-clause-counted g c =
    counts-loaded g.K.Keeper.counts_failures_alone (g.K.Keeper.faults c.args.keeper) (g.K.Keeper.faults c.load.new.keeper)
    c.in-Ok.loaded (Ok c.in-Ok.loaded) refl c.in-Ok.ensures.count c.in-Ok.ensures.none_passed_over

pub returns-in-Err-clause-bad : goal.returns-in-Err-clause-bad
returns-in-Err-clause-bad g c = told-bad (g.K.Keeper.holds c.args.keeper) c.in-Err.fault c.in-Err.ensures.bad

pub returns-in-Err-clause-counted : goal.returns-in-Err-clause-counted
returns-in-Err-clause-counted g c =
    counts-fault g.K.Keeper.counts_failures_alone (g.K.Keeper.faults c.args.keeper) (g.K.Keeper.faults c.load.new.keeper)
    c.in-Err.fault (Err c.in-Err.fault) refl c.in-Err.ensures.count c.in-Err.ensures.failed c.in-Err.ensures.none_passed_over
