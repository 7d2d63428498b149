use Rattle.checkpoint.proofs.Telling.{image_told, fresh_told, bad_told}
use Rattle.checkpoint.proofs.loading.load.Goals as goal

pub returns-clause-image : goal.returns-clause-image
returns-clause-image g c = image_told (g.K.Keeper.holds c.args.keeper.now) c.load_all.result c.load_all.ensures.told

pub returns-clause-fresh : goal.returns-clause-fresh
returns-clause-fresh g c = fresh_told (g.K.Keeper.holds c.args.keeper.now) c.load_all.result c.load_all.ensures.told

pub returns-clause-bad : goal.returns-clause-bad
returns-clause-bad g c = bad_told (g.K.Keeper.holds c.args.keeper.now) c.load_all.result c.load_all.ensures.told
