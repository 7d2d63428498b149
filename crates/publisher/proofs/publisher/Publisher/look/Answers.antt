use Rattle.standby_spec.specs.StandbyRedo.{commits_of}
use Rattle.publisher.proofs.Calls.{look-shows}
use Rattle.publisher.proofs.publisher.Publisher.look.Goals as goal

pub returns-clause-fits : goal.returns-clause-fits
returns-clause-fits g c = λ start b logs opening s fits.
    look-shows b s.skips (commits_of logs s) c.args.self.now.state s c.count.result c.applied_scn.result
    c.in_ok-tables.tables.tables fits.there c.count.ensures.count c.applied_scn.ensures.applied c.in_ok-tables.ensures.tables
    fits.fits.shows
