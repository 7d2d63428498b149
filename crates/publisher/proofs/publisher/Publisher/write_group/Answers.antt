use Rattle.std.proofs.Common.{sym, subst}
use Rattle.standby_spec.specs.Publishing.{Leaves}
use Rattle.publisher.specs.PreparesGroup.{RefusesGroupOf, ending_of_group}
use Rattle.publisher.proofs.Through.{group-leaves-of-err, group-refuses-of-err, group-leaves-of-ok, group-refuses-of-ok}
use Rattle.publisher.proofs.publisher.Publisher.write_group.Goals as goal

pub returns-in-Err-clause-leaves : goal.returns-in-Err-clause-leaves
returns-in-Err-clause-leaves g c =
    group-leaves-of-err g.K.Keeper.holds g.K.Keeper.faults g.K.Keeper.counts_failures_alone c.args.self.now c.args.prepared
    c.in-Err.fault c.in-Err.is c.requires.running

pub returns-in-Err-clause-refused : goal.returns-in-Err-clause-refused
returns-in-Err-clause-refused g c = group-refuses-of-err c.args.prepared c.in-Err.fault c.in-Err.is

pub returns-in-Ok-clause-leaves : goal.returns-in-Ok-clause-leaves
returns-in-Ok-clause-leaves g c = λ items later makes.
    subst (λ r. Leaves g.K.Keeper.holds g.K.Keeper.faults g.K.Keeper.counts_failures_alone c.args.self.now
    c.put_through-kept.new.self items later (ending_of_group r)) (sym c.grouped.ensures.exact)
    (group-leaves-of-ok g.K.Keeper.holds g.K.Keeper.faults g.K.Keeper.counts_failures_alone c.args.self.now
    c.put_through-kept.new.self c.args.prepared c.in-Ok.prepared c.put_through-kept.result c.in-Ok.is
    (g.met.K.Keeper.lawful c.args.self.now.keeper) c.put_through-kept.ensures.leaves items later makes)

pub returns-in-Ok-clause-refused : goal.returns-in-Ok-clause-refused
returns-in-Ok-clause-refused g c = λ reason declined.
    subst (RefusesGroupOf reason) (sym c.grouped.ensures.exact)
    (group-refuses-of-ok c.args.prepared c.in-Ok.prepared c.put_through-kept.result c.in-Ok.is reason declined)
