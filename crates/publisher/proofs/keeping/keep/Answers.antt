use Rattle.std.proofs.Common.{sym, subst, ◌∙◌, None}
use Rattle.standby_spec.specs.Publishing.{StoreAfter, CountsAfter}
use Rattle.publisher.specs.Endings.{ending_of, Refuses}
use Rattle.publisher.proofs.Through.{kept-store, kept-count, kept-refused}
use Rattle.publisher.proofs.keeping.keep.Goals as goal

pub returns-clause-store : goal.returns-clause-store
returns-clause-store g c =
    let old = g.K.Keeper.holds c.args.keeper.now in
    let now = g.K.Keeper.holds c.commit-done.new.self in
    subst (λ r. StoreAfter c.args.batch.now (ending_of r) old now) (sym c.kept.ensures.exact)
    (kept-store c.commit-done.result c.args.batch.now old now
    (g.met.K.Keeper.telling c.commit-done.new.self ∙ sym (g.met.K.Keeper.telling c.args.keeper.now))
    c.commit-done.ensures.done c.commit-done.ensures.failed c.commit-done.ensures.memory)

pub returns-clause-count : goal.returns-clause-count
returns-clause-count g c =
    subst (λ r. CountsAfter g.K.Keeper.counts_failures_alone (ending_of r) (g.K.Keeper.faults c.args.keeper.now)
    (g.K.Keeper.faults c.commit-done.new.self)) (sym c.kept.ensures.exact)
    (kept-count c.commit-done.result g.K.Keeper.counts_failures_alone (g.K.Keeper.faults c.args.keeper.now)
    (g.K.Keeper.faults c.commit-done.new.self) c.commit-done.ensures.alone c.commit-done.ensures.cause)

pub returns-clause-refused : goal.returns-clause-refused
returns-clause-refused g c = subst (Refuses None) (sym c.kept.ensures.exact) (kept-refused c.commit-done.result)
