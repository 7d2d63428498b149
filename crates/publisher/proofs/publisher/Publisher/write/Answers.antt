use Rattle.publisher.specs.Endings.{ending_of}
use Rattle.publisher.proofs.Through.{leaves-of-err, refuses-of-err, leaves-of-ok, refuses-of-ok}
use Rattle.publisher.proofs.publisher.Publisher.write.Goals as goal

pub returns-in-Err-clause-leaves : goal.returns-in-Err-clause-leaves
returns-in-Err-clause-leaves g c =
    leaves-of-err g.K.Keeper.holds g.K.Keeper.faults g.K.Keeper.counts_failures_alone c.args.self.now c.args.prepared c.in-Err.fault
    c.in-Err.is c.requires.running

pub returns-in-Err-clause-refused : goal.returns-in-Err-clause-refused
returns-in-Err-clause-refused g c = refuses-of-err c.args.prepared c.in-Err.fault c.in-Err.is

pub returns-in-Ok-clause-leaves : goal.returns-in-Ok-clause-leaves
returns-in-Ok-clause-leaves g c =
    leaves-of-ok g.K.Keeper.holds g.K.Keeper.faults g.K.Keeper.counts_failures_alone c.args.self.now c.put_through.new.self
    c.args.prepared c.in-Ok.prepared (ending_of c.put_through.result) c.in-Ok.is c.put_through.ensures.leaves

pub returns-in-Ok-clause-refused : goal.returns-in-Ok-clause-refused
returns-in-Ok-clause-refused g c =
    refuses-of-ok c.args.prepared c.in-Ok.prepared c.put_through.result c.in-Ok.is c.put_through.ensures.refused
