use Rattle.std.proofs.Common.{◌∙◌, ap, sym, is_some}
use Rattle.log_registry.proofs.ListLaws.{lookup-entry_of, none_there}
use Rattle.log_registry.specs.Registered.{entry_of}
use Rattle.log_registry.proofs.registry.Registry.has.Goals as goal

pub returns-clause-there : goal.returns-clause-there
returns-clause-there c = c.contains_key.ensures ∙ ap is_some
    (lookup-entry_of c.args.seq c.self.inside.logs.entries c.self.invariant ∙ ap (entry_of c.args.seq) c.self.view_is)

pub returns-clause-absent : goal.returns-clause-absent
returns-clause-absent c = λ no. none_there (entry_of c.args.seq c.args.self.now) (sym (returns-clause-there c) ∙ no)
