use Rattle.std.proofs.Common.{List, subst}
use Rattle.rl_value.specs.declared.key.Key.{Key}
use Rattle.redo_spec.specs.ConflictKeys.{conflict_keys}
use Rattle.redo_law.specs.Touched.{HasSameKeys}
use Rattle.eager_work.proofs.Trying.{on_given}
use Rattle.eager_work.proofs.tries.note.Goals as goal

pub returns-clause-keys : goal.returns-clause-keys
returns-clause-keys c =
    on_given c.push_did.result
    (subst (λ (ks : List Key). HasSameKeys ks (conflict_keys c.args.dict.now.tables c.args.lcr.now.change))
    c.in_ok-keys.ensures.value
    c.in_ok-keys.ensures.same)
