use Rattle.std.proofs.Common.{◌+◌, sym, ap, subst, OnOk, Ok, Err, Result}
use Rattle.redo_spec.specs.Standing.{Standing}
use Rattle.redo_law.specs.OpenTransactions.{BeganBefore}
use Rattle.redo_law.proofs.BeganLaws.{began_next}
use Rattle.redo_law.proofs.state.State.step.Goals as goal

turned : {A E : Type 0} (r : Result A E) {P Q : Type 0} → (P → Q) → OnOk r P → OnOk r Q
turned (Ok x) f p = f p
turned (Err x) f p = tt

pub returns-clause-next : goal.returns-clause-next
returns-clause-next c = turned c.take.result (λ p.
    subst (λ (s : Standing). BeganBefore (record { rec = s.rec; vec = c.args.vec + 1 }) s.active) (sym p)
    (began_next c.args.self.now.dict.tables c.args.self.now.rec c.args.vec c.args.vector.now c.args.self.now.transactions
    c.requires.before)) c.take.ensures.done

pub returns-clause-same : goal.returns-clause-same
returns-clause-same c = turned c.take.result (λ p. ap (λ (s : Standing). s.rec) p) c.take.ensures.done
