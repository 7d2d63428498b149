use Rattle.std.proofs.Common.{◌≡◌, ℕ, sym, subst, Result}
use Rattle.redo_vec.specs.declared.vector.Vector.{Vector}
use Rattle.redo_spec.specs.Law.{own_fault}
use Rattle.redo_law.specs.declared.fault.AdmitFault.{AdmitFault}
use Rattle.redo_law.specs.declared.state.State.{State}
use Rattle.redo_law.specs.States.{standing_in, TakesVector}
use Rattle.redo_law.proofs.state.State.take.Goals as goal

-- what is done with a vector is done with the one that it is
turned : {A : Type 0} (r : Result A AdmitFault) (old new : State) (vec : ℕ) (v w : Vector) → v ≡ w →
    TakesVector (own_fault (standing_in old) w) vec w old new r → TakesVector (own_fault (standing_in old) v) vec v old new r
turned r old new vec v w is done = subst (λ (u : Vector). TakesVector (own_fault (standing_in old) u) vec u old new r) (sym is)
    done

pub returns-in-Start : goal.returns-in-Start
returns-in-Start c = turned c.start.result c.args.self.now c.start.new.self c.args.vec c.args.vector.now _ c.in-Start.is
    c.start.ensures

pub returns-in-Change : goal.returns-in-Change
returns-in-Change c = turned c.change.result c.args.self.now c.change.new.self c.args.vec c.args.vector.now _ c.in-Change.is
    c.change.ensures

pub returns-in-Undo : goal.returns-in-Undo
returns-in-Undo c = turned c.undo.result c.args.self.now c.undo.new.self c.args.vec c.args.vector.now _ c.in-Undo.is
    (c.undo.ensures c.args.vec)

pub returns-in-Commit : goal.returns-in-Commit
returns-in-Commit c = turned c.commit.result c.args.self.now c.commit.new.self c.args.vec c.args.vector.now _ c.in-Commit.is
    (c.commit.ensures c.args.vec)

pub returns-in-Rollback : goal.returns-in-Rollback
returns-in-Rollback c = turned c.rollback.result c.args.self.now c.rollback.new.self c.args.vec c.args.vector.now _
    c.in-Rollback.is (c.rollback.ensures c.args.vec)

pub returns-in-Table : goal.returns-in-Table
returns-in-Table c = turned c.add_table.result c.args.self.now c.add_table.new.self c.args.vec c.args.vector.now _ c.in-Table.is
    (c.add_table.ensures c.args.vec)
