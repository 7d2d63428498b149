use Rattle.std.proofs.Common.{◌≡◌, ◌+◌, ◌≤◌, length, true}
use Rattle.redo_spec.specs.Standing.{standing_after_all}
use Rattle.redo_spec.specs.Law.{vectors_fault, left_by_vectors}
use Rattle.redo_law.specs.Calls.{may_want_in}
use Rattle.redo_law.specs.OpenTransactions.{BeganBefore}
use Rattle.redo_law.specs.States.{standing_in}
use Rattle.redo_law.proofs.state.State.take_all.Given as goal

-- the vectors that are left judge and leave as all did
abbrev pub invariant-loop-rest : goal.invariant-loop-rest
invariant-loop-rest l = record {
  size : l.vec + length l.rest ≤ 256;
  some : 1 ≤ l.vec;
  same : l.self.rec ≡ l.initial.self.rec;
  before : BeganBefore (record { rec = l.self.rec; vec = l.vec }) (standing_in l.self).active;
  done : standing_after_all l.vec l.rest (standing_in l.self) ≡ standing_after_all 1 l.vectors (standing_in l.initial.self);
  fault : vectors_fault l.head l.vec l.rest (standing_in l.self) ≡ vectors_fault l.head 1 l.vectors (standing_in l.initial.self);
  memory : may_want_in l.head l.vec l.rest (standing_in l.self) ≡ true →
      may_want_in l.head 1 l.vectors (standing_in l.initial.self) ≡ true;
  left : left_by_vectors l.head l.vec l.rest (standing_in l.self) ≡
      left_by_vectors l.head 1 l.vectors (standing_in l.initial.self);
}

abbrev pub decreases-loop-rest : goal.decreases-loop-rest
decreases-loop-rest l = length l.rest
