use Rattle.std.proofs.Common.{◌≤◌, ◌∙◌, sym, subst, take}
use Rattle.std.specs.Result.{IfOk}
use Rattle.rl_ports.specs.Faults.{Told}
use Rattle.redo_wire.specs.declared.header.TheConstants.{HEADER_LENGTH}
use Rattle.log_registry.specs.Front.{IsFront}
use Rattle.log_registry.proofs.HeaderLaws.{told_exact, judged_fits, judged_no_fault, judged_long, AskedFor}
use Rattle.log_registry.proofs.inspecting.look.Goals as goal

pub returns-in_ok-count-in-Some-clause-exact : goal.returns-in_ok-count-in-Some-clause-exact
returns-in_ok-count-in-Some-clause-exact g c =
    told_exact (g.A.Archive.logs c.args.archive.now) c.args.seq c.in-Some.size c.in_ok-count-in-Some.count c.in_ok-length.field-0
    c.read_front.new.front c.judge.result c.in-Some.is c.in_ok-length.ensures.length
    (subst (λ known. Told known (λ logs. IsFront (logs c.args.seq) c.read_front.new.front c.in_ok-count-in-Some.count))
    c.in_ok-length.ensures.same c.in_ok-count-in-Some.ensures.front) c.judge.ensures

pub returns-in_ok-count-in-Some-clause-sequence : goal.returns-in_ok-count-in-Some-clause-sequence
returns-in_ok-count-in-Some-clause-sequence g c = subst (λ r. IfOk r (AskedFor c.args.seq)) (sym c.judge.ensures)
    (judged_fits (take c.in_ok-count-in-Some.count c.read_front.new.front) c.in-Some.size c.args.seq)

pub returns-in_ok-count-in-Some-clause-failed : goal.returns-in_ok-count-in-Some-clause-failed
returns-in_ok-count-in-Some-clause-failed g c = λ is. absurd
    (judged_no_fault (take c.in_ok-count-in-Some.count c.read_front.new.front) c.in-Some.size c.args.seq
    (sym c.judge.ensures ∙ is))

pub returns-in_ok-count-in-Some-clause-long : goal.returns-in_ok-count-in-Some-clause-long
returns-in_ok-count-in-Some-clause-long g c = subst (λ r. IfOk r (λ e. HEADER_LENGTH ≤ e.length)) (sym c.judge.ensures)
    (judged_long (take c.in_ok-count-in-Some.count c.read_front.new.front) c.in-Some.size c.args.seq)
