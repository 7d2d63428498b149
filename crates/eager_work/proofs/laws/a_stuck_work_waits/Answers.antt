use Rattle.std.proofs.Common.{ap, []}
use Rattle.row_apply.specs.Written.{writes_in, put_writes}
use Rattle.eager_work.proofs.WorkLaws.{stuck-on, written-on}
use Rattle.eager_work.proofs.laws.a_stuck_work_waits.Goals as goal

pub returns-clause-still : goal.returns-clause-still
returns-clause-still c = stuck-on

pub returns-clause-no_more : goal.returns-clause-no_more
returns-clause-no_more c rows skips n base attempts chunk missed e =
    ap (λ ws. writes_in (put_writes [] ws)) (written-on rows skips n base attempts chunk missed e)
