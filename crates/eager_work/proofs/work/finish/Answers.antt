use Rattle.std.proofs.Common.{◌≡◌, ◌+◌, ◌++◌, List, length, take, ap, ◌∙◌, arith}
use Rattle.eager_work.specs.declared.did.Did.{Did}
use Rattle.eager_work.specs.Keeping.{joined}
use Rattle.eager_work.proofs.Gathered.{finish_few, finish_over}
use Rattle.eager_work.proofs.work.finish.Goals as goal

pub invariant_of-result : goal.invariant_of-result
invariant_of-result c =
    let parts = c.args.parts.now in
    let after = c.in_ok-parts.parts.items in
    let done = c.args.tries.done.items in
    let is : joined after ≡ take c.args.standing (joined parts) ++ done =
    c.in_ok-parts.ensures ∙ ap (λ (ds : List Did). ds ++ done) c.in_ok-settled.ensures in
    let many : c.in-Some.standing ≡ c.args.standing + length done = omega (arith, c.in-Some.ensures, c.len.ensures) in (
      finish_few parts after c.args.standing c.in-Some.standing done c.requires.fits is many,
      c.requires.free,
      finish_over parts after c.args.standing c.in-Some.standing done c.requires.fits is many c.args.tries.conflict
          c.args.tries.waiting.items c.args.tries.over c.requires.over,
    )
