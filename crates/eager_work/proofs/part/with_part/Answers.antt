use Rattle.std.proofs.Common.{List, ◌++◌, ap, ◌∙◌}
use Rattle.eager_work.specs.declared.did.Did.{Did}
use Rattle.eager_work.specs.Keeping.{joined}
use Rattle.eager_work.proofs.Gathered.{joined-more}
use Rattle.eager_work.proofs.part.with_part.Goals as goal

pub returns : goal.returns
returns c =
    ap joined c.in_ok-push_part.ensures
    ∙ joined-more c.args.parts.items c.in_ok-part.part
    ∙ ap (λ (ds : List Did). joined c.args.parts.items ++ ds) c.in_ok-part.ensures.same
