use Rattle.std.proofs.Common.{◌≡◌, [], List, ap, ◌∙◌}
use Rattle.row_apply.specs.declared.writes.Write.{Write}
use Rattle.row_apply.specs.Written.{writes_in}
use Rattle.eager_work.specs.declared.did.Did.{Did}
use Rattle.eager_work.specs.Attempts.{writes}
use Rattle.eager_work.specs.Keeping.{put_parts}
use Rattle.eager_work.proofs.Gathered.{gathered_so, if_ok}
use Rattle.eager_work.proofs.work.Work.writes.Goals as goal

pub returns : goal.returns
returns c =
    let w = c.self.inside in
    record {
      gathered = if_ok c.gathered.result (λ (ws : List Write). ws ≡ writes_in (put_parts [] c.as_slice.result.now w.standing))
          (λ (ws : List Write). ws ≡ writes c.args.self.now)
          (λ ws e. e ∙ ap (λ (ps : List (List Did)). writes_in (put_parts [] ps w.standing)) c.as_slice.ensures.value ∙
          gathered_so w.parts.items w.standing w.conflict w.waiting.items ∙ ap writes c.self.view_is)
          c.gathered.ensures;
    }
