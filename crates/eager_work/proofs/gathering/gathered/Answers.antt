use Rattle.std.proofs.Common.{◌≡◌, [], List, subst, sym, ap, ◌∙◌}
use Rattle.row_apply.specs.declared.writes.Write.{Write}
use Rattle.row_apply.specs.Kept.{ArePrimary}
use Rattle.row_apply.specs.Written.{writes_in}
use Rattle.eager_work.specs.Keeping.{put_parts}
use Rattle.eager_work.proofs.Gathered.{primary_parts, if_ok}
use Rattle.eager_work.proofs.gathering.gathered.Goals as goal

pub writes_of-requires : goal.writes_of-requires
writes_of-requires c =
    let all : c.put_parts.new.rows.entries ≡ put_parts [] c.args.parts.now c.args.standing =
    c.in_ok-put_parts.ensures ∙ (λ i. put_parts (c.new-rows.ensures.empty i) c.args.parts.now c.args.standing) in
    record { primary = subst ArePrimary (sym all) (primary_parts [] c.args.parts.now c.args.standing tt) }

pub returns : goal.returns
returns c =
    let all : c.put_parts.new.rows.entries ≡ put_parts [] c.args.parts.now c.args.standing =
    c.in_ok-put_parts.ensures ∙ (λ i. put_parts (c.new-rows.ensures.empty i) c.args.parts.now c.args.standing) in
    if_ok c.writes_of.result (λ (ws : List Write). ws ≡ writes_in c.put_parts.new.rows.entries)
    (λ (ws : List Write). ws ≡ writes_in (put_parts [] c.args.parts.now c.args.standing)) (λ ws e. e ∙ ap writes_in all)
    c.writes_of.ensures
