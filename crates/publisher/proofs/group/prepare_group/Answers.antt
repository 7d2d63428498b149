use Rattle.std.proofs.Common.{◌≡◌, ◌+◌, List, true, sym, ap, subst, refl, ◌∙◌}
use Rattle.std.specs.Prelude.{◌==◌}
use Rattle.std.proofs.lemmas.Result.{err_from_is_err_and}
use Rattle.eager_work.specs.declared.commit.Commit.{Commit}
use Rattle.checkpoint.specs.Images.{image_state}
use Rattle.publisher.specs.Groups.{IsGroup, first_number}
use Rattle.publisher.specs.PreparesGroup.{StopsBy}
use Rattle.publisher.proofs.GroupReady.{group-made, group-stops}
use Rattle.publisher.proofs.GroupSteps.{first-is-at}
use Rattle.publisher.proofs.group.prepare_group.Goals as goal

pub returns-in_err-tables : goal.returns-in_err-tables
returns-in_err-tables c =
    let s = image_state c.args.image.now in
    let cs = c.args.commits.now in
    let n = c.args.image.now.n in
    let same : c.items-items.result.now ≡ cs = c.items-items.ensures.same in
    let group : IsGroup c.items-items.result.now = subst IsGroup (sym same) c.items-items.ensures.group in
    let next : (first_number cs == n + 1) ≡ true =
    ap (λ (ds : List Commit). first_number ds == n + 1) (sym same)
    ∙ ap (λ m. m == n + 1) (first-is-at c.items-items.result.now c.index-items-0.result group c.index-items-0.is)
    ∙ sym c.is_next.ensures.exact ∙ c.if-not-is_next.false in
    let p = err_from_is_err_and c.from_residual.result c.from_residual.ensures.1 in
    record {
      prepared = rw (p.1, p.2) (group-stops s cs c.in_err-tables.field-0.0 next
          (subst (λ (ds : List Commit). StopsBy s.tables ds c.in_err-tables.field-0.0) same c.in_err-tables.ensures.taken));
    }

pub returns-in-Ok-applied_batch : goal.returns-in-Ok-applied_batch
returns-in-Ok-applied_batch c =
    let s = image_state c.args.image.now in
    let cs = c.args.commits.now in
    let given = c.items-items.result.now in
    let n = c.args.image.now.n in
    let same : given ≡ cs = c.items-items.ensures.same in
    let group : IsGroup given = subst IsGroup (sym same) c.items-items.ensures.group in
    let next : (first_number given == n + 1) ≡ true =
    ap (λ m. m == n + 1) (first-is-at given c.index-items-0.result group c.index-items-0.is) ∙ sym c.is_next.ensures.exact
    ∙ c.if-not-is_next.false in
    record {
      prepared = group-made s cs given _ c.in_ok-tables.tables c.in_ok-tables.merged c.in-Ok.rows.items c.last_of-n.result same
          group next c.in_ok-tables.ensures.taken c.last_of-n.ensures.last c.in-Ok.ensures.items
          c.in-Ok-applied_batch.ensures.items refl;
    }
