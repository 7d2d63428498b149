use Rattle.std.proofs.Common.{◌∙◌, None, arith, sym, subst}
use Rattle.std.specs.Vec.Iter.{into_iter_items}
use Rattle.redo_reader.specs.Steps.{IsSide}
use Rattle.redo_reader.specs.Reading.{clamped_place}
use Rattle.redo_reader.proofs.StepLaws.{first_side}
use Rattle.redo_reader.proofs.read_side.ReadSide.new.Goals as goal

pub invariant_of-result : goal.invariant_of-result
invariant_of-result g c =
    let known = g.A.Archive.logs c.args.archive in (
      omega (arith, c.in-Ok.ensures.len),
      subst (λ p. IsSide known c.args.registry p p (into_iter_items c.into_iter.result) None None) (sym c.clamped-place.ensures)
          (subst (λ w. IsSide known c.args.registry (clamped_place c.args.registry c.args.place)
          (clamped_place c.args.registry c.args.place) w None None) (sym (c.into_iter.ensures.rest ∙ c.new.ensures.items))
          (first_side known c.args.registry c.args.place c.requires.room)),
    )
