use Rattle.std.proofs.Common.{◌≡◌, sym, ap, subst}
use Rattle.std.specs.Prelude.{IfSome}
use Rattle.std.specs.Option.{option_map}
use Rattle.row_apply.specs.Soundness.{AreSound}
use Rattle.standby_spec.specs.KeptState.{KeptState}
use Rattle.standby_spec.specs.Publishing.{Publishing}
use Rattle.checkpoint.specs.Images.{image_state}
use Rattle.publisher.specs.Endings.{ending_of}
use Rattle.publisher.specs.Shown.{shown_next}
use Rattle.publisher.proofs.Through.{through-view, sound-shown}
use Rattle.publisher.proofs.publisher.Publisher.put_through.Goals as goal

pub returns-clause-leaves : goal.returns-clause-leaves
returns-clause-leaves g c = λ later is.
    through-view g.K.Keeper.holds g.K.Keeper.faults g.K.Keeper.counts_failures_alone _ c.args.self.now _ c.args.prepared.batch
    later c.args.prepared.next (ending_of c.keep-kept.result) c.self.view_is c.show_if_done.ensures.shown c.has_failed-self-inside.ensures.exact
    c.keep-kept.ensures.store c.keep-kept.ensures.count is

pub invariant_of-self : goal.invariant_of-self
invariant_of-self g c =
    let seen : option_map image_state c.self.inside.image ≡ c.args.self.now.state = ap (λ p. p.state) c.self.view_is in (
      sound-shown (ending_of c.keep-kept.result) c.args.prepared.next c.self.inside.image c.show_if_done.new.image
          c.show_if_done.ensures.shown
          (subst (λ o. IfSome (shown_next c.args.prepared.next o) (λ (s : KeptState). AreSound s.tables)) (sym seen)
          c.requires.ready.sound) c.self.invariant.0,
      c.self.invariant.1,
    )
