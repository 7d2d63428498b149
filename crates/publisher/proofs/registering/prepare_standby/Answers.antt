use Rattle.std.proofs.Common.{refl, ap, subst, Some, None}
use Rattle.row_apply.specs.Soundness.{AreSound}
use Rattle.standby_spec.specs.KeptState.{KeptState}
use Rattle.standby_spec.specs.Writings.{created_state, created_items}
use Rattle.publisher.proofs.Created.{created-batch, created-key}
use Rattle.publisher.proofs.Ready.{prepared-ok}
use Rattle.publisher.proofs.registering.prepare_standby.Goals as goal

pub returns-in-Ok-first_image : goal.returns-in-Ok-first_image
returns-in-Ok-first_image c =
    let rows = c.args.dict.tables in
    record {
      prepared = prepared-ok (created_items c.args.entry rows) None (created_state c.args.entry rows) None _ refl
          (created-batch c.in-Ok.batch c.identity_of-identity.result c.args.entry c.tables.result.now rows
          c.identity_of-identity.ensures.first c.tables.ensures.same c.in-Ok.ensures.items)
          (created-key c.args.entry rows) (ap (λ s. Some s) c.in-Ok-first_image.ensures.state)
          (subst (λ (s : KeptState). AreSound s.tables) c.in-Ok-first_image.ensures.state c.in-Ok-first_image.ensures.sound);
    }
