use Rattle.std.proofs.Common.{refl}
use Rattle.checkpoint.specs.Images.{image_state}
use Rattle.publisher.proofs.PartsReady.{mark-ok, mark-early, is-lower, not-lower}
use Rattle.publisher.proofs.Ready.{no-memory}
use Rattle.publisher.proofs.registering.prepare_mark.Goals as goal

pub returns-then-image-mark : goal.returns-then-image-mark
returns-then-image-mark c = record {
  prepared = mark-early (image_state c.args.image.now) c.args.mark (is-lower c.args.image.now.n c.args.mark.n c.if-image-mark.true);
}

pub returns-in-Ok : goal.returns-in-Ok
returns-in-Ok c = record {
  prepared = mark-ok (image_state c.args.image.now) c.args.mark _
      (not-lower c.args.image.now.n c.args.mark.n c.if-image-mark.false) c.in-Ok.ensures.items refl c.requires.sound;
}

pub returns-in-Err : goal.returns-in-Err
returns-in-Err c = record { prepared = no-memory _ _ _ _ }
