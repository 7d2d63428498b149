use Rattle.std.proofs.Common.{refl}
use Rattle.checkpoint.specs.Images.{image_state}
use Rattle.publisher.proofs.PartsReady.{level-ok}
use Rattle.publisher.proofs.Ready.{no-memory}
use Rattle.publisher.proofs.registering.prepare_level.Goals as goal

pub returns-in-Ok : goal.returns-in-Ok
returns-in-Ok c = record {
  prepared = level-ok (image_state c.args.image.now) c.args.level _ c.in-Ok.ensures.items refl c.requires.sound;
}

pub returns-in-Err : goal.returns-in-Err
returns-in-Err c = record { prepared = no-memory _ _ _ _ }
