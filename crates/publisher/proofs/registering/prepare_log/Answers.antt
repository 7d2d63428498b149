use Rattle.std.proofs.Common.{refl, sym, ◌∙◌}
use Rattle.checkpoint.specs.Images.{image_state}
use Rattle.publisher.proofs.PartsReady.{log-ok, log-limit}
use Rattle.publisher.proofs.Ready.{no-memory}
use Rattle.publisher.proofs.registering.prepare_log.Goals as goal

pub returns-then-has_all_logs : goal.returns-then-has_all_logs
returns-then-has_all_logs c = record {
  prepared = log-limit (image_state c.args.image.now) c.args.entry (sym c.has_all_logs.ensures.exact ∙ c.if-has_all_logs.true);
}

pub returns-in_default : goal.returns-in_default
returns-in_default c = record { prepared = no-memory _ _ _ _ }

pub returns-in_default-logs_with : goal.returns-in_default-logs_with
returns-in_default-logs_with c = record { prepared = no-memory _ _ _ _ }

pub returns : goal.returns
returns c = record {
  prepared = log-ok (image_state c.args.image.now) c.args.entry c.in-Ok-logs_with.logs _
      (sym c.has_all_logs.ensures.exact ∙ c.if-has_all_logs.false) c.in-Ok.ensures.items refl c.in-Ok-logs_with.ensures.with
      c.requires.sound;
}
