use Rattle.redo_spec.proofs.LogSound.{read_is_spelled}
use Rattle.redo_spec.proofs.laws.read_log_is_spelled.Goals as goal

pub returns : goal.returns
returns c = record {
  spelled = read_is_spelled (record {
    fits = c.a_read_record_is_spelled.ensures.fits;
    spelled = c.a_read_record_is_spelled.ensures.spelled;
  });
}
