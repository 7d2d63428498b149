use Rattle.std.proofs.Common.{◌<◌, ◌^◌}
use Rattle.std.proofs.lemmas.List.Elements.{recursion_from_All}
use Rattle.rl_text.proofs.LiteralLaws.{AreBytes-from_fits}
use Rattle.redo_text.proofs.SaidText.{spelled_given}
use Rattle.redo_text.proofs.SpelledDrafts.{bytes_of_log}
use Rattle.redo_text.proofs.writing.write_log.Goals as goal

-- the spelling that was put together is that of the log
pub returns-clause-exact : goal.returns-clause-exact
returns-clause-exact c = rw (← bytes_of_log c.args.text.now) c.bytes_of.ensures

pub returns-clause-spelled : goal.returns-clause-spelled
returns-clause-spelled c =
    spelled_given c.a_text_says_a_log.ensures.fits c.bytes_of.result (λ bytes. bytes.items) c.args.text.now
    (recursion_from_All (λ b. b < 2 ^ 8) c.args.text.now (AreBytes-from_fits c.args.text.now c.type_inv.text))
    (rw (← bytes_of_log c.args.text.now) c.bytes_of.ensures)
