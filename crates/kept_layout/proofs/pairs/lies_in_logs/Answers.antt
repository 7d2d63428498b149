use Rattle.std.proofs.Common.{◌∙◌, ap, sym}
use Rattle.standby_spec.specs.Loading.{lies_in}
use Rattle.redo_reader.proofs.EntryLaws.{some_at_log, none_at_end, none_in_gap}
use Rattle.kept_layout.proofs.pairs.lies_in_logs.Goals as goal

pub returns-in-Log : goal.returns-in-Log
returns-in-Log c = c.lies_in_log.ensures ∙ ap (lies_in c.args.mark)
    (sym (some_at_log c.args.mark.place.seq c.args.logs.now c.in-Log.entry.now c.in-Log.ensures.exact))

pub returns-in-End : goal.returns-in-End
returns-in-End c = ap (lies_in c.args.mark)
    (sym (none_at_end c.args.mark.place.seq c.args.logs.now c.in-End.ensures.rising c.in-End.ensures.exact))

pub returns-in-Gap : goal.returns-in-Gap
returns-in-Gap c = ap (lies_in c.args.mark)
    (sym (none_in_gap c.args.mark.place.seq c.in-Gap.low c.in-Gap.high c.args.logs.now c.in-Gap.ensures.rising
    c.in-Gap.ensures.exact))
