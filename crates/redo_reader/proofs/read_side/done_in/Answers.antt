use Rattle.std.proofs.Common.{◌∙◌, ap, sym}
use Rattle.redo_reader.specs.Reading.{done_within}
use Rattle.redo_reader.proofs.EntryLaws.{some_at_log, none_at_end, none_in_gap, done_low, done_high}
use Rattle.redo_reader.proofs.read_side.done_in.Goals as goal

pub returns-then-place-entry : goal.returns-then-place-entry
returns-then-place-entry c = done_low c.args.place.done c.in-Log.entry.now c.if-place-entry.true ∙
    ap (λ o. done_within o c.args.place.done) (sym (some_at_log c.args.place.seq c.args.registry.now c.in-Log.entry.now
    c.in-Log.ensures.exact))

pub returns-else-place-entry : goal.returns-else-place-entry
returns-else-place-entry c = done_high c.args.place.done c.in-Log.entry.now c.if-place-entry.false ∙
    ap (λ o. done_within o c.args.place.done) (sym (some_at_log c.args.place.seq c.args.registry.now c.in-Log.entry.now
    c.in-Log.ensures.exact))

pub returns-in-End : goal.returns-in-End
returns-in-End c = ap (λ o. done_within o c.args.place.done)
    (sym (none_at_end c.args.place.seq c.args.registry.now c.in-End.ensures.rising c.in-End.ensures.exact))

pub returns-in-Gap : goal.returns-in-Gap
returns-in-Gap c = ap (λ o. done_within o c.args.place.done)
    (sym (none_in_gap c.args.place.seq c.in-Gap.low c.in-Gap.high c.args.registry.now c.in-Gap.ensures.rising
    c.in-Gap.ensures.exact))
