use Rattle.std.proofs.Common.{◌∙◌, sym, ap, subst}
use Rattle.redo_spec.specs.Tables.{Tables, assembled, row_count}
use Rattle.row_apply.specs.Overlaid.{overlaid}
use Rattle.row_apply.specs.Soundness.{AreSound}
use Rattle.plain_store.proofs.TableLaws.{assembled_written}
use Rattle.plain_store.proofs.writing.put_in.Goals as goal

pub write_all-requires-clause-sound : goal.write_all-requires-clause-sound
write_all-requires-clause-sound c = subst (λ (us : Tables). AreSound us)
    (sym (assembled_written c.args.dict.now.tables c.args.tables.now c.args.writes)) c.requires.sound_then

pub returns-clause-written : goal.returns-clause-written
returns-clause-written c = ap (assembled c.args.dict.now.tables) c.in_ok-write_all.ensures.written ∙
    assembled_written c.args.dict.now.tables c.args.tables.now c.args.writes

pub returns-clause-counted : goal.returns-clause-counted
returns-clause-counted c =
    let before = assembled c.args.dict.now.tables c.args.tables.now in
    c.in_ok-after.ensures.exact
    ∙ ap (λ ws. row_count (overlaid before ws)) c.items.ensures.same
    ∙ sym (ap row_count (ap (assembled c.args.dict.now.tables) c.in_ok-write_all.ensures.written ∙
    assembled_written c.args.dict.now.tables c.args.tables.now c.args.writes))
