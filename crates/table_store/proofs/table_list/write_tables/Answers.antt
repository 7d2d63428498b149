use Rattle.std.proofs.Common.{◌≡◌, sym, subst, IfOk}
use Rattle.redo_spec.specs.Tables.{Tables}
use Rattle.row_apply.specs.Soundness.{AreSound}
use Rattle.table_store.specs.Shared.{tables_in}
use Rattle.table_store.proofs.Turning.{in_turn}
use Rattle.table_store.proofs.table_list.write_tables.Goals as goal

pub write_in_turn-requires-clause-sound_then : goal.write_in_turn-requires-clause-sound_then
write_in_turn-requires-clause-sound_then c =
    subst AreSound (in_turn (tables_in c.args.tables.items) c.args.writes.now c.requires.rising c.requires.writes_rise)
    c.requires.sound_then

pub returns : goal.returns
returns c =
    let P : Tables → Type 0 = λ ts. IfOk c.write_in_turn.result (λ after. tables_in after.items ≡ ts) in
    record {
      written = subst P
          (sym (in_turn (tables_in c.args.tables.items) c.args.writes.now c.requires.rising c.requires.writes_rise))
          c.write_in_turn.ensures.written;
    }
