use Rattle.std.proofs.Common.{refl, ap, sym, ◌∙◌, nat_le}
use Rattle.redo_spec.specs.Fold.{live_row_limit}
use Rattle.redo_spec.specs.Tables.{Tables, row_count}
use Rattle.table_store.specs.Shared.{tables_in}
use Rattle.table_store.proofs.Limits.{room_fits}
use Rattle.table_store.proofs.Turning.{in_turn}
use Rattle.table_store.proofs.table_list.fits.Goals as goal

pub returns-then-has_room : goal.returns-then-has_room
returns-then-has_room c = record {
  exact = room_fits c.args.tables.now c.args.writes.now c.args.count c.requires.sound c.requires.counted
      (c.if-has_room.ensures.room refl);
}

pub returns : goal.returns
returns c = record {
  exact = c.count_fits.ensures.exact ∙ ap (λ (ts : Tables). nat_le (row_count ts) live_row_limit)
      (sym (in_turn (tables_in c.args.tables.now) c.args.writes.now c.requires.rising c.requires.writes_rise));
}
