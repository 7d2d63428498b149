use Rattle.std.proofs.Common.{◌≡◌, ◌++◌, ◌∷◌, [], List, map, false, refl, sym, ap, ◌∙◌}
use Rattle.redo_spec.specs.Fold.{live_row_limit}
use Rattle.redo_spec.specs.Tables.{row_count}
use Rattle.row_apply.specs.declared.writes.Write.{Write}
use Rattle.row_apply.specs.Overlaid.{overlaid}
use Rattle.standby_spec.specs.Layout.{applied_item}
use Rattle.standby_spec.specs.Writings.{write_item}
use Rattle.checkpoint.specs.Images.{image_state}
use Rattle.publisher.proofs.RowsReady.{publish-ok, all-writable, within-limit}
use Rattle.publisher.proofs.publishing.prepare_with_rows.Goals as goal

pub returns-in-Ok-tables_with : goal.returns-in-Ok-tables_with
returns-in-Ok-tables_with c =
    let s = image_state c.args.image.now in
    let commit = c.args.commit.now in
    record {
      prepared = publish-ok s commit.number commit.scn commit.writes commit.writes c.in-Ok-tables_with.tables.tables _
          c.requires.next (all-writable s.tables commit.writes c.requires.can)
          (within-limit (row_count (overlaid s.tables commit.writes)) live_row_limit (sym c.if-not-fits.ensures.exact))
          (c.in-Ok.ensures.items
          ∙ ap (λ (ws : List Write). map write_item ws ++ applied_item commit.number commit.scn ∷ []) c.items-writes.ensures.same)
          refl c.in-Ok-tables_with.ensures.written c.in-Ok-tables_with.ensures.sound;
    }
