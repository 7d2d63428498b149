use Rattle.std.proofs.Common.{◌∙◌}
use Rattle.rl_mem.proofs.Stores.{put-dropped}
use Rattle.rl_mem.proofs.rows.put_row.Goals as goal

-- the row goes into the gap that is left
pub returns-clause-done : goal.returns-clause-done
returns-clause-done c =
    c.in-Ok.ensures.items
    ∙ put-dropped c.args.area c.drop_row-at.result c.args.key c.args.value c.args.rows.now.items c.drop_row-at.new.rows.items
    c.requires.store
    (rw c.bytes.ensures.same at c.drop_row-at.ensures.done) (rw c.bytes.ensures.same at c.drop_row-at.ensures.gap)
