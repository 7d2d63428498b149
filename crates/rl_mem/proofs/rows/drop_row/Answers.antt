use Rattle.std.proofs.Common.{sym, ◌∙◌}
use Rattle.rl_mem.proofs.Stores.{drop-there, drop-missing}
use Rattle.rl_mem.proofs.rows.drop_row.Goals as goal

-- no row stands there
pub returns-then-not-stands_at-clause-done : goal.returns-then-not-stands_at-clause-done
returns-then-not-stands_at-clause-done c =
    (drop-missing c.args.area c.place_of-at.result c.args.key.now c.args.rows.now.items c.requires.store
    (rw c.deref.ensures.value at c.place_of-at.ensures.spot)
    (sym (rw c.deref-2.ensures.value at c.if-not-stands_at.ensures.there))).0

pub returns-then-not-stands_at-clause-gap : goal.returns-then-not-stands_at-clause-gap
returns-then-not-stands_at-clause-gap c =
    (drop-missing c.args.area c.place_of-at.result c.args.key.now c.args.rows.now.items c.requires.store
    (rw c.deref.ensures.value at c.place_of-at.ensures.spot)
    (sym (rw c.deref-2.ensures.value at c.if-not-stands_at.ensures.there))).1

-- the row that stands there is gone
pub returns-clause-done : goal.returns-clause-done
returns-clause-done c =
    c.remove.ensures.items
    ∙ (drop-there c.args.area c.place_of-at.result c.args.key.now c.args.rows.now.items c.requires.store
    (rw c.deref.ensures.value at c.place_of-at.ensures.spot)
    (sym (rw c.deref-2.ensures.value at c.if-not-stands_at.ensures.there))).0

pub returns-clause-gap : goal.returns-clause-gap
returns-clause-gap c =
    rw c.remove.ensures.items
    (drop-there c.args.area c.place_of-at.result c.args.key.now c.args.rows.now.items c.requires.store
    (rw c.deref.ensures.value at c.place_of-at.ensures.spot)
    (sym (rw c.deref-2.ensures.value at c.if-not-stands_at.ensures.there))).1
