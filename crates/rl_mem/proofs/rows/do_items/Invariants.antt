use Rattle.std.proofs.Common.{◌≡◌, ◌+◌, ◌≤◌, length, vec_len, vec_capacity}
use Rattle.std.specs.Prelude.{IsTrue}
use Rattle.std.specs.Vec.Iter.{into_iter_items, into_iter_len}
use Rattle.rl_ports.specs.Store.{is_store, have_keys, after_batch}
use Rattle.rl_mem.proofs.rows.do_items.Given as goal

-- the items to come, done to the rows as they are, leave what all items leave of the rows as they were
abbrev pub invariant-loop-item : goal.invariant-loop-item
invariant-loop-item l = record {
  whole : after_batch (into_iter_items l.item-iterator) l.rows.items ≡
      after_batch (into_iter_items l.initial.item-iterator) l.fn.rows.items;
  store : IsTrue (is_store l.rows.items);
  keys : IsTrue (have_keys (into_iter_items l.item-iterator));
  count : into_iter_len l.item-iterator ≡ length (into_iter_items l.item-iterator);
  room : vec_len l.rows + into_iter_len l.item-iterator ≤ vec_capacity l.rows;
}
