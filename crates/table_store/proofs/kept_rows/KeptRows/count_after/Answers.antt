use Rattle.std.proofs.Common.{arith}
use Rattle.table_store.proofs.Limits.{counted_so}
use Rattle.table_store.proofs.kept_rows.KeptRows.count_after.Goals as goal

pub overflow_sub-result : goal.overflow_sub-result
overflow_sub-result c =
    let all = counted_so c.args.id c.args.writes.now c.args.self.now.rows c.requires.rising c.requires.writes_rise in
    omega (arith, all, c.requires.counted, c.count_added-added.ensures.exact, c.count_removed-removed.ensures.exact)

pub returns : goal.returns
returns c =
    let all = counted_so c.args.id c.args.writes.now c.args.self.now.rows c.requires.rising c.requires.writes_rise in
    record {
      exact = omega (arith, all, c.requires.counted, c.count_added-added.ensures.exact, c.count_removed-removed.ensures.exact);
    }
