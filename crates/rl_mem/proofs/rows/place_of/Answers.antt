use Rattle.std.proofs.Common.{rules, ℕ, List}
use Rattle.std.specs.Ordering.{is_lt}
use Rattle.std.proofs.lemmas.List.Sorted.{IsPartitionPoint-from_clause}
use Rattle.rl_ports.specs.Store.{place_cmp}
use Rattle.rl_mem.proofs.Places.{parted_below, spot}
use Rattle.rl_mem.proofs.Stores.{place_total, is_sorted-store}
use Rattle.rl_mem.proofs.rows.place_of.Goals as goal

-- in order, those before the place stand first
pub returns-clause-spot : goal.returns-clause-spot
returns-clause-spot c =
    let place : ℕ × List ℕ = (c.args.area, c.args.key.now) in
    let parted = parted_below place_cmp place_total c.args.rows.now place (is_sorted-store c.args.rows.now c.requires.store) in
    spot place_cmp place_total c.args.rows.now c.partition_point.result place c.partition_point.ensures.bound
    (IsPartitionPoint-from_clause (λ (e : (ℕ × List ℕ) × List ℕ). is_lt (place_cmp e.0 place)) _ _
    c.partition_point.ensures.partitioned parted (λ a r q k. search rules))
