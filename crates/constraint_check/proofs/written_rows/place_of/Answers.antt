use Rattle.std.proofs.Common.{rules}
use Rattle.std.proofs.lemmas.List.Sorted.{IsPartitionPoint-from_clause}
use Rattle.constraint_check.specs.LookUps.{is_before}
use Rattle.constraint_check.proofs.Rising.{partitioned}
use Rattle.constraint_check.proofs.written_rows.place_of.Goals as goal

pub returns-clause-between : goal.returns-clause-between
returns-clause-between c =
    IsPartitionPoint-from_clause (is_before c.args.table c.args.key.now) _ _ c.partition_point.ensures.partitioned
    (partitioned c.args.table c.args.key.now c.args.writes.now c.requires.rising) (λ a r q k. search rules)
