use Rattle.std.proofs.Common.{rules, nat_lt}
use Rattle.std.proofs.lemmas.List.Sorted.{IsPartitionPoint-from_clause}
use Rattle.redo_dict.proofs.Rising.{partitioned}
use Rattle.redo_dict.proofs.search.place_of.Goals as goal

pub returns-clause-between : goal.returns-clause-between
returns-clause-between c =
    IsPartitionPoint-from_clause (λ t. nat_lt t.id c.args.id) _ _ c.partition_point.ensures.partitioned
    (partitioned c.args.id 0 c.args.tables.now c.requires) (λ a r q k. search rules)
