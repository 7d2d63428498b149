use Rattle.std.proofs.Common.{◌≡◌, ◌+◌, [], drop}
use Rattle.row_apply.specs.Soundness.{AreSound}
use Rattle.publisher.specs.PreparesGroup.{tables_behind_all, rows_of_all, count_within}
use Rattle.publisher.proofs.group.rows_behind.Given as goal

-- what is left of the commits makes the whole, and as many are within the limit as were taken
abbrev pub invariant-loop-commit : goal.invariant-loop-commit
invariant-loop-commit l =
    let left = drop l.commit-index l.commits in
    record {
      tables : tables_behind_all l.after.tables left ≡ tables_behind_all l.tables.tables l.commits;
      rows : rows_of_all l.merged.items.entries l.after.tables left ≡ rows_of_all [] l.tables.tables l.commits;
      within : l.count + count_within l.after.tables left ≡ count_within l.tables.tables l.commits;
      count : l.count ≡ l.commit-index;
      sound : AreSound l.after.tables;
    }
