use Rattle.std.proofs.Common.{◌≡◌, ◌+◌, ◌∷◌, drop, true, sym, ap, ◌∙◌, Err, arith}
use Rattle.standby_spec.specs.Refusals.{passes_limit}
use Rattle.standby_spec.specs.Writings.{writable}
use Rattle.publisher.specs.PreparesGroup.{count_within}
use Rattle.publisher.proofs.GroupSteps.{rest-is, tables-step, rows-step, count-step, count-stops}
use Rattle.publisher.proofs.group.rows_behind.Goals as goal

pub returns-in-Err-RowLimit : goal.returns-in-Err-RowLimit
returns-in-Err-RowLimit c =
    let cs = c.args.commits.now in
    let i = c.loop-commit.commit-index in
    let before = c.loop-commit.after.tables in
    let commit = c.commit-item.result in
    let rest : drop i cs ≡ commit ∷ drop (i + 1) cs = rest-is cs i commit c.loop-commit-test.true c.commit-item.is in
    let many : passes_limit before (writable before commit.writes) ≡ true =
    c.in-Err-RowLimit.ensures.row_limit (ap (λ f. Err f) c.in-Err-RowLimit.field-0-is) in
    let none : count_within before (drop i cs) ≡ 0 = count-stops before (drop i cs) (drop (i + 1) cs) commit rest many in
    record {
      taken = record {
        count = omega (arith, c.loop-commit.invariant.within, none);
        fewer = omega (arith, c.loop-commit.invariant.count, c.loop-commit-test.true);
      };
    }

pub loop-commit-preserved : goal.loop-commit-preserved
loop-commit-preserved c =
    let cs = c.args.commits.now in
    let i = c.loop-commit.commit-index in
    let before = c.loop-commit.after.tables in
    let after = c.in-Ok-tables_behind.tables.tables in
    let commit = c.commit-item.result in
    let rest : drop i cs ≡ commit ∷ drop (i + 1) cs = rest-is cs i commit c.loop-commit-test.true c.commit-item.is in
    let counted : count_within before (drop i cs) ≡ 1 + count_within after (drop (i + 1) cs) =
    count-step before after (drop i cs) (drop (i + 1) cs) commit rest c.in-Ok-tables_behind.ensures.written
    c.in-Ok-tables_behind.ensures.few in
    record {
      tables = sym (tables-step before after (drop i cs) (drop (i + 1) cs) commit rest c.in-Ok-tables_behind.ensures.written)
          ∙ c.loop-commit.invariant.tables;
      rows = sym (rows-step c.loop-commit.merged.items.entries c.tables_behind.new.merged.items.entries before after (drop i cs)
          (drop (i + 1) cs) commit rest c.in-Ok-tables_behind.ensures.written c.in-Ok-tables_behind.ensures.merged)
          ∙ c.loop-commit.invariant.rows;
      within = omega (arith, c.loop-commit.invariant.within, counted);
      count = omega (arith, c.loop-commit.invariant.count);
      sound = c.in-Ok-tables_behind.ensures.sound;
    }
