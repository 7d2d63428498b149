use Rattle.std.proofs.Common.{ap, sym, ◌∙◌, Some}
use Rattle.constraint_check.proofs.Rising.{if_same, found_at, read_at, past_end}
use Rattle.constraint_check.proofs.written_rows.is_written.Goals as goal

pub returns-in-Some : goal.returns-in-Some
returns-in-Some c =
    let read = c.in-Some.ensures.lookup in record {
      exact = c.is_of.ensures.exact
          ∙ ap (λ w. if_same c.args.table c.args.key.now (Some w)) read.1
          ∙ sym (ap (if_same c.args.table c.args.key.now)
          (read_at c.args.writes.now c.place_of.result c.in-Some.write.now read.3.0))
          ∙ found_at c.args.table c.args.key.now c.args.writes.now c.requires.rising c.place_of.result
          c.place_of.ensures.between.0 c.place_of.ensures.between.1;
    }

pub returns-in-None : goal.returns-in-None
returns-in-None c = record {
  exact = sym (ap (if_same c.args.table c.args.key.now)
      (past_end c.args.writes.now c.place_of.result c.in-None.ensures.lookup.3))
      ∙ found_at c.args.table c.args.key.now c.args.writes.now c.requires.rising c.place_of.result
      c.place_of.ensures.between.0 c.place_of.ensures.between.1;
}
