use Rattle.std.proofs.Common.{ap, sym, ◌∙◌, Some}
use Rattle.table_store.specs.Shared.{if_of_id}
use Rattle.table_store.proofs.Rising.{found_at, read_at, past_end}
use Rattle.table_store.proofs.table_list.table_at.Goals as goal

pub returns-in-Some : goal.returns-in-Some
returns-in-Some c =
    let read = c.in-Some.ensures.lookup in
    record {
      found = c.table_if_of_id.ensures.exact
          ∙ ap (λ t. if_of_id c.args.id (Some t)) read.1
          ∙ sym (ap (if_of_id c.args.id) (read_at c.args.tables.now c.place_of.result c.in-Some.shared.now read.3.0))
          ∙ found_at c.args.id 0 c.args.tables.now c.requires.rising c.place_of.result c.place_of.ensures.between.0
          c.place_of.ensures.between.1;
    }

pub returns-in-None : goal.returns-in-None
returns-in-None c = record {
  found = sym (ap (if_of_id c.args.id) (past_end c.args.tables.now c.place_of.result c.in-None.ensures.lookup.3))
      ∙ found_at c.args.id 0 c.args.tables.now c.requires.rising c.place_of.result c.place_of.ensures.between.0
      c.place_of.ensures.between.1;
}
