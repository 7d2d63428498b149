use Rattle.std.proofs.Common.{rules, ap, ◌∙◌, [], Some, None, Ok}
use Rattle.std.proofs.lemmas.Result.{err_from_is_err_and}
use Rattle.redo_spec.specs.Dictionary.{Dictionary}
use Rattle.standby_spec.specs.Loading.{tables_in, table_step}
use Rattle.checkpoint.specs.Areas.{IsBadKey}
use Rattle.checkpoint.proofs.DictLaws.{no_tables_yet}
use Rattle.checkpoint.proofs.Walking.{none_bad, told_start, told_on, told_bad, told_through, told_next, lies_next}
use Rattle.checkpoint.proofs.tables.read_tables.Goals as goal

pub loop-init : goal.loop-init
loop-init g c = record {
  told = told_start (g.K.Keeper.holds c.args.keeper.now) 3 table_step [] _ _ (search rules)
      (search rules) (g.met.K.Keeper.lawful c.args.keeper.now);
  read = no_tables_yet _ _ (search rules);
  same = search rules;
  none = search rules;
  later = search rules;
}

pub returns-in_err-found-clause-read : goal.returns-in_err-found-clause-read
returns-in_err-found-clause-read g c =
    let p = err_from_is_err_and c.from_residual.result c.from_residual.ensures.1 in
    rw (p.1, p.2) (none_bad (g.K.Keeper.holds c.args.keeper.now) (g.K.Keeper.holds c.loop.keeper) 3 c.loop.last
    c.in_err-found.field-0.0 (λ s f. IsBadKey f (tables_in s)) (λ s. tt) (λ s. tt)
    c.loop.invariant.same c.in_err-found.ensures.next)

pub returns-in_default-clause-read : goal.returns-in_default-clause-read
returns-in_default-clause-read g c =
    rw (ap (λ (d : Dictionary). d.tables) c.finish.ensures.ended) (told_through (g.K.Keeper.holds c.args.keeper.now) 3 table_step
    []
    c.loop.dict.tables c.loop.last c.loop.invariant.told
    (told_next (g.K.Keeper.holds c.args.keeper.now) (g.K.Keeper.holds c.loop.keeper) 3 c.loop.last c.in_ok-found.found None
    c.loop.invariant.same c.in_default.is c.in_ok-found.ensures.next))

pub returns-in_default-clause-tables : goal.returns-in_default-clause-tables
returns-in_default-clause-tables g c =
    rw (ap (λ (d : Dictionary). d.tables) c.finish.ensures.ended) c.loop.invariant.read.each

pub returns-in_default-clause-accepted : goal.returns-in_default-clause-accepted
returns-in_default-clause-accepted g c =
    rw (ap (λ (d : Dictionary). d.tables) c.finish.ensures.ended) c.loop.invariant.read.accepted

pub take_table-requires-clause-above : goal.take_table-requires-clause-above
take_table-requires-clause-above g c = lies_next c.loop.last c.in_ok-found.found c.in-Some.pair c.in-Some.is
    c.in_ok-found.ensures.above

pub returns-then-not-branch-clause-read : goal.returns-then-not-branch-clause-read
returns-then-not-branch-clause-read g c =
    told_bad (g.K.Keeper.holds c.args.keeper.now) 3 table_step [] c.loop.dict.tables c.loop.last
    c.in-Some.pair c.loop.invariant.told
    (told_next (g.K.Keeper.holds c.args.keeper.now) (g.K.Keeper.holds c.loop.keeper) 3 c.loop.last c.in_ok-found.found
    (Some c.in-Some.pair) c.loop.invariant.same c.in-Some.is c.in_ok-found.ensures.next)
    (c.in_ok-take_table.ensures.refused (ap Ok c.if-not-branch.true))

pub loop-preserved : goal.loop-preserved
loop-preserved g c = record {
  told = told_on (g.K.Keeper.holds c.args.keeper.now) 3 table_step [] c.loop.dict.tables
      c.take_table.new.dict.tables c.loop.last c.in-Some.pair c.loop.invariant.told
      (told_next (g.K.Keeper.holds c.args.keeper.now) (g.K.Keeper.holds c.loop.keeper) 3 c.loop.last c.in_ok-found.found
      (Some c.in-Some.pair) c.loop.invariant.same c.in-Some.is c.in_ok-found.ensures.next)
      (c.in_ok-take_table.ensures.taken (ap Ok c.if-not-branch.false));
  read = c.in_ok-take_table.ensures.read (ap Ok c.if-not-branch.false);
  same = c.in_ok-found.ensures.same ∙ c.loop.invariant.same;
  none = search rules;
  later = search rules;
}
