use Rattle.std.proofs.Common.{◌≡◌, rules, sym, subst, ap, ◌∙◌, List, [], ◌∷◌, Some, None, true, arith}
use Rattle.std.proofs.lemmas.Result.{err_from_is_err_and}
use Rattle.std.specs.List.{AllByRecursion}
use Rattle.redo_vec.specs.declared.table.TableRow.{TableRow}
use Rattle.redo_vec.specs.Ranges.{IsTable}
use Rattle.redo_spec.specs.Dictionary.{ids_rise}
use Rattle.redo_spec.specs.Tables.{definitions_of, empty_tables}
use Rattle.standby_spec.specs.Loading.{rows_in, row_step}
use Rattle.standby_spec.proofs.ItemLaws.{same-definitions}
use Rattle.standby_spec.proofs.SpellRowLaws.{empty-definitions}
use Rattle.checkpoint.specs.Areas.{IsBadKey}
use Rattle.checkpoint.proofs.RowPuts.{no_rows_yet, one_row_more, row_taken, row_refused, write_leaves, write_has_room}
use Rattle.checkpoint.proofs.Walking.{none_bad, told_start, told_on, told_bad, told_through, told_next}
use Rattle.checkpoint.proofs.rows.read_rows.Goals as goal

pub loop-init : goal.loop-init
loop-init g c = record {
  told = told_start (g.K.Keeper.holds c.args.keeper.now) 5 row_step (empty_tables c.args.dict.tables) _ _ (search rules)
      c.in_ok-tables.ensures.empty (g.met.K.Keeper.lawful c.args.keeper.now);
  rows = no_rows_yet c.in_ok-tables.tables c.args.dict.tables c.in_ok-tables.ensures.empty;
  dictionary = c.in_ok-tables.ensures.dictionary;
  defined = ap definitions_of c.in_ok-tables.ensures.empty ∙ empty-definitions c.args.dict.tables;
  same = search rules;
  none = search rules;
  later = search rules;
}

pub returns-in_err-found-clause-read : goal.returns-in_err-found-clause-read
returns-in_err-found-clause-read g c =
    let p = err_from_is_err_and c.from_residual-in_err-found.result c.from_residual-in_err-found.ensures.1 in
    rw (p.1, p.2) (none_bad (g.K.Keeper.holds c.args.keeper.now) (g.K.Keeper.holds c.loop.keeper) 5 c.loop.last
    c.in_err-found.field-0.0 (λ s f. IsBadKey f (rows_in c.args.dict.tables s)) (λ s. tt) (λ s. tt)
    c.loop.invariant.same c.in_err-found.ensures.next)

pub returns-in_default-clause-read : goal.returns-in_default-clause-read
returns-in_default-clause-read g c =
    told_through (g.K.Keeper.holds c.args.keeper.now) 5 row_step (empty_tables c.args.dict.tables) c.loop.tables.tables
    c.loop.last
    c.loop.invariant.told
    (told_next (g.K.Keeper.holds c.args.keeper.now) (g.K.Keeper.holds c.loop.keeper) 5 c.loop.last c.in_ok-found.found None
    c.loop.invariant.same c.in_default.is c.in_ok-found.ensures.next)

-- of the tables that are read, in words of the steps of the loop's body
pub put_row-requires : goal.put_row-requires
put_row-requires g c =
    let ts = c.loop.tables.tables in
    let write = sym (rw c.in-Some-taken.is at c.in_ok-taken.ensures) in
    let rise : ids_rise 0 (definitions_of ts) ≡ true =
    ap (ids_rise 0) c.dict.ensures.defined ∙ c.tables-dict.ensures.rise in
    let leaves = write_leaves ts c.in-Some.pair.key c.in-Some.pair.value c.in-Some-taken.write
    c.hold_bytes.ensures c.hold_bytes-in-loop.ensures write rise
    c.loop.invariant.rows.sound c.loop.invariant.rows.values in
    record {
      sound = c.loop.invariant.rows.sound;
      sound_then = leaves.sound;
      of_tables = leaves.of_tables;
      few = omega (arith, leaves.few, write_has_room ts c.in-Some.pair.key c.in-Some.pair.value c.in-Some-taken.write write);
    }

pub returns-in_default-taken-clause-read : goal.returns-in_default-taken-clause-read
returns-in_default-taken-clause-read g c =
    let ts = c.loop.tables.tables in
    let rise : ids_rise 0 (definitions_of ts) ≡ true =
    ap (ids_rise 0) c.dict.ensures.defined ∙ c.tables-dict.ensures.rise in
    let each = subst (λ (us : List TableRow). AllByRecursion IsTable us) (sym c.loop.invariant.defined) c.requires.tables in
    told_bad (g.K.Keeper.holds c.args.keeper.now) 5 row_step (empty_tables c.args.dict.tables) ts c.loop.last c.in-Some.pair
    c.loop.invariant.told
    (told_next (g.K.Keeper.holds c.args.keeper.now) (g.K.Keeper.holds c.loop.keeper) 5 c.loop.last c.in_ok-found.found
    (Some c.in-Some.pair) c.loop.invariant.same c.in-Some.is c.in_ok-found.ensures.next)
    (row_refused ts c.in-Some.pair.key c.in-Some.pair.value each rise (sym (rw c.in_default-taken.is at c.in_ok-taken.ensures)))

pub loop-preserved : goal.loop-preserved
loop-preserved g c =
    let ts = c.loop.tables.tables in
    let write = sym (rw c.in-Some-taken.is at c.in_ok-taken.ensures) in
    let rise : ids_rise 0 (definitions_of ts) ≡ true =
    ap (ids_rise 0) c.dict.ensures.defined ∙ c.tables-dict.ensures.rise in
    let each = subst (λ (us : List TableRow). AllByRecursion IsTable us) (sym c.loop.invariant.defined) c.requires.tables in
    let leaves = write_leaves ts c.in-Some.pair.key c.in-Some.pair.value c.in-Some-taken.write
    c.hold_bytes.ensures c.hold_bytes-in-loop.ensures write rise
    c.loop.invariant.rows.sound c.loop.invariant.rows.values in
    record {
      told = told_on (g.K.Keeper.holds c.args.keeper.now) 5 row_step (empty_tables c.args.dict.tables) ts
          c.in_ok-tables-2.tables.tables c.loop.last c.in-Some.pair c.loop.invariant.told
          (told_next (g.K.Keeper.holds c.args.keeper.now) (g.K.Keeper.holds c.loop.keeper) 5 c.loop.last c.in_ok-found.found
          (Some c.in-Some.pair) c.loop.invariant.same c.in-Some.is c.in_ok-found.ensures.next)
          (row_taken ts c.in-Some.pair.key c.in-Some.pair.value c.in-Some-taken.write c.in_ok-tables-2.tables.tables each rise
          write
          c.in_ok-tables-2.ensures.written);
      rows = one_row_more ts c.in-Some-taken.write c.in_ok-tables-2.tables leaves c.in_ok-tables-2.ensures.written;
      dictionary = c.in_ok-tables-2.ensures.dictionary ∙ c.loop.invariant.dictionary;
      defined = ap definitions_of c.in_ok-tables-2.ensures.written ∙ same-definitions (c.in-Some-taken.write ∷ []) ts ∙
          c.loop.invariant.defined;
      same = c.in_ok-found.ensures.same ∙ c.loop.invariant.same;
      none = search rules;
      later = search rules;
    }
