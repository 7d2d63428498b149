use Rattle.std.proofs.Common.{◌≡◌, ◌+◌, ℕ, List, ◌∷◌, drop, arith, refl, sym, ap, subst, ◌∙◌}
use Rattle.std.proofs.lemmas.List.{drop_more}
use Rattle.std.specs.List.{AllByRecursion, enumerate_from}
use Rattle.std.specs.Option.{option_or}
use Rattle.redo_spec.specs.Effect.{taken_by}
use Rattle.row_apply.specs.Adding.{rows_without, values_of, IsFreeAt}
use Rattle.row_apply.specs.Kept.{rows_seen}
use Rattle.row_apply.specs.KeptIn.{slots_of}
use Rattle.row_apply.proofs.Seeing.{unique_found}
use Rattle.row_apply.proofs.other_owners.check_uniques.Goals as goal

pub loop-columns-init : goal.loop-columns-init
loop-columns-init g c =
    let t = c.args.table.now in
    let gone = values_of c.args.gone.now in
    let rows = rows_without gone (rows_seen (g.R.Rows.tables c.args.base.now) (slots_of c.args.over.now) t) in
    let same = c.unique_keys-keys.ensures.same in
    record {
      alone = λ at all. subst (λ (keys : List (List ℕ)). AllByRecursion
          (IsFreeAt (slots_of c.args.over.now) t.id gone c.args.row.now) keys) same all;
      rest = λ ready. ap (λ (keys : List (List ℕ)). taken_by t rows c.args.row.now (enumerate_from 1 keys)) same;
      number = refl;
    }

pub loop-columns-preserved : goal.loop-columns-preserved
loop-columns-preserved g c =
    let t = c.args.table.now in
    let gone = values_of c.args.gone.now in
    let rows = rows_without gone (rows_seen (g.R.Rows.tables c.args.base.now) (slots_of c.args.over.now) t) in
    let keys = c.unique_keys-keys.result.now in
    let i = c.loop-columns.columns-index in
    let index = c.loop-columns.index in
    let number = c.loop-columns.invariant.number in
    let next : drop i keys ≡ c.columns-item.result ∷ drop (i + 1) keys =
    drop_more keys i c.columns-item.result c.loop-columns-test.true ∙
    ap (λ (columns : List ℕ). columns ∷ drop (i + 1) keys) (sym c.columns-item.is) in
    record {
      alone = λ at more. c.loop-columns.invariant.alone at
          (subst (λ (ks : List (List ℕ)). AllByRecursion (IsFreeAt (slots_of c.args.over.now) t.id gone c.args.row.now) ks)
          (sym next) (c.in_ok-check_unique.ensures.alone at, more));
      rest = λ ready.
          sym (ap (λ o. option_or o (taken_by t rows c.args.row.now (enumerate_from (index + 1) (drop (i + 1) keys))))
          (c.in_ok-check_unique.ensures.free ready))
          ∙ ap (λ (ks : List (List ℕ)). taken_by t rows c.args.row.now (enumerate_from index ks)) (sym next)
          ∙ c.loop-columns.invariant.rest ready;
      number = omega (arith, number);
    }

pub check_unique-requires-clause-columns : goal.check_unique-requires-clause-columns
check_unique-requires-clause-columns g c =
    unique_found c.args.table.now.keys c.unique_keys-keys.result.now c.loop-columns.index c.loop-columns.columns-index
    c.columns-item.result c.unique_keys-keys.ensures.same c.loop-columns.invariant.number
    c.loop-columns-test.true c.columns-item.is
