use Rattle.std.proofs.Common.{◌≡◌, ◌+◌, List, ℕ, ◌∷◌, drop, is_some, arith, refl, sym, ap, ◌∙◌}
use Rattle.std.proofs.lemmas.List.{drop_more}
use Rattle.std.specs.List.{enumerate_from}
use Rattle.redo_spec.specs.Effect.{taken_at, taken_by}
use Rattle.redo_spec.specs.Tables.{values_at}
use Rattle.redo_spec.specs.Work.{rows_of}
use Rattle.row_apply.proofs.Seeing.{unique_found}
use Rattle.checkpoint.proofs.TakenLaws.{taken_on, taken_here}
use Rattle.checkpoint.proofs.rows.is_taken.Goals as goal

pub loop-columns-init : goal.loop-columns-init
loop-columns-init c =
    let t = c.args.table.now in
    let rows = rows_of c.args.tables.now.tables t.id in
    record {
      rest = ap (λ (keys : List (List ℕ)). is_some (taken_by t rows c.args.row.now (enumerate_from 1 keys)))
          (sym c.unique_keys-keys.ensures.same);
      number = refl;
    }

pub is_taken_at-requires-clause-columns : goal.is_taken_at-requires-clause-columns
is_taken_at-requires-clause-columns c =
    unique_found c.args.table.now.keys c.unique_keys-keys.result.now c.loop-columns.index c.loop-columns.columns-index
    c.columns-item.result c.unique_keys-keys.ensures.same c.loop-columns.invariant.number c.loop-columns-test.true
    c.columns-item.is

pub returns-then-branch : goal.returns-then-branch
returns-then-branch c =
    let t = c.args.table.now in
    let rows = rows_of c.args.tables.now.tables t.id in
    let keys = c.unique_keys-keys.result.now in
    let i = c.loop-columns.columns-index in
    let index = c.loop-columns.index in
    let row = c.args.row.now in
    let next : drop i keys ≡ c.columns-item.result ∷ drop (i + 1) keys =
    drop_more keys i c.columns-item.result c.loop-columns-test.true ∙
    ap (λ (columns : List ℕ). columns ∷ drop (i + 1) keys) (sym c.columns-item.is) in
    sym (c.loop-columns.invariant.rest
    ∙ ap (λ (ks : List (List ℕ)). is_some (taken_by t rows row (enumerate_from index ks))) next
    ∙ taken_here (taken_at t rows index c.columns-item.result (values_at row c.columns-item.result))
    (taken_by t rows row (enumerate_from (index + 1) (drop (i + 1) keys)))
    (sym c.in_ok-is_taken_at.ensures ∙ c.if-branch.true))

pub loop-columns-preserved : goal.loop-columns-preserved
loop-columns-preserved c =
    let t = c.args.table.now in
    let rows = rows_of c.args.tables.now.tables t.id in
    let keys = c.unique_keys-keys.result.now in
    let i = c.loop-columns.columns-index in
    let index = c.loop-columns.index in
    let row = c.args.row.now in
    let number = c.loop-columns.invariant.number in
    let next : drop i keys ≡ c.columns-item.result ∷ drop (i + 1) keys =
    drop_more keys i c.columns-item.result c.loop-columns-test.true ∙
    ap (λ (columns : List ℕ). columns ∷ drop (i + 1) keys) (sym c.columns-item.is) in
    record {
      rest = c.loop-columns.invariant.rest
          ∙ ap (λ (ks : List (List ℕ)). is_some (taken_by t rows row (enumerate_from index ks))) next
          ∙ taken_on (taken_at t rows index c.columns-item.result (values_at row c.columns-item.result))
          (taken_by t rows row (enumerate_from (index + 1) (drop (i + 1) keys)))
          (sym c.in_ok-is_taken_at.ensures ∙ c.if-branch.false);
      number = omega (arith, number);
    }
