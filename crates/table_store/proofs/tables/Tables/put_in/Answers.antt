use Rattle.std.proofs.Common.{◌≡◌, ◌≤◌, sym, ap, subst, ◌∙◌, ℕ}
use Rattle.std.specs.Arc.{arc_value}
use Rattle.redo_spec.specs.Fold.{live_row_limit}
use Rattle.redo_spec.specs.Tables.{definitions_of, row_count}
use Rattle.row_apply.specs.Overlaid.{overlaid}
use Rattle.table_store.specs.Shared.{tables_in}
use Rattle.table_store.specs.Stored.{TableSet}
use Rattle.table_store.proofs.Overlaying.{overlaid_definitions}
use Rattle.table_store.proofs.tables.Tables.put_in.Goals as goal

pub invariant_of-result : goal.invariant_of-result
invariant_of-result c =
    let before = tables_in (arc_value c.self.inside.tables).items in
    let seen : before ≡ c.args.self.tables = ap (λ (s : TableSet). s.tables) c.self.view_is in
    let count : c.in_ok-tables.count ≡ row_count (overlaid c.args.self.tables c.args.writes.now) =
    c.in_ok-tables.ensures.counted ∙ ap row_count (c.in_ok-tables.ensures.written ∙
    (λ i. overlaid (seen i) (c.items.ensures.same i))) in (
      ap definitions_of c.in_ok-tables.ensures.written ∙ overlaid_definitions before c.items.result.now ∙ c.self.invariant.0,
      c.in_ok-tables.ensures.counted,
      subst (λ (n : ℕ). n ≤ live_row_limit) (sym count) c.requires.few,
    )
