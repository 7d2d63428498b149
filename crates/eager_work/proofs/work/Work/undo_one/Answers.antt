use Rattle.std.proofs.Common.{◌-◌, sym, ap, ◌∙◌, is_some}
use Rattle.eager_work.specs.Attempts.{attempts_undone}
use Rattle.eager_work.specs.Keeping.{attempts_kept}
use Rattle.eager_work.proofs.Undoing.{none_waits, undone_done}
use Rattle.eager_work.proofs.work.Work.undo_one.Goals as goal

pub returns : goal.returns
returns c =
    let w = c.self.inside in
    let left = c.pop.new.self.items in
    let none = none_waits _ c.pop.result w.waiting.items left _ _ c.pop.ensures.cases c.pop.ensures.rest c.pop.ensures.items
    (sym c.is_some.ensures ∙ c.if-is_some.false) in
    record {
      undone = ap (λ k. attempts_kept w.parts.items k c.take.new.self left) c.saturating_sub-self-inside.ensures
          ∙ ap (λ o. attempts_kept w.parts.items (w.standing - 1) o left) c.take.ensures.after
          ∙ undone_done w.parts.items w.standing w.conflict w.waiting.items left c.self.invariant.0
          (ap is_some (sym c.take.ensures.value) ∙ sym c.is_some-2.ensures ∙ c.if-is_some-2.false) none.0 none.1
          ∙ ap attempts_undone c.self.view_is;
    }
