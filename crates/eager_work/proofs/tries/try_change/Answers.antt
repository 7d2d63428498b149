use Rattle.std.proofs.Common.{List, [], ◌∷◌, ◌++◌, refl, sym, ap, subst, ◌∙◌}
use Rattle.rl_value.specs.Order.{key_set}
use Rattle.redo_spec.specs.ConflictKeys.{conflict_keys}
use Rattle.row_apply.specs.declared.writes.Write.{Write}
use Rattle.row_apply.specs.Overlaid.{overlaid}
use Rattle.row_apply.specs.Soundness.{AreSound}
use Rattle.lcr.specs.Chunks.{placed}
use Rattle.eager_work.specs.Attempts.{Tried, Wrote, writes, attempt_of}
use Rattle.eager_work.specs.Trying.{found_all, attempts_with}
use Rattle.eager_work.proofs.Trying.{on_ok, on_both, change_over, change_came, marks_more, missed_same}
use Rattle.eager_work.proofs.tries.try_change.Goals as goal

pub returns-in-Ok-clause-over : goal.returns-in-Ok-clause-over
returns-in-Ok-clause-over g c before is =
    let rows = c.args.dict.now.tables in
    let change = c.args.lcr.now.change in
    let keys = key_set (conflict_keys rows change) in
    let x = attempt_of c.args.n (placed c.args.lcr.now) (Wrote (found_all c.effect.new.over keys)) in
    on_both c.note.result
    (λ done same. c.note.ensures.over
    ∙ change_over c.equal_in_order_is_equal.ensures.keys c.later_writes_are_put_in.ensures.same
    (attempts_with before c.args.tries.now) x c.effect.new.over c.args.tries.now.over
    (overlaid (g.R.Rows.tables c.args.base.now) c.effect.new.over) (conflict_keys rows change) keys c.effect.ensures.rising same
    c.in-Ok.ensures.only c.in-Ok.ensures.written is refl
    ∙ ap writes (sym done))
    (c.note.ensures.done before) c.note.ensures.keys

pub returns-in-Ok-clause-tried : goal.returns-in-Ok-clause-tried
returns-in-Ok-clause-tried g c before is sound sound_over =
    let xs = attempts_with before c.args.tries.now in
    on_both c.note.result
    (λ done same. done
    ∙ ap (λ (t : Tried). xs ++ attempt_of c.args.n (placed c.args.lcr.now) t ∷ [])
    (change_came c.equal_in_order_is_equal.ensures.keys c.args.dict.now.tables c.args.lcr.now.change
    (g.R.Rows.tables c.args.base.now) c.effect.new.over c.args.tries.now.over xs same c.in-Ok.ensures.written is
    (c.in-Ok.ensures.done sound sound_over)))
    (c.note.ensures.done before) c.note.ensures.keys

pub returns-in-Ok-clause-sound : goal.returns-in-Ok-clause-sound
returns-in-Ok-clause-sound g c sound sound_over =
    subst (λ (ws : List Write). AreSound (overlaid (g.R.Rows.tables c.args.base.now) ws)) (sym c.note.ensures.over)
    (c.effect.ensures.sound sound sound_over)

pub returns-in-Ok-clause-marked : goal.returns-in-Ok-clause-marked
returns-in-Ok-clause-marked g c before =
    let keys = key_set (conflict_keys c.args.dict.now.tables c.args.lcr.now.change) in
    on_ok c.note.result
    (marks_more (attempts_with before c.args.tries.now) (attempts_with before c.note.new.tries) c.args.n (placed c.args.lcr.now)
    (Wrote (found_all c.effect.new.over keys)))
    (c.note.ensures.done before)

pub returns-in-Err-Miss-clause-over : goal.returns-in-Err-Miss-clause-over
returns-in-Err-Miss-clause-over g c before is =
    c.note_miss.ensures.over
    ∙ c.in-Err-Miss.ensures.unchanged
    ∙ is
    ∙ missed_same (attempts_with before c.args.tries.now) (attempts_with before c.note_miss.new.tries) c.args.n
    (placed c.args.lcr.now) _ (c.note_miss.ensures.missed before)
