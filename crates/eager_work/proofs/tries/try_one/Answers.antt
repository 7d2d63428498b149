use Rattle.std.proofs.Common.{[], ◌∷◌, ◌++◌, refl, sym, ap, ◌∙◌}
use Rattle.lcr.specs.Chunks.{placed}
use Rattle.eager_work.specs.Attempts.{Tried, Passed, Waits, writes, tried, attempt_of}
use Rattle.eager_work.specs.Trying.{attempts_with}
use Rattle.eager_work.proofs.Trying.{on_ok, marks_more, over_same, waits_so, passed_so, tried_so, none_is}
use Rattle.eager_work.proofs.tries.try_one.Goals as goal

pub returns-then-is_some-clause-over : goal.returns-then-is_some-clause-over
returns-then-is_some-clause-over g c before is =
    on_ok c.wait.result
    (λ done. c.wait.ensures.over ∙ is
    ∙ over_same (attempts_with before c.args.tries.now) (attempt_of c.args.n (placed c.args.lcr.now) Waits) refl
    ∙ ap writes (sym done))
    (c.wait.ensures.waits before)

pub returns-then-is_some-clause-tried : goal.returns-then-is_some-clause-tried
returns-then-is_some-clause-tried g c before is sound sound_over =
    let t = c.args.tries.now in
    let xs = attempts_with before t in
    on_ok c.wait.result
    (λ done. done
    ∙ ap (λ (t : Tried). xs ++ attempt_of c.args.n (placed c.args.lcr.now) t ∷ [])
    (waits_so (before ++ t.done.items) t.conflict t.waiting.items (sym c.is_some.ensures ∙ c.if-is_some.true)
    (tried c.args.dict.now.tables c.args.skips.now c.args.n (g.R.Rows.tables c.args.base.now) (writes xs)
    (placed c.args.lcr.now))))
    (c.wait.ensures.waits before)

pub returns-then-is_some-clause-marked : goal.returns-then-is_some-clause-marked
returns-then-is_some-clause-marked g c before =
    on_ok c.wait.result
    (marks_more (attempts_with before c.args.tries.now) (attempts_with before c.wait.new.tries) c.args.n
    (placed c.args.lcr.now) Waits)
    (c.wait.ensures.waits before)

pub returns-then-is_passed-clause-over : goal.returns-then-is_passed-clause-over
returns-then-is_passed-clause-over g c before is =
    on_ok c.push_did.result
    (λ done. c.push_did.ensures.over ∙ is
    ∙ over_same (attempts_with before c.args.tries.now) (attempt_of c.args.n (placed c.args.lcr.now) Passed) refl
    ∙ ap writes (sym done))
    (c.push_did.ensures.done before)

pub returns-then-is_passed-clause-tried : goal.returns-then-is_passed-clause-tried
returns-then-is_passed-clause-tried g c before is sound sound_over =
    let t = c.args.tries.now in
    let xs = attempts_with before t in
    let free = sym c.is_some.ensures ∙ c.if-is_some.false in
    on_ok c.push_did.result
    (λ done. done
    ∙ ap (λ (t : Tried). xs ++ attempt_of c.args.n (placed c.args.lcr.now) t ∷ [])
    (passed_so (before ++ t.done.items) t.conflict t.waiting.items free (c.requires.free (none_is t.conflict free))
    c.args.dict.now.tables c.args.skips.now c.args.n (g.R.Rows.tables c.args.base.now) (placed c.args.lcr.now)
    (sym c.is_passed.ensures ∙ c.if-is_passed.true)))
    (c.push_did.ensures.done before)

pub returns-then-is_passed-clause-marked : goal.returns-then-is_passed-clause-marked
returns-then-is_passed-clause-marked g c before =
    on_ok c.push_did.result
    (marks_more (attempts_with before c.args.tries.now) (attempts_with before c.push_did.new.tries) c.args.n
    (placed c.args.lcr.now)
    Passed)
    (c.push_did.ensures.done before)

pub returns-clause-tried : goal.returns-clause-tried
returns-clause-tried g c before is sound sound_over =
    let t = c.args.tries.now in
    let xs = attempts_with before t in
    let free = sym c.is_some.ensures ∙ c.if-is_some.false in
    on_ok c.try_change.result
    (λ done. done
    ∙ ap (λ (t : Tried). xs ++ attempt_of c.args.n (placed c.args.lcr.now) t ∷ [])
    (tried_so (before ++ t.done.items) t.conflict t.waiting.items free (c.requires.free (none_is t.conflict free))
    c.args.dict.now.tables c.args.skips.now c.args.n (g.R.Rows.tables c.args.base.now) (placed c.args.lcr.now)
    (sym c.is_passed.ensures ∙ c.if-is_passed.false)))
    (c.try_change.ensures.tried before is sound sound_over)
