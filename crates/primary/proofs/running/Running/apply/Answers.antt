use Rattle.std.proofs.Common.{◌≡◌, ◌∙◌, sym, ap, not, nat_lt, true, false, cond, List, Ok}
use Rattle.redo_spec.specs.History.{Placed}
use Rattle.redo_spec.specs.Tables.{assembled, row_count}
use Rattle.redo_spec.specs.Fold.{live_row_limit, effects}
use Rattle.row_apply.specs.Overlaid.{overlaid}
use Rattle.primary.specs.Progress.{kept_of}
use Rattle.primary.specs.Running.{fold_state_of}
use Rattle.primary.proofs.ApplyLaws.{shown_whole, none_wait, tells, misses, over_limit, goes_on, not_below}
use Rattle.primary.proofs.running.Running.apply.Goals as goal

pub returns-in-Err-Missed-clause-taken : goal.returns-in-Err-Missed-clause-taken
returns-in-Err-Missed-clause-taken c =
    let r = c.args.self.now in
    let ts = r.law.dictionary.tables in
    let cs : c.as_slice.result.now ≡ c.args.changes = c.as_slice.ensures.value ∙ c.into_items-changes.ensures.same in
    let told = tells (effects (assembled ts r.tables) (kept_of c.args.skips.now ts r.n c.as_slice.result.now))
    c.in-Err-Missed.field-0 c.in-Err-Missed.pos c.in-Err-Missed.table c.in-Err-Missed.miss c.in-Err-Missed.field-0-is
    c.in-Err-Missed.ensures.missed in
    misses c.args.skips.now c.args.scn c.args.changes (fold_state_of r) ts r.tables
    (record { pos = c.in-Err-Missed.pos; table = c.in-Err-Missed.table; miss = c.in-Err-Missed.miss })
    (shown_whole r.whole ts r.tables c.requires.whole) (not_below c.args.self.now.made c.args.self.now.n c.if-self.false)
    (ap (λ (ps : List Placed). effects (assembled ts r.tables) (kept_of c.args.skips.now ts r.n ps)) (sym cs) ∙ told)

pub returns-then-not-branch-clause-taken : goal.returns-then-not-branch-clause-taken
returns-then-not-branch-clause-taken c =
    let r = c.args.self.now in
    let ts = r.law.dictionary.tables in
    let ws = c.in-Ok.writes in
    let cs : c.as_slice.result.now ≡ c.args.changes = c.as_slice.ensures.value ∙ c.into_items-changes.ensures.same in
    let d : c.dict.result.now ≡ r.law.dictionary = c.dict.ensures.same in
    let told : c.in_ok-put_in.field-0 ≡ not (nat_lt live_row_limit
    (row_count (overlaid (assembled c.dict.result.now.tables r.tables) ws))) = c.in_ok-put_in.ensures.few in
    let many : not (nat_lt live_row_limit (row_count (overlaid (assembled ts r.tables) ws))) ≡ false =
    sym (told ∙ ap (λ e. not (nat_lt live_row_limit (row_count (overlaid (assembled e.tables r.tables) ws)))) d) ∙
    c.if-not-branch.true in
    let wrote : assembled c.dict.result.now.tables c.put_in.new.tables ≡
    cond c.in_ok-put_in.field-0 (overlaid (assembled c.dict.result.now.tables r.tables) ws)
    (assembled c.dict.result.now.tables r.tables) = c.in_ok-put_in.ensures.written in
    let left : assembled ts c.put_in.new.tables ≡ assembled ts r.tables =
    ap (λ e. assembled e.tables c.put_in.new.tables) (sym d) ∙ wrote
    ∙ ap (λ b. cond b (overlaid (assembled c.dict.result.now.tables r.tables) ws) (assembled c.dict.result.now.tables r.tables))
    c.if-not-branch.true
    ∙ ap (λ e. assembled e.tables r.tables) d in
    let done : effects (assembled ts r.tables) (kept_of c.args.skips.now ts r.n c.as_slice.result.now) ≡
    Ok (overlaid (assembled ts r.tables) ws) = c.in-Ok.ensures.done in
    over_limit c.args.skips.now c.args.scn c.args.changes (fold_state_of r) ts r.tables ws _
    (shown_whole r.whole ts r.tables c.requires.whole) (not_below c.args.self.now.made c.args.self.now.n c.if-self.false)
    (ap (λ (ps : List Placed). effects (assembled ts r.tables) (kept_of c.args.skips.now ts r.n ps)) (sym cs) ∙ done)
    many (shown_whole r.whole ts c.put_in.new.tables c.requires.whole ∙ left)

pub returns-clause-taken : goal.returns-clause-taken
returns-clause-taken c =
    let r = c.args.self.now in
    let ts = r.law.dictionary.tables in
    let ws = c.in-Ok.writes in
    let cs : c.as_slice.result.now ≡ c.args.changes = c.as_slice.ensures.value ∙ c.into_items-changes.ensures.same in
    let d : c.dict.result.now ≡ r.law.dictionary = c.dict.ensures.same in
    let told : c.in_ok-put_in.field-0 ≡ not (nat_lt live_row_limit
    (row_count (overlaid (assembled c.dict.result.now.tables r.tables) ws))) = c.in_ok-put_in.ensures.few in
    let few : not (nat_lt live_row_limit (row_count (overlaid (assembled ts r.tables) ws))) ≡ true =
    sym (told ∙ ap (λ e. not (nat_lt live_row_limit (row_count (overlaid (assembled e.tables r.tables) ws)))) d) ∙
    c.if-not-branch.false in
    let wrote : assembled c.dict.result.now.tables c.put_in.new.tables ≡
    cond c.in_ok-put_in.field-0 (overlaid (assembled c.dict.result.now.tables r.tables) ws)
    (assembled c.dict.result.now.tables r.tables) = c.in_ok-put_in.ensures.written in
    let left : assembled ts c.put_in.new.tables ≡ overlaid (assembled ts r.tables) ws =
    ap (λ e. assembled e.tables c.put_in.new.tables) (sym d) ∙ wrote
    ∙ ap (λ b. cond b (overlaid (assembled c.dict.result.now.tables r.tables) ws) (assembled c.dict.result.now.tables r.tables))
    c.if-not-branch.false
    ∙ ap (λ e. overlaid (assembled e.tables r.tables) ws) d in
    let done : effects (assembled ts r.tables) (kept_of c.args.skips.now ts r.n c.as_slice.result.now) ≡
    Ok (overlaid (assembled ts r.tables) ws) = c.in-Ok.ensures.done in
    goes_on c.args.skips.now c.args.scn c.args.changes (fold_state_of r) ts r.tables ws _ _ c.in-Some.made c.in-Some-checked_add.n
    (shown_whole r.whole ts r.tables c.requires.whole) (not_below c.args.self.now.made c.args.self.now.n c.if-self.false)
    (ap (λ (ps : List Placed). effects (assembled ts r.tables) (kept_of c.args.skips.now ts r.n ps)) (sym cs) ∙ done)
    few (shown_whole r.whole ts c.put_in.new.tables c.requires.whole ∙ left) (c.in-Some.ensures).1
    (c.in-Some-checked_add.ensures).1 (none_wait r.whole r.tables c.put_in.new.tables c.requires.whole)
