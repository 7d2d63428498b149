use Rattle.std.proofs.Common.{◌≡◌, ◌-◌, ◌+◌, length, sym, arith}
use Rattle.std.proofs.lemmas.Bool.{eq-eqb, ne_eqb}
use Rattle.script.proofs.LineLaws.{last_is, last_is_not}
use Rattle.script.proofs.lines.without_last.Goals as goal

pub returns-then-last-mark : goal.returns-then-last-mark
returns-then-last-mark c =
    let size : length c.args.bytes.now ≡ (length c.args.bytes.now - 1) + 1 = omega (arith, c.in-len1-up.len_at_least) in
    sym (last_is_not c.args.mark (length c.args.bytes.now - 1) c.args.bytes.now 0 size (ne_eqb _ _ c.if-last-mark.true))

pub returns-else-last-mark : goal.returns-else-last-mark
returns-else-last-mark c =
    let size : length c.args.bytes.now ≡ (length c.args.bytes.now - 1) + 1 = omega (arith, c.in-len1-up.len_at_least) in
    sym (last_is c.args.mark (length c.args.bytes.now - 1) c.args.bytes.now 0 size (eq-eqb _ _ c.if-last-mark.false))
