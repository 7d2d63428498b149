use Rattle.std.proofs.Common.{sym, ◌∙◌}
use Rattle.row_apply.proofs.Keeping.{on_ok, set-puts}
use Rattle.row_apply.proofs.written.Written.replace.Goals as goal

pub returns-then-eq-clause-put : goal.returns-then-eq-clause-put
returns-then-eq-clause-put c =
    on_ok c.set.result (set-puts c.args.self.now.rows.entries c.set.new.self.rows.entries c.args.gone c.args.key c.args.row
    (sym c.eq.ensures ∙ c.if-eq.true)) c.set.ensures.set
