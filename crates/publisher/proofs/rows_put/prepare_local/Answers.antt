use Rattle.std.proofs.Common.{◌≡◌, ◌∷◌, [], true, sym, subst}
use Rattle.row_apply.specs.declared.writes.Write.{Write}
use Rattle.standby_spec.specs.Writable.{rows_fit}
use Rattle.publisher.proofs.RowsReady.{one-fits}
use Rattle.publisher.proofs.rows_put.prepare_local.Goals as goal

pub prepare_put-requires-clause-fits : goal.prepare_put-requires-clause-fits
prepare_put-requires-clause-fits c =
    subst (λ (w : Write). rows_fit c.args.image.now.tables.tables (w ∷ []) ≡ true) (sym c.in-Ok.ensures.write)
    (one-fits c.args.image.now.tables.tables c.args.id c.args.row c.requires.fits)
