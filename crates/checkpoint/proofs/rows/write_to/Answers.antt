use Rattle.std.proofs.Common.{◌≡◌, ◌∙◌, sym, ap, Some}
use Rattle.redo_spec.specs.Dictionary.{table_of}
use Rattle.redo_spec.specs.Tables.{definitions_of}
use Rattle.row_apply.proofs.Effects.{named_id}
use Rattle.checkpoint.proofs.WriteLaws.{write_refused, write_made, write_missing}
use Rattle.checkpoint.proofs.rows.write_to.Goals as goal

pub returns-in-None : goal.returns-in-None
returns-in-None c =
    let ts = c.args.tables.now.tables in
    write_missing ts (table_of (definitions_of ts) c.args.id) c.args.id c.args.key c.args.row
    (ap (λ ds. table_of ds c.args.id) c.dict.ensures.defined ∙ sym c.in-None.ensures.found)

pub may_come-requires-clause-there : goal.may_come-requires-clause-there
may_come-requires-clause-there c =
    let ts = c.args.tables.now.tables in
    let t = c.in-Some.table.now in
    let found : table_of (definitions_of ts) c.args.id ≡ Some t =
    ap (λ ds. table_of ds c.args.id) c.dict.ensures.defined ∙ sym c.in-Some.ensures.found in
    ap (table_of (definitions_of ts)) (named_id (definitions_of ts) c.args.id t found) ∙ found

pub returns-then-not-branch : goal.returns-then-not-branch
returns-then-not-branch c =
    let ts = c.args.tables.now.tables in
    let t = c.in-Some.table.now in
    let found : table_of (definitions_of ts) c.args.id ≡ Some t =
    ap (λ ds. table_of ds c.args.id) c.dict.ensures.defined ∙ sym c.in-Some.ensures.found in
    write_refused ts (table_of (definitions_of ts) c.args.id) t c.args.id c.args.key c.args.row found
    (named_id (definitions_of ts) c.args.id t found) (sym c.in_ok-may_come-in-Some.ensures ∙ c.if-not-branch.true)

pub returns-else-not-branch : goal.returns-else-not-branch
returns-else-not-branch c =
    let ts = c.args.tables.now.tables in
    let t = c.in-Some.table.now in
    let found : table_of (definitions_of ts) c.args.id ≡ Some t =
    ap (λ ds. table_of ds c.args.id) c.dict.ensures.defined ∙ sym c.in-Some.ensures.found in
    write_made ts (table_of (definitions_of ts) c.args.id) t c.args.id c.args.key c.args.row found
    (named_id (definitions_of ts) c.args.id t found) (sym c.in_ok-may_come-in-Some.ensures ∙ c.if-not-branch.false)
