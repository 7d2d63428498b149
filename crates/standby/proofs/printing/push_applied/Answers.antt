use Rattle.std.proofs.Common.{◌∷◌, [], ◌++◌, codes}
use Rattle.std.specs.Fmt.{decimal}
use Rattle.standby.proofs.Appending.{appended, appended_on_ok}
use Rattle.standby.proofs.printing.push_applied.Goals as goal

pub returns : goal.returns
returns c =
    let word = codes "APPLIED_SCN " in
    let number = decimal c.args.scn in
    appended_on_ok c.push_bytes-2.result c.args.out.now.items c.push_decimal.new.out.items c.push_bytes-2.new.out.items
    (word ++ number) (10 ∷ [])
    (appended c.args.out.now.items c.push_bytes.new.out.items c.push_decimal.new.out.items word number c.in_ok-push_bytes.ensures
    c.in_ok-push_decimal.ensures)
    c.push_bytes-2.ensures
