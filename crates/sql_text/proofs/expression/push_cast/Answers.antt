use Rattle.std.proofs.Common.{◌++◌, codes}
use Rattle.sql_text.specs.SqlText.{hex_to_raw}
use Rattle.sql_text.proofs.Appending.{appended, appended_on_ok}
use Rattle.sql_text.proofs.expression.push_cast.Goals as goal

pub returns : goal.returns
returns c =
    let call = codes "UTL_RAW.CAST_TO_VARCHAR2(" in
    let raw = hex_to_raw c.args.bytes.now in
    appended_on_ok c.push_bytes-2.result c.args.out.now.items c.push_raw.new.out.items c.push_bytes-2.new.out.items
    (call ++ raw) (codes ")")
    (appended c.args.out.now.items c.push_bytes.new.out.items c.push_raw.new.out.items call raw c.in_ok-push_bytes.ensures
    c.in_ok-push_raw.ensures)
    c.push_bytes-2.ensures
