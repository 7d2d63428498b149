use Rattle.std.proofs.Common.{◌≤◌, length, arith}
use Rattle.redo_vec.proofs.TableLaws.{key_few}
use Rattle.redo_vec.proofs.encoding_tables.put_key.Goals as goal

pub put_short-requires : goal.put_short-requires
put_short-requires c =
    let few : length c.args.columns.now ≤ 32 = (key_few c.args.columns.now c.items.ensures.form).1 in
    record { short = rw c.items.ensures.same (omega arith) }
