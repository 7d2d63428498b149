use Rattle.std.proofs.Common.{arith}
use Rattle.redo_vec.proofs.Forming.{key_form, keys_listed}
use Rattle.redo_vec.proofs.reading_tables.keys_of.Goals as goal

pub of-requires : goal.of-requires
of-requires c =
    let primary = key_form c.args.size c.args.bytes.now (c.in_ok-primary.primary, c.in_ok-primary.behind.now)
    c.in_ok-primary.ensures in
    record {
      form = keys_listed c.args.size c.in_ok-count.count c.in_ok-primary.primary c.in_ok-count.rest.now _ primary
          (omega arith) c.in_ok-keys.ensures;
    }
