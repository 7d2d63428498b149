use Rattle.redo_vec.proofs.RecordLaws.{cut_of, counted, vectors_many}
use Rattle.redo_vec.proofs.decoding.decoded.Goals as goal

pub of-requires-clause-some : goal.of-requires-clause-some
of-requires-clause-some c =
    let limits = counted _ c.args.bytes.now (c.in_ok-rest.field-0-0, c.in_ok-rest.rest.now)
    (c.in_ok-scn.scn, c.in_ok-scn.rest.now) (c.in_ok-count.count, c.in_ok-count.rest.now) (cut_of c.args.bytes.now c.requires)
    c.in_ok-rest.ensures.read c.in_ok-scn.ensures.read c.in_ok-count.ensures.read in
    rw (vectors_many _ c.in_ok-count.count c.in_ok-count.rest.now (c.in_ok-vectors.vectors.items, c.in_ok-vectors.rest.now)
    c.in_ok-vectors.ensures) limits.0

pub of-requires-clause-most : goal.of-requires-clause-most
of-requires-clause-most c =
    let limits = counted _ c.args.bytes.now (c.in_ok-rest.field-0-0, c.in_ok-rest.rest.now)
    (c.in_ok-scn.scn, c.in_ok-scn.rest.now) (c.in_ok-count.count, c.in_ok-count.rest.now) (cut_of c.args.bytes.now c.requires)
    c.in_ok-rest.ensures.read c.in_ok-scn.ensures.read c.in_ok-count.ensures.read in
    rw (vectors_many _ c.in_ok-count.count c.in_ok-count.rest.now (c.in_ok-vectors.vectors.items, c.in_ok-vectors.rest.now)
    c.in_ok-vectors.ensures) limits.1
