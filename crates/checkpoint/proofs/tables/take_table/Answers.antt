use Rattle.std.proofs.Common.{sym, ap}
use Rattle.redo_spec.specs.Dictionary.{Dictionary}
use Rattle.checkpoint.proofs.DictLaws.{no_table, bad_table, table_taken}
use Rattle.checkpoint.proofs.tables.take_table.Goals as goal

pub returns-in-None-clause-refused : goal.returns-in-None-clause-refused
returns-in-None-clause-refused c = λ is.
    no_table c.args.key.now c.args.value.now c.args.dict.now.tables
    (sym (rw (c.bytes.ensures.same, c.bytes-2.ensures.same, c.in-None.is) at c.in_ok-found.ensures.exact))

pub returns-in-Some-clause-taken : goal.returns-in-Some-clause-taken
returns-in-Some-clause-taken c = λ is.
    (table_taken c.args.last.now c.args.key.now c.args.value.now c.in-Some.table c.args.dict.now.tables
    c.add_table.new.dict.tables c.hold_bytes.ensures c.hold_bytes-2.ensures
    (rw (c.bytes.ensures.same, c.bytes-2.ensures.same, c.in-Some.is) at c.in_ok-found.ensures.exact) c.requires.read
    c.requires.above (c.add_table.ensures.taken is) (ap (λ (d : Dictionary). d.tables) (c.add_table.ensures.added is))).0

pub returns-in-Some-clause-refused : goal.returns-in-Some-clause-refused
returns-in-Some-clause-refused c = λ is.
    bad_table c.args.key.now c.args.value.now c.in-Some.table c.args.dict.now.tables
    (sym (rw (c.bytes.ensures.same, c.bytes-2.ensures.same, c.in-Some.is) at c.in_ok-found.ensures.exact))
    (c.add_table.ensures.refused is)

pub returns-in-Some-clause-read : goal.returns-in-Some-clause-read
returns-in-Some-clause-read c = λ is.
    (table_taken c.args.last.now c.args.key.now c.args.value.now c.in-Some.table c.args.dict.now.tables
    c.add_table.new.dict.tables c.hold_bytes.ensures c.hold_bytes-2.ensures
    (rw (c.bytes.ensures.same, c.bytes-2.ensures.same, c.in-Some.is) at c.in_ok-found.ensures.exact) c.requires.read
    c.requires.above (c.add_table.ensures.taken is) (ap (λ (d : Dictionary). d.tables) (c.add_table.ensures.added is))).1
