use Rattle.std.proofs.Common.{sym}
use Rattle.kept_layout.specs.Pairs.{identity_of}
use Rattle.checkpoint.proofs.LogLaws.{no_log, log_taken, log_refused}
use Rattle.checkpoint.proofs.logs.take_log.Goals as goal

pub returns-in-None-clause-refused : goal.returns-in-None-clause-refused
returns-in-None-clause-refused c = λ is.
    no_log (identity_of c.args.identity) c.args.key.now c.args.value.now c.args.read.now.logs
    (sym (rw (c.bytes.ensures.same, c.bytes-2.ensures.same) at c.in-None.ensures.exact))

pub register-requires : goal.register-requires
register-requires c = record { counted = c.requires.read.counted }

pub returns-in-Some-clause-taken : goal.returns-in-Some-clause-taken
returns-in-Some-clause-taken c = λ is.
    (log_taken c.args.identity c.args.last.now c.args.key.now c.args.value.now c.args.read.now.count c.in-Some.entry
    c.args.read.now.logs c.register.new.read.logs c.hold_bytes.ensures c.hold_bytes-2.ensures
    (rw (c.bytes.ensures.same, c.bytes-2.ensures.same) at c.in-Some.ensures.exact) c.requires.read c.requires.above
    (c.register.ensures.room is) (c.register.ensures.added is) (c.register.ensures.rising is)).0

pub returns-in-Some-clause-refused : goal.returns-in-Some-clause-refused
returns-in-Some-clause-refused c = λ is.
    log_refused c.args.identity c.args.last.now c.args.key.now c.args.value.now c.args.read.now.count c.in-Some.entry
    c.args.read.now.logs c.hold_bytes.ensures c.hold_bytes-2.ensures
    (rw (c.bytes.ensures.same, c.bytes-2.ensures.same) at c.in-Some.ensures.exact) c.requires.read c.requires.above
    (c.register.ensures.refused is)

pub returns-in-Some-clause-read : goal.returns-in-Some-clause-read
returns-in-Some-clause-read c = λ is.
    rw (c.register.ensures.counted is) ((log_taken c.args.identity c.args.last.now c.args.key.now c.args.value.now
    c.args.read.now.count c.in-Some.entry c.args.read.now.logs c.register.new.read.logs
    c.hold_bytes.ensures c.hold_bytes-2.ensures
    (rw (c.bytes.ensures.same, c.bytes-2.ensures.same) at c.in-Some.ensures.exact) c.requires.read c.requires.above
    (c.register.ensures.room is) (c.register.ensures.added is) (c.register.ensures.rising is)).1)
