use Rattle.std.proofs.Common.{◌≡◌, ◌-◌}
use Rattle.workload.specs.Pairs.{records_drawn}
use Rattle.workload.specs.Texts.{put_all}
use Rattle.workload.proofs.written.put_records.Given as goal

-- with the records that are left all are written
abbrev pub invariant-loop : goal.invariant-loop
invariant-loop l =
    put_all (records_drawn (l.count - l.counter) l.after.x l.after.pair) l.after.text
    ≡ put_all (records_drawn l.count l.fn.written.x l.fn.written.pair) l.fn.written.text
