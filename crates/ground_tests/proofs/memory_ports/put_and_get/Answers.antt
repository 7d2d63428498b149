use Rattle.ground_tests.proofs.Chunks.{chunk-there}
use Rattle.ground_tests.proofs.memory_ports.put_and_get.Goals as goal

-- src/tests.rt:72:5
pub get-requires : goal.get-requires
get-requires c = record { there = chunk-there c.args.id c.args.bytes.now c.args.spill.now c.put.new.self c.in_ok-put.ensures.put }
