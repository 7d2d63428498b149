use Rattle.std.proofs.Common.{ℕ, ◌≤◌, List, length, subst}
use Rattle.redo_tests.proofs.records.encoded.Goals as goal

pub encode_record-requires : goal.encode_record-requires
encode_record-requires c = record { fits = subst (λ (t : List ℕ). length t ≤ 65536) c.requires.spelled c.requires.short }
