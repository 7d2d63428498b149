use Rattle.std.proofs.Common.{◌≡◌, ◌++◌, [], Ok, length}
use Rattle.std.specs.List.{AllByRecursion}
use Rattle.redo_vec.specs.Cutting.{first_record}
use Rattle.redo_text.specs.Streaming.{raws_text, raws_after}
use Rattle.redo_text.proofs.streaming.Place.with_raws.Given as goal

-- what is there, and what the records that are left put behind it
abbrev pub invariant-loop-rest : goal.invariant-loop-rest
invariant-loop-rest l = record {
  whole : AllByRecursion (λ raw. first_record raw.bytes ≡ Ok (raw.bytes, [])) l.rest;
  text : l.out.items ++ raws_text l.place l.rest ≡ raws_text l.fn.self l.raws;
  after : raws_after l.place l.rest ≡ raws_after l.fn.self l.raws;
}

abbrev pub decreases-loop-rest : goal.decreases-loop-rest
decreases-loop-rest l = length l.rest
