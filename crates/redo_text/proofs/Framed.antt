-- Records that are framed are each one record to the cutter.
use Rattle.std.proofs.Common.{◌≡◌, List, [], ◌∷◌, Ok}
use Rattle.std.specs.List.{AllByRecursion}
use Rattle.redo_vec.specs.Cutting.{first_record}
use Rattle.redo_spec.specs.declared.header.Header.{Header}
use Rattle.redo_wire.specs.declared.raw.Raw.{Raw}
use Rattle.redo_wire.specs.declared.cutting.LogPlace.{LogPlace}
use Rattle.redo_wire.specs.Records.{AreFramed}
use Rattle.redo_wire.specs.Stream.{log_place_behind}

pub framed_whole : (h : Header) (p : LogPlace) (raws : List Raw) → AreFramed h p raws →
    AllByRecursion (λ raw. first_record raw.bytes ≡ Ok (raw.bytes, [])) raws
framed_whole h p [] ok = tt
framed_whole h p (raw ∷ raws) ok = (ok.0.whole, framed_whole h (log_place_behind p raw.bytes) raws ok.1)
