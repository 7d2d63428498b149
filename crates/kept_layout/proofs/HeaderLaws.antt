-- A header that was read, and one that was refused.
use Rattle.std.proofs.Common.{◌≡◌, true, false, Option, Some, None, Ok, Err, refl}
use Rattle.rl_value.specs.declared.cause.HeadFault.{HeadFault}
use Rattle.rl_value.specs.Outcome.{refused_by}
use Rattle.redo_spec.specs.declared.header.Header.{Header}
use Rattle.standby_spec.specs.Loading.{no_fault}

pub header_good : (fault : Option HeadFault) (h head : Header) → Ok head ≡ refused_by fault h → true ≡ no_fault fault
header_good None h head e = refl
header_good (Some f) h head e = absurd (cc)

pub header_bad : (fault : Option HeadFault) (h : Header) (found : HeadFault) → Err found ≡ refused_by fault h →
    false ≡ no_fault fault
header_bad None h found e = absurd (cc)
header_bad (Some f) h found e = refl
