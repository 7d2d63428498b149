-- What a writer of the code gives, beside what its text says.
use Rattle.std.specs.Prelude.{◌≡◌, Result, Ok, Err, ⊤}
use Rattle.redo_text.specs.declared.fault.WriteFault.{WriteFault}
use Rattle.redo_text.specs.declared.fault.WriteFault.TheVariants as writes
use Rattle.redo_text.specs.Text.{Bad}

-- the same bad line and fault, unless memory ran out
abbrev pub FailsAt : {Y : Type 0} → WriteFault → Result Y Bad → Type 0
FailsAt writes.Memory said = ⊤
FailsAt (writes.Line line fault) said = said ≡ Err (record { line = line; fault = fault })

abbrev pub Tells : {X Y : Type 0} → (X → Y) → Result X WriteFault → Result Y Bad → Type 0
Tells view (Ok x) said = said ≡ Ok (view x)
Tells view (Err e) said = FailsAt e said
