-- What a reader of the code gives, beside what reading gives.
use Rattle.std.specs.Prelude.{◌≡◌, Result, Ok, Err, ⊤}
use Rattle.redo_vec.specs.declared.fault.DecodeFault.{DecodeFault}
use Rattle.redo_vec.specs.declared.fault.DecodeFault.TheVariants as faults
use Rattle.redo_vec.specs.Reading.{Fault}

-- the same fault at the same place, unless memory ran out
abbrev pub Fails : {Y : Type 0} → DecodeFault → Result Y Fault → Type 0
Fails faults.Memory read = ⊤
Fails (faults.Vector fault place) read = read ≡ Err (record { fault = fault; place = place })

abbrev pub Gives : {X Y : Type 0} → (X → Y) → Result X DecodeFault → Result Y Fault → Type 0
Gives view (Ok x) read = read ≡ Ok (view x)
Gives view (Err e) read = Fails e read
