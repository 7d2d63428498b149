-- What a reader of the code gives, beside what its line says.
use Rattle.std.specs.Prelude.{◌≡◌, Result, Ok, Err, ⊤}
use Rattle.line_fields.specs.declared.fault.ReadFault.{ReadFault}
use Rattle.line_fields.specs.declared.fault.ReadFault.TheVariants as reads
use Rattle.line_fields.specs.Fields.{Said}

-- the same fault, unless memory ran out
abbrev pub Fails : {Y : Type 0} → ReadFault → Said Y → Type 0
Fails reads.Memory said = ⊤
Fails (reads.Line fault) said = said ≡ Err fault

abbrev pub Gives : {X Y : Type 0} → (X → Y) → Result X ReadFault → Said Y → Type 0
Gives view (Ok x) said = said ≡ Ok (view x)
Gives view (Err e) said = Fails e said
