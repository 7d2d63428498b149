-- What a reader of words gives: what they say, or that they are none of the grammar; or memory ran out, which has no cause.
use Rattle.std.specs.Prelude.{◌≡◌, ⊤, Result, Ok, Err, Option, Some, None}
use Rattle.script_words.specs.declared.fault.WordsFault.{WordsFault}
use Rattle.script_words.specs.declared.fault.WordsFault.TheVariants as faults

-- nothing is said, unless memory ran out
abbrev pub Refuses : {Y : Type 0} → WordsFault → Option Y → Type 0
Refuses faults.Memory said = ⊤
Refuses faults.Grammar said = said ≡ None

abbrev pub Gives : {X Y : Type 0} → (X → Y) → Result X WordsFault → Option Y → Type 0
Gives view (Ok x) said = said ≡ Some (view x)
Gives view (Err fault) said = Refuses fault said
