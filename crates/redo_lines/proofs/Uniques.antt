-- Unique keys behind the primary one, as a loop reads them.
use Rattle.std.proofs.Common.{◌≡◌, ℕ, ◌≤◌, List, [], ◌∷◌, ◌++◌, length, Result, Ok, Err, ap, arith}
use Rattle.rl_value.specs.Outcome.{◌>>=◌}
use Rattle.redo_vec.specs.declared.columns.Column.{Column}
use Rattle.line_fields.specs.declared.fault.LineFault.{LineFault}
use Rattle.line_fields.specs.declared.fault.ReadFault.{ReadFault}
use Rattle.line_fields.specs.declared.fault.ReadFault.TheVariants as reads
use Rattle.line_fields.specs.Fields.{Said}
use Rattle.line_fields.specs.Given.{Gives}
use Rattle.redo_lines.specs.Reading.{Line, items_until, with_front, never, key_said, uniques_said}

abbrev keys_of : List ℕ → Said (List (List ℕ) × Line) → Said (List (List ℕ))
keys_of primary said = said >>= λ keys. Ok (primary ∷ keys.0)

abbrev said : {A : Type 0} → A → Said A
said x = Ok x

ok_is : {A : Type 0} (x y : A) → said x ≡ said y → x ≡ y
ok_is x y e = cc

front_ok : (primary : List ℕ) (found : Said (List (List ℕ) × Line)) (keys : List (List ℕ)) →
    with_front (primary ∷ []) found ≡ Ok (keys, []) → keys_of primary found ≡ Ok keys
front_ok primary (Ok y) keys e = ap (λ (x : List (List ℕ) × Line). said (x.0)) (ok_is ((primary ∷ []) ++ y.0, y.1) (keys, []) e)
front_ok primary (Err f) keys e = absurd cc

front_err : (primary : List ℕ) (found : Said (List (List ℕ) × Line)) (fault : LineFault) →
    with_front (primary ∷ []) found ≡ Err fault → keys_of primary found ≡ Err fault
front_err primary (Ok y) fault e = absurd cc
front_err primary (Err f) fault e = let same : f ≡ fault = cc in cc

pub uniques_given : {X : Type 0} (r : Result X ReadFault) (view : X → List (List ℕ)) (primary : List ℕ) (columns : List Column)
    (words : Line) → 1 ≤ length words
    → Gives (λ x. (view x, [])) r (with_front (primary ∷ []) (items_until never (key_said columns) words)) →
    Gives view r (uniques_said primary columns words)
unfolding uniques_said
uniques_given r view primary columns [] some given = absurd (omega arith)
uniques_given (Ok x) view primary columns (w ∷ ws) some given =
    front_ok primary (items_until never (key_said columns) (w ∷ ws)) (view x) given
uniques_given (Err reads.Memory) view primary columns (w ∷ ws) some given = tt
uniques_given (Err (reads.Line f)) view primary columns (w ∷ ws) some given =
    front_err primary (items_until never (key_said columns) (w ∷ ws)) f given
