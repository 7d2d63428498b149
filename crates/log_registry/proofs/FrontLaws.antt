-- Reading the front of a log piece by piece.
use Rattle.std.proofs.Common.{◌≡◌, ℕ, zero, suc, ◌+◌, ◌-◌, ◌<◌, ◌≤◌, List, ◌++◌, length, take, drop, Option, None, Some, Result, Ok, Err, IfOk, refl, sym, ap, ◌∙◌, arith}
use Rattle.std.proofs.Math.Seq.{take-add, take-append-add}
use Rattle.std.proofs.lemmas.List.{take-append-le, take_all, length-take-le, length-append, length-drop}
use Rattle.std.specs.Io.{ReadsAtMost}
use Rattle.rl_ports.specs.declared.fault.Failed.{Failed}
use Rattle.rl_ports.specs.Faults.{Told, ReadsLog, ReadsFrom}
use Rattle.redo_wire.specs.declared.header.TheConstants.{HEADER_LENGTH}
use Rattle.log_registry.specs.Front.{IsReadTo, ReadsOn, IsReadOn, IsFront}

seam : (f xs ys : List ℕ) (count more : ℕ) → length f ≡ count → more ≤ length xs →
    take (count + more) (f ++ (xs ++ ys)) ≡ f ++ take more xs
seam f xs ys count more is within =
    ap (λ (n : ℕ). take (n + more) (f ++ (xs ++ ys))) (sym is)
    ∙ take-append-add f (xs ++ ys) more
    ∙ ap (λ (l : List ℕ). f ++ l) (take-append-le more xs ys within)

reads_more : (bytes front room tail : List ℕ) (count more : ℕ) → count ≤ length front → more ≤ length room →
    length (take count front ++ (room ++ tail)) ≤ count + length room →
    take count front ≡ take count bytes → ReadsLog bytes count more room →
    ReadsOn bytes (take count front ++ (room ++ tail)) count more
reads_more bytes front room tail count more within some size before read = record {
  given = seam (take count front) room tail count more (length-take-le count front within) some ∙
      (λ i. before i ++ read.given i) ∙ sym (take-add count more bytes);
  end = λ none open_room. read.end none (omega arith);
}

found_more : (found : Option (List ℕ)) (front room tail : List ℕ) (count more : ℕ) → count ≤ length front → more ≤ length room →
    length (take count front ++ (room ++ tail)) ≤ count + length room →
    IsReadTo found front count → ReadsFrom found count room more → IsReadOn found (take count front ++ (room ++ tail)) count more
found_more None front room tail count more within some size before read = tt
found_more (Some bytes) front room tail count more within some size before read =
    reads_more bytes front room tail count more within some size before read

answered_more : (found : Option (List ℕ)) (r : Result ℕ Failed) (front room tail : List ℕ) (count : ℕ) → count ≤ length front →
    ReadsAtMost r room → length (take count front ++ (room ++ tail)) ≤ count + length room →
    IsReadTo found front count → IfOk r (ReadsFrom found count room) →
    IfOk r (IsReadOn found (take count front ++ (room ++ tail)) count)
answered_more found (Ok more) front room tail count within some size before read =
    found_more found front room tail count more within some.0 size before read
answered_more found (Err e) front room tail count within some size before read = tt

pub told_more : (known : Option (ℕ → Option (List ℕ))) (seq : ℕ) (r : Result ℕ Failed) (front room tail : List ℕ) (count : ℕ) →
    count ≤ length front → ReadsAtMost r room → length (take count front ++ (room ++ tail)) ≤ count + length room →
    Told known (λ logs. IsReadTo (logs seq) front count) → Told known (λ logs. IfOk r (ReadsFrom (logs seq) count room)) →
    Told known (λ logs. IfOk r (IsReadOn (logs seq) (take count front ++ (room ++ tail)) count))
told_more None seq r front room tail count within some size before read = tt
told_more (Some logs) seq r front room tail count within some size before read =
    answered_more (logs seq) r front room tail count within some size before read

pub room_size : (front room : List ℕ) (count : ℕ) → count ≤ length front →
    length (take count front ++ (room ++ drop (length front - count) (drop count front))) ≤ count + length room
room_size front room count within =
    let rest = drop count front in
    let whole = length-append (take count front) (room ++ drop (length front - count) rest) in
    let later = length-append room (drop (length front - count) rest) in
    let before = length-take-le count front within in
    let left = length-drop count front in
    let none = length-drop (length front - count) rest in
    omega arith

-- ---- the end of the front

ended : (bytes front : List ℕ) (count : ℕ) → count < HEADER_LENGTH → length front ≡ HEADER_LENGTH → ReadsOn bytes front count 0 →
    take count front ≡ take HEADER_LENGTH bytes
ended bytes front count short size read =
    let all : length bytes ≤ count = read.end refl (omega arith) in
    ap (λ (n : ℕ). take n front) (omega arith) ∙ read.given ∙ take_all (count + 0) bytes (omega (arith, all)) ∙
    sym (take_all HEADER_LENGTH bytes (omega (arith, all)))

found_end : (found : Option (List ℕ)) (front : List ℕ) (count more : ℕ) → count < HEADER_LENGTH →
    length front ≡ HEADER_LENGTH → more ≡ 0 →
    IsReadOn found front count more → IsFront found front count
found_end None front count more short size none read = tt
found_end (Some bytes) front count zero short size none read = ended bytes front count short size read
found_end (Some bytes) front count (suc more) short size none read = absurd (omega arith)

pub told_end : (known : Option (ℕ → Option (List ℕ))) (seq : ℕ) (front : List ℕ) (count more : ℕ) → count < HEADER_LENGTH →
    length front ≡ HEADER_LENGTH → more ≡ 0 →
    Told known (λ logs. IsReadOn (logs seq) front count more) → Told known (λ logs. IsFront (logs seq) front count)
told_end None seq front count more short size none read = tt
told_end (Some logs) seq front count more short size none read = found_end (logs seq) front count more short size none read
