-- A log that is shown block by block: what is written, and what is still to be.
use Rattle.std.proofs.Common.{◌≡◌, ℕ, ◌+◌, ◌≤◌, Bool, true, List, [], ◌∷◌, ◌++◌, length, take, drop, Option, Some, None, Result, Ok, Err, OnOk, IfOk, refl, sym, ap, subst, ◌∙◌, append_assoc, arith}
use Rattle.std.specs.Io.KnownBytes.{Appends}
use Rattle.std.proofs.KnownBytes.{Appends-nil, Appends-trans}
use Rattle.std.proofs.lemmas.List.{append-nil, take-append-drop, length-take}
use Rattle.rl_ports.specs.Faults.{Told}
use Rattle.redo_text.specs.Streaming.{Shown, pieces_text, pieces_ended, piece_text, piece_after, end_text, end_ended}
use Rattle.redolog.specs.Showing.{rest_text, rest_ended, Going}

-- the laws of `redo_text`
abbrev pub AsTwo : Type 0
AsTwo = (log : Shown) (a b : List ℕ) → pieces_text log ((a ++ b) ∷ []) ≡ pieces_text log (a ∷ b ∷ [])

abbrev pub Silent : Type 0
Silent = (log : Shown) (pieces : List (List ℕ)) → log.place.ended ≡ true → pieces_text log pieces ≡ []

abbrev pub EndsAsTwo : Type 0
EndsAsTwo = (log : Shown) (a b : List ℕ) → pieces_ended log ((a ++ b) ∷ []) ≡ pieces_ended log (a ∷ b ∷ [])

abbrev pub Kept : Type 0
Kept = (log : Shown) (pieces : List (List ℕ)) → log.place.ended ≡ true → pieces_ended log pieces ≡ true

pub begins : (left old : Option (List ℕ)) (log : Shown) → Told left (λ all. Going left old old log log all)
begins None old log = tt
begins (Some all) old log =
    record { rest = all; done = []; left_is = refl; wrote = Appends-nil old; whole = refl; ended = refl }

-- a block, and what is behind it
split_rest : AsTwo → (log : Shown) (block rest : List ℕ) → 1 ≤ length block →
    rest_text log (block ++ rest) ≡ piece_text log block ++ rest_text (piece_after log block) rest
split_rest two log [] rest some = absurd (omega arith)
split_rest two log (b ∷ block) [] some = ap (λ (t : List ℕ). pieces_text log (t ∷ [])) (append-nil (b ∷ block))
split_rest two log (b ∷ block) (c ∷ rest) some = two log (b ∷ block) (c ∷ rest)

split_ended : EndsAsTwo → (log : Shown) (block rest : List ℕ) → 1 ≤ length block →
    rest_ended log (block ++ rest) ≡ rest_ended (piece_after log block) rest
split_ended two log [] rest some = absurd (omega arith)
split_ended two log (b ∷ block) [] some = ap (λ (t : List ℕ). pieces_ended log (t ∷ [])) (append-nil (b ∷ block))
split_ended two log (b ∷ block) (c ∷ rest) some = two log (b ∷ block) (c ∷ rest)

-- a block was shown
goes_on : AsTwo → EndsAsTwo → (last : ℕ) (left after old now new : Option (List ℕ)) (begun log next : Shown) (block text : List ℕ)
    (all : List ℕ) → Going left old now begun log all → Told left (λ rest. block ≡ take (last + 1) rest) →
    Told left (λ rest. after ≡ Some (drop (last + 1) rest)) → 1 ≤ length block → next ≡ piece_after log block →
    text ≡ piece_text log block → Appends now new text → Going after old new begun next all
goes_on two twice last left after old now new begun log next block text all g taken behind some next_is text_is wrote =
    let block_is : block ≡ take (last + 1) g.rest = subst (λ (o : Option (List ℕ)). Told o (λ rest. block ≡
    take (last + 1) rest)) g.left_is taken in
    let after_is : after ≡ Some (drop (last + 1) g.rest) = subst (λ (o : Option (List ℕ)). Told o (λ rest. after ≡
    Some (drop (last + 1) rest))) g.left_is behind in
    let rest = drop (last + 1) g.rest in
    let parts : g.rest ≡ block ++ rest = sym (take-append-drop (last + 1) g.rest)
    ∙ ap (λ (t : List ℕ). t ++ rest) (sym block_is) in
    let split : rest_text log g.rest ≡ text ++ rest_text next rest =
    ap (rest_text log) parts ∙ split_rest two log block rest some
    ∙ ap (λ (t : List ℕ). t ++ rest_text (piece_after log block) rest) (sym text_is)
    ∙ ap (λ (s : Shown). text ++ rest_text s rest) (sym next_is) in
    record {
      rest = rest;
      done = g.done ++ text;
      left_is = after_is;
      wrote = Appends-trans old now new g.done text g.wrote wrote;
      whole = g.whole ∙ ap (λ (t : List ℕ). g.done ++ t) split ∙ sym (append_assoc g.done text (rest_text next rest));
      ended = g.ended ∙ ap (rest_ended log) parts ∙ split_ended twice log block rest some
          ∙ ap (λ (s : Shown). rest_ended s rest) (sym next_is);
    }

pub told_on : AsTwo → EndsAsTwo → (last : ℕ) (first left after old now new : Option (List ℕ)) (begun log next : Shown)
    (block text : List ℕ) → Told first (λ all. Going left old now begun log all) →
    Told left (λ rest. block ≡ take (last + 1) rest) →
    Told left (λ rest. after ≡ Some (drop (last + 1) rest)) → 1 ≤ length block → next ≡ piece_after log block →
    text ≡ piece_text log block → Appends now new text → Told first (λ all. Going after old new begun next all)
told_on two twice last None left after old now new begun log next block text g taken behind some next_is text_is wrote = tt
told_on two twice last (Some all) left after old now new begun log next block text g taken behind some next_is text_is wrote =
    goes_on two twice last left after old now new begun log next block text all g taken behind some next_is text_is wrote

empty : (last : ℕ) (rest : List ℕ) → take (last + 1) rest ≡ [] → rest ≡ []
empty last [] e = refl
empty last (b ∷ rest) e =
    let none = ap length e in
    absurd (omega (arith, none, length-take (last + 1) (b ∷ rest)))

-- nothing was left
nothing_left : (last : ℕ) (left old now : Option (List ℕ)) (begun log : Shown) (block all : List ℕ)
    (g : Going left old now begun log all) → Told left (λ rest. block ≡ take (last + 1) rest) → block ≡ [] → g.rest ≡ []
nothing_left last left old now begun log block all g taken none =
    let block_is : block ≡ take (last + 1) g.rest = subst (λ (o : Option (List ℕ)). Told o (λ rest. block ≡
    take (last + 1) rest)) g.left_is taken in
    empty last g.rest (sym block_is ∙ none)

end_of : (last : ℕ) (left old now new : Option (List ℕ)) (begun log : Shown) (block all : List ℕ) →
    Going left old now begun log all → Told left (λ rest. block ≡ take (last + 1) rest) → block ≡ [] →
    Appends now new (end_text log) → Appends old new (rest_text begun all)
end_of last left old now new begun log block all g taken none wrote =
    let nothing = nothing_left last left old now begun log block all g taken none in
    let text : rest_text begun all ≡ g.done ++ end_text log = g.whole ∙ ap (λ (t : List ℕ). g.done ++ rest_text log t) nothing in
    subst (Appends old new) (sym text) (Appends-trans old now new g.done (end_text log) g.wrote wrote)

pub told_end : {T E : Type 0} (last : ℕ) (first left old now new : Option (List ℕ)) (begun log : Shown) (block : List ℕ)
    (r : Result T E) → Told first (λ all. Going left old now begun log all) → Told left (λ rest. block ≡ take (last + 1) rest) →
    block ≡ [] → OnOk r (Appends now new (end_text log)) → Told first (λ all. OnOk r (Appends old new (rest_text begun all)))
told_end last None left old now new begun log block r g taken none wrote = tt
told_end last (Some all) left old now new begun log block (Ok x) g taken none wrote =
    end_of last left old now new begun log block all g taken none wrote
told_end last (Some all) left old now new begun log block (Err e) g taken none wrote = tt

pub told_end_fault : {E : Type 0} (last : ℕ) (first left old now : Option (List ℕ)) (begun log : Shown) (block : List ℕ)
    (r : Result Bool E) → Told first (λ all. Going left old now begun log all) →
    Told left (λ rest. block ≡ take (last + 1) rest) → block ≡ [] → IfOk r (λ faulty. faulty ≡ end_ended log) →
    Told first (λ all. IfOk r (λ faulty. faulty ≡ rest_ended begun all))
told_end_fault last None left old now begun log block r g taken none is = tt
told_end_fault last (Some all) left old now begun log block (Ok faulty) g taken none is =
    is ∙ sym (g.ended ∙ ap (rest_ended log) (nothing_left last left old now begun log block all g taken none))
told_end_fault last (Some all) left old now begun log block (Err e) g taken none is = tt

-- a fault was shown
ended_rest : Silent → (log : Shown) (rest : List ℕ) → log.place.ended ≡ true → rest_text log rest ≡ []
ended_rest silent log [] e = silent log [] e
ended_rest silent log (b ∷ rest) e = silent log ((b ∷ rest) ∷ []) e

kept_rest : Kept → (log : Shown) (rest : List ℕ) → log.place.ended ≡ true → rest_ended log rest ≡ true
kept_rest kept log [] e = kept log [] e
kept_rest kept log (b ∷ rest) e = kept log ((b ∷ rest) ∷ []) e

pub told_ended : Silent → (first left old now : Option (List ℕ)) (begun log : Shown) →
    Told first (λ all. Going left old now begun log all) → log.place.ended ≡ true →
    Told first (λ all. Appends old now (rest_text begun all))
told_ended silent None left old now begun log g e = tt
told_ended silent (Some all) left old now begun log g e =
    let text : rest_text begun all ≡ g.done =
    g.whole ∙ ap (λ (t : List ℕ). g.done ++ t) (ended_rest silent log g.rest e) ∙ append-nil g.done in
    subst (Appends old now) (sym text) g.wrote

pub told_ended_fault : Kept → (first left old now : Option (List ℕ)) (begun log : Shown) →
    Told first (λ all. Going left old now begun log all) → log.place.ended ≡ true →
    Told first (λ all. true ≡ rest_ended begun all)
told_ended_fault kept None left old now begun log g e = tt
told_ended_fault kept (Some all) left old now begun log g e = sym (g.ended ∙ kept_rest kept log g.rest e)
