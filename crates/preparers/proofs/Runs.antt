-- A window over a list of calls: a fact of each slot and its number is kept, and holds of what is drawn.
use Rattle.std.proofs.Common.{◌≡◌, ℕ, ◌+◌, ◌-◌, ◌≤◌, List, [], ◌∷◌, ◌++◌, length, map, Bool, true, false, refl, sym, ap, ◌∙◌, arith, length-append}
use Rattle.std.specs.Prelude.{◌==◌, ◌&&◌, nat_lt, nat_le, Option, Some, None, if◌then◌else◌}
use Rattle.std.specs.Option.{option_to_list}
use Rattle.std.proofs.lemmas.Bool.Decides.{nat_tests}
use Rattle.redo_wire.specs.declared.raw.Raw.{Raw}
use Rattle.preparers.specs.declared.piece.Piece.{Piece}
use Rattle.preparers.specs.declared.slot.Slot.{Slot}
use Rattle.preparers.specs.declared.slot.Slot.TheVariants as slots
use Rattle.preparers.specs.Pieces.{piece_of}
use Rattle.preparers.specs.Pending.{Pending, Each, HasNumber, next_number, none_pending, posting_or, after_post_if, after_lend, least_raw, greatest_raw, is_lent, with_slot, without_drawn, drawn_piece}
use Rattle.preparers.specs.Steps.{Step, Post, Lend, LendLast, Take, Draw, after_step, after_steps, pieces_of_step, pieces_of_steps, count_up, HoldsRawOf, IsStepOf, AreStepsOf}
use Rattle.preparers.proofs.Slots.{each-snoc, each-set, each-tail, each-first}

-- the fact of each slot of a window
abbrev pub Holds : (ℕ → Slot → Type 0) → Pending → Type 0
Holds P w = Each P w.first w.slots

-- what a call has to bring with it
abbrev pub Needs : (ℕ → Slot → Type 0) → Step → Type 0
Needs P (Post raw) = P raw.rec (slots.Raw raw)
Needs P Lend = Unit {0}
Needs P LendLast = Unit {0}
Needs P (Take piece) = P piece.rec (slots.Prepared piece)
Needs P Draw = Unit {0}

posted-if : (P : ℕ → Slot → Type 0) (next room : Bool) (raw : Raw) (w : Pending) → (next ≡ true → raw.rec ≡ next_number w) →
    P raw.rec (slots.Raw raw) → Holds P w → Holds P (after_post_if (posting_or next room raw) raw w)
posted-if P false room raw w n p h = h
posted-if P true false raw w n p h = h
posted-if P true true raw w n p h = each-snoc P w.first raw.rec w.slots (slots.Raw raw) (n refl) h p

lent-any : (P : ℕ → Slot → Type 0) → ((n : ℕ) → P n slots.Lent) → (o : Option Raw) (w : Pending) → Holds P w →
    Holds P (after_lend o w)
lent-any P l None w h = h
lent-any P l (Some raw) w h = each-set P w.first (w.first + (raw.rec - w.first)) w.slots (raw.rec - w.first) slots.Lent refl h
    (l (w.first + (raw.rec - w.first)))

prepared-if : (P : ℕ → Slot → Type 0) (b : Bool) (piece : Piece) (w : Pending) → (b ≡ true → w.first ≤ piece.rec) →
    P piece.rec (slots.Prepared piece) → Holds P w → Holds P (if b then with_slot piece.rec (slots.Prepared piece) w else w)
prepared-if P false piece w n p h = h
prepared-if P true piece w n p h = each-set P w.first piece.rec w.slots (piece.rec - w.first) (slots.Prepared piece)
    (omega (arith, n refl)) h p

drawn-any : (P : ℕ → Slot → Type 0) (o : Option Piece) (w : Pending) → Holds P w → Holds P (without_drawn o w)
drawn-any P None w h = h
drawn-any P (Some piece) w h = each-tail P w.first w.slots h

next-too : (a b : ℕ) → (a == b) ≡ true → a ≡ b
next-too a b h = grind (arith, nat_tests)

begun-too : (a b : ℕ) (c : Bool) → (nat_le a b && c) ≡ true → a ≤ b
begun-too a b c h = grind (arith, nat_tests)

-- each call keeps the fact
pub kept : (P : ℕ → Slot → Type 0) → ((n : ℕ) → P n slots.Lent) → (step : Step) (w : Pending) → Needs P step → Holds P w →
    Holds P (after_step step w)
kept P l (Post raw) w p h = posted-if P (raw.rec == next_number w) (nat_lt (length w.slots) 64) raw w
    (next-too raw.rec (next_number w)) p h
kept P l Lend w p h = lent-any P l (least_raw w) w h
kept P l LendLast w p h = lent-any P l (greatest_raw w) w h
kept P l (Take piece) w p h = prepared-if P (is_lent piece.rec w) piece w (begun-too w.first piece.rec _) p h
kept P l Draw w p h = drawn-any P (drawn_piece w) w h

-- ---- what is drawn

-- a fact of each piece and its number
abbrev EachPiece : (ℕ → Slot → Type 0) → ℕ → List Piece → Type 0
EachPiece P n [] = Unit {0}
EachPiece P n (piece ∷ pieces) = P n (slots.Prepared piece) × EachPiece P (n + 1) pieces

posted-first : (next room : Bool) (raw : Raw) (w : Pending) → (after_post_if (posting_or next room raw) raw w).first ≡ w.first
posted-first false room raw w = refl
posted-first true false raw w = refl
posted-first true true raw w = refl

lent-first : (o : Option Raw) (w : Pending) → (after_lend o w).first ≡ w.first
lent-first None w = refl
lent-first (Some raw) w = refl

prepared-first : (b : Bool) (piece : Piece) (w : Pending) →
    (if b then with_slot piece.rec (slots.Prepared piece) w else w).first ≡ w.first
prepared-first false piece w = refl
prepared-first true piece w = refl

draw-first : (P : ℕ → Slot → Type 0) (o : Option Piece) (w : Pending) (pieces : List Piece) → drawn_piece w ≡ o → Holds P w →
    EachPiece P (without_drawn o w).first pieces → EachPiece P w.first (option_to_list o ++ pieces)
draw-first P None w pieces q h e = e
draw-first P (Some piece) w pieces q h e = (each-first P w.first w.slots piece h q, e)

-- the first of the window's numbers rises by what is drawn
step-first : (P : ℕ → Slot → Type 0) (step : Step) (w : Pending) (pieces : List Piece) → Holds P w →
    EachPiece P (after_step step w).first pieces → EachPiece P w.first (pieces_of_step step w ++ pieces)
step-first P (Post raw) w pieces h e = rw (sym (posted-first (raw.rec == next_number w) (nat_lt (length w.slots) 64) raw w)) e
step-first P Lend w pieces h e = rw (sym (lent-first (least_raw w) w)) e
step-first P LendLast w pieces h e = rw (sym (lent-first (greatest_raw w) w)) e
step-first P (Take piece) w pieces h e = rw (sym (prepared-first (is_lent piece.rec w) piece w)) e
step-first P Draw w pieces h e = draw-first P (drawn_piece w) w pieces refl h e

abbrev AllNeed : (ℕ → Slot → Type 0) → List Step → Type 0
AllNeed P [] = Unit {0}
AllNeed P (step ∷ steps) = Needs P step × AllNeed P steps

all-drawn : (P : ℕ → Slot → Type 0) → ((n : ℕ) → P n slots.Lent) → (steps : List Step) (w : Pending) → AllNeed P steps →
    Holds P w → EachPiece P w.first (pieces_of_steps steps w)
all-drawn P l [] w p h = tt
all-drawn P l (step ∷ steps) w p h = step-first P step w (pieces_of_steps steps (after_step step w)) h
    (all-drawn P l steps (after_step step w) p.1 (kept P l step w p.0 h))

-- ---- how many are drawn

none-more : (n : ℕ) → n ≡ n + 0
none-more n = omega arith

draw-count : (o : Option Piece) (w : Pending) → (without_drawn o w).first ≡ w.first + length (option_to_list o)
draw-count None w = none-more w.first
draw-count (Some piece) w = refl

step-count : (step : Step) (w : Pending) → (after_step step w).first ≡ w.first + length (pieces_of_step step w)
step-count (Post raw) w = posted-first (raw.rec == next_number w) (nat_lt (length w.slots) 64) raw w ∙ none-more w.first
step-count Lend w = lent-first (least_raw w) w ∙ none-more w.first
step-count LendLast w = lent-first (greatest_raw w) w ∙ none-more w.first
step-count (Take piece) w = prepared-first (is_lent piece.rec w) piece w ∙ none-more w.first
step-count Draw w = draw-count (drawn_piece w) w

count-all : (steps : List Step) (w : Pending) → (after_steps steps w).first ≡ w.first + length (pieces_of_steps steps w)
count-all [] w = none-more w.first
count-all (step ∷ steps) w =
    omega (
      arith,
      count-all steps (after_step step w),
      step-count step w,
      length-append (pieces_of_step step w) (pieces_of_steps steps (after_step step w)),
    )

pub all : (steps : List Step) (next : ℕ) → (after_steps steps (none_pending next)).first ≡ next +
    length (pieces_of_steps steps (none_pending next))
all steps next = count-all steps (none_pending next)

-- ---- their numbers, and what they are

number-needs : (step : Step) → Needs HasNumber step
number-needs (Post raw) = refl
number-needs Lend = tt
number-needs LendLast = tt
number-needs (Take piece) = refl
number-needs Draw = tt

numbers-need : (steps : List Step) → AllNeed HasNumber steps
numbers-need [] = tt
numbers-need (step ∷ steps) = (number-needs step, numbers-need steps)

in-order : (n : ℕ) (pieces : List Piece) → EachPiece HasNumber n pieces →
    map (λ piece. piece.rec) pieces ≡ count_up n (length pieces)
in-order n [] e = refl
in-order n (piece ∷ pieces) e = let h = in-order (n + 1) pieces e.1 in rw e.0 (rw h refl)

pub numbers : (steps : List Step) (next : ℕ) → map (λ piece. piece.rec) (pieces_of_steps steps (none_pending next)) ≡
    count_up next (length (pieces_of_steps steps (none_pending next)))
numbers steps next = in-order next (pieces_of_steps steps (none_pending next))
    (all-drawn HasNumber (λ n. tt) steps (none_pending next) (numbers-need steps) tt)

pub fit-needs : (raws : ℕ → Raw) (step : Step) → IsStepOf raws step → Needs (HoldsRawOf raws) step
fit-needs raws (Post raw) f = f
fit-needs raws Lend f = f
fit-needs raws LendLast f = f
fit-needs raws (Take piece) f = f
fit-needs raws Draw f = f

all-fit-need : (raws : ℕ → Raw) (steps : List Step) → AreStepsOf raws steps → AllNeed (HoldsRawOf raws) steps
all-fit-need raws [] f = tt
all-fit-need raws (step ∷ steps) f = (fit-needs raws step f.0, all-fit-need raws steps f.1)

as-decoded : (raws : ℕ → Raw) (n : ℕ) (pieces : List Piece) → EachPiece (HoldsRawOf raws) n pieces →
    pieces ≡ map (λ n. piece_of (raws n)) (count_up n (length pieces))
as-decoded raws n [] e = refl
as-decoded raws n (piece ∷ pieces) e = rw e.0 (ap (λ xs. piece_of (raws n) ∷ xs) (as-decoded raws (n + 1) pieces e.1))

pub decoded : (raws : ℕ → Raw) (steps : List Step) (next : ℕ) → AreStepsOf raws steps →
    pieces_of_steps steps (none_pending next) ≡ map (λ n. piece_of (raws n))
    (count_up next (length (pieces_of_steps steps (none_pending next))))
decoded raws steps next f = as-decoded raws next (pieces_of_steps steps (none_pending next))
    (all-drawn (HoldsRawOf raws) (λ n. tt) steps (none_pending next) (all-fit-need raws steps f) tt)
