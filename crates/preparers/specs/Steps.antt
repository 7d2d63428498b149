-- A window over any list of calls: what is drawn, and which records it stands for.
use Rattle.std.specs.Prelude.{◌≡◌, ℕ, zero, suc, ◌+◌, List, [], ◌∷◌, ◌++◌}
use Rattle.std.specs.Option.{option_to_list}
use Rattle.redo_wire.specs.declared.raw.Raw.{Raw}
use Rattle.preparers.specs.declared.piece.Piece.{Piece}
use Rattle.preparers.specs.declared.slot.Slot.{Slot}
use Rattle.preparers.specs.declared.slot.Slot.TheVariants as slots
use Rattle.preparers.specs.Pieces.{piece_of}
use Rattle.preparers.specs.Pending.{Pending, after_post, least_raw, greatest_raw, after_lend, after_prepared, drawn_piece, after_draw, Each}

-- a call of a window
pub data Step : Type 0 where
  Post : Raw → Step
  Lend : Step
  LendLast : Step
  Take : Piece → Step
  Draw : Step

-- the window after a call
abbrev pub after_step : Step → Pending → Pending
after_step (Post raw) w = after_post raw w
after_step Lend w = after_lend (least_raw w) w
after_step LendLast w = after_lend (greatest_raw w) w
after_step (Take piece) w = after_prepared piece w
after_step Draw w = after_draw w

-- the piece that a call draws
abbrev pub pieces_of_step : Step → Pending → List Piece
pieces_of_step (Post raw) w = []
pieces_of_step Lend w = []
pieces_of_step LendLast w = []
pieces_of_step (Take piece) w = []
pieces_of_step Draw w = option_to_list (drawn_piece w)

-- the window after these calls
abbrev pub after_steps : List Step → Pending → Pending
after_steps [] w = w
after_steps (step ∷ steps) w = after_steps steps (after_step step w)

-- the pieces that these calls draw, in their order
abbrev pub pieces_of_steps : List Step → Pending → List Piece
pieces_of_steps [] w = []
pieces_of_steps (step ∷ steps) w = pieces_of_step step w ++ pieces_of_steps steps (after_step step w)

-- so many numbers from this one on, each one more than the one before it
abbrev pub count_up : ℕ → ℕ → List ℕ
count_up n zero = []
count_up n (suc count) = n ∷ count_up (n + 1) count

-- ---- the records that a window stands for: one for each number

-- what it holds is the record of this number, cut or decoded
abbrev pub HoldsRawOf : (ℕ → Raw) → ℕ → Slot → Type 0
HoldsRawOf raws n (slots.Raw raw) = raw ≡ raws n
HoldsRawOf raws n slots.Lent = Unit {0}
HoldsRawOf raws n (slots.Prepared piece) = piece ≡ piece_of (raws n)

-- each record of the window is the one of its number
abbrev pub IsWindowOf : (ℕ → Raw) → Pending → Type 0
IsWindowOf raws w = Each (HoldsRawOf raws) w.first w.slots

-- what is posted is the record of its number, and what is taken back is its decoding
abbrev pub IsStepOf : (ℕ → Raw) → Step → Type 0
IsStepOf raws (Post raw) = raw ≡ raws raw.rec
IsStepOf raws Lend = Unit {0}
IsStepOf raws LendLast = Unit {0}
IsStepOf raws (Take piece) = piece ≡ piece_of (raws piece.rec)
IsStepOf raws Draw = Unit {0}

abbrev pub AreStepsOf : (ℕ → Raw) → List Step → Type 0
AreStepsOf raws [] = Unit {0}
AreStepsOf raws (step ∷ steps) = IsStepOf raws step × AreStepsOf raws steps
