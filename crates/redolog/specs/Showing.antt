-- What `redolog show` and `redolog head` write of a log: the text of its first 40 bytes, its header, and of those behind them;
-- and when they tell that it has a fault: where its header has one, or its records, cut off and decoded, end with one.
use Rattle.std.specs.Prelude.{◌≡◌, ℕ, List, [], ◌∷◌, ◌++◌, take, drop, Bool, true, false, Option, Some, None, is_some, Result, Ok, Err, ⊤}
use Rattle.std.specs.Int.{w32}
use Rattle.std.specs.Io.KnownBytes.{Appends}
use Rattle.rl_value.specs.declared.cause.HeadFault.{HeadFault}
use Rattle.redo_vec.specs.Cutting.{number_in}
use Rattle.redo_spec.specs.declared.header.Header.{Header}
use Rattle.redo_spec.specs.LogHeader.{header_in, header_fault}
use Rattle.redo_spec.specs.Redo.{records_in}
use Rattle.redo_text.specs.declared.fault_line.LogFault.TheVariants as faults
use Rattle.redo_text.specs.FaultLine.{fault_line}
use Rattle.redo_text.specs.Showing.{heading_text}
use Rattle.redo_text.specs.Streaming.{Shown, shown_at, pieces_text, pieces_ended, end_text, end_ended}
use Rattle.redolog.specs.declared.refusal.Refusal.{Refusal}
use Rattle.redolog.specs.declared.refusal.Refusal.TheVariants as refusals

-- ---- the header

-- the first fault of a header, whatever sequence it names
unfoldable pub own_fault : List ℕ → Option HeadFault
own_fault front = header_fault (number_in w32 12 front) front

abbrev pub lines_or_fault : Option HeadFault → List ℕ → List ℕ
lines_or_fault None front = heading_text (header_in front)
lines_or_fault (Some fault) front = fault_line 1 (faults.Head fault) 0 (take 16 front)

abbrev pub head_there : Option HeadFault → List ℕ → Option Header
head_there None front = Some (header_in front)
head_there (Some fault) front = None

-- the lines of the header, or of its fault
abbrev pub front_text : List ℕ → List ℕ
front_text front = lines_or_fault (own_fault front) front

abbrev pub head_text : List ℕ → List ℕ
head_text bytes = front_text (take 40 bytes)

-- ---- the records

-- what is left of a log, and its end
abbrev pub rest_text : Shown → List ℕ → List ℕ
rest_text s [] = end_text s
rest_text s (b ∷ bytes) = pieces_text s ((b ∷ bytes) ∷ [])

abbrev pub records_or_none : Option Header → List ℕ → List ℕ
records_or_none None rest = []
records_or_none (Some h) rest = rest_text (shown_at h) rest

-- the text of a log
abbrev pub log_text : List ℕ → List ℕ
log_text bytes =
    let front = take 40 bytes in
    front_text front ++ records_or_none (head_there (own_fault front) front) (drop 40 bytes)

-- ---- faults

-- the header has a fault
abbrev pub has_head_fault : List ℕ → Bool
has_head_fault bytes = is_some (own_fault (take 40 bytes))

-- the records behind a header end with a fault, or there is no header
abbrev pub records_fault : Option Header → List ℕ → Bool
records_fault None rest = true
records_fault (Some h) rest = is_some (records_in h h.count rest).cause

-- the log has a fault
abbrev pub has_fault : List ℕ → Bool
has_fault bytes = let front = take 40 bytes in records_fault (head_there (own_fault front) front) (drop 40 bytes)

-- This text is written, and the end tells whether there is a fault; unless a device fails or memory runs out.
abbrev pub Shows : List ℕ → Bool → Option (List ℕ) → Option (List ℕ) → Result (Unit {0}) Refusal → Type 0
Shows text faulty old new (Ok done) = (faulty ≡ false) × Appends old new text
Shows text faulty old new (Err refusals.Damaged) = (faulty ≡ true) × Appends old new text
Shows text faulty old new (Err (refusals.Stream fault)) = ⊤
Shows text faulty old new (Err (refusals.Line line fault)) = ⊥
Shows text faulty old new (Err refusals.Long) = ⊥
Shows text faulty old new (Err refusals.Usage) = ⊥

-- ---- while it is read

-- whether a fault is shown of what is left of a log, and of its end
abbrev pub rest_ended : Shown → List ℕ → Bool
rest_ended s [] = end_ended s
rest_ended s (b ∷ bytes) = pieces_ended s ((b ∷ bytes) ∷ [])

-- Of a log from here on this is read: these bytes are left, what is written is what their text lacks, and a fault is shown of
-- them where one is of the log.
pub record Going (left old now : Option (List ℕ)) (begun log : Shown) (all : List ℕ) : Type 0 where
  pub rest : List ℕ
  pub done : List ℕ
  pub left_is : left ≡ Some rest
  pub wrote : Appends old now done
  pub whole : rest_text begun all ≡ done ++ rest_text log rest
  pub ended : rest_ended begun all ≡ rest_ended log rest
