-- The registered logs in order of their sequences, and what a look at an archived log tells.
-- An entry is a log's header and its length; the bytes stay in the archive.
use Rattle.std.specs.Prelude.{ℕ, ◌≡◌, ◌+◌, ◌-◌, ◌==◌, ◌<◌, ◌≤◌, nat_lt, if◌then◌else◌, List, [], ◌∷◌, length, Option, Some, None, Result, Ok, Err}
use Rattle.rl_value.specs.declared.cause.HeadFault.{HeadFault}
use Rattle.redo_spec.specs.declared.header.Header.{Header}
use Rattle.redo_spec.specs.LogHeader.{header_in, header_fault}
use Rattle.log_registry.specs.declared.entry.LogEntry.{LogEntry}
use Rattle.log_registry.specs.declared.fault.RegFault.{RegFault}
use Rattle.log_registry.specs.declared.fault.RegFault.TheVariants as refusals
use Rattle.log_registry.specs.declared.next.Next.{Next}
use Rattle.log_registry.specs.declared.next.Next.TheVariants as nexts

-- ---- a look at a log

-- a log of this length with this header, unless it is one of another database
abbrev pub of_database : ℕ → Header → ℕ → Result LogEntry RegFault
of_database dbid head size = if head.dbid == dbid then Ok (record { head = head; length = size }) else Err refusals.WrongDb

abbrev pub entry_unless_refused : Option HeadFault → Result LogEntry RegFault → Result LogEntry RegFault
entry_unless_refused (Some fault) found = Err (refusals.BadHeader fault)
entry_unless_refused None found = found

abbrev pub entry_with : Header → ℕ → LogEntry
entry_with head size = record { head = head; length = size }

-- what a look at the log of this sequence tells, where it has these bytes or is absent
abbrev pub answer_of_look : ℕ → Option (List ℕ) → Result LogEntry RegFault
answer_of_look seq None = Err refusals.NoLog
answer_of_look seq (Some bytes) = entry_unless_refused (header_fault seq bytes) (Ok (entry_with (header_in bytes) (length bytes)))

-- the same for this database
abbrev pub answer_of_inspect : ℕ → ℕ → Option (List ℕ) → Result LogEntry RegFault
answer_of_inspect seq dbid None = Err refusals.NoLog
answer_of_inspect seq dbid (Some bytes) = entry_unless_refused (header_fault seq bytes)
    (of_database dbid (header_in bytes) (length bytes))

-- an entry is what a look at its log tells
abbrev pub IsToldBy : (ℕ → Option (List ℕ)) → LogEntry → Type 0
IsToldBy logs e = answer_of_inspect e.head.seq e.head.dbid (logs e.head.seq) ≡ Ok e

abbrev pub AreToldBy : (ℕ → Option (List ℕ)) → List LogEntry → Type 0
AreToldBy logs [] = Unit {0}
AreToldBy logs (e ∷ entries) = IsToldBy logs e × AreToldBy logs entries

-- ---- registered logs, rising by their sequences

-- each sequence is above this one and the one before
abbrev pub RiseFrom : ℕ → List LogEntry → Type 0
RiseFrom least [] = Unit {0}
RiseFrom least (e ∷ entries) = (least ≤ e.head.seq) × RiseFrom (e.head.seq + 1) entries

abbrev pub IsRising : List LogEntry → Type 0
IsRising entries = RiseFrom 0 entries

-- each sequence is below this number
abbrev pub AreBelow : ℕ → List LogEntry → Type 0
AreBelow limit [] = Unit {0}
AreBelow limit (e ∷ entries) = (e.head.seq < limit) × AreBelow limit entries

-- the entry of this sequence
abbrev pub entry_of : ℕ → List LogEntry → Option LogEntry
entry_of seq [] = None
entry_of seq (e ∷ entries) = if e.head.seq == seq then Some e else entry_of seq entries

-- those from this sequence on
abbrev pub entries_from : ℕ → List LogEntry → List LogEntry
entries_from seq [] = []
entries_from seq (e ∷ entries) = if nat_lt e.head.seq seq then entries_from seq entries else e ∷ entries

-- the entries with this one among them
abbrev pub with_log : LogEntry → List LogEntry → List LogEntry
with_log added [] = added ∷ []
with_log added (e ∷ entries) = if nat_lt added.head.seq e.head.seq then added ∷ e ∷ entries else e ∷ with_log added entries

-- how many records the logs have by their headers
abbrev pub count_of : List LogEntry → ℕ
count_of [] = 0
count_of (e ∷ entries) = e.head.count + count_of entries

-- ---- what comes next

-- a log, nothing any more, or the missing sequences, both ends included
pub data Following : Type 0 where
  Log : LogEntry → Following
  End : Following
  Gap : ℕ → ℕ → Following

-- what was answered, by value
abbrev pub following_of : Next → Following
following_of (nexts.Log entry) = Log entry.now
following_of nexts.End = End
following_of (nexts.Gap low high) = Gap low high

-- what comes at this sequence, where the registered logs from there on are these
abbrev pub next_in : ℕ → List LogEntry → Following
next_in seq [] = End
next_in seq (e ∷ entries) = if e.head.seq == seq then Log e else Gap seq (e.head.seq - 1)
