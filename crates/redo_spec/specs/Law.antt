-- Admission: which record may follow in the redo, and the first that may not.
-- A record is tested as a whole first (the chain of logs, its SCN, COMMIT and ROLLBACK alone), and then vector by vector;
-- the first cause counts. The causes and their order are this project's own.
use Rattle.std.specs.Prelude.{ℕ, ◌≡◌, ◌+◌, ◌^◌, List, [], ◌∷◌, ◌++◌, length, Bool, true, false, not, ◌&&◌, ◌||◌, nat_lt, nat_le, ◌==◌, Option, Some, None}
use Rattle.std.specs.List.{list_any}
use Rattle.std.specs.Option.{option_or, option_map_or}
use Rattle.rl_value.specs.declared.xid.Xid.{Xid}
use Rattle.rl_value.specs.declared.cause.LawFault.{LawFault}
use Rattle.rl_value.specs.declared.cause.LawFault.TheVariants as faults
use Rattle.rl_value.specs.Outcome.{first_fault, is_empty}
use Rattle.redo_vec.specs.declared.change.Change.{Change}
use Rattle.redo_vec.specs.declared.vector.Vector.{Vector}
use Rattle.redo_vec.specs.declared.vector.Vector.TheVariants.{Start, Change as OfChange, Undo, Commit, Rollback, Table, DictEnd}
use Rattle.redo_spec.specs.declared.header.Header.{Header}
use Rattle.redo_spec.specs.Dictionary.{Dictionary, table_fault, is_of_dictionary}
use Rattle.redo_spec.specs.ChangeForm.{change_fault}
use Rattle.redo_spec.specs.Locks.{lock_fault}
use Rattle.redo_spec.specs.History.{Entry, History, same_xid, history_after, history_at}
use Rattle.redo_spec.specs.Standing.{Standing, is_open, survivor_count, standing_after, standing_at_record, record_after, standing_at}

-- the most surviving changes that open transactions may have together
abbrev pub open_limit : ℕ
open_limit = 2 ^ 19

-- ---- one vector

-- The dictionary stands whole at the front of the first log: no vector of it comes later, and no other before its end.
abbrev pub dictionary_fault : Header → Standing → Vector → Option LawFault
dictionary_fault h s v = first_fault ((
  (s.dictionary.finished && is_of_dictionary v) || (not s.dictionary.finished && not (is_of_dictionary v))
      || (not s.dictionary.finished && not (h.seq == s.first)),
  faults.Dictionary,
) ∷ [])

-- A transaction that is not open, and whose START may stand before the records of this standing. Its vectors are
-- passed over.
abbrev pub is_passed_over : Standing → Xid → Bool
is_passed_over s x = nat_le s.rec s.known && not (is_open s x)

-- a vector of a transaction that has to be open
abbrev pub open_fault : Standing → Xid → Option LawFault
open_fault s x = first_fault ((not (is_open s x || is_passed_over s x), faults.NotOpen) ∷ [])

-- the open transaction of this id has no surviving change
abbrev pub nothing_survives : Standing → Xid → Bool
nothing_survives s x = list_any (λ t. same_xid t.xid x && is_empty t.keys) s.active

-- the fault of one more change, where so many changes of open transactions survive
abbrev pub count_fault : ℕ → Option LawFault
count_fault survivors = first_fault ((nat_le open_limit survivors, faults.OpenLimit) ∷ [])

-- the faults of a change of an open transaction
abbrev pub made_fault : Standing → Change → Option LawFault
made_fault s c = option_or (change_fault s.dictionary.tables c) (option_or (lock_fault s c) (count_fault (survivor_count s)))

abbrev pub unless : Bool → Option LawFault → Option LawFault
unless true fault = None
unless false fault = fault

-- the faults of a vector, apart from where it stands in the redo
abbrev pub own_fault : Standing → Vector → Option LawFault
own_fault s (Start x) = first_fault ((is_open s x, faults.OpenTwice) ∷ [])
own_fault s (OfChange c) = option_or (open_fault s c.xid) (unless (is_passed_over s c.xid) (made_fault s c))
own_fault s (Undo x) = option_or (open_fault s x) (first_fault ((nothing_survives s x, faults.Nothing) ∷ []))
own_fault s (Commit x) = option_or (open_fault s x) (first_fault ((nat_le s.scn s.commit_scn, faults.Scn) ∷ []))
own_fault s (Rollback x) = open_fault s x
own_fault s (Table t) = table_fault s.dictionary.tables t
own_fault s DictEnd = None

-- the first reason for which a vector may not come within a record, in a log of this header
abbrev pub vector_fault : Header → Standing → Vector → Option LawFault
vector_fault h s v = option_or (dictionary_fault h s v) (own_fault s v)

-- the first reason for which one of these vectors may not come, the first of which has this number
abbrev pub vectors_fault : Header → ℕ → List Vector → Standing → Option LawFault
vectors_fault h vec [] s = None
vectors_fault h vec (v ∷ vs) s = option_or (vector_fault h s v) (vectors_fault h (vec + 1) vs (standing_after vec v s))

-- ---- one record

-- the first record of a log that does not begin where the log before it ends
abbrev pub breaks_chain : Option Header → Header → Bool
breaks_chain None h = false
breaks_chain (Some last) h = not (last.seq == h.seq) && not (last.next == h.first)

-- a COMMIT or a ROLLBACK
abbrev pub ends_txn : Vector → Bool
ends_txn (Start x) = false
ends_txn (OfChange c) = false
ends_txn (Undo x) = false
ends_txn (Commit x) = true
ends_txn (Rollback x) = true
ends_txn (Table t) = false
ends_txn DictEnd = false

-- the first reason for which a record as a whole may not follow
abbrev pub whole_fault : Standing → Entry → Option LawFault
whole_fault s (h, r) = first_fault (
    (breaks_chain s.head h, faults.Chain)
    ∷ (nat_lt r.scn h.first || nat_le h.next r.scn || nat_lt r.scn s.scn, faults.Scn)
    ∷ (list_any ends_txn r.vectors && nat_lt 1 (length r.vectors), faults.Alone)
    ∷ [])

-- the first reason for which the record may not follow
abbrev pub record_fault : Standing → Entry → Option LawFault
record_fault s (h, r) = option_or (whole_fault s (h, r)) (vectors_fault h 1 r.vectors (standing_at_record (h, r) s))

-- ---- the dictionary that a refused record leaves

abbrev pub left_by_vectors : Header → ℕ → List Vector → Standing → Dictionary
left_by_vectors h vec [] s = s.dictionary
left_by_vectors h vec (v ∷ vs) s = option_map_or (λ fault. s.dictionary) (vector_fault h s v)
    (left_by_vectors h (vec + 1) vs (standing_after vec v s))

-- that of its vectors before the refused one; where it is refused as a whole, none of its vectors counts
abbrev pub dictionary_left : Standing → Entry → Dictionary
dictionary_left s (h, r) = option_map_or (λ fault. s.dictionary) (whole_fault s (h, r))
    (left_by_vectors h 1 r.vectors (standing_at_record (h, r) s))

-- ---- the redo

-- What the records before the first bad one leave, and why the next is bad, if one is; and the dictionary, to which
-- the vectors of a bad record before its bad one still count.
pub record Admitted : Type 0 where
  pub standing : Standing
  pub history : History
  pub fault : Option LawFault
  pub left : Dictionary

-- a fault ends what is admitted, and leaves this dictionary
abbrev pub admitted_or : Option LawFault → Dictionary → Standing → History → Admitted → Admitted
admitted_or (Some fault) left s history later = record { standing = s; history = history; fault = Some fault; left = left }
admitted_or None left s history later = later

-- the admission of these records, in order
abbrev pub admission : Standing → History → List Entry → Admitted
admission s history [] = record { standing = s; history = history; fault = None; left = s.dictionary }
admission s history (e ∷ es) =
    admitted_or (record_fault s e) (dictionary_left s e) s history
    (admission (record_after e s) (history_after (s.rec + 1) e history) es)

-- The first record that may not follow, with this fault: those before it are well, and what is admitted is what they leave.
pub record IsFirstBad (s : Standing) (h : History) (es : List Entry) (found : LawFault) : Type 0 where
  pub front : List Entry
  pub bad : Entry
  pub back : List Entry
  pub split : es ≡ front ++ bad ∷ back
  pub fit : (admission s h front).fault ≡ None
  pub refused : record_fault (standing_at s front) bad ≡ Some found
  pub standing : (admission s h es).standing ≡ standing_at s front
  pub history : (admission s h es).history ≡ history_at s.rec front h
  pub left : (admission s h es).left ≡ dictionary_left (standing_at s front) bad
