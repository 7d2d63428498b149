-- The lines of `mine`: the contents of logs of consecutive sequences, and the END line.
-- In plain mode each vector has its line, in the order of the redo. In committed mode there are the lines of committed
-- transactions alone, commit by commit: the START, the changes that survive, the COMMIT, each with the SCN of its own record. A
-- record that may not follow ends the contents and has no line, none of its vectors. After Database Utilities, LogMiner, and its
-- option COMMITTED_DATA_ONLY.
use Rattle.std.specs.Prelude.{ℕ, ◌+◌, ◌-◌, List, [], ◌∷◌, ◌++◌, map, take, length, codes, Bool, true, false, Option, Some, None, slice_get}
use Rattle.std.specs.List.{flat_map}
use Rattle.std.specs.Option.{option_map, option_map_or}
use Rattle.rl_value.specs.declared.cause.HeadFault.{HeadFault}
use Rattle.rl_value.specs.declared.pos.Pos.{Pos}
use Rattle.rl_value.specs.declared.verdict.Stop.{Stop}
use Rattle.rl_value.specs.declared.verdict.Verdict.TheVariants.{Stopped}
use Rattle.redo_vec.specs.declared.table.TableRow.{TableRow}
use Rattle.redo_vec.specs.declared.vector.Vector.{Vector}
use Rattle.redo_vec.specs.declared.vector.Vector.TheVariants.{Start, Change as OfChange, Undo, Commit, Rollback, Table, DictEnd}
use Rattle.redo_spec.specs.LogHeader.{header_in, header_fault}
use Rattle.redo_spec.specs.History.{Entry, Txn, of_xid, Committed, History, no_history, commit_count, after_vector, history_after}
use Rattle.redo_spec.specs.Standing.{Standing, beginning, record_after, standing_at}
use Rattle.redo_spec.specs.Law.{Admitted, admission}
use Rattle.redo_spec.specs.Fold.{redo_end}
use Rattle.redo_spec.specs.Redo.{Redo, mined_redo}
use Rattle.redo_spec.specs.Lines.{Line, end_line}
use Rattle.sql_text.specs.Contents.{word_line, change_line, vector_line}

-- a line, or none
abbrev pub lines_of : Option Line → List Line
lines_of None = []
lines_of (Some line) = line ∷ []

-- ---- what an UNDO takes back

-- the latest item
abbrev pub latest : {A : Type 0} → List A → Option A
latest items = slice_get items (length items - 1)

abbrev pub latest_survivor : List Txn → Option Pos
latest_survivor [] = None
latest_survivor (t ∷ ts) = option_map (λ p. p.0) (latest t.survivors)

-- the position of the change that the vector takes back, behind these open transactions
abbrev pub undone_by : List Txn → Vector → Option Pos
undone_by active (Start x) = None
undone_by active (OfChange c) = None
undone_by active (Undo x) = latest_survivor (of_xid x active)
undone_by active (Commit x) = None
undone_by active (Rollback x) = None
undone_by active (Table t) = None
undone_by active DictEnd = None

-- ---- plain

-- the lines of these vectors of record rec, the first of which has this number in it, behind this history
abbrev pub vector_lines : List TableRow → ℕ → ℕ → ℕ → List Vector → History → List Line
vector_lines tables scn rec vec [] h = []
vector_lines tables scn rec vec (v ∷ vs) h =
    let at : Pos = record { rec = rec; vec = vec } in
    lines_of (vector_line tables scn at (undone_by h.active v) v) ++ vector_lines tables scn rec (vec + 1) vs (after_vector scn
    at v h)

-- the lines of one more record, by the tables that the dictionary then has
abbrev pub record_lines : Standing → History → Entry → List Line
record_lines s h (head, r) = vector_lines (record_after (head, r) s).dictionary.tables r.scn (s.rec + 1) 1 r.vectors h

-- the lines of these records behind a standing and its history
abbrev pub plain_lines : Standing → History → List Entry → List Line
plain_lines s h [] = []
plain_lines s h (e ∷ es) = record_lines s h e ++ plain_lines (record_after e s) (history_after (s.rec + 1) e h) es

-- ---- committed

-- the SCN of the record of this number
abbrev pub scn_of : List Entry → ℕ → ℕ
scn_of entries rec = option_map_or (λ e. e.1.scn) (slice_get entries (rec - 1)) 0

-- the tables that the dictionary has behind the record of this number
abbrev pub tables_behind : Standing → List Entry → ℕ → List TableRow
tables_behind s entries rec = (standing_at s (take rec entries)).dictionary.tables

-- the lines of a committed transaction
abbrev pub commit_lines : List TableRow → (ℕ → ℕ) → Committed → List Line
commit_lines tables scn c =
    word_line (codes "START") (scn c.txn.start.rec) c.txn.start c.txn.xid
    ∷ map (λ p. change_line tables (scn p.0.rec) p) c.txn.survivors
    ++ word_line (codes "COMMIT") c.scn c.at c.txn.xid ∷ []

-- the lines of these commits of the records
abbrev pub committed_lines : Standing → List Entry → List Committed → List Line
committed_lines s entries commits = flat_map (λ c. commit_lines (tables_behind s entries c.at.rec) (scn_of entries) c) commits

-- ---- the command

-- the contents of records that may all follow, behind this beginning
abbrev pub contents_lines : Bool → Standing → List Entry → History → List Line
contents_lines false s entries h = plain_lines s (no_history 0) entries
contents_lines true s entries h = committed_lines s entries h.commits.made

-- the SCN before the first one of the redo: that of its first log, or 0 where this is absent or its header is refused
abbrev pub base_or : Option HeadFault → List ℕ → ℕ
base_or (Some fault) bytes = 0
base_or None bytes = (header_in bytes).first - 1

abbrev pub base_of : ℕ → Option (List ℕ) → ℕ
base_of first None = 0
base_of first (Some bytes) = base_or (header_fault first bytes) bytes

-- what is mined: the lines of the contents, and the END line
pub record Mined : Type 0 where
  pub lines : List Line
  pub stop : Stop
  pub end : Line

abbrev pub mined_admitted : Bool → Standing → Redo → Admitted → Mined
mined_admitted committed s redo a =
    let stop = redo_end a redo.stop in
    record {
      lines = contents_lines committed s (take a.standing.rec redo.entries) a.history;
      stop = stop;
      end = end_line a.left.tables a.standing.commit_scn (commit_count a.history.commits) (Stopped stop);
    }

-- the contents of a redo whose first log has this sequence and follows this SCN
abbrev pub mined_of_redo : Bool → ℕ → ℕ → Redo → Mined
mined_of_redo committed first base redo =
    let s = beginning first base in mined_admitted committed s redo (admission s (no_history 0) redo.entries)

-- the contents of the logs of these sequences, both included
abbrev pub mined_of_logs : Bool → (ℕ → Option (List ℕ)) → ℕ → ℕ → Mined
mined_of_logs committed logs first last = mined_of_redo committed first (base_of first (logs first)) (mined_redo logs first last)

-- the lines of `mine`
abbrev pub mined_lines : Mined → List Line
mined_lines m = m.lines ++ m.end ∷ []
