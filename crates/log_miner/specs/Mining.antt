-- What a contract sees of a miner: what it keeps of the records so far, and what one more record gives.
-- It keeps the open transactions alone; of a transaction that has ended it keeps nothing, but the count of commits. So its
-- memory is bounded by what is open, and not by the redo.
-- Where the lines of all records come one behind the other they are those of `MinedLines`.
use Rattle.std.specs.Prelude.{ℕ, ◌+◌, ◌-◌, ◌^◌, List, [], ◌∷◌, ◌++◌, map, codes, Bool, true, false, Option, Some, None}
use Rattle.std.specs.List.{flat_map}
use Rattle.std.specs.Option.{option_map_or}
use Rattle.rl_value.specs.declared.cause.LawFault.{LawFault}
use Rattle.rl_value.specs.declared.pos.Pos.{Pos}
use Rattle.redo_vec.specs.declared.table.TableRow.{TableRow}
use Rattle.redo_vec.specs.declared.vector.Vector.{Vector}
use Rattle.redo_vec.specs.declared.vector.Vector.TheVariants.{Start, Change as OfChange, Undo, Commit, Rollback, Table, DictEnd}
use Rattle.redo_spec.specs.declared.header.Header.{Header}
use Rattle.redo_spec.specs.Dictionary.{Dictionary, no_dictionary}
use Rattle.redo_spec.specs.History.{Entry}
use Rattle.redo_spec.specs.Standing.{Standing, beginning, record_after}
use Rattle.redo_spec.specs.Law.{record_fault, dictionary_left}
use Rattle.redo_spec.specs.Lines.{Line}
use Rattle.sql_text.specs.Contents.{word_line, change_line, vector_line}
use Rattle.log_miner.specs.Live.{Live, live_of, live_after, live_after_all}
use Rattle.log_miner.specs.MinedLines.{latest, lines_of}

-- ---- the lines of a vector

abbrev pub latest_of : List Live → Option Pos
latest_of [] = None
latest_of (t ∷ ts) = latest t.places

-- the position that a vector takes back
abbrev pub taken_back : List Live → Vector → Option Pos
taken_back live (Start x) = None
taken_back live (OfChange c) = None
taken_back live (Undo x) = latest_of (live_of x live)
taken_back live (Commit x) = None
taken_back live (Rollback x) = None
taken_back live (Table t) = None
taken_back live DictEnd = None

-- the lines of a transaction that commits at this position in a record of this SCN
abbrev pub ended_lines : List TableRow → ℕ → Pos → Live → List Line
ended_lines tables scn at t =
    word_line (codes "START") t.scn t.start t.xid
    ∷ (map (λ p. change_line tables p.0 p.1) t.changes ++ word_line (codes "COMMIT") scn at t.xid ∷ [])

abbrev pub commit_given : List TableRow → ℕ → Pos → Vector → List Live → List Line
commit_given tables scn at (Start x) live = []
commit_given tables scn at (OfChange c) live = []
commit_given tables scn at (Undo x) live = []
commit_given tables scn at (Commit x) live = flat_map (ended_lines tables scn at) (live_of x live)
commit_given tables scn at (Rollback x) live = []
commit_given tables scn at (Table t) live = []
commit_given tables scn at DictEnd live = []

-- what a vector gives, in plain and in committed mode
abbrev pub vector_given : Bool → List TableRow → ℕ → Pos → Vector → List Live → List Line
vector_given false tables scn at v live = lines_of (vector_line tables scn at (taken_back live v) v)
vector_given true tables scn at v live = commit_given tables scn at v live

-- the lines of these vectors of record rec, the first of which has this number in it
abbrev pub given_by : Bool → List TableRow → ℕ → ℕ → ℕ → List Vector → List Live → List Line
given_by committed tables scn rec vec [] live = []
given_by committed tables scn rec vec (v ∷ vs) live =
    let at : Pos = record { rec = rec; vec = vec } in
    vector_given committed tables scn at v live
    ++ given_by committed tables scn rec (vec + 1) vs (live_after committed scn at v live)

-- how many commits a vector makes
abbrev pub commits_of : Vector → ℕ
commits_of (Start x) = 0
commits_of (OfChange c) = 0
commits_of (Undo x) = 0
commits_of (Commit x) = 1
commits_of (Rollback x) = 0
commits_of (Table t) = 0
commits_of DictEnd = 0

abbrev pub commits_in : List Vector → ℕ
commits_in [] = 0
commits_in (v ∷ vs) = commits_of v + commits_in vs

-- ---- the miner

-- A miner: whether it is in committed mode, the standing of the records so far (none before the first), the open transactions,
-- and the count of commits.
pub record Mining : Type 0 where
  pub committed : Bool
  pub standing : Option Standing
  pub live : List Live
  pub commits : ℕ

-- before the first record
abbrev pub unbegun : Bool → Mining
unbegun committed = record { committed = committed; standing = None; live = []; commits = 0 }

-- the standing in which a record of a log of this header finds the miner: the first one begins at its log
abbrev pub standing_or : Option Standing → Header → Standing
standing_or None h = beginning h.seq (h.first - 1)
standing_or (Some s) h = s

-- the dictionary so far
abbrev pub dictionary_so_far : Mining → Dictionary
dictionary_so_far m = option_map_or (λ s. s.dictionary) m.standing no_dictionary

-- a miner after one more record, which may follow, and which finds this standing
abbrev pub mined_from : Standing → Entry → Mining → Mining
mined_from s (h, r) m = record {
  committed = m.committed;
  standing = Some (record_after (h, r) s);
  live = live_after_all m.committed r.scn (s.rec + 1) 1 r.vectors m.live;
  commits = m.commits + commits_in r.vectors;
}

abbrev pub mined_record : Entry → Mining → Mining
mined_record (h, r) m = mined_from (standing_or m.standing h) (h, r) m

-- the lines of one more record, which may follow, and which finds this standing
abbrev pub given_from : Standing → Entry → Mining → List Line
given_from s (h, r) m = given_by m.committed (record_after (h, r) s).dictionary.tables r.scn (s.rec + 1) 1 r.vectors m.live

abbrev pub record_given : Entry → Mining → List Line
record_given (h, r) m = given_from (standing_or m.standing h) (h, r) m

-- the first reason for which a record may not follow
abbrev pub reason_against : Entry → Mining → Option LawFault
reason_against (h, r) m = record_fault (standing_or m.standing h) (h, r)

-- the dictionary that a refused record leaves
abbrev pub refused_leaves : Entry → Mining → Dictionary
refused_leaves (h, r) m = dictionary_left (standing_or m.standing h) (h, r)

-- Where a record was refused the dictionary and the last commit are known, and no record is the next one: its number would not
-- fit 64 bits.
abbrev pub refused_standing : Dictionary → ℕ → Standing
refused_standing d scn = record (beginning 0 scn) { rec = 2 ^ 64; dictionary = d }

-- ---- a list of records

-- the lines of these records, one behind the other, all of which may follow
abbrev pub records_given : List Entry → Mining → List Line
records_given [] m = []
records_given (e ∷ es) m = record_given e m ++ records_given es (mined_record e m)

-- a miner after these records
abbrev pub mined_records : List Entry → Mining → Mining
mined_records [] m = m
mined_records (e ∷ es) m = mined_records es (mined_record e m)
