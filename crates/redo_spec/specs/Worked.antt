-- Worked examples: small logs, and what they fold to. `src/worked.rt` states each as a theorem that holds by computing.
-- HR.EMP has ID, a number and the primary key, and NAME and EMAIL, texts that may be Null; EMAIL is a unique key. Log 1 is of
-- database 9 with SCNs 100 to 199, and its record 1 at SCN 100 has the dictionary.
use Rattle.std.specs.Prelude.{ℕ, ◌+◌, ◌-◌, pos, List, [], ◌∷◌, ◌++◌, map, length, take, replicate, true, false, codes, if◌then◌else◌, ◌==◌, Option, Some, None}
use Rattle.std.specs.List.{flat_map}
use Rattle.rl_value.specs.declared.value.Value.{Value}
use Rattle.rl_value.specs.declared.value.Value.TheVariants.{Null, Number, Text}
use Rattle.rl_value.specs.declared.xid.Xid.{Xid}
use Rattle.rl_value.specs.declared.verdict.Stop.{Stop}
use Rattle.rl_value.specs.declared.verdict.Stop.TheVariants.{Drained}
use Rattle.redo_vec.specs.declared.change.Change.{Change}
use Rattle.redo_vec.specs.declared.change.Op.TheVariants.{Insert, Update, Delete}
use Rattle.redo_vec.specs.declared.columns.Column.{Column}
use Rattle.redo_vec.specs.declared.columns.Kind.{Kind}
use Rattle.redo_vec.specs.declared.columns.Kind.TheVariants as kinds
use Rattle.redo_vec.specs.declared.table.TableRow.{TableRow}
use Rattle.redo_vec.specs.declared.vector.Vector.{Vector}
use Rattle.redo_vec.specs.declared.vector.Vector.TheVariants.{Start, Change as OfChange, Undo, Commit, Rollback, Table, DictEnd}
use Rattle.redo_vec.specs.declared.redo_rec.RedoRec.{RedoRec}
use Rattle.redo_spec.specs.declared.header.Header.{Header}
use Rattle.redo_spec.specs.Log.{Log, log_bytes}
use Rattle.redo_spec.specs.History.{Entry, Commits, no_history}
use Rattle.redo_spec.specs.Tables.{Tables}
use Rattle.redo_spec.specs.Standing.{beginning}
use Rattle.redo_spec.specs.Law.{admission}
use Rattle.redo_spec.specs.Mark.{resumed}
use Rattle.redo_spec.specs.ConflictKeys.{conflict_keys}
use Rattle.redo_spec.specs.Watermark.{watermark_at}
use Rattle.redo_spec.specs.Skips.{Skip}
use Rattle.redo_spec.specs.Fold.{folded, empty_base, known_tables, visible_tables, fold_of_redo, redo_end}
use Rattle.redo_spec.specs.Redo.{fold_of_log, mined_redo, redo_from}
use Rattle.redo_spec.specs.Lines.{fold_lines, table_lines}

-- a record at this SCN
abbrev pub rec : ℕ → List Vector → RedoRec
rec scn vectors = record { scn = scn; vectors = vectors }

-- the transaction id of this undo segment
abbrev pub one_of : ℕ → Xid
one_of usn = record { usn = usn; slot = 1; sqn = 1 }

-- ---- one number in table T.A

abbrev pub t_a : TableRow
t_a = record {
  id = 1;
  schema = codes "T";
  name = codes "A";
  columns = record { name = codes "ID"; kind = kinds.Number; nullable = false } ∷ [];
  keys = (0 ∷ []) ∷ [];
}

abbrev pub x123 : Xid
x123 = record { usn = 1; slot = 2; sqn = 3 }

abbrev pub first_log : Log
first_log = record {
  head = record { seq = 1; dbid = 9; first = 100; next = 200; count = 3 };
  records =
      rec 100 (Table t_a ∷ DictEnd ∷ [])
      ∷ rec 101 (Start x123 ∷ OfChange (record { xid = x123; op = Insert; table = 1; old = []; new = (0, Number (pos 7)) ∷ [] }) ∷
      [])
      ∷ rec 102 (Commit x123 ∷ [])
      ∷ [];
}

abbrev pub first_bytes : List ℕ
first_bytes =
    0x53 ∷ 0x52 ∷ 0x4c ∷ 0x31 ∷ 0 ∷ 1 ∷ 0 ∷ 1 ∷ 0 ∷ 0 ∷ 0 ∷ 9 ∷ 0 ∷ 0 ∷ 0 ∷ 1
    ∷ 0 ∷ 0 ∷ 0 ∷ 0 ∷ 0 ∷ 0 ∷ 0 ∷ 0x64 ∷ 0 ∷ 0 ∷ 0 ∷ 0 ∷ 0 ∷ 0 ∷ 0 ∷ 0xc8 ∷ 0 ∷ 0 ∷ 0 ∷ 3 ∷ 0 ∷ 0 ∷ 0 ∷ 0
    ∷ 0 ∷ 0 ∷ 0 ∷ 0x23 ∷ 0 ∷ 0 ∷ 0 ∷ 0 ∷ 0 ∷ 0 ∷ 0 ∷ 0x64 ∷ 0 ∷ 2
    ∷ 8 ∷ 0 ∷ 0 ∷ 0 ∷ 1 ∷ 1 ∷ 0x54 ∷ 1 ∷ 0x41 ∷ 1 ∷ 2 ∷ 0x49 ∷ 0x44 ∷ 1 ∷ 0 ∷ 0 ∷ 0 ∷ 1 ∷ 0 ∷ 0 ∷ 9
    ∷ 0 ∷ 0 ∷ 0 ∷ 0x30 ∷ 0 ∷ 0 ∷ 0 ∷ 0 ∷ 0 ∷ 0 ∷ 0 ∷ 0x65 ∷ 0 ∷ 2
    ∷ 1 ∷ 0 ∷ 1 ∷ 0 ∷ 2 ∷ 0 ∷ 0 ∷ 0 ∷ 3
    ∷ 2 ∷ 0 ∷ 1 ∷ 0 ∷ 2 ∷ 0 ∷ 0 ∷ 0 ∷ 3 ∷ 0 ∷ 0 ∷ 0 ∷ 1 ∷ 0 ∷ 1 ∷ 0 ∷ 1 ∷ 0 ∷ 0 ∷ 0 ∷ 0 ∷ 0 ∷ 0 ∷ 0 ∷ 7
    ∷ 0 ∷ 0 ∷ 0 ∷ 0x17 ∷ 0 ∷ 0 ∷ 0 ∷ 0 ∷ 0 ∷ 0 ∷ 0 ∷ 0x66 ∷ 0 ∷ 1 ∷ 6 ∷ 0 ∷ 1 ∷ 0 ∷ 2 ∷ 0 ∷ 0 ∷ 0 ∷ 3
    ∷ []

-- ---- HR.EMP

abbrev pub emp : TableRow
emp = record {
  id = 1;
  schema = codes "HR";
  name = codes "EMP";
  columns =
      record { name = codes "ID"; kind = kinds.Number; nullable = false }
      ∷ record { name = codes "NAME"; kind = kinds.Text 30; nullable = true }
      ∷ record { name = codes "EMAIL"; kind = kinds.Text 30; nullable = true } ∷ [];
  keys = (0 ∷ []) ∷ (2 ∷ []) ∷ [];
}

abbrev pub head_of : ℕ → Header
head_of count = record { seq = 1; dbid = 9; first = 100; next = 200; count = count }

-- the values by their columns, from this one on
abbrev pub numbered : ℕ → List Value → List (ℕ × Value)
numbered column [] = []
numbered column (v ∷ vs) = (column, v) ∷ numbered (column + 1) vs

abbrev pub insert : ℕ → Value → Value → Value → Vector
insert usn id name email = OfChange (record {
  xid = one_of usn;
  op = Insert;
  table = 1;
  old = [];
  new = (0, id) ∷ (1, name) ∷ (2, email) ∷ [];
})

abbrev pub update : ℕ → List (ℕ × Value) → List (ℕ × Value) → Vector
update usn old new = OfChange (record { xid = one_of usn; op = Update; table = 1; old = old; new = new })

-- an insert of all columns into table 1
abbrev pub insert_all : ℕ → List Value → Vector
insert_all usn values = OfChange (record { xid = one_of usn; op = Insert; table = 1; old = []; new = numbered 0 values })

abbrev pub emp_entries : List RedoRec → List Entry
emp_entries records = map (λ r. (head_of 9, r)) (rec 100 (Table emp ∷ DictEnd ∷ []) ∷ records)

abbrev pub emp_fold : List RedoRec → Stop → List (List ℕ)
emp_fold records stop = fold_lines (fold_of_redo 1 99 (emp_entries records) stop)

abbrev pub n : ℕ → Value
n k = Number (pos k)

-- an update that was undone
abbrev pub undone_update : List RedoRec
undone_update =
    rec 101 (Start (one_of 1) ∷ insert 1 (n 1) (Text (codes "Ann")) Null ∷ [])
    ∷ rec 102 (update 1 ((0, n 1) ∷ (1, Text (codes "Ann")) ∷ []) ((1, Text (codes "Bob")) ∷ []) ∷ [])
    ∷ rec 103 (Undo (one_of 1) ∷ [])
    ∷ rec 104 (Commit (one_of 1) ∷ []) ∷ []

-- two open transactions insert one key
abbrev pub locked_key : List RedoRec
locked_key =
    rec 101 (Start (one_of 1) ∷ insert 1 (n 1) Null Null ∷ [])
    ∷ rec 102 (Start (one_of 2) ∷ insert 2 (n 1) Null Null ∷ []) ∷ []

-- an update of a row that is not there
abbrev pub absent_row : List RedoRec
absent_row =
    rec 101 (Start (one_of 1) ∷ update 1 ((0, n 1) ∷ (1, Text (codes "O'Neil")) ∷ (2, Null) ∷ [])
    ((1, Null) ∷ (2, Text (codes "o@x")) ∷ []) ∷ [])
    ∷ rec 102 (Commit (one_of 1) ∷ []) ∷ []

-- the last record is cut short
abbrev pub cut_short : List RedoRec
cut_short =
    rec 101 (Start (one_of 1) ∷ insert 1 (n 7) Null Null ∷ [])
    ∷ rec 102 (Commit (one_of 1) ∷ [])
    ∷ rec 103 (Start (one_of 2) ∷ insert 2 (n 8) Null Null ∷ []) ∷ []

-- an insert, and then an update whose old value is not the one found
abbrev pub differing_row : List RedoRec
differing_row =
    rec 101 (Start (one_of 1) ∷ insert 1 (n 1) (Text (codes "Z")) Null ∷ [])
    ∷ rec 102 (Commit (one_of 1) ∷ [])
    ∷ rec 103 (Start (one_of 2) ∷ update 2 ((0, n 1) ∷ (1, Text (codes "A")) ∷ []) ((1, Text (codes "B")) ∷ []) ∷ [])
    ∷ rec 104 (Commit (one_of 2) ∷ []) ∷ []

-- ---- from bytes

abbrev pub fold_bytes : ℕ → Option (List ℕ) → List (List ℕ)
fold_bytes seq bytes = fold_lines (fold_of_log seq bytes)

-- a log whose last byte is missing
abbrev pub shortened : List ℕ → List ℕ
shortened bytes = take (length bytes - 1) bytes

abbrev pub cut_short_log : List ℕ
cut_short_log = shortened (log_bytes (record {
  head = head_of 5;
  records = rec 100 (Table emp ∷ DictEnd ∷ []) ∷ cut_short ++ rec 104 (Commit (one_of 2) ∷ []) ∷ [];
}))

-- a table of a number and a text of up to 500 bytes
abbrev pub t_b : TableRow
t_b = record {
  id = 1;
  schema = codes "T";
  name = codes "B";
  columns =
      record { name = codes "ID"; kind = kinds.Number; nullable = false }
      ∷ record { name = codes "TXT"; kind = kinds.Text 500; nullable = true } ∷ [];
  keys = (0 ∷ []) ∷ [];
}

-- a log with a text of so many bytes
abbrev pub long_text_log : ℕ → List ℕ
long_text_log size = log_bytes (record {
  head = head_of 3;
  records =
      rec 100 (Table t_b ∷ DictEnd ∷ [])
      ∷ rec 101 (Start (one_of 1) ∷ OfChange (record {
        xid = one_of 1;
        op = Insert;
        table = 1;
        old = [];
        new = (0, n 1) ∷ (1, Text (replicate size 97)) ∷ [];
      }) ∷ [])
      ∷ rec 102 (Commit (one_of 1) ∷ [])
      ∷ [];
})

-- a log of one transaction that inserts a text
abbrev pub short_text_log : List ℕ
short_text_log = log_bytes (record {
  head = head_of 3;
  records =
      rec 100 (Table emp ∷ DictEnd ∷ [])
      ∷ rec 101 (Start (one_of 1) ∷ insert 1 (n 1) (Text (codes "Ann")) Null ∷ [])
      ∷ rec 102 (Commit (one_of 1) ∷ [])
      ∷ [];
})

-- ---- what makes a record bad

-- the last line of these
abbrev pub last_line : List (List ℕ) → List ℕ
last_line [] = []
last_line (line ∷ []) = line
last_line (line ∷ next ∷ lines) = last_line (next ∷ lines)

-- the END line of a fold of these records behind the dictionary
abbrev pub emp_end : List RedoRec → List ℕ
emp_end records = last_line (emp_fold records Drained)

abbrev pub start : ℕ → Vector
start usn = Start (one_of usn)

abbrev pub commit : ℕ → RedoRec
commit usn = rec 102 (Commit (one_of usn) ∷ [])

abbrev pub row : ℕ → ℕ → Vector
row usn id = insert usn (n id) Null Null

abbrev pub with_email : ℕ → ℕ → List ℕ → Vector
with_email usn id email = insert usn (n id) Null (Text email)

-- an insert into a table that is not in the dictionary
abbrev pub unknown_table : Vector
unknown_table = OfChange (record { xid = one_of 1; op = Insert; table = 7; old = []; new = (0, n 1) ∷ [] })

-- an update that does not log the old value of what it sets
abbrev pub unlogged_update : Vector
unlogged_update = update 1 ((0, n 1) ∷ []) ((1, Text (codes "Bob")) ∷ [])

-- an update of an email that logs it and the primary key, as is wanted
abbrev pub logged_update : Vector
logged_update = update 1 ((0, n 1) ∷ (2, Null) ∷ []) ((2, Text (codes "b@x")) ∷ [])

-- an insert that leaves a column out, and one of a text where a number is wanted
abbrev pub short_insert : Vector
short_insert = OfChange (record { xid = one_of 1; op = Insert; table = 1; old = []; new = (0, n 1) ∷ (1, Null) ∷ [] })

abbrev pub mistyped_insert : Vector
mistyped_insert = insert 1 (Text (codes "one")) Null Null

-- a first transaction holds a unique value, a second one a primary key, and a third touches both: the primary key is the
-- lesser of them
abbrev pub two_holders : List RedoRec
two_holders =
    rec 101 (start 1 ∷ with_email 1 5 (codes "e@x") ∷ [])
    ∷ rec 101 (start 2 ∷ row 2 4 ∷ [])
    ∷ rec 101 (start 3 ∷ with_email 3 4 (codes "e@x") ∷ [])
    ∷ []

-- the END line of a fold whose first record has these vectors
abbrev pub dictionary_end : List Vector → List ℕ
dictionary_end vectors = last_line (fold_lines (fold_of_redo 1 99 ((head_of 1, rec 100 vectors) ∷ []) Drained))

abbrev pub column_of_numbers : List ℕ → Column
column_of_numbers name = record { name = name; kind = kinds.Number; nullable = false }

-- a table of two numbers with these keys
abbrev pub keyed : List (List ℕ) → TableRow
keyed keys = record {
  id = 2;
  schema = codes "T";
  name = codes "K";
  columns = column_of_numbers (codes "A") ∷ column_of_numbers (codes "B") ∷ [];
  keys = keys;
}

-- a table of one text of this size
abbrev pub text_keyed : ℕ → TableRow
text_keyed size = record {
  id = 2;
  schema = codes "T";
  name = codes "W";
  columns = record { name = codes "A"; kind = kinds.Text size; nullable = false } ∷ [];
  keys = (0 ∷ []) ∷ [];
}

-- a second log that begins at this SCN, with a record there, behind a first one that ends before 200
abbrev pub two_logs : ℕ → List Entry
two_logs first =
    (head_of 1, rec 100 (Table emp ∷ DictEnd ∷ []))
    ∷ (record { seq = 2; dbid = 9; first = first; next = 300; count = 1 }, rec first (start 1 ∷ []))
    ∷ []

abbrev pub two_logs_end : ℕ → List ℕ
two_logs_end first = last_line (fold_lines (fold_of_redo 1 99 (two_logs first) Drained))

-- one byte more behind the last record
abbrev pub trailing_log : List ℕ
trailing_log = short_text_log ++ 0 ∷ []

-- ---- effects

-- a table of an id and two unique numbers
abbrev pub two_uniques : TableRow
two_uniques = record {
  id = 1;
  schema = codes "T";
  name = codes "U";
  columns =
      column_of_numbers (codes "ID")
      ∷ record { name = codes "A"; kind = kinds.Number; nullable = true }
      ∷ record { name = codes "B"; kind = kinds.Number; nullable = true } ∷ [];
  keys = (0 ∷ []) ∷ (1 ∷ []) ∷ (2 ∷ []) ∷ [];
}

-- two transactions that each insert a row of three values into it
abbrev pub two_rows : List Value → List Value → List (List ℕ)
two_rows first second = fold_lines (fold_of_redo 1 99 (map (λ r. (head_of 9, r)) (
    rec 100 (Table two_uniques ∷ DictEnd ∷ [])
    ∷ rec 101 (start 1 ∷ insert_all 1 first ∷ []) ∷ rec 102 (Commit (one_of 1) ∷ [])
    ∷ rec 103 (start 2 ∷ insert_all 2 second ∷ []) ∷ rec 104 (Commit (one_of 2) ∷ [])
    ∷ [])) Drained)

-- an update of the primary key; an insert then takes the old key
abbrev pub moved_row : List RedoRec
moved_row =
    rec 101 (start 1 ∷ insert 1 (n 1) (Text (codes "A")) Null ∷ [])
    ∷ rec 102 (Commit (one_of 1) ∷ [])
    ∷ rec 103 (start 2 ∷ update 2 ((0, n 1) ∷ []) ((0, n 5) ∷ []) ∷ [])
    ∷ rec 104 (Commit (one_of 2) ∷ [])
    ∷ rec 105 (start 3 ∷ insert 3 (n 1) (Text (codes "N")) Null ∷ [])
    ∷ rec 106 (Commit (one_of 3) ∷ [])
    ∷ []

-- a row that is already there
abbrev pub existing_row : List RedoRec
existing_row =
    rec 101 (start 1 ∷ row 1 1 ∷ []) ∷ rec 102 (Commit (one_of 1) ∷ [])
    ∷ rec 103 (start 2 ∷ row 2 1 ∷ []) ∷ rec 104 (Commit (one_of 2) ∷ [])
    ∷ []

-- the id of a transaction that has ended is used again
abbrev pub xid_used_again : List RedoRec
xid_used_again =
    rec 101 (start 1 ∷ row 1 1 ∷ []) ∷ rec 102 (Rollback (one_of 1) ∷ [])
    ∷ rec 103 (start 1 ∷ row 1 2 ∷ []) ∷ rec 104 (Commit (one_of 1) ∷ [])
    ∷ []

-- ---- waiting for a commit

abbrev pub delete : ℕ → List (ℕ × Value) → Change
delete usn old = record { xid = one_of usn; op = Delete; table = 1; old = old; new = [] }

abbrev pub later_insert : Change
later_insert = record {
  xid = one_of 2;
  op = Insert;
  table = 1;
  old = [];
  new = (0, n 2) ∷ (1, Text (codes "B")) ∷ (2, Text (codes "x@a")) ∷ [];
}

-- a row is inserted; a delete gives its unique value up, and a later insert takes it
abbrev pub freed_value : List RedoRec
freed_value =
    rec 101 (start 4 ∷ insert 4 (n 1) (Text (codes "A")) (Text (codes "x@a")) ∷ [])
    ∷ rec 102 (Commit (one_of 4) ∷ [])
    ∷ rec 103 (start 1 ∷ OfChange (delete 1 ((0, n 1) ∷ (1, Text (codes "A")) ∷ (2, Text (codes "x@a")) ∷ [])) ∷ [])
    ∷ rec 104 (Commit (one_of 1) ∷ [])
    ∷ rec 105 (start 2 ∷ OfChange later_insert ∷ [])
    ∷ rec 106 (Commit (one_of 2) ∷ [])
    ∷ []

abbrev pub freed_commits : Commits
freed_commits = (admission (beginning 1 99) (no_history 0) (emp_entries freed_value)).history.commits

-- which commit the later insert waits for
abbrev pub later_watermark : ℕ
later_watermark = watermark_at [] (emp ∷ []) freed_commits (record { rec = 6; vec = 2 }) (conflict_keys (emp ∷ []) later_insert)

-- ---- behind a mark

-- three transactions side by side
abbrev pub side_by_side : List RedoRec
side_by_side =
    rec 101 (start 1 ∷ row 1 1 ∷ [])
    ∷ rec 102 (start 2 ∷ row 2 2 ∷ [])
    ∷ rec 103 (Commit (one_of 1) ∷ [])
    ∷ rec 104 (start 3 ∷ row 3 3 ∷ [])
    ∷ rec 105 (Commit (one_of 2) ∷ [])
    ∷ rec 106 (Commit (one_of 3) ∷ [])
    ∷ []

-- the fold of it by a run from record 3 on over the row of commit 1, where records up to this one may be of transactions
-- that began before
abbrev pub folded_behind : ℕ → List (List ℕ)
folded_behind known =
    let a = resumed 1 99 (emp_entries side_by_side) 2 known in
    fold_lines (folded (record {
      tables = record { row = emp; rows = (n 1 ∷ [], n 1 ∷ Null ∷ Null ∷ []) ∷ [] } ∷ [];
      n = 1;
      scn = 103;
      local = [];
    }) [] a.history.commits (redo_end a Drained))

-- ---- skips

-- the fold of records under skip rules
abbrev pub folded_under : List Skip → List RedoRec → List (List ℕ)
folded_under skips records =
    let a = admission (beginning 1 99) (no_history 0) (emp_entries records) in
    fold_lines (folded (empty_base 99 a.standing) skips a.history.commits (redo_end a Drained))

-- ---- mining

-- log 1 of database 9 and log 2 of this database; there is no other
abbrev pub mined_logs : ℕ → ℕ → Option (List ℕ)
mined_logs dbid seq =
    if seq == 1 then Some short_text_log
    else if seq == 2 then Some (log_bytes (record {
      head = record { seq = 2; dbid = dbid; first = 200; next = 300; count = 1 };
      records = rec 200 (start 1 ∷ []) ∷ [];
    }))
    else None

abbrev pub mined_stop : ℕ → ℕ → Stop
mined_stop dbid last = (mined_redo (mined_logs dbid) 1 last).stop

-- ---- transactions that end in another way, or side by side

-- a transaction is rolled back, and another takes its key
abbrev pub rolled_back : List RedoRec
rolled_back =
    rec 101 (start 1 ∷ row 1 1 ∷ []) ∷ rec 102 (Rollback (one_of 1) ∷ [])
    ∷ rec 103 (start 2 ∷ insert 2 (n 1) (Text (codes "New")) Null ∷ []) ∷ rec 104 (Commit (one_of 2) ∷ [])
    ∷ []

-- an insert is taken back; another transaction takes its key and commits; the first one then updates that row
abbrev pub undone_insert : List RedoRec
undone_insert =
    rec 101 (start 1 ∷ row 1 1 ∷ row 1 2 ∷ [])
    ∷ rec 103 (Undo (one_of 1) ∷ [])
    ∷ rec 104 (start 2 ∷ insert 2 (n 2) (Text (codes "U")) Null ∷ [])
    ∷ rec 105 (Commit (one_of 2) ∷ [])
    ∷ rec 106 (update 1 ((0, n 2) ∷ (1, Text (codes "U")) ∷ []) ((1, Text (codes "T")) ∷ []) ∷ [])
    ∷ rec 107 (Commit (one_of 1) ∷ [])
    ∷ []

-- an update of a row that is not there, by a transaction that is rolled back
abbrev pub missed_and_rolled_back : List RedoRec
missed_and_rolled_back =
    rec 101 (start 1 ∷ [])
    ∷ rec 102 (update 1 ((0, n 1) ∷ (1, Text (codes "A")) ∷ []) ((1, Text (codes "B")) ∷ []) ∷ [])
    ∷ rec 103 (Rollback (one_of 1) ∷ [])
    ∷ []

-- ---- locks

-- an open transaction has given a unique value up, and another takes it
abbrev pub given_up_value : List RedoRec
given_up_value =
    rec 101 (start 4 ∷ insert 4 (n 1) (Text (codes "A")) (Text (codes "x@a")) ∷ []) ∷ rec 102 (Commit (one_of 4) ∷ [])
    ∷ rec 103 (start 1 ∷ update 1 ((0, n 1) ∷ (2, Text (codes "x@a")) ∷ []) ((2, Null) ∷ []) ∷ [])
    ∷ rec 104 (start 2 ∷ with_email 2 2 (codes "x@a") ∷ [])
    ∷ []

-- ---- several registered logs

-- a log of ten SCNs, with its sequence
abbrev pub log_at : ℕ → ℕ → List RedoRec → ℕ × List ℕ
log_at seq first records = (
  seq,
  log_bytes (record {
    head = record { seq = seq; dbid = 9; first = first; next = first + 10; count = length records };
    records = records;
  }),
)

abbrev pub log_1 : ℕ × List ℕ
log_1 = log_at 1 100 (rec 100 (Table emp ∷ DictEnd ∷ []) ∷ rec 101 (start 1 ∷ row 1 1 ∷ []) ∷
    rec 102 (Commit (one_of 1) ∷ []) ∷ [])

abbrev pub log_2 : ℕ × List ℕ
log_2 = log_at 2 110 (rec 110 (start 2 ∷ row 2 2 ∷ []) ∷ rec 111 (Commit (one_of 2) ∷ []) ∷ [])

abbrev pub logs_3_and_4 : List (ℕ × List ℕ)
logs_3_and_4 =
    log_at 3 120 (rec 120 (start 3 ∷ row 3 3 ∷ []) ∷ rec 121 (Commit (one_of 3) ∷ []) ∷ [])
    ∷ log_at 4 130 (rec 130 (start 4 ∷ []) ∷ []) ∷ []

abbrev pub log_5 : ℕ × List ℕ
log_5 = log_at 5 140 (rec 140 (row 4 4 ∷ []) ∷ rec 141 (Commit (one_of 4) ∷ []) ∷ [])

-- the END line of the fold of registered logs, the first of which is log 1
abbrev pub registered_end : List (ℕ × List ℕ) → List ℕ
registered_end logs = let redo = redo_from 1 0 logs in last_line (fold_lines (fold_of_redo 1 99 redo.entries redo.stop))

-- ---- a table that is not maintained

abbrev pub audit : TableRow
audit = record {
  id = 2;
  schema = codes "HR";
  name = codes "AUDIT";
  columns =
      record { name = codes "ID"; kind = kinds.Number; nullable = false }
      ∷ record { name = codes "WHAT"; kind = kinds.Text 40; nullable = true } ∷ [];
  keys = (0 ∷ []) ∷ [];
}

abbrev pub audited : List Entry
audited = map (λ r. (head_of 3, r)) (
    rec 100 (Table emp ∷ Table audit ∷ DictEnd ∷ [])
    ∷ rec 101 (
    start 1
    ∷ OfChange (record { xid = one_of 1; op = Insert; table = 2; old = []; new = (0, n 1) ∷ (1, Text (codes "p")) ∷ [] })
    ∷ insert 1 (n 1) (Text (codes "A")) Null ∷ [])
    ∷ rec 102 (Commit (one_of 1) ∷ [])
    ∷ [])

-- a row that a user wrote into HR.AUDIT
abbrev pub audit_row : Tables
audit_row = record { row = audit; rows = (n 1 ∷ [], n 1 ∷ Text (codes "x") ∷ []) ∷ [] } ∷ []

-- the tables that a query sees behind these records, with the row of the user
abbrev pub audited_under : List Skip → List (List ℕ)
audited_under skips =
    let a = admission (beginning 1 99) (no_history 0) audited in
    let f = folded (record { tables = known_tables a.standing; n = 0; scn = 99; local = audit_row }) skips a.history.commits
    (redo_end a Drained) in
    flat_map table_lines (visible_tables skips f.n audit_row f.tables)

-- ---- the dictionary

-- a table whose widest row has 1,018 bytes and this many
abbrev pub wide : ℕ → TableRow
wide size = record {
  id = 2;
  schema = codes "T";
  name = codes "R";
  columns =
      record { name = codes "A"; kind = kinds.Text 500; nullable = true }
      ∷ record { name = codes "B"; kind = kinds.Text 500; nullable = true }
      ∷ column_of_numbers (codes "ID")
      ∷ record { name = codes "C"; kind = kinds.Text size; nullable = true } ∷ [];
  keys = (2 ∷ []) ∷ [];
}

-- the dictionary ends in a second log
abbrev pub late_dictionary : List Entry
late_dictionary =
    (head_of 1, rec 100 (Table emp ∷ []))
    ∷ (record { seq = 2; dbid = 9; first = 200; next = 300; count = 1 }, rec 200 (DictEnd ∷ []))
    ∷ []

-- a table whose unique key has two columns
abbrev pub paired : TableRow
paired = record {
  id = 1;
  schema = codes "T";
  name = codes "P";
  columns = column_of_numbers (codes "ID") ∷ column_of_numbers (codes "A") ∷ column_of_numbers (codes "B") ∷ [];
  keys = (0 ∷ []) ∷ (1 ∷ 2 ∷ []) ∷ [];
}

-- the END line of these records behind a dictionary of that table and a commit of its row of ID 1 with the values 1 and 5
abbrev pub paired_end : List RedoRec → List ℕ
paired_end records = last_line (fold_lines (fold_of_redo 1 99 (map (λ r. (head_of 9, r)) (
    rec 100 (Table paired ∷ DictEnd ∷ [])
    ∷ rec 101 (start 4 ∷ insert_all 4 (n 1 ∷ n 1 ∷ n 5 ∷ []) ∷ [])
    ∷ rec 102 (Commit (one_of 4) ∷ [])
    ∷ records)) Drained))

-- the update of the row of ID 1 that sets the first column of its unique key, where these are its old cells
abbrev pub half_moved : List (ℕ × Value) → Vector
half_moved old = update 1 old ((1, n 2) ∷ [])

abbrev pub half_moved_logged : List (ℕ × Value)
half_moved_logged = (0, n 1) ∷ (1, n 1) ∷ (2, n 5) ∷ []

-- a table of one raw value of this size
abbrev pub raw_keyed : ℕ → TableRow
raw_keyed size = record {
  id = 2;
  schema = codes "T";
  name = codes "X";
  columns = record { name = codes "A"; kind = kinds.Raw size; nullable = false } ∷ [];
  keys = (0 ∷ []) ∷ [];
}

-- a column of this kind that may not be Null
abbrev pub sure_column : Kind → Column
sure_column kind = record { name = codes "A"; kind = kind; nullable = false }
