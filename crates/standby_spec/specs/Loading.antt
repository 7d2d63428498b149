-- Loading: the state that pairs are the layout of, or the first key that is not in the layout.
-- The pairs of the areas 1 to 7 are read in their order, each under what those before it gave; the first that is refused is
-- told. So a rule that several pairs break together is told of the last of them. Two pairs are judged by what stands behind
-- them: S by the log of the first sequence, and the place of A, the key of no bytes in area 6, by whether A is there. Other
-- areas are not looked at.
-- A state has one layout (Layout), and what is loaded from it is that state, with its mark at its count.
use Rattle.std.specs.Prelude.{ℕ, zero, suc, ◌+◌, ◌^◌, List, [], ◌∷◌, ◌++◌, map, length, filter, drop, Bool, false, not, ◌&&◌, ◌==◌, ◌≡◌, nat_le, nat_lt, if◌then◌else◌, Option, Some, None, is_some, Result, Ok, Err, slice_get, unwrap_or}
use Rattle.std.specs.List.{list_any, find}
use Rattle.std.specs.Option.{option_map, option_and_then}
use Rattle.std.specs.Int.{w32, w64}
use Rattle.std.specs.Ordering.{eq_by_cmp}
use Rattle.rl_value.specs.declared.value.Value.{Value}
use Rattle.rl_value.specs.declared.miss.Miss.{Miss}
use Rattle.rl_value.specs.Order.{same_bytes, row_cmp}
use Rattle.rl_value.specs.Outcome.{◌>>=◌, or_err}
use Rattle.rl_ports.specs.declared.batch.Item.TheVariants.{Put}
use Rattle.rl_ports.specs.Store.{Store}
use Rattle.redo_vec.specs.declared.table.TableRow.{TableRow}
use Rattle.redo_vec.specs.Spelling.{be32}
use Rattle.redo_vec.specs.Cutting.{number_in}
use Rattle.redo_vec.specs.Reading.{Read, value_at, xid_at, table_at}
use Rattle.redo_spec.specs.LogHeader.{header_in, header_fault}
use Rattle.redo_spec.specs.Dictionary.{table_fault, with_table}
use Rattle.redo_spec.specs.ChangeForm.{is_row_of}
use Rattle.redo_spec.specs.Tables.{Table, Tables, primary_key, row_count, empty_tables}
use Rattle.redo_spec.specs.Effect.{add_row}
use Rattle.redo_spec.specs.Skips.{Rule, Tables as OfTables, Transaction, Skip, is_pattern, has_rule, skip_limit}
use Rattle.redo_spec.specs.Fold.{live_row_limit}
use Rattle.skip_guard.specs.declared.guard.Level.{Level}
use Rattle.skip_guard.specs.declared.guard.Level.TheVariants.{All, Standby}
use Rattle.row_apply.specs.Overlaid.{overlaid}
use Rattle.log_registry.specs.declared.entry.LogEntry.{LogEntry}
use Rattle.log_registry.specs.Registered.{entry_of}
use Rattle.standby_spec.specs.declared.mark.Mark.{Mark}
use Rattle.standby_spec.specs.KeptState.{KeptState}
use Rattle.standby_spec.specs.Checkpoint.{at_count}
use Rattle.standby_spec.specs.Layout.{standby_key, applied_key, mark_key}
use Rattle.standby_spec.specs.Writings.{log_limit, row_write, write_item}

-- ---- pairs

-- an area and a key in it
abbrev pub StorePlace : Type 0
StorePlace = ℕ × List ℕ

-- a key and its value
abbrev pub KeyValue : Type 0
KeyValue = List ℕ × List ℕ

-- the greatest area of the layout
abbrev pub last_area : ℕ
last_area = 7

-- the pairs of the areas of the layout
abbrev pub kept_pairs : Store → Store
kept_pairs s = filter (λ e. nat_le 1 e.0.0 && nat_le e.0.0 last_area) s

-- the pairs of one area
abbrev pub of_area : ℕ → Store → List KeyValue
of_area area s = map (λ e. (e.0.1, e.1)) (filter (λ e. e.0.0 == area) s)

-- a pair has this key
abbrev pub has_key : List ℕ → List KeyValue → Bool
has_key key pairs = list_any (λ p. same_bytes p.0 key) pairs

-- What the pairs of an area give, each read under what those before it gave, or the first that is refused.
abbrev pub read_area : {A : Type 0} → ℕ → (A → KeyValue → Option A) → A → List KeyValue → Result A StorePlace
read_area area step so_far [] = Ok so_far
read_area area step so_far (p ∷ pairs) = or_err (step so_far p) (area, p.0) >>= λ next. read_area area step next pairs

-- the value, where the test holds
abbrev pub when_true : {A : Type 0} → Bool → A → Option A
when_true test x = if test then Some x else None

-- what was read, if nothing is left behind it
abbrev pub read_whole : {A : Type 0} → Read A → Option A
read_whole (Ok (x, [])) = Some x
read_whole (Ok (x, b ∷ left)) = None
read_whole (Err fault) = None

-- the byte at a place
abbrev pub byte_in : ℕ → List ℕ → ℕ
byte_in at bytes = unwrap_or (slice_get bytes at) 0

-- ---- area 1: the standby

pub record Identity : Type 0 where
  pub dbid : ℕ
  pub first : ℕ
  pub base : ℕ
  pub level : Level

abbrev pub level_of : ℕ → Option Level
level_of byte = if byte == 1 then Some All else if byte == 2 then Some Standby else None

abbrev pub identity_in : List ℕ → Level → Identity
identity_in value level = record {
  dbid = number_in w32 0 value;
  first = number_in w32 4 value;
  base = number_in w64 8 value;
  level = level;
}

-- the log of the first sequence has to be there
abbrev pub with_first_log : List KeyValue → Identity → Option Identity
with_first_log logs identity = when_true (has_key (be32 identity.first) logs) identity

abbrev pub standby_step : List KeyValue → Option Identity → KeyValue → Option (Option Identity)
standby_step logs so_far (key, value) =
    if same_bytes key standby_key && (length value == 17)
    then option_map Some (option_and_then (λ level. with_first_log logs (identity_in value level)) (level_of (byte_in 16 value)))
    else None

-- ---- area 2: registered logs

abbrev pub no_fault : {F : Type 0} → Option F → Bool
no_fault fault = not (is_some fault)

-- a header without a fault, of this database and not before the first log, and a length that has room for the header
abbrev pub is_log_of : Identity → List ℕ → List ℕ → Bool
is_log_of identity key value =
    no_fault (header_fault (number_in w32 0 key) value) && nat_le identity.first (number_in w32 0 key) &&
    ((header_in value).dbid == identity.dbid)
    && nat_le 40 (number_in w64 40 value)

abbrev pub log_step : Identity → List LogEntry → KeyValue → Option (List LogEntry)
log_step identity logs (key, value) = when_true
    ((length key == 4) && (length value == 48) && is_log_of identity key value && nat_lt (length logs) log_limit)
    (logs ++ record { head = header_in value; length = number_in w64 40 value } ∷ [])

-- ---- area 3: tables

-- a table that those before it take
abbrev pub tables_with : List TableRow → TableRow → Option (List TableRow)
tables_with tables t = when_true (no_fault (table_fault tables t)) (with_table t tables)

-- a key and its value are the body of a TABLE vector
abbrev pub table_step : List TableRow → KeyValue → Option (List TableRow)
table_step tables (key, value) = if length key == 4 then option_and_then (tables_with tables)
    (read_whole (table_at 0 (key ++ value))) else None

-- ---- area 4: skip rules

abbrev pub rule_in : ℕ → List ℕ → Option Rule
rule_in kind bytes =
    if kind == 1 then when_true (is_pattern bytes) (OfTables bytes)
    else if kind == 2 then option_map Transaction (read_whole (xid_at 0 bytes))
    else None

-- one more rule, that is not there yet
abbrev pub with_rule : List Skip → ℕ → Rule → Option (List Skip)
with_rule skips from rule = when_true (not (has_rule skips rule) && nat_lt (length skips) skip_limit && nat_lt from (2 ^ 62))
    (skips ++ record { rule = rule; from = from } ∷ [])

abbrev pub skip_step : List Skip → KeyValue → Option (List Skip)
skip_step skips (key, value) =
    if same_bytes key (be32 (length skips + 1)) && nat_le 9 (length value)
    then option_and_then (with_rule skips (number_in w64 0 value)) (rule_in (byte_in 8 value) (drop 9 value))
    else None

-- ---- area 5: rows

-- a value, and then what the bytes behind it give
abbrev pub after_value : Read Value → (List ℕ → Option (List Value)) → Option (List Value)
after_value (Err fault) rest = None
after_value (Ok (v, left)) rest = option_map (λ vs. v ∷ vs) (rest left)

-- values one behind the other to the end, so many at most
abbrev pub values_within : ℕ → List ℕ → Option (List Value)
values_within n [] = Some []
values_within zero (b ∷ bytes) = None
values_within (suc n) (b ∷ bytes) = after_value (value_at 0 (b ∷ bytes)) (values_within n)

abbrev pub values_in : List ℕ → Option (List Value)
values_in bytes = values_within (length bytes) bytes

abbrev pub table_added : Result Table Miss → Option Table
table_added (Ok t) = Some t
table_added (Err miss) = None

-- a row that fits the table and stands under its own key, and does not miss as it is added to the others
abbrev pub row_into : Table → List Value → List Value → Option Table
row_into t key row = if is_row_of t.row.columns row && eq_by_cmp row_cmp (primary_key t.row row) key then table_added
    (add_row t row) else None

-- the tables with this one in place of that of its id
abbrev pub with_rows_of : Table → Tables → Tables
with_rows_of t tables = map (λ u. if u.row.id == t.row.id then t else u) tables

abbrev pub table_with_pair : Table → KeyValue → Option Table
table_with_pair t (key, value) = option_and_then (λ k. option_and_then (row_into t k) (values_in value)) (values_in (drop 4 key))

abbrev pub row_step : Tables → KeyValue → Option Tables
row_step tables (key, value) =
    if nat_le 4 (length key) && nat_lt (row_count tables) live_row_limit
    then option_map (λ t. with_rows_of t tables) (option_and_then (λ t. table_with_pair t (key, value))
    (find (λ t. t.row.id == number_in w32 0 key) tables))
    else None

-- ---- area 6: what is applied

-- a count and its SCN
abbrev pub Applied : Type 0
Applied = ℕ × ℕ

abbrev pub applied_step : Applied → KeyValue → Option Applied
applied_step so_far (key, value) = when_true
    (same_bytes key applied_key && (length value == 16) && nat_lt (number_in w64 0 value) (2 ^ 62))
    (number_in w64 0 value, number_in w64 8 value)

-- ---- area 7: the mark

abbrev pub mark_in : ℕ → List ℕ → Mark
mark_in n value = record {
  q = number_in w64 1 value;
  m = number_in w64 9 value;
  before = number_in w64 17 value;
  place = record {
    seq = number_in w32 25 value;
    at = number_in w64 29 value;
    done = number_in w32 37 value;
    rec = number_in w64 1 value;
  };
  q_scn = number_in w64 41 value;
  m_scn = number_in w64 49 value;
  commit_scn = number_in w64 57 value;
  n = n;
}

-- the place lies in this log, which is there
abbrev pub lies_in : Mark → Option LogEntry → Bool
lies_in k None = false
lies_in k (Some e) = nat_le 40 k.place.at && nat_le k.place.at e.length && nat_le k.place.done e.head.count

-- a mark that may be kept where so many commits are applied
abbrev pub is_mark_in : List LogEntry → ℕ → Mark → Bool
is_mark_in logs n k =
    nat_lt k.q (2 ^ 62) && nat_lt k.m (2 ^ 62) && nat_lt k.before (2 ^ 62) && nat_lt k.place.at (2 ^ 62) && nat_le k.q k.m &&
    nat_le k.before n
    && lies_in k (entry_of k.place.seq logs)

abbrev pub mark_step : List LogEntry → ℕ → Option Mark → KeyValue → Option (Option Mark)
mark_step logs n so_far (key, value) = when_true
    (same_bytes key mark_key && (length value == 65) && (byte_in 0 value == 1) && is_mark_in logs n (mark_in n value))
    (Some (mark_in n value))

-- ---- the whole

-- what is loaded
pub data Loaded : Type 0 where
  Image : KeptState → Loaded
  Fresh : Loaded
  Bad : ℕ → List ℕ → Loaded

abbrev pub loaded_of : Result KeptState StorePlace → Loaded
loaded_of (Ok s) = Image s
loaded_of (Err place) = Bad place.0 place.1

-- S is there, and so it is what area 1 gave
abbrev pub identity_or : Option Identity → Result Identity StorePlace
identity_or identity = or_err identity (1, standby_key)

abbrev pub standby_in : Store → Result Identity StorePlace
standby_in s = read_area 1 (standby_step (of_area 2 s)) None (of_area 1 s) >>= identity_or

abbrev pub logs_in : Identity → Store → Result (List LogEntry) StorePlace
logs_in identity s = read_area 2 (log_step identity) [] (of_area 2 s)

abbrev pub tables_in : Store → Result (List TableRow) StorePlace
tables_in s = read_area 3 table_step [] (of_area 3 s)

abbrev pub skips_in : Store → Result (List Skip) StorePlace
skips_in s = read_area 4 skip_step [] (of_area 4 s)

abbrev pub rows_in : List TableRow → Store → Result Tables StorePlace
rows_in rows s = read_area 5 row_step (empty_tables rows) (of_area 5 s)

-- where A is not there, its place is told by the key of no bytes, which comes before each key
abbrev pub applied_in : Store → Result Applied StorePlace
applied_in s = if has_key applied_key (of_area 6 s) then read_area 6 applied_step (0, 0) (of_area 6 s) else Err (6, [])

abbrev pub marks_in : List LogEntry → ℕ → Store → Result (Option Mark) StorePlace
marks_in logs n s = read_area 7 (mark_step logs n) None (of_area 7 s)

abbrev pub state_of : Identity → List LogEntry → List Skip → Tables → Applied → Option Mark → KeptState
state_of identity logs skips tables applied mark = record {
  dbid = identity.dbid;
  first = identity.first;
  base = identity.base;
  level = identity.level;
  logs = logs;
  skips = skips;
  tables = tables;
  n = applied.0;
  scn = applied.1;
  mark = mark;
}

-- the areas in their order, where S is there
abbrev pub state_in : Store → Result KeptState StorePlace
state_in s = do
  identity ← standby_in s
  logs ← logs_in identity s
  rows ← tables_in s
  skips ← skips_in s
  tables ← rows_in rows s
  applied ← applied_in s
  mark ← marks_in logs applied.0 s
  Ok (state_of identity logs skips tables applied mark)

-- nothing at all is fresh; where S is not there the first key is bad
abbrev pub loaded_pairs : Store → Loaded
loaded_pairs [] = Fresh
loaded_pairs (e ∷ es) = if has_key standby_key (of_area 1 (e ∷ es)) then loaded_of (state_in (e ∷ es)) else Bad e.0.0 e.0.1

-- what is loaded from a store
unfoldable pub loaded : Store → Loaded
loaded s = loaded_pairs (kept_pairs s)

-- a state as it is loaded: its mark has its count
abbrev pub as_loaded : KeptState → KeptState
as_loaded s = record s { mark = option_map (at_count s.n) s.mark }

-- ---- rows as a list

-- the tables with these rows put in, each with its table's id: what a caller makes of the rows that it is told one by one
abbrev pub with_rows : Tables → List (ℕ × List Value) → Tables
with_rows tables [] = tables
with_rows tables ((id, row) ∷ rows) = with_rows (overlaid tables (row_write tables id row ∷ [])) rows

-- the rows are told in the order of their pairs in the store, and so each once
abbrev pub AreRowsOf : List TableRow → List (ℕ × List Value) → Store → Type 0
AreRowsOf tables rows s = map (λ r. write_item (row_write (empty_tables tables) r.0 r.1)) rows ≡
    map (λ p. Put 5 p.0 p.1) (of_area 5 s)
