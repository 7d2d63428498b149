-- Skip rules: which changes are passed over, and which tables are maintained.
-- A rule names tables by a pattern or a transaction by its id, and counts from the commit after its `from`. That objects
-- and transactions are skipped is SQL Apply's (DBMS_LOGSTDBY.SKIP and SKIP_TRANSACTION); that a rule counts from the next
-- commit on, and the form of patterns, are this project's own.
use Rattle.std.specs.Prelude.{ℕ, List, [], ◌∷◌, ◌++◌, length, filter, Bool, false, not, ◌&&◌, ◌||◌, ◌==◌, nat_le, if◌then◌else◌, Option, Some, None}
use Rattle.std.specs.List.{list_any, list_all}
use Rattle.rl_value.specs.declared.xid.Xid.{Xid}
use Rattle.rl_value.specs.Outcome.{is_empty}
use Rattle.rl_value.specs.Order.{same_bytes}
use Rattle.rl_value.specs.Text.{is_name_byte}
use Rattle.redo_vec.specs.declared.table.TableRow.{TableRow}
use Rattle.redo_spec.specs.Dictionary.{table_of}
use Rattle.redo_spec.specs.History.{Placed, Committed, same_xid}

-- ---- patterns

-- the bytes before the first dot
abbrev pub before_dot : List ℕ → List ℕ
before_dot [] = []
before_dot (b ∷ bs) = if b == 46 then [] else b ∷ before_dot bs

-- the bytes behind the first dot, if there is one
abbrev pub behind_dot : List ℕ → List ℕ
behind_dot [] = []
behind_dot (b ∷ bs) = if b == 46 then bs else behind_dot bs

-- a byte of a name, or %
abbrev pub is_pattern_byte : ℕ → Bool
is_pattern_byte b = is_name_byte b || (b == 37)

-- 1 to 30 such bytes
abbrev pub is_pattern_part : List ℕ → Bool
is_pattern_part bytes = nat_le 1 (length bytes) && nat_le (length bytes) 30 && list_all is_pattern_byte bytes

-- two parts with one dot between them
abbrev pub is_pattern : List ℕ → Bool
is_pattern bytes = is_pattern_part (before_dot bytes) && is_pattern_part (behind_dot bytes)

-- a front of the bytes that is the byte or, for _, any byte, and then the rest
abbrev pub after_one : ℕ → (List ℕ → Bool) → List ℕ → Bool
after_one c rest [] = false
after_one c rest (b ∷ bs) = ((c == 95) || (c == b)) && rest bs

-- any front of the bytes, and then the rest
abbrev pub after_some : (List ℕ → Bool) → List ℕ → Bool
after_some rest [] = rest []
after_some rest (b ∷ bs) = rest (b ∷ bs) || after_some rest bs

-- % is any bytes, _ is any one byte, and each other byte is itself
abbrev pub matches : List ℕ → List ℕ → Bool
matches [] = is_empty
matches (c ∷ cs) = if c == 37 then after_some (matches cs) else after_one c (matches cs)

-- ---- rules

-- tables by a pattern of schema.name, or a transaction
pub data Rule : Type 0 where
  Tables : List ℕ → Rule
  Transaction : Xid → Rule

-- a rule counts from the commit after this many
pub record Skip : Type 0 where
  pub rule : Rule
  pub from : ℕ

-- two rules are equal
abbrev pub same_rule : Rule → Rule → Bool
same_rule (Tables p) (Tables q) = same_bytes p q
same_rule (Tables p) (Transaction x) = false
same_rule (Transaction x) (Tables p) = false
same_rule (Transaction x) (Transaction y) = same_xid x y

-- an equal rule is there
abbrev pub has_rule : List Skip → Rule → Bool
has_rule skips rule = list_any (λ s. same_rule s.rule rule) skips

-- the most rules
abbrev pub skip_limit : ℕ
skip_limit = 256

-- SCHEMA.NAME
abbrev pub full_name : TableRow → List ℕ
full_name t = t.schema ++ 46 ∷ t.name

-- the rule names the table
abbrev pub names_table : Rule → TableRow → Bool
names_table (Tables pattern) t = matches pattern (full_name t)
names_table (Transaction x) t = false

-- the rule names the transaction
abbrev pub names_xid : Rule → Xid → Bool
names_xid (Tables pattern) x = false
names_xid (Transaction y) x = same_xid y x

-- a table is maintained at a count where no rule that counts there names it
abbrev pub is_maintained : List Skip → ℕ → TableRow → Bool
is_maintained skips n t = not (list_any (λ s. nat_le s.from n && names_table s.rule t) skips)

-- the table is there, and is not maintained at this count
abbrev pub skips_table : List Skip → ℕ → Option TableRow → Bool
skips_table skips n None = false
skips_table skips n (Some t) = not (is_maintained skips n t)

-- a change of the commit after n is passed over, where the dictionary has these tables
abbrev pub is_skipped : List Skip → List TableRow → ℕ → Placed → Bool
is_skipped skips tables n p =
    list_any (λ s. nat_le s.from n && names_xid s.rule p.1.xid) skips
    || skips_table skips n (table_of tables p.1.table)

-- the changes of the commit after n that are not passed over
abbrev pub kept_changes : List Skip → List TableRow → ℕ → Committed → List Placed
kept_changes skips tables n c = filter (λ p. not (is_skipped skips tables n p)) c.txn.survivors
