-- Why a call that writes is refused: the first reason, in the order in which reasons are told.
-- Where none is left only the commit of the durable store, or want of memory, can keep the call from being done.
use Rattle.std.specs.Prelude.{ℕ, ◌+◌, List, [], ◌∷◌, length, Bool, not, ◌==◌, nat_le, nat_lt, if◌then◌else◌, Option, is_some}
use Rattle.std.specs.FinMap.Entries as entries
use Rattle.rl_value.specs.declared.value.Value.{Value}
use Rattle.rl_value.specs.Order.{row_cmp}
use Rattle.rl_value.specs.Outcome.{first_fault}
use Rattle.redo_spec.specs.Tables.{Tables, row_count}
use Rattle.redo_spec.specs.Work.{rows_of}
use Rattle.redo_spec.specs.Skips.{Rule, has_rule, skip_limit}
use Rattle.redo_spec.specs.Fold.{live_row_limit}
use Rattle.row_apply.specs.declared.writes.Write.{Write}
use Rattle.row_apply.specs.Overlaid.{overlaid}
use Rattle.standby_spec.specs.declared.mark.Mark.{Mark}
use Rattle.standby_spec.specs.KeptState.{KeptState}
use Rattle.standby_spec.specs.Writable.{are_left_alone}
use Rattle.standby_spec.specs.Writings.{Writing, Publish, log_limit, key_in, row_write, writable, state_after}

-- the causes of a refusal, in the order in which they are told; some tell the count that is there, and one how many commits of a
-- group pass no limit
pub data Refusal : Type 0 where
  Exists : Refusal
  Taken : Refusal
  RowLimit : Refusal
  Twice : Refusal
  Limit : Refusal
  NotNext : ℕ → Refusal
  Early : ℕ → Refusal
  RowLimitAfter : ℕ → Refusal

-- a row with the same primary key is there
abbrev pub has_row : Tables → ℕ → List Value → Bool
has_row tables id key = is_some (entries.find row_cmp key (rows_of tables id))

-- another row has one of the row's unique values, once the row stands in the place of one with its key
abbrev pub is_taken : Tables → ℕ → List Value → Bool
is_taken tables id row = not (are_left_alone tables (row_write tables id row ∷ []))

-- more rows than the limit would be live
abbrev pub passes_limit : Tables → List Write → Bool
passes_limit tables writes = nat_lt live_row_limit (row_count (overlaid tables writes))

-- the first reason against a row of the base
abbrev pub base_refusal : KeptState → ℕ → List Value → Option Refusal
base_refusal s id row = first_fault (
    (has_row s.tables id (key_in s.tables id row), Exists)
    ∷ (is_taken s.tables id row, Taken)
    ∷ (passes_limit s.tables (row_write s.tables id row ∷ []), RowLimit)
    ∷ [])

-- the first reason against a user's row, which takes the place of one with its key
abbrev pub local_refusal : KeptState → ℕ → List Value → Option Refusal
local_refusal s id row = first_fault (
    (is_taken s.tables id row, Taken)
    ∷ (passes_limit s.tables (row_write s.tables id row ∷ []), RowLimit)
    ∷ [])

-- the first reason against a commit of this number; writes that may not be put in place pass no limit
abbrev pub publish_refusal : KeptState → ℕ → List Write → Option Refusal
publish_refusal s number writes = first_fault (
    (not (number == s.n + 1), NotNext s.n)
    ∷ (passes_limit s.tables (writable s.tables writes), RowLimit)
    ∷ [])

-- the first reason against a skip rule, a log and a mark
abbrev pub skip_refusal : KeptState → Rule → Option Refusal
skip_refusal s rule = first_fault ((has_rule s.skips rule, Twice) ∷ (nat_le skip_limit (length s.skips), Limit) ∷ [])

abbrev pub log_refusal : KeptState → Option Refusal
log_refusal s = first_fault ((nat_le log_limit (length s.logs), Limit) ∷ [])

abbrev pub mark_refusal : KeptState → Mark → Option Refusal
mark_refusal s k = first_fault ((nat_lt s.n k.n, Early s.n) ∷ [])

-- ---- several commits at once

-- An SCN and writes: a commit of a group. The group's front is its commits up to the first after which more rows than the limit
-- would be live, each over the tables that those before it leave: so many may be published.
abbrev pub front_of : KeptState → List (ℕ × List Write) → List Writing
front_of s [] = []
front_of s ((scn, writes) ∷ commits) =
    if passes_limit s.tables (writable s.tables writes) then []
    else Publish scn writes ∷ front_of (state_after (Publish scn writes) s) commits

-- the first reason against a group of commits, the first of which has this number; it is refused as a whole
abbrev pub group_refusal : KeptState → ℕ → List (ℕ × List Write) → Option Refusal
group_refusal s number commits = first_fault (
    (not (number == s.n + 1), NotNext s.n)
    ∷ (nat_lt (length (front_of s commits)) (length commits), RowLimitAfter (length (front_of s commits)))
    ∷ [])
