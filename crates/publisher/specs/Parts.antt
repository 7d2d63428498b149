-- Parts of a state, by themselves.
use Rattle.std.specs.Prelude.{ℕ, ◌≡◌, ◌-◌, false, List, [], ◌∷◌, length, nat_le, Option, IsSome, IfSome, IsTrue}
use Rattle.rl_value.specs.declared.value.Value.{Value}
use Rattle.rl_value.specs.Outcome.{first_fault}
use Rattle.redo_spec.specs.ChangeForm.{is_row_of}
use Rattle.redo_spec.specs.Dictionary.{table_of}
use Rattle.redo_spec.specs.Skips.{Rule, Skip, has_rule, skip_limit, is_maintained}
use Rattle.redo_spec.specs.Tables.{Tables, definitions_of}
use Rattle.skip_guard.specs.declared.entry.SkipFault.{SkipFault}
use Rattle.skip_guard.specs.declared.entry.SkipFault.TheVariants as skips_refuse
use Rattle.skip_guard.specs.declared.guard.Level.TheVariants.{All, Standby}
use Rattle.log_registry.specs.declared.entry.LogEntry.{LogEntry}
use Rattle.standby_spec.specs.KeptState.{KeptState}
use Rattle.standby_spec.specs.Refusals.{Refusal, Twice, Limit}
use Rattle.kept_layout.specs.declared.identity.Identity.{Identity}
use Rattle.publisher.specs.declared.fault.PubFault.{PubFault}
use Rattle.publisher.specs.declared.fault.PubFault.TheVariants as faults

-- the identity of a standby that is created from this log
abbrev pub first_identity : LogEntry → Identity
first_identity e = record { dbid = e.head.dbid; first = e.head.seq; base = e.head.first - 1; level = All }

-- the first reason against one more skip rule
abbrev pub skip_reason : List Skip → Rule → Option Refusal
skip_reason skips rule = first_fault ((has_rule skips rule, Twice) ∷ (nat_le skip_limit (length skips), Limit) ∷ [])

-- why a rule is refused, as a fault of the call
abbrev pub skip_fault_of : SkipFault → PubFault
skip_fault_of skips_refuse.Twice = faults.Twice
skip_fault_of skips_refuse.Limit = faults.Limit
skip_fault_of skips_refuse.Memory = faults.Memory

-- the table is there, and the row has as many values as it has columns, each of its column
pub record FitsTable (tables : Tables) (id : ℕ) (row : List Value) : Type 0 where
  pub there : IsSome (table_of (definitions_of tables) id)
  pub fits : IfSome (table_of (definitions_of tables) id) (λ t. IsTrue (is_row_of t.columns row))

-- users may write the table: the guard lets them, and it is not maintained
pub record IsLocal (id : ℕ) (s : KeptState) : Type 0 where
  pub level : s.level ≡ Standby
  pub local : IfSome (table_of (definitions_of s.tables) id) (λ t. is_maintained s.skips s.n t ≡ false)
