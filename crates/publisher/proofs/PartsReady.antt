-- Laws of parts of a state that are made ready: a log, a skip rule, the level of the guard, a mark.
use Rattle.std.proofs.Common.{◌≡◌, ℕ, ◌+◌, ◌<◌, ◌≤◌, List, [], ◌∷◌, ◌++◌, length, true, false, refl, ap, ◌∙◌, Some, None, Ok, Err, arith}
use Rattle.std.specs.Prelude.{Bool, nat_le, nat_lt, if◌then◌else◌}
use Rattle.std.proofs.lemmas.Bool.Decides.{nat_tests}
use Rattle.rl_value.specs.Outcome.{first_fault}
use Rattle.redo_spec.specs.Skips.{Rule, Skip, has_rule, skip_limit}
use Rattle.skip_guard.specs.Rules.{skip_fault, IsRefusal}
use Rattle.skip_guard.specs.declared.entry.SkipFault.{SkipFault}
use Rattle.skip_guard.specs.declared.entry.SkipFault.TheVariants as refusals
use Rattle.skip_guard.specs.declared.guard.Level.{Level}
use Rattle.log_registry.specs.declared.entry.LogEntry.{LogEntry}
use Rattle.log_registry.specs.Registered.{with_log}
use Rattle.row_apply.specs.Soundness.{AreSound}
use Rattle.standby_spec.specs.declared.mark.Mark.{Mark}
use Rattle.standby_spec.specs.KeptState.{KeptState}
use Rattle.standby_spec.specs.Layout.{standby_item, log_item, skip_item, mark_item}
use Rattle.standby_spec.specs.Publishing.{Refused}
use Rattle.standby_spec.specs.Refusals.{Twice, Limit, Early, log_refusal, skip_refusal, mark_refusal}
use Rattle.standby_spec.specs.Writings.{AddLog, AddSkip, SetLevel, KeepMark, log_limit, skip_from, state_after, items_for}
use Rattle.publisher.specs.declared.fault.PubFault.TheVariants as faults
use Rattle.publisher.specs.declared.prepared.Prepared.{Prepared}
use Rattle.publisher.specs.Endings.{Tells, ending_of_fault}
use Rattle.publisher.specs.Parts.{skip_reason, skip_fault_of}
use Rattle.publisher.specs.Prepares.{PreparesWriting}
use Rattle.publisher.specs.Shown.{shown_next, with_logs, with_skips, with_level, with_mark}
use Rattle.publisher.proofs.Ready.{prepared-ok, prepared-err}
use Rattle.publisher.proofs.RowsReady.{past-first, at-first}

pub log-ok : (s : KeptState) (e : LogEntry) (logs : List LogEntry) (p : Prepared) →
    nat_le log_limit (length s.logs) ≡ false → p.batch ≡ log_item e ∷ [] →
    shown_next p.next (Some s) ≡ Some (with_logs logs s) → logs ≡ with_log e s.logs → AreSound s.tables →
    PreparesWriting (AddLog e) s (log_refusal s) (Ok p)
log-ok s e logs p free batch shown with sound =
    prepared-ok (items_for (AddLog e) s) (Some s) (state_after (AddLog e) s) (log_refusal s) p
    (past-first (nat_le log_limit (length s.logs)) Limit [] free) batch refl (shown ∙ ap (λ ls. Some (with_logs ls s)) with) sound

pub log-limit : (s : KeptState) (e : LogEntry) → nat_le log_limit (length s.logs) ≡ true →
    PreparesWriting (AddLog e) s (log_refusal s) (Err faults.Limit)
log-limit s e full =
    prepared-err (items_for (AddLog e) s) (Some s) (state_after (AddLog e) s) (log_refusal s) faults.Limit
    (at-first (nat_le log_limit (length s.logs)) Limit [] full) refl

pub skip-ok : (s : KeptState) (rule : Rule) (skips : List Skip) (p : Prepared) → skip_refusal s rule ≡ None →
    p.batch ≡ skip_item (length s.skips + 1) (skip_from s.n rule) ∷ [] →
    shown_next p.next (Some s) ≡ Some (with_skips skips s) → skips ≡ s.skips ++ skip_from s.n rule ∷ [] → AreSound s.tables →
    PreparesWriting (AddSkip rule) s (skip_refusal s rule) (Ok p)
skip-ok s rule skips p none batch shown with sound =
    prepared-ok (items_for (AddSkip rule) s) (Some s) (state_after (AddSkip rule) s) (skip_refusal s rule) p none batch refl
    (shown ∙ ap (λ ks. Some (with_skips ks s)) with) sound

pub level-ok : (s : KeptState) (level : Level) (p : Prepared) → p.batch ≡ standby_item (record s { level = level }) ∷ [] →
    shown_next p.next (Some s) ≡ Some (with_level level s) → AreSound s.tables → PreparesWriting (SetLevel level) s None (Ok p)
level-ok s level p batch shown sound =
    prepared-ok (items_for (SetLevel level) s) (Some s) (state_after (SetLevel level) s) None p refl batch refl shown sound

pub mark-ok : (s : KeptState) (k : Mark) (p : Prepared) → nat_lt s.n k.n ≡ false → p.batch ≡ mark_item k ∷ [] →
    shown_next p.next (Some s) ≡ Some (with_mark k s) → AreSound s.tables →
    PreparesWriting (KeepMark k) s (mark_refusal s k) (Ok p)
mark-ok s k p early batch shown sound =
    prepared-ok (items_for (KeepMark k) s) (Some s) (state_after (KeepMark k) s) (mark_refusal s k) p
    (past-first (nat_lt s.n k.n) (Early s.n) [] early) batch refl shown sound

pub mark-early : (s : KeptState) (k : Mark) → nat_lt s.n k.n ≡ true →
    PreparesWriting (KeepMark k) s (mark_refusal s k) (Err (faults.Early s.n))
mark-early s k early =
    prepared-err (items_for (KeepMark k) s) (Some s) (state_after (KeepMark k) s) (mark_refusal s k) (faults.Early s.n)
    (at-first (nat_lt s.n k.n) (Early s.n) [] early) refl

-- ---- a rule that is refused

twice-told : (there full : Bool) → (if there then Some refusals.Twice else if full then Some refusals.Limit else None) ≡ Some refusals.Twice →
    first_fault ((there, Twice) ∷ (full, Limit) ∷ []) ≡ Some Twice
twice-told true full e = refl
twice-told false true e = absurd (cc)
twice-told false false e = absurd (cc)

limit-told : (there full : Bool) → (if there then Some refusals.Twice else if full then Some refusals.Limit else None) ≡ Some refusals.Limit →
    first_fault ((there, Twice) ∷ (full, Limit) ∷ []) ≡ Some Limit
limit-told true full e = absurd (cc)
limit-told false true e = refl
limit-told false false e = absurd (cc)

none-told : (there full : Bool) → (if there then Some refusals.Twice else if full then Some refusals.Limit else None) ≡ None →
    first_fault ((there, Twice) ∷ (full, Limit) ∷ []) ≡ None
none-told true full e = absurd (cc)
none-told false true e = absurd (cc)
none-told false false e = refl

-- the first reason of the rules is that of the call
pub rule-taken : (skips : List Skip) (rule : Rule) → skip_fault skips rule ≡ None → skip_reason skips rule ≡ None
rule-taken skips rule none = none-told (has_rule skips rule) (nat_le skip_limit (length skips)) none

pub rule-refused : (skips : List Skip) (rule : Rule) (fault : SkipFault) → IsRefusal fault (skip_fault skips rule) →
    Tells (skip_reason skips rule) (skip_fault_of fault)
rule-refused skips rule refusals.Twice is = twice-told (has_rule skips rule) (nat_le skip_limit (length skips)) is
rule-refused skips rule refusals.Limit is = limit-told (has_rule skips rule) (nat_le skip_limit (length skips)) is
rule-refused skips rule refusals.Memory is = tt

pub rule-own : (fault : SkipFault) → ending_of_fault (skip_fault_of fault) ≡ Refused
rule-own refusals.Twice = refl
rule-own refusals.Limit = refl
rule-own refusals.Memory = refl

-- ---- counts compared

pub is-lower : (m n : ℕ) → m < n → nat_lt m n ≡ true
is-lower m n e = grind (arith, nat_tests)

pub not-lower : (m n : ℕ) → n ≤ m → nat_lt m n ≡ false
not-lower m n e = grind (arith, nat_tests)
