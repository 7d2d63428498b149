-- Skip rules as they are kept, in the words of the redo's definitions: what each entry says, what a list of them is, and
-- which further one it takes.
use Rattle.std.specs.Prelude.{◌≡◌, ℕ, ◌∷◌, List, [], length, Bool, true, false, not, ◌&&◌, nat_le, if◌then◌else◌, Option, Some, None, Result, Ok, Err}
use Rattle.std.specs.List.{list_any}
use Rattle.redo_spec.specs.Skips.{Rule, Tables, Transaction, Skip, has_rule, same_rule, skip_limit, is_pattern, matches}
use Rattle.skip_guard.specs.declared.entry.SkipEntry.{SkipEntry}
use Rattle.skip_guard.specs.declared.entry.SkipRule.{SkipRule}
use Rattle.skip_guard.specs.declared.entry.SkipRule.TheVariants as kept
use Rattle.skip_guard.specs.declared.entry.SkipFault.{SkipFault}
use Rattle.skip_guard.specs.declared.entry.SkipFault.TheVariants as faults

-- bytes that are a pattern give one, of these bytes; others give none
abbrev pub IsPatternOf : List ℕ → Option (List ℕ) → Type 0
IsPatternOf bytes None = is_pattern bytes ≡ false
IsPatternOf bytes (Some pattern) = (is_pattern bytes ≡ true) × (pattern ≡ bytes)

-- the rule that is kept so
abbrev pub rule_of : SkipRule → Rule
rule_of (kept.Tables pattern) = Tables pattern
rule_of (kept.Transaction x) = Transaction x

-- what the entry says
abbrev pub skip_of : SkipEntry → Skip
skip_of entry = record { rule = rule_of entry.rule; from = entry.from }

-- no rule equals a later one
abbrev pub rules_differ : List Skip → Bool
rules_differ [] = true
rules_differ (s ∷ ss) = not (list_any (λ t. same_rule s.rule t.rule) ss) && rules_differ ss

-- rules that differ, and not too many
abbrev pub are_skips : List Skip → Bool
are_skips skips = nat_le (length skips) skip_limit && rules_differ skips

-- the first reason against one more rule
abbrev pub skip_fault : List Skip → Rule → Option SkipFault
skip_fault skips rule = if has_rule skips rule then Some faults.Twice else if nat_le skip_limit (length skips) then Some
    faults.Limit else None

-- a refusal tells the first reason; memory is wanted only where there is none
abbrev pub IsRefusal : SkipFault → Option SkipFault → Type 0
IsRefusal faults.Twice reason = reason ≡ Some faults.Twice
IsRefusal faults.Limit reason = reason ≡ Some faults.Limit
IsRefusal faults.Memory reason = reason ≡ None

-- an entry is taken where there is no reason against it, and comes back where it is refused
abbrev pub TakesRule : {T : Type 0} → List Skip → SkipEntry → Result T (SkipFault × SkipEntry) → Type 0
TakesRule skips entry (Ok done) = skip_fault skips (rule_of entry.rule) ≡ None
TakesRule skips entry (Err (fault, back)) = IsRefusal fault (skip_fault skips (rule_of entry.rule)) × (back ≡ entry)

-- the rule names a table of this SCHEMA.NAME
abbrev pub names_text : Rule → List ℕ → Bool
names_text (Tables pattern) name = matches pattern name
names_text (Transaction x) name = false
