-- The whole of a load: what each of its calls tells of the store.
use Rattle.std.proofs.Common.{◌≡◌, ◌^◌, ◌<◌, List, [], true, false, sym, ap, ◌∙◌, Option, Some, None, is_some, Ok, Result, inr}
use Rattle.rl_value.specs.Outcome.{◌>>=◌}
use Rattle.rl_ports.specs.Faults.{Told}
use Rattle.rl_ports.specs.Store.{Store}
use Rattle.redo_spec.specs.Skips.{Skip}
use Rattle.redo_spec.specs.Tables.{Tables}
use Rattle.redo_vec.specs.declared.table.TableRow.{TableRow}
use Rattle.log_registry.specs.declared.entry.LogEntry.{LogEntry}
use Rattle.log_registry.specs.Registered.{entry_of}
use Rattle.standby_spec.specs.declared.mark.Mark.{Mark}
use Rattle.standby_spec.specs.Loading.{Applied, Fresh, StorePlace, of_area, logs_in, tables_in, skips_in, rows_in, applied_in, marks_in, state_of, state_in, loaded_of, loaded}
use Rattle.kept_layout.specs.declared.identity.Identity.{Identity as KeptIdentity}
use Rattle.kept_layout.specs.Pairs.{identity_of}
use Rattle.checkpoint.specs.declared.fault.LoadFault.{LoadFault}
use Rattle.checkpoint.specs.declared.fault.LoadFault.TheVariants as faults
use Rattle.checkpoint.specs.declared.image.Image.{Image}
use Rattle.checkpoint.specs.Areas.{IsBadKey}
use Rattle.checkpoint.specs.Beginning.{IsFirstBad, HasIdentity}
use Rattle.checkpoint.specs.Images.{image_state, FaultTells}
use Rattle.checkpoint.specs.Read.{contents_in}
use Rattle.checkpoint.proofs.Beginnings.{loaded_there}
use Rattle.checkpoint.proofs.Chains.{bad_on, bad_same, known_identity, known_logs, known_contents, known_applied, known_mark, log_is_there}
use Rattle.standby_spec.specs.Loading as loading

pub told_given : (known : Option Store) (P Q : Store → Type 0) → Told known P → Told known (λ s. Q s → P s)
told_given None P Q told = tt
told_given (Some s) P Q told = λ q. told

-- ---- the logs

pub first_lost : (known : Option Store) (i : KeptIdentity) (logs : List LogEntry) (P : Store → Type 0) → i.first < 2 ^ 32 →
    is_some (entry_of i.first logs) ≡ false → Told known (λ s. logs_in (identity_of i) s ≡ Ok logs) →
    Told known (λ s. HasIdentity s i → P s)
first_lost None i logs P fits lost read = tt
first_lost (Some s) i logs P fits lost read = λ has.
    let there : is_some (entry_of i.first logs) ≡ true =
    log_is_there (identity_of i) i.first [] logs (of_area 2 s) fits read (inr has.first) in
    absurd (cc)

-- ---- the rules and the tables

abbrev rows_behind : Store → List TableRow → List Skip → Result (List Skip × Tables) StorePlace
rows_behind s ts skips = rows_in ts s >>= λ tables. Ok (skips, tables)

abbrev rules_behind : Store → List TableRow → Result (List Skip × Tables) StorePlace
rules_behind s ts = skips_in s >>= λ skips. rows_behind s ts skips

pub no_tables : (known : Option Store) (f : LoadFault) → Told known (λ s. IsBadKey f (tables_in s)) →
    Told known (λ s. IsBadKey f (contents_in s))
no_tables None f bad = tt
no_tables (Some s) f bad = bad_on f (tables_in s) (rules_behind s) bad

pub no_rules : (known : Option Store) (ts : List TableRow) (f : LoadFault) → Told known (λ s. tables_in s ≡ Ok ts) →
    Told known (λ s. IsBadKey f (skips_in s)) → Told known (λ s. IsBadKey f (contents_in s))
no_rules None ts f tables bad = tt
no_rules (Some s) ts f tables bad =
    bad_same f (rules_behind s ts) (contents_in s) (sym (ap (λ r. r >>= rules_behind s) tables))
    (bad_on f (skips_in s) (rows_behind s ts) bad)

pub no_rows : (known : Option Store) (ts : List TableRow) (skips : List Skip) (f : LoadFault) →
    Told known (λ s. tables_in s ≡ Ok ts) → Told known (λ s. skips_in s ≡ Ok skips) →
    Told known (λ s. IsBadKey f (rows_in ts s)) →
    Told known (λ s. IsBadKey f (contents_in s))
no_rows None ts skips f tables rules bad = tt
no_rows (Some s) ts skips f tables rules bad =
    bad_same f (rows_behind s ts skips) (contents_in s)
    (sym (ap (λ r. r >>= rules_behind s) tables ∙ ap (λ r. r >>= rows_behind s ts) rules))
    (bad_on f (rows_in ts s) (λ rows. Ok (skips, rows)) bad)

pub all_contents : (known : Option Store) (ts : List TableRow) (skips : List Skip) (rows : Tables) →
    Told known (λ s. tables_in s ≡ Ok ts) → Told known (λ s. skips_in s ≡ Ok skips) → Told known (λ s. rows_in ts s ≡ Ok rows) →
    Told known (λ s. contents_in s ≡ Ok (skips, rows))
all_contents None ts skips rows tables rules is = tt
all_contents (Some s) ts skips rows tables rules is =
    ap (λ r. r >>= rules_behind s) tables
    ∙ ap (λ r. r >>= rows_behind s ts) rules
    ∙ ap (λ r. r >>= λ x. Ok (skips, x)) is

-- ---- the state

pub state_no_logs : (known : Option Store) (i : KeptIdentity) (f : LoadFault) →
    Told known (λ s. HasIdentity s i → IsBadKey f (logs_in (identity_of i) s)) →
    Told known (λ s. HasIdentity s i → IsBadKey f (state_in s))
state_no_logs None i f bad = tt
state_no_logs (Some s) i f bad = λ has.
    bad_same f _ (state_in s) (sym (known_identity s (identity_of i) has.given)) (bad_on f (logs_in (identity_of i) s) _
    (bad has))

pub state_no_contents : (known : Option Store) (i : KeptIdentity) (logs : List LogEntry) (f : LoadFault) →
    Told known (λ s. HasIdentity s i → logs_in (identity_of i) s ≡ Ok logs) → Told known (λ s. IsBadKey f (contents_in s)) →
    Told known (λ s. HasIdentity s i → IsBadKey f (state_in s))
state_no_contents None i logs f read bad = tt
state_no_contents (Some s) i logs f read bad = λ has.
    bad_same f _ (state_in s) (sym (known_logs s (identity_of i) logs has.given (read has))) (bad_on f (contents_in s) _ bad)

pub state_no_applied : (known : Option Store) (i : KeptIdentity) (logs : List LogEntry) (c : List Skip × Tables) (f : LoadFault) →
    Told known (λ s. HasIdentity s i → logs_in (identity_of i) s ≡ Ok logs) → Told known (λ s. contents_in s ≡ Ok c) →
    Told known (λ s. IsBadKey f (applied_in s)) → Told known (λ s. HasIdentity s i → IsBadKey f (state_in s))
state_no_applied None i logs c f read contents bad = tt
state_no_applied (Some s) i logs c f read contents bad = λ has.
    bad_same f _ (state_in s) (sym (known_contents s (identity_of i) logs c has.given (read has) contents))
    (bad_on f (applied_in s) _ bad)

pub state_no_mark : (known : Option Store) (i : KeptIdentity) (logs : List LogEntry) (c : List Skip × Tables) (applied : Applied)
    (f : LoadFault) → Told known (λ s. HasIdentity s i → logs_in (identity_of i) s ≡ Ok logs) →
    Told known (λ s. contents_in s ≡ Ok c) → Told known (λ s. applied_in s ≡ Ok applied) →
    Told known (λ s. IsBadKey f (marks_in logs applied.0 s)) → Told known (λ s. HasIdentity s i → IsBadKey f (state_in s))
state_no_mark None i logs c applied f read contents is bad = tt
state_no_mark (Some s) i logs c applied f read contents is bad = λ has.
    bad_same f _ (state_in s) (sym (known_applied s (identity_of i) logs c applied has.given (read has) contents is))
    (bad_on f (marks_in logs applied.0 s) _ bad)

pub whole_state : (known : Option Store) (i : KeptIdentity) (logs : List LogEntry) (c : List Skip × Tables) (applied : Applied)
    (mark : Option Mark) → Told known (λ s. HasIdentity s i → logs_in (identity_of i) s ≡ Ok logs) →
    Told known (λ s. contents_in s ≡ Ok c) → Told known (λ s. applied_in s ≡ Ok applied) →
    Told known (λ s. marks_in logs applied.0 s ≡ Ok mark) →
    Told known (λ s. HasIdentity s i → state_in s ≡ Ok (state_of (identity_of i) logs c.0 c.1 applied mark))
whole_state None i logs c applied mark read contents is marks = tt
whole_state (Some s) i logs c applied mark read contents is marks = λ has.
    known_mark s (identity_of i) logs c applied mark has.given (read has) contents is marks

-- ---- the store

pub first_bad_tells : (known : Option Store) (f : LoadFault) → Told known (λ s. IsFirstBad s f) →
    Told known (λ s. FaultTells f (loaded s))
first_bad_tells None f bad = tt
first_bad_tells (Some s) (faults.BadKeeper area key) bad = bad
first_bad_tells (Some s) faults.KeeperFault bad = tt
first_bad_tells (Some s) faults.Memory bad = tt

pub nothing_bad : (known : Option Store) (f : LoadFault) → Told known (λ s. of_area 1 s ≡ []) →
    Told known (λ s. of_area 1 s ≡ [] → IsFirstBad s f) → Told known (λ s. FaultTells f (loaded s))
nothing_bad None f none bad = tt
nothing_bad (Some s) f none bad = first_bad_tells (Some s) f (bad none)

pub nothing_there : (known : Option Store) → Told known (λ s. of_area 1 s ≡ []) →
    Told known (λ s. of_area 1 s ≡ [] → loaded s ≡ Fresh) → Told known (λ s. loaded s ≡ Fresh)
nothing_there None none fresh = tt
nothing_there (Some s) none fresh = fresh none

state_bad_at : (s : Store) (f : LoadFault) → loaded s ≡ loaded_of (state_in s) → IsBadKey f (state_in s) → FaultTells f (loaded s)
state_bad_at s (faults.BadKeeper area key) is bad = is ∙ ap loaded_of bad
state_bad_at s faults.KeeperFault is bad = tt
state_bad_at s faults.Memory is bad = tt

pub state_bad : (known : Option Store) (i : KeptIdentity) (f : LoadFault) → Told known (λ s. HasIdentity s i) →
    Told known (λ s. HasIdentity s i → IsBadKey f (state_in s)) → Told known (λ s. FaultTells f (loaded s))
state_bad None i f has bad = tt
state_bad (Some s) i f has bad = state_bad_at s f (loaded_there s has.own) (bad has)

pub state_there : (known : Option Store) (i : KeptIdentity) (image : Image) → Told known (λ s. HasIdentity s i) →
    Told known (λ s. HasIdentity s i → state_in s ≡ Ok (image_state image)) →
    Told known (λ s. loaded s ≡ loading.Image (image_state image))
state_there None i image has read = tt
state_there (Some s) i image has read = loaded_there s has.own ∙ ap loaded_of (read has)
