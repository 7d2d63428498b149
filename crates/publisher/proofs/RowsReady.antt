-- Laws of rows that are made ready: a row that is put, and the rows of a commit.
use Rattle.std.proofs.Common.{◌≡◌, ℕ, ◌+◌, ◌≤◌, List, [], ◌∷◌, ◌++◌, map, Bool, true, false, not, refl, sym, ap, ◌∙◌, subst, Option, Some, None, is_some, Result, Ok, Err, arith}
use Rattle.std.specs.Prelude.{◌&&◌, ◌==◌, nat_lt, nat_le, if◌then◌else◌, IfSome, IsSome, IsTrue}
use Rattle.std.specs.Option.{option_map, option_map_or}
use Rattle.std.specs.Ordering.{is_eq, eq_by_cmp}
use Rattle.std.proofs.lemmas.Cmp.{tied_itself}
use Rattle.std.proofs.lemmas.Bool.Decides.{nat_tests}
use Rattle.rl_value.specs.declared.value.Value.{Value}
use Rattle.rl_value.specs.Order.{row_cmp, row_total}
use Rattle.rl_value.specs.Outcome.{first_fault}
use Rattle.redo_vec.specs.declared.table.TableRow.{TableRow}
use Rattle.redo_spec.specs.ChangeForm.{is_row_of}
use Rattle.redo_spec.specs.Dictionary.{table_of}
use Rattle.redo_spec.specs.Tables.{Tables, primary_key, definitions_of}
use Rattle.row_apply.specs.declared.writes.Write.{Write}
use Rattle.row_apply.specs.Overlaid.{overlaid, are_of}
use Rattle.row_apply.specs.Soundness.{AreSound}
use Rattle.standby_spec.specs.KeptState.{KeptState}
use Rattle.standby_spec.specs.Layout.{applied_item}
use Rattle.standby_spec.specs.Refusals.{Refusal, Exists, Taken, RowLimit, NotNext, has_row, passes_limit, publish_refusal, base_refusal, local_refusal}
use Rattle.standby_spec.specs.Writable.{row_fits, rows_fit, are_left_alone, can_be_written}
use Rattle.standby_spec.specs.Writings.{PutRow, Publish, row_write, writable, write_item, state_after, items_for}
use Rattle.publisher.specs.declared.fault.PubFault.{PubFault}
use Rattle.publisher.specs.declared.fault.PubFault.TheVariants as faults
use Rattle.publisher.specs.declared.prepared.Prepared.{Prepared}
use Rattle.publisher.specs.Parts.{FitsTable}
use Rattle.publisher.specs.Prepares.{Declines, PreparesWriting, PreparesRows, PreparesPut}
use Rattle.publisher.specs.Shown.{shown_next, with_rows, with_commits}
use Rattle.publisher.proofs.Ready.{both, writes-key, commit-key, prepared-ok, prepared-err}

-- ---- the first reason

pub past-first : (a : Bool) (x : Refusal) (rest : List (Bool × Refusal)) → a ≡ false →
    first_fault ((a, x) ∷ rest) ≡ first_fault rest
past-first true x rest e = absurd (cc)
past-first false x rest e = refl

pub at-first : (a : Bool) (x : Refusal) (rest : List (Bool × Refusal)) → a ≡ true → first_fault ((a, x) ∷ rest) ≡ Some x
at-first true x rest e = refl
at-first false x rest e = absurd (cc)

-- ---- tests

left-is : (a b : Bool) → (a && b) ≡ true → a ≡ true
left-is true b e = refl
left-is false b e = absurd (cc)

right-is : (a b : Bool) → (a && b) ≡ true → b ≡ true
right-is true b e = e
right-is false b e = absurd (cc)

right-is-not : (a b : Bool) → a ≡ true → (a && b) ≡ false → b ≡ false
right-is-not true b e f = f
right-is-not false b e f = absurd (cc)

-- no more than the limit
pub within-limit : (rows limit : ℕ) → nat_le rows limit ≡ true → nat_lt limit rows ≡ false
within-limit rows limit e = grind (arith, nat_tests)

pub past-limit : (rows limit : ℕ) → nat_le rows limit ≡ false → nat_lt limit rows ≡ true
past-limit rows limit e = grind (arith, nat_tests)

pub few-enough : (rows limit : ℕ) → rows ≤ limit → nat_lt limit rows ≡ false
few-enough rows limit e = grind (arith, nat_tests)

-- ---- written rows and their tables

there-at : (o : Option TableRow) (key : List Value) (row : Option (List Value)) → row_fits o key row ≡ true → is_some o ≡ true
there-at None key row e = absurd (cc)
there-at (Some t) key row e = refl

all-there : (tables : Tables) (ws : List Write) → rows_fit tables ws ≡ true → are_of (definitions_of tables) ws ≡ true
all-there tables [] e = refl
all-there tables (w ∷ ws) e =
    both (is_some (table_of (definitions_of tables) w.table)) (are_of (definitions_of tables) ws)
    (there-at (table_of (definitions_of tables) w.table) w.key w.row
    (left-is (row_fits (table_of (definitions_of tables) w.table) w.key w.row) (rows_fit tables ws) e))
    (all-there tables ws (right-is (row_fits (table_of (definitions_of tables) w.table) w.key w.row) (rows_fit tables ws) e))

-- writes that may be put in place are of tables that are there
pub of-tables : (tables : Tables) (ws : List Write) → can_be_written tables ws ≡ true → are_of (definitions_of tables) ws ≡ true
of-tables tables ws can = all-there tables ws (left-is (rows_fit tables ws) (are_left_alone tables ws) can)

fits-at : (o : Option TableRow) (row : List Value) → IsSome o → IfSome o (λ t. IsTrue (is_row_of t.columns row)) →
    row_fits o (option_map_or (λ t. primary_key t row) o []) (Some row) ≡ true
fits-at None row there fits = absurd (cc)
fits-at (Some t) row there fits =
    both (is_row_of t.columns row) (eq_by_cmp row_cmp (primary_key t row) (primary_key t row)) fits
    (ap is_eq (tied_itself row_total (primary_key t row)))

-- a row that fits its table does so as a write
pub one-fits : (tables : Tables) (id : ℕ) (row : List Value) → FitsTable tables id row →
    rows_fit tables (row_write tables id row ∷ []) ≡ true
one-fits tables id row fits =
    both (row_fits (table_of (definitions_of tables) id)
    (option_map_or (λ t. primary_key t row) (table_of (definitions_of tables) id) []) (Some row)) true
    (fits-at (table_of (definitions_of tables) id) row fits.there fits.fits) refl

-- ---- rows by themselves

-- writes that may be put in place are ready where they are not too many
pub rows-ok : (tables : Tables) (ws : List Write) (p : Prepared) → p.batch ≡ map write_item ws →
    ((state : Option KeptState) → shown_next p.next state ≡ option_map (with_rows (overlaid tables ws)) state) →
    AreSound (overlaid tables ws) → passes_limit tables ws ≡ false → PreparesRows tables ws (Ok p)
rows-ok tables ws p items next sound few = record {
  made = record { items = items; next = next; sound = sound };
  declined = past-first (passes_limit tables ws) RowLimit [] few;
}

pub rows-many : (tables : Tables) (ws : List Write) → passes_limit tables ws ≡ true →
    PreparesRows tables ws (Err faults.RowLimit)
rows-many tables ws many = record { made = refl; declined = at-first (passes_limit tables ws) RowLimit [] many }

pub rows-memory : (tables : Tables) (ws : List Write) → PreparesRows tables ws (Err faults.Memory)
rows-memory tables ws = record { made = refl; declined = tt }

declines-put : (tables : Tables) (w : Write) (prepared : Result Prepared PubFault) → are_left_alone tables (w ∷ []) ≡ true →
    Declines (first_fault ((passes_limit tables (w ∷ []), RowLimit) ∷ [])) prepared →
    Declines (first_fault ((not (are_left_alone tables (w ∷ [])), Taken) ∷ (passes_limit tables (w ∷ []), RowLimit) ∷ []))
    prepared
declines-put tables w prepared alone declined =
    subst (λ reason. Declines reason prepared)
    (sym (past-first (not (are_left_alone tables (w ∷ []))) Taken ((passes_limit tables (w ∷ []), RowLimit) ∷ []) (ap not alone)))
    declined

-- a row that may be put in place is put where rows are not too many
pub put-of-rows : (tables : Tables) (w : Write) (prepared : Result Prepared PubFault) → can_be_written tables (w ∷ []) ≡ true →
    PreparesRows tables (w ∷ []) prepared → PreparesPut tables w prepared
put-of-rows tables w prepared can p = record {
  made = p.made;
  declined = declines-put tables w prepared
      (right-is (rows_fit tables (w ∷ [])) (are_left_alone tables (w ∷ [])) can) p.declined;
}

pub put-taken : (tables : Tables) (w : Write) → rows_fit tables (w ∷ []) ≡ true → can_be_written tables (w ∷ []) ≡ false →
    PreparesPut tables w (Err faults.Taken)
put-taken tables w fits cannot = record {
  made = refl;
  declined = at-first (not (are_left_alone tables (w ∷ []))) Taken ((passes_limit tables (w ∷ []), RowLimit) ∷ [])
      (ap not (right-is-not (rows_fit tables (w ∷ [])) (are_left_alone tables (w ∷ [])) fits cannot));
}

pub put-memory : (tables : Tables) (w : Write) → PreparesPut tables w (Err faults.Memory)
put-memory tables w = record { made = refl; declined = tt }

put-at : (s : KeptState) (id : ℕ) (row : List Value) (prepared : Result Prepared PubFault) →
    PreparesPut s.tables (row_write s.tables id row) prepared →
    PreparesWriting (PutRow id row) s (local_refusal s id row) prepared
put-at s id row (Ok p) put =
    prepared-ok (items_for (PutRow id row) s) (Some s) (state_after (PutRow id row) s) (local_refusal s id row) p put.declined
    put.made.items (writes-key (row_write s.tables id row ∷ [])) (put.made.next (Some s)) put.made.sound
put-at s id row (Err fault) put =
    prepared-err (items_for (PutRow id row) s) (Some s) (state_after (PutRow id row) s) (local_refusal s id row) fault
    put.declined put.made

-- what is made ready of the write is made ready of the call
pub local-of-put : (s : KeptState) (id : ℕ) (row : List Value) (w : Write) (prepared : Result Prepared PubFault) →
    w ≡ row_write s.tables id row → PreparesPut s.tables w prepared →
    PreparesWriting (PutRow id row) s (local_refusal s id row) prepared
local-of-put s id row w prepared is put =
    put-at s id row prepared (subst (λ v. PreparesPut s.tables v prepared) is put)

base-is-local : (s : KeptState) (id : ℕ) (row : List Value) →
    has_row s.tables id (row_write s.tables id row).key ≡ false → base_refusal s id row ≡ local_refusal s id row
base-is-local s id row free =
    past-first (has_row s.tables id (row_write s.tables id row).key) Exists
    ((not (are_left_alone s.tables (row_write s.tables id row ∷ [])), Taken)
    ∷ (passes_limit s.tables (row_write s.tables id row ∷ []), RowLimit) ∷ []) free

-- a row of the base has no other row under its key
pub base-of-put : (s : KeptState) (id : ℕ) (row : List Value) (w : Write) (prepared : Result Prepared PubFault) →
    w ≡ row_write s.tables id row → has_row s.tables w.table w.key ≡ false → PreparesPut s.tables w prepared →
    PreparesWriting (PutRow id row) s (base_refusal s id row) prepared
base-of-put s id row w prepared is free put =
    let none : has_row s.tables id (row_write s.tables id row).key ≡ false =
    subst (λ (v : Write). has_row s.tables v.table v.key ≡ false) is free in
    subst (λ reason. PreparesWriting (PutRow id row) s reason prepared) (sym (base-is-local s id row none))
    (local-of-put s id row w prepared is put)

pub base-exists : (s : KeptState) (id : ℕ) (row : List Value) (w : Write) → w ≡ row_write s.tables id row →
    has_row s.tables w.table w.key ≡ true → PreparesWriting (PutRow id row) s (base_refusal s id row) (Err faults.Exists)
base-exists s id row w is there =
    let found : has_row s.tables id (row_write s.tables id row).key ≡ true =
    subst (λ (v : Write). has_row s.tables v.table v.key ≡ true) is there in
    prepared-err (items_for (PutRow id row) s) (Some s) (state_after (PutRow id row) s) (base_refusal s id row) faults.Exists
    (at-first (has_row s.tables id (row_write s.tables id row).key) Exists
    ((not (are_left_alone s.tables (row_write s.tables id row ∷ [])), Taken)
    ∷ (passes_limit s.tables (row_write s.tables id row ∷ []), RowLimit) ∷ []) found) refl

-- ---- a commit

publish-none : (s : KeptState) (number : ℕ) (ws : List Write) → (number == s.n + 1) ≡ true →
    passes_limit s.tables (writable s.tables ws) ≡ false → publish_refusal s number ws ≡ None
publish-none s number ws next few =
    past-first (not (number == s.n + 1)) (NotNext s.n) ((passes_limit s.tables (writable s.tables ws), RowLimit) ∷ [])
    (ap not next)
    ∙ past-first (passes_limit s.tables (writable s.tables ws)) RowLimit [] few

same-number : (a b : ℕ) → a ≡ b → (a == b) ≡ true
same-number a b e = grind (arith, nat_tests)

-- a commit with these rows is ready, where they are what may be written of it and are not too many
pub publish-ok : (s : KeptState) (number at_scn : ℕ) (ws left : List Write) (tables : Tables) (p : Prepared) →
    number ≡ s.n + 1 → writable s.tables ws ≡ left → passes_limit s.tables left ≡ false →
    p.batch ≡ map write_item left ++ applied_item number at_scn ∷ [] →
    shown_next p.next (Some s) ≡ Some (with_commits tables number at_scn s) → tables ≡ overlaid s.tables left → AreSound tables →
    PreparesWriting (Publish at_scn ws) s (publish_refusal s number ws) (Ok p)
publish-ok s number at_scn ws left tables p next left_is few batch shown tables_are sound =
    let items : p.batch ≡ map write_item (writable s.tables ws) ++ applied_item (s.n + 1) at_scn ∷ [] =
    batch ∙ (λ i. map write_item (sym left_is i) ++ applied_item (next i) at_scn ∷ []) in
    let over : tables ≡ overlaid s.tables (writable s.tables ws) = tables_are ∙ ap (overlaid s.tables) (sym left_is) in
    prepared-ok (items_for (Publish at_scn ws) s) (Some s) (state_after (Publish at_scn ws) s) (publish_refusal s number ws) p
    (publish-none s number ws (same-number number (s.n + 1) next) (ap (passes_limit s.tables) left_is ∙ few)) items
    (commit-key (writable s.tables ws) (s.n + 1) at_scn) (shown ∙ (λ i. Some (with_commits (over i) (next i) at_scn s)))
    (subst AreSound over sound)

-- what may be written is all, or none
pub all-writable : (tables : Tables) (ws : List Write) → can_be_written tables ws ≡ true → writable tables ws ≡ ws
all-writable tables ws can = ap (λ b. if b then ws else []) can

pub none-writable : (tables : Tables) (ws : List Write) → can_be_written tables ws ≡ false → writable tables ws ≡ []
none-writable tables ws cannot = ap (λ b. if b then ws else []) cannot

pub publish-many : (s : KeptState) (number at_scn : ℕ) (ws : List Write) → number ≡ s.n + 1 →
    can_be_written s.tables ws ≡ true → passes_limit s.tables ws ≡ true →
    PreparesWriting (Publish at_scn ws) s (publish_refusal s number ws) (Err faults.RowLimit)
publish-many s number at_scn ws next can many =
    prepared-err (items_for (Publish at_scn ws) s) (Some s) (state_after (Publish at_scn ws) s) (publish_refusal s number ws)
    faults.RowLimit
    (past-first (not (number == s.n + 1)) (NotNext s.n) ((passes_limit s.tables (writable s.tables ws), RowLimit) ∷ [])
    (ap not (same-number number (s.n + 1) next))
    ∙ at-first (passes_limit s.tables (writable s.tables ws)) RowLimit []
    (ap (passes_limit s.tables) (all-writable s.tables ws can) ∙ many)) refl

pub publish-not-next : (s : KeptState) (number at_scn : ℕ) (ws : List Write) → (number == s.n + 1) ≡ false →
    PreparesWriting (Publish at_scn ws) s (publish_refusal s number ws) (Err (faults.NotNext s.n))
publish-not-next s number at_scn ws other =
    prepared-err (items_for (Publish at_scn ws) s) (Some s) (state_after (Publish at_scn ws) s) (publish_refusal s number ws)
    (faults.NotNext s.n)
    (at-first (not (number == s.n + 1)) (NotNext s.n) ((passes_limit s.tables (writable s.tables ws), RowLimit) ∷ [])
    (ap not other)) refl
