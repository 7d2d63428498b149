-- A fold leaves sound tables: the effect of accepted changes keeps them so, record by record.
use Rattle.std.proofs.Common.{◌≡◌, ℕ, ◌+◌, ◌≤◌, ◌<◌, arith, drop, get_or, ◌==◌, nat_lt, List, [], ◌∷◌, ◌++◌, filter, take, length, ◌-◌, zero, suc, refl, sym, ap, ◌∙◌, subst, Bool, true, false, cond, Option, Some, None, unwrap_or, Result, Ok, Err}
use Rattle.std.specs.List.{AllByRecursion}
use Rattle.std.specs.Option.{option_map}
use Rattle.std.specs.FinMap.Entries as entries
use Rattle.rl_value.specs.declared.pos.Pos.{Pos}
use Rattle.rl_value.specs.declared.value.Value.{Value}
use Rattle.rl_value.specs.declared.xid.Xid.{Xid}
use Rattle.rl_value.specs.declared.cause.LawFault.{LawFault}
use Rattle.rl_value.specs.declared.verdict.Stop.{Stop}
use Rattle.rl_value.specs.declared.verdict.Verdict.{Verdict}
use Rattle.rl_value.specs.Order.{row_cmp}
use Rattle.rl_value.specs.Outcome.{◌>>=◌, refused_by, or_err, map_err}
use Rattle.rl_value.specs.Text.{are_cells}
use Rattle.redo_vec.specs.declared.change.Change.{Change}
use Rattle.redo_vec.specs.declared.change.Op.{Op}
use Rattle.redo_vec.specs.declared.change.Op.TheVariants.{Insert, Update, Delete}
use Rattle.redo_vec.specs.declared.table.TableRow.{TableRow}
use Rattle.redo_vec.specs.declared.vector.Vector.{Vector}
use Rattle.redo_vec.specs.declared.vector.Vector.TheVariants.{Start, Change as OfChange, Undo, Commit, Rollback, Table as OfTable, DictEnd}
use Rattle.redo_spec.specs.declared.header.Header.{Header}
use Rattle.redo_spec.specs.ChangeForm.{change_fault, change_fault_in, fault_of_table, is_row_of}
use Rattle.redo_spec.specs.Dictionary.{Dictionary, table_of}
use Rattle.redo_spec.specs.Effect.{add_row, take_row, difference, with_cells, cell_values, logged_key, effect_on, effect}
use Rattle.redo_spec.specs.Fold.{Folded, Missed, effects}
use Rattle.redo_spec.specs.History.{Entry, Placed, History, no_history, history_after}
use Rattle.redo_spec.specs.Law.{vector_fault, vectors_fault, whole_fault, record_fault, dictionary_left, admitted_or, admission}
use Rattle.redo_law.specs.Calls.{standing_of}
use Rattle.redo_spec.specs.Skips.{Skip}
use Rattle.redo_spec.specs.Standing.{Standing, standing_after, standing_after_all, standing_at_record as entered_standing, record_after}
use Rattle.redo_spec.specs.Survivors.{after_change, after_undo}
use Rattle.redo_spec.specs.Tables.{Table, Tables, RowsById, assembled, definitions_of}
use Rattle.row_apply.specs.Soundness.{AreSound, AreSoundRows}
use Rattle.row_apply.proofs.Accepted.{insert_fits, accepted}
use Rattle.row_apply.proofs.Adding.{was_added, sound-added, sound-minus}
use Rattle.row_apply.proofs.Fitting.{updated_fits}
use Rattle.primary.specs.declared.plain.Plain.{Plain}
use Rattle.primary.specs.Cells.{HaveCells, HasCells, AreOfCells}
use Rattle.primary.specs.Progress.{OpenChanges, changes_of, FoldState, Progress, Going, Ended, kept_of, tables_or, progress_or_end, progress_after_effects, progress_after_commit, live_after, progress_after_vector, progress_after_vectors, tables_shown, waiting_until, tables_then, state_at_record, RowsAreSound, NoneWait, progress_unless_bad, progress_after_record, progress_after_records, end_of}
use Rattle.primary.specs.Running.{AreAccepted, FitsStanding}
use Rattle.primary.specs.Starts.{IsStart, first_state, progress_after, first_progress, fold_from}
use Rattle.primary.proofs.ApplyLaws.{definitions_assembled}
use Rattle.primary.proofs.DictionaryLaws.{dictionary_kept, record_keeps}
use Rattle.primary.proofs.FitLaws.{none_first, none_second, changed_at, mapped_is, fits_after}
use Rattle.primary.proofs.FoldsLaw.{IfGoing, Waits, waits_vectors, waits_record, progress_folds}
use Rattle.primary.proofs.LiveLaws.{opened_changes, closed_changes, rechanged_changes, nothing_rises}
use Rattle.primary.proofs.StepLaws.{commit_is, sound_then, sound_without}
use Rattle.primary.proofs.WalkLaws.{halted}

-- ---- results

bound : {A B E : Type 0} (r : Result A E) (f : A → Result B E) (y : B) → (r >>= f) ≡ Ok y → (x : A) × ((r ≡ Ok x) × (f x ≡ Ok y))
bound (Ok x) f y e = (x, (refl, e))
bound (Err m) f y e = absurd (cc)

or_err_is : {A E : Type 0} (o : Option A) (m : E) (x : A) → or_err o m ≡ Ok x → o ≡ Some x
or_err_is None m x e = absurd (cc)
or_err_is (Some y) m x e = let same : y ≡ x = cc in ap Some same

refused_is : {A E : Type 0} (o : Option E) (x y : A) → refused_by o x ≡ Ok y → x ≡ y
refused_is None x y e = cc
refused_is (Some m) x y e = absurd (cc)

mapped_ok : {A E F : Type 0} (f : E → F) (r : Result A E) (x : A) → map_err f r ≡ Ok x → r ≡ Ok x
mapped_ok f (Ok y) x e = let same : y ≡ x = cc in ap Ok same
mapped_ok f (Err m) x e = absurd (cc)

-- ---- the effect of a change

-- the same table, with sound rows
pub record StaysSound (t u : Table) : Type 0 where
  pub row : u.row ≡ t.row
  pub sound : AreSoundRows u.row u.rows

added_sound : (t : Table) (row : List Value) (u : Table) → AreSoundRows t.row t.rows → is_row_of t.row.columns row ≡ true →
    add_row t row ≡ Ok u → StaysSound t u
added_sound t row u s fit e =
    let w = was_added t.row t.rows row u e in
    record {
      row = ap (λ (v : Table). v.row) (sym w.is);
      sound = subst (λ (v : Table). AreSoundRows v.row v.rows) w.is (sound-added t.row t.rows row u s fit w);
    }

-- a row that was taken was there, and the others stay sound
pub record WasTaken (t : Table) (k row : List Value) (u : Table) : Type 0 where
  pub there : entries.find row_cmp k t.rows ≡ Some row
  pub stays : StaysSound t u

taken_sound : (t : Table) (k : List Value) (logged : List (ℕ × Value)) (taken : List Value × Table) → AreSoundRows t.row t.rows →
    take_row t k logged ≡ Ok taken → WasTaken t k taken.0 taken.1
taken_sound t k logged taken s e =
    let b = bound (or_err (entries.find row_cmp k t.rows) _) _ taken e in
    let is = refused_is (difference b.0 logged) _ taken b.1.1 in
    record {
      there = or_err_is (entries.find row_cmp k t.rows) _ b.0 b.1.0 ∙ ap (λ (p : List Value × Table). Some p.0) is;
      stays = subst (λ (p : List Value × Table). StaysSound t p.1) is
          (record { row = refl; sound = sound-minus t.row (Some k) t.rows s });
    }

on_sound : (t : Table) (c : Change) (u : Table) → AreSoundRows t.row t.rows → change_fault_in t.row c ≡ None →
    are_cells c.new ≡ true → (op : Op) → c.op ≡ op → effect_on t op c.old c.new ≡ Ok u → StaysSound t u
on_sound t c u s fits cells Insert is e = added_sound t (cell_values c.new) u s (insert_fits t.row c is cells fits) e
on_sound t c u s fits cells Update is e =
    let b = bound (take_row t (logged_key t.row c.old) c.old) _ u e in
    let w = taken_sound t (logged_key t.row c.old) c.old b.0 s b.1.0 in
    let fit : is_row_of t.row.columns (with_cells t.row b.0.0 c.new) ≡ true =
    updated_fits t.row b.0.0 c.new (s.fit (logged_key t.row c.old) b.0.0 w.there) (accepted t.row c fits).fit in
    let added = added_sound b.0.1 (with_cells t.row b.0.0 c.new) u w.stays.sound
    (ap (λ (r : TableRow). is_row_of r.columns (with_cells t.row b.0.0 c.new)) w.stays.row ∙ fit) b.1.1 in
    record { row = added.row ∙ w.stays.row; sound = added.sound }
on_sound t c u s fits cells Delete is e =
    let b = bound (take_row t (logged_key t.row c.old) c.old) _ u e in
    let w = taken_sound t (logged_key t.row c.old) c.old b.0 s b.1.0 in
    let same : b.0.1 ≡ u = cc in
    subst (λ (v : Table). StaysSound t v) same w.stays

-- the same tables, and sound ones
pub record StaySound (ts us : Tables) : Type 0 where
  pub rows : definitions_of us ≡ definitions_of ts
  pub sound : AreSound us

effect_sound : (ts : Tables) (c : Change) (us : Tables) → AreSound ts → change_fault (definitions_of ts) c ≡ None →
    are_cells c.new ≡ true → effect ts c ≡ Ok us → StaySound ts us
effect_sound [] c us s fits cells e = absurd (cc)
effect_sound (t ∷ ts) c us s fits cells e =
    elim (t.row.id == c.table) as (λ b. fault_of_table (cond b (Some t.row) (table_of (definitions_of ts) c.table)) c ≡ None →
    cond b (effect_on t c.op c.old c.new >>= λ changed. Ok (changed ∷ ts)) (effect ts c >>= λ others. Ok (t ∷ others)) ≡ Ok us →
    StaySound (t ∷ ts) us) [
      | true ↦ λ own is.
          let b = bound (effect_on t c.op c.old c.new) _ us is in
          let one = on_sound t c b.0 s.0 own cells c.op refl b.1.0 in
          let same : (b.0 ∷ ts) ≡ us = cc in
          subst (λ (vs : Tables). StaySound (t ∷ ts) vs) same
          (record { rows = ap (λ (r : TableRow). r ∷ definitions_of ts) one.row; sound = (one.sound, s.1) })
      | false ↦ λ others is.
          let b = bound (effect ts c) _ us is in
          let later = effect_sound ts c b.0 s.1 others cells b.1.0 in
          let same : (t ∷ b.0) ≡ us = cc in
          subst (λ (vs : Tables). StaySound (t ∷ ts) vs) same
          (record { rows = ap (λ (rs : List TableRow). t.row ∷ rs) later.rows; sound = (s.0, later.sound) })
    ] fits e

effects_sound : (ts : Tables) (ps : List Placed) (us : Tables) → AreSound ts → AreAccepted (definitions_of ts) ps → HaveCells ps →
    effects ts ps ≡ Ok us → StaySound ts us
effects_sound ts [] us s fits cells e = let same : ts ≡ us =
    cc in subst (λ (vs : Tables). StaySound ts vs) same (record { rows = refl; sound = s })
effects_sound ts ((at, c) ∷ ps) us s fits cells e =
    let b = bound (map_err _ (effect ts c)) (λ after. effects after ps) us e in
    let one = effect_sound ts c b.0 s fits.0 cells.0 (mapped_ok _ (effect ts c) b.0 b.1.0) in
    let later = effects_sound b.0 ps us one.sound (subst (λ (rs : List TableRow). AreAccepted rs ps) (sym one.rows) fits.1)
    cells.1 b.1.1 in
    record { rows = later.rows ∙ one.rows; sound = later.sound }

-- ---- a commit

filtered : {A : Type 0} (P : A → Type 0) (f : A → Bool) (xs : List A) → AllByRecursion P xs → AllByRecursion P (filter f xs)
filtered P f [] all = tt
filtered P f (x ∷ xs) all =
    elim (f x) as (λ b. AllByRecursion P (cond b (x ∷ filter f xs) (filter f xs))) [
      | true ↦ (all.0, filtered P f xs all.1)
      | false ↦ filtered P f xs all.1
    ]

-- the open changes have cells as they are decoded
abbrev pub OpenHaveCells : OpenChanges → Type 0
OpenHaveCells live = (y : Xid) (ps : List Placed) → changes_of y live ≡ Some ps → HaveCells ps

-- a fold that goes on, within a record behind which this standing is the last
pub record GoesSound (last s : Standing) (a : FoldState) : Type 0 where
  pub standing : a.standing ≡ last
  pub fits : FitsStanding s a.live
  pub cells : OpenHaveCells a.live
  pub sound : AreSound a.tables
  pub named : last.dictionary.finished ≡ true → definitions_of a.tables ≡ last.dictionary.tables

abbrev pub IsSound : Standing → Standing → Progress → Type 0
IsSound last s (Going a) = GoesSound last s a
IsSound last s (Ended f) = AreSound f.tables

applied_sound : (last s : Standing) (scn : ℕ) (a : FoldState) (r : Result Tables Missed) → GoesSound last s a →
    ((us : Tables) → r ≡ Ok us → StaySound a.tables us) → (o : Option Verdict) →
    IsSound last s (progress_or_end o scn (tables_or a.tables r) a)
applied_sound last s scn a r g stay (Some v) = g.sound
applied_sound last s scn a (Ok us) g stay None =
    let one = stay us refl in
    record { standing = g.standing; fits = g.fits; cells = g.cells; sound = one.sound; named = λ whole. one.rows ∙ g.named whole }
applied_sound last s scn a (Err m) g stay None = record {
  standing = g.standing;
  fits = g.fits;
  cells = g.cells;
  sound = g.sound;
  named = g.named;
}

committed_sound : (skips : List Skip) (last s : Standing) (scn : ℕ) (ps : List Placed) (a : FoldState) → GoesSound last s a →
    AreAccepted (definitions_of a.tables) ps → HaveCells ps → IsSound last s (progress_after_commit skips scn ps a)
committed_sound skips last s scn ps a g fits cells =
    let kept = kept_of skips (definitions_of a.tables) a.n ps in
    let r = effects a.tables kept in
    elim (nat_lt a.made a.n) as (λ b. IsSound last s (cond b (Going (record a { made = a.made + 1 }))
    (progress_after_effects scn r a))) [
      | true ↦ record { standing = g.standing; fits = g.fits; cells = g.cells; sound = g.sound; named = g.named }
      | false ↦ applied_sound last s scn a r g (λ us is. effects_sound a.tables kept us g.sound (filtered _ _ ps fits)
          (filtered _ _ ps cells) is) (halted scn r)
    ]

-- ---- a vector

cells_more : (ps : List Placed) (p : Placed) → HaveCells ps → are_cells p.1.new ≡ true → HaveCells (ps ++ p ∷ [])
cells_more [] p all one = (one, tt)
cells_more (q ∷ qs) p all one = (all.0, cells_more qs p all.1 one)

cells_front : (n : ℕ) (ps : List Placed) → HaveCells ps → HaveCells (take n ps)
cells_front zero [] all = tt
cells_front zero (p ∷ ps) all = tt
cells_front (suc n) [] all = tt
cells_front (suc n) (p ∷ ps) all = (all.0, cells_front n ps all.1)

cells_after : (at : Pos) (v : Vector) (s : Standing) (live : OpenChanges) → FitsStanding s live → HasCells v →
    OpenHaveCells live → OpenHaveCells (live_after at v live)
cells_after at (Start x) s live f one all = λ y ps e. changed_at HaveCells _ (Some []) (changes_of y live) ps
    (sym (opened_changes x y live) ∙ e)
    (λ qs is. let empty : [] ≡ qs = cc in subst HaveCells empty tt) (λ qs is. all y qs is)
cells_after at (OfChange c) s live f one all = λ y ps e. changed_at HaveCells _
    (option_map (λ qs. after_change qs (at, c)) (changes_of c.xid live)) (changes_of y live) ps
    (sym (rechanged_changes c.xid y (λ qs. after_change qs (at, c)) live) ∙ e)
    (λ qs is. mapped_is HaveCells (λ qs. after_change qs (at, c)) (changes_of c.xid live) qs is
    (λ rs was. cells_more rs (at, c) (all c.xid rs was) one)) (λ qs is. all y qs is)
cells_after at (Undo x) s live f one all = λ y ps e. changed_at HaveCells _ (option_map after_undo (changes_of x live))
    (changes_of y live) ps (sym (rechanged_changes x y after_undo live) ∙ e)
    (λ qs is. mapped_is HaveCells after_undo (changes_of x live) qs is (λ rs was. cells_front (length rs - 1) rs (all x rs was)))
    (λ qs is. all y qs is)
cells_after at (Commit x) s live f one all = λ y ps e. changed_at HaveCells _ None (changes_of y live) ps
    (sym (closed_changes x y live f.opens.rising) ∙ e) (λ qs is. absurd (cc)) (λ qs is. all y qs is)
cells_after at (Rollback x) s live f one all = λ y ps e. changed_at HaveCells _ None (changes_of y live) ps
    (sym (closed_changes x y live f.opens.rising) ∙ e) (λ qs is. absurd (cc)) (λ qs is. all y qs is)
cells_after at (OfTable t) s live f one all = all
cells_after at DictEnd s live f one all = all

vector_sound : (skips : List Skip) (last : Standing) (h : Header) (scn : ℕ) (at : Pos) (vec : ℕ) (v : Vector) (rest : List Vector)
    (s : Standing) (p : Progress) →
    vectors_fault h vec (v ∷ rest) s ≡ None → standing_after_all vec (v ∷ rest) s ≡ last → HasCells v → IsSound last s p →
    IsSound last (standing_after vec v s) (progress_after_vector skips scn at v p)
vector_sound skips last h scn at vec v rest s (Ended f) fits ends one g = g
vector_sound skips last h scn at vec v rest s (Going a) fits ends one g = by v own (none_first (vector_fault h s v) _ fits) kept
  where
    own : GoesSound last (standing_after vec v s) (record a { live = live_after at v a.live })
    own = record {
      standing = g.standing;
      fits = fits_after h vec at v s a.live g.fits (none_first (vector_fault h s v) _ fits);
      cells = cells_after at v s a.live g.fits one g.cells;
      sound = g.sound;
      named = g.named;
    }

    kept : s.dictionary.finished ≡ true → last.dictionary ≡ s.dictionary
    kept whole = ap (λ (t : Standing). t.dictionary) (sym ends) ∙ dictionary_kept h vec (v ∷ rest) s fits whole

    by : (v : Vector) → GoesSound last (standing_after vec v s) (record a { live = live_after at v a.live }) →
        vector_fault h s v ≡ None → (s.dictionary.finished ≡ true → last.dictionary ≡ s.dictionary) →
        IsSound last (standing_after vec v s) (progress_after_vector skips scn at v (Going a))
    by (Start x) o f k = o
    by (OfChange c) o f k = o
    by (Undo x) o f k = o
    by (Rollback x) o f k = o
    by (OfTable t) o f k = o
    by DictEnd o f k = o
    by (Commit x) o f k =
        let ps = unwrap_or (changes_of x a.live) [] in
        let may = commit_is h s (Commit x) a.live ps g.fits f refl in
        let same = k may.0 in
        let rows : definitions_of a.tables ≡ s.dictionary.tables =
        g.named (ap (λ (d : Dictionary). d.finished) same ∙ may.0) ∙ ap (λ (d : Dictionary). d.tables) same in
        committed_sound skips last (standing_after vec (Commit x) s) scn ps
        (record a { live = live_after at (Commit x) a.live }) o
        (subst (λ (rs : List TableRow). AreAccepted rs ps) (sym rows) may.1) (celled (changes_of x a.live) refl)
      where
        celled : (o : Option (List Placed)) → changes_of x a.live ≡ o → HaveCells (unwrap_or o [])
        celled None e = tt
        celled (Some qs) e = g.cells x qs e

vectors_sound : (skips : List Skip) (last : Standing) (h : Header) (scn rec vec : ℕ) (vs : List Vector) (s : Standing)
    (p : Progress) →
    vectors_fault h vec vs s ≡ None → standing_after_all vec vs s ≡ last → AllByRecursion HasCells vs → IsSound last s p →
    IsSound last last (progress_after_vectors skips scn rec vec vs p)
vectors_sound skips last h scn rec vec [] s p fits ends all g = subst (λ (t : Standing). IsSound last t p) ends g
vectors_sound skips last h scn rec vec (v ∷ vs) s p fits ends all g =
    let at : Pos = record { rec = rec; vec = vec } in
    vectors_sound skips last h scn rec (vec + 1) vs (standing_after vec v s) (progress_after_vector skips scn at v p)
    (none_second (vector_fault h s v) _ fits) ends all.1
    (vector_sound skips last h scn at vec v vs s p fits ends all.0 g)

-- ---- a record

-- between two records
abbrev pub IsSoundProgress : Progress → Type 0
IsSoundProgress (Going a) = GoesSound a.standing a.standing a
IsSoundProgress (Ended f) = AreSound f.tables

as_progress : (last : Standing) (p : Progress) → IsSound last last p → IsSoundProgress p
as_progress last (Ended f) g = g
as_progress last (Going a) g = subst (λ (t : Standing). GoesSound t t a) (sym g.standing) g

names_then : (b : Bool) (rows : RowsById) (tables : Tables) (s t : Standing) →
    (b ≡ true → definitions_of tables ≡ s.dictionary.tables) → (b ≡ true → t.dictionary ≡ s.dictionary) →
    t.dictionary.finished ≡ true →
    definitions_of (tables_then b rows tables t) ≡ t.dictionary.tables
names_then true rows tables s t named same whole = named refl ∙ ap (λ (d : Dictionary). d.tables) (sym (same refl))
names_then false rows tables s t named same whole =
    let none : Tables = [] in
    ap (λ b. definitions_of (cond b (assembled t.dictionary.tables rows) none)) whole ∙
    definitions_assembled t.dictionary.tables rows

record_sound : (skips : List Skip) (e : Entry) (p : Progress) → AllByRecursion HasCells e.1.vectors → RowsAreSound e p →
    IsSoundProgress p → IsSoundProgress (progress_after_record skips e p)
record_sound skips (h, r) (Ended f) cells rows g = g
record_sound skips (h, r) (Going a) cells rows g = by (record_fault a.standing (h, r)) refl
  where
    by : (o : Option LawFault) → record_fault a.standing (h, r) ≡ o → IsSoundProgress (progress_unless_bad o skips (h, r) a)
    by (Some fault) is = g.sound
    by None is =
        let s = a.standing in
        let last = record_after (h, r) s in
        let keeps : s.dictionary.finished ≡ true → last.dictionary ≡ s.dictionary = λ whole. record_keeps (h, r) s is whole in
        let begins : GoesSound last (entered_standing (h, r) s) (state_at_record (h, r) a) = record {
          standing = refl;
          fits = record {
            opens = record { rising = g.fits.opens.rising; alike = g.fits.opens.alike };
            accepted = g.fits.accepted;
            none = g.fits.none;
          };
          cells = g.cells;
          sound = sound_then s.dictionary.finished a.waiting a.tables last (λ whole. g.sound) (rows is);
          named = names_then s.dictionary.finished a.waiting a.tables s last g.named keeps;
        } in
        as_progress last (progress_after_vectors skips r.scn (s.rec + 1) 1 r.vectors (Going (state_at_record (h, r) a)))
        (vectors_sound skips last h r.scn (s.rec + 1) 1 r.vectors (entered_standing (h, r) s) (Going (state_at_record (h, r) a))
        (none_second (whole_fault s (h, r)) _ is) refl cells begins)

-- ---- the rows that wait

-- they are sound as each of these records comes
abbrev pub SoundAhead : List Skip → List Entry → Progress → Type 0
SoundAhead skips [] p = Unit {0}
SoundAhead skips (e ∷ es) p = RowsAreSound e p × SoundAhead skips es (progress_after_record skips e p)

ended_ahead : (skips : List Skip) (es : List Entry) (f : Folded) → SoundAhead skips es (Ended f)
ended_ahead skips [] f = tt
ended_ahead skips (e ∷ es) f = (tt, ended_ahead skips es f)

-- a dictionary that is whole is that of the end
admission_keeps : (es : List Entry) (s : Standing) (hist : History) → s.dictionary.finished ≡ true →
    (admission s hist es).standing.dictionary ≡ s.dictionary
admission_keeps [] s hist whole = refl
admission_keeps (e ∷ es) s hist whole =
    elim (record_fault s e) as (λ o. record_fault s e ≡ o →
    (admitted_or o (dictionary_left s e) s hist (admission (record_after e s) (history_after (s.rec + 1) e hist)
    es)).standing.dictionary ≡ s.dictionary) [
      | None ↦ λ fits.
          let same = record_keeps e s fits whole in
          admission_keeps es (record_after e s) (history_after (s.rec + 1) e hist)
          (ap (λ (d : Dictionary). d.finished) same ∙ whole) ∙ same
      | Some fault ↦ λ is. refl
    ] refl

abbrev pub BaseIsSound : Plain → Standing → Type 0
BaseIsSound start s = AreSound (tables_shown s.dictionary.finished s.dictionary.tables start.tables)

-- before the first of these records
first_sound : (start : Plain) (es : List Entry) (s : Standing) (hist : History) →
    BaseIsSound start (admission s hist es).standing → BaseIsSound start s
first_sound start es s hist sound =
    elim s.dictionary.finished as (λ b. s.dictionary.finished ≡ b → AreSound (tables_shown b s.dictionary.tables start.tables)) [
      | true ↦ λ whole.
          let same = admission_keeps es s hist whole in
          subst (λ (d : Dictionary). AreSound (tables_shown true d.tables start.tables)) same
          (subst (λ (b : Bool). AreSound (tables_shown b (admission s hist es).standing.dictionary.tables start.tables))
          (ap (λ (d : Dictionary). d.finished) same ∙ whole) sound)
      | false ↦ λ part. tt
    ] refl

sound_ahead : (start : Plain) (skips : List Skip) (es : List Entry) (a : FoldState) (hist : History) →
    Waits start a.standing a.waiting → BaseIsSound start (admission a.standing hist es).standing → SoundAhead skips es (Going a)
sound_ahead start skips [] a hist waits sound = tt
sound_ahead start skips (e ∷ es) a hist waits sound =
    elim (record_fault a.standing e) as (λ o. record_fault a.standing e ≡ o →
    BaseIsSound start (admitted_or o (dictionary_left a.standing e) a.standing hist
    (admission (record_after e a.standing) (history_after (a.standing.rec + 1) e hist) es)).standing →
    SoundAhead skips (e ∷ es) (Going a)) [
      | None ↦ λ fits later. (
        λ none part.
            let next = record_after e a.standing in
            subst (λ (rows : RowsById). AreSound (tables_shown next.dictionary.finished next.dictionary.tables rows))
            (sym (waits part)) (first_sound start es next (history_after (a.standing.rec + 1) e hist) later),
        goes_on (λ b waits_b sound_b. sound_ahead start skips es b (history_after (a.standing.rec + 1) e hist) waits_b sound_b)
            (progress_after_record skips e (Going a)) (waits_record start skips e a fits waits) later,
      )
      | Some fault ↦ λ is later. (
        λ none part. let both : Some fault ≡ None = sym is ∙ none in absurd (cc),
        subst (λ (o : Option LawFault). SoundAhead skips es (progress_unless_bad o skips e a)) (sym is) (ended_ahead skips es _),
      )
    ] refl sound
  where
    goes_on : ((b : FoldState) → Waits start b.standing b.waiting →
        BaseIsSound start (admission b.standing (history_after (a.standing.rec + 1) e hist) es).standing →
        SoundAhead skips es (Going b)) →
        (p : Progress) → IfGoing p (λ b. (b.standing ≡ record_after e a.standing) × Waits start b.standing b.waiting) →
        BaseIsSound start (admission (record_after e a.standing) (history_after (a.standing.rec + 1) e hist) es).standing →
        SoundAhead skips es p
    goes_on again (Ended f) is later = ended_ahead skips es f
    goes_on again (Going b) is later = again b is.1 (subst
        (λ (s : Standing). BaseIsSound start (admission s (history_after (a.standing.rec + 1) e hist) es).standing)
        (sym is.0) later)

-- from a start on
pub start_ahead : (start : Plain) (skips : List Skip) (es : List Entry) → IsStart start es →
    SoundAhead skips es (first_progress start)
start_ahead start skips es is = sound_ahead start skips es (first_state start) (no_history start.before)
    (λ part. ap (λ b. waiting_until b start.tables) part) is.sound

-- before the first record
pub starts_empty : (start : Plain) (es : List Entry) → IsStart start es → IsStart start []
starts_empty start es is = record {
  sound = first_sound start es (standing_of start.law) (no_history start.before) is.sound;
  counted = is.counted;
}

-- the record at this place
pub ahead_item : (skips : List Skip) (es : List Entry) (i : ℕ) (or e : Entry) (p : Progress) → i < length es →
    e ≡ get_or es i or → SoundAhead skips (drop i es) p → RowsAreSound e p
ahead_item skips [] i or e p inside is ahead = absurd (omega (arith, inside))
ahead_item skips (x ∷ xs) zero or e p inside is ahead = subst (λ (d : Entry). RowsAreSound d p) (sym is) ahead.0
ahead_item skips (x ∷ xs) (suc i) or e p inside is ahead = ahead_item skips xs i or e p (omega (arith, inside)) is ahead

at_each : (skips : List Skip) (front : List Entry) (e : Entry) (back : List Entry) (p : Progress) →
    SoundAhead skips (front ++ e ∷ back) p → RowsAreSound e (progress_after_records skips front p)
at_each skips [] e back p ahead = ahead.0
at_each skips (f ∷ front) e back p ahead = at_each skips front e back (progress_after_record skips f p) ahead.1

pub sound_at_each : (start : Plain) (skips : List Skip) (front : List Entry) (e : Entry) (back : List Entry) →
    IsStart start (front ++ e ∷ back) → RowsAreSound e (progress_after start skips front)
sound_at_each start skips front e back is = at_each skips front e back (first_progress start)
    (start_ahead start skips (front ++ e ∷ back) is)

-- no rows are sound
pub none_sound : (e : Entry) (p : Progress) → NoneWait p → RowsAreSound e p
none_sound e (Ended f) none = tt
none_sound e (Going a) none = λ fits part.
    let next = record_after e a.standing in
    subst (λ (rows : RowsById). AreSound (tables_shown next.dictionary.finished next.dictionary.tables rows)) (sym none)
    (sound_without next.dictionary.finished next.dictionary.tables)

still_none : (b : Bool) (rows : RowsById) → rows ≡ [] → waiting_until b rows ≡ []
still_none true rows none = refl
still_none false rows none = none

-- and none wait later
pub none_later : (skips : List Skip) (e : Entry) (p : Progress) → NoneWait p → NoneWait (progress_after_record skips e p)
none_later skips e (Ended f) none = tt
none_later skips (h, r) (Going a) none = by (record_fault a.standing (h, r))
  where
    waits : (p : Progress) → IfGoing p (λ b. b.waiting ≡ []) → NoneWait p
    waits (Going b) is = is
    waits (Ended f) is = tt

    by : (o : Option LawFault) → NoneWait (progress_unless_bad o skips (h, r) a)
    by (Some fault) = tt
    by None = waits (progress_after_vectors skips r.scn (a.standing.rec + 1) 1 r.vectors (Going (state_at_record (h, r) a)))
        (waits_vectors skips r.scn (a.standing.rec + 1) 1 r.vectors (Going (state_at_record (h, r) a)) (λ s rows. rows ≡ [])
        (still_none (record_after (h, r) a.standing).dictionary.finished a.waiting none))

-- over the tables of a whole dictionary any records may come
pub whole_start : (start : Plain) (es : List Entry) → start.law.dict.finished ≡ true → IsStart start [] → IsStart start es
whole_start start es whole is = record {
  sound = subst (λ (d : Dictionary). AreSound (tables_shown d.finished d.tables start.tables))
      (sym (admission_keeps es (standing_of start.law) (no_history start.before) whole)) is.sound;
  counted = is.counted;
}

-- and over no rows
pub empty_start : (start : Plain) (es : List Entry) → start.tables ≡ [] → start.before ≤ start.n → IsStart start es
empty_start start es none counted =
    let s = (admission (standing_of start.law) (no_history start.before) es).standing in
    record {
      sound = subst (λ (rows : RowsById). AreSound (tables_shown s.dictionary.finished s.dictionary.tables rows)) (sym none)
          (sound_without s.dictionary.finished s.dictionary.tables);
      counted = counted;
    }

records_sound : (skips : List Skip) (es : List Entry) (p : Progress) → AreOfCells es → SoundAhead skips es p → IsSoundProgress p →
    IsSoundProgress (progress_after_records skips es p)
records_sound skips [] p cells rows g = g
records_sound skips (e ∷ es) p cells rows g = records_sound skips es (progress_after_record skips e p) cells.1 rows.1
    (record_sound skips e p cells.0 rows.0 g)

end_sound : (stop : Stop) (p : Progress) → IsSoundProgress p → AreSound (end_of stop p).tables
end_sound stop (Going a) g = g.sound
end_sound stop (Ended f) g = g

-- ---- a fold

begun_sound : (start : Plain) (es : List Entry) → IsStart start es → IsSoundProgress (first_progress start)
begun_sound start es is = record {
  standing = refl;
  fits = record {
    opens = record { rising = nothing_rises; alike = λ y. refl };
    accepted = λ y ps e. absurd (cc);
    none = λ part. refl;
  };
  cells = λ y ps e. absurd (cc);
  sound = first_sound start es (standing_of start.law) (no_history start.before) is.sound;
  named = λ whole.
      let none : Tables = [] in
      ap (λ b. definitions_of (cond b (assembled start.law.dict.tables start.tables) none)) whole ∙
      definitions_assembled start.law.dict.tables start.tables;
}

-- A fold that may begin leaves sound tables.
pub fold_sound : (start : Plain) (skips : List Skip) (es : List Entry) (stop : Stop) → IsStart start es → AreOfCells es →
    AreSound (fold_from start skips es stop).tables
fold_sound start skips es stop is cells =
    subst (λ (f : Folded). AreSound f.tables) (progress_folds start skips es stop is.counted)
    (end_sound stop (progress_after start skips es) (records_sound skips es (first_progress start) cells
    (start_ahead start skips es is) (begun_sound start es is)))
