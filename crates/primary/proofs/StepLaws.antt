-- The step over a record, vector by vector: what holds between two vectors, and what one more makes of it.
use Rattle.std.proofs.Common.{◌≡◌, ℕ, ◌+◌, ◌≤◌, nat_lt, Err, IfSome, List, [], ◌∷◌, length, refl, sym, ap, ◌∙◌, subst, Bool, true, false, cond, Option, Some, None, is_some, unwrap_or, arith}
use Rattle.rl_value.specs.declared.pos.Pos.{Pos}
use Rattle.rl_value.specs.declared.cause.LawFault.{LawFault}
use Rattle.rl_value.specs.declared.cause.Cause.TheVariants as causes
use Rattle.rl_value.specs.declared.verdict.Stop.TheVariants.{Malformed}
use Rattle.rl_value.specs.declared.verdict.Verdict.{Verdict}
use Rattle.rl_value.specs.declared.verdict.Verdict.TheVariants.{Stopped}
use Rattle.redo_vec.specs.declared.redo_rec.RedoRec.{RedoRec}
use Rattle.redo_vec.specs.declared.table.TableRow.{TableRow}
use Rattle.redo_vec.specs.declared.vector.Vector.{Vector}
use Rattle.redo_vec.specs.declared.vector.Vector.TheVariants.{Start, Change as OfChange, Undo, Commit, Rollback, Table, DictEnd}
use Rattle.redo_spec.specs.declared.header.Header.{Header}
use Rattle.redo_spec.specs.Dictionary.{Dictionary}
use Rattle.redo_spec.specs.Tables.{Tables, RowsById, empty_tables, definitions_of}
use Rattle.redo_law.specs.Calls.{Judges, Leaves, standing_of}
use Rattle.primary.specs.declared.plain.Plain.{Plain}
use Rattle.redo_law.specs.declared.fault.AdmitFault.{AdmitFault}
use Rattle.redo_law.specs.declared.fault.AdmitFault.TheVariants as admits
use Rattle.redo_spec.specs.History.{Placed}
use Rattle.redo_spec.specs.Standing.{Standing, standing_at_record as entered_standing, standing_after, standing_after_all, record_after}
use Rattle.redo_spec.specs.Law.{dictionary_fault, vector_fault, vectors_fault, whole_fault, record_fault, dictionary_left}
use Rattle.redo_spec.specs.Skips.{Skip}
use Rattle.redo_spec.specs.Fold.{effects}
use Rattle.row_apply.specs.Soundness.{AreSound}
use Rattle.primary.specs.Progress.{OpenChanges, changes_of, FoldState, Progress, Going, Ended, held_at, live_after, commit_of, progress_with_commit, progress_after_effects, progress_or_end, tables_or, kept_of, recs_of, progress_with_vector, progress_after_vectors, tables_shown, waiting_until, tables_then, state_at_record, RowsAreSound, progress_unless_bad, progress_after_record}
use Rattle.primary.specs.Running.{AreAccepted, FitsStanding, KeepsRows, IsRunning, MayCommit, fold_state_of, tables_of, progress_of}
use Rattle.primary.specs.declared.running.Running.{Running}
use Rattle.primary.proofs.FitLaws.{none_first, none_second, no_fault, is_whole, fits_after}
use Rattle.primary.proofs.DictionaryLaws.{dictionary_kept, record_keeps, left_same}
use Rattle.primary.proofs.FoldsLaw.{ended_vectors}
use Rattle.primary.proofs.LiveLaws.{nothing_rises}
use Rattle.primary.proofs.WalkLaws.{halted}

pub absent : {A : Type 0} (o : Option A) → is_some o ≡ false → o ≡ None
absent None e = refl
absent (Some x) e = absurd (cc)

-- before the first record of a fold no transaction is open
pub fits_first : (start : Plain) → FitsStanding (standing_of start.law) []
fits_first start = record {
  opens = record { rising = nothing_rises; alike = λ y. refl };
  accepted = λ y ps e. absurd (cc);
  none = λ part. refl;
}

-- what holds between two vectors of a record
pub record Steps (skips : List Skip) (h : Header) (r : RedoRec) (old now : Running) (vec : ℕ) (rest : List Vector) : Type 0 where
  pub at : Standing
  pub fits : FitsStanding at now.live
  pub fault : vectors_fault h vec rest at ≡ None
  pub last : standing_after_all vec rest at ≡ now.law
  pub rec : now.rec ≡ now.law.rec
  pub whole : now.whole ≡ now.law.dictionary.finished
  pub sound : AreSound (tables_of now)
  pub kept : now.whole ≡ true → KeepsRows now
  pub rows : RowsAreSound (h, r) (Going (fold_state_of old))
  pub small : vec + length rest ≤ 256
  pub goes : progress_after_vectors skips r.scn now.rec vec rest (Going (fold_state_of now)) ≡
      progress_after_record skips (h, r) (Going (fold_state_of old))

pub sound_empty : (ts : List TableRow) → AreSound (empty_tables ts)
sound_empty [] = tt
sound_empty (t ∷ ts) = (
  record {
    rising = refl;
    keyed = λ key row found. absurd (cc);
    fit = λ key row found. absurd (cc);
    single = λ index columns is key other row like found like_found filled same. absurd (cc);
  },
  sound_empty ts,
)

-- as an admitted record begins, the rows show the tables that the progress has
retabled : (b : Bool) (h : Header) (r : RedoRec) (old now : Running) → old.whole ≡ b → IsRunning old →
    record_fault old.law (h, r) ≡ None → now.law ≡ record_after (h, r) old.law → now.tables ≡ old.tables →
    now.whole ≡ now.law.dictionary.finished → tables_of now ≡
    tables_then b (waiting_until b old.tables) (tables_of old) (record_after (h, r) old.law)
retabled true h r old now is run fits law tables whole =
    let same : now.law.dictionary ≡ old.law.dictionary =
    ap (λ t. t.dictionary) law ∙ record_keeps (h, r) old.law fits (sym run.whole ∙ is) in
    let still : now.whole ≡ old.whole = whole ∙ ap (λ d. d.finished) same ∙ sym run.whole in
    λ i. tables_shown (still i) (same i).tables (tables i)
retabled false h r old now is run fits law tables whole =
    (λ i. tables_shown (whole i) now.law.dictionary.tables (tables i)) ∙
    ap (λ t. tables_shown t.dictionary.finished t.dictionary.tables old.tables) law

-- and those rows wait that waited, unless the dictionary has ended
waiting_on : (b : Bool) (h : Header) (r : RedoRec) (old now : Running) → old.whole ≡ b → IsRunning old →
    record_fault old.law (h, r) ≡ None → now.law ≡ record_after (h, r) old.law → now.tables ≡ old.tables →
    now.whole ≡ now.law.dictionary.finished → waiting_until now.whole now.tables ≡
    waiting_until (record_after (h, r) old.law).dictionary.finished (waiting_until b old.tables)
waiting_on true h r old now is run fits law tables whole =
    let still : (record_after (h, r) old.law).dictionary.finished ≡ true =
    ap (λ d. d.finished) (record_keeps (h, r) old.law fits (sym run.whole ∙ is)) ∙ sym run.whole ∙ is in
    ap (λ b. waiting_until b now.tables) (whole ∙ ap (λ t. t.dictionary.finished) law ∙ still) ∙
    sym (ap (λ b. waiting_until b []) still)
waiting_on false h r old now is run fits law tables whole =
    λ i. waiting_until ((whole ∙ ap (λ t. t.dictionary.finished) law) i) (tables i)

pub sound_then : (b : Bool) (rows : RowsById) (tables : Tables) (s : Standing) → (b ≡ true → AreSound tables) →
    (b ≡ false → AreSound (tables_then false rows tables s)) → AreSound (tables_then b rows tables s)
sound_then true rows tables s sound later = sound refl
sound_then false rows tables s sound later = later refl

pub rec_all : (vec : ℕ) (vs : List Vector) (s : Standing) → (standing_after_all vec vs s).rec ≡ s.rec
rec_all vec [] s = refl
rec_all vec (v ∷ vs) s = rec_all (vec + 1) vs (standing_after vec v s)

-- a record that is admitted leaves a whole dictionary, and what is kept beside its rows
pub still_whole : (h : Header) (r : RedoRec) (old : Running) → IsRunning old → record_fault old.law (h, r) ≡ None →
    old.whole ≡ true → (record_after (h, r) old.law).dictionary ≡ old.law.dictionary
still_whole h r old run fits whole = record_keeps (h, r) old.law fits (sym run.whole ∙ whole)

pub steps_begin : (skips : List Skip) (h : Header) (r : RedoRec) (old now : Running) → IsRunning old →
    record_fault old.law (h, r) ≡ None → now.law ≡ record_after (h, r) old.law → now.tables ≡ old.tables →
    now.live ≡ old.live → now.made ≡ old.made → now.n ≡ old.n → now.scn ≡ old.scn → now.rec ≡ old.rec + 1 →
    now.whole ≡ now.law.dictionary.finished → AreSound (tables_of now) → (now.whole ≡ true → KeepsRows now) →
    length r.vectors ≤ 255 → Steps skips h r old now 1 r.vectors
steps_begin skips h r old now run fits law tables live made n scn rec whole sound kept small =
    let next = record_after (h, r) old.law in
    let shown : tables_of now ≡ tables_then old.law.dictionary.finished (waiting_until old.whole old.tables)
    (tables_of old) next =
    retabled old.whole h r old now refl run fits law tables whole ∙
    ap (λ b. tables_then b (waiting_until old.whole old.tables) (tables_of old) next) run.whole in
    let waits : waiting_until now.whole now.tables ≡ waiting_until next.dictionary.finished (waiting_until old.whole old.tables) =
    waiting_on old.whole h r old now refl run fits law tables whole in
    let Q : OpenChanges → Type 0 = λ l. FitsStanding (entered_standing (h, r) old.law) l in
    let number : now.rec ≡ old.law.rec + 1 = rec ∙ ap (λ (k : ℕ). k + 1) run.rec in
    record {
      at = entered_standing (h, r) old.law;
      fits = subst Q (sym live) (record {
        opens = record { rising = run.fits.opens.rising; alike = run.fits.opens.alike };
        accepted = run.fits.accepted;
        none = run.fits.none;
      });
      fault = none_second (whole_fault old.law (h, r)) _ fits;
      last = sym law;
      rec = number ∙ sym (rec_after (h, r) old.law) ∙ ap (λ s. s.rec) (sym law);
      whole = whole;
      sound = sound;
      kept = kept;
      rows = λ none part. subst (λ (b : Bool). AreSound (tables_then b (waiting_until old.whole old.tables) (tables_of old) next))
          part (subst (λ (ts : Tables). AreSound ts) shown sound);
      small = omega (arith, small);
      goes = (λ i. progress_after_vectors skips r.scn (number i) 1 r.vectors
          (Going (record {
            standing = law i;
            live = live i;
            made = made i;
            n = n i;
            scn = scn i;
            waiting = waits i;
            tables = shown i;
          })))
          ∙ ap (λ o. progress_unless_bad o skips (h, r) (fold_state_of old)) (sym fits);
    }
  where
    rec_after : (e : Header × RedoRec) (s : Standing) → (record_after e s).rec ≡ s.rec + 1
    rec_after (g, q) s = rec_all 1 q.vectors (entered_standing (g, q) s)

pub commit_is : (h : Header) (s : Standing) (v : Vector) (live : OpenChanges) (ps : List Placed) → FitsStanding s live →
    vector_fault h s v ≡ None → commit_of v live ≡ Some ps → (s.dictionary.finished ≡ true) × AreAccepted s.dictionary.tables ps
commit_is h s (Start x) live ps f fits is = absurd (cc)
commit_is h s (OfChange c) live ps f fits is = absurd (cc)
commit_is h s (Undo x) live ps f fits is = absurd (cc)
commit_is h s (Rollback x) live ps f fits is = absurd (cc)
commit_is h s (Table t) live ps f fits is = absurd (cc)
commit_is h s DictEnd live ps f fits is = absurd (cc)
commit_is h s (Commit x) live ps f fits is =
    let one : unwrap_or (changes_of x live) [] ≡ ps = cc in (
      is_whole s.dictionary.finished _ (no_fault _ _ (none_first (dictionary_fault h s (Commit x)) _ fits)),
      subst (AreAccepted s.dictionary.tables) one (by (changes_of x live) refl),
    )
  where
    by : (o : Option (List Placed)) → changes_of x live ≡ o → AreAccepted s.dictionary.tables (unwrap_or o [])
    by None e = tt
    by (Some qs) e = f.accepted x qs e

pub commit_may : (skips : List Skip) (h : Header) (r : RedoRec) (old now : Running) (vec : ℕ) (v : Vector) (rest : List Vector)
    (ps : List Placed) → Steps skips h r old now vec (v ∷ rest) → commit_of v now.live ≡ Some ps → MayCommit now ps
commit_may skips h r old now vec v rest ps s is =
    let one = commit_is h s.at v now.live ps s.fits (none_first (vector_fault h s.at v) _ s.fault) is in
    let same : now.law.dictionary ≡ s.at.dictionary = ap (λ t. t.dictionary) (sym s.last) ∙
    dictionary_kept h vec (v ∷ rest) s.at s.fault one.0 in
    record {
      whole = s.whole ∙ ap (λ d. d.finished) same ∙ one.0;
      accepted = subst (λ (d : Dictionary). AreAccepted d.tables ps) (sym same) one.1;
    }

-- one vector more, without a commit or with one that was applied
pub steps_more : (skips : List Skip) (h : Header) (r : RedoRec) (old now after : Running) (vec : ℕ) (v : Vector)
    (rest : List Vector) → Steps skips h r old now vec (v ∷ rest) →
    after.law ≡ now.law → after.rec ≡ now.rec → after.whole ≡ now.whole →
    after.live ≡ live_after (record { rec = now.rec; vec = vec }) v now.live → AreSound (tables_of after) →
    (after.whole ≡ true → KeepsRows after) →
    Going (fold_state_of after) ≡ progress_with_commit skips r.scn (commit_of v now.live)
    (record (fold_state_of now) { live = live_after (record { rec = now.rec; vec = vec }) v now.live }) →
    Steps skips h r old after (vec + 1) rest
steps_more skips h r old now after vec v rest s law rec whole live sound kept goes =
    let at : Pos = record { rec = now.rec; vec = vec } in
    let Q : OpenChanges → Type 0 = λ l. FitsStanding (standing_after vec v s.at) l in
    let small = s.small in
    record {
      at = standing_after vec v s.at;
      fits = subst Q (sym live) (fits_after h vec at v s.at now.live s.fits (none_first (vector_fault h s.at v) _ s.fault));
      fault = none_second (vector_fault h s.at v) _ s.fault;
      last = s.last ∙ sym law;
      rec = rec ∙ s.rec ∙ ap (λ t. t.rec) (sym law);
      whole = whole ∙ s.whole ∙ ap (λ t. t.dictionary.finished) (sym law);
      sound = sound;
      kept = kept;
      rows = s.rows;
      small = omega (arith, small);
      goes = (λ i. progress_after_vectors skips r.scn (rec i) (vec + 1) rest (goes i)) ∙ s.goes;
    }

-- a commit that ends the fold
pub steps_end : (skips : List Skip) (h : Header) (r : RedoRec) (old now after : Running) (vec : ℕ) (v : Vector)
    (rest : List Vector) (end : Verdict) → Steps skips h r old now vec (v ∷ rest) →
    progress_of (Some end) after ≡ progress_with_commit skips r.scn (commit_of v now.live)
    (record (fold_state_of now) { live = live_after (record { rec = now.rec; vec = vec }) v now.live }) →
    progress_of (Some end) after ≡ progress_after_record skips (h, r) (Going (fold_state_of old))
steps_end skips h r old now after vec v rest end s is =
    sym (ended_vectors skips r.scn now.rec (vec + 1) rest (held_at (fold_state_of after) end)) ∙
    ap (λ p. progress_after_vectors skips r.scn now.rec (vec + 1) rest p) is ∙ s.goes

pub steps_done : (skips : List Skip) (h : Header) (r : RedoRec) (old now : Running) (vec : ℕ) →
    Steps skips h r old now vec [] → IsRunning now
steps_done skips h r old now vec s =
    let P : Standing → Type 0 = λ t. FitsStanding t now.live in
    record { fits = subst P s.last s.fits; whole = s.whole; rec = s.rec; sound = s.sound; kept = s.kept }

-- a bad record leaves the tables as they are
bad_leaves : (h : Header) (r : RedoRec) (old after : Running) → IsRunning old →
    after.law.dictionary ≡ dictionary_left old.law (h, r) → after.tables ≡ old.tables → after.whole ≡ old.whole →
    tables_of after ≡ tables_of old
bad_leaves h r old after run left tables whole = (λ i. tables_shown (whole i) after.law.dictionary.tables (tables i)) ∙
    by old.whole refl
  where
    by : (b : Bool) → old.whole ≡ b → tables_shown b after.law.dictionary.tables old.tables ≡
        tables_shown b old.law.dictionary.tables old.tables
    by true w = ap (λ d. tables_shown true d.tables old.tables) (left ∙ left_same (h, r) old.law (sym run.whole ∙ w))
    by false w = refl

-- and ends the fold
pub bad_ends : (skips : List Skip) (h : Header) (r : RedoRec) (old after : Running) (fault : LawFault) → IsRunning old →
    record_fault old.law (h, r) ≡ Some fault → after.law.dictionary ≡ dictionary_left old.law (h, r) →
    after.n ≡ old.n → after.scn ≡ old.scn → after.tables ≡ old.tables → after.whole ≡ old.whole →
    progress_of (Some (Stopped (Malformed (old.rec + 1) (causes.Law fault)))) after ≡
    progress_after_record skips (h, r) (Going (fold_state_of old))
bad_ends skips h r old after fault run is left n scn tables whole =
    let shown = bad_leaves h r old after run left tables whole in
    (λ i. Ended (record {
      n = n i;
      scn = scn i;
      tables = shown i;
      names = (left i).tables;
      verdict = Stopped (Malformed (run.rec i + 1) (causes.Law fault));
    }))
    ∙ ap (λ o. progress_unless_bad o skips (h, r) (fold_state_of old)) (sym is)

pub bad_sound : (h : Header) (r : RedoRec) (old after : Running) → IsRunning old →
    after.law.dictionary ≡ dictionary_left old.law (h, r) → after.tables ≡ old.tables → after.whole ≡ old.whole →
    AreSound (tables_of after)
bad_sound h r old after run left tables whole =
    let P : Tables → Type 0 = λ ts. AreSound ts in
    subst P (sym (bad_leaves h r old after run left tables whole)) run.sound

-- rows that wait are not looked at
pub bad_rows : (h : Header) (r : RedoRec) (old : Running) (fault : LawFault) → record_fault old.law (h, r) ≡ Some fault →
    RowsAreSound (h, r) (Going (fold_state_of old))
bad_rows h r old fault is = λ none part. let both : Some fault ≡ None = sym is ∙ none in absurd (cc)

-- no rows are sound tables
pub sound_without : (whole : Bool) (ts : List TableRow) → AreSound (tables_shown whole ts [])
sound_without true ts = sound_empty ts
sound_without false ts = tt

-- ---- the answers of admission

pub fault_told : (o : Option LawFault) (found : AdmitFault) (fault : LawFault) → found ≡ admits.Law fault →
    Judges {T = Unit {0}} o (Err found) → o ≡ Some fault
fault_told o found fault is told = let P : AdmitFault → Type 0 = λ f. Judges {T = Unit {0}} o (Err f) in subst P is told

pub left_told : (want left : Dictionary) (found : AdmitFault) (fault : LawFault) → found ≡ admits.Law fault →
    Leaves {T = Unit {0}} want left (Err found) → left ≡ want
left_told want left found fault is told = let P : AdmitFault → Type 0 =
    λ f. Leaves {T = Unit {0}} want left (Err f) in subst P is told

pub may_commit : (skips : List Skip) (h : Header) (r : RedoRec) (old now : Running) (live : OpenChanges) (vec : ℕ) (v : Vector)
    (rest : List Vector) (o : Option (List Placed)) → Steps skips h r old now vec (v ∷ rest) → o ≡ commit_of v now.live →
    IfSome o (λ ps. MayCommit (record now { live = live }) ps)
may_commit skips h r old now live vec v rest None s is = tt
may_commit skips h r old now live vec v rest (Some ps) s is =
    let one = commit_may skips h r old now vec v rest ps s (sym is) in
    record { whole = one.whole; accepted = one.accepted }

-- ---- how many records were taken

recs_committed : (skips : List Skip) (scn : ℕ) (o : Option (List Placed)) (a : FoldState) →
    recs_of (progress_with_commit skips scn o a) ≤ a.standing.rec
recs_committed skips scn None a = omega arith
recs_committed skips scn (Some ps) a =
    elim (nat_lt a.made a.n) as (λ b. recs_of (cond b (Going (record a { made = a.made + 1 }))
    (progress_after_effects scn (effects a.tables (kept_of skips (definitions_of a.tables) a.n ps)) a)) ≤ a.standing.rec) [
      | true ↦ omega arith
      | false ↦ by (halted scn (effects a.tables (kept_of skips (definitions_of a.tables) a.n ps)))
    ]
  where
    by : (o : Option Verdict) → recs_of (progress_or_end o scn
        (tables_or a.tables (effects a.tables (kept_of skips (definitions_of a.tables) a.n ps))) a) ≤ a.standing.rec
    by None = omega arith
    by (Some v) = omega arith

recs_vectors : (skips : List Skip) (scn rec vec : ℕ) (vs : List Vector) (p : Progress) →
    recs_of (progress_after_vectors skips scn rec vec vs p) ≤ recs_of p
recs_vectors skips scn rec vec [] p = omega arith
recs_vectors skips scn rec vec (v ∷ vs) (Ended f) = recs_vectors skips scn rec (vec + 1) vs (Ended f)
recs_vectors skips scn rec vec (v ∷ vs) (Going a) =
    let at : Pos = record { rec = rec; vec = vec } in
    let one = recs_committed skips scn (commit_of v a.live) (record a { live = live_after at v a.live }) in
    let later = recs_vectors skips scn rec (vec + 1) vs (progress_with_vector skips scn at v a) in
    omega (arith, one, later)

pub recs_after : (skips : List Skip) (h : Header) (r : RedoRec) (p : Progress) →
    recs_of (progress_after_record skips (h, r) p) ≤ recs_of p + 1
recs_after skips h r (Ended f) = omega arith
recs_after skips h r (Going a) = by (record_fault a.standing (h, r))
  where
    by : (o : Option LawFault) → recs_of (progress_unless_bad o skips (h, r) a) ≤ a.standing.rec + 1
    by (Some fault) = omega arith
    by None =
        let all = rec_all 1 r.vectors (entered_standing (h, r) a.standing) in
        let later = recs_vectors skips r.scn (a.standing.rec + 1) 1 r.vectors (Going (state_at_record (h, r) a)) in
        omega (arith, all, later)
