-- What the law of the redo begins with at a run's mark is what the first q records leave.
use Rattle.std.proofs.Common.{◌≡◌, ℕ, zero, suc, ◌+◌, ◌≤◌, ◌<◌, List, [], ◌∷◌, ◌++◌, take, drop, length, true, false, refl, sym, ap, ◌∙◌, subst, Some, None, arith}
use Rattle.std.specs.Prelude.{◌==◌, nat_le, if◌then◌else◌}
use Rattle.std.specs.Option.{option_map}
use Rattle.std.specs.List.{AllByRecursion}
use Rattle.std.proofs.lemmas.Bool.Decides.{nat_tests}
use Rattle.std.proofs.lemmas.List.{take-append-drop, take-take, length-take-le}
use Rattle.rl_value.specs.declared.verdict.Stop.{Stop}
use Rattle.redo_wire.specs.declared.raw.Raw.{Raw}
use Rattle.redo_vec.specs.declared.vector.Vector.{Vector}
use Rattle.redo_vec.specs.declared.vector.Vector.TheVariants.{Start, Change as OfChange, Undo, Commit, Rollback, Table as OfTable, DictEnd}
use Rattle.redo_spec.specs.declared.header.Header.{Header}
use Rattle.redo_spec.specs.Dictionary.{Dictionary, no_dictionary, ids_rise}
use Rattle.redo_spec.specs.History.{Entry, Committed, History, commit_count, no_history, after_vector, after_vectors, history_after}
use Rattle.redo_spec.specs.Standing.{Standing, beginning, standing_after, standing_after_all, standing_at_record, record_after}
use Rattle.redo_spec.specs.Law.{Admitted, dictionary_fault, vector_fault, vectors_fault, whole_fault, record_fault, dictionary_left, admitted_or, admission}
use Rattle.redo_spec.specs.Mark.{front}
use Rattle.redo_spec.specs.Redo.{Redo}
use Rattle.redo_spec.specs.Fold.{known_tables}
use Rattle.redo_spec.specs.Tables.{Table, Tables, RowsById, rows_by, assembled, empty_tables, definitions_of}
use Rattle.redo_spec.proofs.ListLaws.{all_take}
use Rattle.redo_spec.proofs.AdmissionLaws.{front_well, append_well, rec_well}
use Rattle.log_registry.specs.declared.entry.LogEntry.{LogEntry}
use Rattle.log_registry.specs.Registered.{entry_of, entries_from}
use Rattle.redo_reader.specs.declared.place.Place.{Place}
use Rattle.redo_reader.specs.Ahead.{ahead, in_its_log, redo_of_raws, redo_ahead, first_place}
use Rattle.primary.specs.Progress.{tables_shown}
use Rattle.primary.proofs.ApplyLaws.{definitions_assembled}
use Rattle.primary.proofs.DictionaryLaws.{record_keeps}
use Rattle.primary.proofs.FitLaws.{none_first, none_second, no_fault, is_whole, both}
use Rattle.standby_spec.specs.declared.mark.Mark.{Mark}
use Rattle.standby_spec.specs.KeptState.{KeptState}
use Rattle.standby_spec.specs.StandbyRedo.{Archived, standby_redo, redo_entries, admitted_redo, front_at}
use Rattle.standby_spec.specs.Checkpoint.{IsMarkOf}
use Rattle.standby_spec.specs.Lawful.{Belongs}
use Rattle.standby_spec.proofs.StoreLaws.{and-left, and-right}
use Rattle.standby_spec.proofs.OverLaws.{admitted-before}
use Rattle.run_spec.specs.RunStart.{whole_dictionary, dictionary_at, head_at, rows_by_id}
use Rattle.run_spec.proofs.Heads.{last_head, IsOf, head_well, heads_decoded, seq_behind, last_registered, all_in, from_in, of_registry}

-- ---- fronts

pub front_take : (es : List Entry) (q m : ℕ) → q ≤ m → take m es ≡ take q es ++ drop q (take m es)
front_take es q m order = sym (take-append-drop q (take m es)) ∙
    ap (λ (xs : List Entry). xs ++ drop q (take m es)) (take-take q m es order)

pub well_before : (first base : ℕ) (es : List Entry) (q m : ℕ) → q ≤ m → (front first base es m).fault ≡ None →
    (front first base es q).fault ≡ None
well_before first base es q m order well =
    front_well (take q es) (drop q (take m es)) (beginning first base) (no_history 0)
    (sym (ap (λ (xs : List Entry). (admission (beginning first base) (no_history 0) xs).fault) (front_take es q m order)) ∙ well)

pub rec_at : (first base : ℕ) (es : List Entry) (q : ℕ) → q ≤ length es → (front first base es q).fault ≡ None →
    (front first base es q).standing.rec ≡ q
rec_at first base es q there well =
    let count = rec_well (take q es) (beginning first base) (no_history 0) well in
    let long = length-take-le q es there in
    omega (arith, count, long)

-- the whole redo is what its first q records leave, and then the others
pub redo_from_front : (first base : ℕ) (es : List Entry) (q : ℕ) → (front first base es q).fault ≡ None →
    admission (beginning first base) (no_history 0) es ≡
    admission (front first base es q).standing (front first base es q).history (drop q es)
redo_from_front first base es q well =
    ap (admission (beginning first base) (no_history 0)) (sym (take-append-drop q es)) ∙
    append_well (take q es) (drop q es) (beginning first base) (no_history 0) well

-- ---- the first log

first_all : (vec : ℕ) (vs : List Vector) (s : Standing) → (standing_after_all vec vs s).first ≡ s.first
first_all vec [] s = refl
first_all vec (v ∷ vs) s = first_all (vec + 1) vs (standing_after vec v s)

pub first_record : (e : Entry) (s : Standing) → (record_after e s).first ≡ s.first
first_record (h, r) s = first_all 1 r.vectors (standing_at_record (h, r) s)

pub first_at : (es : List Entry) (s : Standing) (h : History) → (admission s h es).standing.first ≡ s.first
first_at [] s h = refl
first_at (e ∷ es) s h =
    elim (record_fault s e) as (λ o. (admitted_or o (dictionary_left s e) s h
    (admission (record_after e s) (history_after (s.rec + 1) e h) es)).standing.first ≡ s.first) [
      | Some fault ↦ refl
      | None ↦ first_at es (record_after e s) (history_after (s.rec + 1) e h) ∙ first_record e s
    ]

-- ---- the dictionary

-- before the dictionary is whole nothing was committed
abbrev pub Early : Standing → History → Type 0
Early s h = s.dictionary.finished ≡ false → h.commits.made ≡ []

early_vector : (head : Header) (vec : ℕ) (v : Vector) (s : Standing) (h : History) → vector_fault head s v ≡ None → Early s h →
    Early (standing_after vec v s) (after_vector s.scn (record { rec = s.rec; vec = vec }) v h)
early_vector head vec (Start x) s h fits e = e
early_vector head vec (OfChange c) s h fits e = e
early_vector head vec (Undo x) s h fits e = e
early_vector head vec (Commit x) s h fits e = λ part. both s.dictionary.finished
    (is_whole s.dictionary.finished _ (no_fault _ _ (none_first (dictionary_fault head s (Commit x)) _ fits))) part
early_vector head vec (Rollback x) s h fits e = e
early_vector head vec (OfTable t) s h fits e = e
early_vector head vec DictEnd s h fits e = λ part. absurd (cc)

early_vectors : (head : Header) (vec : ℕ) (vs : List Vector) (s : Standing) (h : History) →
    vectors_fault head vec vs s ≡ None → Early s h →
    Early (standing_after_all vec vs s) (after_vectors s.scn s.rec vec vs h)
early_vectors head vec [] s h fits e = e
early_vectors head vec (v ∷ vs) s h fits e =
    early_vectors head (vec + 1) vs (standing_after vec v s) _ (none_second (vector_fault head s v) _ fits)
    (early_vector head vec v s h (none_first (vector_fault head s v) _ fits) e)

early_record : (e : Entry) (s : Standing) (h : History) → record_fault s e ≡ None → Early s h →
    Early (record_after e s) (history_after (s.rec + 1) e h)
early_record (head, r) s h fits e =
    early_vectors head 1 r.vectors (standing_at_record (head, r) s) h (none_second (whole_fault s (head, r)) _ fits) e

pub early_at : (es : List Entry) (s : Standing) (h : History) → Early s h →
    Early (admission s h es).standing (admission s h es).history
early_at [] s h e = e
early_at (x ∷ es) s h e =
    elim (record_fault s x) as (λ o. record_fault s x ≡ o → Early
    (admitted_or o (dictionary_left s x) s h (admission (record_after x s) (history_after (s.rec + 1) x h) es)).standing
    (admitted_or o (dictionary_left s x) s h (admission (record_after x s) (history_after (s.rec + 1) x h) es)).history) [
      | Some fault ↦ λ is. e
      | None ↦ λ fits. early_at es (record_after x s) (history_after (s.rec + 1) x h) (early_record x s h fits e)
    ] refl

-- where a commit stands the dictionary is whole
pub finished_where : (s : Standing) (h : History) → h.commits.before ≡ 0 → Early s h → 0 < commit_count h.commits →
    s.dictionary.finished ≡ true
finished_where s h none early some =
    elim s.dictionary.finished as (λ b. s.dictionary.finished ≡ b → b ≡ true) [
      | true ↦ λ is. refl
      | false ↦ λ is.
          let gone : length h.commits.made ≡ 0 = ap (λ (cs : List Committed). length cs) (early is) in
          absurd (omega (arith, none, some, gone))
    ] refl

-- a whole dictionary stays
pub dictionary_on : (es : List Entry) (s : Standing) (h : History) → s.dictionary.finished ≡ true →
    (admission s h es).standing.dictionary ≡ s.dictionary
dictionary_on [] s h whole = refl
dictionary_on (e ∷ es) s h whole =
    elim (record_fault s e) as (λ o. record_fault s e ≡ o → (admitted_or o (dictionary_left s e) s h
    (admission (record_after e s) (history_after (s.rec + 1) e h) es)).standing.dictionary ≡ s.dictionary) [
      | Some fault ↦ λ is. refl
      | None ↦ λ fits.
          let same = record_keeps e s fits whole in
          dictionary_on es (record_after e s) (history_after (s.rec + 1) e h) (ap (λ (d : Dictionary). d.finished) same ∙ whole) ∙
          same
    ] refl

pub tables_known : (s : Standing) → s.dictionary.finished ≡ true → definitions_of (known_tables s) ≡ s.dictionary.tables
tables_known s whole =
    ap (λ b. definitions_of (if b then empty_tables s.dictionary.tables else [])) whole ∙
    definitions_assembled s.dictionary.tables []

no_tables : (ts : Tables) → definitions_of ts ≡ [] → ts ≡ []
no_tables [] e = refl
no_tables (t ∷ ts) e = absurd (cc)

-- ---- tables by their rows

rise-least : (least : ℕ) (t : Table) (ts : Tables) → ids_rise least (definitions_of (t ∷ ts)) ≡ true → least ≤ t.row.id
rise-least least t ts rise =
    let here : nat_le least t.row.id ≡ true = and-left (nat_le least t.row.id)
    (ids_rise (t.row.id + 1) (definitions_of ts)) rise in
    grind (arith, nat_tests)

rise-rest : (least : ℕ) (t : Table) (ts : Tables) → ids_rise least (definitions_of (t ∷ ts)) ≡ true →
    ids_rise (t.row.id + 1) (definitions_of ts) ≡ true
rise-rest least t ts rise = and-right (nat_le least t.row.id) (ids_rise (t.row.id + 1) (definitions_of ts)) rise

abbrev HasRows : RowsById → Table → Type 0
HasRows by t = rows_by by t.row.id ≡ t.rows

rows-behind : (t : Table) (by : RowsById) (ts : Tables) (least : ℕ) → t.row.id < least →
    ids_rise least (definitions_of ts) ≡ true →
    AllByRecursion (HasRows by) ts → AllByRecursion (HasRows ((t.row.id, t.rows) ∷ by)) ts
rows-behind t by [] least lt rise is = tt
rows-behind t by (u ∷ us) least lt rise is =
    let low = rise-least least u us rise in
    let apart : (t.row.id == u.row.id) ≡ false = grind (arith, nat_tests, low, lt) in (
      ap (λ b. if b then t.rows else rows_by by u.row.id) apart ∙ is.0,
      rows-behind t by us (u.row.id + 1) (omega (arith, low, lt)) (rise-rest least u us rise) is.1,
    )

has-rows : (least : ℕ) (ts : Tables) → ids_rise least (definitions_of ts) ≡ true → AllByRecursion (HasRows (rows_by_id ts)) ts
has-rows least [] rise = tt
has-rows least (t ∷ ts) rise =
    let same : (t.row.id == t.row.id) ≡ true = grind (arith, nat_tests) in (
      ap (λ b. if b then t.rows else rows_by (rows_by_id ts) t.row.id) same,
      rows-behind t (rows_by_id ts) ts (t.row.id + 1) (omega arith) (rise-rest least t ts rise)
          (has-rows (t.row.id + 1) ts (rise-rest least t ts rise)),
    )

assembled-all : (by : RowsById) (ts : Tables) → AllByRecursion (HasRows by) ts → assembled (definitions_of ts) by ≡ ts
assembled-all by [] is = refl
assembled-all by (t ∷ ts) is =
    let rest = assembled-all by ts is.1 in
    let rows = is.0 in
    λ i. record { row = t.row; rows = rows i } ∷ rest i

-- tables whose ids rise are those of their definitions and rows
pub assembled-again : (ts : Tables) → ids_rise 0 (definitions_of ts) ≡ true → assembled (definitions_of ts) (rows_by_id ts) ≡ ts
assembled-again ts rise = assembled-all (rows_by_id ts) ts (has-rows 0 ts rise)

-- the kept tables are those that their rows show by the redo's dictionary
pub shown_kept : (logs : Archived) (s : KeptState) → Belongs logs s →
    let d = (admitted_redo logs s).standing.dictionary in tables_shown d.finished d.tables (rows_by_id s.tables) ≡ s.tables
shown_kept logs s b =
    let last = (admitted_redo logs s).standing in
    elim last.dictionary.finished as (λ w. last.dictionary.finished ≡ w →
    (if w then assembled last.dictionary.tables (rows_by_id s.tables) else []) ≡ s.tables) [
      | true ↦ λ whole.
          let same : definitions_of s.tables ≡ last.dictionary.tables = b.dictionary ∙ tables_known last whole in
          ap (λ ds. assembled ds (rows_by_id s.tables)) (sym same) ∙ assembled-again s.tables b.layout.ids
      | false ↦ λ part.
          let none : definitions_of s.tables ≡ [] = b.dictionary ∙
          ap (λ w. definitions_of (if w then empty_tables last.dictionary.tables else [])) part in
          sym (no_tables s.tables none)
    ] refl

-- behind records that are well and have a whole dictionary, it is that of the kept tables
pub whole_front : (logs : Archived) (s : KeptState) (q : ℕ) → Belongs logs s → (front_at logs s q).fault ≡ None →
    (front_at logs s q).standing.dictionary.finished ≡ true → whole_dictionary s.tables ≡ (front_at logs s q).standing.dictionary
whole_front logs s q b well whole =
    let f = front_at logs s q in
    let es = redo_entries logs s in
    let same : (admitted_redo logs s).standing.dictionary ≡ f.standing.dictionary =
    ap (λ (a : Admitted). a.standing.dictionary) (redo_from_front s.first s.base es q well) ∙
    dictionary_on (drop q es) f.standing f.history whole in
    let last_whole : (admitted_redo logs s).standing.dictionary.finished ≡ true =
    ap (λ (d : Dictionary). d.finished) same ∙ whole in
    let tables : definitions_of s.tables ≡ f.standing.dictionary.tables =
    b.dictionary ∙ tables_known (admitted_redo logs s).standing last_whole ∙ ap (λ (d : Dictionary). d.tables) same in
    λ i. record { tables = tables i; finished = sym whole i }

-- ---- at the mark

-- a mark behind no commit is that of no record
abbrev pub StandsFirst : Mark → Type 0
StandsFirst k = (k.before == 0) ≡ true → k.q ≡ 0

none_before : (first base : ℕ) (es : List Entry) (q : ℕ) → (front first base es q).history.commits.before ≡ 0
none_before first base es q = admitted-before (beginning first base) (no_history 0) (take q es)

pub dictionary_is : (logs : Archived) (s : KeptState) (n : ℕ) (k : Mark) → Belongs logs s → IsMarkOf logs s n k → StandsFirst k →
    dictionary_at k s.tables ≡ (front_at logs s k.q).standing.dictionary
dictionary_is logs s n k b right first =
    elim (k.before == 0) as (λ w. (k.before == 0) ≡ w →
    (if w then no_dictionary else whole_dictionary s.tables) ≡ (front_at logs s k.q).standing.dictionary) [
      | true ↦ λ is. sym (ap (λ (q : ℕ). (front_at logs s q).standing.dictionary) (first is))
      | false ↦ λ is.
          let f = front_at logs s k.q in
          let es = redo_entries logs s in
          let well = well_before s.first s.base es k.q k.m right.fits.order right.fits.well in
          let count = right.before in
          let apart : 0 < k.before = grind (arith, nat_tests, is) in
          let some : 0 < commit_count f.history.commits = omega (arith, apart, count) in
          let whole = finished_where f.standing f.history (none_before s.first s.base es k.q)
          (early_at (take k.q es) (beginning s.first s.base) (no_history 0) (λ part. refl)) some in
          whole_front logs s k.q b well whole
    ] refl

-- a commit stands in some record
some_record : (first base : ℕ) (es : List Entry) (q : ℕ) → 0 < commit_count (front first base es q).history.commits → 1 ≤ q
some_record first base es zero some = absurd (omega (arith, some))
some_record first base es (suc q) some = omega arith

-- as many records were cut off as decode, at least
cut_some : (raws : List Raw) (stop : Stop) (q rec : ℕ) → 1 ≤ q → q ≤ length (redo_of_raws rec raws stop).entries →
    1 ≤ length (take q raws)
cut_some [] stop q rec some long = absurd (omega (arith, some, long))
cut_some (raw ∷ raws) stop zero rec some long = absurd (omega (arith, some))
cut_some (raw ∷ raws) stop (suc q) rec some long = omega arith

pub head_is : (logs : Archived) (s : KeptState) (n : ℕ) (k : Mark) → Belongs logs s → IsMarkOf logs s n k → StandsFirst k →
    redo_ahead logs s.logs (first_place s.first 0) ≡ standby_redo logs s →
    head_at k s.logs ≡ (front_at logs s k.q).standing.head
head_is logs s n k b right first redo =
    elim (k.before == 0) as (λ w. (k.before == 0) ≡ w →
    (if w then None else option_map (λ e. e.head) (entry_of k.place.seq s.logs)) ≡ (front_at logs s k.q).standing.head) [
      | true ↦ λ is. sym (ap (λ (q : ℕ). (front_at logs s q).standing.head) (first is))
      | false ↦ λ is.
          let es = redo_entries logs s in
          let raws = (ahead logs s.logs (first_place s.first 0)).raws in
          let order = right.fits.order in
          let there = right.fits.there in
          let well = well_before s.first s.base es k.q k.m order right.fits.well in
          let count = right.before in
          let apart : 0 < k.before = grind (arith, nat_tests, is) in
          let some : 1 ≤ k.q = some_record s.first s.base es k.q (omega (arith, apart, count)) in
          let entries : es ≡ (redo_ahead logs s.logs (first_place s.first 0)).entries = sym (ap (λ (r : Redo). r.entries) redo) in
          let long : k.q ≤ length (redo_ahead logs s.logs (first_place s.first 0)).entries =
          subst (λ (xs : List Entry). k.q ≤ length xs) entries (omega (arith, order, there)) in
          let decoded = heads_decoded raws (ahead logs s.logs (first_place s.first 0)).stop k.q 0 None long in
          let of = all_take (IsOf s.logs) k.q raws (of_registry logs s.logs s.first (in_its_log (first_place s.first 0))
          (entries_from s.first s.logs) (from_in s.logs s.first s.logs (all_in 0 s.logs b.layout.rising))) in
          let cut : 1 ≤ length (take k.q raws) = cut_some raws (ahead logs s.logs (first_place s.first 0)).stop k.q 0 some long in
          ap (λ (p : Place). option_map (λ (e : LogEntry). e.head) (entry_of p.seq s.logs)) right.place
          ∙ ap (λ (seq : ℕ). option_map (λ (e : LogEntry). e.head) (entry_of seq s.logs))
          (seq_behind (first_place s.first 0) (take k.q raws))
          ∙ last_registered s.logs s.first None (take k.q raws) of cut
          ∙ sym decoded
          ∙ ap (λ (xs : List Entry). last_head None (take k.q xs)) (sym entries)
          ∙ sym (head_well (take k.q es) (beginning s.first s.base) (no_history 0) well)
    ] refl
