-- In committed mode a miner gives the lines of the contents: what it keeps with each change is the SCN of that change's record.
use Rattle.std.proofs.Common.{◌≡◌, subst, filter, ℕ, ◌+◌, ◌-◌, ◌<◌, List, [], ◌∷◌, ◌++◌, take, length, map, sym, ap, ◌∙◌, refl, Bool, true, false, cond, not, ◌||◌, Some, None, arith}
use Rattle.std.specs.Prelude.{slice_get, codes, ⊤}
use Rattle.std.specs.List.{AllByRecursion, flat_map, list_any}
use Rattle.std.specs.Option.{option_map_or}
use Rattle.std.proofs.lemmas.Grind.{flat_map-append}
use Rattle.std.proofs.lemmas.List.{append-nil, append_assoc, length-append, map-append, length-map, take-map}
use Rattle.std.proofs.Math.Seq.{take-append_seam}
use Rattle.rl_value.specs.declared.pos.Pos.{Pos}
use Rattle.rl_value.specs.declared.xid.Xid.{Xid}
use Rattle.redo_vec.specs.declared.change.Change.{Change}
use Rattle.redo_vec.specs.declared.redo_rec.RedoRec.{RedoRec}
use Rattle.redo_vec.specs.declared.table.TableRow.{TableRow}
use Rattle.redo_vec.specs.declared.vector.Vector.{Vector}
use Rattle.redo_vec.specs.declared.vector.Vector.TheVariants.{Start, Change as OfChange, Undo, Commit, Rollback, Table, DictEnd}
use Rattle.redo_spec.specs.declared.header.Header.{Header}
use Rattle.redo_spec.specs.History.{Entry, Placed, Txn, Committed, History, same_xid, txn_after_change, txn_after_undo, of_xid, has_xid, txn_known_by_commit, txns_ended_by, after_vector, after_vectors, history_after, history_at, no_history}
use Rattle.redo_spec.specs.Standing.{Standing, OpenTxn, beginning, is_open, open_txn, standing_after, standing_after_all, standing_at_record, record_after, standing_at}
use Rattle.redo_spec.specs.Law.{admission, dictionary_fault, dictionary_left, is_passed_over, open_fault, vector_fault, vectors_fault, whole_fault, record_fault}
use Rattle.redo_spec.specs.Lines.{Line}
use Rattle.redo_spec.proofs.ListLaws.{all_append, all_filter, all_map, all_take, any_map}
use Rattle.redo_spec.proofs.StandingLaws.{Agrees, agrees_after, filter_seen, none_first, none_second, no_fault}
use Rattle.redo_spec.proofs.MarkStandings.{never_passed}
use Rattle.redo_spec.proofs.AdmissionLaws.{rec_after_record, fault_first, fault_later, well_leaves}
use Rattle.sql_text.specs.Contents.{word_line, change_line}
use Rattle.log_miner.specs.MinedLines.{scn_of, tables_behind, commit_lines, committed_lines}
use Rattle.log_miner.specs.Live.{Stamped, Live, started, live_of, one_more, one_fewer, live_after, live_after_all}
use Rattle.log_miner.specs.Mining.{ended_lines, vector_given, Mining, unbegun, standing_or, given_by, mined_record, record_given, records_given}
use Rattle.log_miner.proofs.PlainLaws.{map_chosen}

-- ---- the open transactions

-- a transaction as the history has it, without the SCNs
abbrev pub bare : Live → Txn
bare t = record { start = t.start; xid = t.xid; survivors = map (λ p. p.1) t.changes }

abbrev pub bare_all : List Live → List Txn
bare_all ts = map bare ts

more_seen : (scn : ℕ) (at : Pos) (c : Change) (t : Live) → txn_after_change (at, c) (bare t) ≡ bare (one_more true scn at c t)
more_seen scn at c t =
    ap (λ (ps : List Placed). record { start = t.start; xid = t.xid; survivors = ps })
    (sym (map-append (λ (q : Stamped). q.1) t.changes ((scn, (at, c)) ∷ [])))

fewer_seen : (t : Live) → txn_after_undo (bare t) ≡ bare (one_fewer true t)
fewer_seen t =
    ap (λ n. record { start = t.start; xid = t.xid; survivors = take (n - 1) (map (λ (q : Stamped). q.1) t.changes) })
    (length-map t.changes (λ (q : Stamped). q.1))
    ∙ ap (λ (ps : List Placed). record { start = t.start; xid = t.xid; survivors = ps }) (take-map (λ (q : Stamped). q.1) (length
    t.changes - 1) t.changes)

live_seen : (scn : ℕ) (at : Pos) (v : Vector) (live : List Live) (h : History) → bare_all live ≡ h.active →
    bare_all (live_after true scn at v live) ≡ (after_vector scn at v h).active
live_seen scn at (Start x) live h e =
    map-append bare live (started scn at x ∷ []) ∙ ap (λ (ts : List Txn). ts
    ++ record { start = at; xid = x; survivors = [] } ∷ []) e
live_seen scn at (OfChange c) live h e =
    sym (map_chosen bare (one_more true scn at c) (txn_after_change (at, c)) (λ t. same_xid t.xid c.xid) (λ t. same_xid t.xid
    c.xid) (λ t. refl) (more_seen scn at c) live)
    ∙ ap (λ ts. map (λ t. cond (same_xid t.xid c.xid) (txn_after_change (at, c) t) t) ts) e
live_seen scn at (Undo x) live h e =
    sym (map_chosen bare (one_fewer true) txn_after_undo (λ t. same_xid t.xid x) (λ t. same_xid t.xid x) (λ t. refl) fewer_seen
    live)
    ∙ ap (λ ts. map (λ t. cond (same_xid t.xid x) (txn_after_undo t) t) ts) e
live_seen scn at (Commit x) live h e =
    sym (filter_seen bare (λ t. not (same_xid t.xid x)) (λ t. not (same_xid t.xid x)) (λ t. refl) live)
    ∙ ap (λ (ts : List Txn). filter (λ t. not (same_xid t.xid x)) ts) e
live_seen scn at (Rollback x) live h e =
    sym (filter_seen bare (λ t. not (same_xid t.xid x)) (λ t. not (same_xid t.xid x)) (λ t. refl) live)
    ∙ ap (λ (ts : List Txn). filter (λ t. not (same_xid t.xid x)) ts) e
live_seen scn at (Table t) live h e = e
live_seen scn at DictEnd live h e = e

vectors_seen : (scn rec vec : ℕ) (vs : List Vector) (live : List Live) (h : History) → bare_all live ≡ h.active →
    bare_all (live_after_all true scn rec vec vs live) ≡ (after_vectors scn rec vec vs h).active
vectors_seen scn rec vec [] live h e = e
vectors_seen scn rec vec (v ∷ vs) live h e =
    let at : Pos = record { rec = rec; vec = vec } in
    vectors_seen scn rec (vec + 1) vs (live_after true scn at v live) (after_vector scn at v h) (live_seen scn at v live h e)

-- ---- the SCNs that are kept

-- a change is kept with the SCN of its record
abbrev pub IsStamped : (ℕ → ℕ) → Stamped → Type 0
IsStamped scns p = p.0 ≡ scns p.1.0.rec

pub record IsKept (scns : ℕ → ℕ) (t : Live) : Type 0 where
  pub start : t.scn ≡ scns t.start.rec
  pub changes : AllByRecursion (IsStamped scns) t.changes

kept_if : (scns : ℕ → ℕ) (b : Bool) (f : Live → Live) (t : Live) → ((u : Live) → IsKept scns u → IsKept scns (f u)) →
    IsKept scns t → IsKept scns (cond b (f t) t)
kept_if scns true f t each k = each t k
kept_if scns false f t each k = k

pub kept_after : (scns : ℕ → ℕ) (scn : ℕ) (at : Pos) (v : Vector) (live : List Live) → scn ≡ scns at.rec →
    AllByRecursion (IsKept scns) live → AllByRecursion (IsKept scns) (live_after true scn at v live)
kept_after scns scn at (Start x) live e all =
    all_append (IsKept scns) live (started scn at x ∷ []) all (record { start = e; changes = tt }, tt)
kept_after scns scn at (OfChange c) live e all =
    all_map (IsKept scns) (IsKept scns) (λ t. cond (same_xid t.xid c.xid) (one_more true scn at c t) t)
    (λ t k. kept_if scns (same_xid t.xid c.xid) (one_more true scn at c) t
    (λ u l. record { start = l.start; changes = all_append (IsStamped scns) u.changes ((scn, (at, c)) ∷ []) l.changes (e, tt) })
    k)
    live all
kept_after scns scn at (Undo x) live e all =
    all_map (IsKept scns) (IsKept scns) (λ t. cond (same_xid t.xid x) (one_fewer true t) t)
    (λ t k. kept_if scns (same_xid t.xid x) (one_fewer true) t
    (λ u l. record { start = l.start; changes = all_take (IsStamped scns) (length u.changes - 1) u.changes l.changes }) k)
    live all
kept_after scns scn at (Commit x) live e all = all_filter (IsKept scns) (λ t. not (same_xid t.xid x)) live all
kept_after scns scn at (Rollback x) live e all = all_filter (IsKept scns) (λ t. not (same_xid t.xid x)) live all
kept_after scns scn at (Table t) live e all = all
kept_after scns scn at DictEnd live e all = all

kept_after_all : (scns : ℕ → ℕ) (scn rec vec : ℕ) (vs : List Vector) (live : List Live) → scn ≡ scns rec →
    AllByRecursion (IsKept scns) live →
    AllByRecursion (IsKept scns) (live_after_all true scn rec vec vs live)
kept_after_all scns scn rec vec [] live e all = all
kept_after_all scns scn rec vec (v ∷ vs) live e all =
    let at : Pos = record { rec = rec; vec = vec } in
    kept_after_all scns scn rec (vec + 1) vs (live_after true scn at v live) e (kept_after scns scn at v live e all)

-- ---- the lines of one commit

change_lines : (scns : ℕ → ℕ) (tables : List TableRow) (ps : List Stamped) → AllByRecursion (IsStamped scns) ps →
    map (λ (p : Placed). change_line tables (scns p.0.rec) p) (map (λ (q : Stamped). q.1) ps)
    ≡ map (λ (q : Stamped). change_line tables q.0 q.1) ps
change_lines scns tables [] all = refl
change_lines scns tables (q ∷ qs) all =
    ap (λ n. change_line tables n q.1 ∷ map (λ (p : Placed). change_line tables (scns p.0.rec) p) (map (λ (q : Stamped). q.1)
    qs)) (sym all.0)
    ∙ ap (λ (ls : List Line). change_line tables q.0 q.1 ∷ ls) (change_lines scns tables qs all.1)

abbrev ended_at : Pos → ℕ → Txn → Committed
ended_at at scn t = record { txn = t; at = at; scn = scn }

-- the lines of commits, by the tables behind each one's record and the SCNs of the records
abbrev lines_by : (ℕ → List TableRow) → (ℕ → ℕ) → Committed → List Line
lines_by known scns c = commit_lines (known c.at.rec) scns c

one_ended : (scns : ℕ → ℕ) (tables : List TableRow) (scn : ℕ) (at : Pos) (t : Live) → IsKept scns t →
    commit_lines tables scns (ended_at at scn (bare t)) ≡ ended_lines tables scn at t
one_ended scns tables scn at t k =
    ap (λ n. word_line (codes "START") n t.start t.xid ∷ map (λ (p : Placed). change_line tables (scns p.0.rec) p) (map (λ (q :
    Stamped). q.1) t.changes) ++ word_line (codes "COMMIT") scn at t.xid ∷ []) (sym k.start)
    ∙ ap (λ (ls : List Line). word_line (codes "START") t.scn t.start t.xid ∷ ls
    ++ word_line (codes "COMMIT") scn at t.xid ∷ []) (change_lines scns tables t.changes k.changes)

all_ended : (known : ℕ → List TableRow) (scns : ℕ → ℕ) (scn : ℕ) (at : Pos) (live : List Live) →
    AllByRecursion (IsKept scns) live →
    flat_map (lines_by known scns) (map (ended_at at scn) (bare_all live)) ≡ flat_map (ended_lines (known at.rec) scn at) live
all_ended known scns scn at [] all = refl
all_ended known scns scn at (t ∷ ts) all =
    ap (λ (ls : List Line). ls ++ flat_map (lines_by known scns) (map (ended_at at scn) (bare_all ts))) (one_ended scns (known
    at.rec) scn at t all.0)
    ∙ ap (λ (ls : List Line). ended_lines (known at.rec) scn at t ++ ls) (all_ended known scns scn at ts all.1)

-- ---- one vector

is_there : (a b : Bool) → b ≡ false → not (a || b) ≡ false → a ≡ true
is_there true b none e = refl
is_there false true none e = sym none
is_there false false none e = absurd (cc)

-- a transaction that commits is open
commits_open : (s : Standing) (h : History) (x : Xid) → Agrees s h → s.known < s.rec → open_fault s x ≡ None → has_xid x h.active
    ≡ true
commits_open s h x a past fits =
    let there : is_open s x ≡ true = is_there (is_open s x) (is_passed_over s x) (never_passed s x past) (no_fault _ _ fits) in
    sym (ap (λ (ts : List OpenTxn). list_any (λ t. same_xid t.xid x) ts) a.same
    ∙ any_map (λ t. same_xid t.xid x) (open_txn s.dictionary.tables) h.active) ∙ there

none_made : (ls : List Line) → ls ≡ ls ++ []
none_made ls = sym (append-nil ls)

one_vector : (known : ℕ → List TableRow) (scns : ℕ → ℕ) (hd : Header) (vec : ℕ) (v : Vector) (live : List Live) (s : Standing) (h
    : History) →
    bare_all live ≡ h.active → AllByRecursion (IsKept scns) live → Agrees s h → s.known < s.rec → vector_fault hd s v ≡ None →
    flat_map (lines_by known scns) (after_vector s.scn (record { rec = s.rec; vec = vec }) v h).commits.made
    ≡ flat_map (lines_by known scns) h.commits.made ++ vector_given true (known s.rec) s.scn (record { rec = s.rec; vec = vec })
    v live
one_vector known scns hd vec (Start x) live s h same all a past fits = none_made (flat_map (lines_by known scns) h.commits.made)
one_vector known scns hd vec (OfChange c) live s h same all a past fits = none_made (flat_map (lines_by known scns)
    h.commits.made)
one_vector known scns hd vec (Undo x) live s h same all a past fits = none_made (flat_map (lines_by known scns) h.commits.made)
one_vector known scns hd vec (Commit x) live s h same all a past fits =
    let at : Pos = record { rec = s.rec; vec = vec } in
    let f = lines_by known scns in
    let there = commits_open s h x a past (none_first (open_fault s x) _ (none_second (dictionary_fault hd s (Commit x)) _ fits))
    in
    let ended : txns_ended_by at x h.active ≡ bare_all (live_of x live) =
    ap (λ b. cond b (of_xid x h.active) (txn_known_by_commit at x ∷ [])) there
    ∙ ap (of_xid x) (sym same)
    ∙ filter_seen bare (λ t. same_xid t.xid x) (λ t. same_xid t.xid x) (λ t. refl) live in
    flat_map-append f h.commits.made (map (ended_at at s.scn) (txns_ended_by at x h.active))
    ∙ ap (λ (ls : List Line). flat_map f h.commits.made ++ ls)
    (ap (λ (ts : List Txn). flat_map f (map (ended_at at s.scn) ts)) ended
    ∙ all_ended known scns s.scn at (live_of x live) (all_filter (IsKept scns) (λ t. same_xid t.xid x) live all))
one_vector known scns hd vec (Rollback x) live s h same all a past fits = none_made (flat_map (lines_by known scns)
    h.commits.made)
one_vector known scns hd vec (Table t) live s h same all a past fits = none_made (flat_map (lines_by known scns) h.commits.made)
one_vector known scns hd vec DictEnd live s h same all a past fits = none_made (flat_map (lines_by known scns) h.commits.made)

-- ---- the vectors of a record

all_vectors : (known : ℕ → List TableRow) (scns : ℕ → ℕ) (hd : Header) (vec : ℕ) (vs : List Vector) (live : List Live) (s :
    Standing) (h : History) →
    bare_all live ≡ h.active → AllByRecursion (IsKept scns) live → s.scn ≡ scns s.rec → Agrees s h → s.known < s.rec →
    vectors_fault hd vec vs s ≡ None →
    flat_map (lines_by known scns) (after_vectors s.scn s.rec vec vs h).commits.made
    ≡ flat_map (lines_by known scns) h.commits.made ++ given_by true (known s.rec) s.scn s.rec vec vs live
all_vectors known scns hd vec [] live s h same all stamp a past fits = none_made (flat_map (lines_by known scns) h.commits.made)
all_vectors known scns hd vec (v ∷ vs) live s h same all stamp a past fits =
    let at : Pos = record { rec = s.rec; vec = vec } in
    let f = lines_by known scns in
    let live' = live_after true s.scn at v live in
    let h' = after_vector s.scn at v h in
    let s' = standing_after vec v s in
    let first = none_first (vector_fault hd s v) _ fits in
    let here : flat_map f h'.commits.made ≡ flat_map f h.commits.made ++ vector_given true (known s.rec) s.scn at v live =
    one_vector known scns hd vec v live s h same all a past first in
    let later = given_by true (known s.rec) s.scn s.rec (vec + 1) vs live' in
    all_vectors known scns hd (vec + 1) vs live' s' h' (live_seen s.scn at v live h same) (kept_after scns s.scn at v live stamp
    all) stamp
    (agrees_after hd vec v s h a (none_first (dictionary_fault hd s v) _ first)) past (none_second (vector_fault hd s v) _ fits)
    ∙ ap (λ (ls : List Line). ls ++ later) here
    ∙ append_assoc (flat_map f h.commits.made) (vector_given true (known s.rec) s.scn at v live) later

-- ---- the records

-- these are the tables behind each record, and its SCN
abbrev pub Follow : (ℕ → List TableRow) → (ℕ → ℕ) → List Entry → Standing → Type 0
Follow known scns [] s = ⊤
Follow known scns (e ∷ es) s = (known (s.rec + 1) ≡ (record_after e s).dictionary.tables) × (scns (s.rec + 1)
    ≡ e.1.scn) × Follow known scns es (record_after e s)

agrees_all : (hd : Header) (vec : ℕ) (vs : List Vector) (s : Standing) (h : History) → Agrees s h → vectors_fault hd vec vs s
    ≡ None → Agrees (standing_after_all vec vs s) (after_vectors s.scn s.rec vec vs h)
agrees_all hd vec [] s h a fits = a
agrees_all hd vec (v ∷ vs) s h a fits =
    let first = none_first (vector_fault hd s v) _ fits in
    agrees_all hd (vec + 1) vs (standing_after vec v s) (after_vector s.scn (record { rec = s.rec; vec = vec }) v h)
    (agrees_after hd vec v s h a (none_first (dictionary_fault hd s v) _ first)) (none_second (vector_fault hd s v) _ fits)

known_all : (vec : ℕ) (vs : List Vector) (s : Standing) → (standing_after_all vec vs s).known ≡ s.known
known_all vec [] s = refl
known_all vec (v ∷ vs) s = known_all (vec + 1) vs (standing_after vec v s)

below : (k n : ℕ) → k ≡ 0 → k < n + 1
below k n e = omega (arith, e)

-- what holds of a miner between two records
pub record Goes (scns : ℕ → ℕ) (m : Mining) (s : Standing) (h : History) : Type 0 where
  pub mode : m.committed ≡ true
  pub same : bare_all m.live ≡ h.active
  pub kept : AllByRecursion (IsKept scns) m.live
  pub agrees : Agrees s h
  pub known : s.known ≡ 0

one_record : (known : ℕ → List TableRow) (scns : ℕ → ℕ) (hd : Header) (r : RedoRec) (m : Mining) (s : Standing) (h : History) →
    Goes scns m s h → standing_or m.standing hd ≡ s →
    known (s.rec + 1) ≡ (record_after (hd, r) s).dictionary.tables → scns (s.rec + 1) ≡ r.scn → record_fault s (hd, r) ≡ None →
    flat_map (lines_by known scns) (history_after (s.rec + 1) (hd, r) h).commits.made
    ≡ flat_map (lines_by known scns) h.commits.made ++ record_given (hd, r) m
one_record known scns hd r m s h g stands tables scn fits =
    let made = flat_map (lines_by known scns) h.commits.made in
    all_vectors known scns hd 1 r.vectors m.live (standing_at_record (hd, r) s) h g.same g.kept (sym scn) (record {
      same =
          g.agrees.same;
      none = g.agrees.none;
    }) (below s.known s.rec g.known)
    (none_second (whole_fault s (hd, r)) _ fits)
    ∙ ap (λ (ts : List TableRow). made ++ given_by true ts r.scn (s.rec + 1) 1 r.vectors m.live) tables
    ∙ ap (λ (st : Standing). made ++ given_by true (record_after (hd, r) st).dictionary.tables r.scn (st.rec + 1) 1 r.vectors
    m.live) (sym stands)
    ∙ ap (λ b. made ++ given_by b (record_after (hd, r) (standing_or m.standing hd)).dictionary.tables r.scn ((standing_or
    m.standing hd).rec + 1) 1 r.vectors m.live) (sym g.mode)

goes_on : (scns : ℕ → ℕ) (hd : Header) (r : RedoRec) (m : Mining) (s : Standing) (h : History) → Goes scns m s h →
    standing_or m.standing hd ≡ s → scns (s.rec + 1) ≡ r.scn → record_fault s (hd, r) ≡ None →
    Goes scns (mined_record (hd, r) m) (record_after (hd, r) s) (history_after (s.rec + 1) (hd, r) h)
goes_on scns hd r m s h g stands scn fits =
    let rec' = (standing_or m.standing hd).rec + 1 in
    let stamped : r.scn ≡ scns rec' = sym scn ∙ ap (λ (st : Standing). scns (st.rec + 1)) (sym stands) in
    record {
      mode = g.mode;
      same =
          ap (λ b. bare_all (live_after_all b r.scn rec' 1 r.vectors m.live)) g.mode
          ∙ ap (λ (st : Standing). bare_all (live_after_all true r.scn (st.rec + 1) 1 r.vectors m.live)) stands
          ∙ vectors_seen r.scn (s.rec + 1) 1 r.vectors m.live h g.same;
      kept = subst (λ b. AllByRecursion (IsKept scns) (live_after_all b r.scn rec' 1 r.vectors m.live)) (sym g.mode)
          (kept_after_all scns r.scn rec' 1 r.vectors m.live stamped g.kept);
      agrees = agrees_all hd 1 r.vectors (standing_at_record (hd, r) s) h (record { same = g.agrees.same; none = g.agrees.none })
          (none_second (whole_fault s (hd, r)) _ fits);
      known = known_all 1 r.vectors (standing_at_record (hd, r) s) ∙ g.known;
    }

all_records : (known : ℕ → List TableRow) (scns : ℕ → ℕ) (es : List Entry) (m : Mining) (s : Standing) (h : History) →
    Goes scns m s h → ((hd : Header) → standing_or m.standing hd ≡ s) →
    Follow known scns es s → (admission s h es).fault ≡ None →
    flat_map (lines_by known scns) (history_at s.rec es h).commits.made ≡ flat_map (lines_by known scns) h.commits.made
    ++ records_given es m
all_records known scns [] m s h g stands follows fits = none_made (flat_map (lines_by known scns) h.commits.made)
all_records known scns ((hd, r) ∷ es) m s h g stands follows fits =
    let f = lines_by known scns in
    let s' = record_after (hd, r) s in
    let h' = history_after (s.rec + 1) (hd, r) h in
    let m' = mined_record (hd, r) m in
    let first = fault_first (record_fault s (hd, r)) (dictionary_left s (hd, r)) s h (admission s' h' es) fits in
    let later = fault_later (record_fault s (hd, r)) (dictionary_left s (hd, r)) s h (admission s' h' es) fits in
    ap (λ n. flat_map f (history_at n es h').commits.made) (sym (rec_after_record (hd, r) s))
    ∙ all_records known scns es m' s' h' (goes_on scns hd r m s h g (stands hd) follows.1 first) (λ hd'. ap (record_after (
      hd,
      r,
    )) (stands hd)) follows.2 later
    ∙ ap (λ (ls : List Line). ls ++ records_given es m') (one_record known scns hd r m s h g (stands hd) follows.0 follows.1
    first)
    ∙ append_assoc (flat_map f h.commits.made) (record_given (hd, r) m) (records_given es m')

-- the first record, where it finds this standing, and those behind it
first_records : (known : ℕ → List TableRow) (scns : ℕ → ℕ) (hd : Header) (r : RedoRec) (es : List Entry) (m : Mining) (s :
    Standing) (h : History) → Goes scns m s h → standing_or m.standing hd ≡ s →
    Follow known scns ((hd, r) ∷ es) s → (admission s h ((hd, r) ∷ es)).fault ≡ None →
    flat_map (lines_by known scns) (history_at s.rec ((hd, r) ∷ es) h).commits.made
    ≡ flat_map (lines_by known scns) h.commits.made ++ records_given ((hd, r) ∷ es) m
first_records known scns hd r es m s h g stands follows fits =
    let f = lines_by known scns in
    let s' = record_after (hd, r) s in
    let h' = history_after (s.rec + 1) (hd, r) h in
    let m' = mined_record (hd, r) m in
    let first = fault_first (record_fault s (hd, r)) (dictionary_left s (hd, r)) s h (admission s' h' es) fits in
    let later = fault_later (record_fault s (hd, r)) (dictionary_left s (hd, r)) s h (admission s' h' es) fits in
    ap (λ n. flat_map f (history_at n es h').commits.made) (sym (rec_after_record (hd, r) s))
    ∙ all_records known scns es m' s' h' (goes_on scns hd r m s h g stands follows.1 first) (λ hd'. ap (record_after (hd, r))
    stands) follows.2 later
    ∙ ap (λ (ls : List Line). ls ++ records_given es m') (one_record known scns hd r m s h g stands follows.0 follows.1 first)
    ∙ append_assoc (flat_map f h.commits.made) (record_given (hd, r) m) (records_given es m')

-- ---- the tables behind each record, and its SCN

standing_more : (xs : List Entry) (e : Entry) (s : Standing) → standing_at s (xs ++ e ∷ []) ≡ record_after e (standing_at s xs)
standing_more [] e s = refl
standing_more (x ∷ xs) e s = standing_more xs e (record_after x s)

seam : (xs : List Entry) (y : Entry) (ys : List Entry) → slice_get (xs ++ y ∷ ys) (length xs) ≡ Some y
seam [] y ys = refl
seam (x ∷ xs) y ys = seam xs y ys

follows_on : (s0 : Standing) (all front es : List Entry) (s : Standing) → all ≡ front ++ es → standing_at s0 front ≡ s → s.rec
    ≡ length front →
    Follow (tables_behind s0 all) (scn_of all) es s
follows_on s0 all front [] s whole stands count = tt
follows_on s0 all front (e ∷ es) s whole stands count =
    let longer : List Entry = front ++ e ∷ [] in
    let parted : all ≡ longer ++ es = whole ∙ sym (append_assoc front (e ∷ []) es) in
    let many : length longer ≡ s.rec + 1 = omega (arith, count, length-append front (e ∷ [])) in
    let cut : take (s.rec + 1) all ≡ longer =
    ap (λ n. take n all) (sym many) ∙ ap (take (length longer)) parted ∙ take-append_seam longer es in
    let after : standing_at s0 longer ≡ record_after e s = standing_more front e s0 ∙ ap (record_after e) stands in
    let place : s.rec + 1 - 1 ≡ length front = omega (arith, count) in (
      ap (λ (xs : List Entry). (standing_at s0 xs).dictionary.tables) cut ∙ ap (λ (st : Standing). st.dictionary.tables) after,
      ap (λ n. option_map_or (λ (x : Entry). x.1.scn) (slice_get all n) 0) place
          ∙ ap (λ (xs : List Entry). option_map_or (λ (x : Entry). x.1.scn) (slice_get xs (length front)) 0) whole
          ∙ ap (λ o. option_map_or (λ (x : Entry). x.1.scn) o 0) (seam front e es),
      follows_on s0 all longer es (record_after e s) parted after (rec_after_record e s ∙ sym many),
    )

pub committed_from_first : (hd : Header) (r : RedoRec) (es : List Entry) →
    (admission (beginning hd.seq (hd.first - 1)) (no_history 0) ((hd, r) ∷ es)).fault ≡ None →
    records_given ((hd, r) ∷ es) (unbegun true)
    ≡ committed_lines (beginning hd.seq (hd.first - 1)) ((hd, r) ∷ es) (admission (beginning hd.seq (hd.first - 1)) (no_history
    0) ((hd, r) ∷ es)).history.commits.made
committed_from_first hd r es fits =
    let s = beginning hd.seq (hd.first - 1) in
    let h = no_history 0 in
    let all : List Entry = (hd, r) ∷ es in
    let start : Goes (scn_of all) (unbegun true) s h = record {
      mode = refl;
      same = refl;
      kept = tt;
      agrees = record {
        same =
            refl;
        none = λ e. refl;
      };
      known = refl;
    } in
    sym (first_records (tables_behind s all) (scn_of all) hd r es (unbegun true) s h start refl (follows_on s all [] all s refl
    refl refl) fits)
    ∙ ap (λ (g : History). flat_map (lines_by (tables_behind s all) (scn_of all)) g.commits.made) (sym (well_leaves s h all
    fits).1)
