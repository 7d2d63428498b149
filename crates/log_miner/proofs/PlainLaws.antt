-- In plain mode a miner gives the lines of the contents: the positions that it keeps are those of the history's survivors.
use Rattle.std.proofs.Common.{◌≡◌, ℕ, ◌+◌, ◌-◌, List, [], ◌∷◌, ◌++◌, take, length, map, filter, sym, ap, ◌∙◌, refl, Bool, true, false, cond, not, Option, None}
use Rattle.std.specs.Prelude.{slice_get}
use Rattle.std.proofs.lemmas.List.{map-append, length-map, take-map}
use Rattle.std.proofs.lemmas.Option.{slice_get-map}
use Rattle.rl_value.specs.declared.pos.Pos.{Pos}
use Rattle.rl_value.specs.declared.xid.Xid.{Xid}
use Rattle.redo_vec.specs.declared.change.Change.{Change}
use Rattle.redo_vec.specs.declared.redo_rec.RedoRec.{RedoRec}
use Rattle.redo_vec.specs.declared.table.TableRow.{TableRow}
use Rattle.redo_vec.specs.declared.vector.Vector.{Vector}
use Rattle.redo_vec.specs.declared.vector.Vector.TheVariants.{Start, Change as OfChange, Undo, Commit, Rollback, Table, DictEnd}
use Rattle.redo_spec.specs.declared.header.Header.{Header}
use Rattle.redo_spec.specs.History.{Entry, Placed, Txn, History, same_xid, of_xid, txn_after_change, txn_after_undo, after_vector, after_vectors, history_after, no_history}
use Rattle.redo_spec.specs.Standing.{Standing, beginning, record_after}
use Rattle.redo_spec.specs.Lines.{Line}
use Rattle.redo_spec.proofs.StandingLaws.{filter_seen}
use Rattle.sql_text.specs.Contents.{vector_line}
use Rattle.log_miner.specs.MinedLines.{latest, latest_survivor, undone_by, lines_of, vector_lines, record_lines, plain_lines}
use Rattle.log_miner.specs.Live.{Live, started, live_of, one_more, one_fewer, live_after, live_after_all}
use Rattle.log_miner.specs.Mining.{latest_of, taken_back, Mining, unbegun, standing_or, given_by, mined_record, record_given, records_given}

-- ---- the open transactions

pub map_chosen : {A B : Type 0} (view : A → B) (f : A → A) (g : B → B) (p : A → Bool) (q : B → Bool) → ((x : A) → q (view x)
    ≡ p x) → ((x : A) → g (view x) ≡ view (f x)) → (xs : List A) →
    map (λ y. cond (q y) (g y) y) (map view xs) ≡ map view (map (λ x. cond (p x) (f x) x) xs)
map_chosen view f g p q tests changes [] = refl
map_chosen view f g p q tests changes (x ∷ xs) =
    ap (λ b. cond b (g (view x)) (view x) ∷ map (λ y. cond (q y) (g y) y) (map view xs)) (tests x)
    ∙ ap (λ y. cond (p x) y (view x) ∷ map (λ y. cond (q y) (g y) y) (map view xs)) (changes x)
    ∙ elim (p x) as (λ b. (cond b (view (f x)) (view x) ∷ map (λ y. cond (q y) (g y) y) (map view xs))
    ≡ (view (cond b (f x) x) ∷ map view (map (λ x. cond (p x) (f x) x) xs))) [
      | true ↦ ap (λ ys. view (f x) ∷ ys) (map_chosen view f g p q tests changes xs)
      | false ↦ ap (λ ys. view x ∷ ys) (map_chosen view f g p q tests changes xs)
    ]

-- an open transaction by the positions of its survivors
record Place : Type 0 where
  start : Pos
  xid : Xid
  places : List Pos

abbrev place_of : Placed → Pos
place_of p = p.0

abbrev placed : Txn → Place
placed t = record { start = t.start; xid = t.xid; places = map place_of t.survivors }

abbrev shown : Live → Place
shown t = record { start = t.start; xid = t.xid; places = t.places }

abbrev more : Pos → Place → Place
more at p = record { start = p.start; xid = p.xid; places = p.places ++ at ∷ [] }

abbrev fewer : Place → Place
fewer p = record { start = p.start; xid = p.xid; places = take (length p.places - 1) p.places }

more_placed : (at : Pos) (c : Change) (t : Txn) → more at (placed t) ≡ placed (txn_after_change (at, c) t)
more_placed at c t =
    ap (λ (ps : List Pos). record { start = t.start; xid = t.xid; places = ps }) (sym (map-append place_of t.survivors ((at, c) ∷
    [])))

fewer_placed : (t : Txn) → fewer (placed t) ≡ placed (txn_after_undo t)
fewer_placed t =
    ap (λ n. record { start = t.start; xid = t.xid; places = take (n - 1) (map place_of t.survivors) }) (length-map t.survivors
    place_of)
    ∙ ap (λ (ps : List Pos). record { start = t.start; xid = t.xid; places = ps }) (take-map place_of (length t.survivors - 1)
    t.survivors)

-- the miner keeps the open transactions of the history
abbrev Keeps : List Live → History → Type 0
Keeps live h = map shown live ≡ map placed h.active

abbrev chosen : Xid → Place → Bool
chosen x p = same_xid p.xid x

others_kept : (x : Xid) (live : List Live) (ts : List Txn) → map shown live ≡ map placed ts →
    map shown (filter (λ t. not (same_xid t.xid x)) live) ≡ map placed (filter (λ t. not (same_xid t.xid x)) ts)
others_kept x live ts e =
    sym (filter_seen shown (λ t. not (same_xid t.xid x)) (λ p. not (same_xid p.xid x)) (λ t. refl) live)
    ∙ ap (λ (ps : List Place). filter (λ p. not (same_xid p.xid x)) ps) e
    ∙ filter_seen placed (λ t. not (same_xid t.xid x)) (λ p. not (same_xid p.xid x)) (λ t. refl) ts

live_seen : (scn : ℕ) (at : Pos) (v : Vector) (live : List Live) (h : History) → Keeps live h →
    Keeps (live_after false scn at v live) (after_vector scn at v h)
live_seen scn at (Start x) live h e =
    map-append shown live (started scn at x ∷ [])
    ∙ ap (λ (ps : List Place). ps ++ record { start = at; xid = x; places = [] } ∷ []) e
    ∙ sym (map-append placed h.active (record { start = at; xid = x; survivors = [] } ∷ []))
live_seen scn at (OfChange c) live h e =
    sym (map_chosen shown (one_more false scn at c) (more at) (λ t. same_xid t.xid c.xid) (chosen c.xid) (λ t. refl) (λ t. refl)
    live)
    ∙ ap (λ (ps : List Place). map (λ p. cond (chosen c.xid p) (more at p) p) ps) e
    ∙ map_chosen placed (txn_after_change (at, c)) (more at) (λ t. same_xid t.xid c.xid) (chosen c.xid) (λ t. refl) (more_placed
    at c) h.active
live_seen scn at (Undo x) live h e =
    sym (map_chosen shown (one_fewer false) fewer (λ t. same_xid t.xid x) (chosen x) (λ t. refl) (λ t. refl) live)
    ∙ ap (λ (ps : List Place). map (λ p. cond (chosen x p) (fewer p) p) ps) e
    ∙ map_chosen placed txn_after_undo fewer (λ t. same_xid t.xid x) (chosen x) (λ t. refl) fewer_placed h.active
live_seen scn at (Commit x) live h e = others_kept x live h.active e
live_seen scn at (Rollback x) live h e = others_kept x live h.active e
live_seen scn at (Table t) live h e = e
live_seen scn at DictEnd live h e = e

vectors_seen : (scn rec vec : ℕ) (vs : List Vector) (live : List Live) (h : History) → Keeps live h →
    Keeps (live_after_all false scn rec vec vs live) (after_vectors scn rec vec vs h)
vectors_seen scn rec vec [] live h e = e
vectors_seen scn rec vec (v ∷ vs) live h e =
    let at : Pos = record { rec = rec; vec = vec } in
    vectors_seen scn rec (vec + 1) vs (live_after false scn at v live) (after_vector scn at v h) (live_seen scn at v live h e)

-- ---- what an UNDO takes back

abbrev latest_place : List Place → Option Pos
latest_place [] = None
latest_place (p ∷ ps) = latest p.places

latest_placed : (ts : List Txn) → latest_survivor ts ≡ latest_place (map placed ts)
latest_placed [] = refl
latest_placed (t ∷ ts) =
    sym (ap (λ n. slice_get (map place_of t.survivors) (n - 1)) (length-map t.survivors place_of)
    ∙ slice_get-map place_of t.survivors (length t.survivors - 1))

latest_shown : (live : List Live) → latest_place (map shown live) ≡ latest_of live
latest_shown [] = refl
latest_shown (t ∷ ts) = refl

taken_seen : (v : Vector) (live : List Live) (h : History) → Keeps live h → undone_by h.active v ≡ taken_back live v
taken_seen (Start x) live h e = refl
taken_seen (OfChange c) live h e = refl
taken_seen (Undo x) live h e =
    latest_placed (of_xid x h.active)
    ∙ ap latest_place
    (sym (filter_seen placed (λ t. same_xid t.xid x) (chosen x) (λ t. refl) h.active)
    ∙ ap (λ (ps : List Place). filter (chosen x) ps) (sym e)
    ∙ filter_seen shown (λ t. same_xid t.xid x) (chosen x) (λ t. refl) live)
    ∙ latest_shown (live_of x live)
taken_seen (Commit x) live h e = refl
taken_seen (Rollback x) live h e = refl
taken_seen (Table t) live h e = refl
taken_seen DictEnd live h e = refl

-- ---- the lines

given_seen : (tables : List TableRow) (scn rec vec : ℕ) (vs : List Vector) (live : List Live) (h : History) → Keeps live h →
    given_by false tables scn rec vec vs live ≡ vector_lines tables scn rec vec vs h
given_seen tables scn rec vec [] live h e = refl
given_seen tables scn rec vec (v ∷ vs) live h e =
    let at : Pos = record { rec = rec; vec = vec } in
    let later = live_after false scn at v live in
    ap (λ o. lines_of (vector_line tables scn at o v) ++ given_by false tables scn rec (vec + 1) vs later) (sym (taken_seen v
    live h e))
    ∙ ap (λ (ls : List Line). lines_of (vector_line tables scn at (undone_by h.active v) v) ++ ls)
    (given_seen tables scn rec (vec + 1) vs later (after_vector scn at v h) (live_seen scn at v live h e))

-- what a miner keeps behind a record, where it found this standing and this history
kept_on : (hd : Header) (r : RedoRec) (m : Mining) (s : Standing) (h : History) → m.committed ≡ false → standing_or m.standing hd
    ≡ s → Keeps m.live h →
    Keeps (mined_record (hd, r) m).live (history_after (s.rec + 1) (hd, r) h)
kept_on hd r m s h plain stands same =
    ap (λ b. map shown (live_after_all b r.scn ((standing_or m.standing hd).rec + 1) 1 r.vectors m.live)) plain
    ∙ ap (λ (st : Standing). map shown (live_after_all false r.scn (st.rec + 1) 1 r.vectors m.live)) stands
    ∙ vectors_seen r.scn (s.rec + 1) 1 r.vectors m.live h same

here_seen : (hd : Header) (r : RedoRec) (m : Mining) (s : Standing) (h : History) → m.committed ≡ false →
    standing_or m.standing hd ≡ s → Keeps m.live h →
    record_given (hd, r) m ≡ record_lines s h (hd, r)
here_seen hd r m s h plain stands same =
    ap (λ b. given_by b (record_after (hd, r) (standing_or m.standing hd)).dictionary.tables r.scn ((standing_or m.standing
    hd).rec + 1) 1 r.vectors m.live) plain
    ∙ ap (λ (st : Standing). given_by false (record_after (hd, r) st).dictionary.tables r.scn (st.rec + 1) 1 r.vectors m.live)
    stands
    ∙ given_seen (record_after (hd, r) s).dictionary.tables r.scn (s.rec + 1) 1 r.vectors m.live h same

-- these records, of which the first finds this standing
plain_on : (es : List Entry) (m : Mining) (s : Standing) (h : History) → m.committed ≡ false → ((hd : Header) →
    standing_or m.standing hd ≡ s) → Keeps m.live h →
    records_given es m ≡ plain_lines s h es
plain_on [] m s h plain stands same = refl
plain_on ((hd, r) ∷ es) m s h plain stands same =
    ap (λ (ls : List Line). ls ++ records_given es (mined_record (hd, r) m)) (here_seen hd r m s h plain (stands hd) same)
    ∙ ap (λ (ls : List Line). record_lines s h (hd, r) ++ ls)
    (plain_on es (mined_record (hd, r) m) (record_after (hd, r) s) (history_after (s.rec + 1) (hd, r) h)
    plain (λ later. ap (record_after (hd, r)) (stands hd)) (kept_on hd r m s h plain (stands hd) same))

pub plain_from_first : (hd : Header) (r : RedoRec) (es : List Entry) →
    records_given ((hd, r) ∷ es) (unbegun false) ≡ plain_lines (beginning hd.seq (hd.first - 1)) (no_history 0) ((hd, r) ∷ es)
plain_from_first hd r es =
    let s = beginning hd.seq (hd.first - 1) in
    let h = no_history 0 in
    let m = unbegun false in
    ap (λ (ls : List Line). ls ++ records_given es (mined_record (hd, r) m)) (here_seen hd r m s h refl refl refl)
    ∙ ap (λ (ls : List Line). record_lines s h (hd, r) ++ ls)
    (plain_on es (mined_record (hd, r) m) (record_after (hd, r) s) (history_after (s.rec + 1) (hd, r) h) refl (λ later. refl)
    (kept_on hd r m s h refl refl refl))
