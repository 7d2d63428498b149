-- The standing and the history agree: each open transaction stands there with the keys of its survivors.
-- In format 1 the dictionary is whole before the first transaction begins, so the keys of a survivor never change.
use Rattle.std.proofs.Common.{◌≡◌, ℕ, ◌+◌, ◌-◌, List, [], ◌∷◌, ◌++◌, take, length, map, filter, sym, ap, ◌∙◌, refl, Bool, true, false, cond, not, ◌&&◌, ◌||◌, Option, Some, None}
use Rattle.std.proofs.lemmas.List.{map-append, length-map, take-map}
use Rattle.std.specs.Option.{option_or}
use Rattle.rl_value.specs.Outcome.{first_fault}
use Rattle.rl_value.specs.declared.cause.LawFault.{LawFault}
use Rattle.rl_value.specs.declared.pos.Pos.{Pos}
use Rattle.redo_vec.specs.declared.change.Change.{Change}
use Rattle.redo_vec.specs.declared.table.TableRow.{TableRow}
use Rattle.redo_vec.specs.declared.vector.Vector.{Vector}
use Rattle.redo_vec.specs.declared.vector.Vector.TheVariants.{Start, Change as OfChange, Undo, Commit, Rollback, Table, DictEnd}
use Rattle.redo_spec.specs.declared.header.Header.{Header}
use Rattle.redo_spec.specs.ConflictKeys.{conflict_keys}
use Rattle.redo_spec.specs.Dictionary.{Dictionary, dictionary_after}
use Rattle.redo_spec.specs.History.{Entry, Txn, History, same_xid, txn_after_change, txn_after_undo, after_vector, after_vectors, history_after, no_history}
use Rattle.redo_spec.specs.Standing.{Standing, beginning, with_open, open_txn_after_change, open_txn_after_undo, without_open, standing_after, standing_after_all, standing_at_record, record_after, open_txn, open_txns}
use Rattle.redo_spec.specs.Law.{Admitted, dictionary_fault, vector_fault, vectors_fault, whole_fault, record_fault, dictionary_left, admitted_or, admission}

-- they agree, and before the dictionary is whole no transaction is open
pub record Agrees (s : Standing) (h : History) : Type 0 where
  pub same : s.active ≡ open_txns s.dictionary.tables h.active
  pub none : s.dictionary.finished ≡ false → h.active ≡ []

-- ---- lists

map_chosen : {A B : Type 0} (view : A → B) (f : A → A) (g : B → B) (p : A → Bool) (q : B → Bool) → ((x : A) → q (view x) ≡ p x) →
    ((x : A) → g (view x) ≡ view (f x)) → (xs : List A) →
    map (λ y. cond (q y) (g y) y) (map view xs) ≡ map view (map (λ x. cond (p x) (f x) x) xs)
map_chosen view f g p q tests changes [] = refl
map_chosen view f g p q tests changes (x ∷ xs) =
    ap (λ b. cond b (g (view x)) (view x) ∷ map (λ y. cond (q y) (g y) y) (map view xs)) (tests x)
    ∙ ap (λ y. cond (p x) y (view x) ∷ map (λ y. cond (q y) (g y) y) (map view xs)) (changes x)
    ∙ elim (p x) as (λ b. (cond b (view (f x)) (view x) ∷ map (λ y. cond (q y) (g y) y) (map view xs)) ≡
    (view (cond b (f x) x) ∷ map view (map (λ x. cond (p x) (f x) x) xs))) [
      | true ↦ ap (λ ys. view (f x) ∷ ys) (map_chosen view f g p q tests changes xs)
      | false ↦ ap (λ ys. view x ∷ ys) (map_chosen view f g p q tests changes xs)
    ]

pub filter_seen : {A B : Type 0} (view : A → B) (p : A → Bool) (q : B → Bool) → ((x : A) → q (view x) ≡ p x) → (xs : List A) →
    filter q (map view xs) ≡ map view (filter p xs)
filter_seen view p q tests [] = refl
filter_seen view p q tests (x ∷ xs) =
    ap (λ b. cond b (view x ∷ filter q (map view xs)) (filter q (map view xs))) (tests x)
    ∙ elim (p x) as (λ b. cond b (view x ∷ filter q (map view xs)) (filter q (map view xs)) ≡
    map view (cond b (x ∷ filter p xs) (filter p xs))) [
      | true ↦ ap (λ ys. view x ∷ ys) (filter_seen view p q tests xs)
      | false ↦ filter_seen view p q tests xs
    ]

-- ---- tests

pub none_first : {A : Type 0} (o p : Option A) → option_or o p ≡ None → o ≡ None
none_first None p e = refl
none_first (Some x) p e = absurd (cc)

pub none_second : {A : Type 0} (o p : Option A) → option_or o p ≡ None → p ≡ None
none_second None p e = e
none_second (Some x) p e = absurd (cc)

pub no_fault : (test : Bool) (fault : LawFault) → first_fault ((test, fault) ∷ []) ≡ None → test ≡ false
no_fault false fault e = refl
no_fault true fault e = absurd (cc)

-- what is not of the dictionary comes behind it
is_whole : (finished other : Bool) → ((finished && false) || (not finished && true) || (not finished && other)) ≡ false →
    finished ≡ true
is_whole true other e = refl
is_whole false other e = absurd (cc)

-- what is of the dictionary comes before its end
is_unfinished : (finished other : Bool) → ((finished && true) || (not finished && false) || (not finished && other)) ≡ false →
    finished ≡ false
is_unfinished false other e = refl
is_unfinished true other e = absurd (cc)

both : {A : Type 0} (b : Bool) → b ≡ true → b ≡ false → A
both true is not = absurd (cc)
both false is not = absurd (cc)

-- ---- one vector

-- an open transaction touches the keys of its survivors, also after one more, and after an UNDO
touching_seen : (tables : List TableRow) (at : Pos) (c : Change) (t : Txn) →
    open_txn_after_change (conflict_keys tables c) (open_txn tables t) ≡ open_txn tables (txn_after_change (at, c) t)
touching_seen tables at c t = ap (λ keys. record { start = t.start; xid = t.xid; keys = keys })
    (sym (map-append (λ p. conflict_keys tables p.1) t.survivors ((at, c) ∷ [])))

giving_seen : (tables : List TableRow) (t : Txn) → open_txn_after_undo (open_txn tables t) ≡ open_txn tables (txn_after_undo t)
giving_seen tables t =
    ap (λ n. record { start = t.start; xid = t.xid; keys = take (n - 1) (map (λ p. conflict_keys tables p.1) t.survivors) })
    (length-map t.survivors (λ p. conflict_keys tables p.1))
    ∙ ap (λ keys. record { start = t.start; xid = t.xid; keys = keys })
    (take-map (λ p. conflict_keys tables p.1) (length t.survivors - 1) t.survivors)

pub agrees_after : (h : Header) (vec : ℕ) (v : Vector) (s : Standing) (hist : History) → Agrees s hist →
    dictionary_fault h s v ≡ None →
    Agrees (standing_after vec v s) (after_vector s.scn (record { rec = s.rec; vec = vec }) v hist)
agrees_after h vec (Start x) s hist a fits =
    let at : Pos = record { rec = s.rec; vec = vec } in
    let view = open_txn s.dictionary.tables in
    record {
      same = ap (λ ts. ts ++ record { start = at; xid = x; keys = [] } ∷ []) a.same ∙
          sym (map-append view hist.active (record { start = at; xid = x; survivors = [] } ∷ []));
      none = λ e. both s.dictionary.finished (is_whole s.dictionary.finished _ (no_fault _ _ fits)) e;
    }
agrees_after h vec (OfChange c) s hist a fits =
    let at : Pos = record { rec = s.rec; vec = vec } in
    let keys = conflict_keys s.dictionary.tables c in
    record {
      same = ap (with_open (open_txn_after_change keys) c.xid) a.same
          ∙ map_chosen (open_txn s.dictionary.tables) (txn_after_change (at, c)) (open_txn_after_change keys)
          (λ t. same_xid t.xid c.xid) (λ t. same_xid t.xid c.xid) (λ t. refl)
          (touching_seen s.dictionary.tables at c) hist.active;
      none = λ e. both s.dictionary.finished (is_whole s.dictionary.finished _ (no_fault _ _ fits)) e;
    }
agrees_after h vec (Undo x) s hist a fits = record {
  same = ap (with_open open_txn_after_undo x) a.same
      ∙ map_chosen (open_txn s.dictionary.tables) txn_after_undo open_txn_after_undo (λ t. same_xid t.xid x)
      (λ t. same_xid t.xid x) (λ t. refl) (giving_seen s.dictionary.tables) hist.active;
  none = λ e. both s.dictionary.finished (is_whole s.dictionary.finished _ (no_fault _ _ fits)) e;
}
agrees_after h vec (Commit x) s hist a fits = record {
  same = ap (without_open x) a.same ∙ filter_seen (open_txn s.dictionary.tables) (λ t. not (same_xid t.xid x))
      (λ t. not (same_xid t.xid x)) (λ t. refl) hist.active;
  none = λ e. both s.dictionary.finished (is_whole s.dictionary.finished _ (no_fault _ _ fits)) e;
}
agrees_after h vec (Rollback x) s hist a fits = record {
  same = ap (without_open x) a.same ∙ filter_seen (open_txn s.dictionary.tables) (λ t. not (same_xid t.xid x))
      (λ t. not (same_xid t.xid x)) (λ t. refl) hist.active;
  none = λ e. both s.dictionary.finished (is_whole s.dictionary.finished _ (no_fault _ _ fits)) e;
}
agrees_after h vec (Table t) s hist a fits =
    let none = a.none (is_unfinished s.dictionary.finished _ (no_fault _ _ fits)) in
    record {
      same = a.same ∙ ap (open_txns s.dictionary.tables) none ∙
          sym (ap (open_txns (dictionary_after s.dictionary (Table t)).tables) none);
      none = a.none;
    }
agrees_after h vec DictEnd s hist a fits = record { same = a.same; none = λ e. absurd (cc) }

-- ---- records

agrees_after_all : (h : Header) (vec : ℕ) (vs : List Vector) (s : Standing) (hist : History) → Agrees s hist →
    vectors_fault h vec vs s ≡ None →
    Agrees (standing_after_all vec vs s) (after_vectors s.scn s.rec vec vs hist)
agrees_after_all h vec [] s hist a fits = a
agrees_after_all h vec (v ∷ vs) s hist a fits =
    let first = none_first (vector_fault h s v) _ fits in
    agrees_after_all h (vec + 1) vs (standing_after vec v s) (after_vector s.scn (record { rec = s.rec; vec = vec }) v hist)
    (agrees_after h vec v s hist a (none_first (dictionary_fault h s v) _ first))
    (none_second (vector_fault h s v) _ fits)

agrees_after_record : (e : Entry) (s : Standing) (hist : History) → Agrees s hist → record_fault s e ≡ None →
    Agrees (record_after e s) (history_after (s.rec + 1) e hist)
agrees_after_record (h, r) s hist a fits =
    agrees_after_all h 1 r.vectors (standing_at_record (h, r) s) hist (record { same = a.same; none = a.none })
    (none_second (whole_fault s (h, r)) _ fits)

agrees_or : (o : Option LawFault) (left : Dictionary) (s : Standing) (hist : History) (later : Admitted) → Agrees s hist →
    (o ≡ None → Agrees later.standing later.history) →
    Agrees (admitted_or o left s hist later).standing (admitted_or o left s hist later).history
agrees_or None left s hist later a more = more refl
agrees_or (Some fault) left s hist later a more = a

agrees_in : (s : Standing) (hist : History) (es : List Entry) → Agrees s hist →
    Agrees (admission s hist es).standing (admission s hist es).history
agrees_in s hist [] a = a
agrees_in s hist (e ∷ es) a =
    agrees_or (record_fault s e) (dictionary_left s e) s hist
    (admission (record_after e s) (history_after (s.rec + 1) e hist) es) a
    (λ fits. agrees_in (record_after e s) (history_after (s.rec + 1) e hist) es (agrees_after_record e s hist a fits))

-- in every redo, from its first record on
pub active_is_seen : (first base before : ℕ) (es : List Entry) →
    let a = admission (beginning first base) (no_history before) es in
    a.standing.active ≡ open_txns a.standing.dictionary.tables a.history.active
active_is_seen first base before es = (agrees_in (beginning first base) (no_history before) es
    (record { same = refl; none = λ e. refl })).same
