-- Laws of admission: what well records leave, and the first bad one.
use Rattle.std.proofs.Common.{◌≡◌, ℕ, ◌+◌, List, [], ◌∷◌, ◌++◌, length, sym, ap, ◌∙◌, refl, Option, Some, None, arith}
use Rattle.rl_value.specs.declared.cause.LawFault.{LawFault}
use Rattle.redo_vec.specs.declared.vector.Vector.{Vector}
use Rattle.redo_spec.specs.Dictionary.{Dictionary}
use Rattle.redo_spec.specs.History.{Entry, History, history_after, history_at}
use Rattle.redo_spec.specs.Standing.{Standing, standing_after, standing_after_all, standing_at_record, record_after, standing_at}
use Rattle.redo_spec.specs.Law.{Admitted, record_fault, dictionary_left, admitted_or, admission, IsFirstBad}

-- ---- one record

rec_after_all : (vec : ℕ) (vs : List Vector) (s : Standing) → (standing_after_all vec vs s).rec ≡ s.rec
rec_after_all vec [] s = refl
rec_after_all vec (v ∷ vs) s = rec_after_all (vec + 1) vs (standing_after vec v s)

pub rec_after_record : (e : Entry) (s : Standing) → (record_after e s).rec ≡ s.rec + 1
rec_after_record (h, r) s = rec_after_all 1 r.vectors (standing_at_record (h, r) s)

pub fault_first : (o : Option LawFault) (left : Dictionary) (s : Standing) (h : History) (later : Admitted) →
    (admitted_or o left s h later).fault ≡ None → o ≡ None
fault_first None left s h later e = refl
fault_first (Some fault) left s h later e = absurd (cc)

pub fault_later : (o : Option LawFault) (left : Dictionary) (s : Standing) (h : History) (later : Admitted) →
    (admitted_or o left s h later).fault ≡ None → later.fault ≡ None
fault_later None left s h later e = e
fault_later (Some fault) left s h later e = absurd (cc)

-- ---- fronts

pub front_well : (xs ys : List Entry) (s : Standing) (h : History) → (admission s h (xs ++ ys)).fault ≡ None →
    (admission s h xs).fault ≡ None
front_well [] ys s h e = refl
front_well (x ∷ xs) ys s h e =
    let s1 = record_after x s in
    let h1 = history_after (s.rec + 1) x h in
    let fits = fault_first (record_fault s x) (dictionary_left s x) s h (admission s1 h1 (xs ++ ys)) e in
    let later = fault_later (record_fault s x) (dictionary_left s x) s h (admission s1 h1 (xs ++ ys)) e in
    ap (λ o. (admitted_or o (dictionary_left s x) s h (admission s1 h1 xs)).fault) fits ∙ front_well xs ys s1 h1 later

-- the admission of records after others that are well
pub append_well : (xs ys : List Entry) (s : Standing) (h : History) → (admission s h xs).fault ≡ None →
    admission s h (xs ++ ys) ≡ admission (admission s h xs).standing (admission s h xs).history ys
append_well [] ys s h e = refl
append_well (x ∷ xs) ys s h e =
    let s1 = record_after x s in
    let h1 = history_after (s.rec + 1) x h in
    let fits = fault_first (record_fault s x) (dictionary_left s x) s h (admission s1 h1 xs) e in
    let later = fault_later (record_fault s x) (dictionary_left s x) s h (admission s1 h1 xs) e in
    ap (λ o. admitted_or o (dictionary_left s x) s h (admission s1 h1 (xs ++ ys))) fits
    ∙ append_well xs ys s1 h1 later
    ∙ sym (ap (λ (a : Admitted). admission a.standing a.history ys)
    (ap (λ o. admitted_or o (dictionary_left s x) s h (admission s1 h1 xs)) fits))

-- well records are all counted
pub rec_well : (es : List Entry) (s : Standing) (h : History) → (admission s h es).fault ≡ None →
    (admission s h es).standing.rec ≡ s.rec + length es
rec_well [] s h e = omega arith
rec_well (x ∷ xs) s h e =
    let s1 = record_after x s in
    let h1 = history_after (s.rec + 1) x h in
    let fits = fault_first (record_fault s x) (dictionary_left s x) s h (admission s1 h1 xs) e in
    let later = fault_later (record_fault s x) (dictionary_left s x) s h (admission s1 h1 xs) e in
    let here : (admission s h (x ∷ xs)).standing.rec ≡ (admission s1 h1 xs).standing.rec =
    ap (λ o. (admitted_or o (dictionary_left s x) s h (admission s1 h1 xs)).standing.rec) fits in
    let count = rec_after_record x s in
    let rest = rec_well xs s1 h1 later in
    omega (arith, here, count, rest)

-- ---- what is admitted

-- What is admitted whole is what its records leave.
pub well_leaves : (s : Standing) (h : History) (es : List Entry) → (admission s h es).fault ≡ None →
    ((admission s h es).standing ≡ standing_at s es) × ((admission s h es).history ≡ history_at s.rec es h)
well_leaves s h [] e = (refl, refl)
well_leaves s h (x ∷ xs) e =
    let s1 = record_after x s in
    let h1 = history_after (s.rec + 1) x h in
    let fits = fault_first (record_fault s x) (dictionary_left s x) s h (admission s1 h1 xs) e in
    let later = fault_later (record_fault s x) (dictionary_left s x) s h (admission s1 h1 xs) e in
    let here : admission s h (x ∷ xs) ≡ admission s1 h1 xs =
    ap (λ o. admitted_or o (dictionary_left s x) s h (admission s1 h1 xs)) fits in
    let rest = well_leaves s1 h1 xs later in (
      ap (λ (a : Admitted). a.standing) here ∙ rest.0,
      ap (λ (a : Admitted). a.history) here ∙ rest.1 ∙ ap (λ k. history_at k xs h1) (rec_after_record x s),
    )

bad_or : (s : Standing) (h : History) (x : Entry) (xs : List Entry) (fault : LawFault) (o : Option LawFault) →
    record_fault s x ≡ o →
    (admitted_or o (dictionary_left s x) s h (admission (record_after x s) (history_after (s.rec + 1) x h) xs)).fault ≡
    Some fault →
    ((admission (record_after x s) (history_after (s.rec + 1) x h) xs).fault ≡ Some fault →
    IsFirstBad (record_after x s) (history_after (s.rec + 1) x h) xs fault) →
    IsFirstBad s h (x ∷ xs) fault
bad_or s h x xs fault (Some found) is e later =
    let here : admission s h (x ∷ xs) ≡ record { standing = s; history = h; fault = Some found; left = dictionary_left s x } =
    ap (λ o. admitted_or o (dictionary_left s x) s h (admission (record_after x s) (history_after (s.rec + 1) x h) xs)) is in
    record {
      front = [];
      bad = x;
      back = xs;
      split = refl;
      fit = refl;
      refused = is ∙ e;
      standing = ap (λ (a : Admitted). a.standing) here;
      history = ap (λ (a : Admitted). a.history) here;
      left = ap (λ (a : Admitted). a.left) here;
    }
bad_or s h x xs fault None is e later =
    let b = later e in
    let s1 = record_after x s in
    let h1 = history_after (s.rec + 1) x h in
    let here : admission s h (x ∷ xs) ≡ admission s1 h1 xs =
    ap (λ o. admitted_or o (dictionary_left s x) s h (admission s1 h1 xs)) is in
    record {
      front = x ∷ b.front;
      bad = b.bad;
      back = b.back;
      split = ap (λ (es : List Entry). x ∷ es) b.split;
      fit = ap (λ o. (admitted_or o (dictionary_left s x) s h (admission s1 h1 b.front)).fault) is ∙ b.fit;
      refused = b.refused;
      standing = ap (λ (a : Admitted). a.standing) here ∙ b.standing;
      history = ap (λ (a : Admitted). a.history) here ∙ b.history ∙ ap (λ k. history_at k b.front h1) (rec_after_record x s);
      left = ap (λ (a : Admitted). a.left) here ∙ b.left;
    }

-- The first bad record is told.
pub first_bad : (s : Standing) (h : History) (es : List Entry) (fault : LawFault) → (admission s h es).fault ≡ Some fault →
    IsFirstBad s h es fault
first_bad s h [] fault e = absurd (cc)
first_bad s h (x ∷ xs) fault e =
    bad_or s h x xs fault (record_fault s x) refl e (λ later. first_bad (record_after x s) (history_after (s.rec + 1) x h)
    xs fault later)
