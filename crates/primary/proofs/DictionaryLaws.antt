-- A dictionary that is whole stays as it is, in admitted records and in a refused one.
use Rattle.std.proofs.Common.{◌≡◌, ℕ, ◌+◌, List, [], ◌∷◌, refl, ap, ◌∙◌, true, Option, Some, None}
use Rattle.std.specs.Option.{option_map_or}
use Rattle.rl_value.specs.declared.cause.LawFault.{LawFault}
use Rattle.redo_vec.specs.declared.vector.Vector.{Vector}
use Rattle.redo_vec.specs.declared.vector.Vector.TheVariants.{Start, Change as OfChange, Undo, Commit, Rollback, Table, DictEnd}
use Rattle.redo_spec.specs.declared.header.Header.{Header}
use Rattle.redo_spec.specs.Dictionary.{Dictionary, dictionary_after}
use Rattle.redo_spec.specs.History.{Entry}
use Rattle.redo_spec.specs.Standing.{Standing, standing_after, standing_after_all, standing_at_record, record_after}
use Rattle.redo_spec.specs.Law.{dictionary_fault, vector_fault, vectors_fault, whole_fault, record_fault, left_by_vectors, dictionary_left}
use Rattle.primary.proofs.FitLaws.{none_first, none_second, no_fault, is_unfinished, both}

-- an admitted vector leaves a whole dictionary as it is
pub dictionary_same : (h : Header) (s : Standing) (v : Vector) → vector_fault h s v ≡ None → s.dictionary.finished ≡ true →
    dictionary_after s.dictionary v ≡ s.dictionary
dictionary_same h s (Start x) fits whole = refl
dictionary_same h s (OfChange c) fits whole = refl
dictionary_same h s (Undo x) fits whole = refl
dictionary_same h s (Commit x) fits whole = refl
dictionary_same h s (Rollback x) fits whole = refl
dictionary_same h s (Table t) fits whole = both s.dictionary.finished whole
    (is_unfinished s.dictionary.finished _ (no_fault _ _ (none_first (dictionary_fault h s (Table t)) _ fits)))
dictionary_same h s DictEnd fits whole = both s.dictionary.finished whole
    (is_unfinished s.dictionary.finished _ (no_fault _ _ (none_first (dictionary_fault h s DictEnd) _ fits)))

pub dictionary_kept : (h : Header) (vec : ℕ) (vs : List Vector) (s : Standing) → vectors_fault h vec vs s ≡ None →
    s.dictionary.finished ≡ true → (standing_after_all vec vs s).dictionary ≡ s.dictionary
dictionary_kept h vec [] s fits whole = refl
dictionary_kept h vec (v ∷ vs) s fits whole =
    let same = dictionary_same h s v (none_first (vector_fault h s v) _ fits) whole in
    dictionary_kept h (vec + 1) vs (standing_after vec v s) (none_second (vector_fault h s v) _ fits)
    (ap (λ d. d.finished) same ∙ whole) ∙ same

pub record_keeps : (e : Entry) (s : Standing) → record_fault s e ≡ None → s.dictionary.finished ≡ true →
    (record_after e s).dictionary ≡ s.dictionary
record_keeps (h, r) s fits whole = dictionary_kept h 1 r.vectors (standing_at_record (h, r) s)
    (none_second (whole_fault s (h, r)) _ fits) whole

left_after : (o : Option LawFault) (d later : Dictionary) → (o ≡ None → later ≡ d) → option_map_or (λ fault. d) o later ≡ d
left_after None d later more = more refl
left_after (Some fault) d later more = refl

left_same_vectors : (h : Header) (vec : ℕ) (vs : List Vector) (s : Standing) → s.dictionary.finished ≡ true →
    left_by_vectors h vec vs s ≡ s.dictionary
left_same_vectors h vec [] s whole = refl
left_same_vectors h vec (v ∷ vs) s whole =
    left_after (vector_fault h s v) s.dictionary (left_by_vectors h (vec + 1) vs (standing_after vec v s))
    (λ fits.
    let same = dictionary_same h s v fits whole in
    left_same_vectors h (vec + 1) vs (standing_after vec v s) (ap (λ d. d.finished) same ∙ whole) ∙ same)

-- a refused record leaves a whole dictionary as it is
pub left_same : (e : Entry) (s : Standing) → s.dictionary.finished ≡ true → dictionary_left s e ≡ s.dictionary
left_same (h, r) s whole =
    left_after (whole_fault s (h, r)) s.dictionary (left_by_vectors h 1 r.vectors (standing_at_record (h, r) s))
    (λ fits. left_same_vectors h 1 r.vectors (standing_at_record (h, r) s) whole)
