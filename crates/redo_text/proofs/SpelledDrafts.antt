-- The draft that keeps the spelling of its records goes along with the one that keeps the records, line by line.
use Rattle.std.proofs.Common.{◌≡◌, ℕ, ◌+◌, Bool, true, false, List, [], ◌∷◌, ◌++◌, length, Option, Some, None, Result, Ok, Err, refl, sym, ap, ◌∙◌}
use Rattle.std.specs.Prelude.{◌==◌, nat_le, nat_lt, if◌then◌else◌, codes}
use Rattle.std.specs.List.{flat_map}
use Rattle.std.proofs.lemmas.Grind.{flat_map-append}
use Rattle.std.proofs.lemmas.List.{append-nil}
use Rattle.rl_value.specs.Order.{same_bytes}
use Rattle.rl_value.specs.Outcome.{◌>>=◌, map_ok}
use Rattle.redo_vec.specs.declared.redo_rec.RedoRec.{RedoRec}
use Rattle.redo_vec.specs.declared.vector.Vector.{Vector}
use Rattle.redo_vec.specs.Spelling.{vector, record_bytes}
use Rattle.redo_spec.specs.declared.header.Header.{Header}
use Rattle.redo_spec.specs.Log.{log_bytes, header_bytes}
use Rattle.line_fields.specs.declared.fault.LineFault.TheVariants as faults
use Rattle.redo_text.specs.declared.heading.Begun.{Begun}
use Rattle.line_fields.specs.Fields.{Said}
use Rattle.redo_text.specs.Heading.{heading_said, is_heading_word, scn_said, begun_after, number_there, header_said}
use Rattle.redo_text.specs.Draft.{Draft, beginning, add_record, add_bytes, size_of, with_record, closed_at, closed, with_vector, record_line, other_line, line_of_words, says_nothing, line_taken, finished_at, finished}
use Rattle.redo_lines.specs.Reading.{Line, vector_of_words}
use Rattle.redo_text.specs.Text.{Bad, at_line, last_line, text_from, log_of, log_said, bytes_said}
use Rattle.line_fields.specs.Words.{split, space}

-- the same draft, with the spelling of its records
abbrev pub spelled_of : Draft (List RedoRec) → Draft (List ℕ)
spelled_of d = record {
  heading = d.heading;
  begun = d.begun;
  tables = d.tables;
  vectors = d.vectors;
  done = flat_map record_bytes d.done;
}

-- ---- steps that go along

bind_map : {A B C D E : Type 0} (h : A → B) (k : C → D) (r : Result A E) (s : Result B E) (f : A → Result C E) (g : B →
    Result D E) →
    s ≡ map_ok h r → ((x : A) → g (h x) ≡ map_ok k (f x)) → (s >>= g) ≡ map_ok k (r >>= f)
bind_map h k (Ok x) s f g e each = rw e (each x)
bind_map h k (Err d) s f g e each = rw e refl

bind_same : {A C D E : Type 0} (k : C → D) (r : Result A E) (f : A → Result C E) (g : A → Result D E) →
    ((x : A) → g x ≡ map_ok k (f x)) → (r >>= g) ≡ map_ok k (r >>= f)
bind_same k (Ok x) f g each = each x
bind_same k (Err d) f g each = refl

if_map : {C D E : Type 0} (k : C → D) (t : Bool) (r s : Result C E) (u v : Result D E) → u ≡ map_ok k r → v ≡ map_ok k s →
    (if t then u else v) ≡ map_ok k (if t then r else s)
if_map k true r s u v p q = p
if_map k false r s u v p q = q

line_map : {C D : Type 0} (k : C → D) (n : ℕ) (r : Said C) → at_line n (map_ok k r) ≡ map_ok k (at_line n r)
line_map k n (Ok x) = refl
line_map k n (Err d) = refl

-- ---- a record more

flat_add : (records : List RedoRec) (r : RedoRec) →
    flat_map record_bytes (records ++ r ∷ []) ≡ flat_map record_bytes records ++ record_bytes r
flat_add records r =
    flat_map-append record_bytes records (r ∷ [])
    ∙ ap (λ (t : List ℕ). flat_map record_bytes records ++ t) (append-nil (record_bytes r))

abbrev ok_of : Draft (List ℕ) → Said (Draft (List ℕ))
ok_of d = Ok d

whole_along : (scn : ℕ) (vs : List Vector) (d : Draft (List RedoRec)) →
    with_record add_bytes scn vs (spelled_of d) ≡ map_ok spelled_of (with_record add_record scn vs d)
whole_along scn [] d = refl
whole_along scn (v ∷ vs) d =
    ap (λ (t : List ℕ). ok_of (record {
      heading = d.heading;
      begun = d.begun;
      tables = d.tables;
      vectors = [];
      done = t;
    })) (sym (flat_add d.done (record { scn = scn; vectors = v ∷ vs })))

closed_at_along : (b : Option Begun) (d : Draft (List RedoRec)) →
    closed_at add_bytes b (spelled_of d) ≡ map_ok spelled_of (closed_at add_record b d)
closed_at_along None d = refl
closed_at_along (Some b) d = whole_along b.scn d.vectors d

closed_along : (d : Draft (List RedoRec)) → closed add_bytes (spelled_of d) ≡ map_ok spelled_of (closed add_record d)
unfolding closed
closed_along d = closed_at_along d.begun d

-- ---- a line more

vector_along : (d : Draft (List RedoRec)) (v : Vector) → with_vector (spelled_of d) v ≡ map_ok spelled_of (with_vector d v)
unfolding with_vector
vector_along d v =
    if_map spelled_of (nat_le 255 (length d.vectors)) (Err faults.Many) _ (Err faults.Many) _ refl
    (if_map spelled_of (nat_lt 65536 (size_of d.vectors + length (vector v))) (Err faults.Long) _ (Err faults.Long) _ refl refl)

record_along : (d : Draft (List RedoRec)) (words : Line) →
    record_line add_bytes (spelled_of d) words ≡ map_ok spelled_of (record_line add_record d words)
unfolding record_line
record_along d words =
    bind_map spelled_of spelled_of (closed add_record d) (closed add_bytes (spelled_of d)) _ _ (closed_along d)
    (λ c. bind_same spelled_of (number_there c.heading.dbid) _ _
    (λ _. bind_same spelled_of (scn_said c.heading c.begun words) _ _
    (λ scn. bind_same spelled_of (begun_after c.begun scn) _ _ (λ b. refl))))

other_along : (b : Option Begun) (d : Draft (List RedoRec)) (keyword : List ℕ) (words : Line) →
    other_line b (spelled_of d) keyword words ≡ map_ok spelled_of (other_line b d keyword words)
unfolding other_line
other_along None d keyword words = bind_same spelled_of (heading_said d.heading keyword words) _ _ (λ h. refl)
other_along (Some b) d keyword words =
    if_map spelled_of (is_heading_word keyword) (Err faults.Order) _ (Err faults.Order) _ refl
    (bind_same spelled_of (vector_of_words d.tables keyword words) _ _ (λ v. vector_along d v))

words_along : (d : Draft (List RedoRec)) (words : Line) →
    line_of_words add_bytes (spelled_of d) words ≡ map_ok spelled_of (line_of_words add_record d words)
unfolding line_of_words
words_along d [] = refl
words_along d (keyword ∷ words) =
    if_map spelled_of (same_bytes keyword (codes "RECORD")) _ _ _ _ (record_along d words) (other_along d.begun d keyword words)

taken_along : (d : Draft (List RedoRec)) (line : List ℕ) →
    line_taken add_bytes (spelled_of d) line ≡ map_ok spelled_of (line_taken add_record d line)
unfolding line_taken
taken_along d line = if_map spelled_of (says_nothing line) (Ok d) _ (Ok (spelled_of d)) _ refl (words_along d (split space line))

-- ---- the end

-- the header, with the spelling of the records
abbrev spelled_end : Header × List RedoRec → Header × List ℕ
spelled_end (head, records) = (head, flat_map record_bytes records)

end_along : (b : Option Begun) (d : Draft (List RedoRec)) →
    finished_at add_bytes b (spelled_of d) ≡ map_ok spelled_end (finished_at add_record b d)
end_along None d = refl
end_along (Some b) d =
    bind_map spelled_of spelled_end (closed add_record d) (closed add_bytes (spelled_of d)) _ _ (closed_along d)
    (λ c. bind_same spelled_end (header_said c.heading b) _ _ (λ h. refl))

finished_along : (d : Draft (List RedoRec)) → finished add_bytes (spelled_of d) ≡ map_ok spelled_end (finished add_record d)
unfolding finished
finished_along d = end_along d.begun d

last_along : (d : Draft (List RedoRec)) (n : ℕ) (line : List ℕ) →
    last_line add_bytes (spelled_of d) n line ≡ map_ok spelled_end (last_line add_record d n line)
last_along d n line =
    ap (at_line n) (bind_map spelled_of spelled_end (line_taken add_record d line) (line_taken add_bytes (spelled_of d) line) _ _
    (taken_along d line) finished_along)
    ∙ line_map spelled_end n (line_taken add_record d line >>= λ e. finished add_record e)

text_along : (d : Draft (List RedoRec)) (n : ℕ) (line bytes : List ℕ) →
    text_from add_bytes (spelled_of d) n line bytes ≡ map_ok spelled_end (text_from add_record d n line bytes)
text_along d n line [] = last_along d n line
text_along d n line (b ∷ bytes) =
    if_map spelled_end (b == 10) _ _ _ _
    (bind_map spelled_of spelled_end (at_line n (line_taken add_record d line))
    (at_line n (line_taken add_bytes (spelled_of d) line))
    _ _ (ap (at_line n) (taken_along d line) ∙ line_map spelled_of n (line_taken add_record d line))
    (λ e. text_along e (n + 1) [] bytes))
    (text_along d n (line ++ b ∷ []) bytes)

whole_log : (r : Result (Header × List RedoRec) Bad) →
    map_ok (λ x. header_bytes x.0 ++ x.1) (map_ok spelled_end r) ≡ map_ok log_bytes (map_ok log_of r)
whole_log (Ok x) = refl
whole_log (Err b) = refl

-- the bytes that a text says are the spelling of the log that it says
pub bytes_of_log : (text : List ℕ) → bytes_said text ≡ map_ok log_bytes (log_said text)
unfolding bytes_said log_said
bytes_of_log text =
    ap (map_ok (λ x. header_bytes x.0 ++ x.1)) (text_along (beginning []) 1 [] text)
    ∙ whole_log (text_from add_record (beginning []) 1 [] text)
