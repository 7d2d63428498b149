-- What the text of a log is once records stand in it.
use Rattle.std.proofs.Common.{◌≡◌, ℕ, suc, ◌+◌, List, [], ◌∷◌, ◌++◌, length, refl, sym, ap, ◌∙◌, append_assoc, append-nil, arith}
use Rattle.std.specs.List.{flat_map}
use Rattle.redo_vec.specs.declared.vector.Vector.{Vector}
use Rattle.redo_vec.specs.declared.redo_rec.RedoRec.{RedoRec}
use Rattle.redo_vec.specs.Spelling.{record_bytes}
use Rattle.workload.specs.declared.text.Text.{Text}
use Rattle.workload.specs.Workload.{at_scns}
use Rattle.workload.specs.Texts.{text_at, text_with, text_with_all}

-- the text of so many records of these bytes
abbrev pub text_of : ℕ → ℕ → List ℕ → Text
text_of first count bytes = record { first = first; count = count; bytes = bytes }

-- records more, and then others
pub more_texts : (xs ys : List (List Vector)) (t : Text) → text_with_all (xs ++ ys) t ≡ text_with_all ys (text_with_all xs t)
more_texts [] ys t = refl
more_texts (x ∷ xs) ys t = more_texts xs ys (text_with x t)

-- the text has the records' count and their spelling
pub texts_are : (bodies : List (List Vector)) (t : Text) → text_with_all bodies t
    ≡ text_of t.first (t.count + length bodies) (t.bytes ++ flat_map record_bytes (at_scns (t.first + t.count) bodies))
unfolding text_with
texts_are [] t =
    let same : t.count + 0 ≡ t.count = omega arith in
    sym (ap (λ (n : ℕ). text_of t.first n (t.bytes ++ [])) same
    ∙ ap (λ (bytes : List ℕ). text_of t.first t.count bytes) (append-nil t.bytes))
texts_are (b ∷ bs) t =
    let r : RedoRec = record { scn = t.first + t.count; vectors = b } in
    let counted : t.count + 1 + length bs ≡ t.count + suc (length bs) = omega arith in
    let next : t.first + (t.count + 1) ≡ t.first + t.count + 1 = omega arith in
    texts_are bs (text_with b t)
    ∙ ap (λ (k : ℕ). text_of t.first k ((t.bytes ++ record_bytes r) ++
    flat_map record_bytes (at_scns (t.first + (t.count + 1)) bs))) counted
    ∙ ap (λ (k : ℕ). text_of t.first (t.count + suc (length bs)) ((t.bytes ++ record_bytes r) ++
    flat_map record_bytes (at_scns k bs))) next
    ∙ ap (λ (bytes : List ℕ). text_of t.first (t.count + suc (length bs)) bytes)
    (append_assoc t.bytes (record_bytes r) (flat_map record_bytes (at_scns (t.first + t.count + 1) bs)))

-- the same from before the first record on
pub whole_text : (bodies : List (List Vector)) (first : ℕ) → text_with_all bodies (text_at first)
    ≡ text_of first (length bodies) (flat_map record_bytes (at_scns first bodies))
whole_text bodies first =
    let counted : 0 + length bodies ≡ length bodies = omega arith in
    let begun : first + 0 ≡ first = omega arith in
    texts_are bodies (text_at first)
    ∙ ap (λ (k : ℕ). text_of first k (flat_map record_bytes (at_scns (first + 0) bodies))) counted
    ∙ ap (λ (k : ℕ). text_of first (length bodies) (flat_map record_bytes (at_scns k bodies))) begun
