-- The logs that are written are those of the workload, each under its sequence.
use Rattle.std.proofs.Common.{◌≡◌, ℕ, zero, suc, ◌+◌, ◌<◌, List, [], ◌∷◌, ◌++◌, length, refl, sym, ap, ◌∙◌, append_assoc, append-nil, arith}
use Rattle.std.specs.List.{flat_map, AllByRecursion}
use Rattle.std.specs.Cmp.{nat_cmp_is}
use Rattle.std.specs.declared.cmp.Ordering.{Ordering}
use Rattle.std.specs.declared.cmp.Ordering.TheVariants.{Greater}
use Rattle.std.specs.FinMap.Entries.{by_order}
use Rattle.rl_mem.specs.Devices.{Numbered, with_one}
use Rattle.redo_vec.specs.declared.vector.Vector.{Vector}
use Rattle.redo_vec.specs.Spelling.{record_bytes}
use Rattle.redo_spec.specs.Log.{log_bytes}
use Rattle.workload.specs.declared.left.Left.{Left}
use Rattle.workload.specs.declared.text.Text.{Text}
use Rattle.workload.specs.declared.logs.Logs.{Logs}
use Rattle.workload.specs.Accounts.{dictionary_vectors}
use Rattle.workload.specs.Workload.{at_scns, log_of, log_made, logs_made, log_count, left_begun, workload_logs, AreChained, held_logs}
use Rattle.workload.specs.Texts.{text_at, text_with_all, spelled_log, head_of, with_log, logs_put, logs_begun}
use Rattle.workload.proofs.TextLaws.{more_texts, whole_text, text_of}

-- ---- an archive that grows at its end

-- all sequences are below this one
abbrev Below : ℕ → Numbered → Type 0
Below seq held = AllByRecursion (λ e. e.0 < seq) held

at_end : (seq : ℕ) (bytes : List ℕ) (held : Numbered) → Below seq held → with_one seq bytes held ≡ held ++ (seq, bytes) ∷ []
at_end seq bytes [] low = refl
at_end seq bytes (e ∷ es) low =
    ap (λ (o : Ordering). by_order {A = Numbered} o ((seq, bytes) ∷ e ∷ es) ((e.0, bytes) ∷ es) (e ∷ with_one seq bytes es))
    (sym (nat_cmp_is seq e.0 Greater low.0))
    ∙ ap (λ (rest : Numbered). e ∷ rest) (at_end seq bytes es low.1)

below_more : (seq : ℕ) (bytes : List ℕ) (held : Numbered) → Below seq held → Below (seq + 1) (held ++ (seq, bytes) ∷ [])
below_more seq bytes [] low = (omega arith, tt)
below_more seq bytes (e ∷ es) low = let first : e.0 < seq = low.0 in (omega arith, below_more seq bytes es low.1)

-- ---- logs

abbrev logs_of : Numbered → Text → Left → Logs
logs_of archive t l = record { archive = archive; text = t; left = l }

-- a log of this text is put into the archive, and the next one begins
abbrev kept : ℕ → Numbered → Left → Text → Logs
kept seq archive l t = logs_of (with_one seq (spelled_log (head_of seq t) t.bytes) archive) (text_at (t.first + t.count)) l

whole_log : (seq first : ℕ) (bodies : List (List Vector)) (archive : Numbered) (l : Left) →
    kept seq archive l (text_of first (length bodies) (flat_map record_bytes (at_scns first bodies)))
    ≡ logs_of (with_one seq (log_bytes (log_of seq first bodies)) archive) (text_at (first + length bodies)) l
unfolding spelled_log
whole_log seq first bodies archive l = refl

logs_are : (txns count seq first : ℕ) (front : List (List Vector)) (l : Left) (archive : Numbered) → Below seq archive →
    (logs_put txns count seq (logs_of archive (text_with_all front (text_at first)) l)).archive
    ≡ archive ++ held_logs (logs_made txns count seq first front l)
unfolding with_log
logs_are txns zero seq first front l archive low = sym (append-nil archive)
logs_are txns (suc count) seq first front l archive low =
    let m = log_made txns seq l in
    let bodies = front ++ m.bodies in
    let bytes = log_bytes (log_of seq first bodies) in
    let more = logs_made txns count (seq + 1) (first + length bodies) [] m.left in
    ap (λ (t : Text). (logs_put txns count (seq + 1) (kept seq archive m.left t)).archive)
    (sym (more_texts front m.bodies (text_at first)) ∙ whole_text bodies first)
    ∙ ap (λ (s : Logs). (logs_put txns count (seq + 1) s).archive) (whole_log seq first bodies archive m.left)
    ∙ ap (λ (a : Numbered). (logs_put txns count (seq + 1) (logs_of a (text_at (first + length bodies)) m.left)).archive)
    (at_end seq bytes archive low)
    ∙ logs_are txns count (seq + 1) (first + length bodies) [] m.left (archive ++ (seq, bytes) ∷ [])
    (below_more seq bytes archive low)
    ∙ append_assoc archive ((seq, bytes) ∷ []) (held_logs more)

-- what is held in the end is the workload
pub all_logs : (seed txns : ℕ) →
    (logs_put txns (log_count txns) 1 (logs_begun seed)).archive ≡ held_logs (workload_logs seed txns)
unfolding workload_logs
all_logs seed txns = logs_are txns (log_count txns) 1 1 (dictionary_vectors ∷ []) (left_begun seed) [] tt

-- ---- how many logs there are, and how they follow each other

pub length-at_scns : (scn : ℕ) (bodies : List (List Vector)) → length (at_scns scn bodies) ≡ length bodies
length-at_scns scn [] = refl
length-at_scns scn (b ∷ bs) = ap (λ (n : ℕ). suc n) (length-at_scns (scn + 1) bs)

counted_from : (txns count seq first : ℕ) (front : List (List Vector)) (l : Left) →
    length (logs_made txns count seq first front l) ≡ count
counted_from txns zero seq first front l = refl
counted_from txns (suc count) seq first front l =
    let m = log_made txns seq l in
    ap (λ (n : ℕ). suc n) (counted_from txns count (seq + 1) (first + length (front ++ m.bodies)) [] m.left)

chained_from : (txns count seq first : ℕ) (front : List (List Vector)) (l : Left) →
    AreChained seq first (logs_made txns count seq first front l)
chained_from txns zero seq first front l = tt
chained_from txns (suc count) seq first front l =
    let m = log_made txns seq l in
    let bodies = front ++ m.bodies in (
      refl,
      refl,
      ap (λ (n : ℕ). first + n) (sym (length-at_scns first bodies)),
      chained_from txns count (seq + 1) (first + length bodies) [] m.left,
    )

pub all_counted : (seed txns : ℕ) → length (workload_logs seed txns) ≡ log_count txns
unfolding workload_logs
all_counted seed txns = counted_from txns (log_count txns) 1 1 (dictionary_vectors ∷ []) (left_begun seed)

pub all_chained : (seed txns : ℕ) → AreChained 1 1 (workload_logs seed txns)
unfolding workload_logs
all_chained seed txns = chained_from txns (log_count txns) 1 1 (dictionary_vectors ∷ []) (left_begun seed)
