-- Cutting as a loop does it: records that were cut off before, and what is still cut off.
use Rattle.std.specs.Prelude.{◌==◌, if◌then◌else◌, IfOk}
use Rattle.std.proofs.lemmas.Bool.Decides.{nat_tests}
use Rattle.std.proofs.Common.{Bool, false, Result, ◌≡◌, ℕ, suc, ◌-◌, ◌+◌, ◌≤◌, ◌<◌, ◌*◌, ◌^◌, subst, List, [], ◌∷◌, ◌++◌, length, take, drop, Option, Some, None, Ok, Err, sym, ap, ◌∙◌, append_assoc, arith}
use Rattle.std.proofs.lemmas.List.{append-nil, drop-drop, length-take-le, take_all, length-drop}
use Rattle.rl_value.specs.declared.cause.CutFault.{CutFault}
use Rattle.rl_value.specs.declared.cause.CutFault.TheVariants as cuts
use Rattle.redo_vec.specs.Cutting.{first_record}
use Rattle.redo_spec.specs.declared.header.Header.{Header}
use Rattle.redo_wire.specs.declared.raw.Raw.{Raw}
use Rattle.redo_wire.specs.declared.cutting.LogPlace.{LogPlace}
use Rattle.redo_wire.specs.declared.cutting.Taken.{Taken}
use Rattle.redo_wire.specs.Taken.{cut_of_taken}
use Rattle.redo_wire.proofs.FirstLaws.{first_more}
use Rattle.redo_wire.proofs.StreamLaws.{goes_by}
use Rattle.redo_wire.specs.Stream.{Cut, told_of, left_after, cut_off, with_raws, log_place_behind, raw_of_bytes}

pub one_more : (h : Header) (k : ℕ) (p : LogPlace) (bytes : List ℕ) (size : ℕ) (front : List Raw) →
    first_record bytes ≡ Ok (take size bytes, drop size bytes)
    → with_raws front (cut_off h (suc k) p bytes) ≡ with_raws (front ++ raw_of_bytes h p (take size bytes) ∷ [])
    (cut_off h k (log_place_behind p (take size bytes)) (drop size bytes))
one_more h k p bytes size front e =
    let c = cut_off h k (log_place_behind p (take size bytes)) (drop size bytes) in
    rw e (ap (λ (raws : List Raw). record { raws = raws; place = c.place; left = c.left; cause = c.cause })
    (sym (append_assoc front (raw_of_bytes h p (take size bytes) ∷ []) c.raws)))

-- The same as a loop has it: `rest` is what is not cut off yet, `items` are the records with the one more.
pub goes_on_by : (h : Header) (p : LogPlace) (bytes rest : List ℕ) (used size : ℕ) (front items : List Raw) (raw : Raw)
    (total : Cut) → p.done < h.count → rest ≡ drop used bytes → first_record rest ≡ Ok (take size rest, drop size rest)
    → size ≤ length rest → raw ≡ raw_of_bytes h p (take size rest) → items ≡ front ++ raw ∷ []
    → with_raws front (cut_off h (h.count - p.done) p (drop used bytes)) ≡ total
    → with_raws items (cut_off h (h.count - (p.done + 1)) (record { rec = p.rec + 1; at = p.at + size; done = p.done + 1 })
    (drop (used + size) bytes)) ≡ total
goes_on_by h p bytes rest used size front items raw total lt behind_it e whole is pushed so_far =
    let k : ℕ = h.count - (p.done + 1) in
    let found : List ℕ = take size rest in
    let all : items ≡ front ++ raw_of_bytes h p found ∷ [] = pushed ∙ ap (λ (r : Raw). front ++ r ∷ []) is in
    let later : drop (used + size) bytes ≡ drop size rest = sym (drop-drop size used bytes) ∙ ap (drop size) (sym behind_it) in
    ap (λ (raws : List Raw). with_raws raws (cut_off h k (record { rec = p.rec + 1; at = p.at + size; done = p.done + 1 })
    (drop (used + size) bytes))) all
    ∙ ap (λ (n : ℕ). with_raws (front ++ raw_of_bytes h p found ∷ [])
    (cut_off h k (record { rec = p.rec + 1; at = p.at + n; done = p.done + 1 }) (drop (used + size) bytes)))
    (sym (length-take-le size rest whole))
    ∙ ap (λ (after : List ℕ). with_raws (front ++ raw_of_bytes h p found ∷ []) (cut_off h k (log_place_behind p found) after))
    later
    ∙ sym (one_more h k p rest size front e)
    ∙ ap (λ (n : ℕ). with_raws front (cut_off h n p rest)) (let less : suc k ≡ h.count - p.done = omega arith in less)
    ∙ ap (λ (xs : List ℕ). with_raws front (cut_off h (h.count - p.done) p xs)) behind_it
    ∙ so_far

pub stops : (h : Header) (p : LogPlace) (rest after : List ℕ) (fault : CutFault) (cause : Option CutFault) (front : List Raw)
    (total : Cut) → p.done < h.count → rest ≡ after → first_record rest ≡ Err fault → cause ≡ told_of fault
    → with_raws front (cut_off h (h.count - p.done) p after) ≡ total
    → total ≡ record { raws = front; place = p; left = left_after cause rest; cause = cause }
stops h p rest after fault cause front total lt same e is so_far =
    let k : h.count - p.done ≡ suc (h.count - (p.done + 1)) = omega arith in
    sym so_far
    ∙ ap (λ (n : ℕ). with_raws front (cut_off h n p after)) k
    ∙ ap (λ (xs : List ℕ). with_raws front (cut_off h (suc (h.count - (p.done + 1))) p xs)) (sym same)
    ∙ rw e (ap (λ (raws : List Raw). record {
      raws = raws;
      place = p;
      left = left_after (told_of fault) rest;
      cause = told_of fault;
    })
    (append-nil front))
    ∙ ap (λ (o : Option CutFault). record { raws = front; place = p; left = left_after o rest; cause = o }) (sym is)

-- the rest of bytes as a slice of them
pub tail : (used : ℕ) (bytes : List ℕ) → take (length bytes - used) (drop used bytes) ≡ drop used bytes
tail used bytes = take_all (length bytes - used) (drop used bytes) (omega (arith, length-drop used bytes))

-- the offsets of the records that may still come fit their field
pub offsets_fit : (at size count done : ℕ) → done < count → size ≤ 65536 → at + 65536 * (count - done) < 2 ^ 64 →
    at + size + 65536 * (count - (done + 1)) < 2 ^ 64
offsets_fit at size count done lt short fits = omega arith

pub still_within : (used size : ℕ) (bytes : List ℕ) → used ≤ length bytes →
    size ≤ length (take (length bytes - used) (drop used bytes)) → used + size ≤ length bytes
still_within used size bytes within whole =
    let long : size ≤ length bytes - used = subst (λ (n : ℕ). size ≤ n)
    (ap length (tail used bytes) ∙ length-drop used bytes) whole in
    omega arith

-- nothing is left to cut: what is there is trailing
pub all_cut : (h : Header) (count done used : ℕ) (p : LogPlace) (bytes rest : List ℕ) (cause : Option CutFault) (front : List Raw)
    (total : Cut) → count ≤ done → rest ≡ drop used bytes → cause ≡ (if length rest == 0 then None else Some cuts.Trailing)
    → with_raws front (cut_off h (count - done) p (drop used bytes)) ≡ total
    → total ≡ record { raws = front; place = p; left = left_after cause rest; cause = cause }
all_cut h count done used p bytes [] cause front total le same is so_far =
    let k : count - done ≡ 0 = omega arith in
    let none : cause ≡ None = is in
    sym so_far
    ∙ ap (λ (n : ℕ). with_raws front (cut_off h n p (drop used bytes))) k
    ∙ ap (λ (xs : List ℕ). with_raws front (cut_off h 0 p xs)) (sym same)
    ∙ ap (λ (raws : List Raw). record { raws = raws; place = p; left = []; cause = None }) (append-nil front)
    ∙ ap (λ (o : Option CutFault). record { raws = front; place = p; left = left_after o []; cause = o }) (sym none)
all_cut h count done used p bytes (b ∷ rest) cause front total le same is so_far =
    let k : count - done ≡ 0 = omega arith in
    let test : (length (b ∷ rest) == 0) ≡ false = grind (arith, nat_tests) in
    let some : cause ≡ Some cuts.Trailing = is ∙ ap (λ (t : Bool). if t then None else Some cuts.Trailing) test in
    sym so_far
    ∙ ap (λ (n : ℕ). with_raws front (cut_off h n p (drop used bytes))) k
    ∙ ap (λ (xs : List ℕ). with_raws front (cut_off h 0 p xs)) (sym same)
    ∙ ap (λ (raws : List Raw). record { raws = raws; place = p; left = []; cause = Some cuts.Trailing }) (append-nil front)
    ∙ ap (λ (o : Option CutFault). record { raws = front; place = p; left = left_after o (b ∷ rest); cause = o }) (sym some)

-- what was taken is this cut
pub took : {E : Type 0} (r : Result Taken E) (whole total : Cut) → total ≡ whole → IfOk r (λ t. cut_of_taken t ≡ whole)
    → IfOk r (λ t. total ≡ cut_of_taken t)
took (Ok t) whole total e is = e ∙ sym is
took (Err m) whole total e is = tt

-- one whole record, and what is cut off the bytes behind it
pub one_behind : (h : Header) (p q : LogPlace) (a b : List ℕ) (raws : List Raw) → p.done < h.count → first_record a ≡ Ok (a, [])
    → q ≡ log_place_behind p a → raws ≡ raw_of_bytes h p a ∷ []
    → cut_off h (h.count - p.done) p (a ++ b) ≡ with_raws raws (cut_off h (h.count - q.done) q b)
one_behind h p q a b raws lt e at is =
    let k : h.count - p.done ≡ suc (h.count - (p.done + 1)) = omega arith in
    ap (λ (n : ℕ). cut_off h n p (a ++ b)) k
    ∙ goes_by h (h.count - (p.done + 1)) p (a ++ b) (Ok (a, b)) (first_more a b (a, []) e)
    ∙ ap (λ (r : LogPlace). with_raws (raw_of_bytes h p a ∷ []) (cut_off h (h.count - r.done) r b)) (sym at)
    ∙ ap (λ (xs : List Raw). with_raws xs (cut_off h (h.count - q.done) q b)) (sym is)

-- the same cut, said otherwise
pub took_as : {E : Type 0} (r : Result Taken E) (whole total : Cut) → whole ≡ total → IfOk r (λ t. total ≡ cut_of_taken t)
    → IfOk r (λ t. whole ≡ cut_of_taken t)
took_as (Ok t) whole total e is = e ∙ is
took_as (Err m) whole total e is = tt
