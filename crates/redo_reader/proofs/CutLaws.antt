-- Records off the front of a cut, and where they end.
use Rattle.std.proofs.Common.{◌≡◌, ℕ, zero, suc, ◌-◌, Bool, true, false, List, [], ◌∷◌, ◌++◌, length, take, drop, Option, Some, None, Result, Ok, Err, refl, sym, ap, ◌∙◌, arith}
use Rattle.std.specs.Prelude.{◌||◌, ◌==◌, nat_lt}
use Rattle.std.specs.Option.{option_or}
use Rattle.std.specs.Int.{w16, w32}
use Rattle.std.proofs.lemmas.List.{take-append-drop, length-append, append-nil}
use Rattle.std.proofs.Math.Seq.{drop-append_seam}
use Rattle.rl_value.specs.declared.cause.CutFault.{CutFault}
use Rattle.rl_value.specs.declared.cause.CutFault.TheVariants as faults
use Rattle.rl_value.specs.Outcome.{first_fault, refused_by}
use Rattle.redo_vec.specs.declared.limits.TheConstants.{MIN_RECORD, MAX_RECORD, MAX_VECTORS}
use Rattle.redo_vec.specs.Cutting.{number_in, first_record}
use Rattle.redo_spec.specs.declared.header.Header.{Header}
use Rattle.redo_wire.specs.declared.raw.Raw.{Raw}
use Rattle.redo_wire.specs.declared.cutting.LogPlace.{LogPlace}
use Rattle.redo_wire.specs.Stream.{Cut as LogCut, Stream, with_raw, cut_or, cut_off, log_place_behind as past, raw_of_bytes, stream_at, cut_of_piece, empty_cut, stream_after, joined_cut}
use Rattle.redo_reader.specs.Steps.{with_raws, log_place_behind_all, GoesOn}

-- ---- the place behind a cut

walks_by : (h : Header) (k : ℕ) (p : LogPlace) (bytes : List ℕ) →
    ((q : LogPlace) (rest : List ℕ) → (cut_off h k q rest).place ≡ log_place_behind_all q (cut_off h k q rest).raws) →
    (r : Result (List ℕ × List ℕ) CutFault)
    → (cut_or r p bytes (λ found rest. with_raw (raw_of_bytes h p found) (cut_off h k (past p found) rest))).place ≡
    log_place_behind_all p (cut_or r p bytes (λ found rest. with_raw (raw_of_bytes h p found)
    (cut_off h k (past p found) rest))).raws
walks_by h k p bytes later (Ok x) = later (past p x.0) x.1
walks_by h k p bytes later (Err fault) = refl

pub walks : (h : Header) (k : ℕ) (p : LogPlace) (bytes : List ℕ) →
    (cut_off h k p bytes).place ≡ log_place_behind_all p (cut_off h k p bytes).raws
walks h zero p [] = refl
walks h zero p (b ∷ bytes) = refl
walks h (suc k) p bytes = walks_by h k p bytes (λ q rest. walks h k q rest) (first_record bytes)

given_walks : (fault_told : Bool) (s : Stream) (piece : List ℕ) → s.fault_told ≡ fault_told →
    (cut_of_piece s piece).place ≡ log_place_behind_all s.place (cut_of_piece s piece).raws
given_walks true s piece is = rw is refl
given_walks false s piece is = rw is (walks s.head (s.head.count - s.place.done) s.place (s.left ++ piece))

pub stream_walks : (s : Stream) (piece : List ℕ) → (cut_of_piece s piece).place ≡
    log_place_behind_all s.place (cut_of_piece s piece).raws
stream_walks s piece = given_walks s.fault_told s piece refl

-- ---- the first record of a cut

pub refused_ok : (o : Option CutFault) (y x : List ℕ × List ℕ) → refused_by o y ≡ Ok x → y ≡ x
refused_ok None y x e = cc
refused_ok (Some fault) y x e = absurd (cc)

pub first_parts : (b : List ℕ) (x : List ℕ × List ℕ) → first_record b ≡ Ok x → x.0 ++ x.1 ≡ b
first_parts b x e =
    let size = number_in w32 0 b in
    let count = number_in w16 12 b in
    let y : (take size b, drop size b) ≡ x = refused_ok (first_fault (
    (nat_lt (length b) 4, faults.Truncated)
    ∷ (nat_lt size MIN_RECORD || nat_lt MAX_RECORD size, faults.Length)
    ∷ (nat_lt (length b) size, faults.Truncated)
    ∷ (count == 0 || nat_lt MAX_VECTORS count, faults.Count)
    ∷ [])) (take size b, drop size b) x e in
    ap (λ (z : List ℕ × List ℕ). z.0 ++ z.1) (sym y) ∙ take-append-drop size b

-- what is left when the first record is given
pub record IsTaken (whole : LogCut) (h : Header) (k : ℕ) (p : LogPlace) (b : List ℕ) (raw : Raw) (ws : List Raw)
    (cause : Option CutFault) (c : LogCut) : Type 0 where
  pub first : whole ≡ with_raw raw (cut_off h (k - 1) (past p raw.bytes) (drop (length raw.bytes) b))
  pub rest : cut_off h (k - 1) (past p raw.bytes) (drop (length raw.bytes) b) ≡ with_raws ws cause c

taken_ok : (h : Header) (k : ℕ) (p : LogPlace) (b : List ℕ) (x : List ℕ × List ℕ) (raw : Raw) (ws : List Raw)
    (cause : Option CutFault) (c : LogCut) → first_record b ≡ Ok x
    → with_raw (raw_of_bytes h p x.0) (cut_off h k (past p x.0) x.1) ≡ with_raws (raw ∷ ws) cause c
    → IsTaken (with_raw (raw_of_bytes h p x.0) (cut_off h k (past p x.0) x.1)) h (suc k) p b raw ws cause c
taken_ok h k p b x raw ws cause c is e =
    let t : LogCut = cut_off h k (past p x.0) x.1 in
    let rs : raw_of_bytes h p x.0 ∷ t.raws ≡ raw ∷ (ws ++ c.raws) = ap (λ (d : LogCut). d.raws) e in
    let first : raw_of_bytes h p x.0 ≡ raw = cc in
    let rest : t.raws ≡ ws ++ c.raws = cc in
    let place : t.place ≡ c.place = ap (λ (d : LogCut). d.place) e in
    let left : t.left ≡ c.left = ap (λ (d : LogCut). d.left) e in
    let ends : t.cause ≡ option_or cause c.cause = ap (λ (d : LogCut). d.cause) e in
    let tail : t ≡ with_raws ws cause c = (λ i. record { raws = rest i; place = place i; left = left i; cause = ends i }) in
    let bytes : raw.bytes ≡ x.0 = sym (ap (λ (r : Raw). r.bytes) first) in
    let behind : drop (length raw.bytes) b ≡ x.1 = ap (λ (l : List ℕ). drop (length l) b) bytes ∙
    ap (drop (length x.0)) (sym (first_parts b x is)) ∙ drop-append_seam x.0 x.1 in
    let less : suc k - 1 ≡ k = omega arith in
    let same : cut_off h (suc k - 1) (past p raw.bytes) (drop (length raw.bytes) b) ≡ t =
    (λ i. cut_off h (less i) (past p (bytes i)) (behind i)) in
    record { first = (λ i. with_raw (first i) (sym same i)); rest = same ∙ tail }

taken_by : (h : Header) (k : ℕ) (p : LogPlace) (b : List ℕ) (r : Result (List ℕ × List ℕ) CutFault) (raw : Raw) (ws : List Raw)
    (cause : Option CutFault) (c : LogCut) → first_record b ≡ r
    → cut_or r p b (λ found rest. with_raw (raw_of_bytes h p found) (cut_off h k (past p found) rest)) ≡
    with_raws (raw ∷ ws) cause c
    → IsTaken (cut_or r p b (λ found rest. with_raw (raw_of_bytes h p found) (cut_off h k (past p found) rest))) h (suc k) p
    b raw ws cause c
taken_by h k p b (Ok x) raw ws cause c is e = taken_ok h k p b x raw ws cause c is e
taken_by h k p b (Err fault) raw ws cause c is e = let none : [] ≡ raw ∷ (ws ++ c.raws) =
    ap (λ (d : LogCut). d.raws) e in absurd (cc)

pub taken : (h : Header) (k : ℕ) (p : LogPlace) (b : List ℕ) (raw : Raw) (ws : List Raw) (cause : Option CutFault) (c : LogCut) →
    cut_off h k p b ≡ with_raws (raw ∷ ws) cause c → IsTaken (cut_off h k p b) h k p b raw ws cause c
taken h zero p [] raw ws cause c e = let none : [] ≡ raw ∷ (ws ++ c.raws) = ap (λ (d : LogCut). d.raws) e in absurd (cc)
taken h zero p (x ∷ b) raw ws cause c e = let none : [] ≡ raw ∷ (ws ++ c.raws) = ap (λ (d : LogCut). d.raws) e in absurd (cc)
taken h (suc k) p b raw ws cause c e = taken_by h k p b (first_record b) raw ws cause c refl e

-- ---- a stream that has cut what it has

begun_by : (n : ℕ) (h : Header) (p : LogPlace) → cut_off h n p [] ≡ record { raws = []; place = p; left = []; cause = None }
begun_by zero h p = refl
begun_by (suc n) h p = refl

pub begun_settled : (h : Header) (rec at done : ℕ) → cut_of_piece (stream_at h rec at done) [] ≡
    empty_cut (stream_at h rec at done)
begun_settled h rec at done = begun_by (h.count - done) h (record { rec = rec; at = at; done = done })

no_more : {X : Type 0} (xs ys : List X) → xs ≡ xs ++ ys → ys ≡ []
no_more xs [] e = refl
no_more xs (y ∷ ys) e = let size = ap length e in let sum = length-append xs (y ∷ ys) in absurd (omega arith)

second_none : (c d e : Option CutFault) → c ≡ None → c ≡ option_or c d → d ≡ None
second_none None d e is h = sym h
second_none (Some f) d e is h = absurd (cc)

pub fed_settled : (s : Stream) (piece : List ℕ) → GoesOn s piece → (cut_of_piece s piece).cause ≡ None →
    cut_of_piece (stream_after s piece) [] ≡ empty_cut (stream_after s piece)
fed_settled s piece on none =
    let a : LogCut = cut_of_piece s piece in
    let d : LogCut = cut_of_piece (stream_after s piece) [] in
    let e : a ≡ joined_cut a d = ap (cut_of_piece s) (sym (append-nil piece)) ∙ on [] in
    let raws : d.raws ≡ [] = no_more a.raws d.raws (ap (λ (c : LogCut). c.raws) e) in
    let place : d.place ≡ a.place = sym (ap (λ (c : LogCut). c.place) e) in
    let left : d.left ≡ a.left = sym (ap (λ (c : LogCut). c.left) e) in
    let cause : d.cause ≡ None = second_none a.cause d.cause None none (ap (λ (c : LogCut). c.cause) e) in
    λ i. record { raws = raws i; place = place i; left = left i; cause = cause i }
