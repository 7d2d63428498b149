-- What a stream gives does not depend on the pieces in which its bytes come.
use Rattle.std.proofs.Common.{◌≡◌, ℕ, zero, suc, ◌-◌, Bool, true, false, List, [], ◌∷◌, ◌++◌, Option, Some, None, Result, Ok, Err, refl, sym, ap, ◌∙◌, append_assoc, arith}
use Rattle.std.specs.Prelude.{is_some}
use Rattle.std.specs.Option.{option_or}
use Rattle.std.specs.List.{concat}
use Rattle.std.proofs.lemmas.List.{append-nil}
use Rattle.rl_value.specs.declared.cause.CutFault.{CutFault}
use Rattle.rl_value.specs.declared.cause.CutFault.TheVariants as cuts
use Rattle.redo_vec.specs.Cutting.{first_record}
use Rattle.redo_spec.specs.declared.header.Header.{Header}
use Rattle.redo_wire.specs.declared.raw.Raw.{Raw}
use Rattle.redo_wire.specs.declared.cutting.LogPlace.{LogPlace}
use Rattle.redo_wire.specs.Stream.{Cut, with_raw, cut_or, cut_off, log_place_behind, raw_of_bytes, Stream, empty_cut, cut_of_piece, told_after, stream_after, run_of, as_cut, joined_cut, stream_at}
use Rattle.redo_wire.proofs.FirstLaws.{first_more, length_more, count_fault_more, never_trailing}

-- the stream that a cut leaves
abbrev pub left_by : Header → Cut → Stream
left_by h c = record { head = h; place = c.place; left = c.left; fault_told = is_some c.cause }

-- after a fault nothing follows
told_on : (h : Header) (p : LogPlace) (f : CutFault) (b : List ℕ) → let c : Cut =
    record { raws = []; place = p; left = []; cause = Some f } in c ≡ joined_cut c (cut_of_piece (left_by h c) b)
told_on h p f b = refl

-- a cut goes by the first record
pub goes_by : (h : Header) (k : ℕ) (p : LogPlace) (a : List ℕ) (r : Result (List ℕ × List ℕ) CutFault) → first_record a ≡ r
    → cut_off h (suc k) p a ≡ cut_or r p a (λ found rest. with_raw (raw_of_bytes h p found)
    (cut_off h k (log_place_behind p found) rest))
goes_by h k p a r e = ap (λ (q : Result (List ℕ × List ℕ) CutFault). cut_or q p a
    (λ found rest. with_raw (raw_of_bytes h p found) (cut_off h k (log_place_behind p found) rest))) e

abbrev Goes : Header → ℕ → LogPlace → List ℕ → List ℕ → Type 0
Goes h k p a b = cut_off h k p (a ++ b) ≡ joined_cut (cut_off h k p a) (cut_of_piece (left_by h (cut_off h k p a)) b)

more_step : (h : Header) (k : ℕ) (p : LogPlace) (a b : List ℕ) → suc k ≡ h.count - p.done →
    ((q : LogPlace) (c : List ℕ) → k ≡ h.count - q.done → Goes h k q c b) → (r : Result (List ℕ × List ℕ) CutFault) →
    first_record a ≡ r → Goes h (suc k) p a b
more_step h k p a b e later (Ok x) is =
    let whole = goes_by h k p (a ++ b) (Ok (x.0, x.1 ++ b)) (first_more a b x is) in
    let part = goes_by h k p a (Ok x) is in
    let next = later (log_place_behind p x.0) x.1 (omega arith) in
    whole ∙ ap (with_raw (raw_of_bytes h p x.0)) next ∙ sym (ap (λ (c : Cut). joined_cut c (cut_of_piece (left_by h c) b)) part)
more_step h k p a b e later (Err cuts.Truncated) is =
    let part = goes_by h k p a (Err cuts.Truncated) is in
    ap (λ (n : ℕ). cut_off h n p (a ++ b)) e ∙ sym (ap (λ (c : Cut). joined_cut c (cut_of_piece (left_by h c) b)) part)
more_step h k p a b e later (Err cuts.Length) is =
    let whole = goes_by h k p (a ++ b) (Err cuts.Length) (length_more a b is) in
    let part = goes_by h k p a (Err cuts.Length) is in
    whole ∙ told_on h p cuts.Length b ∙ sym (ap (λ (c : Cut). joined_cut c (cut_of_piece (left_by h c) b)) part)
more_step h k p a b e later (Err cuts.Count) is =
    let whole = goes_by h k p (a ++ b) (Err cuts.Count) (count_fault_more a b is) in
    let part = goes_by h k p a (Err cuts.Count) is in
    whole ∙ told_on h p cuts.Count b ∙ sym (ap (λ (c : Cut). joined_cut c (cut_of_piece (left_by h c) b)) part)
more_step h k p a b e later (Err cuts.Trailing) is = absurd (never_trailing a is)

-- more bytes behind those of a cut
pub more : (h : Header) (k : ℕ) (p : LogPlace) (a b : List ℕ) → k ≡ h.count - p.done → Goes h k p a b
more h zero p [] b e = ap (λ (n : ℕ). cut_off h n p b) e
more h zero p (x ∷ a) b e = refl
more h (suc k) p a b e = more_step h k p a b e (λ q c f. more h k q c b f) (first_record a) refl

given_more_or : (h : Header) (p : LogPlace) (left : List ℕ) (fault_told : Bool) (a b : List ℕ) → let s : Stream =
    record { head = h; place = p; left = left; fault_told = fault_told } in
    cut_of_piece s (a ++ b) ≡ joined_cut (cut_of_piece s a) (cut_of_piece (stream_after s a) b)
given_more_or h p left true a b = refl
given_more_or h p left false a b = ap (cut_off h (h.count - p.done) p) (sym (append_assoc left a b)) ∙
    more h (h.count - p.done) p (left ++ a) b refl

-- bytes in two pieces give what they give in one
pub given_more : (s : Stream) (a b : List ℕ) → cut_of_piece s (a ++ b) ≡
    joined_cut (cut_of_piece s a) (cut_of_piece (stream_after s a) b)
given_more s a b = given_more_or s.head s.place s.left s.fault_told a b

pub told_twice : (fault_told : Bool) (c d : Option CutFault) →
    told_after fault_told (option_or c d) ≡ told_after (told_after fault_told c) d
told_twice true c d = refl
told_twice false None d = refl
told_twice false (Some f) d = refl

-- and leave the same stream
pub fed_more : (s : Stream) (a b : List ℕ) → stream_after s (a ++ b) ≡ stream_after (stream_after s a) b
fed_more s a b =
    let e = given_more s a b in
    ap (λ (c : Cut). record { head = s.head; place = c.place; left = c.left; fault_told = told_after s.fault_told c.cause }) e
    ∙ ap (λ (o : Bool). record {
      head = s.head;
      place = (cut_of_piece (stream_after s a) b).place;
      left = (cut_of_piece (stream_after s a) b).left;
      fault_told = o;
    })
    (told_twice s.fault_told (cut_of_piece s a).cause (cut_of_piece (stream_after s a) b).cause)

-- ---- any list of pieces

or_none : (o : Option CutFault) → option_or o None ≡ o
or_none None = refl
or_none (Some f) = refl

or_assoc : (o p q : Option CutFault) → option_or o (option_or p q) ≡ option_or (option_or o p) q
or_assoc None p q = refl
or_assoc (Some f) p q = refl

joined_assoc : (c d e : Cut) → joined_cut c (joined_cut d e) ≡ joined_cut (joined_cut c d) e
joined_assoc c d e = ap (λ (raws : List Raw). record {
  raws = raws;
  place = e.place;
  left = e.left;
  cause = option_or c.cause (option_or d.cause e.cause);
}) (sym (append_assoc c.raws d.raws e.raws))
    ∙ ap (λ (o : Option CutFault). record { raws = (c.raws ++ d.raws) ++ e.raws; place = e.place; left = e.left; cause = o })
    (or_assoc c.cause d.cause e.cause)

pieces_after : (s : Stream) (a : List ℕ) (pieces : List (List ℕ)) →
    joined_cut (cut_of_piece s a) (as_cut (run_of (stream_after s a) pieces)) ≡ cut_of_piece s (a ++ concat pieces)
pieces_after s a [] =
    let c = cut_of_piece s a in
    ap (λ (raws : List Raw). record {
      raws = raws;
      place = (cut_of_piece s a).place;
      left = (cut_of_piece s a).left;
      cause = option_or (cut_of_piece s a).cause None;
    }) (append-nil (cut_of_piece s a).raws)
    ∙ ap (λ (o : Option CutFault). record {
      raws = (cut_of_piece s a).raws;
      place = (cut_of_piece s a).place;
      left = (cut_of_piece s a).left;
      cause = o;
    }) (or_none (cut_of_piece s a).cause)
    ∙ ap (cut_of_piece s) (sym (append-nil a))
pieces_after s a (b ∷ pieces) =
    joined_assoc (cut_of_piece s a) (cut_of_piece (stream_after s a) b)
    (as_cut (run_of (stream_after (stream_after s a) b) pieces))
    ∙ ap (λ (c : Cut). joined_cut c (as_cut (run_of (stream_after (stream_after s a) b) pieces))) (sym (given_more s a b))
    ∙ ap (λ (t : Stream). joined_cut (cut_of_piece s (a ++ b)) (as_cut (run_of t pieces))) (sym (fed_more s a b))
    ∙ pieces_after s (a ++ b) pieces
    ∙ ap (cut_of_piece s) (append_assoc a b (concat pieces))

at_begin : (h : Header) (k : ℕ) (p : LogPlace) → cut_off h k p [] ≡ record { raws = []; place = p; left = []; cause = None }
at_begin h zero p = refl
at_begin h (suc k) p = refl

-- a log that comes in pieces gives what its bytes give
pub pieces_give : (h : Header) (rec at done : ℕ) (pieces : List (List ℕ)) →
    as_cut (run_of (stream_at h rec at done) pieces) ≡ cut_off h (h.count - done) (record { rec = rec; at = at; done = done })
    (concat pieces)
pieces_give h rec at done pieces =
    let s = stream_at h rec at done in
    let none : cut_of_piece (stream_at h rec at done) [] ≡ empty_cut (stream_at h rec at done) =
    at_begin h (h.count - done) (record { rec = rec; at = at; done = done }) in
    let same : stream_after (stream_at h rec at done) [] ≡ stream_at h rec at done =
    ap (λ (c : Cut). record { head = h; place = c.place; left = c.left; fault_told = is_some c.cause }) none in
    sym (ap (λ (c : Cut). joined_cut c (as_cut (run_of (stream_at h rec at done) pieces))) none)
    ∙ sym (ap (λ (t : Stream). joined_cut (cut_of_piece (stream_at h rec at done) []) (as_cut (run_of t pieces))) same)
    ∙ pieces_after (stream_at h rec at done) [] pieces
