-- Lemmas on what a run of writes brought to a sink, and a run of reads took from a source.
use Rattle.std.proofs.Common.{◌≡◌, ℕ, ◌≤◌, List, [], ◌++◌, length, take, drop, refl, sym, ap, ◌∙◌, append_assoc, append-nil, take-append-drop, Option, Some, None, Result, Ok, Err, OnErr}
use Rattle.std.proofs.lemmas.List.{take_all, drop_all}
use Rattle.std.proofs.Math.Seq.{take-append_seam, drop-append_seam}
use Rattle.std.specs.Io.KnownBytes.{Appends, Consumes, Keeps, IsAtEnd}
use Rattle.std.proofs.KnownBytes.{Appends-trans, Appends-kept, Appends-nil}
use Rattle.rl_ports.specs.Faults.{Told}
use Rattle.rl_text.specs.Written.{AppendsFront}

-- a front of these bytes was written, and these are left
pub record Moved (old new : Option (List ℕ)) (bytes left : List ℕ) : Type 0 where
  pub front : List ℕ
  pub whole : bytes ≡ front ++ left
  pub written : Appends old new front

pub Moved-none : (a : Option (List ℕ)) (bytes : List ℕ) → Moved a a bytes bytes
Moved-none a bytes = record { front = []; whole = refl; written = Appends-nil a }

-- n bytes more
pub Moved-more : (a b c : Option (List ℕ)) (bytes left : List ℕ) (n : ℕ) → Moved a b bytes left → Appends b c (take n left) →
    Moved a c bytes (drop n left)
Moved-more a b c bytes left n m more = record {
  front = m.front ++ take n left;
  whole = m.whole ∙ ap (λ l. m.front ++ l) (sym (take-append-drop n left)) ∙
      sym (append_assoc m.front (take n left) (drop n left));
  written = Appends-trans a b c m.front (take n left) m.written more;
}

pub Moved-kept : (a b c : Option (List ℕ)) (bytes left : List ℕ) → Moved a b bytes left → Keeps b c → AppendsFront a c bytes
Moved-kept a b c bytes left m kept = record {
  front = m.front;
  rest = left;
  whole = m.whole;
  written = Appends-kept a b c m.front m.written kept;
}

pub Moved-front : (a b : Option (List ℕ)) (bytes left : List ℕ) → Moved a b bytes left → AppendsFront a b bytes
Moved-front a b bytes left m = record { front = m.front; rest = left; whole = m.whole; written = m.written }

pub Moved-all : (a b : Option (List ℕ)) (bytes : List ℕ) → Moved a b bytes [] → Appends a b bytes
Moved-all a b bytes m = rw (m.whole, append-nil) m.written

-- what was read to the end is all that was left
pub read_to_end : (a b c : Option (List ℕ)) (bytes none : List ℕ) (n : ℕ) → Consumes a b bytes → Consumes b c none → none ≡ [] →
    IsAtEnd c → length bytes ≤ n
    → Told a (λ all. bytes ≡ take n all) × Told a (λ all. c ≡ Some (drop n all))
read_to_end None b c bytes none n p q e end h = (tt, tt)
read_to_end (Some x) None c bytes none n p q e end h = absurd p
read_to_end (Some x) (Some y) None bytes none n p q e end h = absurd q
read_to_end (Some x) (Some y) (Some z) bytes none n p q e end h =
    let all : x ≡ bytes = p ∙ ap (λ l. bytes ++ l) (q ∙ ap (λ l. l ++ z) e ∙ end) ∙ append-nil bytes in
    (rw all (sym (take_all n bytes h)), rw all (ap Some (end ∙ sym (drop_all n bytes h))))

-- a front of n bytes was read, and the others are left
pub read_front : (a b : Option (List ℕ)) (bytes : List ℕ) (n : ℕ) → Consumes a b bytes → length bytes ≡ n
    → Told a (λ all. bytes ≡ take n all) × Told a (λ all. b ≡ Some (drop n all))
read_front None b bytes n p h = (tt, tt)
read_front (Some x) None bytes n p h = absurd p
read_front (Some x) (Some y) bytes n p h =
    (rw (p, ← h) (sym (take-append_seam bytes y)), rw (p, ← h) (ap Some (sym (drop-append_seam bytes y))))

-- a front of these bytes is one of these and more
pub AppendsFront-longer : (a b : Option (List ℕ)) (bytes more : List ℕ) → AppendsFront a b bytes →
    AppendsFront a b (bytes ++ more)
AppendsFront-longer a b bytes more f = record {
  front = f.front;
  rest = f.rest ++ more;
  whole = ap (λ l. l ++ more) f.whole ∙ append_assoc f.front f.rest more;
  written = f.written;
}

-- and of these behind others that were written
pub AppendsFront-behind : (a b c : Option (List ℕ)) (bytes more : List ℕ) → Appends a b bytes → AppendsFront b c more →
    AppendsFront a c (bytes ++ more)
AppendsFront-behind a b c bytes more p f = record {
  front = bytes ++ f.front;
  rest = f.rest;
  whole = ap (λ l. bytes ++ l) f.whole ∙ sym (append_assoc bytes f.front f.rest);
  written = Appends-trans a b c bytes f.front p f.written;
}

-- a fact that holds anyway holds at an error
pub on_err : {T E : Type 0} (r : Result T E) (P : Type 0) → P → OnErr r P
on_err (Ok x) P p = tt
on_err (Err e) P p = p

pub OnErr-weaker : {T E : Type 0} (r : Result T E) (P Q : Type 0) → (P → Q) → OnErr r P → OnErr r Q
OnErr-weaker (Ok x) P Q f p = tt
OnErr-weaker (Err e) P Q f p = f p
