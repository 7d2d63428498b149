-- Laws of fields: a number that is read from bytes is spelled by them, and so is a header without a fault.
use Rattle.std.proofs.Common.{◌≡◌, ℕ, zero, suc, ◌+◌, ◌^◌, ◌≤◌, ◌<◌, ◌||◌, ◌==◌, nat_lt, nat_le, not, codes, Bool, true, false, cond, List, [], ◌∷◌, ◌++◌, length, take, drop, get_or, Option, Some, None, refl, sym, ap, ◌∙◌, arith, inl, inr}
use Rattle.std.specs.Int.{w16, w32, w64, from_be_bytes}
use Rattle.std.specs.Cmp.Lexicographic.{same_text}
use Rattle.std.proofs.lemmas.Bool.{cases_lt, ltb-false, eqb-true, not-false}
use Rattle.std.proofs.lemmas.Nat.{be_bytes_2, be_bytes_4, be_bytes_8}
use Rattle.std.proofs.lemmas.List.{length-take, length-drop, get_or-take, get_or-drop, get_or_past, take-take, drop-take, take-append-drop}
use Rattle.rl_value.specs.declared.cause.HeadFault.{HeadFault}
use Rattle.rl_value.specs.declared.cause.HeadFault.TheVariants as heads
use Rattle.rl_value.specs.Order.{same_bytes}
use Rattle.redo_vec.specs.Spelling.{be16, be32, be64}
use Rattle.redo_vec.specs.Ranges.{AreBytes}
use Rattle.redo_vec.specs.Cutting.{number_in}
use Rattle.redo_spec.specs.Log.{IsHeader, header_bytes}
use Rattle.redo_spec.specs.LogHeader.{header_in, header_fault}

-- ---- bytes

abbrev pub IsBytes : List ℕ → Type 0
IsBytes bytes = (i : ℕ) → get_or bytes i 0 < 256

pub bytes_fit : (bytes : List ℕ) → AreBytes bytes → IsBytes bytes
bytes_fit [] a i = omega arith
bytes_fit (b ∷ bytes) a zero = a.0
bytes_fit (b ∷ bytes) a (suc i) = bytes_fit bytes a.1 i

pub are_bytes : (bytes : List ℕ) → IsBytes bytes → AreBytes bytes
are_bytes [] fits = tt
are_bytes (b ∷ bytes) fits = (fits 0, are_bytes bytes (λ i. fits (suc i)))

pub drop_fits : (n : ℕ) (bytes : List ℕ) → IsBytes bytes → IsBytes (drop n bytes)
drop_fits n bytes fits i = rw get_or-drop (fits (n + i))

pub take_fits : (n : ℕ) (bytes : List ℕ) → IsBytes bytes → IsBytes (take n bytes)
take_fits n bytes fits i =
    elim (cases_lt i n) [
      | inl low ↦ rw (get_or-take n bytes i 0 low) (fits i)
      | inr high ↦ rw (get_or_past (take n bytes) i 0 (omega (arith, length-take n bytes))) (omega arith)
    ]

pub front2 : (bytes : List ℕ) → from_be_bytes w16 (take 2 bytes) ≡ from_be_bytes w16 bytes
front2 [] = refl
front2 (a ∷ []) = refl
front2 (a ∷ b ∷ bytes) = refl

pub front4 : (bytes : List ℕ) → from_be_bytes w32 (take 4 bytes) ≡ from_be_bytes w32 bytes
front4 [] = refl
front4 (a ∷ []) = refl
front4 (a ∷ b ∷ []) = refl
front4 (a ∷ b ∷ c ∷ []) = refl
front4 (a ∷ b ∷ c ∷ d ∷ bytes) = refl

pub front8 : (bytes : List ℕ) → from_be_bytes w64 (take 8 bytes) ≡ from_be_bytes w64 bytes
front8 [] = refl
front8 (a ∷ []) = refl
front8 (a ∷ b ∷ []) = refl
front8 (a ∷ b ∷ c ∷ []) = refl
front8 (a ∷ b ∷ c ∷ d ∷ []) = refl
front8 (a ∷ b ∷ c ∷ d ∷ e ∷ []) = refl
front8 (a ∷ b ∷ c ∷ d ∷ e ∷ f ∷ []) = refl
front8 (a ∷ b ∷ c ∷ d ∷ e ∷ f ∷ g ∷ []) = refl
front8 (a ∷ b ∷ c ∷ d ∷ e ∷ f ∷ g ∷ h ∷ bytes) = refl

-- a number that is read is spelled by the bytes that it is read from
pub spelled2 : (at : ℕ) (bytes : List ℕ) → IsBytes bytes → at + 2 ≤ length bytes →
    take 2 (drop at bytes) ≡ be16 (number_in w16 at bytes)
spelled2 at bytes fits long =
    sym (be_bytes_2 (take 2 (drop at bytes)) _ (omega (arith, long, length-take 2 (drop at bytes), length-drop at bytes))
    (take_fits 2 (drop at bytes) (drop_fits at bytes fits)) refl)
    ∙ ap be16 (front2 (drop at bytes))

pub spelled4 : (at : ℕ) (bytes : List ℕ) → IsBytes bytes → at + 4 ≤ length bytes →
    take 4 (drop at bytes) ≡ be32 (number_in w32 at bytes)
spelled4 at bytes fits long =
    sym (be_bytes_4 (take 4 (drop at bytes)) _ (omega (arith, long, length-take 4 (drop at bytes), length-drop at bytes))
    (take_fits 4 (drop at bytes) (drop_fits at bytes fits)) refl)
    ∙ ap be32 (front4 (drop at bytes))

pub spelled8 : (at : ℕ) (bytes : List ℕ) → IsBytes bytes → at + 8 ≤ length bytes →
    take 8 (drop at bytes) ≡ be64 (number_in w64 at bytes)
spelled8 at bytes fits long =
    sym (be_bytes_8 (take 8 (drop at bytes)) _ (omega (arith, long, length-take 8 (drop at bytes), length-drop at bytes))
    (take_fits 8 (drop at bytes) (drop_fits at bytes fits)) refl)
    ∙ ap be64 (front8 (drop at bytes))

-- ---- the header

-- bytes that are spelled, and the next ones
pub joined : (a b : ℕ) (bytes front next : List ℕ) → take a bytes ≡ front → take b (drop a bytes) ≡ next →
    take (a + b) bytes ≡ front ++ next
joined a b bytes front next p q =
    let low : a ≤ a + b = omega arith in
    let first : take a (take (a + b) bytes) ≡ front = take-take a (a + b) bytes low ∙ p in
    let second : drop a (take (a + b) bytes) ≡ next = drop-take a b bytes ∙ q in
    sym (take-append-drop a (take (a + b) bytes)) ∙ (λ i. first i ++ second i)

pub passed : (test : Bool) (fault : HeadFault) (o : Option HeadFault) → cond test (Some fault) o ≡ None →
    (test ≡ false) × (o ≡ None)
passed false fault o e = (refl, e)
passed true fault o e = absurd (cc)

-- what the tests of a header tell
pub record Passed (seq : ℕ) (bytes : List ℕ) : Type 0 where
  pub is : number_in w32 12 bytes ≡ seq
  pub long : 40 ≤ length bytes
  pub magic : take 4 bytes ≡ codes "SRL1"
  pub version : number_in w16 4 bytes ≡ 1
  pub thread : number_in w16 6 bytes ≡ 1
  pub reserved : number_in w32 36 bytes ≡ 0

pub header_passed : (seq : ℕ) (bytes : List ℕ) → header_fault seq bytes ≡ None → Passed seq bytes
header_passed seq bytes e =
    let short = passed (nat_lt (length bytes) 40) heads.Short _ e in
    let magic = passed (not (same_bytes (take 4 bytes) (codes "SRL1"))) heads.Magic _ short.1 in
    let version = passed (not (number_in w16 4 bytes == 1)) heads.Version _ magic.1 in
    let thread = passed (not (number_in w16 6 bytes == 1)) heads.Thread _ version.1 in
    let sequence = passed (not (number_in w32 12 bytes == seq)) heads.Sequence _ thread.1 in
    let range = passed (number_in w64 16 bytes == 0 || nat_le (number_in w64 24 bytes) (number_in w64 16 bytes)) heads.Range
    _ sequence.1 in
    let count = passed (number_in w32 32 bytes == 0) heads.Records _ range.1 in
    let reserved = passed (not (number_in w32 36 bytes == 0)) heads.Reserved _ count.1 in
    record {
      is = eqb-true (number_in w32 12 bytes) seq (not-false (number_in w32 12 bytes == seq) sequence.0);
      long = ltb-false (length bytes) 40 short.0;
      magic = same_text (take 4 bytes) (codes "SRL1") (sym (not-false (same_bytes (take 4 bytes) (codes "SRL1")) magic.0));
      version = eqb-true (number_in w16 4 bytes) 1 (not-false (number_in w16 4 bytes == 1) version.0);
      thread = eqb-true (number_in w16 6 bytes) 1 (not-false (number_in w16 6 bytes == 1) thread.0);
      reserved = eqb-true (number_in w32 36 bytes) 0 (not-false (number_in w32 36 bytes == 0) reserved.0);
    }

pub header_spelled : (seq : ℕ) (bytes : List ℕ) → IsBytes bytes → Passed seq bytes →
    take 40 bytes ≡ header_bytes (header_in bytes)
header_spelled seq bytes fits p =
    let long = p.long in
    let h = header_in bytes in
    let to6 = joined 4 2 bytes (codes "SRL1") (be16 1) p.magic
    (spelled2 4 bytes fits (omega (arith, long)) ∙ ap be16 p.version) in
    let to8 = joined 6 2 bytes (codes "SRL1" ++ be16 1) (be16 1) to6
    (spelled2 6 bytes fits (omega (arith, long)) ∙ ap be16 p.thread) in
    let to12 = joined 8 4 bytes (codes "SRL1" ++ be16 1 ++ be16 1) (be32 h.dbid) to8
    (spelled4 8 bytes fits (omega (arith, long))) in
    let to16 = joined 12 4 bytes (codes "SRL1" ++ be16 1 ++ be16 1 ++ be32 h.dbid) (be32 h.seq) to12
    (spelled4 12 bytes fits (omega (arith, long))) in
    let to24 = joined 16 8 bytes (codes "SRL1" ++ be16 1 ++ be16 1 ++ be32 h.dbid ++ be32 h.seq) (be64 h.first) to16
    (spelled8 16 bytes fits (omega (arith, long))) in
    let to32 =
    joined 24 8 bytes (codes "SRL1" ++ be16 1 ++ be16 1 ++ be32 h.dbid ++ be32 h.seq ++ be64 h.first) (be64 h.next) to24
    (spelled8 24 bytes fits (omega (arith, long))) in
    let to36 =
    joined 32 4 bytes (codes "SRL1" ++ be16 1 ++ be16 1 ++ be32 h.dbid ++ be32 h.seq ++ be64 h.first ++ be64 h.next)
    (be32 h.count) to32
    (spelled4 32 bytes fits (omega (arith, long))) in
    joined 36 4 bytes (codes "SRL1" ++ be16 1 ++ be16 1 ++ be32 h.dbid ++ be32 h.seq ++ be64 h.first ++ be64 h.next ++
    be32 h.count) (be32 0) to36
    (spelled4 36 bytes fits (omega (arith, long)) ∙ ap be32 p.reserved)

pub below32 : (bytes : List ℕ) → IsBytes bytes → from_be_bytes w32 bytes < 2 ^ 32
below32 bytes fits = omega (arith, fits 0, fits 1, fits 2, fits 3)

pub below64 : (bytes : List ℕ) → IsBytes bytes → from_be_bytes w64 bytes < 2 ^ 64
below64 bytes fits = omega (arith, fits 0, fits 1, fits 2, fits 3, fits 4, fits 5, fits 6, fits 7)

pub header_fits : (bytes : List ℕ) → IsBytes bytes → IsHeader (header_in bytes)
header_fits bytes fits = record {
  seq = below32 (drop 12 bytes) (drop_fits 12 bytes fits);
  dbid = below32 (drop 8 bytes) (drop_fits 8 bytes fits);
  first = below64 (drop 16 bytes) (drop_fits 16 bytes fits);
  next = below64 (drop 24 bytes) (drop_fits 24 bytes fits);
  count = below32 (drop 32 bytes) (drop_fits 32 bytes fits);
}
