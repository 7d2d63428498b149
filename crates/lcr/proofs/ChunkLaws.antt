-- The bytes of a chunk: what is read is spelled so, and what is spelled so is read.
use Rattle.std.proofs.Common.{◌≡◌, ℕ, zero, suc, ◌+◌, ◌-◌, ◌<◌, ◌≤◌, Bool, true, false, cond, ltb, List, [], ◌∷◌, ◌++◌, length, map, get_or, take, drop, Some, None, Result, Ok, Err, refl, sym, ap, subst, ◌∙◌, append_assoc, arith}
use Rattle.std.specs.Int.{Width, w64, byte_len, from_be_bytes, to_be_bytes}
use Rattle.std.specs.List.{flat_map}
use Rattle.std.proofs.lemmas.Bool.{ltb-false, le-ltb}
use Rattle.std.proofs.lemmas.List.{append-nil, map-append, take_at, drop_at, take-append-drop, length-append, length-take}
use Rattle.std.proofs.lemmas.List.Concat.{flat_map-cons}
use Rattle.std.proofs.lemmas.Nat.{be_bytes_8, from_be_bytes-to_be_bytes_8}
use Rattle.rl_value.specs.declared.pos.Pos.{Pos}
use Rattle.redo_vec.specs.declared.fault.DecodeFault.{DecodeFault}
use Rattle.redo_vec.specs.declared.fault.DecodeFault.TheVariants as faults
use Rattle.redo_vec.specs.declared.vector.Vector.{Vector}
use Rattle.redo_vec.specs.declared.vector.Vector.TheVariants as vectors
use Rattle.redo_vec.specs.Given.{Fails}
use Rattle.redo_vec.specs.Ranges.{AreBytes, IsVector}
use Rattle.redo_vec.specs.Reading.{◌>>=◌, Fault, Read, byte_at, number_at, vector_at, with_front}
use Rattle.redo_vec.specs.Spelling.{be64, change, vector}
use Rattle.redo_spec.specs.History.{Placed}
use Rattle.lcr.specs.declared.change_record.Lcr.{Lcr}
use Rattle.lcr.specs.Chunks.{placed, is_chunk}
use Rattle.lcr.specs.Spilled.{placed_bytes, chunk_bytes, IsPlaced, ArePlaced, only_change, pos_at, placed_at, placed_from, chunk_at, if_chunk, chunk_in}

-- ---- the loop

regroup : (front : List Placed) (p : Placed) (read : Read (List Placed)) →
    with_front front (read >>= λ y. Ok (p ∷ y.0, y.1)) ≡ with_front (front ++ p ∷ []) read
regroup front p (Ok y) = ap (λ (ps : List Placed). Ok (ps, y.1)) (sym (append_assoc front (p ∷ []) y.0))
regroup front p (Err f) = refl

pub goes_on : (front : List Lcr) (count i : ℕ) (bytes : List ℕ) (l : Lcr) (after : List ℕ) (total : Read (List Placed)) → i < count →
    placed_at bytes ≡ Ok (placed l, after) → with_front (map placed front) (placed_from (count - i) bytes) ≡ total →
    with_front (map placed (front ++ l ∷ [])) (placed_from (count - (i + 1)) after) ≡ total
goes_on front count i bytes l after total lt h so_far =
    let k : count - i ≡ suc (count - (i + 1)) = omega arith in
    let one : with_front (map placed front) (placed_from (count - i) bytes) ≡
    with_front (map placed front ++ placed l ∷ []) (placed_from (count - (i + 1)) after) =
    rw (k, h) (regroup (map placed front) (placed l) (placed_from (count - (i + 1)) after)) in
    ap (λ (ps : List Placed). with_front ps (placed_from (count - (i + 1)) after)) (map-append placed front (l ∷ [])) ∙ sym one ∙ so_far

pub ends : (e : DecodeFault) (front : List Lcr) (count i : ℕ) (bytes : List ℕ) (total : Read (List Placed)) → i < count →
    Fails e (placed_at bytes) → with_front (map placed front) (placed_from (count - i) bytes) ≡ total → Fails e total
ends faults.Memory front count i bytes total lt h so_far = tt
ends (faults.Vector f p) front count i bytes total lt h so_far =
    let k : count - i ≡ suc (count - (i + 1)) = omega arith in
    let one : with_front (map placed front) (placed_from (count - i) bytes) ≡ Err (record { fault = f; place = p }) =
    rw (k, h) refl in
    sym so_far ∙ one

-- ---- steps of a reading

bind_ok : {A B : Type 0} (r : Result A Fault) (f : A → Result B Fault) (y : B) → (r >>= f) ≡ Ok y →
    (x : A) × ((r ≡ Ok x) × (f x ≡ Ok y))
bind_ok (Ok x) f y e = (x, (refl, e))
bind_ok (Err d) f y e = absurd (cc)

passed : {A : Type 0} (b : Bool) (f : Fault) (r : Result A Fault) (y : A) → cond b (Err f) r ≡ Ok y → (b ≡ false) × (r ≡ Ok y)
passed true f r y e = absurd (cc)
passed false f r y e = (refl, e)

abbrev done : {A : Type 0} → A → Result A Fault
done x = Ok x

ok_is : {A : Type 0} (x y : A) → done x ≡ done y → x ≡ y
ok_is x y e = cc

-- ---- bytes

are_front : (xs ys : List ℕ) → AreBytes (xs ++ ys) → AreBytes xs
are_front [] ys a = tt
are_front (x ∷ xs) ys a = (a.0, are_front xs ys a.1)

are_rest : (xs ys : List ℕ) → AreBytes (xs ++ ys) → AreBytes ys
are_rest [] ys a = a
are_rest (x ∷ xs) ys a = are_rest xs ys a.1

each_fits : (bytes : List ℕ) → AreBytes bytes → (i : ℕ) → get_or bytes i 0 < 256
each_fits [] a i = omega arith
each_fits (b ∷ bytes) a zero = a.0
each_fits (b ∷ bytes) a (suc i) = each_fits bytes a.1 i

-- a number
number_whole : (w : Width) (n : ℕ) (rest : List ℕ) → length (to_be_bytes w n) ≡ byte_len w →
    from_be_bytes w (to_be_bytes w n) ≡ n → number_at w 0 (to_be_bytes w n ++ rest) ≡ Ok (n, rest)
number_whole w n rest len again =
    let long : ltb (length (to_be_bytes w n ++ rest)) (byte_len w) ≡ false =
    le-ltb _ _ (omega (arith, length-append (to_be_bytes w n) rest, len)) in
    rw (long, take_at (to_be_bytes w n) rest (byte_len w) len, drop_at (to_be_bytes w n) rest (byte_len w) len, again) refl

abbrev SpellsBack : Width → Type 0
SpellsBack w = (front : List ℕ) → length front ≡ byte_len w → AreBytes front → to_be_bytes w (from_be_bytes w front) ≡ front

number_sound : (w : Width) → SpellsBack w → (bytes : List ℕ) (x : ℕ × List ℕ) → AreBytes bytes → number_at w 0 bytes ≡ Ok x →
    bytes ≡ to_be_bytes w x.0 ++ x.1
number_sound w spells bytes x are e =
    let front = take (byte_len w) bytes in
    let rest = drop (byte_len w) bytes in
    let g = passed (ltb (length bytes) (byte_len w)) _ (Ok (from_be_bytes w front, rest)) x e in
    let long : byte_len w ≤ length bytes = ltb-false _ _ g.0 in
    let count : length front ≡ byte_len w = omega (arith, length-take (byte_len w) bytes) in
    let all : AreBytes (front ++ rest) = subst AreBytes (sym (take-append-drop (byte_len w) bytes)) are in
    let is : to_be_bytes w (from_be_bytes w front) ≡ front = spells front count (are_front front rest all) in
    subst (λ (y : ℕ × List ℕ). bytes ≡ to_be_bytes w y.0 ++ y.1) (ok_is (from_be_bytes w front, rest) x g.1)
    (sym (take-append-drop (byte_len w) bytes) ∙ ap (λ (t : List ℕ). t ++ rest) (sym is))

spells_8 : SpellsBack w64
spells_8 front len are = be_bytes_8 front _ len (each_fits front are) refl

byte_sound : (bytes : List ℕ) (x : ℕ × List ℕ) → byte_at 0 bytes ≡ Ok x → bytes ≡ x.0 ∷ x.1
byte_sound [] x e = absurd (cc)
byte_sound (b ∷ bytes) x e = subst (λ (y : ℕ × List ℕ). b ∷ bytes ≡ y.0 ∷ y.1) (ok_is (b, bytes) x e) refl

-- ---- one change

abbrev pub ReadsVectors : Type 0
ReadsVectors = (size : ℕ) (v : Vector) (rest : List ℕ) → IsVector v → vector_at size (vector v ++ rest) ≡ Ok (v, rest)

abbrev pub SpellsVectors : Type 0
SpellsVectors = (size : ℕ) (bytes : List ℕ) (found : Vector × List ℕ) → AreBytes bytes → vector_at size bytes ≡ Ok found →
    bytes ≡ vector found.0 ++ found.1

placed_whole : ReadsVectors → (p : Placed) (rest : List ℕ) → IsPlaced p → placed_at (placed_bytes p ++ rest) ≡ Ok (p, rest)
placed_whole reads p rest ok =
    let number : number_at w64 0 (be64 p.0.rec ++ p.0.vec ∷ (change p.1 ++ rest)) ≡ Ok (p.0.rec, p.0.vec ∷ (change p.1 ++ rest)) =
    number_whole w64 p.0.rec (p.0.vec ∷ (change p.1 ++ rest)) refl (from_be_bytes-to_be_bytes_8 p.0.rec ok.rec) in
    let pos : pos_at (be64 p.0.rec ++ p.0.vec ∷ (change p.1 ++ rest)) ≡ Ok (p.0, change p.1 ++ rest) =
    ap (λ (r : Read ℕ). r >>= λ rec. byte_at 0 rec.1 >>= λ vec. Ok (record { rec = rec.0; vec = vec.0 }, vec.1)) number in
    ap placed_at (append_assoc (be64 p.0.rec) (p.0.vec ∷ change p.1) rest)
    ∙ ap (λ (r : Read Pos). r >>= λ at. vector_at 0 at.1 >>= λ v. only_change at.0 v.0 v.1) pos
    ∙ ap (λ (r : Read Vector). r >>= λ v. only_change p.0 v.0 v.1) (reads 0 (vectors.Change p.1) rest ok.change)

pub record IsChangeOf (at : Pos) (v : Vector) (rest : List ℕ) (x : Placed × List ℕ) : Type 0 where
  pub made : v ≡ vectors.Change x.0.1
  pub pos : at ≡ x.0.0
  pub left : rest ≡ x.1

change_of : (at : Pos) (v : Vector) (rest : List ℕ) (x : Placed × List ℕ) → only_change at v rest ≡ Ok x → IsChangeOf at v rest x
change_of at (vectors.Start i) rest x e = absurd (cc)
change_of at (vectors.Change c) rest x e =
    let same : ((at, c), rest) ≡ x = ok_is ((at, c), rest) x e in
    record {
      made = ap (λ (y : Placed × List ℕ). vectors.Change y.0.1) same;
      pos = ap (λ (y : Placed × List ℕ). y.0.0) same;
      left = ap (λ (y : Placed × List ℕ). y.1) same;
    }
change_of at (vectors.Undo i) rest x e = absurd (cc)
change_of at (vectors.Commit i) rest x e = absurd (cc)
change_of at (vectors.Rollback i) rest x e = absurd (cc)
change_of at (vectors.Table t) rest x e = absurd (cc)
change_of at vectors.DictEnd rest x e = absurd (cc)

pos_sound : (bytes : List ℕ) (x : Pos × List ℕ) → AreBytes bytes → pos_at bytes ≡ Ok x → bytes ≡ be64 x.0.rec ++ x.0.vec ∷ x.1
pos_sound bytes x are e =
    let a = bind_ok (number_at w64 0 bytes) _ x e in
    let first = number_sound w64 spells_8 bytes a.0 are a.1.0 in
    let b = bind_ok (byte_at 0 a.0.1) _ x a.1.1 in
    let second = byte_sound a.0.1 b.0 b.1.0 in
    subst (λ (y : Pos × List ℕ). bytes ≡ be64 y.0.rec ++ y.0.vec ∷ y.1)
    (ok_is (record { rec = a.0.0; vec = b.0.0 }, b.0.1) x b.1.1)
    (first ∙ ap (λ (t : List ℕ). be64 a.0.0 ++ t) second)

placed_sound : SpellsVectors → (bytes : List ℕ) (x : Placed × List ℕ) → AreBytes bytes → placed_at bytes ≡ Ok x →
    bytes ≡ placed_bytes x.0 ++ x.1
placed_sound spells bytes x are e =
    let a = bind_ok (pos_at bytes) _ x e in
    let at = pos_sound bytes a.0 are a.1.0 in
    let b = bind_ok (vector_at 0 a.0.1) _ x a.1.1 in
    let behind : AreBytes a.0.1 = (are_rest (be64 a.0.0.rec) (a.0.0.vec ∷ a.0.1) (subst AreBytes at are)).1 in
    let told = spells 0 a.0.1 b.0 behind b.1.0 in
    let is = change_of a.0.0 b.0.0 b.0.1 x b.1.1 in
    let spelled : a.0.1 ≡ change x.0.1 ++ x.1 =
    told ∙ ap (λ (v : Vector). vector v ++ b.0.1) is.made ∙ ap (λ (t : List ℕ). change x.0.1 ++ t) is.left in
    at
    ∙ ap (λ (t : List ℕ). be64 a.0.0.rec ++ a.0.0.vec ∷ t) spelled
    ∙ ap (λ (p : Pos). be64 p.rec ++ p.vec ∷ (change x.0.1 ++ x.1)) is.pos
    ∙ sym (append_assoc (be64 x.0.0.rec) (x.0.0.vec ∷ change x.0.1) x.1)

-- ---- all changes

from_whole : ReadsVectors → (ps : List Placed) (rest : List ℕ) → ArePlaced ps →
    placed_from (length ps) (flat_map placed_bytes ps ++ rest) ≡ Ok (ps, rest)
from_whole reads [] rest ok = refl
from_whole reads (p ∷ ps) rest ok =
    let regrouped : flat_map placed_bytes (p ∷ ps) ++ rest ≡ placed_bytes p ++ (flat_map placed_bytes ps ++ rest) =
    ap (λ (t : List ℕ). t ++ rest) (flat_map-cons placed_bytes p ps) ∙
    append_assoc (placed_bytes p) (flat_map placed_bytes ps) rest in
    ap (placed_from (suc (length ps))) regrouped
    ∙ rw (placed_whole reads p (flat_map placed_bytes ps ++ rest) ok.0, from_whole reads ps rest ok.1) refl

pub record IsSpelling (count : ℕ) (bytes : List ℕ) (x : List Placed × List ℕ) : Type 0 where
  pub parts : bytes ≡ flat_map placed_bytes x.0 ++ x.1
  pub many : length x.0 ≡ count

from_sound : SpellsVectors → (count : ℕ) (bytes : List ℕ) (x : List Placed × List ℕ) → AreBytes bytes →
    placed_from count bytes ≡ Ok x → IsSpelling count bytes x
from_sound spells zero bytes x are e =
    subst (IsSpelling zero bytes) (ok_is ([], bytes) x e) (record { parts = refl; many = refl })
from_sound spells (suc count) bytes x are e =
    let a = bind_ok (placed_at bytes) _ x e in
    let b = bind_ok (placed_from count a.0.1) _ x a.1.1 in
    let first = placed_sound spells bytes a.0 are a.1.0 in
    let behind : AreBytes a.0.1 = are_rest (placed_bytes a.0.0) a.0.1 (subst AreBytes first are) in
    let more = from_sound spells count a.0.1 b.0 behind b.1.0 in
    let all : bytes ≡ flat_map placed_bytes (a.0.0 ∷ b.0.0) ++ b.0.1 =
    first
    ∙ ap (λ (t : List ℕ). placed_bytes a.0.0 ++ t) more.parts
    ∙ sym (append_assoc (placed_bytes a.0.0) (flat_map placed_bytes b.0.0) b.0.1)
    ∙ ap (λ (t : List ℕ). t ++ b.0.1) (sym (flat_map-cons placed_bytes a.0.0 b.0.0)) in
    subst (IsSpelling (suc count) bytes) (ok_is (a.0.0 ∷ b.0.0, b.0.1) x b.1.1)
    (record { parts = all; many = ap suc more.many })

-- ---- the chunk

chunk_found : (ps : List Placed) (rest : List ℕ) → is_chunk ps ≡ true → rest ≡ [] → if_chunk (Ok (ps, rest)) ≡ Some ps
chunk_found ps [] is e = ap (λ t. cond t (Some ps) None) is
chunk_found ps (c ∷ rest) is e = absurd (cc)

pub chunk_whole : ReadsVectors → (ps : List Placed) → is_chunk ps ≡ true → ArePlaced ps → chunk_in (chunk_bytes ps) ≡ Some ps
chunk_whole reads ps is ok =
    let read : placed_from (length ps) (flat_map placed_bytes ps) ≡ Ok (ps, []) =
    ap (placed_from (length ps)) (sym (append-nil (flat_map placed_bytes ps))) ∙ from_whole reads ps [] ok in
    ap if_chunk read ∙ chunk_found ps [] is refl

pub record IsWhole (x : List Placed × List ℕ) (ps : List Placed) : Type 0 where
  pub same : x.0 ≡ ps
  pub ended : x.1 ≡ []

whole_of : (x : List Placed × List ℕ) (ps : List Placed) → if_chunk (Ok x) ≡ Some ps → IsWhole x ps
whole_of (qs, []) ps e =
    elim (is_chunk qs) as (λ b. cond b (Some qs) None ≡ Some ps → IsWhole (qs, []) ps) [
      | true ↦ λ h. record { same = cc; ended = refl }
      | false ↦ λ h. absurd (cc)
    ] e
whole_of (qs, b ∷ rest) ps e = absurd (cc)

spelled_by : SpellsVectors → (bytes : List ℕ) (ps : List Placed) (r : Read (List Placed)) → AreBytes bytes → chunk_at bytes ≡ r →
    if_chunk r ≡ Some ps → bytes ≡ chunk_bytes ps
spelled_by spells bytes ps (Err f) are e found = absurd (cc)
spelled_by spells [] ps (Ok x) are e found = absurd (cc)
spelled_by spells (b ∷ bytes) ps (Ok x) are e found =
    let is = from_sound spells b bytes x are.1 e in
    let w = whole_of x ps found in
    let rest : bytes ≡ flat_map placed_bytes ps =
    is.parts
    ∙ ap (λ (t : List ℕ). flat_map placed_bytes x.0 ++ t) w.ended
    ∙ append-nil (flat_map placed_bytes x.0)
    ∙ ap (flat_map placed_bytes) w.same in
    let count : b ≡ length ps = sym is.many ∙ ap length w.same in
    λ i. count i ∷ rest i

pub chunk_sound : SpellsVectors → (bytes : List ℕ) (ps : List Placed) → AreBytes bytes → chunk_in bytes ≡ Some ps →
    bytes ≡ chunk_bytes ps
chunk_sound spells bytes ps are found = spelled_by spells bytes ps (chunk_at bytes) are refl found
