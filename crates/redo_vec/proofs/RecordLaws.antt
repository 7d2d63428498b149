-- Vectors and records: what is read is spelled so, and what is spelled so is read; what the cutter takes.
use Rattle.std.proofs.Common.{◌≡◌, ℕ, zero, suc, ◌+◌, ◌^◌, ◌≤◌, Bool, true, false, List, [], ◌∷◌, ◌++◌, length, take, drop, Result, Ok, Err, Option, Some, None, refl, sym, ap, subst, ◌∙◌, arith, inl, inr}
use Rattle.std.specs.Prelude.{◌==◌, nat_lt, IfOk, if◌then◌else◌}
use Rattle.std.specs.Int.{Width, w16, w32, w64, byte_len, from_be_bytes}
use Rattle.std.specs.List.{flat_map}
use Rattle.std.proofs.lemmas.Bool.{ltb-false, le-ltb, eqb-true, ne_eqb}
use Rattle.std.proofs.lemmas.List.{length-drop, append-nil, nil_from_length, drop-drop, take_all}
use Rattle.rl_value.specs.declared.cause.CutFault.{CutFault}
use Rattle.rl_value.specs.Outcome.{refused_by}
use Rattle.redo_vec.specs.declared.change.Change.{Change}
use Rattle.redo_vec.specs.declared.change.Op.{Op}
use Rattle.redo_vec.specs.declared.change.Op.TheVariants.{Insert, Update, Delete}
use Rattle.redo_vec.specs.declared.vector.Vector.{Vector}
use Rattle.redo_vec.specs.declared.vector.Vector.TheVariants as vectors
use Rattle.redo_vec.specs.declared.redo_rec.RedoRec.{RedoRec}
use Rattle.redo_vec.specs.declared.fault.DecodeFault.{DecodeFault}
use Rattle.redo_vec.specs.Spelling.{be16, be32, be64, xid, op, change, vector, record_bytes}
use Rattle.redo_vec.specs.Ranges.{IsXid, IsChange, IsVector, IsRecord}
use Rattle.redo_vec.specs.Reading.{items_from, number_at, byte_at, xid_at, change_at, table_at, of, vector_at, vectors_from, record_at}
use Rattle.redo_vec.specs.Given.{Gives}
use Rattle.redo_vec.specs.Cutting.{number_in, first_record}
use Rattle.redo_vec.proofs.Steps.{bind_ok, passed, held, chosen, ok_is, neither, items_have}
use Rattle.redo_vec.proofs.Takes.{IsBytes, Takes, Takes-then, Sound, Whole, wide16, wide32, wide64, number_sound, number_whole, byte_sound, items_sound, items_whole, chain_each, each_chain}
use Rattle.redo_vec.proofs.ChangeLaws.{xid_sound, xid_whole, change_sound, change_whole}
use Rattle.redo_vec.proofs.ChangeLaws.{body as change_body}
use Rattle.redo_vec.proofs.TableLaws.{table_sound, table_whole}
use Rattle.redo_vec.proofs.TableLaws.{body as table_body}

-- ---- vectors

-- what is left when a body is put under its vector
abbrev Read_as : List ℕ → Vector × List ℕ → Type 0
Read_as bytes y = Takes bytes (vector y.0) y.1 × IsVector y.0

-- a vector that is a kind and a transaction id
xid_vector : (n k : ℕ) (make : _ → Vector) → ((i : _) → vector (make i) ≡ k ∷ xid i) → ((i : _) → IsXid i → IsVector (make i))
    → (bytes rest : List ℕ) (x : Vector × List ℕ) → Takes bytes (k ∷ []) rest → of make (xid_at n rest) ≡ Ok x → Read_as bytes x
xid_vector n k make spelled fits bytes rest x t e =
    let a = bind_ok (xid_at n rest) _ x e in
    let ta = xid_sound n rest a.0 t.rest_fits a.1 in
    let takes : Takes bytes (k ∷ xid a.0.0) a.0.1 = Takes-then bytes (k ∷ []) rest (xid a.0.0) a.0.1 t ta.0 in
    subst (Read_as bytes) (ok_is (make a.0.0, a.0.1) x a.2)
    (subst (λ (s : List ℕ). Takes bytes s a.0.1) (sym (spelled a.0.0)) takes, fits a.0.0 ta.1)

change_spelled : (c : Change) → change c ≡ op c.op ∷ change_body c
change_spelled c = refl

change_vector : (n : ℕ) (o : Op) (bytes rest : List ℕ) (x : Vector × List ℕ) → Takes bytes (op o ∷ []) rest →
    of vectors.Change (change_at o n rest) ≡ Ok x → Read_as bytes x
change_vector n o bytes rest x t e =
    let a = bind_ok (change_at o n rest) _ x e in
    let ta = change_sound o n rest a.0 t.rest_fits a.1 in
    let takes : Takes bytes (op o ∷ change_body a.0.0) a.0.1 =
    Takes-then bytes (op o ∷ []) rest (change_body a.0.0) a.0.1 t ta.0 in
    let named : Takes bytes (op a.0.0.op ∷ change_body a.0.0) a.0.1 =
    subst (λ (p : Op). Takes bytes (op p ∷ change_body a.0.0) a.0.1) (sym ta.2) takes in
    subst (Read_as bytes) (ok_is (vectors.Change a.0.0, a.0.1) x a.2) (named, ta.1)

tagged : (bytes rest : List ℕ) (t k : ℕ) → (t == k) ≡ true → Takes bytes (t ∷ []) rest → Takes bytes (k ∷ []) rest
tagged bytes rest t k e p = subst (λ (m : ℕ). Takes bytes (m ∷ []) rest) (eqb-true _ _ e) p

pub vector_sound : (n : ℕ) → Sound (vector_at n) vector IsVector
unfolding vector_at
vector_sound n bytes x ok e =
    let a = bind_ok (byte_at n bytes) _ x e in
    let ta = (byte_sound n bytes a.0 ok a.1).0 in
    elim (chosen (a.0.0 == 1) _ _ (Ok x) a.2) [
      | inl h ↦ xid_vector n 1 vectors.Start (λ i. refl) (λ i f. f) bytes a.0.1 x (tagged bytes a.0.1 a.0.0 1 h.0 ta) h.1
      | inr h1 ↦ elim (chosen (a.0.0 == 2) _ _ (Ok x) h1.1) [
        | inl h ↦ change_vector n Insert bytes a.0.1 x (tagged bytes a.0.1 a.0.0 2 h.0 ta) h.1
        | inr h2 ↦ elim (chosen (a.0.0 == 3) _ _ (Ok x) h2.1) [
          | inl h ↦ change_vector n Update bytes a.0.1 x (tagged bytes a.0.1 a.0.0 3 h.0 ta) h.1
          | inr h3 ↦ elim (chosen (a.0.0 == 4) _ _ (Ok x) h3.1) [
            | inl h ↦ change_vector n Delete bytes a.0.1 x (tagged bytes a.0.1 a.0.0 4 h.0 ta) h.1
            | inr h4 ↦ elim (chosen (a.0.0 == 5) _ _ (Ok x) h4.1) [
              | inl h ↦ xid_vector n 5 vectors.Undo (λ i. refl) (λ i f. f) bytes a.0.1 x (tagged bytes a.0.1 a.0.0 5 h.0 ta) h.1
              | inr h5 ↦ elim (chosen (a.0.0 == 6) _ _ (Ok x) h5.1) [
                | inl h ↦ xid_vector n 6 vectors.Commit (λ i. refl) (λ i f. f) bytes a.0.1 x
                    (tagged bytes a.0.1 a.0.0 6 h.0 ta) h.1
                | inr h6 ↦ elim (chosen (a.0.0 == 7) _ _ (Ok x) h6.1) [
                  | inl h ↦ xid_vector n 7 vectors.Rollback (λ i. refl) (λ i f. f) bytes a.0.1 x
                      (tagged bytes a.0.1 a.0.0 7 h.0 ta) h.1
                  | inr h7 ↦ elim (chosen (a.0.0 == 8) _ _ (Ok x) h7.1) [
                    | inl h ↦
                        let t = bind_ok (table_at n a.0.1) _ x h.1 in
                        let tt8 = table_sound n a.0.1 t.0 ta.rest_fits t.1 in
                        let takes : Takes bytes (8 ∷ table_body t.0.0) t.0.1 =
                        Takes-then bytes (8 ∷ []) a.0.1 (table_body t.0.0) t.0.1 (tagged bytes a.0.1 a.0.0 8 h.0 ta) tt8.0 in
                        subst (Read_as bytes) (ok_is (vectors.Table t.0.0, t.0.1) x t.2) (takes, tt8.1)
                    | inr h8 ↦
                        let g = held (a.0.0 == 9) _ (Ok (vectors.DictEnd, a.0.1)) x h8.1 in
                        subst (Read_as bytes) (ok_is (vectors.DictEnd, a.0.1) x g.1) (tagged bytes a.0.1 a.0.0 9 g.0 ta, tt)
                  ]
                ]
              ]
            ]
          ]
        ]
      ]
    ]

change_read : (n : ℕ) (o : Op) (c : Change) (rest : List ℕ) → c.op ≡ o → IsChange c →
    change_at o n (change_body c ++ rest) ≡ Ok (c, rest)
change_read n o c rest e ok = subst (λ (p : Op). change_at p n (change_body c ++ rest) ≡ Ok (c, rest)) e
    (change_whole n c rest ok)

change_as : (n : ℕ) (o : Op) (c : Change) (rest : List ℕ) → c.op ≡ o → IsChange c →
    vector_at n (op o ∷ (change_body c ++ rest)) ≡ Ok (vectors.Change c, rest)
unfolding vector_at
change_as n Insert c rest e ok = rw (change_read n Insert c rest e ok) refl
change_as n Update c rest e ok = rw (change_read n Update c rest e ok) refl
change_as n Delete c rest e ok = rw (change_read n Delete c rest e ok) refl

pub vector_whole : (n : ℕ) → Whole (vector_at n) vector IsVector
unfolding vector_at
vector_whole n (vectors.Start i) rest ok = rw (xid_whole n i rest ok) refl
vector_whole n (vectors.Change c) rest ok = change_as n c.op c rest refl ok
vector_whole n (vectors.Undo i) rest ok = rw (xid_whole n i rest ok) refl
vector_whole n (vectors.Commit i) rest ok = rw (xid_whole n i rest ok) refl
vector_whole n (vectors.Rollback i) rest ok = rw (xid_whole n i rest ok) refl
vector_whole n (vectors.Table t) rest ok = rw (table_whole n t rest ok) refl
vector_whole n vectors.DictEnd rest ok = refl

-- ---- what the cutter takes

-- these bytes are one record to the cutter
pub record IsCut (bytes : List ℕ) : Type 0 where
  pub least : 15 ≤ length bytes
  pub most : length bytes ≤ 65536
  pub size : number_in w32 0 bytes ≡ length bytes
  pub some : 1 ≤ number_in w16 12 bytes
  pub few : number_in w16 12 bytes ≤ 255

took : {A : Type 0} (t : Bool) (f : CutFault) (o : Option CutFault) (x y : A) → refused_by (if t then Some f else o) x ≡ Ok y →
    (t ≡ false) × (refused_by o x ≡ Ok y)
took true f o x y e = absurd cc
took false f o x y e = (refl, e)

took_all : {A : Type 0} (x y : A) → refused_by {E = CutFault} None x ≡ Ok y → x ≡ y
took_all x y e = cc

nonzero : (k : ℕ) → (k == 0) ≡ false → 1 ≤ k
nonzero zero e = absurd cc
nonzero (suc k) e = omega arith

pub cut_of : (bytes : List ℕ) → first_record bytes ≡ Ok (bytes, []) → IsCut bytes
cut_of bytes e =
    let a = took _ _ _ (take (number_in w32 0 bytes) bytes, drop (number_in w32 0 bytes) bytes) (bytes, []) e in
    let b = took _ _ _ (take (number_in w32 0 bytes) bytes, drop (number_in w32 0 bytes) bytes) (bytes, []) a.1 in
    let c = took _ _ _ (take (number_in w32 0 bytes) bytes, drop (number_in w32 0 bytes) bytes) (bytes, []) b.1 in
    let d = took _ _ _ (take (number_in w32 0 bytes) bytes, drop (number_in w32 0 bytes) bytes) (bytes, []) c.1 in
    let whole = took_all (take (number_in w32 0 bytes) bytes, drop (number_in w32 0 bytes) bytes) (bytes, []) d.1 in
    let limits = neither (nat_lt (number_in w32 0 bytes) 15) (nat_lt 65536 (number_in w32 0 bytes)) b.0 in
    let counts = neither (number_in w16 12 bytes == 0) (nat_lt 255 (number_in w16 12 bytes)) d.0 in
    let low : 15 ≤ number_in w32 0 bytes = ltb-false _ _ limits.0 in
    let high : number_in w32 0 bytes ≤ 65536 = ltb-false _ _ limits.1 in
    let long : number_in w32 0 bytes ≤ length bytes = ltb-false _ _ c.0 in
    let left : drop (number_in w32 0 bytes) bytes ≡ [] = ap (λ (p : List ℕ × List ℕ). p.1) whole in
    let none : length (drop (number_in w32 0 bytes) bytes) ≡ 0 = ap length left in
    let same : number_in w32 0 bytes ≡ length bytes = omega (arith, length-drop (number_in w32 0 bytes) bytes) in
    record { least = omega arith; most = omega arith; size = same; some = nonzero _ counts.0; few = ltb-false _ _ counts.1 }

-- ---- records

number_is : (w : Width) (n : ℕ) (bytes : List ℕ) (x : ℕ × List ℕ) → number_at w n bytes ≡ Ok x →
    (from_be_bytes w (take (byte_len w) bytes) ≡ x.0) × (drop (byte_len w) bytes ≡ x.1)
number_is w n bytes x e =
    let g = passed (nat_lt (length bytes) (byte_len w)) _
    (Ok (from_be_bytes w (take (byte_len w) bytes), drop (byte_len w) bytes)) x e in
    let is = ok_is (from_be_bytes w (take (byte_len w) bytes), drop (byte_len w) bytes) x g.1 in
    (ap (λ (y : ℕ × List ℕ). y.0) is, ap (λ (y : ℕ × List ℕ). y.1) is)

front2 : (xs : List ℕ) → from_be_bytes w16 (take 2 xs) ≡ from_be_bytes w16 xs
front2 [] = refl
front2 (a ∷ []) = refl
front2 (a ∷ b ∷ xs) = refl

front4 : (xs : List ℕ) → from_be_bytes w32 (take 4 xs) ≡ from_be_bytes w32 (drop 0 xs)
front4 [] = refl
front4 (a ∷ []) = refl
front4 (a ∷ b ∷ []) = refl
front4 (a ∷ b ∷ c ∷ []) = refl
front4 (a ∷ b ∷ c ∷ d ∷ xs) = refl

-- the numbers of vectors that the cutter and the decoder read are one
count_is : (n : ℕ) (bytes : List ℕ) (a b c : ℕ × List ℕ) → number_at w32 n bytes ≡ Ok a → number_at w64 n a.1 ≡ Ok b →
    number_at w16 n b.1 ≡ Ok c → number_in w16 12 bytes ≡ c.0
count_is n bytes a b c p q r =
    let pa = number_is w32 n bytes a p in
    let pb = number_is w64 n a.1 b q in
    let pc = number_is w16 n b.1 c r in
    let there : drop 12 bytes ≡ b.1 = sym (drop-drop 8 4 bytes) ∙ ap (drop 8) pa.1 ∙ pb.1 in
    ap (from_be_bytes w16) there ∙ sym (front2 b.1) ∙ pc.0

pub counted : (n : ℕ) (bytes : List ℕ) (a b c : ℕ × List ℕ) → IsCut bytes → number_at w32 n bytes ≡ Ok a →
    number_at w64 n a.1 ≡ Ok b → number_at w16 n b.1 ≡ Ok c → (1 ≤ c.0) × (c.0 ≤ 255)
counted n bytes a b c cut p q r = let e = count_is n bytes a b c p q r in (rw (← e) cut.some, rw (← e) cut.few)

pub record_sound : (bytes : List ℕ) (r : RedoRec) → IsBytes bytes → IsCut bytes → record_at bytes ≡ Ok r → IsRecord r ×
    (bytes ≡ record_bytes r)
unfolding record_at vectors_from
record_sound bytes r ok cut e =
    let a = bind_ok (number_at w32 (length bytes) bytes) _ r e in
    let b = bind_ok (number_at w64 (length bytes) a.0.1) _ r a.2 in
    let c = bind_ok (number_at w16 (length bytes) b.0.1) _ r b.2 in
    let d = bind_ok (items_from (λ _. vector_at (length bytes)) (λ _. 0) c.0.0 0 c.0.1) _ r c.2 in
    let g = held (length d.0.1 == 0) _ (Ok (record { scn = b.0.0; vectors = d.0.0 })) r d.2 in
    let ta = number_sound w32 (2 ^ 32) wide32 (length bytes) bytes a.0 ok a.1 in
    let tb = number_sound w64 (2 ^ 64) wide64 (length bytes) a.0.1 b.0 ta.0.rest_fits b.1 in
    let tc = number_sound w16 (2 ^ 16) wide16 (length bytes) b.0.1 c.0 tb.0.rest_fits c.1 in
    let td = items_sound (λ _. vector_at (length bytes)) (λ _. 0) vector (λ _. IsVector)
    (λ u t y k h. vector_sound (length bytes) t y k h) c.0.0 0 c.0.1 d.0 tc.0.rest_fits d.1 in
    let limits = counted (length bytes) bytes a.0 b.0 c.0 cut a.1 b.1 c.1 in
    let nothing : d.0.1 ≡ [] = nil_from_length d.0.1 (eqb-true _ _ g.0) in
    let found = d.0.0 in
    let body = flat_map vector d.0.0 in
    let two = Takes-then bytes (be32 a.0.0) a.0.1 (be64 b.0.0) b.0.1 ta.0 tb.0 in
    let three = Takes-then bytes (be32 a.0.0 ++ be64 b.0.0) b.0.1 (be16 c.0.0) c.0.1 two tc.0 in
    let all = Takes-then bytes (be32 a.0.0 ++ be64 b.0.0 ++ be16 c.0.0) c.0.1 (flat_map vector d.0.0) d.0.1 three td.0 in
    let whole : bytes ≡ be32 a.0.0 ++ be64 b.0.0 ++ be16 c.0.0 ++ flat_map vector d.0.0 =
    all.parts ∙ ap (λ (t : List ℕ). (be32 a.0.0 ++ be64 b.0.0 ++ be16 c.0.0 ++ flat_map vector d.0.0) ++ t) nothing ∙
    append-nil (be32 a.0.0 ++ be64 b.0.0 ++ be16 c.0.0 ++ flat_map vector d.0.0) in
    let long : length bytes ≡ 14 + length (flat_map vector d.0.0) = (let h = ap length whole in omega (arith, h)) in
    let size : a.0.0 ≡ 14 + length (flat_map vector d.0.0) =
    sym (number_is w32 (length bytes) bytes a.0 a.1).0 ∙ front4 bytes ∙ cut.size ∙ long in
    let made : RedoRec = record { scn = b.0.0; vectors = d.0.0 } in
    let spelled : bytes ≡ record_bytes made = whole ∙ ap (λ (k : ℕ). be32 k ++ be64 b.0.0 ++ be16 c.0.0 ++ flat_map vector d.0.0)
    size ∙ ap (λ (k : ℕ). be32 (14 + length (flat_map vector d.0.0)) ++ be64 b.0.0 ++ be16 k ++ flat_map vector d.0.0)
    (sym td.1.1) in
    let some : 1 ≤ length d.0.0 = rw td.1.1 limits.0 in
    let most : length d.0.0 ≤ 255 = rw td.1.1 limits.1 in
    let short : 14 + length (flat_map vector d.0.0) ≤ 65536 = (let m = cut.most in omega (arith, m, long)) in
    subst (λ (y : RedoRec). IsRecord y × (bytes ≡ record_bytes y)) (ok_is made r g.1)
    (record { scn = tb.1; some = some; most = most; vectors = chain_each IsVector d.0.0 0 td.1.0; size = short }, spelled)

pub record_whole : (r : RedoRec) → IsRecord r → record_at (record_bytes r) ≡ Ok r
unfolding record_at vectors_from
record_whole r ok =
    let n = length (record_bytes r) in
    let body = flat_map vector r.vectors in
    let short = ok.size in
    let few = ok.most in
    let read : items_from (λ _. vector_at (length (record_bytes r))) (λ _. 0) (length r.vectors) 0 (flat_map vector r.vectors) ≡
    Ok (r.vectors, []) =
    ap (items_from (λ _. vector_at (length (record_bytes r))) (λ _. 0) (length r.vectors) 0)
    (sym (append-nil (flat_map vector r.vectors)))
    ∙ items_whole (λ _. vector_at (length (record_bytes r))) (λ _. 0) vector (λ _. IsVector)
    (λ u v t h. vector_whole (length (record_bytes r)) v t h) r.vectors 0 [] (each_chain IsVector r.vectors 0 ok.vectors) in
    rw (
      number_whole w32 (2 ^ 32) wide32 (length (record_bytes r)) (14 + length (flat_map vector r.vectors))
          (be64 r.scn ++ (be16 (length r.vectors) ++ flat_map vector r.vectors)) (omega arith),
      number_whole w64 (2 ^ 64) wide64 (length (record_bytes r)) r.scn
          (be16 (length r.vectors) ++ flat_map vector r.vectors) ok.scn,
      number_whole w16 (2 ^ 16) wide16 (length (record_bytes r)) (length r.vectors) (flat_map vector r.vectors) (omega arith),
      read,
    ) refl

pub is_found : (bytes : List ℕ) (r : Result RedoRec DecodeFault) → IsBytes bytes → IsCut bytes →
    Gives (λ x. x) r (record_at bytes) → IfOk r (λ v. IsRecord v × (bytes ≡ record_bytes v))
is_found bytes (Ok v) ok cut given = record_sound bytes v ok cut given
is_found bytes (Err f) ok cut given = tt

-- a spelling is of one record
pub one_record : (r s : RedoRec) → IsRecord r → IsRecord s → record_bytes r ≡ record_bytes s → r ≡ s
one_record r s p q e = ok_is r s (sym (record_whole r p) ∙ ap record_at e ∙ record_whole s q)

pub vectors_many : (n count : ℕ) (bytes : List ℕ) (x : List Vector × List ℕ) →
    items_from (λ _. vector_at n) (λ _. 0) count 0 bytes ≡ Ok x → length x.0 ≡ count
vectors_many n count bytes x e = (items_have (λ _. vector_at n) (λ _. 0) (λ _ _. Unit {0}) (λ u t y h. tt) count 0 bytes x e).1

-- a record of the length that it tells, and of a count within the limits, is one record to the cutter
pub cut_from : (bytes : List ℕ) → IsCut bytes → first_record bytes ≡ Ok (bytes, [])
cut_from bytes cut =
    let least = cut.least in
    let most = cut.most in
    let size : number_in w32 0 bytes ≡ length bytes = cut.size in
    let some = cut.some in
    let few = cut.few in
    let long : nat_lt (length bytes) 4 ≡ false = le-ltb _ _ (omega arith) in
    let low : nat_lt (number_in w32 0 bytes) 15 ≡ false = le-ltb _ _ (omega arith) in
    let high : nat_lt 65536 (number_in w32 0 bytes) ≡ false = le-ltb _ _ (omega arith) in
    let whole : nat_lt (length bytes) (number_in w32 0 bytes) ≡ false = le-ltb _ _ (omega arith) in
    let counted : (number_in w16 12 bytes == 0) ≡ false = ne_eqb _ _ (omega arith) in
    let short : nat_lt 255 (number_in w16 12 bytes) ≡ false = le-ltb _ _ few in
    let took : take (number_in w32 0 bytes) bytes ≡ bytes = take_all (number_in w32 0 bytes) bytes (omega arith) in
    let none : drop (number_in w32 0 bytes) bytes ≡ [] =
    nil_from_length _ (omega (arith, length-drop (number_in w32 0 bytes) bytes)) in
    rw (long, low, high, whole, counted, short, took, none) refl
