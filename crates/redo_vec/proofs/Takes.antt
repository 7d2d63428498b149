-- What a reader takes from the front of bytes, and that it takes what was spelled: the two laws that each field
-- has, and their forms for numbers, bytes and lists of items.
use Rattle.std.proofs.Common.{◌≡◌, ℕ, zero, suc, ◌+◌, ◌^◌, ◌<◌, ◌≤◌, false, ltb, List, [], ◌∷◌, ◌++◌, length, get_or, take, drop, Ok, refl, sym, ap, subst, ◌∙◌, append_assoc, arith, inl, inr}
use Rattle.std.specs.Int.{Width, w16, w32, w64, byte_len, from_be_bytes, to_be_bytes}
use Rattle.std.specs.List.{flat_map, AllByRecursion}
use Rattle.std.proofs.lemmas.Bool.{cases_lt, ltb-false, le-ltb}
use Rattle.std.proofs.lemmas.List.{take_at, drop_at, take-append-drop, length-append, length-take, get_or-drop, get_or-take, get_or_past}
use Rattle.std.proofs.lemmas.List.Concat.{flat_map-cons}
use Rattle.std.proofs.lemmas.Nat.{be_bytes_2, be_bytes_4, be_bytes_8, from_be_bytes-to_be_bytes_2, from_be_bytes-to_be_bytes_4, from_be_bytes-to_be_bytes_8}
use Rattle.redo_vec.specs.Ranges.{AreBytes}
use Rattle.redo_vec.specs.Reading.{◌>>=◌, Read, items_from, number_at, byte_at, bytes_at}
use Rattle.redo_vec.proofs.Steps.{bind_ok, passed, ok_is, Chain}

abbrev pub IsBytes : List ℕ → Type 0
IsBytes bytes = (i : ℕ) → get_or bytes i 0 < 256

IsBytes-drop : (n : ℕ) (bytes : List ℕ) → IsBytes bytes → IsBytes (drop n bytes)
IsBytes-drop n bytes h i = rw get_or-drop (h (n + i))

IsBytes-take : (n : ℕ) (bytes : List ℕ) → IsBytes bytes → IsBytes (take n bytes)
IsBytes-take n bytes h i =
    elim (cases_lt i n) [
      | inl lt ↦ rw (get_or-take n bytes i 0 lt) (h i)
      | inr le ↦ rw (get_or_past (take n bytes) i 0 (omega (arith, length-take n bytes))) (omega arith)
    ]

IsBytes-rest : (b : ℕ) (bytes : List ℕ) → IsBytes (b ∷ bytes) → IsBytes bytes
IsBytes-rest b bytes h i = h (suc i)

are_bytes : (bytes : List ℕ) → IsBytes bytes → AreBytes bytes
are_bytes [] h = tt
are_bytes (b ∷ bytes) h = (h 0, are_bytes bytes (IsBytes-rest b bytes h))

pub bytes_fit : (bytes : List ℕ) → AreBytes bytes → IsBytes bytes
bytes_fit [] are i = omega arith
bytes_fit (b ∷ bytes) are zero = are.0
bytes_fit (b ∷ bytes) are (suc i) = bytes_fit bytes are.1 i

-- what a reader took from the front
pub record Takes (bytes text rest : List ℕ) : Type 0 where
  pub parts : bytes ≡ text ++ rest
  pub rest_fits : IsBytes rest

pub Takes-then : (a x b y c : List ℕ) → Takes a x b → Takes b y c → Takes a (x ++ y) c
Takes-then a x b y c p q = record {
  parts = p.parts ∙ ap (λ (t : List ℕ). x ++ t) q.parts ∙ sym (append_assoc x y c);
  rest_fits = q.rest_fits;
}

-- a byte that was tested, and what it announces
pub tag_then : (a b c text : List ℕ) (t k : ℕ) → t ≡ k → Takes a (t ∷ []) b → Takes b text c → Takes a (k ∷ text) c
tag_then a b c text t k e p q = let both : Takes a (t ∷ text) c =
    Takes-then a (t ∷ []) b text c p q in subst (λ (n : ℕ). Takes a (n ∷ text) c) e both

-- what is read is spelled so, and fits
abbrev pub Sound : {A : Type 0} → (List ℕ → Read A) → (A → List ℕ) → (A → Type 0) → Type 0
Sound read spelled fits = (bytes : List ℕ) (x : _) → IsBytes bytes → read bytes ≡ Ok x → Takes bytes (spelled x.0) x.1 × fits x.0

-- what fits is read where it is spelled, whatever follows
abbrev pub Whole : {A : Type 0} → (List ℕ → Read A) → (A → List ℕ) → (A → Type 0) → Type 0
Whole read spelled fits = (x : _) (rest : List ℕ) → fits x → read (spelled x ++ rest) ≡ Ok (x, rest)

-- ---- numbers

pub record IsWide (w : Width) (limit : ℕ) : Type 0 where
  pub len : (n : ℕ) → length (to_be_bytes w n) ≡ byte_len w
  pub back : (bytes : List ℕ) → length bytes ≡ byte_len w → IsBytes bytes → to_be_bytes w (from_be_bytes w bytes) ≡ bytes
  pub again : (n : ℕ) → n < limit → from_be_bytes w (to_be_bytes w n) ≡ n
  pub below : (bytes : List ℕ) → IsBytes bytes → from_be_bytes w bytes < limit

pub wide16 : IsWide w16 (2 ^ 16)
wide16 = record {
  len = λ n. refl;
  back = λ bytes len fits. be_bytes_2 bytes _ len fits refl;
  again = λ n lt. from_be_bytes-to_be_bytes_2 n lt;
  below = λ bytes fits. omega (arith, fits 0, fits 1);
}

pub wide32 : IsWide w32 (2 ^ 32)
wide32 = record {
  len = λ n. refl;
  back = λ bytes len fits. be_bytes_4 bytes _ len fits refl;
  again = λ n lt. from_be_bytes-to_be_bytes_4 n lt;
  below = λ bytes fits. omega (arith, fits 0, fits 1, fits 2, fits 3);
}

pub wide64 : IsWide w64 (2 ^ 64)
wide64 = record {
  len = λ n. refl;
  back = λ bytes len fits. be_bytes_8 bytes _ len fits refl;
  again = λ n lt. from_be_bytes-to_be_bytes_8 n lt;
  below = λ bytes fits. omega (arith, fits 0, fits 1, fits 2, fits 3, fits 4, fits 5, fits 6, fits 7);
}

pub number_sound : (w : Width) (limit : ℕ) (wide : IsWide w limit) (size : ℕ) →
    Sound (number_at w size) (to_be_bytes w) (λ n. n < limit)
number_sound w limit wide size bytes x fits e =
    let g = passed (ltb (length bytes) (byte_len w)) _ (Ok (from_be_bytes w (take (byte_len w) bytes), drop (byte_len w) bytes)) x
    e in
    let long : byte_len w ≤ length bytes = ltb-false _ _ g.0 in
    let front : to_be_bytes w (from_be_bytes w (take (byte_len w) bytes)) ≡ take (byte_len w) bytes =
    wide.back (take (byte_len w) bytes) (omega (arith, length-take (byte_len w) bytes))
    (IsBytes-take (byte_len w) bytes fits) in
    let takes : Takes bytes (to_be_bytes w (from_be_bytes w (take (byte_len w) bytes))) (drop (byte_len w) bytes) =
    record { parts = rw front (sym (take-append-drop (byte_len w) bytes)); rest_fits = IsBytes-drop (byte_len w) bytes fits }
    in
    subst (λ (y : ℕ × List ℕ). Takes bytes (to_be_bytes w y.0) y.1 × (y.0 < limit))
    (ok_is (from_be_bytes w (take (byte_len w) bytes), drop (byte_len w) bytes) x g.1)
    (takes, wide.below (take (byte_len w) bytes) (IsBytes-take (byte_len w) bytes fits))

pub number_whole : (w : Width) (limit : ℕ) (wide : IsWide w limit) (size : ℕ) →
    Whole (number_at w size) (to_be_bytes w) (λ n. n < limit)
number_whole w limit wide size n rest lt =
    let len = wide.len n in
    let long : ltb (length (to_be_bytes w n ++ rest)) (byte_len w) ≡ false =
    le-ltb _ _ (omega (arith, length-append (to_be_bytes w n) rest)) in
    rw (long, take_at (to_be_bytes w n) rest (byte_len w) len, drop_at (to_be_bytes w n) rest (byte_len w) len, wide.again n lt)
    refl

-- ---- bytes

pub byte_sound : (size : ℕ) → Sound (byte_at size) (λ b. b ∷ []) (λ b. b < 256)
byte_sound size [] x fits e = absurd cc
byte_sound size (b ∷ bytes) x fits e = subst (λ (y : ℕ × List ℕ). Takes (b ∷ bytes) (y.0 ∷ []) y.1 × (y.0 < 256))
    (ok_is (b, bytes) x e) (record { parts = refl; rest_fits = IsBytes-rest b bytes fits }, fits 0)

pub bytes_sound : (size count : ℕ) → Sound (bytes_at size count) (λ t. t) (λ t. (length t ≡ count) × AreBytes t)
bytes_sound size count bytes x fits e =
    let g = passed (ltb (length bytes) count) _ (Ok (take count bytes, drop count bytes)) x e in
    let long : count ≤ length bytes = ltb-false _ _ g.0 in
    let len : length (take count bytes) ≡ count = omega (arith, length-take count bytes) in
    let takes : Takes bytes (take count bytes) (drop count bytes) =
    record { parts = sym (take-append-drop count bytes); rest_fits = IsBytes-drop count bytes fits } in
    subst (λ (y : List ℕ × List ℕ). Takes bytes y.0 y.1 × ((length y.0 ≡ count) × AreBytes y.0))
    (ok_is (take count bytes, drop count bytes) x g.1)
    (takes, (len, are_bytes (take count bytes) (IsBytes-take count bytes fits)))

pub bytes_whole : (size : ℕ) (text rest : List ℕ) → bytes_at size (length text) (text ++ rest) ≡ Ok (text, rest)
bytes_whole size text rest =
    let long : ltb (length (text ++ rest)) (length text) ≡ false = le-ltb _ _ (omega (arith, length-append text rest)) in
    rw (long, take_at text rest (length text) refl, drop_at text rest (length text) refl) refl

-- ---- items

pub items_sound : {A : Type 0} (item : ℕ → List ℕ → Read A) (next : A → ℕ) (spelled : A → List ℕ) (fits : ℕ → A → Type 0) →
    ((under : ℕ) → Sound (item under) spelled (fits under))
    → (count under : ℕ) → Sound (items_from item next count under) (flat_map spelled)
    (λ xs. Chain fits next under xs × (length xs ≡ count))
items_sound item next spelled fits each zero under bytes x ok e =
    subst (λ (y : List _ × List ℕ). Takes bytes (flat_map spelled y.0) y.1 × (Chain fits next under y.0 × (length y.0 ≡ 0)))
    (ok_is ([], bytes) x e) (record { parts = refl; rest_fits = ok }, (tt, refl))
items_sound item next spelled fits each (suc count) under bytes x ok e =
    let a = bind_ok (item under bytes) (λ first. items_from item next count (next first.0) first.1 >>=
    λ more. Ok (first.0 ∷ more.0, more.1)) x e in
    let b = bind_ok (items_from item next count (next a.0.0) a.0.1) (λ more. Ok (a.0.0 ∷ more.0, more.1)) x a.2 in
    let first = each under bytes a.0 ok a.1 in
    let rest = items_sound item next spelled fits each count (next a.0.0) a.0.1 b.0 first.0.rest_fits b.1 in
    let both = Takes-then bytes (spelled a.0.0) a.0.1 (flat_map spelled b.0.0) b.0.1 first.0 rest.0 in
    subst (λ (y : List _ × List ℕ). Takes bytes (flat_map spelled y.0) y.1 ×
    (Chain fits next under y.0 × (length y.0 ≡ suc count))) (ok_is (a.0.0 ∷ b.0.0, b.0.1) x b.2)
    (rw flat_map-cons both, ((first.1, rest.1.0), ap suc rest.1.1))

pub items_whole : {A : Type 0} (item : ℕ → List ℕ → Read A) (next : A → ℕ) (spelled : A → List ℕ) (fits : ℕ → A → Type 0) →
    ((under : ℕ) → Whole (item under) spelled (fits under))
    → (xs : List A) (under : ℕ) (rest : List ℕ) → Chain fits next under xs →
    items_from item next (length xs) under (flat_map spelled xs ++ rest) ≡ Ok (xs, rest)
items_whole item next spelled fits each [] under rest ok = refl
items_whole item next spelled fits each (x ∷ xs) under rest ok =
    let regrouped : flat_map spelled (x ∷ xs) ++ rest ≡ spelled x ++ (flat_map spelled xs ++ rest) =
    ap (λ (t : List ℕ). t ++ rest) (flat_map-cons spelled x xs) ∙ append_assoc (spelled x) (flat_map spelled xs) rest in
    ap (items_from item next (suc (length xs)) under) regrouped ∙
    rw (each under x (flat_map spelled xs ++ rest) ok.0, items_whole item next spelled fits each xs (next x) rest ok.1) refl

-- the same fact of each item, whatever it is read under
pub chain_each : {A : Type 0} (P : A → Type 0) (xs : List A) (under : ℕ) → Chain (λ _. P) (λ _. 0) under xs → AllByRecursion P xs
chain_each P [] under h = tt
chain_each P (x ∷ xs) under h = (h.0, chain_each P xs 0 h.1)

pub each_chain : {A : Type 0} (P : A → Type 0) (xs : List A) (under : ℕ) → AllByRecursion P xs → Chain (λ _. P) (λ _. 0) under xs
each_chain P [] under h = tt
each_chain P (x ∷ xs) under h = (h.0, each_chain P xs 0 h.1)
