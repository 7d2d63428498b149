-- Laws of spelled places: two places of rows are the same only where the table and the key are, and so are two sequences.
use Rattle.std.proofs.Common.{◌≡◌, ℕ, ◌^◌, ◌<◌, List, [], ◌∷◌, ◌++◌, refl, sym, ap, ◌∙◌, Ok, Result, take, drop}
use Rattle.std.proofs.lemmas.List.{take_at, drop_at}
use Rattle.std.specs.Prelude.{Err}
use Rattle.std.specs.Int.{w32, from_be_bytes}
use Rattle.std.specs.List.{flat_map}
use Rattle.rl_value.specs.declared.value.Value.{Value}
use Rattle.rl_value.specs.declared.value.Value.TheVariants.{Null, Number, Text, Raw}
use Rattle.redo_vec.specs.Ranges.{IsValue}
use Rattle.redo_vec.specs.Reading.{Fault, value_at}
use Rattle.redo_vec.specs.Spelling.{be32, value}
use Rattle.redo_vec.proofs.ChangeLaws.{value_whole}
use Rattle.redo_vec.proofs.Takes.{wide32}
use Rattle.standby_spec.specs.Layout.{row_place}
use Rattle.standby_spec.specs.HasLayout.{AreValues}

-- ---- numbers

pub number-same : (m n : ℕ) → m < 2 ^ 32 → n < 2 ^ 32 → be32 m ≡ be32 n → m ≡ n
number-same m n f g e = sym (wide32.again m f) ∙ ap (from_be_bytes w32) e ∙ wide32.again n g

front-of : (n : ℕ) (rest : List ℕ) → take 4 (be32 n ++ rest) ≡ be32 n
front-of n rest = take_at (be32 n) rest 4 (wide32.len n)

rest-of : (n : ℕ) (rest : List ℕ) → drop 4 (be32 n ++ rest) ≡ rest
rest-of n rest = drop_at (be32 n) rest 4 (wide32.len n)

-- ---- values

abbrev Found : Type 0
Found = Result (Value × List ℕ) Fault

found-value : Value → Found → Value
found-value v (Ok x) = x.0
found-value v (Err f) = v

found-rest : Found → List ℕ
found-rest (Ok x) = x.1
found-rest (Err f) = []

same-found : (v u : Value) (xs ys : List ℕ) → IsValue v → IsValue u → value v ++ xs ≡ value u ++ ys → (v ≡ u) × (xs ≡ ys)
unfolding found-value found-rest
same-found v u xs ys f g e =
    let found : Ok (v, xs) ≡ Ok (u, ys) = sym (value_whole 0 v xs f) ∙ ap (value_at 0) e ∙ value_whole 0 u ys g in
    (ap (found-value v) found, ap found-rest found)

some-byte : (v : Value) (xs : List ℕ) → value v ++ xs ≡ [] → ⊥
some-byte Null xs e = cc
some-byte (Number z) xs e = cc
some-byte (Text t) xs e = cc
some-byte (Raw t) xs e = cc

pub values-same : (vs us : List Value) → AreValues vs → AreValues us → flat_map value vs ≡ flat_map value us → vs ≡ us
values-same [] [] f g e = refl
values-same [] (u ∷ us) f g e = absurd (some-byte u (flat_map value us) (sym e))
values-same (v ∷ vs) [] f g e = absurd (some-byte v (flat_map value vs) e)
values-same (v ∷ vs) (u ∷ us) f g e =
    let both = same-found v u (flat_map value vs) (flat_map value us) f.0 g.0 e in
    let first = both.0 in
    let rest = values-same vs us f.1 g.1 both.1 in
    λ i. first i ∷ rest i

-- ---- places of rows

pub table-same : (m n : ℕ) (k l : List Value) → m < 2 ^ 32 → n < 2 ^ 32 → row_place m k ≡ row_place n l → m ≡ n
table-same m n k l f g e =
    number-same m n f g (sym (front-of m (flat_map value k)) ∙ ap (take 4) e ∙ front-of n (flat_map value l))

pub key-same : (m n : ℕ) (k l : List Value) → AreValues k → AreValues l → row_place m k ≡ row_place n l → k ≡ l
key-same m n k l f g e =
    values-same k l f g (sym (rest-of m (flat_map value k)) ∙ ap (drop 4) e ∙ rest-of n (flat_map value l))
