-- Tables of the dictionary: what is read is spelled so, and what is spelled so is read.
use Rattle.std.proofs.Common.{◌≡◌, ℕ, zero, suc, ◌+◌, ◌^◌, ◌<◌, ◌≤◌, Bool, true, false, List, [], ◌∷◌, ◌++◌, length, Ok, refl, sym, ap, subst, ◌∙◌, append_assoc, arith}
use Rattle.std.specs.Prelude.{◌||◌, ◌&&◌, ◌==◌, nat_lt, nat_le, if◌then◌else◌}
use Rattle.std.specs.Int.{w16, w32}
use Rattle.std.specs.List.{flat_map, list_all, AllByRecursion}
use Rattle.std.proofs.lemmas.Bool.{ltb-false, ltb-true, leb-true, le-ltb, le-leb, eqb-true, ne_eqb, and_parts}
use Rattle.redo_vec.specs.declared.columns.Kind.{Kind}
use Rattle.redo_vec.specs.declared.columns.Kind.TheVariants as kinds
use Rattle.redo_vec.specs.declared.columns.Column.{Column}
use Rattle.redo_vec.specs.declared.table.TableRow.{TableRow}
use Rattle.redo_vec.specs.Forms.{rises, is_key_columns, are_keys}
use Rattle.redo_vec.specs.Spelling.{be16, be32, name, kind, column, key, keys, table}
use Rattle.redo_vec.specs.Ranges.{IsWord, IsKind, IsColumn, IsTable}
use Rattle.redo_vec.specs.Reading.{items_from, number_at, byte_at, name_at, is_size_of, kind_by_number, kind_at, flag_at, column_at, columns_from, count_at, rising_at, rising_from, key_at, keys_from, keys_at, table_at}
use Rattle.redo_vec.proofs.Steps.{bind_ok, passed, held, ok_is, neither, Chain}
use Rattle.redo_vec.proofs.Forming.{Rises, nonzero, both_true, rising_form, count_form, key_form, keys_form, are_keys_of}
use Rattle.redo_vec.proofs.Takes.{IsBytes, Takes, Takes-then, tag_then, Sound, Whole, wide16, wide32, number_sound, number_whole, byte_sound, bytes_sound, bytes_whole, items_sound, items_whole, chain_each, each_chain}
use Rattle.redo_vec.proofs.ChangeLaws.{rising_whole}

-- ---- names

pub name_sound : (n : ℕ) → Sound (name_at n) name IsWord
unfolding name_at
name_sound n bytes x ok e =
    let a = bind_ok (byte_at n bytes) _ x e in
    let ta = byte_sound n bytes a.0 ok a.1 in
    let g = passed (a.0.0 == 0 || nat_lt 30 a.0.0) _ _ x a.2 in
    let t = neither (a.0.0 == 0) (nat_lt 30 a.0.0) g.0 in
    let tb = bytes_sound n a.0.0 a.0.1 x ta.0.rest_fits g.1 in
    let some : 1 ≤ length x.0 = rw tb.1.0 (nonzero a.0.0 t.0) in
    let most : length x.0 ≤ 30 = rw tb.1.0 (ltb-false _ _ t.1) in (
      tag_then bytes a.0.1 x.1 x.0 a.0.0 (length x.0) (sym tb.1.0) ta.0 tb.0,
      (both_true _ _ (le-leb _ _ some) (le-leb _ _ most), tb.1.1),
    )

pub name_whole : (n : ℕ) → Whole (name_at n) name IsWord
unfolding name_at
name_whole n t rest ok =
    let p = and_parts _ _ ok.0 in
    let some : 1 ≤ length t = leb-true _ _ p.0 in
    let most : length t ≤ 30 = leb-true _ _ p.1 in
    let nonempty : (length t == 0) ≡ false = ne_eqb _ _ (omega arith) in
    let short : nat_lt 30 (length t) ≡ false = le-ltb _ _ most in
    rw (nonempty, short) (bytes_whole n t rest)

-- ---- columns

kind_sized : (size : ℕ) → (nat_le 1 size && nat_le size 500) ≡ true → (1 ≤ size) × (size ≤ 500)
kind_sized size fits = let p = and_parts _ _ fits in (leb-true _ _ p.0, leb-true _ _ p.1)

-- a type is spelled as it is read
kind_spelled : (k size : ℕ) → (k == 0 || nat_lt 3 k) ≡ false → is_size_of k size ≡ true →
    (kind (kind_by_number k size) ≡ k ∷ be16 size) × IsKind (kind_by_number k size)
kind_spelled zero size low fits = absurd cc
kind_spelled (suc zero) size low fits = (ap (λ (s : ℕ). 1 ∷ be16 s) (sym (eqb-true _ _ fits)), tt)
kind_spelled (suc (suc zero)) size low fits = (refl, kind_sized size fits)
kind_spelled (suc (suc (suc zero))) size low fits = (refl, kind_sized size fits)
kind_spelled (suc (suc (suc (suc k)))) size low fits =
    let t = neither (suc (suc (suc (suc k))) == 0) (nat_lt 3 (suc (suc (suc (suc k))))) low in
    let most : suc (suc (suc (suc k))) ≤ 3 = ltb-false _ _ t.1 in
    absurd (omega arith)

pub kind_sound : (n : ℕ) → Sound (kind_at n) kind IsKind
unfolding kind_at
kind_sound n bytes x ok e =
    let a = bind_ok (byte_at n bytes) _ x e in
    let ta = byte_sound n bytes a.0 ok a.1 in
    let g = passed (a.0.0 == 0 || nat_lt 3 a.0.0) _ _ x a.2 in
    let b = bind_ok (number_at w16 n a.0.1) _ x g.1 in
    let tb = number_sound w16 (2 ^ 16) wide16 n a.0.1 b.0 ta.0.rest_fits b.1 in
    let h = held (is_size_of a.0.0 b.0.0) _ (Ok (kind_by_number a.0.0 b.0.0, b.0.1)) x b.2 in
    let s = kind_spelled a.0.0 b.0.0 g.0 h.0 in
    let both : Takes bytes (a.0.0 ∷ be16 b.0.0) b.0.1 = Takes-then bytes (a.0.0 ∷ []) a.0.1 (be16 b.0.0) b.0.1 ta.0 tb.0 in
    subst (λ (y : Kind × List ℕ). Takes bytes (kind y.0) y.1 × IsKind y.0) (ok_is (kind_by_number a.0.0 b.0.0, b.0.1) x h.1)
    (subst (λ (t : List ℕ). Takes bytes t b.0.1) (sym s.0) both, s.1)

sized : (size : ℕ) → 1 ≤ size → size ≤ 500 → (nat_le 1 size && nat_le size 500) ≡ true
sized size some most = both_true _ _ (le-leb _ _ some) (le-leb _ _ most)

pub kind_whole : (n : ℕ) → Whole (kind_at n) kind IsKind
unfolding kind_at
kind_whole n kinds.Number rest ok = rw (number_whole w16 (2 ^ 16) wide16 n 0 rest (omega arith)) refl
kind_whole n (kinds.Text size) rest ok =
    let most : size ≤ 500 = ok.1 in
    rw (number_whole w16 (2 ^ 16) wide16 n size rest (omega arith), sized size ok.0 ok.1) refl
kind_whole n (kinds.Raw size) rest ok =
    let most : size ≤ 500 = ok.1 in
    rw (number_whole w16 (2 ^ 16) wide16 n size rest (omega arith), sized size ok.0 ok.1) refl

abbrev flag : Bool → List ℕ
flag b = (if b then 1 else 0) ∷ []

flag_spelled : (b : ℕ) → nat_lt 1 b ≡ false → flag (b == 1) ≡ b ∷ []
flag_spelled zero h = refl
flag_spelled (suc zero) h = refl
flag_spelled (suc (suc b)) h = let most : suc (suc b) ≤ 1 = ltb-false _ _ h in absurd (omega arith)

flag_sound : (n : ℕ) → Sound (flag_at n) flag (λ _. Unit {0})
unfolding flag_at
flag_sound n bytes x ok e =
    let a = bind_ok (byte_at n bytes) _ x e in
    let ta = byte_sound n bytes a.0 ok a.1 in
    let g = passed (nat_lt 1 a.0.0) _ (Ok (a.0.0 == 1, a.0.1)) x a.2 in
    subst (λ (y : Bool × List ℕ). Takes bytes (flag y.0) y.1 × Unit {0}) (ok_is (a.0.0 == 1, a.0.1) x g.1)
    (subst (λ (t : List ℕ). Takes bytes t a.0.1) (sym (flag_spelled a.0.0 g.0)) ta.0, tt)

flag_whole : (n : ℕ) → Whole (flag_at n) flag (λ _. Unit {0})
unfolding flag_at
flag_whole n true rest ok = refl
flag_whole n false rest ok = refl

pub column_sound : (n : ℕ) → Sound (column_at n) column IsColumn
unfolding column_at
column_sound n bytes x ok e =
    let a = bind_ok (name_at n bytes) _ x e in
    let b = bind_ok (kind_at n a.0.1) _ x a.2 in
    let c = bind_ok (flag_at n b.0.1) _ x b.2 in
    let ta = name_sound n bytes a.0 ok a.1 in
    let tb = kind_sound n a.0.1 b.0 ta.0.rest_fits b.1 in
    let tc = flag_sound n b.0.1 c.0 tb.0.rest_fits c.1 in
    let two = Takes-then bytes (name a.0.0) a.0.1 (kind b.0.0) b.0.1 ta.0 tb.0 in
    let all = Takes-then bytes (name a.0.0 ++ kind b.0.0) b.0.1 (flag c.0.0) c.0.1 two tc.0 in
    subst (λ (y : Column × List ℕ). Takes bytes (column y.0) y.1 × IsColumn y.0)
    (ok_is (record { name = a.0.0; kind = b.0.0; nullable = c.0.0 }, c.0.1) x c.2) (all, record { name = ta.1; kind = tb.1 })

pub column_whole : (n : ℕ) → Whole (column_at n) column IsColumn
unfolding column_at
column_whole n c rest ok =
    let regrouped : column c ++ rest ≡ name c.name ++ (kind c.kind ++ (flag c.nullable ++ rest)) =
    append_assoc (name c.name ++ kind c.kind) (flag c.nullable) rest ∙
    append_assoc (name c.name) (kind c.kind) (flag c.nullable ++ rest) in
    ap (column_at n) regrouped ∙ rw (
      name_whole n c.name (kind c.kind ++ (flag c.nullable ++ rest)) ok.name,
      kind_whole n c.kind (flag c.nullable ++ rest) ok.kind,
      flag_whole n c.nullable rest tt,
    ) refl

pub columns_sound : (n count : ℕ) (bytes : List ℕ) (x : List Column × List ℕ) → IsBytes bytes →
    columns_from count n bytes ≡ Ok x → Takes bytes (flat_map column x.0) x.1 ×
    (AllByRecursion IsColumn x.0 × (length x.0 ≡ count))
unfolding columns_from
columns_sound n count bytes x ok e =
    let t = items_sound (λ _. column_at n) (λ _. 0) column (λ _. IsColumn) (λ u b y k h. column_sound n b y k h) count 0
    bytes x ok e in
    (t.0, (chain_each IsColumn x.0 0 t.1.0, t.1.1))

pub columns_whole : (n : ℕ) (cs : List Column) (rest : List ℕ) → AllByRecursion IsColumn cs →
    columns_from (length cs) n (flat_map column cs ++ rest) ≡ Ok (cs, rest)
unfolding columns_from
columns_whole n cs rest ok = items_whole (λ _. column_at n) (λ _. 0) column (λ _. IsColumn) (λ u c r h. column_whole n c r h) cs 0
    rest (each_chain IsColumn cs 0 ok)

-- ---- keys

count_sound : (n : ℕ) (bytes : List ℕ) (x : ℕ × List ℕ) → IsBytes bytes → count_at n bytes ≡ Ok x → Takes bytes (x.0 ∷ []) x.1
unfolding count_at
count_sound n bytes x ok e =
    let a = bind_ok (byte_at n bytes) _ x e in
    let ta = byte_sound n bytes a.0 ok a.1 in
    let g = passed (a.0.0 == 0 || nat_lt 32 a.0.0) _ (Ok a.0) x a.2 in
    subst (λ (y : ℕ × List ℕ). Takes bytes (y.0 ∷ []) y.1) (ok_is a.0 x g.1) ta.0

count_whole : (n k : ℕ) (rest : List ℕ) → 1 ≤ k → k ≤ 32 → count_at n (k ∷ rest) ≡ Ok (k, rest)
unfolding count_at
count_whole n k rest some most =
    let nonempty : (k == 0) ≡ false = ne_eqb _ _ (omega arith) in
    let short : nat_lt 32 k ≡ false = le-ltb _ _ most in
    rw (nonempty, short) refl

rising_sound : (n from : ℕ) → Sound (rising_at n from) (λ c. c ∷ []) (Rises from)
rising_sound n from bytes x ok e =
    let r = bind_ok (byte_at n bytes) _ x e in
    let g = passed (nat_lt r.0.0 from || nat_lt 31 r.0.0) _ (Ok r.0) x r.2 in
    let tr = byte_sound n bytes r.0 ok r.1 in
    (subst (λ (y : ℕ × List ℕ). Takes bytes (y.0 ∷ []) y.1) (ok_is r.0 x g.1) tr.0, rising_form n from bytes x e)

singles : (xs : List ℕ) → flat_map (λ c. c ∷ []) xs ≡ xs
singles [] = refl
singles (x ∷ xs) = ap (λ (t : List ℕ). x ∷ t) (singles xs)

chain_of : (from : ℕ) (xs : List ℕ) → rises from xs ≡ true → Chain Rises (λ c. c + 1) from xs
chain_of from [] r = tt
chain_of from (x ∷ xs) r =
    let p = and_parts _ _ r in
    let q = and_parts _ _ p.0 in
    (record { low = leb-true _ _ q.0; high = ltb-true _ _ q.1 }, chain_of (x + 1) xs p.1)

rises_few : (from : ℕ) (xs : List ℕ) → from ≤ 32 → rises from xs ≡ true → from + length xs ≤ 32
rises_few from [] low r = omega arith
rises_few from (x ∷ xs) low r =
    let p = and_parts _ _ r in
    let q = and_parts _ _ p.0 in
    let above : from ≤ x = leb-true _ _ q.0 in
    let below : x < 32 = ltb-true _ _ q.1 in
    let more : x + 1 + length xs ≤ 32 = rises_few (x + 1) xs (omega arith) p.1 in
    omega arith

pub key_few : (columns : List ℕ) → is_key_columns columns ≡ true → (1 ≤ length columns) × (length columns ≤ 32)
key_few columns ok =
    let p = and_parts _ _ ok in
    let few = rises_few 0 columns (omega arith) p.1 in
    (leb-true _ _ p.0, omega arith)

key_sound : (n : ℕ) → Sound (key_at n) key (λ k. is_key_columns k ≡ true)
unfolding key_at rising_from
key_sound n bytes x ok e =
    let a = bind_ok (count_at n bytes) (λ count. rising_from count.0 0 n count.1) x e in
    let ta = count_sound n bytes a.0 ok a.1 in
    let tb = items_sound (rising_at n) (λ c. c + 1) (λ c. c ∷ []) Rises (λ u b y k h. rising_sound n u b y k h) a.0.0 0 a.0.1 x
    ta.rest_fits a.2 in
    let takes : Takes a.0.1 x.0 x.1 = subst (λ (t : List ℕ). Takes a.0.1 t x.1) (singles x.0) tb.0 in
    (tag_then bytes a.0.1 x.1 x.0 a.0.0 (length x.0) (sym tb.1.1) ta takes, key_form n bytes x e)

key_whole : (n : ℕ) → Whole (key_at n) key (λ k. is_key_columns k ≡ true)
unfolding key_at rising_from
key_whole n k rest ok =
    let few = key_few k ok in
    let p = and_parts _ _ ok in
    let whole = items_whole (rising_at n) (λ c. c + 1) (λ c. c ∷ []) Rises (λ u c r h. rising_whole n u c r h) k 0 rest
    (chain_of 0 k p.1) in
    let read : items_from (rising_at n) (λ c. c + 1) (length k) 0 (k ++ rest) ≡ Ok (k, rest) =
    subst (λ (t : List ℕ). items_from (rising_at n) (λ c. c + 1) (length k) 0 (t ++ rest) ≡ Ok (k, rest)) (singles k) whole in
    rw (count_whole n (length k) (k ++ rest) few.0 few.1) read

all_each : (p : List ℕ → Bool) (xs : List (List ℕ)) → list_all p xs ≡ true → AllByRecursion (λ k. p k ≡ true) xs
all_each p [] h = tt
all_each p (x ∷ xs) h = let q = and_parts _ _ h in (q.0, all_each p xs q.1)

pub keys_sound : (n : ℕ) → Sound (keys_at n) keys (λ ks. are_keys ks ≡ true)
unfolding keys_at keys_from
keys_sound n bytes x ok e =
    let a = bind_ok (key_at n bytes) _ x e in
    let b = bind_ok (byte_at n a.0.1) _ x a.2 in
    let g = passed (nat_lt 4 b.0.0) _ _ x b.2 in
    let c = bind_ok (keys_from b.0.0 n b.0.1) _ x g.1 in
    let ta = key_sound n bytes a.0 ok a.1 in
    let tb = byte_sound n a.0.1 b.0 ta.0.rest_fits b.1 in
    let tc = items_sound (λ _. key_at n) (λ _. 0) key (λ _ k. is_key_columns k ≡ true) (λ u d y k h. key_sound n d y k h) b.0.0 0
    b.0.1 c.0 tb.0.rest_fits c.1 in
    let forms = keys_form n b.0.0 b.0.1 c.0 c.1 in
    let most : length c.0.0 ≤ 4 = rw forms.1 (ltb-false _ _ g.0) in
    let counted = tag_then a.0.1 b.0.1 c.0.1 (flat_map key c.0.0) b.0.0 (length c.0.0) (sym tc.1.1) tb.0 tc.0 in
    let all = Takes-then bytes (key a.0.0) a.0.1 (length c.0.0 ∷ flat_map key c.0.0) c.0.1 ta.0 counted in
    subst (λ (y : List (List ℕ) × List ℕ). Takes bytes (keys y.0) y.1 × (are_keys y.0 ≡ true))
    (ok_is (a.0.0 ∷ c.0.0, c.0.1) x c.2) (all, are_keys_of a.0.0 c.0.0 ta.1 forms.0 most)

pub keys_whole : (n : ℕ) → Whole (keys_at n) keys (λ ks. are_keys ks ≡ true)
unfolding keys_at keys_from
keys_whole n [] rest ok = absurd cc
keys_whole n (primary ∷ uniques) rest ok =
    let p = and_parts _ _ ok in
    let q = and_parts _ _ p.0 in
    let each = all_each is_key_columns (primary ∷ uniques) p.1 in
    let few : suc (length uniques) ≤ 5 = leb-true _ _ q.1 in
    let short : nat_lt 4 (length uniques) ≡ false = le-ltb _ _ (omega arith) in
    let regrouped : keys (primary ∷ uniques) ++ rest ≡ key primary ++ (length uniques ∷ (flat_map key uniques ++ rest)) =
    append_assoc (key primary) (length uniques ∷ flat_map key uniques) rest in
    ap (keys_at n) regrouped ∙ rw (
      key_whole n primary (length uniques ∷ (flat_map key uniques ++ rest)) each.0,
      short,
      items_whole (λ _. key_at n) (λ _. 0) key (λ _ k. is_key_columns k ≡ true) (λ u c r h. key_whole n c r h) uniques 0 rest
          (each_chain (λ k. is_key_columns k ≡ true) uniques 0 each.1),
    ) refl

-- ---- tables

-- a TABLE vector behind its kind
abbrev pub body : TableRow → List ℕ
body t = be32 t.id ++ table t

pub table_sound : (n : ℕ) → Sound (table_at n) body IsTable
unfolding table_at
table_sound n bytes x ok e =
    let a = bind_ok (number_at w32 n bytes) _ x e in
    let b = bind_ok (name_at n a.0.1) _ x a.2 in
    let c = bind_ok (name_at n b.0.1) _ x b.2 in
    let d = bind_ok (count_at n c.0.1) _ x c.2 in
    let f = bind_ok (columns_from d.0.0 n d.0.1) _ x d.2 in
    let k = bind_ok (keys_at n f.0.1) _ x f.2 in
    let ta = number_sound w32 (2 ^ 32) wide32 n bytes a.0 ok a.1 in
    let tb = name_sound n a.0.1 b.0 ta.0.rest_fits b.1 in
    let tc = name_sound n b.0.1 c.0 tb.0.rest_fits c.1 in
    let td = count_sound n c.0.1 d.0 tc.0.rest_fits d.1 in
    let few = count_form n c.0.1 d.0 d.1 in
    let tf = columns_sound n d.0.0 d.0.1 f.0 td.rest_fits f.1 in
    let tk = keys_sound n f.0.1 k.0 tf.0.rest_fits k.1 in
    let counted = tag_then c.0.1 d.0.1 f.0.1 (flat_map column f.0.0) d.0.0 (length f.0.0) (sym tf.1.1) td tf.0 in
    let two = Takes-then a.0.1 (name b.0.0) b.0.1 (name c.0.0) c.0.1 tb.0 tc.0 in
    let three = Takes-then a.0.1 (name b.0.0 ++ name c.0.0) c.0.1 (length f.0.0 ∷ flat_map column f.0.0) f.0.1 two counted in
    let four = Takes-then a.0.1 (name b.0.0 ++ name c.0.0 ++ length f.0.0 ∷ flat_map column f.0.0) f.0.1 (keys k.0.0)
    k.0.1 three tk.0 in
    let made : TableRow = record { id = a.0.0; schema = b.0.0; name = c.0.0; columns = f.0.0; keys = k.0.0 } in
    let all : Takes bytes (body made) k.0.1 = Takes-then bytes (be32 a.0.0) a.0.1 (table made) k.0.1 ta.0 four in
    let some : 1 ≤ length f.0.0 = rw tf.1.1 few.0 in
    let most : length f.0.0 ≤ 32 = rw tf.1.1 few.1 in
    subst (λ (y : TableRow × List ℕ). Takes bytes (body y.0) y.1 × IsTable y.0) (ok_is (made, k.0.1) x k.2)
    (all, record { id = ta.1; schema = tb.1; name = tc.1; some = some; most = most; columns = tf.1.0; keys = tk.1 })

pub table_whole : (n : ℕ) → Whole (table_at n) body IsTable
unfolding table_at
table_whole n t rest ok =
    let after_columns = keys t.keys ++ rest in
    let after_name = length t.columns ∷ (flat_map column t.columns ++ (keys t.keys ++ rest)) in
    let regrouped : body t ++ rest ≡ be32 t.id ++ (name t.schema ++
    (name t.name ++ (length t.columns ∷ (flat_map column t.columns ++ (keys t.keys ++ rest))))) = simp append_assoc refl in
    ap (table_at n) regrouped ∙ rw (
      number_whole w32 (2 ^ 32) wide32 n t.id (name t.schema ++ (name t.name ++ after_name)) ok.id,
      name_whole n t.schema (name t.name ++ after_name) ok.schema,
      name_whole n t.name after_name ok.name,
      count_whole n (length t.columns) (flat_map column t.columns ++ after_columns) ok.some ok.most,
      columns_whole n t.columns after_columns ok.columns,
      keys_whole n t.keys rest ok.keys,
    ) refl
