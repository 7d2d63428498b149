-- What is read has the form that its type keeps.
use Rattle.std.proofs.Common.{◌≡◌, ℕ, zero, suc, ◌+◌, ◌≤◌, ◌<◌, Bool, true, false, cond, List, [], ◌∷◌, length, Ok, refl, subst, arith}
use Rattle.std.specs.Prelude.{◌||◌, ◌&&◌, nat_lt, nat_le, ◌==◌}
use Rattle.std.specs.List.{list_all}
use Rattle.std.specs.Int.{w16}
use Rattle.std.proofs.lemmas.Bool.{ltb-false, le-leb, lt-ltb}
use Rattle.std.proofs.lemmas.Bool.Decides.{nat_tests}
use Rattle.rl_value.specs.declared.value.Value.{Value}
use Rattle.rl_value.specs.Text.{columns_rise}
use Rattle.redo_vec.specs.declared.columns.Column.{Column}
use Rattle.redo_vec.specs.declared.columns.Kind.{Kind}
use Rattle.redo_vec.specs.declared.columns.Kind.TheVariants as kinds
use Rattle.redo_vec.specs.Forms.{rises, is_key_columns, are_keys}
use Rattle.redo_vec.specs.Columns.{is_kind, are_columns}
use Rattle.redo_vec.specs.Reading.{◌>>=◌, items_from, with_front, byte_at, number_at, rising_at, value_at, cell_at, after_cell, name_at, kind_at, flag_at, column_at, is_size_of, kind_by_number, count_at, rising_from, key_at}
use Rattle.redo_vec.proofs.Steps.{bind_ok, passed, held, ok_is, neither, Chain, items_have}

pub both_true : (a b : Bool) → a ≡ true → b ≡ true → (a && b) ≡ true
both_true a b e f = rw (e, f) refl

three_true : (a b c : Bool) → (a && b && c) ≡ true → (a ≡ true) × (b ≡ true) × (c ≡ true)
three_true true true true e = (refl, refl, refl)
three_true true true false e = absurd cc
three_true true false c e = absurd cc
three_true false b c e = absurd cc

second_true : (a b : Bool) → (a && b) ≡ true → b ≡ true
second_true true b e = e
second_true false b e = absurd cc

-- a column from this one on, below 32
pub record Rises (from column : ℕ) : Type 0 where
  pub low : from ≤ column
  pub high : column < 32

pub rising_form : (n from : ℕ) (bytes : List ℕ) (x : ℕ × List ℕ) → rising_at n from bytes ≡ Ok x → Rises from x.0
rising_form n from bytes x e =
    let a = bind_ok (byte_at n bytes) _ x e in
    let g = passed (nat_lt a.0.0 from || nat_lt 31 a.0.0) _ (Ok a.0) x a.2 in
    let t = neither (nat_lt a.0.0 from) (nat_lt 31 a.0.0) g.0 in
    let low : from ≤ a.0.0 = ltb-false _ _ t.0 in
    let high : a.0.0 ≤ 31 = ltb-false _ _ t.1 in
    subst (λ (y : ℕ × List ℕ). Rises from y.0) (ok_is a.0 x g.1) (record { low = low; high = omega arith })

pub cell_form : (n from : ℕ) (bytes : List ℕ) (x : (ℕ × Value) × List ℕ) → cell_at n from bytes ≡ Ok x → Rises from x.0.0
cell_form n from bytes x e =
    let a = bind_ok (rising_at n from bytes) (λ column. value_at n column.1 >>= λ v. Ok ((column.0, v.0), v.1)) x e in
    let b = bind_ok (value_at n a.0.1) (λ v. Ok ((a.0.0, v.0), v.1)) x a.2 in
    subst (λ (y : (ℕ × Value) × List ℕ). Rises from y.0.0) (ok_is ((a.0.0, b.0.0), b.0.1) x b.2)
    (rising_form n from bytes a.0 a.1)

pub chain_rises : (from : ℕ) (xs : List ℕ) → Chain Rises (λ c. c + 1) from xs → rises from xs ≡ true
chain_rises from [] h = refl
chain_rises from (x ∷ xs) h = both_true _ _ (both_true _ _ (le-leb _ _ h.0.low) (lt-ltb _ _ h.0.high))
    (chain_rises (x + 1) xs h.1)

pub chain_cells : (from : ℕ) (xs : List (ℕ × Value)) → Chain (λ u c. Rises u c.0) after_cell from xs → columns_rise from xs ≡ true
chain_cells from [] h = refl
chain_cells from (x ∷ xs) h = both_true _ _ (both_true _ _ (le-leb _ _ h.0.low) (lt-ltb _ _ h.0.high))
    (chain_cells (x.0 + 1) xs h.1)

pub cells_form : (n count from : ℕ) (bytes : List ℕ) (x : List (ℕ × Value) × List ℕ) →
    items_from (cell_at n) after_cell count from bytes ≡ Ok x → columns_rise from x.0 ≡ true
cells_form n count from bytes x e = chain_cells from x.0
    (items_have (cell_at n) after_cell (λ u c. Rises u c.0) (λ u b y h. cell_form n u b y h) count from bytes x e).0

-- ---- keys

pub rising_list_form : (n count : ℕ) (bytes : List ℕ) (x : List ℕ × List ℕ) → 1 ≤ count →
    items_from (rising_at n) (λ c. c + 1) count 0 bytes ≡ Ok x → is_key_columns x.0 ≡ true
rising_list_form n count bytes x some e =
    let h = items_have (rising_at n) (λ c. c + 1) Rises (λ u b y r. rising_form n u b y r) count 0 bytes x e in
    let low : 1 ≤ length x.0 = rw h.1 some in
    both_true _ _ (le-leb _ _ low) (chain_rises 0 x.0 h.0)

pub nonzero : (n : ℕ) → (n == 0) ≡ false → 1 ≤ n
nonzero zero e = absurd cc
nonzero (suc n) e = omega arith

pub count_form : (n : ℕ) (bytes : List ℕ) (x : ℕ × List ℕ) → count_at n bytes ≡ Ok x → (1 ≤ x.0) × (x.0 ≤ 32)
unfolding count_at
count_form n bytes x e =
    let a = bind_ok (byte_at n bytes) _ x e in
    let g = passed (a.0.0 == 0 || nat_lt 32 a.0.0) _ (Ok a.0) x a.2 in
    let t = neither (a.0.0 == 0) (nat_lt 32 a.0.0) g.0 in
    let some : 1 ≤ a.0.0 = nonzero a.0.0 t.0 in
    let most : a.0.0 ≤ 32 = ltb-false _ _ t.1 in
    subst (λ (y : ℕ × List ℕ). (1 ≤ y.0) × (y.0 ≤ 32)) (ok_is a.0 x g.1) (some, most)

pub key_form : (n : ℕ) (bytes : List ℕ) (x : List ℕ × List ℕ) → key_at n bytes ≡ Ok x → is_key_columns x.0 ≡ true
unfolding key_at rising_from
key_form n bytes x e =
    let a = bind_ok (count_at n bytes) (λ count. rising_from count.0 0 n count.1) x e in
    rising_list_form n a.0.0 a.0.1 x (count_form n bytes a.0 a.1).0 a.2

chain_all : {A : Type 0} (p : A → Bool) (u : ℕ) (xs : List A) → Chain (λ _ y. p y ≡ true) (λ _. 0) u xs → list_all p xs ≡ true
chain_all p u [] h = refl
chain_all p u (x ∷ xs) h = both_true _ _ h.0 (chain_all p 0 xs h.1)

pub keys_form : (n count : ℕ) (bytes : List ℕ) (x : List (List ℕ) × List ℕ) →
    items_from (λ _. key_at n) (λ _. 0) count 0 bytes ≡ Ok x → (list_all is_key_columns x.0 ≡ true) × (length x.0 ≡ count)
keys_form n count bytes x e =
    let h = items_have (λ _. key_at n) (λ _. 0) (λ _ k. is_key_columns k ≡ true) (λ u b y r. key_form n b y r)
    count 0 bytes x e in
    (chain_all is_key_columns 0 x.0 h.0, h.1)

-- the primary key and up to four unique ones
pub are_keys_of : (primary : List ℕ) (uniques : List (List ℕ)) → is_key_columns primary ≡ true →
    list_all is_key_columns uniques ≡ true → length uniques ≤ 4 → are_keys (primary ∷ uniques) ≡ true
are_keys_of primary uniques p u most =
    let some : 1 ≤ suc (length uniques) = omega arith in
    let few : suc (length uniques) ≤ 5 = omega arith in
    both_true _ _ (both_true _ _ (le-leb _ _ some) (le-leb _ _ few)) (both_true _ _ p u)

pub keys_listed : (n count : ℕ) (primary bytes : List ℕ) (x : List (List ℕ) × List ℕ) → is_key_columns primary ≡ true → count ≤ 4
    → with_front (primary ∷ []) (items_from (λ _. key_at n) (λ _. 0) count 0 bytes) ≡ Ok x → are_keys x.0 ≡ true
keys_listed n count primary bytes x p most e =
    let a = bind_ok (items_from (λ _. key_at n) (λ _. 0) count 0 bytes) _ x e in
    let h = keys_form n count bytes a.0 a.1 in
    subst (λ (y : List (List ℕ) × List ℕ). are_keys y.0 ≡ true) (ok_is (primary ∷ a.0.0, a.0.1) x a.2)
    (are_keys_of primary a.0.0 p h.0 (rw h.1 most))

-- ---- columns

kind_chosen : (number text : Bool) (size : ℕ) → cond number (size == 0) (nat_le 1 size && nat_le size 500) ≡ true →
    is_kind (cond number kinds.Number (cond text (kinds.Text size) (kinds.Raw size))) ≡ true
kind_chosen true text size e = refl
kind_chosen false true size e = e
kind_chosen false false size e = e

kind_fits : (kind size : ℕ) → is_size_of kind size ≡ true → is_kind (kind_by_number kind size) ≡ true
kind_fits kind size e = kind_chosen (kind == 1) (kind == 2) size e

pub kind_form : (n : ℕ) (bytes : List ℕ) (x : Kind × List ℕ) → kind_at n bytes ≡ Ok x → is_kind x.0 ≡ true
unfolding kind_at
kind_form n bytes x e =
    let a = bind_ok (byte_at n bytes) _ x e in
    let g = passed (a.0.0 == 0 || nat_lt 3 a.0.0) _ _ x a.2 in
    let b = bind_ok (number_at w16 n a.0.1) _ x g.1 in
    let h = held (is_size_of a.0.0 b.0.0) _ (Ok (kind_by_number a.0.0 b.0.0, b.0.1)) x b.2 in
    subst (λ (y : Kind × List ℕ). is_kind y.0 ≡ true) (ok_is (kind_by_number a.0.0 b.0.0, b.0.1) x h.1)
    (kind_fits a.0.0 b.0.0 h.0)

pub column_form : (n : ℕ) (bytes : List ℕ) (x : Column × List ℕ) → column_at n bytes ≡ Ok x → is_kind x.0.kind ≡ true
unfolding column_at
column_form n bytes x e =
    let a = bind_ok (name_at n bytes) _ x e in
    let b = bind_ok (kind_at n a.0.1) _ x a.2 in
    let c = bind_ok (flag_at n b.0.1) _ x b.2 in
    subst (λ (y : Column × List ℕ). is_kind y.0.kind ≡ true)
    (ok_is (record { name = a.0.0; kind = b.0.0; nullable = c.0.0 }, c.0.1) x c.2) (kind_form n a.0.1 b.0 b.1)

pub columns_form : (n count : ℕ) (bytes : List ℕ) (x : List Column × List ℕ) → 1 ≤ count → count ≤ 32 →
    items_from (λ _. column_at n) (λ _. 0) count 0 bytes ≡ Ok x → are_columns x.0 ≡ true
columns_form n count bytes x some most e =
    let h = items_have (λ _. column_at n) (λ _. 0) (λ _ c. is_kind c.kind ≡ true) (λ u b y r. column_form n b y r)
    count 0 bytes x e in
    let low : 1 ≤ length x.0 = rw h.1 some in
    let high : length x.0 ≤ 32 = rw h.1 most in
    both_true _ _ (both_true _ _ (le-leb _ _ low) (le-leb _ _ high)) (chain_all (λ c. is_kind c.kind) 0 x.0 h.0)

-- ---- how many columns a key has

-- columns that rise below 32 are at most 32
rises_short : (from : ℕ) (columns : List ℕ) → from ≤ 32 → rises from columns ≡ true → from + length columns ≤ 32
rises_short from [] low e = omega (arith, low)
rises_short from (c ∷ cs) low e =
    let parts = three_true (nat_le from c) (nat_lt c 32) (rises (c + 1) cs) e in
    let above : from ≤ c = grind (arith, nat_tests, parts.0) in
    let below : c < 32 = grind (arith, nat_tests, parts.1) in
    let rest = rises_short (c + 1) cs (omega (arith, below)) parts.2 in
    omega (arith, above, rest)

pub key_short : (columns : List ℕ) → is_key_columns columns ≡ true → length columns ≤ 32
key_short columns e = let rest = rises_short 0 columns (omega arith) (second_true (nat_le 1 (length columns)) (rises 0 columns) e)
    in omega (arith, rest)
