-- Values, cells and changes: what is read is spelled so, and what is spelled so is read.
use Rattle.std.proofs.Common.{◌≡◌, ℕ, ◌+◌, ◌^◌, ◌<◌, ◌≤◌, true, false, List, [], ◌∷◌, ◌++◌, length, Ok, refl, sym, ap, subst, ◌∙◌, append_assoc, arith, inl, inr}
use Rattle.std.specs.Prelude.{ℤ, pos, negsuc, ◌||◌, ◌==◌, nat_lt, FitsSigned}
use Rattle.std.specs.Int.{w16, w32, w64, cast_signed, cast_unsigned}
use Rattle.std.specs.List.{flat_map, AllByRecursion}
use Rattle.std.specs.Str.Lossy.{utf8_valid_len}
use Rattle.std.proofs.lemmas.Bool.{ltb-false, ltb-true, leb-true, le-ltb, eqb-true, eq-eqb, ne_eqb, and_parts}
use Rattle.std.proofs.lemmas.Int.{to_z-of_z, of_z-to_z}
use Rattle.std.proofs.lemmas.Str.{utf8_valid_len-IsUtf8}
use borrow.Author.Gap.{read_sfits}
use Rattle.rl_value.specs.declared.value.Value.{Value}
use Rattle.rl_value.specs.declared.value.Value.TheVariants.{Null, Number, Text, Raw}
use Rattle.rl_value.specs.declared.xid.Xid.{Xid}
use Rattle.rl_value.specs.Text.{IsText, IsRaw, columns_rise}
use Rattle.redo_vec.specs.declared.change.Change.{Change}
use Rattle.redo_vec.specs.declared.change.Op.{Op}
use Rattle.redo_vec.specs.Spelling.{be16, be32, be64, value, cell, cells, xid}
use Rattle.redo_vec.specs.Ranges.{AreBytes, IsValue, AreCells, IsXid, IsChange}
use Rattle.redo_vec.specs.Reading.{number_at, byte_at, xid_at, content_at, text_at, value_at, rising_at, cell_at, after_cell, cells_from, cells_at, change_at}
use Rattle.redo_vec.proofs.Steps.{bind_ok, passed, held, chosen, ok_is, Chain}
use Rattle.redo_vec.proofs.Utf8.{utf8-is}
use Rattle.redo_vec.proofs.Forming.{Rises, nonzero, rising_form, chain_cells}
use Rattle.redo_vec.proofs.Takes.{IsBytes, Takes, Takes-then, tag_then, Sound, Whole, wide16, wide32, wide64, number_sound, number_whole, byte_sound, bytes_sound, bytes_whole, items_sound, items_whole}

-- ---- transaction ids

pub xid_sound : (n : ℕ) → Sound (xid_at n) xid IsXid
unfolding xid_at
xid_sound n bytes x ok e =
    let a = bind_ok (number_at w16 n bytes) _ x e in
    let b = bind_ok (number_at w16 n a.0.1) _ x a.2 in
    let c = bind_ok (number_at w32 n b.0.1) _ x b.2 in
    let ta = number_sound w16 (2 ^ 16) wide16 n bytes a.0 ok a.1 in
    let tb = number_sound w16 (2 ^ 16) wide16 n a.0.1 b.0 ta.0.rest_fits b.1 in
    let tc = number_sound w32 (2 ^ 32) wide32 n b.0.1 c.0 tb.0.rest_fits c.1 in
    let two = Takes-then bytes (be16 a.0.0) a.0.1 (be16 b.0.0) b.0.1 ta.0 tb.0 in
    let all = Takes-then bytes (be16 a.0.0 ++ be16 b.0.0) b.0.1 (be32 c.0.0) c.0.1 two tc.0 in
    subst (λ (y : Xid × List ℕ). Takes bytes (xid y.0) y.1 × IsXid y.0)
    (ok_is (record { usn = a.0.0; slot = b.0.0; sqn = c.0.0 }, c.0.1) x c.2)
    (all, record { usn = ta.1; slot = tb.1; sqn = tc.1 })

pub xid_whole : (n : ℕ) → Whole (xid_at n) xid IsXid
unfolding xid_at
xid_whole n x rest ok =
    rw (
      number_whole w16 (2 ^ 16) wide16 n x.usn (be16 x.slot ++ (be32 x.sqn ++ rest)) ok.usn,
      number_whole w16 (2 ^ 16) wide16 n x.slot (be32 x.sqn ++ rest) ok.slot,
      number_whole w32 (2 ^ 32) wide32 n x.sqn rest ok.sqn,
    ) refl

-- ---- values

pub content_sound : (n : ℕ) → Sound (content_at n) (λ t. be16 (length t) ++ t) (λ t. IsRaw t × AreBytes t)
unfolding content_at
content_sound n bytes x ok e =
    let a = bind_ok (number_at w16 n bytes) _ x e in
    let ta = number_sound w16 (2 ^ 16) wide16 n bytes a.0 ok a.1 in
    let g = passed (a.0.0 == 0) _ _ x a.2 in
    let h = passed (nat_lt 500 a.0.0) _ _ x g.1 in
    let tb = bytes_sound n a.0.0 a.0.1 x ta.0.rest_fits h.1 in
    let both = Takes-then bytes (be16 a.0.0) a.0.1 x.0 x.1 ta.0 tb.0 in
    let some : 1 ≤ length x.0 = rw tb.1.0 (nonzero a.0.0 g.0) in
    let most : length x.0 ≤ 500 = rw tb.1.0 (ltb-false _ _ h.0) in
    (subst (λ (k : ℕ). Takes bytes (be16 k ++ x.0) x.1) (sym tb.1.0) both, (record { some = some; most = most }, tb.1.1))

pub content_whole : (n : ℕ) → Whole (content_at n) (λ t. be16 (length t) ++ t) IsRaw
unfolding content_at
content_whole n t rest ok =
    let some = ok.some in
    let most = ok.most in
    let nonempty : (length t == 0) ≡ false = ne_eqb _ _ (omega arith) in
    let short : nat_lt 500 (length t) ≡ false = le-ltb _ _ most in
    rw (number_whole w16 (2 ^ 16) wide16 n (length t) (t ++ rest) (omega arith), nonempty, short) (bytes_whole n t rest)

pub text_sound : (n : ℕ) (bytes : List ℕ) (x : Value × List ℕ) → IsBytes bytes → text_at n bytes ≡ Ok x → (t : List ℕ) ×
    (x.0 ≡ Text t) × Takes bytes (be16 (length t) ++ t) x.1 × (IsText t × AreBytes t)
unfolding text_at
text_sound n bytes x ok e =
    let a = bind_ok (content_at n bytes) _ x e in
    let ta = content_sound n bytes a.0 ok a.1 in
    let g = held (utf8_valid_len a.0.0 == length a.0.0) _ (Ok (Text a.0.0, a.0.1)) x a.2 in
    let is = ok_is (Text a.0.0, a.0.1) x g.1 in
    let utf8 = utf8-is a.0.0 (eqb-true _ _ g.0) in (
      a.0.0,
      sym (ap (λ (y : Value × List ℕ). y.0) is),
      subst (λ (r : List ℕ). Takes bytes (be16 (length a.0.0) ++ a.0.0) r)
          (ap (λ (y : Value × List ℕ). y.1) is) ta.0,
      (record { some = ta.1.0.some; most = ta.1.0.most; utf8 = utf8 }, ta.1.1),
    )

pub value_sound : (n : ℕ) → Sound (value_at n) value IsValue
unfolding value_at
value_sound n bytes x ok e =
    let a = bind_ok (byte_at n bytes) _ x e in
    let ta = byte_sound n bytes a.0 ok a.1 in
    let goal : Value × List ℕ → Type 0 = λ y. Takes bytes (value y.0) y.1 × IsValue y.0 in
    elim (chosen (a.0.0 == 0) _ _ (Ok x) a.2) [
      | inl h ↦ subst goal (ok_is (Null, a.0.1) x h.1) (subst (λ (k : ℕ). Takes bytes (k ∷ []) a.0.1) (eqb-true _ _ h.0) ta.0, tt)
      | inr h0 ↦ elim (chosen (a.0.0 == 1) _ _ (Ok x) h0.1) [
        | inl h ↦
            let z = bind_ok (number_at w64 n a.0.1) _ x h.1 in
            let tz = number_sound w64 (2 ^ 64) wide64 n a.0.1 z.0 ta.0.rest_fits z.1 in
            let back : cast_unsigned w64 (cast_signed w64 z.0.0) ≡ z.0.0 = of_z-to_z w64 z.0.0 tz.1 in
            let takes : Takes bytes (1 ∷ be64 z.0.0) z.0.1 =
            tag_then bytes a.0.1 z.0.1 (be64 z.0.0) a.0.0 1 (eqb-true _ _ h.0) ta.0 tz.0 in
            subst goal (ok_is (Number (cast_signed w64 z.0.0), z.0.1) x z.2)
            (subst (λ (k : ℕ). Takes bytes (1 ∷ be64 k) z.0.1) (sym back) takes, read_sfits w64 z.0.0)
        | inr h1 ↦ elim (chosen (a.0.0 == 2) _ _ (Ok x) h1.1) [
          | inl h ↦
              let t = text_sound n a.0.1 x ta.0.rest_fits h.1 in
              let takes = tag_then bytes a.0.1 x.1 (be16 (length t.0) ++ t.0) a.0.0 2 (eqb-true _ _ h.0) ta.0 t.2 in
              subst (λ (v : Value). Takes bytes (value v) x.1 × IsValue v) (sym t.1) (takes, t.3)
          | inr h2 ↦
              let g = held (a.0.0 == 3) _ _ x h2.1 in
              let r = bind_ok (content_at n a.0.1) _ x g.1 in
              let tr = content_sound n a.0.1 r.0 ta.0.rest_fits r.1 in
              let takes = tag_then bytes a.0.1 r.0.1 (be16 (length r.0.0) ++ r.0.0) a.0.0 3 (eqb-true _ _ g.0) ta.0 tr.0 in
              subst goal (ok_is (Raw r.0.0, r.0.1) x r.2) (takes, tr.1)
        ]
      ]
    ]

unsigned_below : (z : ℤ) → FitsSigned w64 z → cast_unsigned w64 z < 2 ^ 64
unsigned_below (pos k) ok = omega (arith, ok)
unsigned_below (negsuc k) ok = omega (arith, ok)

pub value_whole : (n : ℕ) → Whole (value_at n) value IsValue
unfolding value_at text_at
value_whole n Null rest ok = refl
value_whole n (Number z) rest ok =
    let below : cast_unsigned w64 z < 2 ^ 64 = unsigned_below z ok in
    rw (number_whole w64 (2 ^ 64) wide64 n (cast_unsigned w64 z) rest below, to_z-of_z w64 z ok) refl
value_whole n (Text t) rest ok =
    let raw : IsRaw t = record { some = ok.0.some; most = ok.0.most } in
    rw (content_whole n t rest raw, eq-eqb _ _ (utf8_valid_len-IsUtf8 t ok.0.utf8)) refl
value_whole n (Raw t) rest ok = rw (content_whole n t rest ok.0) refl

-- ---- cells

abbrev IsCell : ℕ → ℕ × Value → Type 0
IsCell from c = Rises from c.0 × IsValue c.1

cell_sound : (n from : ℕ) → Sound (cell_at n from) cell (IsCell from)
cell_sound n from bytes x ok e =
    let a = bind_ok (rising_at n from bytes) _ x e in
    let b = bind_ok (value_at n a.0.1) _ x a.2 in
    let r = bind_ok (byte_at n bytes) _ a.0 a.1 in
    let g = passed (nat_lt r.0.0 from || nat_lt 31 r.0.0) _ (Ok r.0) a.0 r.2 in
    let tr = byte_sound n bytes r.0 ok r.1 in
    let ta : Takes bytes (a.0.0 ∷ []) a.0.1 = subst (λ (y : ℕ × List ℕ). Takes bytes (y.0 ∷ []) y.1) (ok_is r.0 a.0 g.1) tr.0 in
    let tb = value_sound n a.0.1 b.0 ta.rest_fits b.1 in
    subst (λ (y : (ℕ × Value) × List ℕ). Takes bytes (cell y.0) y.1 × IsCell from y.0) (ok_is ((a.0.0, b.0.0), b.0.1) x b.2)
    (Takes-then bytes (a.0.0 ∷ []) a.0.1 (value b.0.0) b.0.1 ta tb.0, (rising_form n from bytes a.0 a.1, tb.1))

pub rising_whole : (n from column : ℕ) (rest : List ℕ) → Rises from column → rising_at n from (column ∷ rest) ≡ Ok (column, rest)
rising_whole n from column rest ok =
    let low = ok.low in
    let high = ok.high in
    let above : nat_lt column from ≡ false = le-ltb _ _ low in
    let below : nat_lt 31 column ≡ false = le-ltb _ _ (omega arith) in
    rw (above, below) refl

cell_whole : (n from : ℕ) → Whole (cell_at n from) cell (IsCell from)
cell_whole n from (column, v) rest ok = rw (rising_whole n from column (value v ++ rest) ok.0, value_whole n v rest ok.1) refl

chain_of : (from : ℕ) (cs : List (ℕ × Value)) → columns_rise from cs ≡ true → AllByRecursion (λ c. IsValue c.1) cs →
    Chain IsCell after_cell from cs
chain_of from [] r ok = tt
chain_of from (c ∷ cs) r ok =
    let p = and_parts _ _ r in
    let q = and_parts _ _ p.0 in
    ((record { low = leb-true _ _ q.0; high = ltb-true _ _ q.1 }, ok.0), chain_of (c.0 + 1) cs p.1 ok.1)

chain_forms : (from : ℕ) (cs : List (ℕ × Value)) → Chain IsCell after_cell from cs →
    Chain (λ u c. Rises u c.0) after_cell from cs × AllByRecursion (λ c. IsValue c.1) cs
chain_forms from [] h = (tt, tt)
chain_forms from (c ∷ cs) h = let more = chain_forms (c.0 + 1) cs h.1 in ((h.0.0, more.0), (h.0.1, more.1))

pub cells_few : (from : ℕ) (cs : List (ℕ × Value)) → from ≤ 32 → columns_rise from cs ≡ true → from + length cs ≤ 32
cells_few from [] low r = omega arith
cells_few from (c ∷ cs) low r =
    let p = and_parts _ _ r in
    let q = and_parts _ _ p.0 in
    let above : from ≤ c.0 = leb-true _ _ q.0 in
    let below : c.0 < 32 = ltb-true _ _ q.1 in
    let more : c.0 + 1 + length cs ≤ 32 = cells_few (c.0 + 1) cs (omega arith) p.1 in
    omega arith

pub cells_sound : (n : ℕ) → Sound (cells_at n) cells AreCells
unfolding cells_at cells_from
cells_sound n bytes x ok e =
    let a = bind_ok (byte_at n bytes) _ x e in
    let ta = byte_sound n bytes a.0 ok a.1 in
    let g = passed (nat_lt 32 a.0.0) _ _ x a.2 in
    let tb = items_sound (cell_at n) after_cell cell IsCell (λ u b y k h. cell_sound n u b y k h) a.0.0 0 a.0.1 x
    ta.0.rest_fits g.1 in
    let takes = tag_then bytes a.0.1 x.1 (flat_map cell x.0) a.0.0 (length x.0) (sym tb.1.1) ta.0 tb.0 in
    let forms = chain_forms 0 x.0 tb.1.0 in
    (takes, (chain_cells 0 x.0 forms.0, forms.1))

pub cells_whole : (n : ℕ) → Whole (cells_at n) cells AreCells
unfolding cells_at cells_from
cells_whole n cs rest ok =
    let few : length cs ≤ 32 = (let h = cells_few 0 cs (omega arith) ok.0 in omega arith) in
    let short : nat_lt 32 (length cs) ≡ false = le-ltb _ _ few in
    rw short (items_whole (cell_at n) after_cell cell IsCell (λ u c r h. cell_whole n u c r h) cs 0 rest
    (chain_of 0 cs ok.0 ok.1))

-- ---- changes

-- the body of a change, behind its kind
abbrev pub body : Change → List ℕ
body c = xid c.xid ++ be32 c.table ++ cells c.old ++ cells c.new

pub change_sound : (o : Op) (n : ℕ) (bytes : List ℕ) (x : Change × List ℕ) → IsBytes bytes → change_at o n bytes ≡ Ok x →
    Takes bytes (body x.0) x.1 × IsChange x.0 × (x.0.op ≡ o)
unfolding change_at
change_sound o n bytes x ok e =
    let a = bind_ok (xid_at n bytes) _ x e in
    let b = bind_ok (number_at w32 n a.0.1) _ x a.2 in
    let c = bind_ok (cells_at n b.0.1) _ x b.2 in
    let d = bind_ok (cells_at n c.0.1) _ x c.2 in
    let ta = xid_sound n bytes a.0 ok a.1 in
    let tb = number_sound w32 (2 ^ 32) wide32 n a.0.1 b.0 ta.0.rest_fits b.1 in
    let tc = cells_sound n b.0.1 c.0 tb.0.rest_fits c.1 in
    let td = cells_sound n c.0.1 d.0 tc.0.rest_fits d.1 in
    let two = Takes-then bytes (xid a.0.0) a.0.1 (be32 b.0.0) b.0.1 ta.0 tb.0 in
    let three = Takes-then bytes (xid a.0.0 ++ be32 b.0.0) b.0.1 (cells c.0.0) c.0.1 two tc.0 in
    let all = Takes-then bytes (xid a.0.0 ++ be32 b.0.0 ++ cells c.0.0) c.0.1 (cells d.0.0) d.0.1 three td.0 in
    let made : Change = record { xid = a.0.0; op = o; table = b.0.0; old = c.0.0; new = d.0.0 } in
    subst (λ (y : Change × List ℕ). Takes bytes (body y.0) y.1 × IsChange y.0 × (y.0.op ≡ o)) (ok_is (made, d.0.1) x d.2)
    (all, record { xid = ta.1; table = tb.1; old = tc.1; new = td.1 }, refl)

pub change_whole : (n : ℕ) (c : Change) (rest : List ℕ) → IsChange c → change_at c.op n (body c ++ rest) ≡ Ok (c, rest)
unfolding change_at
change_whole n c rest ok =
    let regrouped : body c ++ rest ≡ xid c.xid ++ (be32 c.table ++ (cells c.old ++ (cells c.new ++ rest))) =
    simp append_assoc refl in
    ap (change_at c.op n) regrouped ∙ rw (
      xid_whole n c.xid (be32 c.table ++ (cells c.old ++ (cells c.new ++ rest))) ok.xid,
      number_whole w32 (2 ^ 32) wide32 n c.table (cells c.old ++ (cells c.new ++ rest)) ok.table,
      cells_whole n c.old (cells c.new ++ rest) ok.old,
      cells_whole n c.new rest ok.new,
    ) refl
