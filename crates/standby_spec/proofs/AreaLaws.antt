-- Laws of areas: the pairs of one area of a store, in order, and those of the items of a state.
use Rattle.std.proofs.Common.{◌≡◌, ℕ, ◌+◌, ◌*◌, ◌^◌, ◌<◌, List, [], ◌∷◌, ◌++◌, map, filter, get_or, Bool, true, false, cond, refl, sym, ap, ◌∙◌, subst, Option, Some, None, arith}
use Rattle.std.specs.Prelude.{◌&&◌, ◌==◌, nat_eq, nat_le}
use Rattle.std.proofs.Math.Dec.{T}
use Rattle.std.specs.Option.{option_or}
use Rattle.std.specs.declared.cmp.Ordering.{Ordering}
use Rattle.std.specs.declared.cmp.Ordering.TheVariants.{Less, Equal, Greater}
use Rattle.std.specs.Ordering.{is_eq, is_lt, nat_cmp, ordering_then, eq_by_cmp}
use Rattle.std.specs.Cmp.{ranked, tied_itself, nat_cmp_total}
use Rattle.std.specs.Cmp.Lexicographic.{slice_cmp, pointwise, nat_list_cmp_total, texts_ties}
use Rattle.std.specs.FinMap.Entries as entries
use Rattle.std.proofs.lemmas.Bool.Decides.{nat_tests}
use Rattle.rl_value.specs.Order.{bytes_cmp}
use Rattle.rl_ports.specs.declared.batch.Item.{Item}
use Rattle.rl_ports.specs.declared.batch.Item.TheVariants.{Put}
use Rattle.rl_ports.specs.Store.{Store, place_cmp, after_batch}
use Rattle.redo_vec.specs.Spelling.{be32}
use Rattle.standby_spec.specs.Loading.{KeyValue, last_area, kept_pairs, of_area}
use Rattle.standby_spec.proofs.StoreLaws.{both-true, first-of, second-of, to_T, from_T, same_nat, bytes_is, place_ties, value_after, value_after_all, found-after-all, sorted-after-all}

-- ---- numbers in order of their bytes

first-differs : (x y : ℕ) (rest : Ordering) (r : Ordering) → r ≡ nat_cmp x y → (y < x → ⊥) → (x ≡ y → rest ≡ Less) →
    ordering_then r rest ≡ Less
first-differs x y rest Less e above same = refl
first-differs x y rest Equal e above same = let like : x ≡ y = ranked x y Equal e in same like
first-differs x y rest Greater e above same = let more : y < x = ranked x y Greater e in absurd (above more)

digits-rise : (a b c d e f g h : ℕ) → b < 256 → c < 256 → d < 256 → f < 256 → g < 256 → h < 256 →
    a * 16777216 + b * 65536 + c * 256 + d < e * 16777216 + f * 65536 + g * 256 + h →
    slice_cmp nat_cmp (a ∷ b ∷ c ∷ d ∷ []) (e ∷ f ∷ g ∷ h ∷ []) ≡ Less
digits-rise a b c d e f g h lb lc ld lf lg lh lt =
    first-differs a e (slice_cmp nat_cmp (b ∷ c ∷ d ∷ []) (f ∷ g ∷ h ∷ [])) (nat_cmp a e) refl
    (λ x. omega (arith, x, lt, lb, lc, ld)) (λ i.
    first-differs b f (slice_cmp nat_cmp (c ∷ d ∷ []) (g ∷ h ∷ [])) (nat_cmp b f) refl
    (λ x. omega (arith, x, i, lt, lc, ld)) (λ j.
    first-differs c g (slice_cmp nat_cmp (d ∷ []) (h ∷ [])) (nat_cmp c g) refl
    (λ x. omega (arith, x, i, j, lt, ld)) (λ k.
    first-differs d h Equal (nat_cmp d h) refl
    (λ x. omega (arith, x, i, j, k, lt)) (λ l. absurd (omega (arith, i, j, k, l, lt))))))

digit : ℕ → ℕ → ℕ
digit i n = get_or (be32 n) i 0

pub number-rises : (m n : ℕ) → m < 2 ^ 32 → n < 2 ^ 32 → m < n → bytes_cmp (be32 m) (be32 n) ≡ Less
unfolding digit
number-rises m n f g lt =
    digits-rise (digit 0 m) (digit 1 m) (digit 2 m) (digit 3 m) (digit 0 n) (digit 1 n) (digit 2 n) (digit 3 n)
    (omega arith) (omega arith) (omega arith) (omega arith) (omega arith) (omega arith) (omega (arith, f, g, lt))

-- ---- lists in order of their keys

below-step : {K X : Type 0} (R : K → K → Ordering) (k : K) (e : K × X) (rest : Option X) → T (is_lt (R k e.0)) → rest ≡ None →
    (r : Ordering) → R k e.0 ≡ r →
    cond (is_eq r) (Some e.1) rest ≡ None
below-step R k e rest lt none Less is = none
below-step R k e rest lt none Equal is = absurd (subst (λ r. T (is_lt r)) is lt)
below-step R k e rest lt none Greater is = none

pub none-below : {K X : Type 0} (R : K → K → Ordering) (k : K) (es : List (K × X)) → T (entries.below_all R k es) →
    entries.find R k es ≡ None
none-below R k [] h = refl
none-below R k (e ∷ es) h =
    below-step R k e (entries.find R k es) (first-of _ _ h) (none-below R k es (second-of _ _ h)) (R k e.0) refl

-- ---- one area of a store

abbrev without-area : (ℕ × List ℕ) × List ℕ → KeyValue
without-area e = (e.0.1, e.1)

found-step : (a : ℕ) (key : List ℕ) (e : (ℕ × List ℕ) × List ℕ) (rest : List KeyValue) (other : Option (List ℕ)) →
    entries.find bytes_cmp key rest ≡ other → (t : Bool) → (e.0.0 == a) ≡ t →
    entries.find bytes_cmp key (map without-area (cond t (e ∷ []) []) ++ rest)
    ≡ cond (eq_by_cmp place_cmp (a, key) e.0) (Some e.1) other
found-step a key e rest other is true t =
    let like : (a == e.0.0) ≡ true = grind (arith, nat_tests) in
    (λ i. cond (sym (texts_ties key e.0.1) i) (Some e.1) (is i))
    ∙ sym (ap (λ b. cond (b && pointwise nat_eq key e.0.1) (Some e.1) other) like)
    ∙ ap (λ b. cond b (Some e.1) other) (place_ties (a, key) e.0)
found-step a key e rest other is false t =
    let apart : (a == e.0.0) ≡ false = grind (arith, nat_tests) in
    is
    ∙ sym (ap (λ b. cond (b && pointwise nat_eq key e.0.1) (Some e.1) other) apart)
    ∙ ap (λ b. cond b (Some e.1) other) (place_ties (a, key) e.0)

area-step : (a : ℕ) (e : (ℕ × List ℕ) × List ℕ) (s : Store) (t : Bool) →
    map without-area (cond t (e ∷ filter (λ p. p.0.0 == a) s) (filter (λ p. p.0.0 == a) s))
    ≡ map without-area (cond t (e ∷ []) []) ++ of_area a s
area-step a e s true = refl
area-step a e s false = refl

pub found-in-area : (a : ℕ) (key : List ℕ) (s : Store) →
    entries.find bytes_cmp key (of_area a s) ≡ entries.find place_cmp (a, key) s
found-in-area a key [] = refl
found-in-area a key (e ∷ s) =
    ap (entries.find bytes_cmp key) (area-step a e s (e.0.0 == a))
    ∙ found-step a key e (of_area a s) (entries.find place_cmp (a, key) s) (found-in-area a key s) (e.0.0 == a) refl

less-key : (a : ℕ) (key : List ℕ) (q : ℕ × List ℕ) → T (is_lt (place_cmp (a, key) q)) → (q.0 == a) ≡ true →
    T (is_lt (bytes_cmp key q.1))
less-key a key q h is =
    let same : q.0 ≡ a = same_nat q.0 a is in
    let like : nat_cmp a q.0 ≡ Equal = ap (nat_cmp a) same ∙ tied_itself nat_cmp_total a in
    subst (λ r. T (is_lt (ordering_then r (bytes_cmp key q.1)))) like h

below-area-step : (a : ℕ) (key : List ℕ) (e : (ℕ × List ℕ) × List ℕ) (s : Store) → T (is_lt (place_cmp (a, key) e.0)) →
    T (entries.below_all bytes_cmp key (of_area a s)) → (t : Bool) → (e.0.0 == a) ≡ t →
    T (entries.below_all bytes_cmp key (map without-area (cond t (e ∷ filter (λ p. p.0.0 == a) s) (filter (λ p. p.0.0 == a) s))))
below-area-step a key e s h rest true is = to_T _ (both-true _ _ (from_T _ (less-key a key e.0 h is)) (from_T _ rest))
below-area-step a key e s h rest false is = rest

below-area : (a : ℕ) (key : List ℕ) (s : Store) → T (entries.below_all place_cmp (a, key) s) →
    T (entries.below_all bytes_cmp key (of_area a s))
below-area a key [] h = tt
below-area a key (e ∷ s) h =
    below-area-step a key e s (first-of _ _ h) (below-area a key s (second-of _ _ h)) (e.0.0 == a) refl

sorted-area-step : (a : ℕ) (e : (ℕ × List ℕ) × List ℕ) (s : Store) → T (entries.below_all place_cmp e.0 s) →
    T (entries.is_sorted bytes_cmp (of_area a s)) → (t : Bool) → (e.0.0 == a) ≡ t →
    T (entries.is_sorted bytes_cmp (map without-area (cond t (e ∷ filter (λ p. p.0.0 == a) s) (filter (λ p. p.0.0 == a) s))))
sorted-area-step a e s h rest true is =
    let same : e.0.0 ≡ a = same_nat e.0.0 a is in
    let below : T (entries.below_all bytes_cmp e.0.1 (of_area a s)) =
    below-area a e.0.1 s (subst (λ x. T (entries.below_all place_cmp (x, e.0.1) s)) same h) in
    to_T _ (both-true _ _ (from_T _ below) (from_T _ rest))
sorted-area-step a e s h rest false is = rest

pub sorted-area : (a : ℕ) (s : Store) → T (entries.is_sorted place_cmp s) → T (entries.is_sorted bytes_cmp (of_area a s))
sorted-area a [] h = tt
sorted-area a (e ∷ s) h = sorted-area-step a e s (first-of _ _ h) (sorted-area a s (second-of _ _ h)) (e.0.0 == a) refl

same-key : (x y : List ℕ) → bytes_cmp x y ≡ Equal → x ≡ y
same-key x y e = bytes_is x y (texts_ties x y ∙ ap is_eq e)

-- an area is the list in order that has its keys
pub area-is : (a : ℕ) (s : Store) (ps : List KeyValue) → T (entries.is_sorted place_cmp s) → T (entries.is_sorted bytes_cmp ps) →
    ((key : List ℕ) → entries.find bytes_cmp key ps ≡ entries.find place_cmp (a, key) s) → of_area a s ≡ ps
area-is a s ps g h is = entries.same_entries bytes_cmp nat_list_cmp_total same-key (of_area a s) ps (sorted-area a s g) h
    (λ key. found-in-area a key s ∙ sym (is key))

-- the kept pairs have the areas of the layout as they are
with-entry : (e : (ℕ × List ℕ) × List ℕ) (x y : Store) (t : Bool) → map without-area x ≡ map without-area y →
    map without-area (cond t (e ∷ x) x) ≡ map without-area (cond t (e ∷ y) y)
with-entry e x y true is = ap (λ ps. (e.0.1, e.1) ∷ ps) is
with-entry e x y false is = is

kept-step : (a : ℕ) (e : (ℕ × List ℕ) × List ℕ) (s : Store) → (nat_le 1 a && nat_le a last_area) ≡ true →
    of_area a (kept_pairs s) ≡ of_area a s →
    (k : Bool) → (nat_le 1 e.0.0 && nat_le e.0.0 last_area) ≡ k → (t : Bool) → (e.0.0 == a) ≡ t →
    of_area a (cond k (e ∷ kept_pairs s) (kept_pairs s))
    ≡ map without-area (cond t (e ∷ filter (λ p. p.0.0 == a) s) (filter (λ p. p.0.0 == a) s))
kept-step a e s fits rest true kept t is =
    ap (λ b. map without-area (cond b (e ∷ filter (λ p. p.0.0 == a) (kept_pairs s)) (filter (λ p. p.0.0 == a) (kept_pairs s)))) is
    ∙ with-entry e (filter (λ p. p.0.0 == a) (kept_pairs s)) (filter (λ p. p.0.0 == a) s) t rest
kept-step a e s fits rest false kept true is =
    let same : e.0.0 ≡ a = same_nat e.0.0 a is in
    let out : (nat_le 1 a && nat_le a last_area) ≡ false = subst (λ x. (nat_le 1 x && nat_le x last_area) ≡ false) same kept in
    absurd (cc)
kept-step a e s fits rest false kept false is = rest

pub kept-area : (a : ℕ) (s : Store) → (nat_le 1 a && nat_le a last_area) ≡ true → of_area a (kept_pairs s) ≡ of_area a s
kept-area a [] fits = refl
kept-area a (e ∷ s) fits =
    kept-step a e s fits (kept-area a s fits) (nat_le 1 e.0.0 && nat_le e.0.0 last_area) refl (e.0.0 == a) refl

-- ---- pairs of items

abbrev pub put_items : ℕ → List KeyValue → List Item
put_items a ps = map (λ p. Put a p.0 p.1) ps

put-step : (a : ℕ) (key : List ℕ) (p : KeyValue) (ps : List KeyValue) (old : Option (List ℕ)) →
    T (entries.below_all bytes_cmp p.0 ps) →
    (t : Bool) → pointwise nat_eq key p.0 ≡ t →
    option_or (entries.find bytes_cmp key ps) (cond t (Some p.1) old) ≡
    option_or (cond t (Some p.1) (entries.find bytes_cmp key ps)) old
put-step a key p ps old h true is =
    ap (λ x. option_or x (Some p.1)) (ap (λ k. entries.find bytes_cmp k ps) (bytes_is key p.0 is) ∙ none-below bytes_cmp p.0 ps h)
put-step a key p ps old h false is = refl

same_area : (a : ℕ) → (a == a) ≡ true
same_area a = grind (arith, nat_tests)

-- under a key stands what the list has there
pub put-found : (a : ℕ) (key : List ℕ) (ps : List KeyValue) (old : Option (List ℕ)) → T (entries.is_sorted bytes_cmp ps) →
    value_after_all (a, key) (put_items a ps) old ≡ option_or (entries.find bytes_cmp key ps) old
put-found a key [] old h = refl
put-found a key (p ∷ ps) old h =
    put-found a key ps (value_after (a, key) (Put a p.0 p.1) old) (second-of _ _ h)
    ∙ ap (λ b. option_or (entries.find bytes_cmp key ps) (cond (b && pointwise nat_eq key p.0) (Some p.1) old)) (same_area a)
    ∙ put-step a key p ps old (first-of _ _ h) (pointwise nat_eq key p.0) refl
    ∙ ap (λ b. option_or (cond b (Some p.1) (entries.find bytes_cmp key ps)) old) (texts_ties key p.0)

pub or-none : (x : Option (List ℕ)) → option_or x None ≡ x
or-none None = refl
or-none (Some v) = refl

-- the pairs of an area of what items leave, where the others leave that area as it is
pub area-of-items : (a : ℕ) (items : List Item) (ps : List KeyValue) → T (entries.is_sorted bytes_cmp ps) →
    ((key : List ℕ) → value_after_all (a, key) items None ≡ value_after_all (a, key) (put_items a ps) None) →
    of_area a (after_batch items []) ≡ ps
area-of-items a items ps h is = area-is a (after_batch items []) ps (sorted-after-all items [] tt) h
    (λ key. sym (found-after-all (a, key) items [] ∙ is key ∙ put-found a key ps None h ∙
    or-none (entries.find bytes_cmp key ps)))
