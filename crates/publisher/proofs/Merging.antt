-- Laws of merged rows: items of rows by their keys, each once, leave what all of them leave one after the other.
use Rattle.std.proofs.Common.{◌≡◌, ℕ, ◌+◌, List, [], ◌∷◌, ◌++◌, map, length, Bool, true, false, cond, refl, sym, ap, ◌∙◌, subst, Option, Some, None, arith}
use Rattle.std.proofs.Math.Dec.{T}
use Rattle.std.specs.Prelude.{◌&&◌, ◌==◌, nat_eq, if◌then◌else◌, IsTrue}
use Rattle.std.specs.BTreeMap.{insert_entry}
use Rattle.std.specs.Cmp.Lexicographic.{pointwise, texts_ties}
use Rattle.std.specs.FinMap.Entries as entries
use Rattle.std.specs.List.{AllByRecursion, list_all}
use Rattle.std.specs.declared.cmp.Ordering.{Ordering}
use Rattle.std.specs.declared.cmp.Ordering.TheVariants.{Less, Equal, Greater}
use Rattle.std.specs.Ordering.{is_eq, is_lt, match_ordering}
use Rattle.rl_value.specs.Order.{bytes_cmp, bytes_total}
use Rattle.rl_value.specs.declared.value.Value.{Value}
use Rattle.rl_ports.specs.declared.batch.Item.{Item}
use Rattle.rl_ports.specs.declared.batch.Item.TheVariants.{Put, Drop}
use Rattle.rl_ports.specs.Store.{is_key, have_keys, same_place, key_of, place_cmp, after_batch}
use Rattle.redo_spec.specs.Tables.{Tables}
use Rattle.row_apply.specs.declared.writes.Write.{Write}
use Rattle.row_apply.specs.Overlaid.{overlaid}
use Rattle.standby_spec.specs.KeptState.{KeptState}
use Rattle.standby_spec.specs.Layout.{applied_item}
use Rattle.standby_spec.specs.Refusals.{passes_limit, front_of}
use Rattle.standby_spec.specs.Writings.{Writing, Publish, writable, write_item, write_item_of, state_after, state_after_all, items_for_all}
use Rattle.standby_spec.proofs.StoreLaws.{and-left, and-right, to_T, first-of, second-of, bytes_is, same_nat, value_after, value_after_all, value-append, found-after-all, sorted-after-all, same_store, area_of, StaysIn, in-none, in-more, in-one, in-map, in-append}
use Rattle.eager_work.specs.declared.commit.Commit.{Commit}
use Rattle.publisher.specs.Groups.{are_numbered, parts_of}
use Rattle.publisher.specs.MergedRows.{ByKey, items_in, entered, entered_all}
use Rattle.publisher.specs.PreparesGroup.{LeadsAlike, tables_behind_all, rows_of_all, count_within, last_number, last_scn}
use Rattle.publisher.proofs.Ready.{write-key, both, all-append}

-- ---- places

abbrev pub place_of : Item → ℕ × List ℕ
place_of (Put area key value) = (area, key)
place_of (Drop area key) = (area, key)

-- what an item leaves under a place
abbrev put_of : Item → Option (List ℕ)
put_of (Put area key value) = Some value
put_of (Drop area key) = None

left-by : (q : ℕ × List ℕ) (i : Item) (old : Option (List ℕ)) →
    value_after q i old ≡ cond (same_place q (place_of i)) (put_of i) old
left-by q (Put area key value) old = refl
left-by q (Drop area key) old = refl

cond-same : (a b : Bool) (x y old : Option (List ℕ)) → a ≡ b → cond a x (cond b y old) ≡ cond a x old
cond-same true true x y old e = refl
cond-same true false x y old e = absurd (cc)
cond-same false true x y old e = absurd (cc)
cond-same false false x y old e = refl

-- of two items of one place the later one stays
pub later-stays : (q : ℕ × List ℕ) (i j : Item) (old : Option (List ℕ)) → place_of i ≡ place_of j →
    value_after q i (value_after q j old) ≡ value_after q i old
later-stays q i j old same =
    left-by q i (value_after q j old)
    ∙ ap (cond (same_place q (place_of i)) (put_of i)) (left-by q j old)
    ∙ cond-same (same_place q (place_of i)) (same_place q (place_of j)) (put_of i) (put_of j) old (ap (same_place q) same)
    ∙ sym (left-by q i old)

-- ---- rows by their keys

-- the item is of a row, and names this key
record IsOfRow (e : List ℕ × Item) : Type 0 where
  pub area : area_of e.1 ≡ 5
  pub key : key_of e.1 ≡ e.0
  pub keyed : is_key (key_of e.1) ≡ true

-- the keys rise, and the items are of rows and name them
record IsRows (es : ByKey) : Type 0 where
  pub sorted : T (entries.is_sorted bytes_cmp es)
  pub rows : AllByRecursion IsOfRow es

no-rows : IsRows []
no-rows = record { sorted = tt; rows = tt }

place-is : (i : Item) → place_of i ≡ (area_of i, key_of i)
place-is (Put area key value) = refl
place-is (Drop area key) = refl

row-place : (e : List ℕ × Item) → IsOfRow e → place_of e.1 ≡ (5, e.0)
row-place e is = place-is e.1 ∙ (λ i. (is.area i, is.key i))

write-area-of : (id : ℕ) (key : List Value) (row : Option (List Value)) → area_of (write_item_of id key row) ≡ 5
write-area-of id key None = refl
write-area-of id key (Some row) = refl

write-area : (w : Write) → area_of (write_item w) ≡ 5
write-area w = write-area-of w.table w.key w.row

write-row : (w : Write) → IsOfRow (key_of (write_item w), write_item w)
write-row w = record {
  area = write-area w;
  key = refl;
  keyed = write-key w.table w.key w.row;
}

-- rows leave what stands in other areas
rows-stay : (es : ByKey) → AllByRecursion IsOfRow es → StaysIn 5 (items_in es)
rows-stay [] all = in-none 5
rows-stay (e ∷ es) all = in-more 5 e.1 (items_in es) all.0.area (rows-stay es all.1)

-- ---- a row entered

chosen : (r : Ordering) (a b c d : ByKey) → c ≡ d → match_ordering r a b c ≡ entries.by_order r a b d
chosen Less a b c d e = refl
chosen Equal a b c d e = refl
chosen Greater a b c d e = e

insert-put : (es : ByKey) (k : List ℕ) (i : Item) → insert_entry bytes_cmp es k i ≡ entries.put bytes_cmp k i es
insert-put [] k i = refl
insert-put (e ∷ es) k i = chosen (bytes_cmp k e.0) ((k, i) ∷ e ∷ es) ((e.0, i) ∷ es) (e ∷ insert_entry bytes_cmp es k i)
    (e ∷ entries.put bytes_cmp k i es) (ap (λ x. e ∷ x) (insert-put es k i))

same-key : (k l : List ℕ) → bytes_cmp k l ≡ Equal → k ≡ l
same-key k l e = bytes_is k l (texts_ties k l ∙ ap is_eq e)

put-rows-at : (r : Ordering) (e : List ℕ × Item) (es : ByKey) (k : List ℕ) (i : Item) → bytes_cmp k e.0 ≡ r → IsOfRow (k, i) →
    IsOfRow e → AllByRecursion IsOfRow es → AllByRecursion IsOfRow (entries.put bytes_cmp k i es) →
    AllByRecursion IsOfRow (entries.by_order r ((k, i) ∷ e ∷ es) ((e.0, i) ∷ es) (e ∷ entries.put bytes_cmp k i es))
put-rows-at Less e es k i c is old rest put = (is, (old, rest))
put-rows-at Equal e es k i c is old rest put = (
  record {
    area = is.area;
    key = is.key ∙ same-key k e.0 c;
    keyed = is.keyed;
  },
  rest,
)
put-rows-at Greater e es k i c is old rest put = (old, put)

put-rows : (es : ByKey) (k : List ℕ) (i : Item) → IsOfRow (k, i) → AllByRecursion IsOfRow es →
    AllByRecursion IsOfRow (entries.put bytes_cmp k i es)
put-rows [] k i is all = (is, tt)
put-rows (e ∷ es) k i is all = put-rows-at (bytes_cmp k e.0) e es k i refl is all.0 all.1 (put-rows es k i is all.1)

put-is : (es : ByKey) (w : Write) → IsRows es → IsRows (entries.put bytes_cmp (key_of (write_item w)) (write_item w) es)
put-is es w is = record {
  sorted = entries.is_sorted-put bytes_cmp bytes_total (key_of (write_item w)) (write_item w) es is.sorted;
  rows = put-rows es (key_of (write_item w)) (write_item w) (write-row w) is.rows;
}

entered-is : (es : ByKey) (w : Write) → IsRows es → IsRows (entered es w)
entered-is es w is = subst IsRows (sym (insert-put es (key_of (write_item w)) (write_item w))) (put-is es w is)

entered-all-is : (ws : List Write) (es : ByKey) → IsRows es → IsRows (entered_all es ws)
entered-all-is [] es is = is
entered-all-is (w ∷ ws) es is = entered-all-is ws (entered es w) (entered-is es w is)

rows-all-is : (cs : List Commit) (es : ByKey) (tables : Tables) → IsRows es → IsRows (rows_of_all es tables cs)
rows-all-is [] es tables is = is
rows-all-is (c ∷ cs) es tables is =
    rows-all-is cs (entered_all es (writable tables c.writes)) (overlaid tables (writable tables c.writes))
    (entered-all-is (writable tables c.writes) es is)

rows-keyed : (es : ByKey) → AllByRecursion IsOfRow es → have_keys (items_in es) ≡ true
rows-keyed [] all = refl
rows-keyed (e ∷ es) all = both (is_key (key_of e.1)) (have_keys (items_in es)) all.0.keyed (rows-keyed es all.1)

-- the rows of all commits with their count behind them name keys
pub group-key : (tables : Tables) (cs : List Commit) (n at_scn : ℕ) →
    have_keys (items_in (rows_of_all [] tables cs) ++ applied_item n at_scn ∷ []) ≡ true
group-key tables cs n at_scn =
    all-append (λ i. is_key (key_of i)) (items_in (rows_of_all [] tables cs)) (applied_item n at_scn ∷ [])
    (rows-keyed (rows_of_all [] tables cs) (rows-all-is cs [] tables no-rows).rows) refl

-- ---- what rows leave under a place

-- what the item that is found leaves
abbrev seen : ℕ × List ℕ → Option Item → Option (List ℕ) → Option (List ℕ)
seen q None old = old
seen q (Some i) old = value_after q i old

and-false : (a b : Bool) → b ≡ false → (a && b) ≡ false
and-false true b e = e
and-false false b e = refl

and-both : (a b : Bool) → a ≡ true → b ≡ true → (a && b) ≡ true
and-both true b p q = q
and-both false b p q = absurd (cc)

-- a row of another key leaves what stands here
apart-from : (q : ℕ × List ℕ) (e : List ℕ × Item) → IsOfRow e → is_eq (bytes_cmp q.1 e.0) ≡ false → (old : Option (List ℕ)) →
    value_after q e.1 old ≡ old
apart-from q e is other old =
    left-by q e.1 old
    ∙ ap (λ p. cond (same_place q p) (put_of e.1) old) (row-place e is)
    ∙ ap (λ b. cond b (put_of e.1) old)
    (and-false (q.0 == 5) (pointwise nat_eq q.1 e.0) (texts_ties q.1 e.0 ∙ other))

-- a row of this key leaves its own
at-it : (q : ℕ × List ℕ) (e : List ℕ × Item) → IsOfRow e → (q.0 == 5) ≡ true → is_eq (bytes_cmp q.1 e.0) ≡ true →
    (old : Option (List ℕ)) → value_after q e.1 old ≡ put_of e.1
at-it q e is area same old =
    left-by q e.1 old
    ∙ ap (λ p. cond (same_place q p) (put_of e.1) old) (row-place e is)
    ∙ ap (λ b. cond b (put_of e.1) old)
    (and-both (q.0 == 5) (pointwise nat_eq q.1 e.0) area (texts_ties q.1 e.0 ∙ same))

is-less : (r : Ordering) → T (is_lt r) → r ≡ Less
is-less Less t = refl
is-less Equal t = absurd t
is-less Greater t = absurd t

is-equal : (r : Ordering) → is_eq r ≡ true → r ≡ Equal
is-equal Less e = absurd (cc)
is-equal Equal e = refl
is-equal Greater e = absurd (cc)

below-none : (k : List ℕ) (es : ByKey) → T (entries.below_all bytes_cmp k es) → entries.find bytes_cmp k es ≡ None
below-none k [] h = refl
below-none k (e ∷ es) h =
    ap (λ r. cond (is_eq r) (Some e.1) (entries.find bytes_cmp k es))
    (is-less (bytes_cmp k e.0) (first-of (is_lt (bytes_cmp k e.0)) (entries.below_all bytes_cmp k es) h))
    ∙ below-none k es (second-of (is_lt (bytes_cmp k e.0)) (entries.below_all bytes_cmp k es) h)

at-first : (t : Bool) (q : ℕ × List ℕ) (e : List ℕ × Item) (es : ByKey) → is_eq (bytes_cmp q.1 e.0) ≡ t →
    T (entries.below_all bytes_cmp e.0 es) → IsOfRow e → (old : Option (List ℕ)) →
    seen q (entries.find bytes_cmp q.1 es) (value_after q e.1 old)
    ≡ seen q (cond t (Some e.1) (entries.find bytes_cmp q.1 es)) old
at-first true q e es same below is old =
    ap (λ f. seen q f (value_after q e.1 old))
    (sym (entries.find_tied bytes_cmp bytes_total q.1 e.0 (is-equal (bytes_cmp q.1 e.0) same) es) ∙ below-none e.0 es below)
at-first false q e es other below is old =
    ap (seen q (entries.find bytes_cmp q.1 es)) (apart-from q e is other old)

-- rows leave what the one that is found by the key leaves
at-key : (q : ℕ × List ℕ) (es : ByKey) → T (entries.is_sorted bytes_cmp es) → AllByRecursion IsOfRow es →
    (old : Option (List ℕ)) → value_after_all q (items_in es) old ≡ seen q (entries.find bytes_cmp q.1 es) old
at-key q [] h all old = refl
at-key q (e ∷ es) h all old =
    at-key q es (second-of (entries.below_all bytes_cmp e.0 es) (entries.is_sorted bytes_cmp es) h) all.1 (value_after q e.1 old)
    ∙ at-first (is_eq (bytes_cmp q.1 e.0)) q e es refl
    (first-of (entries.below_all bytes_cmp e.0 es) (entries.is_sorted bytes_cmp es) h) all.0 old

later-at : (t : Bool) (q : ℕ × List ℕ) (e : List ℕ × Item) (f : Option Item) → (q.0 == 5) ≡ true →
    is_eq (bytes_cmp q.1 e.0) ≡ t → IsOfRow e → (old : Option (List ℕ)) →
    seen q (cond t (Some e.1) f) old ≡ value_after q e.1 (seen q f old)
later-at true q e f area same is old = at-it q e is area same old ∙ sym (at-it q e is area same (seen q f old))
later-at false q e f area other is old = sym (apart-from q e is other (seen q f old))

put-value : (t : Bool) (q : ℕ × List ℕ) (es : ByKey) (w : Write) → (q.0 == 5) ≡ t → IsRows es → (old : Option (List ℕ)) →
    value_after_all q (items_in (entries.put bytes_cmp (key_of (write_item w)) (write_item w) es)) old
    ≡ value_after q (write_item w) (value_after_all q (items_in es) old)
put-value true q es w area is old =
    let k = key_of (write_item w) in
    let i = write_item w in
    let put = put-is es w is in
    at-key q (entries.put bytes_cmp k i es) put.sorted put.rows old
    ∙ ap (λ f. seen q f old) (entries.find-put bytes_cmp bytes_total q.1 k i es)
    ∙ later-at (is_eq (bytes_cmp q.1 k)) q (k, i) (entries.find bytes_cmp q.1 es) area refl (write-row w) old
    ∙ sym (ap (value_after q i) (at-key q es is.sorted is.rows old))
put-value false q es w area is old =
    let k = key_of (write_item w) in
    let i = write_item w in
    let put = put-is es w is in
    rows-stay (entries.put bytes_cmp k i es) put.rows q.0 area q.1 old
    ∙ sym (rows-stay es is.rows q.0 area q.1 old)
    ∙ sym (in-one 5 i (write-area w) q.0 area q.1 (value_after_all q (items_in es) old))

entered-value : (q : ℕ × List ℕ) (es : ByKey) (w : Write) → IsRows es → (old : Option (List ℕ)) →
    value_after_all q (items_in (entered es w)) old ≡ value_after q (write_item w) (value_after_all q (items_in es) old)
entered-value q es w is old =
    ap (λ x. value_after_all q (items_in x) old) (insert-put es (key_of (write_item w)) (write_item w))
    ∙ put-value (q.0 == 5) q es w refl is old

entered-all-value : (q : ℕ × List ℕ) (ws : List Write) (es : ByKey) → IsRows es → (old : Option (List ℕ)) →
    value_after_all q (items_in (entered_all es ws)) old
    ≡ value_after_all q (map write_item ws) (value_after_all q (items_in es) old)
entered-all-value q [] es is old = refl
entered-all-value q (w ∷ ws) es is old =
    entered-all-value q ws (entered es w) (entered-is es w is) old
    ∙ ap (value_after_all q (map write_item ws)) (entered-value q es w is old)

-- ---- the rows of commits one after the other

abbrev one_by_one : Tables → List Commit → List Item
one_by_one tables [] = []
one_by_one tables (c ∷ cs) =
    map write_item (writable tables c.writes) ++ one_by_one (overlaid tables (writable tables c.writes)) cs

one-by-one-stay : (cs : List Commit) (tables : Tables) → StaysIn 5 (one_by_one tables cs)
one-by-one-stay [] tables = in-none 5
one-by-one-stay (c ∷ cs) tables =
    let ws = writable tables c.writes in
    in-append 5 (map write_item ws) (one_by_one (overlaid tables ws) cs) (in-map 5 write_item write-area ws)
    (one-by-one-stay cs (overlaid tables ws))

rows-value : (q : ℕ × List ℕ) (cs : List Commit) (es : ByKey) (tables : Tables) → IsRows es → (old : Option (List ℕ)) →
    value_after_all q (items_in (rows_of_all es tables cs)) old
    ≡ value_after_all q (one_by_one tables cs) (value_after_all q (items_in es) old)
rows-value q [] es tables is old = refl
rows-value q (c ∷ cs) es tables is old =
    let ws = writable tables c.writes in
    let after = overlaid tables ws in
    rows-value q cs (entered_all es ws) after (entered-all-is ws es is) old
    ∙ ap (value_after_all q (one_by_one after cs)) (entered-all-value q ws es is old)
    ∙ sym (value-append q (map write_item ws) (one_by_one after cs) (value_after_all q (items_in es) old))

-- ---- the count behind them

-- an earlier count is passed over, where a later one stands behind the rows
passed-at : (t : Bool) (q : ℕ × List ℕ) (n at_scn m later : ℕ) (rows : List Item) → (q.0 == 6) ≡ t → StaysIn 5 rows →
    (old : Option (List ℕ)) →
    value_after_all q (rows ++ applied_item m later ∷ []) (value_after q (applied_item n at_scn) old)
    ≡ value_after_all q (rows ++ applied_item m later ∷ []) old
passed-at true q n at_scn m later rows area stay old =
    let not-rows : (q.0 == 5) ≡ false = ap (λ a. a == 5) (same_nat q.0 6 area) in
    value-append q rows (applied_item m later ∷ []) (value_after q (applied_item n at_scn) old)
    ∙ ap (value_after q (applied_item m later)) (stay q.0 not-rows q.1 (value_after q (applied_item n at_scn) old))
    ∙ later-stays q (applied_item m later) (applied_item n at_scn) old refl
    ∙ sym (ap (value_after q (applied_item m later)) (stay q.0 not-rows q.1 old))
    ∙ sym (value-append q rows (applied_item m later ∷ []) old)
passed-at false q n at_scn m later rows area stay old =
    ap (value_after_all q (rows ++ applied_item m later ∷ [])) (in-one 6 (applied_item n at_scn) refl q.0 area q.1 old)

-- ---- the first of commits that pass no limit

first-within : (b : Bool) (x n : ℕ) → (if b then 0 else 1 + x) ≡ 1 + n → b ≡ false
first-within true x n e = absurd (omega (arith, e))
first-within false x n e = refl

others-within : (b : Bool) (x n : ℕ) → (if b then 0 else 1 + x) ≡ 1 + n → x ≡ n
others-within true x n e = absurd (omega (arith, e))
others-within false x n e = omega (arith, e)

front-is : (s : KeptState) (c : Commit) (cs : List Commit) → passes_limit s.tables (writable s.tables c.writes) ≡ false →
    front_of s (parts_of (c ∷ cs))
    ≡ Publish c.scn c.writes ∷ front_of (state_after (Publish c.scn c.writes) s) (parts_of cs)
front-is s c cs e = ap (λ b. if b then [] else
    Publish c.scn c.writes ∷ front_of (state_after (Publish c.scn c.writes) s) (parts_of cs)) e

counted : (b : Bool) (w : Writing) (ws : List Writing) (n : ℕ) → length ws ≡ n →
    length (if b then [] else w ∷ ws) ≡ (if b then 0 else 1 + n)
counted true w ws n e = refl
counted false w ws n e = omega (arith, e)

-- so many of them pass no limit
pub front-length : (s : KeptState) (cs : List Commit) → length (front_of s (parts_of cs)) ≡ count_within s.tables cs
front-length s [] = refl
front-length s (c ∷ cs) =
    counted (passes_limit s.tables (writable s.tables c.writes)) (Publish c.scn c.writes)
    (front_of (state_after (Publish c.scn c.writes) s) (parts_of cs))
    (count_within (overlaid s.tables (writable s.tables c.writes)) cs)
    (front-length (state_after (Publish c.scn c.writes) s) cs)

-- they are commits that follow this state, none of which passes the limit
pub record Follow (s : KeptState) (cs : List Commit) : Type 0 where
  pub numbered : IsTrue (are_numbered (s.n + 1) cs)
  pub within : count_within s.tables cs ≡ length cs

first-few : (s : KeptState) (c : Commit) (cs : List Commit) → Follow s (c ∷ cs) →
    passes_limit s.tables (writable s.tables c.writes) ≡ false
first-few s c cs f =
    first-within (passes_limit s.tables (writable s.tables c.writes))
    (count_within (overlaid s.tables (writable s.tables c.writes)) cs) (length cs) (f.within ∙ omega arith)

first-number : (s : KeptState) (c : Commit) (cs : List Commit) → Follow s (c ∷ cs) → c.number ≡ s.n + 1
first-number s c cs f =
    same_nat c.number (s.n + 1) (and-left (c.number == s.n + 1) (are_numbered (s.n + 1 + 1) cs) f.numbered)

others-follow : (s : KeptState) (c : Commit) (cs : List Commit) → Follow s (c ∷ cs) →
    Follow (state_after (Publish c.scn c.writes) s) cs
others-follow s c cs f = record {
  numbered = and-right (c.number == s.n + 1) (are_numbered (s.n + 1 + 1) cs) f.numbered;
  within = others-within (passes_limit s.tables (writable s.tables c.writes))
      (count_within (overlaid s.tables (writable s.tables c.writes)) cs) (length cs) (f.within ∙ omega arith);
}

-- ---- the state behind them

pub state-behind : (s : KeptState) (c : Commit) (cs : List Commit) → Follow s (c ∷ cs) →
    state_after_all (front_of s (parts_of (c ∷ cs))) s
    ≡ record s { tables = tables_behind_all s.tables (c ∷ cs); n = last_number (c ∷ cs); scn = last_scn (c ∷ cs) }
state-behind s c [] f =
    ap (λ x. state_after_all x s) (front-is s c [] (first-few s c [] f))
    ∙ ap (λ n. record s { tables = overlaid s.tables (writable s.tables c.writes); n = n; scn = c.scn })
    (sym (first-number s c [] f))
state-behind s c (d ∷ cs) f =
    ap (λ x. state_after_all x s) (front-is s c (d ∷ cs) (first-few s c (d ∷ cs) f))
    ∙ state-behind (state_after (Publish c.scn c.writes) s) d cs (others-follow s c (d ∷ cs) f)

-- ---- the batch leads where theirs lead

merged-value : (q : ℕ × List ℕ) (s : KeptState) (c : Commit) (cs : List Commit) → Follow s (c ∷ cs) → (old : Option (List ℕ)) →
    value_after_all q (one_by_one s.tables (c ∷ cs) ++ applied_item (last_number (c ∷ cs)) (last_scn (c ∷ cs)) ∷ []) old
    ≡ value_after_all q (items_for_all (front_of s (parts_of (c ∷ cs))) s) old
merged-value q s c [] f old =
    let rows = map write_item (writable s.tables c.writes) in
    value-append q (rows ++ []) (applied_item c.number c.scn ∷ []) old
    ∙ ap (value_after q (applied_item c.number c.scn)) (value-append q rows [] old)
    ∙ ap (λ n. value_after q (applied_item n c.scn) (value_after_all q rows old)) (first-number s c [] f)
    ∙ sym (value-append q rows (applied_item (s.n + 1) c.scn ∷ []) old)
    ∙ sym (value-append q (rows ++ applied_item (s.n + 1) c.scn ∷ []) [] old)
    ∙ sym (ap (λ x. value_after_all q (items_for_all x s) old) (front-is s c [] (first-few s c [] f)))
merged-value q s c (d ∷ cs) f old =
    let rows = map write_item (writable s.tables c.writes) in
    let next = state_after (Publish c.scn c.writes) s in
    let more = one_by_one next.tables (d ∷ cs) in
    let last = applied_item (last_number (d ∷ cs)) (last_scn (d ∷ cs)) in
    let here = applied_item (s.n + 1) c.scn in
    let theirs = items_for_all (front_of next (parts_of (d ∷ cs))) next in
    value-append q (rows ++ more) (last ∷ []) old
    ∙ ap (value_after q last) (value-append q rows more old)
    ∙ sym (value-append q more (last ∷ []) (value_after_all q rows old))
    ∙ sym (passed-at (q.0 == 6) q (s.n + 1) c.scn (last_number (d ∷ cs)) (last_scn (d ∷ cs)) more refl
    (one-by-one-stay (d ∷ cs) next.tables) (value_after_all q rows old))
    ∙ merged-value q next d cs (others-follow s c (d ∷ cs) f) (value_after q here (value_after_all q rows old))
    ∙ sym (ap (value_after_all q theirs) (value-append q rows (here ∷ []) old))
    ∙ sym (value-append q (rows ++ here ∷ []) theirs old)
    ∙ sym (ap (λ x. value_after_all q (items_for_all x s) old) (front-is s c (d ∷ cs) (first-few s c (d ∷ cs) f)))

batch-value : (q : ℕ × List ℕ) (s : KeptState) (c : Commit) (cs : List Commit) → Follow s (c ∷ cs) → (old : Option (List ℕ)) →
    value_after_all q
    (items_in (rows_of_all [] s.tables (c ∷ cs)) ++ applied_item (last_number (c ∷ cs)) (last_scn (c ∷ cs)) ∷ []) old
    ≡ value_after_all q (items_for_all (front_of s (parts_of (c ∷ cs))) s) old
batch-value q s c cs f old =
    let last = applied_item (last_number (c ∷ cs)) (last_scn (c ∷ cs)) in
    value-append q (items_in (rows_of_all [] s.tables (c ∷ cs))) (last ∷ []) old
    ∙ ap (value_after q last) (rows-value q (c ∷ cs) [] s.tables no-rows old)
    ∙ sym (value-append q (one_by_one s.tables (c ∷ cs)) (last ∷ []) old)
    ∙ merged-value q s c cs f old

pub leads-alike : (s : KeptState) (c : Commit) (cs : List Commit) → Follow s (c ∷ cs) →
    LeadsAlike (items_in (rows_of_all [] s.tables (c ∷ cs)) ++ applied_item (last_number (c ∷ cs)) (last_scn (c ∷ cs)) ∷ [])
    (items_for_all (front_of s (parts_of (c ∷ cs))) s)
leads-alike s c cs f pairs is =
    let batch = items_in (rows_of_all [] s.tables (c ∷ cs)) ++ applied_item (last_number (c ∷ cs)) (last_scn (c ∷ cs)) ∷ [] in
    let theirs = items_for_all (front_of s (parts_of (c ∷ cs))) s in
    let sorted : T (entries.is_sorted place_cmp pairs) =
    to_T (entries.is_sorted place_cmp pairs)
    (and-left (entries.is_sorted place_cmp pairs) (list_all (λ e. is_key e.0.1) pairs) is) in
    same_store (after_batch batch pairs) (after_batch theirs pairs) (sorted-after-all batch pairs sorted)
    (sorted-after-all theirs pairs sorted)
    (λ q. found-after-all q batch pairs ∙ batch-value q s c cs f (entries.find place_cmp q pairs)
    ∙ sym (found-after-all q theirs pairs))
