-- The beginning of a store: what its first pair decides.
use Rattle.std.proofs.Common.{◌≡◌, ℕ, ◌+◌, ◌<◌, ◌≤◌, List, [], ◌∷◌, map, filter, Bool, true, false, cond, refl, sym, ap, ◌∙◌, subst, Option, Some, None, Ok, Err, Result, arith}
use Rattle.std.specs.Prelude.{◌&&◌, ◌||◌, ◌==◌, nat_le, nat_lt, length, if◌then◌else◌, IsTrue}
use Rattle.std.proofs.Math.Dec.{T}
use Rattle.std.proofs.lemmas.Bool.Decides.{nat_tests}
use Rattle.std.specs.List.{list_all}
use Rattle.std.specs.Option.{option_map, option_and_then}
use Rattle.std.specs.declared.cmp.Ordering.{Ordering}
use Rattle.std.specs.declared.cmp.Ordering.TheVariants.{Less, Equal, Greater}
use Rattle.std.specs.Ordering.{is_lt, nat_cmp, ordering_then}
use Rattle.std.specs.Cmp.{ranked}
use Rattle.std.specs.FinMap.Entries as entries
use Rattle.rl_value.specs.Order.{bytes_cmp, same_bytes}
use Rattle.rl_value.specs.Outcome.{◌>>=◌, or_err, map_ok}
use Rattle.rl_ports.specs.declared.batch.Pair.{Pair}
use Rattle.rl_ports.specs.Faults.{Told}
use Rattle.rl_ports.specs.Store.{Store, place_cmp, is_key, is_store}
use Rattle.redo_vec.specs.Spelling.{be32}
use Rattle.redo_spec.specs.Tables.{empty_tables}
use Rattle.skip_guard.specs.declared.guard.Level.{Level}
use Rattle.standby_spec.specs.KeptState.{KeptState}
use Rattle.standby_spec.specs.Layout.{standby_key, applied_key}
use Rattle.standby_spec.specs.Loading.{StorePlace, KeyValue, Identity, Fresh, Bad, Loaded, last_area, kept_pairs, of_area, has_key, read_area, standby_step, level_of, byte_in, identity_in, with_first_log, when_true, log_step, table_step, skip_step, row_step, applied_step, mark_step, identity_or, standby_in, state_of, state_in, loaded_of, loaded_pairs, loaded}
use Rattle.standby_spec.proofs.AreaLaws.{kept-area}
use Rattle.standby_spec.proofs.SpellLaws.{if-given}
use Rattle.standby_spec.proofs.StoreLaws.{and-left, and-right, first-of, second-of, from_T, to_T, same_nat, bytes_is}
use Rattle.kept_layout.specs.declared.identity.Identity.{Identity as KeptIdentity}
use Rattle.kept_layout.specs.Pairs.{identity_of, identity_of_pair}
use Rattle.checkpoint.specs.declared.fault.LoadFault.{LoadFault}
use Rattle.checkpoint.specs.declared.fault.LoadFault.TheVariants as faults
use Rattle.checkpoint.specs.Areas.{is_above, pairs_above, IsNext}
use Rattle.checkpoint.specs.Beginning.{FirstGives, FirstTold, IdentityTold}
use Rattle.checkpoint.proofs.Numbers.{lt_of}
use Rattle.checkpoint.proofs.Walking.{not_itself, all_first}

-- ---- the kept pairs

-- the state that the pairs of the seven areas give
abbrev areas_give : List KeyValue → List KeyValue → List KeyValue → List KeyValue → List KeyValue → List KeyValue →
    List KeyValue →
    Result KeptState StorePlace
areas_give one two three four five six seven = do
  identity ← (read_area 1 (standby_step two) None one >>= identity_or)
  logs ← read_area 2 (log_step identity) [] two
  rows ← read_area 3 table_step [] three
  skips ← read_area 4 skip_step [] four
  tables ← read_area 5 row_step (empty_tables rows) five
  applied ← (if has_key applied_key six then read_area 6 applied_step (0, 0) six else Err (6, []))
  mark ← read_area 7 (mark_step logs applied.0) None seven
  Ok (state_of identity logs skips tables applied mark)

state_kept : (s : Store) → state_in (kept_pairs s) ≡ state_in s
state_kept s =
    let one = kept-area 1 s refl in
    let two = kept-area 2 s refl in
    let three = kept-area 3 s refl in
    let four = kept-area 4 s refl in
    let five = kept-area 5 s refl in
    let six = kept-area 6 s refl in
    let seven = kept-area 7 s refl in
    λ i. areas_give (one i) (two i) (three i) (four i) (five i) (six i) (seven i)

-- where the standby's pair is there the areas are read
born : (ps : Store) → has_key standby_key (of_area 1 ps) ≡ true → loaded_pairs ps ≡ loaded_of (state_in ps)
born [] there = absurd (cc)
born (e ∷ ps) there = ap (λ b. if b then loaded_of (state_in (e ∷ ps)) else Bad e.0.0 e.0.1) there

pub loaded_there : (s : Store) → has_key standby_key (of_area 1 s) ≡ true → loaded s ≡ loaded_of (state_in s)
unfolding loaded
loaded_there s there =
    born (kept_pairs s) (ap (has_key standby_key) (kept-area 1 s refl) ∙ there) ∙ ap loaded_of (state_kept s)

-- ---- the first pair

le_of_less : (r s : Ordering) (a b : ℕ) → nat_cmp a b ≡ r → is_lt (ordering_then r s) ≡ true → a ≤ b
le_of_less Less s a b e p = let lt : a < b = ranked a b Less (sym e) in omega arith
le_of_less Equal s a b e p = let same : a ≡ b = ranked a b Equal (sym e) in omega arith
le_of_less Greater s a b e p = absurd (cc)

abbrev pair-of : (ℕ × List ℕ) × List ℕ → KeyValue
pair-of e = (e.0.1, e.1)

abbrev area_with : ℕ → (ℕ × List ℕ) × List ℕ → Store → Bool → List KeyValue
area_with a e s t = map pair-of (cond t (e ∷ filter (λ x. x.0.0 == a) s) (filter (λ x. x.0.0 == a) s))

-- behind a greater area none of this one comes
none_behind : (a : ℕ) (e : (ℕ × List ℕ) × List ℕ) (s : Store) → a < e.0.0 → T (entries.below_all place_cmp e.0 s) →
    of_area a s ≡ []
none_behind a e [] lt h = refl
none_behind a e (x ∷ s) lt h =
    let le : e.0.0 ≤ x.0.0 = le_of_less (nat_cmp e.0.0 x.0.0) (bytes_cmp e.0.1 x.0.1) e.0.0 x.0.0 refl
    (from_T _ (first-of _ _ h)) in
    let other : (x.0.0 == a) ≡ false = grind (arith, nat_tests, le, lt) in
    ap (area_with a x s) other ∙ none_behind a e s lt (second-of _ _ h)

record StartsWith (a : ℕ) (p : KeyValue) (kept : Store) : Type 0 where
  others : Store
  is : kept ≡ ((a, p.0), p.1) ∷ others

heads : (x y : KeyValue) (xs ys : List KeyValue) → x ∷ xs ≡ y ∷ ys → x ≡ y
heads x y xs ys e = cc

some_first : (p : KeyValue) (ps : List KeyValue) → p ∷ ps ≡ [] → ⊥
some_first p ps e = cc

at_area : (a i : ℕ) (e : (ℕ × List ℕ) × List ℕ) (s : Store) → (e.0.0 == i) ≡ false → of_area i (e ∷ s) ≡ of_area i s
at_area a i e s other = ap (area_with i e s) other

-- where the areas before this one have no pair, its first pair is the first of the kept ones
first_kept : (a : ℕ) (p : KeyValue) (rest : List KeyValue) (s : Store) → T (entries.is_sorted place_cmp s) → 1 ≤ a → a ≤ 7 →
    of_area a s ≡ p ∷ rest → ((i : ℕ) → 1 ≤ i → i < a → of_area i s ≡ []) → StartsWith a p (kept_pairs s)
first_kept a p rest [] h low high is before = absurd (cc)
first_kept a p rest (e ∷ s) h low high is before =
    elim (e.0.0 == a) as (λ t. (e.0.0 == a) ≡ t → area_with a e s t ≡ p ∷ rest → StartsWith a p (kept_pairs (e ∷ s))) [
      | true ↦ λ at given.
          let area : e.0.0 ≡ a = same_nat e.0.0 a at in
          let same : pair-of e ≡ p = heads (pair-of e) p (of_area a s) rest given in
          let k : e.0.1 ≡ p.0 = ap (λ (x : KeyValue). x.0) same in
          let v : e.1 ≡ p.1 = ap (λ (x : KeyValue). x.1) same in
          let in_layout : (nat_le 1 e.0.0 && nat_le e.0.0 last_area) ≡ true = grind (arith, nat_tests, area, low, high) in
          record {
            others = kept_pairs s;
            is = ap (λ b. cond b (e ∷ kept_pairs s) (kept_pairs s)) in_layout ∙ (λ i. ((area i, k i), v i) ∷ kept_pairs s);
          }
      | false ↦ λ other given.
          elim (nat_lt e.0.0 1) as (λ t. nat_lt e.0.0 1 ≡ t → StartsWith a p (kept_pairs (e ∷ s))) [
            | true ↦ λ zeroth.
                let out : (nat_le 1 e.0.0 && nat_le e.0.0 last_area) ≡ false = grind (arith, nat_tests, zeroth) in
                let rest_of = first_kept a p rest s (second-of _ _ h) low high given (λ i from to.
                sym (at_area a i e s (grind (arith, nat_tests, zeroth, from))) ∙ before i from to) in
                record {
                  others = rest_of.others;
                  is = ap (λ b. cond b (e ∷ kept_pairs s) (kept_pairs s)) out ∙ rest_of.is;
                }
            | false ↦ λ some.
                elim (nat_lt e.0.0 a) as (λ t. nat_lt e.0.0 a ≡ t → StartsWith a p (kept_pairs (e ∷ s))) [
                  | true ↦ λ lower.
                      let from : 1 ≤ e.0.0 = grind (arith, nat_tests, some) in
                      let to : e.0.0 < a = grind (arith, nat_tests, lower) in
                      let itself : (e.0.0 == e.0.0) ≡ true = grind (arith, nat_tests) in
                      absurd (some_first (pair-of e) (of_area e.0.0 s)
                      (sym (ap (area_with e.0.0 e s) itself) ∙ before e.0.0 from to))
                  | false ↦ λ higher.
                      let above : a < e.0.0 = grind (arith, nat_tests, higher, other) in
                      absurd (some_first p rest (sym given ∙ none_behind a e s above (first-of _ _ h)))
                ] refl
          ] refl
    ] refl is

-- where no area has a pair none is kept
rest_none : (e : (ℕ × List ℕ) × List ℕ) (i : ℕ) (s : Store) (t : Bool) → area_with i e s t ≡ [] → of_area i s ≡ []
rest_none e i s true empty = absurd (some_first (pair-of e) (of_area i s) empty)
rest_none e i s false empty = empty

pub none_kept : (s : Store) → ((i : ℕ) → 1 ≤ i → i < 8 → of_area i s ≡ []) → kept_pairs s ≡ []
none_kept [] none = refl
none_kept (e ∷ s) none =
    elim (nat_le 1 e.0.0 && nat_le e.0.0 last_area) as (λ t. (nat_le 1 e.0.0 && nat_le e.0.0 last_area) ≡ t →
    cond t (e ∷ kept_pairs s) (kept_pairs s) ≡ []) [
      | true ↦ λ in_layout.
          let low : nat_le 1 e.0.0 ≡ true = and-left (nat_le 1 e.0.0) (nat_le e.0.0 last_area) in_layout in
          let high : nat_le e.0.0 7 ≡ true = and-right (nat_le 1 e.0.0) (nat_le e.0.0 last_area) in_layout in
          let from : 1 ≤ e.0.0 = grind (arith, nat_tests, low) in
          let to : e.0.0 < 8 = grind (arith, nat_tests, high) in
          let itself : (e.0.0 == e.0.0) ≡ true = grind (arith, nat_tests) in
          absurd (some_first (pair-of e) (of_area e.0.0 s) (sym (ap (area_with e.0.0 e s) itself) ∙ none e.0.0 from to))
      | false ↦ λ out. none_kept s (λ i from to. rest_none e i s (e.0.0 == i) (none i from to))
    ] refl

pub nothing_loaded : (s : Store) → ((i : ℕ) → 1 ≤ i → i < 8 → of_area i s ≡ []) → loaded s ≡ Fresh
unfolding loaded
nothing_loaded s none = ap loaded_pairs (none_kept s none)

-- where the standby's pair is not there the first pair is bad
abbrev loaded_or : Bool → (ℕ × List ℕ) × List ℕ → Store → Loaded
loaded_or b e ps = if b then loaded_of (state_in (e ∷ ps)) else Bad e.0.0 e.0.1

bad_first : (a : ℕ) (p : KeyValue) (kept : Store) → StartsWith a p kept → has_key standby_key (of_area 1 kept) ≡ false →
    loaded_pairs kept ≡ Bad a p.0
bad_first a p kept starts none =
    ap loaded_pairs starts.is
    ∙ ap (λ b. loaded_or b ((a, p.0), p.1) starts.others)
    (sym (ap (λ ps. has_key standby_key (of_area 1 ps)) starts.is) ∙ none)

pub first_is_bad : (a : ℕ) (p : KeyValue) (rest : List KeyValue) (s : Store) → is_store s ≡ true → 1 ≤ a → a ≤ 7 →
    of_area a s ≡ p ∷ rest → ((i : ℕ) → 1 ≤ i → i < a → of_area i s ≡ []) → has_key standby_key (of_area 1 s) ≡ false →
    loaded s ≡ Bad a p.0
unfolding loaded
first_is_bad a p rest s store low high is before none =
    bad_first a p (kept_pairs s)
    (first_kept a p rest s (to_T _ (and-left (entries.is_sorted place_cmp s) (list_all (λ e. is_key e.0.1) s) store)) low high is
    before)
    (ap (has_key standby_key) (kept-area 1 s refl) ∙ none)

-- ---- the standby's pair

abbrev after_identity : Store → Identity → Result KeptState StorePlace
after_identity s identity = do
  logs ← read_area 2 (log_step identity) [] (of_area 2 s)
  rows ← read_area 3 table_step [] (of_area 3 s)
  skips ← read_area 4 skip_step [] (of_area 4 s)
  tables ← read_area 5 row_step (empty_tables rows) (of_area 5 s)
  applied ← (if has_key applied_key (of_area 6 s) then read_area 6 applied_step (0, 0) (of_area 6 s) else Err (6, []))
  mark ← read_area 7 (mark_step logs applied.0) None (of_area 7 s)
  Ok (state_of identity logs skips tables applied mark)

refused_there : (s : Store) (place : StorePlace) → standby_in s ≡ Err place → loaded_of (state_in s) ≡ Bad place.0 place.1
refused_there s place e = ap (λ r. loaded_of (r >>= after_identity s)) e

-- a first pair of area 1 that is refused is the first bad one, whether it is the standby's or not
pub beginning_is_bad : (p : KeyValue) (rest : List KeyValue) (s : Store) → is_store s ≡ true → of_area 1 s ≡ p ∷ rest →
    standby_step (of_area 2 s) None p ≡ None → loaded s ≡ Bad 1 p.0
beginning_is_bad p rest s store is refused =
    elim (has_key standby_key (of_area 1 s)) as (λ b. has_key standby_key (of_area 1 s) ≡ b → loaded s ≡ Bad 1 p.0) [
      | true ↦ λ there. loaded_there s there ∙ refused_there s (1, p.0)
          (ap (λ ps. read_area 1 (standby_step (of_area 2 s)) None ps >>= identity_or) is
          ∙ ap (λ o. (or_err o (1, p.0) >>= λ next. read_area 1 (standby_step (of_area 2 s)) next rest) >>= identity_or) refused)
      | false ↦ λ none. first_is_bad 1 p rest s store (omega arith) (omega arith) is
          (λ i from to. absurd (omega (arith, from, to))) none
    ] refl

-- ---- one step

step_at : (b : Bool) (o : Option Level) (g : Level → Identity) (logs : List KeyValue) →
    (if b then option_map Some (option_and_then (λ l. with_first_log logs (g l)) o) else None) ≡
    option_map Some (option_and_then (with_first_log logs) (if b then option_map g o else None))
step_at true None g logs = refl
step_at true (Some l) g logs = refl
step_at false o g logs = refl

step_is : (logs : List KeyValue) (so_far : Option Identity) (p : KeyValue) →
    standby_step logs so_far p ≡ option_map Some (option_and_then (with_first_log logs) (identity_of_pair p))
step_is logs so_far (key, value) =
    step_at (same_bytes key standby_key && (length value == 17)) (level_of (byte_in 16 value)) (identity_in value) logs

no_identity : (logs : List KeyValue) (so_far : Option Identity) (p : KeyValue) → identity_of_pair p ≡ None →
    standby_step logs so_far p ≡ None
no_identity logs so_far p is = step_is logs so_far p ∙ ap (λ o. option_map Some (option_and_then (with_first_log logs) o)) is

no_first : (logs : List KeyValue) (so_far : Option Identity) (p : KeyValue) (i : Identity) → identity_of_pair p ≡ Some i →
    has_key (be32 i.first) logs ≡ false → standby_step logs so_far p ≡ None
no_first logs so_far p i is none =
    step_is logs so_far p
    ∙ ap (λ o. option_map Some (option_and_then (with_first_log logs) o)) is
    ∙ ap (λ b. option_map Some (when_true b i)) none

an_identity : (logs : List KeyValue) (so_far : Option Identity) (p : KeyValue) (i : Identity) → identity_of_pair p ≡ Some i →
    has_key (be32 i.first) logs ≡ true → standby_step logs so_far p ≡ Some (Some i)
an_identity logs so_far p i is there =
    step_is logs so_far p
    ∙ ap (λ o. option_map Some (option_and_then (with_first_log logs) o)) is
    ∙ ap (λ b. option_map Some (when_true b i)) there

named : (p : KeyValue) (i : Identity) → identity_of_pair p ≡ Some i → same_bytes p.0 standby_key ≡ true
named (key, value) i is =
    let a = if-given (same_bytes key standby_key && (length value == 17)) (option_map (identity_in value)
    (level_of (byte_in 16 value)))
    i is in
    and-left (same_bytes key standby_key) (length value == 17) a.0

-- a key above the standby's is another one
other_at : (key other : List ℕ) → same_bytes key standby_key ≡ true → is_above key other ≡ true → (b : Bool) →
    same_bytes other standby_key ≡ b → b ≡ false
other_at key other is up true same =
    let one : other ≡ key = bytes_is other standby_key same ∙ sym (bytes_is key standby_key is) in
    let up_itself : is_above key key ≡ true = ap (is_above key) (sym one) ∙ up in
    let itself : is_above key key ≡ false = not_itself key in
    absurd (cc)
other_at key other is up false same = refl

no_other : (logs : List KeyValue) (so_far : Option Identity) (key : List ℕ) (q : KeyValue) → same_bytes key standby_key ≡ true →
    is_above key q.0 ≡ true → standby_step logs so_far q ≡ None
no_other logs so_far key (other, value) is up =
    let apart : same_bytes other standby_key ≡ false = other_at key other is up (same_bytes other standby_key) refl in
    ap (λ b. if b && (length value == 17)
    then option_map Some (option_and_then (λ l. with_first_log logs (identity_in value l)) (level_of (byte_in 16 value)))
    else None) apart

-- ---- what is told of the first pair

has_it : (p : KeyValue) (rest : List KeyValue) (i : Identity) → identity_of_pair p ≡ Some i →
    has_key standby_key (p ∷ rest) ≡ true
has_it p rest i is = ap (λ b. b || has_key standby_key rest) (named p i is)

-- whether the first log is there, as it was asked
pub first_asked : (known : Option Store) (b t : Bool) (key : List ℕ) (n : ℕ) → Told known (λ s. b ≡ has_key key (of_area 2 s)) →
    b ≡ t → key ≡ be32 n → Told known (λ s. t ≡ has_key (be32 n) (of_area 2 s))
first_asked known b t key n told is same =
    subst (λ (k : List ℕ). Told known (λ s. t ≡ has_key k (of_area 2 s))) same
    (subst (λ (x : Bool). Told known (λ s. x ≡ has_key key (of_area 2 s))) is told)

pub first_no_identity : (known : Option Store) (p : Pair) → Told known (λ s. IsTrue (is_store s)) →
    identity_of_pair (p.key, p.value) ≡ None → Told known (λ s. FirstTold s p (Err (faults.BadKeeper 1 p.key)))
first_no_identity None p store is = tt
first_no_identity (Some s) p store is = λ first.
    beginning_is_bad (p.key, p.value) (pairs_above p.key (of_area 1 s)) s store first
    (no_identity (of_area 2 s) None (p.key, p.value) is)

pub first_no_log : (known : Option Store) (p : Pair) (i : KeptIdentity) → Told known (λ s. IsTrue (is_store s)) →
    Some (identity_of i) ≡ identity_of_pair (p.key, p.value) → Told known (λ s. false ≡ has_key (be32 i.first) (of_area 2 s)) →
    Told known (λ s. FirstTold s p (Err (faults.BadKeeper 1 p.key)))
first_no_log None p i store is none = tt
first_no_log (Some s) p i store is none = λ first.
    beginning_is_bad (p.key, p.value) (pairs_above p.key (of_area 1 s)) s store first
    (no_first (of_area 2 s) None (p.key, p.value) (identity_of i) (sym is) (sym none))

pub first_other : (known : Option Store) (p q : Pair) (i : KeptIdentity) →
    Some (identity_of i) ≡ identity_of_pair (p.key, p.value) → Told known (λ s. true ≡ has_key (be32 i.first) (of_area 2 s)) →
    Told known (λ s. IsNext (of_area 1 s) p.key (Some q)) → is_above p.key q.key ≡ true →
    Told known (λ s. FirstTold s p (Err (faults.BadKeeper 1 q.key)))
first_other None p q i is there next up = tt
first_other (Some s) p q i is there next up = λ first.
    let rest = pairs_above q.key (of_area 1 s) in
    let two : of_area 1 s ≡ (p.key, p.value) ∷ (q.key, q.value) ∷ rest = first ∙ ap (λ ps. (p.key, p.value) ∷ ps) next in
    let taken = an_identity (of_area 2 s) None (p.key, p.value) (identity_of i) (sym is) (sym there) in
    let refused = no_other (of_area 2 s) (Some (identity_of i)) p.key (q.key, q.value)
    (named (p.key, p.value) (identity_of i) (sym is)) up in
    loaded_there s (ap (has_key standby_key) two ∙ has_it (p.key, p.value) ((q.key, q.value) ∷ rest) (identity_of i) (sym is))
    ∙ refused_there s (1, q.key)
    (ap (λ ps. read_area 1 (standby_step (of_area 2 s)) None ps >>= identity_or) two
    ∙ ap (λ o. (or_err o (1, p.key) >>= λ x. read_area 1 (standby_step (of_area 2 s)) x ((q.key, q.value) ∷ rest)) >>= identity_or)
    taken
    ∙ ap (λ o. (or_err o (1, q.key) >>= λ x. read_area 1 (standby_step (of_area 2 s)) x rest) >>= identity_or) refused)

pub first_alone : (known : Option Store) (p : Pair) (i : KeptIdentity) →
    Some (identity_of i) ≡ identity_of_pair (p.key, p.value) → Told known (λ s. true ≡ has_key (be32 i.first) (of_area 2 s)) →
    Told known (λ s. IsNext (of_area 1 s) p.key None) → Told known (λ s. FirstTold s p (Ok i))
first_alone None p i is there next = tt
first_alone (Some s) p i is there next = λ first.
    let one : of_area 1 s ≡ (p.key, p.value) ∷ [] = first ∙ ap (λ ps. (p.key, p.value) ∷ ps) next in
    let taken = an_identity (of_area 2 s) None (p.key, p.value) (identity_of i) (sym is) (sym there) in
    record {
      own = ap (has_key standby_key) one ∙ has_it (p.key, p.value) [] (identity_of i) (sym is);
      first = sym there;
      given = ap (λ ps. read_area 1 (standby_step (of_area 2 s)) None ps >>= identity_or) one
          ∙ ap (λ o. (or_err o (1, p.key) >>= λ x. Ok x) >>= identity_or) taken;
    }

-- ---- where area 1 has no pair

all_of : (s : Store) → is_store s ≡ true → pairs_above [] (of_area 1 s) ≡ [] → of_area 1 s ≡ []
all_of s store none = sym (all_first 1 s store) ∙ none

pub none_of_standby : (known : Option Store) → Told known (λ s. IsTrue (is_store s)) →
    Told known (λ s. IsNext (of_area 1 s) [] None) → Told known (λ s. IdentityTold s (Ok None))
none_of_standby None store next = tt
none_of_standby (Some s) store next = all_of s store next

gives_told : (s : Store) (result : Result KeptIdentity LoadFault) → FirstGives s result → IdentityTold s (map_ok Some result)
gives_told s (Ok i) e = e
gives_told s (Err f) e = e

pub first_told : (known : Option Store) (p : Pair) (result : Result KeptIdentity LoadFault) →
    Told known (λ s. IsTrue (is_store s)) →
    Told known (λ s. IsNext (of_area 1 s) [] (Some p)) → Told known (λ s. FirstTold s p result) →
    Told known (λ s. IdentityTold s (map_ok Some result))
first_told None p result store next told = tt
first_told (Some s) p result store next told = gives_told s result (told (sym (all_first 1 s store) ∙ next))

-- ---- where area 1 has no pair

pub empty_first : (known : Option Store) →
    Told known (λ s. of_area 1 s ≡ [] → (i : ℕ) → 1 ≤ i → i < 2 → of_area i s ≡ [])
empty_first None = tt
empty_first (Some s) = λ e i least most.
    let one : 1 ≡ i = omega arith in
    subst (λ (n : ℕ). of_area n s ≡ []) one e

one_more : (a : ℕ) (s : Store) → ((i : ℕ) → 1 ≤ i → i < a → of_area i s ≡ []) → of_area a s ≡ [] → (i : ℕ) → 1 ≤ i → i < a + 1 →
    of_area i s ≡ []
one_more a s so_far here i least most =
    elim (nat_lt i a) as (λ (b : Bool). nat_lt i a ≡ b → of_area i s ≡ []) [
      | true ↦ λ is. so_far i least (lt_of i a is)
      | false ↦ λ is. let same : a ≡ i = grind (arith, nat_tests) in subst (λ (n : ℕ). of_area n s ≡ []) same here
    ] refl

pub empty_on : (known : Option Store) (a : ℕ) → Told known (λ s. IsTrue (is_store s)) →
    Told known (λ s. of_area 1 s ≡ [] → (i : ℕ) → 1 ≤ i → i < a → of_area i s ≡ []) →
    Told known (λ s. IsNext (of_area a s) [] None) →
    Told known (λ s. of_area 1 s ≡ [] → (i : ℕ) → 1 ≤ i → i < a + 1 → of_area i s ≡ [])
empty_on None a store so_far is = tt
empty_on (Some s) a store so_far is = λ e. one_more a s (so_far e) (sym (all_first a s store) ∙ is)

pub empty_through : (known : Option Store) →
    Told known (λ s. of_area 1 s ≡ [] → (i : ℕ) → 1 ≤ i → i < 8 → of_area i s ≡ []) →
    Told known (λ s. of_area 1 s ≡ [] → loaded s ≡ Fresh)
empty_through None so_far = tt
empty_through (Some s) so_far = λ e. nothing_loaded s (so_far e)

pub empty_bad : (known : Option Store) (a : ℕ) (p : Pair) → 2 ≤ a → a < 8 → Told known (λ s. IsTrue (is_store s)) →
    Told known (λ s. of_area 1 s ≡ [] → (i : ℕ) → 1 ≤ i → i < a → of_area i s ≡ []) →
    Told known (λ s. IsNext (of_area a s) [] (Some p)) → Told known (λ s. of_area 1 s ≡ [] → loaded s ≡ Bad a p.key)
empty_bad None a p least most store so_far is = tt
empty_bad (Some s) a p least most store so_far is = λ e.
    first_is_bad a (p.key, p.value) (pairs_above p.key (of_area a s)) s store (omega arith) (omega arith)
    (sym (all_first a s store) ∙ is) (so_far e) (ap (has_key standby_key) e)
