-- Each kind of step keeps the rule of a lock. The lift and the lowering change no word and no view, and need no lemma.
use Rattle.std.proofs.Common.{◌≡◌, ◌≢◌, ◌⊎◌, ℕ, zero, suc, ◌+◌, ◌*◌, ◌/◌, ◌%◌, ◌<◌, ◌≤◌, eqb, true, false, List, [], ◌∷◌, ◌++◌, length, get_or, set, refl, sym, ap, ◌∙◌, subst, inl, inr, ⊎_elim, true≢false, arith, length-set, get_or-set_same, eq-eqb, ne_eqb}
use Rattle.std.specs.Prelude.{Option, Some, None}
use mathlib.Core.Option.{some, none, some-injective, some-ne-none}
use native.Mathlib.Decide.{ℕ_discrete}
use mathlib.Core.Logic.{dite}
use prog.Atomic.{either}
use lib.ListN.{get_elem?}
use Rattle.atomic_table.specs.Table.{State, Me, step, keeps, takes, gives, stepped, Allows, Splits, Joins, opening, Final, Seen}
use Rattle.atomic_table.proofs.Lists.{set_here, set_else}
use Rattle.tag_lock.specs.declared.rule.Known.{Known}
use Rattle.tag_lock.specs.Rule.{parts_of, first_view, cut_left, cut_right, joined, spent_view, Fits, IsTaken, IsOpen, CanRelease, Kept, looked, claimed, released}
use Rattle.tag_lock.specs.Token.{StandsFor}
use Rattle.tag_lock.proofs.Views.{not_true, inside, parts_set, parts_more, parts_two, each_set, each_more, StaysHeld, held_through, held_set, held_more}

-- a table of one word
word_set : (ws : List ℕ) (n : ℕ) → length ws ≡ 1 → get_or (set ws 0 n) 0 0 ≡ n
word_set ws n one = get_or-set_same ws 0 n 0 (omega arith)

module _ {V T : Type 0} (stands : T → ℕ → V → Type 0) (height : V → ℕ) where
  abbrev S : Type 0
  S = State (Option V) (Known T)

  abbrev Rule : S → Type 0
  Rule = Kept stands height

  abbrev word : S → ℕ
  word s = get_or s.words 0 0

  abbrev Phase : T → ℕ → ℕ → S → Type 0
  Phase tag start rank s = IsOpen stands height tag start rank s ⊎ IsTaken rank s

  half : (s : S) (k : Rule s) → word s / 2 ≡ k.rank
  half s k = ⊎_elim (λ (o : IsOpen stands height k.tag k.start k.rank s). let w = o.word in omega arith)
      (λ (t : IsTaken k.rank s). let w = t.word in omega arith) k.phase

  -- the phase stays where the word, the slot and the seats that are holding stay
  phase_stays : (tag : T) (start rank : ℕ) (s : S) (ws : List ℕ) (vs : List (Known T)) → get_or ws 0 0 ≡ word s →
      StaysHeld s.views vs → Phase tag start rank s
      → Phase tag start rank record { words = ws; homes = s.homes; views = vs }
  phase_stays tag start rank s ws vs same held phase =
      ⊎_elim
      (λ (o : IsOpen stands height tag start rank s). inl record {
        word = same ∙ o.word;
        value = o.value;
        home = o.home;
        right = o.right;
        at_rank = o.at_rank;
        idle = λ j v e. not_true v.holding (λ holds. let t = held.back j v e holds in true≢false (sym t.2 ∙ o.idle j t.0 t.1));
      })
      (λ (t : IsTaken rank s). let u = held.forth t.holder t.view t.at t.holding in inr record {
        word = same ∙ t.word;
        away = t.away;
        holder = t.holder;
        view = u.0;
        at = u.1;
        holding = u.2;
        only = λ j v e holds. let b = held.back j v e holds in t.only j b.0 b.1 b.2;
      })
      phase

  -- a step that changes views alone
  calm : (s : S) (k : Rule s) (ws : List ℕ) (vs : List (Known T)) → length ws ≡ 1 → get_or ws 0 0 ≡ word s → parts_of vs ≡ 64
      → ((j : ℕ) (v : Known T) → get_elem? vs j ≡ some v → Fits k.tag k.start k.rank v) → StaysHeld s.views vs →
      Rule record { words = ws; homes = s.homes; views = vs }
  calm s k ws vs one same total each held = record {
    tag = k.tag;
    start = k.start;
    rank = k.rank;
    wide = one;
    deep = k.deep;
    total = total;
    each = each;
    phase = phase_stays k.tag k.start k.rank s ws vs same held k.phase;
  }

  -- a step that leaves the word as it is, and changes one view but not whether it is holding
  look_on : (s : S) (k : Rule s) (id : ℕ) (v w : Known T) (c : List (ℕ × Option V)) (n : ℕ) → n ≡ word s →
      get_elem? s.views id ≡ some v → w.parts ≡ v.parts → w.holding ≡ v.holding
      → Fits k.tag k.start k.rank w → Rule (stepped s 0 n id c w keeps)
  look_on s k id v w c n is at parts holding fits =
      let one : length (set s.words 0 n) ≡ 1 = length-set s.words 0 n ∙ k.wide in
      let sum = parts_set s.views id v w at in
      let total = k.total in
      calm s k (set s.words 0 n) (set s.views id w) one (word_set s.words n k.wide ∙ is) (omega arith)
      (each_set (λ j. Fits k.tag k.start k.rank) s.views id w fits (λ j u apart e. k.each j u e))
      (held_set s.views id v w at holding)

  pub looks : (slots id : ℕ) (me : Me (Option V) (Known T)) →
      Allows Rule slots id me 0 (λ n. n) (looked (step slots 0 0 0 none) me)
  looks slots id me s k deep at small =
      let v = me.0 in
      let f = k.each id v at in
      let is : word s / 2 ≡ k.rank = half s k in
      let low = f.seen in
      let w : Known T = record v { seen = word s / 2 } in (
        w,
        keeps,
        tt,
        look_on s k id v w me.1 (word s) refl at refl refl record {
          same_tag = f.same_tag;
          same_start = f.same_start;
          idle = f.idle;
          seen = omega arith;
          held_at = λ _. is;
        },
        (omega arith, refl),
      )

  stands_known : (tag : T) (start : ℕ) (x : V) (known : Option T) (from : ℕ) → known ≡ Some tag → from ≡ start →
      stands tag start x → StandsFor stands known from x
  stands_known tag start x known from e f right = subst (λ (t : Option T × ℕ). StandsFor stands t.0 t.1 x)
      (λ i. (sym e i, sym f i)) right

  stands_right : (tag : T) (start : ℕ) (x : V) (known : Option T) (from : ℕ) → known ≡ Some tag → from ≡ start →
      StandsFor stands known from x → stands tag start x
  stands_right tag start x known from e f right = subst (λ (t : Option T × ℕ). StandsFor stands t.0 t.1 x) (λ i. (e i, f i)) right

  -- a hit of the claim takes the value out of the slot, and the seat holds it
  claim_hits : (slots id : ℕ) (v : Known T) (c : List (ℕ × Option V)) (s : S) (k : Rule s) → get_elem? s.views id ≡ some v →
      0 < v.parts → (m old : ℕ) → word s ≡ old → m ≡ old + 1 → IsOpen stands height k.tag k.start k.rank s
      → (x : V) × (get_elem? s.homes 0 ≡ some (some (Some x))) ×
      Rule (stepped s 0 m id c (record v { holding = true; seen = height x }) (takes 0 (Some x))) × (v.seen ≤ height x) ×
      StandsFor stands v.tag v.start x
  claim_hits slots id v c s k at some_part m old found is o =
      let x = o.value in
      let w : Known T = record v { holding = true; seen = height x } in
      let f = k.each id v at in
      let rank : height x ≡ k.rank = o.at_rank in
      let low = f.seen in
      let open_word = o.word in
      let sum = parts_set s.views id v w at in
      let total = k.total in (
        x,
        o.home,
        record {
          tag = k.tag;
          start = k.start;
          rank = k.rank;
          wide = length-set s.words 0 m ∙ k.wide;
          deep = length-set s.homes 0 none ∙ k.deep;
          total = omega arith;
          each = each_set (λ j. Fits k.tag k.start k.rank) s.views id w
              (record {
                same_tag = f.same_tag;
                same_start = f.same_start;
                idle = λ none_left. absurd (omega arith);
                seen = omega arith;
                held_at = λ _. rank;
              })
              (λ j u apart e. k.each j u e);
          phase = inr record {
            word = word_set s.words m k.wide ∙ omega arith;
            away = set_here s.homes 0 none (let deep = k.deep in omega arith);
            holder = id;
            view = w;
            at = set_here s.views id w (inside s.views id v at);
            holding = refl;
            only = each_set (λ j u. u.holding ≡ true → j ≡ id) s.views id w (λ _. refl)
                (λ j u apart e holds. absurd (true≢false (sym holds ∙ o.idle j u e)));
          };
        },
        omega arith,
        stands_known k.tag k.start x v.tag v.start (f.same_tag some_part) (f.same_start some_part) o.right,
      )

  pub claims : (slots id : ℕ) (me : Me (Option V) (Known T)) (old : ℕ) → 0 < me.0.parts → old % 2 ≡ 0
      → Allows Rule slots id me 0 (λ n. either (eqb n old) (old + 1) n)
      (claimed stands height (step slots 0 old (old + 1) none) me)
  claims slots id me old some_part even s k deep at small =
      let v = me.0 in
      let n = word s in
      let m = either (eqb n old) (old + 1) n in
      dite
      (ℕ_discrete n old)
      (λ hit.
      let is : m ≡ old + 1 = ap (λ b. either b (old + 1) n) (eq-eqb n old hit) in
      let phase : IsOpen stands height k.tag k.start k.rank s =
      ⊎_elim (λ (o : IsOpen stands height k.tag k.start k.rank s). o)
      (λ (t : IsTaken k.rank s). let odd = t.word in absurd (omega arith)) k.phase in
      let h = claim_hits slots id v me.1 s k at some_part m old hit is phase in
      let x = h.0 in (
        record v { holding = true; seen = height x },
        takes 0 (Some x),
        h.1,
        h.2,
        ((λ _. record { value = x; me = refl; not_below = h.3; right = h.4 }), (λ miss. absurd (miss hit))),
      ))
      (λ miss.
      let is : m ≡ n = ap (λ b. either b (old + 1) n) (ne_eqb n old miss) in
      (v, keeps, tt, look_on s k id v v me.1 m is at refl refl (k.each id v at), ((λ hit. absurd (miss hit)), (λ _. refl))))

  -- the opening store, by the seat that has put the value home
  opens : (slots id : ℕ) (v : Known T) (x : V) → 0 < v.parts → v.holding ≡ true → StandsFor stands v.tag v.start x →
      v.seen ≤ height x → (new : ℕ) → new ≡ 2 * height x
      → Allows Rule slots id (v, (0, Some x) ∷ []) 0 (λ _. new)
      (λ _. released (step slots 0 new 0 none) (v, (0, Some x) ∷ []) new)
  opens slots id v x some_part holding right above new is s k deep at small =
      let f = k.each id v at in
      let w : Known T = record v { holding = false; seen = new / 2 } in
      let twice : new / 2 ≡ height x = omega arith in
      let was : v.seen ≡ k.rank = f.held_at holding in
      let sum = parts_set s.views id v w at in
      let total = k.total in
      let wide = k.wide in
      let taken : IsTaken k.rank s = ⊎_elim (λ (o : IsOpen stands height k.tag k.start k.rank s). absurd
      (true≢false (sym holding ∙ o.idle id v at))) (λ (t : IsTaken k.rank s). t) k.phase in
      let mine : id ≡ taken.holder = taken.only id v at holding in
      let calm_others : (j : ℕ) (u : Known T) → j ≢ id → get_elem? s.views j ≡ some u → u.holding ≡ false =
      λ j u apart e. not_true u.holding (λ holds. apart (taken.only j u e holds ∙ sym mine)) in (
        w,
        gives,
        tt,
        record {
          tag = k.tag;
          start = k.start;
          rank = height x;
          wide = length-set s.words 0 new ∙ k.wide;
          deep = length-set s.homes 0 (some (Some x)) ∙ k.deep;
          total = omega arith;
          each = each_set (λ j. Fits k.tag k.start (height x)) s.views id w
              (record {
                same_tag = f.same_tag;
                same_start = f.same_start;
                idle = λ _. refl;
                seen = omega arith;
                held_at = λ never. absurd (true≢false (sym never));
              })
              (λ j u apart e.
              let g = k.each j u e in
              let low = g.seen in
              record {
                same_tag = g.same_tag;
                same_start = g.same_start;
                idle = g.idle;
                seen = omega arith;
                held_at = λ holds. absurd (true≢false (sym holds ∙ calm_others j u apart e));
              });
          phase = inl record {
            word = word_set s.words new wide ∙ is;
            value = x;
            home = set_here s.homes 0 (some (Some x)) (let one = k.deep in omega arith);
            right = stands_right k.tag k.start x v.tag v.start (f.same_tag some_part) (f.same_start some_part) right;
            at_rank = refl;
            idle = each_set (λ j u. u.holding ≡ false) s.views id w refl calm_others;
          };
        },
        refl,
      )

  pub releases : (slots id : ℕ) (me : Me (Option V) (Known T)) (rank : ℕ) → CanRelease stands height me rank
      → Allows Rule slots id me 0 (λ _. 2 * rank) (λ _. released (step slots 0 (2 * rank) 0 none) me (2 * rank))
  releases slots id me rank can =
      let x = can.value in
      let at = can.at_rank in
      let low = can.not_below in
      subst (λ (m : Me (Option V) (Known T)). Allows Rule slots id m 0 (λ _. 2 * rank)
      (λ _. released (step slots 0 (2 * rank) 0 none) m (2 * rank)))
      (λ i. (me.0, sym can.home i))
      (opens slots id me.0 x can.part can.holding can.right (omega arith) (2 * rank) (omega arith))

  pub cuts : (id : ℕ) (v : Known T) → 2 ≤ v.parts → Splits Rule id v (cut_left v) (cut_right v)
  cuts id v two s k at =
      let f = k.each id v at in
      let left = cut_left v in
      let right = cut_right v in
      let sum = parts_set s.views id v left at in
      let more = parts_more (set s.views id left) right in
      let total = k.total in
      let fits_left : Fits k.tag k.start k.rank left = record {
        same_tag = λ _. f.same_tag (omega arith);
        same_start = λ _. f.same_start (omega arith);
        idle = λ none_left. absurd (omega arith);
        seen = f.seen;
        held_at = f.held_at;
      } in
      let fits_right : Fits k.tag k.start k.rank right =
      record {
        same_tag = λ _. f.same_tag (omega arith);
        same_start = λ _. f.same_start (omega arith);
        idle = λ _. refl;
        seen = f.seen;
        held_at = λ never. absurd (true≢false (sym never));
      } in
      calm s k s.words (set s.views id left ++ right ∷ []) k.wide refl (omega arith)
      (each_more (λ j. Fits k.tag k.start k.rank) (set s.views id left) right (λ j. fits_right)
      (each_set (λ j. Fits k.tag k.start k.rank) s.views id left fits_left (λ j u apart e. k.each j u e)))
      (held_through s.views (set s.views id left) (set s.views id left ++ right ∷ []) (held_set s.views id v left at refl)
      (held_more (set s.views id left) right refl))

  pub glues : (id : ℕ) (v : Known T) (other : ℕ) (w : Known T) → 0 < v.parts → w.holding ≡ false →
      Joins Rule id v other w (joined v w) spent_view
  glues id v other w some_part idle s k at apart there =
      let both = joined v w in
      let between = set s.views id both in
      let f = k.each id v at in
      let was : get_elem? s.views other ≡ some w = sym (set_else s.views id other both apart) ∙ there in
      let g = k.each other w was in
      let low = f.seen in
      let low_too = g.seen in
      let sum = parts_set s.views id v both at in
      let sum_too = parts_set between other w spent_view there in
      let total = k.total in
      let fits_both : Fits k.tag k.start k.rank both = record {
        same_tag = λ _. f.same_tag some_part;
        same_start = λ _. f.same_start some_part;
        idle = λ none_left. absurd (omega arith);
        seen = omega arith;
        held_at = λ holds. let top = f.held_at holds in omega arith;
      } in
      let fits_spent : Fits k.tag k.start k.rank spent_view =
      record {
        same_tag = λ never. absurd (omega arith);
        same_start = λ never. absurd (omega arith);
        idle = λ _. refl;
        seen = omega arith;
        held_at = λ never. absurd (true≢false (sym never));
      } in
      calm s k s.words (set between other spent_view) k.wide refl (omega arith)
      (each_set (λ j. Fits k.tag k.start k.rank) between other spent_view fits_spent
      (λ j u _ e. each_set (λ i. Fits k.tag k.start k.rank) s.views id both fits_both (λ i x _ h. k.each i x h) j u e))
      (held_through s.views between (set between other spent_view) (held_set s.views id v both at refl)
      (held_set between other w spent_view there (sym idle)))

  begins : (tag : T) (start : ℕ) (x : V) (known : Option T) (from rank : ℕ) → known ≡ Some tag → from ≡ start →
      stands tag start x → height x ≡ rank → (n : ℕ) → n ≡ 2 * rank
      → Rule (opening (n ∷ []) (Some x ∷ []) (first_view known from rank))
  begins tag start x known from rank is_tag is_start right at_rank n is = record {
    tag = tag;
    start = start;
    rank = rank;
    wide = refl;
    deep = refl;
    total = refl;
    each = one (λ j. Fits tag start rank) record {
      same_tag = λ _. is_tag;
      same_start = λ _. is_start;
      idle = λ _. refl;
      seen = omega arith;
      held_at = λ never. absurd (true≢false (sym never));
    };
    phase = inl record {
      word = is;
      value = x;
      home = refl;
      right = right;
      at_rank = at_rank;
      idle = one (λ j u. u.holding ≡ false) refl;
    };
  }
    where
      one : (P : ℕ → Known T → Type 0) → P 0 (first_view known from rank) → (j : ℕ) (u : Known T) →
          get_elem? (first_view known from rank ∷ []) j ≡ some u → P j u
      one P p zero u e = subst (P 0) (some-injective _ _ e) p
      one P p (suc j) u e = absurd (some-ne-none u (sym e))

  -- the same, where the tag is known or not
  pub begins_known : (x : V) (known : Option T) (from rank : ℕ) → StandsFor stands known from x → height x ≡ rank →
      Rule (opening (2 * rank ∷ []) (Some x ∷ []) (first_view known from rank))
  begins_known x None from rank right at_rank = absurd right
  begins_known x (Some tag) from rank right at_rank = begins tag from x (Some tag) from rank refl refl right at_rank
      (2 * rank) refl

  -- a seat that is idle and has every part knows that the value is home
  pub ends : (id : ℕ) (v : Known T) (ws : List ℕ) (xs : List (Option V)) → v.parts ≡ 64 → v.holding ≡ false →
      Final (Seen Rule id v) ws xs
      → (x : V) × (get_elem? xs 0 ≡ some (Some x)) × StandsFor stands v.tag v.start x × (v.seen ≤ height x)
  ends id v ws xs all idle last =
      let s = last.0 in
      let k : Rule s = last.1.0 in
      let at : get_elem? s.views id ≡ some v = last.1.1 in
      let f = k.each id v at in
      let low = f.seen in
      ⊎_elim
      (λ (o : IsOpen stands height k.tag k.start k.rank s).
      let rank = o.at_rank in (
        o.value,
        last.4 0 (Some o.value) o.home,
        stands_known k.tag k.start o.value v.tag v.start (f.same_tag (omega arith))
            (f.same_start (omega arith)) o.right,
        omega arith,
      ))
      (λ (t : IsTaken k.rank s).
      let apart : id ≢ t.holder = λ same. true≢false (sym t.holding ∙
      (ap (λ (u : Known T). u.holding) (some-injective t.view v (sym t.at ∙ (ap (get_elem? s.views) (sym same) ∙ at))) ∙
      idle)) in
      let no_more = parts_two s.views id t.holder v t.view apart at t.at in
      let total = k.total in
      absurd (true≢false (sym t.holding ∙ (k.each t.holder t.view t.at).idle (omega arith))))
      k.phase
