-- Skip rules as they are read: each under the number of its place.
use Rattle.std.proofs.Common.{◌≡◌, ℕ, ◌+◌, ◌^◌, List, [], ◌∷◌, ◌++◌, length, drop, Bool, true, false, not, refl, sym, ap, ◌∙◌, subst, Option, Some, None, Ok, Err, arith}
use Rattle.std.specs.Prelude.{◌&&◌, ◌==◌, nat_le, nat_lt, if◌then◌else◌}
use Rattle.std.proofs.lemmas.Bool.Decides.{nat_tests}
use Rattle.std.specs.Int.{w64}
use Rattle.std.specs.List.{AllByRecursion}
use Rattle.std.specs.Option.{option_map, option_and_then}
use Rattle.rl_value.specs.Order.{same_bytes}
use Rattle.redo_vec.specs.Cutting.{number_in}
use Rattle.redo_vec.specs.Ranges.{AreBytes}
use Rattle.redo_vec.specs.Reading.{Read, xid_at}
use Rattle.redo_vec.specs.Spelling.{be32}
use Rattle.redo_vec.proofs.ChangeLaws.{xid_sound}
use Rattle.redo_spec.specs.Skips.{Rule, Tables as OfTables, Transaction, Skip, is_pattern, has_rule, skip_limit}
use Rattle.redo_spec.proofs.ListLaws.{all_append}
use Rattle.skip_guard.specs.Rules.{skip_fault, IsRefusal}
use Rattle.skip_guard.specs.declared.entry.SkipFault.{SkipFault}
use Rattle.skip_guard.specs.declared.entry.SkipFault.TheVariants as faults
use Rattle.standby_spec.specs.HasLayout.{IsRule, IsSkip}
use Rattle.standby_spec.specs.Loading.{when_true, read_whole, byte_in, rule_in, with_rule, skip_step}
use Rattle.standby_spec.specs.Writings.{skip_from}
use Rattle.redo_spec.proofs.FieldLaws.{bytes_fit, drop_fits}
use Rattle.standby_spec.proofs.SpellLaws.{if-given, when-given, then-given, map-given}
use Rattle.kept_layout.specs.Pairs.{skip_with, skip_of_pair}
use Rattle.checkpoint.proofs.Numbers.{lt_of}

-- ---- the rule of a pair

whole_is : {A : Type 0} (r : Read A) (y : A) → read_whole r ≡ Some y → r ≡ Ok (y, [])
whole_is (Ok (x, [])) y e = let same : x ≡ y = cc in ap (λ z. Ok (z, [])) same
whole_is (Ok (x, b ∷ left)) y e = absurd (cc)
whole_is (Err f) y e = absurd (cc)

rule_from : (kind : ℕ) (value : List ℕ) (r : Rule) → AreBytes value → rule_in kind (drop 9 value) ≡ Some r → IsRule r
rule_from kind value r f e =
    elim (kind == 1) as (λ t. (if t then when_true (is_pattern (drop 9 value)) (OfTables (drop 9 value))
    else if kind == 2 then option_map Transaction (read_whole (xid_at 0 (drop 9 value))) else None) ≡ Some r → IsRule r) [
      | true ↦ λ given.
          let a = when-given (is_pattern (drop 9 value)) (OfTables (drop 9 value)) r given in subst IsRule a.1 a.0
      | false ↦ λ given. elim (kind == 2) as (λ t. (if t then option_map Transaction (read_whole (xid_at 0 (drop 9 value)))
          else None) ≡ Some r → IsRule r) [
            | true ↦ λ found.
                let a = map-given Transaction (read_whole (xid_at 0 (drop 9 value))) r found in
                let read = whole_is (xid_at 0 (drop 9 value)) a.0 a.1.0 in
                let sound = xid_sound 0 (drop 9 value) (a.0, []) (drop_fits 9 value (bytes_fit value f)) read in
                subst IsRule a.1.1 sound.1
            | false ↦ λ found. absurd (cc)
          ] given
    ] e

pub skip_from_pair : (number : ℕ) (key value : List ℕ) (k : Skip) → AreBytes value → skip_of_pair number (key, value) ≡ Some k →
    IsSkip k
skip_from_pair number key value k f given =
    let a = if-given (same_bytes key (be32 number) && nat_le 9 (length value))
    (option_and_then (skip_with (number_in w64 0 value)) (rule_in (byte_in 8 value) (drop 9 value))) k given in
    let b = then-given (skip_with (number_in w64 0 value)) (rule_in (byte_in 8 value) (drop 9 value)) k a.1 in
    let c = when-given (nat_lt (number_in w64 0 value) (2 ^ 62)) (skip_from (number_in w64 0 value) b.0) k b.1.1 in
    subst IsSkip c.1 (record {
      rule = rule_from (byte_in 8 value) value b.0 f b.1.0;
      from = lt_of (number_in w64 0 value) (2 ^ 62)
          c.0;
    })

-- ---- one step

too_far : (a b c : Bool) (xs : List Skip) → c ≡ false → when_true (a && b && c) xs ≡ None
too_far true true c xs e = ap (λ t. when_true t xs) e
too_far true false c xs e = refl
too_far false b c xs e = refl

far_rule : (skips : List Skip) (k : Skip) (c : Bool) → when_true c k ≡ None →
    when_true (not (has_rule skips k.rule) && nat_lt (length skips) skip_limit && c) (skips ++ k ∷ []) ≡ None
far_rule skips k true given = absurd (cc)
far_rule skips k false given = too_far (not (has_rule skips k.rule)) (nat_lt (length skips) skip_limit) false (skips ++ k ∷ [])
    refl

none_of : (b : Bool) (o : Option Rule) (from : ℕ) (skips : List Skip) →
    (if b then option_and_then (skip_with from) o else None) ≡ None →
    (if b then option_and_then (with_rule skips from) o else None) ≡ None
none_of true None from skips e = refl
none_of true (Some r) from skips e = far_rule skips (skip_from from r) (nat_lt from (2 ^ 62)) e
none_of false o from skips e = refl

pub no_rule : (key value : List ℕ) (skips : List Skip) → skip_of_pair (length skips + 1) (key, value) ≡ None →
    skip_step skips (key, value) ≡ None
no_rule key value skips is = none_of (same_bytes key (be32 (length skips + 1)) && nat_le 9 (length value))
    (rule_in (byte_in 8 value) (drop 9 value)) (number_in w64 0 value) skips is

-- a rule that is new and not one too many, or is not
new_rule : (twice many : Bool) → (if twice then Some faults.Twice else if many then Some faults.Limit else None) ≡ None →
    (twice ≡ false) × (many ≡ false)
new_rule true many e = absurd (cc)
new_rule false true e = absurd (cc)
new_rule false false e = (refl, refl)

old_rule : (twice many : Bool) → ((if twice then Some faults.Twice else if many then Some faults.Limit else None) ≡ None → ⊥) →
    (not twice && not many) ≡ false
old_rule true many e = refl
old_rule false true e = refl
old_rule false false e = absurd (e refl)

room : (n : ℕ) → nat_lt n skip_limit ≡ not (nat_le skip_limit n)
room n = elim (nat_le skip_limit n) as (λ b. nat_le skip_limit n ≡ b → nat_lt n skip_limit ≡ not b) [
  | true ↦ λ e. grind (arith, nat_tests)
  | false ↦ λ e. grind (arith, nat_tests)
] refl

taken_rule : (skips : List Skip) (k x : Skip) (c : Bool) → when_true c k ≡ Some x → skip_fault skips x.rule ≡ None →
    when_true (not (has_rule skips k.rule) && nat_lt (length skips) skip_limit && c) (skips ++ k ∷ []) ≡ Some (skips ++ x ∷ [])
taken_rule skips k x true given new =
    let same : k ≡ x = cc in
    let free = new_rule (has_rule skips x.rule) (nat_le skip_limit (length skips)) new in
    let fits : nat_lt (length skips) skip_limit ≡ true = room (length skips) ∙ ap not free.1 in
    ap (λ (y : Skip). when_true (not (has_rule skips y.rule) && nat_lt (length skips) skip_limit && true) (skips ++ y ∷ [])) same
    ∙ ap (λ b. when_true (not b && nat_lt (length skips) skip_limit && true) (skips ++ x ∷ [])) free.0
    ∙ ap (λ b. when_true (b && true) (skips ++ x ∷ [])) fits
taken_rule skips k x false given new = absurd (cc)

none_taken : (test c : Bool) (xs : List Skip) → test ≡ false → when_true (test && c) xs ≡ None
none_taken test c xs e = ap (λ b. when_true (b && c) xs) e

refused_rule : (skips : List Skip) (k x : Skip) (c : Bool) → when_true c k ≡ Some x → (skip_fault skips x.rule ≡ None → ⊥) →
    when_true (not (has_rule skips k.rule) && nat_lt (length skips) skip_limit && c) (skips ++ k ∷ []) ≡ None
refused_rule skips k x true given old =
    let same : k ≡ x = cc in
    let wrong : (not (has_rule skips x.rule) && not (nat_le skip_limit (length skips))) ≡ false =
    old_rule (has_rule skips x.rule) (nat_le skip_limit (length skips)) old in
    ap (λ (y : Skip). when_true (not (has_rule skips y.rule) && nat_lt (length skips) skip_limit && true) (skips ++ y ∷ [])) same
    ∙ ap (λ b. when_true (not (has_rule skips x.rule) && b && true) (skips ++ x ∷ [])) (room (length skips))
    ∙ none_taken (not (has_rule skips x.rule) && not (nat_le skip_limit (length skips))) true (skips ++ x ∷ []) wrong
refused_rule skips k x false given old = absurd (cc)

some_of : (b : Bool) (o : Option Rule) (from : ℕ) (skips : List Skip) (k : Skip) →
    (if b then option_and_then (skip_with from) o else None) ≡ Some k → skip_fault skips k.rule ≡ None →
    (if b then option_and_then (with_rule skips from) o else None) ≡ Some (skips ++ k ∷ [])
some_of true None from skips k e new = absurd (cc)
some_of true (Some r) from skips k e new = taken_rule skips (skip_from from r) k (nat_lt from (2 ^ 62)) e new
some_of false o from skips k e new = absurd (cc)

pub a_rule : (key value : List ℕ) (skips : List Skip) (k : Skip) → skip_of_pair (length skips + 1) (key, value) ≡ Some k →
    skip_fault skips k.rule ≡ None → skip_step skips (key, value) ≡ Some (skips ++ k ∷ [])
a_rule key value skips k is new = some_of (same_bytes key (be32 (length skips + 1)) && nat_le 9 (length value))
    (rule_in (byte_in 8 value) (drop 9 value)) (number_in w64 0 value) skips k is new

old_of : (b : Bool) (o : Option Rule) (from : ℕ) (skips : List Skip) (k : Skip) →
    (if b then option_and_then (skip_with from) o else None) ≡ Some k → (skip_fault skips k.rule ≡ None → ⊥) →
    (if b then option_and_then (with_rule skips from) o else None) ≡ None
old_of true None from skips k e old = absurd (cc)
old_of true (Some r) from skips k e old = refused_rule skips (skip_from from r) k (nat_lt from (2 ^ 62)) e old
old_of false o from skips k e old = absurd (cc)

pub an_old_rule : (key value : List ℕ) (skips : List Skip) (k : Skip) → skip_of_pair (length skips + 1) (key, value) ≡ Some k →
    (skip_fault skips k.rule ≡ None → ⊥) → skip_step skips (key, value) ≡ None
an_old_rule key value skips k is old = old_of (same_bytes key (be32 (length skips + 1)) && nat_le 9 (length value))
    (rule_in (byte_in 8 value) (drop 9 value)) (number_in w64 0 value) skips k is old

-- a rule that is refused for another reason than want of memory
pub not_taken : (fault : SkipFault) (reason : Option SkipFault) → IsRefusal fault reason → (fault ≡ faults.Memory → ⊥) →
    reason ≡ None → ⊥
not_taken faults.Twice reason e f none = cc
not_taken faults.Limit reason e f none = cc
not_taken faults.Memory reason e f none = f refl

pub one_rule_more : (skips : List Skip) (k : Skip) → AllByRecursion IsSkip skips → IsSkip k →
    AllByRecursion IsSkip (skips ++ k ∷ [])
one_rule_more skips k all is = all_append IsSkip skips (k ∷ []) all (is, tt)

-- before the first rule
pub no_rules_yet : (skips : List Skip) → skips ≡ [] → AllByRecursion IsSkip skips
no_rules_yet skips none = subst (λ (ks : List Skip). AllByRecursion IsSkip ks) (sym none) tt

-- ---- the rule of a pair

pub rule_taken : (number : ℕ) (key value : List ℕ) (k : Skip) (skips next : List Skip) → number ≡ length skips + 1 →
    AreBytes value →
    Some k ≡ skip_of_pair number (key, value) → AllByRecursion IsSkip skips → skip_fault skips k.rule ≡ None →
    next ≡ skips ++ k ∷ [] → (skip_step skips (key, value) ≡ Some next) × AllByRecursion IsSkip next
rule_taken number key value k skips next at vb pair read fine added =
    let told : skip_of_pair (length skips + 1) (key, value) ≡ Some k =
    ap (λ n. skip_of_pair n (key, value)) (sym at) ∙ sym pair in (
      a_rule key value skips k told fine ∙ ap (λ xs. Some xs) (sym added),
      subst (λ (ks : List Skip). AllByRecursion IsSkip ks) (sym added)
          (one_rule_more skips k read (skip_from_pair (length skips + 1) key value k vb told)),
    )

pub rule_refused : (number : ℕ) (key value : List ℕ) (k : Skip) (skips : List Skip) → number ≡ length skips + 1 →
    Some k ≡ skip_of_pair number (key, value) → (skip_fault skips k.rule ≡ None → ⊥) → skip_step skips (key, value) ≡ None
rule_refused number key value k skips at pair bad =
    an_old_rule key value skips k (ap (λ n. skip_of_pair n (key, value)) (sym at) ∙ sym pair) bad

pub rule_missing : (number : ℕ) (key value : List ℕ) (skips : List Skip) → number ≡ length skips + 1 →
    None ≡ skip_of_pair number (key, value) → skip_step skips (key, value) ≡ None
rule_missing number key value skips at none =
    no_rule key value skips (ap (λ n. skip_of_pair n (key, value)) (sym at) ∙ sym none)
