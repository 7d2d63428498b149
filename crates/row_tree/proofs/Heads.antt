-- Two rows that begin with different numbers are in the order of these.
use Rattle.std.proofs.Common.{◌≡◌, List, [], ◌∷◌, sym, ap, Bool, true, false, Some, unwrap_or}
use Rattle.std.specs.declared.cmp.Ordering.{Ordering}
use Rattle.std.specs.declared.cmp.Ordering.TheVariants.{Less, Equal, Greater}
use Rattle.std.specs.Ordering.{ordering_then, is_le, int_cmp}
use Rattle.std.specs.Cmp.Lexicographic.{slice_cmp}
use Rattle.rl_value.specs.declared.value.Value.{Value}
use Rattle.rl_value.specs.declared.value.Value.TheVariants.{Null, Number, Text, Raw}
use Rattle.rl_value.specs.Order.{value_cmp, row_cmp}
use Rattle.row_tree.specs.Heads.{head_of, told_by, reach_by_heads}

same_some : (x y : Bool) → Some x ≡ Some y → x ≡ y
same_some x y e = ap (λ o. unwrap_or o x) e

told : (r s : Ordering) (b : Bool) → told_by r ≡ Some b → b ≡ is_le (ordering_then (ordering_then r Equal) s)
told Less s b e = sym (same_some true b e)
told Equal s b e = absurd (cc)
told Greater s b e = sym (same_some false b e)

-- what the heads of two rows tell is so
pub heads_tell : (l k : List Value) (b : Bool) → reach_by_heads (head_of l) (head_of k) ≡ Some b → b ≡ is_le (row_cmp l k)
heads_tell [] k b e = absurd (cc)
heads_tell (Null ∷ l) k b e = absurd (cc)
heads_tell (Number x ∷ l) [] b e = absurd (cc)
heads_tell (Number x ∷ l) (Null ∷ k) b e = absurd (cc)
heads_tell (Number x ∷ l) (Number y ∷ k) b e = told (int_cmp x y) (slice_cmp value_cmp l k) b e
heads_tell (Number x ∷ l) (Text bytes ∷ k) b e = absurd (cc)
heads_tell (Number x ∷ l) (Raw bytes ∷ k) b e = absurd (cc)
heads_tell (Text bytes ∷ l) k b e = absurd (cc)
heads_tell (Raw bytes ∷ l) k b e = absurd (cc)
