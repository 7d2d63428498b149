-- Keys that are numbers: the number of a key above the last one is above those of the keys before.
use Rattle.std.proofs.Common.{◌≡◌, ℕ, ◌^◌, ◌<◌, ◌≤◌, List, length, true, sym, ◌∙◌, subst, arith}
use Rattle.std.specs.Prelude.{◌==◌, nat_le, nat_lt}
use Rattle.std.proofs.lemmas.Bool.Decides.{nat_tests}
use Rattle.std.proofs.lemmas.List.{take_all}
use Rattle.std.specs.Int.{w32}
use Rattle.redo_vec.specs.Cutting.{number_in}
use Rattle.redo_vec.specs.Ranges.{AreBytes}
use Rattle.redo_vec.specs.Spelling.{be32}
use Rattle.redo_spec.proofs.FieldLaws.{bytes_fit, spelled4}
use Rattle.standby_spec.proofs.SpellLaws.{number-less}
use Rattle.standby_spec.proofs.StoreLaws.{to_T, same_nat}
use Rattle.checkpoint.specs.Areas.{is_above}
use Rattle.checkpoint.specs.Read.{LiesBelow}
use Rattle.checkpoint.proofs.Walking.{above_trans}

-- tests of numbers
pub le_of : (m n : ℕ) → nat_le m n ≡ true → m ≤ n
le_of m n e = grind (arith, nat_tests)

pub lt_of : (m n : ℕ) → nat_lt m n ≡ true → m < n
lt_of m n e = grind (arith, nat_tests)

-- a key of four bytes is the spelling of its number
pub key_number : (key : List ℕ) → AreBytes key → (length key == 4) ≡ true → key ≡ be32 (number_in w32 0 key)
key_number key f e =
    let long : length key ≡ 4 = same_nat (length key) 4 e in
    sym (take_all 4 key (omega (arith, long))) ∙ spelled4 0 key (bytes_fit key f) (omega (arith, long))

-- a number below one whose key comes
pub lies_under : (last key : List ℕ) (m n : ℕ) → m < 2 ^ 32 → n < 2 ^ 32 → LiesBelow last m → is_above last key ≡ true →
    key ≡ be32 n → m < n
lies_under last key m n f g below up is =
    number-less m n f g (to_T _ (subst (λ k. is_above (be32 m) k ≡ true) is (below key up)))

-- what lies below the keys above one lies below those above a later one
pub below_on : (last key : List ℕ) (m : ℕ) → is_above last key ≡ true → LiesBelow last m → LiesBelow key m
below_on last key m up below k above = below k (above_trans last key k up above)

-- the number of the last key itself
pub below_itself : (key : List ℕ) (n : ℕ) → key ≡ be32 n → LiesBelow key n
below_itself key n is k above = subst (λ x. is_above x k ≡ true) is above
