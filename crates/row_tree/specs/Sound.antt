-- What holds of a list of blocks, whatever its level: their entries rise from the first to the last, and each is sound.
use Rattle.std.specs.Prelude.{◌≡◌, ℕ, ◌+◌, ◌<◌, ℤ, List, length, take, drop, IsTrue, Option, Some}
use Rattle.std.specs.List.{flat_map, AllByRecursion}
use Rattle.std.specs.FinMap.Entries as entries
use Rattle.rl_value.specs.declared.value.Value.{Value}
use Rattle.rl_value.specs.Order.{row_cmp}
use Rattle.row_tree.specs.Entries.{Entries, all_below, first_key}
use Rattle.row_tree.specs.Heads.{head_of}

-- of blocks whose entries f gives, and of which S says that they are sound
pub record AreSound {K : Type 0} (f : K → Entries) (S : K → Type 0) (children : List K) : Type 0 where
  pub rising : IsTrue (entries.is_sorted row_cmp (flat_map f children))
  pub each : AllByRecursion S children
  pub some : 0 < length children

-- Of a block: its parts are, and this is its least key, which begins with this number, where it begins with one.
pub record IsBlock {K : Type 0} (f : K → Entries) (S : K → Type 0) (children : List K) (least : List Value) (begin : Option ℤ) :
    Type 0 where
  pub parts : AreSound f S children
  pub first : first_key (flat_map f children) ≡ Some least
  pub begins : begin ≡ head_of least

-- the key belongs into the block at this place, if into any: the entries before it are below, those behind it are above
pub record IsPlace {K : Type 0} (f : K → Entries) (key : List Value) (children : List K) (at : ℕ) : Type 0 where
  pub before : IsTrue (all_below (flat_map f (take at children)) key)
  pub behind : IsTrue (entries.below_all row_cmp key (flat_map f (drop (at + 1) children)))
