-- The order of values, texts, rows and keys, and of positions and transaction ids. Each is total, and equal only where the
-- two are the same.
-- Sets of keys are lists in this order.
use Rattle.std.specs.Prelude.{◌∷◌, ℕ, Bool, true, ◌&&◌, List, [], ℤ, pos, nat_eq}
use Rattle.std.specs.declared.cmp.Ordering.{Ordering}
use Rattle.std.specs.Ordering.{nat_cmp, int_cmp, on, then_cmp, eq_by_cmp, is_lt}
use Rattle.std.specs.Cmp.{IsTotalOrder, on_total, then_total, nat_cmp_total, int_cmp_total}
use Rattle.std.specs.Cmp.Lexicographic.{slice_cmp, pointwise, nat_list_cmp_total, lists_total}
use Rattle.std.specs.FinMap.Entries.{by_order}
use Rattle.rl_value.specs.declared.key.Key.{Key}
use Rattle.rl_value.specs.declared.pos.Pos.{Pos}
use Rattle.rl_value.specs.declared.value.Value.{Value}
use Rattle.rl_value.specs.declared.value.Value.TheVariants.{Null, Number, Text, Raw}
use Rattle.rl_value.specs.declared.xid.Xid.{Xid}

-- the bytes are the same
abbrev pub same_bytes : List ℕ → List ℕ → Bool
same_bytes = pointwise nat_eq

-- the first byte that differs decides, and else the shorter comes first
abbrev pub bytes_cmp : List ℕ → List ℕ → Ordering
bytes_cmp = slice_cmp nat_cmp

pub bytes_total : IsTotalOrder bytes_cmp
bytes_total = nat_list_cmp_total

-- the place of its kind among the kinds
abbrev pub kind_of : Value → ℕ
kind_of Null = 0
kind_of (Number z) = 1
kind_of (Text bytes) = 2
kind_of (Raw bytes) = 3

-- its number, and 0 where it has none
abbrev pub number_of : Value → ℤ
number_of Null = pos 0
number_of (Number z) = z
number_of (Text bytes) = pos 0
number_of (Raw bytes) = pos 0

-- its bytes, and none where it is no text and no raw value
abbrev pub bytes_of : Value → List ℕ
bytes_of Null = []
bytes_of (Number z) = []
bytes_of (Text bytes) = bytes
bytes_of (Raw bytes) = bytes

-- by kind, then numbers by value, texts and raws by bytes
abbrev pub value_cmp : Value → Value → Ordering
value_cmp = then_cmp (on kind_of nat_cmp) (then_cmp (on number_of int_cmp) (on bytes_of bytes_cmp))

-- two values are the same
abbrev pub value_eq : Value → Value → Bool
value_eq = eq_by_cmp value_cmp

-- the first value that differs decides, and else the shorter row comes first
abbrev pub row_cmp : List Value → List Value → Ordering
row_cmp = slice_cmp value_cmp

pub value_total : IsTotalOrder value_cmp
value_total = then_total (on_total kind_of nat_cmp_total)
    (then_total (on_total number_of int_cmp_total) (on_total bytes_of bytes_total))

pub row_total : IsTotalOrder row_cmp
row_total = lists_total value_total

-- by table, then by index, then by values
abbrev pub key_cmp : Key → Key → Ordering
key_cmp = then_cmp (on (λ k. k.table) nat_cmp) (then_cmp (on (λ k. k.index) nat_cmp) (on (λ k. k.values) row_cmp))

pub key_total : IsTotalOrder key_cmp
key_total = then_total (on_total (λ k. k.table) nat_cmp_total)
    (then_total (on_total (λ k. k.index) nat_cmp_total) (on_total (λ k. k.values) row_total))

-- by record, then by vector
abbrev pub pos_cmp : Pos → Pos → Ordering
pos_cmp = then_cmp (on (λ p. p.rec) nat_cmp) (on (λ p. p.vec) nat_cmp)

pub pos_total : IsTotalOrder pos_cmp
pos_total = then_total (on_total (λ p. p.rec) nat_cmp_total) (on_total (λ p. p.vec) nat_cmp_total)

-- by undo segment, then by slot, then by sequence
abbrev pub xid_cmp : Xid → Xid → Ordering
xid_cmp = then_cmp (on (λ x. x.usn) nat_cmp) (then_cmp (on (λ x. x.slot) nat_cmp) (on (λ x. x.sqn) nat_cmp))

pub xid_total : IsTotalOrder xid_cmp
xid_total = then_total (on_total (λ x. x.usn) nat_cmp_total)
    (then_total (on_total (λ x. x.slot) nat_cmp_total) (on_total (λ x. x.sqn) nat_cmp_total))

-- a key comes before the first of these
abbrev pub is_below_first : Key → List Key → Bool
is_below_first k [] = true
is_below_first k (l ∷ ls) = is_lt (key_cmp k l)

-- each key comes before the next one
abbrev pub keys_rise : List Key → Bool
keys_rise [] = true
keys_rise (k ∷ ks) = is_below_first k ks && keys_rise ks

-- the keys in rising order with one more, if it is not there
abbrev pub with_key : Key → List Key → List Key
with_key k [] = k ∷ []
with_key k (l ∷ ls) = by_order (key_cmp k l) (k ∷ l ∷ ls) (l ∷ ls) (l ∷ with_key k ls)

-- the keys in rising order, each once
abbrev pub key_set : List Key → List Key
key_set [] = []
key_set (k ∷ ks) = with_key k (key_set ks)
