-- The balances of the 500 accounts that one transaction of a pair chooses from, one for each place. A balance of 0 is an account
-- that is not open, since an amount is at least 1.
use Rattle.std.specs.Prelude.{ℕ, List, slice_get, unwrap_or, replicate}

unfoldable pub no_balances : List ℕ
no_balances = replicate 500 0

abbrev pub balance_of : List ℕ → ℕ → ℕ
balance_of balances place = unwrap_or (slice_get balances place) 0
