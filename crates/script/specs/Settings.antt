-- What CACHE and EAGER say behind the numbers of APPLY and REPLAY, and their defaults. This project's own.
use Rattle.std.specs.Prelude.{ℕ, ◌+◌, ◌*◌, List, [], ◌∷◌, if◌then◌else◌, codes, Option, Some}
use Rattle.std.specs.Option.{option_map, option_and_then}
use Rattle.script_words.specs.Numbers.{number_in}
use Rattle.script.specs.Fields.{is}

-- how many preparers or appliers there are
abbrev pub workers : List ℕ → Option ℕ
workers = number_in 1 16

-- the number of change records in the cache: at least 256, and 64 more for each applier
abbrev pub cache_of : ℕ → List ℕ → Option ℕ
cache_of appliers = number_in (256 + 64 * appliers) 65536

-- from how many surviving changes on an open transaction is worked on
abbrev pub eager_of : List ℕ → Option ℕ
eager_of = number_in 64 10000

-- what CACHE and EAGER say, and the words behind them
pub record Set : Type 0 where
  pub cache : ℕ
  pub eager : ℕ
  pub rest : List (List ℕ)

abbrev pub set : ℕ → ℕ → List (List ℕ) → Set
set cache eager rest = record { cache = cache; eager = eager; rest = rest }

-- the settings where nothing is said
abbrev pub default_cache : ℕ
default_cache = 4096

abbrev pub default_eager : ℕ
default_eager = 200

-- EAGER e, or nothing
unfoldable pub eager_then : ℕ → List (List ℕ) → Option Set
eager_then cache [] = Some (set cache default_eager [])
eager_then cache (word ∷ []) = Some (set cache default_eager (word ∷ []))
eager_then cache (word ∷ e ∷ rest) =
    if is (codes "EAGER") word then option_map (λ eager. set cache eager rest) (eager_of e)
    else Some (set cache default_eager (word ∷ e ∷ rest))

-- CACHE c, or nothing, and then EAGER e, or nothing
unfoldable pub settings_of : ℕ → List (List ℕ) → Option Set
settings_of appliers [] = Some (set default_cache default_eager [])
settings_of appliers (word ∷ []) = Some (set default_cache default_eager (word ∷ []))
settings_of appliers (word ∷ c ∷ rest) =
    if is (codes "CACHE") word then option_and_then (λ cache. eager_then cache rest) (cache_of appliers c)
    else eager_then default_cache (word ∷ c ∷ rest)
