-- What a durable store and a spill store hold: pairs in order of area and key, and chunks in order of their ids.
-- A store is a list and not a function, so that what is in it can be gone through. This project's own.
use Rattle.std.specs.Prelude.{ℕ, List, [], ◌∷◌, filter, Bool, true, false, not, ◌&&◌, ◌==◌, nat_eq, Option}
use Rattle.std.specs.List.{find, list_all}
use Rattle.std.specs.declared.cmp.Ordering.{Ordering}
use Rattle.std.specs.Ordering.{nat_cmp, then_cmp, on, is_lt}
use Rattle.std.specs.Cmp.Lexicographic.{slice_cmp, pointwise}
use Rattle.std.specs.FinMap.Entries as entries
use Rattle.rl_ports.specs.declared.batch.Item.{Item}
use Rattle.rl_ports.specs.declared.batch.Item.TheVariants.{Put, Drop}

-- pairs in order of area and key
abbrev pub Store : Type 0
Store = List ((ℕ × List ℕ) × List ℕ)

-- by area, and then by the bytes of the key
abbrev pub place_cmp : ℕ × List ℕ → ℕ × List ℕ → Ordering
place_cmp = then_cmp (on (λ p. p.0) nat_cmp) (on (λ p. p.1) (slice_cmp nat_cmp))

-- the area is the same, and so is the key
abbrev pub same_place : ℕ × List ℕ → ℕ × List ℕ → Bool
same_place p q = (p.0 == q.0) && pointwise nat_eq p.1 q.1

-- a key has at least one byte
abbrev pub is_key : List ℕ → Bool
is_key [] = false
is_key (b ∷ bytes) = true

-- the places rise, each once, and each has a key
abbrev pub is_store : Store → Bool
is_store s = entries.is_sorted place_cmp s && list_all (λ e. is_key e.0.1) s

-- the key that an item names
abbrev pub key_of : Item → List ℕ
key_of (Put area key value) = key
key_of (Drop area key) = key

-- each item names a key
abbrev pub have_keys : List Item → Bool
have_keys items = list_all (λ item. is_key (key_of item)) items

-- what an item leaves of a store
abbrev pub after_item : Item → Store → Store
after_item (Put area key value) s = entries.put place_cmp (area, key) value s
after_item (Drop area key) s = filter (λ e. not (same_place e.0 (area, key))) s

-- the items are done in order, all together
abbrev pub after_batch : List Item → Store → Store
after_batch [] s = s
after_batch (item ∷ items) s = after_batch items (after_item item s)

-- the pair of the least key above this one in the area
abbrev pub next_pair : ℕ → List ℕ → Store → Option ((ℕ × List ℕ) × List ℕ)
next_pair area key s = find (λ e. (e.0.0 == area) && is_lt (slice_cmp nat_cmp key e.0.1)) s

-- chunks in order of their ids
abbrev pub Chunks : Type 0
Chunks = List (ℕ × List ℕ)

-- the chunk under this id
abbrev pub chunk_of : Chunks → ℕ → Option (List ℕ)
chunk_of chunks id = entries.find nat_cmp id chunks

-- one more chunk, in the place of one that lies under its id
abbrev pub with_chunk : ℕ → List ℕ → Chunks → Chunks
with_chunk id bytes chunks = entries.put nat_cmp id bytes chunks

-- the chunks under other ids
abbrev pub without : ℕ → Chunks → Chunks
without id chunks = filter (λ c. not (c.0 == id)) chunks
