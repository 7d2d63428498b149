-- Items of rows by the keys that they name, each once: what several commits write of rows, as the last of them leaves each.
use Rattle.std.specs.Prelude.{ℕ, List, [], ◌∷◌, map}
use Rattle.std.specs.BTreeMap.{insert_entry}
use Rattle.rl_value.specs.Order.{bytes_cmp}
use Rattle.rl_ports.specs.declared.batch.Item.{Item}
use Rattle.rl_ports.specs.Store.{key_of}
use Rattle.row_apply.specs.declared.writes.Write.{Write}
use Rattle.standby_spec.specs.Writings.{write_item}

-- items by their keys, in the keys' order
abbrev pub ByKey : Type 0
ByKey = List (List ℕ × Item)

abbrev pub items_in : ByKey → List Item
items_in entries = map (λ e. e.1) entries

-- the item of a written row takes the place of one with its key
abbrev pub entered : ByKey → Write → ByKey
entered entries w = insert_entry bytes_cmp entries (key_of (write_item w)) (write_item w)

abbrev pub entered_all : ByKey → List Write → ByKey
entered_all entries [] = entries
entered_all entries (w ∷ ws) = entered_all (entered entries w) ws
