-- What an overlay keeps, as the list of writes that it stands for; and writes put in one after the other.
use Rattle.std.specs.Prelude.{List, [], ◌∷◌, map, Option}
use Rattle.std.specs.BTreeMap.{insert_entry}
use Rattle.rl_value.specs.declared.value.Value.{Value}
use Rattle.rl_value.specs.declared.key.Key.{Key}
use Rattle.rl_value.specs.Order.{key_cmp}
use Rattle.row_apply.specs.declared.writes.Write.{Write}
use Rattle.row_apply.specs.Overlaid.{written_key}

-- the write of an entry
abbrev pub write_of : Key × Option (List Value) → Write
write_of e = record { table = e.0.table; key = e.0.values; row = e.1 }

-- the writes of the entries
abbrev pub writes_in : List (Key × Option (List Value)) → List Write
writes_in es = map write_of es

-- the entries with those of the writes put in
abbrev pub put_writes : List (Key × Option (List Value)) → List Write → List (Key × Option (List Value))
put_writes es [] = es
put_writes es (w ∷ ws) = put_writes (insert_entry key_cmp es (written_key w) w.row) ws
