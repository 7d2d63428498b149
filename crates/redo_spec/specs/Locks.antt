-- The lock rule: no change touches a key that a surviving change of another open transaction touches.
-- A row and a unique value are locked by the transaction that changed them until it ends, as in the primary database;
-- here the redo is tested for it. The rule looks at all open transactions but the change's own. It is this
-- project's own.
use Rattle.std.specs.Prelude.{List, [], ◌∷◌, map, filter, not, ◌&&◌, if◌then◌else◌, Option, Some, None}
use Rattle.std.specs.List.{list_any, flat_map}
use Rattle.std.specs.Ordering.{eq_by_cmp, is_lt}
use Rattle.std.specs.Option.{option_map}
use Rattle.rl_value.specs.declared.cause.LawFault.{LawFault}
use Rattle.rl_value.specs.declared.cause.LawFault.TheVariants as faults
use Rattle.rl_value.specs.declared.key.Key.{Key}
use Rattle.rl_value.specs.declared.xid.Xid.{Xid}
use Rattle.rl_value.specs.Order.{key_cmp}
use Rattle.redo_vec.specs.declared.change.Change.{Change}
use Rattle.redo_spec.specs.ConflictKeys.{conflict_keys}
use Rattle.redo_spec.specs.History.{same_xid}
use Rattle.redo_spec.specs.Standing.{OpenTxn, Standing}

-- the keys that surviving changes of open transactions touch, each with its holder
abbrev pub held_keys : List OpenTxn → List (Key × Xid)
held_keys ts = flat_map (λ t. flat_map (λ keys. map (λ k. (k, t.xid)) keys) t.keys) ts

abbrev pub lesser : Key × Xid → Option (Key × Xid) → Key × Xid
lesser k None = k
lesser k (Some l) = if is_lt (key_cmp l.0 k.0) then l else k

-- the least key of these, with its holder
abbrev pub least : List (Key × Xid) → Option (Key × Xid)
least [] = None
least (k ∷ ks) = Some (lesser k (least ks))

-- the held keys that the change touches, and that another transaction holds
abbrev pub contended : Standing → Change → List (Key × Xid)
contended s c = filter (λ k. not (same_xid k.1 c.xid) && list_any (eq_by_cmp key_cmp k.0) (conflict_keys s.dictionary.tables c))
    (held_keys s.active)

-- the least such key, and its holder
abbrev pub lock_fault : Standing → Change → Option LawFault
lock_fault s c = option_map (λ k. faults.Lock k.0 k.1) (least (contended s c))
