-- Chunks: which changes of a transaction are handed on together, to be applied or spilled.
-- A chunk has 1 to 64 changes of one transaction, in the order of their positions. It is seen as the history of the redo has
-- changes, each by its position. This project's own.
use Rattle.std.specs.Prelude.{ℕ, List, [], ◌∷◌, length, Bool, true, false, ◌&&◌, nat_lt}
use Rattle.rl_value.specs.declared.pos.Pos.{Pos}
use Rattle.rl_value.specs.declared.xid.Xid.{Xid}
use Rattle.redo_spec.specs.History.{Placed, same_xid}
use Rattle.redo_spec.specs.Watermark.{is_before}
use Rattle.lcr.specs.declared.change_record.Lcr.{Lcr}

-- a change record as a change by its position
abbrev pub placed : Lcr → Placed
placed l = (l.pos, l.change)

-- the most changes of a chunk
abbrev pub chunk_limit : ℕ
chunk_limit = 64

-- each change is of this transaction
abbrev pub are_of_xid : Xid → List Placed → Bool
are_of_xid x [] = true
are_of_xid x (p ∷ ps) = same_xid p.1.xid x && are_of_xid x ps

-- each position is above the one before it, and the first one above this one
abbrev pub rise_behind : Pos → List Placed → Bool
rise_behind at [] = true
rise_behind at (p ∷ ps) = is_before at p.0 && rise_behind p.0 ps

-- the changes are a chunk
abbrev pub is_chunk : List Placed → Bool
is_chunk [] = false
is_chunk (p ∷ ps) = nat_lt (length ps) chunk_limit && are_of_xid p.1.xid ps && rise_behind p.0 ps
