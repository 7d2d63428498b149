-- The open transactions as a miner keeps them, in order of START.
-- In plain mode it keeps of a surviving change its position alone, since an UNDO names it; in committed mode the change itself
-- with the SCN of its record, since its line is made when the COMMIT comes.
use Rattle.std.specs.Prelude.{ℕ, ◌+◌, List, [], ◌∷◌, ◌++◌, map, filter, Bool, true, false, not, if◌then◌else◌}
use Rattle.rl_value.specs.declared.pos.Pos.{Pos}
use Rattle.rl_value.specs.declared.xid.Xid.{Xid}
use Rattle.redo_vec.specs.declared.change.Change.{Change}
use Rattle.redo_vec.specs.declared.vector.Vector.{Vector}
use Rattle.redo_vec.specs.declared.vector.Vector.TheVariants.{Start, Change as OfChange, Undo, Commit, Rollback, Table, DictEnd}
use Rattle.redo_spec.specs.History.{Placed, same_xid}
use Rattle.redo_spec.specs.Survivors.{after_change, after_undo}

-- a surviving change with the SCN of its record
abbrev pub Stamped : Type 0
Stamped = ℕ × Placed

-- An open transaction by the position of its START, with the SCN of the record of its START; the positions of its surviving
-- changes (plain mode), and the changes themselves (committed mode).
pub record Live : Type 0 where
  pub start : Pos
  pub scn : ℕ
  pub xid : Xid
  pub places : List Pos
  pub changes : List Stamped

-- a transaction that starts at this position in a record of this SCN
abbrev pub started : ℕ → Pos → Xid → Live
started scn at x = record { start = at; scn = scn; xid = x; places = []; changes = [] }

-- a transaction, changed so if it is of this id
abbrev pub if_of : Xid → (Live → Live) → Live → Live
if_of x f t = if same_xid t.xid x then f t else t

-- the transactions, with those of this id changed so
abbrev pub with_live : (Live → Live) → Xid → List Live → List Live
with_live f x ts = map (if_of x f) ts

-- those of this id
abbrev pub live_of : Xid → List Live → List Live
live_of x ts = filter (λ t. same_xid t.xid x) ts

-- those of other ids
abbrev pub live_but : Xid → List Live → List Live
live_but x ts = filter (λ t. not (same_xid t.xid x)) ts

-- a transaction after one more change
abbrev pub one_more : Bool → ℕ → Pos → Change → Live → Live
one_more false scn at c t = record t { places = after_change t.places at }
one_more true scn at c t = record t { changes = after_change t.changes (scn, (at, c)) }

-- a transaction after an UNDO
abbrev pub one_fewer : Bool → Live → Live
one_fewer false t = record t { places = after_undo t.places }
one_fewer true t = record t { changes = after_undo t.changes }

-- the open transactions after one more vector, at this position in a record of this SCN
abbrev pub live_after : Bool → ℕ → Pos → Vector → List Live → List Live
live_after committed scn at (Start x) ts = ts ++ started scn at x ∷ []
live_after committed scn at (OfChange c) ts = with_live (one_more committed scn at c) c.xid ts
live_after committed scn at (Undo x) ts = with_live (one_fewer committed) x ts
live_after committed scn at (Commit x) ts = live_but x ts
live_after committed scn at (Rollback x) ts = live_but x ts
live_after committed scn at (Table t) ts = ts
live_after committed scn at DictEnd ts = ts

-- the open transactions after these vectors of record rec, the first of which has this number in it
abbrev pub live_after_all : Bool → ℕ → ℕ → ℕ → List Vector → List Live → List Live
live_after_all committed scn rec vec [] ts = ts
live_after_all committed scn rec vec (v ∷ vs) ts =
    live_after_all committed scn rec (vec + 1) vs (live_after committed scn (record { rec = rec; vec = vec }) v ts)
