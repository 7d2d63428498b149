-- What a change of one table does to written rows: each kind of change does this.
-- What it says of soundness holds where the change finds sound rows; the rest holds of any rows.
use Rattle.std.specs.Prelude.{◌≡◌, Result, Ok, Err, OnOk, OnErr}
use Rattle.redo_vec.specs.declared.change.Change.{Change}
use Rattle.redo_vec.specs.declared.change.Op.{Op}
use Rattle.redo_vec.specs.declared.table.TableRow.{TableRow}
use Rattle.redo_spec.specs.ConflictKeys.{conflict_keys_in}
use Rattle.redo_spec.specs.Effect.{effect_on}
use Rattle.redo_spec.specs.Tables.{Tables}
use Rattle.row_apply.specs.declared.fault.EffectFault.{EffectFault}
use Rattle.row_apply.specs.declared.written.Written.{Written}
use Rattle.row_apply.specs.Adding.{FindsSound}
use Rattle.row_apply.specs.Kept.{rows_seen, table_seen, ChangesOnly, SlotsOnly, AreWritten}
use Rattle.row_apply.specs.KeptIn.{slots_of, IsKept}
use Rattle.row_apply.specs.Outcomes.{OnMiss}
use Rattle.row_apply.specs.Soundness.{AreSoundRows}

-- what this change, taken as one of this kind, does to what was written of its table
pub record Changes {T : Type 0} (tables : Tables) (old new : Written) (t : TableRow) (c : Change) (op : Op)
    (result : Result T EffectFault) : Type 0 where
  -- where what it finds is sound: the effect, or the miss, and sound rows after it
  pub done : FindsSound tables (slots_of old) t → OnOk result
      (effect_on (table_seen tables (slots_of old) t) op c.old c.new ≡ Ok (table_seen tables (slots_of new) t))
  pub miss : FindsSound tables (slots_of old) t → OnMiss result
      (λ miss. effect_on (table_seen tables (slots_of old) t) op c.old c.new ≡ Err miss)
  pub sound : FindsSound tables (slots_of old) t → AreSoundRows t (rows_seen tables (slots_of new) t)
  -- a refused change leaves what was written
  pub unchanged : OnErr result (slots_of new ≡ slots_of old)
  -- its rows and its index are kept right
  pub kept : IsKept new
  -- what it writes: rows of the table alone, and exactly those of its conflict keys
  pub others : ChangesOnly t.id (slots_of old) (slots_of new)
  pub only : OnOk result (SlotsOnly (conflict_keys_in t c) (slots_of old) (slots_of new))
  pub written : OnOk result (AreWritten (conflict_keys_in t c) (slots_of new))
