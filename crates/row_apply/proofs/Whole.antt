-- A change of one table as the change of all: what is asked of it, and what it leaves.
use Rattle.std.proofs.Common.{◌≡◌, ℕ, List, sym, ap, subst, ◌∙◌, true, false, Some, None, Ok, Err}
use Rattle.rl_value.specs.declared.miss.Miss.{Miss}
use Rattle.redo_vec.specs.Forms.{is_key_columns}
use Rattle.redo_vec.specs.declared.change.Change.{Change}
use Rattle.redo_vec.specs.declared.table.TableRow.{TableRow}
use Rattle.redo_spec.specs.ChangeForm.{change_fault, fault_of_table}
use Rattle.redo_spec.specs.Dictionary.{table_of, primary_of, ids_rise, has_bad_keys}
use Rattle.redo_spec.specs.Effect.{effect, effect_on}
use Rattle.redo_spec.specs.Tables.{Tables, Table, definitions_of}
use Rattle.row_apply.specs.declared.written.Written.{Written}
use Rattle.row_apply.specs.declared.writes.Write.{Write}
use Rattle.row_apply.specs.Adding.{CanChange, FindsSound}
use Rattle.redo_spec.specs.Work.{rows_of}
use Rattle.row_apply.specs.Kept.{Slots, AreSlots, ChangesOnly, rows_seen, table_seen}
use Rattle.row_apply.specs.KeptIn.{IsKept}
use Rattle.row_apply.specs.Overlaid.{overlaid, rows_after, are_of}
use Rattle.row_apply.specs.Soundness.{AreSound, AreSoundRows}
use Rattle.row_apply.specs.Written.{writes_in}
use Rattle.row_apply.proofs.Effects.{OthersStay, named_id, effect_done, effect_missed, sound_rows, sound_after}
use Rattle.row_apply.proofs.Slots.{after_others}
use Rattle.row_apply.proofs.Writing.{still_of}

module _ (tables : Tables) (defs : List TableRow) (t : TableRow) (c : Change) (defined : definitions_of tables ≡ defs)
    (found : Some t ≡ table_of defs c.table) where
  named : table_of (definitions_of tables) c.table ≡ Some t
  named = ap (λ ds. table_of ds c.table) defined ∙ sym found

  id : t.id ≡ c.table
  id = named_id (definitions_of tables) c.table t named

  there : table_of (definitions_of tables) t.id ≡ Some t
  there = ap (table_of (definitions_of tables)) id ∙ named

  pub can_change : (w : Written) → change_fault defs c ≡ None → IsKept w → has_bad_keys t ≡ false →
      is_key_columns (primary_of t) ≡ true → CanChange tables w t c
  can_change w accepted kept keys form = record {
    there = there;
    kept = kept;
    accepted = ap (λ o. fault_of_table o c) found ∙ accepted;
    keys = keys;
    form = form;
  }

  pub finds_sound : (ws : List Write) (es : Slots) → writes_in es ≡ ws → AreSound tables → AreSound (overlaid tables ws) →
      FindsSound tables es t
  finds_sound ws es is base s = record {
    base_sound = base;
    sound = sound_rows tables t t.id (writes_in es) there (subst (λ (w : List Write). AreSound (overlaid tables w)) (sym is) s);
  }

  pub all_of : (old new : Slots) → AreSlots new → ChangesOnly t.id old new → are_of defs (writes_in old) ≡ true →
      are_of defs (writes_in new) ≡ true
  all_of old new n only of = still_of defs t old new (ap (λ ds. table_of ds t.id) (sym defined) ∙ there) n only of

  module _ (old new : Slots) (rising : ids_rise 0 defs ≡ true) (base : AreSound tables) (o : AreSlots old) (n : AreSlots new)
      (only : ChangesOnly t.id old new) where
    stay : OthersStay t.id (writes_in old) (writes_in new)
    stay other not_it rows s = after_others old new t.id o n only other not_it rows s

    rise : ids_rise 0 (definitions_of tables) ≡ true
    rise = ap (ids_rise 0) defined ∙ rising

    at : (es : Slots) → record { row = t; rows = rows_after c.table (writes_in es) (rows_of tables c.table) } ≡
        table_seen tables es t
    at es i = record { row = t; rows = rows_after (sym id i) (writes_in es) (rows_of tables (sym id i)) }

    pub all_done : effect_on (table_seen tables old t) c.op c.old c.new ≡ Ok (table_seen tables new t) →
        effect (overlaid tables (writes_in old)) c ≡ Ok (overlaid tables (writes_in new))
    all_done done =
        effect_done tables 0 t c (writes_in old) (writes_in new) rise base named
        (subst (λ (k : ℕ). OthersStay k (writes_in old) (writes_in new)) id stay)
        (ap (λ (u : Table). effect_on u c.op c.old c.new) (at old) ∙ done ∙ ap (λ (u : Table). Ok u) (sym (at new)))

    pub all_missed : (m : Miss) → effect_on (table_seen tables old t) c.op c.old c.new ≡ Err m →
        effect (overlaid tables (writes_in old)) c ≡ Err m
    all_missed m miss = effect_missed tables t c (writes_in old) m named
        (ap (λ (u : Table). effect_on u c.op c.old c.new) (at old) ∙ miss)

    pub all_sound : AreSound (overlaid tables (writes_in old)) → AreSoundRows t (rows_seen tables new t) →
        AreSound (overlaid tables (writes_in new))
    all_sound s rows = sound_after tables 0 t t.id (writes_in old) (writes_in new) rise base there stay s rows
