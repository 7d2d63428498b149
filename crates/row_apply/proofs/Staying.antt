-- The effect of an accepted change on sound tables: the same tables, whose rows are sound.
use Rattle.std.proofs.Common.{◌≡◌, ℕ, List, [], ◌∷◌, refl, sym, ap, ◌∙◌, subst, true, false, cond, ◌==◌, Option, Some, None, Result, Ok, Err}
use Rattle.std.specs.FinMap.Entries as entries
use Rattle.rl_value.specs.declared.value.Value.{Value}
use Rattle.rl_value.specs.Order.{row_cmp}
use Rattle.rl_value.specs.Outcome.{◌>>=◌, refused_by, or_err}
use Rattle.rl_value.specs.Text.{are_cells}
use Rattle.redo_vec.specs.declared.change.Change.{Change}
use Rattle.redo_vec.specs.declared.change.Op.{Op}
use Rattle.redo_vec.specs.declared.change.Op.TheVariants.{Insert, Update, Delete}
use Rattle.redo_vec.specs.declared.table.TableRow.{TableRow}
use Rattle.redo_spec.specs.ChangeForm.{change_fault, change_fault_in, fault_of_table, is_row_of}
use Rattle.redo_spec.specs.Dictionary.{table_of}
use Rattle.redo_spec.specs.Effect.{add_row, take_row, difference, with_cells, cell_values, logged_key, effect_on, effect}
use Rattle.redo_spec.specs.Tables.{Table, Tables, definitions_of}
use Rattle.row_apply.specs.Soundness.{AreSound, AreSoundRows}
use Rattle.row_apply.proofs.Accepted.{insert_fits, accepted}
use Rattle.row_apply.proofs.Adding.{was_added, sound-added, sound-minus}
use Rattle.row_apply.proofs.Fitting.{updated_fits}

-- ---- results

pub bound : {A B E : Type 0} (r : Result A E) (f : A → Result B E) (y : B) → (r >>= f) ≡ Ok y → (x : A) × ((r ≡ Ok x) × (f x ≡ Ok y))
bound (Ok x) f y e = (x, (refl, e))
bound (Err m) f y e = absurd (cc)

pub or_err_is : {A E : Type 0} (o : Option A) (m : E) (x : A) → or_err o m ≡ Ok x → o ≡ Some x
or_err_is None m x e = absurd (cc)
or_err_is (Some y) m x e = let same : y ≡ x = cc in ap Some same

pub refused_is : {A E : Type 0} (o : Option E) (x y : A) → refused_by o x ≡ Ok y → x ≡ y
refused_is None x y e = cc
refused_is (Some m) x y e = absurd (cc)

-- ---- one table

-- the row that was taken was there, and the table is the same
pub record WasTaken (t : Table) (k row : List Value) (u : Table) : Type 0 where
  pub there : entries.find row_cmp k t.rows ≡ Some row
  pub same : u.row ≡ t.row
  pub sound : AreSoundRows t.row t.rows → AreSoundRows u.row u.rows

pub taken_is : (t : Table) (k : List Value) (logged : List (ℕ × Value)) (taken : List Value × Table) →
    take_row t k logged ≡ Ok taken → WasTaken t k taken.0 taken.1
taken_is t k logged taken e =
    let b = bound (or_err (entries.find row_cmp k t.rows) _) _ taken e in
    let is = refused_is (difference b.0 logged) _ taken b.1.1 in
    record {
      there = or_err_is (entries.find row_cmp k t.rows) _ b.0 b.1.0 ∙ ap (λ (p : List Value × Table). Some p.0) is;
      same = ap (λ (p : List Value × Table). p.1.row) (sym is);
      sound = λ s. subst (λ (p : List Value × Table). AreSoundRows p.1.row p.1.rows) is (sound-minus t.row (Some k) t.rows s);
    }

added_same : (t : Table) (row : List Value) (u : Table) → add_row t row ≡ Ok u → u.row ≡ t.row
added_same t row u e = ap (λ (v : Table). v.row) (sym (was_added t.row t.rows row u e).is)

added_sound : (t : Table) (row : List Value) (u : Table) → AreSoundRows t.row t.rows → is_row_of t.row.columns row ≡ true →
    add_row t row ≡ Ok u → AreSoundRows u.row u.rows
added_sound t row u s fit e =
    let w = was_added t.row t.rows row u e in
    subst (λ (v : Table). AreSoundRows v.row v.rows) w.is (sound-added t.row t.rows row u s fit w)

pub same_on : (t : Table) (op : Op) (old new : List (ℕ × Value)) (u : Table) → effect_on t op old new ≡ Ok u → u.row ≡ t.row
same_on t Insert old new u e = added_same t (cell_values new) u e
same_on t Update old new u e =
    let b = bound (take_row t (logged_key t.row old) old) _ u e in
    added_same b.0.1 (with_cells t.row b.0.0 new) u b.1.1 ∙ (taken_is t (logged_key t.row old) old b.0 b.1.0).same
same_on t Delete old new u e =
    let b = bound (take_row t (logged_key t.row old) old) _ u e in
    let same : b.0.1 ≡ u = cc in
    ap (λ (v : Table). v.row) (sym same) ∙ (taken_is t (logged_key t.row old) old b.0 b.1.0).same

pub sound_on : (t : Table) (c : Change) (u : Table) → AreSoundRows t.row t.rows → change_fault_in t.row c ≡ None →
    are_cells c.new ≡ true → (op : Op) → c.op ≡ op → effect_on t op c.old c.new ≡ Ok u → AreSoundRows u.row u.rows
sound_on t c u s fits cells Insert is e = added_sound t (cell_values c.new) u s (insert_fits t.row c is cells fits) e
sound_on t c u s fits cells Update is e =
    let b = bound (take_row t (logged_key t.row c.old) c.old) _ u e in
    let w = taken_is t (logged_key t.row c.old) c.old b.0 b.1.0 in
    let fit : is_row_of t.row.columns (with_cells t.row b.0.0 c.new) ≡ true =
    updated_fits t.row b.0.0 c.new (s.fit (logged_key t.row c.old) b.0.0 w.there) (accepted t.row c fits).fit in
    added_sound b.0.1 (with_cells t.row b.0.0 c.new) u (w.sound s)
    (ap (λ (r : TableRow). is_row_of r.columns (with_cells t.row b.0.0 c.new)) w.same ∙ fit) b.1.1
sound_on t c u s fits cells Delete is e =
    let b = bound (take_row t (logged_key t.row c.old) c.old) _ u e in
    let w = taken_is t (logged_key t.row c.old) c.old b.0 b.1.0 in
    let same : b.0.1 ≡ u = cc in
    subst (λ (v : Table). AreSoundRows v.row v.rows) same (w.sound s)

-- ---- all tables

pub effect_same : (ts us : Tables) (c : Change) → effect ts c ≡ Ok us → definitions_of us ≡ definitions_of ts
effect_same [] us c e = let none : [] ≡ us = cc in ap definitions_of (sym none)
effect_same (t ∷ ts) us c e =
    elim (t.row.id == c.table) as (λ b. cond b (effect_on t c.op c.old c.new >>= λ changed. Ok (changed ∷ ts))
    (effect ts c >>= λ others. Ok (t ∷ others)) ≡ Ok us → definitions_of us ≡ definitions_of (t ∷ ts)) [
      | true ↦ λ is.
          let b = bound (effect_on t c.op c.old c.new) _ us is in
          let same : (b.0 ∷ ts) ≡ us = cc in
          ap definitions_of (sym same) ∙ ap (λ (r : TableRow). r ∷ definitions_of ts) (same_on t c.op c.old c.new b.0 b.1.0)
      | false ↦ λ is.
          let b = bound (effect ts c) _ us is in
          let same : (t ∷ b.0) ≡ us = cc in
          ap definitions_of (sym same) ∙ ap (λ (rs : List TableRow). t.row ∷ rs) (effect_same ts b.0 c b.1.0)
    ] e

pub effect_sound : (ts us : Tables) (c : Change) → AreSound ts → change_fault (definitions_of ts) c ≡ None →
    are_cells c.new ≡ true → effect ts c ≡ Ok us → AreSound us
effect_sound [] us c s fits cells e = absurd (cc)
effect_sound (t ∷ ts) us c s fits cells e =
    elim (t.row.id == c.table) as (λ b. fault_of_table (cond b (Some t.row) (table_of (definitions_of ts) c.table)) c ≡ None →
    cond b (effect_on t c.op c.old c.new >>= λ changed. Ok (changed ∷ ts)) (effect ts c >>= λ others. Ok (t ∷ others)) ≡
    Ok us → AreSound us) [
      | true ↦ λ own is.
          let b = bound (effect_on t c.op c.old c.new) _ us is in
          let same : (b.0 ∷ ts) ≡ us = cc in
          subst AreSound same (sound_on t c b.0 s.0 own cells c.op refl b.1.0, s.1)
      | false ↦ λ others is.
          let b = bound (effect ts c) _ us is in
          let same : (t ∷ b.0) ≡ us = cc in
          subst AreSound same (s.0, effect_sound ts b.0 c s.1 others cells b.1.0)
    ] fits e
