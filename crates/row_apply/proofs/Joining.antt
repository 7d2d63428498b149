-- What a row that was added leaves: the rows seen after it, which are sound.
use Rattle.std.proofs.Common.{◌≡◌, ℕ, zero, suc, List, [], ◌∷◌, slice_get, refl, sym, ap, subst, ◌∙◌, ◌&&◌, Option, Some, None, Ok}
use Rattle.std.proofs.Math.Dec.{T}
use Rattle.std.specs.Prelude.{IsTrue}
use Rattle.std.specs.Ordering.{eq_by_cmp}
use Rattle.std.specs.List.{AllByRecursion}
use Rattle.std.specs.FinMap.Entries as entries
use Rattle.rl_value.specs.declared.value.Value.{Value}
use Rattle.rl_value.specs.declared.key.Key.{Key}
use Rattle.rl_value.specs.Order.{row_cmp}
use Rattle.redo_vec.specs.declared.table.TableRow.{TableRow}
use Rattle.redo_spec.specs.ChangeForm.{is_row_of}
use Rattle.redo_spec.specs.Dictionary.{table_of, uniques_of}
use Rattle.redo_spec.specs.Effect.{add_row, take_row, difference}
use Rattle.rl_value.specs.Outcome.{◌>>=◌, or_err, refused_by}
use Rattle.rl_value.specs.declared.miss.Miss.{Miss}
use Rattle.rl_value.specs.declared.miss.Miss.TheVariants.{Absent}
use Rattle.redo_spec.specs.Tables.{Rows, Table, Tables, primary_key, definitions_of, named as named_key}
use Rattle.row_apply.specs.declared.written.Written.{Written}
use Rattle.row_apply.specs.Adding.{rows_without, goes, values_of, table_without, table_with_row, FindsSound, HasIndex, IsFreeAt, IsReady}
use Rattle.redo_spec.specs.Work.{rows_of}
use Rattle.row_apply.specs.Kept.{Slots, row_key, AreSlots, Sets, Puts, IsPrimaryOf, IsFreeAmong, OneLive, goes_at, rows_seen, table_seen}
use Rattle.row_apply.specs.KeptIn.{slots_of, IsKept}
use Rattle.row_apply.specs.Soundness.{AreSoundRows, AreSound}
use Rattle.row_apply.proofs.Adding.{WasAdded, was_added, sound-minus, sound-added}
use Rattle.row_apply.proofs.Effects.{sound_base}
use Rattle.row_apply.proofs.Seeing.{one_live}
use Rattle.row_apply.proofs.Slots.{to_T, tie_turned, same_table, after_puts, after_set}

going : (gone : Option Key) (table : ℕ) (q : List Value) → IsPrimaryOf table gone →
    goes_at gone (row_key table q) ≡ goes (values_of gone) q
going None table q of = refl
going (Some k) table q of = tie_turned k table q of.1 ∙ ap (λ b. b && eq_by_cmp row_cmp q k.values)
    (same_table k.table table of.0)

added : (tables : Tables) (es : Slots) (t : TableRow) (gone : Option (List Value)) (row : List Value) →
    add_row (table_without gone tables es t) row ≡ Ok (table_with_row gone tables es t row) →
    WasAdded t (rows_without gone (rows_seen tables es t)) row (table_with_row gone tables es t row)
added tables es t gone row e = was_added t (rows_without gone (rows_seen tables es t)) row (table_with_row gone tables es t row) e

all_at : {A : Type 0} (P : A → Type 0) (xs : List A) (i : ℕ) (x : A) → AllByRecursion P xs → slice_get xs i ≡ Some x → P x
all_at P [] i x all s = absurd (cc)
all_at P (y ∷ ys) zero x all s = let same : y ≡ x = cc in subst P same all.0
all_at P (y ∷ ys) (suc i) x all s = all_at P ys i x all.1 s

pub free_among : (es : Slots) (t : TableRow) (gone : Option Key) (row : List Value) → IsPrimaryOf t.id gone →
    AllByRecursion (IsFreeAt es t.id (values_of gone) row) (uniques_of t) → IsFreeAmong t es gone row
free_among es t gone row of all i columns k x u full live stays same =
    all_at (IsFreeAt es t.id (values_of gone) row) (uniques_of t) i columns all u full k x live
    (sym (going gone t.id k of) ∙ stays) same

-- the rows of a table that was indexed can be looked at for owners, where what a change finds is sound
pub now_ready : (tables : Tables) (w : Written) (t : TableRow) (old : Slots) → table_of (definitions_of tables) t.id ≡ Some t →
    IsKept w → slots_of w ≡ old → (OneLive t old → HasIndex w t) → AreSlots old → FindsSound tables old t → IsReady tables w t
now_ready tables w t old there kept same index a s = record {
  there = there;
  base_sound = s.base_sound;
  sound = subst (λ (es : Slots). AreSoundRows t (rows_seen tables es t)) (sym same) s.sound;
  kept = kept;
  indexed = index (one_live tables old t a s.sound);
}

put_seen : (tables : Tables) (old new : Slots) (t : TableRow) (gone : Option Key) (key : Key) (row : List Value) → AreSlots old →
    AreSlots new → key ≡ row_key t.id (primary_key t row) → IsPrimaryOf t.id gone →
    Puts old new gone key row → T (entries.is_sorted row_cmp (rows_of tables t.id)) →
    rows_seen tables new t ≡ entries.put row_cmp (primary_key t row) row
    (rows_without (values_of gone) (rows_seen tables old t))
put_seen tables old new t gone key row o n named of puts h =
    after_puts old new gone (row_key t.id (primary_key t row)) row o n refl
    of (subst (λ (k : Key). Puts old new gone k row) named puts) (rows_of tables t.id) h

module _ (tables : Tables) (old mid new : Slots) (t : TableRow) (gone : Option Key) (key : Key) (row : List Value)
    (there : table_of (definitions_of tables) t.id ≡ Some t) (base : AreSound tables)
    (o : AreSlots old) (n : AreSlots new) (same : mid ≡ old) (named : key ≡ row_key t.id (primary_key t row))
    (of : IsPrimaryOf t.id gone) (puts : Puts mid new gone key row)
    (e : add_row (table_without (values_of gone) tables mid t) row ≡ Ok (table_with_row (values_of gone) tables mid t row)) where
  seen : rows_seen tables new t ≡ entries.put row_cmp (primary_key t row) row
      (rows_without (values_of gone) (rows_seen tables old t))
  seen = put_seen tables old new t gone key row o n named of (subst (λ (es : Slots). Puts es new gone key row) same puts)
      (to_T _ (sound_base tables t t.id there base).rising)

  was : add_row (table_without (values_of gone) tables old t) row ≡ Ok (table_with_row (values_of gone) tables old t row)
  was = subst (λ (es : Slots). add_row (table_without (values_of gone) tables es t) row ≡
      Ok (table_with_row (values_of gone) tables es t row)) same e

  pub add_done : add_row (table_without (values_of gone) tables old t) row ≡ Ok (table_seen tables new t)
  add_done = was ∙ ap (λ (rows : Rows). Ok (let u : Table = record { row = t; rows = rows } in u)) (sym seen)

  pub add_sound : AreSoundRows t (rows_seen tables old t) → IsTrue (is_row_of t.columns row) →
      AreSoundRows t (rows_seen tables new t)
  add_sound s fit =
      subst (AreSoundRows t) (sym seen)
      (sound-added t (rows_without (values_of gone) (rows_seen tables old t)) row
      (table_with_row (values_of gone) tables old t row) (sound-minus t (values_of gone) (rows_seen tables old t) s) fit
      (added tables old t (values_of gone) row was))

-- ---- a row that was taken away

taken_rows : (tables : Tables) (old new : Slots) (t : TableRow) (key : Key) (values : List Value) → AreSlots old → AreSlots new →
    key ≡ row_key t.id values → Sets old new key None → T (entries.is_sorted row_cmp (rows_of tables t.id)) →
    rows_seen tables new t ≡ rows_without (Some values) (rows_seen tables old t)
taken_rows tables old new t key values o n named sets h =
    after_set old new (row_key t.id values) None o n refl (subst (λ (k : Key). Sets old new k None) named sets)
    (rows_of tables t.id) h

module _ (tables : Tables) (old new : Slots) (t : TableRow) (key : Key) (values row : List Value) (logged : List (ℕ × Value))
    (there : table_of (definitions_of tables) t.id ≡ Some t) (base : AreSound tables)
    (o : AreSlots old) (n : AreSlots new) (named : key ≡ row_key t.id values) (sets : Sets old new key None) where
  left : rows_seen tables new t ≡ rows_without (Some values) (rows_seen tables old t)
  left = taken_rows tables old new t key values o n named sets (to_T _ (sound_base tables t t.id there base).rising)

  pub take_sound : AreSoundRows t (rows_seen tables old t) → AreSoundRows t (rows_seen tables new t)
  take_sound s = subst (AreSoundRows t) (sym left) (sound-minus t (Some values) (rows_seen tables old t) s)

  pub take_done : entries.find row_cmp values (rows_seen tables old t) ≡ Some row → difference row logged ≡ None →
      (take_row (table_seen tables old t) values logged >>= λ taken. Ok taken.1) ≡ Ok (table_seen tables new t)
  take_done f d =
      let after : Table = record { row = t; rows = rows_without (Some values) (rows_seen tables old t) } in
      ap (λ (found : Option (List Value)). (or_err found (Absent (named_key t values)) >>=
      λ r. refused_by (difference r logged) (r, after)) >>= λ (taken : List Value × Table). Ok taken.1) f
      ∙ ap (λ (o : Option Miss). refused_by o (row, after) >>= λ (taken : List Value × Table). Ok taken.1) d
      ∙ ap (λ (rows : Rows). Ok (let u : Table = record { row = t; rows = rows } in u)) (sym left)
