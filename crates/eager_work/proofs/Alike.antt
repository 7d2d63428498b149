-- Tables that agree at keys, and the effect of a change on them.
use Rattle.std.proofs.Common.{◌≡◌, ℕ, List, [], ◌∷◌, refl, sym, ap, subst, ◌∙◌, Bool, true, false, cond, not, ◌==◌, arith, Option, Some, None, Ok}
use Rattle.std.specs.Prelude.{⊤}
use Rattle.std.specs.List.{list_all}
use Rattle.std.specs.FinMap.Entries as entries
use Rattle.std.proofs.lemmas.Bool.Decides.{nat_tests}
use Rattle.rl_value.specs.declared.value.Value.{Value}
use Rattle.rl_value.specs.declared.key.Key.{Key}
use Rattle.rl_value.specs.Order.{row_cmp}
use Rattle.rl_value.specs.Outcome.{◌>>=◌}
use Rattle.rl_value.specs.Text.{are_cells}
use Rattle.redo_vec.specs.Forms.{is_key_columns}
use Rattle.redo_vec.specs.declared.change.Change.{Change}
use Rattle.redo_vec.specs.declared.table.TableRow.{TableRow}
use Rattle.redo_spec.specs.ChangeForm.{change_fault, fault_of_table}
use Rattle.redo_spec.specs.ConflictKeys.{conflict_keys, conflict_keys_of}
use Rattle.redo_spec.specs.Dictionary.{table_of, has_bad_keys, primary_of}
use Rattle.redo_spec.specs.Effect.{effect, effect_on}
use Rattle.redo_spec.specs.Tables.{Rows, Table, Tables, definitions_of}
use Rattle.redo_spec.specs.Work.{rows_of, row_at}
use Rattle.row_apply.specs.Kept.{row_key}
use Rattle.row_apply.specs.Soundness.{AreSound, AreSoundRows}
use Rattle.row_apply.proofs.Fitting.{both}
use Rattle.row_apply.proofs.Staying.{bound}
use Rattle.eager_work.specs.Early.{is_table}
use Rattle.eager_work.proofs.Given.{among}
use Rattle.eager_work.proofs.Agreeing.{Agree}
use Rattle.eager_work.proofs.Pairing.{Paired, paired_bind, Match, AreApart, on_paired, stay_on}

abbrev pub AreAlike : List Key → Tables → Tables → Type 0
AreAlike keys [] [] = ⊤
AreAlike keys [] (u ∷ us) = ⊥
AreAlike keys (t ∷ ts) [] = ⊥
AreAlike keys (t ∷ ts) (u ∷ us) = (t.row ≡ u.row) × (Agree t.row keys t.rows u.rows × AreAlike keys ts us)

agree_self : (t : TableRow) (keys : List Key) (rows : Rows) → Agree t keys rows rows
agree_self t keys rows = record { found = λ k m. refl; holds = λ i columns values at whole m. refl }

pub alike_self : (keys : List Key) (ts : Tables) → AreAlike keys ts ts
alike_self keys [] = tt
alike_self keys (t ∷ ts) = (refl, (agree_self t.row keys t.rows, alike_self keys ts))

pub alike_turned : (keys : List Key) (ts us : Tables) → AreAlike keys ts us → AreAlike keys us ts
alike_turned keys [] [] a = tt
alike_turned keys [] (u ∷ us) a = absurd a
alike_turned keys (t ∷ ts) [] a = absurd a
alike_turned keys (t ∷ ts) (u ∷ us) a =
    let turned : Agree t.row keys u.rows t.rows = record {
      found = λ k m. sym (a.1.0.found k m);
      holds = λ i columns values at whole m. sym (a.1.0.holds i columns values at whole m);
    } in
    (sym a.0, (subst (λ (r : TableRow). Agree r keys u.rows t.rows) a.0 turned, alike_turned keys ts us a.1.1))

pub alike_then : (keys : List Key) (ts us vs : Tables) → AreAlike keys ts us → AreAlike keys us vs → AreAlike keys ts vs
alike_then keys [] [] [] a b = tt
alike_then keys [] [] (v ∷ vs) a b = absurd b
alike_then keys [] (u ∷ us) vs a b = absurd a
alike_then keys (t ∷ ts) [] vs a b = absurd a
alike_then keys (t ∷ ts) (u ∷ us) [] a b = absurd b
alike_then keys (t ∷ ts) (u ∷ us) (v ∷ vs) a b =
    let next : Agree t.row keys u.rows v.rows = subst (λ (r : TableRow). Agree r keys u.rows v.rows) (sym a.0) b.1.0 in (
      a.0 ∙ b.0,
      (
        record {
          found = λ k m. a.1.0.found k m ∙ next.found k m;
          holds = λ i columns values at whole m. a.1.0.holds i columns values at whole m ∙ next.holds i columns values at whole m;
        },
        alike_then keys ts us vs a.1.1 b.1.1,
      ),
    )

-- the row at a key among them
number_is : (a b : ℕ) → (a == b) ≡ true → a ≡ b
number_is a b e = grind (arith, nat_tests)

row_same : (b : Bool) (t : TableRow) (keys : List Key) (k : Key) (rows others : Rows) (after before : Option (List Value)) →
    (t.id == k.table) ≡ b → among keys (row_key k.table k.values) ≡ true → Agree t keys rows others → after ≡ before →
    cond b (entries.find row_cmp k.values rows) after ≡ cond b (entries.find row_cmp k.values others) before
row_same true t keys k rows others after before is m a e =
    a.found k.values (ap (λ (id : ℕ). among keys (row_key id k.values)) (number_is t.id k.table is) ∙ m)
row_same false t keys k rows others after before is m a e = e

found_by : (b : Bool) (k : Key) (rows : Rows) (ts : Tables) →
    entries.find row_cmp k.values (cond b rows (rows_of ts k.table)) ≡ cond b (entries.find row_cmp k.values rows) (row_at ts k)
found_by true k rows ts = refl
found_by false k rows ts = refl

pub rows_alike : (keys : List Key) (ts us : Tables) (k : Key) → among keys (row_key k.table k.values) ≡ true →
    AreAlike keys ts us → row_at ts k ≡ row_at us k
rows_alike keys [] [] k m a = refl
rows_alike keys [] (u ∷ us) k m a = absurd a
rows_alike keys (t ∷ ts) [] k m a = absurd a
rows_alike keys (t ∷ ts) (u ∷ us) k m a =
    found_by (t.row.id == k.table) k t.rows ts
    ∙ row_same (t.row.id == k.table) t.row keys k t.rows u.rows (row_at ts k) (row_at us k) refl m a.1.0
    (rows_alike keys ts us k m a.1.1)
    ∙ ap (λ (r : TableRow). cond (r.id == k.table) (entries.find row_cmp k.values u.rows) (row_at us k)) a.0
    ∙ sym (found_by (u.row.id == k.table) k u.rows us)

-- ---- the effect of a change

unbad : (b : Bool) → not b ≡ true → b ≡ false
unbad true e = absurd (cc)
unbad false e = refl

pub effect_paired : (ts us : Tables) (c : Change) (touched keys : List Key) → AreSound ts → AreSound us →
    list_all is_table (definitions_of ts) ≡ true → change_fault (definitions_of ts) c ≡ None → are_cells c.old ≡ true →
    are_cells c.new ≡ true → touched ≡ conflict_keys (definitions_of ts) c → AreAlike touched ts us → AreAlike keys ts us →
    Paired (AreAlike keys) (effect ts c) (effect us c)
effect_paired [] us c touched keys s v good fits ro rn is own a = absurd (cc)
effect_paired (t ∷ ts) [] c touched keys s v good fits ro rn is own a = absurd own
effect_paired (t ∷ ts) (u ∷ us) c touched keys s v good fits ro rn is own a =
    let w : Table = record { row = t.row; rows = u.rows } in
    let path : w ≡ u = λ i. record { row = own.0 i; rows = u.rows } in
    let sound : AreSoundRows t.row u.rows = subst (λ (r : TableRow). AreSoundRows r u.rows) (sym own.0) v.0 in
    let g = both (is_table t.row) (list_all is_table (definitions_of ts)) good in
    let form = both (not (has_bad_keys t.row)) (is_key_columns (primary_of t.row)) g.0 in
    subst (λ (x : Table). Paired (AreAlike keys) (effect (t ∷ ts) c) (effect (x ∷ us) c)) path
    (elim (t.row.id == c.table) as (λ b. fault_of_table (cond b (Some t.row) (table_of (definitions_of ts) c.table)) c ≡ None →
    touched ≡ conflict_keys_of (cond b (Some t.row) (table_of (definitions_of ts) c.table)) c →
    Paired (AreAlike keys)
    (cond b (effect_on t c.op c.old c.new >>= λ changed. Ok (changed ∷ ts)) (effect ts c >>= λ others. Ok (t ∷ others)))
    (cond b (effect_on w c.op c.old c.new >>= λ changed. Ok (changed ∷ us)) (effect us c >>= λ others. Ok (w ∷ others)))) [
      | true ↦ λ own_fits here.
          paired_bind (Match t.row keys) (AreAlike keys) (effect_on t c.op c.old c.new) (effect_on w c.op c.old c.new)
          (λ changed. Ok (changed ∷ ts)) (λ changed. Ok (changed ∷ us))
          (on_paired t.row c (unbad (has_bad_keys t.row) form.0) form.1 own_fits ro rn keys t.rows u.rows s.0 sound
          (subst (λ (ks : List Key). Agree t.row ks t.rows u.rows) here own.1.0) a.1.0 c.op refl)
          (λ x y m. (m.same ∙ sym m.alike, (subst (λ (r : TableRow). Agree r keys x.rows y.rows) (sym m.same) m.agree, a.1.1)))
      | false ↦ λ others_fit there.
          paired_bind (AreAlike keys) (AreAlike keys) (effect ts c) (effect us c) (λ others. Ok (t ∷ others))
          (λ others. Ok (w ∷ others))
          (effect_paired ts us c touched keys s.1 v.1 g.1 others_fit ro rn there own.1.1 a.1.1)
          (λ x y p. (refl, (a.1.0, p)))
    ] fits is)

-- what keys say that the change does not touch
pub effect_stays : (ts us : Tables) (c : Change) (touched keys : List Key) → AreSound ts →
    list_all is_table (definitions_of ts) ≡ true → change_fault (definitions_of ts) c ≡ None → are_cells c.old ≡ true →
    are_cells c.new ≡ true → touched ≡ conflict_keys (definitions_of ts) c → AreApart touched keys → effect ts c ≡ Ok us →
    AreAlike keys ts us
effect_stays [] us c touched keys s good fits ro rn is off e = absurd (cc)
effect_stays (t ∷ ts) us c touched keys s good fits ro rn is off e =
    let g = both (is_table t.row) (list_all is_table (definitions_of ts)) good in
    let form = both (not (has_bad_keys t.row)) (is_key_columns (primary_of t.row)) g.0 in
    elim (t.row.id == c.table) as (λ b. fault_of_table (cond b (Some t.row) (table_of (definitions_of ts) c.table)) c ≡ None →
    touched ≡ conflict_keys_of (cond b (Some t.row) (table_of (definitions_of ts) c.table)) c →
    cond b (effect_on t c.op c.old c.new >>= λ changed. Ok (changed ∷ ts)) (effect ts c >>= λ others. Ok (t ∷ others)) ≡ Ok us →
    AreAlike keys (t ∷ ts) us) [
      | true ↦ λ own_fits here h.
          let b = bound (effect_on t c.op c.old c.new) (λ changed. Ok (changed ∷ ts)) us h in
          let same : (b.0 ∷ ts) ≡ us = cc in
          let m = stay_on t.row c (unbad (has_bad_keys t.row) form.0) form.1 own_fits ro rn keys t.rows b.0 s.0
          (subst (λ (ks : List Key). AreApart ks keys) here off) c.op refl b.1.0 in
          subst (AreAlike keys (t ∷ ts)) same (sym m.alike, (m.agree, alike_self keys ts))
      | false ↦ λ others_fit there h.
          let b = bound (effect ts c) (λ others. Ok (t ∷ others)) us h in
          let same : (t ∷ b.0) ≡ us = cc in
          subst (AreAlike keys (t ∷ ts)) same (
            refl,
            (
              agree_self t.row keys t.rows,
              effect_stays ts b.0 c touched keys s.1 g.1 others_fit ro rn there off b.1.0,
            ),
          )
    ] fits is e
