-- The effect on the table of a change, as the effect on all tables.
use Rattle.std.proofs.Common.{◌≡◌, ℕ, ◌+◌, ◌≤◌, ◌<◌, List, [], ◌∷◌, refl, sym, ap, subst, ◌∙◌, Bool, true, false, cond, ◌==◌, arith, Some, Result, Ok, Err, if◌then◌else◌, nat_le}
use Rattle.std.proofs.Math.Dec.{T}
use Rattle.std.specs.FinMap.Entries as entries
use Rattle.std.proofs.lemmas.Bool.Decides.{nat_tests}
use Rattle.rl_value.specs.declared.key.Key.{Key}
use Rattle.rl_value.specs.declared.miss.Miss.{Miss}
use Rattle.rl_value.specs.Order.{row_cmp}
use Rattle.rl_value.specs.Outcome.{◌>>=◌}
use Rattle.redo_vec.specs.declared.change.Change.{Change}
use Rattle.redo_vec.specs.declared.table.TableRow.{TableRow}
use Rattle.redo_spec.specs.Dictionary.{table_of, ids_rise}
use Rattle.redo_spec.specs.Tables.{Rows, Table, Tables, definitions_of, owner_in}
use Rattle.redo_spec.specs.Effect.{effect_on, effect}
use Rattle.row_apply.specs.declared.writes.Write.{Write}
use Rattle.redo_spec.specs.Work.{rows_of}
use Rattle.row_apply.specs.Found.{owner_of, key_columns}
use Rattle.row_apply.specs.Overlaid.{rows_after, table_after, overlaid}
use Rattle.row_apply.specs.Soundness.{AreSoundRows, AreSound}
use Rattle.row_apply.proofs.Fitting.{both}

-- writes by which only rows of this table differ
abbrev pub OthersStay : ℕ → List Write → List Write → Type 0
OthersStay table old new = (id : ℕ) → (id == table) ≡ false → (rows : Rows) → T (entries.is_sorted row_cmp rows) →
    rows_after id old rows ≡ rows_after id new rows

is_T : (b : Bool) → b ≡ true → T b
is_T b e = subst T (sym e) tt

table_stays : (old new : List Write) (id : ℕ) (t : Table) → OthersStay id old new → AreSoundRows t.row t.rows →
    (t.row.id == id) ≡ false → table_after old t ≡ table_after new t
table_stays old new id t stay s other = ap (λ (rows : Rows). record t { rows = rows })
    (stay t.row.id other t.rows (is_T _ s.rising))

-- tables whose ids are above stay as they are
tables_stay : (old new : List Write) (id from : ℕ) (ts : Tables) → OthersStay id old new → AreSound ts →
    ids_rise from (definitions_of ts) ≡ true → id < from → overlaid ts old ≡ overlaid ts new
tables_stay old new id from [] stay s r low = refl
tables_stay old new id from (t ∷ ts) stay s r low =
    let p = both (nat_le from t.row.id) (ids_rise (t.row.id + 1) (definitions_of ts)) r in
    let above : from ≤ t.row.id = grind (arith, nat_tests, p.0) in
    let other : (t.row.id == id) ≡ false = grind (arith, nat_tests, above, low) in
    let head = table_stays old new id t stay s.0 other in
    let tail = tables_stay old new id (t.row.id + 1) ts stay s.1 p.1 (omega (arith, above, low)) in
    λ i. head i ∷ tail i

done_here : (result : Result Table Miss) (changed : Table) (others : Tables) → result ≡ Ok changed →
    (result >>= λ c. Ok (c ∷ others)) ≡ Ok (changed ∷ others)
done_here result changed others e = ap (λ (r : Result Table Miss). r >>= λ c. Ok (c ∷ others)) e

done_there : (result : Result Tables Miss) (t : Table) (others : Tables) → result ≡ Ok others →
    (result >>= λ os. Ok (t ∷ os)) ≡ Ok (t ∷ others)
done_there result t others e = ap (λ (r : Result Tables Miss). r >>= λ os. Ok (t ∷ os)) e

missed_here : (result : Result Table Miss) (m : Miss) (others : Tables) → result ≡ Err m →
    (result >>= λ c. Ok (c ∷ others)) ≡ Err m
missed_here result m others e = ap (λ (r : Result Table Miss). r >>= λ c. Ok (c ∷ others)) e

missed_there : (result : Result Tables Miss) (t : Table) (m : Miss) → result ≡ Err m → (result >>= λ os. Ok (t ∷ os)) ≡ Err m
missed_there result t m e = ap (λ (r : Result Tables Miss). r >>= λ os. Ok (t ∷ os)) e

-- the table of an id, its rows, and the tables behind it
named_first : (t : Table) (ts : Tables) (d : TableRow) (id : ℕ) → (t.row.id == id) ≡ true →
    table_of (definitions_of (t ∷ ts)) id ≡ Some d → t.row ≡ d
named_first t ts d id is e =
    let h : cond (t.row.id == id) (Some t.row) (table_of (definitions_of ts) id) ≡ Some d = e in
    let k : Some t.row ≡ Some d = sym (ap (λ b. cond b (Some t.row) (table_of (definitions_of ts) id)) is) ∙ h in
    cc

pub named_later : (t : Table) (ts : Tables) (d : TableRow) (id : ℕ) → (t.row.id == id) ≡ false →
    table_of (definitions_of (t ∷ ts)) id ≡ Some d → table_of (definitions_of ts) id ≡ Some d
named_later t ts d id other e = sym (ap (λ b. cond b (Some t.row) (table_of (definitions_of ts) id)) other) ∙ e

pub named_id : (ts : List TableRow) (id : ℕ) (d : TableRow) → table_of ts id ≡ Some d → d.id ≡ id
named_id [] id d e = absurd (cc)
named_id (t ∷ ts) id d e =
    elim (t.id == id) as (λ b. (t.id == id) ≡ b → cond b (Some t) (table_of ts id) ≡ Some d → d.id ≡ id) [
      | true ↦ λ is h.
          let first : t.id ≡ id = grind (arith, nat_tests) in
          let same : t ≡ d = cc in
          ap (λ (u : TableRow). u.id) (sym same) ∙ first
      | false ↦ λ other h. named_id ts id d h
    ] refl e

-- the effect on the table is the effect on all
pub effect_done : (ts : Tables) (from : ℕ) (d : TableRow) (c : Change) (old new : List Write) →
    ids_rise from (definitions_of ts) ≡ true → AreSound ts → table_of (definitions_of ts) c.table ≡ Some d →
    OthersStay c.table old new →
    effect_on (record { row = d; rows = rows_after c.table old (rows_of ts c.table) }) c.op c.old c.new ≡
    Ok (record { row = d; rows = rows_after c.table new (rows_of ts c.table) }) →
    effect (overlaid ts old) c ≡ Ok (overlaid ts new)
effect_done [] from d c old new r s named stay done = absurd (cc)
effect_done (t ∷ ts) from d c old new r s named stay done =
    let p = both (nat_le from t.row.id) (ids_rise (t.row.id + 1) (definitions_of ts)) r in
    elim (t.row.id == c.table) as (λ b. (t.row.id == c.table) ≡ b →
    effect_on (record { row = d; rows = rows_after c.table old (if b then t.rows else rows_of ts c.table) }) c.op c.old c.new ≡
    Ok (record { row = d; rows = rows_after c.table new (if b then t.rows else rows_of ts c.table) }) →
    (if b then (effect_on (table_after old t) c.op c.old c.new >>= λ changed. Ok (changed ∷ overlaid ts old)) else
    (effect (overlaid ts old) c >>= λ others. Ok (table_after old t ∷ others))) ≡ Ok (overlaid (t ∷ ts) new)) [
      | true ↦ λ is here.
          let at : t.row.id ≡ c.table = grind (arith, nat_tests) in
          let same : t.row ≡ d = named_first t ts d c.table is named in
          let tail : overlaid ts old ≡ overlaid ts new =
          tables_stay old new c.table (t.row.id + 1) ts stay s.1 p.1 (omega (arith, at)) in
          let table : (ws : List Write) → table_after ws t ≡ record { row = d; rows = rows_after c.table ws t.rows } =
          λ ws i. record { row = same i; rows = rows_after (at i) ws t.rows } in
          done_here (effect_on (table_after old t) c.op c.old c.new) (table_after new t) (overlaid ts old)
          (ap (λ (u : Table). effect_on u c.op c.old c.new) (table old) ∙ here ∙ ap Ok (sym (table new)))
          ∙ ap (λ (us : Tables). Ok (table_after new t ∷ us)) tail
      | false ↦ λ other there.
          done_there (effect (overlaid ts old) c) (table_after old t) (overlaid ts new)
          (effect_done ts (t.row.id + 1) d c old new p.1 s.1 (named_later t ts d c.table other named) stay there)
          ∙ ap (λ (u : Table). Ok (u ∷ overlaid ts new)) (table_stays old new c.table t stay s.0 other)
    ] refl done

pub effect_missed : (ts : Tables) (d : TableRow) (c : Change) (old : List Write) (m : Miss) →
    table_of (definitions_of ts) c.table ≡ Some d →
    effect_on (record { row = d; rows = rows_after c.table old (rows_of ts c.table) }) c.op c.old c.new ≡ Err m →
    effect (overlaid ts old) c ≡ Err m
effect_missed [] d c old m named miss = absurd (cc)
effect_missed (t ∷ ts) d c old m named miss =
    elim (t.row.id == c.table) as (λ b. (t.row.id == c.table) ≡ b →
    effect_on (record { row = d; rows = rows_after c.table old (if b then t.rows else rows_of ts c.table) }) c.op c.old
    c.new ≡ Err m →
    (if b then (effect_on (table_after old t) c.op c.old c.new >>= λ changed. Ok (changed ∷ overlaid ts old)) else
    (effect (overlaid ts old) c >>= λ others. Ok (table_after old t ∷ others))) ≡ Err m) [
      | true ↦ λ is here.
          let at : t.row.id ≡ c.table = grind (arith, nat_tests) in
          let same : t.row ≡ d = named_first t ts d c.table is named in
          let table : table_after old t ≡ record { row = d; rows = rows_after c.table old t.rows } =
          λ i. record { row = same i; rows = rows_after (at i) old t.rows } in
          missed_here (effect_on (table_after old t) c.op c.old c.new) m (overlaid ts old)
          (ap (λ (u : Table). effect_on u c.op c.old c.new) table ∙ here)
      | false ↦ λ other there.
          missed_there (effect (overlaid ts old) c) (table_after old t) m
          (effect_missed ts d c old m (named_later t ts d c.table other named) there)
    ] refl miss

-- ---- what is known of the rows of a table among sound ones

pub sound_rows : (ts : Tables) (d : TableRow) (id : ℕ) (ws : List Write) → table_of (definitions_of ts) id ≡ Some d →
    AreSound (overlaid ts ws) → AreSoundRows d (rows_after id ws (rows_of ts id))
sound_rows [] d id ws named s = absurd (cc)
sound_rows (t ∷ ts) d id ws named s =
    elim (t.row.id == id) as (λ b. (t.row.id == id) ≡ b →
    AreSoundRows d (rows_after id ws (if b then t.rows else rows_of ts id))) [
      | true ↦ λ is.
          let at : t.row.id ≡ id = grind (arith, nat_tests) in
          let same : t.row ≡ d = named_first t ts d id is named in
          subst (λ (n : ℕ). AreSoundRows d (rows_after n ws t.rows)) at
          (subst (λ (u : TableRow). AreSoundRows u (rows_after t.row.id ws t.rows)) same s.0)
      | false ↦ λ other. sound_rows ts d id ws (named_later t ts d id other named) s.1
    ] refl

pub sound_base : (ts : Tables) (d : TableRow) (id : ℕ) → table_of (definitions_of ts) id ≡ Some d → AreSound ts →
    AreSoundRows d (rows_of ts id)
sound_base [] d id named s = absurd (cc)
sound_base (t ∷ ts) d id named s =
    elim (t.row.id == id) as (λ b. (t.row.id == id) ≡ b → AreSoundRows d (if b then t.rows else rows_of ts id)) [
      | true ↦ λ is. subst (λ (u : TableRow). AreSoundRows u t.rows) (named_first t ts d id is named) s.0
      | false ↦ λ other. sound_base ts d id (named_later t ts d id other named) s.1
    ] refl

-- sound tables stay so where the rows of the changed table are
sound_behind : (old new : List Write) (id from : ℕ) (ts : Tables) → OthersStay id old new → AreSound ts →
    ids_rise from (definitions_of ts) ≡ true → id < from → AreSound (overlaid ts old) → AreSound (overlaid ts new)
sound_behind old new id from ts stay s r low o = subst AreSound (tables_stay old new id from ts stay s r low) o

pub sound_after : (ts : Tables) (from : ℕ) (d : TableRow) (id : ℕ) (old new : List Write) →
    ids_rise from (definitions_of ts) ≡ true → AreSound ts → table_of (definitions_of ts) id ≡ Some d → OthersStay id old new →
    AreSound (overlaid ts old) → AreSoundRows d (rows_after id new (rows_of ts id)) → AreSound (overlaid ts new)
sound_after [] from d id old new r s named stay o n = tt
sound_after (t ∷ ts) from d id old new r s named stay o n =
    let p = both (nat_le from t.row.id) (ids_rise (t.row.id + 1) (definitions_of ts)) r in
    elim (t.row.id == id) as (λ b. (t.row.id == id) ≡ b →
    AreSoundRows d (rows_after id new (if b then t.rows else rows_of ts id)) → AreSound (overlaid (t ∷ ts) new)) [
      | true ↦ λ is h.
          let at : t.row.id ≡ id = grind (arith, nat_tests) in
          let same : t.row ≡ d = named_first t ts d id is named in (
            subst (λ (k : ℕ). AreSoundRows t.row (rows_after k new t.rows)) (sym at)
                (subst (λ (u : TableRow). AreSoundRows u (rows_after id new t.rows)) (sym same) h),
            sound_behind old new id (t.row.id + 1) ts stay s.1 p.1 (omega (arith, at)) o.1,
          )
      | false ↦ λ other h. (
        subst (λ (u : Table). AreSoundRows u.row u.rows) (table_stays old new id t stay s.0 other) o.0,
        sound_after ts (t.row.id + 1) d id old new p.1 s.1 (named_later t ts d id other named) stay o.1 h,
      )
    ] refl n

-- ---- rows and owners found in tables

pub owner_of-in : (ts : Tables) (d : TableRow) (k : Key) → table_of (definitions_of ts) k.table ≡ Some d →
    owner_of ts k ≡ owner_in (rows_of ts k.table) (key_columns d k.index) k.values
owner_of-in [] d k named = absurd (cc)
owner_of-in (t ∷ ts) d k named =
    elim (t.row.id == k.table) as (λ b. (t.row.id == k.table) ≡ b →
    (if b then owner_in t.rows (key_columns t.row k.index) k.values else owner_of ts k) ≡
    owner_in (if b then t.rows else rows_of ts k.table) (key_columns d k.index) k.values) [
      | true ↦ λ is. ap (λ (u : TableRow). owner_in t.rows (key_columns u k.index) k.values) (named_first t ts d k.table is named)
      | false ↦ λ other. owner_of-in ts d k (named_later t ts d k.table other named)
    ] refl
