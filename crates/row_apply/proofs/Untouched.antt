-- What a change does not touch stays as it was written: the row keys under which a change writes are among its conflict keys.
use Rattle.std.proofs.Common.{◌≡◌, ◌≢◌, ℕ, ◌+◌, ◌≤◌, ◌<◌, zero, suc, List, [], ◌∷◌, ◌++◌, length, map, refl, sym, ap, subst, ◌∙◌, Bool, true, false, cond, ◌||◌, ◌==◌, nat_le, nat_lt, arith, if◌then◌else◌, unwrap_or, Option, Some, None, is_some}
use Rattle.std.specs.List.{find, filter_map, cons_option, flat_map, enumerate_from, list_any, list_all}
use Rattle.std.specs.Option.{option_map}
use Rattle.std.specs.Ordering.{is_eq}
use Rattle.std.proofs.lemmas.Bool.Decides.{nat_tests}
use Rattle.rl_value.specs.declared.value.Value.{Value}
use Rattle.rl_value.specs.declared.key.Key.{Key}
use Rattle.rl_value.specs.declared.miss.Miss.TheVariants.{Differs}
use Rattle.rl_value.specs.Order.{key_cmp, value_eq}
use Rattle.rl_value.specs.Outcome.{all_of}
use Rattle.rl_value.specs.Text.{columns_rise}
use Rattle.redo_vec.specs.Forms.{is_key_columns}
use Rattle.redo_vec.specs.declared.change.Change.{Change}
use Rattle.redo_vec.specs.declared.change.Op.{Op}
use Rattle.redo_vec.specs.declared.change.Op.TheVariants.{Insert, Update}
use Rattle.redo_vec.specs.declared.columns.Column.{Column}
use Rattle.redo_vec.specs.declared.table.TableRow.{TableRow}
use Rattle.redo_spec.specs.ChangeForm.{change_fault_in, has_column}
use Rattle.redo_spec.specs.ConflictKeys.{cell_of, after_op, key_by_columns, key_if_whole, keys_given, conflict_keys, conflict_keys_of, conflict_keys_in}
use Rattle.redo_spec.specs.Dictionary.{table_of, first_of, primary_of, numbers_from, has_bad_keys}
use Rattle.redo_spec.specs.Effect.{cell_values, with_cells, logged_key, difference}
use Rattle.redo_spec.specs.Tables.{value_in, values_at, primary_key}
use Rattle.row_apply.specs.declared.writes.Write.{Write}
use Rattle.row_apply.specs.Kept.{Slots, row_key, slot_at, ArePrimary, Sets, Puts, SlotsOnly, keys_put}
use Rattle.row_apply.specs.Overlaid.{WritesOnly, written_at, written_key}
use Rattle.row_apply.specs.Written.{writes_in, write_of}
use Rattle.row_apply.proofs.Accepted.{accepted, insert_count}
use Rattle.row_apply.proofs.Fitting.{both, either, three, room}
use Rattle.row_apply.proofs.Logged.{left, right, primary_within, old_has, cell_there}
use Rattle.row_apply.proofs.Orders.{key_turned, value_is}
use Rattle.row_apply.proofs.Writing.{same_key}

-- ---- slots as writes

chosen : {A B : Type 0} (f : A → B) (b : Bool) (x : A) (rest : Option A) →
    option_map f (cond b (Some x) rest) ≡ cond b (Some (f x)) (option_map f rest)
chosen f true x rest = refl
chosen f false x rest = refl

pub written_slot : (es : Slots) (q : Key) → ArePrimary es → written_at (writes_in es) q ≡ slot_at es q
written_slot [] q p = refl
written_slot (e ∷ es) q p =
    chosen (λ (w : Write). w.row) (is_eq (key_cmp (written_key (write_of e)) q)) (write_of e)
    (find (λ w. is_eq (key_cmp (written_key w) q)) (writes_in es))
    ∙ ap (λ b. cond b (Some e.1) (written_at (writes_in es) q))
    (ap (λ (k : Key). is_eq (key_cmp k q)) (same_key e p.0) ∙ key_turned e.0 q)
    ∙ ap (λ o. cond (is_eq (key_cmp q e.0)) (Some e.1) o) (written_slot es q p.1)

pub writes_only : (tables : List TableRow) (t : TableRow) (c : Change) (old new : Slots) → Some t ≡ table_of tables c.table →
    ArePrimary old → ArePrimary new → SlotsOnly (conflict_keys_in t c) old new →
    WritesOnly (conflict_keys tables c) (writes_in old) (writes_in new)
writes_only tables t c old new found o n only q out =
    written_slot new q n ∙ only q (ap (λ (u : Option TableRow). list_any (λ k. is_eq (key_cmp k q)) (conflict_keys_of u c)) found
    ∙ out) ∙ sym (written_slot old q o)

-- ---- single writes

pub puts_only : (old new : Slots) (gone : Option Key) (key : Key) (row : List Value) → Puts old new gone key row →
    SlotsOnly (keys_put gone key) old new
puts_only old new None key row puts q out = puts q ∙ ap (λ b. cond b (Some (Some row)) (slot_at old q))
    (either (is_eq (key_cmp key q)) false out).0
puts_only old new (Some gone) key row puts q out =
    let p = either (is_eq (key_cmp gone q)) (is_eq (key_cmp key q) || false) out in
    puts q ∙ ap (λ b. cond b (Some (Some row)) (cond (is_eq (key_cmp gone q)) (Some None) (slot_at old q)))
    (either (is_eq (key_cmp key q)) false p.1).0
    ∙ ap (λ b. cond b (Some None) (slot_at old q)) p.0

-- ---- the primary key of given cells is among the keys that they give

parted : (test : Key → Bool) (xs ys : List Key) → list_any test (xs ++ ys) ≡ false → (list_any test xs ≡ false) ×
    (list_any test ys ≡ false)
parted test [] ys e = (refl, e)
parted test (x ∷ xs) ys e =
    let p = either (test x) (list_any test (xs ++ ys)) e in
    let r = parted test xs ys p.1 in
    (ap (λ b. b || list_any test xs) p.0 ∙ r.0, r.1)

first_given : (id : ℕ) (keys : List (List ℕ)) (given : ℕ → Option Value) (values : List Value) (q : Key) →
    is_key_columns (first_of keys) ≡ true → all_of (map given (first_of keys)) ≡ Some values →
    list_any (λ k. is_eq (key_cmp k q)) (flat_map (key_by_columns id given) (enumerate_from 0 keys)) ≡ false →
    is_eq (key_cmp (row_key id values) q) ≡ false
first_given id [] given values q form all out = absurd (cc)
first_given id (first ∷ more) given values q form all out =
    let rest = flat_map (key_by_columns id given) (enumerate_from 1 more) in
    (either (is_eq (key_cmp (row_key id values) q)) (list_any (λ k. is_eq (key_cmp k q)) rest)
    (ap (λ (o : Option (List Value)). list_any (λ k. is_eq (key_cmp k q)) (key_if_whole id 0 o ++ rest)) (sym all) ∙ out)).0

module _ (t : TableRow) (c : Change) (q : Key) (form : is_key_columns (primary_of t) ≡ true)
    (out : list_any (λ k. is_eq (key_cmp k q)) (conflict_keys_in t c) ≡ false) where
  both_out : (list_any (λ k. is_eq (key_cmp k q)) (keys_given t (cell_of c.old)) ≡ false) ×
      (list_any (λ k. is_eq (key_cmp k q)) (keys_given t (cell_of (after_op c.op c.old c.new))) ≡ false)
  both_out = parted (λ k. is_eq (key_cmp k q)) (keys_given t (cell_of c.old))
      (keys_given t (cell_of (after_op c.op c.old c.new))) out

  old_out : (values : List Value) → all_of (map (cell_of c.old) (primary_of t)) ≡ Some values →
      is_eq (key_cmp (row_key t.id values) q) ≡ false
  old_out values all = first_given t.id t.keys (cell_of c.old) values q form all both_out.0

  new_out : (op : Op) → c.op ≡ op → (values : List Value) →
      all_of (map (cell_of (after_op op c.old c.new)) (primary_of t)) ≡ Some values →
      is_eq (key_cmp (row_key t.id values) q) ≡ false
  new_out op is values all =
      first_given t.id t.keys (cell_of (after_op op c.old c.new)) values q form all
      (ap (λ (o : Op). list_any (λ k. is_eq (key_cmp k q)) (keys_given t (cell_of (after_op o c.old c.new))))
      (sym is) ∙ both_out.1)

-- ---- what the cells give at the columns of the primary key

own_number : (n : ℕ) → (n == n) ≡ true
own_number n = grind (arith, nat_tests)

some_before : (o : Option Value) (rest : List (Option Value)) (values : List Value) → is_some o ≡ true →
    all_of rest ≡ Some values → all_of (o ∷ rest) ≡ Some (cons_option o values)
some_before None rest values s e = absurd (cc)
some_before (Some x) rest values s e = ap (λ (o : Option (List Value)). option_map (λ xs. x ∷ xs) o) e

pub all_there : (given : ℕ → Option Value) (columns : List ℕ) → ((p : ℕ) → has_column columns p ≡ true → is_some (given p) ≡ true) →
    all_of (map given columns) ≡ Some (filter_map given columns)
all_there given [] each = refl
all_there given (column ∷ columns) each =
    some_before (given column) (map given columns) (filter_map given columns)
    (each column (left (column == column) (has_column columns column) (own_number column)))
    (all_there given columns (λ p h. each p (right (column == p) (has_column columns p) h)))

pub all_values : (given : ℕ → Option Value) (row : List Value) (columns : List ℕ) →
    ((p : ℕ) → has_column columns p ≡ true → given p ≡ Some (value_in row p)) →
    all_of (map given columns) ≡ Some (values_at row columns)
all_values given row [] each = refl
all_values given row (column ∷ columns) each =
    ap (λ (o : Option Value). all_of (o ∷ map given columns))
    (each column (left (column == column) (has_column columns column) (own_number column)))
    ∙ ap (λ (o : Option (List Value)). option_map (λ xs. value_in row column ∷ xs) o)
    (all_values given row columns (λ p h. each p (right (column == p) (has_column columns p) h)))

pub within : (columns : List ℕ) (bound p : ℕ) → list_all (λ c. nat_lt c bound) columns ≡ true →
    has_column columns p ≡ true → p < bound
within [] bound p all has = absurd (cc)
within (column ∷ columns) bound p all has =
    let each = both (nat_lt column bound) (list_all (λ c. nat_lt c bound) columns) all in
    elim (column == p) as (λ b. (column == p) ≡ b → (b || has_column columns p) ≡ true → p < bound) [
      | true ↦ λ is h.
          let same : column ≡ p = grind (arith, nat_tests, is) in
          let below : column < bound = grind (arith, nat_tests, each.0) in
          omega (arith, same, below)
      | false ↦ λ other h. within columns bound p each.1 h
    ] refl has

-- the first of the cells of all columns is of the first column
first_column : (n bound : ℕ) (cell : ℕ × Value) (cells : List (ℕ × Value)) → columns_rise n (cell ∷ cells) ≡ true →
    list_any (λ x. nat_le bound x.0) (cell ∷ cells) ≡ false → n + length (cell ∷ cells) ≡ bound →
    (cell.0 ≡ n) × (columns_rise (n + 1) cells ≡ true) × (list_any (λ (x : ℕ × Value). nat_le bound x.0) cells ≡ false)
first_column n bound cell cells r u l =
    let g = three (nat_le n cell.0) (nat_lt cell.0 32) (columns_rise (cell.0 + 1) cells) r in
    let e = either (nat_le bound cell.0) (list_any (λ (x : ℕ × Value). nat_le bound x.0) cells) u in
    let above : n ≤ cell.0 = grind (arith, nat_tests, g.0) in
    let under : cell.0 < bound = grind (arith, nat_tests, e.0) in
    let rest = room (cell.0 + 1) bound cells (omega (arith, under)) g.2 e.1 in
    let same : cell.0 ≡ n = omega (arith, above, rest, l) in
    (same, subst (λ (m : ℕ). columns_rise (m + 1) cells ≡ true) same g.2, e.1)

pub cell_value : (n bound k : ℕ) (cells : List (ℕ × Value)) → columns_rise n cells ≡ true →
    list_any (λ x. nat_le bound x.0) cells ≡ false → n + length cells ≡ bound → k < length cells →
    cell_of cells (n + k) ≡ Some (value_in (cell_values cells) k)
cell_value n bound k [] r u l low = absurd (omega (arith, low))
cell_value n bound zero (cell ∷ cells) r u l low =
    let f = first_column n bound cell cells r u l in
    let same = f.0 in
    let is : (cell.0 == n + 0) ≡ true = grind (arith, nat_tests, same) in
    ap (λ b. if b then Some cell.1 else cell_of cells (n + 0)) is
cell_value n bound (suc k) (cell ∷ cells) r u l low =
    let f = first_column n bound cell cells r u l in
    let same = f.0 in
    let other : (cell.0 == n + suc k) ≡ false = grind (arith, nat_tests, same) in
    let next : n + suc k ≡ n + 1 + k = omega arith in
    ap (λ b. if b then Some cell.1 else cell_of cells (n + suc k)) other ∙ ap (cell_of cells) next
    ∙ cell_value (n + 1) bound k cells f.1 f.2 (omega (arith, l)) (omega (arith, low))

-- the value at a place of values made by the numbers of columns
pub number_at : (value : ℕ → Value) (n k : ℕ) (columns : List Column) → k < length columns →
    value_in (map value (numbers_from n columns)) k ≡ value (n + k)
number_at value n k [] low = absurd (omega (arith, low))
number_at value n zero (c ∷ cs) low = let here : n ≡ n + 0 = omega arith in ap value here
number_at value n (suc k) (c ∷ cs) low = let next : n + 1 + k ≡ n + suc k =
    omega arith in number_at value (n + 1) k cs (omega (arith, low)) ∙ ap value next

-- new cells before old ones
pub joined_value : (xs ys : List (ℕ × Value)) (column : ℕ) (value : Value) → cell_of ys column ≡ Some value →
    cell_of (xs ++ ys) column ≡ Some (unwrap_or (cell_of xs column) value)
joined_value [] ys column value e = e
joined_value ((own, v) ∷ xs) ys column value e =
    elim (own == column) as (λ b. (if b then Some v else cell_of (xs ++ ys) column) ≡
    Some (unwrap_or (if b then Some v else cell_of xs column) value)) [
      | true ↦ refl
      | false ↦
          joined_value xs ys column value e
    ]

-- a row that is as it was logged has the logged values
pub logged_value : (row : List Value) (cells : List (ℕ × Value)) (column : ℕ) → difference row cells ≡ None →
    is_some (cell_of cells column) ≡ true → cell_of cells column ≡ Some (value_in row column)
logged_value row [] column d s = absurd (cc)
logged_value row ((own, logged) ∷ cells) column d s =
    elim (value_eq logged (value_in row own)) as (λ b. value_eq logged (value_in row own) ≡ b →
    (if b then difference row cells else Some (Differs own logged (value_in row own))) ≡ None →
    cell_of ((own, logged) ∷ cells) column ≡ Some (value_in row column)) [
      | true ↦ λ same h.
          elim (own == column) as (λ b. (own == column) ≡ b → is_some (if b then Some logged else cell_of cells column) ≡ true →
          (if b then Some logged else cell_of cells column) ≡ Some (value_in row column)) [
            | true ↦ λ is there.
                let at : own ≡ column = grind (arith, nat_tests, is) in
                ap (λ v. Some v) (value_is logged (value_in row own) same ∙ ap (value_in row) at)
            | false ↦ λ other there. logged_value row cells column h there
          ] refl s
      | false ↦ λ same h. absurd (cc)
    ] refl d

-- ---- what each kind of change writes

module _ (t : TableRow) (c : Change) (keys : has_bad_keys t ≡ false) (form : is_key_columns (primary_of t) ≡ true)
    (accept : change_fault_in t c ≡ None) where
  inside : (p : ℕ) → has_column (primary_of t) p ≡ true → p < length t.columns
  inside p has = within (primary_of t) (length t.columns) p (primary_within t keys) has

  old_there : c.op ≢ Insert → columns_rise 0 c.old ≡ true → (p : ℕ) → has_column (primary_of t) p ≡ true →
      is_some (cell_of c.old p) ≡ true
  old_there op r p has =
      let a = accepted t c accept in
      cell_there c.old p (old_has t c c.op p op r a.within_old a.shape a.logged has (inside p has))

  -- the old cells give the logged key, and those after the change the new row's
  pub logged_given : c.op ≢ Insert → columns_rise 0 c.old ≡ true →
      all_of (map (cell_of c.old) (primary_of t)) ≡ Some (logged_key t c.old)
  logged_given op r = all_there (cell_of c.old) (primary_of t) (old_there op r)

  pub insert_given : c.op ≡ Insert → columns_rise 0 c.new ≡ true →
      all_of (map (cell_of c.new) (primary_of t)) ≡ Some (primary_key t (cell_values c.new))
  insert_given op r =
      let a = accepted t c accept in
      let count = insert_count t c op accept in
      let each : (p : ℕ) → has_column (primary_of t) p ≡ true → cell_of c.new p ≡ Some (value_in (cell_values c.new) p) =
      λ p has.
      let low = inside p has in
      let number : p ≡ 0 + p = omega arith in
      ap (cell_of c.new) number ∙ cell_value 0 (length t.columns) p c.new r a.within (omega (arith, count))
      (omega (arith, count, low)) in
      all_values (cell_of c.new) (cell_values c.new) (primary_of t) each

  pub update_given : (row : List Value) → c.op ≢ Insert → columns_rise 0 c.old ≡ true → difference row c.old ≡ None →
      all_of (map (cell_of (c.new ++ c.old)) (primary_of t)) ≡ Some (primary_key t (with_cells t row c.new))
  update_given row op r d =
      let each : (p : ℕ) → has_column (primary_of t) p ≡ true →
      cell_of (c.new ++ c.old) p ≡ Some (value_in (with_cells t row c.new) p) =
      λ p has.
      let number : p ≡ 0 + p = omega arith in
      joined_value c.new c.old p (value_in row p) (logged_value row c.old p d (old_there op r p has))
      ∙ ap (λ v. Some v)
      (ap (λ column. unwrap_or (cell_of c.new column) (value_in row column)) number
      ∙ sym (number_at (λ column. unwrap_or (cell_of c.new column) (value_in row column)) 0 p t.columns (inside p has))) in
      all_values (cell_of (c.new ++ c.old)) (with_cells t row c.new) (primary_of t) each

  old_key_out : c.op ≢ Insert → columns_rise 0 c.old ≡ true → (q : Key) →
      list_any (λ k. is_eq (key_cmp k q)) (conflict_keys_in t c) ≡ false →
      is_eq (key_cmp (row_key t.id (logged_key t c.old)) q) ≡ false
  old_key_out op r q out = old_out t c q form out (logged_key t c.old) (logged_given op r)

  pub delete_only : (old new : Slots) (key : Key) → c.op ≢ Insert → columns_rise 0 c.old ≡ true →
      key ≡ row_key t.id (logged_key t c.old) → Sets old new key None → SlotsOnly (conflict_keys_in t c) old new
  delete_only old new key op r named sets q out =
      sets q ∙ ap (λ b. cond b (Some None) (slot_at old q)) (ap (λ (k : Key). is_eq (key_cmp k q)) named ∙ old_key_out op r q out)

  pub insert_only : (old new : Slots) → c.op ≡ Insert → columns_rise 0 c.new ≡ true →
      SlotsOnly (keys_put None (row_key t.id (primary_key t (cell_values c.new)))) old new →
      SlotsOnly (conflict_keys_in t c) old new
  insert_only old new op r only q out = only q (ap (λ b. b || false)
      (new_out t c q form out Insert op (primary_key t (cell_values c.new)) (insert_given op r)))

  pub update_only : (old new : Slots) (key : Key) (row after : List Value) → c.op ≢ Insert → c.op ≡ Update →
      columns_rise 0 c.old ≡ true → key ≡ row_key t.id (logged_key t c.old) → after ≡ with_cells t row c.new →
      difference row c.old ≡ None → SlotsOnly (keys_put (Some key) (row_key t.id (primary_key t after))) old new →
      SlotsOnly (conflict_keys_in t c) old new
  update_only old new key row after not_insert op r named made d only q out =
      let gone : is_eq (key_cmp key q) ≡ false = ap (λ (k : Key). is_eq (key_cmp k q)) named ∙ old_key_out not_insert r q out in
      let comes : is_eq (key_cmp (row_key t.id (primary_key t after)) q) ≡ false =
      ap (λ (values : List Value). is_eq (key_cmp (row_key t.id (primary_key t values)) q)) made
      ∙ new_out t c q form out Update op (primary_key t (with_cells t row c.new)) (update_given row not_insert r d) in
      only q ((λ i. gone i || (comes i || false)))
