-- Tables as they are read: each is accepted behind those before it.
use Rattle.std.proofs.Common.{◌≡◌, ℕ, ◌+◌, ◌^◌, ◌<◌, List, [], ◌∷◌, ◌++◌, length, take, Bool, true, false, refl, sym, ap, ◌∙◌, subst, Option, Some, None, Ok, Err, arith, append_assoc}
use Rattle.std.specs.Prelude.{◌==◌, nat_lt, if◌then◌else◌}
use Rattle.std.proofs.lemmas.Bool.Decides.{nat_tests}
use Rattle.std.proofs.lemmas.List.{append-nil, take_at}
use Rattle.std.specs.List.{AllByRecursion}
use Rattle.std.specs.Option.{option_and_then}
use Rattle.redo_vec.specs.declared.table.TableRow.{TableRow}
use Rattle.redo_vec.specs.Ranges.{AreBytes, IsTable}
use Rattle.redo_vec.specs.Reading.{Read, table_at}
use Rattle.redo_vec.specs.Spelling as spelling
use Rattle.redo_vec.specs.Spelling.{be32}
use Rattle.redo_vec.proofs.TableLaws.{body, table_sound}
use Rattle.rl_value.specs.declared.cause.LawFault.{LawFault}
use Rattle.redo_dict.specs.declared.fault.DictFault.{DictFault}
use Rattle.redo_dict.specs.declared.fault.DictFault.TheVariants as faults
use Rattle.redo_dict.specs.Refusals.{IsTableRefusal}
use Rattle.redo_spec.specs.Dictionary.{table_fault, with_table}
use Rattle.redo_spec.proofs.ListLaws.{all_append}
use Rattle.standby_spec.specs.HasLayout.{AreAcceptedBehind}
use Rattle.standby_spec.specs.Loading.{when_true, read_whole, no_fault, tables_with, table_step}
use Rattle.redo_spec.proofs.FieldLaws.{bytes_fit}
use Rattle.standby_spec.proofs.SpellLaws.{both-fit, if-given}
use Rattle.standby_spec.proofs.StoreLaws.{same_nat}
use Rattle.kept_layout.specs.Pairs.{table_of_pair}
use Rattle.checkpoint.specs.Areas.{is_above}
use Rattle.checkpoint.specs.Read.{LiesBelow, AreTablesTo}
use Rattle.checkpoint.proofs.Numbers.{lies_under, below_on, below_itself}

-- ---- the table of a pair

whole_is : {A : Type 0} (r : Read A) (y : A) → read_whole r ≡ Some y → r ≡ Ok (y, [])
whole_is (Ok (x, [])) y e = let same : x ≡ y = cc in ap (λ z. Ok (z, [])) same
whole_is (Ok (x, b ∷ left)) y e = absurd (cc)
whole_is (Err f) y e = absurd (cc)

pub table_from : (key value : List ℕ) (t : TableRow) → AreBytes key → AreBytes value → table_of_pair (key, value) ≡ Some t →
    IsTable t × (key ≡ be32 t.id)
table_from key value t f g given =
    let a = if-given (length key == 4) (read_whole (table_at 0 (key ++ value))) t given in
    let read = whole_is (table_at 0 (key ++ value)) t a.1 in
    let sound = table_sound 0 (key ++ value) (t, []) (bytes_fit (key ++ value) (both-fit key value f g)) read in
    let long : length key ≡ 4 = same_nat (length key) 4 a.0 in
    let all : key ++ value ≡ body t = sound.0.parts ∙ append-nil (body t) in
    (sound.1, sym (take_at key value 4 long) ∙ ap (take 4) all ∙ take_at (be32 t.id) (spelling.table t) 4 refl)

-- ---- one step

none_of : (b : Bool) (o : Option TableRow) (f : TableRow → Option (List TableRow)) → (if b then o else None) ≡ None →
    (if b then option_and_then f o else None) ≡ None
none_of true None f e = refl
none_of true (Some t) f e = absurd (cc)
none_of false o f e = refl

pub no_table : (key value : List ℕ) (tables : List TableRow) → table_of_pair (key, value) ≡ None →
    table_step tables (key, value) ≡ None
no_table key value tables is = none_of (length key == 4) (read_whole (table_at 0 (key ++ value))) (tables_with tables) is

some_of : (b : Bool) (o : Option TableRow) (t : TableRow) (f : TableRow → Option (List TableRow)) →
    (if b then o else None) ≡ Some t → (if b then option_and_then f o else None) ≡ f t
some_of true None t f e = absurd (cc)
some_of true (Some u) t f e = let same : u ≡ t = cc in ap f same
some_of false o t f e = absurd (cc)

a_step : (key value : List ℕ) (t : TableRow) (tables : List TableRow) → table_of_pair (key, value) ≡ Some t →
    table_step tables (key, value) ≡ when_true (no_fault (table_fault tables t)) (with_table t tables)
a_step key value t tables is = some_of (length key == 4) (read_whole (table_at 0 (key ++ value))) t (tables_with tables) is

pub a_table : (key value : List ℕ) (t : TableRow) (tables : List TableRow) → table_of_pair (key, value) ≡ Some t →
    table_fault tables t ≡ None → table_step tables (key, value) ≡ Some (with_table t tables)
a_table key value t tables is good = a_step key value t tables is ∙ ap (λ o. when_true (no_fault o) (with_table t tables)) good

pub bad_table : (key value : List ℕ) (t : TableRow) (tables : List TableRow) → table_of_pair (key, value) ≡ Some t →
    no_fault (table_fault tables t) ≡ false → table_step tables (key, value) ≡ None
bad_table key value t tables is bad = a_step key value t tables is ∙ ap (λ b. when_true b (with_table t tables)) bad

-- a table that is refused for another reason than want of memory
pub table_refused : (fault : DictFault) (reason : Option LawFault) → IsTableRefusal fault reason →
    (fault ≡ faults.Memory → ⊥) → no_fault reason ≡ false
table_refused faults.Twice reason e f = ap no_fault e
table_refused faults.Names reason e f = ap no_fault e
table_refused faults.Keys reason e f = ap no_fault e
table_refused faults.Limit reason e f = ap no_fault e
table_refused faults.Memory reason e f = absurd (f refl)

-- ---- behind those before it

abbrev AreUnder : ℕ → List TableRow → Type 0
AreUnder n ts = AllByRecursion (λ t. t.id < n) ts

with_behind : (t : TableRow) (ts : List TableRow) → AreUnder t.id ts → with_table t ts ≡ ts ++ t ∷ []
with_behind t [] all = refl
with_behind t (u ∷ us) all =
    let low : u.id < t.id = all.0 in
    let apart : nat_lt t.id u.id ≡ false = grind (arith, nat_tests) in
    ap (λ b. if b then t ∷ u ∷ us else u ∷ with_table t us) apart ∙ ap (λ ts. u ∷ ts) (with_behind t us all.1)

are_under : (last key : List ℕ) (n : ℕ) (ts : List TableRow) → n < 2 ^ 32 → is_above last key ≡ true → key ≡ be32 n →
    AllByRecursion IsTable ts → AllByRecursion (λ t. LiesBelow last t.id) ts → AreUnder n ts
are_under last key n [] f up is all below = tt
are_under last key n (t ∷ ts) f up is all below =
    (lies_under last key t.id n all.0.id f below.0 up is, are_under last key n ts f up is all.1 below.1)

all_on : (last key : List ℕ) (ts : List TableRow) → is_above last key ≡ true → AllByRecursion (λ t. LiesBelow last t.id) ts →
    AllByRecursion (λ t. LiesBelow key t.id) ts
all_on last key [] up all = tt
all_on last key (t ∷ ts) up all = (below_on last key t.id up all.0, all_on last key ts up all.1)

accepted_more : (before ts : List TableRow) (t : TableRow) → AreAcceptedBehind before ts → table_fault (before ++ ts) t ≡ None →
    AreAcceptedBehind before (ts ++ t ∷ [])
accepted_more before [] t all good = (ap (λ us. table_fault us t) (sym (append-nil before)) ∙ good, tt)
accepted_more before (u ∷ us) t all good =
    (all.0, accepted_more (before ++ u ∷ []) us t all.1 (ap (λ vs. table_fault vs t) (append_assoc before (u ∷ []) us) ∙ good))

pub one_table_more : (last key : List ℕ) (t : TableRow) (tables : List TableRow) → AreTablesTo last tables →
    is_above last key ≡ true → IsTable t × (key ≡ be32 t.id) → table_fault tables t ≡ None → AreTablesTo key (with_table t tables)
one_table_more last key t tables read up from good =
    let behind = with_behind t tables (are_under last key t.id tables from.0.id up from.1 read.each read.below) in
    subst (AreTablesTo key) (sym behind) (record {
      each = all_append IsTable tables (t ∷ []) read.each (from.0, tt);
      below = all_append (λ u. LiesBelow key u.id) tables (t ∷ []) (all_on last key tables up read.below)
          (below_itself key t.id from.1, tt);
      accepted = accepted_more [] tables t read.accepted good;
    })

-- before the first table
pub no_tables_yet : (last : List ℕ) (tables : List TableRow) → tables ≡ [] → AreTablesTo last tables
no_tables_yet last tables none =
    subst (λ (ts : List TableRow). AreTablesTo last ts) (sym none) (record { each = tt; below = tt; accepted = tt })

-- ---- the table of a pair

pub table_taken : (last key value : List ℕ) (t : TableRow) (tables next : List TableRow) → AreBytes key → AreBytes value →
    Some t ≡ table_of_pair (key, value) → AreTablesTo last tables → is_above last key ≡ true → table_fault tables t ≡ None →
    next ≡ with_table t tables → (table_step tables (key, value) ≡ Some next) × AreTablesTo key next
table_taken last key value t tables next kb vb pair read up fine added = (
  a_table key value t tables (sym pair) fine ∙ ap (λ xs. Some xs) (sym added),
  subst (λ (ts : List TableRow). AreTablesTo key ts) (sym added)
      (one_table_more last key t tables read up (table_from key value t kb vb (sym pair)) fine),
)
