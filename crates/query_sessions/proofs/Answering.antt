-- When an answer tells that more rows match than may be answered.
use Rattle.std.proofs.Common.{◌≡◌, ℕ, ◌<◌, ◌≤◌, List, [], length, map, refl, ap, Bool, true, false, cond, Option, arith}
use Rattle.std.proofs.Common.{Some, None}
use Rattle.std.specs.Prelude.{◌↔◌, nat_lt}
use Rattle.std.specs.Option.{option_to_list}
use Rattle.std.specs.FinMap.Entries as entries
use Rattle.std.proofs.lemmas.Bool.{ltb-true, lt-ltb, cond-true}
use Rattle.rl_value.specs.declared.value.Value.{Value}
use Rattle.rl_value.specs.Order.{row_cmp}
use Rattle.redo_spec.specs.Dictionary.{table_of}
use Rattle.redo_spec.specs.Tables.{Rows, Tables, definitions_of}
use Rattle.redo_spec.specs.Work.{rows_of}
use Rattle.query_sessions.specs.declared.query.Form.{Form}
use Rattle.query_sessions.specs.declared.query.Form.TheVariants as forms
use Rattle.query_sessions.specs.declared.answer.Answer.TheVariants.{Rows as RowsOf, Count, Many}
use Rattle.query_sessions.specs.Answers.{matching, rows_within, count_within, answer_to}
use Rattle.query_sessions.proofs.Finding.{none_there}

rows_told : (b : Bool) (rows : List (List Value)) → cond b (Many (length rows)) (RowsOf rows) ≡ Many (length rows) → b ≡ true
rows_told true rows h = refl
rows_told false rows h = absurd (cc)

count_told : (b : Bool) (count : ℕ) → cond b (Many count) (Count count) ≡ Many count → b ≡ true
count_told true count h = refl
count_told false count h = absurd (cc)

rows_many : (most : ℕ) (rows : List (List Value)) → (rows_within most rows ≡ Many (length rows)) ↔ (most < length rows)
rows_many most rows =
    let over = nat_lt most (length rows) in (
      λ h. ltb-true most (length rows) (rows_told over rows h),
      λ more. cond-true over (Many (length rows)) (RowsOf rows) (lt-ltb most (length rows) more),
    )

count_many : (most count : ℕ) → (count_within most count ≡ Many count) ↔ (most < count)
count_many most count =
    let over = nat_lt most count in (
      λ h. ltb-true most count (count_told over count h),
      λ more. cond-true over (Many count) (Count count) (lt-ltb most count more),
    )

pub many_told : (form : Form) (most : ℕ) (rows : List (List Value)) →
    (answer_to form most rows ≡ Many (length rows)) ↔ (most < length rows)
many_told forms.All most rows = rows_many most rows
many_told forms.Count most rows = count_many most (length rows)
many_told (forms.Key key) most rows = rows_many most rows

pub one_at_most : (found : Option (List Value)) → length (option_to_list found) ≤ 1
one_at_most None = omega arith
one_at_most (Some row) = omega arith

none_of : (form : Form) (tables : Tables) (id : ℕ) → rows_of tables id ≡ [] → matching form tables id ≡ []
none_of forms.All tables id e = ap (λ (rows : Rows). map (λ r. r.1) rows) e
none_of forms.Count tables id e = ap (λ (rows : Rows). map (λ r. r.1) rows) e
none_of (forms.Key key) tables id e = ap (λ (rows : Rows). option_to_list (entries.find row_cmp key rows)) e

pub none_matches : (tables : Tables) (id : ℕ) (form : Form) → table_of (definitions_of tables) id ≡ None →
    matching form tables id ≡ []
none_matches tables id form e = none_of form tables id (none_there tables id e)
