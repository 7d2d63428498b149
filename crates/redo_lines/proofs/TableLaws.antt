-- Tables of the dictionary as they are printed: they are read as they were, and each word stands whole.
use Rattle.std.proofs.Common.{◌≡◌, ℕ, ◌+◌, ◌<◌, ◌≤◌, ◌^◌, Bool, true, false, List, [], ◌∷◌, ◌++◌, Ok, refl, ap, ◌∙◌, arith}
use Rattle.std.specs.Prelude.{map, ◌==◌, codes}
use Rattle.std.specs.List.{list_all, AllByRecursion}
use Rattle.std.specs.Fmt.{decimal}
use Rattle.std.proofs.lemmas.Bool.{and_parts, ltb-true, le-leb, ne_eqb}
use Rattle.redo_vec.specs.declared.columns.Column.{Column}
use Rattle.redo_vec.specs.declared.columns.Kind.{Kind}
use Rattle.redo_vec.specs.declared.columns.Kind.TheVariants as kinds
use Rattle.redo_vec.specs.declared.table.TableRow.{TableRow}
use Rattle.redo_vec.specs.Columns.{is_kind, are_columns}
use Rattle.redo_vec.specs.Forms.{rises, is_key_columns, are_keys}
use Rattle.redo_vec.specs.Ranges.{IsKind, IsWord, IsColumn, IsTable}
use Rattle.line_fields.specs.Fields.{name_word}
use Rattle.line_fields.specs.Known.{column_said, column_word}
use Rattle.redo_lines.specs.Printing.{kind_parts, nullable_parts, column_line, column_lines, key_word, key_words, uniques_words, keys_words, names_word, definition_words}
use Rattle.redo_lines.specs.Reading.{items_until, never, is_key, nullable_said, size_said, sized_said, kind_said, column_of_parts, column_line_said, columns_behind, key_said, uniques_said, keys_with, keys_behind, names_of_parts, definition_said}
use Rattle.line_fields.specs.Words.{split, joined_behind, dot, comma}
use Rattle.line_fields.proofs.Splitting.{closes, both_true, split-joined, closes-joined}
use Rattle.line_fields.proofs.Numbers.{number_printed}
use Rattle.line_fields.proofs.FieldLaws.{IsOutside, closes-decimal, closes-name, name_printed}
use Rattle.line_fields.proofs.KnownLaws.{column_printed, closes-column}
use Rattle.redo_lines.proofs.ListLaws.{each-append, each-map, each-then, IsRead, items_printed, all_printed, no_keyword}

outside_space : IsOutside 32
outside_space = record { digit = refl; name = refl; quotes = refl; minus = refl; text = refl; raw = refl; null = refl }

outside_dot : IsOutside 46
outside_dot = record { digit = refl; name = refl; quotes = refl; minus = refl; text = refl; raw = refl; null = refl }

outside_colon : IsOutside 58
outside_colon = record { digit = refl; name = refl; quotes = refl; minus = refl; text = refl; raw = refl; null = refl }

-- ---- columns

size_read : (size : ℕ) → 1 ≤ size → size ≤ 500 → size_said (decimal size) ≡ Ok size
unfolding size_said
size_read size some most =
    let nonzero : (size == 0) ≡ false = ne_eqb _ _ (omega arith) in
    rw (number_printed 500 size most (omega arith), nonzero) refl

nullable_read : (b : Bool) → nullable_said (nullable_parts b) ≡ Ok b
unfolding nullable_said
nullable_read true = refl
nullable_read false = refl

sized_read : (size : ℕ) (b : Bool) → 1 ≤ size → size ≤ 500 → sized_said (decimal size ∷ nullable_parts b) ≡ Ok (size, b)
unfolding sized_said
sized_read size b some most = rw (size_read size some most, nullable_read b) refl

column_read : (name : List ℕ) (k : Kind) (b : Bool) → IsWord name → IsKind k →
    column_of_parts (name_word name ∷ (kind_parts k ++ nullable_parts b))
    ≡ Ok (record { name = name; kind = k; nullable = b })
unfolding column_of_parts kind_said
column_read name kinds.Number b ok fits = rw (name_printed name ok, nullable_read b) refl
column_read name (kinds.Text size) b ok fits = rw (name_printed name ok, sized_read size b fits.0 fits.1) refl
column_read name (kinds.Raw size) b ok fits = rw (name_printed name ok, sized_read size b fits.0 fits.1) refl

kind_closes : (between : ℕ) (k : Kind) (b : Bool) → IsOutside between → closes between false (codes "NUMBER") ≡ true →
    closes between false (codes "TEXT") ≡ true → closes between false (codes "RAW") ≡ true → IsKind k →
    AllByRecursion (λ p. closes between false p ≡ true) (kind_parts k ++ nullable_parts b)
kind_closes between kinds.Number true o n t r fits = (n, (o.null, tt))
kind_closes between kinds.Number false o n t r fits = (n, tt)
kind_closes between (kinds.Text size) true o n t r fits =
    let most : size ≤ 500 = fits.1 in (t, (closes-decimal between size o.digit (omega arith), (o.null, tt)))
kind_closes between (kinds.Text size) false o n t r fits =
    let most : size ≤ 500 = fits.1 in (t, (closes-decimal between size o.digit (omega arith), tt))
kind_closes between (kinds.Raw size) true o n t r fits =
    let most : size ≤ 500 = fits.1 in (r, (closes-decimal between size o.digit (omega arith), (o.null, tt)))
kind_closes between (kinds.Raw size) false o n t r fits =
    let most : size ≤ 500 = fits.1 in (r, (closes-decimal between size o.digit (omega arith), tt))

column_line_read : (c : Column) → IsColumn c → column_line_said (column_line c) ≡ Ok c
unfolding column_line_said
column_line_read c ok =
    ap column_of_parts (split-joined 58 (name_word c.name) (kind_parts c.kind ++ nullable_parts c.nullable)
    (closes-name 58 c.name outside_colon) (kind_closes 58 c.kind c.nullable outside_colon refl refl refl ok.kind))
    ∙ column_read c.name c.kind c.nullable ok.name ok.kind

column_line_goes : (name : List ℕ) (k : Kind) (parts : List (List ℕ)) →
    is_key (name ++ joined_behind 58 (kind_parts k ++ parts)) ≡ false
column_line_goes name kinds.Number parts = no_keyword 58 name _ (codes "KEY") refl
column_line_goes name (kinds.Text size) parts = no_keyword 58 name _ (codes "KEY") refl
column_line_goes name (kinds.Raw size) parts = no_keyword 58 name _ (codes "KEY") refl

column_line_closes : (c : Column) → IsColumn c → closes 32 false (column_line c) ≡ true
column_line_closes c ok =
    closes-joined 32 58 (name_word c.name ∷ (kind_parts c.kind ++ nullable_parts c.nullable)) refl
    (closes-name 32 c.name outside_space, kind_closes 32 c.kind c.nullable outside_space refl refl refl ok.kind)

kind_form : (k : Kind) → IsKind k → is_kind k ≡ true
kind_form kinds.Number ok = refl
kind_form (kinds.Text size) ok = both_true _ _ (le-leb _ _ ok.0) (le-leb _ _ ok.1)
kind_form (kinds.Raw size) ok = both_true _ _ (le-leb _ _ ok.0) (le-leb _ _ ok.1)

kinds_form : (columns : List Column) → AllByRecursion IsColumn columns → list_all (λ c. is_kind c.kind) columns ≡ true
kinds_form [] ok = refl
kinds_form (c ∷ columns) ok = both_true _ _ (kind_form c.kind ok.0.kind) (kinds_form columns ok.1)

columns_form : (t : TableRow) → IsTable t → are_columns t.columns ≡ true
columns_form t ok =
    both_true _ _ (both_true _ _ (le-leb _ _ ok.some) (le-leb _ _ ok.most)) (kinds_form t.columns ok.columns)

keys_stop : (columns : List Column) (keys : List (List ℕ)) → items_until is_key column_line_said (keys_words columns keys) ≡
    Ok ([], keys_words columns keys)
keys_stop columns [] = refl
keys_stop columns (k ∷ keys) = refl

columns_read : (t : TableRow) → IsTable t →
    columns_behind (codes "COLUMNS" ∷ (column_lines t.columns ++ keys_words t.columns t.keys)) ≡
    Ok (t.columns, keys_words t.columns t.keys)
unfolding columns_behind
columns_read t ok =
    let each = each-then IsColumn (IsRead is_key column_line_said column_line)
    (λ c h. record {
      goes = column_line_goes (name_word c.name) c.kind (nullable_parts c.nullable);
      read = column_line_read c h;
    }) t.columns ok.columns in
    rw (
      items_printed is_key column_line_said column_line t.columns (keys_words t.columns t.keys) each
          (keys_stop t.columns t.keys),
      columns_form t ok,
    ) refl

-- ---- keys

abbrev IsBelow : ℕ → Type 0
IsBelow c = c < 32

below : (from : ℕ) (key : List ℕ) → rises from key ≡ true → AllByRecursion IsBelow key
below from [] e = tt
below from (c ∷ key) e =
    let p = and_parts _ _ e in
    let q = and_parts _ _ p.0 in
    (ltb-true _ _ q.1, below (c + 1) key p.1)

key_each : (key : List ℕ) → is_key_columns key ≡ true → AllByRecursion IsBelow key
key_each key ok = below 0 key (and_parts _ _ ok).1

split_key : (columns : List Column) (key : List ℕ) → is_key_columns key ≡ true →
    split comma (key_word columns key) ≡ map (column_word columns) key
split_key columns [] ok = absurd cc
split_key columns (c ∷ key) ok =
    let each = each-map IsBelow (λ w. closes 44 false w ≡ true) (column_word columns)
    (λ n h. closes-column 44 columns n refl refl h) (c ∷ key) (key_each (c ∷ key) ok) in
    split-joined 44 (column_word columns c) (map (column_word columns) key) each.0 each.1

key_columns_read : (columns : List Column) (key : List ℕ) → is_key_columns key ≡ true →
    items_until never (column_said columns) (map (column_word columns) key) ≡ Ok (key, [])
key_columns_read columns key ok =
    all_printed never (column_said columns) (column_word columns) key
    (each-then IsBelow (IsRead never (column_said columns) (column_word columns))
    (λ n h. record { goes = refl; read = column_printed columns n h }) key (key_each key ok))

key_read : (columns : List Column) (key : List ℕ) → is_key_columns key ≡ true → key_said columns (key_word columns key) ≡ Ok key
unfolding key_said
key_read columns key ok = rw (split_key columns key ok, key_columns_read columns key ok, ok) refl

key_closes : (columns : List Column) (key : List ℕ) → is_key_columns key ≡ true → closes 32 false (key_word columns key) ≡ true
key_closes columns key ok =
    closes-joined 32 44 (map (column_word columns) key) refl
    (each-map IsBelow (λ w. closes 32 false w ≡ true) (column_word columns)
    (λ n h. closes-column 32 columns n refl refl h) key (key_each key ok))

abbrev IsKey : List ℕ → Type 0
IsKey key = is_key_columns key ≡ true

all_each : (keys : List (List ℕ)) → list_all is_key_columns keys ≡ true → AllByRecursion IsKey keys
all_each [] e = tt
all_each (k ∷ keys) e = let p = and_parts _ _ e in (p.0, all_each keys p.1)

uniques_read : (primary : List ℕ) (columns : List Column) (k : List ℕ) (keys : List (List ℕ)) →
    AllByRecursion IsKey (k ∷ keys) →
    uniques_said primary columns (key_words columns (k ∷ keys)) ≡ Ok (primary ∷ k ∷ keys)
unfolding uniques_said
uniques_read primary columns k keys each =
    rw (all_printed never (key_said columns) (key_word columns) (k ∷ keys)
    (each-then IsKey (IsRead never (key_said columns) (key_word columns))
    (λ key h. record { goes = refl; read = key_read columns key h }) (k ∷ keys) each)) refl

with_read : (primary : List ℕ) (columns : List Column) (keys : List (List ℕ)) → AllByRecursion IsKey keys →
    keys_with primary columns (uniques_words columns keys) ≡ Ok (primary ∷ keys)
unfolding keys_with
with_read primary columns [] each = refl
with_read primary columns (k ∷ keys) each = uniques_read primary columns k keys each

keys_read : (columns : List Column) (keys : List (List ℕ)) → are_keys keys ≡ true →
    keys_behind columns (keys_words columns keys) ≡ Ok keys
unfolding keys_behind
keys_read columns [] ok = absurd cc
keys_read columns (primary ∷ keys) ok =
    let each = all_each (primary ∷ keys) (and_parts _ _ ok).1 in
    rw (key_read columns primary each.0, with_read primary columns keys each.1, ok) refl

keys_close : (columns : List Column) (keys : List (List ℕ)) → AllByRecursion IsKey keys →
    AllByRecursion (λ w. closes 32 false w ≡ true) (key_words columns keys)
keys_close columns keys each = each-map IsKey (λ w. closes 32 false w ≡ true) (key_word columns) (key_closes columns) keys each

uniques_close : (columns : List Column) (keys : List (List ℕ)) → AllByRecursion IsKey keys →
    AllByRecursion (λ w. closes 32 false w ≡ true) (uniques_words columns keys)
uniques_close columns [] each = tt
uniques_close columns (k ∷ keys) each = (refl, keys_close columns (k ∷ keys) each)

keys_words_close : (columns : List Column) (keys : List (List ℕ)) → are_keys keys ≡ true →
    AllByRecursion (λ w. closes 32 false w ≡ true) (keys_words columns keys)
keys_words_close columns [] ok = tt
keys_words_close columns (primary ∷ keys) ok =
    let each = all_each (primary ∷ keys) (and_parts _ _ ok).1 in
    (refl, (key_closes columns primary each.0, uniques_close columns keys each.1))

-- ---- tables

names_read : (schema name : List ℕ) → IsWord schema → IsWord name →
    names_of_parts (name_word schema ∷ name_word name ∷ []) ≡ Ok (schema, name)
unfolding names_of_parts
names_read schema name p q = rw (name_printed schema p, name_printed name q) refl

names_split : (t : TableRow) → split dot (names_word t) ≡ name_word t.schema ∷ name_word t.name ∷ []
names_split t = split-joined 46 (name_word t.schema) (name_word t.name ∷ []) (closes-name 46 t.schema outside_dot)
    (closes-name 46 t.name outside_dot, tt)

pub definition_read : (t : TableRow) → IsTable t → definition_said (decimal t.id ∷ names_word t
    ∷ codes "COLUMNS" ∷ (column_lines t.columns ++ keys_words t.columns t.keys)) ≡ Ok t
unfolding definition_said
definition_read t ok =
    let id : t.id < 2 ^ 32 = ok.id in
    rw (
      number_printed 4294967295 t.id (omega arith) (omega arith),
      names_split t,
      names_read t.schema t.name ok.schema ok.name,
      columns_read t ok,
      keys_read t.columns t.keys ok.keys,
    ) refl

names_close : (t : TableRow) → closes 32 false (names_word t) ≡ true
names_close t =
    closes-joined 32 46 (name_word t.schema ∷ name_word t.name ∷ []) refl
    (closes-name 32 t.schema outside_space, (closes-name 32 t.name outside_space, tt))

pub definition_closes : (t : TableRow) → IsTable t → AllByRecursion (λ w. closes 32 false w ≡ true) (definition_words t)
definition_closes t ok =
    let id : t.id < 2 ^ 32 = ok.id in (
      refl,
      (
        closes-decimal 32 t.id refl (omega arith),
        (
          names_close t,
          (
            refl,
            each-append (λ w. closes 32 false w ≡ true) (column_lines t.columns) (keys_words t.columns t.keys)
                (each-map IsColumn (λ w. closes 32 false w ≡ true) column_line column_line_closes t.columns ok.columns)
                (keys_words_close t.columns t.keys ok.keys),
          ),
        ),
      ),
    )
