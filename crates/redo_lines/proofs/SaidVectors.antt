-- A vector that a line says has a spelling.
use Rattle.std.proofs.Common.{◌≡◌, ℕ, zero, suc, ◌<◌, ◌≤◌, ◌^◌, Bool, true, false, List, [], ◌∷◌, ◌++◌, length, Option, Some, None, Ok, Err, refl, ap, subst, inl, inr, arith}
use Rattle.std.specs.Prelude.{◌&&◌, ◌==◌, nat_lt, if◌then◌else◌, codes}
use Rattle.std.specs.List.{AllByRecursion, find}
use Rattle.std.specs.Option.{option_map}
use Rattle.std.proofs.lemmas.Bool.{and_parts, leb-true}
use Rattle.rl_value.specs.declared.value.Value.{Value}
use Rattle.rl_value.specs.declared.xid.Xid.{Xid}
use Rattle.rl_value.specs.Order.{same_bytes}
use Rattle.rl_value.specs.Outcome.{or_err}
use Rattle.rl_value.specs.Text.{are_cells}
use Rattle.redo_vec.specs.declared.change.Change.{Change}
use Rattle.redo_vec.specs.declared.change.Op.{Op}
use Rattle.redo_vec.specs.declared.change.Op.TheVariants.{Insert, Update, Delete}
use Rattle.redo_vec.specs.declared.columns.Column.{Column}
use Rattle.redo_vec.specs.declared.columns.Kind.{Kind}
use Rattle.redo_vec.specs.declared.columns.Kind.TheVariants as kinds
use Rattle.redo_vec.specs.declared.table.TableRow.{TableRow}
use Rattle.redo_vec.specs.declared.vector.Vector.{Vector}
use Rattle.redo_vec.specs.declared.vector.Vector.TheVariants as vectors
use Rattle.redo_vec.specs.Columns.{are_columns}
use Rattle.redo_vec.specs.Forms.{are_keys}
use Rattle.redo_vec.specs.Ranges.{AreBytes, IsValue, AreCells, IsXid, IsChange, IsKind, IsWord, IsColumn, IsTable, IsVector}
use Rattle.redo_spec.specs.Dictionary.{id_of}
use Rattle.line_fields.specs.declared.fault.LineFault.{LineFault}
use Rattle.line_fields.specs.declared.fault.LineFault.TheVariants as faults
use Rattle.line_fields.specs.Fields.{Said, number_said, xid_said, name_said, value_said}
use Rattle.line_fields.specs.Known.{known_after, HaveIds, table_said, table_of_parts, columns_known, column_said, is_numeral}
use Rattle.redo_lines.specs.Reading.{Line, items_until, is_new, is_key, cell_of_parts, cell_said, cells_if_rising, cells_said, cells_behind, change_of_cells, change_said, nullable_said, size_said, sized_said, kind_said, column_of_parts, column_line_said, columns_behind, key_said, keys_with, keys_behind, names_of_parts, definition_said, of, xid_alone, vector_of_xid, vector_of_words, vector_said, vector_of_line}
use Rattle.line_fields.specs.Words.{split, space, dot, colon, equals}
use Rattle.redo_lines.proofs.ListLaws.{each-append}
use Rattle.redo_lines.proofs.SaidSteps.{bind_ok, so_ok, passed, held, chosen, said, ok_is, ended, parts_bytes, items_sound}
use Rattle.redo_lines.proofs.SaidFields.{number_sound, xid_sound, value_sound, name_sound}

abbrev Worded : Line → Type 0
Worded words = AllByRecursion AreBytes words

-- ---- cells

cell_parts_sound : (columns : List Column) (parts : Line) (c : ℕ × Value) → Worded parts → cell_of_parts columns parts ≡ Ok c →
    IsValue c.1
unfolding cell_of_parts
cell_parts_sound columns [] c bytes e = absurd cc
cell_parts_sound columns (column ∷ []) c bytes e = absurd cc
cell_parts_sound columns (column ∷ value ∷ []) c bytes e =
    let a = bind_ok (column_said columns column) _ c e in
    let b = bind_ok (value_said value) _ c a.2 in
    subst (λ (x : ℕ × Value). IsValue x.1) (ok_is (a.0, b.0) c b.2) (value_sound value b.0 bytes.1.0 b.1)
cell_parts_sound columns (column ∷ value ∷ other ∷ parts) c bytes e = absurd cc

cell_sound : (columns : List Column) (word : List ℕ) (c : ℕ × Value) → AreBytes word → cell_said columns word ≡ Ok c → IsValue c.1
unfolding cell_said
cell_sound columns word c bytes e = cell_parts_sound columns (split equals word) c (parts_bytes equals word bytes) e

-- cells that are read, and the words behind them
abbrev Cells : Type 0
Cells = List (ℕ × Value) × Line

rising_sound : (cells : List (ℕ × Value)) (rest : Line) (y : Cells) → AllByRecursion (λ c. IsValue c.1) cells → Worded rest →
    cells_if_rising cells rest ≡ Ok y → AreCells y.0 × Worded y.1
rising_sound [] rest y each bytes e = absurd cc
rising_sound (c ∷ cs) rest y each bytes e =
    let s = so_ok (are_cells (c ∷ cs)) faults.Columns (c ∷ cs, rest) y e in
    subst (λ (z : Cells). AreCells z.0 × Worded z.1) (ok_is (c ∷ cs, rest) y s.1) ((s.0, each), bytes)

cells_sound : (columns : List Column) (words : Line) (y : Cells) → Worded words → cells_said columns words ≡ Ok y →
    AreCells y.0 × Worded y.1
unfolding cells_said
cells_sound columns words y bytes e =
    let a = bind_ok (items_until is_new (cell_said columns) words) _ y e in
    let t = items_sound is_new (cell_said columns) (λ c. IsValue c.1) (cell_sound columns) words a.0 bytes a.1 in
    rising_sound a.0.0 a.0.1 y t.0 t.1 a.2

no_cells : (words : Line) (y : Cells) → Worded words → said ([], words) ≡ said y → AreCells y.0 × Worded y.1
no_cells words y bytes e = subst (λ (z : Cells). AreCells z.0 × Worded z.1) (ok_is ([], words) y e) ((refl, tt), bytes)

behind_sound : (keyword : List ℕ) (columns : List Column) (words : Line) (y : Cells) → Worded words →
    cells_behind keyword columns words ≡ Ok y → AreCells y.0 × Worded y.1
unfolding cells_behind
behind_sound keyword columns [] y bytes e = no_cells [] y bytes e
behind_sound keyword columns (w ∷ ws) y bytes e =
    elim (chosen (same_bytes w keyword) (cells_said columns ws) _ (Ok y) e) [
      | inl s ↦ cells_sound columns ws y bytes.1 s.1
      | inr s ↦ no_cells (w ∷ ws) y bytes s.1
    ]

-- ---- changes

some_is : (m n : ℕ) → Some m ≡ Some n → m ≡ n
some_is m n e = cc

id_below : (t : Bool) (row : TableRow) (o : Option TableRow) (id : ℕ) → row.id < 2 ^ 32 →
    (option_map (λ u. u.id) o ≡ Some id → id < 2 ^ 32)
    → option_map (λ u. u.id) (if t then Some row else o) ≡ Some id → id < 2 ^ 32
id_below true row o id low more e = subst (λ (k : ℕ). k < 2 ^ 32) (some_is row.id id e) low
id_below false row o id low more e = more e

found_below : (test : TableRow → Bool) (tables : List TableRow) (id : ℕ) → HaveIds tables →
    option_map (λ t. t.id) (find test tables) ≡ Some id → id < 2 ^ 32
found_below test [] id ids e = absurd cc
found_below test (t ∷ tables) id ids e =
    id_below (test t) t (find test tables) id ids.0 (found_below test tables id ids.1) e

or_there : (o : Option ℕ) (fault : LineFault) (n : ℕ) → or_err o fault ≡ Ok n → o ≡ Some n
or_there None fault n e = absurd cc
or_there (Some m) fault n e = ap Some (ok_is m n e)

table_parts_sound : (tables : List TableRow) (parts : Line) (id : ℕ) → HaveIds tables → table_of_parts tables parts ≡ Ok id →
    id < 2 ^ 32
unfolding table_of_parts
table_parts_sound tables [] id ids e = absurd cc
table_parts_sound tables (schema ∷ []) id ids e = absurd cc
table_parts_sound tables (schema ∷ name ∷ []) id ids e =
    found_below (λ t. same_bytes t.schema schema && same_bytes t.name name) tables id ids
    (or_there (id_of tables schema name) faults.NoTable id e)
table_parts_sound tables (schema ∷ name ∷ other ∷ parts) id ids e = absurd cc

table_sound : (tables : List TableRow) (word : List ℕ) (id : ℕ) → HaveIds tables → table_said tables word ≡ Ok id → id < 2 ^ 32
unfolding table_said
table_sound tables word id ids e =
    elim (chosen (is_numeral word) (number_said 4294967295 word) _ (Ok id) e) [
      | inl s ↦ (let most : id ≤ 4294967295 = number_sound 4294967295 id word s.1 in omega arith)
      | inr s ↦ table_parts_sound tables (split dot word) id ids s.1
    ]

of_cells_sound : (op : Op) (xid : Xid) (table : ℕ) (columns : List Column) (words : Line) (c : Change) → IsXid xid →
    table < 2 ^ 32 → Worded words → change_of_cells op xid table columns words ≡ Ok c → IsChange c
unfolding change_of_cells
of_cells_sound op xid table columns words c x t bytes e =
    let a = bind_ok (cells_behind (codes "OLD") columns words) _ c e in
    let b = bind_ok (cells_behind (codes "NEW") columns a.0.1) _ c a.2 in
    let old = behind_sound (codes "OLD") columns words a.0 bytes a.1 in
    let new = behind_sound (codes "NEW") columns a.0.1 b.0 old.1 b.1 in
    subst IsChange (ended b.0.1 (record { xid = xid; op = op; table = table; old = a.0.0; new = b.0.0 }) c b.2)
    (record { xid = x; table = t; old = old.0; new = new.0 })

change_sound : (tables : List TableRow) (op : Op) (words : Line) (c : Change) → HaveIds tables → Worded words →
    change_said tables op words ≡ Ok c → IsChange c
unfolding change_said
change_sound tables op [] c ids bytes e = absurd cc
change_sound tables op (xid ∷ []) c ids bytes e = absurd cc
change_sound tables op (xid ∷ table ∷ words) c ids bytes e =
    let a = bind_ok (xid_said xid) _ c e in
    let b = bind_ok (table_said tables table) _ c a.2 in
    of_cells_sound op a.0 b.0 (columns_known tables b.0) words c (xid_sound xid a.0 a.1)
    (table_sound tables table b.0 ids b.1) bytes.1.1 b.2

-- ---- tables

nonzero : (n : ℕ) → (n == 0) ≡ false → 1 ≤ n
nonzero zero e = absurd cc
nonzero (suc n) e = omega arith

size_sound : (word : List ℕ) (size : ℕ) → size_said word ≡ Ok size → (1 ≤ size) × (size ≤ 500)
unfolding size_said
size_sound word size e =
    let a = bind_ok (number_said 500 word) _ size e in
    let g = passed (a.0 == 0) faults.Number (Ok a.0) size a.2 in
    subst (λ (k : ℕ). (1 ≤ k) × (k ≤ 500)) (ok_is a.0 size g.1) (nonzero a.0 g.0, number_sound 500 a.0 word a.1)

sized_sound : (parts : Line) (y : ℕ × Bool) → sized_said parts ≡ Ok y → (1 ≤ y.0) × (y.0 ≤ 500)
unfolding sized_said
sized_sound [] y e = absurd cc
sized_sound (word ∷ parts) y e =
    let a = bind_ok (size_said word) _ y e in
    let b = bind_ok (nullable_said parts) _ y a.2 in
    subst (λ (z : ℕ × Bool). (1 ≤ z.0) × (z.0 ≤ 500)) (ok_is (a.0, b.0) y b.2) (size_sound word a.0 a.1)

kind_sound : (word : List ℕ) (parts : Line) (y : Kind × Bool) → kind_said word parts ≡ Ok y → IsKind y.0
unfolding kind_said
kind_sound word parts y e =
    elim (chosen (same_bytes word (codes "NUMBER")) _ _ (Ok y) e) [
      | inl s ↦
          let a = bind_ok (nullable_said parts) _ y s.1 in
          subst (λ (z : Kind × Bool). IsKind z.0) (ok_is (kinds.Number, a.0) y a.2) tt
      | inr s ↦ elim (chosen (same_bytes word (codes "TEXT")) _ _ (Ok y) s.1) [
        | inl t ↦
            let a = bind_ok (sized_said parts) _ y t.1 in
            subst (λ (z : Kind × Bool). IsKind z.0) (ok_is (kinds.Text a.0.0, a.0.1) y a.2) (sized_sound parts a.0 a.1)
        | inr t ↦
            let u = held (same_bytes word (codes "RAW")) faults.Words _ y t.1 in
            let a = bind_ok (sized_said parts) _ y u.1 in
            subst (λ (z : Kind × Bool). IsKind z.0) (ok_is (kinds.Raw a.0.0, a.0.1) y a.2) (sized_sound parts a.0 a.1)
      ]
    ]

column_parts_sound : (parts : Line) (c : Column) → Worded parts → column_of_parts parts ≡ Ok c → IsColumn c
unfolding column_of_parts
column_parts_sound [] c bytes e = absurd cc
column_parts_sound (name ∷ []) c bytes e = absurd cc
column_parts_sound (name ∷ kind ∷ parts) c bytes e =
    let a = bind_ok (name_said name) _ c e in
    let b = bind_ok (kind_said kind parts) _ c a.2 in
    subst IsColumn (ok_is (record { name = a.0; kind = b.0.0; nullable = b.0.1 }) c b.2)
    (record { name = name_sound name a.0 bytes.0 a.1; kind = kind_sound kind parts b.0 b.1 })

column_sound : (word : List ℕ) (c : Column) → AreBytes word → column_line_said word ≡ Ok c → IsColumn c
unfolding column_line_said
column_sound word c bytes e = column_parts_sound (split colon word) c (parts_bytes colon word bytes) e

-- columns that are read, and their form
record AreColumns (columns : List Column) : Type 0 where
  some : 1 ≤ length columns
  most : length columns ≤ 32
  each : AllByRecursion IsColumn columns

columns_sound : (words : Line) (y : List Column × Line) → Worded words → columns_behind words ≡ Ok y → AreColumns y.0
unfolding columns_behind
columns_sound [] y bytes e = absurd cc
columns_sound (w ∷ ws) y bytes e =
    let h = held (same_bytes w (codes "COLUMNS")) faults.Words _ y e in
    let a = bind_ok (items_until is_key column_line_said ws) _ y h.1 in
    let t = items_sound is_key column_line_said IsColumn column_sound ws a.0 bytes.1 a.1 in
    let s = so_ok (are_columns a.0.0) faults.Columns a.0 y a.2 in
    let p = and_parts _ _ s.0 in
    let q = and_parts _ _ p.0 in
    subst (λ (z : List Column × Line). AreColumns z.0) (ok_is a.0 y s.1)
    (record { some = leb-true _ _ q.0; most = leb-true _ _ q.1; each = t.0 })

keys_sound : (columns : List Column) (words : Line) (keys : List (List ℕ)) → keys_behind columns words ≡ Ok keys →
    are_keys keys ≡ true
unfolding keys_behind
keys_sound columns [] keys e = absurd cc
keys_sound columns (w ∷ []) keys e = absurd cc
keys_sound columns (w ∷ primary ∷ words) keys e =
    let h = held (is_key w) faults.Words _ keys e in
    let a = bind_ok (key_said columns primary) _ keys h.1 in
    let b = bind_ok (keys_with a.0 columns words) _ keys a.2 in
    let s = so_ok (are_keys b.0) faults.Columns b.0 keys b.2 in
    subst (λ (k : List (List ℕ)). are_keys k ≡ true) (ok_is b.0 keys s.1) s.0

names_sound : (parts : Line) (y : List ℕ × List ℕ) → Worded parts → names_of_parts parts ≡ Ok y → IsWord y.0 × IsWord y.1
unfolding names_of_parts
names_sound [] y bytes e = absurd cc
names_sound (schema ∷ []) y bytes e = absurd cc
names_sound (schema ∷ name ∷ []) y bytes e =
    let a = bind_ok (name_said schema) _ y e in
    let b = bind_ok (name_said name) _ y a.2 in
    subst (λ (z : List ℕ × List ℕ). IsWord z.0 × IsWord z.1) (ok_is (a.0, b.0) y b.2)
    (name_sound schema a.0 bytes.0 a.1, name_sound name b.0 bytes.1.0 b.1)
names_sound (schema ∷ name ∷ other ∷ parts) y bytes e = absurd cc

definition_sound : (words : Line) (t : TableRow) → Worded words → definition_said words ≡ Ok t → IsTable t
unfolding definition_said
definition_sound [] t bytes e = absurd cc
definition_sound (id ∷ []) t bytes e = absurd cc
definition_sound (id ∷ names ∷ words) t bytes e =
    let a = bind_ok (number_said 4294967295 id) _ t e in
    let b = bind_ok (names_of_parts (split dot names)) _ t a.2 in
    let c = bind_ok (columns_behind words) _ t b.2 in
    let d = bind_ok (keys_behind c.0.0 c.0.1) _ t c.2 in
    let low : a.0 ≤ 4294967295 = number_sound 4294967295 a.0 id a.1 in
    let n = names_sound (split dot names) b.0 (parts_bytes dot names bytes.1.0) b.1 in
    let f = columns_sound words c.0 bytes.1.1 c.1 in
    let made : TableRow = record { id = a.0; schema = b.0.0; name = b.0.1; columns = c.0.0; keys = d.0 } in
    subst IsTable {x = made} (ok_is made t d.2) (record {
      id = omega arith;
      schema = n.0;
      name = n.1;
      some = f.some;
      most = f.most;
      columns = f.each;
      keys = keys_sound c.0.0 c.0.1 d.0 d.1;
    })

-- ---- vectors

of_ok : {A : Type 0} (make : A → Vector) (r : Said A) (v : Vector) → of make r ≡ Ok v → (x : A) × (r ≡ Ok x) × (make x ≡ v)
of_ok make (Ok x) v e = (x, refl, ok_is (make x) v e)
of_ok make (Err f) v e = absurd cc

alone_sound : (words : Line) (x : Xid) → xid_alone words ≡ Ok x → IsXid x
unfolding xid_alone
alone_sound [] x e = absurd cc
alone_sound (word ∷ words) x e =
    let a = bind_ok (xid_said word) _ x e in
    subst IsXid (ended words a.0 x a.2) (xid_sound word a.0 a.1)

of_xid_sound : (make : Xid → Vector) (words : Line) (v : Vector) → ((x : Xid) → IsXid x → IsVector (make x)) →
    vector_of_xid make words ≡ Ok v → IsVector v
of_xid_sound make words v each e =
    let a = of_ok make (xid_alone words) v e in
    subst IsVector a.2 (each a.0 (alone_sound words a.0 a.1))

of_change_sound : (tables : List TableRow) (op : Op) (words : Line) (v : Vector) → HaveIds tables → Worded words →
    of vectors.Change (change_said tables op words) ≡ Ok v → IsVector v
of_change_sound tables op words v ids bytes e =
    let a = of_ok vectors.Change (change_said tables op words) v e in
    subst IsVector a.2 (change_sound tables op words a.0 ids bytes a.1)

of_table_sound : (words : Line) (v : Vector) → Worded words → of vectors.Table (definition_said words) ≡ Ok v → IsVector v
of_table_sound words v bytes e =
    let a = of_ok vectors.Table (definition_said words) v e in
    subst IsVector a.2 (definition_sound words a.0 bytes a.1)

vector_sound : (tables : List TableRow) (keyword : List ℕ) (words : Line) (v : Vector) → HaveIds tables → Worded words →
    vector_of_words tables keyword words ≡ Ok v → IsVector v
unfolding vector_of_words
vector_sound tables keyword words v ids bytes e =
    elim (chosen (same_bytes keyword (codes "START")) _ _ (Ok v) e) [
      | inl a ↦ of_xid_sound vectors.Start words v (λ x h. h) a.1
      | inr a ↦ elim (chosen (same_bytes keyword (codes "INSERT")) _ _ (Ok v) a.1) [
        | inl b ↦ of_change_sound tables Insert words v ids bytes b.1
        | inr b ↦ elim (chosen (same_bytes keyword (codes "UPDATE")) _ _ (Ok v) b.1) [
          | inl c ↦ of_change_sound tables Update words v ids bytes c.1
          | inr c ↦ elim (chosen (same_bytes keyword (codes "DELETE")) _ _ (Ok v) c.1) [
            | inl d ↦ of_change_sound tables Delete words v ids bytes d.1
            | inr d ↦ elim (chosen (same_bytes keyword (codes "UNDO")) _ _ (Ok v) d.1) [
              | inl f ↦ of_xid_sound vectors.Undo words v (λ x h. h) f.1
              | inr f ↦ elim (chosen (same_bytes keyword (codes "COMMIT")) _ _ (Ok v) f.1) [
                | inl g ↦ of_xid_sound vectors.Commit words v (λ x h. h) g.1
                | inr g ↦ elim (chosen (same_bytes keyword (codes "ROLLBACK")) _ _ (Ok v) g.1) [
                  | inl h ↦ of_xid_sound vectors.Rollback words v (λ x k. k) h.1
                  | inr h ↦ elim (chosen (same_bytes keyword (codes "TABLE")) _ _ (Ok v) h.1) [
                    | inl i ↦ of_table_sound words v bytes i.1
                    | inr i ↦
                        let j = held (same_bytes keyword (codes "DICTEND")) faults.Words _ v i.1 in
                        subst IsVector (ended words vectors.DictEnd v j.1) tt
                  ]
                ]
              ]
            ]
          ]
        ]
      ]
    ]

said_sound : (tables : List TableRow) (words : Line) (v : Vector) → HaveIds tables → Worded words →
    vector_said tables words ≡ Ok v → IsVector v
unfolding vector_said
said_sound tables [] v ids bytes e = absurd cc
said_sound tables (keyword ∷ words) v ids bytes e = vector_sound tables keyword words v ids bytes.1 e

pub line_sound : (tables : List TableRow) (line : List ℕ) (v : Vector) → HaveIds tables → AreBytes line →
    vector_of_line tables line ≡ Ok v → IsVector v
line_sound tables line v ids bytes e = said_sound tables (split space line) v ids (parts_bytes space line bytes) e

-- ---- tables that are known

kept_ids : (t : Bool) (tables : List TableRow) (row : TableRow) → HaveIds tables → row.id < 2 ^ 32 →
    HaveIds (if t then tables ++ row ∷ [] else tables)
kept_ids true tables row ids low = each-append (λ t. t.id < 2 ^ 32) tables (row ∷ []) ids (low, tt)
kept_ids false tables row ids low = ids

pub known_ids : (tables : List TableRow) (v : Vector) → HaveIds tables → IsVector v → HaveIds (known_after tables v)
known_ids tables (vectors.Start x) ids ok = ids
known_ids tables (vectors.Change c) ids ok = ids
known_ids tables (vectors.Undo x) ids ok = ids
known_ids tables (vectors.Commit x) ids ok = ids
known_ids tables (vectors.Rollback x) ids ok = ids
known_ids tables (vectors.Table t) ids ok = kept_ids (nat_lt (length tables) 256) tables t ids ok.id
known_ids tables vectors.DictEnd ids ok = ids
