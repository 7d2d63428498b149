-- Laws of a standby that is created: the items of its one commit, one after the other, are those of its state.
use Rattle.std.proofs.Common.{◌≡◌, List, [], ◌∷◌, ◌++◌, map, true, refl, sym, ap, ◌∙◌}
use Rattle.std.specs.List.{flat_map}
use Rattle.rl_ports.specs.declared.batch.Item.{Item}
use Rattle.rl_ports.specs.Store.{is_key, key_of, have_keys}
use Rattle.redo_vec.specs.declared.table.TableRow.{TableRow}
use Rattle.redo_spec.specs.Tables.{empty_tables, definitions_of}
use Rattle.log_registry.specs.declared.entry.LogEntry.{LogEntry}
use Rattle.standby_spec.specs.Layout.{log_item, table_item, row_items, applied_item}
use Rattle.standby_spec.specs.Writings.{created_items}
use Rattle.kept_layout.specs.declared.identity.Identity.{Identity}
use Rattle.kept_layout.specs.Pairs.{identity_item}
use Rattle.publisher.specs.Parts.{first_identity}
use Rattle.publisher.proofs.Ready.{all-append}

-- tables without rows are defined as they were, and have no items of rows
empty-defined : (rows : List TableRow) → definitions_of (empty_tables rows) ≡ rows
empty-defined [] = refl
empty-defined (t ∷ ts) = ap (λ us. t ∷ us) (empty-defined ts)

no-rows : (rows : List TableRow) → flat_map row_items (empty_tables rows) ≡ []
no-rows [] = refl
no-rows (t ∷ ts) = no-rows ts

-- the items that are put one after the other
abbrev pub first_items : LogEntry → List TableRow → List Item
first_items e rows =
    (identity_item (first_identity e) ∷ log_item e ∷ [])
    ++ (map table_item rows ++ applied_item 0 (first_identity e).base ∷ [])

pub created-are : (e : LogEntry) (rows : List TableRow) → first_items e rows ≡ created_items e rows
created-are e rows =
    sym (ap (λ ts. identity_item (first_identity e) ∷ log_item e ∷ (map table_item ts
    ++ (flat_map row_items (empty_tables rows) ++ (applied_item 0 (first_identity e).base ∷ [])))) (empty-defined rows)
    ∙ ap (λ items. identity_item (first_identity e) ∷ log_item e ∷ (map table_item rows
    ++ (items ++ (applied_item 0 (first_identity e).base ∷ [])))) (no-rows rows))

-- a batch of them puts the state
pub created-batch : (batch : List Item) (k : Identity) (e : LogEntry) (given rows : List TableRow) → k ≡ first_identity e →
    given ≡ rows →
    batch ≡ (identity_item k ∷ log_item e ∷ []) ++ (map table_item given ++ applied_item 0 k.base ∷ []) →
    batch ≡ created_items e rows
created-batch batch k e given rows is same items =
    items
    ∙ (λ i. (identity_item (is i) ∷ log_item e ∷ []) ++ (map table_item (same i) ++ applied_item 0 (is i).base ∷ []))
    ∙ created-are e rows

tables-key : (rows : List TableRow) → have_keys (map table_item rows) ≡ true
tables-key [] = refl
tables-key (t ∷ ts) = tables-key ts

pub created-key : (e : LogEntry) (rows : List TableRow) → have_keys (created_items e rows) ≡ true
created-key e rows =
    sym (ap have_keys (created-are e rows))
    ∙ all-append (λ i. is_key (key_of i)) (map table_item rows) (applied_item 0 (first_identity e).base ∷ [])
    (tables-key rows) refl
