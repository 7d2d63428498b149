use Rattle.std.proofs.Common.{◌≡◌, ◌∙◌, ◌<◌, sym, subst, ap, List, ℕ, [], length, true, false, slice_get, unwrap_or}
use Rattle.std.specs.FinMap.Entries.{find}
use Rattle.std.specs.Option.{option_copied}
use Rattle.std.specs.Ordering.{eq_by_cmp}
use Rattle.rl_value.specs.Order.{row_cmp}
use Rattle.redo_spec.specs.Tables.{rows_by, values_at}
use Rattle.row_apply.specs.Found.{key_columns}
use Rattle.plain_store.specs.Beneath.{Beneath}
use Rattle.plain_store.specs.Unique.{LeadsToRows}
use Rattle.plain_store.proofs.UniqueLaws.{leads_nowhere, leads_to_none, leads_to_other, leads_to_owner, table_id, keyed, indexed_beneath}
use Rattle.plain_store.proofs.based.Based.owner_in.Goals as goal

pub returns-in_default : goal.returns-in_default
returns-in_default c =
    let b = c.args.self.now in
    let t = c.args.table.now in
    let q = c.args.key.now in
    let below : Beneath = record { dictionary = c.self.inside.dict.now; rows = c.self.inside.tables.now } in
    let indexed : LeadsToRows t (rows_by b.rows q.table) c.self.inside.index.now =
    indexed_beneath below b c.self.inside.index.now t q.table c.self.view_is c.self.invariant c.requires.there in
    let of : q.table ≡ t.id = sym (table_id b.dictionary.tables q.table t c.requires.there) in
    record {
      owner = λ sound. sym (leads_nowhere t (rows_by b.rows q.table) c.self.inside.index.now q sound indexed of c.requires.unique
          c.requires.inside c.requires.filled
          (sym c.lead.ensures.found ∙ ap option_copied c.in_default.is));
    }

pub returns-in_default-get : goal.returns-in_default-get
returns-in_default-get c =
    let b = c.args.self.now in
    let t = c.args.table.now in
    let q = c.args.key.now in
    let below : Beneath = record { dictionary = c.self.inside.dict.now; rows = c.self.inside.tables.now } in
    let indexed : LeadsToRows t (rows_by b.rows q.table) c.self.inside.index.now =
    indexed_beneath below b c.self.inside.index.now t q.table c.self.view_is c.self.invariant c.requires.there in
    let of : q.table ≡ t.id = sym (table_id b.dictionary.tables q.table t c.requires.there) in
    record {
      owner = λ sound. sym (leads_to_none t (rows_by b.rows q.table) c.self.inside.index.now q c.in-Some.primary.now sound indexed
          of c.requires.unique c.requires.inside c.requires.filled
          (sym c.lead.ensures.found ∙ ap option_copied c.in-Some.is)
          (ap (λ (v : Beneath). find row_cmp c.in-Some.primary.now (rows_by v.rows q.table)) (sym c.self.view_is) ∙
          sym c.get.ensures.found ∙ ap option_copied c.in_default-get.is));
    }

pub returns-then-has_values : goal.returns-then-has_values
returns-then-has_values c =
    let b = c.args.self.now in
    let t = c.args.table.now in
    let q = c.args.key.now in
    let row = c.in-Some-get.row.now in
    let inside : q.index < length c.items.result.now = subst (λ (ks : List (List ℕ)). q.index < length ks)
    (sym c.items.ensures.same) c.requires.inside in
    let columns : c.items-2.result.now ≡ key_columns t q.index =
    c.items-2.ensures.same ∙ sym (keyed c.items.result.now q.index c.index-items-key.result inside c.index-items-key.is) ∙
    ap (λ (ks : List (List ℕ)). unwrap_or (slice_get ks q.index) []) c.items.ensures.same in
    let has : eq_by_cmp row_cmp (values_at row (key_columns t q.index)) q.values ≡ true =
    (λ i. eq_by_cmp row_cmp (values_at row (sym columns i)) (sym c.values.ensures.same i)) ∙ sym c.has_values.ensures.exact ∙
    c.if-has_values.true in
    record {
      owner = λ sound. sym (leads_to_owner t (rows_by b.rows q.table) q c.in-Some.primary.now row sound c.requires.unique
          c.requires.inside c.requires.filled
          (ap (λ (v : Beneath). find row_cmp c.in-Some.primary.now (rows_by v.rows q.table)) (sym c.self.view_is) ∙
          sym c.get.ensures.found ∙ ap option_copied c.in-Some-get.is) has);
    }

pub returns : goal.returns
returns c =
    let b = c.args.self.now in
    let t = c.args.table.now in
    let q = c.args.key.now in
    let row = c.in-Some-get.row.now in
    let below : Beneath = record { dictionary = c.self.inside.dict.now; rows = c.self.inside.tables.now } in
    let indexed : LeadsToRows t (rows_by b.rows q.table) c.self.inside.index.now =
    indexed_beneath below b c.self.inside.index.now t q.table c.self.view_is c.self.invariant c.requires.there in
    let of : q.table ≡ t.id = sym (table_id b.dictionary.tables q.table t c.requires.there) in
    let inside : q.index < length c.items.result.now = subst (λ (ks : List (List ℕ)). q.index < length ks)
    (sym c.items.ensures.same) c.requires.inside in
    let columns : c.items-2.result.now ≡ key_columns t q.index =
    c.items-2.ensures.same ∙ sym (keyed c.items.result.now q.index c.index-items-key.result inside c.index-items-key.is) ∙
    ap (λ (ks : List (List ℕ)). unwrap_or (slice_get ks q.index) []) c.items.ensures.same in
    let differs : eq_by_cmp row_cmp (values_at row (key_columns t q.index)) q.values ≡ false =
    (λ i. eq_by_cmp row_cmp (values_at row (sym columns i)) (sym c.values.ensures.same i)) ∙ sym c.has_values.ensures.exact ∙
    c.if-has_values.false in
    record {
      owner = λ sound. sym (leads_to_other t (rows_by b.rows q.table) c.self.inside.index.now q c.in-Some.primary.now row sound
          indexed of c.requires.unique c.requires.inside c.requires.filled
          (sym c.lead.ensures.found ∙ ap option_copied c.in-Some.is)
          (ap (λ (v : Beneath). find row_cmp c.in-Some.primary.now (rows_by v.rows q.table)) (sym c.self.view_is) ∙
          sym c.get.ensures.found ∙ ap option_copied c.in-Some-get.is) differs);
    }
