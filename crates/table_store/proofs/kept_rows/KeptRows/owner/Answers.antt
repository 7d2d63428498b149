use Rattle.std.proofs.Common.{◌≡◌, ◌∙◌, ◌-◌, List, ℕ, subst, get_or}
use Rattle.redo_spec.specs.Dictionary.{uniques_of}
use Rattle.redo_spec.specs.Tables.{Rows}
use Rattle.table_store.proofs.Owning.{owner_is_answered}
use Rattle.table_store.proofs.kept_rows.KeptRows.owner.Goals as goal

pub returns : goal.returns
returns c =
    let t = c.args.table.now in
    let at = c.args.number - 1 in
    let columns = c.index-unique_keys-number.result in
    let index = c.index-as_slice-number.result in
    let key : columns ≡ get_or (uniques_of t) at columns =
    subst (λ (ks : List (List ℕ)). columns ≡ get_or ks at columns) c.unique_keys.ensures.same c.index-unique_keys-number.is in
    let there : index ≡ get_or c.args.self.now.uniques.items at index =
    subst (λ (is : List Rows). index ≡ get_or is at index) c.as_slice.ensures.value c.index-as_slice-number.is in
    record {
      owner = λ sound. c.owner_by.ensures.exact ∙
          owner_is_answered t c.args.self.now.rows c.args.self.now.uniques.items c.args.number columns index c.args.values.now
          c.requires.unique c.requires.inside c.requires.filled c.requires.led key there sound;
    }
