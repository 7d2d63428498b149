use Rattle.std.proofs.Common.{ap, sym, ◌∙◌}
use Rattle.std.specs.FinMap.Entries as entries
use Rattle.std.specs.List.{flat_map}
use Rattle.rl_value.specs.Order.{row_cmp}
use Rattle.row_tree.proofs.Placing.{find_at}
use Rattle.row_tree.proofs.level.Level.get.Goals as goal

pub returns : goal.returns
returns g c =
    let f = g.K.Part.entries in
    let found = find_at f c.args.key.now c.as_slice-children.result.now c.seek-at.result c.index-children-at.result
    c.seek-at.ensures.inside c.index-children-at.is c.seek-at.ensures.place in
    record {
      found = c.get.ensures.found ∙ sym found ∙
          ap (λ ks. entries.find row_cmp c.args.key.now (flat_map f ks)) c.as_slice-children.ensures.value;
    }
