use Rattle.std.proofs.Common.{ap, ◌∙◌}
use Rattle.std.specs.List.{list_any}
use Rattle.redo_spec.specs.Dictionary.{has_bad_keys}
use Rattle.redo_dict.proofs.Keys.{found_has_none}
use Rattle.redo_dict.proofs.dict.Dict.def.Goals as goal

pub returns-clause-keys : goal.returns-clause-keys
returns-clause-keys c = found_has_none c.as_slice.result.now c.args.id c.table_at.result
    (ap (list_any has_bad_keys) c.as_slice.ensures.value ∙ c.self.invariant.1) c.table_at.ensures
