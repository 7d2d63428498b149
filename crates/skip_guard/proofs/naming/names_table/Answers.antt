use Rattle.std.proofs.Common.{◌∙◌, ap, map, ◌&&◌, nat_le}
use Rattle.std.specs.List.{list_any}
use Rattle.skip_guard.specs.Rules.{skip_of, names_text}
use Rattle.skip_guard.proofs.EntryLaws.{any_named, not_twice}
use Rattle.skip_guard.proofs.naming.names_table.Goals as goal

pub returns : goal.returns
returns c =
    let skips = map skip_of c.args.entries.now in
    c.names_full.ensures
    ∙ ap (λ name. list_any (λ s. nat_le s.from c.args.at && names_text s.rule name) skips) (c.bytes.ensures ∙ c.of-full.ensures)
    ∙ any_named c.args.at c.args.table.now skips
    ∙ not_twice _
