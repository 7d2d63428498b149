use Rattle.std.proofs.Common.{◌∷◌, [], ◌++◌, ap, sym, ◌∙◌}
use Rattle.redo_spec.specs.Lines.{end_line}
use Rattle.standby.proofs.Appending.{appended_on_ok}
use Rattle.standby.proofs.Lines.{end-line}
use Rattle.standby.proofs.printing.push_end.Goals as goal

pub returns : goal.returns
returns c =
    let f = c.args.folded.now in
    let old = c.args.out.now.items in
    appended_on_ok c.push_bytes.result old c.push_end_words.new.out.items c.push_bytes.new.out.items
    (end_line f.dict.tables f.scn f.n f.end) (10 ∷ [])
    (c.in_ok-push_end_words.ensures ∙ ap (λ words. old ++ words) (sym (end-line f.dict.tables f.scn f.n f.end)))
    c.push_bytes.ensures
