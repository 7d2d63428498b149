use Rattle.std.proofs.Common.{◌++◌, sym, ap, ◌∙◌, OnOk, Ok, Err, Result}
use Rattle.std.proofs.lemmas.List.{append-nil}
use Rattle.redo_spec.specs.ConflictKeys.{cell_of, keys_given, after_op}
use Rattle.redo_law.proofs.conflicts.add_keys_after.Goals as goal

turned : {A E : Type 0} (r : Result A E) {P Q : Type 0} → (P → Q) → OnOk r P → OnOk r Q
turned (Ok x) f p = f p
turned (Err x) f p = tt

pub returns-in-Insert : goal.returns-in-Insert
returns-in-Insert c = turned c.add_keys.result (λ p.
    p ∙ ap (λ cells. c.args.keys.now.items ++ keys_given c.args.table.now (cell_of cells))
    (append-nil c.cells-new.result.now ∙ c.cells-new.ensures.same ∙
    sym (ap (λ op. after_op op c.args.change.now.old c.args.change.now.new) c.in-Insert.is))) c.add_keys.ensures

pub returns-in-Update : goal.returns-in-Update
returns-in-Update c = turned c.add_keys-in-Update.result (λ p.
    p ∙ ap (λ cells. c.args.keys.now.items ++ keys_given c.args.table.now (cell_of cells))
    (ap (λ new. new ++ c.cells-old.result.now) c.cells-new.ensures.same ∙
    ap (λ old. c.args.change.now.new ++ old) c.cells-old.ensures.same ∙
    sym (ap (λ op. after_op op c.args.change.now.old c.args.change.now.new) c.in-Update.is))) c.add_keys-in-Update.ensures

pub returns-in-Delete : goal.returns-in-Delete
returns-in-Delete c = turned c.add_keys-in-Delete.result (λ p.
    p ∙ ap (λ cells. c.args.keys.now.items ++ keys_given c.args.table.now (cell_of cells))
    (sym (ap (λ op. after_op op c.args.change.now.old c.args.change.now.new) c.in-Delete.is))) c.add_keys-in-Delete.ensures
