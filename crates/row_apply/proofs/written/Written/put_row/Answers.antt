use Rattle.std.proofs.Common.{◌≡◌, ℕ, List, Some, sym, ◌∙◌, subst, ap}
use Rattle.row_apply.specs.Kept.{Slots, Indexed, AreSlots, Puts, IndexedOnly, index_by, indexed_at}
use Rattle.redo_spec.specs.Dictionary.{uniques_of}
use Rattle.row_apply.proofs.Indexes.{index_put}
use Rattle.row_apply.proofs.written.Written.put_row.Goals as goal

pub returns-clause-kept : goal.returns-clause-kept
returns-clause-kept c =
    let t = c.args.table.now in
    let key = c.args.key in
    let row = c.args.row in
    let puts = subst (λ (old : Slots). Puts old c.put.new.self.rows.entries c.args.gone key row) c.unmark-keys.ensures.slots
    c.in_ok-put.ensures.put in
    record {
      slots = subst AreSlots (sym c.mark_again.ensures.slots) c.put.ensures.slots;
      index = index_put t c.args.self.now.rows.entries c.mark_again.new.self.rows.entries c.args.self.now.owners.entries
          c.mark_again.new.self.owners.entries c.args.self.now.indexed.entries
          c.unmark-keys.new.self.indexed.entries c.mark_again.new.self.indexed.entries c.args.gone key row c.requires.kept.index
          c.requires.key c.requires.gone c.requires.free
          (subst (λ (new : Slots). Puts c.args.self.now.rows.entries new c.args.gone key row)
          (sym c.mark_again.ensures.slots) puts)
          (c.mark_again.ensures.owners ∙ c.put.ensures.owners ∙ c.in_ok-index_row.ensures.indexed ∙
          ap (λ os. index_by t.id row key 1 (uniques_of t) os) c.unmark-keys.ensures.owners)
          c.unmark-keys.ensures.others
          (subst (λ (was : Indexed). IndexedOnly t.id was c.mark_again.new.self.indexed.entries) c.put.ensures.indexed
          c.mark_again.ensures.others)
          (λ found e.
          let at : indexed_at c.args.self.now.indexed.entries t.id ≡ Some found =
          sym c.unmark-keys.ensures.was ∙ c.mark_again.ensures.only found e in
          let is : found ≡ t.keys = c.requires.marked found at in
          (is, at ∙ ap (λ (keys : List (List ℕ)). Some keys) is));
    }
