use Rattle.std.proofs.Common.{◌≡◌, false, true, ap, subst, sym, ◌∙◌}
use Rattle.row_apply.specs.Kept.{Owners, AreSlots, owner_at, index_all, leads_all}
use Rattle.row_apply.proofs.Indexes.{index_marked, led_single}
use Rattle.row_apply.proofs.written.Written.index_table.Goals as goal

pub returns-then-not-branch-clause-indexed : goal.returns-then-not-branch-clause-indexed
returns-then-not-branch-clause-indexed c one =
    let t = c.args.table.now in
    let owners = c.unmark.new.self.owners.entries in
    let all : leads_all t c.index_rows.new.owners.entries c.unmark.new.self.rows.entries ≡ true =
    (λ i. leads_all t ((c.in_ok-index_rows.ensures.indexed ∙ (λ j. index_all t (c.unmark.ensures.slots j) owners)) i)
    (c.unmark.ensures.slots i))
    ∙ led_single t c.args.self.now.rows.entries owners c.requires.kept.slots one in
    let not_all : leads_all t c.index_rows.new.owners.entries c.unmark.new.self.rows.entries ≡ false =
    sym c.in_ok-rows_lead.ensures ∙ c.if-not-branch.true in
    absurd (cc)

pub returns-clause-kept : goal.returns-clause-kept
returns-clause-kept c =
    let t = c.args.table.now in
    let slots = c.mark.ensures.slots ∙ c.unmark.ensures.slots in
    record {
      slots = subst AreSlots (sym slots) c.requires.kept.slots;
      index = index_marked t c.args.self.now.rows.entries c.mark.new.self.rows.entries c.args.self.now.owners.entries
          c.mark.new.self.owners.entries
          c.args.self.now.indexed.entries c.unmark.new.self.indexed.entries c.mark.new.self.indexed.entries c.requires.kept.index
          ((λ i. leads_all t (c.mark.ensures.owners i) (sym c.unmark.ensures.slots i)) ∙ sym c.in_ok-rows_lead.ensures ∙
          c.if-not-branch.false) slots
          (λ q other. ap (λ (os : Owners). owner_at os q) c.mark.ensures.owners ∙ c.in_ok-index_rows.ensures.others q other ∙
          ap (λ (os : Owners). owner_at os q) c.unmark.ensures.owners)
          c.unmark.ensures.others c.mark.ensures.others (λ keys e. c.mark.ensures.only keys e ∙ c.in_ok-keys.ensures.equal);
    }
