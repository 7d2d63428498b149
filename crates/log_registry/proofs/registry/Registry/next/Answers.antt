use Rattle.std.proofs.Common.{◌^◌, ◌≡◌, [], ◌∙◌, ap, sym, subst}
use Rattle.std.specs.Map.{values_of}
use Rattle.log_registry.specs.Registered.{AreBelow, IsRising, entries_from, next_in}
use Rattle.log_registry.proofs.ListLaws.{fits_all, rises, first_from, none_from, is_log, is_gap}
use Rattle.log_registry.proofs.registry.Registry.next.Goals as goal

pub returns-in-None-clause-rising : goal.returns-in-None-clause-rising
returns-in-None-clause-rising c = subst IsRising c.self.view_is
    (rises c.self.inside.logs.entries c.self.invariant c.range-later.ensures.ordered)

pub returns-then-found-seq-clause-rising : goal.returns-then-found-seq-clause-rising
returns-then-found-seq-clause-rising c = subst IsRising c.self.view_is
    (rises c.self.inside.logs.entries c.self.invariant c.range-later.ensures.ordered)

pub returns-else-found-seq-clause-rising : goal.returns-else-found-seq-clause-rising
returns-else-found-seq-clause-rising c = subst IsRising c.self.view_is
    (rises c.self.inside.logs.entries c.self.invariant c.range-later.ensures.ordered)

pub returns-in-None-clause-exact : goal.returns-in-None-clause-exact
returns-in-None-clause-exact c =
    let ps = c.self.inside.logs.entries in
    let none : entries_from c.args.seq (values_of ps) ≡ [] =
    none_from c.args.seq ps c.self.invariant c.range-later.ensures.ordered
    (sym (c.range-later.ensures.between tt) ∙ c.in-None.ensures.steps.0) in
    sym (ap (next_in c.args.seq) (ap (entries_from c.args.seq) (sym c.self.view_is) ∙ none))

pub returns-then-found-seq-clause-exact : goal.returns-then-found-seq-clause-exact
returns-then-found-seq-clause-exact c =
    let ps = c.self.inside.logs.entries in
    let first = first_from c.args.seq c.in-Some.found.now c.in-Some.entry.now c.next.new.self ps c.self.invariant
    c.range-later.ensures.ordered (sym (c.range-later.ensures.between tt) ∙ c.in-Some.ensures.steps) in
    is_log c.args.seq c.in-Some.found.now c.in-Some.entry.now (values_of c.next.new.self) (entries_from c.args.seq (values_of ps))
    c.if-found-seq.true first
    ∙ ap (λ es. next_in c.args.seq (entries_from c.args.seq es)) c.self.view_is

pub returns-else-found-seq-clause-exact : goal.returns-else-found-seq-clause-exact
returns-else-found-seq-clause-exact c =
    let ps = c.self.inside.logs.entries in
    let first = first_from c.args.seq c.in-Some.found.now c.in-Some.entry.now c.next.new.self ps c.self.invariant
    c.range-later.ensures.ordered (sym (c.range-later.ensures.between tt) ∙ c.in-Some.ensures.steps) in
    is_gap c.args.seq c.in-Some.found.now c.in-Some.entry.now (values_of c.next.new.self) (entries_from c.args.seq (values_of ps))
    c.if-found-seq.false first
    ∙ ap (λ es. next_in c.args.seq (entries_from c.args.seq es)) c.self.view_is

pub returns-in-None-clause-fits : goal.returns-in-None-clause-fits
returns-in-None-clause-fits c = subst (AreBelow (2 ^ 32)) c.self.view_is (fits_all c.self.inside.logs.entries c.self.invariant)

pub returns-then-found-seq-clause-fits : goal.returns-then-found-seq-clause-fits
returns-then-found-seq-clause-fits c = subst (AreBelow (2 ^ 32)) c.self.view_is
    (fits_all c.self.inside.logs.entries c.self.invariant)

pub returns-else-found-seq-clause-fits : goal.returns-else-found-seq-clause-fits
returns-else-found-seq-clause-fits c = subst (AreBelow (2 ^ 32)) c.self.view_is
    (fits_all c.self.inside.logs.entries c.self.invariant)
