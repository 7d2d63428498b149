use Rattle.std.proofs.Common.{arith, ◌≡◌, ◌∙◌, ◌==◌, ℕ, ◌+◌, if◌then◌else◌, None, Some, OnOk, ap, sym, subst}
use Rattle.std.specs.Map.{values_of}
use Rattle.log_registry.specs.Keyed.{AreUnderSequences}
use Rattle.log_registry.specs.Registered.{entry_of, with_log, count_of, AreToldBy}
use Rattle.log_registry.proofs.ListLaws.{rises, keyed_insert, values_insert, found_with, count_with, are_with}
use Rattle.log_registry.proofs.registry.Registry.insert.Goals as goal
use Rattle.log_registry.proofs.registry.Registry.insert.Goals.{in-Ok, in-Err}

pub invariant_of-self : goal.invariant_of-self
invariant_of-self c =
    let absent : entry_of c.args.entry.head.seq (values_of c.self.inside.logs.entries) ≡ None =
    ap (entry_of c.args.entry.head.seq) c.self.view_is ∙ c.requires.new in
    elim c.match-insert.branch [
      | in-Ok w ↦ keyed_insert c.args.entry c.self.inside.logs.entries c.insert.new.self.entries (omega arith) c.self.invariant
          absent w.in-Ok.ensures.entries
      | in-Err w ↦ subst AreUnderSequences (sym w.in-Err.ensures.err) c.self.invariant
    ]

pub returns-clause-rising : goal.returns-clause-rising
returns-clause-rising c = rises c.insert.new.self.entries (invariant_of-self c) c.insert.ensures.ordered

pub returns-clause-with : goal.returns-clause-with
returns-clause-with c =
    let absent : entry_of c.args.entry.head.seq (values_of c.self.inside.logs.entries) ≡ None =
    ap (entry_of c.args.entry.head.seq) c.self.view_is ∙ c.requires.new in
    let P = values_of c.insert.new.self.entries ≡ with_log c.args.entry c.args.self.now in
    elim c.match-insert.branch [
      | in-Ok w ↦ subst (λ r. OnOk r P) (sym w.result-is)
          (values_insert c.args.entry c.self.inside.logs.entries c.insert.new.self.entries (omega arith) c.self.invariant absent
          w.in-Ok.ensures.entries ∙ ap (with_log c.args.entry) c.self.view_is)
      | in-Err w ↦ subst (λ r. OnOk r P) (sym w.result-is) tt
    ]

pub returns-clause-found : goal.returns-clause-found
returns-clause-found c =
    let absent : entry_of c.args.entry.head.seq (values_of c.self.inside.logs.entries) ≡ None =
    ap (entry_of c.args.entry.head.seq) c.self.view_is ∙ c.requires.new in
    let P = (seq : ℕ) → entry_of seq (values_of c.insert.new.self.entries) ≡
    (if c.args.entry.head.seq == seq then Some c.args.entry else entry_of seq c.args.self.now) in
    elim c.match-insert.branch [
      | in-Ok w ↦ subst (λ r. OnOk r P) (sym w.result-is)
          (λ seq. ap (entry_of seq) (values_insert c.args.entry c.self.inside.logs.entries c.insert.new.self.entries (omega arith)
          c.self.invariant absent w.in-Ok.ensures.entries ∙ ap (with_log c.args.entry) c.self.view_is)
          ∙ found_with c.args.entry c.args.self.now seq c.requires.new)
      | in-Err w ↦ subst (λ r. OnOk r P) (sym w.result-is) tt
    ]

pub returns-clause-archived : goal.returns-clause-archived
returns-clause-archived c = λ logs are of.
    let absent : entry_of c.args.entry.head.seq (values_of c.self.inside.logs.entries) ≡ None =
    ap (entry_of c.args.entry.head.seq) c.self.view_is ∙ c.requires.new in
    let P = AreToldBy logs (values_of c.insert.new.self.entries) in
    elim c.match-insert.branch [
      | in-Ok w ↦ subst (λ r. OnOk r P) (sym w.result-is)
          (subst (AreToldBy logs) (sym (values_insert c.args.entry c.self.inside.logs.entries c.insert.new.self.entries
          (omega arith) c.self.invariant absent w.in-Ok.ensures.entries ∙ ap (with_log c.args.entry) c.self.view_is))
          (are_with logs c.args.entry c.args.self.now are of))
      | in-Err w ↦ subst (λ r. OnOk r P) (sym w.result-is) tt
    ]

pub returns-clause-count : goal.returns-clause-count
returns-clause-count c =
    let absent : entry_of c.args.entry.head.seq (values_of c.self.inside.logs.entries) ≡ None =
    ap (entry_of c.args.entry.head.seq) c.self.view_is ∙ c.requires.new in
    let P = count_of (values_of c.insert.new.self.entries) ≡ c.args.entry.head.count + count_of c.args.self.now in
    elim c.match-insert.branch [
      | in-Ok w ↦ subst (λ r. OnOk r P) (sym w.result-is)
          (ap count_of (values_insert c.args.entry c.self.inside.logs.entries c.insert.new.self.entries (omega arith)
          c.self.invariant absent w.in-Ok.ensures.entries ∙ ap (with_log c.args.entry) c.self.view_is)
          ∙ count_with c.args.entry c.args.self.now)
      | in-Err w ↦ subst (λ r. OnOk r P) (sym w.result-is) tt
    ]
