use Rattle.std.proofs.Common.{sym, subst, None}
use Rattle.std.specs.Prelude.{IfOk}
use Rattle.standby_spec.specs.Publishing.{Done}
use Rattle.standby_spec.specs.Writings.{created_state, created_items}
use Rattle.publisher.specs.Endings.{ending_of_fault}
use Rattle.publisher.specs.Prepares.{IsReady, Makes}
use Rattle.publisher.proofs.publisher.Publisher.create.Goals as goal

pub write-requires-clause-ready : goal.write-requires-clause-ready
write-requires-clause-ready g c =
    subst (λ o. IfOk c.prepare_standby-prepared.result (IsReady o)) (sym c.requires.none)
    c.prepare_standby-prepared.ensures.prepared.ready

pub returns-in-Ok-clause-created : goal.returns-in-Ok-clause-created
returns-in-Ok-clause-created g c =
    let items = created_items c.args.entry c.args.dict.tables in
    let later = created_state c.args.entry c.args.dict.tables in
    c.in-Ok.ensures.leaves items later (subst (λ o. Makes items o later c.prepare_standby-prepared.result)
    (sym c.requires.none) c.prepare_standby-prepared.ensures.prepared.made)

pub returns-in-Err-clause-created : goal.returns-in-Err-clause-created
returns-in-Err-clause-created g c =
    let items = created_items c.args.entry c.args.dict.tables in
    let later = created_state c.args.entry c.args.dict.tables in
    c.in-Err.ensures.leaves items later (subst (λ o. Makes items o later c.prepare_standby-prepared.result)
    (sym c.requires.none) c.prepare_standby-prepared.ensures.prepared.made)

pub returns-in-Ok-clause-refused : goal.returns-in-Ok-clause-refused
returns-in-Ok-clause-refused g c = c.in-Ok.ensures.refused None c.prepare_standby-prepared.ensures.prepared.declined

pub returns-in-Err-clause-refused : goal.returns-in-Err-clause-refused
returns-in-Err-clause-refused g c = c.in-Err.ensures.refused None c.prepare_standby-prepared.ensures.prepared.declined

pub returns-in-Ok-clause-rests : goal.returns-in-Ok-clause-rests
returns-in-Ok-clause-rests g c = λ start logs none since is.
    c.a_call_between_runs_leaves_a_publisher_at_rest.ensures.created g.K.Keeper.counts_failures_alone start logs c.args.entry
    c.args.dict.tables c.args.self.now c.write.new.self Done none c.requires.running since is
    (returns-in-Ok-clause-created g c)

pub returns-in-Err-clause-rests : goal.returns-in-Err-clause-rests
returns-in-Err-clause-rests g c = λ start logs none since is.
    c.a_call_between_runs_leaves_a_publisher_at_rest.ensures.created g.K.Keeper.counts_failures_alone start logs c.args.entry
    c.args.dict.tables c.args.self.now c.write.new.self (ending_of_fault c.in-Err.fault) none c.requires.running since is
    (returns-in-Err-clause-created g c)
