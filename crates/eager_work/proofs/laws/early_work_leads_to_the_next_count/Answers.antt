use Rattle.std.proofs.Common.{refl}
use Rattle.eager_work.proofs.Timely.{timely_leads, timely_misses}
use Rattle.eager_work.proofs.laws.early_work_leads_to_the_next_count.Goals as goal

pub returns-clause-leads : goal.returns-clause-leads
returns-clause-leads c b skips commits n commit attempts made work free =
    timely_leads c.one_commit_more.ensures.tables b skips commits n commit.txn.survivors attempts work commit made refl free

pub returns-clause-misses : goal.returns-clause-misses
returns-clause-misses c b skips commits n commit attempts made work missed is tables ends =
    timely_misses c.one_commit_more.ensures.tables b skips commits n commit.txn.survivors attempts work commit made refl missed is
    tables ends
