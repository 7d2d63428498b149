use Rattle.eager_work.proofs.Timely.{timely_sound, work_rises}
use Rattle.eager_work.proofs.laws.early_work_leaves_sound_tables.Goals as goal

pub returns-clause-sound : goal.returns-clause-sound
returns-clause-sound c b skips commits n changes attempts work tables ends =
    timely_sound c.one_commit_more.ensures.tables b skips commits n changes attempts work tables ends

pub returns-clause-rising : goal.returns-clause-rising
returns-clause-rising c = work_rises
