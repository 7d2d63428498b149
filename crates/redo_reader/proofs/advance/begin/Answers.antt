use Rattle.redo_reader.proofs.StepLaws.{begun_is, may_begin}
use Rattle.redo_reader.proofs.advance.begin.Goals as goal

pub open_log-requires-clause-done : goal.open_log-requires-clause-done
open_log-requires-clause-done c = (may_begin c.args.registry.now c.args.front c.in-Log.entry.now c.requires
    c.in-Log.ensures.exact).done

pub open_log-requires-clause-room : goal.open_log-requires-clause-room
open_log-requires-clause-room c = (may_begin c.args.registry.now c.args.front c.in-Log.entry.now c.requires
    c.in-Log.ensures.exact).room

pub returns-in-Log : goal.returns-in-Log
returns-in-Log c = begun_is c.args.registry.now c.args.front c.in-Log.entry.now c.open_log.result c.in-Log.ensures.exact
    c.in-Log.ensures.rising c.in-Log.ensures.fits c.open_log.ensures
