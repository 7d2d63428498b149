use Rattle.std.proofs.Common.{length}
use Rattle.plain_store.proofs.indexing.+index_tables.Given as goal

abbrev pub decreases-index_tables : goal.decreases-index_tables
decreases-index_tables l = length l.rest.now
