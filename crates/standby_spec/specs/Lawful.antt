-- Lawful: a durable store that a call may begin with. It is empty, or a state is loaded from it that belongs to the archived
-- logs: it is what a standby over these logs can have left.
use Rattle.std.specs.Prelude.{◌≡◌, ◌+◌, [], IfSome}
use Rattle.rl_ports.specs.Store.{Store}
use Rattle.redo_spec.specs.Tables.{definitions_of}
use Rattle.redo_spec.specs.Fold.{Base, scn_at, known_tables}
use Rattle.log_registry.specs.Registered.{AreToldBy, entry_of}
use Rattle.standby_spec.specs.KeptState.{KeptState, base_of}
use Rattle.standby_spec.specs.StandbyRedo.{Archived, admitted_redo, commits_of}
use Rattle.standby_spec.specs.Fits.{FitsStill}
use Rattle.standby_spec.specs.Loading.{Image, loaded, as_loaded, kept_pairs}
use Rattle.standby_spec.specs.HasLayout.{HasLayout}

-- the base of the redo: that of no commit
abbrev pub beginning_base : KeptState → Base
beginning_base s = record { tables = s.tables; n = 0; scn = s.base; local = s.tables }

-- A state that belongs to these archived logs: its logs are what they are, the first of them follows its base SCN, its tables
-- are those of the dictionary, its SCN is that of its last commit, it fits over itself, and it has a layout.
pub record Belongs (logs : Archived) (s : KeptState) : Type 0 where
  pub registered : AreToldBy logs s.logs
  pub first : IfSome (entry_of s.first s.logs) (λ e. s.base + 1 ≡ e.head.first)
  pub dictionary : definitions_of s.tables ≡ definitions_of (known_tables (admitted_redo logs s).standing)
  pub scn : s.scn ≡ scn_at (beginning_base s) (commits_of logs s) s.n
  pub fits : FitsStill (base_of s) logs s
  pub layout : HasLayout s

-- A store that is empty, or from which a state is loaded that belongs to these logs; it has no other pairs.
pub data IsLawful (logs : Archived) (store : Store) : Type 0 where
  Empty : store ≡ [] → IsLawful logs store
  Holds : (s : KeptState) → Belongs logs s → loaded store ≡ Image (as_loaded s) → kept_pairs store ≡ store → IsLawful logs store
