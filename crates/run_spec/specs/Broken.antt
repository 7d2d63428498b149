-- What a durable store holds behind a run that was broken off: a state on the way to the run's end (RunEnd). It is what was
-- shown, or what the commit that failed was to make. This project's own.
use Rattle.std.specs.Prelude.{ℕ, ◌≡◌}
use Rattle.rl_ports.specs.Store.{Store}
use Rattle.standby_spec.specs.KeptState.{KeptState}
use Rattle.standby_spec.specs.Layout.{pairs_of}
use Rattle.standby_spec.specs.StandbyRedo.{Archived}
use Rattle.run_spec.specs.RunEnd.{IsOnTheWay}

-- the pairs of a state to which a run that began with this one has come
abbrev pub HoldsOnTheWay : Archived → ℕ → KeptState → Store → Type 0
HoldsOnTheWay logs distance opening pairs =
    (kept : KeptState) × (IsOnTheWay logs distance opening kept × (pairs ≡ pairs_of kept))
