-- The random draws of a workload: a linear congruential generator, whose high bits are the draws. This project's own choice of
-- numbers; the same seed gives the same draws.
use Rattle.std.specs.Prelude.{ℕ, ◌+◌, ◌*◌, ◌/◌, ◌%◌, ◌^◌}

-- the state after one more draw
unfoldable pub next_state : ℕ → ℕ
next_state x = (1103515245 * x + 12345) % 2 ^ 31

-- the number below k that a draw gives which leaves this state
abbrev pub drawn : ℕ → ℕ → ℕ
drawn k x = (x / 65536) % k
