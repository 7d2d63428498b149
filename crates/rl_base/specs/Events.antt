-- What is kept of the events: how many there were, and the last 100 lines, each with its number, the oldest first.
-- A number stands still at its type's end. This project's own.
use Rattle.std.specs.Prelude.{ℕ, ◌+◌, ◌-◌, ◌^◌, min, List, [], ◌∷◌, ◌++◌, Bool, true, ◌&&◌, ◌==◌}
use Rattle.circular_buffer.specs.Buffer.{keep_last}

pub record Noted : Type 0 where
  pub count : ℕ
  pub lines : List (ℕ × List ℕ)

-- before the first event
abbrev pub no_events : Noted
no_events = record { count = 0; lines = [] }

-- the next number
abbrev pub next_event_number : ℕ → ℕ
next_event_number n = min (n + 1) (2 ^ 64 - 1)

-- one event more
abbrev pub with_event : List ℕ → Noted → Noted
with_event line e = record {
  count = next_event_number e.count;
  lines = keep_last 100 (e.lines ++ (next_event_number e.count, line) ∷ []);
}

-- these lines go on behind the number before, each with the next one, and the last has the number end
abbrev pub follow : ℕ → ℕ → List (ℕ × List ℕ) → Bool
follow end before [] = before == end
follow end before (e ∷ es) = (e.0 == next_event_number before) && follow end e.0 es

-- each line has the number that follows the one before it, and the last has the count
abbrev pub are_numbered : ℕ → List (ℕ × List ℕ) → Bool
are_numbered count [] = true
are_numbered count (e ∷ es) = follow count e.0 es
