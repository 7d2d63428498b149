-- What a device in memory is seen as: what it holds, with its calls. Logs are pairs in order of their sequences.
use Rattle.std.specs.Prelude.{ℕ, List, Option}
use Rattle.std.specs.Ordering.{nat_cmp}
use Rattle.std.specs.FinMap.Entries as entries
use Rattle.rl_mem.specs.Calls.{Counted}

-- a source: the bytes that are left, and its calls
pub record SourceState : Type 0 where
  pub bytes : List ℕ
  pub calls : Counted

-- a sink: the bytes that were written, its whole room, and its calls
pub record SinkState : Type 0 where
  pub bytes : List ℕ
  pub room : ℕ
  pub calls : Counted

-- logs, or chunks, each under a number, in rising order
abbrev pub Numbered : Type 0
Numbered = List (ℕ × List ℕ)

pub record NumberedState : Type 0 where
  pub held : List (ℕ × List ℕ)
  pub calls : Counted

-- what lies under this number
abbrev pub bytes_under : Numbered → ℕ → Option (List ℕ)
bytes_under held number = entries.find nat_cmp number held

-- one more, in the place of what lies there
abbrev pub with_one : ℕ → List ℕ → Numbered → Numbered
with_one number bytes held = entries.put nat_cmp number bytes held
