-- Worked examples: what two standbys show. `src/worked.rt` states the lines of their views as theorems that hold by computing.
use Rattle.std.specs.Prelude.{ℕ, List, [], ◌∷◌, codes, Option, Some, None}
use Rattle.rl_value.specs.declared.value.Value.TheVariants.{Null}
use Rattle.rl_base.specs.declared.which.Which.{Which}
use Rattle.rl_base.specs.Events.{Noted}
use Rattle.redo_spec.specs.Lines.{Line}
use Rattle.redo_spec.specs.Skips.{Tables as TablesNamed, Transaction}
use Rattle.redo_spec.specs.Tables.{Tables}
use Rattle.redo_spec.specs.Worked.{emp, n, x123}
use Rattle.skip_guard.specs.declared.guard.Level.TheVariants as levels
use Rattle.log_registry.specs.declared.entry.LogEntry.{LogEntry}
use Rattle.standby_spec.specs.KeptState.{KeptState}
use Rattle.view_lines.specs.Views.{view_lines}

abbrev pub entry_of : ℕ → ℕ → ℕ → ℕ → LogEntry
entry_of seq first next count = record {
  head = record { seq = seq; dbid = 9; first = first; next = next; count = count };
  length = 1000;
}

-- log 1 alone, whose record 1 has the dictionary, behind a run that kept a checkpoint
abbrev pub dictionary_alone : KeptState
dictionary_alone = record {
  dbid = 9;
  first = 1;
  base = 99;
  level = levels.All;
  logs = entry_of 1 100 200 1 ∷ [];
  skips = [];
  tables = record { row = emp; rows = [] } ∷ [];
  n = 0;
  scn = 99;
  mark = Some (record {
    q = 1;
    m = 1;
    before = 0;
    place = record { seq = 1; at = 111; done = 1; rec = 1 };
    q_scn = 100;
    m_scn = 100;
    commit_scn = 99;
    n = 0;
  });
}

-- HR.EMP with the rows 1 and 2
abbrev pub two_rows : Tables
two_rows = record {
  row = emp;
  rows = (n 1 ∷ [], n 1 ∷ Null ∷ Null ∷ []) ∷ (n 2 ∷ [], n 2 ∷ Null ∷ Null ∷ []) ∷ [];
} ∷ []

-- logs 1, 2 and 5, of which the first two are applied
abbrev pub three_logs : KeptState
three_logs = record {
  dbid = 9;
  first = 1;
  base = 99;
  level = levels.Standby;
  logs = entry_of 1 100 110 3 ∷ entry_of 2 110 120 2 ∷ entry_of 5 140 150 2 ∷ [];
  skips = record { rule = TablesNamed (codes "HR.AUD%"); from = 0 } ∷ record { rule = Transaction x123; from = 2 } ∷ [];
  tables = two_rows;
  n = 2;
  scn = 111;
  mark = None;
}

abbrev pub two_events : Noted
two_events = record { count = 2; lines = (1, codes "CREATED 99") ∷ (2, codes "END 99 0 DRAINED") ∷ [] }

-- the lines of a view of what is shown
abbrev pub viewed : Option KeptState → Which → List Line
viewed state which = view_lines state which (codes "DRAINED") two_events
