-- What `run` says: the lines that a script prints, and what it has made, with what a run leaves free: the owner that is shown
-- of a taken value, and the mark behind an apply conflict or the row limit (RunEnd).
-- A status that ends the command at once comes behind the lines of the statements before the refused call; of the statement of
-- that call `Breaks` says what was printed and made. What is said here holds where the devices tell what they hold.
use Rattle.std.specs.Prelude.{ℕ, ◌≡◌, ◌<◌, ◌⊎◌, List, [], ◌∷◌, ◌++◌, length, take, reverse, Bool, false, IsTrue, codes, Option, Some, None, is_some, is_none}
use Rattle.rl_value.specs.declared.verdict.Verdict.{Verdict}
use Rattle.rl_base.specs.declared.status.Status.{Status}
use Rattle.rl_base.specs.declared.status.Status.TheVariants as statuses
use Rattle.redo_vec.specs.declared.table.TableRow.{TableRow}
use Rattle.redo_spec.specs.Lines.{Line, written, end_line}
use Rattle.script.specs.declared.statement.Statement.{Statement}
use Rattle.script.specs.declared.statement.Statement.TheVariants as statements
use Rattle.standby_spec.specs.KeptState.{KeptState}
use Rattle.standby_spec.specs.StandbyRedo.{Archived}
use Rattle.run_spec.specs.RunEnd.{RunsTo, IsOnTheWay, run_fold}
use Rattle.script_spec.specs.ScriptState.{ScriptState}
use Rattle.script_spec.specs.Statements.{Said, says, refused, one, ask_lines, register_refusal, run_said}
use Rattle.script_spec.specs.Scripts.{Numbered, said_of, said_both}

-- ---- one statement

-- a run from this state, whatever is free in it
pub record RanAs (logs : Archived) (s : ScriptState) (k : KeptState) (said : Said) : Type 0 where
  pub new : KeptState
  pub verdict : Verdict
  pub ran : RunsTo logs s.distance k new verdict
  pub same : said ≡ run_said (run_fold logs k).names verdict k new s

abbrev pub RanIfCreated : Archived → ScriptState → Option KeptState → Said → Type 0
RanIfCreated logs s None said = said ≡ refused (one (codes "NOTCREATED")) s
RanIfCreated logs s (Some k) said = RanAs logs s k said

-- what the statement at this line prints, and what it leaves
abbrev pub Follows : Archived → ℕ → Statement → ScriptState → Said → Type 0
Follows logs line (statements.Replay appliers cache eager events) s said = RanIfCreated logs s s.kept said
Follows logs line other s said = said ≡ said_of logs line other s

-- ---- a script

-- some statements, and then one more
pub record Then (Before : Said → Type 0) (Next : ScriptState → Said → Type 0) (said : Said) : Type 0 where
  pub first : Said
  pub begins : Before first
  pub rest : Said
  pub goes_on : Next first.state rest
  pub both : said ≡ said_both first rest

-- what these statements, the latest first, print from a state on, and what they leave
abbrev pub DoesLatestFirst : Archived → ScriptState → List Numbered → Said → Type 0
DoesLatestFirst logs begin [] said = said ≡ says [] begin
DoesLatestFirst logs begin ((line, statement) ∷ before) said =
    Then (DoesLatestFirst logs begin before) (Follows logs line statement) said

-- the same in their order
abbrev pub Does : Archived → ScriptState → List Numbered → Said → Type 0
Does logs begin script said = DoesLatestFirst logs begin (reverse script) said

-- ---- a statement that was broken off

-- nothing that is asked before the archive stands against the log of this sequence
abbrev pub may_register : ℕ → Option KeptState → Bool
may_register seq None = false
may_register seq (Some k) = is_none (register_refusal seq k)

-- The statement calls the archive, since nothing that is asked before stands against it.
abbrev pub calls_archive : Statement → ScriptState → Bool
calls_archive (statements.Create dbid seq) s = is_none s.kept
calls_archive (statements.Register seq) s = may_register seq s.kept
calls_archive (statements.Replay appliers cache eager events) s = is_some s.kept
calls_archive statements.Check s = is_some s.kept
calls_archive other s = false

-- a run that was broken off has made some of its way
abbrev pub MadeByRun : Archived → ℕ → Option KeptState → Option KeptState → Type 0
MadeByRun logs distance None new = new ≡ None
MadeByRun logs distance (Some old) None = ⊥
MadeByRun logs distance (Some old) (Some new) = IsOnTheWay logs distance old new

-- what is made of a statement in which another call than a commit was refused
abbrev pub Made : Archived → Statement → ScriptState → Option KeptState → Type 0
Made logs (statements.Replay appliers cache eager events) s kept = MadeByRun logs s.distance s.kept kept
Made logs other s kept = kept ≡ s.kept

-- and where a commit was refused: all of it or nothing, of a statement that was accepted
abbrev pub MadeOrNot : Archived → ℕ → Statement → ScriptState → Option KeptState → Type 0
MadeOrNot logs line (statements.Replay appliers cache eager events) s kept =
    IsTrue (is_some s.kept) × MadeByRun logs s.distance s.kept kept
MadeOrNot logs line other s kept = IsTrue (said_of logs line other s).commits ×
    ((kept ≡ s.kept) ⊎ (kept ≡ (said_of logs line other s).state.kept))

-- nothing yet; or the END line, and the answers of the first so many queries that waited
abbrev pub run_front : List TableRow → Verdict → KeptState → ScriptState → Option ℕ → List Line
run_front names verdict k s None = []
run_front names verdict k s (Some count) = end_line names k.scn k.n verdict ∷ ask_lines (take count s.asks) k

-- a run ended, and memory wanted for its END line, or for one of the answers behind it
pub record RanInPart (logs : Archived) (s : ScriptState) (k : KeptState) (lines : List Line) (kept : Option KeptState) : Type 0
  where
    pub new : KeptState
    pub verdict : Verdict
    pub ran : RunsTo logs s.distance k new verdict
    pub count : Option ℕ
    pub front : lines ≡ run_front (run_fold logs k).names verdict new s count
    pub made : kept ≡ Some new

abbrev pub RanInPartIfCreated : Archived → ScriptState → Option KeptState → List Line → Option KeptState → Type 0
RanInPartIfCreated logs s None lines kept = ⊥
RanInPartIfCreated logs s (Some k) lines kept = RanInPart logs s k lines kept

abbrev pub SaidInPart : Archived → Statement → ScriptState → List Line → Option KeptState → Type 0
SaidInPart logs (statements.Replay appliers cache eager events) s lines kept = RanInPartIfCreated logs s s.kept lines kept
SaidInPart logs other s lines kept = ⊥

-- what a statement has printed and made that a status ended at once
abbrev pub Breaks : Status → Archived → ℕ → Statement → ScriptState → List Line → Option KeptState → Type 0
Breaks statuses.ArchiveFault logs line statement s lines kept =
    IsTrue (calls_archive statement s) × (lines ≡ []) × Made logs statement s kept
Breaks statuses.KeeperFault logs line statement s lines kept = (lines ≡ []) × MadeOrNot logs line statement s kept
Breaks statuses.Memory logs line statement s lines kept =
    ((lines ≡ []) × Made logs statement s kept) ⊎ SaidInPart logs statement s lines kept
Breaks other logs line statement s lines kept = ⊥

-- some statements were done, and the next was broken off by this status
pub record BreaksOff (logs : Archived) (script : List Numbered) (begin : ScriptState) (status : Status) (lines : List Line)
    (kept : Option KeptState) : Type 0 where
  pub done : List Numbered
  pub line : ℕ
  pub next : Statement
  pub later : List Numbered
  pub split : script ≡ done ++ (line, next) ∷ later
  pub before : Said
  pub does : Does logs begin done before
  pub tail : List Line
  pub breaks : Breaks status logs line next before.state tail kept
  pub all : lines ≡ before.lines ++ tail

-- some statements were done, and of the lines of the last one the sink took a front that is not all of them; it counts as made
pub record SinkBreaksOff (logs : Archived) (script : List Numbered) (begin : ScriptState) (text : List ℕ)
    (kept : Option KeptState) : Type 0 where
  pub done : List Numbered
  pub line : ℕ
  pub next : Statement
  pub later : List Numbered
  pub split : script ≡ done ++ (line, next) ∷ later
  pub before : Said
  pub does : Does logs begin done before
  pub said : Said
  pub follows : Follows logs line next before.state said
  pub count : ℕ
  pub short : count < length (written said.lines)
  pub front : text ≡ written before.lines ++ take count (written said.lines)
  pub made : kept ≡ said.state.kept
