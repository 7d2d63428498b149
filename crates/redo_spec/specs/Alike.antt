-- Alike: what may differ between two runs over the same redo.
-- A unique value that is taken may be found at another owner, or under another key, by a change that is done early; all
-- else is determined. No contract cites this so far.
use Rattle.std.specs.Prelude.{◌≡◌}
use Rattle.rl_value.specs.declared.key.Key.{Key}
use Rattle.rl_value.specs.declared.miss.Miss.{Miss}
use Rattle.rl_value.specs.declared.miss.Miss.TheVariants.{Absent, Differs, Exists, Taken}
use Rattle.rl_value.specs.declared.verdict.Verdict.{Verdict}
use Rattle.rl_value.specs.declared.verdict.Verdict.TheVariants.{Stopped, Mismatch, RowLimit}

-- two misses are equal, or Taken of one unique key by whoever
abbrev pub AreAlike : Miss → Miss → Type 0
AreAlike (Taken index owner) other = (by : Key) × (other ≡ Taken index by)
AreAlike (Absent k) other = other ≡ Absent k
AreAlike (Differs column logged found) other = other ≡ Differs column logged found
AreAlike (Exists k) other = other ≡ Exists k

-- two verdicts are equal, or mismatches of one change whose misses are alike
abbrev pub AreAlikeVerdicts : Verdict → Verdict → Type 0
AreAlikeVerdicts (Mismatch scn pos table miss) other = (found : Miss) × AreAlike miss found ×
    (other ≡ Mismatch scn pos table found)
AreAlikeVerdicts (Stopped stop) other = other ≡ Stopped stop
AreAlikeVerdicts (RowLimit scn) other = other ≡ RowLimit scn
