-- What a command leaves of the devices that it is handed whole.
use Rattle.std.specs.Prelude.{ℕ, ◌≡◌, ◌≤◌, List, Option}

-- the archive has the same logs, and its count of faults has not fallen; the spill store and the keeper are as they were
pub record ComeBack {A S K : Type 0} (logs : A → Option (ℕ → Option (List ℕ))) (faults : A → ℕ) (archive archive' : A)
    (spill spill' : S) (keeper keeper' : K) : Type 0 where
  pub same_logs : logs archive' ≡ logs archive
  pub count : faults archive ≤ faults archive'
  pub same_spill : spill' ≡ spill
  pub same_keeper : keeper' ≡ keeper
