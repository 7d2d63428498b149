-- What is read of a publisher: the tables that it shows, with their count and SCN.
use Rattle.std.specs.Prelude.{ℕ, ◌≡◌, ◌≤◌, ◌<◌, Option}
use Rattle.redo_spec.specs.Tables.{Tables}
use Rattle.table_store.specs.declared.view.View.{View}
use Rattle.standby_spec.specs.KeptState.{KeptState}
use Rattle.standby_spec.specs.Publishing.{shown_tables, shown_count, shown_scn}
use Rattle.publisher.specs.declared.fetch.Fetch.{Fetch}
use Rattle.publisher.specs.declared.fetch.Fetch.TheVariants as fetches

-- the view is of the state that is shown
pub record IsView (state : Option KeptState) (view : View) : Type 0 where
  pub at_scn : view.scn ≡ shown_scn state
  pub count : view.n ≡ shown_count state
  pub rows : view.tables.tables ≡ shown_tables state

-- the tables are those that are shown, at a count that is enough
pub record IsReadyFor (state : Option KeptState) (water n : ℕ) (tables : Tables) : Type 0 where
  pub count : n ≡ shown_count state
  pub rows : tables ≡ shown_tables state
  pub enough : water ≤ n

-- the count that is shown is not enough
pub record IsEarlyFor (state : Option KeptState) (water n wanted : ℕ) : Type 0 where
  pub count : n ≡ shown_count state
  pub same : wanted ≡ water
  pub fewer : n < water

abbrev pub IsFetched : Option KeptState → ℕ → Fetch → Type 0
IsFetched state water (fetches.Ready n tables) = IsReadyFor state water n tables.tables
IsFetched state water (fetches.Early n wanted) = IsEarlyFor state water n wanted
