-- A lawful store is loaded at rest.
use Rattle.std.proofs.Common.{◌≡◌, ℕ, ◌≤◌, List, [], false, refl, sym, ap, ◌∙◌, subst, Option, Some, None, arith}
use Rattle.std.specs.Prelude.{nat_lt, IfSome, IsTrue}
use Rattle.std.specs.Option.{option_map}
use Rattle.std.proofs.lemmas.Bool.Decides.{nat_tests}
use Rattle.rl_ports.specs.Faults.{Told}
use Rattle.rl_ports.specs.Store.{Store}
use Rattle.redo_spec.specs.Fold.{live_row_limit}
use Rattle.redo_spec.specs.Tables.{row_count}
use Rattle.log_registry.specs.declared.entry.LogEntry.{LogEntry}
use Rattle.standby_spec.specs.declared.mark.Mark.{Mark}
use Rattle.standby_spec.specs.KeptState.{KeptState}
use Rattle.standby_spec.specs.Layout.{pairs_of}
use Rattle.standby_spec.specs.StandbyRedo.{Archived}
use Rattle.standby_spec.specs.Checkpoint.{IsMarkOf, at_count}
use Rattle.standby_spec.specs.HasLayout.{HasLayout, IsMark}
use Rattle.standby_spec.specs.Loading.{Loaded, Image, Fresh, Bad, loaded, as_loaded, kept_pairs, is_mark_in}
use Rattle.standby_spec.specs.Lawful.{Belongs, IsLawful, Empty, Holds}
use Rattle.standby_spec.specs.Publishing.{Publishing, Keeps, IsCreated, HasNoStandby}
use Rattle.standby_spec.specs.AtRest.{IsAtRest}
use Rattle.standby_spec.proofs.FitsLaws.{own-fits}
use Rattle.standby_spec.proofs.PublisherLaws.{not-both}

-- ---- a state as it is loaded

few-enough : (rows : ℕ) → rows ≤ live_row_limit → nat_lt live_row_limit rows ≡ false
few-enough rows le = grind (arith, nat_tests)

mark-loaded : (logs : Archived) (s : KeptState) (o : Option Mark) → IfSome o (IsMarkOf logs s s.n) →
    IfSome (option_map (at_count s.n) o) (IsMarkOf logs (as_loaded s) s.n)
mark-loaded logs s None is = tt
mark-loaded logs s (Some k) is = record {
  fits = is.fits;
  before = is.before;
  place = is.place;
  q_scn = is.q_scn;
  m_scn = is.m_scn;
  commit_scn = is.commit_scn;
}

mark-counted : (n : ℕ) (o : Option Mark) → IfSome o IsMark → IfSome (option_map (at_count n) o) IsMark
mark-counted n None is = tt
mark-counted n (Some k) is = record {
  seq = is.seq;
  done = is.done;
  rec = is.rec;
  q_scn = is.q_scn;
  m_scn = is.m_scn;
  commit_scn = is.commit_scn;
}

mark-placed : (logs : List LogEntry) (n : ℕ) (o : Option Mark) → IfSome o (λ k. IsTrue (is_mark_in logs n k)) →
    IfSome (option_map (at_count n) o) (λ k. IsTrue (is_mark_in logs n k))
mark-placed logs n None is = tt
mark-placed logs n (Some k) is = is

layout-loaded : (s : KeptState) → HasLayout s → HasLayout (as_loaded s)
layout-loaded s h = record {
  dbid = h.dbid;
  first = h.first;
  base = h.base;
  logs = h.logs;
  rising = h.rising;
  beginning = h.beginning;
  few_logs = h.few_logs;
  tables = h.tables;
  accepted = h.accepted;
  ids = h.ids;
  rules = h.rules;
  differ = h.differ;
  values = h.values;
  sound = h.sound;
  few_rows = h.few_rows;
  n = h.n;
  scn = h.scn;
  mark = mark-counted s.n s.mark h.mark;
  placed = mark-placed s.logs s.n s.mark h.placed;
}

pub loaded-belongs : (logs : Archived) (s : KeptState) → Belongs logs s → Belongs logs (as_loaded s)
loaded-belongs logs s b = record {
  registered = b.registered;
  first = b.first;
  dictionary = b.dictionary;
  scn = b.scn;
  fits = own-fits logs (as_loaded s) b.fits.shows.made (few-enough (row_count s.tables) b.layout.few_rows)
      (mark-loaded logs s s.mark b.fits.mark) b.fits.skips b.layout.ids;
  layout = layout-loaded s b.layout;
}

-- ---- what is loaded from a lawful store

empty-fresh : loaded [] ≡ Fresh
unfolding loaded
empty-fresh = refl

abbrev image-in : KeptState → Loaded → KeptState
image-in s (Image t) = t
image-in s Fresh = s
image-in s (Bad area key) = s

state-belongs : (logs : Archived) (s : KeptState) (pairs : Store) → IsLawful logs pairs → loaded pairs ≡ Image s →
    Belongs logs s × (kept_pairs pairs ≡ pairs)
state-belongs logs s pairs (Empty none) is =
    let fresh : loaded pairs ≡ Fresh = ap loaded none ∙ empty-fresh in absurd (cc)
state-belongs logs s pairs (Holds t b image kept) is =
    let same : as_loaded t ≡ s = ap (image-in s) (sym image ∙ is) in
    (subst (Belongs logs) same (loaded-belongs logs t b), kept)

none-kept : (logs : Archived) (pairs : Store) → IsLawful logs pairs → loaded pairs ≡ Fresh → pairs ≡ []
none-kept logs pairs (Empty none) is = none
none-kept logs pairs (Holds t b image kept) is = absurd (cc)

-- ---- the law

pub loaded-rests : {K : Type 0} (holds : K → Option Store) (faults : K → ℕ) (start : ℕ) (logs : Archived) (s : KeptState)
    (pairs : Store) (p : Publishing K) → IsLawful logs pairs → loaded pairs ≡ Image s → pairs_of s ≡ kept_pairs pairs →
    p.state ≡ Some s → p.stopped ≡ false → holds p.keeper ≡ Some pairs → start ≤ faults p.keeper →
    IsAtRest holds faults start logs s p
loaded-rests holds faults start logs s pairs p lawful image again there free held since =
    let whole = state-belongs logs s pairs lawful image in
    let keeps : Keeps (Belongs logs) false (Some s) pairs = sym (again ∙ whole.1) in
    record {
      there = there;
      belongs = whole.0;
      keeps = subst (λ o. Told o (Keeps (Belongs logs) p.stopped p.state)) (sym held)
          (subst (λ t. Keeps (Belongs logs) t p.state pairs) (sym free)
          (subst (λ o. Keeps (Belongs logs) false o pairs) (sym there) keeps));
      since = since;
      risen = λ stopped. absurd (not-both p.stopped free stopped);
    }

pub loaded-none : {K : Type 0} (holds : K → Option Store) (logs : Archived) (pairs : Store) (p : Publishing K) →
    IsLawful logs pairs → loaded pairs ≡ Fresh → p.state ≡ None → p.stopped ≡ false → holds p.keeper ≡ Some pairs →
    HasNoStandby holds p
loaded-none holds logs pairs p lawful fresh there free held =
    let keeps : Keeps IsCreated false None pairs = none-kept logs pairs lawful fresh in
    record {
      none = there;
      keeps = subst (λ o. Told o (Keeps IsCreated p.stopped p.state)) (sym held)
          (subst (λ t. Keeps IsCreated t p.state pairs) (sym free)
          (subst (λ o. Keeps IsCreated false o pairs) (sym there) keeps));
    }
