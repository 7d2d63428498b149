-- Laws of the steps over commits that are published together: what one more commit makes of the tables, the rows and the count.
use Rattle.std.proofs.Common.{◌≡◌, ℕ, zero, suc, ◌+◌, ◌-◌, ◌<◌, ◌≤◌, List, [], ◌∷◌, length, drop, get_or, Bool, true, false, sym, ap, ◌∙◌, arith}
use Rattle.std.specs.Prelude.{if◌then◌else◌}
use Rattle.std.proofs.lemmas.List.{at_drop_more}
use Rattle.redo_spec.specs.Tables.{Tables}
use Rattle.row_apply.specs.Overlaid.{overlaid}
use Rattle.standby_spec.specs.Refusals.{passes_limit}
use Rattle.standby_spec.specs.Writings.{writable}
use Rattle.eager_work.specs.declared.commit.Commit.{Commit}
use Rattle.publisher.specs.Groups.{IsGroup, first_number}
use Rattle.publisher.specs.MergedRows.{ByKey, entered_all}
use Rattle.publisher.specs.PreparesGroup.{tables_behind_all, rows_of_all, count_within, last_number, last_scn}

-- the commit at a place, and those behind it
pub rest-is : (cs : List Commit) (i : ℕ) (c : Commit) → i < length cs → c ≡ get_or cs i c → drop i cs ≡ c ∷ drop (i + 1) cs
rest-is cs i c lt is = at_drop_more (λ ds. ds) cs i c lt ∙ ap (λ d. d ∷ drop (i + 1) cs) (sym is)

pub tables-step : (before after : Tables) (rest more : List Commit) (c : Commit) → rest ≡ c ∷ more →
    after ≡ overlaid before (writable before c.writes) → tables_behind_all before rest ≡ tables_behind_all after more
tables-step before after rest more c rest_is after_is =
    ap (tables_behind_all before) rest_is ∙ ap (λ t. tables_behind_all t more) (sym after_is)

pub rows-step : (es fs : ByKey) (before after : Tables) (rest more : List Commit) (c : Commit) → rest ≡ c ∷ more →
    after ≡ overlaid before (writable before c.writes) → fs ≡ entered_all es (writable before c.writes) →
    rows_of_all es before rest ≡ rows_of_all fs after more
rows-step es fs before after rest more c rest_is after_is rows_are =
    ap (rows_of_all es before) rest_is ∙ sym (λ i. rows_of_all (rows_are i) (after_is i) more)

pub count-step : (before after : Tables) (rest more : List Commit) (c : Commit) → rest ≡ c ∷ more →
    after ≡ overlaid before (writable before c.writes) → passes_limit before (writable before c.writes) ≡ false →
    count_within before rest ≡ 1 + count_within after more
count-step before after rest more c rest_is after_is few =
    ap (count_within before) rest_is
    ∙ ap (λ b. if b then 0 else 1 + count_within (overlaid before (writable before c.writes)) more) few
    ∙ ap (λ t. 1 + count_within t more) (sym after_is)

-- the first that passes the limit ends the count
pub count-stops : (before : Tables) (rest more : List Commit) (c : Commit) → rest ≡ c ∷ more →
    passes_limit before (writable before c.writes) ≡ true → count_within before rest ≡ 0
count-stops before rest more c rest_is many =
    ap (count_within before) rest_is
    ∙ ap (λ b. if b then 0 else 1 + count_within (overlaid before (writable before c.writes)) more) many

-- ---- the first and the last of them

pub first-is-at : (cs : List Commit) (c : Commit) → IsGroup cs → c ≡ get_or cs 0 c → first_number cs ≡ c.number
first-is-at [] c group is = absurd (omega (arith, group.some))
first-is-at (d ∷ ds) c group is = ap (λ (e : Commit). e.number) (sym is)

last-at : (cs : List Commit) (k : ℕ) (c : Commit) → length cs ≡ suc k → c ≡ get_or cs k c →
    (c.number ≡ last_number cs) × (c.scn ≡ last_scn cs)
last-at [] k c many is = absurd (omega (arith, many))
last-at (d ∷ []) zero c many is = (ap (λ (e : Commit). e.number) is, ap (λ (e : Commit). e.scn) is)
last-at (d ∷ []) (suc k) c many is = absurd (omega (arith, many))
last-at (d ∷ e ∷ ds) zero c many is = absurd (omega (arith, many))
last-at (d ∷ e ∷ ds) (suc k) c many is = last-at (e ∷ ds) k c (omega (arith, many)) is

pub last-is-at : (cs : List Commit) (c : Commit) → 1 ≤ length cs → c ≡ get_or cs (length cs - 1) c →
    (c.number ≡ last_number cs) × (c.scn ≡ last_scn cs)
last-is-at cs c some is = last-at cs (length cs - 1) c (omega (arith, some)) is
