-- The next commit applied, as the steps of a progress say it.
use Rattle.std.proofs.Common.{◌≡◌, ℕ, ◌+◌, ◌≤◌, nat_lt, List, [], ◌∷◌, arith, refl, sym, ap, ◌∙◌, subst, Bool, true, false, cond, not, Some, None, Result, Ok, Err}
use Rattle.std.proofs.lemmas.Bool.Decides.{nat_tests}
use Rattle.rl_value.specs.declared.pos.Pos.{Pos}
use Rattle.rl_value.specs.declared.miss.Miss.{Miss}
use Rattle.rl_value.specs.declared.verdict.Verdict.TheVariants.{Mismatch, RowLimit}
use Rattle.redo_vec.specs.declared.table.TableRow.{TableRow}
use Rattle.redo_spec.specs.Tables.{RowsById, Tables, assembled, definitions_of, row_count}
use Rattle.redo_spec.specs.History.{Placed}
use Rattle.redo_spec.specs.Skips.{Skip}
use Rattle.redo_spec.specs.Fold.{Missed, effects, live_row_limit}
use Rattle.row_apply.specs.declared.writes.Write.{Write}
use Rattle.row_apply.specs.Overlaid.{overlaid}
use Rattle.primary.specs.Progress.{tables_shown, waiting_until, FoldState, Going, Ended, held_at, kept_of, progress_or_end, progress_after_effects, progress_after_commit}
use Rattle.primary.specs.Running.{TellsMiss}
use Rattle.primary.specs.declared.effects.EffectsFault.{EffectsFault}
use Rattle.primary.specs.declared.effects.EffectsFault.TheVariants as faults

-- the tables are those of the dictionary
pub definitions_assembled : (ts : List TableRow) (by : RowsById) → definitions_of (assembled ts by) ≡ ts
definitions_assembled [] by = refl
definitions_assembled (t ∷ ts) by = ap (λ us. t ∷ us) (definitions_assembled ts by)

pub shown_whole : (whole : Bool) (ts : List TableRow) (by : RowsById) → whole ≡ true → tables_shown whole ts by ≡ assembled ts by
shown_whole whole ts by is = let none : Tables = [] in ap (λ b. cond b (assembled ts by) none) is

-- no rows wait for a dictionary that is whole
pub none_wait : (whole : Bool) (by after : RowsById) → whole ≡ true → waiting_until whole after ≡ waiting_until whole by
none_wait whole by after is = ap (λ b. waiting_until b after) is ∙ sym (ap (λ b. waiting_until b by) is)

pub tells : (r : Result Tables Missed) (fault : EffectsFault) (pos : Pos) (table : ℕ) (miss : Miss) →
    fault ≡ faults.Missed pos table miss → TellsMiss r fault → r ≡ Err (record { pos = pos; table = table; miss = miss })
tells r fault pos table miss is told = let P : EffectsFault → Type 0 = λ f. TellsMiss r f in subst P is told

pub applies_next : (skips : List Skip) (scn : ℕ) (ps : List Placed) (a : FoldState) (ts : List TableRow) (by : RowsById)
    (r : Result Tables Missed) → a.tables ≡ assembled ts by → nat_lt a.made a.n ≡ false →
    effects (assembled ts by) (kept_of skips ts a.n ps) ≡ r →
    progress_after_commit skips scn ps a ≡ progress_after_effects scn r a
applies_next skips scn ps a ts by r tables next is =
    ap (λ b. cond b (Going (record a { made = a.made + 1 }))
    (progress_after_effects scn (effects a.tables (kept_of skips (definitions_of a.tables) a.n ps)) a)) next
    ∙ ap (λ us. progress_after_effects scn (effects us (kept_of skips (definitions_of us) a.n ps)) a) tables
    ∙ ap (λ ds. progress_after_effects scn (effects (assembled ts by) (kept_of skips ds a.n ps)) a) (definitions_assembled ts by)
    ∙ ap (λ s. progress_after_effects scn s a) is

pub misses : (skips : List Skip) (scn : ℕ) (ps : List Placed) (a : FoldState) (ts : List TableRow) (by : RowsById) (m : Missed) →
    a.tables ≡ assembled ts by → nat_lt a.made a.n ≡ false →
    effects (assembled ts by) (kept_of skips ts a.n ps) ≡ Err m →
    Ended (held_at a (Mismatch scn m.pos m.table m.miss)) ≡ progress_after_commit skips scn ps a
misses skips scn ps a ts by m tables next is = sym (applies_next skips scn ps a ts by (Err m) tables next is)

not_false : (b : Bool) → not b ≡ false → b ≡ true
not_false true e = refl
not_false false e = absurd (cc)

not_true : (b : Bool) → not b ≡ true → b ≡ false
not_true true e = absurd (cc)
not_true false e = refl

pub over_limit : (skips : List Skip) (scn : ℕ) (ps : List Placed) (a : FoldState) (ts : List TableRow) (by : RowsById)
    (ws : List Write) (left : Tables) → a.tables ≡ assembled ts by → nat_lt a.made a.n ≡ false →
    effects (assembled ts by) (kept_of skips ts a.n ps) ≡ Ok (overlaid (assembled ts by) ws) →
    not (nat_lt live_row_limit (row_count (overlaid (assembled ts by) ws))) ≡ false → left ≡ assembled ts by →
    Ended (held_at (record a { tables = left }) (RowLimit scn)) ≡ progress_after_commit skips scn ps a
over_limit skips scn ps a ts by ws left tables next is many same =
    ap (λ us. Ended (held_at (record a { tables = us }) (RowLimit scn))) (same ∙ sym tables)
    ∙ ap (λ b. progress_or_end (cond b (Some (RowLimit scn)) None) scn (overlaid (assembled ts by) ws) a) (sym (not_false _ many))
    ∙ sym (applies_next skips scn ps a ts by (Ok (overlaid (assembled ts by) ws)) tables next is)

pub goes_on : (skips : List Skip) (scn : ℕ) (ps : List Placed) (a : FoldState) (ts : List TableRow) (by : RowsById)
    (ws : List Write) (left : Tables) (waiting : RowsById) (made n : ℕ) → a.tables ≡ assembled ts by → nat_lt a.made a.n ≡ false →
    effects (assembled ts by) (kept_of skips ts a.n ps) ≡ Ok (overlaid (assembled ts by) ws) →
    not (nat_lt live_row_limit (row_count (overlaid (assembled ts by) ws))) ≡ true → left ≡ overlaid (assembled ts by) ws →
    made ≡ a.made + 1 → n ≡ a.n + 1 → waiting ≡ a.waiting →
    Going (record a { made = made; n = n; scn = scn; waiting = waiting; tables = left }) ≡
    progress_after_commit skips scn ps a
goes_on skips scn ps a ts by ws left waiting made n tables next is few same one more waits =
    (λ i. Going (record a { made = one i; n = more i; scn = scn; waiting = waits i; tables = same i }))
    ∙ ap (λ b. progress_or_end (cond b (Some (RowLimit scn)) None) scn (overlaid (assembled ts by) ws) a) (sym (not_true _ few))
    ∙ sym (applies_next skips scn ps a ts by (Ok (overlaid (assembled ts by) ws)) tables next is)

pub not_below : (made n : ℕ) → n ≤ made → nat_lt made n ≡ false
not_below made n h = grind (arith, nat_tests, h)
