-- A mark that owes none of the commits up to a count owes none up to a smaller one: COMMITs stand in the order of their commits.
use Rattle.std.proofs.Common.{◌≡◌, ℕ, zero, suc, ◌+◌, ◌-◌, ◌*◌, ◌/◌, ◌≤◌, ◌<◌, nat_lt, List, [], ◌∷◌, ◌++◌, length, map, slice_get, true, false, refl, sym, subst, Option, Some, None, arith}
use Rattle.std.specs.Prelude.{if◌then◌else◌, ⊤}
use Rattle.std.specs.List.{AllByRecursion}
use Rattle.std.specs.Option.{option_map_or}
use Rattle.std.proofs.lemmas.Bool.Decides.{nat_tests}
use Rattle.std.proofs.lemmas.Nat.{le-div}
use Rattle.std.proofs.Math.Nat.{div-mul-le_self, mul-div-le, mul-le-mul_left}
use Rattle.rl_value.specs.declared.pos.Pos.{Pos}
use Rattle.redo_vec.specs.declared.vector.Vector.{Vector}
use Rattle.redo_vec.specs.declared.vector.Vector.TheVariants.{Start, Change as OfChange, Undo, Commit, Rollback, Table, DictEnd}
use Rattle.redo_spec.specs.History.{Entry, Txn, Committed, History, commit_count, no_history, txns_ended_by, after_vector, after_vectors, history_after}
use Rattle.redo_spec.specs.Law.{admission}
use Rattle.redo_spec.specs.Standing.{Standing, beginning}
use Rattle.redo_spec.proofs.ListLaws.{all_append, all_weaker}
use Rattle.redo_spec.proofs.AdmissionLaws.{rec_after_record}
use Rattle.redo_spec.proofs.MarkHistories.{committed}
use Rattle.standby_spec.specs.declared.mark.Mark.{Mark}
use Rattle.standby_spec.specs.KeptState.{KeptState}
use Rattle.standby_spec.specs.StandbyRedo.{Archived, redo_entries, commits_of}
use Rattle.standby_spec.proofs.OverLaws.{admitted-before}
use Rattle.run_spec.specs.RunEnd.{IsPast, IsFreeMark, commit_record}
use Rattle.run_spec.proofs.Beside.{kept}

-- ---- commits in the order of their records

-- each COMMIT stands in the record of the one before, or later
abbrev AreInOrder : List Committed → Type 0
AreInOrder [] = ⊤
AreInOrder (c ∷ cs) = AllByRecursion (λ d. c.at.rec ≤ d.at.rec) cs × AreInOrder cs

order-append : (m : ℕ) (xs ys : List Committed) → AreInOrder xs → AllByRecursion (λ c. c.at.rec ≤ m) xs → AreInOrder ys →
    AllByRecursion (λ c. m ≤ c.at.rec) ys → AreInOrder (xs ++ ys)
order-append m [] ys one low two high = two
order-append m (x ∷ xs) ys one low two high =
    let here = low.0 in (
      all_append (λ (d : Committed). x.at.rec ≤ d.at.rec) xs ys one.0
          (all_weaker (λ (d : Committed). m ≤ d.at.rec) (λ (d : Committed). x.at.rec ≤ d.at.rec)
          (λ d is. omega (arith, here, is)) ys high),
      order-append m xs ys one.1 low.1 two high,
    )

-- commits of one record
same-low : (scn : ℕ) (at : Pos) (ts : List Txn) → AllByRecursion (λ c. at.rec ≤ c.at.rec) (map (committed at scn) ts)
same-low scn at [] = tt
same-low scn at (t ∷ ts) = (omega arith, same-low scn at ts)

same-order : (scn : ℕ) (at : Pos) (ts : List Txn) → AreInOrder (map (committed at scn) ts)
same-order scn at [] = tt
same-order scn at (t ∷ ts) = (same-low scn at ts, same-order scn at ts)

same-high : (m scn : ℕ) (at : Pos) (ts : List Txn) → at.rec ≤ m → AllByRecursion (λ c. c.at.rec ≤ m) (map (committed at scn) ts)
same-high m scn at [] within = tt
same-high m scn at (t ∷ ts) within = (within, same-high m scn at ts within)

record InOrder (m : ℕ) (h : History) : Type 0 where
  order : AreInOrder h.commits.made
  within : AllByRecursion (λ c. c.at.rec ≤ m) h.commits.made

order-vector : (scn : ℕ) (at : Pos) (v : Vector) (h : History) → InOrder at.rec h → InOrder at.rec (after_vector scn at v h)
order-vector scn at (Start x) h o = record { order = o.order; within = o.within }
order-vector scn at (OfChange c) h o = record { order = o.order; within = o.within }
order-vector scn at (Undo x) h o = record { order = o.order; within = o.within }
order-vector scn at (Commit x) h o =
    let ended = txns_ended_by at x h.active in
    record {
      order = order-append at.rec h.commits.made (map (committed at scn) ended) o.order o.within (same-order scn at ended)
          (same-low scn at ended);
      within = all_append (λ (c : Committed). c.at.rec ≤ at.rec) h.commits.made (map (committed at scn) ended) o.within
          (same-high at.rec scn at ended (omega arith));
    }
order-vector scn at (Rollback x) h o = record { order = o.order; within = o.within }
order-vector scn at (Table t) h o = o
order-vector scn at DictEnd h o = o

order-vectors : (scn rec vec : ℕ) (vs : List Vector) (h : History) → InOrder rec h →
    InOrder rec (after_vectors scn rec vec vs h)
order-vectors scn rec vec [] h o = o
order-vectors scn rec vec (v ∷ vs) h o =
    let at : Pos = record { rec = rec; vec = vec } in
    order-vectors scn rec (vec + 1) vs (after_vector scn at v h) (order-vector scn at v h o)

record StandsInOrder (s : Standing) (h : History) : Type 0 where
  is : InOrder s.rec h

order-record : (e : Entry) (s : Standing) (h : History) → InOrder s.rec h → InOrder (s.rec + 1) (history_after (s.rec + 1) e h)
order-record (head, r) s h o =
    order-vectors r.scn (s.rec + 1) 1 r.vectors h (record {
      order = o.order;
      within = all_weaker (λ (c : Committed). c.at.rec ≤ s.rec) (λ (c : Committed). c.at.rec ≤ s.rec + 1)
          (λ c is. omega (arith, is)) h.commits.made o.within;
    })

order-all : (es : List Entry) (s : Standing) (h : History) → StandsInOrder s h →
    StandsInOrder (admission s h es).standing (admission s h es).history
order-all =
    kept StandsInOrder (λ e s h here fits. record {
      is = subst (λ j. InOrder j (history_after (s.rec + 1) e h)) (sym (rec_after_record e s)) (order-record e s h here.is);
    })

commits-ordered : (logs : Archived) (s : KeptState) → AreInOrder (commits_of logs s).made
commits-ordered logs s =
    (order-all (redo_entries logs s) (beginning s.first s.base) (no_history 0)
    (record { is = record { order = tt; within = tt } })).is.order

-- ---- the records of two commits

slice-all : (m : ℕ) (xs : List Committed) (j : ℕ) → AllByRecursion (λ d. m ≤ d.at.rec) xs → j < length xs →
    m ≤ option_map_or (λ c. c.at.rec) (slice_get xs j) 0
slice-all m [] j all inside = absurd (omega (arith, inside))
slice-all m (x ∷ xs) zero all inside = all.0
slice-all m (x ∷ xs) (suc j) all inside = slice-all m xs j all.1 (omega (arith, inside))

slice-order : (xs : List Committed) (i j : ℕ) → AreInOrder xs → i ≤ j → j < length xs →
    option_map_or (λ c. c.at.rec) (slice_get xs i) 0 ≤ option_map_or (λ c. c.at.rec) (slice_get xs j) 0
slice-order [] i j order low inside = absurd (omega (arith, inside))
slice-order (x ∷ xs) zero zero order low inside = omega arith
slice-order (x ∷ xs) zero (suc j) order low inside = slice-all x.at.rec xs j order.0 (omega (arith, inside))
slice-order (x ∷ xs) (suc i) zero order low inside = absurd (omega (arith, low))
slice-order (x ∷ xs) (suc i) (suc j) order low inside = slice-order xs i j order.1 (omega (arith, low)) (omega (arith, inside))

record-order : (logs : Archived) (s : KeptState) (low high : ℕ) → 1 ≤ low → low ≤ high → high ≤ commit_count (commits_of logs s) →
    commit_record (commits_of logs s) low ≤ commit_record (commits_of logs s) high
record-order logs s low high some less few =
    let cs = commits_of logs s in
    let none : cs.before ≡ 0 = admitted-before (beginning s.first s.base) (no_history 0) (redo_entries logs s) in
    slice-order cs.made (low - (cs.before + 1)) (high - (cs.before + 1)) (commits-ordered logs s) (omega (arith, less))
    (omega (arith, none, some, less, few))

-- ---- fewer commits owe no more

lower : (x m n : ℕ) → x ≤ m → m ≤ n → x ≤ n
lower x m n one two = omega (arith, one, two)

fewer-multiples : (d m n : ℕ) → 0 < d → m ≤ n → d * (m / d) ≤ d * (n / d)
fewer-multiples d m n some low =
    mul-le-mul_left d (le-div (m / d) n d some (lower ((m / d) * d) m n (div-mul-le_self m d) low))

past-mark : (logs : Archived) (s : KeptState) (low high : ℕ) (mark : Option Mark) → low ≤ high →
    high ≤ commit_count (commits_of logs s) → 1 ≤ low → IsPast (commits_of logs s) (Some high) mark →
    IsPast (commits_of logs s) (Some low) mark
past-mark logs s low high None less few some past = past
past-mark logs s low high (Some k) less few some past =
    let rises = record-order logs s low high some less few in omega (arith, rises, past)

past-at : (logs : Archived) (s : KeptState) (low high : ℕ) (mark : Option Mark) → low ≤ high →
    high ≤ commit_count (commits_of logs s) →
    IsPast (commits_of logs s) (if nat_lt s.n high then Some high else None) mark →
    IsPast (commits_of logs s) (if nat_lt s.n low then Some low else None) mark
past-at logs s low high mark less few past =
    elim (nat_lt s.n low) as (λ t. nat_lt s.n low ≡ t → IsPast (commits_of logs s) (if t then Some low else None) mark) [
      | false ↦ λ is. tt
      | true ↦ λ is.
          let above : s.n < low = grind (arith, nat_tests, is) in
          let both : nat_lt s.n high ≡ true = grind (arith, nat_tests, above, less) in
          past-mark logs s low high mark less few (omega (arith, above))
          (subst (λ t. IsPast (commits_of logs s) (if t then Some high else None) mark) both past)
    ] refl

-- a mark that owes none up to a count of the redo owes none up to a smaller one
pub owes-less : (logs : Archived) (distance : ℕ) (s : KeptState) (n low high : ℕ) (mark : Option Mark) → 0 < distance →
    low ≤ high →
    high ≤ commit_count (commits_of logs s) → IsFreeMark logs distance s n high mark → IsFreeMark logs distance s n low mark
owes-less logs distance s n low high mark some less few free = record {
  is_mark = free.is_mark;
  past = past-at logs s (distance * (low / distance)) (distance * (high / distance)) mark
      (fewer-multiples distance low high some less)
      (lower (distance * (high / distance)) high (commit_count (commits_of logs s)) (mul-div-le high distance) few) free.past;
}
