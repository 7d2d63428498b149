-- The transactions of a workload end one after another, in the order of their numbers, each once.
use Rattle.std.proofs.Common.{◌≡◌, ℕ, zero, suc, ◌+◌, ◌-◌, ◌*◌, ◌<◌, ◌≤◌, Bool, true, false, List, [], ◌∷◌, ◌++◌, length, map, Option, Some, None, refl, sym, ap, ◌∙◌, append-nil, arith, ltb-true, ltb-false, leb-true, leb-false, le-leb}
use Rattle.std.specs.Prelude.{nat_le, nat_lt, if◌then◌else◌}
use Rattle.std.specs.List.{flat_map}
use Rattle.std.specs.Option.{option_to_list}
use Rattle.std.proofs.lemmas.Bool.{lt-leb}
use Rattle.std.proofs.lemmas.Grind.{flat_map-append}
use Rattle.redo_vec.specs.declared.vector.Vector.{Vector}
use Rattle.redo_vec.specs.declared.vector.Vector.TheVariants.{Commit, Rollback}
use Rattle.workload.specs.declared.drawing.Drawing.{Drawing}
use Rattle.workload.specs.declared.drawing.Step.{Step}
use Rattle.workload.specs.declared.pair.Pair.{Pair}
use Rattle.workload.specs.declared.left.Left.{Left}
use Rattle.workload.specs.Draws.{next_state}
use Rattle.workload.specs.Accounts.{xid_of, dictionary_vectors}
use Rattle.workload.specs.Pairs.{drawing_of, change_drawn, is_rolled_back, end_vector, members, starts, with_b, changes_drawn, records_drawn, change_records, end_with_b, ends_made, pair_of, pair_made}
use Rattle.workload.specs.Workload.{pairs_made, at_scns, pair_count, first_pair, log_made, logs_made, log_count, left_begun, workload_logs}
use Rattle.workload.specs.Ends.{ended_by, ended_in, ended_in_record, ended_in_logs, counted_up}

abbrev Bodies : Type 0
Bodies = List (List Vector)

-- ---- numbers that count up

counted_more : (from m n : ℕ) → counted_up from m ++ counted_up (from + m) n ≡ counted_up from (m + n)
counted_more from zero n =
    let here : from + 0 ≡ from = omega arith in
    let none : 0 + n ≡ n = omega arith in
    ap (λ (k : ℕ). counted_up k n) here ∙ ap (λ (k : ℕ). counted_up from k) (sym none)
counted_more from (suc m) n =
    let next : from + suc m ≡ from + 1 + m = omega arith in
    let more : suc m + n ≡ suc (m + n) = omega arith in
    ap (λ (k : ℕ). from ∷ (counted_up (from + 1) m ++ counted_up k n)) next
    ∙ ap (λ (ks : List ℕ). from ∷ ks) (counted_more (from + 1) m n)
    ∙ ap (λ (k : ℕ). counted_up from k) (sym more)

-- two stretches of numbers of which the second follows the first
counted_both : (a m b n k : ℕ) → b ≡ a + m → m + n ≡ k → counted_up a m ++ counted_up b n ≡ counted_up a k
counted_both a m b n k follows sum =
    ap (λ (c : ℕ). counted_up a m ++ counted_up c n) follows ∙ counted_more a m n ∙ ap (λ (c : ℕ). counted_up a c) sum

-- ---- a record of changes ends none, and leaves the numbers

abbrev numbers : Pair → List ℕ
numbers p = map (λ t. t.number) (members p)

change_ends_none : (x y : ℕ) (t : Drawing) → ended_by (change_drawn x y t).vector ≡ []
unfolding change_drawn
change_ends_none x y t = refl

change_keeps : (x y : ℕ) (t : Drawing) → (change_drawn x y t).after.number ≡ t.number
unfolding change_drawn
change_keeps x y t = refl

with_b_ends_none : (x : ℕ) (a : Step) (b : Option Drawing) → ended_by a.vector ≡ [] → ended_in (with_b x a b).vectors ≡ []
with_b_ends_none x a None h = ap (λ (q : List ℕ). q ++ []) h
with_b_ends_none x a (Some t) h =
    let y = next_state x in
    let s = change_drawn y (next_state y) t in
    ap (λ (q : List ℕ). q ++ (ended_by s.vector ++ [])) h ∙ ap (λ (q : List ℕ). q ++ []) (change_ends_none y (next_state y) t)

with_b_keeps : (x : ℕ) (a : Step) (b : Option Drawing) →
    numbers (with_b x a b).pair ≡ a.after.number ∷ map (λ t. t.number) (option_to_list b)
with_b_keeps x a None = refl
with_b_keeps x a (Some t) =
    let y = next_state x in
    ap (λ (n : ℕ). a.after.number ∷ n ∷ []) (change_keeps y (next_state y) t)

changes_end_none : (x : ℕ) (p : Pair) → ended_in (changes_drawn x p).vectors ≡ []
unfolding changes_drawn
changes_end_none x p =
    let y = next_state x in
    let z = next_state y in
    with_b_ends_none z (change_drawn y z p.a) p.b (change_ends_none y z p.a)

changes_keep : (x : ℕ) (p : Pair) → numbers (changes_drawn x p).pair ≡ numbers p
unfolding changes_drawn
changes_keep x p =
    let y = next_state x in
    let z = next_state y in
    with_b_keeps z (change_drawn y z p.a) p.b
    ∙ ap (λ (n : ℕ). n ∷ map (λ t. t.number) (option_to_list p.b)) (change_keeps y z p.a)

records_end_none : (count x : ℕ) (p : Pair) → flat_map ended_in (records_drawn count x p).bodies ≡ []
records_end_none zero x p = refl
records_end_none (suc count) x p =
    let d = changes_drawn x p in
    ap (λ (q : List ℕ). q ++ flat_map ended_in (records_drawn count d.x d.pair).bodies) (changes_end_none x p)
    ∙ records_end_none count d.x d.pair

records_keep : (count x : ℕ) (p : Pair) → numbers (records_drawn count x p).pair ≡ numbers p
records_keep zero x p = refl
records_keep (suc count) x p =
    let d = changes_drawn x p in
    records_keep count d.x d.pair ∙ changes_keep x p

-- ---- the ends of a pair

chosen_end : (t : Bool) (number : ℕ) → ended_by (if t then Rollback (xid_of number) else Commit (xid_of number)) ≡ number ∷ []
chosen_end true number = refl
chosen_end false number = refl

one_end : (x number : ℕ) → ended_in (end_vector x number ∷ []) ≡ number ∷ []
unfolding end_vector
one_end x number = ap (λ (q : List ℕ). q ++ []) (chosen_end (is_rolled_back x) number)

ends_by : (y : ℕ) (a : Drawing) (b : Option Drawing) (even : List ℕ) →
    flat_map ended_in (end_with_b y a b even).bodies ≡ a.number ∷ map (λ t. t.number) (option_to_list b)
ends_by y a None even = ap (λ (q : List ℕ). q ++ []) (one_end y a.number)
ends_by y a (Some b) even =
    let z = next_state y in
    ap (λ (q : List ℕ). q ++ (ended_in (end_vector z b.number ∷ []) ++ [])) (one_end y a.number)
    ∙ ap (λ (q : List ℕ). a.number ∷ (q ++ [])) (one_end z b.number)

ends_end : (x : ℕ) (p : Pair) (even : List ℕ) → flat_map ended_in (ends_made x p even).bodies ≡ numbers p
unfolding ends_made
ends_end x p even = ends_by (next_state x) p.a p.b even

starts_by : (a : Drawing) (b : Option Drawing) → ended_in (starts (record { a = a; b = b })) ≡ []
starts_by a None = refl
starts_by a (Some b) = refl

pair_ends : (txns p : ℕ) (l : Left) → flat_map ended_in (pair_made txns p l).bodies ≡ numbers (pair_of txns p l)
unfolding pair_made
pair_ends txns p l =
    let q = pair_of txns p l in
    let c = records_drawn (change_records p) l.x q in
    let m = ends_made c.x c.pair l.even in
    ap (λ (r : List ℕ). r ++ flat_map ended_in (c.bodies ++ m.bodies)) (starts_by q.a q.b)
    ∙ flat_map-append ended_in c.bodies m.bodies
    ∙ ap (λ (r : List ℕ). r ++ flat_map ended_in m.bodies) (records_end_none (change_records p) l.x q)
    ∙ ends_end c.x c.pair l.even
    ∙ records_keep (change_records p) l.x q

seconds : (t : Bool) (p : ℕ) (even : List ℕ) →
    map (λ s. s.number) (option_to_list (if t then Some (drawing_of (2 * p) 2 even) else None)) ≡ (if t then 2 * p ∷ [] else [])
seconds true p even = refl
seconds false p even = refl

pair_numbers : (txns p : ℕ) (l : Left) →
    flat_map ended_in (pair_made txns p l).bodies ≡ (2 * p - 1) ∷ (if nat_le (2 * p) txns then 2 * p ∷ [] else [])
pair_numbers txns p l = pair_ends txns p l ∙ ap (λ (ns : List ℕ). (2 * p - 1) ∷ ns) (seconds (nat_le (2 * p) txns) p l.even)

pair_full : (txns p : ℕ) (l : Left) → 1 ≤ p → 2 * p ≤ txns →
    flat_map ended_in (pair_made txns p l).bodies ≡ counted_up (2 * p - 1) 2
pair_full txns p l some there =
    let next : 2 * p ≡ 2 * p - 1 + 1 = omega arith in
    pair_numbers txns p l
    ∙ ap (λ (t : Bool). (2 * p - 1) ∷ (if t then 2 * p ∷ [] else [])) (le-leb (2 * p) txns there)
    ∙ ap (λ (n : ℕ). (2 * p - 1) ∷ n ∷ []) next

pair_alone : (txns p : ℕ) (l : Left) → 2 * p ≡ txns + 1 →
    flat_map ended_in (pair_made txns p l).bodies ≡ counted_up (2 * p - 1) 1
pair_alone txns p l last =
    let above : txns < 2 * p = omega arith in
    pair_numbers txns p l
    ∙ ap (λ (t : Bool). (2 * p - 1) ∷ (if t then 2 * p ∷ [] else [])) (lt-leb (2 * p) txns above)

-- ---- pairs

full_pairs : (txns count p : ℕ) (l : Left) → 1 ≤ p → 2 * (p + count) ≤ txns + 2 →
    flat_map ended_in (pairs_made txns count p l).bodies ≡ counted_up (2 * p - 1) (2 * count)
full_pairs txns zero p l some there = refl
full_pairs txns (suc count) p l some there =
    let m = pair_made txns p l in
    let rest = pairs_made txns count (p + 1) m.left in
    flat_map-append ended_in m.bodies rest.bodies
    ∙ ap (λ (ns : List ℕ). ns ++ flat_map ended_in rest.bodies) (pair_full txns p l some (omega arith))
    ∙ ap (λ (ns : List ℕ). counted_up (2 * p - 1) 2 ++ ns) (full_pairs txns count (p + 1) m.left (omega arith) (omega arith))
    ∙ counted_both (2 * p - 1) 2 (2 * (p + 1) - 1) (2 * count) (2 * suc count) (omega arith) (omega arith)

last_pairs : (txns count p : ℕ) (l : Left) → 1 ≤ p → 2 * (p + suc count) ≡ txns + 3 →
    flat_map ended_in (pairs_made txns (suc count) p l).bodies ≡ counted_up (2 * p - 1) (2 * count + 1)
last_pairs txns zero p l some there =
    let m = pair_made txns p l in
    flat_map-append ended_in m.bodies [] ∙ append-nil (flat_map ended_in m.bodies) ∙ pair_alone txns p l (omega arith)
last_pairs txns (suc count) p l some there =
    let m = pair_made txns p l in
    let rest = pairs_made txns (suc count) (p + 1) m.left in
    flat_map-append ended_in m.bodies rest.bodies
    ∙ ap (λ (ns : List ℕ). ns ++ flat_map ended_in rest.bodies) (pair_full txns p l some (omega arith))
    ∙ ap (λ (ns : List ℕ). counted_up (2 * p - 1) 2 ++ ns) (last_pairs txns count (p + 1) m.left (omega arith) (omega arith))
    ∙ counted_both (2 * p - 1) 2 (2 * (p + 1) - 1) (2 * count + 1) (2 * suc count + 1) (omega arith) (omega arith)

-- all pairs from this one on
rest_by : (t : Bool) (txns count p : ℕ) (l : Left) → nat_le (2 * pair_count txns) txns ≡ t → 1 ≤ p →
    p + suc count ≡ pair_count txns + 1 →
    flat_map ended_in (pairs_made txns (suc count) p l).bodies ≡ counted_up (2 * p - 1) (txns + 2 - 2 * p)
rest_by true txns count p l e some all =
    let even : 2 * pair_count txns ≤ txns = leb-true (2 * pair_count txns) txns e in
    let size : 2 * suc count ≡ txns + 2 - 2 * p = omega arith in
    full_pairs txns (suc count) p l some (omega arith) ∙ ap (λ (k : ℕ). counted_up (2 * p - 1) k) size
rest_by false txns count p l e some all =
    let odd : txns < 2 * pair_count txns = leb-false (2 * pair_count txns) txns e in
    let size : 2 * count + 1 ≡ txns + 2 - 2 * p = omega arith in
    last_pairs txns count p l some (omega arith) ∙ ap (λ (k : ℕ). counted_up (2 * p - 1) k) size

rest_of_pairs : (txns count p : ℕ) (l : Left) → 1 ≤ p → p + count ≡ pair_count txns + 1 → p ≤ pair_count txns →
    flat_map ended_in (pairs_made txns count p l).bodies ≡ counted_up (2 * p - 1) (txns + 2 - 2 * p)
rest_of_pairs txns zero p l some all there = absurd (omega arith)
rest_of_pairs txns (suc count) p l some all there = rest_by (nat_le (2 * pair_count txns) txns) txns count p l refl some all

-- ---- a log

-- these records end transactions from the first one of the log of this sequence on, and with those of later logs all are ended
record LogEnds (txns seq : ℕ) (bodies : Bodies) : Type 0 where
  size : ℕ
  ended : flat_map ended_in bodies ≡ counted_up (2000 * (seq - 1) + 1) size
  more : counted_up (2000 * (seq - 1) + 1) size ++ counted_up (2000 * seq + 1) (txns - 2000 * seq)
      ≡ counted_up (2000 * (seq - 1) + 1) (txns - 2000 * (seq - 1))

log_by : (t : Bool) (txns seq : ℕ) (l : Left) → nat_lt (seq * 1000) (pair_count txns) ≡ t → 1 ≤ seq → seq ≤ log_count txns →
    LogEnds txns seq
    (pairs_made txns ((if t then seq * 1000 else pair_count txns) + 1 - first_pair seq) (first_pair seq) l).bodies
log_by true txns seq l e some there =
    let full : seq * 1000 < pair_count txns = ltb-true (seq * 1000) (pair_count txns) e in
    let count = seq * 1000 + 1 - first_pair seq in
    let from : 2 * first_pair seq - 1 ≡ 2000 * (seq - 1) + 1 = omega arith in
    record {
      size = 2 * count;
      ended = full_pairs txns count (first_pair seq) l (omega arith) (omega arith)
          ∙ ap (λ (k : ℕ). counted_up k (2 * count)) from;
      more = counted_both (2000 * (seq - 1) + 1) (2 * count) (2000 * seq + 1) (txns - 2000 * seq) (txns - 2000 * (seq - 1))
          (omega arith) (omega arith);
    }
log_by false txns seq l e some there =
    let short : pair_count txns ≤ seq * 1000 = ltb-false (seq * 1000) (pair_count txns) e in
    let count = pair_count txns + 1 - first_pair seq in
    let from : 2 * first_pair seq - 1 ≡ 2000 * (seq - 1) + 1 = omega arith in
    let size : txns + 2 - 2 * first_pair seq ≡ txns - 2000 * (seq - 1) = omega arith in
    let none : txns - 2000 * seq ≡ 0 = omega arith in
    record {
      size = txns - 2000 * (seq - 1);
      ended = rest_of_pairs txns count (first_pair seq) l (omega arith) (omega arith) (omega arith)
          ∙ ap (λ (k : ℕ). counted_up k (txns + 2 - 2 * first_pair seq)) from
          ∙ ap (λ (k : ℕ). counted_up (2000 * (seq - 1) + 1) k) size;
      more = ap (λ (k : ℕ). counted_up (2000 * (seq - 1) + 1) (txns - 2000 * (seq - 1)) ++ counted_up (2000 * seq + 1) k) none
          ∙ append-nil (counted_up (2000 * (seq - 1) + 1) (txns - 2000 * (seq - 1)));
    }

log_ends : (txns seq : ℕ) (l : Left) → 1 ≤ seq → seq ≤ log_count txns → LogEnds txns seq (log_made txns seq l).bodies
log_ends txns seq l some there = log_by (nat_lt (seq * 1000) (pair_count txns)) txns seq l refl some there

at_scns_end : (scn : ℕ) (bodies : Bodies) → flat_map ended_in_record (at_scns scn bodies) ≡ flat_map ended_in bodies
at_scns_end scn [] = refl
at_scns_end scn (b ∷ bs) = ap (λ (ns : List ℕ). ended_in b ++ ns) (at_scns_end (scn + 1) bs)

-- ---- all logs

logs_end : (txns count seq first : ℕ) (front : Bodies) (l : Left) → 1 ≤ seq → seq + count ≡ log_count txns + 1 →
    flat_map ended_in front ≡ [] → ended_in_logs (logs_made txns count seq first front l)
    ≡ counted_up (2000 * (seq - 1) + 1) (txns - 2000 * (seq - 1))
logs_end txns zero seq first front l some all begun =
    let none : txns - 2000 * (seq - 1) ≡ 0 = omega arith in
    sym (ap (λ (k : ℕ). counted_up (2000 * (seq - 1) + 1) k) none)
logs_end txns (suc count) seq first front l some all begun =
    let m = log_made txns seq l in
    let bodies = front ++ m.bodies in
    let h = log_ends txns seq l some (omega arith) in
    let back : seq + 1 - 1 ≡ seq = omega arith in
    ap (λ (ns : List ℕ). ns ++ ended_in_logs (logs_made txns count (seq + 1) (first + length bodies) [] m.left))
    (at_scns_end first bodies ∙ flat_map-append ended_in front m.bodies
    ∙ ap (λ (ns : List ℕ). ns ++ flat_map ended_in m.bodies) begun ∙ h.ended)
    ∙ ap (λ (ns : List ℕ). counted_up (2000 * (seq - 1) + 1) h.size ++ ns)
    (logs_end txns count (seq + 1) (first + length bodies) [] m.left (omega arith) (omega arith) refl
    ∙ ap (λ (k : ℕ). counted_up (2000 * k + 1) (txns - 2000 * k)) back)
    ∙ h.more

dictionary_ends_none : flat_map ended_in (dictionary_vectors ∷ []) ≡ []
unfolding dictionary_vectors
dictionary_ends_none = refl

-- each transaction of a workload ends once, in the order of their numbers
pub all_ended : (seed txns : ℕ) → ended_in_logs (workload_logs seed txns) ≡ counted_up 1 txns
unfolding workload_logs
all_ended seed txns =
    let whole : txns - 2000 * (1 - 1) ≡ txns = omega arith in
    logs_end txns (log_count txns) 1 1 (dictionary_vectors ∷ []) (left_begun seed) (omega arith) (omega arith)
    dictionary_ends_none
    ∙ ap (λ (k : ℕ). counted_up 1 k) whole
