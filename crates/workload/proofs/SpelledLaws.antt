-- Each log of a workload has a spelling. A balance rises by at most 100 with each record of changes, a pair has at most 403
-- records and a log at most 1,000 pairs, so balances, SCNs and counts stay far below their limits.
use Rattle.std.proofs.Common.{◌≡◌, ℕ, zero, suc, ◌+◌, ◌-◌, ◌*◌, ◌%◌, ◌^◌, ◌<◌, ◌≤◌, Bool, true, false, List, [], ◌∷◌, ◌++◌, length, set, replicate, Option, Some, None, refl, arith, length-append, ltb-true, ltb-false, leb-true}
use Rattle.std.specs.Prelude.{◌==◌, nat_le, nat_lt, if◌then◌else◌}
use Rattle.std.specs.List.{AllByRecursion}
use Rattle.redo_vec.specs.declared.vector.Vector.{Vector}
use Rattle.redo_vec.specs.declared.vector.Vector.TheVariants.{Commit, Rollback}
use Rattle.redo_vec.specs.Ranges.{IsValue, IsXid, IsChange, IsTable, IsVector, IsRecord}
use Rattle.redo_vec.specs.Spelling.{vector}
use Rattle.redo_spec.specs.Log.{IsLog}
use Rattle.workload.specs.declared.drawing.Drawing.{Drawing}
use Rattle.workload.specs.declared.drawing.Step.{Step}
use Rattle.workload.specs.declared.pair.Pair.{Pair}
use Rattle.workload.specs.declared.left.Left.{Left}
use Rattle.workload.specs.Draws.{next_state, drawn}
use Rattle.workload.specs.Balances.{no_balances, balance_of}
use Rattle.workload.specs.Accounts.{accounts, dictionary_vectors, xid_of, natural, opening, paying_in}
use Rattle.workload.specs.Pairs.{Bodies, Made, drawing_of, change_drawn, is_rolled_back, end_vector, balances_after, starts, with_b, changes_drawn, records_drawn, change_records, end_with_b, ends_made, pair_of, pair_made}
use Rattle.workload.specs.Workload.{pairs_made, at_scns, log_of, pair_count, first_pair, last_pair, log_made, logs_made, log_count, left_begun, workload_logs}
use Rattle.workload.specs.Texts.{record_size}
use Rattle.workload.proofs.LogLaws.{length-at_scns}
use Rattle.workload.proofs.SizeLaws.{change_short, with_b_short, starts_short, end_short, dictionary_short}

each-append : {A : Type 0} (P : A → Type 0) (xs ys : List A) → AllByRecursion P xs → AllByRecursion P ys →
    AllByRecursion P (xs ++ ys)
each-append P [] ys p q = q
each-append P (x ∷ xs) ys p q = (p.0, each-append P xs ys p.1 q)

-- ---- balances

-- no balance is above this number
abbrev AreWithin : ℕ → List ℕ → Type 0
AreWithin m balances = AllByRecursion (λ b. b ≤ m) balances

within_more : (m k : ℕ) (balances : List ℕ) → m ≤ k → AreWithin m balances → AreWithin k balances
within_more m k [] le ok = tt
within_more m k (b ∷ bs) le ok = let first : b ≤ m = ok.0 in (omega arith, within_more m k bs le ok.1)

within_set : (m : ℕ) (balances : List ℕ) (place balance : ℕ) → balance ≤ m → AreWithin m balances →
    AreWithin m (set balances place balance)
within_set m [] place balance le ok = tt
within_set m (b ∷ bs) zero balance le ok = (le, ok.1)
within_set m (b ∷ bs) (suc place) balance le ok = (ok.0, within_set m bs place balance le ok.1)

balance_within : (m : ℕ) (balances : List ℕ) (place : ℕ) → AreWithin m balances → balance_of balances place ≤ m
balance_within m [] place ok = omega arith
balance_within m (b ∷ bs) zero ok = ok.0
balance_within m (b ∷ bs) (suc place) ok = balance_within m bs place ok.1

zeros_within : (m count : ℕ) → AreWithin m (replicate count 0)
zeros_within m zero = tt
zeros_within m (suc count) = (omega arith, zeros_within m count)

none_within : (m : ℕ) → AreWithin m no_balances
unfolding no_balances
none_within m = zeros_within m 500

chosen_within : (m : ℕ) (t : Bool) (before seen : List ℕ) → AreWithin m before → AreWithin m seen →
    AreWithin m (if t then before else seen)
chosen_within m true before seen p q = p
chosen_within m false before seen p q = q

-- ---- one transaction

-- its number fits, and so do its balances
record IsDrawing (m : ℕ) (t : Drawing) : Type 0 where
  number : t.number < 2 ^ 32
  least : t.least ≤ 2
  before : AreWithin m t.before
  seen : AreWithin m t.seen

drawing_more : (m k : ℕ) (t : Drawing) → m ≤ k → IsDrawing m t → IsDrawing k t
drawing_more m k t le ok = record {
  number = ok.number;
  least = ok.least;
  before = within_more m k t.before le ok.before;
  seen = within_more m k t.seen le ok.seen;
}

drawing_is : (m number least : ℕ) (balances : List ℕ) → number < 2 ^ 32 → least ≤ 2 → AreWithin m balances →
    IsDrawing m (drawing_of number least balances)
drawing_is m number least balances low small ok = record { number = low; least = small; before = ok; seen = ok }

value_is : (k : ℕ) → k < 2 ^ 63 → IsValue (natural k)
value_is k low = record { sfits = low }

xid_is : (number : ℕ) → number < 2 ^ 32 → IsXid (xid_of number)
xid_is number low = record { usn = omega arith; slot = omega arith; sqn = low }

change_is : (t : Bool) (number id balance amount : ℕ) → number < 2 ^ 32 → id < 2 ^ 63 → balance + amount < 2 ^ 63 →
    IsChange (if t then opening number id amount else paying_in number id balance amount)
change_is true number id balance amount low small sum =
    let fits : amount < 2 ^ 63 = omega arith in
    record {
      xid = xid_is number low;
      table = omega arith;
      old = (refl, tt);
      new = (refl, (value_is id small, (value_is amount fits, tt)));
    }
change_is false number id balance amount low small sum =
    let fits : balance < 2 ^ 63 = omega arith in
    record {
      xid = xid_is number low;
      table = omega arith;
      old = (refl, (value_is id small, (value_is balance fits, tt)));
      new = (refl, (value_is (balance + amount) sum, tt));
    }

record IsStep (m : ℕ) (s : Step) : Type 0 where
  vector : IsVector s.vector
  after : IsDrawing m s.after

step_is : (m x y : ℕ) (t : Drawing) → IsDrawing m t → m + 100 < 2 ^ 63 → IsStep (m + 100) (change_drawn x y t)
unfolding change_drawn
step_is m x y t ok low =
    let place = drawn 500 x in
    let amount = 1 + drawn 100 y in
    let balance = balance_of t.seen place in
    let least : t.least ≤ 2 = ok.least in
    let some : balance ≤ m = balance_within m t.seen place ok.seen in
    let drawn_id : 2 * place + t.least < 2 ^ 63 = omega arith in
    let sum : balance + amount ≤ m + 100 = omega arith in
    record {
      vector = change_is (balance == 0) t.number (2 * place + t.least) balance amount ok.number drawn_id (omega arith);
      after = record {
        number = ok.number;
        least = ok.least;
        before = within_more m (m + 100) t.before (omega arith) ok.before;
        seen = within_set (m + 100) t.seen place (balance + amount) sum
            (within_more m (m + 100) t.seen (omega arith) ok.seen);
      };
    }

-- ---- the records of a pair

-- vectors of which a record that has a spelling is made
record IsBody (vectors : List Vector) : Type 0 where
  some : 1 ≤ length vectors
  most : length vectors ≤ 255
  each : AllByRecursion IsVector vectors
  size : record_size vectors ≤ 65536

abbrev IsSecond : ℕ → Option Drawing → Type 0
IsSecond m None = Unit {0}
IsSecond m (Some t) = IsDrawing m t

record IsPair (m : ℕ) (p : Pair) : Type 0 where
  a : IsDrawing m p.a
  b : IsSecond m p.b

second_more : (m k : ℕ) (b : Option Drawing) → m ≤ k → IsSecond m b → IsSecond k b
second_more m k None le ok = tt
second_more m k (Some t) le ok = drawing_more m k t le ok

pair_more : (m k : ℕ) (p : Pair) → m ≤ k → IsPair m p → IsPair k p
pair_more m k p le ok = record { a = drawing_more m k p.a le ok.a; b = second_more m k p.b le ok.b }

record AreDrawn (m : ℕ) (vectors : List Vector) (p : Pair) : Type 0 where
  body : IsBody vectors
  pair : IsPair m p

with_b_is : (m x : ℕ) (a : Step) (b : Option Drawing) → IsStep (m + 100) a → IsSecond m b → length (vector a.vector) ≤ 60 →
    m + 100 < 2 ^ 63 → AreDrawn (m + 100) (with_b x a b).vectors (with_b x a b).pair
with_b_is m x a None first second short low = record {
  body = record {
    some = omega arith;
    most = omega arith;
    each = (first.vector, tt);
    size = with_b_short x a None short;
  };
  pair = record { a = first.after; b = tt };
}
with_b_is m x a (Some t) first second short low =
    let other = step_is m (next_state x) (next_state (next_state x)) t second low in
    record {
      body = record {
        some = omega arith;
        most = omega arith;
        each = (first.vector, (other.vector, tt));
        size = with_b_short x a (Some t) short;
      };
      pair = record { a = first.after; b = other.after };
    }

changes_are : (m x : ℕ) (p : Pair) → IsPair m p → m + 100 < 2 ^ 63 →
    AreDrawn (m + 100) (changes_drawn x p).vectors (changes_drawn x p).pair
unfolding changes_drawn
changes_are m x p ok low =
    let y = next_state x in
    let z = next_state y in
    with_b_is m z (change_drawn y z p.a) p.b (step_is m y z p.a ok.a low) ok.b (change_short y z p.a) low

record AreBodies (m count : ℕ) (b : Bodies) : Type 0 where
  each : AllByRecursion IsBody b.bodies
  counted : length b.bodies ≡ count
  pair : IsPair m b.pair

records_are : (m count x : ℕ) (p : Pair) → IsPair m p → m + 100 * count < 2 ^ 63 →
    AreBodies (m + 100 * count) count (records_drawn count x p)
records_are m zero x p ok low = record { each = tt; counted = refl; pair = pair_more m (m + 100 * 0) p (omega arith) ok }
records_are m (suc count) x p ok low =
    let d = changes_drawn x p in
    let one = changes_are m x p ok (omega arith) in
    let rest = records_are (m + 100) count d.x d.pair one.pair (omega arith) in
    let counted : length (records_drawn count d.x d.pair).bodies ≡ count = rest.counted in
    record {
      each = (one.body, rest.each);
      counted = omega arith;
      pair = pair_more (m + 100 + 100 * count) (m + 100 * suc count) (records_drawn count d.x d.pair).pair (omega arith)
          rest.pair;
    }

end_is : (t : Bool) (number : ℕ) → number < 2 ^ 32 → IsVector (if t then Rollback (xid_of number) else Commit (xid_of number))
end_is true number low = xid_is number low
end_is false number low = xid_is number low

end_body : (x number : ℕ) → number < 2 ^ 32 → IsBody (end_vector x number ∷ [])
unfolding end_vector
end_body x number low = record {
  some = omega arith;
  most = omega arith;
  each = (end_is (is_rolled_back x) number low, tt);
  size = end_short x number;
}

after_within : (m x : ℕ) (t : Drawing) → IsDrawing m t → AreWithin m (balances_after x t)
unfolding balances_after
after_within m x t ok = chosen_within m (is_rolled_back x) t.before t.seen ok.before ok.seen

record IsLeft (m : ℕ) (l : Left) : Type 0 where
  odd : AreWithin m l.odd
  even : AreWithin m l.even

left_more : (m k : ℕ) (l : Left) → m ≤ k → IsLeft m l → IsLeft k l
left_more m k l le ok = record { odd = within_more m k l.odd le ok.odd; even = within_more m k l.even le ok.even }

-- at most so many records that have a spelling, and balances up to m that are left
record IsMade (m count : ℕ) (k : Made) : Type 0 where
  each : AllByRecursion IsBody k.bodies
  few : length k.bodies ≤ count
  left : IsLeft m k.left

ends_by : (m y : ℕ) (a : Drawing) (b : Option Drawing) (even : List ℕ) → IsDrawing m a → IsSecond m b → AreWithin m even →
    IsMade m 2 (end_with_b y a b even)
ends_by m y a None even first second ok = record {
  each = (end_body y a.number first.number, tt);
  few = omega arith;
  left = record { odd = after_within m y a first; even = ok };
}
ends_by m y a (Some b) even first second ok =
    let z = next_state y in
    record {
      each = (end_body y a.number first.number, (end_body z b.number second.number, tt));
      few = omega arith;
      left = record { odd = after_within m y a first; even = after_within m z b second };
    }

ends_are : (m x : ℕ) (p : Pair) (even : List ℕ) → IsPair m p → AreWithin m even → IsMade m 2 (ends_made x p even)
unfolding ends_made
ends_are m x p even ok within = ends_by m (next_state x) p.a p.b even ok.a ok.b within

starts_by : (m : ℕ) (a : Drawing) (b : Option Drawing) → IsDrawing m a → IsSecond m b → IsBody (starts (record { a = a; b = b }))
starts_by m a None first second = record {
  some = omega arith;
  most = omega arith;
  each = (xid_is a.number first.number, tt);
  size = starts_short (record { a = a; b = None });
}
starts_by m a (Some b) first second = record {
  some = omega arith;
  most = omega arith;
  each = (xid_is a.number first.number, (xid_is b.number second.number, tt));
  size = starts_short (record { a = a; b = Some b });
}

second_by : (t : Bool) (m txns p : ℕ) (even : List ℕ) → nat_le (2 * p) txns ≡ t → txns < 2 ^ 32 → AreWithin m even →
    IsSecond m (if t then Some (drawing_of (2 * p) 2 even) else None)
second_by true m txns p even e low ok =
    let there : 2 * p ≤ txns = leb-true (2 * p) txns e in
    drawing_is m (2 * p) 2 even (omega arith) (omega arith) ok
second_by false m txns p even e low ok = tt

pair_is : (m txns p : ℕ) (l : Left) → txns < 2 ^ 32 → 2 * p ≤ txns + 1 → IsLeft m l → IsPair m (pair_of txns p l)
pair_is m txns p l low last ok = record {
  a = drawing_is m (2 * p - 1) 1 l.odd (omega arith) (omega arith) ok.odd;
  b = second_by (nat_le (2 * p) txns) m txns p l.even refl low ok.even;
}

records_few : (t : Bool) → (if t then 400 else 4) ≤ 400
records_few true = omega arith
records_few false = omega arith

pair_made_is : (m txns p : ℕ) (l : Left) → txns < 2 ^ 32 → 2 * p ≤ txns + 1 → m + 40000 < 2 ^ 63 → IsLeft m l →
    IsMade (m + 40000) 403 (pair_made txns p l)
unfolding pair_made
pair_made_is m txns p l low last room ok =
    let pair = pair_of txns p l in
    let count = change_records p in
    let few : count ≤ 400 = records_few (p % 100 == 0) in
    let begun = pair_is m txns p l low last ok in
    let c = records_drawn count l.x pair in
    let changes = records_are m count l.x pair begun (omega arith) in
    let counted : length c.bodies ≡ count = changes.counted in
    let e = ends_made c.x c.pair l.even in
    let ends = ends_are (m + 40000) c.x c.pair l.even (pair_more (m + 100 * count) (m + 40000) c.pair (omega arith) changes.pair)
    (within_more m (m + 40000) l.even (omega arith) ok.even) in
    let two : length e.bodies ≤ 2 = ends.few in
    record {
      each = (starts_by m pair.a pair.b begun.a begun.b, each-append IsBody c.bodies e.bodies changes.each ends.each);
      few = omega (arith, length-append c.bodies e.bodies);
      left = ends.left;
    }

-- ---- the records of pairs

pairs_are : (m txns count p : ℕ) (l : Left) → txns < 2 ^ 32 → 2 * (p + count) ≤ txns + 3 → m + 40000 * count < 2 ^ 63 →
    IsLeft m l → IsMade (m + 40000 * count) (403 * count) (pairs_made txns count p l)
pairs_are m txns zero p l low last room ok = record {
  each = tt;
  few = omega arith;
  left = left_more m (m + 40000 * 0) l (omega arith) ok;
}
pairs_are m txns (suc count) p l low last room ok =
    let k = pair_made txns p l in
    let one = pair_made_is m txns p l low (omega arith) (omega arith) ok in
    let r = pairs_made txns count (p + 1) k.left in
    let rest = pairs_are (m + 40000) txns count (p + 1) k.left low (omega arith) (omega arith) one.left in
    let first : length k.bodies ≤ 403 = one.few in
    let others : length r.bodies ≤ 403 * count = rest.few in
    record {
      each = each-append IsBody k.bodies r.bodies one.each rest.each;
      few = omega (arith, length-append k.bodies r.bodies);
      left = left_more (m + 40000 + 40000 * count) (m + 40000 * suc count) r.left (omega arith) rest.left;
    }

-- ---- a log

records_spelled : (scn : ℕ) (bodies : List (List Vector)) → AllByRecursion IsBody bodies → scn + length bodies < 2 ^ 64 →
    AllByRecursion IsRecord (at_scns scn bodies)
records_spelled scn [] each low = tt
records_spelled scn (b ∷ bs) each low =
    let body = each.0 in (
      record { scn = omega arith; some = body.some; most = body.most; vectors = body.each; size = body.size },
      records_spelled (scn + 1) bs each.1 (omega arith),
    )

log_is : (seq first : ℕ) (bodies : List (List Vector)) → seq < 2 ^ 32 → AllByRecursion IsBody bodies → length bodies < 2 ^ 32 →
    first + length bodies < 2 ^ 64 → IsLog (log_of seq first bodies)
log_is seq first bodies low each few next =
    let counted = length-at_scns first bodies in
    record {
      head = record { seq = low; dbid = omega arith; first = omega arith; next = next; count = few };
      each = records_spelled first bodies each next;
      counted = omega arith;
    }

-- the last pair of a log is one of its pairs, and of all
record IsLast (txns seq last : ℕ) : Type 0 where
  low : first_pair seq ≤ last
  high : last ≤ seq * 1000
  within : 2 * last ≤ txns + 1

last_by : (t : Bool) (txns seq : ℕ) → nat_lt (seq * 1000) (pair_count txns) ≡ t → 1 ≤ seq → seq ≤ log_count txns →
    IsLast txns seq (if t then seq * 1000 else pair_count txns)
last_by true txns seq e some there =
    let full : seq * 1000 < pair_count txns = ltb-true (seq * 1000) (pair_count txns) e in
    record { low = omega arith; high = omega arith; within = omega arith }
last_by false txns seq e some there =
    let short : pair_count txns ≤ seq * 1000 = ltb-false (seq * 1000) (pair_count txns) e in
    record { low = omega arith; high = omega arith; within = omega arith }

last_is : (txns seq : ℕ) → 1 ≤ seq → seq ≤ log_count txns → IsLast txns seq (last_pair txns seq)
last_is txns seq some there = last_by (nat_lt (seq * 1000) (pair_count txns)) txns seq refl some there

-- ---- all logs

few_logs : (txns : ℕ) → txns < 2 ^ 32 → log_count txns ≤ 4294967
few_logs txns low = omega arith

log_made_is : (m txns seq : ℕ) (l : Left) → txns < 2 ^ 32 → 1 ≤ seq → seq ≤ log_count txns → m + 40000000 < 2 ^ 63 →
    IsLeft m l → IsMade (m + 40000000) 403000 (log_made txns seq l)
log_made_is m txns seq l low some there room ok =
    let last = last_pair txns seq in
    let first = first_pair seq in
    let count = last + 1 - first in
    let is = last_is txns seq some there in
    let a : first ≤ last = is.low in
    let b : last ≤ seq * 1000 = is.high in
    let c : 2 * last ≤ txns + 1 = is.within in
    let full : count ≤ 1000 = omega arith in
    let made = pairs_are m txns count first l low (omega arith) (omega arith) ok in
    let few : length (pairs_made txns count first l).bodies ≤ 403 * count = made.few in
    record {
      each = made.each;
      few = omega arith;
      left = left_more (m + 40000 * count) (m + 40000000) (pairs_made txns count first l).left (omega arith) made.left;
    }

logs_are : (m txns count seq first : ℕ) (front : List (List Vector)) (l : Left) → txns < 2 ^ 32 → 1 ≤ seq →
    seq + count ≤ log_count txns + 1 → m + 40000000 * count < 2 ^ 63 → first + 404000 * count < 2 ^ 64 →
    AllByRecursion IsBody front → length front ≤ 1 → IsLeft m l → AllByRecursion IsLog (logs_made txns count seq first front l)
logs_are m txns zero seq first front l low some there room scns begun short ok = tt
logs_are m txns (suc count) seq first front l low some there room scns begun short ok =
    let k = log_made txns seq l in
    let logs = few_logs txns low in
    let is = log_made_is m txns seq l low some (omega arith) (omega arith) ok in
    let few : length k.bodies ≤ 403000 = is.few in
    let bodies = front ++ k.bodies in
    let long : length bodies ≤ 404000 = omega (arith, length-append front k.bodies) in (
      log_is seq first bodies (omega arith) (each-append IsBody front k.bodies begun is.each) (omega arith) (omega arith),
      logs_are (m + 40000000) txns count (seq + 1) (first + length bodies) [] k.left low (omega arith) (omega arith) (omega arith)
          (omega arith) tt (omega arith) is.left,
    )

-- ---- the dictionary

accounts_are : IsTable accounts
accounts_are = record {
  id = omega arith;
  schema = (refl, (omega arith, (omega arith, (omega arith, (omega arith, tt)))));
  name = (refl, (omega arith, (omega arith, (omega arith, tt))));
  some = omega arith;
  most = omega arith;
  columns = (
    record { name = (refl, (omega arith, (omega arith, tt))); kind = tt },
    (record { name = (refl, (omega arith, (omega arith, (omega arith, tt)))); kind = tt }, tt),
  );
  keys = refl;
}

dictionary_is : IsBody dictionary_vectors
unfolding dictionary_vectors
dictionary_is = record { some = omega arith; most = omega arith; each = (accounts_are, (tt, tt)); size = dictionary_short }

-- each log of a workload has a spelling
pub all_spelled : (seed txns : ℕ) → txns < 2 ^ 32 → AllByRecursion IsLog (workload_logs seed txns)
unfolding workload_logs
all_spelled seed txns low =
    let logs = few_logs txns low in
    logs_are 0 txns (log_count txns) 1 1 (dictionary_vectors ∷ []) (left_begun seed) low (omega arith) (omega arith)
    (omega arith) (omega arith) (dictionary_is, tt) (omega arith)
    (record { odd = none_within 0; even = none_within 0 })
