-- The writes that a work leaves, put together part by part.
use Rattle.std.proofs.Common.{◌≡◌, ℕ, zero, suc, ◌+◌, ◌-◌, ◌<◌, ◌≤◌, List, [], ◌∷◌, ◌++◌, map, take, drop, get_or, length, refl, sym, ap, ◌∙◌, Bool, true, false, ◌&&◌, append_assoc, add-one, drop-cons, arith, Option, Some, None, Result, Ok, Err}
use Rattle.std.specs.Prelude.{IfOk}
use Rattle.std.specs.List.{AllByRecursion}
use Rattle.std.specs.List.Sorted.{IsStrictlySortedBy}
use Rattle.std.specs.Map.{keys_of}
use Rattle.std.specs.Option.{option_or}
use Rattle.std.specs.BTreeMap.{insert_entry}
use Rattle.std.specs.Ordering.{is_lt, match_ordering}
use Rattle.std.specs.declared.cmp.Ordering.TheVariants.{Less, Equal, Greater}
use Rattle.std.proofs.lemmas.List.{append-nil, length-append, length-take-le, take_all}
use Rattle.std.proofs.lemmas.Map.Keys.{sorted_head, sorted_tail}
use Rattle.rl_value.specs.declared.value.Value.{Value}
use Rattle.rl_value.specs.declared.key.Key.{Key}
use Rattle.rl_value.specs.declared.pos.Pos.{Pos}
use Rattle.rl_value.specs.Order.{key_cmp, keys_rise, is_below_first}
use Rattle.redo_spec.specs.Work.{Written}
use Rattle.row_apply.specs.declared.writes.Write.{Write}
use Rattle.row_apply.specs.Overlaid.{writes_rise, written_key}
use Rattle.row_apply.specs.Kept.{ArePrimary}
use Rattle.row_apply.specs.Written.{writes_in, write_of, put_writes}
use Rattle.eager_work.specs.declared.did.Did.{Did}
use Rattle.eager_work.specs.declared.waiting.Waiting.{Waiting}
use Rattle.eager_work.specs.declared.waiting.Conflict.{Conflict}
use Rattle.eager_work.specs.Attempts.{Attempt, writes_tried, all_written, writes, missed_at, stuck}
use Rattle.eager_work.specs.Keeping.{came_by, done_attempt, conflict_attempts, waiting_attempt, joined, attempts_kept, missed_by, writes_by, put_dids, put_parts}

-- ---- put one behind the other

pub put-append : (last : List Written) (xs ys : List Write) → put_writes last (xs ++ ys) ≡ put_writes (put_writes last xs) ys
put-append last [] ys = refl
put-append last (x ∷ xs) ys = put-append (insert_entry key_cmp last (written_key x) x.row) xs ys

-- the writes of changes that were done
abbrev did_writes : List Did → List Write
did_writes [] = []
did_writes (d ∷ ds) = writes_by d.wrote ++ did_writes ds

put_dids-all : (last : List Written) (ds : List Did) → put_dids last ds ≡ put_writes last (did_writes ds)
put_dids-all last [] = refl
put_dids-all last (d ∷ ds) =
    put_dids-all (put_writes last (writes_by d.wrote)) ds ∙ sym (put-append last (writes_by d.wrote) (did_writes ds))

put_dids-append : (last : List Written) (xs ys : List Did) → put_dids last (xs ++ ys) ≡ put_dids (put_dids last xs) ys
put_dids-append last [] ys = refl
put_dids-append last (x ∷ xs) ys = put_dids-append (put_writes last (writes_by x.wrote)) xs ys

-- a front of two lists
pub take-both : {A : Type 0} (n : ℕ) (xs ys : List A) → take n (xs ++ ys) ≡ take n xs ++ take (n - length xs) ys
take-both zero xs ys =
    let none : 0 ≡ 0 - length xs = omega arith in
    ap (λ k. take k ys) none
take-both (suc n) [] ys =
    let same : suc n ≡ suc n - 0 = omega arith in
    ap (λ k. take k ys) same
take-both (suc n) (x ∷ xs) ys =
    let same : n - length xs ≡ suc n - length (x ∷ xs) = omega arith in
    ap (λ zs. x ∷ zs) (take-both n xs ys) ∙ ap (λ k. x ∷ (take n xs ++ take k ys)) same

put_parts-all : (last : List Written) (ps : List (List Did)) (n : ℕ) → put_parts last ps n ≡ put_dids last (take n (joined ps))
put_parts-all last [] n = ap (put_dids last) (sym (take_all n [] (omega arith)))
put_parts-all last (p ∷ ps) n =
    put_parts-all (put_dids last (take n p)) ps (n - length p)
    ∙ sym (put_dids-append last (take n p) (take (n - length p) (joined ps)))
    ∙ ap (put_dids last) (sym (take-both n p (joined ps)))

-- ---- parts

pub joined-more : (ps : List (List Did)) (p : List Did) → joined (ps ++ p ∷ []) ≡ joined ps ++ p
joined-more [] p = append-nil p
joined-more (q ∷ ps) p = ap (λ ds. q ++ ds) (joined-more ps p) ∙ sym (append_assoc q (joined ps) p)

-- the changes so far, with the front of one part more
pub settled_more : (settled new : List (List Did)) (left less : ℕ) (front : List Did) (parts : List (List Did)) (i : ℕ)
    (part total : List Did) → i < length parts → part ≡ get_or parts i part → new ≡ settled ++ front ∷ [] →
    front ≡ take left part → less ≡ left - length part →
    joined settled ++ take left (joined (drop i parts)) ≡ total → joined new ++ take less (joined (drop (i + 1) parts)) ≡ total
settled_more settled new left less front parts i part total low is pushed fronted rest so_far =
    let more = joined (drop (i + 1) parts) in
    let one : drop i parts ≡ part ∷ drop (i + 1) parts =
    drop-cons parts i part low ∙ ap (λ (p : List Did). p ∷ drop (suc i) parts) (sym is)
    ∙ ap (λ (k : ℕ). part ∷ drop k parts) (sym (add-one i)) in
    ap (λ (ps : List (List Did)). joined ps ++ take less more) pushed
    ∙ ap (λ (ds : List Did). ds ++ take less more) (joined-more settled front)
    ∙ append_assoc (joined settled) front (take less more)
    ∙ ap (λ (ds : List Did). joined settled ++ (ds ++ take less more)) fronted
    ∙ ap (λ (k : ℕ). joined settled ++ (take left part ++ take k more)) rest
    ∙ ap (λ (ds : List Did). joined settled ++ ds) (sym (take-both left part more))
    ∙ ap (λ (ps : List (List Did)). joined settled ++ take left (joined ps)) (sym one)
    ∙ so_far

-- ---- what is written

tried_by : (o : Option (List Write)) → writes_tried (came_by o) ≡ writes_by o
tried_by None = refl
tried_by (Some ws) = refl

waiting_writes : (ws : List Waiting) → all_written (map waiting_attempt ws) ≡ []
waiting_writes [] = refl
waiting_writes (w ∷ ws) = waiting_writes ws

behind_writes : (c : Option Conflict) (ws : List Waiting) → all_written (conflict_attempts c ++ map waiting_attempt ws) ≡ []
behind_writes None ws = waiting_writes ws
behind_writes (Some c) ws = waiting_writes ws

all_written_done : (ds : List Did) (rest : List Attempt) →
    all_written (map done_attempt ds ++ rest) ≡ did_writes ds ++ all_written rest
all_written_done [] rest = refl
all_written_done (d ∷ ds) rest =
    ap (λ ws. ws ++ all_written (map done_attempt ds ++ rest)) (tried_by d.wrote)
    ∙ ap (λ ws. writes_by d.wrote ++ ws) (all_written_done ds rest)
    ∙ sym (append_assoc (writes_by d.wrote) (did_writes ds) (all_written rest))

-- all of them, put part by part
pub gathered_so : (ps : List (List Did)) (n : ℕ) (c : Option Conflict) (ws : List Waiting) →
    writes_in (put_parts [] ps n) ≡ writes (attempts_kept ps n c ws)
gathered_so ps n c ws =
    let ds = take n (joined ps) in
    let told : all_written (attempts_kept ps n c ws) ≡ did_writes ds =
    all_written_done ds (conflict_attempts c ++ map waiting_attempt ws)
    ∙ ap (λ more. did_writes ds ++ more) (behind_writes c ws)
    ∙ append-nil (did_writes ds) in
    ap writes_in (put_parts-all [] ps n ∙ put_dids-all [] ds ∙ ap (put_writes []) (sym told))

-- what changes leave that were done behind so many of the changes of these parts
module _ (parts after : List (List Did)) (standing count : ℕ) (done : List Did) (few : standing ≤ length (joined parts))
    (is : joined after ≡ take standing (joined parts) ++ done) (many : count ≡ standing + length done) where
  all_long : length (take standing (joined parts) ++ done) ≡ count
  all_long = omega (arith, length-append (take standing (joined parts)) done, length-take-le standing (joined parts) few, many)

  pub finish_few : count ≤ length (joined after)
  finish_few = omega (arith, ap length is, all_long)

  pub finish_all : take count (joined after) ≡ take standing (joined parts) ++ done
  finish_all = ap (take count) is ∙ take_all count (take standing (joined parts) ++ done) (omega (arith, all_long))

  pub finish_over : (c : Option Conflict) (ws : List Waiting) (over : List Write) →
      over ≡ writes (map done_attempt (take standing (joined parts) ++ done) ++ (conflict_attempts c ++ map waiting_attempt ws)) →
      over ≡ writes_in (put_parts [] after count)
  finish_over c ws over e =
      e
      ∙ ap (λ (ds : List Did). writes (map done_attempt ds ++ (conflict_attempts c ++ map waiting_attempt ws))) (sym finish_all)
      ∙ sym (gathered_so after count c ws)

-- no change was done yet
pub begin_over : (parts : List (List Did)) (standing : ℕ) (done : List Did) (c : Option Conflict) (ws : List Waiting)
    (over : List Write) → done ≡ [] → over ≡ writes_in (put_parts [] parts standing) →
    over ≡ writes (map done_attempt (take standing (joined parts) ++ done) ++ (conflict_attempts c ++ map waiting_attempt ws))
begin_over parts standing done c ws over none e =
    e
    ∙ gathered_so parts standing c ws
    ∙ ap (λ (ds : List Did). writes (map done_attempt ds ++ (conflict_attempts c ++ map waiting_attempt ws)))
    (sym (ap (λ (ds : List Did). take standing (joined parts) ++ ds) none ∙ append-nil (take standing (joined parts))))

-- ---- the writes rise

pub primary_inserted : (es : List Written) (key : Key) (row : Option (List Value)) → ArePrimary es → key.index ≡ 0 →
    ArePrimary (insert_entry key_cmp es key row)
primary_inserted [] key row p k = (k, tt)
primary_inserted (e ∷ es) key row p k =
    elim (key_cmp key e.0) as (λ o. ArePrimary (match_ordering o ((key, row) ∷ e ∷ es) ((e.0, row) ∷ es)
    (e ∷ insert_entry key_cmp es key row))) [
      | Less ↦ (k, p)
      | Equal ↦ p
      | Greater ↦ (p.0, primary_inserted es key row p.1 k)
    ]

primary_put : (last : List Written) (ws : List Write) → ArePrimary last → ArePrimary (put_writes last ws)
primary_put last [] p = p
primary_put last (w ∷ ws) p =
    primary_put (insert_entry key_cmp last (written_key w) w.row) ws (primary_inserted last (written_key w) w.row p refl)

pub primary_dids : (last : List Written) (ds : List Did) → ArePrimary last → ArePrimary (put_dids last ds)
primary_dids last [] p = p
primary_dids last (d ∷ ds) p =
    primary_dids (put_writes last (writes_by d.wrote)) ds (primary_put last (writes_by d.wrote) p)

pub primary_parts : (last : List Written) (ps : List (List Did)) (n : ℕ) → ArePrimary last → ArePrimary (put_parts last ps n)
primary_parts last [] n p = p
primary_parts last (q ∷ ps) n p =
    primary_parts (put_dids last (take n q)) ps (n - length q) (primary_dids last (take n q) p)

same_key : (e : Written) → e.0.index ≡ 0 → written_key (write_of e) ≡ e.0
same_key e p = λ i. record { table = e.0.table; index = sym p i; values = e.0.values }

same_keys : (es : List Written) → ArePrimary es → map written_key (writes_in es) ≡ keys_of es
same_keys [] p = refl
same_keys (e ∷ es) p = let head = same_key e p.0 in let tail = same_keys es p.1 in λ i. head i ∷ tail i

both : (a b : Bool) → a ≡ true → b ≡ true → (a && b) ≡ true
both true b p q = q
both false b p q = absurd (cc)

first_below : (k : Key) (ks : List Key) → AllByRecursion (λ l. key_cmp k l ≡ Less) ks → is_below_first k ks ≡ true
first_below k [] h = refl
first_below k (l ∷ ls) h = ap is_lt h.0

rising : (ks : List Key) → IsStrictlySortedBy key_cmp ks → keys_rise ks ≡ true
rising [] s = refl
rising (k ∷ ks) s =
    both (is_below_first k ks) (keys_rise ks) (first_below k ks (sorted_head key_cmp k ks s))
    (rising ks (sorted_tail key_cmp k ks s))

pub writes_rising : (es : List Written) → ArePrimary es → IsStrictlySortedBy key_cmp (keys_of es) →
    writes_rise (writes_in es) ≡ true
writes_rising es p s = ap keys_rise (same_keys es p) ∙ rising (keys_of es) s

-- ---- where it is stuck

missed_none : (at : Pos) (table : ℕ) (o : Option (List Write)) → missed_at at table (came_by o) ≡ None
missed_none at table None = refl
missed_none at table (Some ws) = refl

pub stuck_done : (ds : List Did) (rest : List Attempt) → stuck (map done_attempt ds ++ rest) ≡ stuck rest
stuck_done [] rest = refl
stuck_done (d ∷ ds) rest =
    ap (λ m. option_or m (stuck (map done_attempt ds ++ rest))) (missed_none d.pos d.table d.wrote) ∙ stuck_done ds rest

waiting_stuck : (ws : List Waiting) → stuck (map waiting_attempt ws) ≡ None
waiting_stuck [] = refl
waiting_stuck (w ∷ ws) = waiting_stuck ws

pub stuck_nowhere : (ps : List (List Did)) (n : ℕ) (ws : List Waiting) → stuck (attempts_kept ps n None ws) ≡ None
stuck_nowhere ps n ws = stuck_done (take n (joined ps)) (map waiting_attempt ws) ∙ waiting_stuck ws

pub stuck_there : (ps : List (List Did)) (n : ℕ) (c : Conflict) (ws : List Waiting) →
    stuck (attempts_kept ps n (Some c) ws) ≡ Some (missed_by c.pos c.table c.miss)
stuck_there ps n c ws = stuck_done (take n (joined ps)) (conflict_attempts (Some c) ++ map waiting_attempt ws)

-- what holds of a result that is given
pub if_ok : {T E : Type 0} (r : Result T E) (P Q : T → Type 0) → ((x : T) → P x → Q x) → IfOk r P → IfOk r Q
if_ok (Ok x) P Q f p = f x p
if_ok (Err e) P Q f p = tt
