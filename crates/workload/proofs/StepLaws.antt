-- The loops of the program go along the definitions: what is written behind each step, with what is still to be made, is what is
-- written in the end.
use Rattle.std.proofs.Common.{◌≡◌, ℕ, suc, ◌+◌, ◌-◌, ◌<◌, ◌≤◌, sym, ap, ◌∙◌, subst, arith}
use Rattle.workload.specs.declared.pair.Pair.{Pair}
use Rattle.workload.specs.declared.left.Left.{Left}
use Rattle.workload.specs.declared.text.Text.{Text}
use Rattle.workload.specs.declared.written.Written.{Written}
use Rattle.workload.specs.declared.written.Put.{Put}
use Rattle.workload.specs.declared.logs.Logs.{Logs}
use Rattle.workload.specs.Pairs.{starts, records_drawn, change_records, ends_made, pair_of, pair_made}
use Rattle.workload.specs.Workload.{pairs_made, first_pair, last_pair, log_count}
use Rattle.workload.specs.Texts.{text_with, text_with_all, with_changes, put_all, put_made, after_log, with_log, logs_put, logs_begun}
use Rattle.workload.proofs.TextLaws.{more_texts}

-- ---- records of changes

pub records_go_on : (count i : ℕ) (w v total : Written) → i < count → v ≡ with_changes w →
    put_all (records_drawn (count - i) w.x w.pair) w.text ≡ total →
    put_all (records_drawn (count - (i + 1)) v.x v.pair) v.text ≡ total
records_go_on count i w v total lt e so_far =
    let k : count - i ≡ suc (count - (i + 1)) = omega arith in
    let one : put_all (records_drawn (count - i) w.x w.pair) w.text
    ≡ put_all (records_drawn (suc (count - (i + 1))) w.x w.pair) w.text =
    ap (λ (n : ℕ). put_all (records_drawn n w.x w.pair) w.text) k in
    subst (λ (u : Written). put_all (records_drawn (count - (i + 1)) u.x u.pair) u.text ≡ total) (sym e) (sym one ∙ so_far)

pub records_done : (count i : ℕ) (w total : Written) → count ≤ i →
    put_all (records_drawn (count - i) w.x w.pair) w.text ≡ total → w ≡ total
records_done count i w total le so_far =
    let k : count - i ≡ 0 = omega arith in
    sym (ap (λ (n : ℕ). put_all (records_drawn n w.x w.pair) w.text) k) ∙ so_far

-- ---- a pair

abbrev ended : Left → Written → Put
ended l w = put_made (ends_made w.x w.pair l.even) w.text

abbrev changed : ℕ → Left → Pair → Text → Written
changed p l pair t = put_all (records_drawn (change_records p) l.x pair) t

abbrev put_of : Text → Left → Put
put_of t l = record { text = t; left = l }

pub pair_put : (txns p count : ℕ) (text : Text) (l : Left) (pair : Pair) (t : Text) (w : Written) (r : Put) →
    count ≡ change_records p → pair ≡ pair_of txns p l → t ≡ text_with (starts pair) text →
    w ≡ put_all (records_drawn count l.x pair) t → r ≡ put_made (ends_made w.x w.pair l.even) w.text →
    r ≡ put_made (pair_made txns p l) text
unfolding pair_made
pair_put txns p count text l pair t w r k e f g h =
    let q = pair_of txns p l in
    let c = records_drawn (change_records p) l.x q in
    let m = ends_made c.x c.pair l.even in
    h
    ∙ ap (λ (v : Written). ended l v) g
    ∙ ap (λ (n : ℕ). ended l (put_all (records_drawn n l.x pair) t)) k
    ∙ ap (λ (s : Text). ended l (changed p l pair s)) f
    ∙ ap (λ (u : Pair). ended l (changed p l u (text_with (starts u) text))) e
    ∙ ap (λ (s : Text). put_of s m.left) (sym (more_texts c.bodies m.bodies (text_with (starts q) text)))

-- ---- pairs

pub pairs_go_on : (txns end p : ℕ) (put q total : Put) → p < end → q ≡ put_made (pair_made txns p put.left) put.text →
    put_made (pairs_made txns (end - p) p put.left) put.text ≡ total →
    put_made (pairs_made txns (end - (p + 1)) (p + 1) q.left) q.text ≡ total
pairs_go_on txns end p put q total lt e so_far =
    let k : end - p ≡ suc (end - (p + 1)) = omega arith in
    let m = pair_made txns p put.left in
    let rest = pairs_made txns (end - (p + 1)) (p + 1) m.left in
    let one : put_made (pairs_made txns (end - p) p put.left) put.text
    ≡ put_made (pairs_made txns (suc (end - (p + 1))) p put.left) put.text =
    ap (λ (n : ℕ). put_made (pairs_made txns n p put.left) put.text) k in
    let two : put_made (pairs_made txns (suc (end - (p + 1))) p put.left) put.text
    ≡ put_of (text_with_all rest.bodies (text_with_all m.bodies put.text)) rest.left =
    ap (λ (s : Text). put_of s rest.left) (more_texts m.bodies rest.bodies put.text) in
    subst (λ (u : Put). put_made (pairs_made txns (end - (p + 1)) (p + 1) u.left) u.text ≡ total) (sym e)
    (sym two ∙ sym one ∙ so_far)

pub pairs_done : (txns end p : ℕ) (put total : Put) → end ≤ p →
    put_made (pairs_made txns (end - p) p put.left) put.text ≡ total → put ≡ total
pairs_done txns end p put total le so_far =
    let k : end - p ≡ 0 = omega arith in
    sym (ap (λ (n : ℕ). put_made (pairs_made txns n p put.left) put.text) k) ∙ so_far

-- ---- logs

pub logs_go_on : (txns end seq : ℕ) (s t total : Logs) → seq < end → t ≡ with_log txns seq s →
    logs_put txns (end - seq) seq s ≡ total → logs_put txns (end - (seq + 1)) (seq + 1) t ≡ total
logs_go_on txns end seq s t total lt e so_far =
    let k : end - seq ≡ suc (end - (seq + 1)) = omega arith in
    let one : logs_put txns (end - seq) seq s ≡ logs_put txns (suc (end - (seq + 1))) seq s =
    ap (λ (n : ℕ). logs_put txns n seq s) k in
    subst (λ (u : Logs). logs_put txns (end - (seq + 1)) (seq + 1) u ≡ total) (sym e) (sym one ∙ so_far)

pub logs_done : (txns end seq : ℕ) (s total : Logs) → end ≤ seq → logs_put txns (end - seq) seq s ≡ total → s ≡ total
logs_done txns end seq s total le so_far =
    let k : end - seq ≡ 0 = omega arith in
    sym (ap (λ (n : ℕ). logs_put txns n seq s) k) ∙ so_far

-- the log of a sequence is written
pub log_put : (txns seq : ℕ) (s : Logs) (first end : ℕ) (put : Put) (r : Logs) → first ≡ first_pair seq →
    end ≡ last_pair txns seq + 1 → put ≡ put_made (pairs_made txns (end - first) first s.left) s.text →
    r ≡ after_log seq s.archive put → r ≡ with_log txns seq s
unfolding with_log
log_put txns seq s first end put r e f g h =
    h
    ∙ ap (λ (p : Put). after_log seq s.archive p) (g
    ∙ ap (λ (n : ℕ). put_made (pairs_made txns (n - first) first s.left) s.text) f
    ∙ ap (λ (n : ℕ). put_made (pairs_made txns (last_pair txns seq + 1 - n) n s.left) s.text) e)

-- the logs up to the one before `count + 1` are all of them
pub all_put : (txns count seed : ℕ) (begun r : Logs) → count ≡ log_count txns → begun ≡ logs_begun seed →
    r ≡ logs_put txns (count + 1 - 1) 1 begun → r ≡ logs_put txns (log_count txns) 1 (logs_begun seed)
all_put txns count seed begun r e f h =
    let k : count + 1 - 1 ≡ log_count txns = omega arith in
    h ∙ ap (λ (n : ℕ). logs_put txns n 1 begun) k ∙ ap (λ (s : Logs). logs_put txns (log_count txns) 1 s) f
