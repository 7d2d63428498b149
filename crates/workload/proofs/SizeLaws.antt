-- The records of a workload are short: one or two vectors of at most 60 bytes, but the first, which is the dictionary.
use Rattle.std.proofs.Common.{◌≡◌, ℕ, ◌+◌, ◌*◌, ◌≤◌, Bool, true, false, List, [], ◌∷◌, ◌++◌, length, Option, Some, None, sym, subst, arith, length-append}
use Rattle.std.specs.Prelude.{◌==◌, if◌then◌else◌}
use Rattle.redo_vec.specs.declared.vector.Vector.{Vector}
use Rattle.redo_vec.specs.declared.vector.Vector.TheVariants.{Commit, Rollback}
use Rattle.redo_vec.specs.Spelling.{vector, change}
use Rattle.workload.specs.declared.drawing.Drawing.{Drawing}
use Rattle.workload.specs.declared.drawing.Step.{Step}
use Rattle.workload.specs.declared.pair.Pair.{Pair}
use Rattle.workload.specs.declared.pair.Drawn.{Drawn}
use Rattle.workload.specs.Draws.{next_state, drawn}
use Rattle.workload.specs.Balances.{balance_of}
use Rattle.workload.specs.Accounts.{xid_of, opening, paying_in, dictionary_vectors}
use Rattle.workload.specs.Pairs.{change_drawn, is_rolled_back, end_vector, starts, with_b, changes_drawn}
use Rattle.workload.specs.Texts.{record_size}

one_short : (v : Vector) → length (vector v) ≤ 60 → record_size (v ∷ []) ≤ 65536
one_short v h = omega (arith, length-append (vector v) [])

two_short : (v w : Vector) → length (vector v) ≤ 60 → length (vector w) ≤ 60 → record_size (v ∷ w ∷ []) ≤ 65536
two_short v w h k = omega (arith, length-append (vector v) (vector w ++ []), length-append (vector w) [])

-- ---- changes

chosen_short : (t : Bool) (number id balance amount : ℕ) →
    length (change (if t then opening number id amount else paying_in number id balance amount)) ≤ 60
chosen_short true number id balance amount = omega arith
chosen_short false number id balance amount = omega arith

pub change_short : (x y : ℕ) (t : Drawing) → length (vector (change_drawn x y t).vector) ≤ 60
unfolding change_drawn
change_short x y t =
    let balance = balance_of t.seen (drawn 500 x) in
    chosen_short (balance == 0) t.number (2 * drawn 500 x + t.least) balance (1 + drawn 100 y)

pub with_b_short : (x : ℕ) (a : Step) (b : Option Drawing) → length (vector a.vector) ≤ 60 →
    record_size (with_b x a b).vectors ≤ 65536
with_b_short x a None h = one_short a.vector h
with_b_short x a (Some t) h =
    let y = next_state x in
    two_short a.vector (change_drawn y (next_state y) t).vector h (change_short y (next_state y) t)

pub changes_short : (x : ℕ) (p : Pair) → record_size (changes_drawn x p).vectors ≤ 65536
unfolding changes_drawn
changes_short x p =
    let y = next_state x in
    let z = next_state y in
    with_b_short z (change_drawn y z p.a) p.b (change_short y z p.a)

pub changes_fit : (x : ℕ) (p : Pair) (d : Drawn) → d ≡ changes_drawn x p → record_size d.vectors ≤ 65536
changes_fit x p d e = subst (λ (k : Drawn). record_size k.vectors ≤ 65536) (sym e) (changes_short x p)

-- ---- starts and ends

starts_short_by : (a : Drawing) (b : Option Drawing) → record_size (starts (record { a = a; b = b })) ≤ 65536
starts_short_by a None = omega arith
starts_short_by a (Some b) = omega arith

pub starts_short : (p : Pair) → record_size (starts p) ≤ 65536
starts_short p = starts_short_by p.a p.b

pub starts_fit : (p : Pair) (vectors : List Vector) → vectors ≡ starts p → record_size vectors ≤ 65536
starts_fit p vectors e = subst (λ (vs : List Vector). record_size vs ≤ 65536) (sym e) (starts_short p)

end_short_by : (t : Bool) (number : ℕ) → length (vector (if t then Rollback (xid_of number) else Commit (xid_of number))) ≤ 60
end_short_by true number = omega arith
end_short_by false number = omega arith

pub end_short : (x number : ℕ) → record_size (end_vector x number ∷ []) ≤ 65536
unfolding end_vector
end_short x number =
    one_short (if is_rolled_back x then Rollback (xid_of number) else Commit (xid_of number))
    (end_short_by (is_rolled_back x) number)

pub end_fits : (x number : ℕ) (end : Vector) (vectors : List Vector) → end ≡ end_vector x number → vectors ≡ end ∷ [] →
    record_size vectors ≤ 65536
end_fits x number end vectors e f =
    subst (λ (vs : List Vector). record_size vs ≤ 65536) (sym f)
    (subst (λ (v : Vector). record_size (v ∷ []) ≤ 65536) (sym e) (end_short x number))

-- ---- the dictionary

pub dictionary_short : record_size dictionary_vectors ≤ 65536
unfolding dictionary_vectors
dictionary_short = omega arith

pub dictionary_fits : (vectors : List Vector) → vectors ≡ dictionary_vectors → record_size vectors ≤ 65536
dictionary_fits vectors e = subst (λ (vs : List Vector). record_size vs ≤ 65536) (sym e) dictionary_short
