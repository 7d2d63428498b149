-- A COMMIT stands alone in its record, and the last one's SCN is that of the standing.
use Rattle.std.proofs.Common.{◌≡◌, ℕ, ◌+◌, ◌≤◌, List, [], ◌∷◌, length, refl, Bool, true, false, ◌&&◌, ◌||◌, nat_lt, nat_le, None, arith}
use Rattle.std.specs.List.{list_any}
use Rattle.std.proofs.lemmas.Bool.Decides.{nat_tests}
use Rattle.rl_value.specs.Outcome.{first_fault}
use Rattle.rl_value.specs.declared.cause.LawFault.{LawFault}
use Rattle.rl_value.specs.declared.cause.LawFault.TheVariants as faults
use Rattle.redo_vec.specs.declared.redo_rec.RedoRec.{RedoRec}
use Rattle.redo_vec.specs.declared.vector.Vector.{Vector}
use Rattle.redo_vec.specs.declared.vector.Vector.TheVariants.{Start, Change as OfChange, Undo, Commit, Rollback, Table, DictEnd}
use Rattle.redo_spec.specs.declared.header.Header.{Header}
use Rattle.redo_spec.specs.Standing.{Standing, standing_after, standing_after_all, standing_at_record, record_after}
use Rattle.redo_spec.specs.Law.{ends_txn, breaks_chain, whole_fault, vectors_fault, record_fault}
use Rattle.redo_spec.proofs.StandingLaws.{none_first}
use Rattle.log_miner.specs.Mining.{commits_of, commits_in}
use Rattle.log_miner.specs.Stages.{commit_scn_after_all}

no_ends : (vs : List Vector) → list_any ends_txn vs ≡ false → commits_in vs ≡ 0
no_ends [] e = refl
no_ends (Start x ∷ vs) e = omega (arith, no_ends vs e)
no_ends (OfChange c ∷ vs) e = omega (arith, no_ends vs e)
no_ends (Undo x ∷ vs) e = omega (arith, no_ends vs e)
no_ends (Commit x ∷ vs) e = absurd (cc)
no_ends (Rollback x ∷ vs) e = absurd (cc)
no_ends (Table t ∷ vs) e = omega (arith, no_ends vs e)
no_ends (DictEnd ∷ vs) e = omega (arith, no_ends vs e)

one_at_most : (v : Vector) → commits_of v + 0 ≤ 1
one_at_most (Start x) = omega arith
one_at_most (OfChange c) = omega arith
one_at_most (Undo x) = omega arith
one_at_most (Commit x) = omega arith
one_at_most (Rollback x) = omega arith
one_at_most (Table t) = omega arith
one_at_most DictEnd = omega arith

and_true : (a b : Bool) → b ≡ true → (a && b) ≡ false → a ≡ false
and_true true true h e = e
and_true true false h e = absurd (cc)
and_true false b h e = refl

many : (v w : Vector) (ws : List Vector) → nat_lt 1 (length (v ∷ w ∷ ws)) ≡ true
many v w ws = grind (arith, nat_tests)

alone : (vs : List Vector) → (list_any ends_txn vs && nat_lt 1 (length vs)) ≡ false → commits_in vs ≤ 1
alone [] e = omega arith
alone (v ∷ []) e = one_at_most v
alone (v ∷ w ∷ ws) e =
    let none : commits_in (v ∷ w ∷ ws) ≡ 0 =
    no_ends (v ∷ w ∷ ws) (and_true (list_any ends_txn (v ∷ w ∷ ws)) (nat_lt 1 (length (v ∷ w ∷ ws))) (many v w ws) e) in
    omega (arith, none)

third : (a b c : Bool) (f g h : LawFault) → first_fault ((a, f) ∷ (b, g) ∷ (c, h) ∷ []) ≡ None → c ≡ false
third true b c f g h e = absurd (cc)
third false true c f g h e = absurd (cc)
third false false true f g h e = absurd (cc)
third false false false f g h e = refl

pub one_commit : (s : Standing) (hd : Header) (r : RedoRec) → record_fault s (hd, r) ≡ None → commits_in r.vectors ≤ 1
one_commit s hd r e =
    alone r.vectors (third (breaks_chain s.head hd) (nat_lt r.scn hd.first || nat_le hd.next r.scn || nat_lt r.scn s.scn)
    (list_any ends_txn r.vectors && nat_lt 1 (length r.vectors)) faults.Chain faults.Scn faults.Alone
    (none_first (whole_fault s (hd, r)) (vectors_fault hd 1 r.vectors (standing_at_record (hd, r) s)) e))

last_scn : (vec : ℕ) (vs : List Vector) (s : Standing) →
    (standing_after_all vec vs s).commit_scn ≡ commit_scn_after_all s.commit_scn s.scn vs
last_scn vec [] s = refl
last_scn vec (v ∷ vs) s = last_scn (vec + 1) vs (standing_after vec v s)

pub commit_scn_after_record : (hd : Header) (r : RedoRec) (s : Standing) →
    (record_after (hd, r) s).commit_scn ≡ commit_scn_after_all s.commit_scn r.scn r.vectors
commit_scn_after_record hd r s = last_scn 1 r.vectors (standing_at_record (hd, r) s)
