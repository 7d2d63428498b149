-- Transaction ids: equal exactly where their order says so.
use Rattle.std.proofs.Common.{◌≡◌, ℕ, refl, Bool, true, false, ◌&&◌, ◌==◌, arith}
use Rattle.std.proofs.lemmas.Bool.Decides.{nat_tests}
use Rattle.std.proofs.Common.{Ordering, Less, Equal, Greater}
use Rattle.std.specs.Ordering.{is_eq, nat_cmp, ordering_then}
use Rattle.rl_value.specs.declared.xid.Xid.{Xid}
use Rattle.rl_value.specs.Order.{xid_cmp}
use Rattle.redo_spec.specs.History.{same_xid}

pub both : (a b : Bool) → (a && b) ≡ true → (a ≡ true) × (b ≡ true)
both true true e = (refl, refl)
both true false e = absurd (cc)
both false b e = absurd (cc)

num : (m n : ℕ) → (m == n) ≡ true → m ≡ n
num m n e = grind (arith, nat_tests, e)

num_itself : (n : ℕ) → (n == n) ≡ true
num_itself n = grind (arith, nat_tests)

num_sym : (m n : ℕ) → (m == n) ≡ (n == m)
num_sym m n = grind (arith, nat_tests)

pub xid_is : (x y : Xid) → same_xid x y ≡ true → x ≡ y
xid_is x y e =
    let a = both ((x.usn == y.usn) && (x.slot == y.slot)) (x.sqn == y.sqn) e in
    let b = both (x.usn == y.usn) (x.slot == y.slot) a.0 in
    let p = num _ _ b.0 in
    let q = num _ _ b.1 in
    let r = num _ _ a.1 in
    λ i. record { usn = p i; slot = q i; sqn = r i }

pub xid_itself : (x : Xid) → same_xid x x ≡ true
xid_itself x = rw (num_itself x.usn, num_itself x.slot, num_itself x.sqn) refl

pub xid_sym : (x y : Xid) → same_xid x y ≡ same_xid y x
xid_sym x y = rw (num_sym x.usn y.usn, num_sym x.slot y.slot, num_sym x.sqn y.sqn) refl

cmp_eq : (m n : ℕ) → is_eq (nat_cmp m n) ≡ (m == n)
cmp_eq m n = grind (arith, nat_tests)

then_eq : (a b : Ordering) → is_eq (ordering_then a b) ≡ (is_eq a && is_eq b)
then_eq Less b = refl
then_eq Equal b = refl
then_eq Greater b = refl

and_assoc : (a b c : Bool) → (a && (b && c)) ≡ (a && b && c)
and_assoc true b c = refl
and_assoc false b c = refl

pub xid_at : (x y : Xid) → is_eq (xid_cmp x y) ≡ same_xid x y
xid_at x y =
    rw (
      then_eq (nat_cmp x.usn y.usn) (ordering_then (nat_cmp x.slot y.slot) (nat_cmp x.sqn y.sqn)),
      then_eq (nat_cmp x.slot y.slot) (nat_cmp x.sqn y.sqn),
      cmp_eq x.usn y.usn,
      cmp_eq x.slot y.slot,
      cmp_eq x.sqn y.sqn,
    )
    (and_assoc (x.usn == y.usn) (x.slot == y.slot) (x.sqn == y.sqn))
