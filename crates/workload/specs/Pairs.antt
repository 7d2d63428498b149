-- A pair of transactions, as it is drawn. A has the odd IDs and B the even ones, so the two of a pair never meet. The records of
-- pair p are its STARTs; then 4 records of changes, 400 where p is a multiple of 100, each with a change of A and then one of B;
-- and then A's end and B's end, one record each. The last pair has no B where the count of transactions is odd.
-- A change draws its account and then its amount. An end draws one in ten as a ROLLBACK, which gives the former balances back.
-- This project's own.
use Rattle.std.specs.Prelude.{ℕ, zero, suc, ◌+◌, ◌*◌, ◌-◌, ◌%◌, List, [], ◌∷◌, ◌++◌, map, Bool, set, if◌then◌else◌, ◌==◌, nat_le, Option, Some, None}
use Rattle.std.specs.Option.{option_to_list}
use Rattle.redo_vec.specs.declared.vector.Vector.{Vector}
use Rattle.redo_vec.specs.declared.vector.Vector.TheVariants.{Start, Change as OfChange, Commit, Rollback}
use Rattle.workload.specs.declared.drawing.Drawing.{Drawing}
use Rattle.workload.specs.declared.drawing.Step.{Step}
use Rattle.workload.specs.declared.pair.Pair.{Pair}
use Rattle.workload.specs.declared.pair.Drawn.{Drawn}
use Rattle.workload.specs.declared.left.Left.{Left}
use Rattle.workload.specs.Draws.{next_state, drawn}
use Rattle.workload.specs.Balances.{balance_of}
use Rattle.workload.specs.Accounts.{xid_of, account_change}

-- ---- one transaction

-- the transaction of this number, whose first account has this ID (1 for A, 2 for B; the others follow in steps of 2)
abbrev pub drawing_of : ℕ → ℕ → List ℕ → Drawing
drawing_of number least balances = record { number = number; least = least; before = balances; seen = balances }

-- the change of this place and amount, and the transaction behind it
abbrev pub change_at : ℕ → ℕ → Drawing → Step
change_at place amount t =
    let balance = balance_of t.seen place in
    record {
      vector = OfChange (account_change t.number (2 * place + t.least) balance amount);
      after = record t { seen = set t.seen place (balance + amount) };
    }

-- the change of a transaction that draws its account by one state and its amount by another
unfoldable pub change_drawn : ℕ → ℕ → Drawing → Step
change_drawn x y t = change_at (drawn 500 x) (1 + drawn 100 y) t

abbrev pub is_rolled_back : ℕ → Bool
is_rolled_back x = drawn 10 x == 0

-- the end of the transaction of this number
unfoldable pub end_vector : ℕ → ℕ → Vector
end_vector x number = if is_rolled_back x then Rollback (xid_of number) else Commit (xid_of number)

-- the balances behind its end
unfoldable pub balances_after : ℕ → Drawing → List ℕ
balances_after x t = if is_rolled_back x then t.before else t.seen

-- ---- a pair

-- the transactions of a pair in order
abbrev pub members : Pair → List Drawing
members p = p.a ∷ option_to_list p.b

abbrev pub starts : Pair → List Vector
starts p = map (λ t. Start (xid_of t.number)) (members p)

abbrev pub with_b : ℕ → Step → Option Drawing → Drawn
with_b x a None = record { x = x; vectors = a.vector ∷ []; pair = record { a = a.after; b = None } }
with_b x a (Some t) =
    let y = next_state x in
    let z = next_state y in
    let b = change_drawn y z t in
    record { x = z; vectors = a.vector ∷ b.vector ∷ []; pair = record { a = a.after; b = Some b.after } }

-- a change of A and then one of B, from this state on
unfoldable pub changes_drawn : ℕ → Pair → Drawn
changes_drawn x p = let y = next_state x in let z = next_state y in with_b z (change_drawn y z p.a) p.b

-- the vectors of some records, the state of the generator behind them, and the pair
pub record Bodies : Type 0 where
  pub x : ℕ
  pub bodies : List (List Vector)
  pub pair : Pair

abbrev pub with_body : List Vector → Bodies → Bodies
with_body body b = record { x = b.x; bodies = body ∷ b.bodies; pair = b.pair }

-- so many records of changes, from this state on
abbrev pub records_drawn : ℕ → ℕ → Pair → Bodies
records_drawn zero x pair = record { x = x; bodies = []; pair = pair }
records_drawn (suc count) x pair = let d = changes_drawn x pair in with_body d.vectors (records_drawn count d.x d.pair)

-- how many records of changes pair p has
abbrev pub change_records : ℕ → ℕ
change_records p = if p % 100 == 0 then 400 else 4

-- the vectors of some records, and what is left behind them: the state of the generator, and the balances of the odd and of the
-- even IDs
pub record Made : Type 0 where
  pub bodies : List (List Vector)
  pub left : Left

abbrev pub end_with_b : ℕ → Drawing → Option Drawing → List ℕ → Made
end_with_b y a None even =
    record { bodies = (end_vector y a.number ∷ []) ∷ []; left = record { x = y; odd = balances_after y a; even = even } }
end_with_b y a (Some b) even =
    let z = next_state y in
    record {
      bodies = (end_vector y a.number ∷ []) ∷ (end_vector z b.number ∷ []) ∷ [];
      left = record { x = z; odd = balances_after y a; even = balances_after z b };
    }

-- the ends of a pair, where the even IDs had these balances before it
unfoldable pub ends_made : ℕ → Pair → List ℕ → Made
ends_made x p even = end_with_b (next_state x) p.a p.b even

abbrev pub second_of : ℕ → ℕ → List ℕ → Option Drawing
second_of txns p even = if nat_le (2 * p) txns then Some (drawing_of (2 * p) 2 even) else None

-- the transactions of pair p, of so many in all
abbrev pub pair_of : ℕ → ℕ → Left → Pair
pair_of txns p l = record { a = drawing_of (2 * p - 1) 1 l.odd; b = second_of txns p l.even }

abbrev pub made_of : List Vector → List (List Vector) → Made → Made
made_of first changes ends = record { bodies = first ∷ (changes ++ ends.bodies); left = ends.left }

abbrev pub pair_changed : Pair → List ℕ → Bodies → Made
pair_changed pair even changes = made_of (starts pair) changes.bodies (ends_made changes.x changes.pair even)

abbrev pub pair_begun : ℕ → Left → Pair → Made
pair_begun p l pair = pair_changed pair l.even (records_drawn (change_records p) l.x pair)

-- the records of pair p
unfoldable pub pair_made : ℕ → ℕ → Left → Made
pair_made txns p l = pair_begun p l (pair_of txns p l)
