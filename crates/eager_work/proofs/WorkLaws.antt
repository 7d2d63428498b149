-- Laws of the work of a transaction: more changes at one count go on with it, an UNDO takes back its last one, and behind a miss
-- nothing is tried.
use Rattle.std.proofs.Common.{◌≡◌, ℕ, ◌+◌, ◌≤◌, List, [], ◌∷◌, ◌++◌, length, sym, ap, subst, ◌∙◌, refl, arith, append_assoc, Option, Some, None, Result, Ok, Err}
use Rattle.std.specs.Option.{option_or}
use Rattle.std.proofs.lemmas.List.{append-nil, length-append}
use Rattle.redo_vec.specs.declared.table.TableRow.{TableRow}
use Rattle.redo_spec.specs.History.{Placed}
use Rattle.redo_spec.specs.Skips.{Skip}
use Rattle.redo_spec.specs.Survivors.{after_undo}
use Rattle.redo_spec.specs.Tables.{Tables, definitions_of}
use Rattle.redo_spec.specs.Fold.{Missed}
use Rattle.redo_spec.specs.Work.{Done}
use Rattle.eager_work.specs.Attempts.{Tried, Attempt, writes_tried, all_written, writes, missed_at, stuck, tried, tried_unless, next_attempt, attempted, attempted_all, attempts_undone, attempted_over, worked_on, worked, done_at, IsWork}
use Rattle.eager_work.proofs.Undoing.{undone-one}

-- ---- one more behind a list

worked-append : (at : ℕ → Result Tables Missed) (skips : List Skip) (xs : List Attempt) (ds es : List Done) →
    worked_on at skips xs (ds ++ es) ≡ worked_on at skips (worked_on at skips xs ds) es
worked-append at skips xs [] es = refl
worked-append at skips xs (d ∷ ds) es = worked-append at skips (attempted_over skips d.1 (at d.1) xs d.0) ds es

done-more : (ps : List Placed) (xs : List Attempt) (p : Placed) (x : Attempt) → length xs ≡ length ps →
    done_at (ps ++ p ∷ []) (xs ++ x ∷ []) ≡ done_at ps xs ++ (p, x.n) ∷ []
done-more [] [] p x e = refl
done-more [] (y ∷ ys) p x e = absurd (omega (arith, e))
done-more (q ∷ qs) [] p x e = absurd (omega (arith, e))
done-more (q ∷ qs) (y ∷ ys) p x e = ap (λ (ds : List Done). (q, y.n) ∷ ds) (done-more qs ys p x (omega (arith, e)))

-- the work of one change more is one attempt more on that of the others
worked-more : (at : ℕ → Result Tables Missed) (skips : List Skip) (ps : List Placed) (xs : List Attempt) (p : Placed)
    (x : Attempt) →
    length xs ≡ length ps → worked at skips (done_at (ps ++ p ∷ []) (xs ++ x ∷ []))
    ≡ attempted_over skips x.n (at x.n) (worked at skips (done_at ps xs)) p
worked-more at skips ps xs p x e =
    ap (worked at skips) (done-more ps xs p x e) ∙ worked-append at skips [] (done_at ps xs) ((p, x.n) ∷ [])

-- ---- a chunk more

work-more : (at : ℕ → Result Tables Missed) (skips : List Skip) (n : ℕ) (base : Tables) → at n ≡ Ok base →
    (ps : List Placed) (xs : List Attempt) (p : Placed) → IsWork at skips ps xs →
    IsWork at skips (ps ++ p ∷ []) (attempted (definitions_of base) skips n base xs p)
work-more at skips n base e ps xs p w =
    let x = next_attempt (definitions_of base) skips n base xs p in
    record {
      each = length-append xs (x ∷ []) ∙ ap (λ k. k + 1) w.each ∙ sym (length-append ps (p ∷ []));
      comes = sym (worked-more at skips ps xs p x w.each
          ∙ ap (λ ys. attempted_over skips n (at n) ys p) (sym w.comes)
          ∙ ap (λ (r : Result Tables Missed). attempted_over skips n r xs p) e);
    }

pub work-chunk : (at : ℕ → Result Tables Missed) (skips : List Skip) (n : ℕ) (base : Tables) → at n ≡ Ok base →
    (ps qs : List Placed) (xs : List Attempt) → IsWork at skips ps xs →
    IsWork at skips (ps ++ qs) (attempted_all (definitions_of base) skips n base xs qs)
work-chunk at skips n base e ps [] xs w = subst (λ (os : List Placed). IsWork at skips os xs) (sym (append-nil ps)) w
work-chunk at skips n base e ps (q ∷ qs) xs w =
    let ys = attempted (definitions_of base) skips n base xs q in
    subst (λ (os : List Placed). IsWork at skips os (attempted_all (definitions_of base) skips n base ys qs))
    (append_assoc ps (q ∷ []) qs)
    (work-chunk at skips n base e (ps ++ q ∷ []) qs ys (work-more at skips n base e ps xs q w))

-- ---- the last one back

over-short : (skips : List Skip) (n : ℕ) (r : Result Tables Missed) (xs : List Attempt) (p : Placed) →
    length (attempted_over skips n r xs p) ≤ length xs + 1
over-short skips n (Ok base) xs p =
    omega (arith, length-append xs (next_attempt (definitions_of base) skips n base xs p ∷ []))
over-short skips n (Err m) xs p = omega arith

worked-short : (at : ℕ → Result Tables Missed) (skips : List Skip) (xs : List Attempt) (ds : List Done) →
    length (worked_on at skips xs ds) ≤ length xs + length ds
worked-short at skips xs [] = omega arith
worked-short at skips xs (d ∷ ds) =
    omega (arith, worked-short at skips (attempted_over skips d.1 (at d.1) xs d.0) ds, over-short skips d.1 (at d.1) xs d.0)

done-short : (ps : List Placed) (xs : List Attempt) → length (done_at ps xs) ≤ length xs
done-short [] xs = omega arith
done-short (p ∷ ps) [] = omega arith
done-short (p ∷ ps) (x ∷ xs) = omega (arith, done-short ps xs)

-- one attempt was made last, on the others
made-last : (skips : List Skip) (n : ℕ) (r : Result Tables Missed) (xs ws : List Attempt) (x : Attempt) (p : Placed) →
    xs ++ x ∷ [] ≡ attempted_over skips n r ws p → length ws ≤ length xs → xs ≡ ws
made-last skips n (Ok base) xs ws x p e few =
    sym (undone-one xs (x ∷ []) refl)
    ∙ ap after_undo e
    ∙ undone-one ws (next_attempt (definitions_of base) skips n base ws p ∷ []) refl
made-last skips n (Err m) xs ws x p e few = absurd (omega (arith, ap length e, length-append xs (x ∷ []), few))

work-last : (at : ℕ → Result Tables Missed) (skips : List Skip) (ps : List Placed) (p : Placed) (xs : List Attempt)
    (x : Attempt) →
    IsWork at skips (ps ++ p ∷ []) (xs ++ x ∷ []) → IsWork at skips ps xs
work-last at skips ps p xs x w =
    let each : length xs ≡ length ps = omega (arith, w.each, length-append xs (x ∷ []), length-append ps (p ∷ [])) in
    let ws = worked at skips (done_at ps xs) in
    let few : length ws ≤ length xs = omega (arith, worked-short at skips [] (done_at ps xs), done-short ps xs) in
    record {
      each = each;
      comes = made-last skips x.n (at x.n) xs ws x p (w.comes ∙ worked-more at skips ps xs p x each) few;
    }

-- a list by its last
pub record Ends {A : Type 0} (all : List A) : Type 0 where
  pub front : List A
  pub last : A
  pub is : all ≡ front ++ last ∷ []

ended : {A : Type 0} (x : A) (xs : List A) → Ends (x ∷ xs)
ended x [] = record { front = []; last = x; is = refl }
ended x (y ∷ ys) =
    let e = ended y ys in
    record { front = x ∷ e.front; last = e.last; is = ap (λ zs. x ∷ zs) e.is }

pub work-undone : (at : ℕ → Result Tables Missed) (skips : List Skip) (ps : List Placed) (xs : List Attempt) →
    IsWork at skips ps xs → IsWork at skips (after_undo ps) (attempts_undone xs)
work-undone at skips [] [] w = w
work-undone at skips [] (x ∷ xs) w = absurd (omega (arith, w.each))
work-undone at skips (p ∷ ps) [] w = absurd (omega (arith, w.each))
work-undone at skips (p ∷ ps) (x ∷ xs) w =
    let e = ended p ps in
    let f = ended x xs in
    let both : IsWork at skips (e.front ++ e.last ∷ []) (f.front ++ f.last ∷ []) =
    subst (λ (os : List Placed). IsWork at skips os (f.front ++ f.last ∷ [])) e.is
    (subst (λ (ys : List Attempt). IsWork at skips (p ∷ ps) ys) f.is w) in
    let last = work-last at skips e.front e.last f.front f.last both in
    let placed : e.front ≡ after_undo (p ∷ ps) = sym (ap after_undo e.is ∙ undone-one e.front (e.last ∷ []) refl) in
    let made : f.front ≡ after_undo (x ∷ xs) = sym (ap after_undo f.is ∙ undone-one f.front (f.last ∷ []) refl) in
    subst (λ (os : List Placed). IsWork at skips os (after_undo (x ∷ xs))) placed
    (subst (λ (ys : List Attempt). IsWork at skips e.front ys) made last)

pub no-work : (at : ℕ → Result Tables Missed) (skips : List Skip) → IsWork at skips [] []
no-work at skips = record { each = refl; comes = refl }

-- ---- a chunk split

pub split-alike : (rows : List TableRow) (skips : List Skip) (n : ℕ) (base : Tables) (xs : List Attempt) (ps qs : List Placed) →
    attempted_all rows skips n base xs (ps ++ qs) ≡ attempted_all rows skips n base (attempted_all rows skips n base xs ps) qs
split-alike rows skips n base xs [] qs = refl
split-alike rows skips n base xs (p ∷ ps) qs = split-alike rows skips n base (attempted rows skips n base xs p) ps qs

-- ---- behind a miss

or-assoc : (x y z : Option Missed) → option_or x (option_or y z) ≡ option_or (option_or x y) z
or-assoc None y z = refl
or-assoc (Some m) y z = refl

or-none : (x : Option Missed) → option_or x None ≡ x
or-none None = refl
or-none (Some m) = refl

pub stuck-more : (xs : List Attempt) (x : Attempt) → stuck (xs ++ x ∷ []) ≡ option_or (stuck xs) (missed_at x.pos x.table x.came)
stuck-more [] x = or-none (missed_at x.pos x.table x.came)
stuck-more (y ∷ ys) x =
    ap (λ o. option_or (missed_at y.pos y.table y.came) o) (stuck-more ys x)
    ∙ or-assoc (missed_at y.pos y.table y.came) (stuck ys) (missed_at x.pos x.table x.came)

pub written-more : (xs : List Attempt) (x : Attempt) → all_written (xs ++ x ∷ []) ≡ all_written xs ++ writes_tried x.came
written-more [] x = append-nil (writes_tried x.came)
written-more (y ∷ ys) x =
    ap (λ ws. writes_tried y.came ++ ws) (written-more ys x)
    ∙ sym (append_assoc (writes_tried y.came) (all_written ys) (writes_tried x.came))

waits-more : (o : Option Missed) (m : Missed) (came : Tried) → o ≡ Some m → writes_tried (tried_unless o came) ≡ []
waits-more None m came e = absurd (cc)
waits-more (Some k) m came e = refl

stuck-stays : (o : Option Missed) (m : Missed) (more : Option Missed) → o ≡ Some m → option_or o more ≡ Some m
stuck-stays None m more e = absurd (cc)
stuck-stays (Some k) m more e = e

still-stuck : (rows : List TableRow) (skips : List Skip) (n : ℕ) (base : Tables) (xs : List Attempt) (p : Placed) (m : Missed) →
    stuck xs ≡ Some m → stuck (attempted rows skips n base xs p) ≡ Some m
still-stuck rows skips n base xs p m e =
    let x = next_attempt rows skips n base xs p in
    stuck-more xs x ∙ stuck-stays (stuck xs) m (missed_at x.pos x.table x.came) e

still-written : (rows : List TableRow) (skips : List Skip) (n : ℕ) (base : Tables) (xs : List Attempt) (p : Placed) (m : Missed) →
    stuck xs ≡ Some m → all_written (attempted rows skips n base xs p) ≡ all_written xs
still-written rows skips n base xs p m e =
    written-more xs (next_attempt rows skips n base xs p)
    ∙ ap (λ ws. all_written xs ++ ws) (waits-more (stuck xs) m (tried rows skips n base (writes xs) p) e)
    ∙ append-nil (all_written xs)

pub stuck-on : (rows : List TableRow) (skips : List Skip) (n : ℕ) (base : Tables) (xs : List Attempt) (ps : List Placed)
    (m : Missed) →
    stuck xs ≡ Some m → stuck (attempted_all rows skips n base xs ps) ≡ Some m
stuck-on rows skips n base xs [] m e = e
stuck-on rows skips n base xs (p ∷ ps) m e =
    stuck-on rows skips n base (attempted rows skips n base xs p) ps m (still-stuck rows skips n base xs p m e)

pub written-on : (rows : List TableRow) (skips : List Skip) (n : ℕ) (base : Tables) (xs : List Attempt) (ps : List Placed)
    (m : Missed) →
    stuck xs ≡ Some m → all_written (attempted_all rows skips n base xs ps) ≡ all_written xs
written-on rows skips n base xs [] m e = refl
written-on rows skips n base xs (p ∷ ps) m e =
    written-on rows skips n base (attempted rows skips n base xs p) ps m (still-stuck rows skips n base xs p m e)
    ∙ still-written rows skips n base xs p m e
