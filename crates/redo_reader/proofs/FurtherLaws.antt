-- One more registered log leaves the records that were ahead as they were.
use Rattle.std.proofs.Common.{◌≡◌, ℕ, ◌+◌, ◌-◌, ◌<◌, ◌≤◌, Bool, true, false, cond, List, [], ◌∷◌, ◌++◌, length, take, drop, Option, Some, None, refl, sym, ap, subst, ◌∙◌, append_assoc, arith}
use Rattle.std.specs.Prelude.{◌==◌, nat_lt}
use Rattle.std.proofs.lemmas.Bool.Decides.{nat_tests}
use Rattle.std.proofs.lemmas.List.{append-nil, take-append-le}
use Rattle.std.proofs.Math.Seq.{drop-append_seam}
use Rattle.rl_value.specs.declared.cause.CutFault.{CutFault}
use Rattle.rl_value.specs.declared.cause.Cause.{Cause}
use Rattle.rl_value.specs.declared.verdict.Stop.TheVariants as stops
use Rattle.redo_spec.specs.History.{Entry}
use Rattle.redo_spec.specs.Redo.{Redo, Records, redo_behind, redo_after_records, redo_ended_by, records_of, redo_from}
use Rattle.redo_wire.specs.declared.raw.Raw.{Raw}
use Rattle.redo_wire.specs.declared.cutting.LogPlace.{LogPlace}
use Rattle.redo_wire.specs.Stream.{Cut as LogCut, cut_off}
use Rattle.log_registry.specs.declared.entry.LogEntry.{LogEntry}
use Rattle.log_registry.specs.Registered.{IsRising, RiseFrom, entry_of, entries_from, with_log}
use Rattle.redo_reader.specs.declared.place.Place.{Place}
use Rattle.redo_reader.specs.Ahead.{Ahead, ahead, ahead_in, in_log, in_its_log, log_begin, nothing_but, unless_broken, cause_of, bytes_or_none, told_logs}
use Rattle.redo_reader.specs.Behind.{place_after_raws, place_ahead}
use Rattle.redo_reader.proofs.StepLaws.{later_logs}

-- ---- a list that goes on behind another

pub record GoesOnBehind {X : Type 0} (xs ys : List X) : Type 0 where
  pub more : List X
  pub is : ys ≡ xs ++ more

nothing_more : {X : Type 0} (xs ys : List X) → ys ≡ xs → GoesOnBehind xs ys
nothing_more xs ys same = record { more = []; is = same ∙ sym (append-nil xs) }

behind_none : {X : Type 0} (ys : List X) → GoesOnBehind [] ys
behind_none ys = record { more = ys; is = refl }

behind_same : {X : Type 0} (zs xs ys : List X) → GoesOnBehind xs ys → GoesOnBehind (zs ++ xs) (zs ++ ys)
behind_same zs xs ys on = record { more = on.more; is = ap (λ l. zs ++ l) on.is ∙ sym (append_assoc zs xs on.more) }

-- ---- the registered logs from a sequence on, with one more

lower_at : (b c : Bool) (x e : LogEntry) (seq : ℕ) (es : List LogEntry) → nat_lt x.head.seq e.head.seq ≡ b →
    nat_lt e.head.seq seq ≡ c → x.head.seq < seq → entries_from seq (with_log x es) ≡ entries_from seq es →
    entries_from seq (cond b (x ∷ e ∷ es) (e ∷ with_log x es)) ≡ cond c (entries_from seq es) (e ∷ es)
lower_at true c x e seq es first test less others =
    let passed : nat_lt x.head.seq seq ≡ true = grind (arith, nat_tests, less) in
    ap (λ (b : Bool). cond b (cond (nat_lt e.head.seq seq) (entries_from seq es) (e ∷ es)) (x ∷ e ∷ es)) passed
    ∙ ap (λ (b : Bool). cond b (entries_from seq es) (e ∷ es)) test
lower_at false true x e seq es first test less others =
    ap (λ (b : Bool). cond b (entries_from seq (with_log x es)) (e ∷ with_log x es)) test ∙ others
lower_at false false x e seq es first test less others = absurd (grind (arith, nat_tests, first, test, less))

-- a log below the sequence is none of them
lower : (x : LogEntry) (seq : ℕ) (es : List LogEntry) → x.head.seq < seq →
    entries_from seq (with_log x es) ≡ entries_from seq es
lower x seq [] less =
    let passed : nat_lt x.head.seq seq ≡ true = grind (arith, nat_tests, less) in
    ap (λ (b : Bool). cond b [] (x ∷ [])) passed
lower x seq (e ∷ es) less = lower_at (nat_lt x.head.seq e.head.seq) (nat_lt e.head.seq seq) x e seq es refl refl less
    (lower x seq es less)

higher_at : (b c : Bool) (x e : LogEntry) (seq : ℕ) (es : List LogEntry) → nat_lt x.head.seq e.head.seq ≡ b →
    nat_lt e.head.seq seq ≡ c → seq ≤ x.head.seq → entries_from seq (with_log x es) ≡ with_log x (entries_from seq es) →
    entries_from seq (cond b (x ∷ e ∷ es) (e ∷ with_log x es)) ≡ with_log x (cond c (entries_from seq es) (e ∷ es))
higher_at true true x e seq es first test least others = absurd (grind (arith, nat_tests, first, test, least))
higher_at true false x e seq es first test least others =
    let stays : nat_lt x.head.seq seq ≡ false = grind (arith, nat_tests, least) in
    ap (λ (b : Bool). cond b (cond (nat_lt e.head.seq seq) (entries_from seq es) (e ∷ es)) (x ∷ e ∷ es)) stays
    ∙ sym (ap (λ (b : Bool). cond b (x ∷ e ∷ es) (e ∷ with_log x es)) first)
higher_at false true x e seq es first test least others =
    ap (λ (b : Bool). cond b (entries_from seq (with_log x es)) (e ∷ with_log x es)) test ∙ others
higher_at false false x e seq es first test least others =
    ap (λ (b : Bool). cond b (entries_from seq (with_log x es)) (e ∷ with_log x es)) test
    ∙ sym (ap (λ (b : Bool). cond b (x ∷ e ∷ es) (e ∷ with_log x es)) first)

-- a log from the sequence on is one of them
higher : (x : LogEntry) (seq : ℕ) (es : List LogEntry) → seq ≤ x.head.seq →
    entries_from seq (with_log x es) ≡ with_log x (entries_from seq es)
higher x seq [] least =
    let stays : nat_lt x.head.seq seq ≡ false = grind (arith, nat_tests, least) in
    ap (λ (b : Bool). cond b [] (x ∷ [])) stays
higher x seq (e ∷ es) least = higher_at (nat_lt x.head.seq e.head.seq) (nat_lt e.head.seq seq) x e seq es refl refl least
    (higher x seq es least)

rises_at : (c : Bool) (seq : ℕ) (e : LogEntry) (es : List LogEntry) → nat_lt e.head.seq seq ≡ c →
    RiseFrom (e.head.seq + 1) es → RiseFrom seq (entries_from seq es) → RiseFrom seq (cond c (entries_from seq es) (e ∷ es))
rises_at true seq e es test rise others = others
rises_at false seq e es test rise others = (grind (arith, nat_tests, test), rise)

rises_from : (seq least : ℕ) (es : List LogEntry) → RiseFrom least es → RiseFrom seq (entries_from seq es)
rises_from seq least [] rise = tt
rises_from seq least (e ∷ es) rise = rises_at (nat_lt e.head.seq seq) seq e es refl rise.1
    (rises_from seq (e.head.seq + 1) es rise.1)

pub record IsOther (b : Bool) (rest : Option LogEntry) : Type 0 where
  pub test : b ≡ false
  pub none : rest ≡ None

other : (b : Bool) (e : LogEntry) (rest : Option LogEntry) → cond b (Some e) rest ≡ None → IsOther b rest
other true e rest is = absurd (cc)
other false e rest is = record { test = refl; none = is }

absent_at : (c : Bool) (seq asked : ℕ) (e : LogEntry) (es : List LogEntry) → entry_of asked (e ∷ es) ≡ None →
    entry_of asked (entries_from seq es) ≡ None → entry_of asked (cond c (entries_from seq es) (e ∷ es)) ≡ None
absent_at true seq asked e es none others = others
absent_at false seq asked e es none others = none

absent_from : (seq asked : ℕ) (es : List LogEntry) → entry_of asked es ≡ None → entry_of asked (entries_from seq es) ≡ None
absent_from seq asked [] none = none
absent_from seq asked (e ∷ es) none = absent_at (nat_lt e.head.seq seq) seq asked e es none
    (absent_from seq asked es (other (e.head.seq == asked) e (entry_of asked es) none).none)

-- ---- one more log from a sequence on, behind which the registered logs rise

pub record MayCome (seq : ℕ) (x : LogEntry) (es : List LogEntry) : Type 0 where
  pub rise : RiseFrom seq es
  pub least : seq ≤ x.head.seq
  pub new : entry_of x.head.seq es ≡ None

-- behind the log of this sequence
comes_later : (seq : ℕ) (x e : LogEntry) (es : List LogEntry) → e.head.seq ≡ seq → MayCome seq x (e ∷ es) → MayCome (seq + 1) x es
comes_later seq x e es same may =
    let o = other (e.head.seq == x.head.seq) e (entry_of x.head.seq es) may.new in
    let test = o.test in
    let least = may.least in
    record {
      rise = subst (λ (n : ℕ). RiseFrom (n + 1) es) same may.rise.1;
      least = grind (arith, nat_tests, test, same, least);
      new = o.none;
    }

abbrev Later : (ℕ → Option (List ℕ)) → ℕ → LogEntry → List LogEntry → Type 0
Later logs seq x es = (p : LogPlace) → GoesOnBehind (ahead_in logs seq p es).raws (ahead_in logs seq p (with_log x es)).raws

unless_on : (cause : Option CutFault) (number : ℕ) (a b : Ahead) → GoesOnBehind a.raws b.raws →
    GoesOnBehind (unless_broken cause number a).raws (unless_broken cause number b).raws
unless_on None number a b on = on
unless_on (Some fault) number a b on = behind_none []

log_on : (logs : ℕ → Option (List ℕ)) (seq : ℕ) (x e : LogEntry) (es : List LogEntry) (p : LogPlace) → Later logs (seq + 1) x es →
    GoesOnBehind (in_log e.head p (bytes_or_none (logs seq)) (later_logs logs seq es)).raws
    (in_log e.head p (bytes_or_none (logs seq)) (later_logs logs seq (with_log x es))).raws
log_on logs seq x e es p later =
    let c : LogCut = cut_off e.head (e.head.count - p.done) p (drop p.at (bytes_or_none (logs seq))) in
    let a : Ahead = later_logs logs seq es (c.place.rec - 1) in
    let b : Ahead = later_logs logs seq (with_log x es) (c.place.rec - 1) in
    let cause = cause_of e.head c in
    behind_same c.raws (unless_broken cause c.place.rec a).raws (unless_broken cause c.place.rec b).raws
    (unless_on cause c.place.rec a b (later (log_begin (c.place.rec - 1))))

on_at : (b c : Bool) (logs : ℕ → Option (List ℕ)) (seq : ℕ) (x e : LogEntry) (es : List LogEntry) (p : LogPlace) →
    nat_lt x.head.seq e.head.seq ≡ b → (e.head.seq == seq) ≡ c → MayCome seq x (e ∷ es) →
    (MayCome (seq + 1) x es → Later logs (seq + 1) x es) →
    GoesOnBehind (cond c (in_log e.head p (bytes_or_none (logs seq)) (later_logs logs seq es))
    (nothing_but (stops.Gap seq (e.head.seq - 1)))).raws
    (ahead_in logs seq p (cond b (x ∷ e ∷ es) (e ∷ with_log x es))).raws
on_at true true logs seq x e es p first test may later =
    let least = may.least in absurd (grind (arith, nat_tests, first, test, least))
on_at true false logs seq x e es p first test may later = behind_none (ahead_in logs seq p (x ∷ e ∷ es)).raws
on_at false true logs seq x e es p first test may later =
    let same : e.head.seq ≡ seq = grind (arith, nat_tests, test) in
    let old : Ahead = in_log e.head p (bytes_or_none (logs seq)) (later_logs logs seq es) in
    let new : Ahead = in_log e.head p (bytes_or_none (logs seq)) (later_logs logs seq (with_log x es)) in
    subst (λ (b : Bool). GoesOnBehind old.raws (cond b new (nothing_but (stops.Gap seq (e.head.seq - 1)))).raws) (sym test)
    (log_on logs seq x e es p (later (comes_later seq x e es same may)))
on_at false false logs seq x e es p first test may later =
    behind_none (ahead_in logs seq p (e ∷ with_log x es)).raws

goes_on : (logs : ℕ → Option (List ℕ)) (x : LogEntry) (es : List LogEntry) (seq : ℕ) → MayCome seq x es → Later logs seq x es
goes_on logs x [] seq may = λ p. behind_none (ahead_in logs seq p (x ∷ [])).raws
goes_on logs x (e ∷ es) seq may = λ p. on_at (nat_lt x.head.seq e.head.seq) (e.head.seq == seq) logs seq x e es p refl refl may
    (λ next. goes_on logs x es (seq + 1) next)

-- ---- the same of the redo

abbrev LaterRedo : (ℕ → Option (List ℕ)) → ℕ → LogEntry → List LogEntry → Type 0
LaterRedo logs seq x es = (rec : ℕ) → GoesOnBehind (redo_from seq rec (told_logs logs es)).entries
    (redo_from seq rec (told_logs logs (with_log x es))).entries

redo_on : (cause : Option Cause) (rec : ℕ) (entries : List Entry) (a b : Redo) → GoesOnBehind a.entries b.entries →
    GoesOnBehind (redo_behind cause rec entries a).entries (redo_behind cause rec entries b).entries
redo_on None rec entries a b on = behind_same entries a.entries b.entries on
redo_on (Some cause) rec entries a b on = nothing_more entries entries refl

redo_at : (b c : Bool) (logs : ℕ → Option (List ℕ)) (seq rec : ℕ) (x e : LogEntry) (es : List LogEntry) →
    nat_lt x.head.seq e.head.seq ≡ b → (e.head.seq == seq) ≡ c → MayCome seq x (e ∷ es) →
    (MayCome (seq + 1) x es → LaterRedo logs (seq + 1) x es) →
    GoesOnBehind (cond c (let r = records_of (bytes_or_none (logs e.head.seq)) in
    redo_after_records rec r (redo_from (seq + 1) (rec + length r.entries) (told_logs logs es)))
    (redo_ended_by (stops.Gap seq (e.head.seq - 1)))).entries
    (redo_from seq rec (told_logs logs (cond b (x ∷ e ∷ es) (e ∷ with_log x es)))).entries
redo_at true true logs seq rec x e es first test may later =
    let least = may.least in absurd (grind (arith, nat_tests, first, test, least))
redo_at true false logs seq rec x e es first test may later =
    behind_none (redo_from seq rec (told_logs logs (x ∷ e ∷ es))).entries
redo_at false true logs seq rec x e es first test may later =
    let same : e.head.seq ≡ seq = grind (arith, nat_tests, test) in
    let r : Records = records_of (bytes_or_none (logs e.head.seq)) in
    let a : Redo = redo_from (seq + 1) (rec + length r.entries) (told_logs logs es) in
    let b : Redo = redo_from (seq + 1) (rec + length r.entries) (told_logs logs (with_log x es)) in
    subst (λ (t : Bool). GoesOnBehind (redo_after_records rec r a).entries
    (cond t (redo_after_records rec r b) (redo_ended_by (stops.Gap seq (e.head.seq - 1)))).entries) (sym test)
    (redo_on r.cause rec r.entries a b (later (comes_later seq x e es same may) (rec + length r.entries)))
redo_at false false logs seq rec x e es first test may later =
    behind_none (redo_from seq rec (told_logs logs (e ∷ with_log x es))).entries

redo_goes_on : (logs : ℕ → Option (List ℕ)) (x : LogEntry) (es : List LogEntry) (seq : ℕ) → MayCome seq x es →
    LaterRedo logs seq x es
redo_goes_on logs x [] seq may = λ rec. behind_none (redo_from seq rec (told_logs logs (x ∷ []))).entries
redo_goes_on logs x (e ∷ es) seq may = λ rec. redo_at (nat_lt x.head.seq e.head.seq) (e.head.seq == seq) logs seq rec x e es
    refl refl may (λ next. redo_goes_on logs x es (seq + 1) next)

-- ---- one more registered log

may_come : (registry : List LogEntry) (seq : ℕ) (x : LogEntry) → IsRising registry → entry_of x.head.seq registry ≡ None →
    seq ≤ x.head.seq → MayCome seq x (entries_from seq registry)
may_come registry seq x rise new least = record {
  rise = rises_from seq 0 registry rise;
  least = least;
  new = absent_from seq x.head.seq registry new;
}

ahead_by : (b : Bool) (logs : ℕ → Option (List ℕ)) (registry : List LogEntry) (place : Place) (x : LogEntry) →
    nat_lt x.head.seq place.seq ≡ b → IsRising registry → entry_of x.head.seq registry ≡ None →
    GoesOnBehind (ahead logs registry place).raws (ahead logs (with_log x registry) place).raws
ahead_by true logs registry place x test rise new =
    let less : x.head.seq < place.seq = grind (arith, nat_tests, test) in
    nothing_more (ahead logs registry place).raws (ahead logs (with_log x registry) place).raws
    (ap (λ (es : List LogEntry). (ahead_in logs place.seq (in_its_log place) es).raws) (lower x place.seq registry less))
ahead_by false logs registry place x test rise new =
    let least : place.seq ≤ x.head.seq = grind (arith, nat_tests, test) in
    let es = entries_from place.seq registry in
    subst (λ (l : List LogEntry). GoesOnBehind (ahead logs registry place).raws
    (ahead_in logs place.seq (in_its_log place) l).raws)
    (sym (higher x place.seq registry least))
    (goes_on logs x es place.seq (may_come registry place.seq x rise new least) (in_its_log place))

redo_by : (b : Bool) (logs : ℕ → Option (List ℕ)) (registry : List LogEntry) (seq rec : ℕ) (x : LogEntry) →
    nat_lt x.head.seq seq ≡ b → IsRising registry → entry_of x.head.seq registry ≡ None →
    GoesOnBehind (redo_from seq rec (told_logs logs (entries_from seq registry))).entries
    (redo_from seq rec (told_logs logs (entries_from seq (with_log x registry)))).entries
redo_by true logs registry seq rec x test rise new =
    let less : x.head.seq < seq = grind (arith, nat_tests, test) in
    nothing_more (redo_from seq rec (told_logs logs (entries_from seq registry))).entries
    (redo_from seq rec (told_logs logs (entries_from seq (with_log x registry)))).entries
    (ap (λ (es : List LogEntry). (redo_from seq rec (told_logs logs es)).entries) (lower x seq registry less))
redo_by false logs registry seq rec x test rise new =
    let least : seq ≤ x.head.seq = grind (arith, nat_tests, test) in
    let es = entries_from seq registry in
    subst (λ (l : List LogEntry). GoesOnBehind (redo_from seq rec (told_logs logs es)).entries
    (redo_from seq rec (told_logs logs l)).entries) (sym (higher x seq registry least))
    (redo_goes_on logs x es seq (may_come registry seq x rise new least) rec)

-- a place behind records that were ahead stays
pub place_stays : (logs : ℕ → Option (List ℕ)) (registry : List LogEntry) (place : Place) (count : ℕ) (x : LogEntry) →
    IsRising registry → entry_of x.head.seq registry ≡ None → count ≤ length (ahead logs registry place).raws →
    place_ahead logs (with_log x registry) place count ≡ place_ahead logs registry place count
place_stays logs registry place count x rise new there =
    let on = ahead_by (nat_lt x.head.seq place.seq) logs registry place x refl rise new in
    ap (λ (rs : List Raw). place_after_raws place (take count rs)) on.is
    ∙ ap (place_after_raws place) (take-append-le count (ahead logs registry place).raws on.more there)

-- the redo goes on behind its records
pub redo_further : (logs : ℕ → Option (List ℕ)) (registry : List LogEntry) (seq rec : ℕ) (x : LogEntry) →
    IsRising registry → entry_of x.head.seq registry ≡ None →
    let old = (redo_from seq rec (told_logs logs (entries_from seq registry))).entries in
    let new = (redo_from seq rec (told_logs logs (entries_from seq (with_log x registry)))).entries in
    new ≡ old ++ drop (length old) new
redo_further logs registry seq rec x rise fresh =
    let on = redo_by (nat_lt x.head.seq seq) logs registry seq rec x refl rise fresh in
    let old : List Entry = (redo_from seq rec (told_logs logs (entries_from seq registry))).entries in
    let behind : drop (length old) (old ++ on.more) ≡ on.more = drop-append_seam old on.more in
    on.is ∙ ap (λ (l : List Entry). old ++ l) (sym behind ∙ ap (drop (length old)) (sym on.is))
