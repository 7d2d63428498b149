-- The registered logs from a sequence on.
use Rattle.std.proofs.Common.{◌≡◌, ℕ, ◌+◌, ◌-◌, ◌^◌, ◌<◌, ◌≤◌, Bool, true, false, cond, List, [], ◌∷◌, length, Option, Some, None, Ok, Err, refl, sym, ap, subst, ◌∙◌, arith}
use Rattle.std.specs.Prelude.{◌==◌, nat_lt, nat_le, if◌then◌else◌, IfSome}
use Rattle.std.proofs.lemmas.Bool.Decides.{nat_tests}
use Rattle.rl_value.specs.declared.verdict.Stop.TheVariants as stops
use Rattle.rl_value.specs.declared.cause.HeadFault.{HeadFault}
use Rattle.redo_spec.specs.declared.header.Header.{Header}
use Rattle.redo_spec.specs.LogHeader.{header_in, header_fault}
use Rattle.redo_wire.specs.declared.cutting.LogPlace.{LogPlace}
use Rattle.log_registry.specs.declared.entry.LogEntry.{LogEntry}
use Rattle.log_registry.specs.declared.fault.RegFault.TheVariants as refusals
use Rattle.log_registry.specs.Registered.{Following, AreToldBy, IsToldBy, AreBelow, RiseFrom, entry_of, entries_from, count_of, next_in, answer_of_inspect, of_database, entry_unless_refused, Log, End, Gap}
use Rattle.redo_reader.specs.Ahead.{ahead_in, nothing_but}
use Rattle.redo_reader.specs.Reading.{done_within}

-- ---- what comes next

end_at : (b : Bool) (logs : ℕ → Option (List ℕ)) (seq : ℕ) (e : LogEntry) → End ≡ cond b (Log e) (Gap seq (e.head.seq - 1)) → ⊥
end_at true logs seq e is = cc
end_at false logs seq e is = cc

pub end_is : (logs : ℕ → Option (List ℕ)) (seq : ℕ) (p : LogPlace) (es : List LogEntry) → End ≡ next_in seq es →
    ahead_in logs seq p es ≡ nothing_but stops.Drained
end_is logs seq p [] is = refl
end_is logs seq p (e ∷ es) is = absurd (end_at (e.head.seq == seq) logs seq e is)

gap_at : (b : Bool) (seq low high : ℕ) (e : LogEntry) → Gap low high ≡ cond b (Log e) (Gap seq (e.head.seq - 1)) → (b ≡ false) ×
    (low ≡ seq) × (high ≡ e.head.seq - 1)
gap_at true seq low high e is = absurd (cc)
gap_at false seq low high e is = (refl, cc, cc)

pub gap_is : (logs : ℕ → Option (List ℕ)) (seq low high : ℕ) (p : LogPlace) (es : List LogEntry) → Gap low high ≡ next_in seq es →
    ahead_in logs seq p es ≡ nothing_but (stops.Gap low high)
gap_is logs seq low high p [] is = absurd (cc)
gap_is logs seq low high p (e ∷ es) is =
    let parts = gap_at (e.head.seq == seq) seq low high e is in
    let other = parts.0 in
    rw other (λ i. nothing_but (stops.Gap (sym parts.1 i) (sym parts.2 i)))

pub record IsFirst (seq : ℕ) (e : LogEntry) (es : List LogEntry) : Type 0 where
  pub later : List LogEntry
  pub from : es ≡ e ∷ later
  pub seq_is : e.head.seq ≡ seq

log_at : (b : Bool) (seq : ℕ) (e found : LogEntry) → Log found ≡ cond b (Log e) (Gap seq (e.head.seq - 1)) →
    (b ≡ true) × (found ≡ e)
log_at true seq e found is = (refl, cc)
log_at false seq e found is = absurd (cc)

pub log_is : (seq : ℕ) (found : LogEntry) (es : List LogEntry) → Log found ≡ next_in seq es → IsFirst seq found es
log_is seq found [] is = absurd (cc)
log_is seq found (e ∷ es) is =
    let parts = log_at (e.head.seq == seq) seq e found is in
    let test = parts.0 in
    let same : e.head.seq ≡ seq = grind (arith, nat_tests, test) in
    record {
      later = es;
      from = ap (λ (f : LogEntry). f ∷ es) (sym parts.1);
      seq_is = ap (λ (f : LogEntry). f.head.seq) parts.1 ∙ same;
    }

-- ---- the entries behind one

skip_at : (b c : Bool) (seq : ℕ) (e : LogEntry) (es : List LogEntry) → nat_lt e.head.seq seq ≡ b →
    nat_lt e.head.seq (seq + 1) ≡ c → entries_from (seq + 1) es ≡ entries_from (seq + 1) (entries_from seq es) →
    cond c (entries_from (seq + 1) es) (e ∷ es) ≡ entries_from (seq + 1) (cond b (entries_from seq es) (e ∷ es))
skip_at true true seq e es p q later = later
skip_at true false seq e es p q later = absurd (grind (arith, nat_tests, p, q))
skip_at false c seq e es p q later = sym (ap (λ (d : Bool). cond d (entries_from (seq + 1) es) (e ∷ es)) q)

skips : (seq : ℕ) (es : List LogEntry) → entries_from (seq + 1) es ≡ entries_from (seq + 1) (entries_from seq es)
skips seq [] = refl
skips seq (e ∷ es) = skip_at (nat_lt e.head.seq seq) (nat_lt e.head.seq (seq + 1)) seq e es refl refl (skips seq es)

first_kept : (b : Bool) (seq : ℕ) (e : LogEntry) (es : List LogEntry) → nat_lt e.head.seq seq ≡ b → seq ≤ e.head.seq →
    cond b (entries_from seq es) (e ∷ es) ≡ e ∷ es
first_kept true seq e es is least = absurd (grind (arith, nat_tests, is, least))
first_kept false seq e es is least = refl

kept : (seq : ℕ) (es : List LogEntry) → RiseFrom seq es → entries_from seq es ≡ es
kept seq [] rise = refl
kept seq (e ∷ es) rise = first_kept (nat_lt e.head.seq seq) seq e es refl rise.0

rise_at : (b : Bool) (seq least : ℕ) (first : LogEntry) (es : List LogEntry) (e : LogEntry) (later : List LogEntry) →
    cond b (entries_from seq es) (first ∷ es) ≡ e ∷ later → RiseFrom (first.head.seq + 1) es →
    (entries_from seq es ≡ e ∷ later → RiseFrom (e.head.seq + 1) later) → RiseFrom (e.head.seq + 1) later
rise_at true seq least first es e later is rise next = next is
rise_at false seq least first es e later is rise next =
    let head : first ≡ e = cc in
    let tail : es ≡ later = cc in
    subst (λ (l : List LogEntry). RiseFrom (e.head.seq + 1) l) tail
    (subst (λ (f : LogEntry). RiseFrom (f.head.seq + 1) es) head rise)

rises_behind : (seq least : ℕ) (es : List LogEntry) (e : LogEntry) (later : List LogEntry) → RiseFrom least es →
    entries_from seq es ≡ e ∷ later → RiseFrom (e.head.seq + 1) later
rises_behind seq least [] e later rise is = absurd (cc)
rises_behind seq least (first ∷ es) e later rise is = rise_at (nat_lt first.head.seq seq) seq least first es e later is rise.1
    (λ more. rises_behind seq (first.head.seq + 1) es e later rise.1 more)

below_at : (b : Bool) (limit seq : ℕ) (first : LogEntry) (es : List LogEntry) (e : LogEntry) (later : List LogEntry) →
    cond b (entries_from seq es) (first ∷ es) ≡ e ∷ later → AreBelow limit es →
    (entries_from seq es ≡ e ∷ later → AreBelow limit later) → AreBelow limit later
below_at true limit seq first es e later is below next = next is
below_at false limit seq first es e later is below next = let tail : es ≡ later = cc in subst (AreBelow limit) tail below

below_behind : (limit seq : ℕ) (es : List LogEntry) (e : LogEntry) (later : List LogEntry) → AreBelow limit es →
    entries_from seq es ≡ e ∷ later → AreBelow limit later
below_behind limit seq [] e later below is = absurd (cc)
below_behind limit seq (first ∷ es) e later below is = below_at (nat_lt first.head.seq seq) limit seq first es e later is below.1
    (λ more. below_behind limit seq es e later below.1 more)

none_above : (limit : ℕ) (es : List LogEntry) → RiseFrom limit es → AreBelow limit es → es ≡ []
none_above limit [] rise below = refl
none_above limit (e ∷ es) rise below = let a = rise.0 in let b = below.0 in absurd (omega arith)

pub behind_first : (seq least : ℕ) (es : List LogEntry) (e : LogEntry) (later : List LogEntry) → RiseFrom least es →
    entries_from seq es ≡ e ∷ later → e.head.seq ≡ seq → entries_from (seq + 1) es ≡ later
behind_first seq least es e later rise is same =
    let rise_on : RiseFrom (seq + 1) later = subst (λ (n : ℕ). RiseFrom (n + 1) later) same
    (rises_behind seq least es e later rise is) in
    let passed : nat_lt e.head.seq (seq + 1) ≡ true = grind (arith, nat_tests, same) in
    skips seq es ∙ ap (entries_from (seq + 1)) is ∙ ap (λ (b : Bool). cond b (entries_from (seq + 1) later) (e ∷ later)) passed ∙
    kept (seq + 1) later rise_on

pub none_behind_last : (seq limit least : ℕ) (es : List LogEntry) (e : LogEntry) (later : List LogEntry) → RiseFrom least es →
    AreBelow limit es → entries_from seq es ≡ e ∷ later → e.head.seq ≡ seq → seq + 1 ≡ limit → later ≡ []
none_behind_last seq limit least es e later rise below is same last =
    none_above limit later (subst (λ (n : ℕ). RiseFrom n later) last
    (subst (λ (n : ℕ). RiseFrom (n + 1) later) same (rises_behind seq least es e later rise is)))
    (below_behind limit seq es e later below is)

found_at : (b : Bool) (seq : ℕ) (first : LogEntry) (es : List LogEntry) (e : LogEntry) (later : List LogEntry) →
    nat_lt first.head.seq seq ≡ b → cond b (entries_from seq es) (first ∷ es) ≡ e ∷ later → e.head.seq ≡ seq →
    (entries_from seq es ≡ e ∷ later → entry_of seq es ≡ Some e) → entry_of seq (first ∷ es) ≡ Some e
found_at true seq first es e later less is same next =
    let other : (first.head.seq == seq) ≡ false = grind (arith, nat_tests, less) in
    ap (λ (c : Bool). cond c (Some first) (entry_of seq es)) other ∙ next is
found_at false seq first es e later less is same next =
    let head : first ≡ e = cc in
    let its : first.head.seq ≡ seq = ap (λ (f : LogEntry). f.head.seq) head ∙ same in
    let equal : (first.head.seq == seq) ≡ true = grind (arith, nat_tests, its) in
    ap (λ (c : Bool). cond c (Some first) (entry_of seq es)) equal ∙ ap Some head

pub found : (seq : ℕ) (es : List LogEntry) (e : LogEntry) (later : List LogEntry) → entries_from seq es ≡ e ∷ later →
    e.head.seq ≡ seq → entry_of seq es ≡ Some e
found seq [] e later is same = absurd (cc)
found seq (first ∷ es) e later is same = found_at (nat_lt first.head.seq seq) seq first es e later refl is same
    (λ more. found seq es e later more same)

-- ---- the archive's log

of_at : (b : Bool) (logs : ℕ → Option (List ℕ)) (seq : ℕ) (first : LogEntry) (es : List LogEntry) (e : LogEntry)
    (later : List LogEntry) → cond b (entries_from seq es) (first ∷ es) ≡ e ∷ later → IsToldBy logs first →
    (entries_from seq es ≡ e ∷ later → IsToldBy logs e) → IsToldBy logs e
of_at true logs seq first es e later is of next = next is
of_at false logs seq first es e later is of next = let head : first ≡ e = cc in subst (IsToldBy logs) head of

pub first_of : (logs : ℕ → Option (List ℕ)) (seq : ℕ) (es : List LogEntry) (e : LogEntry) (later : List LogEntry) →
    AreToldBy logs es → entries_from seq es ≡ e ∷ later → IsToldBy logs e
first_of logs seq [] e later of is = absurd (cc)
first_of logs seq (first ∷ es) e later of is = of_at (nat_lt first.head.seq seq) logs seq first es e later is of.0
    (λ more. first_of logs seq es e later of.1 more)

pub record HasBytes (log : Option (List ℕ)) (e : LogEntry) : Type 0 where
  pub bytes : List ℕ
  pub is : log ≡ Some bytes
  pub size : e.length ≡ length bytes

database_size : (b : Bool) (h : Header) (size : ℕ) (e : LogEntry) →
    cond b (Ok (let f : LogEntry = record { head = h; length = size } in f)) (Err refusals.WrongDb) ≡ Ok e → e.length ≡ size
database_size true h size e is = let same : (let f : LogEntry = record { head = h; length = size } in f) ≡ e =
    cc in sym (ap (λ (f : LogEntry). f.length) same)
database_size false h size e is = absurd (cc)

judged_size : (o : Option HeadFault) (dbid : ℕ) (h : Header) (size : ℕ) (e : LogEntry) →
    entry_unless_refused o (of_database dbid h size) ≡ Ok e → e.length ≡ size
judged_size None dbid h size e is = database_size (h.dbid == dbid) h size e is
judged_size (Some fault) dbid h size e is = absurd (cc)

bytes_by : (log : Option (List ℕ)) (seq dbid : ℕ) (e : LogEntry) → answer_of_inspect seq dbid log ≡ Ok e → HasBytes log e
bytes_by None seq dbid e is = absurd (cc)
bytes_by (Some bytes) seq dbid e is = record {
  bytes = bytes;
  is = refl;
  size = judged_size (header_fault seq bytes) dbid (header_in bytes) (length bytes) e is;
}

-- a registered log of the archive is there, as long as it was
pub its_bytes : (logs : ℕ → Option (List ℕ)) (e : LogEntry) → IsToldBy logs e → HasBytes (logs e.head.seq) e
its_bytes logs e of = bytes_by (logs e.head.seq) e.head.seq e.head.dbid e of

-- ---- a log that is not there

abbrev IsNoLog : Following → Type 0
IsNoLog (Log e) = ⊥
IsNoLog End = Unit {0}
IsNoLog (Gap low high) = Unit {0}

absent_above : (seq least : ℕ) (es : List LogEntry) → seq < least → RiseFrom least es → entry_of seq es ≡ None
absent_above seq least [] above rise = refl
absent_above seq least (e ∷ es) above rise =
    let higher = rise.0 in
    let other : (e.head.seq == seq) ≡ false = grind (arith, nat_tests, above, higher) in
    ap (λ (c : Bool). cond c (Some e) (entry_of seq es)) other ∙
    absent_above seq (e.head.seq + 1) es (omega (arith, above, higher)) rise.1

absent_at : (b c : Bool) (seq : ℕ) (first : LogEntry) (es : List LogEntry) → nat_lt first.head.seq seq ≡ b →
    (first.head.seq == seq) ≡ c → RiseFrom (first.head.seq + 1) es →
    IsNoLog (next_in seq (cond b (entries_from seq es) (first ∷ es))) →
    (IsNoLog (next_in seq (entries_from seq es)) → entry_of seq es ≡ None) → cond c (Some first) (entry_of seq es) ≡ None
absent_at true true seq first es less same rise no_log next = absurd (grind (arith, nat_tests, less, same))
absent_at true false seq first es less same rise no_log next = next no_log
absent_at false true seq first es less same rise no_log next =
    absurd (subst (λ (c : Bool). IsNoLog (cond c (Log first) (Gap seq (first.head.seq - 1)))) same no_log)
absent_at false false seq first es less same rise no_log next =
    absent_above seq (first.head.seq + 1) es (grind (arith, nat_tests, less, same)) rise

absent : (seq least : ℕ) (es : List LogEntry) → RiseFrom least es → IsNoLog (next_in seq (entries_from seq es)) →
    entry_of seq es ≡ None
absent seq least [] rise no_log = refl
absent seq least (first ∷ es) rise no_log =
    absent_at (nat_lt first.head.seq seq) (first.head.seq == seq) seq first es refl refl rise.1 no_log
    (λ more. absent seq (first.head.seq + 1) es rise.1 more)

pub none_at_end : (seq : ℕ) (es : List LogEntry) → RiseFrom 0 es → End ≡ next_in seq (entries_from seq es) →
    entry_of seq es ≡ None
none_at_end seq es rise is = absent seq 0 es rise (subst IsNoLog is tt)

pub none_in_gap : (seq low high : ℕ) (es : List LogEntry) → RiseFrom 0 es → Gap low high ≡ next_in seq (entries_from seq es) →
    entry_of seq es ≡ None
none_in_gap seq low high es rise is = absent seq 0 es rise (subst IsNoLog is tt)

pub some_at_log : (seq : ℕ) (es : List LogEntry) (e : LogEntry) → Log e ≡ next_in seq (entries_from seq es) →
    entry_of seq es ≡ Some e
some_at_log seq es e is = let first = log_is seq e (entries_from seq es) is in found seq es e first.later first.from first.seq_is

-- ---- the place that is taken

pub done_low : (done : ℕ) (e : LogEntry) → done ≤ e.head.count → done ≡ done_within (Some e) done
done_low done e low = let test : nat_le done e.head.count ≡ true =
    grind (arith, nat_tests, low) in sym (ap (λ (c : Bool). cond c done e.head.count) test)

pub done_high : (done : ℕ) (e : LogEntry) → e.head.count < done → e.head.count ≡ done_within (Some e) done
done_high done e high = let test : nat_le done e.head.count ≡ false =
    grind (arith, nat_tests, high) in sym (ap (λ (c : Bool). cond c done e.head.count) test)

within_at : (c : Bool) (done count : ℕ) → nat_le done count ≡ c → cond c done count ≤ count
within_at true done count is = grind (arith, nat_tests, is)
within_at false done count is = omega arith

pub within_is : (o : Option LogEntry) (done : ℕ) → IfSome o (λ e. done_within o done ≤ e.head.count)
within_is None done = tt
within_is (Some e) done = within_at (nat_le done e.head.count) done e.head.count refl

offset_at : (c : Bool) (at : ℕ) → nat_le (2 ^ 62) at ≡ c → cond c (2 ^ 62 - 1) at < 2 ^ 62
offset_at true at is = omega arith
offset_at false at is = grind (arith, nat_tests, is)

pub offset_is : (at : ℕ) → (if nat_le (2 ^ 62) at then 2 ^ 62 - 1 else at) < 2 ^ 62
offset_is at = offset_at (nat_le (2 ^ 62) at) at refl

fewer_at : (b : Bool) (seq : ℕ) (e : LogEntry) (es : List LogEntry) → count_of (entries_from seq es) ≤ count_of es →
    count_of (cond b (entries_from seq es) (e ∷ es)) ≤ e.head.count + count_of es
fewer_at true seq e es less = omega (arith, less)
fewer_at false seq e es less = omega arith

pub fewer : (seq : ℕ) (es : List LogEntry) → count_of (entries_from seq es) ≤ count_of es
fewer seq [] = omega arith
fewer seq (e ∷ es) = fewer_at (nat_lt e.head.seq seq) seq e es (fewer seq es)
