-- What each step does to what is ahead.
use Rattle.std.proofs.Common.{◌≡◌, ℕ, ◌+◌, ◌-◌, ◌^◌, ◌<◌, ◌≤◌, Bool, true, false, cond, List, [], ◌∷◌, length, drop, Option, Some, None, refl, sym, ap, subst, ◌∙◌, arith}
use Rattle.std.specs.Prelude.{◌==◌, ◌||◌, if◌then◌else◌, is_some, IfSome}
use Rattle.std.specs.Option.{option_or}
use Rattle.std.proofs.lemmas.Bool.Decides.{nat_tests}
use Rattle.std.proofs.lemmas.List.{drop-drop}
use Rattle.rl_value.specs.declared.cause.CutFault.{CutFault}
use Rattle.rl_value.specs.declared.cause.CutFault.TheVariants as faults
use Rattle.rl_value.specs.declared.verdict.Stop.TheVariants as stops
use Rattle.rl_ports.specs.Faults.{Told}
use Rattle.redo_spec.specs.declared.header.Header.{Header}
use Rattle.redo_wire.specs.declared.header.TheConstants.{HEADER_LENGTH}
use Rattle.redo_wire.specs.declared.raw.Raw.{Raw}
use Rattle.redo_wire.specs.declared.cutting.LogPlace.{LogPlace}
use Rattle.redo_wire.specs.Stream.{Cut as LogCut, Stream, with_raw, cut_off, log_place_behind as past, cut_of_piece, empty_cut, stream_after, end_fault}
use Rattle.redo_wire.specs.Records.{IsFramed, AreFramed}
use Rattle.log_registry.specs.declared.entry.LogEntry.{LogEntry}
use Rattle.log_registry.specs.Registered.{AreToldBy, count_of, AreBelow, IsRising, entry_of, entries_from, next_in, Log}
use Rattle.redo_reader.specs.declared.place.Place.{Place}
use Rattle.redo_reader.specs.declared.progress.OpenLog.{OpenLog}
use Rattle.redo_reader.specs.declared.progress.RedoEnd.{RedoEnd}
use Rattle.redo_reader.specs.declared.progress.RedoEnd.TheVariants as ends
use Rattle.redo_reader.specs.Ahead.{Ahead, ahead, ahead_in, in_log, in_its_log, log_begin, nothing_but, raws_before, unless_broken, cause_of, bytes_or_none}
use Rattle.redo_reader.specs.Reading.{place_after_raw, clamped_place}
use Rattle.redo_reader.specs.Steps.{with_raws, log_place_behind_all, IsClosed, IsOpenLog, Continues, ContinuesIn, IsInStep, IsReading, IsSide, EndsAt, open_log_at, IsBegun, IsFed, IsPieceOf, IsAtEnd, IsCutBy, IsLogEnd, stop_of}
use Rattle.redo_reader.proofs.CutLaws.{taken, stream_walks, begun_settled, fed_settled}
use Rattle.redo_reader.proofs.EntryLaws.{first_of, its_bytes, found, log_is, behind_first, none_behind_last, fewer, offset_is, within_is}

-- ---- what an open log gives

abbrev pub gives_ahead : Header → (ℕ → Ahead) → LogCut → Ahead
gives_ahead h next c = raws_before c.raws (unless_broken (cause_of h c) c.place.rec (next (c.place.rec - 1)))

abbrev pub later_logs : (ℕ → Option (List ℕ)) → ℕ → List LogEntry → ℕ → Ahead
later_logs logs seq later rec = ahead_in logs (seq + 1) (log_begin rec) later

ahead_open : (logs : ℕ → Option (List ℕ)) (registry : List LogEntry) (front : Place) (e : LogEntry) (later : List LogEntry)
    (bytes : List ℕ) → entries_from front.seq registry ≡ e ∷ later → e.head.seq ≡ front.seq → logs front.seq ≡ Some bytes →
    ahead logs registry front ≡ gives_ahead e.head (later_logs logs front.seq later)
    (cut_off e.head (e.head.count - front.done) (in_its_log front) (drop front.at bytes))
ahead_open logs registry front e later bytes from seq is =
    let test : (e.head.seq == front.seq) ≡ true = grind (arith, nat_tests, seq) in
    ap (ahead_in logs front.seq (in_its_log front)) from
    ∙ ap (λ (b : Bool). cond b (in_log e.head (in_its_log front) (bytes_or_none (logs front.seq))
    (later_logs logs front.seq later)) (nothing_but (stops.Gap front.seq (e.head.seq - 1)))) test
    ∙ ap (λ (o : Option (List ℕ)). in_log e.head (in_its_log front) (bytes_or_none o) (later_logs logs front.seq later)) is

record LogIs (logs : ℕ → Option (List ℕ)) (seq : ℕ) (size : ℕ) : Type 0 where
  pub bytes : List ℕ
  pub is : logs seq ≡ Some bytes
  pub long : size ≡ length bytes

open_bytes : (logs : ℕ → Option (List ℕ)) (registry : List LogEntry) (front : Place) (waiting : List Raw) (log : OpenLog) →
    IsOpenLog registry front waiting log → AreToldBy logs registry → LogIs logs front.seq log.length
open_bytes logs registry front waiting log o of =
    let b = its_bytes logs o.entry (first_of logs front.seq registry o.entry o.later of o.from) in
    record { bytes = b.bytes; is = ap logs (sym o.seq) ∙ b.is; long = o.size ∙ b.size }

continues : (front : Place) (waiting : List Raw) (log : OpenLog) (o : Option (List ℕ)) (bytes : List ℕ) → o ≡ Some bytes →
    ContinuesIn front waiting log o → Continues front waiting log bytes
continues front waiting log None bytes is c = absurd (cc)
continues front waiting log (Some found) bytes is c = let same : found ≡ bytes = cc in subst (Continues front waiting log) same c

continues_in : (front : Place) (waiting : List Raw) (log : OpenLog) (o : Option (List ℕ)) (bytes : List ℕ) → o ≡ Some bytes →
    Continues front waiting log bytes → ContinuesIn front waiting log o
continues_in front waiting log o bytes is c = subst (ContinuesIn front waiting log) (sym is) c

-- ---- a record is given

abbrev pub next_place : Place → Raw → Place
next_place front raw = record { seq = front.seq; at = front.at + length raw.bytes; done = front.done + 1; rec = front.rec + 1 }

pub behind_is : (h : Header) (front : Place) (raw : Raw) → IsFramed h (in_its_log front) raw → h.seq ≡ front.seq →
    place_after_raw raw ≡ next_place front raw
behind_is h front raw framed seq =
    let seqs : raw.head.seq ≡ front.seq = ap (λ (g : Header). g.seq) framed.head ∙ seq in
    λ i. record { seq = seqs i; at = framed.end i; done = framed.done i; rec = framed.rec i }

given_open : (registry : List LogEntry) (front : Place) (raw : Raw) (ws : List Raw) (log : OpenLog) →
    IsOpenLog registry front (raw ∷ ws) log → IsOpenLog registry (next_place front raw) ws log
given_open registry front raw ws log o =
    let within = o.framed.0.within in
    let done = o.framed.0.done in
    let count : log.cutter.head.count ≡ o.entry.head.count = ap (λ (h : Header). h.count) o.head in
    let room = o.room in
    record {
      entry = o.entry;
      later = o.later;
      from = o.from;
      behind = o.behind;
      last = o.last;
      seq = o.seq;
      head = o.head;
      size = o.size;
      framed = o.framed.1;
      place = o.place;
      fault_told = o.fault_told;
      settled = o.settled;
      done = omega (arith, within, done, count);
      room = omega (arith, within, done, count, room);
    }

record GivesOne (logs : ℕ → Option (List ℕ)) (registry : List LogEntry) (front : Place) (raw : Raw) (ws : List Raw)
    (log : OpenLog) (bytes : List ℕ) : Type 0 where
  pub ahead_is : ahead logs registry front ≡ raws_before (raw ∷ []) (ahead logs registry (next_place front raw))
  pub on : Continues (next_place front raw) ws log bytes

gives_one : (logs : ℕ → Option (List ℕ)) (registry : List LogEntry) (front : Place) (raw : Raw) (ws : List Raw) (log : OpenLog)
    (bytes : List ℕ) → IsOpenLog registry front (raw ∷ ws) log → logs front.seq ≡ Some bytes →
    Continues front (raw ∷ ws) log bytes →
    GivesOne logs registry front raw ws log bytes
gives_one logs registry front raw ws log bytes o is cont =
    let h : Header = log.cutter.head in
    let p : LogPlace = in_its_log front in
    let c : LogCut = cut_of_piece log.cutter (drop log.offset bytes) in
    let t = taken h (h.count - front.done) p (drop front.at bytes) raw ws log.cause c cont in
    let n : h.count - front.done - 1 ≡ h.count - (front.done + 1) = omega arith in
    let b : drop (length raw.bytes) (drop front.at bytes) ≡ drop (front.at + length raw.bytes) bytes =
    drop-drop (length raw.bytes) front.at bytes in
    let next : LogCut = cut_off h (h.count - (front.done + 1)) (past p raw.bytes) (drop (front.at + length raw.bytes) bytes) in
    let same : cut_off h (h.count - front.done - 1) (past p raw.bytes) (drop (length raw.bytes) (drop front.at bytes)) ≡ next =
    (λ i. cut_off h (n i) (past p raw.bytes) (b i)) in
    let whole : cut_off h (h.count - front.done) p (drop front.at bytes) ≡ with_raw raw next = t.first ∙ ap (with_raw raw) same in
    let later = later_logs logs front.seq o.later in
    let here = ahead_open logs registry front o.entry o.later bytes o.from o.seq is in
    let there = ahead_open logs registry (next_place front raw) o.entry o.later bytes o.from o.seq is in
    record {
      ahead_is = here
          ∙ sym (ap (λ (g : Header). gives_ahead g later (cut_off g (g.count - front.done) p (drop front.at bytes))) o.head)
          ∙ ap (gives_ahead h later) whole
          ∙ ap (raws_before (raw ∷ [])) (ap (λ (g : Header). gives_ahead g later
          (cut_off g (g.count - (front.done + 1)) (past p raw.bytes) (drop (front.at + length raw.bytes) bytes)))
          o.head ∙ sym there);
      on = sym same ∙ t.rest;
    }

record GivesTold (logs : ℕ → Option (List ℕ)) (registry : List LogEntry) (place front : Place) (raw : Raw) (ws : List Raw)
    (log : OpenLog) : Type 0 where
  pub ahead_is : ahead logs registry place ≡ raws_before (raw ∷ []) (ahead logs registry (next_place front raw))
  pub step : IsInStep logs registry (next_place front raw) (next_place front raw) ws (Some log)

gives_in : (logs : ℕ → Option (List ℕ)) (registry : List LogEntry) (place front : Place) (raw : Raw) (ws : List Raw)
    (log : OpenLog) → IsOpenLog registry front (raw ∷ ws) log → AreToldBy logs registry →
    IsInStep logs registry place front (raw ∷ ws) (Some log) → GivesTold logs registry place front raw ws log
gives_in logs registry place front raw ws log o of s =
    let b = open_bytes logs registry front (raw ∷ ws) log o of in
    let one = gives_one logs registry front raw ws log b.bytes o b.is
    (continues front (raw ∷ ws) log (logs front.seq) b.bytes b.is s.gives) in
    record {
      ahead_is = s.same ∙ one.ahead_is;
      step = record
          { same = refl; gives = continues_in (next_place front raw) ws log (logs front.seq) b.bytes b.is one.on };
    }

gives_told : (known : Option (ℕ → Option (List ℕ))) (registry : List LogEntry) (place front : Place) (raw : Raw) (ws : List Raw)
    (log : OpenLog) → IsOpenLog registry front (raw ∷ ws) log →
    Told known (λ logs. AreToldBy logs registry → IsInStep logs registry place front (raw ∷ ws) (Some log)) →
    Told known (λ logs. AreToldBy logs registry → GivesTold logs registry place front raw ws log)
gives_told None registry place front raw ws log o told = tt
gives_told (Some logs) registry place front raw ws log o told = λ of. gives_in logs registry place front raw ws log o of (told of)

step_of : (known : Option (ℕ → Option (List ℕ))) (registry : List LogEntry) (place front : Place) (raw : Raw) (ws : List Raw)
    (log : OpenLog) →
    Told known (λ logs. AreToldBy logs registry → GivesTold logs registry place front raw ws log) →
    Told known (λ logs. AreToldBy logs registry → IsInStep logs registry (next_place front raw)
    (next_place front raw) ws (Some log))
step_of None registry place front raw ws log told = tt
step_of (Some logs) registry place front raw ws log told = λ of. (told of).step

ahead_of : (known : Option (ℕ → Option (List ℕ))) (registry : List LogEntry) (place front : Place) (raw : Raw) (ws : List Raw)
    (log : OpenLog) →
    Told known (λ logs. AreToldBy logs registry → GivesTold logs registry place front raw ws log) →
    Told known (λ logs. AreToldBy logs registry → ahead logs registry place ≡
    raws_before (raw ∷ []) (ahead logs registry (next_place front raw)))
ahead_of None registry place front raw ws log told = tt
ahead_of (Some logs) registry place front raw ws log told = λ of. (told of).ahead_is

pub record IsGiven (known : Option (ℕ → Option (List ℕ))) (registry : List LogEntry) (place front : Place) (raw : Raw)
    (ws : List Raw) (log : Option OpenLog) : Type 0 where
  pub reading : IsReading known registry (place_after_raw raw) (place_after_raw raw) ws log
  pub ahead_is : Told known (λ logs. AreToldBy logs registry →
      ahead logs registry place ≡ raws_before (raw ∷ []) (ahead logs registry (place_after_raw raw)))
  pub framed : IsFramed raw.head (in_its_log front) raw
  pub count : raw.rec < 2 ^ 63

given_from : (known : Option (ℕ → Option (List ℕ))) (registry : List LogEntry) (place front : Place) (raw : Raw) (ws : List Raw)
    (log : OpenLog) → IsOpenLog registry front (raw ∷ ws) log →
    Told known (λ logs. AreToldBy logs registry → IsInStep logs registry place front (raw ∷ ws) (Some log)) →
    IsGiven known registry place front raw ws (Some log)
given_from known registry place front raw ws log o told =
    let framed = o.framed.0 in
    let q : place_after_raw raw ≡ next_place front raw =
    behind_is log.cutter.head front raw framed (ap (λ (h : Header). h.seq) o.head ∙ o.seq) in
    let both = gives_told known registry place front raw ws log o told in
    let r : IsReading known registry (next_place front raw) (next_place front raw) ws (Some log) =
    record {
      rec = refl;
      at = given_open registry front raw ws log o;
      told = step_of known registry place front raw ws log both;
    } in
    let within = framed.within in
    let done = framed.done in
    let rec = framed.rec in
    let count : log.cutter.head.count ≡ o.entry.head.count = ap (λ (h : Header). h.count) o.head in
    let room = o.room in
    record {
      reading = subst (λ (p : Place). IsReading known registry p p ws (Some log)) (sym q) r;
      ahead_is = subst (λ (p : Place). Told known (λ logs. AreToldBy logs registry →
          ahead logs registry place ≡ raws_before (raw ∷ []) (ahead logs registry p))) (sym q)
          (ahead_of known registry place front raw ws log both);
      framed = subst (λ (h : Header). IsFramed h (in_its_log front) raw) (sym framed.head) framed;
      count = omega (arith, within, done, rec, count, room);
    }

pub gives : (known : Option (ℕ → Option (List ℕ))) (registry : List LogEntry) (place front : Place) (raw : Raw) (ws : List Raw)
    (log : Option OpenLog) → IsReading known registry place front (raw ∷ ws) log → IsGiven known registry place front raw ws log
gives known registry place front raw ws None r = let none = r.at.none in absurd (cc)
gives known registry place front raw ws (Some log) r = given_from known registry place front raw ws log r.at r.told

-- ---- a log is begun

if_found : (o : Option LogEntry) (e : LogEntry) (done : ℕ) → o ≡ Some e → IfSome o (λ f. done ≤ f.head.count) →
    done ≤ e.head.count
if_found None e done is h = absurd (cc)
if_found (Some f) e done is h = let same : f ≡ e = cc in subst (λ (g : LogEntry). done ≤ g.head.count) same h

pub record MayOpen (e : LogEntry) (front : Place) : Type 0 where
  pub done : front.done ≤ e.head.count
  pub at : front.at < 2 ^ 62
  pub room : front.rec + (e.head.count - front.done) < 2 ^ 63

pub may_open : (registry : List LogEntry) (front : Place) (e : LogEntry) (later : List LogEntry) → IsClosed registry front [] →
    entries_from front.seq registry ≡ e ∷ later → e.head.seq ≡ front.seq → MayOpen e front
may_open registry front e later c from seq =
    let sum : count_of (entries_from front.seq registry) ≡ e.head.count + count_of later = ap count_of from in
    let room = c.room in
    record {
      done = if_found (entry_of front.seq registry) e front.done (found front.seq registry e later from seq) c.done;
      at = c.at;
      room = omega (arith, sum, room);
    }

opened_open : (registry : List LogEntry) (front : Place) (log : OpenLog) → IsClosed registry front [] →
    (b : IsBegun registry front log) → IsOpenLog registry front [] (open_log_at b.entry front)
opened_open registry front log c b =
    let may = may_open registry front b.entry b.later c b.from b.seq in
    let sum : count_of (entries_from front.seq registry) ≡ b.entry.head.count + count_of b.later = ap count_of b.from in
    let room = c.room in
    record {
      entry = b.entry;
      later = b.later;
      from = b.from;
      behind = b.behind;
      last = b.last;
      seq = b.seq;
      head = refl;
      size = refl;
      framed = tt;
      place = refl;
      fault_told = refl;
      settled = (λ none. begun_settled b.entry.head (front.rec + 1) front.at front.done);
      done = may.done;
      room = omega (arith, sum, room, may.done);
    }

opened_in : (front : Place) (e : LogEntry) (o : Option (List ℕ)) → ContinuesIn front [] (open_log_at e front) o
opened_in front e None = tt
opened_in front e (Some bytes) = refl

opened_told : (known : Option (ℕ → Option (List ℕ))) (registry : List LogEntry) (place front : Place) (e : LogEntry) →
    Told known (λ logs. AreToldBy logs registry → IsInStep logs registry place front [] None) →
    Told known (λ logs. AreToldBy logs registry → IsInStep logs registry place front [] (Some (open_log_at e front)))
opened_told None registry place front e told = tt
opened_told (Some logs) registry place front e told = λ of. record
    { same = (told of).same; gives = opened_in front e (logs front.seq) }

pub begins_reading : (known : Option (ℕ → Option (List ℕ))) (registry : List LogEntry) (place front : Place) (waiting : List Raw)
    (log : OpenLog) → waiting ≡ [] → IsReading known registry place front waiting None → IsBegun registry front log →
    IsReading known registry place front waiting (Some log)
begins_reading known registry place front waiting log none r b =
    let s : IsReading known registry place front [] None =
    subst (λ (w : List Raw). IsReading known registry place front w None) none r in
    let t : IsReading known registry place front [] (Some (open_log_at b.entry front)) =
    record {
      rec = s.rec;
      at = opened_open registry front log s.at b;
      told = opened_told known registry place front b.entry s.told;
    } in
    subst (λ (w : List Raw). IsReading known registry place front w (Some log)) (sym none)
    (subst (λ (l : OpenLog). IsReading known registry place front [] (Some l)) (sym b.opens) t)

-- ---- a block is cut

told_is : (fault_told : Bool) (s : Stream) (piece : List ℕ) → s.fault_told ≡ fault_told → fault_told ≡ false →
    (stream_after s piece).fault_told ≡ is_some (cut_of_piece s piece).cause
told_is true s piece is shut = absurd (cc)
told_is false s piece is shut = rw is refl

fed_open : (known : Option (ℕ → Option (List ℕ))) (registry : List LogEntry) (front : Place) (old new : OpenLog) (raws : List Raw)
    → IsOpenLog registry front [] old → IsCutBy known front.seq old new raws → IsOpenLog registry front raws new
fed_open known registry front old new raws o c =
    let f = c.fed in
    let not_told : old.cutter.fault_told ≡ false = o.fault_told ∙ ap is_some c.none in
    let head : new.cutter.head ≡ old.cutter.head = ap (λ (s : Stream). s.head) f.cutter in
    let place : new.cutter.place ≡ log_place_behind_all (in_its_log front) raws =
    ap (λ (s : Stream). s.place) f.cutter ∙ stream_walks old.cutter c.piece ∙
    (λ i. log_place_behind_all (o.place i) (sym f.gave i)) in
    record {
      entry = o.entry;
      later = o.later;
      from = o.from;
      behind = o.behind;
      last = o.last;
      seq = o.seq;
      head = head ∙ o.head;
      size = f.size ∙ o.size;
      framed = subst (λ (h : Header). AreFramed h (in_its_log front) raws) (sym head)
          (subst (λ (p : LogPlace). AreFramed old.cutter.head p raws) o.place f.framed);
      place = place;
      fault_told = ap (λ (s : Stream). s.fault_told) f.cutter ∙ told_is old.cutter.fault_told old.cutter c.piece refl not_told ∙
          ap is_some (sym f.cause);
      settled = (λ none. subst (λ (s : Stream). cut_of_piece s [] ≡ empty_cut s) (sym f.cutter)
          (fed_settled old.cutter c.piece f.on (sym f.cause ∙ none)));
      done = o.done;
      room = o.room;
    }

fed_continues : (front : Place) (old new : OpenLog) (piece : List ℕ) (raws : List Raw) (bytes : List ℕ) →
    IsFed old new piece raws → old.cause ≡ None → IsPieceOf (Some bytes) old.offset piece → Continues front [] old bytes →
    Continues front raws new bytes
fed_continues front old new piece raws bytes f none parts cont =
    let head : new.cutter.head ≡ old.cutter.head = ap (λ (s : Stream). s.head) f.cutter in
    let given_all : cut_of_piece old.cutter (drop old.offset bytes) ≡
    with_raws raws new.cause (cut_of_piece new.cutter (drop new.offset bytes)) =
    ap (cut_of_piece old.cutter) parts ∙ f.on (drop (old.offset + length piece) bytes)
    ∙ (λ i. with_raws (sym f.gave i) (sym f.cause i) (cut_of_piece (sym f.cutter i) (drop (sym f.offset i) bytes))) in
    let before : cut_off old.cutter.head (old.cutter.head.count - front.done) (in_its_log front) (drop front.at bytes) ≡
    cut_of_piece old.cutter (drop old.offset bytes) =
    cont ∙ ap (λ (c : Option CutFault). with_raws [] c (cut_of_piece old.cutter (drop old.offset bytes))) none in
    subst (λ (h : Header). cut_off h (h.count - front.done) (in_its_log front) (drop front.at bytes) ≡
    with_raws raws new.cause (cut_of_piece new.cutter (drop new.offset bytes))) (sym head) (before ∙ given_all)

fed_in : (front : Place) (old new : OpenLog) (piece : List ℕ) (raws : List Raw) (o : Option (List ℕ)) → IsFed old new piece raws →
    old.cause ≡ None → IsPieceOf o old.offset piece → ContinuesIn front [] old o → ContinuesIn front raws new o
fed_in front old new piece raws None f none parts cont = tt
fed_in front old new piece raws (Some bytes) f none parts cont = fed_continues front old new piece raws bytes f none parts cont

fed_told : (known : Option (ℕ → Option (List ℕ))) (registry : List LogEntry) (place front : Place) (old new : OpenLog)
    (piece : List ℕ) (raws : List Raw) → IsFed old new piece raws → old.cause ≡ None →
    Told known (λ logs. IsPieceOf (logs front.seq) old.offset piece) →
    Told known (λ logs. AreToldBy logs registry → IsInStep logs registry place front [] (Some old)) →
    Told known (λ logs. AreToldBy logs registry → IsInStep logs registry place front raws (Some new))
fed_told None registry place front old new piece raws f none parts told = tt
fed_told (Some logs) registry place front old new piece raws f none parts told =
    λ of. record { same = (told of).same; gives = fed_in front old new piece raws (logs front.seq) f none parts (told of).gives }

pub feeds_reading : (known : Option (ℕ → Option (List ℕ))) (registry : List LogEntry) (place front : Place) (waiting : List Raw)
    (old new : OpenLog) (raws : List Raw) → waiting ≡ [] → IsReading known registry place front waiting (Some old) →
    IsCutBy known front.seq old new raws → IsReading known registry place front raws (Some new)
feeds_reading known registry place front waiting old new raws none r c =
    let s : IsReading known registry place front [] (Some old) =
    subst (λ (w : List Raw). IsReading known registry place front w (Some old)) none r in
    record {
      rec = s.rec;
      at = fed_open known registry front old new raws s.at c;
      told = fed_told known registry place front old new c.piece raws c.fed c.none c.told s.told;
    }

-- ---- the end of a log

told_nothing : (s : Stream) (bytes : List ℕ) → s.fault_told ≡ true → cut_of_piece s bytes ≡ empty_cut s
told_nothing s bytes is = rw is refl

end_cause : (s : Stream) (h : Header) (cause : Option CutFault) → s.head ≡ h → s.fault_told ≡ is_some cause →
    cause_of h (with_raws [] cause (empty_cut s)) ≡ option_or cause (end_fault s)
end_cause s h None head fault_told =
    ap (λ (g : Header). if s.place.done == g.count then None else Some faults.Truncated) (sym head)
    ∙ ap (λ (b : Bool). if b || (s.place.done == s.head.count) then None else Some faults.Truncated) (sym fault_told)
end_cause s h (Some f) head fault_told = refl

nothing_left : (cause : Option CutFault) (s : Stream) (left : List ℕ) → s.fault_told ≡ is_some cause →
    (cause ≡ None → cut_of_piece s [] ≡ empty_cut s) → (cause ≡ None → left ≡ []) → cut_of_piece s left ≡ empty_cut s
nothing_left None s left fault_told settled none = ap (cut_of_piece s) (none refl) ∙ settled refl
nothing_left (Some f) s left fault_told settled none = told_nothing s left fault_told

at_end : (o : Option (List ℕ)) (log : OpenLog) (bytes : List ℕ) → o ≡ Some bytes → log.length ≡ length bytes → IsAtEnd o log →
    drop log.offset bytes ≡ []
at_end None log bytes is size end = absurd (cc)
at_end (Some found) log bytes is size end = let same : found ≡ bytes =
    cc in subst (λ (b : List ℕ). drop log.offset b ≡ []) same (end (size ∙ ap length (sym same)))

ends_in : (logs : ℕ → Option (List ℕ)) (registry : List LogEntry) (place front : Place) (log : OpenLog) (ended : Option CutFault)
    → (o : IsOpenLog registry front [] log) → AreToldBy logs registry → option_or log.cause (end_fault log.cutter) ≡ ended →
    (log.cause ≡ None → IsAtEnd (logs front.seq) log) → IsInStep logs registry place front [] (Some log) →
    ahead logs registry place ≡ unless_broken ended (front.rec + 1) (later_logs logs front.seq o.later front.rec)
ends_in logs registry place front log ended o of cause end s =
    let b = open_bytes logs registry front [] log o of in
    let cont : Continues front [] log b.bytes = continues front [] log (logs front.seq) b.bytes b.is s.gives in
    let h : Header = o.entry.head in
    let left : cut_of_piece log.cutter (drop log.offset b.bytes) ≡ empty_cut log.cutter =
    nothing_left log.cause log.cutter (drop log.offset b.bytes) o.fault_told o.settled
    (λ none. at_end (logs front.seq) log b.bytes b.is b.long (end none)) in
    let cut : cut_off h (h.count - front.done) (in_its_log front) (drop front.at b.bytes) ≡
    with_raws [] log.cause (empty_cut log.cutter) =
    subst (λ (g : Header). cut_off g (g.count - front.done) (in_its_log front) (drop front.at b.bytes) ≡
    with_raws [] log.cause (empty_cut log.cutter)) o.head (cont ∙ ap (with_raws [] log.cause) left) in
    let later = later_logs logs front.seq o.later in
    let rec : log.cutter.place.rec ≡ front.rec + 1 = ap (λ (p : LogPlace). p.rec) o.place in
    let less : log.cutter.place.rec - 1 ≡ front.rec = omega (arith, rec) in
    s.same ∙ ahead_open logs registry front o.entry o.later b.bytes o.from o.seq b.is
    ∙ ap (gives_ahead h later) cut
    ∙ (λ i. unless_broken (end_cause log.cutter h log.cause o.head o.fault_told i) (rec i) (later (less i)))
    ∙ ap (λ (c : Option CutFault). unless_broken c (front.rec + 1) (later front.rec)) cause

ends_told : (known : Option (ℕ → Option (List ℕ))) (registry : List LogEntry) (place front : Place) (log : OpenLog)
    (ended : Option CutFault) → (o : IsOpenLog registry front [] log) → option_or log.cause (end_fault log.cutter) ≡ ended →
    Told known (λ logs. log.cause ≡ None → IsAtEnd (logs front.seq) log) →
    Told known (λ logs. AreToldBy logs registry → IsInStep logs registry place front [] (Some log)) →
    Told known (λ logs. AreToldBy logs registry → ahead logs registry place ≡
    unless_broken ended (front.rec + 1) (later_logs logs front.seq o.later front.rec))
ends_told None registry place front log ended o cause end told = tt
ends_told (Some logs) registry place front log ended o cause end told =
    λ of. ends_in logs registry place front log ended o of cause end (told of)

at_open : (known : Option (ℕ → Option (List ℕ))) (registry : List LogEntry) (place front : Place) (waiting : List Raw)
    (log : OpenLog) → waiting ≡ [] → IsReading known registry place front waiting (Some log) →
    IsReading known registry place front [] (Some log)
at_open known registry place front waiting log none r = subst
    (λ (w : List Raw). IsReading known registry place front w (Some log)) none r

-- a fault ends the redo
pub breaks : (known : Option (ℕ → Option (List ℕ))) (registry : List LogEntry) (place front : Place) (waiting : List Raw)
    (old new : OpenLog) (fault : CutFault) → waiting ≡ [] → IsReading known registry place front waiting (Some old) →
    IsLogEnd known front.seq old new (Some fault) →
    EndsAt known registry place (ends.Broken (front.rec + 1) fault)
breaks known registry place front waiting old new fault none r e =
    let s = at_open known registry place front waiting old none r in
    ends_told known registry place front old (Some fault) s.at e.cause e.told s.told

drained_at : (known : Option (ℕ → Option (List ℕ))) (registry : List LogEntry) (place : Place) (seq rec : ℕ)
    (later : List LogEntry) → later ≡ [] → Told known (λ logs. AreToldBy logs registry →
    ahead logs registry place ≡ later_logs logs seq later rec) → EndsAt known registry place ends.Drained
drained_at None registry place seq rec later none told = tt
drained_at (Some logs) registry place seq rec later none told =
    λ of. told of ∙ ap (λ (es : List LogEntry). later_logs logs seq es rec) none

-- behind the last log that can be there nothing comes
pub drains : (known : Option (ℕ → Option (List ℕ))) (registry : List LogEntry) (place front : Place) (waiting : List Raw)
    (old new : OpenLog) → waiting ≡ [] → IsReading known registry place front waiting (Some old) →
    IsLogEnd known front.seq old new None → front.seq + 1 ≡ 2 ^ 32 →
    EndsAt known registry place ends.Drained
drains known registry place front waiting old new none r e last =
    let s = at_open known registry place front waiting old none r in
    drained_at known registry place front.seq front.rec s.at.later (s.at.last last)
    (ends_told known registry place front old None s.at e.cause e.told s.told)

abbrev pub next_log : Place → Place
next_log front = record { seq = front.seq + 1; at = HEADER_LENGTH; done = 0; rec = front.rec }

none_done : (o : Option LogEntry) → IfSome o (λ e. 0 ≤ e.head.count)
none_done None = tt
none_done (Some e) = omega arith

closed_told : (known : Option (ℕ → Option (List ℕ))) (registry : List LogEntry) (place front : Place) (later : List LogEntry) →
    entries_from (front.seq + 1) registry ≡ later →
    Told known (λ logs. AreToldBy logs registry → ahead logs registry place ≡ later_logs logs front.seq later front.rec) →
    Told known (λ logs. AreToldBy logs registry → IsInStep logs registry place (next_log front) [] None)
closed_told None registry place front later is told = tt
closed_told (Some logs) registry place front later is told =
    λ of. record { same = told of ∙ ap (ahead_in logs (front.seq + 1) (log_begin front.rec)) (sym is); gives = tt }

-- the next log is begun behind the end of this one
pub closes : (known : Option (ℕ → Option (List ℕ))) (registry : List LogEntry) (place front : Place) (waiting : List Raw)
    (old new : OpenLog) → waiting ≡ [] → IsReading known registry place front waiting (Some old) →
    IsLogEnd known front.seq old new None →
    IsReading known registry place (next_log front) waiting None
closes known registry place front waiting old new none r e =
    let s = at_open known registry place front waiting old none r in
    let room = s.at.room in
    let same : count_of (entries_from (front.seq + 1) registry) ≡ count_of s.at.later = ap count_of s.at.behind in
    let c : IsClosed registry (next_log front) [] = record
    { none = refl; at = omega arith; done = none_done (entry_of (front.seq + 1) registry); room = omega (arith, room, same) }
    in
    let t : IsReading known registry place (next_log front) [] None =
    record {
      rec = s.rec;
      at = c;
      told = closed_told known registry place front s.at.later s.at.behind
          (ends_told known registry place front old None s.at e.cause e.told s.told);
    } in
    subst (λ (w : List Raw). IsReading known registry place (next_log front) w None) (sym none) t

-- ---- the first state, and the one behind `next`

pub begun_is : (registry : List LogEntry) (front : Place) (e : LogEntry) (log : OpenLog) →
    Log e ≡ next_in front.seq (entries_from front.seq registry) → IsRising registry → AreBelow (2 ^ 32) registry →
    log ≡ open_log_at e front → IsBegun registry front log
begun_is registry front e log is rise below same =
    let first = log_is front.seq e (entries_from front.seq registry) is in
    record {
      entry = e;
      later = first.later;
      from = first.from;
      seq = first.seq_is;
      behind = behind_first front.seq 0 registry e first.later rise first.from first.seq_is;
      last = (λ last. none_behind_last front.seq (2 ^ 32) 0 registry e first.later rise below first.from first.seq_is last);
      opens = same;
    }

pub may_begin : (registry : List LogEntry) (front : Place) (e : LogEntry) → IsClosed registry front [] →
    Log e ≡ next_in front.seq (entries_from front.seq registry) → MayOpen e front
may_begin registry front e c is =
    let first = log_is front.seq e (entries_from front.seq registry) is in
    may_open registry front e first.later c first.from first.seq_is

first_told : (known : Option (ℕ → Option (List ℕ))) (registry : List LogEntry) (place : Place) →
    Told known (λ logs. AreToldBy logs registry → IsInStep logs registry place place [] None)
first_told None registry place = tt
first_told (Some logs) registry place = λ of. record { same = refl; gives = tt }

pub first_side : (known : Option (ℕ → Option (List ℕ))) (registry : List LogEntry) (place : Place) →
    place.rec + count_of registry < 2 ^ 63 → IsSide known registry (clamped_place registry place)
    (clamped_place registry place) [] None None
first_side known registry place room =
    let less = fewer place.seq registry in
    let c : IsClosed registry (clamped_place registry place) [] =
    record {
      none = refl;
      at = offset_is place.at;
      done = within_is (entry_of place.seq registry) place.done;
      room = omega (arith, less, room);
    } in
    record {
      reading = record { rec = refl; at = c; told = first_told known registry (clamped_place registry place) };
      ended = tt;
    }

ended_told : (known : Option (ℕ → Option (List ℕ))) (registry : List LogEntry) (place front : Place) (waiting : List Raw)
    (e : RedoEnd) → Told known (λ logs. AreToldBy logs registry → IsInStep logs registry place front waiting None) →
    ((logs : ℕ → Option (List ℕ)) → ahead logs registry front ≡ nothing_but (stop_of e)) → EndsAt known registry place e
ended_told None registry place front waiting e told ends_so = tt
ended_told (Some logs) registry place front waiting e told ends_so = λ of. (told of).same ∙ ends_so logs

pub ends_closed : (known : Option (ℕ → Option (List ℕ))) (registry : List LogEntry) (place front : Place) (waiting : List Raw)
    (e : RedoEnd) → IsReading known registry place front waiting None →
    ((logs : ℕ → Option (List ℕ)) → ahead logs registry front ≡ nothing_but (stop_of e)) → EndsAt known registry place e
ends_closed known registry place front waiting e r ends_so = ended_told known registry place front waiting e r.told ends_so
