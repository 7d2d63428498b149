-- What is ahead of the place behind a record is what came behind that record.
use Rattle.std.proofs.Common.{◌≡◌, ℕ, zero, suc, ◌+◌, ◌-◌, ◌*◌, ◌^◌, ◌<◌, ◌≤◌, Bool, true, false, cond, List, [], ◌∷◌, ◌++◌, length, take, drop, Option, Some, None, Result, Ok, Err, refl, sym, ap, subst, ◌∙◌, arith}
use Rattle.std.specs.Prelude.{◌||◌, ◌==◌, nat_lt, nat_le, if◌then◌else◌, IfSome}
use Rattle.std.specs.Int.{w16, w32}
use Rattle.std.proofs.lemmas.Bool.{or_parts}
use Rattle.std.proofs.lemmas.Bool.Decides.{nat_tests}
use Rattle.std.proofs.lemmas.List.{take-append-drop, length-take, length-take-le, drop-drop}
use Rattle.std.proofs.Math.Seq.{drop-append_seam}
use Rattle.rl_value.specs.declared.cause.CutFault.{CutFault}
use Rattle.rl_value.specs.declared.cause.CutFault.TheVariants as faults
use Rattle.rl_value.specs.declared.verdict.Stop.{Stop}
use Rattle.rl_value.specs.declared.verdict.Stop.TheVariants as stops
use Rattle.rl_value.specs.Outcome.{first_fault, refused_by}
use Rattle.redo_vec.specs.declared.limits.TheConstants.{MIN_RECORD, MAX_RECORD, MAX_VECTORS}
use Rattle.redo_vec.specs.declared.redo_rec.RedoRec.{RedoRec}
use Rattle.redo_vec.specs.Cutting.{number_in, first_record}
use Rattle.redo_vec.specs.Reading.{Fault, record_at}
use Rattle.redo_spec.specs.declared.header.Header.{Header}
use Rattle.redo_spec.specs.Redo.{Redo}
use Rattle.redo_wire.specs.declared.header.TheConstants.{HEADER_LENGTH}
use Rattle.redo_wire.specs.declared.raw.Raw.{Raw}
use Rattle.redo_wire.specs.declared.cutting.LogPlace.{LogPlace}
use Rattle.redo_wire.specs.Stream.{Cut as LogCut, with_raw, cut_or, cut_off, log_place_behind as past, raw_of_bytes}
use Rattle.log_registry.specs.declared.entry.LogEntry.{LogEntry}
use Rattle.log_registry.specs.Registered.{IsRising, entry_of, entries_from}
use Rattle.redo_reader.specs.declared.place.Place.{Place}
use Rattle.redo_reader.specs.Ahead.{Ahead, ahead, ahead_in, in_log, in_its_log, log_begin, nothing_but, raws_before, unless_broken, cause_of, bytes_or_none, redo_with, redo_of_raws, redo_of, redo_ahead, first_place}
use Rattle.redo_reader.specs.Reading.{place_after_raw, clamped_place, done_within}
use Rattle.redo_reader.specs.Steps.{log_place_behind_all}
use Rattle.redo_reader.specs.Behind.{place_after_raws, place_ahead, ahead_left, redo_left}
use Rattle.redo_reader.proofs.CutLaws.{refused_ok, first_parts, walks}
use Rattle.redo_reader.proofs.EntryLaws.{found, behind_first, done_low}
use Rattle.redo_reader.proofs.StepLaws.{gives_ahead, later_logs}

-- ---- the first record of a cut

second_passes : (a b : Bool) (f g : CutFault) (tests : List (Bool × CutFault)) (y x : List ℕ × List ℕ) →
    refused_by (first_fault ((a, f) ∷ (b, g) ∷ tests)) y ≡ Ok x → b ≡ false
second_passes true b f g tests y x e = absurd (cc)
second_passes false true f g tests y x e = absurd (cc)
second_passes false false f g tests y x e = refl

-- a record that is cut off is no longer than a record may be
short_record : (b : List ℕ) (x : List ℕ × List ℕ) → first_record b ≡ Ok x → length x.0 ≤ MAX_RECORD
short_record b x e =
    let size = number_in w32 0 b in
    let count = number_in w16 12 b in
    let tests : List (Bool × CutFault) =
    (nat_lt (length b) size, faults.Truncated) ∷ (count == 0 || nat_lt MAX_VECTORS count, faults.Count) ∷ [] in
    let passes : (nat_lt size MIN_RECORD || nat_lt MAX_RECORD size) ≡ false =
    second_passes (nat_lt (length b) 4) (nat_lt size MIN_RECORD || nat_lt MAX_RECORD size) faults.Truncated faults.Length tests
    (take size b, drop size b) x e in
    let test : nat_lt MAX_RECORD size ≡ false = (or_parts (nat_lt size MIN_RECORD) (nat_lt MAX_RECORD size) passes).1 in
    let most : size ≤ MAX_RECORD = grind (arith, nat_tests, test) in
    let same : (take size b, drop size b) ≡ x = refused_ok (first_fault ((nat_lt (length b) 4, faults.Truncated)
    ∷ (nat_lt size MIN_RECORD || nat_lt MAX_RECORD size, faults.Length) ∷ tests)) (take size b, drop size b) x e in
    let long : length (take size b) ≡ length x.0 = ap (λ (z : List ℕ × List ℕ). length z.0) same in
    omega (arith, long, length-take size b, most)

-- a record that was cut off first, and the cut behind it
pub record IsFirstCut (h : Header) (k : ℕ) (p : LogPlace) (b : List ℕ) (raw : Raw) (c : LogCut) : Type 0 where
  pub some : 0 < k
  pub is : raw ≡ raw_of_bytes h p raw.bytes
  pub short : length raw.bytes ≤ MAX_RECORD
  pub behind : c ≡ with_raw raw (cut_off h (k - 1) (past p raw.bytes) (drop (length raw.bytes) b))

first_by : (h : Header) (k : ℕ) (p : LogPlace) (b : List ℕ) (r : Result (List ℕ × List ℕ) CutFault) (raw : Raw) (ws : List Raw) →
    first_record b ≡ r →
    (cut_or r p b (λ found rest. with_raw (raw_of_bytes h p found) (cut_off h k (past p found) rest))).raws ≡ raw ∷ ws →
    IsFirstCut h (suc k) p b raw
    (cut_or r p b (λ found rest. with_raw (raw_of_bytes h p found) (cut_off h k (past p found) rest)))
first_by h k p b (Err fault) raw ws is e = absurd (cc)
first_by h k p b (Ok x) raw ws is e =
    let t : LogCut = cut_off h k (past p x.0) x.1 in
    let rs : raw_of_bytes h p x.0 ∷ t.raws ≡ raw ∷ ws = e in
    let first : raw_of_bytes h p x.0 ≡ raw = cc in
    let bytes : raw.bytes ≡ x.0 = sym (ap (λ (r : Raw). r.bytes) first) in
    let left : drop (length raw.bytes) b ≡ x.1 = ap (λ (l : List ℕ). drop (length l) b) bytes ∙
    ap (drop (length x.0)) (sym (first_parts b x is)) ∙ drop-append_seam x.0 x.1 in
    let less : suc k - 1 ≡ k = omega arith in
    let same : cut_off h (suc k - 1) (past p raw.bytes) (drop (length raw.bytes) b) ≡ t =
    (λ i. cut_off h (less i) (past p (bytes i)) (left i)) in
    let fits = short_record b x is in
    let long : length raw.bytes ≡ length x.0 = ap length bytes in
    record {
      some = omega arith;
      is = sym first ∙ ap (raw_of_bytes h p) (sym bytes);
      short = omega (arith, fits, long);
      behind = (λ i. with_raw (first i) (sym same i));
    }

first_cut : (h : Header) (k : ℕ) (p : LogPlace) (b : List ℕ) (raw : Raw) (ws : List Raw) → (cut_off h k p b).raws ≡ raw ∷ ws →
    IsFirstCut h k p b raw (cut_off h k p b)
first_cut h zero p [] raw ws e = absurd (cc)
first_cut h zero p (x ∷ b) raw ws e = absurd (cc)
first_cut h (suc k) p b raw ws e = first_by h k p b (first_record b) raw ws refl e

-- ---- one record of a log

-- what a log gives from a place on is its first record and what it gives from behind that one on
log_behind : (h : Header) (p : LogPlace) (bytes : List ℕ) (later : ℕ → Ahead) (raw : Raw) →
    IsFirstCut h (h.count - p.done) p (drop p.at bytes) raw (cut_off h (h.count - p.done) p (drop p.at bytes)) →
    in_log h p bytes later ≡ raws_before (raw ∷ []) (in_log h (past p raw.bytes) bytes later)
log_behind h p bytes later raw first =
    let n : h.count - p.done - 1 ≡ h.count - (p.done + 1) = omega arith in
    let b : drop (length raw.bytes) (drop p.at bytes) ≡ drop (p.at + length raw.bytes) bytes =
    drop-drop (length raw.bytes) p.at bytes in
    ap (gives_ahead h later) (first.behind ∙ (λ i. with_raw raw (cut_off h (n i) (past p raw.bytes) (b i))))

-- ---- one record of the redo

-- a place that is no further in its log than its records can reach, and has no more of them before it than the log has
pub record IsWithin (registry : List LogEntry) (p : Place) : Type 0 where
  pub at : p.at ≤ HEADER_LENGTH + MAX_RECORD * p.done
  pub done : IfSome (entry_of p.seq registry) (λ e. p.done ≤ e.head.count)

-- the place behind a first record, where this is ahead behind so many records, and then these records
record IsBehind (logs : ℕ → Option (List ℕ)) (registry : List LogEntry) (rec : ℕ) (p : LogPlace) (raw : Raw) (raws : List Raw)
    (stop : Stop) : Type 0 where
  pub number : raw.rec ≡ rec + 1
  pub left : ahead logs registry (place_after_raw raw) ≡ record { raws = raws; stop = stop }
  pub within : p.at ≤ HEADER_LENGTH + MAX_RECORD * p.done → IsWithin registry (place_after_raw raw)

-- the place behind a record that was cut off at this place of the log
abbrev behind_in : ℕ → LogPlace → Raw → Place
behind_in seq p raw = record { seq = seq; at = p.at + length raw.bytes; done = p.done + 1; rec = p.rec }

behind_is : (seq : ℕ) (h : Header) (p : LogPlace) (raw : Raw) → raw ≡ raw_of_bytes h p raw.bytes → h.seq ≡ seq →
    place_after_raw raw ≡ behind_in seq p raw
behind_is seq h p raw is same =
    let seqs : raw.head.seq ≡ seq = ap (λ (r : Raw). r.head.seq) is ∙ same in
    let ends : raw.end ≡ p.at + length raw.bytes = ap (λ (r : Raw). r.end) is in
    let done : raw.done ≡ p.done + 1 = ap (λ (r : Raw). r.done) is in
    let rec : raw.rec ≡ p.rec = ap (λ (r : Raw). r.rec) is in
    λ i. record { seq = seqs i; at = ends i; done = done i; rec = rec i }

ahead_first : (logs : ℕ → Option (List ℕ)) (registry : List LogEntry) (seq : ℕ) (e : LogEntry) (entries : List LogEntry)
    (p : LogPlace) → entries_from seq registry ≡ e ∷ entries → e.head.seq ≡ seq →
    ahead_in logs seq p (entries_from seq registry) ≡ in_log e.head p (bytes_or_none (logs seq)) (later_logs logs seq entries)
ahead_first logs registry seq e entries p from same =
    let test : (e.head.seq == seq) ≡ true = grind (arith, nat_tests, same) in
    ap (ahead_in logs seq p) from
    ∙ ap (λ (b : Bool). cond b (in_log e.head p (bytes_or_none (logs seq)) (later_logs logs seq entries))
    (nothing_but (stops.Gap seq (e.head.seq - 1)))) test

some_within : (o : Option LogEntry) (e : LogEntry) (done : ℕ) → o ≡ Some e → done ≤ e.head.count →
    IfSome o (λ f. done ≤ f.head.count)
some_within o e done is less = subst (λ (q : Option LogEntry). IfSome q (λ f. done ≤ f.head.count)) (sym is) less

within_behind : (registry : List LogEntry) (seq : ℕ) (e : LogEntry) (entries : List LogEntry) (p : LogPlace) (raw : Raw) →
    entries_from seq registry ≡ e ∷ entries → e.head.seq ≡ seq → 0 < e.head.count - p.done → length raw.bytes ≤ MAX_RECORD →
    p.at ≤ HEADER_LENGTH + MAX_RECORD * p.done → IsWithin registry (behind_in seq p raw)
within_behind registry seq e entries p raw from same some short least =
    record {
      at = omega arith;
      done = some_within (entry_of seq registry) e (p.done + 1) (found seq registry e entries from same) (omega arith);
    }

first_of_log : (logs : ℕ → Option (List ℕ)) (registry : List LogEntry) (seq : ℕ) (e : LogEntry) (entries : List LogEntry)
    (p : LogPlace) (rec : ℕ) (first raw : Raw) (raws : List Raw) (stop : Stop) →
    entries_from seq registry ≡ e ∷ entries → e.head.seq ≡ seq → p.rec ≡ rec + 1 → let b = drop p.at (bytes_or_none (logs seq)) in
    IsFirstCut e.head (e.head.count - p.done) p b first (cut_off e.head (e.head.count - p.done) p b) →
    in_log e.head p (bytes_or_none (logs seq)) (later_logs logs seq entries) ≡ record { raws = raw ∷ raws; stop = stop } →
    IsBehind logs registry rec p raw raws stop
first_of_log logs registry seq e entries p rec first raw raws stop from same number cut is =
    let bytes = bytes_or_none (logs seq) in
    let later = later_logs logs seq entries in
    let next : Ahead = in_log e.head (past p first.bytes) bytes later in
    let both : raws_before (first ∷ []) next ≡ record { raws = raw ∷ raws; stop = stop } =
    sym (log_behind e.head p bytes later first cut) ∙ is in
    let all : first ∷ next.raws ≡ raw ∷ raws = ap (λ (a : Ahead). a.raws) both in
    let one : first ≡ raw = cc in
    let others : next.raws ≡ raws = cc in
    let ends : next.stop ≡ stop = ap (λ (a : Ahead). a.stop) both in
    let place : place_after_raw first ≡ behind_in seq p first = behind_is seq e.head p first cut.is same in
    let b : IsBehind logs registry rec p first raws stop =
    record {
      number = ap (λ (r : Raw). r.rec) cut.is ∙ number;
      left = ap (ahead logs registry) place ∙ ahead_first logs registry seq e entries (past p first.bytes) from same
          ∙ (λ i. record { raws = others i; stop = ends i });
      within = λ least. subst (IsWithin registry) (sym place)
          (within_behind registry seq e entries p first from same cut.some cut.short least);
    } in
    subst (λ (r : Raw). IsBehind logs registry rec p r raws stop) one b

abbrev Steps : (ℕ → Option (List ℕ)) → List LogEntry → ℕ → List LogEntry → Type 0
Steps logs registry seq entries = (p : LogPlace) (rec : ℕ) (raw : Raw) (raws : List Raw) (stop : Stop) → p.rec ≡ rec + 1 →
    ahead_in logs seq p entries ≡ record { raws = raw ∷ raws; stop = stop } → IsBehind logs registry rec p raw raws stop

-- the log gives no record: the first one is of a later log
first_later : (logs : ℕ → Option (List ℕ)) (registry : List LogEntry) (seq : ℕ) (entries : List LogEntry)
    (cause : Option CutFault) (number : ℕ) (p : LogPlace) (rec : ℕ) (raw : Raw) (raws : List Raw) (stop : Stop) →
    number ≡ rec + 1 → Steps logs registry (seq + 1) entries →
    unless_broken cause number (later_logs logs seq entries (number - 1)) ≡ record { raws = raw ∷ raws; stop = stop } →
    IsBehind logs registry rec p raw raws stop
first_later logs registry seq entries (Some fault) number p rec raw raws stop same steps is =
    let none : [] ≡ raw ∷ raws = ap (λ (a : Ahead). a.raws) is in absurd (cc)
first_later logs registry seq entries None number p rec raw raws stop same steps is =
    let b = steps (log_begin (number - 1)) rec raw raws stop (omega arith) is in
    record { number = b.number; left = b.left; within = λ least. b.within (omega arith) }

first_in : (logs : ℕ → Option (List ℕ)) (registry : List LogEntry) (seq : ℕ) (e : LogEntry) (entries : List LogEntry)
    (p : LogPlace) (rec : ℕ) (raw : Raw) (raws : List Raw) (stop : Stop) (cut : List Raw) →
    entries_from seq registry ≡ e ∷ entries → e.head.seq ≡ seq → p.rec ≡ rec + 1 → Steps logs registry (seq + 1) entries →
    (cut_off e.head (e.head.count - p.done) p (drop p.at (bytes_or_none (logs seq)))).raws ≡ cut →
    in_log e.head p (bytes_or_none (logs seq)) (later_logs logs seq entries) ≡ record { raws = raw ∷ raws; stop = stop } →
    IsBehind logs registry rec p raw raws stop
first_in logs registry seq e entries p rec raw raws stop (first ∷ ws) from same number steps cut is =
    first_of_log logs registry seq e entries p rec first raw raws stop from same number
    (first_cut e.head (e.head.count - p.done) p (drop p.at (bytes_or_none (logs seq))) first ws cut) is
first_in logs registry seq e entries p rec raw raws stop [] from same number steps none is =
    let c : LogCut = cut_off e.head (e.head.count - p.done) p (drop p.at (bytes_or_none (logs seq))) in
    let place : c.place ≡ p = walks e.head (e.head.count - p.done) p (drop p.at (bytes_or_none (logs seq)))
    ∙ ap (λ (rs : List Raw). log_place_behind_all p rs) none in
    let behind : Ahead = unless_broken (cause_of e.head c) c.place.rec (later_logs logs seq entries (c.place.rec - 1)) in
    let alone : in_log e.head p (bytes_or_none (logs seq)) (later_logs logs seq entries) ≡ behind =
    ap (λ (rs : List Raw). raws_before rs behind) none in
    first_later logs registry seq entries (cause_of e.head c) c.place.rec p rec raw raws stop
    (ap (λ (q : LogPlace). q.rec) place ∙ number) steps (sym alone ∙ is)

first_at : (b : Bool) (logs : ℕ → Option (List ℕ)) (registry : List LogEntry) (seq : ℕ) (e : LogEntry) (entries : List LogEntry)
    (p : LogPlace) (rec : ℕ) (raw : Raw) (raws : List Raw) (stop : Stop) → (e.head.seq == seq) ≡ b → IsRising registry →
    entries_from seq registry ≡ e ∷ entries → p.rec ≡ rec + 1 →
    (entries_from (seq + 1) registry ≡ entries → Steps logs registry (seq + 1) entries) →
    cond b (in_log e.head p (bytes_or_none (logs seq)) (later_logs logs seq entries))
    (nothing_but (stops.Gap seq (e.head.seq - 1))) ≡ record { raws = raw ∷ raws; stop = stop } →
    IsBehind logs registry rec p raw raws stop
first_at false logs registry seq e entries p rec raw raws stop test rise from number steps is =
    let none : [] ≡ raw ∷ raws = ap (λ (a : Ahead). a.raws) is in absurd (cc)
first_at true logs registry seq e entries p rec raw raws stop test rise from number steps is =
    let same : e.head.seq ≡ seq = grind (arith, nat_tests, test) in
    first_in logs registry seq e entries p rec raw raws stop
    (cut_off e.head (e.head.count - p.done) p (drop p.at (bytes_or_none (logs seq)))).raws from same number
    (steps (behind_first seq 0 registry e entries rise from same)) refl is

first_step : (logs : ℕ → Option (List ℕ)) (registry : List LogEntry) → IsRising registry → (entries : List LogEntry) (seq : ℕ) →
    entries_from seq registry ≡ entries → Steps logs registry seq entries
first_step logs registry rise [] seq from p rec raw raws stop number is =
    let none : [] ≡ raw ∷ raws = ap (λ (a : Ahead). a.raws) is in absurd (cc)
first_step logs registry rise (e ∷ entries) seq from p rec raw raws stop number is =
    first_at (e.head.seq == seq) logs registry seq e entries p rec raw raws stop refl rise from number
    (λ behind. first_step logs registry rise entries (seq + 1) behind) is

-- ---- many records of the redo

pub record IsLeft (logs : ℕ → Option (List ℕ)) (registry : List LogEntry) (from place : Place) (before raws : List Raw)
    (stop : Stop) : Type 0 where
  pub number : place.rec ≡ from.rec + length before
  pub left : ahead logs registry place ≡ record { raws = raws; stop = stop }
  pub within : IsWithin registry from → IsWithin registry place

left_behind : (logs : ℕ → Option (List ℕ)) (registry : List LogEntry) → IsRising registry → (place : Place)
    (before raws : List Raw) (stop : Stop) → ahead logs registry place ≡ record { raws = before ++ raws; stop = stop } →
    IsLeft logs registry place (place_after_raws place before) before raws stop
left_behind logs registry rise place [] raws stop is = record { number = omega arith; left = is; within = λ w. w }
left_behind logs registry rise place (raw ∷ before) raws stop is =
    let one = first_step logs registry rise (entries_from place.seq registry) place.seq refl (in_its_log place) place.rec raw
    (before ++ raws) stop refl is in
    let others = left_behind logs registry rise (place_after_raw raw) before raws stop one.left in
    record {
      number = others.number ∙ (let first = one.number in omega arith);
      left = others.left;
      within = λ w. others.within (one.within w.at);
    }

parts : (a : Ahead) (count : ℕ) → a ≡ record { raws = take count a.raws ++ drop count a.raws; stop = a.stop }
parts a count = λ i. record { raws = sym (take-append-drop count a.raws) i; stop = a.stop }

left_ahead : (logs : ℕ → Option (List ℕ)) (registry : List LogEntry) → IsRising registry → (place : Place) (count : ℕ) →
    let a = ahead logs registry place in
    IsLeft logs registry place (place_ahead logs registry place count) (take count a.raws) (drop count a.raws) a.stop
left_ahead logs registry rise place count =
    let a : Ahead = ahead logs registry place in
    left_behind logs registry rise place (take count a.raws) (drop count a.raws) a.stop (parts a count)

pub ahead_is : (logs : ℕ → Option (List ℕ)) (registry : List LogEntry) (place : Place) (count : ℕ) → IsRising registry →
    ahead logs registry (place_ahead logs registry place count) ≡ ahead_left count (ahead logs registry place)
ahead_is logs registry place count rise = (left_ahead logs registry rise place count).left

pub number_is : (logs : ℕ → Option (List ℕ)) (registry : List LogEntry) (place : Place) (count : ℕ) → IsRising registry →
    count ≤ length (ahead logs registry place).raws → (place_ahead logs registry place count).rec ≡ place.rec + count
number_is logs registry place count rise there = (left_ahead logs registry rise place count).number
    ∙ ap (λ (n : ℕ). place.rec + n) (length-take-le count (ahead logs registry place).raws there)

-- ---- one record more

take_next : (n : ℕ) (xs : List Raw) (x : Raw) (ys : List Raw) → drop n xs ≡ x ∷ ys → take (suc n) xs ≡ take n xs ++ (x ∷ [])
take_next zero [] x ys e = absurd (cc)
take_next zero (y ∷ xs) x ys e = let first : y ≡ x = cc in ap (λ (z : Raw). z ∷ []) first
take_next (suc n) [] x ys e = absurd (cc)
take_next (suc n) (y ∷ xs) x ys e = ap (λ (zs : List Raw). y ∷ zs) (take_next n xs x ys e)

after_last : (p : Place) (before : List Raw) (raw : Raw) → place_after_raws p (before ++ (raw ∷ [])) ≡ place_after_raw raw
after_last p [] raw = refl
after_last p (first ∷ before) raw = after_last (place_after_raw first) before raw

pub next_is : (logs : ℕ → Option (List ℕ)) (registry : List LogEntry) (place : Place) (count : ℕ) (raw : Raw) (later : Ahead) →
    IsRising registry → ahead logs registry (place_ahead logs registry place count) ≡ raws_before (raw ∷ []) later →
    place_after_raw raw ≡ place_ahead logs registry place (count + 1)
next_is logs registry place count raw later rise is =
    let a : Ahead = ahead logs registry place in
    let left : drop count a.raws ≡ raw ∷ later.raws =
    ap (λ (b : Ahead). b.raws) (sym (ahead_is logs registry place count rise) ∙ is) in
    let more : count + 1 ≡ suc count = omega arith in
    sym (ap (λ (n : ℕ). place_after_raws place (take n a.raws)) more
    ∙ ap (place_after_raws place) (take_next count a.raws raw later.raws left)
    ∙ after_last place (take count a.raws) raw)

-- ---- the same, decoded

abbrev Decodes : ℕ → List Raw → List Raw → Stop → Type 0
Decodes rec before raws stop = let r = redo_of_raws rec (before ++ raws) stop in
    length before ≤ length r.entries → redo_of_raws (rec + length before) raws stop ≡ redo_left (length before) r

decodes_by : (h : Header) (r : Result RedoRec Fault) (rec : ℕ) (raw : Raw) (before raws : List Raw) (stop : Stop) →
    Decodes (rec + 1) before raws stop →
    let whole = redo_with h r rec (redo_of_raws (rec + 1) (before ++ raws) stop) in
    length (raw ∷ before) ≤ length whole.entries →
    redo_of_raws (rec + length (raw ∷ before)) raws stop ≡ redo_left (length (raw ∷ before)) whole
decodes_by h (Err f) rec raw before raws stop later there = absurd (omega arith)
decodes_by h (Ok r) rec raw before raws stop later there =
    let same : rec + length (raw ∷ before) ≡ rec + 1 + length before = omega arith in
    ap (λ (n : ℕ). redo_of_raws n raws stop) same ∙ later (omega arith)

decodes : (rec : ℕ) (before raws : List Raw) (stop : Stop) → Decodes rec before raws stop
decodes rec [] raws stop there =
    let same : rec + 0 ≡ rec = omega arith in ap (λ (n : ℕ). redo_of_raws n raws stop) same
decodes rec (raw ∷ before) raws stop there = decodes_by raw.head (record_at raw.bytes) rec raw before raws stop
    (decodes (rec + 1) before raws stop) there

fewer_by : (h : Header) (r : Result RedoRec Fault) (rec count : ℕ) (later : Redo) → length later.entries ≤ count →
    length (redo_with h r rec later).entries ≤ suc count
fewer_by h (Err f) rec count later less = omega arith
fewer_by h (Ok r) rec count later less = omega arith

fewer_decode : (rec : ℕ) (raws : List Raw) (stop : Stop) → length (redo_of_raws rec raws stop).entries ≤ length raws
fewer_decode rec [] stop = omega arith
fewer_decode rec (raw ∷ raws) stop = fewer_by raw.head (record_at raw.bytes) rec (length raws) (redo_of_raws (rec + 1) raws stop)
    (fewer_decode (rec + 1) raws stop)

-- what is ahead, decoded, is what is left of the redo that was ahead before
pub decoded_is : (logs : ℕ → Option (List ℕ)) (registry : List LogEntry) (place : Place) (count : ℕ) → IsRising registry →
    count ≤ length (redo_ahead logs registry place).entries →
    redo_ahead logs registry (place_ahead logs registry place count) ≡ redo_left count (redo_ahead logs registry place)
decoded_is logs registry place count rise there =
    let a : Ahead = ahead logs registry place in
    let few = fewer_decode place.rec a.raws a.stop in
    let enough : count ≤ length a.raws = omega (arith, few, there) in
    let long : length (take count a.raws) ≡ count = length-take-le count a.raws enough in
    let whole : redo_of_raws place.rec (take count a.raws ++ drop count a.raws) a.stop ≡ redo_ahead logs registry place =
    ap (λ (rs : List Raw). redo_of_raws place.rec rs a.stop) (take-append-drop count a.raws) in
    let size : length (redo_of_raws place.rec (take count a.raws ++ drop count a.raws) a.stop).entries ≡
    length (redo_ahead logs registry place).entries = ap (λ (r : Redo). length r.entries) whole in
    (λ i. redo_of (number_is logs registry place count rise enough i) (ahead_is logs registry place count rise i))
    ∙ ap (λ (n : ℕ). redo_of_raws (place.rec + n) (drop count a.raws) a.stop) (sym long)
    ∙ decodes place.rec (take count a.raws) (drop count a.raws) a.stop (omega (arith, long, size, there))
    ∙ (λ i. redo_left (long i) (whole i))

-- ---- the place that a reading side takes

done_same : (o : Option LogEntry) (done : ℕ) → IfSome o (λ e. done ≤ e.head.count) → done_within o done ≡ done
done_same None done within = refl
done_same (Some e) done within = sym (done_low done e within)

begin_done : (o : Option LogEntry) → IfSome o (λ e. 0 ≤ e.head.count)
begin_done None = tt
begin_done (Some e) = omega arith

begin_within : (registry : List LogEntry) (seq rec : ℕ) → IsWithin registry (first_place seq rec)
begin_within registry seq rec = record { at = omega arith; done = begin_done (entry_of seq registry) }

pub taken_as_is : (logs : ℕ → Option (List ℕ)) (registry : List LogEntry) (seq rec count : ℕ) → IsRising registry →
    (place_ahead logs registry (first_place seq rec) count).done < 2 ^ 32 →
    clamped_place registry (place_ahead logs registry (first_place seq rec) count) ≡
    place_ahead logs registry (first_place seq rec) count
taken_as_is logs registry seq rec count rise fits =
    let p : Place = place_ahead logs registry (first_place seq rec) count in
    let w : IsWithin registry p = (left_ahead logs registry rise (first_place seq rec) count).within
    (begin_within registry seq rec) in
    let least : p.at ≤ HEADER_LENGTH + MAX_RECORD * p.done = w.at in
    let test : nat_le (2 ^ 62) p.at ≡ false = grind (arith, nat_tests, least, fits) in
    let at : (if nat_le (2 ^ 62) p.at then 2 ^ 62 - 1 else p.at) ≡ p.at =
    ap (λ (b : Bool). cond b (2 ^ 62 - 1) p.at) test in
    let done : done_within (entry_of p.seq registry) p.done ≡ p.done = done_same (entry_of p.seq registry) p.done w.done in
    λ i. record { seq = p.seq; at = at i; done = done i; rec = p.rec }
