-- A header stands in the first 40 bytes of its log, and what is judged of it.
use Rattle.std.proofs.Common.{◌≡◌, ℕ, ◌+◌, ◌≤◌, ◌||◌, ◌==◌, nat_lt, nat_le, not, codes, Bool, true, false, cond, List, [], ◌∷◌, ◌++◌, length, take, drop, Option, None, Some, Result, Ok, Err, IfOk, refl, sym, ap, ◌∙◌, arith}
use Rattle.std.specs.Option.{option_map}
use Rattle.rl_ports.specs.Faults.{Told}
use Rattle.std.specs.Int.{w16, w32, w64, from_be_bytes}
use Rattle.std.proofs.lemmas.Bool.Decides.{nat_tests}
use Rattle.std.proofs.lemmas.List.{take-append-le, take-append-drop, drop-append-le, length-append, length-drop, length-take-le}
use Rattle.rl_value.specs.declared.cause.HeadFault.{HeadFault}
use Rattle.rl_value.specs.declared.cause.HeadFault.TheVariants as heads
use Rattle.rl_value.specs.Order.{same_bytes}
use Rattle.rl_value.specs.Outcome.{first_fault, refused_by}
use Rattle.redo_vec.specs.Cutting.{number_in}
use Rattle.redo_spec.specs.declared.header.Header.{Header}
use Rattle.redo_spec.specs.LogHeader.{header_in, header_fault}
use Rattle.redo_wire.specs.declared.header.TheConstants.{HEADER_LENGTH}
use Rattle.log_registry.specs.declared.entry.LogEntry.{LogEntry}
use Rattle.log_registry.specs.declared.fault.RegFault.{RegFault}
use Rattle.log_registry.specs.declared.fault.RegFault.TheVariants as refusals
use Rattle.log_registry.specs.Registered.{of_database, entry_unless_refused, entry_with, answer_of_look, answer_of_inspect}
use Rattle.log_registry.specs.Front.{entry_of_front, IsFront}

two_more : (a b : List ℕ) → 2 ≤ length a → from_be_bytes w16 (a ++ b) ≡ from_be_bytes w16 a
two_more [] b h = absurd (omega arith)
two_more (x ∷ []) b h = absurd (omega arith)
two_more (x ∷ y ∷ a) b h = refl

four_more : (a b : List ℕ) → 4 ≤ length a → from_be_bytes w32 (a ++ b) ≡ from_be_bytes w32 a
four_more [] b h = absurd (omega arith)
four_more (x ∷ []) b h = absurd (omega arith)
four_more (x ∷ y ∷ []) b h = absurd (omega arith)
four_more (x ∷ y ∷ z ∷ []) b h = absurd (omega arith)
four_more (x ∷ y ∷ z ∷ w ∷ a) b h = refl

eight_more : (a b : List ℕ) → 8 ≤ length a → from_be_bytes w64 (a ++ b) ≡ from_be_bytes w64 a
eight_more [] b h = absurd (omega arith)
eight_more (p ∷ []) b h = absurd (omega arith)
eight_more (p ∷ q ∷ []) b h = absurd (omega arith)
eight_more (p ∷ q ∷ r ∷ []) b h = absurd (omega arith)
eight_more (p ∷ q ∷ r ∷ s ∷ []) b h = absurd (omega arith)
eight_more (p ∷ q ∷ r ∷ s ∷ t ∷ []) b h = absurd (omega arith)
eight_more (p ∷ q ∷ r ∷ s ∷ t ∷ u ∷ []) b h = absurd (omega arith)
eight_more (p ∷ q ∷ r ∷ s ∷ t ∷ u ∷ v ∷ []) b h = absurd (omega arith)
eight_more (p ∷ q ∷ r ∷ s ∷ t ∷ u ∷ v ∷ w ∷ a) b h = refl

u16_more : (at : ℕ) (a b : List ℕ) → at + 2 ≤ length a → number_in w16 at (a ++ b) ≡ number_in w16 at a
u16_more at a b h = ap (from_be_bytes w16) (drop-append-le at a b (omega arith)) ∙
    two_more (drop at a) b (omega (arith, length-drop at a))

u32_more : (at : ℕ) (a b : List ℕ) → at + 4 ≤ length a → number_in w32 at (a ++ b) ≡ number_in w32 at a
u32_more at a b h = ap (from_be_bytes w32) (drop-append-le at a b (omega arith)) ∙
    four_more (drop at a) b (omega (arith, length-drop at a))

u64_more : (at : ℕ) (a b : List ℕ) → at + 8 ≤ length a → number_in w64 at (a ++ b) ≡ number_in w64 at a
u64_more at a b h = ap (from_be_bytes w64) (drop-append-le at a b (omega arith)) ∙
    eight_more (drop at a) b (omega (arith, length-drop at a))

header_more : (a b : List ℕ) → HEADER_LENGTH ≤ length a → header_in (a ++ b) ≡ header_in a
header_more a b h =
    let seq = u32_more 12 a b (omega arith) in
    let dbid = u32_more 8 a b (omega arith) in
    let first = u64_more 16 a b (omega arith) in
    let next = u64_more 24 a b (omega arith) in
    let count = u32_more 32 a b (omega arith) in
    λ i. record { seq = seq i; dbid = dbid i; first = first i; next = next i; count = count i }

fault_more : (seq : ℕ) (a b : List ℕ) → HEADER_LENGTH ≤ length a → header_fault seq (a ++ b) ≡ header_fault seq a
fault_more seq a b h =
    let long : nat_lt (length (a ++ b)) HEADER_LENGTH ≡ nat_lt (length a) HEADER_LENGTH =
    (let whole : nat_lt (length (a ++ b)) HEADER_LENGTH ≡ false =
    (let size = length-append a b in grind (arith, nat_tests, size, h)) in
    let front : nat_lt (length a) HEADER_LENGTH ≡ false = grind (arith, nat_tests, h) in whole ∙ sym front) in
    let magic : take 4 (a ++ b) ≡ take 4 a = take-append-le 4 a b (omega arith) in
    let version = u16_more 4 a b (omega arith) in
    let thread = u16_more 6 a b (omega arith) in
    let head = header_more a b h in
    let reserved = u32_more 36 a b (omega arith) in
    λ i. first_fault (
    (long i, heads.Short)
    ∷ (not (same_bytes (magic i) (codes "SRL1")), heads.Magic)
    ∷ (not (version i == 1), heads.Version)
    ∷ (not (thread i == 1), heads.Thread)
    ∷ (not ((head i).seq == seq), heads.Sequence)
    ∷ ((head i).first == 0 || nat_le (head i).next (head i).first, heads.Range)
    ∷ ((head i).count == 0, heads.Records)
    ∷ (not (reserved i == 0), heads.Reserved)
    ∷ [])

-- ---- what is judged

short_log : (seq : ℕ) (bytes : List ℕ) → nat_lt (length bytes) HEADER_LENGTH ≡ true →
    entry_of_front (take HEADER_LENGTH bytes) (length bytes) seq ≡ answer_of_look seq (Some bytes)
short_log seq bytes short = rw short refl

long_log : (seq : ℕ) (bytes a b : List ℕ) → a ++ b ≡ bytes → HEADER_LENGTH ≤ length a →
    entry_of_front a (length bytes) seq ≡ answer_of_look seq (Some bytes)
long_log seq bytes a b is h =
    let size : nat_lt (length bytes) HEADER_LENGTH ≡ false = (let all = ap length is in let sum = length-append a b in
    grind (arith, nat_tests, all, sum, h)) in
    ap (λ (c : Bool). cond c (Err (refusals.BadHeader heads.Short))
    (entry_unless_refused (header_fault seq a) (Ok (entry_with (header_in a) (length bytes))))) size
    ∙ sym (λ i. entry_unless_refused (fault_more seq a b h i) (Ok (entry_with (header_more a b h i) (length bytes))))
    ∙ ap (λ (bs : List ℕ). entry_unless_refused (header_fault seq bs) (Ok (entry_with (header_in bs) (length bytes)))) is

of_size : (c : Bool) (seq : ℕ) (bytes : List ℕ) → nat_lt (length bytes) HEADER_LENGTH ≡ c →
    entry_of_front (take HEADER_LENGTH bytes) (length bytes) seq ≡ answer_of_look seq (Some bytes)
of_size true seq bytes is = short_log seq bytes is
of_size false seq bytes is =
    let long : HEADER_LENGTH ≤ length bytes = grind (arith, nat_tests, is) in
    long_log seq bytes (take HEADER_LENGTH bytes) (drop HEADER_LENGTH bytes) (take-append-drop HEADER_LENGTH bytes)
    (omega (arith, length-take-le HEADER_LENGTH bytes long))

pub judged_log : (seq : ℕ) (bytes : List ℕ) →
    entry_of_front (take HEADER_LENGTH bytes) (length bytes) seq ≡ answer_of_look seq (Some bytes)
judged_log seq bytes = of_size (nat_lt (length bytes) HEADER_LENGTH) seq bytes refl

-- ---- a header that was read

ok_header : (f : Option HeadFault) (h head : Header) → Ok head ≡ refused_by f h → (f ≡ None) × (head ≡ h)
ok_header None h head e = (refl, cc)
ok_header (Some fault) h head e = absurd (cc)

err_header : (f : Option HeadFault) (h : Header) (fault : HeadFault) → Err fault ≡ refused_by f h → f ≡ Some fault
err_header None h fault e = absurd (cc)
err_header (Some other) h fault e = cc

abbrev Judging : ℕ → Option HeadFault → Header → Result LogEntry RegFault
Judging size f h = cond (nat_lt size HEADER_LENGTH) (Err (refusals.BadHeader heads.Short))
    (entry_unless_refused f (Ok (entry_with h size)))

pub judged_err : (size : ℕ) (f : Option HeadFault) (h : Header) (fault : HeadFault) → HEADER_LENGTH ≤ size →
    Err fault ≡ refused_by f h →
    Err (refusals.BadHeader fault) ≡ Judging size f h
judged_err size f h fault long e =
    let test : nat_lt size HEADER_LENGTH ≡ false = grind (arith, nat_tests, long) in
    let is = err_header f h fault e in
    rw (test, is) refl

pub judged_ok : (size : ℕ) (f : Option HeadFault) (h : Header) (head : Header) → HEADER_LENGTH ≤ size → Ok head ≡ refused_by f h →
    Ok (entry_with head size) ≡ Judging size f h
judged_ok size f h head long e =
    let test : nat_lt size HEADER_LENGTH ≡ false = grind (arith, nat_tests, long) in
    let is = ok_header f h head e in
    sym (rw (test, is.0) (ap (λ (g : Header). Ok (entry_with g size)) (sym is.1)))

-- ---- what every answer has

fifth_passes : (a b c d e f g h : Bool) →
    first_fault ((a, heads.Short) ∷ (b, heads.Magic) ∷ (c, heads.Version) ∷ (d, heads.Thread) ∷ (e, heads.Sequence) ∷
    (f, heads.Range) ∷ (g, heads.Records) ∷ (h, heads.Reserved) ∷ []) ≡ None → e ≡ false
fifth_passes true b c d e f g h is = absurd (cc)
fifth_passes false true c d e f g h is = absurd (cc)
fifth_passes false false true d e f g h is = absurd (cc)
fifth_passes false false false true e f g h is = absurd (cc)
fifth_passes false false false false true f g h is = absurd (cc)
fifth_passes false false false false false f g h is = refl

same_seq : (a b : ℕ) → not (a == b) ≡ false → a ≡ b
same_seq a b e = grind (arith, nat_tests)

pub sequence_is : (seq : ℕ) (bytes : List ℕ) → header_fault seq bytes ≡ None → (header_in bytes).seq ≡ seq
sequence_is seq bytes e =
    let h = header_in bytes in
    same_seq h.seq seq (fifth_passes (nat_lt (length bytes) HEADER_LENGTH) (not (same_bytes (take 4 bytes) (codes "SRL1")))
    (not (number_in w16 4 bytes == 1)) (not (number_in w16 6 bytes == 1)) (not (h.seq == seq))
    (h.first == 0 || nat_le h.next h.first) (h.count == 0) (not (number_in w32 36 bytes == 0)) e)

-- an entry of this sequence
abbrev pub AskedFor : ℕ → LogEntry → Type 0
AskedFor seq e = e.head.seq ≡ seq

unless_fits : (f : Option HeadFault) (seq size : ℕ) (bytes : List ℕ) → header_fault seq bytes ≡ f →
    IfOk (entry_unless_refused f (Ok (entry_with (header_in bytes) size))) (AskedFor seq)
unless_fits None seq size bytes is = sequence_is seq bytes is
unless_fits (Some fault) seq size bytes is = tt

sized_fits : (c : Bool) (seq : ℕ) (r : Result LogEntry RegFault) → IfOk r (AskedFor seq) →
    IfOk (cond c (Err (refusals.BadHeader heads.Short)) r) (AskedFor seq)
sized_fits true seq r h = tt
sized_fits false seq r h = h

pub judged_fits : (front : List ℕ) (size seq : ℕ) → IfOk (entry_of_front front size seq) (AskedFor seq)
judged_fits front size seq = sized_fits (nat_lt size HEADER_LENGTH) seq _
    (unless_fits (header_fault seq front) seq size front refl)

unless_long : (f : Option HeadFault) (size : ℕ) (h : Header) → HEADER_LENGTH ≤ size →
    IfOk (entry_unless_refused f (Ok (entry_with h size))) (λ e. HEADER_LENGTH ≤ e.length)
unless_long None size h long = long
unless_long (Some fault) size h long = tt

sized_long : (c : Bool) (f : Option HeadFault) (size : ℕ) (h : Header) → nat_lt size HEADER_LENGTH ≡ c →
    IfOk (cond c (Err (refusals.BadHeader heads.Short)) (entry_unless_refused f (Ok (entry_with h size))))
    (λ e. HEADER_LENGTH ≤ e.length)
sized_long true f size h is = tt
sized_long false f size h is = unless_long f size h (grind (arith, nat_tests, is))

pub judged_long : (front : List ℕ) (size seq : ℕ) → IfOk (entry_of_front front size seq) (λ e. HEADER_LENGTH ≤ e.length)
judged_long front size seq = sized_long (nat_lt size HEADER_LENGTH) (header_fault seq front) size (header_in front) refl

unless_no_fault : (f : Option HeadFault) (size : ℕ) (h : Header) →
    entry_unless_refused f (Ok (entry_with h size)) ≡ Err refusals.ArchiveFault → ⊥
unless_no_fault None size h is = cc
unless_no_fault (Some fault) size h is = cc

sized_no_fault : (c : Bool) (r : Result LogEntry RegFault) → (r ≡ Err refusals.ArchiveFault → ⊥) →
    cond c (Err (refusals.BadHeader heads.Short)) r ≡ Err refusals.ArchiveFault → ⊥
sized_no_fault true r h is = cc
sized_no_fault false r h is = h is

pub judged_no_fault : (front : List ℕ) (size seq : ℕ) → entry_of_front front size seq ≡ Err refusals.ArchiveFault → ⊥
judged_no_fault front size seq is = sized_no_fault (nat_lt size HEADER_LENGTH) _
    (unless_no_fault (header_fault seq front) size (header_in front)) is

found_exact : (log : Option (List ℕ)) (seq size count : ℕ) (found : Option ℕ) (front : List ℕ) (r : Result LogEntry RegFault) →
    found ≡ Some size → found ≡ option_map length log → IsFront log front count →
    r ≡ entry_of_front (take count front) size seq → r ≡ answer_of_look seq log
found_exact None seq size count found front r is known read judge = absurd (cc)
found_exact (Some bytes) seq size count found front r is known read judge =
    let same : size ≡ length bytes = cc in
    judge ∙ (λ i. entry_of_front (read i) (same i) seq) ∙ judged_log seq bytes

pub told_exact : (known : Option (ℕ → Option (List ℕ))) (seq size count : ℕ) (found : Option ℕ) (front : List ℕ)
    (r : Result LogEntry RegFault) → found ≡ Some size → Told known (λ logs. found ≡ option_map length (logs seq)) →
    Told known (λ logs. IsFront (logs seq) front count) →
    r ≡ entry_of_front (take count front) size seq → Told known
    (λ logs. (r ≡ Err refusals.ArchiveFault → ⊥) → r ≡ answer_of_look seq (logs seq))
told_exact None seq size count found front r is known read judge = tt
told_exact (Some logs) seq size count found front r is known read judge =
    λ ok. found_exact (logs seq) seq size count found front r is known read judge

-- ---- one database

abbrev head_or : Header → Result LogEntry RegFault → Header
head_or h (Ok e) = e.head
head_or h (Err fault) = h

abbrev length_or : ℕ → Result LogEntry RegFault → ℕ
length_or n (Ok e) = e.length
length_or n (Err fault) = n

by_database : (f : Option HeadFault) (dbid : ℕ) (h : Header) (size : ℕ) (e : LogEntry) →
    Ok e ≡ entry_unless_refused f (Ok (entry_with h size)) →
    of_database dbid e.head e.length ≡ entry_unless_refused f (of_database dbid h size)
by_database None dbid h size e is =
    let head : e.head ≡ h = ap (λ (r : Result LogEntry RegFault). head_or h r) is in
    let length : e.length ≡ size = ap (λ (r : Result LogEntry RegFault). length_or size r) is in
    λ i. of_database dbid (head i) (length i)
by_database (Some fault) dbid h size e is = absurd (cc)

-- a log that was looked at, for this database
pub inspected_by : (seq dbid : ℕ) (log : Option (List ℕ)) (e : LogEntry) → Ok e ≡ answer_of_look seq log →
    of_database dbid e.head e.length ≡ answer_of_inspect seq dbid log
inspected_by seq dbid None e is = absurd (cc)
inspected_by seq dbid (Some bytes) e is = by_database (header_fault seq bytes) dbid (header_in bytes) (length bytes) e is

refused_alike : (f : Option HeadFault) (dbid : ℕ) (h : Header) (size : ℕ) (fault : RegFault) →
    Err fault ≡ entry_unless_refused f (Ok (entry_with h size)) → Err fault ≡ entry_unless_refused f (of_database dbid h size)
refused_alike None dbid h size fault is = absurd (cc)
refused_alike (Some other) dbid h size fault is = is

pub refused_by_look : (seq dbid : ℕ) (log : Option (List ℕ)) (fault : RegFault) → Err fault ≡ answer_of_look seq log →
    Err fault ≡ answer_of_inspect seq dbid log
refused_by_look seq dbid None fault is = is
refused_by_look seq dbid (Some bytes) fault is = refused_alike (header_fault seq bytes) dbid (header_in bytes)
    (length bytes) fault is

abbrev LooksAs : Option (ℕ → Option (List ℕ)) → ℕ → Result LogEntry RegFault → Type 0
LooksAs known seq r = Told known (λ logs. (r ≡ Err refusals.ArchiveFault → ⊥) → r ≡ answer_of_look seq (logs seq))

abbrev InspectsAs : Option (ℕ → Option (List ℕ)) → ℕ → ℕ → Result LogEntry RegFault → Type 0
InspectsAs known seq dbid r = Told known (λ logs. (r ≡ Err refusals.ArchiveFault → ⊥) → r ≡ answer_of_inspect seq dbid (logs seq))

pub told_refused : (known : Option (ℕ → Option (List ℕ))) (seq dbid : ℕ) (fault : RegFault) → LooksAs known seq (Err fault) →
    InspectsAs known seq dbid (Err fault)
told_refused None seq dbid fault looks = tt
told_refused (Some logs) seq dbid fault looks = λ no. refused_by_look seq dbid (logs seq) fault (looks no)

pub told_found : (known : Option (ℕ → Option (List ℕ))) (seq dbid : ℕ) (e : LogEntry) → e.head.dbid ≡ dbid →
    LooksAs known seq (Ok e) → InspectsAs known seq dbid (Ok e)
told_found None seq dbid e same looks = tt
told_found (Some logs) seq dbid e same looks =
    let equal : (e.head.dbid == dbid) ≡ true = grind (arith, nat_tests, same) in
    λ no. ap (λ (c : Bool). cond c (Ok e) (Err refusals.WrongDb)) (sym equal) ∙
    inspected_by seq dbid (logs seq) e (looks (λ is. cc))

pub told_other : (known : Option (ℕ → Option (List ℕ))) (seq dbid : ℕ) (e : LogEntry) → (e.head.dbid ≡ dbid → ⊥) →
    LooksAs known seq (Ok e) → InspectsAs known seq dbid (Err refusals.WrongDb)
told_other None seq dbid e other looks = tt
told_other (Some logs) seq dbid e other looks =
    let differs : (e.head.dbid == dbid) ≡ false = grind (arith, nat_tests, other) in
    λ no. ap (λ (c : Bool). cond c (Ok e) (Err refusals.WrongDb)) (sym differs) ∙
    inspected_by seq dbid (logs seq) e (looks (λ is. cc))
