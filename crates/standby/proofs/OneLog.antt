-- The fold of one log: what a look at it tells, what the reading side then gives, and what the evaluator makes of it.
use Rattle.std.proofs.Common.{◌≡◌, ℕ, ◌-◌, ◌≤◌, List, [], ◌∷◌, length, refl, ap, sym, subst, ◌∙◌, arith, Bool, true, false, ◌==◌, nat_lt, nat_le, Option, Some, None, Result, Ok, Err, IfOk}
use Rattle.std.specs.Prelude.{if◌then◌else◌}
use Rattle.std.proofs.lemmas.Bool.Decides.{nat_tests}
use Rattle.rl_value.specs.declared.cause.HeadFault.{HeadFault}
use Rattle.rl_value.specs.declared.verdict.Stop.{Stop}
use Rattle.rl_ports.specs.Faults.{Told}
use Rattle.redo_spec.specs.History.{Entry}
use Rattle.redo_spec.specs.LogHeader.{header_in, header_fault}
use Rattle.redo_spec.specs.declared.header.Header.{Header}
use Rattle.redo_spec.specs.Skips.{Skip}
use Rattle.redo_spec.specs.Fold.{Folded, fold_of_redo}
use Rattle.redo_spec.specs.Redo.{Redo, redo_from, fold_of_header, fold_of_log}
use Rattle.redo_wire.specs.declared.header.TheConstants.{HEADER_LENGTH}
use Rattle.log_registry.specs.declared.entry.LogEntry.{LogEntry}
use Rattle.log_registry.specs.declared.fault.RegFault.{RegFault}
use Rattle.log_registry.specs.declared.fault.RegFault.TheVariants as refusals
use Rattle.log_registry.specs.Registered.{IsToldBy, AreToldBy, entries_from, entry_with, entry_unless_refused, of_database, answer_of_look, answer_of_inspect}
use Rattle.redo_reader.specs.declared.place.Place.{Place}
use Rattle.redo_reader.specs.Ahead.{redo_ahead, told_logs, first_place, bytes_or_none}
use Rattle.redo_reader.specs.Reading.{clamped_place, done_within}
use Rattle.primary.specs.declared.plain.Plain.{Plain}
use Rattle.primary.specs.declared.plain.Folded.{Folded as Plainly}
use Rattle.primary.specs.Progress.{Progress, progress_after_records, end_of}
use Rattle.primary.specs.Starts.{progress_after, fold_from, first_start, folded_of}
use Rattle.standby.specs.declared.reading.FoldFault.{FoldFault}
use Rattle.standby.specs.Folding.{progress_from, EndsAs, IsFoldRefused}

abbrev pub Logs : Type 0
Logs = Option (ℕ → Option (List ℕ))

-- ---- the evaluator

abbrev taken : Redo → Progress → Progress
taken redo p = progress_after_records [] redo.entries p

-- the evaluator's laws
abbrev pub Folds : Type 0
Folds = (start : Plain) (skips : List Skip) (entries : List Entry) (stop : Stop) → start.before ≤ start.n →
    end_of stop (progress_after start skips entries) ≡ fold_from start skips entries stop

abbrev pub FoldsFirst : Type 0
FoldsFirst = (first base : ℕ) (entries : List Entry) (stop : Stop) →
    fold_from (first_start first base) [] entries stop ≡ fold_of_redo first base entries stop

fold-of_ends : Folds → FoldsFirst → (seq base : ℕ) (redo : Redo) (old new : Progress) (stop : Stop) (f : Folded) →
    old ≡ progress_from seq base [] → EndsAs redo old new stop → f ≡ end_of stop new →
    f ≡ fold_of_redo seq base redo.entries redo.stop
fold-of_ends folds folds_first seq base redo old new stop f begun ends last =
    last
    ∙ ends
    ∙ ap (λ (p : Progress). end_of redo.stop (taken redo p)) begun
    ∙ folds (first_start seq base) [] redo.entries redo.stop (omega arith)
    ∙ folds_first seq base redo.entries redo.stop

abbrev EndsWhereTold : Logs → List LogEntry → Place → Progress → Progress → Stop → Type 0
EndsWhereTold known registry place old new stop = Told known
    (λ logs. AreToldBy logs registry → EndsAs (redo_ahead logs registry place) old new stop)

-- what was handed to the evaluator is folded, where the archive tells its logs
pub fold-where_told : Folds → FoldsFirst → (known : Logs) (registry : List LogEntry) (place : Place) (seq base : ℕ)
    (old new : Progress) (stop : Stop) (f : Folded) →
    old ≡ progress_from seq base [] → EndsWhereTold known registry place old new stop → f ≡ end_of stop new →
    Told known (λ logs. AreToldBy logs registry → f ≡ (let redo = redo_ahead logs registry place in
    fold_of_redo seq base redo.entries redo.stop))
fold-where_told folds folds_first None registry place seq base old new stop f begun ends last = tt
fold-where_told folds folds_first (Some logs) registry place seq base old new stop f begun ends last =
    λ are. fold-of_ends folds folds_first seq base (redo_ahead logs registry place) old new stop f begun (ends are) last

-- ---- the reading side, before the first record of the only log

not_below : (n : ℕ) → (if nat_le 0 n then 0 else n) ≡ 0
not_below n =
    let least : nat_le 0 n ≡ true = grind (arith, nat_tests) in
    ap (λ (b : Bool). if b then 0 else n) least

first_done : (b : Bool) (e : LogEntry) → done_within (if b then Some e else None) 0 ≡ 0
first_done true e = not_below e.head.count
first_done false e = refl

clamped-first : (e : LogEntry) → clamped_place (e ∷ []) (first_place e.head.seq 0) ≡ first_place e.head.seq 0
clamped-first e = ap (λ (n : ℕ). let p : Place = record { seq = e.head.seq; at = HEADER_LENGTH; done = n; rec = 0 } in p)
    (first_done (e.head.seq == e.head.seq) e)

not_less : (n : ℕ) → nat_lt n n ≡ false
not_less n = grind (arith, nat_tests)

only : (e : LogEntry) → entries_from e.head.seq (e ∷ []) ≡ e ∷ []
only e = ap (λ (b : Bool). if b then [] else e ∷ []) (not_less e.head.seq)

abbrev pub GivesTheRedo : Type 0
GivesTheRedo = (logs : ℕ → Option (List ℕ)) (registry : List LogEntry) (seq rec : ℕ) → AreToldBy logs registry →
    redo_ahead logs registry (first_place seq rec) ≡ redo_from seq rec (told_logs logs (entries_from seq registry))

redo_of_log : GivesTheRedo → (logs : ℕ → Option (List ℕ)) (e : LogEntry) → IsToldBy logs e →
    redo_ahead logs (e ∷ []) (first_place e.head.seq 0) ≡
    redo_from e.head.seq 0 ((e.head.seq, bytes_or_none (logs e.head.seq)) ∷ [])
redo_of_log gives logs e is = gives logs (e ∷ []) e.head.seq 0 (is, tt) ∙
    ap (λ (es : List LogEntry). redo_from e.head.seq 0 (told_logs logs es)) (only e)

-- ---- the log

abbrev head_or : Header → Result LogEntry RegFault → Header
head_or h (Ok e) = e.head
head_or h (Err fault) = h

of_one : (b : Bool) (h : Header) (size : ℕ) (e : LogEntry) →
    (if b then Ok (entry_with h size) else Err refusals.WrongDb) ≡ Ok e → h ≡ e.head
of_one true h size e is = ap (head_or h) is
of_one false h size e is = absurd cc

by_header : (fault : Option HeadFault) (dbid : ℕ) (h : Header) (size : ℕ) (e : LogEntry) →
    entry_unless_refused fault (of_database dbid h size) ≡ Ok e → (fault ≡ None) × (h ≡ e.head)
by_header (Some fault) dbid h size e is = absurd cc
by_header None dbid h size e is = (refl, of_one (h.dbid == dbid) h size e is)

found-fold : (e : LogEntry) (found : Option (List ℕ)) → answer_of_inspect e.head.seq e.head.dbid found ≡ Ok e →
    (let redo = redo_from e.head.seq 0 ((e.head.seq, bytes_or_none found) ∷ []) in
    fold_of_redo e.head.seq (e.head.first - 1) redo.entries redo.stop) ≡ fold_of_log e.head.seq found
found-fold e None is = absurd cc
found-fold e (Some bytes) is =
    let seen = by_header (header_fault e.head.seq bytes) e.head.dbid (header_in bytes) (length bytes) e is in
    let redo = redo_from e.head.seq 0 ((e.head.seq, bytes) ∷ []) in
    ap (λ (h : Header). fold_of_redo e.head.seq (h.first - 1) redo.entries redo.stop) (sym seen.1)
    ∙ ap (λ (f : Option HeadFault). fold_of_header f e.head.seq bytes) (sym seen.0)

fold-of_ok : (r : Result Plainly FoldFault) (a b : Folded) → a ≡ b → IfOk r (λ f. folded_of f ≡ a) → IfOk r (λ f. folded_of f ≡ b)
fold-of_ok (Ok f) a b e is = is ∙ e
fold-of_ok (Err fault) a b e is = tt

abbrev pub FoldsAhead : Logs → List LogEntry → Place → ℕ → ℕ → Result Plainly FoldFault → Type 0
FoldsAhead known registry place seq base r = Told known (λ logs. AreToldBy logs registry →
    IfOk r (λ f. folded_of f ≡ (let redo = redo_ahead logs registry place in fold_of_redo seq base redo.entries redo.stop)))

-- the fold of what the reading side gives from the first record on is that of the log
pub fold-of_entry : GivesTheRedo → (known : Logs) (e : LogEntry) (registry : List LogEntry) (place : Place) (base : ℕ)
    (r : Result Plainly FoldFault) →
    registry ≡ e ∷ [] → place ≡ clamped_place (e ∷ []) (first_place e.head.seq 0) → base ≡ e.head.first - 1 →
    FoldsAhead known registry place e.head.seq base r →
    Told known (λ logs. IsToldBy logs e → IfOk r (λ f. folded_of f ≡ fold_of_log e.head.seq (logs e.head.seq)))
fold-of_entry gives None e registry place base r one first before folds = tt
fold-of_entry gives (Some logs) e registry place base r one first before folds =
    λ is.
    let here : place ≡ first_place e.head.seq 0 = first ∙ clamped-first e in
    let are : AreToldBy logs registry = subst (AreToldBy logs) (sym one) (is, tt) in
    let redo : redo_ahead logs registry place ≡ redo_from e.head.seq 0 ((e.head.seq, bytes_or_none (logs e.head.seq)) ∷ []) =
    (λ i. redo_ahead logs (one i) (here i)) ∙ redo_of_log gives logs e is in
    let a : Folded = fold_of_redo e.head.seq base (redo_ahead logs registry place).entries
    (redo_ahead logs registry place).stop in
    fold-of_ok r a (fold_of_log e.head.seq (logs e.head.seq))
    ((λ i. fold_of_redo e.head.seq (before i) (redo i).entries (redo i).stop) ∙ found-fold e (logs e.head.seq) is)
    (folds are)

-- ---- a look at the log

abbrev fault_or : Result LogEntry RegFault → RegFault
fault_or (Ok e) = refusals.NoLog
fault_or (Err fault) = fault

no_log : (seq : ℕ) (fault : RegFault) (f : Folded) → (let no : Result LogEntry RegFault = Err refusals.NoLog in Err fault ≡ no) →
    IsFoldRefused seq fault f → f ≡ fold_of_log seq None
no_log seq fault f is fold = subst (λ (x : RegFault). IsFoldRefused seq x f) (ap fault_or is) fold

bad_header : (found : Option HeadFault) (seq : ℕ) (bytes : List ℕ) (fault : RegFault) (f : Folded) →
    Err fault ≡ entry_unless_refused found (Ok (entry_with (header_in bytes) (length bytes))) → IsFoldRefused seq fault f →
    f ≡ fold_of_header found seq bytes
bad_header None seq bytes fault f is fold = absurd cc
bad_header (Some bad) seq bytes fault f is fold = subst (λ (x : RegFault). IsFoldRefused seq x f) (ap fault_or is) fold

refused_fold : (seq : ℕ) (found : Option (List ℕ)) (fault : RegFault) (f : Folded) → Err fault ≡ answer_of_look seq found →
    IsFoldRefused seq fault f → f ≡ fold_of_log seq found
refused_fold seq None fault f is fold = no_log seq fault f is fold
refused_fold seq (Some bytes) fault f is fold = bad_header (header_fault seq bytes) seq bytes fault f is fold

no_fold : (seq : ℕ) (fault : RegFault) (f : Folded) → fault ≡ refusals.ArchiveFault → IsFoldRefused seq fault f → ⊥
no_fold seq fault f is fold = subst (λ (x : RegFault). IsFoldRefused seq x f) is fold

refused_ok : (seq : ℕ) (found : Option (List ℕ)) (fault : RegFault) (r : Result Plainly FoldFault) →
    ((fault ≡ refusals.ArchiveFault → ⊥) → Err fault ≡ answer_of_look seq found) →
    IfOk r (λ f. IsFoldRefused seq fault (folded_of f)) → IfOk r (λ f. folded_of f ≡ fold_of_log seq found)
refused_ok seq found fault (Err bad) is fold = tt
refused_ok seq found fault (Ok f) is fold = refused_fold seq found fault (folded_of f)
    (is (λ archive. no_fold seq fault (folded_of f) archive fold)) fold

-- the fold of a refused log is that of the log
pub refused-where_told : (known : Logs) (seq : ℕ) (fault : RegFault) (r : Result Plainly FoldFault) →
    (let answer : Result LogEntry RegFault = Err fault in
    Told known (λ logs. (answer ≡ Err refusals.ArchiveFault → ⊥) → answer ≡ answer_of_look seq (logs seq))) →
    IfOk r (λ f. IsFoldRefused seq fault (folded_of f)) →
    Told known (λ logs. IfOk r (λ f. folded_of f ≡ fold_of_log seq (logs seq)))
refused-where_told None seq fault r is fold = tt
refused-where_told (Some logs) seq fault r is fold = refused_ok seq (logs seq) fault r
    (λ other. is (λ same. other (ap fault_or same))) fold

-- the fold of a log that was looked at
pub seen-where_told : (known : Logs) (seq : ℕ) (e : LogEntry) (r : Result Plainly FoldFault) → e.head.seq ≡ seq →
    Told known (λ logs. IsToldBy logs e) →
    Told known (λ logs. IsToldBy logs e → IfOk r (λ f. folded_of f ≡ fold_of_log e.head.seq (logs e.head.seq))) →
    Told known (λ logs. IfOk r (λ f. folded_of f ≡ fold_of_log seq (logs seq)))
seen-where_told None seq e r same is fold = tt
seen-where_told (Some logs) seq e r same is fold = subst
    (λ (s : ℕ). IfOk r (λ f. folded_of f ≡ fold_of_log s (logs s))) same (fold is)

-- ---- a log that is looked at twice

again_one : (b : Bool) (h : Header) (size : ℕ) (e : LogEntry) →
    (let good : Result LogEntry RegFault = Ok (entry_with h size) in
    Ok e ≡ (if b then good else Err refusals.WrongDb) → Ok e ≡ good)
again_one true h size e is = is
again_one false h size e is = absurd cc

own_database : (h : Header) (e : LogEntry) → e.head ≡ h → (h.dbid == e.head.dbid) ≡ true
own_database h e is =
    let same : e.head.dbid ≡ h.dbid = ap (λ (g : Header). g.dbid) is in
    grind (arith, nat_tests, same)

again_ok : (found : Option HeadFault) (dbid : ℕ) (h : Header) (size : ℕ) (e : LogEntry) →
    Ok e ≡ entry_unless_refused found (of_database dbid h size) → Ok e ≡ entry_unless_refused found (Ok (entry_with h size))
again_ok (Some bad) dbid h size e is = absurd cc
again_ok None dbid h size e is = again_one (h.dbid == dbid) h size e is

found_again : (seq dbid : ℕ) (found : Option (List ℕ)) (e : LogEntry) → Ok e ≡ answer_of_inspect seq dbid found →
    Ok e ≡ answer_of_look seq found
found_again seq dbid None e is = absurd cc
found_again seq dbid (Some bytes) e is = again_ok (header_fault seq bytes) dbid (header_in bytes) (length bytes) e is

same_database : (found : Option HeadFault) (h : Header) (size : ℕ) (e : LogEntry) →
    Ok e ≡ entry_unless_refused found (Ok (entry_with h size)) →
    Ok e ≡ entry_unless_refused found (of_database e.head.dbid h size)
same_database (Some bad) h size e is = absurd cc
same_database None h size e is =
    let own : (h.dbid == e.head.dbid) ≡ true = own_database h e (ap (head_or h) is) in
    is ∙ ap (λ (b : Bool). if b then Ok (entry_with h size) else Err refusals.WrongDb) (sym own)

-- for its own database a log is found as it was looked at
own_found : (seq : ℕ) (found : Option (List ℕ)) (e : LogEntry) → Ok e ≡ answer_of_look seq found →
    Ok e ≡ answer_of_inspect seq e.head.dbid found
own_found seq None e is = absurd cc
own_found seq (Some bytes) e is = same_database (header_fault seq bytes) (header_in bytes) (length bytes) e is

abbrev LooksAs : Logs → ℕ → Result LogEntry RegFault → Type 0
LooksAs known seq r = Told known (λ logs. (r ≡ Err refusals.ArchiveFault → ⊥) → r ≡ answer_of_look seq (logs seq))

abbrev pub InspectsAs : Logs → ℕ → ℕ → Result LogEntry RegFault → Type 0
InspectsAs known seq dbid r = Told known (λ logs. (r ≡ Err refusals.ArchiveFault → ⊥) → r ≡ answer_of_inspect seq dbid (logs seq))

twice_exact : (seq : ℕ) (found : Option (List ℕ)) (first : LogEntry) (r : Result LogEntry RegFault) →
    Ok first ≡ answer_of_look seq found → ((r ≡ Err refusals.ArchiveFault → ⊥) → r ≡ answer_of_inspect seq first.head.dbid found)
    → (r ≡ Err refusals.ArchiveFault → ⊥) → r ≡ answer_of_look seq found
twice_exact seq found first r is again other = again other ∙ sym (own_found seq found first is) ∙ is

-- a second look for the log's own database tells what the first one did
pub twice : (known : Logs) (seq : ℕ) (first : LogEntry) (r : Result LogEntry RegFault) → LooksAs known seq (Ok first) →
    InspectsAs known seq first.head.dbid r → LooksAs known seq r
twice None seq first r is again = tt
twice (Some logs) seq first r is again = twice_exact seq (logs seq) first r (is (λ same. cc)) again

of_entry : (seq dbid : ℕ) (logs : ℕ → Option (List ℕ)) (e : LogEntry) → e.head.seq ≡ seq → e.head.dbid ≡ dbid →
    Ok e ≡ answer_of_inspect seq dbid (logs seq) → IsToldBy logs e
of_entry seq dbid logs e s d is = (λ i. answer_of_inspect (s i) (d i) (logs (s i))) ∙ sym is

of_answer : (seq dbid : ℕ) (logs : ℕ → Option (List ℕ)) (r : Result LogEntry RegFault) → IfOk r (λ e. e.head.seq ≡ seq) →
    IfOk r (λ e. e.head.dbid ≡ dbid) → ((r ≡ Err refusals.ArchiveFault → ⊥) → r ≡ answer_of_inspect seq dbid (logs seq)) →
    IfOk r (IsToldBy logs)
of_answer seq dbid logs (Ok e) s d is = of_entry seq dbid logs e s d (is (λ same. cc))
of_answer seq dbid logs (Err fault) s d is = tt

-- an entry that was found is that of the log
pub found-is_of : (known : Logs) (seq dbid : ℕ) (r : Result LogEntry RegFault) → IfOk r (λ e. e.head.seq ≡ seq) →
    IfOk r (λ e. e.head.dbid ≡ dbid) → InspectsAs known seq dbid r → Told known (λ logs. IfOk r (IsToldBy logs))
found-is_of None seq dbid r s d is = tt
found-is_of (Some logs) seq dbid r s d is = of_answer seq dbid logs r s d is
