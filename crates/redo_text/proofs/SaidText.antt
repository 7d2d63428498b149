-- A log that a text says has a spelling.
use Rattle.std.proofs.Common.{◌≡◌, ℕ, ◌+◌, ◌<◌, ◌≤◌, ◌^◌, Bool, true, false, List, [], ◌∷◌, ◌++◌, length, Option, Some, None, Result, Ok, Err, IfOk, refl, sym, ap, ◌∙◌, subst, inl, inr, arith}
use Rattle.std.specs.Prelude.{◌==◌, nat_le, nat_lt, if◌then◌else◌, codes}
use Rattle.std.specs.List.{flat_map, AllByRecursion}
use Rattle.std.proofs.lemmas.Bool.{eq-eqb, ltb-false}
use Rattle.std.proofs.lemmas.Bool.Decides.{nat_tests}
use Rattle.std.proofs.lemmas.Grind.{flat_map-append}
use Rattle.std.proofs.lemmas.List.{append-nil, length-append}
use Rattle.rl_value.specs.Order.{same_bytes}
use Rattle.rl_value.specs.Outcome.{◌>>=◌, map_ok}
use Rattle.redo_vec.specs.declared.redo_rec.RedoRec.{RedoRec}
use Rattle.redo_vec.specs.declared.vector.Vector.{Vector}
use Rattle.redo_vec.specs.declared.vector.Vector.TheVariants as vectors
use Rattle.redo_vec.specs.Ranges.{AreBytes, IsVector, IsRecord}
use Rattle.redo_vec.specs.Spelling.{vector}
use Rattle.redo_spec.specs.declared.header.Header.{Header}
use Rattle.redo_spec.specs.Log.{Log, IsHeader, IsLog, IsSpelled, log_bytes}
use Rattle.line_fields.specs.declared.fault.LineFault.TheVariants as faults
use Rattle.redo_text.specs.declared.fault.WriteFault.{WriteFault}
use Rattle.redo_text.specs.declared.heading.Heading.{Heading}
use Rattle.redo_text.specs.declared.heading.Begun.{Begun}
use Rattle.redo_text.specs.Draft.{Draft, beginning, add_record, size_of, with_record, closed_at, closed, with_vector, record_line, other_line, line_of_words, says_nothing, line_taken, finished_at, finished}
use Rattle.line_fields.specs.Fields.{Said, number_said}
use Rattle.redo_text.specs.Heading.{most32, most64, number_alone, given_once, heading_line, behind_log, heading_said, is_heading_word, number_or, scn_after, scn_said, greater, begun_after, next_of, number_there, header_said}
use Rattle.redo_text.specs.Given.{Tells}
use Rattle.line_fields.specs.Known.{HaveIds, known_after}
use Rattle.redo_lines.specs.Reading.{Line, vector_of_words, vector_said}
use Rattle.redo_text.specs.Text.{Bad, at_line, last_line, text_from, log_of, log_said}
use Rattle.line_fields.specs.Words.{split, space}
use Rattle.redo_lines.proofs.ListLaws.{each-append}
use Rattle.redo_lines.proofs.SaidSteps.{bind_ok, passed, chosen, said, ok_is, ended}
use Rattle.redo_text.proofs.LineLaws.{Fitting}

abbrev Records : Type 0
Records = List RedoRec

-- ---- the heading

-- a number that is there is below this one
abbrev Below : ℕ → Option ℕ → Type 0
Below limit None = Unit {0}
Below limit (Some n) = n < limit

record HeadFits (h : Heading) : Type 0 where
  seq : Below (2 ^ 32) h.seq
  dbid : Below (2 ^ 32) h.dbid
  first : Below (2 ^ 64) h.first
  next : Below (2 ^ 64) h.next

alone_sound : (law : Fitting) (most n : ℕ) (words : Line) → number_alone most words ≡ Ok n → n ≤ most
unfolding number_alone
alone_sound law most n [] e = absurd cc
alone_sound law most n (word ∷ words) e =
    let a = bind_ok (number_said most word) _ n e in
    subst (λ (k : ℕ). k ≤ most) (ended words a.0 n a.2) (law.number_fits most a.0 word a.1)

once_sound : (law : Fitting) (most limit : ℕ) (given : Option ℕ) (words : Line) (o : Option ℕ) → most < limit →
    given_once most given words ≡ Ok o → Below limit o
unfolding given_once
once_sound law most limit (Some n) words o h e = absurd cc
once_sound law most limit None words o h e =
    let a = bind_ok (number_alone most words) _ o e in
    let low : a.0 ≤ most = alone_sound law most a.0 words a.1 in
    let below : a.0 < limit = omega arith in
    subst (Below limit) (ok_is (Some a.0) o a.2) below

abbrev order : Said Heading
order = Err faults.Order

refused : (k : Heading) → order ≡ Ok k → ⊥
refused k e = cc

true_false : true ≡ false → ⊥
true_false e = cc

heading_line_sound : (law : Fitting) (h : Heading) (keyword : List ℕ) (words : Line) (k : Heading) → HeadFits h →
    heading_line h keyword words ≡ Ok k → HeadFits k
unfolding heading_line
heading_line_sound law h keyword words k ok e =
    elim (chosen (same_bytes keyword (codes "DBID")) _ _ (Ok k) e) [
      | inl s ↦
          let a = bind_ok (given_once most32 h.dbid words) _ k s.1 in
          subst HeadFits (ok_is (record h { dbid = a.0 }) k a.2)
          (record {
            seq = ok.seq;
            dbid = once_sound law most32 (2 ^ 32) h.dbid words a.0 (omega arith) a.1;
            first = ok.first;
            next = ok.next;
          })
      | inr s ↦ elim (chosen (same_bytes keyword (codes "FIRST")) _ _ (Ok k) s.1) [
        | inl t ↦
            let a = bind_ok (given_once most64 h.first words) _ k t.1 in
            subst HeadFits (ok_is (record h { first = a.0 }) k a.2)
            (record {
              seq = ok.seq;
              dbid = ok.dbid;
              first = once_sound law most64 (2 ^ 64) h.first words a.0 (omega arith) a.1;
              next = ok.next;
            })
        | inr t ↦ elim (chosen (same_bytes keyword (codes "NEXT")) _ _ (Ok k) t.1) [
          | inl u ↦
              let a = bind_ok (given_once most64 h.next words) _ k u.1 in
              subst HeadFits (ok_is (record h { next = a.0 }) k a.2)
              (record {
                seq = ok.seq;
                dbid = ok.dbid;
                first = ok.first;
                next = once_sound law most64 (2 ^ 64) h.next words a.0 (omega arith) a.1;
              })
          | inr u ↦ absurd (refused k u.1)
        ]
      ]
    ]

behind_sound : (seq : Option ℕ) (r : Said Heading) (k : Heading) → (r ≡ Ok k → HeadFits k) → behind_log seq r ≡ Ok k → HeadFits k
behind_sound None r k each e = absurd cc
behind_sound (Some n) r k each e = each e

heading_sound : (law : Fitting) (h : Heading) (keyword : List ℕ) (words : Line) (k : Heading) → HeadFits h →
    heading_said h keyword words ≡ Ok k → HeadFits k
unfolding heading_said
heading_sound law h keyword words k ok e =
    elim (chosen (same_bytes keyword (codes "LOG")) _ _ (Ok k) e) [
      | inl s ↦
          let a = bind_ok (given_once most32 h.seq words) _ k s.1 in
          subst HeadFits (ok_is (record h { seq = a.0 }) k a.2)
          (record {
            seq = once_sound law most32 (2 ^ 32) h.seq words a.0 (omega arith) a.1;
            dbid = ok.dbid;
            first = ok.first;
            next = ok.next;
          })
      | inr s ↦ behind_sound h.seq (heading_line h keyword words) k (heading_line_sound law h keyword words k ok) s.1
    ]

-- ---- how far the records have come

record IsBegun (b : Begun) (n : ℕ) : Type 0 where
  count : b.count ≡ n
  small : b.count < 2 ^ 32
  scn : b.scn < 2 ^ 64
  first : b.first < 2 ^ 64
  greatest : b.greatest < 2 ^ 64

-- so many records have begun
abbrev BegunFits : Option Begun → ℕ → Type 0
BegunFits None n = n ≡ 0
BegunFits (Some b) n = IsBegun b n

or_below : (o : Option ℕ) → Below (2 ^ 64) o → number_or 1 o < 2 ^ 64
or_below None ok = omega arith
or_below (Some n) ok = ok

above_sound : (n m : ℕ) → n < 2 ^ 64 → (if n == most64 then Err faults.Number else Ok (n + 1)) ≡ Ok m → m < 2 ^ 64
above_sound n m low e =
    let g = passed (n == most64) faults.Number (Ok (n + 1)) m e in
    let other : n ≡ most64 → ⊥ = λ same. true_false (sym (eq-eqb n most64 same) ∙ g.0) in
    let below : n + 1 < 2 ^ 64 = omega (arith, other) in
    subst (λ (k : ℕ). k < 2 ^ 64) (ok_is (n + 1) m g.1) below

after_sound : (h : Heading) (o : Option Begun) (n scn : ℕ) → HeadFits h → BegunFits o n → scn_after h o ≡ Ok scn → scn < 2 ^ 64
after_sound h None n scn ok fits e =
    subst (λ (k : ℕ). k < 2 ^ 64) (ok_is (number_or 1 h.first) scn e) (or_below h.first ok.first)
after_sound h (Some b) n scn ok fits e = above_sound b.scn scn fits.scn e

scn_sound : (law : Fitting) (h : Heading) (o : Option Begun) (n : ℕ) (words : Line) (scn : ℕ) → HeadFits h → BegunFits o n →
    scn_said h o words ≡ Ok scn → scn < 2 ^ 64
unfolding scn_said
scn_sound law h o n [] scn ok fits e = after_sound h o n scn ok fits e
scn_sound law h o n (w ∷ ws) scn ok fits e =
    let low : scn ≤ most64 = alone_sound law most64 scn (w ∷ ws) e in omega arith

greater_below : (t : Bool) (a b : ℕ) → a < 2 ^ 64 → b < 2 ^ 64 → (if t then b else a) < 2 ^ 64
greater_below true a b p q = q
greater_below false a b p q = p

begun_sound : (o : Option Begun) (n scn : ℕ) (c : Begun) → BegunFits o n → scn < 2 ^ 64 → begun_after o scn ≡ Ok c →
    IsBegun c (n + 1)
unfolding begun_after
begun_sound None n scn c fits low e =
    subst (λ (k : Begun). IsBegun k (n + 1)) (ok_is (record { count = 1; scn = scn; first = scn; greatest = scn }) c e)
    (record { count = omega (arith, fits); small = omega arith; scn = low; first = low; greatest = low })
begun_sound (Some b) n scn c fits low e =
    let g = passed (b.count == most32) faults.Many _ c e in
    let other : b.count ≡ most32 → ⊥ = λ same. true_false (sym (eq-eqb b.count most32 same) ∙ g.0) in
    let small : b.count < 2 ^ 32 = fits.small in
    let counted : b.count ≡ n = fits.count in
    subst (λ (k : Begun). IsBegun k (n + 1))
    (ok_is (record { count = b.count + 1; scn = scn; first = b.first; greatest = greater b.greatest scn }) c g.1)
    (record {
      count = omega arith;
      small = omega (arith, other);
      scn = low;
      first = fits.first;
      greatest = greater_below (nat_lt b.greatest scn) b.greatest scn fits.greatest low;
    })

-- ---- drafts

-- all but how far the records have come
record Fits (d : Draft Records) : Type 0 where
  heading : HeadFits d.heading
  tables : HaveIds d.tables
  vectors : AllByRecursion IsVector d.vectors
  few : length d.vectors ≤ 255
  short : size_of d.vectors ≤ 65536
  done : AllByRecursion IsRecord d.done

-- the last record is open, and counted
abbrev OpenFits : Option Begun → ℕ → Type 0
OpenFits None n = n ≡ 0
OpenFits (Some b) n = IsBegun b (n + 1)

-- what closing leaves
record IsClosed (d c : Draft Records) : Type 0 where
  fits : Fits c
  same : c.begun ≡ d.begun
  counted : BegunFits d.begun (length c.done)

record_of_sound : (b : Begun) (n : ℕ) (vs : List Vector) (d c : Draft Records) → Fits d → d.begun ≡ Some b →
    IsBegun b (length d.done + 1) → AllByRecursion IsVector vs → length vs ≤ 255 → size_of vs ≤ 65536 →
    with_record add_record b.scn vs d ≡ Ok c → IsClosed d c
record_of_sound b n [] d c ok is counted each few short e = absurd cc
record_of_sound b n (v ∷ vs) d c ok is counted each few short e =
    let r : RedoRec = record { scn = b.scn; vectors = v ∷ vs } in
    let fits : IsRecord r = record { scn = counted.scn; some = omega arith; most = few; vectors = each; size = short } in
    let longer : length (d.done ++ r ∷ []) ≡ length d.done + 1 = omega (arith, length-append d.done (r ∷ [])) in
    let same : IsBegun b (length (d.done ++ r ∷ [])) = subst (IsBegun b) (sym longer) counted in
    subst (IsClosed d) (ok_is (record d { vectors = []; done = d.done ++ r ∷ [] }) c e)
    (record {
      fits = record {
        heading = ok.heading;
        tables = ok.tables;
        vectors = tt;
        few = omega arith;
        short = omega arith;
        done = each-append IsRecord d.done (r ∷ []) ok.done (fits, tt);
      };
      same = refl;
      counted = subst (λ (o : Option Begun). BegunFits o (length (d.done ++ r ∷ []))) (sym is) same;
    })

closed_at_sound : (o : Option Begun) (d c : Draft Records) → d.begun ≡ o → Fits d → OpenFits o (length d.done) →
    closed_at add_record o d ≡ Ok c → IsClosed d c
closed_at_sound None d c is ok fits e =
    subst (IsClosed d) (ok_is d c e)
    (record { fits = ok; same = refl; counted = subst (λ (o : Option Begun). BegunFits o (length d.done)) (sym is) fits })
closed_at_sound (Some b) d c is ok fits e = record_of_sound b 0 d.vectors d c ok is fits ok.vectors ok.few ok.short e

closed_sound : (d c : Draft Records) → Fits d → OpenFits d.begun (length d.done) → closed add_record d ≡ Ok c → IsClosed d c
unfolding closed
closed_sound d c ok fits e = closed_at_sound d.begun d c refl ok fits e

-- ---- lines

-- a draft and how far its records have come
record IsDraft (d : Draft Records) : Type 0 where
  fits : Fits d
  open_fits : OpenFits d.begun (length d.done)

size_more : (vs : List Vector) (v : Vector) → size_of (vs ++ v ∷ []) ≡ size_of vs + length (vector v)
size_more vs v =
    let e = ap length (flat_map-append vector vs (v ∷ [])) in
    let f = length-append (flat_map vector vs) (vector v ++ []) in
    let g = ap length (append-nil (vector v)) in
    omega (arith, e, f, g)

lt_from_no : (a b : ℕ) → nat_le a b ≡ false → b < a
lt_from_no a b e = grind (arith, nat_tests)

with_vector_sound : (law : Fitting) (d e : Draft Records) (v : Vector) → IsDraft d → IsVector v →
    with_vector d v ≡ Ok e → IsDraft e
unfolding with_vector
with_vector_sound law d e v ok fits eq =
    let a = passed (nat_le 255 (length d.vectors)) faults.Many _ e eq in
    let b = passed (nat_lt 65536 (size_of d.vectors + length (vector v))) faults.Long _ e a.1 in
    let room : length d.vectors < 255 = lt_from_no 255 (length d.vectors) a.0 in
    let short : size_of d.vectors + length (vector v) ≤ 65536 = ltb-false _ _ b.0 in
    let longer = length-append d.vectors (v ∷ []) in
    let few : length (d.vectors ++ v ∷ []) ≤ 255 = omega (arith, longer) in
    let size = size_more d.vectors v in
    let small : size_of (d.vectors ++ v ∷ []) ≤ 65536 = omega (arith, size) in
    subst IsDraft (ok_is (record d { tables = known_after d.tables v; vectors = d.vectors ++ v ∷ [] }) e b.1)
    (record {
      fits = record {
        heading = ok.fits.heading;
        tables = law.tables_fit d.tables v ok.fits.tables fits;
        vectors = each-append IsVector d.vectors (v ∷ []) ok.fits.vectors (fits, tt);
        few = few;
        short = small;
        done = ok.fits.done;
      };
      open_fits = ok.open_fits;
    })

record_line_sound : (law : Fitting) (d e : Draft Records) (words : Line) → IsDraft d →
    record_line add_record d words ≡ Ok e → IsDraft e
unfolding record_line
record_line_sound law d e words ok eq =
    let a = bind_ok (closed add_record d) _ e eq in
    let b = bind_ok (number_there a.0.heading.dbid) _ e a.2 in
    let c = bind_ok (scn_said a.0.heading a.0.begun words) _ e b.2 in
    let f = bind_ok (begun_after a.0.begun c.0) _ e c.2 in
    let g = closed_sound d a.0 ok.fits ok.open_fits a.1 in
    let begun : BegunFits a.0.begun (length a.0.done) =
    subst (λ (o : Option Begun). BegunFits o (length a.0.done)) (sym g.same) g.counted in
    let low = scn_sound law a.0.heading a.0.begun (length a.0.done) words c.0 g.fits.heading begun c.1 in
    let next = begun_sound a.0.begun (length a.0.done) c.0 f.0 begun low f.1 in
    subst IsDraft (ok_is (record a.0 { begun = Some f.0 }) e f.2) (record {
      fits = record {
        heading = g.fits.heading;
        tables = g.fits.tables;
        vectors = g.fits.vectors;
        few = g.fits.few;
        short = g.fits.short;
        done = g.fits.done;
      };
      open_fits = next;
    })

other_line_sound : (law : Fitting) (o : Option Begun) (d e : Draft Records) (keyword : List ℕ) (words : Line) → IsDraft d →
    ((v : Vector) → vector_of_words d.tables keyword words ≡ Ok v → IsVector v)
    → other_line o d keyword words ≡ Ok e → IsDraft e
unfolding other_line
other_line_sound law None d e keyword words ok fits eq =
    let a = bind_ok (heading_said d.heading keyword words) _ e eq in
    subst IsDraft (ok_is (record d { heading = a.0 }) e a.2) (record {
      fits = record {
        heading = heading_sound law d.heading keyword words a.0 ok.fits.heading a.1;
        tables = ok.fits.tables;
        vectors = ok.fits.vectors;
        few = ok.fits.few;
        short = ok.fits.short;
        done = ok.fits.done;
      };
      open_fits = ok.open_fits;
    })
other_line_sound law (Some b) d e keyword words ok fits eq =
    let g = passed (is_heading_word keyword) faults.Order _ e eq in
    let a = bind_ok (vector_of_words d.tables keyword words) _ e g.1 in
    with_vector_sound law d e a.0 ok (fits a.0 a.1) a.2

words_sound : (law : Fitting) (d e : Draft Records) (words : Line) → IsDraft d →
    ((v : Vector) → vector_said d.tables words ≡ Ok v → IsVector v) → line_of_words add_record d words ≡ Ok e → IsDraft e
unfolding line_of_words vector_said
words_sound law d e [] ok fits eq = absurd cc
words_sound law d e (keyword ∷ words) ok fits eq =
    elim (chosen (same_bytes keyword (codes "RECORD")) _ _ (Ok e) eq) [
      | inl s ↦ record_line_sound law d e words ok s.1
      | inr s ↦ other_line_sound law d.begun d e keyword words ok fits s.1
    ]

taken_sound : (law : Fitting) (d e : Draft Records) (line : List ℕ) → IsDraft d → AreBytes line →
    line_taken add_record d line ≡ Ok e → IsDraft e
unfolding line_taken
taken_sound law d e line ok bytes eq =
    elim (chosen (says_nothing line) (Ok d) _ (Ok e) eq) [
      | inl s ↦ subst IsDraft (ok_is d e s.1) ok
      | inr s ↦ words_sound law d e (split space line) ok (λ v h. law.vector_fits d.tables line v ok.fits.tables bytes h) s.1
    ]

-- ---- the end

there_sound : (limit : ℕ) (o : Option ℕ) (n : ℕ) → Below limit o → number_there o ≡ Ok n → n < limit
there_sound limit None n ok e = absurd cc
there_sound limit (Some m) n ok e = subst (λ (k : ℕ). k < limit) (ok_is m n e) ok

next_sound : (o : Option ℕ) (b : Begun) (n : ℕ) → Below (2 ^ 64) o → b.greatest < 2 ^ 64 → next_of o b ≡ Ok n → n < 2 ^ 64
next_sound None b n ok low e = above_sound b.greatest n low e
next_sound (Some m) b n ok low e = subst (λ (k : ℕ). k < 2 ^ 64) (ok_is m n e) ok

first_sound : (o : Option ℕ) (n : ℕ) → Below (2 ^ 64) o → n < 2 ^ 64 → number_or n o < 2 ^ 64
first_sound None n ok low = low
first_sound (Some m) n ok low = ok

-- a header that has a spelling, and counts this many records
record IsWhole (h : Header) (n : ℕ) : Type 0 where
  head : IsHeader h
  counted : h.count ≡ n

header_sound : (k : Heading) (b : Begun) (n : ℕ) (h : Header) → HeadFits k → IsBegun b n → header_said k b ≡ Ok h → IsWhole h n
unfolding header_said
header_sound k b n h ok fits e =
    let seq = bind_ok (number_there k.seq) _ h e in
    let dbid = bind_ok (number_there k.dbid) _ h seq.2 in
    let next = bind_ok (next_of k.next b) _ h dbid.2 in
    subst (λ (x : Header). IsWhole x n)
    (ok_is (record { seq = seq.0; dbid = dbid.0; first = number_or b.first k.first; next = next.0; count = b.count }) h next.2)
    (record {
      head = record {
        seq = there_sound (2 ^ 32) k.seq seq.0 ok.seq seq.1;
        dbid = there_sound (2 ^ 32) k.dbid dbid.0 ok.dbid dbid.1;
        first = first_sound k.first b.first ok.first fits.first;
        next = next_sound k.next b next.0 ok.next fits.greatest next.1;
        count = fits.small;
      };
      counted = fits.count;
    })

abbrev Whole : Header × Records → Type 0
Whole (h, records) = IsLog (record { head = h; records = records })

finished_sound : (o : Option Begun) (d : Draft Records) (y : Header × Records) → d.begun ≡ o → IsDraft d →
    finished_at add_record o d ≡ Ok y → Whole y
finished_sound None d y is ok e = absurd cc
finished_sound (Some b) d y is ok e =
    let a = bind_ok (closed add_record d) _ y e in
    let h = bind_ok (header_said a.0.heading b) _ y a.2 in
    let g = closed_sound d a.0 ok.fits ok.open_fits a.1 in
    let begun : IsBegun b (length a.0.done) = subst (λ (o : Option Begun). BegunFits o (length a.0.done)) is g.counted in
    let w = header_sound a.0.heading b (length a.0.done) h.0 g.fits.heading begun h.1 in
    subst Whole (ok_is (h.0, a.0.done) y h.2) (record { head = w.head; each = g.fits.done; counted = w.counted })

end_sound : (d : Draft Records) (y : Header × Records) → IsDraft d → finished add_record d ≡ Ok y → Whole y
unfolding finished
end_sound d y ok e = finished_sound d.begun d y refl ok e

abbrev at_last : {A : Type 0} → A → Result A Bad
at_last x = Ok x

whole_is : {A : Type 0} (x y : A) → at_last x ≡ at_last y → x ≡ y
whole_is x y e = cc

line_is : {A : Type 0} (n : ℕ) (r : Said A) (y : A) → at_line n r ≡ Ok y → r ≡ Ok y
line_is n (Ok x) y e = ap said (whole_is x y e)
line_is n (Err f) y e = absurd cc

last_sound : (law : Fitting) (d : Draft Records) (n : ℕ) (line : List ℕ) (y : Header × Records) → IsDraft d → AreBytes line →
    last_line add_record d n line ≡ Ok y → Whole y
last_sound law d n line y ok bytes e =
    let a = bind_ok (line_taken add_record d line) _ y
    (line_is n (line_taken add_record d line >>= λ f. finished add_record f) y e) in
    end_sound a.0 y (taken_sound law d a.0 line ok bytes a.1) a.2

text_sound : (law : Fitting) (d : Draft Records) (n : ℕ) (line bytes : List ℕ) (y : Header × Records) → IsDraft d →
    AreBytes line → AreBytes bytes → text_from add_record d n line bytes ≡ Ok y → Whole y
text_sound law d n line [] y ok p q e = last_sound law d n line y ok p e
text_sound law d n line (b ∷ bytes) y ok p q e =
    elim (chosen (b == 10) _ _ (Ok y) e) [
      | inl s ↦
          let a = bind_ok (at_line n (line_taken add_record d line)) _ y s.1 in
          text_sound law a.0 (n + 1) [] bytes y
          (taken_sound law d a.0 line ok p (line_is n (line_taken add_record d line) a.0 a.1)) tt q.1 a.2
      | inr s ↦ text_sound law d n (line ++ b ∷ []) bytes y ok (each-append (λ c. c < 256) line (b ∷ []) p (q.0, tt)) q.1 s.1
    ]

beginning_sound : IsDraft (beginning [])
beginning_sound = record {
  fits = record {
    heading = record { seq = tt; dbid = tt; first = tt; next = tt };
    tables = tt;
    vectors = tt;
    few = omega arith;
    short = omega arith;
    done = tt;
  };
  open_fits = refl;
}

log_there : (r : Result (Header × Records) Bad) (l : Log) → map_ok log_of r ≡ Ok l →
    (y : Header × Records) × (r ≡ Ok y) × (log_of y ≡ l)
log_there (Ok y) l e = (y, refl, whole_is (log_of y) l e)
log_there (Err b) l e = absurd cc

pub log_sound : Fitting → (text : List ℕ) (l : Log) → AreBytes text → log_said text ≡ Ok l → IsLog l
unfolding log_said
log_sound law text l bytes e =
    let a = log_there (text_from add_record (beginning []) 1 [] text) l e in
    subst IsLog a.2 (text_sound law (beginning []) 1 [] text a.0 beginning_sound tt bytes a.1)

-- ---- what is written

spelled_said : (r : Result Log Bad) (bytes : List ℕ) → map_ok log_bytes r ≡ Ok bytes →
    (l : Log) × (r ≡ Ok l) × (log_bytes l ≡ bytes)
spelled_said (Ok l) bytes e = (l, refl, whole_is (log_bytes l) bytes e)
spelled_said (Err b) bytes e = absurd cc

pub spelled_given : {X : Type 0} → ((text : List ℕ) (l : Log) → AreBytes text → log_said text ≡ Ok l → IsLog l) →
    (r : Result X WriteFault) (view : X → List ℕ) (text : List ℕ) → AreBytes text →
    Tells view r (map_ok log_bytes (log_said text))
    → IfOk r (λ x. (l : Log) × (log_said text ≡ Ok l) × IsSpelled l (view x))
spelled_given fits (Ok x) view text bytes given =
    let a = spelled_said (log_said text) (view x) given in
    (a.0, a.1, record { log = fits text a.0 bytes a.1; spelled = sym a.2 })
spelled_given fits (Err e) view text bytes given = tt
