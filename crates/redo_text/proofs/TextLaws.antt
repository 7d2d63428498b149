-- The text of a log says this log.
use Rattle.std.proofs.Common.{◌≡◌, ℕ, ◌+◌, ◌<◌, ◌≤◌, ◌^◌, Bool, true, false, List, [], ◌∷◌, ◌++◌, length, Option, Some, None, Result, Ok, refl, sym, ap, ◌∙◌, subst, append_assoc, arith}
use Rattle.std.specs.Prelude.{not, ◌==◌, nat_le, nat_lt, if◌then◌else◌, codes}
use Rattle.std.specs.List.{flat_map, AllByRecursion}
use Rattle.std.proofs.lemmas.Bool.{and_parts, ne_eqb, le-ltb}
use Rattle.std.proofs.lemmas.Bool.Decides.{nat_tests}
use Rattle.std.proofs.lemmas.Grind.{flat_map-append}
use Rattle.std.proofs.lemmas.List.{append-nil, length-append}
use Rattle.rl_base.specs.Lines.{is_line}
use Rattle.rl_value.specs.Outcome.{◌>>=◌, map_ok}
use Rattle.redo_vec.specs.declared.change.Op.{Op}
use Rattle.redo_vec.specs.declared.change.Op.TheVariants.{Insert, Update, Delete}
use Rattle.redo_vec.specs.declared.redo_rec.RedoRec.{RedoRec}
use Rattle.redo_vec.specs.declared.table.TableRow.{TableRow}
use Rattle.redo_vec.specs.declared.vector.Vector.{Vector}
use Rattle.redo_vec.specs.declared.vector.Vector.TheVariants as vectors
use Rattle.redo_vec.specs.Ranges.{IsVector, IsRecord}
use Rattle.redo_vec.specs.Spelling.{vector}
use Rattle.redo_spec.specs.declared.header.Header.{Header}
use Rattle.redo_spec.specs.Log.{Log, IsHeader, IsLog}
use Rattle.redo_text.specs.declared.heading.Heading.{Heading}
use Rattle.redo_text.specs.declared.heading.Begun.{Begun}
use Rattle.redo_text.specs.Draft.{Draft, add_record, size_of, closed, with_vector, record_line, other_line, line_of_words, says_nothing, line_taken, finished}
use Rattle.line_fields.specs.Fields.{Said}
use Rattle.redo_text.specs.Heading.{no_heading, most32, most64, number_alone, given_once, heading_line, heading_said, scn_said, greater, begun_after, header_said}
use Rattle.line_fields.specs.Known.{known_after}
use Rattle.redo_lines.specs.Printing.{op_word, vector_words, line_of_vector}
use Rattle.redo_lines.specs.Reading.{Line, vector_said}
use Rattle.redo_text.specs.Showing.{with_end, number_line, heading_text, vectors_text, known_behind, record_text, records_text, text_of_log}
use Rattle.redo_text.specs.Text.{Bad, at_line, text_from, log_of, log_said}
use Rattle.line_fields.specs.Words.{split, space}
use Rattle.redo_text.proofs.LineLaws.{VectorsRead, NumbersRead}

abbrev Records : Type 0
Records = List RedoRec

-- ---- lines

not_true : (a : Bool) → not a ≡ true → a ≡ false
not_true true e = cc
not_true false e = refl

line_on : (d : Draft Records) (n : ℕ) (begun line rest : List ℕ) → is_line line ≡ true →
    text_from add_record d n begun (line ++ 10 ∷ rest)
    ≡ (at_line n (line_taken add_record d (begun ++ line)) >>= λ e. text_from add_record e (n + 1) [] rest)
line_on d n begun [] rest e =
    ap (λ (t : List ℕ). at_line n (line_taken add_record d t) >>= λ e. text_from add_record e (n + 1) [] rest)
    (sym (append-nil begun))
line_on d n begun (b ∷ line) rest e =
    let p = and_parts _ _ e in
    let inside : (b == 10) ≡ false = not_true _ p.0 in
    rw inside (line_on d n (begun ++ b ∷ []) line rest p.1
    ∙ ap (λ (t : List ℕ). at_line n (line_taken add_record d t) >>= λ e. text_from add_record e (n + 1) [] rest)
    (append_assoc begun (b ∷ []) line))

-- with this text behind one draft there is the other
abbrev Reads : Draft Records → List ℕ → Draft Records → Type 0
Reads d text e = (n : ℕ) (rest : List ℕ) → (m : ℕ) ×
    (text_from add_record d n [] (text ++ rest) ≡ text_from add_record e m [] rest)

reads_then : (d e f : Draft Records) (a b : List ℕ) → Reads d a e → Reads e b f → Reads d (a ++ b) f
reads_then d e f a b p q n rest =
    let x = p n (b ++ rest) in
    let y = q x.0 rest in
    (y.0, ap (text_from add_record d n []) (append_assoc a b rest) ∙ x.1 ∙ y.1)

line_reads : (d e : Draft Records) (line : List ℕ) → is_line line ≡ true → line_taken add_record d line ≡ Ok e →
    Reads d (with_end line) e
line_reads d e line inside taken n rest = (
  n + 1,
  ap (text_from add_record d n []) (append_assoc line (10 ∷ []) rest) ∙ line_on d n [] line rest inside
      ∙ ap (λ (t : Said (Draft Records)). at_line n t >>= λ f. text_from add_record f (n + 1) [] rest) taken,
)

-- ---- the heading

abbrev headed : Heading → Draft Records
headed h = record { heading = h; begun = None; tables = []; vectors = []; done = [] }

abbrev heading_of : Option ℕ → Option ℕ → Option ℕ → Option ℕ → Heading
heading_of seq dbid first next = record { seq = seq; dbid = dbid; first = first; next = next }

log_line : (numbers : NumbersRead) (n : ℕ) → n < 2 ^ 32 →
    line_taken add_record (headed no_heading) (number_line (codes "LOG") n) ≡ Ok (headed (heading_of (Some n) None None None))
unfolding line_taken line_of_words other_line heading_said given_once number_alone
log_line numbers n h =
    ap (line_of_words add_record (headed no_heading)) (numbers.words (codes "LOG") n refl (omega arith))
    ∙ rw (numbers.read most32 n (omega arith) (omega arith)) refl

dbid_line : (numbers : NumbersRead) (seq n : ℕ) → n < 2 ^ 32 →
    line_taken add_record (headed (heading_of (Some seq) None None None)) (number_line (codes "DBID") n)
    ≡ Ok (headed (heading_of (Some seq) (Some n) None None))
unfolding line_taken line_of_words other_line heading_said heading_line given_once number_alone
dbid_line numbers seq n h =
    ap (line_of_words add_record (headed (heading_of (Some seq) None None None)))
    (numbers.words (codes "DBID") n refl (omega arith))
    ∙ rw (numbers.read most32 n (omega arith) (omega arith)) refl

first_line : (numbers : NumbersRead) (seq dbid n : ℕ) → n < 2 ^ 64 →
    line_taken add_record (headed (heading_of (Some seq) (Some dbid) None None)) (number_line (codes "FIRST") n)
    ≡ Ok (headed (heading_of (Some seq) (Some dbid) (Some n) None))
unfolding line_taken line_of_words other_line heading_said heading_line given_once number_alone
first_line numbers seq dbid n h =
    ap (line_of_words add_record (headed (heading_of (Some seq) (Some dbid) None None)))
    (numbers.words (codes "FIRST") n refl h)
    ∙ rw (numbers.read most64 n (omega arith) h) refl

next_line : (numbers : NumbersRead) (seq dbid first n : ℕ) → n < 2 ^ 64 →
    line_taken add_record (headed (heading_of (Some seq) (Some dbid) (Some first) None)) (number_line (codes "NEXT") n)
    ≡ Ok (headed (heading_of (Some seq) (Some dbid) (Some first) (Some n)))
unfolding line_taken line_of_words other_line heading_said heading_line given_once number_alone
next_line numbers seq dbid first n h =
    ap (line_of_words add_record (headed (heading_of (Some seq) (Some dbid) (Some first) None)))
    (numbers.words (codes "NEXT") n refl h)
    ∙ rw (numbers.read most64 n (omega arith) h) refl

-- what all four lines say
abbrev whole_heading : Header → Heading
whole_heading h = heading_of (Some h.seq) (Some h.dbid) (Some h.first) (Some h.next)

heading_reads : (numbers : NumbersRead) (h : Header) → IsHeader h →
    Reads (headed no_heading) (heading_text h) (headed (whole_heading h))
unfolding heading_text
heading_reads numbers h ok =
    let seq : h.seq < 2 ^ 32 = ok.seq in
    let dbid : h.dbid < 2 ^ 32 = ok.dbid in
    let one = headed (heading_of (Some h.seq) None None None) in
    let two = headed (heading_of (Some h.seq) (Some h.dbid) None None) in
    let three = headed (heading_of (Some h.seq) (Some h.dbid) (Some h.first) None) in
    let four = headed (whole_heading h) in
    let log = with_end (number_line (codes "LOG") h.seq) in
    let name = with_end (number_line (codes "DBID") h.dbid) in
    let first = with_end (number_line (codes "FIRST") h.first) in
    let next = with_end (number_line (codes "NEXT") h.next) in
    reads_then (headed no_heading) one four log (name ++ (first ++ next))
    (line_reads (headed no_heading) one (number_line (codes "LOG") h.seq)
    (numbers.one_line (codes "LOG") h.seq refl (omega arith))
    (log_line numbers h.seq ok.seq))
    (reads_then one two four name (first ++ next)
    (line_reads one two (number_line (codes "DBID") h.dbid) (numbers.one_line (codes "DBID") h.dbid refl (omega arith))
    (dbid_line numbers h.seq h.dbid ok.dbid))
    (reads_then two three four first next
    (line_reads two three (number_line (codes "FIRST") h.first) (numbers.one_line (codes "FIRST") h.first refl ok.first)
    (first_line numbers h.seq h.dbid h.first ok.first))
    (line_reads three four (number_line (codes "NEXT") h.next) (numbers.one_line (codes "NEXT") h.next refl ok.next)
    (next_line numbers h.seq h.dbid h.first h.next ok.next))))

-- ---- vectors

-- a record is open
abbrev during : Heading → Begun → Records → List TableRow → List Vector → Draft Records
during h b done tables vs = record { heading = h; begun = Some b; tables = tables; vectors = vs; done = done }

op_says : (o : Op) (rest : List ℕ) → says_nothing (op_word o ++ rest) ≡ false
op_says Insert rest = refl
op_says Update rest = refl
op_says Delete rest = refl

vector_says : (tables : List TableRow) (v : Vector) → says_nothing (line_of_vector tables v) ≡ false
vector_says tables (vectors.Start x) = refl
vector_says tables (vectors.Change c) = op_says c.op _
vector_says tables (vectors.Undo x) = refl
vector_says tables (vectors.Commit x) = refl
vector_says tables (vectors.Rollback x) = refl
vector_says tables (vectors.Table t) = refl
vector_says tables vectors.DictEnd = refl

op_line : (h : Heading) (b : Begun) (done : Records) (tables : List TableRow) (vs : List Vector) (o : Op) (words : Line) →
    line_of_words add_record (during h b done tables vs) (op_word o ∷ words)
    ≡ (vector_said tables (op_word o ∷ words) >>= λ v. with_vector (during h b done tables vs) v)
unfolding line_of_words other_line vector_said
op_line h b done tables vs Insert words = refl
op_line h b done tables vs Update words = refl
op_line h b done tables vs Delete words = refl

-- the line of a vector is read as one
words_line : (h : Heading) (b : Begun) (done : Records) (tables : List TableRow) (vs : List Vector) (v : Vector) →
    line_of_words add_record (during h b done tables vs) (vector_words tables v)
    ≡ (vector_said tables (vector_words tables v) >>= λ u. with_vector (during h b done tables vs) u)
unfolding line_of_words other_line vector_said
words_line h b done tables vs (vectors.Start x) = refl
words_line h b done tables vs (vectors.Change c) = op_line h b done tables vs c.op _
words_line h b done tables vs (vectors.Undo x) = refl
words_line h b done tables vs (vectors.Commit x) = refl
words_line h b done tables vs (vectors.Rollback x) = refl
words_line h b done tables vs (vectors.Table t) = refl
words_line h b done tables vs vectors.DictEnd = refl

lt_no : (a b : ℕ) → a < b → nat_le b a ≡ false
lt_no a b h = grind (arith, nat_tests)

vector_fits : (h : Heading) (b : Begun) (done : Records) (tables : List TableRow) (vs : List Vector) (v : Vector) →
    length vs < 255 → size_of vs + length (vector v) ≤ 65536 →
    with_vector (during h b done tables vs) v ≡ Ok (during h b done (known_after tables v) (vs ++ v ∷ []))
unfolding with_vector
vector_fits h b done tables vs v few short =
    let some_left : nat_le 255 (length vs) ≡ false = lt_no _ _ few in
    let fits : nat_lt 65536 (size_of vs + length (vector v)) ≡ false = le-ltb _ _ short in
    rw (some_left, fits) refl

vector_line : (read : VectorsRead) (h : Heading) (b : Begun) (done : Records) (tables : List TableRow) (vs : List Vector)
    (v : Vector) → IsVector v → length vs < 255 → size_of vs + length (vector v) ≤ 65536 →
    line_taken add_record (during h b done tables vs) (line_of_vector tables v)
    ≡ Ok (during h b done (known_after tables v) (vs ++ v ∷ []))
unfolding line_taken
vector_line read h b done tables vs v ok few short =
    ap (λ (t : Bool). if t then Ok (during h b done tables vs) else line_of_words add_record (during h b done tables vs)
    (split space (line_of_vector tables v))) (vector_says tables v)
    ∙ ap (line_of_words add_record (during h b done tables vs))
    (read.words tables v ok)
    ∙ words_line h b done tables vs v
    ∙ ap (λ (said : Said Vector). said >>= λ u. with_vector (during h b done tables vs) u)
    (ap (vector_said tables) (sym (read.words tables v ok)) ∙ read.read tables v ok)
    ∙ vector_fits h b done tables vs v few short

size_more : (vs : List Vector) (v : Vector) → size_of (vs ++ v ∷ []) ≡ size_of vs + length (vector v)
size_more vs v =
    let e = ap length (flat_map-append vector vs (v ∷ [])) in
    let f = length-append (flat_map vector vs) (vector v ++ []) in
    let g = ap length (append-nil (vector v)) in
    omega (arith, e, f, g)

reads_end : (d e f : Draft Records) (text : List ℕ) → e ≡ f → Reads d text e → Reads d text f
reads_end d e f text same p = subst (λ (g : Draft Records). Reads d text g) same p

none_read : (h : Heading) (b : Begun) (done : Records) (tables : List TableRow) (us : List Vector) →
    Reads (during h b done tables us) [] (during h b done tables (us ++ []))
none_read h b done tables us n rest =
    (n, ap (λ (ws : List Vector). text_from add_record (during h b done tables ws) n [] rest) (sym (append-nil us)))

vectors_read : (read : VectorsRead) (h : Heading) (b : Begun) (done : Records) (tables : List TableRow) (us vs : List Vector) →
    AllByRecursion IsVector vs → length us + length vs ≤ 255 → size_of us + length (flat_map vector vs) ≤ 65536 →
    Reads (during h b done tables us) (vectors_text tables vs) (during h b done (known_behind tables vs) (us ++ vs))
vectors_read read h b done tables us [] ok few short = none_read h b done tables us
vectors_read read h b done tables us (v ∷ vs) ok few short =
    let size = size_more us v in
    let whole = length-append (vector v) (flat_map vector vs) in
    let longer = length-append us (v ∷ []) in
    let here : size_of us + length (vector v) ≤ 65536 = omega (arith, whole, short) in
    let room : length us < 255 = omega arith in
    let more : length (us ++ v ∷ []) + length vs ≤ 255 = omega (arith, longer) in
    let left : size_of (us ++ v ∷ []) + length (flat_map vector vs) ≤ 65536 = omega (arith, size, whole, short) in
    reads_end (during h b done tables us) (during h b done (known_behind (known_after tables v) vs) ((us ++ v ∷ []) ++ vs))
    (during h b done (known_behind (known_after tables v) vs) (us ++ v ∷ vs)) (vectors_text tables (v ∷ vs))
    (ap (during h b done (known_behind (known_after tables v) vs)) (append_assoc us (v ∷ []) vs))
    (reads_then (during h b done tables us) (during h b done (known_after tables v) (us ++ v ∷ []))
    (during h b done (known_behind (known_after tables v) vs) ((us ++ v ∷ []) ++ vs))
    (with_end (line_of_vector tables v)) (vectors_text (known_after tables v) vs)
    (line_reads (during h b done tables us) (during h b done (known_after tables v) (us ++ v ∷ [])) (line_of_vector tables v)
    (read.one_line tables v ok.0) (vector_line read h b done tables us v ok.0 room here))
    (vectors_read read h b done (known_after tables v) (us ++ v ∷ []) vs ok.1 more left))

-- ---- records

first_begun : ℕ → Begun
first_begun scn = record { count = 1; scn = scn; first = scn; greatest = scn }

next_begun : Begun → ℕ → Begun
next_begun b scn = record { count = b.count + 1; scn = scn; first = b.first; greatest = greater b.greatest scn }

abbrev record_of : ℕ → List Vector → RedoRec
record_of scn vs = record { scn = scn; vectors = vs }

first_line_read : (numbers : NumbersRead) (h : Header) (scn : ℕ) → scn < 2 ^ 64 →
    line_taken add_record (headed (whole_heading h)) (number_line (codes "RECORD") scn)
    ≡ Ok (during (whole_heading h) (first_begun scn) [] [] [])
unfolding line_taken line_of_words record_line closed scn_said number_alone begun_after first_begun
first_line_read numbers h scn fits =
    ap (line_of_words add_record (headed (whole_heading h))) (numbers.words (codes "RECORD") scn refl fits)
    ∙ rw (numbers.read most64 scn (omega arith) fits) refl

record_line_read : (numbers : NumbersRead) (h : Header) (b : Begun) (done : Records) (tables : List TableRow) (u : Vector)
    (us : List Vector) (scn : ℕ) → scn < 2 ^ 64 → b.count + 1 < 2 ^ 32 →
    line_taken add_record (during (whole_heading h) b done tables (u ∷ us)) (number_line (codes "RECORD") scn)
    ≡ Ok (during (whole_heading h) (next_begun b scn) (done ++ record_of b.scn (u ∷ us) ∷ []) tables [])
unfolding line_taken line_of_words record_line closed scn_said number_alone begun_after next_begun
record_line_read numbers h b done tables u us scn fits few =
    let room : (b.count == most32) ≡ false = ne_eqb _ _ (omega arith) in
    ap (line_of_words add_record (during (whole_heading h) b done tables (u ∷ us)))
    (numbers.words (codes "RECORD") scn refl fits)
    ∙ rw (numbers.read most64 scn (omega arith) fits, room) refl

-- a record behind what stands before it
record_reads : (numbers : NumbersRead) (read : VectorsRead) (d : Draft Records) (h : Heading) (b : Begun) (done : Records)
    (tables : List TableRow) (r : RedoRec) → IsRecord r →
    line_taken add_record d (number_line (codes "RECORD") r.scn) ≡ Ok (during h b done tables [])
    → Reads d (record_text tables r) (during h b done (known_behind tables r.vectors) r.vectors)
unfolding record_text
record_reads numbers read d h b done tables r ok taken =
    let few : length r.vectors ≤ 255 = ok.most in
    let short : 14 + length (flat_map vector r.vectors) ≤ 65536 = ok.size in
    reads_then d (during h b done tables []) (during h b done (known_behind tables r.vectors) r.vectors)
    (with_end (number_line (codes "RECORD") r.scn)) (vectors_text tables r.vectors)
    (line_reads d (during h b done tables []) (number_line (codes "RECORD") r.scn)
    (numbers.one_line (codes "RECORD") r.scn refl ok.scn) taken)
    (vectors_read read h b done tables [] r.vectors ok.vectors (omega arith) short)

-- ---- the end

abbrev header_with : Header → ℕ → Header
header_with h n = record { seq = h.seq; dbid = h.dbid; first = h.first; next = h.next; count = n }

end_read : (h : Header) (b : Begun) (done : Records) (tables : List TableRow) (u : Vector) (us : List Vector) (n : ℕ) →
    text_from add_record (during (whole_heading h) b done tables (u ∷ us)) n [] []
    ≡ Ok (header_with h b.count, done ++ record_of b.scn (u ∷ us) ∷ [])
unfolding line_taken finished closed header_said
end_read h b done tables u us n = refl

abbrev whole : Header → Records → Result (Header × Records) Bad
whole h records = Ok (h, records)

next_scn : (b : Begun) (scn : ℕ) → (next_begun b scn).scn ≡ scn
unfolding next_begun
next_scn b scn = refl

next_count : (b : Begun) (scn : ℕ) → (next_begun b scn).count ≡ b.count + 1
unfolding next_begun
next_count b scn = refl

records_said : (numbers : NumbersRead) (read : VectorsRead) (h : Header) (b : Begun) (done : Records) (tables : List TableRow)
    (vs : List Vector) (rs : Records) (n : ℕ) → 1 ≤ length vs → AllByRecursion IsRecord rs → b.count + length rs < 2 ^ 32 →
    text_from add_record (during (whole_heading h) b done tables vs) n [] (records_text tables rs)
    ≡ whole (header_with h (b.count + length rs)) (done ++ record_of b.scn vs ∷ rs)
records_said numbers read h b done tables [] rs n some each few = absurd (omega arith)
records_said numbers read h b done tables (u ∷ us) [] n some each few =
    let same : b.count ≡ b.count + length {A = RedoRec} [] = omega arith in
    end_read h b done tables u us n
    ∙ ap (λ (k : ℕ). whole (header_with h k) (done ++ record_of b.scn (u ∷ us) ∷ [])) same
records_said numbers read h b done tables (u ∷ us) (r ∷ rs) n some each few =
    let room : b.count + 1 < 2 ^ 32 = omega arith in
    let c = next_begun b r.scn in
    let before = done ++ record_of b.scn (u ∷ us) ∷ [] in
    let x = record_reads numbers read (during (whole_heading h) b done tables (u ∷ us)) (whole_heading h) c before tables r each.0
    (record_line_read numbers h b done tables u us r.scn each.0.scn room) n (records_text (known_behind tables r.vectors) rs) in
    let count : c.count ≡ b.count + 1 = next_count b r.scn in
    let left : c.count + length rs < 2 ^ 32 = omega (arith, count) in
    let total : c.count + length rs ≡ b.count + length (r ∷ rs) = omega (arith, count) in
    x.1 ∙ records_said numbers read h c before (known_behind tables r.vectors) r.vectors rs x.0 each.0.some each.1 left
    ∙ ap (λ (k : ℕ). whole (header_with h k) (before ++ record_of c.scn r.vectors ∷ rs)) total
    ∙ ap (λ (k : ℕ). whole (header_with h (b.count + length (r ∷ rs))) (before ++ record_of k r.vectors ∷ rs)) (next_scn b r.scn)
    ∙ ap (whole (header_with h (b.count + length (r ∷ rs)))) (append_assoc done (record_of b.scn (u ∷ us) ∷ []) (r ∷ rs))

first_count : (scn : ℕ) → (first_begun scn).count ≡ 1
unfolding first_begun
first_count scn = refl

first_scn : (scn : ℕ) → (first_begun scn).scn ≡ scn
unfolding first_begun
first_scn scn = refl

by_records : (numbers : NumbersRead) (read : VectorsRead) (h : Header) (rs : Records) → IsHeader h → AllByRecursion IsRecord rs →
    h.count ≡ length rs → 1 ≤ length rs → log_said (heading_text h ++ records_text [] rs) ≡ Ok (record { head = h; records = rs })
unfolding log_said
by_records numbers read h [] ok each counted some = absurd (omega arith)
by_records numbers read h (r ∷ rs) ok each counted some =
    let fits : h.count < 2 ^ 32 = ok.count in
    let x = heading_reads numbers h ok 1 (records_text [] (r ∷ rs)) in
    let b = first_begun r.scn in
    let y = record_reads numbers read (headed (whole_heading h)) (whole_heading h) b [] [] r each.0
    (first_line_read numbers h r.scn each.0.scn) x.0 (records_text (known_behind [] r.vectors) rs) in
    let count : b.count ≡ 1 = first_count r.scn in
    let left : b.count + length rs < 2 ^ 32 = omega (arith, count, counted) in
    let total : b.count + length rs ≡ h.count = omega (arith, count, counted) in
    ap (map_ok log_of) (x.1 ∙ y.1
    ∙ records_said numbers read h b [] (known_behind [] r.vectors) r.vectors rs y.0 each.0.some each.1 left
    ∙ ap (λ (k : ℕ). whole (header_with h k) (record_of b.scn r.vectors ∷ rs)) total
    ∙ ap (λ (k : ℕ). whole (header_with h h.count) (record_of k r.vectors ∷ rs)) (first_scn r.scn))

pub text_says_log : NumbersRead → VectorsRead → (l : Log) → IsLog l → 1 ≤ length l.records → log_said (text_of_log l) ≡ Ok l
unfolding text_of_log
text_says_log numbers read l ok some = by_records numbers read l.head l.records ok.head ok.each ok.counted some
