-- The lines of a fold, and the words of every refusal in them.
-- Words of a line have one space between them, and a line ends with LF. The spelling is this project's own.
use Rattle.std.specs.Prelude.{ℕ, List, [], ◌∷◌, ◌++◌, map, length, codes, slice_get}
use Rattle.std.specs.List.{flat_map, join_with_byte}
use Rattle.std.specs.Option.{option_map_or}
use Rattle.std.specs.Fmt.{decimal}
use Rattle.rl_value.specs.declared.pos.Pos.{Pos}
use Rattle.rl_value.specs.declared.miss.Miss.{Miss}
use Rattle.rl_value.specs.declared.miss.Miss.TheVariants.{Absent, Differs, Exists, Taken}
use Rattle.rl_value.specs.declared.cause.HeadFault.{HeadFault}
use Rattle.rl_value.specs.declared.cause.HeadFault.TheVariants as heads
use Rattle.rl_value.specs.declared.cause.CutFault.{CutFault}
use Rattle.rl_value.specs.declared.cause.CutFault.TheVariants as cuts
use Rattle.rl_value.specs.declared.cause.VecFault.{VecFault}
use Rattle.rl_value.specs.declared.cause.VecFault.TheVariants as vecs
use Rattle.rl_value.specs.declared.cause.LawFault.{LawFault}
use Rattle.rl_value.specs.declared.cause.LawFault.TheVariants as laws
use Rattle.rl_value.specs.declared.cause.Cause.{Cause}
use Rattle.rl_value.specs.declared.cause.Cause.TheVariants as causes
use Rattle.rl_value.specs.declared.verdict.Stop.{Stop}
use Rattle.rl_value.specs.declared.verdict.Stop.TheVariants.{Drained, Gap, Malformed}
use Rattle.rl_value.specs.declared.verdict.Verdict.{Verdict}
use Rattle.rl_value.specs.declared.verdict.Verdict.TheVariants.{Stopped, Mismatch, RowLimit}
use Rattle.redo_vec.specs.declared.table.TableRow.{TableRow}
use Rattle.redo_spec.specs.Dictionary.{table_of}
use Rattle.redo_spec.specs.Skips.{full_name}
use Rattle.redo_spec.specs.Tables.{Table}
use Rattle.redo_spec.specs.Fold.{Folded}
use Rattle.rl_value.specs.Literal.{literal, row_text, key_text, xid_text}

-- a line, without its end
abbrev pub Line : Type 0
Line = List ℕ

-- words with one space between
abbrev pub words : List (List ℕ) → Line
words ws = join_with_byte 32 ws

-- the lines as they are written, each with its end
abbrev pub written : List Line → List ℕ
written lines = flat_map (λ line. line ++ 10 ∷ []) lines

abbrev pub table_name : List TableRow → ℕ → List ℕ
table_name tables id = option_map_or full_name (table_of tables id) []

abbrev pub column_name : List TableRow → ℕ → ℕ → List ℕ
column_name tables id column = option_map_or (λ t. option_map_or (λ c. c.name) (slice_get t.columns column) [])
    (table_of tables id) []

abbrev pub miss_text : List TableRow → ℕ → Miss → List (List ℕ)
miss_text tables table (Absent k) = codes "ABSENT" ∷ key_text k.values ∷ []
miss_text tables table (Differs column logged found) = codes "DIFFERS" ∷ column_name tables table column ∷ literal logged ∷
    literal found ∷ []
miss_text tables table (Exists k) = codes "EXISTS" ∷ key_text k.values ∷ []
miss_text tables table (Taken index owner) = codes "TAKEN" ∷ decimal index ∷ key_text owner.values ∷ []

abbrev pub head_word : HeadFault → List ℕ
head_word heads.Short = codes "SHORT"
head_word heads.Magic = codes "MAGIC"
head_word heads.Version = codes "VERSION"
head_word heads.Thread = codes "THREAD"
head_word heads.Sequence = codes "SEQUENCE"
head_word heads.Range = codes "RANGE"
head_word heads.Records = codes "RECORDS"
head_word heads.Reserved = codes "RESERVED"
head_word heads.Dbid = codes "DBID"

abbrev pub cut_word : CutFault → List ℕ
cut_word cuts.Length = codes "LENGTH"
cut_word cuts.Count = codes "COUNT"
cut_word cuts.Truncated = codes "TRUNCATED"
cut_word cuts.Trailing = codes "TRAILING"

abbrev pub vec_word : VecFault → List ℕ
vec_word vecs.Kind = codes "KIND"
vec_word vecs.Tag = codes "TAG"
vec_word vecs.Cells = codes "CELLS"
vec_word vecs.Utf8 = codes "UTF8"
vec_word vecs.Empty = codes "EMPTY"
vec_word vecs.Size = codes "SIZE"
vec_word vecs.End = codes "END"

abbrev pub law_text : List TableRow → LawFault → List (List ℕ)
law_text tables laws.Chain = codes "CHAIN" ∷ []
law_text tables laws.Scn = codes "SCN" ∷ []
law_text tables laws.Alone = codes "ALONE" ∷ []
law_text tables laws.Dictionary = codes "DICTIONARY" ∷ []
law_text tables laws.Twice = codes "TWICE" ∷ []
law_text tables laws.Names = codes "NAMES" ∷ []
law_text tables laws.Keys = codes "KEYS" ∷ []
law_text tables laws.Limit = codes "LIMIT" ∷ []
law_text tables laws.OpenTwice = codes "OPENTWICE" ∷ []
law_text tables laws.NotOpen = codes "NOTOPEN" ∷ []
law_text tables laws.NoTable = codes "NOTABLE" ∷ []
law_text tables laws.Columns = codes "COLUMNS" ∷ []
law_text tables laws.Types = codes "TYPES" ∷ []
law_text tables laws.Supplement = codes "SUPPLEMENT" ∷ []
law_text tables (laws.Lock key holder) = codes "LOCK" ∷ table_name tables key.table ∷ decimal key.index ∷ key_text key.values ∷
    xid_text holder ∷ []
law_text tables laws.Nothing = codes "NOTHING" ∷ []
law_text tables laws.OpenLimit = codes "OPENLIMIT" ∷ []

abbrev pub cause_text : List TableRow → Cause → List (List ℕ)
cause_text tables (causes.Head f) = codes "HEADER" ∷ head_word f ∷ []
cause_text tables (causes.Cut f) = cut_word f ∷ []
cause_text tables (causes.Vector f place) = vec_word f ∷ decimal place ∷ []
cause_text tables (causes.Law f) = law_text tables f

abbrev pub stop_text : List TableRow → Stop → List (List ℕ)
stop_text tables Drained = codes "DRAINED" ∷ []
stop_text tables (Gap low high) = codes "GAP" ∷ decimal low ∷ decimal high ∷ []
stop_text tables (Malformed rec cause) = codes "MALFORMED" ∷ decimal rec ∷ cause_text tables cause

abbrev pub pos_text : Pos → List ℕ
pos_text p = decimal p.rec ++ 46 ∷ decimal p.vec

abbrev pub verdict_text : List TableRow → Verdict → List (List ℕ)
verdict_text tables (Stopped stop) = stop_text tables stop
verdict_text tables (Mismatch scn pos table miss) = codes "MISMATCH" ∷ decimal scn ∷ pos_text pos ∷ table_name tables table ∷
    miss_text tables table miss
verdict_text tables (RowLimit scn) = codes "ROWLIMIT" ∷ decimal scn ∷ []

abbrev pub end_line : List TableRow → ℕ → ℕ → Verdict → Line
end_line tables scn n verdict = words (codes "END" ∷ decimal scn ∷ decimal n ∷ verdict_text tables verdict)

abbrev pub table_lines : Table → List Line
table_lines t =
    words (codes "TABLE" ∷ full_name t.row ∷ decimal (length t.rows) ∷ [])
    ∷ map (λ r. words (codes "ROW" ∷ row_text r.1 ∷ [])) t.rows

-- APPLIED_SCN, each table in order of id with its rows in order of key, and the END line
abbrev pub fold_lines : Folded → List Line
fold_lines f =
    words (codes "APPLIED_SCN" ∷ decimal f.scn ∷ [])
    ∷ flat_map table_lines f.tables
    ++ end_line f.names f.scn f.n f.verdict ∷ []
