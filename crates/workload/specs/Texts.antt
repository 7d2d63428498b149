-- A workload as it is written: records are spelled as they are drawn, and a log is put into the archive when it is whole. That
-- these are the logs of Workload.antt is shown in proofs/.
use Rattle.std.specs.Prelude.{ℕ, zero, suc, ◌+◌, List, [], ◌∷◌, ◌++◌, length}
use Rattle.std.specs.List.{flat_map}
use Rattle.rl_mem.specs.Devices.{with_one}
use Rattle.redo_vec.specs.declared.vector.Vector.{Vector}
use Rattle.redo_vec.specs.Spelling.{vector, record_bytes}
use Rattle.redo_spec.specs.declared.header.Header.{Header}
use Rattle.redo_spec.specs.Log.{header_bytes}
use Rattle.workload.specs.declared.text.Text.{Text}
use Rattle.workload.specs.declared.written.Written.{Written}
use Rattle.workload.specs.declared.written.Put.{Put}
use Rattle.workload.specs.declared.logs.Logs.{Logs}
use Rattle.workload.specs.Accounts.{dictionary_vectors}
use Rattle.workload.specs.Pairs.{Bodies, Made, changes_drawn}
use Rattle.workload.specs.Workload.{log_made, left_begun}

-- ---- the text of a log: the SCN of its first record, how many records there are so far, and their spelling

-- the bytes of a record of these vectors
abbrev pub record_size : List Vector → ℕ
record_size vectors = 14 + length (flat_map vector vectors)

-- before the first record, which gets this SCN
abbrev pub text_at : ℕ → Text
text_at first = record { first = first; count = 0; bytes = [] }

-- a record of these vectors more
unfoldable pub text_with : List Vector → Text → Text
text_with body t =
    record {
      first = t.first;
      count = t.count + 1;
      bytes = t.bytes ++ record_bytes (record { scn = t.first + t.count; vectors = body });
    }

-- records of these vectors more, in order
abbrev pub text_with_all : List (List Vector) → Text → Text
text_with_all [] t = t
text_with_all (body ∷ bodies) t = text_with_all bodies (text_with body t)

-- ---- a pair

-- a record of changes is drawn and written
abbrev pub with_changes : Written → Written
with_changes w =
    let d = changes_drawn w.x w.pair in
    record { text = text_with d.vectors w.text; x = d.x; pair = d.pair }

-- records of changes that are drawn are written
abbrev pub put_all : Bodies → Text → Written
put_all b t = record { text = text_with_all b.bodies t; x = b.x; pair = b.pair }

-- records that are made are written
abbrev pub put_made : Made → Text → Put
put_made m t = record { text = text_with_all m.bodies t; left = m.left }

-- ---- logs

-- the bytes of a log of this header and these spelled records
unfoldable pub spelled_log : Header → List ℕ → List ℕ
spelled_log head records = header_bytes head ++ records

abbrev pub head_of : ℕ → Text → Header
head_of seq t = record { seq = seq; dbid = 1; first = t.first; next = t.first + t.count; count = t.count }

-- a log is whole: it is put into the archive, and the next one begins
abbrev pub after_log : ℕ → List (ℕ × List ℕ) → Put → Logs
after_log seq archive p =
    record {
      archive = with_one seq (spelled_log (head_of seq p.text) p.text.bytes) archive;
      text = text_at (p.text.first + p.text.count);
      left = p.left;
    }

-- the log of this sequence is written
unfoldable pub with_log : ℕ → ℕ → Logs → Logs
with_log txns seq s = after_log seq s.archive (put_made (log_made txns seq s.left) s.text)

-- so many logs from this sequence on are written
abbrev pub logs_put : ℕ → ℕ → ℕ → Logs → Logs
logs_put txns zero seq s = s
logs_put txns (suc count) seq s = logs_put txns count (seq + 1) (with_log txns seq s)

-- before the first log, which begins with the dictionary
abbrev pub logs_begun : ℕ → Logs
logs_begun seed = record { archive = []; text = text_with dictionary_vectors (text_at 1); left = left_begun seed }
