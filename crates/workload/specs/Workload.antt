-- The generated workload: the logs of a seed and a count of transactions. The generator begins at the seed. The database is 1,
-- the sequences count from 1, and there is one record for each SCN, from 1 on. Record 1 is the dictionary, and then come the
-- records of the pairs. A log ends after every 1,000 pairs, with its next change one above its last SCN. This project's own.
use Rattle.std.specs.Prelude.{ℕ, zero, suc, ◌≡◌, ◌+◌, ◌*◌, ◌-◌, ◌/◌, List, [], ◌∷◌, ◌++◌, length, map, if◌then◌else◌, nat_lt, ⊤}
use Rattle.redo_vec.specs.declared.vector.Vector.{Vector}
use Rattle.redo_vec.specs.declared.redo_rec.RedoRec.{RedoRec}
use Rattle.redo_spec.specs.Log.{Log, log_bytes}
use Rattle.workload.specs.declared.left.Left.{Left}
use Rattle.workload.specs.Balances.{no_balances}
use Rattle.workload.specs.Accounts.{dictionary_vectors}
use Rattle.workload.specs.Pairs.{Made, pair_made}

-- ---- pairs

-- more that is made stands behind these records
abbrev pub made_before : List (List Vector) → Made → Made
made_before bodies m = record { bodies = bodies ++ m.bodies; left = m.left }

-- the records of so many pairs, from pair p on
abbrev pub pairs_made : ℕ → ℕ → ℕ → Left → Made
pairs_made txns zero p l = record { bodies = []; left = l }
pairs_made txns (suc count) p l = let m = pair_made txns p l in made_before m.bodies (pairs_made txns count (p + 1) m.left)

-- ---- a log

-- records of these vectors, whose SCNs rise by 1 from this one on
abbrev pub at_scns : ℕ → List (List Vector) → List RedoRec
at_scns scn [] = []
at_scns scn (body ∷ bodies) = record { scn = scn; vectors = body } ∷ at_scns (scn + 1) bodies

-- the log of this sequence and these records, the first of which has this SCN
abbrev pub log_of : ℕ → ℕ → List (List Vector) → Log
log_of seq first bodies =
    record {
      head = record { seq = seq; dbid = 1; first = first; next = first + length bodies; count = length bodies };
      records = at_scns first bodies;
    }

-- the pairs of a log
abbrev pub log_pairs : ℕ
log_pairs = 1000

abbrev pub pair_count : ℕ → ℕ
pair_count txns = (txns + 1) / 2

abbrev pub first_pair : ℕ → ℕ
first_pair seq = (seq - 1) * log_pairs + 1

-- the last pair of the log of this sequence, of so many transactions in all
abbrev pub last_pair : ℕ → ℕ → ℕ
last_pair txns seq = if nat_lt (seq * log_pairs) (pair_count txns) then seq * log_pairs else pair_count txns

-- the records of its pairs
abbrev pub log_made : ℕ → ℕ → Left → Made
log_made txns seq l = pairs_made txns (last_pair txns seq + 1 - first_pair seq) (first_pair seq) l

-- ---- all logs

-- so many logs from this sequence on, of which the first has these vectors in front and begins at this SCN
abbrev pub logs_made : ℕ → ℕ → ℕ → ℕ → List (List Vector) → Left → List Log
logs_made txns zero seq scn front l = []
logs_made txns (suc count) seq scn front l =
    let m = log_made txns seq l in
    let bodies = front ++ m.bodies in
    log_of seq scn bodies ∷ logs_made txns count (seq + 1) (scn + length bodies) [] m.left

-- how many logs so many transactions have
abbrev pub log_count : ℕ → ℕ
log_count txns = (pair_count txns + log_pairs - 1) / log_pairs

abbrev pub left_begun : ℕ → Left
left_begun seed = record { x = seed; odd = no_balances; even = no_balances }

-- the logs of a seed and so many transactions
unfoldable pub workload_logs : ℕ → ℕ → List Log
workload_logs seed txns = logs_made txns (log_count txns) 1 1 (dictionary_vectors ∷ []) (left_begun seed)

-- logs whose sequences count up from this one without a gap, of which the first begins at this SCN and each later one where the one
-- before it ends; there are as many SCNs as records
abbrev pub AreChained : ℕ → ℕ → List Log → Type 0
AreChained seq first [] = ⊤
AreChained seq first (l ∷ logs) =
    (l.head.seq ≡ seq) × (l.head.first ≡ first) × (l.head.next ≡ first + length l.records) × AreChained (seq + 1) l.head.next logs

-- the bytes of logs by their sequences, as an archive holds them
abbrev pub held_logs : List Log → List (ℕ × List ℕ)
held_logs logs = map (λ l. (l.head.seq, log_bytes l)) logs
