-- An archived log: its header, its records, and nothing else.
-- The format is this project's own, and each log has one spelling. Numbers are big-endian.
-- Header (40 bytes): SRL1, version 1 (2 bytes), thread 1 (2), dbid (4), sequence (4), first change (8), next change (8),
-- number of records (4), 0 (4).
use Rattle.std.specs.Prelude.{ℕ, ◌≡◌, ◌<◌, ◌^◌, List, ◌++◌, length, codes}
use Rattle.std.specs.List.{flat_map, AllByRecursion}
use Rattle.redo_vec.specs.declared.redo_rec.RedoRec.{RedoRec}
use Rattle.redo_vec.specs.Ranges.{IsRecord}
use Rattle.redo_vec.specs.Spelling.{be16, be32, be64, record_bytes}
use Rattle.redo_spec.specs.declared.header.Header.{Header}

pub record Log : Type 0 where
  pub head : Header
  pub records : List RedoRec

-- the 40 bytes of a header
abbrev pub header_bytes : Header → List ℕ
header_bytes h =
    codes "SRL1" ++ be16 1 ++ be16 1 ++ be32 h.dbid ++ be32 h.seq ++ be64 h.first ++ be64 h.next ++ be32 h.count ++ be32 0

-- the spelling of a log
abbrev pub log_bytes : Log → List ℕ
log_bytes l = header_bytes l.head ++ flat_map record_bytes l.records

-- a header that has a spelling: each number fits its field
pub record IsHeader (h : Header) : Type 0 where
  pub seq : h.seq < 2 ^ 32
  pub dbid : h.dbid < 2 ^ 32
  pub first : h.first < 2 ^ 64
  pub next : h.next < 2 ^ 64
  pub count : h.count < 2 ^ 32

-- a log that has a spelling: its header and each record has one, and the header counts the records
pub record IsLog (l : Log) : Type 0 where
  pub head : IsHeader l.head
  pub each : AllByRecursion IsRecord l.records
  pub counted : l.head.count ≡ length l.records

-- the bytes are the spelling of the log
pub record IsSpelled (l : Log) (bytes : List ℕ) : Type 0 where
  pub log : IsLog l
  pub spelled : bytes ≡ log_bytes l
