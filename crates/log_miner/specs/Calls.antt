-- What the calls of a miner say: what a piece gives, and what is left of the miner behind it.
-- A piece that does not decode is refused for the decoder's fault, and else by the law; want of memory judges nothing.
use Rattle.std.specs.Prelude.{⊤, Result, Ok, Err, ◌≡◌, ℕ, ◌+◌, List, Option, Some, None}
use Rattle.std.specs.Option.{option_map, option_map_or}
use Rattle.rl_value.specs.declared.cause.Cause.TheVariants as causes
use Rattle.rl_value.specs.declared.cause.LawFault.{LawFault}
use Rattle.redo_spec.specs.declared.header.Header.{Header}
use Rattle.redo_spec.specs.Dictionary.{Dictionary}
use Rattle.redo_spec.specs.History.{Entry}
use Rattle.redo_spec.specs.Standing.{Standing}
use Rattle.redo_spec.specs.Law.{record_fault, dictionary_left}
use Rattle.preparers.specs.declared.piece.Piece.{Piece}
use Rattle.preparers.specs.declared.piece.Made.{Made}
use Rattle.preparers.specs.declared.piece.Made.TheVariants.{Rec, Bad}
use Rattle.log_miner.specs.declared.mined.Mined.{Mined}
use Rattle.log_miner.specs.declared.mined.Mined.TheVariants as mined
use Rattle.log_miner.specs.Mining.{Mining, standing_or, mined_from, given_from, refused_standing}

-- how many records the miner has taken
abbrev pub records_taken : Mining → ℕ
records_taken m = option_map_or (λ s. s.rec) m.standing 0

-- the piece is that of the next record
abbrev pub IsNext : Piece → Mining → Type 0
IsNext piece m = piece.rec ≡ records_taken m + 1

-- the fact holds where lines were given
abbrev pub OnLines : {E : Type 0} → Result Mined E → Type 0 → Type 0
OnLines (Ok (mined.Lines lines)) P = P
OnLines (Ok (mined.Malformed rec cause)) P = ⊤
OnLines (Err e) P = ⊤

-- how many commits there were, and the SCN of the last one
abbrev pub last_commit : Mining → Option (ℕ × ℕ)
last_commit m = option_map (λ s. (m.commits, s.commit_scn)) m.standing

-- ---- what a piece gives

-- these lines, or the first reason against the record of this number
abbrev pub given_unless : Option LawFault → ℕ → List (List ℕ) → Mined
given_unless (Some fault) rec lines = mined.Malformed rec (causes.Law fault)
given_unless None rec lines = mined.Lines lines

-- where the piece finds this standing
abbrev pub given_by_made : Standing → Header → ℕ → Made → Mining → Mined
given_by_made s h rec (Rec r) m = given_unless (record_fault s (h, r)) rec (given_from s (h, r) m)
given_by_made s h rec (Bad fault place) m = mined.Malformed rec (causes.Vector fault place)

-- what a piece gives
abbrev pub piece_given : Piece → Mining → Mined
piece_given piece m = given_by_made (standing_or m.standing piece.head) piece.head piece.rec piece.made m

-- ---- what is left behind a piece

-- Behind a refusal: this dictionary, and the last commit of the standing that the piece found.
abbrev pub refused_from : Standing → Dictionary → Mining → Mining
refused_from s d m = record m { standing = Some (refused_standing d s.commit_scn) }

abbrev pub left_unless : Option LawFault → Standing → Entry → Mining → Mining
left_unless (Some fault) s e m = refused_from s (dictionary_left s e) m
left_unless None s e m = mined_from s e m

abbrev pub left_by_made : Standing → Header → Made → Mining → Mining
left_by_made s h (Rec r) m = left_unless (record_fault s (h, r)) s (h, r) m
left_by_made s h (Bad fault place) m = refused_from s s.dictionary m

-- the miner behind a piece
abbrev pub piece_left : Piece → Mining → Mining
piece_left piece m = left_by_made (standing_or m.standing piece.head) piece.head piece.made m
