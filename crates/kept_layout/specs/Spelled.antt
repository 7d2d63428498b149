-- The values of pairs as they are put together: the same bytes as those of the layout (`standby_spec`, Layout), each with a name.
use Rattle.std.specs.Prelude.{ℕ, List, [], ◌∷◌, ◌++◌}
use Rattle.redo_vec.specs.Spelling.{be32, be64}
use Rattle.redo_spec.specs.Log.{header_bytes}
use Rattle.redo_spec.specs.Skips.{Rule}
use Rattle.log_registry.specs.declared.entry.LogEntry.{LogEntry}
use Rattle.standby_spec.specs.declared.mark.Mark.{Mark}
use Rattle.standby_spec.specs.Layout.{level_byte, rule_bytes}
use Rattle.kept_layout.specs.declared.identity.Identity.{Identity}

abbrev pub standby_value : Identity → List ℕ
standby_value i = be32 i.dbid ++ be32 i.first ++ be64 i.base ++ level_byte i.level ∷ []

abbrev pub log_value : LogEntry → List ℕ
log_value e = header_bytes e.head ++ be64 e.length

abbrev pub skip_value : ℕ → Rule → List ℕ
skip_value from rule = be64 from ++ rule_bytes rule

abbrev pub applied_value : ℕ → ℕ → List ℕ
applied_value n scn = be64 n ++ be64 scn

-- the version of a mark's layout, q, m and how many commits are before
abbrev pub mark_front : Mark → List ℕ
mark_front k = 1 ∷ be64 k.q ++ be64 k.m ++ be64 k.before

-- the place behind record q
abbrev pub mark_middle : Mark → List ℕ
mark_middle k = be32 k.place.seq ++ be64 k.place.at ++ be32 k.place.done

-- the three SCNs
abbrev pub mark_end : Mark → List ℕ
mark_end k = be64 k.q_scn ++ be64 k.m_scn ++ be64 k.commit_scn

abbrev pub mark_value : Mark → List ℕ
mark_value k = mark_front k ++ mark_middle k ++ mark_end k
