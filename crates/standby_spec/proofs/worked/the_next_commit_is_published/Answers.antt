use Rattle.std.proofs.Common.{rules, refl}
use Rattle.std.specs.Fmt.{digits}
use Rattle.std.specs.Str.{is_utf8, chars}
use Rattle.std.specs.Str.Lossy.{utf8_valid_len}
use Rattle.std.specs.Char.{encode_utf8}
use Rattle.redo_vec.specs.Reading.{xid_at, content_at, text_at, value_at, cells_from, cells_at, change_at, name_at, kind_at, flag_at, column_at, columns_from, count_at, rising_from, key_at, keys_from, keys_at, table_at, vector_at, vectors_from, record_at}
use Rattle.std.proofs.Common.{◌≤◌, List, [], ◌∷◌, arith, codes}
use Rattle.rl_value.specs.declared.value.Value.TheVariants.{Null, Text}
use Rattle.redo_spec.specs.History.{commit_count}
use Rattle.row_apply.specs.declared.writes.Write.{Write}
use Rattle.standby_spec.specs.KeptState.{base_of}
use Rattle.standby_spec.specs.StandbyRedo.{commits_of}
use Rattle.standby_spec.specs.NextCommit.{IsNextCommit}
use Rattle.standby_spec.specs.Fits.{FitsStill}
use Rattle.standby_spec.specs.Worked.{put_emp, logs_of, two_changes, standby_before}
use Rattle.standby_spec.proofs.PublishLaws.{next-fits}
use Rattle.standby_spec.proofs.worked.the_next_commit_is_published.Goals as goal

abbrev named : List Write
named = put_emp 1 (Text (codes "B")) Null ∷ []

pub returns-clause-next : goal.returns-clause-next
unfolding digits utf8_valid_len is_utf8 chars encode_utf8 xid_at content_at text_at value_at cells_from cells_at change_at name_at
    kind_at flag_at column_at columns_from count_at rising_from key_at keys_from keys_at table_at vector_at vectors_from record_at
returns-clause-next c = search rules

pub returns-clause-after : goal.returns-clause-after
unfolding digits utf8_valid_len is_utf8 chars encode_utf8 xid_at content_at text_at value_at cells_from cells_at change_at name_at
    kind_at flag_at column_at columns_from count_at rising_from key_at keys_from keys_at table_at vector_at vectors_from record_at
returns-clause-after c =
    let first : FitsStill (base_of standby_before) (logs_of two_changes) standby_before = search rules in
    let next : IsNextCommit (base_of standby_before) [] (commits_of (logs_of two_changes) standby_before) 0 103 named =
    search rules in
    let there : 1 ≤ commit_count (commits_of (logs_of two_changes) standby_before) = omega arith in
    next-fits (base_of standby_before) (logs_of two_changes) 0 standby_before 103 named first next there refl refl
