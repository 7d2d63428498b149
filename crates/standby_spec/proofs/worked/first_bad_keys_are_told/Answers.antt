use Rattle.std.proofs.Common.{refl}
use Rattle.std.specs.Fmt.{digits}
use Rattle.std.specs.Str.{is_utf8, chars}
use Rattle.std.specs.Str.Lossy.{utf8_valid_len}
use Rattle.std.specs.Char.{encode_utf8}
use Rattle.redo_vec.specs.Reading.{xid_at, content_at, text_at, value_at, cells_from, cells_at, change_at, name_at, kind_at, flag_at, column_at, columns_from, count_at, rising_from, key_at, keys_from, keys_at, table_at, vector_at}
use Rattle.standby_spec.specs.Layout.{pairs_of}
use Rattle.standby_spec.specs.Loading.{loaded}
use Rattle.standby_spec.proofs.worked.first_bad_keys_are_told.Goals as goal

pub returns-clause-no_standby : goal.returns-clause-no_standby
unfolding pairs_of loaded digits utf8_valid_len is_utf8 chars encode_utf8 xid_at content_at text_at value_at cells_from cells_at
    change_at name_at
    kind_at flag_at column_at columns_from count_at rising_from key_at keys_from keys_at table_at vector_at
returns-clause-no_standby c = refl

pub returns-clause-other_key : goal.returns-clause-other_key
unfolding pairs_of loaded digits utf8_valid_len is_utf8 chars encode_utf8 xid_at content_at text_at value_at cells_from cells_at
    change_at name_at
    kind_at flag_at column_at columns_from count_at rising_from key_at keys_from keys_at table_at vector_at
returns-clause-other_key c = refl

pub returns-clause-no_first_log : goal.returns-clause-no_first_log
unfolding pairs_of loaded digits utf8_valid_len is_utf8 chars encode_utf8 xid_at content_at text_at value_at cells_from cells_at
    change_at name_at
    kind_at flag_at column_at columns_from count_at rising_from key_at keys_from keys_at table_at vector_at
returns-clause-no_first_log c = refl

pub returns-clause-log_of_another : goal.returns-clause-log_of_another
unfolding pairs_of loaded digits utf8_valid_len is_utf8 chars encode_utf8 xid_at content_at text_at value_at cells_from cells_at
    change_at name_at
    kind_at flag_at column_at columns_from count_at rising_from key_at keys_from keys_at table_at vector_at
returns-clause-log_of_another c = refl

pub returns-clause-table_twice : goal.returns-clause-table_twice
unfolding pairs_of loaded digits utf8_valid_len is_utf8 chars encode_utf8 xid_at content_at text_at value_at cells_from cells_at
    change_at name_at
    kind_at flag_at column_at columns_from count_at rising_from key_at keys_from keys_at table_at vector_at
returns-clause-table_twice c = refl

pub returns-clause-rule_gap : goal.returns-clause-rule_gap
unfolding pairs_of loaded digits utf8_valid_len is_utf8 chars encode_utf8 xid_at content_at text_at value_at cells_from cells_at
    change_at name_at
    kind_at flag_at column_at columns_from count_at rising_from key_at keys_from keys_at table_at vector_at
returns-clause-rule_gap c = refl

pub returns-clause-rule_twice : goal.returns-clause-rule_twice
unfolding pairs_of loaded digits utf8_valid_len is_utf8 chars encode_utf8 xid_at content_at text_at value_at cells_from cells_at
    change_at name_at
    kind_at flag_at column_at columns_from count_at rising_from key_at keys_from keys_at table_at vector_at
returns-clause-rule_twice c = refl

pub returns-clause-two_owners : goal.returns-clause-two_owners
unfolding pairs_of loaded digits utf8_valid_len is_utf8 chars encode_utf8 xid_at content_at text_at value_at cells_from cells_at
    change_at name_at
    kind_at flag_at column_at columns_from count_at rising_from key_at keys_from keys_at table_at vector_at
returns-clause-two_owners c = refl

pub returns-clause-short_row : goal.returns-clause-short_row
unfolding pairs_of loaded digits utf8_valid_len is_utf8 chars encode_utf8 xid_at content_at text_at value_at cells_from cells_at
    change_at name_at
    kind_at flag_at column_at columns_from count_at rising_from key_at keys_from keys_at table_at vector_at
returns-clause-short_row c = refl

pub returns-clause-other_row : goal.returns-clause-other_row
unfolding pairs_of loaded digits utf8_valid_len is_utf8 chars encode_utf8 xid_at content_at text_at value_at cells_from cells_at
    change_at name_at
    kind_at flag_at column_at columns_from count_at rising_from key_at keys_from keys_at table_at vector_at
returns-clause-other_row c = refl

pub returns-clause-nothing_applied : goal.returns-clause-nothing_applied
unfolding pairs_of loaded digits utf8_valid_len is_utf8 chars encode_utf8 xid_at content_at text_at value_at cells_from cells_at
    change_at name_at
    kind_at flag_at column_at columns_from count_at rising_from key_at keys_from keys_at table_at vector_at
returns-clause-nothing_applied c = refl

pub returns-clause-far_count : goal.returns-clause-far_count
unfolding pairs_of loaded digits utf8_valid_len is_utf8 chars encode_utf8 xid_at content_at text_at value_at cells_from cells_at
    change_at name_at
    kind_at flag_at column_at columns_from count_at rising_from key_at keys_from keys_at table_at vector_at
returns-clause-far_count c = refl

pub returns-clause-fewer_commits : goal.returns-clause-fewer_commits
unfolding pairs_of loaded digits utf8_valid_len is_utf8 chars encode_utf8 xid_at content_at text_at value_at cells_from cells_at
    change_at name_at
    kind_at flag_at column_at columns_from count_at rising_from key_at keys_from keys_at table_at vector_at
returns-clause-fewer_commits c = refl

pub returns-clause-mark_in_no_log : goal.returns-clause-mark_in_no_log
unfolding pairs_of loaded digits utf8_valid_len is_utf8 chars encode_utf8 xid_at content_at text_at value_at cells_from cells_at
    change_at name_at
    kind_at flag_at column_at columns_from count_at rising_from key_at keys_from keys_at table_at vector_at
returns-clause-mark_in_no_log c = refl
