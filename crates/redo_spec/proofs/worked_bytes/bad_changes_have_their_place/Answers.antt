use Rattle.std.proofs.Common.{refl}
use Rattle.std.specs.Str.{is_utf8, chars}
use Rattle.std.specs.Str.Lossy.{utf8_valid_len}
use Rattle.std.specs.Char.{encode_utf8}
use Rattle.redo_vec.specs.Reading.{xid_at, content_at, text_at, value_at, cells_from, cells_at, change_at, name_at, kind_at, flag_at, column_at, columns_from, count_at, rising_from, key_at, keys_from, keys_at, table_at, vector_at, vectors_from, record_at}
use Rattle.redo_spec.proofs.worked_bytes.bad_changes_have_their_place.Goals as goal

pub returns-clause-kind_0 : goal.returns-clause-kind_0
unfolding utf8_valid_len is_utf8 chars encode_utf8 xid_at content_at text_at value_at cells_from cells_at change_at name_at
    kind_at flag_at column_at columns_from count_at rising_from key_at keys_from keys_at table_at vector_at vectors_from record_at
returns-clause-kind_0 c = refl

pub returns-clause-kind_10 : goal.returns-clause-kind_10
unfolding utf8_valid_len is_utf8 chars encode_utf8 xid_at content_at text_at value_at cells_from cells_at change_at name_at
    kind_at flag_at column_at columns_from count_at rising_from key_at keys_from keys_at table_at vector_at vectors_from record_at
returns-clause-kind_10 c = refl

pub returns-clause-tag : goal.returns-clause-tag
unfolding utf8_valid_len is_utf8 chars encode_utf8 xid_at content_at text_at value_at cells_from cells_at change_at name_at
    kind_at flag_at column_at columns_from count_at rising_from key_at keys_from keys_at table_at vector_at vectors_from record_at
returns-clause-tag c = refl

pub returns-clause-count : goal.returns-clause-count
unfolding utf8_valid_len is_utf8 chars encode_utf8 xid_at content_at text_at value_at cells_from cells_at change_at name_at
    kind_at flag_at column_at columns_from count_at rising_from key_at keys_from keys_at table_at vector_at vectors_from record_at
returns-clause-count c = refl

pub returns-clause-greatest_count : goal.returns-clause-greatest_count
unfolding utf8_valid_len is_utf8 chars encode_utf8 xid_at content_at text_at value_at cells_from cells_at change_at name_at
    kind_at flag_at column_at columns_from count_at rising_from key_at keys_from keys_at table_at vector_at vectors_from record_at
returns-clause-greatest_count c = refl

pub returns-clause-column : goal.returns-clause-column
unfolding utf8_valid_len is_utf8 chars encode_utf8 xid_at content_at text_at value_at cells_from cells_at change_at name_at
    kind_at flag_at column_at columns_from count_at rising_from key_at keys_from keys_at table_at vector_at vectors_from record_at
returns-clause-column c = refl

pub returns-clause-greatest_column : goal.returns-clause-greatest_column
unfolding utf8_valid_len is_utf8 chars encode_utf8 xid_at content_at text_at value_at cells_from cells_at change_at name_at
    kind_at flag_at column_at columns_from count_at rising_from key_at keys_from keys_at table_at vector_at vectors_from record_at
returns-clause-greatest_column c = refl

pub returns-clause-rising : goal.returns-clause-rising
unfolding utf8_valid_len is_utf8 chars encode_utf8 xid_at content_at text_at value_at cells_from cells_at change_at name_at
    kind_at flag_at column_at columns_from count_at rising_from key_at keys_from keys_at table_at vector_at vectors_from record_at
returns-clause-rising c = refl

pub returns-clause-empty : goal.returns-clause-empty
unfolding utf8_valid_len is_utf8 chars encode_utf8 xid_at content_at text_at value_at cells_from cells_at change_at name_at
    kind_at flag_at column_at columns_from count_at rising_from key_at keys_from keys_at table_at vector_at vectors_from record_at
returns-clause-empty c = refl

pub returns-clause-size : goal.returns-clause-size
unfolding utf8_valid_len is_utf8 chars encode_utf8 xid_at content_at text_at value_at cells_from cells_at change_at name_at
    kind_at flag_at column_at columns_from count_at rising_from key_at keys_from keys_at table_at vector_at vectors_from record_at
returns-clause-size c = refl

pub returns-clause-utf8 : goal.returns-clause-utf8
unfolding utf8_valid_len is_utf8 chars encode_utf8 xid_at content_at text_at value_at cells_from cells_at change_at name_at
    kind_at flag_at column_at columns_from count_at rising_from key_at keys_from keys_at table_at vector_at vectors_from record_at
returns-clause-utf8 c = refl

pub returns-clause-end_before_utf8 : goal.returns-clause-end_before_utf8
unfolding utf8_valid_len is_utf8 chars encode_utf8 xid_at content_at text_at value_at cells_from cells_at change_at name_at
    kind_at flag_at column_at columns_from count_at rising_from key_at keys_from keys_at table_at vector_at vectors_from record_at
returns-clause-end_before_utf8 c = refl

pub returns-clause-half_a_length : goal.returns-clause-half_a_length
unfolding utf8_valid_len is_utf8 chars encode_utf8 xid_at content_at text_at value_at cells_from cells_at change_at name_at
    kind_at flag_at column_at columns_from count_at rising_from key_at keys_from keys_at table_at vector_at vectors_from record_at
returns-clause-half_a_length c = refl

pub returns-clause-bytes_left : goal.returns-clause-bytes_left
unfolding utf8_valid_len is_utf8 chars encode_utf8 xid_at content_at text_at value_at cells_from cells_at change_at name_at
    kind_at flag_at column_at columns_from count_at rising_from key_at keys_from keys_at table_at vector_at vectors_from record_at
returns-clause-bytes_left c = refl
