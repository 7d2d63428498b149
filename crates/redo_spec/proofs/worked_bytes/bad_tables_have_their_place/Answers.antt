use Rattle.std.proofs.Common.{refl}
use Rattle.std.specs.Str.{is_utf8, chars}
use Rattle.std.specs.Str.Lossy.{utf8_valid_len}
use Rattle.std.specs.Char.{encode_utf8}
use Rattle.redo_vec.specs.Reading.{xid_at, content_at, text_at, value_at, cells_from, cells_at, change_at, name_at, kind_at, flag_at, column_at, columns_from, count_at, rising_from, key_at, keys_from, keys_at, table_at, vector_at, vectors_from, record_at}
use Rattle.redo_spec.proofs.worked_bytes.bad_tables_have_their_place.Goals as goal

pub returns-clause-no_name : goal.returns-clause-no_name
unfolding utf8_valid_len is_utf8 chars encode_utf8 xid_at content_at text_at value_at cells_from cells_at change_at name_at
    kind_at flag_at column_at columns_from count_at rising_from key_at keys_from keys_at table_at vector_at vectors_from record_at
returns-clause-no_name c = refl

pub returns-clause-long_name : goal.returns-clause-long_name
unfolding utf8_valid_len is_utf8 chars encode_utf8 xid_at content_at text_at value_at cells_from cells_at change_at name_at
    kind_at flag_at column_at columns_from count_at rising_from key_at keys_from keys_at table_at vector_at vectors_from record_at
returns-clause-long_name c = refl

pub returns-clause-no_column : goal.returns-clause-no_column
unfolding utf8_valid_len is_utf8 chars encode_utf8 xid_at content_at text_at value_at cells_from cells_at change_at name_at
    kind_at flag_at column_at columns_from count_at rising_from key_at keys_from keys_at table_at vector_at vectors_from record_at
returns-clause-no_column c = refl

pub returns-clause-columns : goal.returns-clause-columns
unfolding utf8_valid_len is_utf8 chars encode_utf8 xid_at content_at text_at value_at cells_from cells_at change_at name_at
    kind_at flag_at column_at columns_from count_at rising_from key_at keys_from keys_at table_at vector_at vectors_from record_at
returns-clause-columns c = refl

pub returns-clause-kind : goal.returns-clause-kind
unfolding utf8_valid_len is_utf8 chars encode_utf8 xid_at content_at text_at value_at cells_from cells_at change_at name_at
    kind_at flag_at column_at columns_from count_at rising_from key_at keys_from keys_at table_at vector_at vectors_from record_at
returns-clause-kind c = refl

pub returns-clause-sized_number : goal.returns-clause-sized_number
unfolding utf8_valid_len is_utf8 chars encode_utf8 xid_at content_at text_at value_at cells_from cells_at change_at name_at
    kind_at flag_at column_at columns_from count_at rising_from key_at keys_from keys_at table_at vector_at vectors_from record_at
returns-clause-sized_number c = refl

pub returns-clause-text_of_0 : goal.returns-clause-text_of_0
unfolding utf8_valid_len is_utf8 chars encode_utf8 xid_at content_at text_at value_at cells_from cells_at change_at name_at
    kind_at flag_at column_at columns_from count_at rising_from key_at keys_from keys_at table_at vector_at vectors_from record_at
returns-clause-text_of_0 c = refl

pub returns-clause-text_of_501 : goal.returns-clause-text_of_501
unfolding utf8_valid_len is_utf8 chars encode_utf8 xid_at content_at text_at value_at cells_from cells_at change_at name_at
    kind_at flag_at column_at columns_from count_at rising_from key_at keys_from keys_at table_at vector_at vectors_from record_at
returns-clause-text_of_501 c = refl

pub returns-clause-nullable : goal.returns-clause-nullable
unfolding utf8_valid_len is_utf8 chars encode_utf8 xid_at content_at text_at value_at cells_from cells_at change_at name_at
    kind_at flag_at column_at columns_from count_at rising_from key_at keys_from keys_at table_at vector_at vectors_from record_at
returns-clause-nullable c = refl

pub returns-clause-no_key : goal.returns-clause-no_key
unfolding utf8_valid_len is_utf8 chars encode_utf8 xid_at content_at text_at value_at cells_from cells_at change_at name_at
    kind_at flag_at column_at columns_from count_at rising_from key_at keys_from keys_at table_at vector_at vectors_from record_at
returns-clause-no_key c = refl

pub returns-clause-uniques : goal.returns-clause-uniques
unfolding utf8_valid_len is_utf8 chars encode_utf8 xid_at content_at text_at value_at cells_from cells_at change_at name_at
    kind_at flag_at column_at columns_from count_at rising_from key_at keys_from keys_at table_at vector_at vectors_from record_at
returns-clause-uniques c = refl

pub returns-clause-whole : goal.returns-clause-whole
unfolding utf8_valid_len is_utf8 chars encode_utf8 xid_at content_at text_at value_at cells_from cells_at change_at name_at
    kind_at flag_at column_at columns_from count_at rising_from key_at keys_from keys_at table_at vector_at vectors_from record_at
returns-clause-whole c = refl
