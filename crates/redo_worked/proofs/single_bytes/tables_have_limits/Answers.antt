use Rattle.std.proofs.Common.{refl}
use Rattle.std.specs.Str.{is_utf8, chars}
use Rattle.std.specs.Str.Lossy.{utf8_valid_len}
use Rattle.std.specs.Char.{encode_utf8}
use Rattle.redo_vec.specs.Reading.{xid_at, content_at, text_at, value_at, cells_from, cells_at, change_at, name_at, kind_at, flag_at, column_at, columns_from, count_at, rising_from, key_at, keys_from, keys_at, table_at, vector_at, vectors_from, record_at}
use Rattle.redo_worked.proofs.single_bytes.tables_have_limits.Goals as goal

pub returns-clause-kind_0 : goal.returns-clause-kind_0
unfolding utf8_valid_len is_utf8 chars encode_utf8 xid_at content_at text_at value_at cells_from cells_at change_at name_at
    kind_at flag_at column_at columns_from count_at rising_from key_at keys_from keys_at table_at vector_at vectors_from record_at
returns-clause-kind_0 c = refl

pub returns-clause-raw_of_0 : goal.returns-clause-raw_of_0
unfolding utf8_valid_len is_utf8 chars encode_utf8 xid_at content_at text_at value_at cells_from cells_at change_at name_at
    kind_at flag_at column_at columns_from count_at rising_from key_at keys_from keys_at table_at vector_at vectors_from record_at
returns-clause-raw_of_0 c = refl

pub returns-clause-key_of_33 : goal.returns-clause-key_of_33
unfolding utf8_valid_len is_utf8 chars encode_utf8 xid_at content_at text_at value_at cells_from cells_at change_at name_at
    kind_at flag_at column_at columns_from count_at rising_from key_at keys_from keys_at table_at vector_at vectors_from record_at
returns-clause-key_of_33 c = refl

pub returns-clause-key_column_32 : goal.returns-clause-key_column_32
unfolding utf8_valid_len is_utf8 chars encode_utf8 xid_at content_at text_at value_at cells_from cells_at change_at name_at
    kind_at flag_at column_at columns_from count_at rising_from key_at keys_from keys_at table_at vector_at vectors_from record_at
returns-clause-key_column_32 c = refl

pub returns-clause-key_rising : goal.returns-clause-key_rising
unfolding utf8_valid_len is_utf8 chars encode_utf8 xid_at content_at text_at value_at cells_from cells_at change_at name_at
    kind_at flag_at column_at columns_from count_at rising_from key_at keys_from keys_at table_at vector_at vectors_from record_at
returns-clause-key_rising c = refl

pub returns-clause-greatest_uniques : goal.returns-clause-greatest_uniques
unfolding utf8_valid_len is_utf8 chars encode_utf8 xid_at content_at text_at value_at cells_from cells_at change_at name_at
    kind_at flag_at column_at columns_from count_at rising_from key_at keys_from keys_at table_at vector_at vectors_from record_at
returns-clause-greatest_uniques c = refl
