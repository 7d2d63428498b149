use Rattle.std.proofs.Common.{refl}
use Rattle.std.specs.Fmt.{digits}
use Rattle.std.specs.Str.{is_utf8, chars}
use Rattle.std.specs.Str.Lossy.{utf8_valid_len}
use Rattle.std.specs.Char.{encode_utf8}
use Rattle.redo_vec.specs.Reading.{xid_at, content_at, text_at, value_at, cells_from, cells_at, change_at, name_at, kind_at, flag_at, column_at, columns_from, count_at, rising_from, key_at, keys_from, keys_at, table_at, vector_at, vectors_from, record_at}
use Rattle.log_miner.proofs.worked.logs_are_mined_from_their_bytes.Goals as goal

pub returns-clause-one : goal.returns-clause-one
unfolding digits utf8_valid_len is_utf8 chars encode_utf8 xid_at content_at text_at value_at cells_from cells_at change_at
    name_at kind_at flag_at column_at columns_from count_at rising_from key_at keys_from keys_at table_at vector_at vectors_from
    record_at
returns-clause-one c = refl

pub returns-clause-sequence : goal.returns-clause-sequence
unfolding digits utf8_valid_len is_utf8 chars encode_utf8 xid_at content_at text_at value_at cells_from cells_at change_at
    name_at kind_at flag_at column_at columns_from count_at rising_from key_at keys_from keys_at table_at vector_at vectors_from
    record_at
returns-clause-sequence c = refl

pub returns-clause-absent : goal.returns-clause-absent
unfolding digits utf8_valid_len is_utf8 chars encode_utf8 xid_at content_at text_at value_at cells_from cells_at change_at
    name_at kind_at flag_at column_at columns_from count_at rising_from key_at keys_from keys_at table_at vector_at vectors_from
    record_at
returns-clause-absent c = refl

pub returns-clause-refused : goal.returns-clause-refused
unfolding digits utf8_valid_len is_utf8 chars encode_utf8 xid_at content_at text_at value_at cells_from cells_at change_at
    name_at kind_at flag_at column_at columns_from count_at rising_from key_at keys_from keys_at table_at vector_at vectors_from
    record_at
returns-clause-refused c = refl
