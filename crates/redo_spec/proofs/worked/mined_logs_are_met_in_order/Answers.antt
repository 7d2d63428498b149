use Rattle.std.proofs.Common.{refl}
use Rattle.std.specs.Fmt.{digits}
use Rattle.std.specs.Str.{is_utf8, chars}
use Rattle.std.specs.Str.Lossy.{utf8_valid_len}
use Rattle.std.specs.Char.{encode_utf8}
use Rattle.redo_vec.specs.Reading.{xid_at, content_at, text_at, value_at, cells_from, cells_at, change_at, name_at, kind_at, flag_at, column_at, columns_from, count_at, rising_from, key_at, keys_from, keys_at, table_at, vector_at, vectors_from, record_at}
use Rattle.redo_spec.proofs.worked.mined_logs_are_met_in_order.Goals as goal

pub returns-clause-drained : goal.returns-clause-drained
unfolding digits utf8_valid_len is_utf8 chars encode_utf8 xid_at content_at text_at value_at cells_from cells_at change_at name_at
    kind_at flag_at column_at columns_from count_at rising_from key_at keys_from keys_at table_at vector_at vectors_from record_at
returns-clause-drained c = refl

pub returns-clause-other_database : goal.returns-clause-other_database
unfolding digits utf8_valid_len is_utf8 chars encode_utf8 xid_at content_at text_at value_at cells_from cells_at change_at name_at
    kind_at flag_at column_at columns_from count_at rising_from key_at keys_from keys_at table_at vector_at vectors_from record_at
returns-clause-other_database c = refl

pub returns-clause-absent : goal.returns-clause-absent
unfolding digits utf8_valid_len is_utf8 chars encode_utf8 xid_at content_at text_at value_at cells_from cells_at change_at name_at
    kind_at flag_at column_at columns_from count_at rising_from key_at keys_from keys_at table_at vector_at vectors_from record_at
returns-clause-absent c = refl
