use Rattle.std.proofs.Common.{refl}
use Rattle.std.specs.Fmt.{digits}
use Rattle.std.specs.Str.{is_utf8, chars}
use Rattle.std.specs.Str.Lossy.{utf8_valid_len}
use Rattle.std.specs.Char.{encode_utf8}
use Rattle.redo_vec.specs.Reading.{xid_at, content_at, text_at, value_at, cells_from, cells_at, change_at, name_at, kind_at, flag_at, column_at, columns_from, count_at, rising_from, key_at, keys_from, keys_at, table_at, vector_at}
use Rattle.standby_spec.specs.Layout.{pairs_of}
use Rattle.standby_spec.specs.Loading.{loaded}
use Rattle.standby_spec.proofs.worked.states_are_loaded.Goals as goal

pub returns-clause-sample : goal.returns-clause-sample
unfolding pairs_of loaded digits utf8_valid_len is_utf8 chars encode_utf8 xid_at content_at text_at value_at cells_from cells_at
    change_at name_at
    kind_at flag_at column_at columns_from count_at rising_from key_at keys_from keys_at table_at vector_at
returns-clause-sample c = refl

pub returns-clause-fresh : goal.returns-clause-fresh
unfolding pairs_of loaded digits utf8_valid_len is_utf8 chars encode_utf8 xid_at content_at text_at value_at cells_from cells_at
    change_at name_at
    kind_at flag_at column_at columns_from count_at rising_from key_at keys_from keys_at table_at vector_at
returns-clause-fresh c = refl

pub returns-clause-created : goal.returns-clause-created
unfolding pairs_of loaded digits utf8_valid_len is_utf8 chars encode_utf8 xid_at content_at text_at value_at cells_from cells_at
    change_at name_at
    kind_at flag_at column_at columns_from count_at rising_from key_at keys_from keys_at table_at vector_at
returns-clause-created c = refl

pub returns-clause-other_mark : goal.returns-clause-other_mark
unfolding pairs_of loaded digits utf8_valid_len is_utf8 chars encode_utf8 xid_at content_at text_at value_at cells_from cells_at
    change_at name_at
    kind_at flag_at column_at columns_from count_at rising_from key_at keys_from keys_at table_at vector_at
returns-clause-other_mark c = refl

pub returns-clause-other_area : goal.returns-clause-other_area
unfolding pairs_of loaded digits utf8_valid_len is_utf8 chars encode_utf8 xid_at content_at text_at value_at cells_from cells_at
    change_at name_at
    kind_at flag_at column_at columns_from count_at rising_from key_at keys_from keys_at table_at vector_at
returns-clause-other_area c = refl
