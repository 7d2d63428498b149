use Rattle.std.proofs.Common.{refl}
use Rattle.std.specs.Fmt.{digits}
use Rattle.std.specs.Str.{is_utf8, chars}
use Rattle.std.specs.Str.Lossy.{utf8_valid_len}
use Rattle.std.specs.Char.{encode_utf8}
use Rattle.redo_vec.specs.Reading.{xid_at, content_at, text_at, value_at, cells_from, cells_at, change_at, name_at, kind_at, flag_at, column_at, columns_from, count_at, rising_from, key_at, keys_from, keys_at, table_at, vector_at, vectors_from, record_at}
use Rattle.script_words.specs.Words.{words_of}
use Rattle.script_words.specs.Numbers.{number_in}
use Rattle.script_words.specs.Parts.{xid_of, xid_of_parts}
use Rattle.script.specs.Fields.{table_of, value_said, values_of, form_of}
use Rattle.script.specs.Events.{query_event, event_of, item_of, events_of}
use Rattle.script.specs.Settings.{eager_then, settings_of}
use Rattle.script.specs.Statements.{create_of, row_of, register_of, skip_of, guard_of, session_of, query_asked, query_during, query_with, query_of, put_of, apply_of, replay_of, view_statement_of, mark_of, group_of, check_of, user_statement, statement_with, statement_of_words, statement_of}
use Rattle.script.specs.Lines.{text_of, said_of_line, script_of}
use Rattle.script_spec.proofs.worked.a_gap_ends_a_run.Goals as goal

pub returns : goal.returns
unfolding digits utf8_valid_len is_utf8 chars encode_utf8 xid_at content_at text_at value_at cells_from cells_at change_at
    name_at kind_at flag_at column_at columns_from count_at rising_from key_at keys_from keys_at table_at vector_at
    vectors_from record_at words_of number_in xid_of xid_of_parts table_of value_said values_of form_of query_event event_of
    item_of events_of eager_then settings_of create_of row_of register_of skip_of guard_of session_of query_asked query_during
    query_with query_of put_of apply_of replay_of view_statement_of mark_of group_of check_of user_statement statement_with
    statement_of_words statement_of text_of said_of_line script_of
returns c = record { gap = refl }
