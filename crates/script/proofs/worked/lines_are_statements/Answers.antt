use Rattle.std.proofs.Common.{refl}
use Rattle.std.specs.Fmt.{digits}
use Rattle.std.specs.Str.{is_utf8, chars}
use Rattle.std.specs.Str.Lossy.{utf8_valid_len}
use Rattle.std.specs.Char.{encode_utf8}
use Rattle.script_words.specs.Words.{words_of}
use Rattle.script_words.specs.Numbers.{number_in}
use Rattle.script_words.specs.Parts.{xid_of, xid_of_parts}
use Rattle.script.specs.Fields.{table_of, value_said, values_of, form_of}
use Rattle.script.specs.Events.{query_event, event_of, item_of, events_of}
use Rattle.script.specs.Settings.{eager_then, settings_of}
use Rattle.script.specs.Statements.{create_of, row_of, register_of, skip_of, guard_of, session_of, query_asked, query_during, query_with, query_of, put_of, apply_of, replay_of, view_statement_of, mark_of, group_of, check_of, user_statement, statement_with, statement_of_words, statement_of}
use Rattle.script.proofs.worked.lines_are_statements.Goals as goal

pub returns : goal.returns
unfolding digits is_utf8 chars utf8_valid_len encode_utf8 words_of number_in xid_of xid_of_parts table_of value_said
    values_of form_of query_event event_of item_of events_of eager_then settings_of create_of row_of register_of skip_of
    guard_of session_of query_asked query_during query_with query_of put_of apply_of replay_of view_statement_of mark_of
    group_of check_of user_statement statement_with statement_of_words statement_of
returns c = record {
  create = refl;
  row = refl;
  register = refl;
  skip_table = refl;
  skip_transaction = refl;
  guard = refl;
  session = refl;
  query = refl;
  during = refl;
  put = refl;
  apply = refl;
  view = refl;
  mark = refl;
  group = refl;
  check = refl;
}
