use Rattle.std.proofs.Common.{rules, refl, arith, [], ◌∷◌}
use Rattle.std.specs.Fmt.{digits}
use Rattle.std.specs.Str.{is_utf8, chars}
use Rattle.std.specs.Str.Lossy.{utf8_valid_len}
use Rattle.std.specs.Char.{encode_utf8}
use Rattle.redo_vec.specs.Reading.{xid_at, content_at, text_at, value_at, cells_from, cells_at, change_at, name_at, kind_at, flag_at, column_at, columns_from, count_at, rising_from, key_at, keys_from, keys_at, table_at, vector_at, vectors_from, record_at}
use Rattle.redo_spec.specs.Worked.{emp}
use Rattle.row_apply.proofs.Sound.{empty-sound}
use Rattle.standby_spec.specs.KeptState.{base_of}
use Rattle.standby_spec.specs.Fits.{FitsStill}
use Rattle.standby_spec.specs.HasLayout.{HasLayout}
use Rattle.standby_spec.specs.Worked.{logs_of, two_changes, standby_before}
use Rattle.standby_spec.proofs.worked.the_standby_belongs_to_its_log.Goals as goal

layout : HasLayout standby_before
unfolding digits utf8_valid_len is_utf8 chars encode_utf8 xid_at content_at text_at value_at cells_from cells_at change_at name_at
    kind_at flag_at column_at columns_from count_at rising_from key_at keys_from keys_at table_at vector_at vectors_from record_at
layout = record {
  dbid = omega arith;
  first = omega arith;
  base = omega arith;
  logs = search rules;
  rising = search rules;
  beginning = refl;
  few_logs = omega arith;
  tables = search rules;
  accepted = search rules;
  ids = refl;
  rules = tt;
  differ = refl;
  values = search rules;
  sound = empty-sound (emp ∷ []);
  few_rows = omega arith;
  n = omega arith;
  scn = omega arith;
  mark = tt;
  placed = tt;
}

fits : FitsStill (base_of standby_before) (logs_of two_changes) standby_before
unfolding digits utf8_valid_len is_utf8 chars encode_utf8 xid_at content_at text_at value_at cells_from cells_at change_at name_at
    kind_at flag_at column_at columns_from count_at rising_from key_at keys_from keys_at table_at vector_at vectors_from record_at
fits = search rules

pub returns-clause-belongs : goal.returns-clause-belongs
unfolding digits utf8_valid_len is_utf8 chars encode_utf8 xid_at content_at text_at value_at cells_from cells_at change_at name_at
    kind_at flag_at column_at columns_from count_at rising_from key_at keys_from keys_at table_at vector_at vectors_from record_at
returns-clause-belongs c = record {
  registered = search rules;
  first = refl;
  dictionary = refl;
  scn = refl;
  fits = fits;
  layout = layout;
}

pub returns-clause-publisher : goal.returns-clause-publisher
unfolding digits utf8_valid_len is_utf8 chars encode_utf8 xid_at content_at text_at value_at cells_from cells_at change_at name_at
    kind_at flag_at column_at columns_from count_at rising_from key_at keys_from keys_at table_at vector_at vectors_from record_at
returns-clause-publisher c = record {
  there = refl;
  same = refl;
  fits = fits;
  layout = layout;
  keeps = refl;
  since = omega arith;
  risen = λ stopped. absurd (cc);
}
