use Rattle.std.proofs.Common.{rules, refl, List, [], ◌∷◌, arith, codes, Some}
use Rattle.std.specs.Fmt.{digits}
use Rattle.std.specs.Str.{is_utf8, chars}
use Rattle.std.specs.Str.Lossy.{utf8_valid_len}
use Rattle.std.specs.Char.{encode_utf8}
use Rattle.redo_spec.specs.Tables.{empty_tables}
use Rattle.row_apply.specs.declared.writes.Write.{Write}
use Rattle.row_apply.specs.Soundness.{AreSound}
use Rattle.row_apply.proofs.Sound.{empty-sound}
use Rattle.redo_spec.specs.Worked.{emp, audit, n}
use Rattle.rl_value.specs.declared.value.Value.TheVariants.{Text}
use Rattle.standby_spec.specs.Worked.{sample, put_emp, below_zero}
use Rattle.standby_spec.proofs.WrittenLaws.{written-sound}
use Rattle.standby_spec.proofs.worked.a_state_has_a_layout.Goals as goal

-- the sample's rows, as writes over its tables without rows
rows : List Write
rows =
    record { table = 1; key = below_zero.0; row = Some below_zero.1 }
    ∷ put_emp 1 (Text (codes "Ann")) (Text (codes "x@a"))
    ∷ record { table = 2; key = n 1 ∷ []; row = Some (n 1 ∷ Text (codes "x") ∷ []) }
    ∷ []

sound : AreSound sample.tables
unfolding rows digits utf8_valid_len is_utf8 chars encode_utf8
sound = written-sound (empty_tables (emp ∷ audit ∷ [])) rows refl (empty-sound (emp ∷ audit ∷ [])) refl

pub returns-clause-sample : goal.returns-clause-sample
unfolding digits utf8_valid_len is_utf8 chars encode_utf8
returns-clause-sample c = record {
  dbid = omega arith;
  first = omega arith;
  base = omega arith;
  logs = search rules;
  rising = search rules;
  beginning = refl;
  few_logs = omega arith;
  tables = search rules;
  accepted = search rules;
  ids = refl;
  rules = search rules;
  differ = refl;
  values = search rules;
  sound = sound;
  few_rows = omega arith;
  n = omega arith;
  scn = omega arith;
  mark = search rules;
  placed = refl;
}

pub returns-clause-publish : goal.returns-clause-publish
unfolding digits utf8_valid_len is_utf8 chars encode_utf8
returns-clause-publish c = search rules
