use Rattle.std.proofs.Common.{rules, arith}
use Rattle.redolog.proofs.Texts.{longer, whole}
use Rattle.redolog.proofs.writing.text_of.Goals as goal

-- more was read than a text may have
pub returns-then-len-gt-MOST_TEXT : goal.returns-then-len-gt-MOST_TEXT
returns-then-len-gt-MOST_TEXT g c = record {
  text = longer 1073741824 (g.I.Source.left c.args.input.now) c.in-Ok.text.items c.in-Ok.ensures.bytes (omega arith);
  no_output = search rules;
  input_failed = search rules;
  input_answered = search rules;
  input_count = search rules;
}

-- or all of it
pub returns : goal.returns
returns g c = record {
  text = whole 1073741824 (g.I.Source.left c.args.input.now) c.in-Ok.text.items c.in-Ok.ensures.bytes (omega arith);
  no_output = search rules;
  input_failed = search rules;
  input_answered = search rules;
  input_count = search rules;
}
