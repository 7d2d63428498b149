use Rattle.view_lines.proofs.LineForms.{pattern_is_line}
use Rattle.view_lines.proofs.skips.put_pattern.Goals as goal

-- a pattern ends no line
pub extend-requires : goal.extend-requires
extend-requires c = record { inside = rw c.bytes.ensures.same (pattern_is_line c.args.pattern.now c.bytes.ensures.form) }
