use Rattle.query_sessions.proofs.LineForms.{name_is_line}
use Rattle.query_sessions.proofs.lines.put_name.Goals as goal

-- a name ends no line
pub extend-requires : goal.extend-requires
extend-requires c = record { inside = rw c.bytes.ensures.same (name_is_line c.args.name.now c.bytes.ensures.name) }
