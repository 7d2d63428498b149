-- A borrowed key with its holder, as what it shows.
use Rattle.rl_value.specs.declared.key.Key.{Key}
use Rattle.rl_value.specs.declared.xid.Xid.{Xid}
use denote.Ref.{Bor}

abbrev pub shown_pair : Bor Key × Xid → Key × Xid
shown_pair p = (p.0.now, p.1)
