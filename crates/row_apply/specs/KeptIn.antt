-- What the fields of an overlay hold.
use Rattle.row_apply.specs.declared.written.Written.{Written}
use Rattle.row_apply.specs.Kept.{Slots, Owners, Indexed, AreSlots, AreIndexed}

abbrev pub slots_of : Written → Slots
slots_of w = w.rows.entries

abbrev pub owners_of : Written → Owners
owners_of w = w.owners.entries

abbrev pub indexed_of : Written → Indexed
indexed_of w = w.indexed.entries

-- its rows stand by rising primary keys, and what is indexed leads to them
pub record IsKept (w : Written) : Type 0 where
  pub slots : AreSlots (slots_of w)
  pub index : AreIndexed (slots_of w) (owners_of w) (indexed_of w)
