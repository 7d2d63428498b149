use Rattle.row_apply.proofs.Owners.{owner_is, owner_none}
use Rattle.row_apply.proofs.Slots.{to_T}
use Rattle.row_apply.proofs.laws.a_unique_value_has_its_owner.Goals as goal

pub returns : goal.returns
returns c = record {
  owner = λ table rows index columns values key row sound unique found has filled. owner_is rows columns values key row
      (to_T _ sound.rising) (sound.single index columns unique) filled found has;
  none = λ table rows columns values sound never. owner_none rows columns values (to_T _ sound.rising) never;
}
