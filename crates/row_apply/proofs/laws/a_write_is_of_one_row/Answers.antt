use Rattle.row_apply.proofs.Slots.{to_T, from_T, find_write, sorted_write}
use Rattle.row_apply.proofs.laws.a_write_is_of_one_row.Goals as goal

pub returns : goal.returns
returns c = record {
  found = λ rows key other row. find_write other key row rows;
  rising = λ rows key row rising. from_T _ (sorted_write key row rows (to_T _ rising));
}
