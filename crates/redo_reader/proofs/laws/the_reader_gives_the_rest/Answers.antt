use Rattle.std.proofs.Common.{◌∙◌, ◌≤◌, length, sym, ap, subst}
use Rattle.redo_spec.specs.Redo.{Redo}
use Rattle.redo_reader.specs.Ahead.{first_place}
use Rattle.redo_reader.specs.Behind.{redo_left}
use Rattle.redo_reader.proofs.laws.the_reader_gives_the_rest.Goals as goal
use Rattle.redo_reader.proofs.PlaceLaws.{ahead_is, number_is, next_is, decoded_is, taken_as_is}

pub returns : goal.returns
returns c = record {
  ahead = ahead_is;
  number = number_is;
  next = next_is;
  redo = λ logs registry seq rec count told rise there.
      let same = c.the_reader_gives_the_redo.ensures.redo logs registry seq rec told in
      decoded_is logs registry (first_place seq rec) count rise
      (subst (λ (r : Redo). count ≤ length r.entries) (sym same) there)
      ∙ ap (redo_left count) same;
  kept = taken_as_is;
}
