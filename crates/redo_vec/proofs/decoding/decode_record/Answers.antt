use Rattle.std.proofs.Common.{ap, subst, ◌∙◌, arith}
use Rattle.redo_vec.specs.Reading.{record_at}
use Rattle.redo_vec.specs.Given.{Gives}
use Rattle.redo_vec.proofs.RecordLaws.{cut_of, is_found, record_whole}
use Rattle.redo_vec.proofs.decoding.decode_record.Goals as goal

pub returns-clause-found : goal.returns-clause-found
returns-clause-found c = is_found c.args.bytes.now c.decoded.result (λ i. omega (arith, c.type_inv.bytes i))
    (cut_of c.args.bytes.now c.requires.cut) c.decoded.ensures

pub returns-clause-only : goal.returns-clause-only
returns-clause-only c = λ rec fits e. subst (λ f. Gives (λ x. x) c.decoded.result f) (ap record_at e ∙ record_whole rec fits)
    c.decoded.ensures
