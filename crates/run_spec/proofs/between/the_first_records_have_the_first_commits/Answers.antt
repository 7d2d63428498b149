use Rattle.run_spec.proofs.Firsts.{first-commits, first-whole}
use Rattle.run_spec.proofs.Onward.{further-there, further-well}
use Rattle.run_spec.proofs.between.the_first_records_have_the_first_commits.Goals as goal

pub returns : goal.returns
returns c = record { first = first-commits; whole = first-whole; there = further-there; well = further-well }
