use Rattle.std.proofs.Common.{refl}
use Rattle.std.specs.Fmt.{digits}
use Rattle.redo_worked.proofs.examples.further_orders_of_causes.Goals as goal

pub returns-clause-chain_before_scn : goal.returns-clause-chain_before_scn
unfolding digits
returns-clause-chain_before_scn c = refl

pub returns-clause-below_its_log : goal.returns-clause-below_its_log
unfolding digits
returns-clause-below_its_log c = refl

pub returns-clause-alone_before_dictionary : goal.returns-clause-alone_before_dictionary
unfolding digits
returns-clause-alone_before_dictionary c = refl

pub returns-clause-dictionary_before_twice : goal.returns-clause-dictionary_before_twice
unfolding digits
returns-clause-dictionary_before_twice c = refl

pub returns-clause-keys_before_limit : goal.returns-clause-keys_before_limit
unfolding digits
returns-clause-keys_before_limit c = refl

pub returns-clause-lock_behind : goal.returns-clause-lock_behind
unfolding digits
returns-clause-lock_behind c = refl

pub returns-clause-supplement_before_lock : goal.returns-clause-supplement_before_lock
unfolding digits
returns-clause-supplement_before_lock c = refl

pub returns-clause-least_of_new : goal.returns-clause-least_of_new
unfolding digits
returns-clause-least_of_new c = refl

pub returns-clause-row_limit_told : goal.returns-clause-row_limit_told
unfolding digits
returns-clause-row_limit_told c = refl
