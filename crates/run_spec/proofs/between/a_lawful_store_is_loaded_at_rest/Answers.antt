use Rattle.run_spec.proofs.Loaded.{loaded-rests, loaded-none}
use Rattle.run_spec.proofs.between.a_lawful_store_is_loaded_at_rest.Goals as goal

pub returns-clause-rests : goal.returns-clause-rests
returns-clause-rests k c = λ start logs s pairs p lawful sorted bytes image there free held since.
    loaded-rests _ _ start logs s pairs p lawful image
    (c.a_loaded_store_is_a_layout.ensures.pairs pairs s sorted bytes image) there free held since

pub returns-clause-none : goal.returns-clause-none
returns-clause-none k c = λ logs pairs p lawful fresh there free held. loaded-none _ logs pairs p lawful fresh there free held
