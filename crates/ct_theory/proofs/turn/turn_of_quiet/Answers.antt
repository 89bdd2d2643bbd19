use Rattle.ct_lemmas.proofs.Options.{OnOk-map}
use Rattle.ct_theory.proofs.turn.turn_of_quiet.Goals as goal

pub returns-in-Ok-clause-forest : goal.returns-in-Ok-clause-forest
returns-in-Ok-clause-forest c = OnOk-map c.unify.result _ _ (λ keeps. keeps c.args.forest.now c.requires.forest) c.unify.ensures.forests
