use Rattle.ct_trial.proofs.LastModelLemmas.{model_later}
use Rattle.ct_trial.proofs.theorems.lasting_models.Goals as goal

pub returns : goal.returns
returns c = record { later = λ d later model extends is. model_later c.growth.ensures.further d later model extends is }
