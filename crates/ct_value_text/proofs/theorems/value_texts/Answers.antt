use Rattle.ct_values.proofs.FittingLemmas.{minimal_fits}
use Rattle.ct_value_text.proofs.SortTextLemmas.{TextTheorems}
use Rattle.ct_value_text.proofs.ValueTextLemmas.{one_text}
use Rattle.ct_value_text.proofs.theorems.value_texts.Goals as goal

-- the theorems on texts that the call gives
texts : goal.After-written_texts → TextTheorems
texts c = record { same_text = c.written_texts.ensures.same_text; one_name = c.written_texts.ensures.one_name }

pub returns-clause-minimal_fits : goal.returns-clause-minimal_fits
returns-clause-minimal_fits c = minimal_fits

pub returns-clause-one : goal.returns-clause-one
returns-clause-one c = one_text (texts c)
