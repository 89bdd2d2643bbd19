use Rattle.ct_eval.specs.Evaluation.{value_of}
use Rattle.ct_eval.proofs.CongruenceLemmas.{Alike, built_alike, look_up_within_one, select_alike, core_alike}
use Rattle.ct_eval.proofs.TermLemmas.{terms_alike}
use Rattle.ct_eval.proofs.theorems.congruence.Goals as goal

-- the theorems on agreement that the call gives
alike : goal.After-agreement → Alike
alike c = record {
  itself = c.agreement.ensures.itself;
  turned = c.agreement.ensures.turned;
  chained = c.agreement.ensures.chained;
  always = c.agreement.ensures.always;
  every_depth = c.agreement.ensures.every_depth;
}

pub returns-clause-look_up : goal.returns-clause-look_up
returns-clause-look_up c = λ g table vs ws closed same. look_up_within_one (alike c) g closed table vs ws same

pub returns-clause-selector : goal.returns-clause-selector
returns-clause-selector c = λ i s selector v w closed same. select_alike (alike c) i closed s selector v w same

pub returns-clause-test : goal.returns-clause-test
returns-clause-test c = built_alike (alike c)

pub returns-clause-core : goal.returns-clause-core
returns-clause-core c = λ d i value other core more closed h. core_alike (alike c) i closed value other d core more h

pub returns-clause-terms : goal.returns-clause-terms
returns-clause-terms c = λ d i terms t u core more r s closed ordered at_t at_u h.
    terms_alike d i terms ordered (alike c) closed t u core more r s at_t at_u h

pub returns-clause-truth : goal.returns-clause-truth
returns-clause-truth c = λ d i terms t u same.
    built_alike (alike c) i.graph i.graph (record { 0 = 0 }) (value_of d i terms t) (value_of d i terms u) same
