use Rattle.std.proofs.Common.{[], sym, subst}
use Rattle.std.proofs.lemmas.List.{append-nil}
use Rattle.ct_values.specs.Graph.{IsClosed}
use Rattle.ct_eval.proofs.CongruenceLemmas.{Alike}
use Rattle.ct_eval.proofs.AppendedLemmas.{Growth, proper_closed, look_up_appended, value_appended, value_within, truth_appended}
use Rattle.ct_eval.proofs.theorems.appended_nodes.Goals as goal

-- the theorems that the calls give
alike : goal.After-fitting_graphs → Alike
alike c = record {
  itself = c.agreement.ensures.itself;
  turned = c.agreement.ensures.turned;
  chained = c.agreement.ensures.chained;
  always = c.agreement.ensures.always;
  every_depth = c.agreement.ensures.every_depth;
}

growth : goal.After-fitting_graphs → Growth
growth c = record {
  head = c.longer_graphs.ensures.head;
  children = c.longer_graphs.ensures.children;
  children_over = c.longer_graphs.ensures.children_over;
  same = c.agreement.ensures.always_grown;
}

pub returns-clause-closed : goal.returns-clause-closed
returns-clause-closed c = λ d i consistent proper.
    proper_closed d i (c.structure.ensures.of_their_constructors d consistent) (c.fitting_graphs.ensures.closed d i.graph proper.graph.fits) proper

pub returns-clause-look_up : goal.returns-clause-look_up
returns-clause-look_up c = λ g more table vs closed still stored over. look_up_appended (alike c) (growth c) g more closed still table vs stored over

pub returns-clause-over : goal.returns-clause-over
returns-clause-over c = λ d i terms t over.
    value_within (alike c) (growth c) i [] over (subst IsClosed (sym (append-nil i.graph)) over.graph) d terms t

pub returns-clause-value : goal.returns-clause-value
returns-clause-value c = λ d i more terms t over still. value_appended (alike c) (growth c) i more over still d terms t

pub returns-clause-truth : goal.returns-clause-truth
returns-clause-truth c = λ d i more terms t over still. truth_appended (alike c) (growth c) i more over still d terms t
