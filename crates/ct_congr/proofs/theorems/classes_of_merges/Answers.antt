use Rattle.std.proofs.Common.{[], refl}
use Rattle.ct_congr.proofs.ClassLemmas.{InOneClass-refl, InOneClass-sym, InOneClass-trans, InOneClass-inside}
use Rattle.ct_congr.proofs.MergeLemmas.{AreConnected-trans, AreConnected-sym, AreConnected-link, AreConnected-more}
use Rattle.ct_congr.proofs.LeastLemmas.{AreConnected-least}
use Rattle.ct_congr.proofs.theorems.classes_of_merges.Goals as goal

pub returns : goal.returns
returns c = record {
  reflexive = λ state. InOneClass-refl state.reps;
  symmetric = λ state. InOneClass-sym state.reps;
  transitive = λ state. InOneClass-trans state.reps;
  inside = λ state. InOneClass-inside state.reps;
  connected_reflexive = λ merges x. ([], refl);
  connected_symmetric = AreConnected-sym;
  connected_transitive = AreConnected-trans;
  connected_merge = AreConnected-link;
  connected_least = AreConnected-least;
  connected_more = AreConnected-more;
}
