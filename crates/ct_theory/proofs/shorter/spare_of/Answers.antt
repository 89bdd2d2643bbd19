use Rattle.std.proofs.Common.{subst}
use Rattle.ct_congr.specs.State.{State}
use Rattle.ct_explain.specs.Trees.{IsForestOfFirst}
use Rattle.ct_theory.proofs.shorter.spare_of.Goals as goal

pub returns : goal.returns
returns c =
    let first = c.in_ok-fresh.ensures in
    record {
      spare = record {
        declarations = first.declarations;
        terms = first.terms;
        ready = first.ready;
        forest = subst (λ (s : State). IsForestOfFirst s c.in_ok-forest.forest) c.deref.ensures c.in_ok-forest.ensures.forest;
      };
    }
