use Rattle.std.proofs.Common.{◌≡◌}
use Rattle.ct_explain.specs.Trees.{IsForestOfFirst}
use Rattle.ct_theory.specs.Consulting.{IsUnderWay, unequal}
use Rattle.ct_theory.proofs.answer.answer.Given as goal

abbrev pub invariant-turns : goal.invariant-turns
invariant-turns l = record {
  under_way : IsUnderWay l.fn.classes.declarations l.fn.classes.terms l.fn.classes.hypotheses l.classes;
  forest : IsForestOfFirst l.classes l.forest;
  marks : l.classes.marks ≡ l.fn.classes.marks;
}

abbrev pub decreases-turns : goal.decreases-turns
decreases-turns l = unequal l.classes
