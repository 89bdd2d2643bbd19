use Rattle.std.proofs.Common.{◌≡◌, ◌++◌, take}
use Rattle.ct_theory.specs.Consulting.{KeepsForests, IsReady}
use Rattle.ct_theory.proofs.telling.tell.Given as goal

abbrev pub invariant-loop-literal : goal.invariant-loop-literal
invariant-loop-literal l = record {
  forests : KeepsForests l.fn.classes l.classes;
  ready : IsReady l.classes;
  declarations : l.classes.declarations ≡ l.fn.classes.declarations;
  terms : l.classes.terms ≡ l.fn.classes.terms;
  hypotheses : l.classes.hypotheses ≡ l.fn.classes.hypotheses ++ take l.literal-index l.literals;
}
