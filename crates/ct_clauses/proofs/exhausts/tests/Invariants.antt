use Rattle.std.proofs.Common.{take, All}
use Rattle.std.specs.List.{AllZip}
use Rattle.ct_terms.specs.Literal.{IsStripped}
use Rattle.ct_log.specs.Gates.{IsTestOf}
use Rattle.ct_clauses.proofs.exhausts.tests.Given as goal

abbrev pub invariant-loop-c : goal.invariant-loop-c
invariant-loop-c l = record {
  tests : AllZip (IsTestOf l.table l.t) l.clause.items (take l.c-index l.ctors);
  literals : All (λ k. IsStripped l.table k.term) l.clause.items;
}
