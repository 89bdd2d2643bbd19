use Rattle.ct_operators.specs.Effect.{IsSoundTable}
use Rattle.ct_scope.specs.Values.{AreValueTerms}
use Rattle.ct_scope.specs.Awaiting.{AreUnderWay}
use Rattle.ct_scope.proofs.open_value.value_term.Given as goal

abbrev pub invariant-loop : goal.invariant-loop
invariant-loop l =
    record {
      under_way : AreUnderWay l.sig l.initial.table (record { sort = l.fn.s; number = l.fn.k }) l.table l.below.items l.top;
      kept : IsSoundTable l.sig l.table;
      right : AreValueTerms l.sig l.table l.terms;
    }
