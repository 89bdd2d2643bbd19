use Rattle.std.proofs.Common.{◌≤◌, length, Contains}
use Rattle.ct_sorts.specs.declared.ids.SortId.{SortId}
use Rattle.ct_listing.specs.Listable.{IsListable}
use Rattle.ct_listing.specs.Listing.{listed}
use Rattle.ct_finite.specs.Counts.{most_values}
use Rattle.ct_operators.specs.Effect.{IsSoundTable}
use Rattle.ct_scope.specs.Values.{AreValueTerms}
use Rattle.ct_scope.proofs.ValueLemmas.{BoundsRest}
use Rattle.ct_scope.proofs.values.value_bounds.Given as goal

abbrev pub invariant-loop-rest : goal.invariant-loop-rest
invariant-loop-rest l =
    record {
      rest : BoundsRest l.sig l.sorts l.numbers l.flags l.initial.table l.table l.rest l.others l.left l.bounds.items;
      kept : IsSoundTable l.sig l.table;
      right : AreValueTerms l.sig l.table l.terms;
      sorts : (s : SortId) → Contains l.rest s → IsListable l.sig s × (length (listed l.sig s) ≤ most_values);
    }

abbrev pub decreases-loop-rest : goal.decreases-loop-rest
decreases-loop-rest l = length l.rest
