use Rattle.std.proofs.Common.{ℕ, List, length, false}
use Rattle.ct_sorts.specs.declared.ids.CtorId.{CtorId}
use Rattle.ct_sorts.specs.Grown.{Begins}
use Rattle.ct_values.specs.Agreement.{node_point}
use Rattle.ct_values.specs.Fitting.{HasNodeSort}
use Rattle.ct_values.specs.WellFormed.{IsWellFormedGraph}
use Rattle.ct_card.specs.declared.departure.Departure.{Departure}
use Rattle.ct_card.specs.declared.descent.Wanted.{Wanted}
use Rattle.ct_card.specs.Rules.{IsDerived}
use Rattle.ct_card.specs.Defaults.{node_of_sort}
use Rattle.ct_card.specs.Departures.{AreSeconds}
use Rattle.ct_card.specs.Built.{HaveTheirSorts}
use Rattle.ct_card.specs.Signs.{HasAllDefaults, HasAllSeconds}
use Rattle.ct_card.specs.Descent.{IsWanted, LeadsDown}
use Rattle.ct_card.specs.Made.{AreMadeNth}
use Rattle.ct_card.proofs.nth.append_nth.Given as goal

abbrev pub invariant-loop-passed : goal.invariant-loop-passed
invariant-loop-passed l = record {
  grown : Begins l.fn.g l.g;
  formed : IsWellFormedGraph l.sig l.fn.g → IsWellFormedGraph l.sig l.g;
  sorted : HaveTheirSorts l.sig l.ranks l.base l.g;
  seconds : (t : ℕ) → IsDerived l.several t → HasNodeSort l.sig l.g (node_of_sort l.second l.several t) (record { 0 = t });
  below : (wanted : Wanted) × LeadsDown l.sig l.layers (record { sort = l.s; number = l.n; turn = false }) l.down.way.items wanted × HasNodeSort l.sig l.g l.top (record { 0 = wanted.sort })
      × ((ctors : List CtorId) (seconds : List Departure) → AreSeconds l.sig l.several ctors seconds → HasAllDefaults l.sig l.ranks ctors l.base l.fn.g → HasAllSeconds l.sig l.several ctors seconds l.second l.fn.g → AreMadeNth l.sig ctors seconds l.layers l.fn.g l.made → IsWanted l.sig ctors seconds l.layers wanted (node_point l.g l.top));
}

abbrev pub decreases-loop-passed : goal.decreases-loop-passed
decreases-loop-passed l = length l.down.way.items
