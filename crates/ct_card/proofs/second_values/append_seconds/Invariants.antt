use Rattle.std.proofs.Common.{◌≡◌, ◌+◌, length}
use Rattle.ct_sorts.specs.Grown.{Begins}
use Rattle.ct_values.specs.WellFormed.{IsWellFormedGraph}
use Rattle.ct_card.specs.Signs.{HasAllDefaults, HasSeconds}
use Rattle.ct_card.proofs.second_values.append_seconds.Given as goal

abbrev pub invariant-loop-s : goal.invariant-loop-s
invariant-loop-s l = record {
  grown : Begins l.fn.g l.g;
  formed : IsWellFormedGraph l.sig l.fn.g → IsWellFormedGraph l.sig l.g;
  defaults : HasAllDefaults l.sig l.ranks l.ctors l.base l.g;
  seconds : HasSeconds l.sig l.several l.ctors l.seconds l.second l.g l.s-index;
  count : length l.g ≡ l.second + l.s-index;
}
