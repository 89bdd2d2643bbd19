use Rattle.std.proofs.Common.{◌≡◌, replicate}
use Rattle.ct_ordering.specs.declared.search.Colour.TheVariants.{White}
use Rattle.ct_ordering.proofs.ordering.all_white.Given as goal

abbrev pub invariant-loop : goal.invariant-loop
invariant-loop l = l.colours.items ≡ replicate l.counter White
