use Rattle.std.proofs.Common.{◌≡◌, length}
use Rattle.ct_sorts.specs.Grown.{Begins}
use Rattle.ct_values.specs.WellFormed.{IsWellFormedGraph}
use Rattle.ct_build.specs.Nodes.{AreStored}
use Rattle.ct_build.proofs.DefaultLemmas.{AreOfFirstSorts}
use Rattle.ct_build.proofs.defaults.default_nodes.Given as goal

abbrev pub invariant-loop-s : goal.invariant-loop-s
invariant-loop-s l = record {
  grown : Begins l.initial.g l.g;
  formed : IsWellFormedGraph l.sig l.initial.g → IsWellFormedGraph l.sig l.g;
  many : length l.found.items ≡ length l.sig.sorts;
  stored : AreStored l.sig l.g l.found.items;
  nodes : AreOfFirstSorts l.sig l.g l.s l.list.items;
}
