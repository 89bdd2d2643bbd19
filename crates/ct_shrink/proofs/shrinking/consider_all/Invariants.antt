use Rattle.std.proofs.Common.{◌≤◌, length}
use Rattle.ct_terms.specs.Terms.{AreSorted}
use Rattle.ct_shrink.specs.Shrinking.{IsDraft}
use Rattle.ct_shrink.proofs.shrinking.consider_all.Given as goal

abbrev pub invariant-loop-index : goal.invariant-loop-index
invariant-loop-index l = record {
  within : l.index ≤ length l.places;
  kept : AreSorted l.sig l.kept.table;
  draft : IsDraft l.sig l.table l.asserts l.budget l.places l.index l.draft;
}
