use Rattle.std.proofs.Common.{◌≡◌, ◌⊎◌, All, Contains, length, take}
use Rattle.ct_terms.specs.declared.ids.TermId.{TermId}
use Rattle.ct_restriction.specs.Restricted.{IsMarked}
use Rattle.ct_restriction.proofs.marking.mark.Given as goal

abbrev pub invariant-loop-t : goal.invariant-loop-t
invariant-loop-t l = record {
  long : length l.marks.items ≡ length l.initial.marks.items;
  stays : (u : TermId) → IsMarked l.initial.marks.items u → IsMarked l.marks.items u;
  each : All (IsMarked l.marks.items) (take l.t-index l.terms);
  only : (u : TermId) → IsMarked l.marks.items u → IsMarked l.initial.marks.items u ⊎ Contains l.terms u;
}
