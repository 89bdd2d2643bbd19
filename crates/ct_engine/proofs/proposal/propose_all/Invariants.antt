use Rattle.std.proofs.Common.{◌≡◌, length}
use Rattle.ct_engine.specs.Progress.{IsOfOneTask}
use Rattle.ct_engine.specs.Opening.{IsOpening}
use Rattle.ct_engine.proofs.proposal.propose_all.Given as goal

abbrev pub invariant-drafts : goal.invariant-drafts
invariant-drafts l = record {
  opening : IsOpening l.fn.sig l.fn.sizes l.course l.room;
  same : IsOfOneTask l.fn.course l.course;
  trail : l.course.search.trail ≡ l.fn.course.search.trail;
}

abbrev pub decreases-drafts : goal.decreases-drafts
decreases-drafts l = length l.drafts.items
