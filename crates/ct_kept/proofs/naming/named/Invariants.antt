use Rattle.std.proofs.Common.{◌≡◌, ◌↔◌, ◌<◌, length}
use Rattle.ct_terms.specs.declared.ids.TermId.{TermId}
use Rattle.ct_terms.specs.CoreTree.{term_at}
use Rattle.ct_restriction.specs.Restricted.{IsMarked}
use Rattle.ct_kept.specs.Names.{NamesBelow}
use Rattle.ct_kept.proofs.naming.named.Given as goal

abbrev pub invariant-loop-t : goal.invariant-loop-t
invariant-loop-t l = record {
  long : length l.marks.items ≡ l.t;
  named : (u : TermId) → IsMarked l.marks.items u ↔ ((u.0 < l.t) × NamesBelow l.mark (term_at l.table u));
}
