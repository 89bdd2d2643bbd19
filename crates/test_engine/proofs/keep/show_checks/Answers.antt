use Rattle.std.proofs.Common.{sym, subst}
use Rattle.ct_terms.specs.Terms.{AreSorted}
use Rattle.ct_kept.specs.Kept.{Stored}
use Rattle.test_engine.proofs.keep.show_checks.Goals as goal

pub show_check-requires-clause-sorted : goal.show_check-requires-clause-sorted
show_check-requires-clause-sorted c =
    subst (λ (store : Stored). AreSorted c.args.scope.now.sig store.table) (sym c.deref_mut.ensures.value) c.lists.invariant
