use Rattle.std.proofs.Common.{◌≡◌, All, length, sym, ap, subst, ◌∙◌}
use Rattle.ct_terms.specs.declared.ids.TermId.{TermId}
use Rattle.ct_terms.specs.Terms.{Terms, AreSorted, IsBoolean}
use Rattle.ct_closure.specs.ClosedTable.{AreSubtermsOf, terms_at}
use Rattle.ct_closure.specs.Closed.{HasMoreThan, most_closure_terms}
use Rattle.ct_engine.specs.declared.closed.Closed.{Closed}
use Rattle.ct_engine.proofs.PrepareLemmas.{booleans_longer, trees_longer, closed_as}
use Rattle.ct_engine.proofs.closed.closed_alone.Goals as goal

pub closure_of-requires-clause-sorted : goal.closure_of-requires-clause-sorted
closure_of-requires-clause-sorted c = subst (λ (ts : Terms). AreSorted c.args.sig.now ts) (sym c.in_ok-closed.ensures.ok) c.requires.sorted

pub closure_of-requires-clause-asserts : goal.closure_of-requires-clause-asserts
closure_of-requires-clause-asserts c = subst (λ (ts : Terms). All (IsBoolean ts) c.args.asserts.now) (sym c.in_ok-closed.ensures.ok) c.requires.asserts

pub closure_of-requires-clause-exact : goal.closure_of-requires-clause-exact
closure_of-requires-clause-exact c = subst (λ (ts : Terms). AreSubtermsOf ts c.args.asserts.now) (sym c.in_ok-closed.ensures.ok) c.requires.exact

pub returns-clause-closed : goal.returns-clause-closed
returns-clause-closed c =
    let same = c.in_ok-closed.ensures.ok in
    let closure = rw same at c.in_ok-closure.ensures.closure in
    let trees = trees_longer c.core_trees.ensures.longer c.args.table.now c.closure_of.new.table c.args.asserts.now closure.grown c.len-terms.ensures.ordered c.requires.asserts in
    let made = c.in_ok-new.ensures.ok in
    closed_as c.args.sig.now c.args.table.now c.closure_of.new.table c.args.asserts.now c.in_ok-roots.roots.items c.in_ok-closure.closure c.in_ok-roots.ensures.items trees
    (booleans_longer c.args.table.now c.closure_of.new.table c.args.asserts.now closure.grown c.requires.asserts) closure c.in_ok-new.field-0.value (ap (λ (x : Closed). x.table) made) (ap (λ (x : Closed). x.roots.items) made) (ap (λ (x : Closed). x.closure) made)

pub returns-clause-fits : goal.returns-clause-fits
returns-clause-fits c =
    subst (λ (ts : Terms). HasMoreThan c.args.sig.now (terms_at ts c.args.asserts.now) most_closure_terms → ⊥) c.in_ok-closed.ensures.ok c.in_ok-closure.ensures.fits
