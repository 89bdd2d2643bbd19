use Rattle.std.proofs.Common.{◌≡◌, ◌∙◌, take, ap, sym, subst}
use Rattle.ct_terms.specs.Terms.{AreSorted}
use Rattle.ct_terms.proofs.SortLemmas.{AreSorted-take}
use Rattle.ct_terms.proofs.TableLemmas.{IsTermTable-take}
use Rattle.ct_terms.proofs.LiteralLemmas.{AreLiterals-take}
use Rattle.ct_terms.proofs.table.TermTable.cut_to.Goals as goal

pub invariant_of-self : goal.invariant_of-self
invariant_of-self c =
    let table = c.self.inside.terms.entries in
    let literals = c.self.inside.literals.items in
    rw (c.truncate.ensures.entries, c.truncate-2.ensures.items)
    (IsTermTable-take table c.args.len c.requires.truths c.self.invariant.0, AreLiterals-take table literals c.args.len c.self.invariant.0.ordered c.self.invariant.1)

pub returns-clause-sorted : goal.returns-clause-sorted
returns-clause-sorted c =
    λ d all.
    let first : c.truncate.new.self.entries ≡ take c.args.len c.args.self.now = c.truncate.ensures.entries ∙ ap (take c.args.len) c.self.view_is in
    let ordered = rw c.self.view_is at c.self.invariant.0.ordered in
    subst (AreSorted d) (sym first) (AreSorted-take d c.args.self.now c.args.len ordered all)
