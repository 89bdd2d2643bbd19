use Rattle.std.proofs.Common.{subst}
use Rattle.ct_terms.specs.Terms.{Terms, IsOfSort}
use Rattle.ct_build.proofs.TermLemmas.{sort_declared}
use Rattle.ct_build.proofs.open_classes.term_sort.Goals as goal

pub returns-clause-declared : goal.returns-clause-declared
returns-clause-declared c =
    let state = c.args.classes.now in
    let known = c.facts.ensures in
    let has : IsOfSort state.terms c.args.t c.sort.result = subst (λ (table : Terms). IsOfSort table c.args.t c.sort.result) c.table-table.ensures.value c.sort.ensures.value in
    sort_declared state.declarations known.consistent known.of_their_sorts known.some state.terms known.sorted known.ordered c.args.t c.sort.result has
