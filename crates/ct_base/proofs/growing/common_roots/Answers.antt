use Rattle.std.proofs.Common.{◌∙◌, List, length, sym, subst}
use Rattle.ct_terms.specs.declared.ids.TermId.{TermId}
use Rattle.ct_restriction.specs.Renumbered.{AreNumbersOf}
use Rattle.ct_base.proofs.RootLemmas.{numbers_left}
use Rattle.ct_base.proofs.growing.common_roots.Goals as goal

pub returns-clause-common : goal.returns-clause-common
returns-clause-common c =
    let from = c.args.from.now in
    let table = c.args.table.now in
    let right = c.in_ok-right.right in
    let are : AreNumbersOf from table c.args.numbers.now.items right =
    subst (λ (l : List TermId). AreNumbersOf from table l right) c.as_slice.ensures.value c.in_ok-right.ensures.equal in
    c.equal_roots.ensures.common table from
    (subst (λ (l : List TermId). AreNumbersOf from table l (length l)) (sym (c.as_slice-2.ensures.value ∙ c.truncate.ensures.items)) (numbers_left from table c.args.numbers.now.items right are))
