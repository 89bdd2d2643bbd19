use Rattle.std.proofs.Common.{sym, subst}
use Rattle.ct_terms.specs.Literal.{IsStripped}
use Rattle.ct_terms.specs.Terms.{Terms}
use Rattle.ct_theory.proofs.telling.fresh_of.Goals as goal

pub new-requires-2-clause-stripped : goal.new-requires-2-clause-stripped
new-requires-2-clause-stripped c =
    λ l has. subst (λ (t : Terms). IsStripped t l.term) (sym c.table.ensures.value) (c.requires.stripped l has)
