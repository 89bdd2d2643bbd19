use Rattle.std.proofs.Common.{sym, subst}
use Rattle.ct_terms.specs.Literal.{IsStripped}
use Rattle.ct_terms.specs.Terms.{Terms}
use Rattle.ct_theory.proofs.shorter.shorter.Goals as goal

pub anew-requires-clause-stripped : goal.anew-requires-clause-stripped
anew-requires-clause-stripped c =
    λ l has. subst (λ (t : Terms). IsStripped t l.term) (sym c.in_ok-other.ensures.spare.terms) (c.requires.stripped l has)
