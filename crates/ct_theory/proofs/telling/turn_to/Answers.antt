use Rattle.std.proofs.Common.{◌-◌, sym, subst, length}
use Rattle.ct_terms.specs.Literal.{IsStripped}
use Rattle.ct_terms.specs.Terms.{Terms}
use Rattle.ct_theory.proofs.ReadyLemmas.{Contains-part}
use Rattle.ct_theory.proofs.telling.turn_to.Goals as goal

pub tell-requires-clause-stripped : goal.tell-requires-clause-stripped
tell-requires-clause-stripped c =
    let literals = c.args.literals.now in
    let stand = length c.hypotheses-stand.result.now in
    λ l has. subst (λ (t : Terms). IsStripped t l.term) (sym c.in_ok-keep_shared.ensures.terms) (c.requires.stripped l (Contains-part literals (length literals - stand) stand l has))

pub returns-clause-forest : goal.returns-clause-forest
returns-clause-forest c = c.in_ok-tell.ensures.forests c.keep_shared.new.forest c.in_ok-keep_shared.ensures.forest
