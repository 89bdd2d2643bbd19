use Rattle.std.proofs.Common.{◌≡◌, ◌<◌, List, length, sym, subst}
use Rattle.ct_sorts.specs.Declarations.{Declarations}
use Rattle.ct_terms.specs.declared.ids.TermId.{TermId}
use Rattle.ct_terms.specs.declared.ids.Lit.{Lit}
use Rattle.ct_terms.specs.Terms.{Terms}
use Rattle.ct_rules.specs.declared.equation.Equation.{Equation}
use Rattle.ct_rules.specs.Derivation.{Derives}
use Rattle.ct_congr.proofs.theorems.closed_classes.Goals as goal

-- what derives in one derives in the other
carried : (d e : Declarations) (terms more : Terms) (hyps others : List Lit) (given further : List Equation) → d ≡ e → terms ≡ more → hyps ≡ others → given ≡ further → (t u : TermId) → Derives d terms hyps given t u → Derives e more others further t u
carried d e terms more hyps others given further p q r s t u h =
    subst (λ (g : List Equation). Derives e more others g t u) s
    (subst (λ (l : List Lit). Derives e more l given t u) r (subst (λ (m : Terms). Derives e m hyps given t u) q (subst (λ (a : Declarations). Derives a terms hyps given t u) p h)))

pub returns : goal.returns
returns c = record {
  same = λ one other p q d terms hyps given t u in_t in_u.
      let here = p.exact t u in_t in_u in
      let there = q.exact t u (subst (λ (m : Terms). t.0 < length m) terms in_t) (subst (λ (m : Terms). u.0 < length m) terms in_u) in (
        λ e. there.1 (carried one.declarations other.declarations one.terms other.terms one.hypotheses other.hypotheses one.given other.given d terms hyps given t u (here.0 e)),
        λ e. here.1 (carried other.declarations one.declarations other.terms one.terms other.hypotheses one.hypotheses other.given one.given (sym d) (sym terms) (sym hyps) (sym given) t u (there.0 e)),
      );
}
