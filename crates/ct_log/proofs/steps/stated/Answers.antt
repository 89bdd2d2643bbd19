use Rattle.std.proofs.Common.{◌≡◌, sym, refl, Contains}
use Rattle.ct_terms.specs.declared.ids.TermId.{TermId}
use Rattle.ct_terms.specs.Clause.{Clause}
use Rattle.ct_terms.specs.declared.ids.Lit.{Lit}
use Rattle.ct_terms.specs.Literal.{opposite}
use Rattle.ct_rules.specs.Rules.{truth_term}
use Rattle.ct_log.specs.Equations.{equation}
use Rattle.ct_log.proofs.LookLemmas.{none_gives, some_gives, not_told}
use Rattle.ct_log.proofs.MarkLemmas.{Contains-opposites}
use Rattle.ct_log.proofs.steps.stated.Goals as goal

-- what is stated
abbrev Stated : Clause → Lit → TermId → TermId → Type 0
Stated clause l x y = Contains clause (opposite l) × (x ≡ l.term) × (y ≡ truth_term l.positive)

pub returns-then-not-has : goal.returns-then-not-has
returns-then-not-has c = record {
  gives = λ clause marked x y. none_gives (Stated clause c.args.l x y) (equation x y)
      (λ h. not_told c.has.result _ c.has.ensures.marked c.if-not-has.true ((marked c.args.l).1 ((Contains-opposites clause c.args.l).1 h.0)));
}

pub returns : goal.returns
returns c = record {
  gives = λ clause marked.
      let inside = (Contains-opposites clause c.args.l).0 ((marked c.args.l).0 (c.has.ensures.marked.0 c.if-not-has.false)) in
      rw c.truth.ensures.value (some_gives (Stated clause c.args.l) c.args.l.term (truth_term c.args.l.positive) (inside, refl, refl) (λ x y h. (sym h.1, sym h.2)));
}
