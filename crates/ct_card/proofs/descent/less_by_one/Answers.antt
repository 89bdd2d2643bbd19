use Rattle.std.proofs.Common.{◌≡◌, ◌-◌, Option, sym, subst, arith}
use Rattle.std.proofs.lemmas.Option.{same_Some}
use Rattle.ct_card.specs.declared.departure.Step.{Step}
use Rattle.ct_card.specs.declared.descent.Below.{Below}
use Rattle.ct_card.specs.Descent.{LeavesLess}
use Rattle.ct_card.proofs.descent.less_by_one.Goals as goal

pub returns-in-Some-clause-leads : goal.returns-in-Some-clause-leads
returns-in-Some-clause-leads c = λ below e.
    let last = c.last_digit.result in
    subst (λ (b : Below). (b.wanted.sort ≡ c.args.sort) × (b.wanted.turn ≡ c.args.turn) × LeavesLess c.args.digit c.args.n b.wanted.number b.set) (same_Some last below e) (
      c.last_digit.ensures.sort,
      c.last_digit.ensures.turn,
      subst (λ (o : Option Step). LeavesLess o c.args.n last.wanted.number last.set) (sym c.in-Some.is) (c.args.n - 1, omega (arith, c.if-n-eq0.false), c.last_digit.ensures.leaves),
    )
