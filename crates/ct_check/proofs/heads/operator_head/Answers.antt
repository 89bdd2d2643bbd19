use Rattle.std.proofs.Common.{◌≡◌, sym, ap, ◌∙◌}
use Rattle.ct_names.specs.declared.operator.CoreOperator.TheVariants.{Not, And, Or, Xor, Implies}
use Rattle.ct_names.specs.Elaboration.{parts_of, takes, operated}
use Rattle.ct_names.specs.Parts.{count}
use Rattle.ct_names.proofs.StayLemmas.{count_same}
use Rattle.ct_check.proofs.HeadLemmas.{connective-called, operator-enough}
use Rattle.ct_check.proofs.heads.operator_head.Goals as goal

pub returns-in-Not-clause-value : goal.returns-in-Not-clause-value
returns-in-Not-clause-value c = λ needs d scope es n later grows.
    let ps = parts_of later es in
    let number : count ps ≡ c.args.args = count_same later d es ∙ n in
    operator-enough later scope c.args.operator ps (ap (λ k. takes c.args.operator k) number ∙ sym c.if-not-takes.ensures.value) ∙ ap (λ o. operated later scope o ps) c.in-Not.is ∙ connective-called later scope Not ps

pub returns-in-And-clause-value : goal.returns-in-And-clause-value
returns-in-And-clause-value c = λ needs d scope es n later grows.
    let ps = parts_of later es in
    let number : count ps ≡ c.args.args = count_same later d es ∙ n in
    operator-enough later scope c.args.operator ps (ap (λ k. takes c.args.operator k) number ∙ sym c.if-not-takes.ensures.value) ∙ ap (λ o. operated later scope o ps) c.in-And.is ∙ connective-called later scope And ps

pub returns-in-Or-clause-value : goal.returns-in-Or-clause-value
returns-in-Or-clause-value c = λ needs d scope es n later grows.
    let ps = parts_of later es in
    let number : count ps ≡ c.args.args = count_same later d es ∙ n in
    operator-enough later scope c.args.operator ps (ap (λ k. takes c.args.operator k) number ∙ sym c.if-not-takes.ensures.value) ∙ ap (λ o. operated later scope o ps) c.in-Or.is ∙ connective-called later scope Or ps

pub returns-in-Xor-clause-value : goal.returns-in-Xor-clause-value
returns-in-Xor-clause-value c = λ needs d scope es n later grows.
    let ps = parts_of later es in
    let number : count ps ≡ c.args.args = count_same later d es ∙ n in
    operator-enough later scope c.args.operator ps (ap (λ k. takes c.args.operator k) number ∙ sym c.if-not-takes.ensures.value) ∙ ap (λ o. operated later scope o ps) c.in-Xor.is ∙ connective-called later scope Xor ps

pub returns-in-Implies-clause-value : goal.returns-in-Implies-clause-value
returns-in-Implies-clause-value c = λ needs d scope es n later grows.
    let ps = parts_of later es in
    let number : count ps ≡ c.args.args = count_same later d es ∙ n in
    operator-enough later scope c.args.operator ps (ap (λ k. takes c.args.operator k) number ∙ sym c.if-not-takes.ensures.value) ∙ ap (λ o. operated later scope o ps) c.in-Implies.is ∙ connective-called later scope Implies ps

pub returns-in-Equal-clause-value : goal.returns-in-Equal-clause-value
returns-in-Equal-clause-value c = λ needs d scope es n later grows.
    let ps = parts_of later es in
    let number : count ps ≡ c.args.args = count_same later d es ∙ n in
    operator-enough later scope c.args.operator ps (ap (λ k. takes c.args.operator k) number ∙ sym c.if-not-takes.ensures.value) ∙ ap (λ o. operated later scope o ps) c.in-Equal.is

pub returns-in-Distinct-clause-value : goal.returns-in-Distinct-clause-value
returns-in-Distinct-clause-value c = λ needs d scope es n later grows.
    let ps = parts_of later es in
    let number : count ps ≡ c.args.args = count_same later d es ∙ n in
    operator-enough later scope c.args.operator ps (ap (λ k. takes c.args.operator k) number ∙ sym c.if-not-takes.ensures.value) ∙ ap (λ o. operated later scope o ps) c.in-Distinct.is
