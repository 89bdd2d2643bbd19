use Rattle.std.proofs.Common.{◌≡◌, ℕ, ◌-◌, List, [], ◌∷◌, length, take, drop, get_or, sym, subst, arith}
use Rattle.std.proofs.lemmas.List.{nil_from_length}
use Rattle.ct_lemmas.proofs.Prefixes.{rest-step}
use Rattle.ct_terms.specs.declared.ids.TermId.{TermId}
use Rattle.ct_log.specs.declared.rules.Hop.{Hop}
use Rattle.ct_log.specs.declared.rules.EqStep.{EqStep}
use Rattle.ct_theory.specs.Steps.{AreUnderWay}
use Rattle.ct_theory.proofs.HopLemmas.{AreUnderWay-start, next_leads, AreUnderWay-more, AreUnderWay-end}
use Rattle.ct_theory.proofs.cycle.explain_hops.Goals as goal

pub loop-rest-init : goal.loop-rest-init
loop-rest-init c =
    let state = c.args.classes.now in
    let hops = c.args.hops.now in
    let first = c.start_of-first.result in
    subst (λ (es : List Hop). AreUnderWay state hops hops es c.args.proof.now.steps.items first) (sym c.new-explained.ensures.items)
    (subst (λ (steps : List EqStep). AreUnderWay state hops hops [] steps first) (sym c.requires.empty)
    (AreUnderWay-start state hops first (record { 0 = 0 }) c.requires.cycle c.start_of-first.ensures.value))

abbrev nowhere : TermId × ℕ
nowhere = (record { 0 = 0 }, 0)

pub explain_hop-requires-clause-leads : goal.explain_hop-requires-clause-leads
explain_hop-requires-clause-leads c =
    let state = c.args.classes.now in
    let hops = c.args.hops.now in
    let rest = c.loop-rest.rest.now in
    let others = take (length rest - 1) (drop 1 rest) in
    let explained = c.loop-rest.explained.items in
    let steps = c.loop-rest.proof.steps.items in
    let first = c.start_of-first.result in
    let under : AreUnderWay state hops (get_or rest 0 nowhere ∷ others) explained steps first = subst (λ (xs : List (TermId × ℕ)). AreUnderWay state hops xs explained steps first) (rest-step rest nowhere c.in-len1-up.len_at_least) c.loop-rest.invariant in
    next_leads state hops (get_or rest 0 nowhere) others explained steps first under c.start_of-next.result c.start_of-next.ensures.value

pub loop-rest-preserved : goal.loop-rest-preserved
loop-rest-preserved c =
    let state = c.args.classes.now in
    let hops = c.args.hops.now in
    let rest = c.loop-rest.rest.now in
    let others = take (length rest - 1) (drop 1 rest) in
    let explained = c.loop-rest.explained.items in
    let steps = c.loop-rest.proof.steps.items in
    let after = c.explain_hop.new.proof.steps.items in
    let first = c.start_of-first.result in
    let under : AreUnderWay state hops (get_or rest 0 nowhere ∷ others) explained steps first = subst (λ (xs : List (TermId × ℕ)). AreUnderWay state hops xs explained steps first) (rest-step rest nowhere c.in-len1-up.len_at_least) c.loop-rest.invariant in
    let done = c.in_ok-explain_hop.ensures in
    subst (λ (es : List Hop). AreUnderWay state hops others es after first) (sym c.in_ok-push.ensures.items)
    (AreUnderWay-more state hops (get_or rest 0 nowhere) others explained steps first under c.start_of-next.result c.in_ok-explain_hop.field-0 after c.start_of-next.ensures.value done.con done.place done.explained)

pub returns : goal.returns
returns c =
    let state = c.args.classes.now in
    let hops = c.args.hops.now in
    let rest = c.loop-rest.rest.now in
    let explained = c.loop-rest.explained.items in
    let steps = c.loop-rest.proof.steps.items in
    let first = c.start_of-first.result in
    let none : rest ≡ [] = nil_from_length rest (omega (arith, c.in_default.len_below)) in
    record { explained = AreUnderWay-end state hops explained steps first c.requires.cycle (subst (λ (xs : List (TermId × ℕ)). AreUnderWay state hops xs explained steps first) none c.loop-rest.invariant) }
