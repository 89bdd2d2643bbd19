use Rattle.std.proofs.Common.{◌≡◌, Bool, not, arith, refl, sym, ap, subst, ◌∙◌}
use Rattle.std.proofs.lemmas.Option.{none-some}
use Rattle.ct_terms.specs.declared.term.Core.TheVariants.{Not}
use Rattle.ct_rules.specs.Rules.{IsNegation, truth_term}
use Rattle.ct_congr.specs.Partition.{InOneClass}
use Rattle.ct_congr.specs.Covered.{HasCon}
use Rattle.ct_congr.specs.Joined.{AreJoined}
use Rattle.ct_congr.proofs.TermLemmas.{Has-inside}
use Rattle.ct_congr.proofs.AtTermLemmas.{HasCon-same, HasCon-equal, rep_inside, Negates-rule, IsNegation-value, truth_same}
use Rattle.ct_congr.proofs.at_term.negate_at.Goals as goal
use Rattle.ct_congr.proofs.at_term.negate_at.Goals.{In-Some}

-- the constructor term that is stored for the class of what is negated
stored : (c : In-Some) → HasCon c.args.reps.now c.args.cons.now c.args.a c.in-Some.con
stored c = (c.con_at.ensures.value c.in-Some.con).0 c.in-Some.is

pub con_at-requires-clause-own : goal.con_at-requires-clause-own
con_at-requires-clause-own c = rep_inside c.args.table.now c.args.reps.now c.args.cons.now c.requires.grouped c.args.a

pub let_wait-requires-clause-left : goal.let_wait-requires-clause-left
let_wait-requires-clause-left c = omega (arith, Has-inside c.args.table.now (Not c.args.a) c.args.t.0 c.requires.stands, c.requires.grouped.long)

pub returns-in_default-clause-covered : goal.returns-in_default-clause-covered
returns-in_default-clause-covered c = λ y rule.
    let n = Negates-rule c.args.table.now c.args.reps.now c.args.cons.now c.args.t c.args.a c.requires.stands y rule in
    absurd (none-some (truth_term n.value) (sym c.in_default.is ∙ (c.con_at.ensures.value (truth_term n.value)).1 n.has))

pub returns-in_default-truth_of-clause-covered : goal.returns-in_default-truth_of-clause-covered
returns-in_default-truth_of-clause-covered c = λ y rule.
    let n = Negates-rule c.args.table.now c.args.reps.now c.args.cons.now c.args.t c.args.a c.requires.stands y rule in
    let is = HasCon-same c.args.reps.now c.args.cons.now c.args.a c.in-Some.con (truth_term n.value) (stored (goal.at.returns-in_default-truth_of-clause-covered c).In-Some) n.has in
    absurd (none-some n.value (sym c.in_default-truth_of.is ∙ (c.truth_of.ensures.value n.value).1 is))

pub returns-clause-waits : goal.returns-clause-waits
returns-clause-waits c = λ d.
    let terms = c.args.table.now in
    let reps = c.args.reps.now in
    let value = c.in-Some-truth_of.value in
    let is : c.in-Some.con ≡ truth_term value = (c.truth_of.ensures.value value).0 c.in-Some-truth_of.is in
    let equal : InOneClass reps c.args.a (truth_term value) = subst (InOneClass reps c.args.a) is (HasCon-equal terms reps c.args.cons.now c.requires.grouped c.args.a c.in-Some.con (stored (goal.at.returns-clause-waits c).In-Some)) in
    c.in_ok-let_wait.ensures.waits d terms (refl, subst (IsNegation terms (InOneClass reps) c.args.t) (sym c.truth.ensures.value) (IsNegation-value terms reps c.args.cons.now c.args.t c.args.a c.requires.stands value equal)) tt

pub returns-clause-covered : goal.returns-clause-covered
returns-clause-covered c = λ y rule.
    let terms = c.args.table.now in
    let reps = c.args.reps.now in
    let n = Negates-rule terms reps c.args.cons.now c.args.t c.args.a c.requires.stands y rule in
    let value = c.in-Some-truth_of.value in
    let is : c.in-Some.con ≡ truth_term value = (c.truth_of.ensures.value value).0 c.in-Some-truth_of.is in
    let same = HasCon-same reps c.args.cons.now c.args.a (truth_term n.value) c.in-Some.con n.has (stored (goal.at.returns-clause-covered c).In-Some) in
    let one : n.value ≡ value = truth_same n.value value (same ∙ is) in
    subst (AreJoined reps c.let_wait.new.waiting.items c.args.t) (c.truth.ensures.value ∙ (ap (λ (v : Bool). truth_term (not v)) (sym one) ∙ sym n.answer)) c.in_ok-let_wait.ensures.joined
