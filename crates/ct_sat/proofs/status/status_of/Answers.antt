use Rattle.std.proofs.Common.{false, get_or, take, subst}
use Rattle.std.proofs.lemmas.List.{take_more, take_all}
use Rattle.std.proofs.lemmas.List.Elements.{Contains-get_or}
use Rattle.ct_lemmas.proofs.Contained.{Contains-take}
use Rattle.ct_terms.specs.declared.ids.Lit.{Lit}
use Rattle.ct_terms.specs.Propagation.{AreFalseIn}
use Rattle.ct_sat.proofs.StatusLemmas.{IsSeen-false, IsSeen-unset, IsSettled-another}
use Rattle.ct_sat.proofs.status.status_of.Goals as goal
use Rattle.ct_sat.proofs.status.status_of.Goals.{in-False, in-Unset+else-is_another}

abbrev default : Lit
default = record { term = record { 0 = 0 }; positive = false }

pub returns-then-is_another : goal.returns-then-is_another
returns-then-is_another c =
    let p = c.if-is_another.ensures.value in
    record {
      status = IsSettled-another c.args.trail.now.literals c.args.clause.now (take c.loop-literal.literal-index c.args.clause.now) (get_or c.args.clause.now c.loop-literal.literal-index default) p.0 c.loop-literal.unit
          (λ k h. Contains-take c.loop-literal.literal-index c.args.clause.now k h) c.loop-literal.invariant p.1 p.2
          (Contains-get_or c.args.clause.now c.loop-literal.literal-index default c.loop-literal-test.true) c.in-Unset.ensures.value;
    }

pub loop-literal-preserved : goal.loop-literal-preserved
loop-literal-preserved c = elim c.match-value.branch [
  | in-False w ↦ rw (w.unit-is, take_more c.args.clause.now c.loop-literal.literal-index default c.loop-literal-test.true)
      (IsSeen-false c.args.trail.now.literals (take c.loop-literal.literal-index c.args.clause.now) (get_or c.args.clause.now c.loop-literal.literal-index default) c.loop-literal.unit c.loop-literal.invariant w.in-False.ensures.value)
  | in-Unset+else-is_another w ↦ rw (w.unit-is, take_more c.args.clause.now c.loop-literal.literal-index default c.loop-literal-test.true)
      (IsSeen-unset c.args.trail.now.literals (take c.loop-literal.literal-index c.args.clause.now) (get_or c.args.clause.now c.loop-literal.literal-index default) c.loop-literal.unit c.loop-literal.invariant w.in-Unset.ensures.value w.if-is_another.ensures.value)
]

pub returns-in-None : goal.returns-in-None
returns-in-None c =
    let seen = rw c.in-None.is at c.loop-literal.invariant in
    record { status = subst (AreFalseIn c.args.trail.now.literals) (take_all c.loop-literal.literal-index c.args.clause.now c.loop-literal-test.false) seen }
