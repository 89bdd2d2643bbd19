use Rattle.std.proofs.Common.{refl, subst, ◌∙◌}
use Rattle.ct_theory.specs.declared.turn.Turn.{Turn}
use Rattle.ct_theory.specs.Consulting.{IsTurn}
use Rattle.ct_theory.proofs.AnswerLemmas.{AreAllStripped-under}
use Rattle.ct_theory.proofs.ReadyLemmas.{IsUnderWay-ready, IsReady-under}
use Rattle.ct_theory.proofs.answer.answer.Goals as goal

pub turns-init : goal.turns-init
turns-init c = record { under_way = IsUnderWay-ready c.args.classes.now c.requires.ready; forest = c.requires.forest; marks = refl }

pub take_turn-requires : goal.take_turn-requires
take_turn-requires c =
    let old = c.args.classes.now in
    record { forest = c.turns.invariant.forest; stripped = AreAllStripped-under old.declarations old.terms old.hypotheses c.turns.classes c.turns.invariant.under_way c.requires.stripped }

pub returns-in-Conflict-clause-consulted : goal.returns-in-Conflict-clause-consulted
returns-in-Conflict-clause-consulted c =
    let old = c.args.classes.now in
    subst (λ (t : Turn). IsTurn old.declarations old.terms old.hypotheses c.turns.classes c.take_turn.new.classes t) c.in-Conflict.is
    (c.in_ok-conflict.ensures.turn old.declarations old.terms old.hypotheses c.turns.invariant.under_way)

pub returns-in-Saturated-clause-ready : goal.returns-in-Saturated-clause-ready
returns-in-Saturated-clause-ready c =
    let old = c.args.classes.now in
    IsReady-under old c.take_turn.new.classes (c.in_ok-conflict.ensures.under_way old.declarations old.terms old.hypotheses c.turns.invariant.under_way) (c.in_ok-conflict.ensures.marks ∙ c.turns.invariant.marks) c.requires.ready

pub returns-in-Saturated-clause-consulted : goal.returns-in-Saturated-clause-consulted
returns-in-Saturated-clause-consulted c =
    let old = c.args.classes.now in
    subst (λ (t : Turn). IsTurn old.declarations old.terms old.hypotheses c.turns.classes c.take_turn.new.classes t) c.in-Saturated.is
    (c.in_ok-conflict.ensures.turn old.declarations old.terms old.hypotheses c.turns.invariant.under_way)

pub turns-smaller : goal.turns-smaller
turns-smaller c =
    let old = c.args.classes.now in
    subst (λ (t : Turn). IsTurn old.declarations old.terms old.hypotheses c.turns.classes c.take_turn.new.classes t) c.in-Merged.is
    (c.in_ok-conflict.ensures.turn old.declarations old.terms old.hypotheses c.turns.invariant.under_way)

pub turns-preserved : goal.turns-preserved
turns-preserved c =
    let old = c.args.classes.now in
    record {
      under_way = c.in_ok-conflict.ensures.under_way old.declarations old.terms old.hypotheses c.turns.invariant.under_way;
      forest = c.in_ok-conflict.ensures.forest;
      marks = c.in_ok-conflict.ensures.marks ∙ c.turns.invariant.marks;
    }

pub returns-in-Conflict-clause-hypotheses : goal.returns-in-Conflict-clause-hypotheses
returns-in-Conflict-clause-hypotheses c =
    let old = c.args.classes.now in
    (c.in_ok-conflict.ensures.under_way old.declarations old.terms old.hypotheses c.turns.invariant.under_way).hypotheses

pub returns-in-Saturated-clause-hypotheses : goal.returns-in-Saturated-clause-hypotheses
returns-in-Saturated-clause-hypotheses c =
    let old = c.args.classes.now in
    (c.in_ok-conflict.ensures.under_way old.declarations old.terms old.hypotheses c.turns.invariant.under_way).hypotheses

pub returns-in-Conflict-clause-ready : goal.returns-in-Conflict-clause-ready
returns-in-Conflict-clause-ready c =
    let old = c.args.classes.now in
    IsReady-under old c.take_turn.new.classes (c.in_ok-conflict.ensures.under_way old.declarations old.terms old.hypotheses c.turns.invariant.under_way) (c.in_ok-conflict.ensures.marks ∙ c.turns.invariant.marks) c.requires.ready
