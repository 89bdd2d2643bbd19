use Rattle.std.proofs.Common.{◌-◌, length, sym, ◌∙◌, arith}
use Rattle.ct_terms.specs.Clause.{opposites}
use Rattle.ct_log.specs.Acceptance.{clauses_of}
use Rattle.ct_log.proofs.LookLemmas.{above_zero}
use Rattle.ct_log.proofs.PropagatedLemmas.{Rup-none, Rup-stop, Rup-told}
use Rattle.ct_log.proofs.propagation.follows.Goals as goal

pub returns-then-is_empty-clause-follows : goal.returns-then-is_empty-clause-follows
returns-then-is_empty-clause-follows c = λ clause marked. (λ e. cc, λ rup. absurd (Rup-none (clauses_of c.args.lines.now) c.args.hints.now clause (sym c.is_empty.ensures ∙ c.if-is_empty.true) rup))

pub returns-then-not-propagates-clause-follows : goal.returns-then-not-propagates-clause-follows
returns-then-not-propagates-clause-follows c = λ clause marked.
    let some = above_zero (length c.args.hints.now) (sym c.is_empty.ensures ∙ c.if-is_empty.false) in
    (λ e. cc, λ rup. absurd (Rup-stop (clauses_of c.args.lines.now) c.args.hints.now clause (length c.args.hints.now - 1) (omega (arith, some)) (c.if-not-propagates.ensures.settles (opposites clause) marked) rup))

pub returns-clause-follows : goal.returns-clause-follows
returns-clause-follows c = λ clause marked.
    let some = above_zero (length c.args.hints.now) (sym c.is_empty.ensures ∙ c.if-is_empty.false) in
    let h = c.if-not-propagates.ensures.settles (opposites clause) marked in
    Rup-told (clauses_of c.args.lines.now) c.args.hints.now clause (length c.args.hints.now - 1) (omega (arith, some)) c.is_false_at.result h.0 h.1 (c.is_false_at.ensures.refuted h.0 h.2)
