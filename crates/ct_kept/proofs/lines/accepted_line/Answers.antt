use Rattle.std.proofs.Common.{[], refl, sym, ◌∙◌, true≢false}
use Rattle.ct_kept.proofs.MovedLemmas.{accepted_alone, accepted_after}
use Rattle.ct_kept.proofs.lines.accepted_line.Goals as goal

pub returns-then-is_accepted-clause-line : goal.returns-then-is_accepted-clause-line
returns-then-is_accepted-clause-line c =
    (accepted_alone c.args.sig.now c.args.terms.now c.args.asserts.now [] c.args.lemma (c.is_accepted.ensures.exact.0 c.if-is_accepted.true), refl)

pub returns-clause-line : goal.returns-clause-line
returns-clause-line c = λ accepted.
    true≢false (sym (c.is_accepted.ensures.exact.1 (accepted_after c.args.sig.now c.args.terms.now c.args.asserts.now [] c.args.lemma accepted)) ∙ c.if-is_accepted.false)
