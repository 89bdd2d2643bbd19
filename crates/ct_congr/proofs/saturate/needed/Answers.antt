use Rattle.std.proofs.Common.{List, slice_get, sym, ap, ◌∙◌}
use Rattle.std.proofs.lemmas.Option.{none-some}
use Rattle.ct_congr.specs.declared.merge.Merge.{Merge}
use Rattle.ct_congr.specs.Needed.{AreNeeded}
use Rattle.ct_congr.proofs.RuleLemmas.{rules_closed}
use Rattle.ct_congr.proofs.saturate.needed.Goals as goal

pub returns-clause-needed : goal.returns-clause-needed
returns-clause-needed c = λ hyps.
    let d = c.args.sig.now in
    let none : AreNeeded d c.args.table.now hyps c.args.reps.now c.new-found.result.items = λ k m at. absurd (none-some m (ap (λ (list : List Merge). slice_get list k) (sym c.new-found.ensures.items) ∙ at)) in
    c.in_ok-singles.ensures.needed d hyps c.requires.single (c.in_ok-at_terms.ensures.needed hyps (c.in_ok-injections.ensures.needed hyps (c.in_ok-congruences.ensures.needed d hyps none)))

pub returns-clause-closed : goal.returns-clause-closed
returns-clause-closed c = λ none.
    let d = c.args.sig.now in
    let fourth = c.in_ok-singles.ensures.closed none in
    let third = c.in_ok-at_terms.ensures.closed fourth.0 in
    let second = c.in_ok-injections.ensures.closed (c.in_ok-at_terms.ensures.none fourth.0) in
    let first = c.in_ok-congruences.ensures.closed second.0 in
    rules_closed d c.args.table.now c.args.reps.now first.1 second.1 (third second.1) (fourth.1 d c.requires.single)
