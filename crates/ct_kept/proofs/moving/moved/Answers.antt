use Rattle.std.proofs.Common.{◌≡◌, ◌∙◌, ◌++◌, List, sym, ap, subst, true≢false}
use Rattle.std.specs.List.{AllByRecursion}
use Rattle.std.proofs.lemmas.List.Elements.{All-from_recursion, recursion_from_All}
use Rattle.ct_terms.specs.declared.ids.TermId.{TermId}
use Rattle.ct_restriction.specs.Renumbered.{IsKnown}
use Rattle.ct_kept.specs.Lemmas.{lemma_terms}
use Rattle.ct_kept.proofs.moving.moved.Goals as goal

pub returns-then-not-knows : goal.returns-then-not-knows
returns-then-not-knows c =
    let n = c.args.numbers.now in
    let all_terms = lemma_terms (record { clause = c.args.clause.now; steps = c.args.steps.now; close = c.args.close.now }) in
    let are : c.deref.result.now ≡ all_terms = c.deref.ensures.value ∙ (c.in_ok-push_terms.ensures.terms ∙ ap (λ (ts : List TermId). ts ++ all_terms) c.new-terms.ensures.items) in
    record {
      moved = λ all. true≢false (sym (c.knows.ensures.known.1 (subst (AllByRecursion (IsKnown n)) (sym are) (recursion_from_All (IsKnown n) all_terms all))) ∙ c.if-not-knows.true);
    }

pub returns : goal.returns
returns c =
    let n = c.args.numbers.now in
    let all_terms = lemma_terms (record { clause = c.args.clause.now; steps = c.args.steps.now; close = c.args.close.now }) in
    let are : c.deref.result.now ≡ all_terms = c.deref.ensures.value ∙ (c.in_ok-push_terms.ensures.terms ∙ ap (λ (ts : List TermId). ts ++ all_terms) c.new-terms.ensures.items) in
    record {
      moved = (All-from_recursion (IsKnown n) all_terms (subst (AllByRecursion (IsKnown n)) are (c.knows.ensures.known.0 c.if-not-knows.false)), c.in_ok-lemma.ensures.renamed);
    }
