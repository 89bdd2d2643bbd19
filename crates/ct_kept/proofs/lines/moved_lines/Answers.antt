use Rattle.std.proofs.Common.{◌↔◌, ◌∙◌, get_or, MatchOption, subst}
use Rattle.ct_terms.specs.declared.ids.TermId.{TermId}
use Rattle.ct_terms.specs.Terms.{Terms}
use Rattle.ct_restriction.specs.Renumbered.{IsEqualTerm, IsNumber}
use Rattle.ct_kept.specs.declared.lemma.Lemma.{Lemma}
use Rattle.ct_kept.specs.Kept.{IsLineOf, IsUsable}
use Rattle.ct_kept.proofs.ChosenLemmas.{chosen_next}
use Rattle.ct_kept.proofs.lines.moved_lines.Goals as goal

pub loop-lemma-preserved : goal.loop-lemma-preserved
loop-lemma-preserved c =
    let d = c.args.sig.now in
    let from = c.args.kept.now.table in
    let to = c.args.terms.now in
    let item = c.lemma-item.result in
    let exact = subst (λ (ts : Terms). (t u : TermId) → IsEqualTerm ts to t u ↔ IsNumber c.in_ok-numbers.numbers t u) c.table.ensures.value c.in_ok-numbers.ensures.exact in
    let found = subst (λ (l : Lemma). MatchOption c.in_ok-found.found (IsUsable d from to l → ⊥) (IsLineOf d from to l)) c.lemma-item.is (c.in_ok-found.ensures.line from exact) in
    let whole = get_or c.lemmas-lemmas.result.now c.loop-lemma.lemma-index item in
    record {
      chosen = chosen_next (IsUsable d from to) (IsLineOf d from to) (IsLineOf d from to whole) c.lemmas-lemmas.result.now c.loop-lemma.lemma-index item c.loop-lemma-test.true c.loop-lemma.lines.items c.push_found.new.lines.items c.in_ok-found.found c.loop-lemma.invariant.chosen
          (λ line is. ((line, is), is)) found c.in_ok-push_found.ensures.pushed;
      room = c.in_ok-found.ensures.room ∙ c.loop-lemma.invariant.room;
    }
