use Rattle.std.proofs.Common.{◌≡◌, ◌∙◌, List, drop, All, sym, ap, subst}
use Rattle.ct_sorts.specs.Declarations.{Declarations}
use Rattle.ct_terms.specs.Terms.{Terms}
use Rattle.ct_log.specs.declared.line.Line.{Line}
use Rattle.ct_log.specs.Recorded.{Recorded}
use Rattle.ct_kept.specs.Lemmas.{IsAcceptedLemma, theory_lemmas}
use Rattle.ct_kept.proofs.AcceptedLemmas.{rest_accepted}
use Rattle.ct_kept.proofs.taking.take_after.Goals as goal

pub take_lines-requires-clause-accepted : goal.take_lines-requires-clause-accepted
take_lines-requires-clause-accepted c =
    let x = c.args.derivation.now in
    let rest = drop c.args.first x.rec.lines in
    let table : c.table.result.now ≡ x.rec.terms = c.table.ensures.value ∙ ap (λ (r : Recorded). r.terms) c.rec-rec.ensures.value in
    let lines : c.after-lines.result.now ≡ rest = c.after-lines.ensures.value ∙ ap (drop c.args.first) (c.lines.ensures.value ∙ ap (λ (r : Recorded). r.lines) c.rec-rec.ensures.value) in
    subst (λ (ls : List Line). All (IsAcceptedLemma c.args.sig.now c.table.result.now) (theory_lemmas ls)) (sym lines)
    (subst (λ (ts : Terms). All (IsAcceptedLemma c.args.sig.now ts) (theory_lemmas rest)) (sym table)
    (subst (λ (d : Declarations). All (IsAcceptedLemma d x.rec.terms) (theory_lemmas rest)) c.requires.declarations
    (rest_accepted x.declarations x.rec.terms x.asserts c.args.first x.rec.lines c.rec-rec.ensures.derivation.accepted)))
