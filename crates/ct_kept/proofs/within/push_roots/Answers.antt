use Rattle.std.proofs.Common.{◌≡◌, ◌∙◌, ◌++◌, List, All, Contains, sym, ap, subst, true≢false}
use Rattle.std.specs.List.{AllByRecursion}
use Rattle.std.proofs.lemmas.List.Elements.{recursion_from_All, All-from_recursion, All-append}
use Rattle.ct_terms.specs.declared.ids.TermId.{TermId}
use Rattle.ct_terms.specs.declared.ids.Lit.{Lit}
use Rattle.ct_log.specs.declared.rules.EqStep.{EqStep}
use Rattle.ct_restriction.specs.Restricted.{IsMarked}
use Rattle.ct_kept.specs.declared.lemma.Lemma.{Lemma}
use Rattle.ct_kept.specs.Lemmas.{lemma_terms}
use Rattle.ct_kept.proofs.WithinLemmas.{contains_second}
use Rattle.ct_kept.proofs.within.push_roots.Goals as goal

pub returns-then-not-are_marked-clause-all : goal.returns-then-not-are_marked-clause-all
returns-then-not-are_marked-clause-all c = λ all.
    let lemma = c.args.lemma.now in
    let given : Lemma = record { clause = c.as_slice-clause.result.now; steps = c.as_slice.result.now; close = lemma.close } in
    let same : given ≡ lemma =
    ap (λ (ls : List Lit). record { clause = ls; steps = c.as_slice.result.now; close = lemma.close }) c.as_slice-clause.ensures.value
    ∙ ap (λ (ss : List EqStep). record { clause = lemma.clause; steps = ss; close = lemma.close }) c.as_slice.ensures.value in
    let are : c.deref.result.now ≡ lemma_terms lemma = c.deref.ensures.value ∙ (c.in_ok-push_terms.ensures.terms ∙ (ap (λ (ts : List TermId). ts ++ lemma_terms given) c.new-terms.ensures.items ∙ ap lemma_terms same)) in
    absurd (true≢false (sym (c.are_marked.ensures.marked.1 (subst (AllByRecursion (IsMarked c.args.marks.now)) (sym are) (recursion_from_All (IsMarked c.args.marks.now) (lemma_terms lemma) all))) ∙ c.if-not-are_marked.true))

pub returns-clause-marked : goal.returns-clause-marked
returns-clause-marked c = λ before.
    let marks = c.args.marks.now in
    let terms : c.deref-2.result.now ≡ c.deref.result.now = c.deref-2.ensures.value ∙ sym c.deref.ensures.value in
    subst (All (IsMarked marks)) (sym c.in_ok-extend_from_slice.ensures.items)
    (All-append (IsMarked marks) c.args.roots.now.items c.deref-2.result.now before
    (subst (All (IsMarked marks)) (sym terms) (All-from_recursion (IsMarked marks) c.deref.result.now (c.are_marked.ensures.marked.0 c.if-not-are_marked.false))))

pub returns-clause-all : goal.returns-clause-all
returns-clause-all c = λ all.
    let lemma = c.args.lemma.now in
    let given : Lemma = record { clause = c.as_slice-clause.result.now; steps = c.as_slice.result.now; close = lemma.close } in
    let same : given ≡ lemma =
    ap (λ (ls : List Lit). record { clause = ls; steps = c.as_slice.result.now; close = lemma.close }) c.as_slice-clause.ensures.value
    ∙ ap (λ (ss : List EqStep). record { clause = lemma.clause; steps = ss; close = lemma.close }) c.as_slice.ensures.value in
    let are : c.deref-2.result.now ≡ lemma_terms lemma = c.deref-2.ensures.value ∙ (c.in_ok-push_terms.ensures.terms ∙ (ap (λ (ts : List TermId). ts ++ lemma_terms given) c.new-terms.ensures.items ∙ ap lemma_terms same)) in
    subst (λ (rs : List TermId). All (Contains rs) (lemma_terms lemma)) (sym (c.in_ok-extend_from_slice.ensures.items ∙ ap (λ (ts : List TermId). c.args.roots.now.items ++ ts) are)) (contains_second c.args.roots.now.items (lemma_terms lemma))
