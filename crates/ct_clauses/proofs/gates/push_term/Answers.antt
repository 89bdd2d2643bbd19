use Rattle.std.proofs.Common.{◌≡◌, List, sym, ap, subst, ◌∙◌}
use Rattle.ct_lemmas.proofs.Options.{OnOk-then}
use Rattle.ct_terms.specs.declared.ids.TermId.{TermId}
use Rattle.ct_terms.specs.declared.term.Core.{Core}
use Rattle.ct_terms.specs.declared.term.Core.TheVariants as core
use Rattle.ct_clauses.specs.Initial.{gates_of}
use Rattle.ct_clauses.specs.Growth.{HaveGates}
use Rattle.ct_clauses.proofs.GateLemmas.{Has-same}
use Rattle.ct_clauses.proofs.gates.push_term.Goals as goal

pub returns-in-And-clause-grown : goal.returns-in-And-clause-grown
returns-in-And-clause-grown c =
    let table = c.args.table.now in
    OnOk-then c.push_conjunction.result c.push_conjunction.ensures.grown
    (λ h k sort at.
    let same : core.And c.as_slice.result.now ≡ k = ap (λ (ts : List TermId). core.And ts) c.as_slice.ensures.value ∙ sym c.in-And.is ∙ Has-same table c.core.result.now k c.args.t.0 c.core.ensures.value (sort, at) in
    subst (λ (b : Core). HaveGates table c.args.lines.now.items c.push_conjunction.new.lines.items (gates_of c.args.t b sort)) same h)

pub returns-in-Or-clause-grown : goal.returns-in-Or-clause-grown
returns-in-Or-clause-grown c =
    let table = c.args.table.now in
    OnOk-then c.push_disjunction.result c.push_disjunction.ensures.grown
    (λ h k sort at.
    let same : core.Or c.as_slice-in-Or.result.now ≡ k = ap (λ (ts : List TermId). core.Or ts) c.as_slice-in-Or.ensures.value ∙ sym c.in-Or.is ∙ Has-same table c.core.result.now k c.args.t.0 c.core.ensures.value (sort, at) in
    subst (λ (b : Core). HaveGates table c.args.lines.now.items c.push_disjunction.new.lines.items (gates_of c.args.t b sort)) same h)

pub returns-in-Iff-clause-grown : goal.returns-in-Iff-clause-grown
returns-in-Iff-clause-grown c =
    let table = c.args.table.now in
    OnOk-then c.push_equivalence.result c.push_equivalence.ensures.grown
    (λ h k sort at.
    let same : core.Iff c.in-Iff.a c.in-Iff.b ≡ k = sym c.in-Iff.is ∙ Has-same table c.core.result.now k c.args.t.0 c.core.ensures.value (sort, at) in
    subst (λ (b : Core). HaveGates table c.args.lines.now.items c.push_equivalence.new.lines.items (gates_of c.args.t b sort)) same h)

pub returns-in-Ite-clause-grown : goal.returns-in-Ite-clause-grown
returns-in-Ite-clause-grown c =
    let table = c.args.table.now in
    OnOk-then c.push_choice.result c.push_choice.ensures.grown
    (λ h k sort at.
    let same : core.Ite c.in-Ite.c c.in-Ite.a c.in-Ite.b ≡ k = sym c.in-Ite.is ∙ Has-same table c.core.result.now k c.args.t.0 c.core.ensures.value (sort, at) in
    subst (λ (b : Core). HaveGates table c.args.lines.now.items c.push_choice.new.lines.items (gates_of c.args.t b sort)) same (h sort (k, at)))
