use Rattle.std.proofs.Common.{◌≡◌, Some, sym, ap, ◌∙◌}
use Rattle.std.proofs.lemmas.Bool.Decides.{Decides-eqb}
use Rattle.ct_terms.specs.declared.ids.TermId.{TermId}
use Rattle.ct_equivalence.proofs.parents.ends_with.Goals as goal

pub returns : goal.returns
returns c = record {
  last = λ same.
      let one : c.in-Some.last.now ≡ c.args.p = λ i. record { 0 = (Decides-eqb c.in-Some.last.now.0 c.args.p.0).0 same i } in
      sym c.in-Some.ensures.value ∙ ap (λ (t : TermId). Some t) one;
}
