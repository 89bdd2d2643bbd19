use Rattle.std.proofs.Common.{refl, sym, subst, ◌∙◌, ⊎_elim, arith}
use Rattle.std.proofs.lemmas.Bool.{false≢true}
use Rattle.std.proofs.lemmas.Option.{slice_get_within}
use Rattle.ct_lemmas.proofs.Numbers.{last_or_before}
use Rattle.ct_generics.specs.Search.{IsBack}
use Rattle.ct_generics.proofs.SearchLemmas.{back_mixed, mixed_back}
use Rattle.ct_generics.proofs.search.is_mixed.Goals as goal

pub returns-then-branch-clause-mixed : goal.returns-then-branch-clause-mixed
returns-then-branch-clause-mixed c = (λ _. back_mixed c.args.graph.now c.loop-y.y (c.in_ok-is_back.ensures.back.0 c.if-branch.true), λ _. refl)

pub loop-y-preserved : goal.loop-y-preserved
loop-y-preserved c k less back =
    ⊎_elim (λ before. c.loop-y.invariant k before back) (λ last. false≢true (sym c.if-branch.false ∙ c.in_ok-is_back.ensures.back.1 (subst (λ j. IsBack c.args.graph.now j) last back))) (last_or_before k c.loop-y.y less)

pub returns-clause-mixed : goal.returns-clause-mixed
returns-clause-mixed c =
    let g = c.args.graph.now in (
      λ h. absurd (false≢true h),
      λ mixed.
          let found = mixed_back g c.requires.ends mixed in
          let within = slice_get_within g found.0 found.1.0.0 found.1.0.1 in
          absurd (c.loop-y.invariant found.0 (omega (arith, within, c.loop-y-test.false)) found.1),
    )
