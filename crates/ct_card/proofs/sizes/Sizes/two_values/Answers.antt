use Rattle.std.proofs.Common.{◌≡◌, List, ℕ, get_or, refl, sym, ◌∙◌, ap, subst, arith}
use Rattle.std.proofs.lemmas.Option.{none-some}
use Rattle.ct_values.specs.declared.node.NodeId.{NodeId}
use Rattle.ct_values.specs.Agreement.{node_point, AgreeAlways}
use Rattle.ct_values.specs.Fitting.{HasNodeSort}
use Rattle.ct_card.specs.Rules.{IsDerived}
use Rattle.ct_card.specs.Ranked.{AreSeveral}
use Rattle.ct_card.specs.Defaults.{node_of_sort}
use Rattle.ct_card.specs.Sizes.{Table}
use Rattle.ct_card.proofs.SizeLemmas.{single_unranked, not_single_ranked}
use Rattle.ct_card.proofs.sizes.Sizes.two_values.Goals as goal

pub returns-then-several-s-eq0-clause-none : goal.returns-then-several-s-eq0-clause-none
returns-then-several-s-eq0-clause-none c =
    let d = c.args.sig.now in
    let k = c.sorts.ensures.consistent in
    let several = c.as_slice-several.result.now in
    let same : several ≡ c.args.self.now.several = c.as_slice-several.ensures.value ∙ ap (λ (t : Table). t.several) c.self.view_is in
    let sev : AreSeveral d several = subst (λ (l : List ℕ). AreSeveral d l) (sym same) c.requires.sizes.several in
    let none : get_or several c.args.s.0 0 ≡ 0 = c.if-several-s-eq0.true in
    (λ _. single_unranked d k (c.structure.ensures.own_constructors d k) several sev c.args.s.0 c.requires.inside (λ h. omega (arith, h, none)), λ _. refl)

pub returns-clause-none : goal.returns-clause-none
returns-clause-none c =
    let d = c.args.sig.now in
    let k = c.sorts.ensures.consistent in
    let several = c.as_slice-several.result.now in
    let same : several ≡ c.args.self.now.several = c.as_slice-several.ensures.value ∙ ap (λ (t : Table). t.several) c.self.view_is in
    let sev : AreSeveral d several = subst (λ (l : List ℕ). AreSeveral d l) (sym same) c.requires.sizes.several in
    let some : get_or several c.args.s.0 0 ≡ 0 → ⊥ = c.if-several-s-eq0.false in
    let derived : IsDerived several c.args.s.0 = omega (arith, some) in
    (λ e. absurd (none-some _ (sym e)), λ single. absurd (not_single_ranked d k (c.structure.ensures.own_constructors d k) several sev c.args.s.0 derived single))

pub returns-clause-sorted : goal.returns-clause-sorted
returns-clause-sorted c =
    let several = c.as_slice-several.result.now in
    let some : get_or several c.args.s.0 0 ≡ 0 → ⊥ = c.if-several-s-eq0.false in
    let derived : IsDerived several c.args.s.0 = omega (arith, some) in (
      subst (λ (n : NodeId). HasNodeSort c.args.sig.now c.append_seconds.new.g n c.args.s) (sym c.node_of_sort-first.ensures.value) (c.in_ok-second.ensures.defaults.sorted c.args.s.0 c.requires.inside),
      subst (λ (n : NodeId). HasNodeSort c.args.sig.now c.append_seconds.new.g n c.args.s) (sym c.second_node.ensures.value) ((c.in_ok-second.ensures.seconds c.args.s.0 derived).sorted),
    )

pub returns-clause-differ : goal.returns-clause-differ
returns-clause-differ c = λ same.
    let g = c.append_seconds.new.g in
    let several = c.as_slice-several.result.now in
    let some : get_or several c.args.s.0 0 ≡ 0 → ⊥ = c.if-several-s-eq0.false in
    let derived : IsDerived several c.args.s.0 = omega (arith, some) in
    c.in_ok-second.ensures.differ c.args.s.0 derived
    (subst (λ (z : NodeId). AgreeAlways (node_point g z) (node_point g (node_of_sort c.in_ok-second.second several c.args.s.0))) c.node_of_sort-first.ensures.value
    (subst (λ (z : NodeId). AgreeAlways (node_point g c.node_of_sort-first.result) (node_point g z)) c.second_node.ensures.value same))
