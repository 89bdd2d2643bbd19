use Rattle.std.proofs.Common.{◌≡◌, ◌∙◌, List, Some, sym, ap, subst}
use Rattle.ct_sorts.specs.Consistent.{IsConsistent}
use Rattle.ct_sorts.specs.Declarations.{Declarations}
use Rattle.ct_stack.specs.Stack.{Context}
use Rattle.ct_step.specs.State.{derived_kept}
use Rattle.ct_step.specs.Done.{kept_of}
use Rattle.ct_step.proofs.PrintLemmas.{kept_refutes, kept_box, never_refused}
use Rattle.ct_card.specs.Sizes.{AreSizes}
use Rattle.ct_base.specs.declared.base.Base.{Base}
use Rattle.ct_base.specs.Base.{IsBase}
use Rattle.ct_step.proofs.cores.kept_core.Goals as goal

pub core_of_derivation-core-requires : goal.core_of_derivation-core-requires
core_of_derivation-core-requires c =
    let s = c.args.state.now in
    let d = c.in-Some.derivation.now in
    let is = ap (λ (x : Context). x.declarations) c.scope.ensures.value in
    let stands : derived_kept (kept_of s.last s.kept) ≡ Some d = sym c.in-Some.ensures.value in
    let own = kept_refutes c.meanings.ensures.assertions c.cores_of_refutations.ensures.refuted s c.requires.sound c.scope.ensures.sound (subst IsConsistent is c.sorts.ensures.consistent) d stands in
    record {
      sizes = subst (AreSizes c.scope.result.now.sig) (sym (c.sizes.ensures.value ∙ ap (λ (b : Base). b.sizes) c.deref.ensures)) c.in_ok-base.ensures.sizes;
      declarations = own.4.declarations ∙ sym is;
    }

pub returns : goal.returns
returns c =
    let s = c.args.state.now in
    let d = c.in-Some.derivation.now in
    let is = ap (λ (x : Context). x.declarations) c.scope.ensures.value in
    let stands : derived_kept (kept_of s.last s.kept) ≡ Some d = sym c.in-Some.ensures.value in
    let r = c.core_of_derivation-core.result in
    record {
      core =
          kept_box c.meanings.ensures.assertions c.cores_of_refutations.ensures.refuted s c.requires.sound c.scope.ensures.sound (subst IsConsistent is c.sorts.ensures.consistent) d stands c.scope.result.now.sig is r c.core_of_derivation-core.ensures.core
          c.core_of_derivation-core.ensures.passes;
      cache = (subst (λ (d : Declarations). IsBase d c.in_ok-base.base.value) is c.in_ok-base.ensures.base, c.requires.cache.1);
      refused = λ n e. absurd (never_refused r c.core_of_derivation-core.ensures.err n e);
    }
