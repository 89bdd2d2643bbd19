use Rattle.std.proofs.Common.{◌∙◌, ℕ, sym, ap, subst}
use Rattle.ct_lemmas.proofs.Options.{IfOk-map}
use Rattle.ct_terms.specs.Terms.{Terms}
use Rattle.ct_card.specs.Sizes.{AreSizes}
use Rattle.ct_base.specs.declared.base.Base.{Base}
use Rattle.ct_core.specs.declared.unsat_core.UnsatCore.{UnsatCore}
use Rattle.ct_shrink.specs.Shrunk.{IsCoreOf, IsShrunk}
use Rattle.ct_stack.specs.Assuming.{with_assumed, assumptions_seen, assuming}
use Rattle.ct_stack.specs.Held.{IsHeld, as_one}
use Rattle.ct_stack.specs.Stack.{Context}
use Rattle.ct_step.specs.Cores.{IsShrunkTo}
use Rattle.ct_step.specs.Done.{assumed_in}
use Rattle.ct_step.proofs.CheckLemmas.{assumed_sorted, assumed_more}
use Rattle.ct_step.proofs.PrintLemmas.{were_asked, can_shrink, shrunk_of}
use Rattle.ct_step.proofs.cores.shrunk_core.Goals as goal

pub asked_terms-requires : goal.asked_terms-requires
asked_terms-requires c = record { sorted = (were_asked c.args.state.now c.requires.sound c.args.core.value c.requires.core).0 }

pub boxed_shrunk-shrunk-requires : goal.boxed_shrunk-shrunk-requires
boxed_shrunk-shrunk-requires c =
    let s = c.args.state.now in
    let core = c.args.core.value in
    let assumed = assumptions_seen (assumed_in s.kept) in
    let sig = c.scope.result.now.sig in
    let is = ap (λ (x : Context). x.declarations) c.scope.ensures.value in
    let table = c.deref-2.result.now in
    let numbers = c.as_slice.result.now in
    let held = subst (λ (t : Terms). IsHeld (with_assumed (as_one s.stack) assumed) t numbers) (sym c.deref-2.ensures) (subst (IsHeld (with_assumed (as_one s.stack) assumed) c.in_ok-table.table.value) (sym c.as_slice.ensures.value) c.in_ok-table.ensures.held) in
    let own = were_asked s c.requires.sound core c.requires.core in
    record {
      sizes = subst (AreSizes sig) (sym (c.sizes.ensures.value ∙ ap (λ (b : Base). b.sizes) c.deref.ensures)) c.in_ok-base.ensures.sizes;
      sorted = assumed_sorted s.stack assumed sig table numbers is held;
      asserts = held.in_table.booleans;
      fits = λ many. own.1 (assumed_more s.stack assumed sig table numbers is held many);
      core =
          subst (λ (u : UnsatCore). IsCoreOf sig table numbers u.places.items u.derivation) (sym c.into_inner.ensures)
          (can_shrink c.meanings.ensures.assertions s.stack assumed sig table numbers is held c.sorts.ensures.consistent c.cores_of_refutations.ensures.core c.requires.core.refuted.derived core.derivation core.places.items own.2 c.requires.core.is_core
          c.requires.core.passes);
    }

pub returns-clause-shrunk : goal.returns-clause-shrunk
returns-clause-shrunk c =
    let s = c.args.state.now in
    let assumed = assumptions_seen (assumed_in s.kept) in
    let is = ap (λ (x : Context). x.declarations) c.scope.ensures.value in
    let table = c.deref-2.result.now in
    let numbers = c.as_slice.result.now in
    let held = subst (λ (t : Terms). IsHeld (with_assumed (as_one s.stack) assumed) t numbers) (sym c.deref-2.ensures) (subst (IsHeld (with_assumed (as_one s.stack) assumed) c.in_ok-table.table.value) (sym c.as_slice.ensures.value) c.in_ok-table.ensures.held) in
    IfOk-map c.boxed_shrunk-shrunk.result _ _
    (λ shrunk shown.
    subst (λ (limit : ℕ). IsShrunkTo s.stack.top.context (assuming s.stack assumed) limit c.args.core.value.places.items shrunk.value) c.budget-limit.ensures.value
    (shrunk_of c.meanings.ensures.assertions s.stack assumed c.scope.result.now.sig table numbers is held c.sorts.ensures.consistent c.budget-limit.result c.args.core.value.places.items shrunk.value
    (subst (λ (u : UnsatCore). IsShrunk c.scope.result.now.sig table numbers c.budget-limit.result u.places.items shrunk.value) c.into_inner.ensures shown)))
    c.boxed_shrunk-shrunk.ensures.shrunk
