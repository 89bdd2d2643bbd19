use Rattle.std.proofs.Common.{ap, sym, subst, inl}
use Rattle.std.proofs.lemmas.Result.{err_from_is_err_and}
use Rattle.ct_terms.specs.Terms.{Terms}
use Rattle.ct_stack.specs.Assuming.{with_assumed, assumptions_seen}
use Rattle.ct_stack.specs.Held.{IsHeld, as_one}
use Rattle.ct_stack.specs.Stack.{Context}
use Rattle.ct_step.specs.Refusal.{IsTooLarge}
use Rattle.ct_step.proofs.CauseLemmas.{refused_by}
use Rattle.ct_step.proofs.CheckLemmas.{assumed_sorted, assumed_exact, fits_of, too_large_of}
use Rattle.ct_step.proofs.rehearsal.fits.Goals as goal

pub returns-in_err-table-clause-refused : goal.returns-in_err-table-clause-refused
returns-in_err-table-clause-refused c =
    let p = err_from_is_err_and c.from_residual.result c.from_residual.ensures.1 in
    rw (p.1, p.2) (refused_by (IsTooLarge c.args.stack.now (assumptions_seen c.args.assumed.now)) _ (λ n e. inl (c.in_err-table.ensures.refused n e)))

pub closes-requires : goal.closes-requires
closes-requires c =
    let s = c.args.stack.now in
    let assumed = assumptions_seen c.args.assumed.now in
    let is = ap (λ (x : Context). x.declarations) c.scope.ensures.value in
    let table = c.deref_mut.result.now in
    let numbers = c.as_slice.result.now in
    let held = subst (λ (t : Terms). IsHeld (with_assumed (as_one s) assumed) t numbers) (sym c.deref_mut.ensures.value) (subst (IsHeld (with_assumed (as_one s) assumed) c.in_ok-table.table.value) (sym c.as_slice.ensures.value) c.in_ok-table.ensures.held) in
    record {
      sorted = assumed_sorted s assumed c.scope.result.now.sig table numbers is held;
      asserts = held.in_table.booleans;
      exact = assumed_exact s assumed c.scope.result.now.sig table numbers is held;
    }

pub returns : goal.returns
returns c =
    let s = c.args.stack.now in
    let assumed = assumptions_seen c.args.assumed.now in
    let is = ap (λ (x : Context). x.declarations) c.scope.ensures.value in
    let table = c.deref_mut.result.now in
    let numbers = c.as_slice.result.now in
    let held = subst (λ (t : Terms). IsHeld (with_assumed (as_one s) assumed) t numbers) (sym c.deref_mut.ensures.value) (subst (IsHeld (with_assumed (as_one s) assumed) c.in_ok-table.table.value) (sym c.as_slice.ensures.value) c.in_ok-table.ensures.held) in
    record {
      accepted = fits_of s assumed c.scope.result.now.sig table numbers is held c.closes.result c.in_ok-table.ensures.accepted c.closes.ensures.fits;
      refused = too_large_of s assumed c.scope.result.now.sig table numbers is held c.closes.result c.in_ok-table.ensures.accepted c.closes.ensures.refused;
    }
