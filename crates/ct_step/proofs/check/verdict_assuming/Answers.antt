use Rattle.std.proofs.Common.{sym, ap, subst, inl}
use Rattle.std.proofs.lemmas.Result.{err_from_is_err_and}
use Rattle.ct_sorts.specs.Declarations.{Declarations}
use Rattle.ct_terms.specs.Terms.{Terms, AreSorted}
use Rattle.ct_engine.specs.Keeping.{HasKept}
use Rattle.ct_stack.specs.Assuming.{with_assumed, assumptions_seen}
use Rattle.ct_stack.specs.Held.{IsHeld, as_one}
use Rattle.ct_stack.specs.Stack.{Context}
use Rattle.ct_step.specs.Cache.{IsCacheOf}
use Rattle.ct_step.specs.Refusal.{IsTooLarge}
use Rattle.ct_step.proofs.CauseLemmas.{refused_by}
use Rattle.ct_step.proofs.CheckLemmas.{assumed_sorted, assumed_exact, assumed_fits, assumed_too_large, assumed_comes_to}
use Rattle.ct_step.proofs.check.verdict_assuming.Goals as goal

pub returns-in_err-table-clause-refused : goal.returns-in_err-table-clause-refused
returns-in_err-table-clause-refused c =
    let p = err_from_is_err_and c.from_residual.result c.from_residual.ensures.1 in
    rw (p.1, p.2) (refused_by (IsTooLarge c.args.stack.now (assumptions_seen c.args.assumed.now)) _ (λ n e. inl (c.in_err-table.ensures.refused n e)))

pub returns-in_err-table-clause-sorted : goal.returns-in_err-table-clause-sorted
returns-in_err-table-clause-sorted c = c.requires.sorted

pub returns-in_err-table-clause-cache : goal.returns-in_err-table-clause-cache
returns-in_err-table-clause-cache c = c.requires.cache

pub verdict_over-requires : goal.verdict_over-requires
verdict_over-requires c =
    let s = c.args.stack.now in
    let assumed = assumptions_seen c.args.assumed.now in
    let is = ap (λ (x : Context). x.declarations) c.scope.ensures.value in
    let table = c.deref.result.now in
    let numbers = c.as_slice.result.now in
    let held = subst (λ (t : Terms). IsHeld (with_assumed (as_one s) assumed) t numbers) (sym c.deref.ensures) (subst (IsHeld (with_assumed (as_one s) assumed) c.in_ok-table.table.value) (sym c.as_slice.ensures.value) c.in_ok-table.ensures.held) in
    record {
      sorted = assumed_sorted s assumed c.scope.result.now.sig table numbers is held;
      asserts = held.in_table.booleans;
      exact = assumed_exact s assumed c.scope.result.now.sig table numbers is held;
      kept = subst (λ (d : Declarations). AreSorted d c.args.store.now.table) (sym is) c.requires.sorted;
      cache = subst (λ (d : Declarations). IsCacheOf d c.args.cache.now) (sym is) c.requires.cache;
    }

pub returns-in_err-verdict-clause-refused : goal.returns-in_err-verdict-clause-refused
returns-in_err-verdict-clause-refused c =
    let s = c.args.stack.now in
    let assumed = assumptions_seen c.args.assumed.now in
    let is = ap (λ (x : Context). x.declarations) c.scope.ensures.value in
    let table = c.deref.result.now in
    let numbers = c.as_slice.result.now in
    let held = subst (λ (t : Terms). IsHeld (with_assumed (as_one s) assumed) t numbers) (sym c.deref.ensures) (subst (IsHeld (with_assumed (as_one s) assumed) c.in_ok-table.table.value) (sym c.as_slice.ensures.value) c.in_ok-table.ensures.held) in
    let p = err_from_is_err_and c.from_residual-in_err-verdict.result c.from_residual-in_err-verdict.ensures.1 in
    rw (p.1, p.2)
    (refused_by (IsTooLarge s assumed) _
    (λ n e.
    let why = c.in_err-verdict.ensures.refused n e in
    subst (IsTooLarge s assumed) (sym why.0) (assumed_too_large s assumed c.scope.result.now.sig table numbers is held c.in_ok-table.ensures.accepted why.1)))

pub returns-in_err-verdict-clause-sorted : goal.returns-in_err-verdict-clause-sorted
returns-in_err-verdict-clause-sorted c = subst (λ (d : Declarations). AreSorted d c.verdict_over.new.store.table) (ap (λ (x : Context). x.declarations) c.scope.ensures.value) c.in_err-verdict.ensures.sorted

pub returns-clause-verdict : goal.returns-clause-verdict
returns-clause-verdict c =
    let s = c.args.stack.now in
    let assumed = assumptions_seen c.args.assumed.now in
    let is = ap (λ (x : Context). x.declarations) c.scope.ensures.value in
    let table = c.deref.result.now in
    let numbers = c.as_slice.result.now in
    let held = subst (λ (t : Terms). IsHeld (with_assumed (as_one s) assumed) t numbers) (sym c.deref.ensures) (subst (IsHeld (with_assumed (as_one s) assumed) c.in_ok-table.table.value) (sym c.as_slice.ensures.value) c.in_ok-table.ensures.held) in
    assumed_comes_to s assumed c.scope.result.now.sig table numbers is held c.meanings.ensures.assertions c.sorts.ensures.consistent c.args.budget c.in_ok-verdict.verdict c.in_ok-verdict.ensures.verdict c.in_ok-verdict.ensures.decides

pub returns-clause-accepted : goal.returns-clause-accepted
returns-clause-accepted c =
    let s = c.args.stack.now in
    let assumed = assumptions_seen c.args.assumed.now in
    let is = ap (λ (x : Context). x.declarations) c.scope.ensures.value in
    let table = c.deref.result.now in
    let numbers = c.as_slice.result.now in
    let held = subst (λ (t : Terms). IsHeld (with_assumed (as_one s) assumed) t numbers) (sym c.deref.ensures) (subst (IsHeld (with_assumed (as_one s) assumed) c.in_ok-table.table.value) (sym c.as_slice.ensures.value) c.in_ok-table.ensures.held) in
    assumed_fits s assumed c.scope.result.now.sig table numbers is held c.in_ok-table.ensures.accepted c.in_ok-verdict.ensures.fits

pub returns-clause-kept : goal.returns-clause-kept
returns-clause-kept c =
    subst (λ (d : Declarations). HasKept d c.args.store.now c.verdict_over.new.store c.in_ok-verdict.verdict) (ap (λ (x : Context). x.declarations) c.scope.ensures.value) c.in_ok-verdict.ensures.kept

pub returns-clause-sorted : goal.returns-clause-sorted
returns-clause-sorted c = subst (λ (d : Declarations). AreSorted d c.verdict_over.new.store.table) (ap (λ (x : Context). x.declarations) c.scope.ensures.value) c.in_ok-verdict.ensures.sorted

pub returns-in_err-verdict-clause-cache : goal.returns-in_err-verdict-clause-cache
returns-in_err-verdict-clause-cache c = subst (λ (d : Declarations). IsCacheOf d c.verdict_over.new.cache) (ap (λ (x : Context). x.declarations) c.scope.ensures.value) c.in_err-verdict.ensures.cache

pub returns-clause-cache : goal.returns-clause-cache
returns-clause-cache c = subst (λ (d : Declarations). IsCacheOf d c.verdict_over.new.cache) (ap (λ (x : Context). x.declarations) c.scope.ensures.value) c.in_ok-verdict.ensures.cache
