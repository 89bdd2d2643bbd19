use Rattle.std.proofs.Common.{sym, ap, subst}
use Rattle.std.proofs.lemmas.Result.{err_from_is_err_and}
use Rattle.ct_sorts.specs.Declarations.{Declarations}
use Rattle.ct_terms.specs.Terms.{AreSorted}
use Rattle.ct_engine.specs.Keeping.{HasKept}
use Rattle.ct_stack.specs.Stack.{Context}
use Rattle.ct_step.specs.Cache.{IsCacheOf}
use Rattle.ct_step.specs.Refusal.{IsCheckRefusal}
use Rattle.ct_step.proofs.CauseLemmas.{refused_by}
use Rattle.ct_step.proofs.CheckLemmas.{sorted, exact, check_fits, check_too_large, check_comes_to}
use Rattle.ct_step.proofs.check.verdict.Goals as goal

pub verdict_over-requires : goal.verdict_over-requires
verdict_over-requires c =
    let is = ap (λ (x : Context). x.declarations) c.scope.ensures.value in
    let held = c.core_terms.ensures.held in
    record {
      sorted = sorted c.args.stack.now c.scope.result.now.sig c.core_terms.result.0.now c.core_terms.result.1.now is held;
      asserts = held.in_table.booleans;
      exact = exact c.args.stack.now c.scope.result.now.sig c.core_terms.result.0.now c.core_terms.result.1.now is held;
      kept = subst (λ (d : Declarations). AreSorted d c.args.store.now.table) (sym is) c.requires.sorted;
      cache = subst (λ (d : Declarations). IsCacheOf d c.args.cache.now) (sym is) c.requires.cache;
    }

pub returns-in_err-verdict-clause-refused : goal.returns-in_err-verdict-clause-refused
returns-in_err-verdict-clause-refused c =
    let is = ap (λ (x : Context). x.declarations) c.scope.ensures.value in
    let p = err_from_is_err_and c.from_residual.result c.from_residual.ensures.1 in
    rw (p.1, p.2)
    (refused_by (IsCheckRefusal c.args.stack.now) _
    (λ n e.
    let why = c.in_err-verdict.ensures.refused n e in
    subst (IsCheckRefusal c.args.stack.now) (sym why.0) (check_too_large c.args.stack.now c.scope.result.now.sig c.core_terms.result.0.now c.core_terms.result.1.now is c.core_terms.ensures.held why.1)))

pub returns-in_err-verdict-clause-sorted : goal.returns-in_err-verdict-clause-sorted
returns-in_err-verdict-clause-sorted c = subst (λ (d : Declarations). AreSorted d c.verdict_over.new.store.table) (ap (λ (x : Context). x.declarations) c.scope.ensures.value) c.in_err-verdict.ensures.sorted

pub returns-clause-verdict : goal.returns-clause-verdict
returns-clause-verdict c =
    let is = ap (λ (x : Context). x.declarations) c.scope.ensures.value in
    check_comes_to c.args.stack.now c.scope.result.now.sig c.core_terms.result.0.now c.core_terms.result.1.now is c.core_terms.ensures.held c.meanings.ensures.assertions c.sorts.ensures.consistent c.args.budget c.in_ok-verdict.verdict c.in_ok-verdict.ensures.verdict c.in_ok-verdict.ensures.decides

pub returns-clause-accepted : goal.returns-clause-accepted
returns-clause-accepted c =
    let is = ap (λ (x : Context). x.declarations) c.scope.ensures.value in
    check_fits c.args.stack.now c.scope.result.now.sig c.core_terms.result.0.now c.core_terms.result.1.now is c.core_terms.ensures.held c.in_ok-verdict.ensures.fits

pub returns-clause-kept : goal.returns-clause-kept
returns-clause-kept c =
    subst (λ (d : Declarations). HasKept d c.args.store.now c.verdict_over.new.store c.in_ok-verdict.verdict) (ap (λ (x : Context). x.declarations) c.scope.ensures.value) c.in_ok-verdict.ensures.kept

pub returns-clause-sorted : goal.returns-clause-sorted
returns-clause-sorted c = subst (λ (d : Declarations). AreSorted d c.verdict_over.new.store.table) (ap (λ (x : Context). x.declarations) c.scope.ensures.value) c.in_ok-verdict.ensures.sorted

pub returns-in_err-verdict-clause-cache : goal.returns-in_err-verdict-clause-cache
returns-in_err-verdict-clause-cache c = subst (λ (d : Declarations). IsCacheOf d c.verdict_over.new.cache) (ap (λ (x : Context). x.declarations) c.scope.ensures.value) c.in_err-verdict.ensures.cache

pub returns-clause-cache : goal.returns-clause-cache
returns-clause-cache c = subst (λ (d : Declarations). IsCacheOf d c.verdict_over.new.cache) (ap (λ (x : Context). x.declarations) c.scope.ensures.value) c.in_ok-verdict.ensures.cache
