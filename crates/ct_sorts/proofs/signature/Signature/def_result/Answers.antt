use Rattle.std.proofs.Common.{◌≡◌, Some, option_map, slice_get, refl, subst}
use Rattle.ct_sorts.specs.Declarations.{Function}
use Rattle.ct_sorts.specs.Consistent.{IsConsistent}
use Rattle.ct_sorts.specs.Stored.{function_of}
use Rattle.ct_sorts.proofs.StoredLemmas.{part_at}
use Rattle.ct_sorts.proofs.ConsistentLemmas.{IsSort-result}
use Rattle.ct_sorts.proofs.signature.Signature.def_result.Goals as goal

pub returns-clause-value : goal.returns-clause-value
returns-clause-value c = subst (λ d. option_map (λ (t : Function). t.result) (slice_get d.definitions c.args.d.0) ≡ Some c.get.result.now.result) c.self.view_is (part_at function_of (λ (t : Function). t.result) (λ e. e.result) c.self.inside.definitions c.args.d.0 c.get.result.now (λ _. refl) c.get.ensures.value)

pub returns-clause-sort : goal.returns-clause-sort
returns-clause-sort c =
    let consistent : IsConsistent c.args.self.now = subst IsConsistent c.self.view_is c.self.invariant.consistent in
    IsSort-result c.args.self.now c.args.self.now.definitions consistent.definitions_over_sorts c.args.d.0 c.get.result.now.result
    (subst (λ d. option_map (λ (t : Function). t.result) (slice_get d.definitions c.args.d.0) ≡ Some c.get.result.now.result) c.self.view_is (part_at function_of (λ (t : Function). t.result) (λ e. e.result) c.self.inside.definitions c.args.d.0 c.get.result.now (λ _. refl) c.get.ensures.value))
