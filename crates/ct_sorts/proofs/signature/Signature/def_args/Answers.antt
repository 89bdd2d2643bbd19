use Rattle.std.proofs.Common.{◌≡◌, Some, map, option_map, slice_get, refl, sym, subst}
use Rattle.ct_sorts.specs.Declarations.{Function}
use Rattle.ct_sorts.specs.Consistent.{IsConsistent}
use Rattle.ct_sorts.specs.Stored.{function_of}
use Rattle.ct_sorts.proofs.StoredLemmas.{part_at}
use Rattle.ct_sorts.proofs.ConsistentLemmas.{AreSorts-args}
use Rattle.ct_sorts.proofs.signature.Signature.def_args.Goals as goal

pub returns-clause-value : goal.returns-clause-value
returns-clause-value c = subst (λ d. option_map (λ (t : Function). t.args) (slice_get d.definitions c.args.d.0) ≡ Some c.as_slice.result.now) c.self.view_is (subst (λ p. option_map (λ (t : Function). t.args) (slice_get (map function_of c.self.inside.definitions) c.args.d.0) ≡ Some p) (sym c.as_slice.ensures.value) (part_at function_of (λ (t : Function). t.args) (λ e. e.args) c.self.inside.definitions c.args.d.0 c.get.result.now (λ _. refl) c.get.ensures.value))

pub returns-clause-sorts : goal.returns-clause-sorts
returns-clause-sorts c =
    let consistent : IsConsistent c.args.self.now = subst IsConsistent c.self.view_is c.self.invariant.consistent in
    AreSorts-args c.args.self.now c.args.self.now.definitions consistent.definitions_over_sorts c.args.d.0 c.as_slice.result.now
    (subst (λ d. option_map (λ (t : Function). t.args) (slice_get d.definitions c.args.d.0) ≡ Some c.as_slice.result.now) c.self.view_is (subst (λ p. option_map (λ (t : Function). t.args) (slice_get (map function_of c.self.inside.definitions) c.args.d.0) ≡ Some p) (sym c.as_slice.ensures.value) (part_at function_of (λ (t : Function). t.args) (λ e. e.args) c.self.inside.definitions c.args.d.0 c.get.result.now (λ _. refl) c.get.ensures.value)))
