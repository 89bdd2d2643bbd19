use Rattle.std.proofs.Common.{◌≡◌, Some, map, option_map, slice_get, refl, sym, subst}
use Rattle.ct_sorts.specs.Declarations.{Sort}
use Rattle.ct_sorts.specs.Consistent.{IsConsistent}
use Rattle.ct_sorts.specs.Stored.{sort_of_entry}
use Rattle.ct_sorts.proofs.StoredLemmas.{part_at}
use Rattle.ct_sorts.proofs.ConsistentLemmas.{AreConstructors}
use Rattle.ct_sorts.proofs.signature.Signature.ctors.Goals as goal

pub returns-clause-value : goal.returns-clause-value
returns-clause-value c = subst (λ d. option_map (λ (t : Sort). t.ctors) (slice_get d.sorts c.args.s.0) ≡ Some c.as_slice.result.now) c.self.view_is (subst (λ p. option_map (λ (t : Sort). t.ctors) (slice_get (map sort_of_entry c.self.inside.tables.sorts) c.args.s.0) ≡ Some p) (sym c.as_slice.ensures.value) (part_at sort_of_entry (λ (t : Sort). t.ctors) (λ e. e.ctors) c.self.inside.tables.sorts c.args.s.0 c.get.result.now (λ _. refl) c.get.ensures.value))

pub returns-clause-ctors : goal.returns-clause-ctors
returns-clause-ctors c =
    let consistent : IsConsistent c.args.self.now = subst IsConsistent c.self.view_is c.self.invariant.consistent in
    AreConstructors c.args.self.now consistent c.args.s.0 c.as_slice.result.now
    (subst (λ d. option_map (λ (t : Sort). t.ctors) (slice_get d.sorts c.args.s.0) ≡ Some c.as_slice.result.now) c.self.view_is (subst (λ p. option_map (λ (t : Sort). t.ctors) (slice_get (map sort_of_entry c.self.inside.tables.sorts) c.args.s.0) ≡ Some p) (sym c.as_slice.ensures.value) (part_at sort_of_entry (λ (t : Sort). t.ctors) (λ e. e.ctors) c.self.inside.tables.sorts c.args.s.0 c.get.result.now (λ _. refl) c.get.ensures.value)))
