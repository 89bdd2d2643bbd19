use Rattle.std.proofs.Common.{◌≡◌, Some, map, option_map, slice_get, refl, sym, subst}
use Rattle.ct_sorts.specs.Declarations.{Constructor}
use Rattle.ct_sorts.specs.Consistent.{IsConsistent}
use Rattle.ct_sorts.specs.Stored.{ctor_of}
use Rattle.ct_sorts.proofs.StoredLemmas.{entry_at}
use Rattle.ct_sorts.proofs.ConsistentLemmas.{AreSelectors}
use Rattle.ct_sorts.proofs.signature.Signature.ctor_sels.Goals as goal

pub returns-clause-value : goal.returns-clause-value
returns-clause-value c = subst (λ d. option_map (λ (t : Constructor). t.sels) (slice_get d.ctors c.args.c.0) ≡ Some c.as_slice.result.now) c.self.view_is (subst (λ p. option_map (λ (t : Constructor). t.sels) (slice_get (map (ctor_of c.self.inside.tables.spellings) c.self.inside.tables.ctors) c.args.c.0) ≡ Some p) (sym c.as_slice.ensures.value) (entry_at (ctor_of c.self.inside.tables.spellings) (λ (t : Constructor). t.sels) (λ e. e.sels) c.self.inside.tables.ctors c.args.c.0 c.ctor_entry.result.now (λ _. refl) c.ctor_entry.ensures.value))

pub returns-clause-sels : goal.returns-clause-sels
returns-clause-sels c =
    let consistent : IsConsistent c.args.self.now = subst IsConsistent c.self.view_is c.self.invariant.consistent in
    AreSelectors c.args.self.now consistent c.args.c.0 c.as_slice.result.now
    (subst (λ d. option_map (λ (t : Constructor). t.sels) (slice_get d.ctors c.args.c.0) ≡ Some c.as_slice.result.now) c.self.view_is (subst (λ p. option_map (λ (t : Constructor). t.sels) (slice_get (map (ctor_of c.self.inside.tables.spellings) c.self.inside.tables.ctors) c.args.c.0) ≡ Some p) (sym c.as_slice.ensures.value) (entry_at (ctor_of c.self.inside.tables.spellings) (λ (t : Constructor). t.sels) (λ e. e.sels) c.self.inside.tables.ctors c.args.c.0 c.ctor_entry.result.now (λ _. refl) c.ctor_entry.ensures.value)))
