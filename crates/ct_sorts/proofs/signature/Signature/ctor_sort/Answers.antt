use Rattle.std.proofs.Common.{◌≡◌, Some, option_map, slice_get, refl, subst}
use Rattle.ct_sorts.specs.Declarations.{Constructor}
use Rattle.ct_sorts.specs.Consistent.{IsConsistent}
use Rattle.ct_sorts.specs.Stored.{ctor_of}
use Rattle.ct_sorts.proofs.StoredLemmas.{entry_at}
use Rattle.ct_sorts.proofs.ConsistentLemmas.{IsSort-ctor}
use Rattle.ct_sorts.proofs.signature.Signature.ctor_sort.Goals as goal

pub returns-clause-value : goal.returns-clause-value
returns-clause-value c = subst (λ d. option_map (λ (t : Constructor). t.sort) (slice_get d.ctors c.args.c.0) ≡ Some c.ctor_entry.result.now.sort) c.self.view_is (entry_at (ctor_of c.self.inside.tables.spellings) (λ (t : Constructor). t.sort) (λ e. e.sort) c.self.inside.tables.ctors c.args.c.0 c.ctor_entry.result.now (λ _. refl) c.ctor_entry.ensures.value)

pub returns-clause-sort : goal.returns-clause-sort
returns-clause-sort c =
    let consistent : IsConsistent c.args.self.now = subst IsConsistent c.self.view_is c.self.invariant.consistent in
    IsSort-ctor c.args.self.now consistent c.args.c.0 c.ctor_entry.result.now.sort
    (subst (λ d. option_map (λ (t : Constructor). t.sort) (slice_get d.ctors c.args.c.0) ≡ Some c.ctor_entry.result.now.sort) c.self.view_is (entry_at (ctor_of c.self.inside.tables.spellings) (λ (t : Constructor). t.sort) (λ e. e.sort) c.self.inside.tables.ctors c.args.c.0 c.ctor_entry.result.now (λ _. refl) c.ctor_entry.ensures.value))
