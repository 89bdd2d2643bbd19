use Rattle.std.proofs.Common.{◌≡◌, Some, option_map, slice_get, refl, subst}
use Rattle.ct_sorts.specs.Declarations.{Selector}
use Rattle.ct_sorts.specs.Consistent.{IsConsistent}
use Rattle.ct_sorts.specs.Stored.{sel_of}
use Rattle.ct_sorts.proofs.StoredLemmas.{entry_at}
use Rattle.ct_sorts.proofs.ConsistentLemmas.{IsConstructor-sel}
use Rattle.ct_sorts.proofs.signature.Signature.sel_ctor.Goals as goal

pub returns-clause-value : goal.returns-clause-value
returns-clause-value c = subst (λ d. option_map (λ (t : Selector). t.ctor) (slice_get d.sels c.args.s.0) ≡ Some c.sel_entry.result.now.ctor) c.self.view_is (entry_at (sel_of c.self.inside.tables.spellings) (λ (t : Selector). t.ctor) (λ e. e.ctor) c.self.inside.tables.sels c.args.s.0 c.sel_entry.result.now (λ _. refl) c.sel_entry.ensures.value)

pub returns-clause-ctor : goal.returns-clause-ctor
returns-clause-ctor c =
    let consistent : IsConsistent c.args.self.now = subst IsConsistent c.self.view_is c.self.invariant.consistent in
    IsConstructor-sel c.args.self.now consistent c.args.s.0 c.sel_entry.result.now.ctor
    (subst (λ d. option_map (λ (t : Selector). t.ctor) (slice_get d.sels c.args.s.0) ≡ Some c.sel_entry.result.now.ctor) c.self.view_is (entry_at (sel_of c.self.inside.tables.spellings) (λ (t : Selector). t.ctor) (λ e. e.ctor) c.self.inside.tables.sels c.args.s.0 c.sel_entry.result.now (λ _. refl) c.sel_entry.ensures.value))
