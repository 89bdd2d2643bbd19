use Rattle.std.proofs.Common.{◌≡◌, Some, option_map, slice_get, refl, subst}
use Rattle.ct_sorts.specs.Declarations.{Selector}
use Rattle.ct_sorts.specs.Consistent.{IsConsistent}
use Rattle.ct_sorts.specs.Stored.{sel_of}
use Rattle.ct_sorts.proofs.StoredLemmas.{entry_at}
use Rattle.ct_sorts.proofs.ConsistentLemmas.{IsSort-sel}
use Rattle.ct_sorts.proofs.signature.Signature.sel_sort.Goals as goal

pub returns-clause-value : goal.returns-clause-value
returns-clause-value c = subst (λ d. option_map (λ (t : Selector). t.sort) (slice_get d.sels c.args.s.0) ≡ Some c.sel_entry.result.now.sort) c.self.view_is (entry_at (sel_of c.self.inside.tables.spellings) (λ (t : Selector). t.sort) (λ e. e.sort) c.self.inside.tables.sels c.args.s.0 c.sel_entry.result.now (λ _. refl) c.sel_entry.ensures.value)

pub returns-clause-sort : goal.returns-clause-sort
returns-clause-sort c =
    let consistent : IsConsistent c.args.self.now = subst IsConsistent c.self.view_is c.self.invariant.consistent in
    IsSort-sel c.args.self.now consistent c.args.s.0 c.sel_entry.result.now.sort
    (subst (λ d. option_map (λ (t : Selector). t.sort) (slice_get d.sels c.args.s.0) ≡ Some c.sel_entry.result.now.sort) c.self.view_is (entry_at (sel_of c.self.inside.tables.spellings) (λ (t : Selector). t.sort) (λ e. e.sort) c.self.inside.tables.sels c.args.s.0 c.sel_entry.result.now (λ _. refl) c.sel_entry.ensures.value))
