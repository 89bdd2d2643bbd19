use Rattle.std.proofs.Common.{◌≡◌, Some, option_map, slice_get, refl, subst}
use Rattle.ct_sorts.specs.Declarations.{Selector}
use Rattle.ct_sorts.specs.Stored.{sel_of}
use Rattle.ct_sorts.proofs.StoredLemmas.{entry_at}
use Rattle.ct_sorts.proofs.signature.Signature.sel_place.Goals as goal

pub returns : goal.returns
returns c =
    record { value = subst (λ d. option_map (λ (t : Selector). t.place) (slice_get d.sels c.args.s.0) ≡ Some c.sel_entry.result.now.place) c.self.view_is (entry_at (sel_of c.self.inside.tables.spellings) (λ (t : Selector). t.place) (λ e. e.place) c.self.inside.tables.sels c.args.s.0 c.sel_entry.result.now (λ _. refl) c.sel_entry.ensures.value) }
