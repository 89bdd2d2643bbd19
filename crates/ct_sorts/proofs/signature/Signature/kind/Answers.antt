use Rattle.std.proofs.Common.{◌≡◌, Some, option_map, slice_get, refl, subst}
use Rattle.ct_sorts.specs.Declarations.{Sort}
use Rattle.ct_sorts.specs.Stored.{sort_of_entry}
use Rattle.ct_sorts.proofs.StoredLemmas.{part_at}
use Rattle.ct_sorts.proofs.signature.Signature.kind.Goals as goal

pub returns : goal.returns
returns c =
    record { value = subst (λ d. option_map (λ (t : Sort). t.kind) (slice_get d.sorts c.args.s.0) ≡ Some c.get.result.now.kind) c.self.view_is (part_at sort_of_entry (λ (t : Sort). t.kind) (λ e. e.kind) c.self.inside.tables.sorts c.args.s.0 c.get.result.now (λ _. refl) c.get.ensures.value) }
