use Rattle.std.proofs.Common.{◌≡◌, Some, slice_get, subst}
use Rattle.ct_sorts.specs.Declarations.{Sort, sort_names}
use Rattle.ct_sorts.specs.Stored.{sort_of_entry}
use Rattle.ct_sorts.proofs.StoredLemmas.{parts_at}
use Rattle.ct_sorts.proofs.signature.Signature.sort_name.Goals as goal

pub returns : goal.returns
returns c =
    record { value = subst (λ d. slice_get (sort_names d) c.args.s.0 ≡ Some c.name_of_entry.result.now) c.self.view_is (parts_at sort_of_entry (λ (t : Sort). t.name) c.self.inside.tables.sorts c.args.s.0 c.name_of_entry.result.now c.name_of_entry.ensures.name) }
