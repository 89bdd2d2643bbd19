use Rattle.std.proofs.Common.{All, subst}
use Rattle.ct_terms.specs.Terms.{Terms, IsBoolean}
use Rattle.test_derivations.proofs.derive.derive.Goals as goal

pub derivation_of-requires : goal.derivation_of-requires
derivation_of-requires c = record {
  judges = record {
    sized = rw c.deref-2.ensures c.in_ok-sizes.ensures.sizes;
    sorted = c.in_ok-table.ensures.sorted;
    booleans = subst (λ (t : Terms). All (IsBoolean t) c.in_ok-asserts.asserts.items) c.deref.ensures c.in_ok-asserts.ensures.boolean;
  };
}
