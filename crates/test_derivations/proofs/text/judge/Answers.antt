use Rattle.std.proofs.Common.{All, subst}
use Rattle.ct_terms.specs.Terms.{Terms, IsBoolean}
use Rattle.test_derivations.proofs.text.judge.Goals as goal

pub show_verdict-requires : goal.show_verdict-requires
show_verdict-requires c = record {
  judges = record {
    sized = rw c.deref.ensures c.in_ok-sizes.ensures.sizes;
    sorted = c.requires.sorted;
    booleans = subst (λ (t : Terms). All (IsBoolean t) c.deref-2.result.now) c.table.ensures.value (rw c.deref-2.ensures.value c.in_ok-asserts.ensures.boolean);
  };
}
