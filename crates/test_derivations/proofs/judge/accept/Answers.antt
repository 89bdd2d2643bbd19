use Rattle.std.proofs.Common.{All, sym, ap, subst, ◌∙◌}
use Rattle.ct_terms.specs.Terms.{Terms, IsBoolean}
use Rattle.ct_log.specs.Recorded.{Recorded}
use Rattle.test_derivations.proofs.judge.accept.Goals as goal

pub show_accepted-requires : goal.show_accepted-requires
show_accepted-requires c = record {
  judges = record {
    sized = rw c.deref-2.ensures c.in_ok-sizes.ensures.sizes;
    sorted = rw c.deref-3.ensures c.in_ok-rec.ensures.sorted;
    booleans = subst (λ (t : Terms). All (IsBoolean t) c.deref-4.result.now)
        (c.table.ensures.value ∙ ap (λ (r : Recorded). r.terms) (c.deref.ensures ∙ sym c.deref-3.ensures))
        (rw c.deref-4.ensures.value c.in_ok-asserts.ensures.boolean);
  };
}
