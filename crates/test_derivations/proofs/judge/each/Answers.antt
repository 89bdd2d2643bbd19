use Rattle.std.proofs.Common.{All, sym, ap, subst, ◌∙◌}
use Rattle.ct_terms.specs.Terms.{Terms, IsBoolean}
use Rattle.ct_log.specs.Recorded.{Recorded}
use Rattle.test_derivations.proofs.judge.each.Goals as goal

pub show_each-requires-clause-judges : goal.show_each-requires-clause-judges
show_each-requires-clause-judges c = record {
  sized = rw c.deref-3.ensures c.in_ok-sizes.ensures.sizes;
  sorted = rw c.deref-4.ensures (rw c.in_ok-rec.ensures.same c.in_ok-record_of.ensures.sorted);
  booleans = subst (λ (t : Terms). All (IsBoolean t) c.deref-5.result.now)
      (c.table.ensures.value ∙ ap (λ (r : Recorded). r.terms) (c.deref.ensures ∙ sym c.deref-4.ensures))
      (rw c.deref-5.ensures.value c.in_ok-asserts.ensures.boolean);
}
