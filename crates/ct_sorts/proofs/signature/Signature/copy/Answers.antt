use Rattle.std.proofs.Common.{◌≡◌, map, sym, ◌∙◌, subst}
use Rattle.ct_sorts.specs.Consistent.{IsConsistent}
use Rattle.ct_sorts.specs.Stored.{function_of}
use Rattle.ct_sorts.specs.Tabled.{of_tables, IsTabled}
use Rattle.ct_sorts.proofs.signature.Signature.copy.Goals as goal

pub invariant_of-result : goal.invariant_of-result
invariant_of-result c = record {
  consistent = subst IsConsistent (sym (λ j. of_tables (c.in_ok-tables.ensures.ok j) (map function_of (c.in_ok-functions.ensures.ok j)) (map function_of (c.in_ok-definitions.ensures.ok j)))) c.self.invariant.consistent;
  tabled = subst IsTabled (sym c.in_ok-tables.ensures.ok) c.self.invariant.tabled;
}

pub returns-clause-ok : goal.returns-clause-ok
returns-clause-ok c = (λ j. of_tables (c.in_ok-tables.ensures.ok j) (map function_of (c.in_ok-functions.ensures.ok j)) (map function_of (c.in_ok-definitions.ensures.ok j))) ∙ c.self.view_is
