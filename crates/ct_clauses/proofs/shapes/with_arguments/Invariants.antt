use Rattle.std.proofs.Common.{◌≡◌, ◌∷◌, map, take, All}
use Rattle.ct_terms.specs.Literal.{literal_of, IsStripped}
use Rattle.ct_log.specs.Look.{signed}
use Rattle.ct_clauses.proofs.shapes.with_arguments.Given as goal

abbrev pub invariant-loop-a : goal.invariant-loop-a
invariant-loop-a l = record {
  items : l.clause.items ≡ l.fn.first ∷ map (λ a. signed l.keep (literal_of l.table a)) (take l.a-index l.args);
  literals : All (λ k. IsStripped l.table k.term) l.clause.items;
}
