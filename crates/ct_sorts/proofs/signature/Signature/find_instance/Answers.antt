use Rattle.std.proofs.Common.{◌≡◌, ℕ, ◌<◌, List, Ok, Some, IfOk, IfSome, IfNone, map, slice_get, sym, ap, subst, arith}
use Rattle.ct_generics.specs.Expression.{Expression}
use Rattle.ct_generics.specs.Resolved.{resolved}
use Rattle.ct_sorts.specs.declared.ids.SortId.{SortId}
use Rattle.ct_sorts.specs.Declarations.{Declarations}
use Rattle.ct_sorts.specs.Instances.{IsOrigin}
use Rattle.ct_sorts.specs.Stored.{function_of}
use Rattle.ct_sorts.specs.Tabled.{of_tables}
use Rattle.ct_sorts.proofs.InstanceLemmas.{numbers_few}
use Rattle.ct_sorts.proofs.ResultLemmas.{if_ok, if_some, if_none}
use Rattle.ct_sorts.proofs.signature.Signature.find_instance.Goals as goal

pub find_instance-requires-clause-few : goal.find_instance-requires-clause-few
find_instance-requires-clause-few c = omega (arith, numbers_few c.self.inside.tables (map function_of c.self.inside.functions) (map function_of c.self.inside.definitions) c.self.invariant.consistent)

pub returns-clause-found : goal.returns-clause-found
returns-clause-found c =
    subst (λ (d : Declarations). IfOk c.find_instance.result (λ found. IfSome found (λ s. (e : Expression) × (resolved d.declared c.args.expr.now ≡ Ok e) × IsOrigin d s e))) c.self.view_is c.find_instance.ensures.found

pub returns-clause-none : goal.returns-clause-none
returns-clause-none c =
    subst (λ (d : Declarations). IfOk c.find_instance.result (λ found. IfNone found ((e : Expression) (s : SortId) → resolved d.declared c.args.expr.now ≡ Ok e → IsOrigin d s e → ⊥))) c.self.view_is
    (if_ok c.find_instance.result (λ found absent. if_none found (λ none e s is at. none e s.0 is at) absent) c.find_instance.ensures.none)
