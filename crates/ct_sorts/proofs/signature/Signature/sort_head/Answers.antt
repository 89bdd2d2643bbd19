use Rattle.std.proofs.Common.{◌≡◌, ◌<◌, Some, map, length, sym, subst, arith}
use Rattle.std.proofs.lemmas.Option.{slice_get_within}
use Rattle.ct_generics.specs.Denoted.{declared_of}
use Rattle.ct_generics.specs.Expression.{Expression, head_of}
use Rattle.ct_sorts.specs.Declarations.{Declarations}
use Rattle.ct_sorts.specs.Instances.{IsOrigin}
use Rattle.ct_sorts.specs.Stored.{function_of}
use Rattle.ct_sorts.specs.Tabled.{of_tables}
use Rattle.ct_sorts.proofs.GetterLemmas.{entry_is, entry_head, heads_few, origin_there}
use Rattle.ct_sorts.proofs.signature.Signature.sort_head.Goals as goal

pub overflow_cast-result : goal.overflow_cast-result
overflow_cast-result c =
    let t = c.self.inside.tables in
    let fs = map function_of c.self.inside.functions in
    let ds = map function_of c.self.inside.definitions in
    let s = c.args.s.0 in
    let origin = origin_there t c.self.invariant.tabled fs ds c.self.invariant.consistent s (subst (λ (d : Declarations). s < length d.sorts) (sym c.self.view_is) c.requires.inside) in
    let is = entry_is t c.self.invariant.tabled s c.get.result.now origin.0 c.get.ensures.value origin.1 in
    let head = entry_head t c.self.invariant.tabled fs ds c.self.invariant.consistent s c.get.result.now origin.0 is origin.1 in
    omega (arith, heads_few (of_tables t fs ds) c.self.invariant.consistent, slice_get_within (declared_of t.generics).heads c.get.result.now.head head.0 head.1)

pub returns : goal.returns
returns c =
    let t = c.self.inside.tables in
    record {
      value = subst (λ (d : Declarations). (e : Expression) → IsOrigin d c.args.s e → head_of e ≡ Some c.get.result.now.head) c.self.view_is (λ e at. (entry_is t c.self.invariant.tabled c.args.s.0 c.get.result.now e c.get.ensures.value at).head_is);
    }
