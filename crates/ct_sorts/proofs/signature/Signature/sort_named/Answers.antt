use Rattle.std.proofs.Common.{◌≡◌, Option, Some, IfSome, MatchOption, map, length, subst, arith}
use Rattle.ct_lemmas.proofs.Pairs.{AllZip-one_length}
use Rattle.ct_generics.specs.declared.nodes.ExprId.{ExprId}
use Rattle.ct_generics.specs.Denoted.{declared_of, sorts_of}
use Rattle.ct_generics.specs.Expression.{Expression}
use Rattle.ct_generics.specs.Nodes.{Stands}
use Rattle.ct_sorts.specs.declared.ids.SortId.{SortId}
use Rattle.ct_sorts.specs.Declarations.{Declarations, IsSort}
use Rattle.ct_sorts.specs.Lookup.{NamesSort}
use Rattle.ct_sorts.specs.Stored.{function_of}
use Rattle.ct_sorts.proofs.GetterLemmas.{sort_names, no_sort_named, found_inside}
use Rattle.ct_sorts.proofs.signature.Signature.sort_named.Goals as goal

pub plain_sort-requires : goal.plain_sort-requires
plain_sort-requires c =
    let t = c.self.inside.tables in
    let long = AllZip-one_length (λ (id : ExprId) (e : Expression). Stands t.table.expressions id.0 e) t.table.sorts (sorts_of t.table) c.self.invariant.tabled.stand in
    record { stand = c.self.invariant.tabled.stand; few = omega (arith, long, c.self.invariant.consistent.origins.one_each, c.self.invariant.consistent.few.sorts) }

pub returns-in-Some : goal.returns-in-Some
returns-in-Some c =
    let t = c.self.inside.tables in
    let fs = map function_of c.self.inside.functions in
    let ds = map function_of c.self.inside.definitions in
    let name = c.args.name.now in
    let found = c.plain_sort.result in
    let head = c.in-Some.ensures.some (declared_of t.generics) c.self.invariant.tabled.declared in
    record {
      value = subst (λ (d : Declarations). MatchOption found ((s : SortId) → NamesSort d name s → ⊥) (NamesSort d name)) c.self.view_is (sort_names t c.self.invariant.tabled fs ds c.self.invariant.consistent c.in-Some.head.0 head.0 name found head.1 head.2 c.plain_sort.ensures.some c.plain_sort.ensures.none);
      inside = subst (λ (d : Declarations). IfSome found (IsSort d)) c.self.view_is (found_inside t c.self.invariant.tabled fs ds c.self.invariant.consistent c.in-Some.head.0 found c.plain_sort.ensures.some);
    }

pub returns-in-None : goal.returns-in-None
returns-in-None c =
    let t = c.self.inside.tables in
    let fs = map function_of c.self.inside.functions in
    let ds = map function_of c.self.inside.definitions in
    let name = c.args.name.now in
    record {
      value = subst (λ (d : Declarations). (s : SortId) → NamesSort d name s → ⊥) c.self.view_is (no_sort_named t c.self.invariant.tabled fs ds c.self.invariant.consistent name (c.in-None.ensures.none (declared_of t.generics) c.self.invariant.tabled.declared));
      inside = tt;
    }
