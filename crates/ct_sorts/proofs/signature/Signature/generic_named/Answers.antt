use Rattle.std.proofs.Common.{◌≡◌, Option, Some, MatchOption, map, subst, arith}
use Rattle.std.proofs.lemmas.Option.{slice_get_within}
use Rattle.ct_generics.specs.Declarations.{Head}
use Rattle.ct_generics.specs.Denoted.{declared_of}
use Rattle.ct_sorts.specs.declared.ids.GenId.{GenId}
use Rattle.ct_sorts.specs.Declarations.{Declarations}
use Rattle.ct_sorts.specs.Lookup.{IsGenericHead}
use Rattle.ct_sorts.specs.Stored.{function_of}
use Rattle.ct_sorts.specs.Tabled.{of_tables}
use Rattle.ct_sorts.proofs.GetterLemmas.{generic_names, heads_few}
use Rattle.ct_sorts.proofs.signature.Signature.generic_named.Goals as goal

pub gen_of-requires : goal.gen_of-requires
gen_of-requires c =
    let t = c.self.inside.tables in
    let head = c.in-Some.ensures.some (declared_of t.generics) c.self.invariant.tabled.declared in
    record {
      declared = c.self.invariant.tabled.declared;
      within = slice_get_within (declared_of t.generics).heads c.in-Some.head.0 head.0 head.1;
      few = omega (arith, heads_few (of_tables t (map function_of c.self.inside.functions) (map function_of c.self.inside.definitions)) c.self.invariant.consistent);
    }

pub returns-in-Some : goal.returns-in-Some
returns-in-Some c =
    let t = c.self.inside.tables in
    let fs = map function_of c.self.inside.functions in
    let ds = map function_of c.self.inside.definitions in
    let name = c.args.name.now in
    let found = c.gen_of.result in
    let head = c.in-Some.ensures.some (declared_of t.generics) c.self.invariant.tabled.declared in
    record {
      value = subst (λ (d : Declarations). MatchOption found ((g : GenId) (other : Head) → IsGenericHead d g other → other.name ≡ name → ⊥) (λ g. (other : Head) × IsGenericHead d g other × (other.name ≡ name))) c.self.view_is (generic_names t c.self.invariant.tabled fs ds c.self.invariant.consistent c.in-Some.head.0 head.0 name found head.1 head.2 (c.gen_of.ensures.value head.0 head.1));
    }

pub returns-in-None : goal.returns-in-None
returns-in-None c =
    let t = c.self.inside.tables in
    let absent = c.in-None.ensures.none (declared_of t.generics) c.self.invariant.tabled.declared in
    record { value = subst (λ (d : Declarations). (g : GenId) (head : Head) → IsGenericHead d g head → head.name ≡ c.args.name.now → ⊥) c.self.view_is (λ g head generic is. absent g.0 head generic.0 is) }
