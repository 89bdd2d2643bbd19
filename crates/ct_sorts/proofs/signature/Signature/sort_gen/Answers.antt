use Rattle.std.proofs.Common.{◌≡◌, ◌<◌, Option, Some, MatchOption, map, length, ap, subst, sym, arith}
use Rattle.std.proofs.lemmas.Option.{slice_get_within}
use Rattle.ct_generics.specs.Expression.{Expression, head_of}
use Rattle.ct_generics.specs.Denoted.{declared_of}
use Rattle.ct_sorts.specs.declared.ids.GenId.{GenId}
use Rattle.ct_sorts.specs.Declarations.{Declarations}
use Rattle.ct_sorts.specs.Instances.{IsOrigin}
use Rattle.ct_sorts.specs.Lookup.{IsGeneric, IsPlainSort}
use Rattle.ct_sorts.specs.Stored.{function_of}
use Rattle.ct_sorts.specs.Tabled.{of_tables}
use Rattle.ct_sorts.proofs.GetterLemmas.{entry_is, entry_head, gen_is, heads_few, origin_there}
use Rattle.ct_sorts.proofs.signature.Signature.sort_gen.Goals as goal

pub gen_of-requires : goal.gen_of-requires
gen_of-requires c =
    let t = c.self.inside.tables in
    let fs = map function_of c.self.inside.functions in
    let ds = map function_of c.self.inside.definitions in
    let s = c.args.s.0 in
    let origin = origin_there t c.self.invariant.tabled fs ds c.self.invariant.consistent s (subst (λ (d : Declarations). s < length d.sorts) (sym c.self.view_is) c.requires.inside) in
    let is = entry_is t c.self.invariant.tabled s c.get.result.now origin.0 c.get.ensures.value origin.1 in
    let head = entry_head t c.self.invariant.tabled fs ds c.self.invariant.consistent s c.get.result.now origin.0 is origin.1 in
    record {
      declared = c.self.invariant.tabled.declared;
      within = slice_get_within (declared_of t.generics).heads c.get.result.now.head head.0 head.1;
      few = omega (arith, heads_few (of_tables t fs ds) c.self.invariant.consistent);
    }

pub returns : goal.returns
returns c =
    let t = c.self.inside.tables in
    let fs = map function_of c.self.inside.functions in
    let ds = map function_of c.self.inside.definitions in
    let found = c.gen_of.result in
    record {
      value = subst (λ (d : Declarations). (e : Expression) → IsOrigin d c.args.s e → MatchOption found (IsPlainSort d c.args.s) (λ g. (head_of e ≡ Some g.0) × IsGeneric d g)) c.self.view_is (λ e at.
          let is = entry_is t c.self.invariant.tabled c.args.s.0 c.get.result.now e c.get.ensures.value at in
          let head = entry_head t c.self.invariant.tabled fs ds c.self.invariant.consistent c.args.s.0 c.get.result.now e is at in
          gen_is t c.self.invariant.tabled fs ds c.self.invariant.consistent c.args.s c.get.result.now e head.0 found is at head.1 (c.gen_of.ensures.value head.0 head.1));
    }
