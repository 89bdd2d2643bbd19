use Rattle.std.proofs.Common.{◌↔◌, ◌≡◌, ℕ, IsTrue, Some, slice_get, map, sym, ap, subst, subst₂, ◌∙◌}
use Rattle.ct_generics.specs.Declarations.{Head}
use Rattle.ct_generics.specs.Denoted.{declared_of}
use Rattle.ct_sorts.specs.Declarations.{Declarations}
use Rattle.ct_sorts.specs.Determined.{DetermineArguments, IsCtorAt}
use Rattle.ct_sorts.specs.Stored.{function_of}
use Rattle.ct_sorts.proofs.GetterLemmas.{place_of_ctor}
use Rattle.ct_sorts.proofs.signature.Signature.determined.Goals as goal

pub is_determined-requires : goal.is_determined-requires
is_determined-requires c = record { marked = c.self.invariant.tabled.determined }

pub returns : goal.returns
returns c =
    let t = c.self.inside.tables in
    let entry = c.ctor_entry.result.now in
    let fs = map function_of c.self.inside.functions in
    let ds = map function_of c.self.inside.definitions in
    record {
      value = subst (λ (d : Declarations). (h i : ℕ) (head : Head) → IsCtorAt d c.args.c h i → slice_get d.declared.heads h ≡ Some head → IsTrue c.is_determined.result ↔ DetermineArguments head i) c.self.view_is (λ h i head at at_head.
          let same = place_of_ctor t c.self.invariant.tabled fs ds c.self.invariant.consistent c.args.c entry h i c.ctor_entry.ensures.value at in
          subst (λ n. IsTrue c.is_determined.result ↔ DetermineArguments head n) (sym same.1) (c.is_determined.ensures.value head (ap (slice_get (declared_of t.generics).heads) (sym same.0) ∙ at_head)));
    }
