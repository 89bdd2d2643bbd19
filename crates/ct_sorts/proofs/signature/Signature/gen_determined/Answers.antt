use Rattle.std.proofs.Common.{◌↔◌, ◌∙◌, IsTrue, slice_get, ap, subst}
use Rattle.ct_generics.specs.Declarations.{Head}
use Rattle.ct_generics.specs.Denoted.{declared_of}
use Rattle.ct_sorts.specs.Declarations.{Declarations}
use Rattle.ct_sorts.specs.Determined.{DetermineArguments}
use Rattle.ct_sorts.specs.Lookup.{IsGenericHead}
use Rattle.ct_sorts.proofs.signature.Signature.gen_determined.Goals as goal

pub is_determined-requires : goal.is_determined-requires
is_determined-requires c = record { marked = c.self.invariant.tabled.determined }

pub returns : goal.returns
returns c =
    let heads = (declared_of c.self.inside.tables.generics).heads in
    record {
      value = subst (λ (d : Declarations). (head : Head) → IsGenericHead d c.args.g head → IsTrue c.is_determined.result ↔ DetermineArguments head c.args.ctor) c.self.view_is (λ head is.
          subst (λ i. IsTrue c.is_determined.result ↔ DetermineArguments head i) c.from-2.ensures (c.is_determined.ensures.value head (ap (slice_get heads) c.from.ensures ∙ is.0)));
    }
