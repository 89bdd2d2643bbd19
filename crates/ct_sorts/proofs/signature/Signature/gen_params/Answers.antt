use Rattle.std.proofs.Common.{◌≡◌, ◌<◌, length, slice_get, ap, sym, subst, ◌∙◌}
use Rattle.std.proofs.lemmas.Option.{same_Some}
use Rattle.ct_generics.specs.Declarations.{Head}
use Rattle.ct_generics.specs.Denoted.{declared_of}
use Rattle.ct_sorts.specs.Declarations.{Declarations}
use Rattle.ct_sorts.specs.Lookup.{IsGenericHead}
use Rattle.ct_sorts.proofs.GetterLemmas.{generic_within}
use Rattle.ct_sorts.proofs.signature.Signature.gen_params.Goals as goal

pub head_params-requires : goal.head_params-requires
head_params-requires c =
    let t = c.self.inside.tables in
    record { within = (declared_of t.generics, c.self.invariant.tabled.declared, subst (λ n. n < length (declared_of t.generics).heads) (sym c.from.ensures) (generic_within t _ _ c.args.self.now c.args.g c.self.view_is c.requires.generic)) }

pub returns : goal.returns
returns c =
    let heads = (declared_of c.self.inside.tables.generics).heads in
    let found = c.head_params.ensures.params (declared_of c.self.inside.tables.generics) c.self.invariant.tabled.declared in
    record { value = subst (λ (d : Declarations). (head : Head) → IsGenericHead d c.args.g head → c.head_params.result ≡ head.params) c.self.view_is (λ head is. (found.2 ∙ ap (λ (x : Head). x.params) (same_Some found.0 head (sym found.1 ∙ ap (slice_get heads) c.from.ensures ∙ is.0)))) }
