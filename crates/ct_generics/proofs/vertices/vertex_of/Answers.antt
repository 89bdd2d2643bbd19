use Rattle.std.proofs.Common.{◌≡◌, Option, Some, inl, inr, ⊎_elim, sym, ap, subst, ◌∙◌, slice_get}
use Rattle.std.specs.Option.{option_and_then}
use Rattle.ct_generics.specs.Expression.{args_of}
use Rattle.ct_generics.specs.Declarations.{Head, head_at}
use Rattle.ct_generics.specs.Reach.{StandsIn, fields_with}
use Rattle.ct_generics.proofs.ReachedLemmas.{stored_below}
use Rattle.ct_generics.proofs.vertices.vertex_of.Goals as goal

pub field_vertices-requires-clause-fields : goal.field_vertices-requires-clause-fields
field_vertices-requires-clause-fields c =
    let found = c.in-Some.ensures.some c.requires.stored.0 c.requires.stored.1 in
    stored_below c.in-Some.stored.now found.0 found.2

pub returns-clause-only : goal.returns-clause-only
returns-clause-only c hs e i other all stands at =
    let spine = c.in_ok-spine.ensures.spine e stands in
    let found = c.in-Some.ensures.some hs all in
    let is : head_at hs e ≡ Some found.0 = ap (option_and_then (slice_get hs)) (sym spine.top) ∙ found.1 in
    ⊎_elim (λ old. inl old) (λ met. inr (met.0, met.1, subst (λ (o : Option Head). StandsIn (fields_with o (args_of e)) met.0) (sym is) met.2)) (c.in_ok-ctors-in-Some.ensures.only found.0 (args_of e) i other found.2 (rw c.as_slice.ensures.value spine.under) at)
