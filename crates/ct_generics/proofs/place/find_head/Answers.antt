use Rattle.std.proofs.Common.{ap, sym, ◌∙◌, option_map, Some, None}
use Rattle.ct_generics.specs.Declarations.{Head}
use Rattle.ct_generics.specs.Resolved.{a_head}
use Rattle.ct_generics.proofs.ReachedLemmas.{IfSome-map, IfNone-map}
use Rattle.ct_generics.proofs.NameTableLemmas.{head_number-is, named_head-is}
use Rattle.ct_generics.proofs.place.find_head.Goals as goal

pub returns-in-Some-clause-some : goal.returns-in-Some-clause-some
returns-in-Some-clause-some c =
    IfSome-map c.head_place.result _ _ (λ place known d is.
    let found = known d is in
    let number = sym (head_number-is d.heads c.args.g.now.head_names c.args.name.now is.names_are) ∙ sym c.find.ensures.place ∙ c.in-Some.is in
    (a_head c.in-Some.h found.0.params, named_head-is d.heads c.args.name.now (Some c.in-Some.h) number ∙ ap (option_map (λ (head : Head). a_head c.in-Some.h head.params)) found.1, found.2)) c.head_place.ensures.some

pub returns-in-Some-clause-none : goal.returns-in-Some-clause-none
returns-in-Some-clause-none c =
    IfNone-map c.head_place.result _ _ (λ known d is.
    let number = sym (head_number-is d.heads c.args.g.now.head_names c.args.name.now is.names_are) ∙ sym c.find.ensures.place ∙ c.in-Some.is in
    named_head-is d.heads c.args.name.now (Some c.in-Some.h) number ∙ ap (option_map (λ (head : Head). a_head c.in-Some.h head.params)) (known d is)) c.head_place.ensures.none

pub returns-in-None-clause-none : goal.returns-in-None-clause-none
returns-in-None-clause-none c d is =
    named_head-is d.heads c.args.name.now None (sym (head_number-is d.heads c.args.g.now.head_names c.args.name.now is.names_are) ∙ sym c.find.ensures.place ∙ c.in-None.is)
