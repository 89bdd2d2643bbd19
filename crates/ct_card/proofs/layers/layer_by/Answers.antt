use Rattle.std.proofs.Common.{◌≡◌, ◌++◌, List, ℕ, ◌∙◌, ap}
use Rattle.ct_card.specs.Fields.{ctor_fields}
use Rattle.ct_card.proofs.BuiltLemmas.{own_within}
use Rattle.ct_card.proofs.layers.layer_by.Goals as goal

pub push_fields-requires : goal.push_fields-requires
push_fields-requires c =
    let d = c.args.sig.now in
    let e = c.structure.ensures in
    let k = c.sorts.ensures.consistent in
    let listed = c.requires.listed in
    record { inside = own_within d k (e.own_constructors d k) (e.own_selectors d k) (e.of_their_sorts d k) (e.of_their_constructors d k) c.args.s.0 listed.0 c.args.step.ctor c.requires.inside listed.1 }

pub returns-clause-digit : goal.returns-clause-digit
returns-clause-digit c = λ digit is.
    let d = c.args.sig.now in
    let fields : c.push_fields.new.fields.items ≡ ctor_fields d c.args.step.ctor = c.in_ok-push_fields.ensures.value ∙ ap (λ (l : List ℕ). l ++ ctor_fields d c.args.step.ctor) c.new-fields.ensures.items in
    c.digit_field-digit.ensures.digit d (c.deref-2.ensures.value ∙ fields) digit is
