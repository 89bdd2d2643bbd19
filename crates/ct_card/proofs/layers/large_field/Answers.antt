use Rattle.std.proofs.Common.{◌≡◌, ◌++◌, List, ℕ, slice_get, sym, ◌∙◌, ap}
use Rattle.ct_card.specs.Fields.{ctor_fields}
use Rattle.ct_card.proofs.layers.large_field.Goals as goal

pub returns-in-Some : goal.returns-in-Some
returns-in-Some c =
    let d = c.args.sig.now in
    let fields : c.push_fields.new.fields.items ≡ ctor_fields d c.args.c = c.in_ok-push_fields.ensures.value ∙ ap (λ (l : List ℕ). l ++ ctor_fields d c.args.c) c.new-fields.ensures.items in
    let step = c.in-Some.step in
    let h = c.free_field.ensures.found step c.in-Some.is in
    record { found = (h.0, ap (λ (l : List ℕ). slice_get l step.place) (sym (c.deref.ensures.value ∙ fields)) ∙ h.1, h.2) }

pub returns-in-Some-own_field : goal.returns-in-Some-own_field
returns-in-Some-own_field c =
    let d = c.args.sig.now in
    let fields : c.push_fields.new.fields.items ≡ ctor_fields d c.args.c = c.in_ok-push_fields.ensures.value ∙ ap (λ (l : List ℕ). l ++ ctor_fields d c.args.c) c.new-fields.ensures.items in
    let step = c.in-Some-own_field.step in
    let h = c.own_field.ensures.found step c.in-Some-own_field.is in
    record { found = (h.0, ap (λ (l : List ℕ). slice_get l step.place) (sym (c.deref-2.ensures.value ∙ fields)) ∙ h.1, h.2) }
