use Rattle.std.proofs.Common.{◌≡◌, ℕ, List, length, slice_get, None, Some, sym, ap, ap₂, ◌∙◌}
use Rattle.ct_lemmas.proofs.Each.{All-at}
use Rattle.ct_sorts.specs.Declarations.{IsSelector}
use Rattle.ct_terms.specs.declared.ids.TermId.{TermId}
use Rattle.ct_listing.specs.Listable.{field_sorts}
use Rattle.ct_scope.proofs.ValueLemmas.{fields_read, field_read}
use Rattle.ct_scope.proofs.AwaitLemmas.{no_number, field_at, no_field}
use Rattle.ct_scope.proofs.open_value.next_field.Goals as goal

pub returns-in_err-sel : goal.returns-in_err-sel
returns-in_err-sel c =
    let d = c.args.sig.now in
    let ctor = c.args.value.now.ctor in
    let args = c.args.value.now.args in
    let sels = c.ctor_sels.result.now in
    let none : slice_get sels (length args) ≡ None = ap (λ (ts : List TermId). slice_get sels (length ts)) (sym c.as_slice-place.ensures.value) ∙ sym c.selector_at.ensures.value ∙ c.in_err-sel.was in
    record { next = rw c.from_residual.ensures (no_field d ctor sels (length args) (fields_read d ctor sels c.ctor_sels.ensures.value) none) }

pub returns-in_err-number : goal.returns-in_err-number
returns-in_err-number c =
    let d = c.args.sig.now in
    let args = c.args.value.now.args in
    let numbers = c.args.value.now.numbers in
    let none : slice_get numbers (length args) ≡ None = ap₂ (λ (ks : List ℕ) (ts : List TermId). slice_get ks (length ts)) (sym c.as_slice.ensures.value) (sym c.as_slice-place.ensures.value) ∙ sym c.number_at.ensures.value ∙ c.in_err-number.was in
    record { next = rw c.from_residual-in_err-number.ensures (no_number d (field_sorts d c.args.value.now.ctor) numbers (length args) c.requires.entries none) }

pub sel_sort-requires : goal.sel_sort-requires
sel_sort-requires c =
    record { inside = All-at (IsSelector c.args.sig.now) c.ctor_sels.result.now (length c.as_slice-place.result.now) c.in_ok-sel.sel c.ctor_sels.ensures.sels (sym c.selector_at.ensures.value ∙ c.in_ok-sel.was) }

pub returns : goal.returns
returns c =
    let d = c.args.sig.now in
    let ctor = c.args.value.now.ctor in
    let args = c.args.value.now.args in
    let sels = c.ctor_sels.result.now in
    let there : slice_get sels (length args) ≡ Some c.in_ok-sel.sel = ap (λ (ts : List TermId). slice_get sels (length ts)) (sym c.as_slice-place.ensures.value) ∙ sym c.selector_at.ensures.value ∙ c.in_ok-sel.was in
    let number : slice_get c.args.value.now.numbers (length args) ≡ Some c.in_ok-number.number = ap₂ (λ (ks : List ℕ) (ts : List TermId). slice_get ks (length ts)) (sym c.as_slice.ensures.value) (sym c.as_slice-place.ensures.value) ∙ sym c.number_at.ensures.value ∙ c.in_ok-number.was in
    record { next = (field_at d ctor sels (length args) c.in_ok-sel.sel c.sel_sort.result (fields_read d ctor sels c.ctor_sels.ensures.value) there (field_read d c.in_ok-sel.sel c.sel_sort.result c.sel_sort.ensures.value), number) }
