use Rattle.std.proofs.Common.{◌≡◌, ◌-◌, refl, inl, inr, length, slice_get, Some, subst, List}
use Rattle.ct_lemmas.proofs.Contained.{Contains-from_slice_get}
use Rattle.ct_terms.specs.declared.ids.TermId.{TermId}
use Rattle.ct_equivalence.specs.Undoing.{row_of}
use Rattle.ct_equivalence.proofs.parents.add_once.Goals as goal

pub returns-then-ends_with : goal.returns-then-ends_with
returns-then-ends_with c =
    let row = row_of c.args.rows.now c.args.t in
    let last : slice_get row (length row - 1) ≡ Some c.args.p = subst (λ (xs : List TermId). slice_get xs (length xs - 1) ≡ Some c.args.p) c.row.ensures.value (c.if-ends_with.ensures.last refl) in
    record { added = inr (refl, Contains-from_slice_get row (length row - 1) c.args.p last) }

pub returns : goal.returns
returns c = record { added = inl c.in_ok-push.ensures.pushed }
