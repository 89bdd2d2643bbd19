-- Images of fields: one more field, and one more row.
use Rattle.std.proofs.Common.{◌≡◌, ℕ, ◌⊎◌, List, [], ◌∷◌, ◌++◌, length, Some, slice_get, sym, ap, ◌∙◌, inl, inr}
use Rattle.std.specs.List.{AllZip}
use Rattle.ct_lemmas.proofs.Lists.{slice_get-append_left, slice_get-last}
use Rattle.ct_lemmas.proofs.Pairs.{AllZip-push, AllZip-weaker}
use Rattle.ct_generics.specs.declared.nodes.ExprId.{ExprId}
use Rattle.ct_generics.specs.Nodes.{Stay}
use Rattle.ct_generics.specs.Images.{IsImageAt, IsFieldImage, IsRowImage}

-- what is new among the numbers: each is old, or one of these
abbrev pub AddsOnly : List ExprId → List ExprId → (ExprId → Type 0) → Type 0
AddsOnly old new P = (i : ℕ) (id : ExprId) → slice_get new i ≡ Some id → (slice_get old i ≡ Some id) ⊎ P id

pub AddsOnly-none : (old : List ExprId) (P : ExprId → Type 0) → AddsOnly old old P
AddsOnly-none old P i id at = inl at

-- images at indices stay at them
pub IsImageAt-stay : (images old new : List ExprId) (is : List ℕ) (fields : List ExprId) → Stay old new → AllZip (IsImageAt images old) is fields → AllZip (IsImageAt images new) is fields
IsImageAt-stay images old new is fields stay = AllZip-weaker (IsImageAt images old) (IsImageAt images new) (λ i field at. (at.0, at.1, stay i at.0 at.2)) is fields

pub IsImageAt-rows_stay : (images old new : List ExprId) (rows : List (List ℕ)) (fields : List (List ExprId)) → Stay old new → AllZip (AllZip (IsImageAt images old)) rows fields → AllZip (AllZip (IsImageAt images new)) rows fields
IsImageAt-rows_stay images old new rows fields stay =
    AllZip-weaker (AllZip (IsImageAt images old)) (AllZip (IsImageAt images new)) (λ is fs. IsImageAt-stay images old new is fs stay) rows fields

-- one more field
pub fields-push : (images old new : List ExprId) (is : List ℕ) (fields : List ExprId) (i : ℕ) (field image : ExprId) → Stay old new → AllZip (IsImageAt images old) is fields → slice_get images field.0 ≡ Some image → slice_get new i ≡ Some image → AllZip (IsImageAt images new) (is ++ i ∷ []) (fields ++ field ∷ [])
fields-push images old new is fields i field image stay before at_image at_i =
    AllZip-push (IsImageAt images new) is fields i field (IsImageAt-stay images old new is fields stay before) (image, at_image, at_i)

pub only-field : (images begin old new : List ExprId) (fields : List ExprId) (field image : ExprId) → slice_get images field.0 ≡ Some image → AddsOnly begin old (IsFieldImage images fields) → ((i : ℕ) (id : ExprId) → slice_get new i ≡ Some id → (slice_get old i ≡ Some id) ⊎ (id ≡ image)) → AddsOnly begin new (IsFieldImage images (fields ++ field ∷ []))
only-field images begin old new fields field image at_image before last i id at =
    elim (last i id at) [
      | inl stored ↦ elim (before i id stored) [
        | inl begun ↦ inl begun
        | inr one ↦ inr (one.0, one.1, slice_get-append_left fields (field ∷ []) one.0 one.1 one.2, one.3)
      ]
      | inr e ↦ inr (length fields, field, slice_get-last fields field, at_image ∙ ap Some (sym e))
    ]

-- one more row
pub rows-push : (images old new : List ExprId) (rows : List (List ℕ)) (fields : List (List ExprId)) (is : List ℕ) (row : List ExprId) → Stay old new → AllZip (AllZip (IsImageAt images old)) rows fields → AllZip (IsImageAt images new) is row → AllZip (AllZip (IsImageAt images new)) (rows ++ is ∷ []) (fields ++ row ∷ [])
rows-push images old new rows fields is row stay before last =
    AllZip-push (AllZip (IsImageAt images new)) rows fields is row (IsImageAt-rows_stay images old new rows fields stay before) last

pub only-row : (images begin old new : List ExprId) (rows : List (List ExprId)) (row : List ExprId) → AddsOnly begin old (IsRowImage images rows) → AddsOnly old new (IsFieldImage images row) → AddsOnly begin new (IsRowImage images (rows ++ row ∷ []))
only-row images begin old new rows row before last i id at =
    elim (last i id at) [
      | inl stored ↦ elim (before i id stored) [
        | inl begun ↦ inl begun
        | inr one ↦ inr (one.0, one.1, slice_get-append_left rows (row ∷ []) one.0 one.1 one.2, one.3)
      ]
      | inr one ↦ inr (length rows, row, slice_get-last rows row, one)
    ]

-- one more number of its own
pub starts-push : (old new : List ExprId) (is : List ℕ) (roots : List ExprId) (i : ℕ) (root : ExprId) → Stay old new → AllZip (λ j (id : ExprId). slice_get old j ≡ Some id) is roots → slice_get new i ≡ Some root → AllZip (λ j (id : ExprId). slice_get new j ≡ Some id) (is ++ i ∷ []) (roots ++ root ∷ [])
starts-push old new is roots i root stay before at =
    AllZip-push (λ j (id : ExprId). slice_get new j ≡ Some id) is roots i root (AllZip-weaker (λ j (id : ExprId). slice_get old j ≡ Some id) (λ j (id : ExprId). slice_get new j ≡ Some id) (λ j id at_j. stay j id at_j) is roots before) at

pub only-root : (begin old new : List ExprId) (roots : List ExprId) (root : ExprId) → AddsOnly begin old (λ id. (k : ℕ) × (slice_get roots k ≡ Some id)) → ((i : ℕ) (id : ExprId) → slice_get new i ≡ Some id → (slice_get old i ≡ Some id) ⊎ (id ≡ root)) → AddsOnly begin new (λ id. (k : ℕ) × (slice_get (roots ++ root ∷ []) k ≡ Some id))
only-root begin old new roots root before last i id at =
    elim (last i id at) [
      | inl stored ↦ elim (before i id stored) [
        | inl begun ↦ inl begun
        | inr one ↦ inr (one.0, slice_get-append_left roots (root ∷ []) one.0 id one.1)
      ]
      | inr e ↦ inr (length roots, slice_get-last roots root ∙ ap Some (sym e))
    ]
