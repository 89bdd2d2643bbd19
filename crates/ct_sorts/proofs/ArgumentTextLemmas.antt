-- The texts of arguments, one after the other.
use Rattle.std.proofs.Common.{◌≡◌, ℕ, ◌+◌, List, [], ◌∷◌, ◌++◌, map, take, Some, Option, unwrap_or, slice_get, sym, ap, ◌∙◌}
use Rattle.std.specs.List.{flat_map}
use Rattle.std.proofs.lemmas.List.{append-nil, append_assoc, map-append}
use Rattle.std.proofs.lemmas.List.Concat.{flat_map-append}
use Rattle.ct_lemmas.proofs.Prefixes.{take-slice_get_next}
use Rattle.ct_sorts.specs.declared.ids.SortId.{SortId}
use Rattle.ct_sorts.specs.TextParts.{texts_of}

abbrev pub spaced : List ℕ → List ℕ
spaced text = 32 ∷ text

-- with one argument more there is a space and its text more
args_next : (texts : List (List ℕ)) (args : List SortId) (i : ℕ) (arg : SortId) (name : List ℕ) → slice_get args i ≡ Some arg → slice_get texts arg.0 ≡ Some name → flat_map spaced (texts_of texts (take (i + 1) args)) ≡ flat_map spaced (texts_of texts (take i args)) ++ 32 ∷ name
args_next texts args i arg name at at_name =
    ap (λ (xs : List SortId). flat_map spaced (texts_of texts xs)) (take-slice_get_next args i arg at)
    ∙ ap (flat_map spaced) (map-append (λ (s : SortId). unwrap_or (slice_get texts s.0) []) (take i args) (arg ∷ []))
    ∙ flat_map-append spaced (texts_of texts (take i args)) (texts_of texts (arg ∷ []))
    ∙ ap (λ (o : Option (List ℕ)). flat_map spaced (texts_of texts (take i args)) ++ (spaced (unwrap_or o []) ++ [])) at_name
    ∙ ap (λ (xs : List ℕ). flat_map spaced (texts_of texts (take i args)) ++ xs) (append-nil (32 ∷ name))

-- so the text grows by these
pub args_more : (texts : List (List ℕ)) (args : List SortId) (i : ℕ) (arg : SortId) (name begin old pushed new : List ℕ) → slice_get args i ≡ Some arg → slice_get texts arg.0 ≡ Some name → old ≡ begin ++ flat_map spaced (texts_of texts (take i args)) → pushed ≡ old ++ 32 ∷ [] → new ≡ pushed ++ name → new ≡ begin ++ flat_map spaced (texts_of texts (take (i + 1) args))
args_more texts args i arg name begin old pushed new at at_name is is_pushed is_new =
    is_new
    ∙ ap (λ (xs : List ℕ). xs ++ name) (is_pushed ∙ ap (λ (xs : List ℕ). xs ++ 32 ∷ []) is)
    ∙ append_assoc (begin ++ flat_map spaced (texts_of texts (take i args))) (32 ∷ []) name
    ∙ append_assoc begin (flat_map spaced (texts_of texts (take i args))) (32 ∷ name)
    ∙ ap (λ (xs : List ℕ). begin ++ xs) (sym (args_next texts args i arg name at at_name))
