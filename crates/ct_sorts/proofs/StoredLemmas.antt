-- What the maps of a signature say of its declarations.
use Rattle.std.proofs.Common.{◌≡◌, ℕ, List, [], ◌∷◌, map, slice_get, zero, suc, Option, Some, None, option_map, refl, sym, ◌∙◌, ap}
use Rattle.std.proofs.lemmas.Option.{slice_get-map, none-some, same_Some}
use Rattle.ct_sorts.specs.Lookup.{names_of}

module _ {E R : Type 0} (of : List ℕ × E → R) where
  -- a part of what is at an index is that part of the entry there
  pub part_at : {P : Type 0} (part : R → P) (stored : E → P) (es : List (List ℕ × E)) (i : ℕ) (entry : E) → ((e : List ℕ × E) → part (of e) ≡ stored e.1) → option_map (λ e. e.1) (slice_get es i) ≡ Some entry → option_map part (slice_get (map of es) i) ≡ Some (stored entry)
  part_at part stored [] i entry same at = absurd (none-some _ at)
  part_at part stored (e ∷ es) zero entry same at = ap Some (same e ∙ ap stored (same_Some _ _ at))
  part_at part stored (e ∷ es) (suc i) entry same at = part_at part stored es i entry same at

  -- the names are those of the entries
  pub names_at : (name : R → List ℕ) (es : List (List ℕ × E)) → ((e : List ℕ × E) → name (of e) ≡ e.0) → map name (map of es) ≡ names_of es
  names_at name [] same = refl
  names_at name (e ∷ es) same = λ j. same e j ∷ names_at name es same j

  -- the name at an index is that of the entry there
  pub name_at : (name : R → List ℕ) (es : List (List ℕ × E)) (i : ℕ) (text : List ℕ) → ((e : List ℕ × E) → name (of e) ≡ e.0) → option_map (λ e. e.0) (slice_get es i) ≡ Some text → slice_get (map name (map of es)) i ≡ Some text
  name_at name es i text same at = ap (λ xs. slice_get xs i) (names_at name es same) ∙ slice_get-map (λ e. e.0) es i ∙ at

module _ {E R : Type 0} (of : E → R) where
  -- a part of what is at an index is that part of the entry there
  pub entry_at : {P : Type 0} (part : R → P) (stored : E → P) (es : List E) (i : ℕ) (entry : E) → ((e : E) → part (of e) ≡ stored e) → slice_get es i ≡ Some entry → option_map part (slice_get (map of es) i) ≡ Some (stored entry)
  entry_at part stored [] i entry same at = absurd (none-some _ at)
  entry_at part stored (e ∷ es) zero entry same at = ap Some (same e ∙ ap stored (same_Some _ _ at))
  entry_at part stored (e ∷ es) (suc i) entry same at = entry_at part stored es i entry same at

  mapped : {P : Type 0} (part : R → P) (found : Option E) → option_map part (option_map of found) ≡ option_map (λ e. part (of e)) found
  mapped part None = refl
  mapped part (Some e) = refl

  -- what a list of parts has at an index is the part of the entry there
  pub parts_at : {P : Type 0} (part : R → P) (es : List E) (i : ℕ) (x : P) → option_map (λ e. part (of e)) (slice_get es i) ≡ Some x → slice_get (map part (map of es)) i ≡ Some x
  parts_at part es i x at = slice_get-map part (map of es) i ∙ ap (option_map part) (slice_get-map of es i) ∙ mapped part (slice_get es i) ∙ at

  pub parts_of : {P : Type 0} (part : R → P) (es : List E) (i : ℕ) (entry : E) → slice_get es i ≡ Some entry → slice_get (map part (map of es)) i ≡ Some (part (of entry))
  parts_of part es i entry at = parts_at part es i (part (of entry)) (ap (option_map (λ e. part (of e))) at)
