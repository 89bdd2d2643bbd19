-- A test of whether names are different.
use Rattle.std.proofs.Common.{◌≡◌, ℕ, zero, suc, ◌&&◌, Bool, true, false, not, List, [], ◌∷◌, length, slice_get, Some, ◌↔◌, subst, Decides, ◌⊎◌, inl, inr, ⊎_elim, refl, sym, ap, ◌∙◌}
use Rattle.std.specs.List.{list_any}
use Rattle.std.specs.Str.{bytes_eq}
use Rattle.std.proofs.lemmas.Slice.Eq.{bytes_eq-Decides}
use Rattle.std.proofs.lemmas.Bool.{true≢false}
use Rattle.std.proofs.lemmas.Bool.Decides.{Decides-or, Decides-like}
use Rattle.std.proofs.lemmas.Option.{none-some, same_Some}
use Rattle.ct_words.specs.NameList.{AreDistinct, IsListed, names_in, text_of_names}

-- a listed name is the first one or listed among the others
pub IsListed-cons : (first : List ℕ) (names : List (List ℕ)) (name : List ℕ) → IsListed (first ∷ names) name → (first ≡ name) ⊎ IsListed names name
IsListed-cons first names name (zero, e) = inl (same_Some _ _ e)
IsListed-cons first names name (suc index, e) = inr (index, e)

-- a search for a name finds it exactly where it is listed
pub list_any-IsListed : (names : List (List ℕ)) (name : List ℕ) → Decides (list_any (λ other. bytes_eq other name) names) (IsListed names name)
list_any-IsListed [] name = (λ e. absurd (true≢false (sym e)), λ h. absurd (none-some _ h.1))
list_any-IsListed (first ∷ names) name =
    Decides-like _ (⊎_elim (λ e. (0, ap Some e)) (λ h. (suc h.0, h.1))) (IsListed-cons first names name)
    (Decides-or _ _ (bytes_eq-Decides first name) (list_any-IsListed names name))

-- whether no name is listed among the later ones
abbrev pub are_distinct : List (List ℕ) → Bool
are_distinct [] = true
are_distinct (name ∷ names) = not (list_any (λ other. bytes_eq other name) names) && are_distinct names

-- what a passed test says of the first name and of the others
pub both : (a b : Bool) → (not a && b) ≡ true → (a ≡ false) × (b ≡ true)
both false b e = (refl, e)
both true b e = absurd (true≢false (sym e))

-- names that pass the test are different
pub AreDistinct-test : (names : List (List ℕ)) → are_distinct names ≡ true → AreDistinct names
AreDistinct-test [] passed i j name ei ej = absurd (none-some _ ei)
AreDistinct-test (first ∷ names) passed zero zero name ei ej = refl
AreDistinct-test (first ∷ names) passed zero (suc j) name ei ej =
    let p = both _ _ passed in
    let listed : IsListed names first = (j, ej ∙ sym ei) in
    absurd (true≢false (sym ((list_any-IsListed names first).1 listed) ∙ p.0))
AreDistinct-test (first ∷ names) passed (suc i) zero name ei ej =
    let p = both _ _ passed in
    let listed : IsListed names first = (i, ei ∙ sym ej) in
    absurd (true≢false (sym ((list_any-IsListed names first).1 listed) ∙ p.0))
AreDistinct-test (first ∷ names) passed (suc i) (suc j) name ei ej =
    ap suc (AreDistinct-test names (both _ _ passed).1 i j name ei ej)

-- a text that is written as different names may stand for a table
pub is_table_text : (text written : List ℕ) (names : List (List ℕ)) (count : ℕ) → text ≡ written → names_in written ≡ names → text_of_names names ≡ written → length names ≡ count → are_distinct names ≡ true → (text_of_names (names_in text) ≡ text) × (length (names_in text) ≡ count) × AreDistinct (names_in text)
is_table_text text written names count is_text is_names again counted passed =
    rw (is_text, is_names) (again, counted, AreDistinct-test names passed)

-- an index of a name among different names is its only one
pub only_index : (names : List (List ℕ)) (text : List ℕ) (index other : ℕ) → AreDistinct names → slice_get names index ≡ Some text → (Some index ≡ Some other) ↔ (slice_get names other ≡ Some text)
only_index names text index other distinct at =
    (λ same. subst (λ (x : ℕ). slice_get names x ≡ Some text) (same_Some _ _ same) at, λ at_other. ap Some (distinct index other text at at_other))
