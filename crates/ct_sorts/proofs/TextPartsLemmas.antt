-- The text of a sort is made of its name and the texts of its arguments.
use Rattle.std.proofs.Common.{◌≡◌, ℕ, List, [], ◌∷◌, ◌++◌, map, slice_get, Option, Some, None, unwrap_or, refl, sym, ◌∙◌, ap, ap₂}
use Rattle.std.specs.List.{AllZip, flat_map}
use Rattle.std.proofs.lemmas.List.{append_assoc, append-nil, map-append}
use Rattle.std.proofs.lemmas.List.Concat.{flat_map-append}
use Rattle.std.proofs.lemmas.Option.{none-some, same_Some}
use Rattle.ct_sexpr.specs.Atom.{quoted}
use Rattle.ct_sexpr.specs.Expression.{Expression as Sexpr, Expressions as Sexprs, leaf, list, none, more, with_last}
use Rattle.ct_sexpr.specs.Written.{written, written_name, written_items, written_after}
use Rattle.ct_generics.specs.Expression.{Expression, parameter, named, applied, head_of, args_of}
use Rattle.ct_generics.specs.Declarations.{Head}
use Rattle.ct_sorts.specs.declared.ids.SortId.{SortId}
use Rattle.ct_sorts.specs.SortText.{as_written, head_name, items_of, sort_text}
use Rattle.ct_sorts.specs.TextParts.{text_with, texts_of}

-- one more item is written after the others
after_last : (es : Sexprs) (x : Sexpr) → written_after (with_last es x) ≡ written_after es ++ (32 ∷ (written x ++ []))
after_last none x = refl
after_last (more e es) x =
    ap (λ (t : List ℕ). 32 ∷ (written e ++ t)) (after_last es x) ∙ ap (λ (t : List ℕ). 32 ∷ t) (sym (append_assoc (written e) (written_after es) (32 ∷ (written x ++ []))))

-- each argument after a space
abbrev spaced : List (List ℕ) → List ℕ
spaced args = flat_map (λ (a : List ℕ). 32 ∷ a) args

text_with_some : (name : List ℕ) (args : List (List ℕ)) → (args ≡ [] → ⊥) → text_with name args ≡ 40 ∷ (written_name name ++ (spaced args ++ 41 ∷ []))
text_with_some name [] some = absurd (some refl)
text_with_some name (a ∷ args) some = refl

not_empty : (xs : List (List ℕ)) (x : List ℕ) → xs ++ x ∷ [] ≡ [] → ⊥
not_empty [] x e = absurd (let same = e in cc)
not_empty (y ∷ xs) x e = absurd (let same = e in cc)

module _ (heads : List Head) where
  -- the items of the list are the name and the arguments
  items_are : (e : Expression) (h : ℕ) → head_of e ≡ Some h → (es : Sexprs) × (items_of heads e ≡ more (leaf (quoted (head_name heads h))) es) × (written_after es ≡ spaced (map (sort_text heads) (args_of e)))
  items_are (parameter i) h is = absurd (none-some _ is)
  items_are (named g) h is = (none, ap (λ (n : ℕ). more (leaf (quoted (head_name heads n))) none) (same_Some g h is), refl)
  items_are (applied e a) h is =
      let rest = items_are e h is in (
        with_last rest.0 (as_written heads a),
        ap (λ (xs : Sexprs). with_last xs (as_written heads a)) rest.1,
        after_last rest.0 (as_written heads a)
            ∙ ap (λ (t : List ℕ). t ++ (32 ∷ (sort_text heads a ++ []))) rest.2
            ∙ sym (flat_map-append (λ (x : List ℕ). 32 ∷ x) (map (sort_text heads) (args_of e)) (sort_text heads a ∷ []))
            ∙ ap spaced (sym (map-append (sort_text heads) (args_of e) (a ∷ []))),
      )

  pub text_is : (e : Expression) (h : ℕ) → head_of e ≡ Some h → sort_text heads e ≡ text_with (head_name heads h) (map (sort_text heads) (args_of e))
  text_is (parameter i) h is = absurd (none-some _ is)
  text_is (named g) h is = ap (λ (n : ℕ). written_name (head_name heads n)) (same_Some g h is)
  text_is (applied e a) h is =
      let items = items_are (applied e a) h is in
      let name = written_name (head_name heads h) in
      ap (λ (xs : Sexprs). written (list xs)) items.1
      ∙ ap (λ (t : List ℕ). 40 ∷ t) (append_assoc name (written_after items.0) (41 ∷ []))
      ∙ ap (λ (t : List ℕ). 40 ∷ (name ++ (t ++ 41 ∷ []))) items.2
      ∙ sym (text_with_some (head_name heads h) (map (sort_text heads) (args_of e ++ a ∷ [])) (λ e_empty. not_empty (map (sort_text heads) (args_of e)) (sort_text heads a) (sym (map-append (sort_text heads) (args_of e) (a ∷ [])) ∙ e_empty)))

  -- the texts of the arguments, where they stand
  pub texts_are : (texts : List (List ℕ)) (args : List SortId) (es : List Expression) → AllZip (λ (s : SortId) (a : Expression). slice_get texts s.0 ≡ Some (sort_text heads a)) args es → texts_of texts args ≡ map (sort_text heads) es
  texts_are texts [] [] all = refl
  texts_are texts [] (e ∷ es) all = absurd all
  texts_are texts (s ∷ args) [] all = absurd all
  texts_are texts (s ∷ args) (e ∷ es) all = ap₂ (λ (x : List ℕ) (xs : List (List ℕ)). x ∷ xs) (ap (λ (o : Option (List ℕ)). unwrap_or o []) all.0) (texts_are texts args es all.1)
