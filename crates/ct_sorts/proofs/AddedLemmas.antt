-- Sorts that were added to those in the list, with all that come with them, fit what is declared.
use Rattle.std.proofs.Common.{◌≡◌, ℕ, zero, suc, ◌+◌, ◌<◌, ◌≤◌, ◌⊎◌, inl, inr, ⊎_elim, List, [], ◌∷◌, ◌++◌, length, slice_get, Some, refl, sym, ◌∙◌, ap, subst, arith}
use Rattle.std.proofs.lemmas.Option.{same_Some}
use Rattle.ct_lemmas.proofs.Lists.{slice_get-append_after, slice_get-append_cases, slice_get-append_left}
use Rattle.ct_lemmas.proofs.Prefixes.{slice_get-take}
use Rattle.ct_generics.specs.Expression.{Expression, named, args_of, head_of}
use Rattle.ct_generics.specs.Declarations.{Head, IsExpression}
use Rattle.ct_generics.specs.Reach.{AreDifferent}
use Rattle.ct_generics.specs.Add.{Adds, IsAmong, Fits, field_sorts, none, there, given, made}
use Rattle.ct_generics.specs.Additions.{AreAmong, HaveFields, IsAddition}
use Rattle.ct_generics.specs.WellFormed.{AreExpressions, HaveExpressions}
use Rattle.ct_sorts.specs.Declarations.{Declarations, start}
use Rattle.ct_sorts.specs.Consistent.{IsConsistent}
use Rattle.ct_sorts.specs.Limits.{room_in}
use Rattle.ct_sorts.proofs.BaseLemmas.{IsBase, base_of}
use Rattle.ct_sorts.proofs.ConsistentLemmas.{begins}
use Rattle.ct_sorts.proofs.HeadLemmas.{later_of_closed}
use Rattle.ct_sorts.proofs.SortsLemmas.{AreAdded}

-- one that is there is there in a longer list
among_longer : (xs ys : List Expression) (e : Expression) → IsAmong xs e → IsAmong (xs ++ ys) e
among_longer xs ys e among = (among.0, slice_get-append_left xs ys among.0 e among.1)

-- each sort but Bool is of a sort or generic that is not the first
pub later_of_added : (d : Declarations) → IsBase d → (xs : List Expression) → AreDifferent (d.origins ++ xs) → ((i : ℕ) (e : Expression) → slice_get xs i ≡ Some e → IsExpression d.declared.heads 0 e)
    → (i : ℕ) (e : Expression) → slice_get xs i ≡ Some e → (k : ℕ) × (head : Head) × (head_of e ≡ Some (suc k)) × (slice_get d.declared.heads (suc k) ≡ Some head)
later_of_added d c xs different sorts i e at = later_of_closed d.declared.heads without e (sorts i e at) apart
  where
    without : (head : Head) → slice_get d.declared.heads 0 ≡ Some head → head.params ≡ 0
    without head first =
        let bool = slice_get-take 1 d.declared.heads 0 _ (ap (λ (xs : List Head). slice_get xs 0) c.first_head) in
        ap (λ (h : Head). h.params) (same_Some _ _ (sym first ∙ bool))

    apart : e ≡ named 0 → ⊥
    apart is =
        let first = slice_get-append_left d.origins xs 0 (named 0) (slice_get-take 1 d.origins 0 (named 0) (ap (λ (es : List Expression). slice_get es 0) c.first_origin)) in
        let same = different (length d.origins + i) 0 (named 0) (slice_get-append_after d.origins xs i ∙ at ∙ ap Some is) first in
        omega (arith, same, begins 1 d.origins start.origins c.first_origin refl)

module _ (heads : List Head) (keeps : (es before after : List Expression) → Adds heads es before after → IsAddition heads es before after) where
  -- what was there is there still
  among_after : (es before after : List Expression) → Adds heads es before after → (e : Expression) → IsAmong before e → IsAmong after e
  among_after es before after adds e among =
      let k = keeps es before after adds in
      subst (λ (xs : List Expression). IsAmong xs e) (sym k.begins) (among_longer before k.more e among)

  all_after : (es before after : List Expression) → Adds heads es before after → (fs : List Expression) → AreAmong before fs → AreAmong after fs
  all_after es before after adds fs all k f at = among_after es before after adds f (all k f at)

  -- each sort that was added has the sorts of its fields in the list
  pub new_fields : (es before after : List Expression) → Adds heads es before after → (e : Expression) → IsAmong after e → IsAmong before e ⊎ AreAmong after (field_sorts heads e)
  new_fields es before after (none sorts) e among = inl among
  new_fields es before after (there f rest old new is adds) e among = new_fields rest before after adds e among
  new_fields es before after (given f rest old middle new apart args is adds) e among =
      ⊎_elim
      (λ (h : IsAmong middle e). ⊎_elim (λ (old_one : IsAmong before e). inl old_one) (λ fields. inr (all_after rest middle after adds (field_sorts heads e) fields)) (new_fields (args_of f) before middle args e h))
      (λ fields. inr fields)
      (new_fields rest middle after adds e among)
  new_fields es before after (made f rest old middle last new apart args fresh fields adds) e among =
      ⊎_elim
      (λ (h : IsAmong last e). ⊎_elim (in_middle (λ k. new_fields (args_of f) before middle args e k)) (λ own. inr (all_after rest last after adds (field_sorts heads e) own)) (new_fields (field_sorts heads f) (middle ++ f ∷ []) last fields e h))
      (λ own. inr own)
      (new_fields rest last after adds e among)
    where
      up : (fs : List Expression) → AreAmong middle fs → AreAmong after fs
      up fs all = all_after rest last after adds fs (all_after (field_sorts heads f) (middle ++ f ∷ []) last fields fs (λ k g at. among_longer middle (f ∷ []) g (all k g at)))

      here : e ≡ f → AreAmong after (field_sorts heads e)
      here same = subst (λ x. AreAmong after (field_sorts heads x)) (sym same) (all_after rest last after adds (field_sorts heads f) (keeps (field_sorts heads f) (middle ++ f ∷ []) last fields).all)

      at_end : (i : ℕ) → slice_get (f ∷ []) i ≡ Some e → e ≡ f
      at_end zero at = sym (same_Some _ _ at)
      at_end (suc i) at = absurd (let same = at in cc)

      in_middle : (IsAmong middle e → IsAmong before e ⊎ AreAmong middle (field_sorts heads e)) → IsAmong (middle ++ f ∷ []) e → IsAmong before e ⊎ AreAmong after (field_sorts heads e)
      in_middle earlier h =
          ⊎_elim
          (λ at. ⊎_elim (λ (old_one : IsAmong before e). inl old_one) (λ own. inr (up (field_sorts heads e) own)) (earlier (h.0, at)))
          (λ at. inr (here (at_end at.0 at.2)))
          (slice_get-append_cases middle (f ∷ []) h.0 e h.1)

-- what an instance adds
pub added_instance : (d : Declarations) (es added : List Expression) → IsConsistent d
    → ((es before after : List Expression) → Adds d.declared.heads es before after → IsAddition d.declared.heads es before after)
    → (HaveExpressions d.declared.heads → Adds d.declared.heads es d.origins (d.origins ++ added) → AreExpressions d.declared.heads 0 es → AreExpressions d.declared.heads 0 d.origins → AreExpressions d.declared.heads 0 (d.origins ++ added))
    → AreExpressions d.declared.heads 0 es → Adds d.declared.heads es d.origins (d.origins ++ added) → Fits d.declared.heads (room_in d) added → AreAdded d added
added_instance d es added c keeps formed closed adds fits =
    let k = keeps es d.origins (d.origins ++ added) adds in
    let different = k.different c.origins.different in
    let all = formed c.heads.formed.heads adds closed c.origins.sorts in
    let sorts : (i : ℕ) (e : Expression) → slice_get added i ≡ Some e → IsExpression d.declared.heads 0 e = λ i e at. all (length d.origins + i) e (slice_get-append_after d.origins added i ∙ at) in
    record {
      different = different;
      arguments = k.arguments c.origins.arguments;
      fields = k.fields c.origins.fields;
      sorts = sorts;
      later = later_of_added d (base_of d c) added different sorts;
      sorts_fit = fits.sorts;
      ctors_fit = fits.ctors;
      sels_fit = fits.sels;
      plain = λ h head at without. let s = c.plain h head at without in (s.0, slice_get-append_left d.origins added s.0 (named h) s.1);
    }
