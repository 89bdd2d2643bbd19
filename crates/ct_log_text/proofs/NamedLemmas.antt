-- Steps to what the name of a term line stands for: a sort by its text, and the sort that is a generic at others.
use Rattle.std.proofs.Common.{◌≡◌, ℕ, List, [], ◌∷◌, map, get_or, All, Option, Some, None, IfSome, IfNone, MatchOption, Decides, option_map, slice_get, position, refl, sym, ap, ap₂, subst, ◌∙◌, arith}
use Rattle.std.specs.List.{AllZip}
use Rattle.std.specs.Option.{option_and_then}
use Rattle.std.specs.Str.{bytes_eq}
use Rattle.std.proofs.lemmas.List.{length-map}
use Rattle.std.proofs.lemmas.List.Quantifiers.{position-Some}
use Rattle.std.proofs.lemmas.Option.{slice_get_within, get_or_from_slice_get}
use Rattle.std.proofs.lemmas.Slice.Eq.{bytes_eq-Decides}
use Rattle.ct_lemmas.proofs.Lists.{slice_get-map_at, slice_get-map_source, slice_get-read}
use Rattle.ct_lemmas.proofs.Pairs.{AllZip-from}
use Rattle.ct_generics.specs.Expression.{Expression, named, with_args}
use Rattle.ct_sorts.specs.declared.ids.SortId.{SortId}
use Rattle.ct_sorts.specs.declared.ids.GenId.{GenId}
use Rattle.ct_sorts.specs.Applied.{IsAt}
use Rattle.ct_sorts.specs.Availability.{IsListed}
use Rattle.ct_sorts.specs.Consistent.{IsConsistent}
use Rattle.ct_sorts.specs.Declarations.{Declarations, IsSort}
use Rattle.ct_sorts.specs.Instances.{IsOrigin}
use Rattle.ct_sorts.specs.Same.{is_same, number_among}
use Rattle.ct_sorts.specs.SortText.{sort_text}
use Rattle.ct_sorts.proofs.NameLemmas.{position-cases}
use Rattle.ct_sorts.proofs.SameLemmas.{number_at, is_same-decides}
use Rattle.ct_instances.specs.Among.{origin_of}
use Rattle.ct_instances.specs.Fields.{field_matches}
use Rattle.ct_instances.specs.Matching.{Assignment, sorts_for}
use Rattle.ct_instances.proofs.CtorNameLemmas.{origin_at}
use Rattle.ct_instances.proofs.InstanceLemmas.{origin_is}
use Rattle.ct_log_text.specs.Named.{sort_with_text, sort_at, sort_of_arguments}
use Rattle.ct_log_text.proofs.ResolveBack.{OneText, sort_found}

-- the sort with a number, where there is one
abbrev numbered : Option ℕ → Option SortId
numbered o = option_map (λ (n : ℕ). record { 0 = n }) o

-- ---- a sort by its text

text_decides : (d : Declarations) (wanted : List ℕ) (e : Expression) → Decides (bytes_eq (sort_text d.declared.heads e) wanted) (wanted ≡ sort_text d.declared.heads e)
text_decides d wanted e =
    let both = bytes_eq-Decides (sort_text d.declared.heads e) wanted in
    (λ t. sym (both.0 t), λ is. both.1 (sym is))

-- none has this text
text_missing : (d : Declarations) (text : List ℕ) → ((s : SortId) (e : Expression) → IsOrigin d s e → sort_text d.declared.heads e ≡ text → ⊥) → None ≡ sort_with_text d text
text_missing d text missing =
    by (position (λ e. bytes_eq (sort_text d.declared.heads e) text) d.origins) (position-cases (sort_text d.declared.heads) (λ e. bytes_eq (sort_text d.declared.heads e) text) text (text_decides d text) d.origins)
  where
    by : (o : Option ℕ) → MatchOption o (IsListed (map (sort_text d.declared.heads) d.origins) text → ⊥) (λ index. slice_get (map (sort_text d.declared.heads) d.origins) index ≡ Some text) → None ≡ numbered o
    by None absent = refl
    by (Some n) found =
        let source = slice_get-map_source (sort_text d.declared.heads) d.origins n text found in
        absurd (missing (record { 0 = n }) source.0 source.1 source.2)

-- a number with something is that of a sort
origin_within : (d : Declarations) → IsConsistent d → (s : SortId) (e : Expression) → IsOrigin d s e → IsSort d s
origin_within d consistent s e at = omega (arith, slice_get_within d.origins s.0 e at, consistent.origins.one_each)

-- this one has it
text_there : (d : Declarations) → IsConsistent d → OneText d → (text : List ℕ) (s : SortId) (e : Expression) → IsOrigin d s e → sort_text d.declared.heads e ≡ text → Some s ≡ sort_with_text d text
text_there d consistent one_text text s e at is =
    let own : sort_text d.declared.heads (origin_of d s) ≡ text = ap (sort_text d.declared.heads) (origin_is d consistent s e at) ∙ is in
    sym (ap (sort_with_text d) (sym own) ∙ sort_found d consistent one_text s (origin_within d consistent s e at))

-- so the one that is found by its text is this one, and a sort
module _ (d : Declarations) (consistent : IsConsistent d) where
  pub text_answer : OneText d → (text : List ℕ) (found : Option SortId)
      → MatchOption found ((s : SortId) (e : Expression) → IsOrigin d s e → sort_text d.declared.heads e ≡ text → ⊥) (λ s. (e : Expression) × IsOrigin d s e × (sort_text d.declared.heads e ≡ text)) → found ≡ sort_with_text d text
  text_answer one_text text None missing = text_missing d text missing
  text_answer one_text text (Some s) there = text_there d consistent one_text text s there.0 there.1 there.2

  pub text_inside : (text : List ℕ) (found : Option SortId)
      → MatchOption found ((s : SortId) (e : Expression) → IsOrigin d s e → sort_text d.declared.heads e ≡ text → ⊥) (λ s. (e : Expression) × IsOrigin d s e × (sort_text d.declared.heads e ≡ text)) → IfSome found (IsSort d)
  text_inside text None missing = tt
  text_inside text (Some s) there = origin_within d consistent s there.0 there.1

-- ---- a generic at sorts

-- a number that is found is that of the expression
number_stands : (origins : List Expression) (e : Expression) (n : ℕ) → number_among origins e ≡ Some n → slice_get origins n ≡ Some e
number_stands origins e n found =
    let at = position-Some (is_same e) origins n e found in
    let same : e ≡ get_or origins n e = (is_same-decides e (get_or origins n e)).0 at.1 in
    slice_get-read origins origins refl n e at.0 ∙ ap (λ (x : Expression). Some x) (sym same)

module _ (d : Declarations) (consistent : IsConsistent d) (g : GenId) (args : List SortId) (within : All (IsSort d) args) where
  is_origin : (k : ℕ) (s : SortId) → slice_get args k ≡ Some s → IsOrigin d s (origin_of d s)
  is_origin k s at = origin_at d consistent s (subst (IsSort d) (get_or_from_slice_get args k s s at) (within k s (slice_get_within args k s at)))

  abbrev whole : Expression
  whole = with_args (named g.0) (map (origin_of d) args)

  -- it is this one
  at_these : IsAt d g args whole
  at_these = (
    map (origin_of d) args,
    AllZip-from (IsOrigin d) args (map (origin_of d) args) (sym (length-map args (origin_of d)))
        (λ k s e at_s at_e. is_origin k s at_s ∙ sym (slice_get-map_at (origin_of d) args k s at_s) ∙ at_e),
    refl,
  )

  -- and no other
  origins_same : (ss : List SortId) (es : List Expression) → AllZip (IsOrigin d) ss es → map (origin_of d) ss ≡ es
  origins_same [] [] all = refl
  origins_same [] (e ∷ es) all = absurd all
  origins_same (s ∷ ss) [] all = absurd all
  origins_same (s ∷ ss) (e ∷ es) all = ap₂ (λ (x : Expression) (xs : List Expression). x ∷ xs) (origin_is d consistent s e all.0) (origins_same ss es all.1)

  at_found : (s : SortId) (e : Expression) → IsAt d g args e → IsOrigin d s e → Some s ≡ sort_at d g (map (origin_of d) args)
  at_found s e is origin =
      let same : whole ≡ e = ap (with_args (named g.0)) (origins_same args is.0 is.1) ∙ sym is.2 in
      let found = number_at d.origins e (s.0, origin) in
      let number : found.0 ≡ s.0 = consistent.origins.different found.0 s.0 e found.2 origin in
      sym (ap (λ (x : Expression). option_map (λ (n : ℕ). record { 0 = n }) (number_among d.origins x)) same ∙ ap (option_map (λ (n : ℕ). record { 0 = n })) found.1 ∙ ap (λ (n : ℕ). Some (record { 0 = n })) number)

  at_missing : ((e : Expression) (s : SortId) → IsAt d g args e → IsOrigin d s e → ⊥) → None ≡ sort_at d g (map (origin_of d) args)
  at_missing missing = by (number_among d.origins whole) refl
    where
      by : (o : Option ℕ) → number_among d.origins whole ≡ o → None ≡ numbered o
      by None e = refl
      by (Some n) e = absurd (missing whole (record { 0 = n }) at_these (number_stands d.origins whole n e))

  pub at_answer : (found : Option SortId) → IfSome found (λ s. (e : Expression) × IsAt d g args e × IsOrigin d s e) → IfNone found ((e : Expression) (s : SortId) → IsAt d g args e → IsOrigin d s e → ⊥)
      → found ≡ sort_at d g (map (origin_of d) args)
  at_answer None some none = at_missing none
  at_answer (Some s) some none = at_found s some.0 some.1 some.2

  pub at_inside : (found : Option SortId) → IfSome found (λ s. (e : Expression) × IsAt d g args e × IsOrigin d s e) → IfSome found (IsSort d)
  at_inside None some = tt
  at_inside (Some s) some = origin_within d consistent s some.0 some.2

-- ---- the sort of a constructor by those of its arguments

-- where all are matched, and where they are not
pub arguments_give : (d : Declarations) (g : GenId) (i : ℕ) (sorts : List SortId) (o : Option (List Expression)) → option_and_then sorts_for (field_matches d g i sorts) ≡ o → option_and_then (sort_at d g) o ≡ sort_of_arguments d g i sorts
arguments_give d g i sorts o is = ap (option_and_then (sort_at d g)) (sym is) ∙ through (field_matches d g i sorts)
  where
    through : (found : Option Assignment) → option_and_then (sort_at d g) (option_and_then sorts_for found) ≡ option_and_then (λ (m : Assignment). option_and_then (sort_at d g) (sorts_for m)) found
    through None = refl
    through (Some m) = refl
