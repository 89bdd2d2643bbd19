-- The sorts of the arguments of a constructor of an instance are the sorts of its fields, and so determine the instance.
use Rattle.std.proofs.Common.{◌≡◌, ℕ, suc, ◌+◌, ◌<◌, true, List, [], ◌∷◌, ◌++◌, length, map, unwrap_or, option_map, Option, Some, slice_get, refl, sym, ◌∙◌, ap, ap₂, subst, arith, length-append}
use Rattle.std.specs.List.{AllZip}
use Rattle.std.specs.Option.{option_and_then}
use Rattle.std.proofs.lemmas.Option.{none-some, same_Some}
use Rattle.ct_lemmas.proofs.Lists.{slice_get-map_source}
use Rattle.ct_generics.specs.declared.kind.Kind.{Kind}
use Rattle.ct_generics.specs.declared.kind.Kind.TheVariants.{Bool as OfBool, Free, Data, Codata}
use Rattle.ct_generics.specs.Expression.{Expression, parameter, named, applied, head_of, args_of, with_args, substitute}
use Rattle.ct_generics.specs.Declarations.{Head, Takes}
use Rattle.ct_generics.specs.Occurrence.{Occurs}
use Rattle.ct_generics.specs.Reach.{fields_of, fields_by_kind, fields_with}
use Rattle.ct_sorts.specs.declared.ids.SortId.{SortId}
use Rattle.ct_sorts.specs.declared.ids.SelId.{SelId}
use Rattle.ct_sorts.specs.declared.ids.GenId.{GenId}
use Rattle.ct_sorts.specs.Consistent.{IsConsistent}
use Rattle.ct_sorts.specs.Declarations.{Declarations, Selector}
use Rattle.ct_sorts.specs.Same.{number_among}
use Rattle.ct_sorts.proofs.SameLemmas.{number_at}
use Rattle.ct_instances.specs.Among.{origin_of}
use Rattle.ct_instances.specs.Fields.{generic_fields, generic_params, is_determined, field_matches}
use Rattle.ct_instances.specs.Matching.{Assignment, all_matched, unmatched, sorts_for}
use Rattle.ct_instances.proofs.OccurLemmas.{all-is}
use Rattle.ct_terms.specs.declared.ids.TermId.{TermId}
use Rattle.ct_terms.specs.Terms.{Terms, IsOfField}
use Rattle.ct_log_text.specs.Named.{sort_at, sort_of_arguments}
use Rattle.ct_log_text.specs.Reading.{sort_of, sorts_of}
use Rattle.ct_log_text.proofs.TermSorts.{sort_of_is}
use Rattle.ct_log_text.proofs.MatchBack.{start_part, all_matched_back, sorts_back}

-- ---- a generic at its arguments

with_args-push : (e : Expression) (args : List Expression) (a : Expression) → with_args e (args ++ a ∷ []) ≡ applied (with_args e args) a
with_args-push e [] a = refl
with_args-push e (b ∷ args) a = with_args-push (applied e b) args a

pub spine : (h : ℕ) (e : Expression) → head_of e ≡ Some h → with_args (named h) (args_of e) ≡ e
spine h (parameter i) is = absurd (none-some h is)
spine h (named k) is = ap named (sym (same_Some k h is))
spine h (applied e a) is = with_args-push (named h) (args_of e) a ∙ ap (λ (f : Expression). applied f a) (spine h e is)

-- it has as many as it takes
pub args_count : (heads : List Head) (e : Expression) (m : ℕ) → Takes heads 0 m e → (h : ℕ) (head : Head) → head_of e ≡ Some h → slice_get heads h ≡ Some head → length (args_of e) + m ≡ head.params
args_count heads (parameter j) m takes h head is at = absurd (omega (arith, takes.1))
args_count heads (named k) m takes h head is at =
    let own : head.params ≡ m = same_Some head.params m (ap (option_map (λ (x : Head). x.params)) (sym at ∙ ap (slice_get heads) (sym (same_Some k h is))) ∙ takes) in
    omega (arith, own)
args_count heads (applied f a) m takes h head is at =
    let more = args_count heads f (suc m) takes.0 h head is at in
    let long = length-append (args_of f) (a ∷ []) in
    omega (arith, more, long)

-- the sorts of the fields of a constructor, where it has fields of these sorts over the parameters
pub row_back : (heads : List Head) (e : Expression) (h i : ℕ) (head : Head) (row : List Expression) → head_of e ≡ Some h → slice_get heads h ≡ Some head → slice_get (fields_of heads e) i ≡ Some row → (own : List Expression) × (slice_get head.ctors i ≡ Some own) × (map (substitute (args_of e)) own ≡ row)
row_back heads e h i head row is at at_row =
    slice_get-map_source (map (substitute (args_of e))) head.ctors i row (by head.kind (sym (ap (λ (o : Option Head). slice_get (fields_with o (args_of e)) i) (ap (option_and_then (slice_get heads)) is ∙ at)) ∙ at_row))
  where
    by : (kind : Kind) → slice_get (fields_by_kind kind (map (map (substitute (args_of e))) head.ctors)) i ≡ Some row → slice_get (map (map (substitute (args_of e))) head.ctors) i ≡ Some row
    by OfBool found = absurd (none-some row found)
    by Free found = absurd (none-some row found)
    by Data found = found
    by Codata found = found

-- ---- the sorts of terms

-- terms of the sorts of fields have these sorts
pub zip_origins : (d : Declarations) (terms : Terms) (args : List TermId) (sels : List SelId) (fields : List Expression) → AllZip (IsOfField d terms) args sels
    → ((j : ℕ) (id : SelId) (f : Expression) → slice_get sels j ≡ Some id → slice_get fields j ≡ Some f → (sel : Selector) × (slice_get d.sels id.0 ≡ Some sel) × (origin_of d sel.sort ≡ f))
    → length sels ≡ length fields → map (origin_of d) (sorts_of terms args) ≡ fields
zip_origins d terms [] [] [] all each long = refl
zip_origins d terms [] [] (f ∷ fields) all each long = absurd (omega (arith, long))
zip_origins d terms [] (s ∷ sels) fields all each long = absurd all
zip_origins d terms (t ∷ args) [] fields all each long = absurd all
zip_origins d terms (t ∷ args) (s ∷ sels) [] all each long = absurd (omega (arith, long))
zip_origins d terms (t ∷ args) (s ∷ sels) (f ∷ fields) all each long =
    let first = each 0 s f refl refl in
    let same : all.0.selector ≡ first.0 = same_Some all.0.selector first.0 (sym all.0.declared ∙ first.1) in
    let sort : sort_of terms t ≡ first.0.sort = sym (sort_of_is terms t all.0.selector.sort all.0.sorted) ∙ ap (λ (x : Selector). x.sort) same in
    ap₂ (λ (x : Expression) (xs : List Expression). x ∷ xs) (ap (origin_of d) sort ∙ first.2)
    (zip_origins d terms args sels fields all.1 (λ j id g at_id at_g. each (suc j) id g at_id at_g) (omega (arith, long)))

-- ---- the sort of the constructor

module _ (d : Declarations) (consistent : IsConsistent d) (s : SortId) (e : Expression) (origin : slice_get d.origins s.0 ≡ Some e) (g : GenId) (is : head_of e ≡ Some g.0) where
  -- the generic at the arguments of the sort is the sort
  pub sort_at_back : sort_at d g (args_of e) ≡ Some s
  sort_at_back =
      let whole : number_among d.origins (with_args (named g.0) (args_of e)) ≡ number_among d.origins e = ap (number_among d.origins) (spine g.0 e is) in
      let found = number_at d.origins e (s.0, origin) in
      let same : found.0 ≡ s.0 = consistent.origins.different found.0 s.0 e found.2 origin in
      ap (option_map (λ (n : ℕ). record { 0 = n })) (whole ∙ found.1) ∙ ap (λ (n : ℕ). Some (record { 0 = n })) same

  module _ (head : Head) (at : slice_get d.declared.heads g.0 ≡ Some head) (i : ℕ) (row : List Expression) (at_row : slice_get head.ctors i ≡ Some row) where
    params_count : head.params ≡ length (args_of e)
    params_count =
        let count = args_count d.declared.heads e 0 (consistent.origins.sorts s.0 e origin) g.0 head is at in
        omega (arith, count)

    fields_so : generic_fields d g i ≡ row
    fields_so = ap (λ (o : Option Head). unwrap_or (option_and_then (λ (h : Head). slice_get h.ctors i) o) []) at ∙ ap (λ (o : Option (List Expression)). unwrap_or o []) at_row

    params_so : generic_params d g ≡ length (args_of e)
    params_so = ap (λ (o : Option Head). unwrap_or (option_map (λ (h : Head). h.params) o) 0) at ∙ params_count

    -- where the fields determine the sort, terms of the sorts of its fields give it
    pub sort_back : is_determined d g i ≡ true → (sorts : List SortId) → map (origin_of d) sorts ≡ map (substitute (args_of e)) row → sort_of_arguments d g i sorts ≡ Some s
    sort_back determined sorts are =
        let args = args_of e in
        let takes : (j : ℕ) (x : Expression) → slice_get row j ≡ Some x → Takes d.declared.heads (length args) 0 x =
        λ j x at_x. subst (λ (n : ℕ). Takes d.declared.heads n 0 x) params_count (consistent.heads.formed.heads g.0 head at i row at_row j x at_x) in
        let back = all_matched_back args d.declared.heads row (unmatched (length args)) takes (start_part args) in
        let matches : field_matches d g i sorts ≡ Some back.after =
        (λ k. all_matched (fields_so k) (are k) (unmatched (params_so k))) ∙ back.is in
        let met = λ (j : ℕ) (below : j < length args). back.met j (subst (λ (es : List Expression). (n : ℕ) × (x : Expression) × (slice_get es n ≡ Some x) × Occurs j x) fields_so (all-is (generic_fields d g i) 0 (generic_params d g) determined j (omega arith) (omega (arith, below, params_so)))) in
        let found : sorts_for back.after ≡ Some args = sorts_back args back.after back.part met in
        ap (option_and_then (λ (m : Assignment). option_and_then (sort_at d g) (sorts_for m))) matches ∙ ap (option_and_then (sort_at d g)) found ∙ sort_at_back
