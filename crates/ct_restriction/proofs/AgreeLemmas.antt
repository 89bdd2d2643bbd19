-- Numbers that were those of equal terms: one more that is still right.
use Rattle.std.proofs.Common.{◌≡◌, ℕ, ◌+◌, ◌<◌, List, [], ◌∷◌, length, Some, slice_get, sym, subst, ◌∙◌, inl, inr, arith}
use Rattle.std.specs.List.{AllByRecursion}
use Rattle.std.proofs.lemmas.Option.{same_Some, slice_get_within, slice_get-get_or}
use Rattle.ct_terms.specs.declared.ids.TermId.{TermId}
use Rattle.ct_terms.specs.declared.term.Core.{Core}
use Rattle.ct_terms.specs.Children.{core_children}
use Rattle.ct_terms.specs.Terms.{Terms, Has, AreOrdered}
use Rattle.ct_terms.specs.CoreTree.{term_at}
use Rattle.ct_terms.proofs.CoreTreeLemmas.{term_at-unfolds}
use Rattle.ct_lemmas.proofs.Numbers.{last_or_before}
use Rattle.ct_restriction.specs.Renamed.{renamed, number_in}
use Rattle.ct_restriction.specs.Renumbered.{IsEqualTerm, AreNumbersOf}
use Rattle.ct_restriction.proofs.RenamedLemmas.{layer_renamed}

-- the number as that of a term
abbrev id : ℕ → TermId
id k = record { 0 = k }

module _ (from to : Terms) (ordered_from : AreOrdered from) (ordered : AreOrdered to) (numbers : List TermId) (index : ℕ) (before : AreNumbersOf from to numbers index) (listed : index < length numbers) where
  abbrev IsLow : TermId → Type 0
  IsLow c = IsEqualTerm from to c (number_in numbers c)

  lows : (cs : List TermId) → AllByRecursion (λ c. c.0 < index) cs → AllByRecursion IsLow cs
  lows [] all = tt
  lows (c ∷ cs) all =
      let less = all.0 in
      (before c (number_in numbers c) less (slice_get-get_or numbers c.0 c (omega (arith, less, listed))), lows cs all.1)

  -- what stands at its number over the numbers of the terms right under it is equal
  pub next_equal : (core other : Core) (u : TermId) → Has from core index → Has to other u.0 → other ≡ renamed (number_in numbers) core → IsEqualTerm from to (id index) u
  next_equal core other u has stands is =
      let at : Has to (renamed (number_in numbers) core) u.0 = subst (λ (k : Core). Has to k u.0) is stands in
      record {
        there = slice_get_within from index (core, has.0) has.1;
        within = slice_get_within to u.0 (renamed (number_in numbers) core, at.0) at.1;
        tree = term_at-unfolds to u (renamed (number_in numbers) core) at.0 ordered at.1
            ∙ layer_renamed IsLow (number_in numbers) (term_at to) (term_at from) (λ c h. h.tree) core (lows (core_children core) (ordered_from index core has))
            ∙ sym (term_at-unfolds from (id index) core has.0 ordered_from has.1);
      }

  pub numbers_more : (u : TermId) → slice_get numbers index ≡ Some u → IsEqualTerm from to (id index) u → AreNumbersOf from to numbers (index + 1)
  numbers_more u at equal = λ t v less there. elim (last_or_before t.0 index less) [
    | inl lower ↦ before t v lower there
    | inr same ↦
        let own : u ≡ v = same_Some u v (sym at ∙ subst (λ (k : ℕ). slice_get numbers k ≡ Some v) same there) in
        subst (λ (k : ℕ). IsEqualTerm from to (id k) v) (sym same) (subst (IsEqualTerm from to (id index)) own equal)
  ]
