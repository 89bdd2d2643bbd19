-- The tests of a term that is split.
use Rattle.std.proofs.Common.{◌≡◌, ℕ, ◌<◌, List, length, get_or, Contains, Some, option_map, unwrap_or, slice_get, [], sym, ap, subst, ◌∙◌}
use Rattle.std.proofs.lemmas.List.Elements.{Contains-get_or}
use Rattle.std.proofs.lemmas.Option.{same_Some}
use Rattle.ct_sorts.specs.declared.ids.CtorId.{CtorId}
use Rattle.ct_sorts.specs.declared.ids.SortId.{SortId}
use Rattle.ct_sorts.specs.Declarations.{Declarations, Sort}
use Rattle.ct_terms.specs.declared.ids.TermId.{TermId}
use Rattle.ct_terms.specs.declared.term.Core.{Core}
use Rattle.ct_terms.specs.declared.term.Core.TheVariants as core
use Rattle.ct_terms.specs.Fields.{ctor_ids_of_sort}
use Rattle.ct_terms.specs.Terms.{Terms, IsOfSort}
use Rattle.ct_closure.specs.ClosedTable.{IsPresent, IsSplitTerm, HasCases}

-- the test of each constructor of the term's sort is there
pub case_has : (d : Declarations) (table : Terms) (t : TermId) (s sort : SortId) (ctors : List CtorId) → IsSplitTerm d table t sort → IsOfSort table t s → option_map (λ (x : Sort). x.ctors) (slice_get d.sorts s.0) ≡ Some ctors → HasCases d table t sort → (k : ℕ) (e : CtorId) → k < length ctors → IsPresent table (core.Test (get_or ctors k e) t)
case_has d table t s sort ctors split of value cases k e within =
    let same : s ≡ sort = ap (λ (p : Core × SortId). p.1) (same_Some (of.0, s) (split.unsettled.core, sort) (sym of.1 ∙ split.unsettled.stands)) in
    let listed : ctor_ids_of_sort d sort ≡ ctors = ap (ctor_ids_of_sort d) (sym same) ∙ ap (λ o. unwrap_or o []) value in
    (cases (get_or ctors k e) (subst (λ (cs : List CtorId). Contains cs (get_or ctors k e)) (sym listed) (Contains-get_or ctors k e within))).tested
