-- Bases of declarations that grow or are cut.
use Rattle.std.proofs.Common.{◌≡◌, ℕ, zero, suc, false, nat_eq, true≢false, List, [], ◌∷◌, length, take, reverse, All, refl, sym, ap, subst, ◌∙◌, arith}
use Rattle.std.proofs.lemmas.List.{length-reverse}
use Rattle.ct_sorts.specs.Declarations.{Declarations}
use Rattle.ct_sorts.specs.Consistent.{IsConsistent}
use Rattle.ct_sorts.specs.Grown.{Extends}
use Rattle.ct_sorts.specs.Lengths.{Lengths}
use Rattle.ct_sorts.specs.Marks.{CanCut, cut}
use Rattle.ct_card.specs.Sizes.{Table, AreSizes}
use Rattle.ct_terms.specs.declared.ids.TermId.{TermId}
use Rattle.ct_terms.specs.Terms.{Terms, AreSorted}
use Rattle.ct_base.specs.declared.base.Base.{Base}
use Rattle.ct_base.specs.declared.stage.Stage.{Stage}
use Rattle.ct_base.specs.Base.{IsBase, AreEarlierSizes, AreStages}
use Rattle.ct_base.specs.Cutting.{IsBelow, top_terms, top_roots, top_split}
use Rattle.ct_base.proofs.StageLemmas.{stages_later, stages_cut, stages_taken, all_reversed}

-- a base of declarations is one of later declarations
pub base_later : (d later : Declarations) (b : Base) → ((last mid earlier : Declarations) → Extends last mid → Extends mid earlier → Extends last earlier)
    → ((last earlier : Declarations) (table : Terms) → Extends last earlier → AreSorted earlier table → AreSorted last table) → Extends later d → IsBase d b → IsBase later b
base_later d later b further lasting extends is = record {
  sized = record {
    earlier = is.sized.earlier;
    consistent = is.sized.consistent;
    extends = further later d is.sized.earlier extends is.sized.extends;
    are = is.sized.are;
  };
  sorted = lasting later d b.table extends is.sorted;
  stages = stages_later d later b.table b.roots.items b.split.items (reverse b.stages.items) further extends is.stages;
}

-- where some stage is left, the list of stages is not empty
pub some_left : (stages : List Stage) (count : ℕ) → count ≡ length stages → nat_eq count 0 ≡ false → stages ≡ [] → ⊥
some_left stages zero all told none = absurd (true≢false told)
some_left stages (suc count) all told none = absurd (omega (arith, all, ap (λ (l : List Stage). length l) none))

-- what is left of a base after a cut, where some stage is left
pub base_cut : (d : Declarations) (m : Lengths) (table new : Terms) (roots ids split parts : List TermId) (read left : List Stage) (sizes : Table) → CanCut d m → IsConsistent (cut d m) → Extends (cut d m) (cut d m)
    → ((last earlier : Declarations) (t : Terms) → Extends last earlier → AreSorted earlier t → AreSorted last t)
    → (left ≡ [] → ⊥) → All (IsBelow m) left → AreStages d table roots split (reverse left) → AreSizes (cut d m) sizes
    → read ≡ left → new ≡ take (top_terms (reverse read)) table → ids ≡ take (top_roots (reverse read)) roots → parts ≡ take (top_split (reverse read)) split
    → AreEarlierSizes (cut d m) sizes × AreSorted (cut d m) new × AreStages (cut d m) new ids parts (reverse left)
base_cut d m table new roots ids split parts read left sizes can consistent itself lasting some below are sized same same_table same_roots same_split =
    let cut_stages = stages_cut d m table roots split (reverse left) can (all_reversed (IsBelow m) left below) are in (
      record { earlier = cut d m; consistent = consistent; extends = itself; are = sized },
      subst (AreSorted (cut d m)) (sym (same_table ∙ ap (λ (l : List Stage). take (top_terms (reverse l)) table) same)) (some_sorted (cut d m) table roots split (reverse left) lasting (λ none. some (from_reversed left none)) cut_stages),
      stages_taken (cut d m) table new roots ids split parts read left same same_table same_roots same_split cut_stages,
    )
  where
    from_reversed : (l : List Stage) → reverse l ≡ [] → l ≡ []
    from_reversed [] e = refl
    from_reversed (s ∷ l) e = absurd (omega (arith, ap (λ (x : List Stage). length x) e, length-reverse (s ∷ l)))

    some_sorted : (e : Declarations) (t : Terms) (r s : List TermId) (stages : List Stage) → ((last earlier : Declarations) (u : Terms) → Extends last earlier → AreSorted earlier u → AreSorted last u) → (stages ≡ [] → ⊥) → AreStages e t r s stages → AreSorted e (take (top_terms stages) t)
    some_sorted e t r s [] lasting some stand = absurd (some refl)
    some_sorted e t r s (x ∷ stages) lasting some stand = lasting e stand.0.earlier (take x.terms t) stand.0.extends stand.0.closure.sorted
