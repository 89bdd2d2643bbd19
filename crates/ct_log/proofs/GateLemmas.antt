-- What stands under Boolean terms and choices that are well sorted.
use Rattle.std.proofs.Common.{◌≡◌, ℕ, Bool, true, false, not, nat_eq, List, All, refl, sym, ap, subst, ◌∙◌, map, [], ◌∷◌, true≢false}
use Rattle.std.proofs.lemmas.Bool.Decides.{Decides-eqb}
use Rattle.std.proofs.lemmas.Option.{same_Some}
use Rattle.ct_sorts.specs.declared.ids.SortId.{SortId}
use Rattle.ct_sorts.specs.Declarations.{bool_sort}
use Rattle.ct_terms.specs.declared.ids.TermId.{TermId}
use Rattle.ct_terms.specs.declared.ids.Lit.{Lit}
use Rattle.ct_terms.specs.declared.term.Core.{Core}
use Rattle.ct_terms.specs.declared.term.Core.TheVariants as core
use Rattle.ct_terms.specs.Clause.{opposites}
use Rattle.ct_terms.specs.Literal.{opposite, literal_of}
use Rattle.ct_terms.specs.Terms.{Terms, IsBoolean, IsOfSort, Has}
use Rattle.ct_log.specs.Gates.{literals_of}
use Rattle.ct_log.specs.Look.{AreSortedTerms}

-- one number has one term
pub Has-same : (terms : Terms) (a b : Core) (t : ℕ) → Has terms a t → Has terms b t → a ≡ b
Has-same terms a b t at_a at_b = ap (λ e. e.0) (same_Some (a, at_a.0) (b, at_b.0) (sym at_a.1 ∙ at_b.1))

pub And-booleans : (terms : Terms) (t : ℕ) (args : List TermId) → AreSortedTerms terms → Has terms (core.And args) t → All (IsBoolean terms) args
And-booleans terms t args sorted has = (sorted.1 t (core.And args) has.0 has.1).booleans

pub Or-booleans : (terms : Terms) (t : ℕ) (args : List TermId) → AreSortedTerms terms → Has terms (core.Or args) t → All (IsBoolean terms) args
Or-booleans terms t args sorted has = (sorted.1 t (core.Or args) has.0 has.1).booleans

pub Iff-booleans : (terms : Terms) (t : ℕ) (a b : TermId) → AreSortedTerms terms → Has terms (core.Iff a b) t → IsBoolean terms a × IsBoolean terms b
Iff-booleans terms t a b sorted has = let h = sorted.1 t (core.Iff a b) has.0 has.1 in (h.0, h.1)

pub Ite-condition : (terms : Terms) (t : ℕ) (c a b : TermId) → AreSortedTerms terms → Has terms (core.Ite c a b) t → IsBoolean terms c
Ite-condition terms t c a b sorted has = (sorted.1 t (core.Ite c a b) has.0 has.1).0

-- the branches of a choice have its sort
pub Ite-branches : (terms : Terms) (t : TermId) (c a b : TermId) (s : SortId) → AreSortedTerms terms → Has terms (core.Ite c a b) t.0 → IsOfSort terms t s → IsOfSort terms a s × IsOfSort terms b s
Ite-branches terms t c a b s sorted has of_sort =
    let h = sorted.1 t.0 (core.Ite c a b) has.0 has.1 in
    let same : has.0 ≡ s = ap (λ e. e.1) (same_Some (core.Ite c a b, has.0) (of_sort.0, s) (sym has.1 ∙ of_sort.1)) in
    (subst (IsOfSort terms a) same h.1, subst (IsOfSort terms b) same h.2)

-- the opposites of literals, as one map
pub opposites-map : (terms : Terms) (args : List TermId) → opposites (literals_of terms args) ≡ map (λ a. opposite (literal_of terms a)) args
opposites-map terms [] = refl
opposites-map terms (a ∷ args) = ap (λ (ls : List Lit). opposite (literal_of terms a) ∷ ls) (opposites-map terms args)

-- the sort that the test takes for Bool is Bool
pub is_bool : (s : SortId) → not (nat_eq s.0 0) ≡ false → s ≡ bool_sort
is_bool s told =
    let of : ℕ → SortId = λ n. record { 0 = n } in
    ap of ((Decides-eqb s.0 0).0 (twice (nat_eq s.0 0) told))
  where
    twice : (b : Bool) → not b ≡ false → b ≡ true
    twice true h = refl
    twice false h = absurd (true≢false h)
