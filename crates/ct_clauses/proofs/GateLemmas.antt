-- The clauses of gates, and that their literals are over Boolean terms that are no negations.
use Rattle.std.proofs.Common.{◌≡◌, ℕ, Bool, true, false, List, [], ◌∷◌, map, All, Some, slice_get, refl, sym, ap, subst, ◌∙◌, nat_eq, if◌then◌else◌}
use Rattle.std.proofs.lemmas.List.Elements.{All-cons}
use Rattle.std.proofs.lemmas.Option.{same_Some}
use Rattle.ct_lemmas.proofs.Each.{All-one}
use Rattle.ct_lemmas.proofs.Prefixes.{slice_get-take}
use Rattle.ct_sorts.specs.declared.ids.CtorId.{CtorId}
use Rattle.ct_sorts.specs.declared.ids.SortId.{SortId}
use Rattle.ct_sorts.specs.Declarations.{bool_sort}
use Rattle.ct_terms.specs.declared.ids.TermId.{TermId}
use Rattle.ct_terms.specs.declared.ids.Lit.{Lit}
use Rattle.ct_terms.specs.declared.term.Core.{Core}
use Rattle.ct_terms.specs.declared.term.Core.TheVariants as core
use Rattle.ct_terms.specs.Clause.{Clause, opposites}
use Rattle.ct_terms.specs.Literal.{opposite, literal_of, IsStripped}
use Rattle.ct_terms.specs.Terms.{Terms, IsBoolean, IsOfSort, Has, BeginsWithTruths}
use Rattle.ct_rules.specs.Rules.{truth_term}
use Rattle.ct_log.specs.declared.rules.Gate.{Gate}
use Rattle.ct_log.specs.declared.rules.Gate.TheVariants.{Ite1, Ite2, Ite3, Ite4, Then, Else}
use Rattle.ct_log.specs.Gates.{literals_of, IsGateClause}
use Rattle.ct_log.specs.Look.{AreSortedTerms, signed}
use Rattle.ct_clauses.specs.Initial.{whole, choice_gates}
use Rattle.ct_clauses.specs.Growth.{IsGateLine}

-- one number has one term
pub Has-same : (terms : Terms) (a b : Core) (t : ℕ) → Has terms a t → Has terms b t → a ≡ b
Has-same terms a b t at_a at_b = ap (λ e. e.0) (same_Some (a, at_a.0) (b, at_b.0) (sym at_a.1 ∙ at_b.1))

-- the term is of the sort Bool, and is not the negation of another
abbrev pub IsFormula : Core → Type 0
IsFormula (core.Not a) = ⊥
IsFormula c = Unit {0}

-- a Boolean term that is no negation
pub stripped : (terms : Terms) (c : Core) (t : TermId) (sort : SortId) → slice_get terms t.0 ≡ Some (c, sort) → sort ≡ bool_sort → IsFormula c → IsStripped terms t
stripped terms c t sort at boolean formula = (
  (c, at ∙ ap (λ (s : SortId). Some (c, s)) boolean),
  λ a has. subst IsFormula (Has-same terms c (core.Not a) t.0 (sort, at) has) formula,
)

pub And-stripped : (terms : Terms) (t : TermId) (args : List TermId) → AreSortedTerms terms → Has terms (core.And args) t.0 → IsStripped terms t
And-stripped terms t args sorted has = stripped terms (core.And args) t has.0 has.1 (sorted.1 t.0 (core.And args) has.0 has.1).result tt

pub Or-stripped : (terms : Terms) (t : TermId) (args : List TermId) → AreSortedTerms terms → Has terms (core.Or args) t.0 → IsStripped terms t
Or-stripped terms t args sorted has = stripped terms (core.Or args) t has.0 has.1 (sorted.1 t.0 (core.Or args) has.0 has.1).result tt

pub Iff-stripped : (terms : Terms) (t a b : TermId) → AreSortedTerms terms → Has terms (core.Iff a b) t.0 → IsStripped terms t
Iff-stripped terms t a b sorted has = stripped terms (core.Iff a b) t has.0 has.1 (sorted.1 t.0 (core.Iff a b) has.0 has.1).2 tt

pub Eq-stripped : (terms : Terms) (t a b : TermId) → AreSortedTerms terms → Has terms (core.Eq a b) t.0 → IsStripped terms t
Eq-stripped terms t a b sorted has = stripped terms (core.Eq a b) t has.0 has.1 (sorted.1 t.0 (core.Eq a b) has.0 has.1).result tt

pub Ite-stripped : (terms : Terms) (t c a b : TermId) → Has terms (core.Ite c a b) t.0 → IsBoolean terms t → IsStripped terms t
Ite-stripped terms t c a b has boolean =
    stripped terms (core.Ite c a b) t has.0 has.1 (ap (λ e. e.1) (same_Some (core.Ite c a b, has.0) (boolean.0, bool_sort) (sym has.1 ∙ boolean.1))) tt

-- the arguments of Boolean terms are Boolean
pub And-booleans : (terms : Terms) (t : ℕ) (args : List TermId) → AreSortedTerms terms → Has terms (core.And args) t → All (IsBoolean terms) args
And-booleans terms t args sorted has = (sorted.1 t (core.And args) has.0 has.1).booleans

pub Or-booleans : (terms : Terms) (t : ℕ) (args : List TermId) → AreSortedTerms terms → Has terms (core.Or args) t → All (IsBoolean terms) args
Or-booleans terms t args sorted has = (sorted.1 t (core.Or args) has.0 has.1).booleans

pub Iff-booleans : (terms : Terms) (t : ℕ) (a b : TermId) → AreSortedTerms terms → Has terms (core.Iff a b) t → IsBoolean terms a × IsBoolean terms b
Iff-booleans terms t a b sorted has = let h = sorted.1 t (core.Iff a b) has.0 has.1 in (h.0, h.1)

pub Ite-condition : (terms : Terms) (t : ℕ) (c a b : TermId) → AreSortedTerms terms → Has terms (core.Ite c a b) t → IsBoolean terms c
Ite-condition terms t c a b sorted has = (sorted.1 t (core.Ite c a b) has.0 has.1).0

-- the branches of a choice have its sort
pub Ite-branches : (terms : Terms) (t : TermId) (c a b : TermId) (s : SortId) → AreSortedTerms terms → Has terms (core.Ite c a b) t.0 → IsOfSort terms t s → IsOfSort terms a s × IsOfSort terms b s
Ite-branches terms t c a b s sorted has of_sort =
    let h = sorted.1 t.0 (core.Ite c a b) has.0 has.1 in
    let same : has.0 ≡ s = ap (λ e. e.1) (same_Some (core.Ite c a b, has.0) (of_sort.0, s) (sym has.1 ∙ of_sort.1)) in
    (subst (IsOfSort terms a) same h.1, subst (IsOfSort terms b) same h.2)

-- the opposites of literals, as one map
pub opposites-map : (terms : Terms) (args : List TermId) → opposites (literals_of terms args) ≡ map (λ a. opposite (literal_of terms a)) args
opposites-map terms [] = refl
opposites-map terms (a ∷ args) = ap (λ (ls : List Lit). opposite (literal_of terms a) ∷ ls) (opposites-map terms args)

-- clauses of one, two and three literals
module _ {X : Type 0} (P : X → Type 0) where
  pub All-two : (x y : X) → P x → P y → All P (x ∷ (y ∷ []))
  All-two x y h k = All-cons P x (y ∷ []) h (All-one P y k)

  pub All-three : (x y z : X) → P x → P y → P z → All P (x ∷ (y ∷ (z ∷ [])))
  All-three x y z h k l = All-cons P x (y ∷ (z ∷ [])) h (All-two y z k l)

-- a literal and its opposite are over one term
pub signed_stripped : (terms : Terms) (keep : Bool) (l r : Lit) → r ≡ signed keep l → IsStripped terms l.term → IsStripped terms r.term
signed_stripped terms true l r is h = subst (λ (k : Lit). IsStripped terms k.term) (sym is) h
signed_stripped terms false l r is h = subst (λ (k : Lit). IsStripped terms k.term) (sym is) h

-- the literal of a term, by its value
pub lit_stripped : (terms : Terms) (a : TermId) (l : Lit) → l ≡ literal_of terms a → IsStripped terms l.term → IsStripped terms (literal_of terms a).term
lit_stripped terms a l is h = subst (λ (k : Lit). IsStripped terms k.term) is h

-- lines of gates whose clauses have one, two or three literals
module _ (terms : Terms) (gate : Gate) (t : TermId) (k : ℕ) where
  pub line_one : (clause : Clause) (x : Lit) → clause ≡ x ∷ [] → IsStripped terms x.term → IsGateClause terms gate t k (x ∷ []) → IsGateLine terms gate t k clause
  line_one clause x is sx of =
      subst (IsGateLine terms gate t k) (sym is) (record { literals = All-one (λ (l : Lit). IsStripped terms l.term) x sx; of_gate = of })

  pub line_two : (clause : Clause) (x y : Lit) → clause ≡ x ∷ (y ∷ []) → IsStripped terms x.term → IsStripped terms y.term → IsGateClause terms gate t k (x ∷ (y ∷ [])) → IsGateLine terms gate t k clause
  line_two clause x y is sx sy of =
      subst (IsGateLine terms gate t k) (sym is) (record { literals = All-two (λ (l : Lit). IsStripped terms l.term) x y sx sy; of_gate = of })

  pub line_three : (clause : Clause) (x y z : Lit) → clause ≡ x ∷ (y ∷ (z ∷ [])) → IsStripped terms x.term → IsStripped terms y.term → IsStripped terms z.term → IsGateClause terms gate t k (x ∷ (y ∷ (z ∷ []))) → IsGateLine terms gate t k clause
  line_three clause x y z is sx sy sz of =
      subst (IsGateLine terms gate t k) (sym is) (record { literals = All-three (λ (l : Lit). IsStripped terms l.term) x y z sx sy sz; of_gate = of })

-- `true` and `false` stand in every table
pub True-stripped : (terms : Terms) → BeginsWithTruths terms → IsStripped terms (truth_term true)
True-stripped terms begins = stripped terms (core.Con (record { 0 = 0 }) []) (truth_term true) bool_sort (slice_get-take 2 terms 0 (core.Con (record { 0 = 0 }) [], bool_sort) (ap (λ (ts : Terms). slice_get ts 0) begins)) refl tt

pub False-stripped : (terms : Terms) → BeginsWithTruths terms → IsStripped terms (truth_term false)
False-stripped terms begins = stripped terms (core.Con (record { 0 = 1 }) []) (truth_term false) bool_sort (slice_get-take 2 terms 1 (core.Con (record { 0 = 1 }) [], bool_sort) (ap (λ (ts : Terms). slice_get ts 1) begins)) refl tt

pub Test-stripped : (terms : Terms) (t u : TermId) (c : CtorId) → AreSortedTerms terms → Has terms (core.Test c u) t.0 → IsStripped terms t
Test-stripped terms t u c sorted has = stripped terms (core.Test c u) t has.0 has.1 (sorted.1 t.0 (core.Test c u) has.0 has.1).result tt

-- a term has one sort
pub sort_same : (terms : Terms) (t : TermId) (r s : SortId) → IsOfSort terms t r → IsOfSort terms t s → r ≡ s
sort_same terms t r s at_r at_s = ap (λ (e : Core × SortId). e.1) (same_Some (at_r.0, r) (at_s.0, s) (sym at_r.1 ∙ at_s.1))

-- the gates of a choice that is no formula
pub other_gates : (t : TermId) (sort : SortId) → nat_eq sort.0 0 ≡ false → choice_gates t sort ≡ whole Then t ∷ (whole Else t ∷ [])
other_gates t sort told = by (nat_eq sort.0 0) told
  where
    by : (r : Bool) → r ≡ false → (if r then whole Ite1 t ∷ (whole Ite2 t ∷ (whole Ite3 t ∷ (whole Ite4 t ∷ []))) else whole Then t ∷ (whole Else t ∷ [])) ≡ whole Then t ∷ (whole Else t ∷ [])
    by true e = let no : ⊥ = cc in absurd no
    by false e = refl
