-- Which variables have a value, and which literals are true.
use Rattle.std.proofs.Common.{◌≡◌, ◌⊎◌, inl, inr, Bool, true, false, not, List, [], ◌∷◌, map, Some, slice_get, Contains, refl, sym, ap, subst, ◌∙◌}
use Rattle.std.proofs.lemmas.Option.{same_Some}
use Rattle.std.proofs.lemmas.List.Elements.{All-contains, All-nil, All-cons}
use Rattle.ct_lemmas.proofs.Booleans.{not_differs}
use Rattle.ct_lemmas.proofs.Contained.{Contains-first, Contains-map, Contains-map_cases, Contains-rest, slice_get-from_Contains}
use Rattle.ct_terms.specs.declared.ids.TermId.{TermId}
use Rattle.ct_terms.specs.declared.ids.Lit.{Lit}
use Rattle.ct_terms.specs.Literal.{opposite}
use Rattle.ct_terms.specs.Clause.{Clause}
use Rattle.ct_terms.specs.Propagation.{IsFalseIn, AreFalseIn}
use Rattle.ct_sat.specs.Up.{IsAssigned, positive_of, negative_of}
use Rattle.ct_sat.specs.State.{AreOver, IsConsistent}
use Rattle.ct_engine.specs.Moves.{AreAssigned}

-- a consistent list does not hold a literal and its opposite
pub opposites_apart : (trail : List Lit) (l : Lit) → IsConsistent trail → Contains trail l → Contains trail (opposite l) → ⊥
opposites_apart trail l consistent one other =
    let i = slice_get-from_Contains trail l one in
    let j = slice_get-from_Contains trail (opposite l) other in
    let same : i.0 ≡ j.0 = consistent i.0 j.0 l (opposite l) i.1 j.1 refl in
    let both : Some (opposite l) ≡ Some l = sym j.1 ∙ ap (slice_get trail) (sym same) ∙ i.1 in
    not_differs l.positive (ap (λ (k : Lit). k.positive) (same_Some (opposite l) l both))

-- the literal with this term and sign
with_sign : TermId → Bool → Lit
with_sign t b = record { term = t; positive = b }

-- the variable of a literal that is true has a value
value_by : (has : Lit → Type 0) (t : TermId) (b : Bool) → has (record { term = t; positive = b }) → IsAssigned has t
value_by has t true h = inl h
value_by has t false h = inr h

pub valued_by : (has : Lit → Type 0) (l : Lit) → has l → IsAssigned has l.term
valued_by has l h = value_by has l.term l.positive h

-- where the variable of a literal has a value, the literal is true or its opposite is
true_or_false_by : (has : Lit → Type 0) (t : TermId) (b : Bool) → IsAssigned has t → has (record { term = t; positive = b }) ⊎ has (record { term = t; positive = not b })
true_or_false_by has t true (inl h) = inl h
true_or_false_by has t true (inr h) = inr h
true_or_false_by has t false (inl h) = inr h
true_or_false_by has t false (inr h) = inl h

pub true_or_false : (has : Lit → Type 0) (l : Lit) → IsAssigned has l.term → has l ⊎ has (opposite l)
true_or_false has l h = true_or_false_by has l.term l.positive h

-- more is true, so at least the variables have a value that had one
pub HasValue-more : (has more : Lit → Type 0) (t : TermId) → ((l : Lit) → has l → more l) → IsAssigned has t → IsAssigned more t
HasValue-more has more t wider (inl h) = inl (wider (positive_of t) h)
HasValue-more has more t wider (inr h) = inr (wider (negative_of t) h)

-- the terms of a trail over variables are exactly the variables with a value
pub valued_terms : (variables : List TermId) (trail : List Lit) → AreOver variables trail → AreAssigned variables (Contains trail) (map (λ (l : Lit). l.term) trail)
valued_terms variables trail over t = (forward, backward)
  where
    forward : Contains (map (λ (l : Lit). l.term) trail) t → Contains variables t × IsAssigned (Contains trail) t
    forward h =
        let found = Contains-map_cases (λ (l : Lit). l.term) trail t h in (
          subst (Contains variables) found.2 (All-contains (λ (l : Lit). Contains variables l.term) trail found.0 over found.1),
          subst (IsAssigned (Contains trail)) found.2 (valued_by (Contains trail) found.0 found.1),
        )

    backward : Contains variables t × IsAssigned (Contains trail) t → Contains (map (λ (l : Lit). l.term) trail) t
    backward (inside, inl h) = Contains-map (λ (l : Lit). l.term) trail (positive_of t) h
    backward (inside, inr h) = Contains-map (λ (l : Lit). l.term) trail (negative_of t) h

-- the same literals are true, so the same variables have a value
pub AreValued-same : (variables : List TermId) (has other : Lit → Type 0) (valued : List TermId) → ((l : Lit) → has l → other l) → ((l : Lit) → other l → has l) → AreAssigned variables has valued → AreAssigned variables other valued
AreValued-same variables has other valued to from exact t = (
  λ h. let both = (exact t).0 h in (both.0, HasValue-more has other t to both.1),
  λ h. (exact t).1 (h.0, HasValue-more other has t from h.1),
)

-- a clause has a true literal, or all of its literals are false, where all of its variables have a value
pub true_literal : (trail : List Lit) (clause : Clause) → ((l : Lit) → Contains clause l → IsAssigned (Contains trail) l.term) → ((l : Lit) × Contains clause l × Contains trail l) ⊎ AreFalseIn trail clause
true_literal trail [] valued = inr (All-nil (IsFalseIn trail))
true_literal trail (l ∷ clause) valued =
    elim (true_or_false (Contains trail) l (valued l (Contains-first l clause))) [
      | inl holds ↦ inl (l, Contains-first l clause, holds)
      | inr fails ↦ elim (true_literal trail clause (λ k h. valued k (Contains-rest l clause k h))) [
        | inl found ↦ inl (found.0, Contains-rest l clause found.0 found.1, found.2)
        | inr all ↦ inr (All-cons (IsFalseIn trail) l clause fails all)
      ]
    ]
