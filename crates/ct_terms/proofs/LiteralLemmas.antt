-- Literals: the bound of the recursion does not matter in an ordered table, what a literal means, and a list of all.
use Rattle.std.proofs.Common.{◌≡◌, ℕ, zero, suc, ◌<◌, Bool, true, false, List, [], ◌∷◌, ◌++◌, length, take, drop, min, Option, Some, None, slice_get, refl, sym, ap, subst, ◌∙◌, inl, inr, arith, length-append, length-take, true≢false}
use Rattle.std.proofs.lemmas.List.{take-append-drop}
use Rattle.std.proofs.lemmas.Option.{none-some, same_Some}
use Rattle.ct_lemmas.proofs.Lists.{slice_get-last, slice_get-prefix}
use Rattle.ct_lemmas.proofs.Numbers.{last_or_before}
use Rattle.ct_lemmas.proofs.Prefixes.{take-slice_get}
use Rattle.ct_sorts.specs.declared.ids.SortId.{SortId}
use Rattle.ct_sorts.specs.Declarations.{bool_sort}
use Rattle.ct_terms.specs.declared.ids.TermId.{TermId}
use Rattle.ct_terms.specs.declared.ids.Lit.{Lit}
use Rattle.ct_terms.specs.declared.term.Core.{Core}
use Rattle.ct_terms.specs.declared.term.Core.TheVariants.{Not}
use Rattle.ct_terms.specs.Terms.{Terms, IsOfSort, Has, AreOrdered, NegatesBooleans, truth_terms}
use Rattle.ct_terms.specs.Literal.{opposite, literal_step, literal_below, literal_of, IsLiteral, IsStripped, AreLiterals}

-- one step gives one literal where the two readings agree on the term under a negation
literal_step-agrees : (f g : TermId → Lit) (t : TermId) (r : Option (Core × SortId)) → ((a : TermId) (s : SortId) → r ≡ Some (Not a, s) → f a ≡ g a) → literal_step f t r ≡ literal_step g t r
literal_step-agrees f g t None h = refl
literal_step-agrees f g t (Some (Not a, s)) h = ap opposite (h a s refl)
literal_step-agrees f g t (Some (_, s)) h = refl

-- any two bounds above the number give one literal
pub literal_below-enough : (table : Terms) → AreOrdered table → (n m : ℕ) (t : TermId) → t.0 < n → t.0 < m → literal_below n table t ≡ literal_below m table t
unfolding literal_below
literal_below-enough table ordered zero m t h k = absurd (omega arith)
literal_below-enough table ordered (suc n) zero t h k = absurd (omega arith)
literal_below-enough table ordered (suc n) (suc m) t h k =
    literal_step-agrees (literal_below n table) (literal_below m table) t (slice_get table t.0)
    (λ a s e.
    let below : a.0 < t.0 = (ordered t.0 (Not a) (s, e)).0 in
    literal_below-enough table ordered n m a (omega arith) (omega arith))

-- terms after those of an ordered table change nothing
literal_below-longer : (table more : Terms) → AreOrdered (table ++ more) → (n : ℕ) (t : TermId) → t.0 < length table → literal_below n (table ++ more) t ≡ literal_below n table t
unfolding literal_below
literal_below-longer table more ordered zero t within = refl
literal_below-longer table more ordered (suc n) t within =
    literal_step-agrees (literal_below n (table ++ more)) (literal_below n table) t (slice_get (table ++ more) t.0)
    (λ a s e.
    let below : a.0 < t.0 = (ordered t.0 (Not a) (s, e)).0 in
    literal_below-longer table more ordered n a (omega (arith, below, within)))
    ∙ ap (literal_step (literal_below n table) t) (slice_get-prefix table more t.0 within)

pub literal_of-longer : (table more : Terms) (t : TermId) → AreOrdered (table ++ more) → t.0 < length table → literal_of (table ++ more) t ≡ literal_of table t
literal_of-longer table more t ordered within = literal_below-longer table more ordered (suc t.0) t within

-- what a step gives is what the literal means, given the literal of the term under a negation
IsLiteral-step : (table : Terms) (f : TermId → Lit) (t : TermId) (r : Option (Core × SortId)) → literal_of table t ≡ literal_step f t r → ((a : TermId) (s : SortId) → r ≡ Some (Not a, s) → f a ≡ literal_of table a) → IsLiteral table t r
IsLiteral-step table f t None e h = tt
IsLiteral-step table f t (Some (Not a, s)) e h = e ∙ ap opposite (h a s refl)
IsLiteral-step table f t (Some (_, s)) e h = e

-- the literal of a term is itself, or the opposite of that of the term under the negation
pub IsLiteral-ordered : (table : Terms) → AreOrdered table → (t : TermId) → IsLiteral table t (slice_get table t.0)
unfolding literal_below
IsLiteral-ordered table ordered t =
    IsLiteral-step table (literal_below t.0 table) t (slice_get table t.0) refl
    (λ a s e.
    let below : a.0 < t.0 = (ordered t.0 (Not a) (s, e)).0 in
    literal_below-enough table ordered t.0 (suc a.0) a below (omega arith))

-- whether a term is a negation
abbrev is_negation : Core → Bool
is_negation (Not a) = true
is_negation _ = false

-- one negation taken off leaves a term that is no negation, where the literal below is over such a term
IsStripped-step : (table : Terms) (f : TermId → Lit) (t : TermId) (r : Option (Core × SortId)) → slice_get table t.0 ≡ r → IsOfSort table t bool_sort → ((a : TermId) → Has table (Not a) t.0 → IsStripped table (f a).term) → IsStripped table (literal_step f t r).term
IsStripped-step table f t None e boolean h = absurd (none-some (boolean.0, bool_sort) (sym e ∙ boolean.1))
IsStripped-step table f t (Some (Not a, s)) e boolean h = h a (s, e)
IsStripped-step table f t (Some (core, s)) e boolean h =
    (boolean, λ a has. true≢false (sym (ap (λ (entry : Core × SortId). is_negation entry.0) (same_Some (core, s) (Not a, has.0) (sym e ∙ has.1)))))

-- the literal of a Boolean term is over a Boolean term that is no negation
IsStripped-below : (table : Terms) → AreOrdered table → NegatesBooleans table → (n : ℕ) (t : TermId) → t.0 < n → IsOfSort table t bool_sort → IsStripped table (literal_below n table t).term
unfolding literal_below
IsStripped-below table ordered negates zero t h boolean = absurd (omega arith)
IsStripped-below table ordered negates (suc n) t h boolean =
    IsStripped-step table (literal_below n table) t (slice_get table t.0) refl boolean
    (λ a has.
    let below : a.0 < t.0 = (ordered t.0 (Not a) has).0 in
    IsStripped-below table ordered negates n a (omega arith) (negates t.0 a has))

pub IsStripped-literal_of : (table : Terms) (t : TermId) → AreOrdered table → NegatesBooleans table → IsOfSort table t bool_sort → IsStripped table (literal_of table t).term
IsStripped-literal_of table t ordered negates boolean = IsStripped-below table ordered negates (suc t.0) t (omega arith) boolean

-- a term that is no negation is its own literal
pub literal_step-other : (f : TermId → Lit) (t : TermId) (core : Core) (s : SortId) → ((a : TermId) → core ≡ Not a → ⊥) → record { term = t; positive = true } ≡ literal_step f t (Some (core, s))
literal_step-other f t (Not a) s other = absurd (other a refl)
literal_step-other f t _ s other = refl

-- the literal of a term is one step from those of the terms under it
literal_of-step : (table : Terms) (f : TermId → Lit) (t : TermId) (core : Core) (s : SortId) → IsLiteral table t (Some (core, s)) → ((a : TermId) → core ≡ Not a → f a ≡ literal_of table a) → literal_step f t (Some (core, s)) ≡ literal_of table t
literal_of-step table f t (Not a) s literal h = ap opposite (h a refl) ∙ sym literal
literal_of-step table f t _ s literal h = sym literal

-- the literal of the last term of a table
literal_of-last : (table : Terms) (core : Core) (sort : SortId) (t : TermId) → AreOrdered (table ++ (core, sort) ∷ []) → t.0 ≡ length table → literal_step (literal_of table) t (Some (core, sort)) ≡ literal_of (table ++ (core, sort) ∷ []) t
literal_of-last table core sort t ordered last =
    let longer : Terms = table ++ (core, sort) ∷ [] in
    let at : slice_get longer t.0 ≡ Some (core, sort) = ap (slice_get longer) last ∙ slice_get-last table (core, sort) in
    literal_of-step longer (literal_of table) t core sort (subst (IsLiteral longer t) at (IsLiteral-ordered longer ordered t))
    (λ a same.
    let below : a.0 < t.0 = (ordered t.0 (Not a) (sort, at ∙ ap (λ (c : Core). Some (c, sort)) same)).0 in
    sym (literal_of-longer table ((core, sort) ∷ []) a ordered (omega (arith, below, last))))

-- with the literal of one more term at the end each term has its literal
pub AreLiterals-push : (table : Terms) (literals : List Lit) (core : Core) (sort : SortId) (t : TermId) → AreOrdered (table ++ (core, sort) ∷ []) → t.0 ≡ length table → AreLiterals table literals → AreLiterals (table ++ (core, sort) ∷ []) (literals ++ literal_step (literal_of table) t (Some (core, sort)) ∷ [])
AreLiterals-push table literals core sort t ordered last old =
    let longer : Terms = table ++ (core, sort) ∷ [] in
    let literal = literal_step (literal_of table) t (Some (core, sort)) in
    record {
      long = omega (arith, old.long, length-append literals (literal ∷ []), length-append table ((core, sort) ∷ []));
      each = λ u within.
          elim (last_or_before u.0 (length table) (omega (arith, within, length-append table ((core, sort) ∷ [])))) [
            | inl h ↦ slice_get-prefix literals (literal ∷ []) u.0 (omega (arith, h, old.long)) ∙ old.each u h
                ∙ ap Some (sym (literal_of-longer table ((core, sort) ∷ []) u ordered h))
            | inr h ↦ ap (slice_get (literals ++ literal ∷ [])) (h ∙ sym old.long) ∙ slice_get-last literals literal
                ∙ ap Some (literal_of-last table core sort t ordered last)
                ∙ ap (λ (n : ℕ). Some (literal_of longer (record { 0 = n }))) (last ∙ sym h)
          ];
    }

-- the first literals are those of the first terms
pub AreLiterals-take : (table : Terms) (literals : List Lit) (n : ℕ) → AreOrdered table → AreLiterals table literals → AreLiterals (take n table) (take n literals)
AreLiterals-take table literals n ordered old =
    let whole : take n table ++ drop n table ≡ table = take-append-drop n table in
    record {
      long = length-take n literals ∙ ap (min n) old.long ∙ sym (length-take n table);
      each = λ t within.
          let first : t.0 < n = omega (arith, within, length-take n table) in
          let inside : t.0 < length table = omega (arith, within, length-take n table) in
          take-slice_get n literals t.0 (literal_of table t) first (old.each t inside)
          ∙ ap (λ (terms : Terms). Some (literal_of terms t)) (sym whole)
          ∙ ap Some (literal_of-longer (take n table) (drop n table) t (subst AreOrdered (sym whole) ordered) within);
    }

-- `true` and `false` are their own literals
pub AreLiterals-truths : AreLiterals truth_terms (record { term = record { 0 = 0 }; positive = true } ∷ (record { term = record { 0 = 1 }; positive = true } ∷ []))
unfolding literal_below
AreLiterals-truths = record { long = refl; each = λ t within. by t.0 within }
  where
    by : (n : ℕ) → n < 2 → slice_get (record { term = record { 0 = 0 }; positive = true } ∷ (record { term = record { 0 = 1 }; positive = true } ∷ [])) n ≡ Some (literal_of truth_terms (record { 0 = n }))
    by zero within = refl
    by (suc zero) within = refl
    by (suc (suc n)) within = absurd (omega arith)
