-- Unit propagation: under an assignment that makes the named clauses true, what is put into the set is true.
use Rattle.std.proofs.Common.{◌≡◌, ℕ, ◌⊎◌, inl, inr, Bool, true, false, not, List, [], ◌∷◌, ◌++◌, All, Contains, refl, sym, subst, ◌∙◌, true≢false}
use Rattle.std.proofs.lemmas.List.Elements.{All-cons, All-nil, All-map, All-push, All-contains, Contains-append_left, Contains-append_right, Contains-push}
use Rattle.ct_lemmas.proofs.Lists.{slice_get-append_left}
use Rattle.ct_terms.specs.declared.ids.Lit.{Lit}
use Rattle.ct_terms.specs.Literal.{opposite}
use Rattle.ct_terms.specs.Clause.{Clause, opposites, with_value, literal_value, HoldsUnder}
use Rattle.ct_terms.specs.Propagation.{IsFalseIn, IsUnit, IsNumbered, Propagates, Rup}

-- the other sign turns the value
with_value-not : (positive value : Bool) → with_value (not positive) value ≡ not (with_value positive value)
with_value-not true value = refl
with_value-not false true = refl
with_value-not false false = refl

-- a value whose negation is true is not true
not_both : (b : Bool) → not b ≡ true → b ≡ true → ⊥
not_both true h k = true≢false (sym h)
not_both false h k = true≢false (sym k)

-- a value or its negation is true
either : (b : Bool) → (b ≡ true) ⊎ (not b ≡ true)
either true = inl refl
either false = inr refl

-- a clause has at most one literal that is the one not false
pub IsUnit-one : (set : List Lit) (clause : Clause) (l k : Lit) → IsUnit set clause l → IsUnit set clause k → l ≡ k
IsUnit-one set clause l k one other =
    elim (All-contains (λ m. (m ≡ k) ⊎ IsFalseIn set m) clause l other.others_false one.inside) [
      | inl same ↦ same
      | inr false_one ↦ absurd (one.not_false false_one)
    ]

-- a clause keeps its number when clauses are appended
IsNumbered-longer : (clauses more : List Clause) (number : ℕ) (clause : Clause) → IsNumbered clauses number clause → IsNumbered (clauses ++ more) number clause
IsNumbered-longer clauses more number clause (index, is, at) = (index, is, slice_get-append_left clauses more index clause at)

-- hints propagate among more clauses as before
Propagates-longer : (clauses more : List Clause) (hints : List ℕ) (before after : List Lit) → Propagates clauses hints before after → Propagates (clauses ++ more) hints before after
Propagates-longer clauses more [] before after same = same
Propagates-longer clauses more (hint ∷ hints) before after step =
    (step.0, step.1, IsNumbered-longer clauses more hint step.0 step.2, step.3, Propagates-longer clauses more hints (before ++ step.1 ∷ []) after step.4)

-- what follows by hints follows by them from more clauses
pub Rup-longer : (clauses more : List Clause) (hints : List ℕ) (clause : Clause) → Rup clauses hints clause → Rup (clauses ++ more) hints clause
Rup-longer clauses more hints clause rup = record {
  units = rup.units;
  last = rup.last;
  are_hints = rup.are_hints;
  set = rup.set;
  propagates = Propagates-longer clauses more rup.units (opposites clause) rup.set rup.propagates;
  refuted = rup.refuted;
  numbered = IsNumbered-longer clauses more rup.last rup.refuted rup.numbered;
  false = rup.false;
}

-- an assignment
module _ (value : ℕ → Bool) where
  -- the literal is true
  abbrev IsTrueLit : Lit → Type 0
  IsTrueLit l = literal_value value l ≡ true

  -- a literal is false where its opposite is true
  opposites_differ : (l : Lit) → IsTrueLit (opposite l) → IsTrueLit l → ⊥
  opposites_differ l other = not_both (literal_value value l) (sym (with_value-not l.positive (value l.term.0)) ∙ other)

  -- a clause is true, or the opposites of its literals are
  holds_or_not : (clause : Clause) → HoldsUnder value clause ⊎ All (λ l. IsTrueLit (opposite l)) clause
  holds_or_not [] = inr (All-nil (λ l. IsTrueLit (opposite l)))
  holds_or_not (l ∷ ls) =
      elim (either (literal_value value l)) [
        | inl true_one ↦ inl (l, Contains-append_left (l ∷ []) ls l (Contains-push [] l), true_one)
        | inr other ↦ elim (holds_or_not ls) [
          | inl rest ↦ inl (rest.0, Contains-append_right (l ∷ []) ls rest.0 rest.1, rest.2)
          | inr all ↦ inr (All-cons (λ l. IsTrueLit (opposite l)) l ls (with_value-not l.positive (value l.term.0) ∙ other) all)
        ]
      ]

  -- in a true clause the one literal that is not false is true
  IsUnit-true : (set : List Lit) (clause : Clause) (l : Lit) → All IsTrueLit set → IsUnit set clause l → HoldsUnder value clause → IsTrueLit l
  IsUnit-true set clause l all unit (k, inside, true_one) =
      elim (All-contains (λ m. (m ≡ l) ⊎ IsFalseIn set m) clause k unit.others_false inside) [
        | inl same ↦ subst IsTrueLit same true_one
        | inr false_one ↦ absurd (opposites_differ k (All-contains IsTrueLit set (opposite k) all false_one) true_one)
      ]

  -- the set stays true
  Propagates-true : (clauses : List Clause) (hints : List ℕ) (before after : List Lit) → Propagates clauses hints before after → ((hint : ℕ) (named : Clause) → Contains hints hint → IsNumbered clauses hint named → HoldsUnder value named) → All IsTrueLit before → All IsTrueLit after
  Propagates-true clauses [] before after same hold all = subst (All IsTrueLit) (sym same) all
  Propagates-true clauses (hint ∷ hints) before after step hold all =
      let clause = step.0 in
      let l = step.1 in
      let unit = IsUnit-true before clause l all step.3 (hold hint clause (Contains-append_left (hint ∷ []) hints hint (Contains-push [] hint)) step.2) in
      Propagates-true clauses hints (before ++ l ∷ []) after step.4
      (λ other named inside. hold other named (Contains-append_right (hint ∷ []) hints other inside))
      (All-push IsTrueLit before l all unit)

  -- a clause that follows by hints is true where the named clauses are
  pub Rup-sound : (clauses : List Clause) (hints : List ℕ) (clause : Clause) → Rup clauses hints clause → ((hint : ℕ) (named : Clause) → Contains hints hint → IsNumbered clauses hint named → HoldsUnder value named) → HoldsUnder value clause
  Rup-sound clauses hints clause rup hold =
      elim (holds_or_not clause) [
        | inl holds ↦ holds
        | inr all ↦
            let inside : (hint : ℕ) → Contains (rup.units ++ rup.last ∷ []) hint → Contains hints hint = λ hint h. subst (λ (hs : List ℕ). Contains hs hint) (sym rup.are_hints) h in
            let set_true : All IsTrueLit rup.set =
            Propagates-true clauses rup.units (opposites clause) rup.set rup.propagates
            (λ hint named h. hold hint named (inside hint (Contains-append_left rup.units (rup.last ∷ []) hint h)))
            (All-map IsTrueLit opposite clause all) in
            let last_one = hold rup.last rup.refuted (inside rup.last (Contains-push rup.units rup.last)) rup.numbered in
            absurd (opposites_differ last_one.0 (All-contains IsTrueLit rup.set (opposite last_one.0) set_true (All-contains (IsFalseIn rup.set) rup.refuted last_one.0 rup.false last_one.1)) last_one.2)
      ]
