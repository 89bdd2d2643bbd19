-- Unit propagation by hints, step by step.
use Rattle.std.proofs.Common.{◌≡◌, ℕ, zero, suc, ◌+◌, ◌<◌, ◌≤◌, ◌↔◌, ◌⊎◌, inl, inr, Bool, true, nat_eq, List, [], ◌∷◌, ◌++◌, length, take, drop, get_or, Option, Some, None, slice_get, option_map, IsTrue, All, Contains, refl, sym, ap, subst, ◌∙◌, arith, length-append}
use Rattle.std.proofs.lemmas.Bool.Decides.{Decides-eqb}
use Rattle.std.proofs.lemmas.List.{drop_all}
use Rattle.std.proofs.lemmas.List.Elements.{All-contains}
use Rattle.std.proofs.lemmas.Option.{none-some, same_Some, slice_get_within, slice_get-map}
use Rattle.ct_lemmas.proofs.Prefixes.{drop-next}
use Rattle.ct_terms.specs.declared.ids.Lit.{Lit}
use Rattle.ct_terms.specs.Clause.{Clause, opposites}
use Rattle.ct_terms.specs.Propagation.{Rup, Propagates, IsUnit, IsNumbered, IsFalseIn, AreFalseIn}
use Rattle.ct_log.specs.declared.line.Line.{Line}
use Rattle.ct_log.specs.Acceptance.{clauses_of}
use Rattle.ct_log.specs.Propagated.{IsUnitAt, IsFalseAt}

-- a clause has one unit
pub IsUnit-one : (set : List Lit) (clause : Clause) (l m : Lit) → IsUnit set clause l → IsUnit set clause m → l ≡ m
IsUnit-one set clause l m one two =
    elim (All-contains (λ j. (j ≡ m) ⊎ IsFalseIn set j) clause l two.others_false one.inside) [
      | inl same ↦ same
      | inr false_one ↦ absurd (one.not_false false_one)
    ]

-- a clause that is false has none
pub unit-none : (set : List Lit) (clause : Clause) (l : Lit) → AreFalseIn set clause → IsUnit set clause l → ⊥
unit-none set clause l all unit = unit.not_false (All-contains (IsFalseIn set) clause l all unit.inside)

-- where a literal is not false, and others are not, there is none
pub unit-other : (set : List Lit) (clause : Clause) (l k : Lit) → Contains clause l → (IsFalseIn set l → ⊥) → (All (λ j. (j ≡ l) ⊎ IsFalseIn set j) clause → ⊥) → IsUnit set clause k → ⊥
unit-other set clause l k inside not_false several unit =
    elim (All-contains (λ j. (j ≡ k) ⊎ IsFalseIn set j) clause l unit.others_false inside) [
      | inl same ↦ several (subst (λ (m : Lit). All (λ j. (j ≡ m) ⊎ IsFalseIn set j) clause) (sym same) unit.others_false)
      | inr false_one ↦ not_false false_one
    ]

-- the unit that was found
pub unit-found : (set : List Lit) (clause : Clause) (l : Lit) → Contains clause l → (IsFalseIn set l → ⊥) → All (λ j. (j ≡ l) ⊎ IsFalseIn set j) clause → (k : Lit) → IsUnit set clause k ↔ (Some l ≡ Some k)
unit-found set clause l inside not_false others k =
    let unit : IsUnit set clause l = record { inside = inside; not_false = not_false; others_false = others } in (
      λ other. ap (λ (m : Lit). Some m) (IsUnit-one set clause l k unit other),
      λ e. subst (IsUnit set clause) (same_Some l k e) unit,
    )

-- a number is that of one clause
pub IsNumbered-one : (clauses : List Clause) (number : ℕ) (a b : Clause) → IsNumbered clauses number a → IsNumbered clauses number b → a ≡ b
IsNumbered-one clauses number a b h k =
    let same : h.0 ≡ k.0 = omega (arith, h.1, k.1) in
    same_Some a b (sym h.2 ∙ ap (λ (i : ℕ). slice_get clauses i) same ∙ k.2)

-- the clauses of lines are as many
clauses_of-length : (lines : List Line) → length (clauses_of lines) ≡ length lines
clauses_of-length [] = refl
clauses_of-length (line ∷ lines) = ap suc (clauses_of-length lines)

-- a number of a clause is that of a line
pub IsNumbered-within : (lines : List Line) (number : ℕ) (clause : Clause) → IsNumbered (clauses_of lines) number clause → (0 < number) × (number ≤ length lines)
IsNumbered-within lines number clause h =
    let index = h.0 in
    let is : number ≡ index + 1 = h.1 in
    let within = slice_get_within (clauses_of lines) index clause h.2 in
    let long = clauses_of-length lines in
    (omega arith, omega arith)

-- the line before this number has the clause
pub IsNumbered-line : (lines : List Line) (number : ℕ) (index : ℕ) (line : Line) → number ≡ index + 1 → slice_get lines index ≡ Some line → IsNumbered (clauses_of lines) number line.clause
IsNumbered-line lines number index line is at = (index, is, slice_get-map (λ (l : Line). l.clause) lines index ∙ ap (option_map (λ (l : Line). l.clause)) at)

-- the unit of the one clause that was found
pub IsUnitAt-told : (clauses : List Clause) (number : ℕ) (set : List Lit) (clause : Clause) (o : Option Lit) → IsNumbered clauses number clause → ((l : Lit) → IsUnit set clause l ↔ (o ≡ Some l)) → (l : Lit) → IsUnitAt clauses number set l ↔ (o ≡ Some l)
IsUnitAt-told clauses number set clause o at told l = (
  λ h. (told l).0 (subst (λ (c : Clause). IsUnit set c l) (IsNumbered-one clauses number h.0 clause h.1 at) h.2),
  λ e. (clause, at, (told l).1 e),
)

-- that the one clause that was found is false
pub IsFalseAt-told : (clauses : List Clause) (number : ℕ) (set : List Lit) (clause : Clause) → IsNumbered clauses number clause → IsFalseAt clauses number set → AreFalseIn set clause
IsFalseAt-told clauses number set clause at h = subst (AreFalseIn set) (IsNumbered-one clauses number h.0 clause h.1 at) h.2

-- one hint, whose one unit was found
module _ (clauses : List Clause) (hints : List ℕ) (i : ℕ) (within : i < length hints) (set : List Lit) where
  pub Propagates-next : (l : Lit) (before after : List Lit) → ((k : Lit) → IsUnitAt clauses (get_or hints i 0) set k ↔ (Some l ≡ Some k)) → (Propagates clauses hints before after ↔ Propagates clauses (drop i hints) set after) → Propagates clauses hints before after ↔ Propagates clauses (drop (i + 1) hints) (set ++ l ∷ []) after
  Propagates-next l before after unit inv =
      let r = rw (drop-next hints i 0 within) at inv in (
        λ all.
            let h = r.0 all in
            let same : l ≡ h.1 = same_Some l h.1 ((unit h.1).0 (h.0, h.2, h.3)) in
            subst (λ (k : Lit). Propagates clauses (drop (i + 1) hints) (set ++ k ∷ []) after) (sym same) h.4,
        λ rest. (let found = (unit l).1 refl in r.1 (found.0, l, found.1, found.2, rest)),
      )

  pub Propagates-stop : (before after : List Lit) → ((k : Lit) → IsUnitAt clauses (get_or hints i 0) set k ↔ (None ≡ Some k)) → (Propagates clauses hints before after ↔ Propagates clauses (drop i hints) set after) → Propagates clauses hints before after → ⊥
  Propagates-stop before after unit inv all =
      let r = rw (drop-next hints i 0 within) at inv in
      let h = r.0 all in
      none-some h.1 ((unit h.1).0 (h.0, h.2, h.3))

-- no hint is left
pub Propagates-end : (clauses : List Clause) (hints : List ℕ) (i : ℕ) (set before : List Lit) → length hints ≤ i → ((after : List Lit) → Propagates clauses hints before after ↔ Propagates clauses (drop i hints) set after) → Propagates clauses hints before set
Propagates-end clauses hints i set before past inv = (inv set).1 (rw (drop_all i hints past) refl)

-- what propagates from the same hints ends in one set
pub Propagates-one : (clauses : List Clause) (hints : List ℕ) (before after other : List Lit) → Propagates clauses hints before after → Propagates clauses hints before other → after ≡ other
Propagates-one clauses [] before after other h k = h ∙ sym k
Propagates-one clauses (hint ∷ hints) before after other h k =
    let clause = IsNumbered-one clauses hint h.0 k.0 h.2 k.2 in
    let unit : IsUnit before k.0 h.1 = subst (λ (c : Clause). IsUnit before c h.1) clause h.3 in
    let same = IsUnit-one before k.0 h.1 k.1 unit k.3 in
    Propagates-one clauses hints (before ++ k.1 ∷ []) after other (subst (λ (l : Lit). Propagates clauses hints (before ++ l ∷ []) after) same h.4) k.4

-- a list that ends in one element, by its first part
pub last_of : {X : Type 0} (xs : List X) (n : ℕ) (d : X) → n + 1 ≡ length xs → xs ≡ take n xs ++ get_or xs n d ∷ []
last_of [] n d long = absurd (omega arith)
last_of (x ∷ []) zero d long = refl
last_of (x ∷ (y ∷ xs)) zero d long = absurd (omega arith)
last_of (x ∷ xs) (suc n) d long = ap (λ ys. x ∷ ys) (last_of xs n d (omega arith))

-- two ways to end in one element are one
ends_one : {X : Type 0} (xs ys : List X) (x y : X) → xs ++ x ∷ [] ≡ ys ++ y ∷ [] → (xs ≡ ys) × (x ≡ y)
ends_one [] [] x y e = (refl, cc)
ends_one [] (z ∷ []) x y e = absurd (let long = ap length e in omega arith)
ends_one [] (z ∷ (w ∷ ys)) x y e = absurd (let long = ap length e in omega arith)
ends_one (z ∷ []) [] x y e = absurd (let long = ap length e in omega arith)
ends_one (z ∷ (w ∷ xs)) [] x y e = absurd (let long = ap length e in omega arith)
ends_one (z ∷ xs) (w ∷ ys) x y e =
    let head : z ≡ w = cc in
    let rest : xs ++ x ∷ [] ≡ ys ++ y ∷ [] = cc in
    let one = ends_one xs ys x y rest in
    (ap (λ v. v ∷ xs) head ∙ ap (λ vs. w ∷ vs) one.0, one.1)

-- where there is no hint nothing follows
pub Rup-none : (clauses : List Clause) (hints : List ℕ) (clause : Clause) → nat_eq (length hints) 0 ≡ true → Rup clauses hints clause → ⊥
Rup-none clauses hints clause none rup =
    let long = ap length rup.are_hints in
    let more = length-append rup.units (rup.last ∷ []) in
    let zero_long = (Decides-eqb (length hints) 0).0 none in
    omega arith

-- that a clause follows, by the last hint and those before it
module _ (clauses : List Clause) (hints : List ℕ) (clause : Clause) (n : ℕ) (long : n + 1 ≡ length hints) where
  pub Rup-stop : ((after : List Lit) → Propagates clauses (take n hints) (opposites clause) after → ⊥) → Rup clauses hints clause → ⊥
  Rup-stop never rup =
      let one = ends_one rup.units (take n hints) rup.last (get_or hints n 0) (sym rup.are_hints ∙ last_of hints n 0 long) in
      never rup.set (subst (λ (hs : List ℕ). Propagates clauses hs (opposites clause) rup.set) one.0 rup.propagates)

  pub Rup-told : (r : Bool) (set : List Lit) → Propagates clauses (take n hints) (opposites clause) set → (IsTrue r ↔ IsFalseAt clauses (get_or hints n 0) set) → IsTrue r ↔ Rup clauses hints clause
  Rup-told r set propagates told = (
    λ yes.
        let h = told.0 yes in
        record { units = take n hints; last = get_or hints n 0; are_hints = last_of hints n 0 long; set = set; propagates = propagates; refuted = h.0; numbered = h.1; false = h.2 },
    λ rup.
        let one = ends_one rup.units (take n hints) rup.last (get_or hints n 0) (sym rup.are_hints ∙ last_of hints n 0 long) in
        let there = subst (λ (hs : List ℕ). Propagates clauses hs (opposites clause) rup.set) one.0 rup.propagates in
        let same = Propagates-one clauses (take n hints) (opposites clause) rup.set set there propagates in
        told.1 (rup.refuted, subst (λ (m : ℕ). IsNumbered clauses m rup.refuted) one.1 rup.numbered, subst (λ (s : List Lit). AreFalseIn s rup.refuted) same rup.false),
  )
