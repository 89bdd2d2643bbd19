-- What a record of a search tells of its trail: the decided literals and those that learned clauses asserted, the last first. As a
-- string of places it has a weight that rises with each decision and never falls.
use Rattle.std.proofs.Common.{◌≡◌, ℕ, zero, suc, ◌+◌, ◌^◌, ◌<◌, ◌≤◌, inl, inr, List, [], ◌∷◌, ◌++◌, length, map, take, Some, slice_get, Contains, sym, ap, subst, ◌∙◌, arith}
use Rattle.std.proofs.Math.Nat.{pow-suc}
use Rattle.std.proofs.lemmas.List.{map-append, take-append-le}
use Rattle.std.proofs.lemmas.Option.{none-some, slice_get_within}
use Rattle.ct_lemmas.proofs.Contained.{Contains-cons, Contains-none}
use Rattle.ct_lemmas.proofs.Lists.{slice_get-push_cases}
use Rattle.ct_terms.specs.declared.ids.TermId.{TermId}
use Rattle.ct_terms.specs.declared.ids.Lit.{Lit}
use Rattle.ct_terms.specs.Clause.{Clause}
use Rattle.ct_sat.specs.Up.{Up, IsAssigned}
use Rattle.ct_engine.specs.Moves.{Choice, decisions_of}
use Rattle.ct_engine.specs.Theorems.{GrowthTheorems}
use Rattle.ct_engine.proofs.ListLemmas.{take-push}
use Rattle.ct_engine.proofs.ValuedLemmas.{HasValue-more}

-- a place of the trail: of a decision, or of a variable whose literal a learned clause asserted
pub data Place : Type 0 where
  by_choice : Choice → Place
  by_clause : TermId → Place

-- its variable
abbrev pub variable_of : Place → TermId
variable_of (by_choice c) = c.literal.term
variable_of (by_clause t) = t

abbrev pub variables_of : List Place → List TermId
variables_of places = map variable_of places

-- the decisions, the first first
abbrev pub choices_of : List Place → List Choice
choices_of [] = []
choices_of (by_choice c ∷ places) = choices_of places ++ c ∷ []
choices_of (by_clause t ∷ places) = choices_of places

-- the weight of the places, after which there is room for so many
abbrev pub weight : ℕ → List Place → ℕ
weight room [] = 0
weight room (by_choice c ∷ places) = 1 + weight (suc room) places
weight room (by_clause t ∷ places) = 2 ^ room + weight (suc room) places

pub doubled : (n : ℕ) → 2 ^ suc n ≡ 2 ^ n + 2 ^ n
doubled n = let h = pow-suc 2 n in omega arith

pub some_weight : (n : ℕ) → 1 ≤ 2 ^ n
some_weight zero = omega arith
some_weight (suc n) = let h = some_weight n in let e = doubled n in omega arith

-- the weight is less than that of all places asserted
pub weight-bound : (places : List Place) (room : ℕ) → weight room places + 2 ^ room ≤ 2 ^ (room + length places)
weight-bound [] room = let h : room ≡ room + 0 = omega arith in subst (λ (n : ℕ). 0 + 2 ^ room ≤ 2 ^ n) h (omega arith)
weight-bound (by_choice c ∷ places) room =
    let h = weight-bound places (suc room) in
    let e = doubled room in
    let some = some_weight room in
    let n : suc room + length places ≡ room + suc (length places) = omega arith in
    subst (λ (k : ℕ). 1 + weight (suc room) places + 2 ^ room ≤ 2 ^ k) n (omega arith)
weight-bound (by_clause t ∷ places) room =
    let h = weight-bound places (suc room) in
    let e = doubled room in
    let n : suc room + length places ≡ room + suc (length places) = omega arith in
    subst (λ (k : ℕ). 2 ^ room + weight (suc room) places + 2 ^ room ≤ 2 ^ k) n (omega arith)

-- the variables, a predicate of those that count, and what has a value at the start
module _ (variables : List TermId) (Counts : TermId → Type 0) (first : List Clause) where
  -- a decision was recorded with the variables of the places before it, and with those that have a value at the start
  pub record IsRecorded (places : List Place) (c : Choice) : Type 0 where
    pub before : (t : TermId) → Contains (variables_of places) t → Contains c.valued t
    pub start : (t : TermId) → Contains variables t → IsAssigned (Up first []) t → Contains c.valued t

  abbrev pub WasRecorded : List Place → Place → Type 0
  WasRecorded places (by_choice c) = IsRecorded places c
  WasRecorded places (by_clause t) = Unit {0}

  -- one more place: its variable counts, is new, and has a value
  pub record IsNext (clauses : List Clause) (places : List Place) (p : Place) : Type 0 where
    pub counts : Counts (variable_of p)
    pub fresh : Contains (variables_of places) (variable_of p) → ⊥
    pub assigned : IsAssigned (Up clauses (decisions_of (choices_of (p ∷ places)))) (variable_of p)
    pub recorded : WasRecorded places p

  abbrev pub ArePlaces : List Clause → List Place → Type 0
  ArePlaces clauses [] = Unit {0}
  ArePlaces clauses (p ∷ places) = IsNext clauses places p × ArePlaces clauses places

  -- they stay places with more clauses
  pub ArePlaces-more : GrowthTheorems → (clauses more : List Clause) (places : List Place) → ArePlaces clauses places → ArePlaces (clauses ++ more) places
  ArePlaces-more theorems clauses more [] are = tt
  ArePlaces-more theorems clauses more (p ∷ places) (next, are) = (
    record {
      counts = next.counts;
      fresh = next.fresh;
      assigned = HasValue-more (Up clauses (decisions_of (choices_of (p ∷ places)))) (Up (clauses ++ more) (decisions_of (choices_of (p ∷ places)))) (variable_of p)
          (λ l h. theorems.more_clauses clauses more (decisions_of (choices_of (p ∷ places))) l h) next.assigned;
      recorded = next.recorded;
    },
    ArePlaces-more theorems clauses more places are,
  )

  -- one decision more leaves values
  decided_more : GrowthTheorems → (clauses : List Clause) (p : Place) (places : List Place) (t : TermId) → IsAssigned (Up clauses (decisions_of (choices_of places))) t → IsAssigned (Up clauses (decisions_of (choices_of (p ∷ places)))) t
  decided_more theorems clauses (by_clause u) places t has = has
  decided_more theorems clauses (by_choice c) places t has =
      let now = decisions_of (choices_of places) in
      subst (λ (ls : List Lit). IsAssigned (Up clauses ls) t) (sym (map-append (λ (d : Choice). d.literal) (choices_of places) (c ∷ [])))
      (HasValue-more (Up clauses now) (Up clauses (now ++ c.literal ∷ [])) t (λ l h. theorems.more_decided clauses now (c.literal ∷ []) l h) has)

  -- the variables of places have values
  pub assigned_at : GrowthTheorems → (clauses : List Clause) (places : List Place) (t : TermId) → ArePlaces clauses places → Contains (variables_of places) t → IsAssigned (Up clauses (decisions_of (choices_of places))) t
  assigned_at theorems clauses [] t are h = absurd (Contains-none t h)
  assigned_at theorems clauses (p ∷ places) t (next, are) h =
      elim (Contains-cons (variable_of p) (variables_of places) t h) [
        | inl same ↦ subst (λ (u : TermId). IsAssigned (Up clauses (decisions_of (choices_of (p ∷ places)))) u) same next.assigned
        | inr rest ↦ decided_more theorems clauses p places t (assigned_at theorems clauses places t are rest)
      ]

  -- the places before a decision, and what it is worth to assert a variable in its place
  pub record IsCut (clauses : List Clause) (places : List Place) (room keep : ℕ) (next : Choice) : Type 0 where
    pub rest : List Place
    pub after : ℕ
    pub fits : suc after + length rest ≡ room + length places
    pub kept : choices_of rest ≡ take keep (choices_of places)
    pub are : ArePlaces clauses rest
    pub recorded : IsRecorded rest next
    pub worth : weight room places + 2 ^ room ≤ 2 ^ after + 1 + weight (suc after) rest

  pub cut_at : (clauses : List Clause) (places : List Place) (room keep : ℕ) (next : Choice) → ArePlaces clauses places → slice_get (choices_of places) keep ≡ Some next → IsCut clauses places room keep next
  cut_at clauses [] room keep next are at = absurd (none-some next at)
  cut_at clauses (by_clause t ∷ places) room keep next (one, are) at =
      let cut = cut_at clauses places (suc room) keep next are at in
      let e = doubled room in
      let fits = cut.fits in
      let worth = cut.worth in
      record {
        rest = cut.rest;
        after = cut.after;
        fits = omega arith;
        kept = cut.kept;
        are = cut.are;
        recorded = cut.recorded;
        worth = omega arith;
      }
  cut_at clauses (by_choice c ∷ places) room keep next (one, are) at =
      elim (slice_get-push_cases (choices_of places) c next keep at) [
        | inl before ↦
            let cut = cut_at clauses places (suc room) keep next are before in
            let within : keep < length (choices_of places) = slice_get_within (choices_of places) keep next before in
            let e = doubled room in
            let some = some_weight room in
            let fits = cut.fits in
            let worth = cut.worth in
            record {
              rest = cut.rest;
              after = cut.after;
              fits = omega arith;
              kept = cut.kept ∙ sym (take-append-le keep (choices_of places) (c ∷ []) (omega arith));
              are = cut.are;
              recorded = cut.recorded;
              worth = omega arith;
            }
        | inr last ↦ record {
          rest = places;
          after = room;
          fits = omega arith;
          kept = sym (ap (λ (n : ℕ). take n (choices_of places ++ c ∷ [])) last.0 ∙ take-push (choices_of places) c);
          are = are;
          recorded = subst (IsRecorded places) last.1 one.recorded;
          worth = omega arith;
        }
      ]
