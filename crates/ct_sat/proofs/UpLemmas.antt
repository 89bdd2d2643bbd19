-- What follows by units, and the trail of a search.
use Rattle.std.proofs.Common.{◌≡◌, ℕ, zero, suc, ◌<◌, ◌⊎◌, inl, inr, Bool, true, false, not, List, ◌++◌, take, Some, slice_get, All, Contains, refl, sym, ap, subst, ◌∙◌, arith}
use Rattle.std.proofs.lemmas.Option.{same_Some}
use Rattle.std.proofs.lemmas.List.Elements.{All-weaker, All-contains, Contains-append_left}
use Rattle.ct_lemmas.proofs.Booleans.{not_differs}
use Rattle.ct_lemmas.proofs.Contained.{Contains-from_slice_get, Contains-map, Contains-map_cases, slice_get-from_Contains}
use Rattle.ct_lemmas.proofs.Each.{All-from_Contains}
use Rattle.ct_lemmas.proofs.Numbers.{order_cases}
use Rattle.ct_lemmas.proofs.Prefixes.{slice_get-take, slice_get-take_below, take-slice_get}
use Rattle.ct_terms.specs.declared.ids.TermId.{TermId}
use Rattle.ct_terms.specs.declared.ids.Lit.{Lit}
use Rattle.ct_terms.specs.Literal.{opposite}
use Rattle.ct_terms.specs.Clause.{Clause}
use Rattle.ct_terms.specs.Propagation.{IsFalseIn, AreFalseIn}
use Rattle.ct_sat.specs.declared.clause.StepClause.{StepClause}
use Rattle.ct_sat.specs.declared.decided.Decided.{Decided}
use Rattle.ct_sat.specs.Up.{IsForced, Up, IsContradictory, IsAssigned, IsLowest, positive_of, negative_of}
use Rattle.ct_sat.specs.State.{SearchState, clauses_of, literals_of, FollowsByUnits, IsConsistent, IsSound, IsConflict, IsQuiet}

-- the opposite of the opposite is the literal
pub opposite-opposite : (l : Lit) → opposite (opposite l) ≡ l
opposite-opposite l = let signed : Bool → Lit = λ b. record { term = l.term; positive = b } in ap signed (twice l.positive)
  where
    twice : (b : Bool) → not (not b) ≡ b
    twice true = refl
    twice false = refl

-- a consistent list does not hold a literal and its opposite
pub opposites_apart : (trail : List Lit) (l : Lit) → IsConsistent trail → Contains trail l → Contains trail (opposite l) → ⊥
opposites_apart trail l consistent one other =
    let i = slice_get-from_Contains trail l one in
    let j = slice_get-from_Contains trail (opposite l) other in
    let same : i.0 ≡ j.0 = consistent i.0 j.0 l (opposite l) i.1 j.1 refl in
    let both : Some (opposite l) ≡ Some l = sym j.1 ∙ ap (slice_get trail) (sym same) ∙ i.1 in
    not_differs l.positive (ap (λ (k : Lit). k.positive) (same_Some (opposite l) l both))

-- a clause forces a literal in a larger set, too
pub IsForced-larger : (set larger : List Lit) (clause : Clause) (l : Lit) → ((k : Lit) → Contains set k → Contains larger k) → IsForced set clause l → IsForced larger clause l
IsForced-larger set larger clause l more forced = record {
  inside = forced.inside;
  others_false = All-weaker (λ k. (k ≡ l) ⊎ IsFalseIn set k) (λ k. (k ≡ l) ⊎ IsFalseIn larger k)
      (λ k h. elim h [ inl same ↦ inl same | inr false_one ↦ inr (more (opposite k) false_one) ])
      clause forced.others_false;
}

-- the decided literals follow
pub Up-decided : (clauses : List Clause) (decided : List Lit) → All (Up clauses decided) decided
Up-decided clauses decided = All-from_Contains (Up clauses decided) decided (λ l h set closed. All-contains (Contains set) decided l closed.holds_decided h)

-- what a clause forces by what follows does
pub Up-forced : (clauses : List Clause) (decided : List Lit) (clause : Clause) (l : Lit) → Contains clauses clause → Contains clause l → All (λ k. (k ≡ l) ⊎ Up clauses decided (opposite k)) clause → Up clauses decided l
Up-forced clauses decided clause l listed inside others set closed =
    closed.holds_forced clause l listed (record {
      inside = inside;
      others_false = All-weaker (λ k. (k ≡ l) ⊎ Up clauses decided (opposite k)) (λ k. (k ≡ l) ⊎ IsFalseIn set k)
          (λ k h. elim h [ inl same ↦ inl same | inr up ↦ inr (up set closed) ])
          clause others;
    })

-- more clauses and more decisions
pub Up-more_clauses : (clauses more : List Clause) (decided : List Lit) (l : Lit) → Up clauses decided l → Up (clauses ++ more) decided l
Up-more_clauses clauses more decided l up set closed = up set (record {
  holds_decided = closed.holds_decided;
  holds_forced = λ clause k listed forced. closed.holds_forced clause k (Contains-append_left clauses more clause listed) forced;
})

pub Up-more_decided : (clauses : List Clause) (decided more : List Lit) (l : Lit) → Up clauses decided l → Up clauses (decided ++ more) l
Up-more_decided clauses decided more l up set closed = up set (record {
  holds_decided = All-from_Contains (Contains set) decided (λ k h. All-contains (Contains set) (decided ++ more) k closed.holds_decided (Contains-append_left decided more k h));
  holds_forced = closed.holds_forced;
})

-- the clauses of a search without their numbers
clause_listed : (clauses : List StepClause) (c : StepClause) → Contains clauses c → Contains (clauses_of clauses) c.literals
clause_listed clauses c h = Contains-map (λ (d : StepClause). d.literals) clauses c h

-- a set that holds the decisions before an index and what the clauses force holds the trail before it
prefix_inside : (s : SearchState) → IsSound s → (set : List Lit) (n : ℕ) → ((d : Decided) → Contains s.decided d → d.index < n → Contains set d.literal) → ((clause : Clause) (l : Lit) → Contains (clauses_of s.clauses) clause → IsForced set clause l → Contains set l) → (m i : ℕ) (l : Lit) → i < m → i < n → slice_get s.trail i ≡ Some l → Contains set l
prefix_inside s sound set n holds forces zero i l h k e = absurd (omega arith)
prefix_inside s sound set n holds forces (suc m) i l h k e =
    elim (sound.justified i l e) [
      | inl decided ↦ holds (record { literal = l; index = i }) decided k
      | inr p ↦ forces p.0.literals l (clause_listed s.clauses p.0 p.1)
          (IsForced-larger (take i s.trail) set p.0.literals l
          (λ x inside.
          let at = slice_get-from_Contains (take i s.trail) x inside in
          let below : at.0 < i = slice_get-take_below i s.trail at.0 x at.1 in
          prefix_inside s sound set n holds forces m at.0 x (omega arith) (omega arith) (slice_get-take i s.trail at.0 x at.1))
          p.2)
    ]

-- the trail follows
pub trail_follows : (s : SearchState) (l : Lit) → IsSound s → Contains s.trail l → FollowsByUnits s l
trail_follows s l sound inside set closed =
    let at = slice_get-from_Contains s.trail l inside in
    prefix_inside s sound set (suc at.0)
    (λ d h _. All-contains (Contains set) (literals_of s.decided) d.literal closed.holds_decided (Contains-map (λ (e : Decided). e.literal) s.decided d h))
    closed.holds_forced (suc at.0) at.0 l (omega arith) (omega arith) at.1

-- a decision before another in the trail is among those before it
decided_before : (s : SearchState) (k : ℕ) (next d : Decided) → IsSound s → slice_get s.decided k ≡ Some next → Contains s.decided d → d.index < next.index → Contains (take k s.decided) d
decided_before s k next d sound at_k listed below =
    let at = slice_get-from_Contains s.decided d listed in
    elim (order_cases at.0 k) [
      | inl h ↦ Contains-from_slice_get (take k s.decided) at.0 d (take-slice_get k s.decided at.0 d h at.1)
      | inr h ↦ elim h [
        | inl e ↦ (let same : d ≡ next = same_Some d next (sym at.1 ∙ ap (slice_get s.decided) e ∙ at_k) in
            let index : d.index ≡ next.index = ap (λ (x : Decided). x.index) same in absurd (omega arith))
        | inr g ↦ (let later = sound.decisions.in_order k at.0 next d g at_k at.1 in absurd (omega arith))
      ]
    ]

-- the trail before a decision follows from the decisions before it
pub prefix_follows : (s : SearchState) (k : ℕ) (next : Decided) (l : Lit) → IsSound s → slice_get s.decided k ≡ Some next → Contains (take next.index s.trail) l → Up (clauses_of s.clauses) (literals_of (take k s.decided)) l
prefix_follows s k next l sound at_k inside set closed =
    let at = slice_get-from_Contains (take next.index s.trail) l inside in
    prefix_inside s sound set next.index
    (λ d h below. All-contains (Contains set) (literals_of (take k s.decided)) d.literal closed.holds_decided (Contains-map (λ (e : Decided). e.literal) (take k s.decided) d (decided_before s k next d sound at_k h below)))
    closed.holds_forced (suc at.0) at.0 l (omega arith) (slice_get-take_below next.index s.trail at.0 l at.1) (slice_get-take next.index s.trail at.0 l at.1)

-- a false clause makes what follows contradictory
pub conflict_contradicts : (s : SearchState) (step : ℕ) → IsSound s → IsConflict s step → IsContradictory (clauses_of s.clauses) (FollowsByUnits s)
conflict_contradicts s step sound (c, number, listed, false_one) =
    inr (c.literals, clause_listed s.clauses c listed, All-weaker (IsFalseIn s.trail) (λ l. FollowsByUnits s (opposite l)) (λ l h. trail_follows s (opposite l) sound h) c.literals false_one)

-- what follows in a quiet search is not contradictory
pub quiet_consistent : (s : SearchState) → IsQuiet s → IsContradictory (clauses_of s.clauses) (FollowsByUnits s) → ⊥
quiet_consistent s quiet (inl (l, one, other)) =
    opposites_apart s.trail l quiet.consistent (quiet.complete l one) (quiet.complete (opposite l) other)
quiet_consistent s quiet (inr (clause, listed, all)) =
    let c = Contains-map_cases (λ (d : StepClause). d.literals) s.clauses clause listed in
    quiet.none_false c.0 c.1 (subst (λ (k : Clause). AreFalseIn s.trail k) (sym c.2) (All-weaker (λ l. FollowsByUnits s (opposite l)) (IsFalseIn s.trail) (λ l h. quiet.complete (opposite l) h) clause all))

-- the values of the trail are those of what follows
pub quiet_values : (s : SearchState) (t : TermId) → IsQuiet s → IsAssigned (Contains s.trail) t → IsAssigned (FollowsByUnits s) t
quiet_values s t quiet (inl h) = inl (quiet.follows (positive_of t) h)
quiet_values s t quiet (inr h) = inr (quiet.follows (negative_of t) h)

pub quiet_unset : (s : SearchState) (t : TermId) → IsQuiet s → IsAssigned (FollowsByUnits s) t → IsAssigned (Contains s.trail) t
quiet_unset s t quiet (inl h) = inl (quiet.complete (positive_of t) h)
quiet_unset s t quiet (inr h) = inr (quiet.complete (negative_of t) h)

pub quiet_lowest : (s : SearchState) (variables : List TermId) (t : TermId) → IsQuiet s → IsLowest variables (Contains s.trail) t → IsLowest variables (FollowsByUnits s) t
quiet_lowest s variables t quiet low = record {
  variable = low.variable;
  unset = λ h. low.unset (quiet_unset s t quiet h);
  lowest = λ u h below. quiet_values s u quiet (low.lowest u h below);
}
