-- A search as a whole: what always holds of it, and that each call keeps it.
use Rattle.std.proofs.Common.{◌≡◌, ℕ, ◌+◌, ◌<◌, ◌⊎◌, inl, inr, Bool, true, false, List, [], ◌∷◌, ◌++◌, length, take, Option, Some, None, slice_get, All, Contains, refl, sym, ap, subst, ◌∙◌, arith, MatchOption, is_some, true≢false}
use Rattle.std.proofs.Common.{min}
use Rattle.std.proofs.lemmas.List.{length-take, take-take}
use Rattle.std.proofs.lemmas.Option.{none-some, same_Some, slice_get_within}
use Rattle.std.proofs.lemmas.List.Elements.{All-weaker, All-contains, All-push, All-nil, All-append, All-take, Contains-append_left, Contains-push_cases}
use Rattle.ct_lemmas.proofs.Contained.{Contains-from_slice_get, Contains-map_cases, slice_get-from_Contains}
use Rattle.ct_lemmas.proofs.Each.{All-at, All-from_Contains}
use Rattle.ct_lemmas.proofs.Lists.{slice_get-append_left, slice_get-there}
use Rattle.ct_lemmas.proofs.Numbers.{order_cases}
use Rattle.ct_lemmas.proofs.Prefixes.{slice_get-take, slice_get-take_below, take-slice_get}
use Rattle.ct_terms.specs.declared.ids.TermId.{TermId}
use Rattle.ct_terms.specs.declared.ids.Lit.{Lit}
use Rattle.ct_terms.specs.Literal.{opposite}
use Rattle.ct_terms.specs.Clause.{Clause}
use Rattle.ct_terms.specs.Propagation.{IsFalseIn, AreFalseIn}
use Rattle.ct_sat.specs.declared.clause.StepClause.{StepClause}
use Rattle.ct_sat.specs.declared.decided.Decided.{Decided}
use Rattle.ct_sat.specs.Up.{IsForced, IsClosed, IsAssigned, IsLowest, positive_of, negative_of}
use Rattle.ct_sat.specs.State.{SearchState, AreVariables, clauses_of, literals_of, AreOver, AreIncreasing, IsFresh, IsConsistent, IsJustified, IsSound, IsQuiet}
use Rattle.ct_sat.specs.Assigned.{Assigned, decided_on, cut_before}
use Rattle.ct_sat.specs.Trail.{AreDecisions}
use Rattle.ct_terms.specs.Terms.{Terms}
use Rattle.ct_terms.specs.Literal.{IsStripped}
use Rattle.ct_sat.specs.Learning.{LearnsClause}
use Rattle.ct_sat.specs.Analysis.{IsAnalysed}
use Rattle.ct_sat.specs.Status.{IsSettled, Propagated}
use Rattle.ct_sat.specs.Stored.{IsSearch}
use Rattle.ct_sat.proofs.UpLemmas.{trail_follows}
use Rattle.ct_sat.proofs.StatusLemmas.{IsSettled-not_false, IsSettled-forced, HaveReasons-decided}

-- what contracts see of a search
abbrev pub shown : List TermId → List StepClause → Assigned → ℕ → ℕ → Bool → SearchState
shown variables clauses a count budget propagated = record { variables = variables; clauses = clauses; trail = a.literals; decided = a.decided; count = count; budget = budget; propagated = propagated }

-- what always holds of it
pub IsSound-from : (variables : List TermId) (clauses : List StepClause) (a : Assigned) (count budget : ℕ) (propagated : Bool) → IsSearch variables clauses a count budget → IsConsistent a.literals → AreDecisions a.literals a.reasons a.decided → IsSound (shown variables clauses a count budget propagated)
IsSound-from variables clauses a count budget propagated stored consistent decisions = record {
  justified = justified;
  consistent = consistent;
  decisions = record {
    stand = All-from_Contains (λ d. slice_get a.literals d.index ≡ Some d.literal) a.decided (λ d h. let at = slice_get-from_Contains a.decided d h in decisions.stand at.0 d at.1);
    in_order = decisions.in_order;
  };
  one_number = stored.one_number;
  clauses_over = stored.clauses_over;
  trail_over = stored.trail_over;
  increasing = stored.increasing;
  within = stored.within;
}
  where
    by_reason : (i : ℕ) (l : Lit) (r : Option ℕ) → slice_get a.literals i ≡ Some l → slice_get a.reasons i ≡ Some r → Contains a.decided (record { literal = l; index = i }) ⊎ ((c : StepClause) × Contains clauses c × IsForced (take i a.literals) c.literals l)
    by_reason i l None e at =
        let d = decisions.each i at in
        let stands = decisions.stand d.0 d.1 d.2 in
        let literal : d.1.literal ≡ l = same_Some d.1.literal l (sym stands ∙ ap (slice_get a.literals) d.3 ∙ e) in
        let with_index : ℕ → Decided = λ n. record { literal = d.1.literal; index = n } in
        let with_literal : Lit → Decided = λ k. record { literal = k; index = i } in
        inl (subst (Contains a.decided) (ap with_index d.3 ∙ ap with_literal literal) (Contains-from_slice_get a.decided d.0 d.1 d.2))
    by_reason i l (Some r) e at =
        let p = stored.reasons.each i r at in
        let same : p.2.literal ≡ l = same_Some p.2.literal l (sym p.2.stands ∙ e) in
        inr (p.0, p.2.clause, subst (IsForced (take i a.literals) p.0.literals) same p.2.forces)

    justified : IsJustified clauses a.decided a.literals
    justified i l e =
        let within = slice_get_within a.literals i l e in
        let long = stored.reasons.long in
        let r = slice_get-there a.reasons i (omega arith) in
        by_reason i l r.0 e r.1

-- propagation keeps it
pub IsSearch-propagated : (variables : List TermId) (clauses : List StepClause) (a b : Assigned) (count budget : ℕ) → IsSearch variables clauses a count budget → Propagated clauses a b → IsSearch variables clauses b count budget
IsSearch-propagated variables clauses a b count budget stored step = record {
  below = subst (λ (n : ℕ). All (λ t. t.0 < n) variables) (sym step.room) stored.below;
  increasing = stored.increasing;
  one_number = stored.one_number;
  clauses_over = stored.clauses_over;
  trail_over = subst (AreOver variables) (sym step.literals) (All-append (λ l. Contains variables l.term) a.literals step.more stored.trail_over
      (All-weaker (λ l. (c : StepClause) × Contains clauses c × Contains c.literals l) (λ l. Contains variables l.term)
      (λ l h. All-contains (λ k. Contains variables k.term) h.0.literals l (All-contains (λ c. AreOver variables c.literals) clauses h.0 stored.clauses_over h.1) h.2)
      step.more step.over));
  reasons = step.reasons stored.reasons;
  within = stored.within;
}

-- where each clause is settled nothing more follows
pub IsQuiet-settled : (s : SearchState) → IsSound s → All (λ c. IsSettled s.trail c.literals) s.clauses → IsQuiet s
IsQuiet-settled s sound settled = record {
  follows = λ l h. trail_follows s l sound h;
  complete = λ l up. up s.trail closed;
  consistent = sound.consistent;
  none_false = λ c listed. IsSettled-not_false s.trail c.literals sound.consistent (All-contains (λ d. IsSettled s.trail d.literals) s.clauses c settled listed);
}
  where
    closed : IsClosed (clauses_of s.clauses) (literals_of s.decided) s.trail
    closed = record {
      holds_decided = All-from_Contains (Contains s.trail) (literals_of s.decided) (λ l h.
          let d = Contains-map_cases (λ (e : Decided). e.literal) s.decided l h in
          let stands = All-contains (λ e. slice_get s.trail e.index ≡ Some e.literal) s.decided d.0 sound.decisions.stand d.1 in
          subst (Contains s.trail) d.2 (Contains-from_slice_get s.trail d.0.index d.0.literal stands));
      holds_forced = λ clause l listed forced.
          let c = Contains-map_cases (λ (d : StepClause). d.literals) s.clauses clause listed in
          IsSettled-forced s.trail c.0.literals l sound.consistent (All-contains (λ d. IsSettled s.trail d.literals) s.clauses c.0 settled c.1) (subst (λ (k : Clause). IsForced s.trail k l) (sym c.2) forced);
    }

-- literals over the variables are within the room of the trail
pub within_room : (variables : List TermId) (clauses : List StepClause) (a : Assigned) (count budget : ℕ) → IsSearch variables clauses a count budget → All (λ c. All (λ l. l.term.0 < a.room) c.literals) clauses
within_room variables clauses a count budget stored =
    All-weaker (λ c. AreOver variables c.literals) (λ c. All (λ l. l.term.0 < a.room) c.literals)
    (λ c over. All-weaker (λ l. Contains variables l.term) (λ l. l.term.0 < a.room) (λ l h. All-contains (λ t. t.0 < a.room) variables l.term stored.below h) c.literals over)
    clauses stored.clauses_over

-- a new clause keeps it
pub IsSearch-added : (variables : List TermId) (clauses : List StepClause) (a : Assigned) (count budget : ℕ) (new : StepClause) → IsSearch variables clauses a count budget → AreOver variables new.literals → IsFresh clauses new.step → IsSearch variables (clauses ++ new ∷ []) a count budget
IsSearch-added variables clauses a count budget new stored over fresh = record {
  below = stored.below;
  increasing = stored.increasing;
  one_number = λ c d has_c has_d same. elim (Contains-push_cases clauses new c has_c) [
    | inl old_c ↦ elim (Contains-push_cases clauses new d has_d) [
      | inl old_d ↦ stored.one_number c d old_c old_d same
      | inr is ↦ absurd (fresh c old_c (same ∙ ap (λ (x : StepClause). x.step) (sym is)))
    ]
    | inr is ↦ elim (Contains-push_cases clauses new d has_d) [
      | inl old_d ↦ absurd (fresh d old_d (sym same ∙ ap (λ (x : StepClause). x.step) (sym is)))
      | inr also ↦ sym is ∙ also
    ]
  ];
  clauses_over = All-push (λ c. AreOver variables c.literals) clauses new stored.clauses_over over;
  trail_over = stored.trail_over;
  reasons = record {
    long = stored.reasons.long;
    each = λ i r e. (let o = stored.reasons.each i r e in (
      o.0,
      slice_get-append_left clauses (new ∷ []) r o.0 o.1,
      record {
        clause = Contains-append_left clauses (new ∷ []) o.0 o.2.clause;
        literal = o.2.literal;
        stands = o.2.stands;
        forces = o.2.forces;
      },
    ));
  };
  within = stored.within;
}

-- a decision keeps it
pub IsSearch-decided : (variables : List TermId) (clauses : List StepClause) (a : Assigned) (count budget : ℕ) (l : Lit) → IsSearch variables clauses a count budget → Contains variables l.term → count < budget → IsSearch variables clauses (decided_on a l) (count + 1) budget
IsSearch-decided variables clauses a count budget l stored variable left = record {
  below = stored.below;
  increasing = stored.increasing;
  one_number = stored.one_number;
  clauses_over = stored.clauses_over;
  trail_over = All-push (λ l. Contains variables l.term) a.literals l stored.trail_over variable;
  reasons = HaveReasons-decided clauses a.literals a.reasons l stored.reasons;
  within = omega arith;
}

-- a part of the trail keeps it
pub IsSearch-cut : (variables : List TermId) (clauses : List StepClause) (a : Assigned) (count budget keep : ℕ) (next : Decided) → IsSearch variables clauses a count budget → IsSearch variables clauses (cut_before a keep next) count budget
IsSearch-cut variables clauses a count budget keep next stored = record {
  below = stored.below;
  increasing = stored.increasing;
  one_number = stored.one_number;
  clauses_over = stored.clauses_over;
  trail_over = All-take (λ l. Contains variables l.term) next.index a.literals stored.trail_over;
  reasons = record {
    long = same_long next.index a.reasons a.literals stored.reasons.long;
    each = λ i r e.
        (let o = stored.reasons.each i r (slice_get-take next.index a.reasons i (Some r) e) in
        let below = slice_get-take_below next.index a.reasons i (Some r) e in (
          o.0,
          o.1,
          record {
            clause = o.2.clause;
            literal = o.2.literal;
            stands = take-slice_get next.index a.literals i o.2.literal below o.2.stands;
            forces = subst (λ (xs : List Lit). IsForced xs o.0.literals o.2.literal) (sym (take-take i next.index a.literals (omega arith))) o.2.forces;
          },
        ));
  };
  within = stored.within;
}
  where
    same_long : (n : ℕ) (xs : List (Option ℕ)) (ys : List Lit) → length xs ≡ length ys → length (take n xs) ≡ length (take n ys)
    same_long n xs ys e = length-take n xs ∙ ap (λ (k : ℕ). min n k) e ∙ sym (length-take n ys)

-- a term without a literal has no value
pub no_value : (trail : List Lit) (t : TermId) → ((i : ℕ) (l : Lit) → slice_get trail i ≡ Some l → l.term.0 ≡ t.0 → ⊥) → IsAssigned (Contains trail) t → ⊥
no_value trail t none (inl h) = let at = slice_get-from_Contains trail (positive_of t) h in none at.0 (positive_of t) at.1 refl
no_value trail t none (inr h) = let at = slice_get-from_Contains trail (negative_of t) h in none at.0 (negative_of t) at.1 refl

-- the literal of a term's number with a sign
abbrev pub made : ℕ → Bool → Lit
made n b = record { term = record { 0 = n }; positive = b }

-- a term with a literal has one
pub has_value : (trail : List Lit) (t : TermId) (i : ℕ) (l : Lit) → slice_get trail i ≡ Some l → l.term.0 ≡ t.0 → IsAssigned (Contains trail) t
has_value trail t i l at same = by l.positive refl
  where
    by : (b : Bool) → l.positive ≡ b → IsAssigned (Contains trail) t
    by true e = inl (subst (Contains trail) (ap (λ (n : ℕ). made n l.positive) same ∙ ap (made t.0) e) (Contains-from_slice_get trail i l at))
    by false e = inr (subst (Contains trail) (ap (λ (n : ℕ). made n l.positive) same ∙ ap (made t.0) e) (Contains-from_slice_get trail i l at))

-- the first variable without a value is the lowest
pub IsLowest-first : (variables : List TermId) (trail : List Lit) (i : ℕ) (t : TermId) → AreIncreasing variables → slice_get variables i ≡ Some t → All (IsAssigned (Contains trail)) (take i variables) → (IsAssigned (Contains trail) t → ⊥) → IsLowest variables (Contains trail) t
IsLowest-first variables trail i t increasing at before unset = record {
  variable = Contains-from_slice_get variables i t at;
  unset = unset;
  lowest = λ u h below.
      (let at_u = slice_get-from_Contains variables u h in
      elim (order_cases at_u.0 i) [
        | inl low ↦ All-at (IsAssigned (Contains trail)) (take i variables) at_u.0 u before (take-slice_get i variables at_u.0 u low at_u.1)
        | inr high ↦ elim high [
          | inl e ↦ (let is : u ≡ t = same_Some u t (sym at_u.1 ∙ ap (slice_get variables) e ∙ at) in
              let number : u.0 ≡ t.0 = ap (λ (x : TermId). x.0) is in absurd (omega arith))
          | inr g ↦ (let later = increasing i at_u.0 t u g at at_u.1 in absurd (omega arith))
        ]
      ]);
}

-- a search over the variables of a table
pub IsSearch-start : (table : Terms) (variables : List TermId) (clauses : List StepClause) (a : Assigned) (n budget : ℕ) → AreVariables table variables → clauses ≡ [] → a ≡ record { literals = []; reasons = []; decided = []; room = n } → n ≡ length table → IsSearch variables clauses a 0 budget
IsSearch-start table variables clauses a n budget are none is long =
    subst (λ (cs : List StepClause). IsSearch variables cs a 0 budget) (sym none) (subst (λ (b : Assigned). IsSearch variables [] b 0 budget) (sym is) (record {
      below = All-weaker (IsStripped table) (λ t. t.0 < n) (λ t h. (let within = slice_get_within table t.0 _ h.0.1 in omega arith)) variables are.boolean;
      increasing = are.increasing;
      one_number = λ c d has. absurd (omega (arith, has.1));
      clauses_over = All-nil (λ c. AreOver variables c.literals);
      trail_over = All-nil (λ l. Contains variables l.term);
      reasons = record { long = refl; each = λ i r e. absurd (none-some _ e) };
      within = omega arith;
    }))

-- literals that are false in the trail are over the variables
pub over_false : (variables : List TermId) (trail lits : List Lit) → AreOver variables trail → AreFalseIn trail lits → AreOver variables lits
over_false variables trail lits over false_all =
    All-weaker (IsFalseIn trail) (λ l. Contains variables l.term) (λ l h. All-contains (λ k. Contains variables k.term) trail (opposite l) over h) lits false_all

abbrev with_literals : ℕ → Clause → StepClause
with_literals step ls = record { step = step; literals = ls }

-- what a conflict teaches while decisions stand
pub learns : (variables : List TermId) (clauses new : List StepClause) (a b : Assigned) (count budget step keep : ℕ) (lits pushed shown_lits : Clause) (hints shown_hints : List ℕ) (propagated : Bool) → AreOver variables a.literals → IsAnalysed clauses a.literals a.decided lits hints keep → new ≡ clauses ++ record { step = step; literals = pushed } ∷ [] → pushed ≡ lits → ((d : Decided) → slice_get a.decided keep ≡ Some d → b ≡ cut_before a keep d) → shown_lits ≡ lits → shown_hints ≡ hints → LearnsClause (shown variables clauses a count budget propagated) (shown variables new b count budget false) step shown_lits shown_hints keep
learns variables clauses new a b count budget step keep lits pushed shown_lits hints shown_hints propagated over found is pushed_is cut lits_is hints_is =
    subst (λ (ls : Clause). LearnsClause (shown variables clauses a count budget propagated) (shown variables new b count budget false) step ls shown_hints keep) (sym lits_is)
    (subst (λ (hs : List ℕ). LearnsClause (shown variables clauses a count budget propagated) (shown variables new b count budget false) step lits hs keep) (sym hints_is)
    (record {
      follows = found.follows;
      over = over_false variables a.literals lits over found.false;
      next = found.next;
      stands = found.stands;
      asserted = found.asserted;
      asserting = found.asserting;
      after = ap (λ (x : Assigned). shown variables new x count budget false) (cut found.next found.stands)
          ∙ ap (λ (cs : List StepClause). shown variables cs (cut_before a keep found.next) count budget false) is
          ∙ ap (λ (ls : Clause). shown variables (clauses ++ with_literals step ls ∷ []) (cut_before a keep found.next) count budget false) pushed_is;
    }))

-- what a term's index tells of its value
pub index_none : (trail : List Lit) (t : TermId) (r : Option ℕ) → MatchOption r ((i : ℕ) (l : Lit) → slice_get trail i ≡ Some l → l.term.0 ≡ t.0 → ⊥) (λ i. (l : Lit) × (slice_get trail i ≡ Some l) × (l.term.0 ≡ t.0)) → is_some r ≡ false → IsAssigned (Contains trail) t → ⊥
index_none trail t None h e value = no_value trail t h value
index_none trail t (Some i) h e value = true≢false e

pub index_some : (trail : List Lit) (t : TermId) (r : Option ℕ) → MatchOption r ((i : ℕ) (l : Lit) → slice_get trail i ≡ Some l → l.term.0 ≡ t.0 → ⊥) (λ i. (l : Lit) × (slice_get trail i ≡ Some l) × (l.term.0 ≡ t.0)) → is_some r ≡ true → IsAssigned (Contains trail) t
index_some trail t None h e = absurd (true≢false (sym e))
index_some trail t (Some i) h e = has_value trail t i h.0 h.1 h.2
