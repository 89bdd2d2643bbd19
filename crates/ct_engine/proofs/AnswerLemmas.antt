-- What a search that has ended found.
use Rattle.std.proofs.Common.{◌≡◌, ℕ, ◌<◌, inl, inr, Bool, true, List, [], ◌∷◌, length, Contains, refl, sym, ap, subst, ◌∙◌}
use Rattle.std.proofs.lemmas.List.Elements.{All-contains}
use Rattle.ct_lemmas.proofs.Contained.{Contains-map, Contains-map_cases}
use Rattle.ct_lemmas.proofs.Numbers.{same_or_other}
use Rattle.ct_sorts.specs.declared.ids.CtorId.{CtorId}
use Rattle.ct_sorts.specs.Declarations.{Declarations}
use Rattle.ct_terms.specs.declared.ids.TermId.{TermId}
use Rattle.ct_terms.specs.declared.ids.Lit.{Lit}
use Rattle.ct_terms.specs.declared.term.Core.TheVariants.{Con}
use Rattle.ct_terms.specs.Literal.{IsStripped}
use Rattle.ct_terms.specs.Clause.{Clause}
use Rattle.ct_terms.specs.Terms.{Terms, IsTermTable, Has}
use Rattle.ct_rules.specs.Rules.{Equations}
use Rattle.ct_rules.specs.Cycle.{LeadsTo, LeadBack, IsCycle}
use Rattle.ct_rules.specs.Uniqueness.{IsBisimulation}
use Rattle.ct_log.specs.declared.line.Line.{Line}
use Rattle.ct_log.specs.Recorded.{Derived, IsDerivation}
use Rattle.ct_sat.specs.declared.clause.StepClause.{StepClause}
use Rattle.ct_sat.specs.Up.{Up, IsContradictory}
use Rattle.ct_sat.specs.State.{SearchState, clauses_of as clauses_in, AreVariables, AreOver, IsSound, IsQuiet, HaveValues, LacksValue}
use Rattle.ct_congr.specs.State.{State, AreEqual}
use Rattle.ct_theory.specs.Entailment.{Entails, IsSaturation}
use Rattle.ct_engine.specs.declared.verdict.Move.{Move}
use Rattle.ct_engine.specs.Moves.{FollowsIn, IsSpentRecord}
use Rattle.ct_engine.specs.Saturated.{AreComplete, AreUncontradicted, AreDecided}
use Rattle.ct_engine.specs.Progress.{IsAccounted}
use Rattle.ct_engine.specs.Theorems.{UnitTheorems, ClassTheorems}
use Rattle.ct_engine.proofs.ValuedLemmas.{opposites_apart, true_literal, HasValue-more}
use Rattle.ct_engine.proofs.ReplayLemmas.{from_replay}

-- the moves are the record of a search that spent its budget
pub IsSpentRecord-from : UnitTheorems → (search : SearchState) (derived : Derived) (begun : ℕ) (moves : List Move) → IsTermTable derived.rec.terms → IsDerivation derived → IsQuiet search → LacksValue search → search.count ≡ search.budget → IsAccounted true search derived begun moves → IsSpentRecord derived.declarations derived.rec.terms derived.asserts derived.rec.lines moves search.budget
IsSpentRecord-from theorems search derived begun moves is_table derivation quiet (t, inside, unset) spent is =
    let recorded = is.replayed refl in record {
      is_table = is_table;
      sorted = derivation.judges.sorted;
      accepted = derivation.accepted;
      variables = search.variables;
      are_variables = is.variables;
      initial = is.initial;
      taught = is.taught;
      in_order = is.in_order;
      are_initial = is.are_initial;
      are_taught = is.are_taught;
      end = recorded.replay;
      legal = recorded.legal;
      spent = recorded.counted ∙ spent;
      consistent = λ bad. theorems.quiet search quiet (from_replay search recorded.replay (λ cs ds. IsContradictory cs (Up cs ds)) recorded.replays bad);
      lacking = (
        t,
        inside,
        λ has. unset (HasValue-more (FollowsIn recorded.replay) (Contains search.trail) t
            (λ l h. quiet.complete l (from_replay search recorded.replay (λ cs ds. Up cs ds l) recorded.replays h)) has),
      );
    }

-- where all variables have values, the trail holds one literal of each and nothing else
complete_trail : (search : SearchState) (terms : Terms) → AreVariables terms search.variables → IsSound search → IsQuiet search → HaveValues search → AreComplete terms search.trail
complete_trail search terms variables sound quiet all = record {
  each = λ t stripped. all t (variables.each t stripped);
  one = λ l h k. opposites_apart search.trail l quiet.consistent h k;
  only = λ l h. All-contains (IsStripped terms) search.variables l.term variables.boolean (All-contains (λ (k : Lit). Contains search.variables k.term) search.trail l sound.trail_over h);
}

-- and each of its clauses has a true literal
true_clause : (search : SearchState) (clause : Clause) → IsSound search → IsQuiet search → HaveValues search → Contains (clauses_in search.clauses) clause → (l : Lit) × Contains clause l × Contains search.trail l
true_clause search clause sound quiet all stored =
    let found = Contains-map_cases (λ (c : StepClause). c.literals) search.clauses clause stored in
    let over : AreOver search.variables found.0.literals = All-contains (λ (c : StepClause). AreOver search.variables c.literals) search.clauses found.0 sound.clauses_over found.1 in
    let result : (l : Lit) × Contains found.0.literals l × Contains search.trail l =
    elim (true_literal search.trail found.0.literals (λ l h. all l.term (All-contains (λ (k : Lit). Contains search.variables k.term) found.0.literals l over h))) [
      | inl one ↦ one
      | inr none ↦ absurd (quiet.none_false found.0 found.1 none)
    ] in
    subst (λ (c : Clause). (l : Lit) × Contains c l × Contains search.trail l) found.2 result

-- entailed equations are of terms of the table
entailed_within : (d : Declarations) (terms : Terms) (literals : List Lit) (x y : TermId) → Entails d terms literals x y → (x.0 < length terms) × (y.0 < length terms)
entailed_within d terms literals x y e = e.entailed.inside (record { left = x; right = y }) e.stands

-- a hop stays one where more is known
LeadsTo-more : (d : Declarations) (terms : Terms) (known more : Equations) (con next : TermId) (place : ℕ) → ((x y : TermId) → known x y → more x y) → LeadsTo d terms known con place next → LeadsTo d terms more con place next
LeadsTo-more d terms known more con next place wider h = record {
  ctor = h.ctor;
  args = h.args;
  argument = h.argument;
  stands = h.stands;
  datatype = h.datatype;
  at = h.at;
  equal = wider h.argument next h.equal;
}

LeadBack-more : (d : Declarations) (terms : Terms) (known more : Equations) (hops : List (TermId × ℕ)) (end : TermId) → ((x y : TermId) → known x y → more x y) → LeadBack d terms known hops end → LeadBack d terms more hops end
LeadBack-more d terms known more [] end wider h = absurd h
LeadBack-more d terms known more (hop ∷ []) end wider h = LeadsTo-more d terms known more hop.0 end hop.1 wider h
LeadBack-more d terms known more (hop ∷ (next ∷ hops)) end wider (first, rest) =
    (LeadsTo-more d terms known more hop.0 next.0 hop.1 wider first, LeadBack-more d terms known more (next ∷ hops) end wider rest)

IsCycle-more : (d : Declarations) (terms : Terms) (known more : Equations) (hops : List (TermId × ℕ)) → ((x y : TermId) → known x y → more x y) → IsCycle d terms known hops → IsCycle d terms more hops
IsCycle-more d terms known more [] wider h = absurd h
IsCycle-more d terms known more (hop ∷ hops) wider h = LeadBack-more d terms known more (hop ∷ hops) hop.0 wider h

module _ (theorems : ClassTheorems) (d : Declarations) (terms : Terms) (literals : List Lit) (state : State) (order : List TermId) (saturation : IsSaturation d terms literals state order) (long : length state.reps ≡ length terms) where
  -- entailed equations are those of one class
  to_equal : (x y : TermId) → Entails d terms literals x y → AreEqual state x y
  to_equal x y e = let within = entailed_within d terms literals x y e in (saturation.exact x y within.0 within.1).1 e

  to_entailed : (x y : TermId) → AreEqual state x y → Entails d terms literals x y
  to_entailed x y e =
      let right : y.0 < length state.reps = theorems.inside state x y e in
      let left : x.0 < length state.reps = theorems.inside state y x (theorems.symmetric state x y e) in
      (saturation.exact x y (subst (λ (n : ℕ). x.0 < n) long left) (subst (λ (n : ℕ). y.0 < n) long right)).0 e

  -- no class has two constructors
  one_constructor : (a b : TermId) (c e : CtorId) (xs ys : List TermId) → Entails d terms literals a b → Has terms (Con c xs) a.0 → Has terms (Con e ys) b.0 → c ≡ e
  one_constructor a b c e xs ys entailed left right =
      elim (same_or_other c.0 e.0) [
        | inl same ↦ ap (λ (n : ℕ). (let id : CtorId = record { 0 = n } in id)) same
        | inr other ↦ absurd (saturation.quiet.one a b (record {
          first = c;
          second = e;
          xs = xs;
          ys = ys;
          left = subst (λ (ts : Terms). Has ts (Con c xs) a.0) (sym saturation.terms_are) left;
          right = subst (λ (ts : Terms). Has ts (Con e ys) b.0) (sym saturation.terms_are) right;
          apart = λ is. other (ap (λ (id : CtorId). id.0) is);
          equal = to_equal a b entailed;
        }))
      ]

  -- a bisimulation on what is entailed is one on the classes
  of_classes : (related : TermId → TermId → Bool) → IsBisimulation terms (Entails d terms literals) related → IsBisimulation terms (AreEqual state) related
  of_classes related bisimulation = record {
    of_classes = λ x y u v left right h. bisimulation.of_classes x y u v (to_entailed x u left) (to_entailed y v right) h;
    matched = λ x y h. elim (bisimulation.matched x y h) [
      | inl e ↦ inl (to_equal x y e)
      | inr r ↦ inr (record {
        left = r.left;
        right = r.right;
        ctor = r.ctor;
        xs = r.xs;
        ys = r.ys;
        left_equal = to_equal x r.left r.left_equal;
        right_equal = to_equal y r.right r.right_equal;
        left_stands = r.left_stands;
        right_stands = r.right_stands;
        arguments = r.arguments;
      })
    ];
  }

  -- no rule contradicts what is entailed
  uncontradicted : AreUncontradicted d terms literals
  uncontradicted = record {
    one_constructor = one_constructor;
    acyclic = λ hops h. saturation.acyclic hops (IsCycle-more d terms (Entails d terms literals) (AreEqual state) hops to_equal h);
    extensional = λ related bisimulation x y h. to_entailed x y (saturation.extensional x y (record {
      related = related;
      bisimulation = subst (λ (ts : Terms). IsBisimulation ts (AreEqual state) related) (sym saturation.terms_are) (of_classes related bisimulation);
      holds = h;
    }));
  }

-- the literals of the trail decide the assertions, and no rule contradicts them
pub AreDecided-from : ClassTheorems → (search : SearchState) (recorded : Bool) (derived : Derived) (begun : ℕ) (moves : List Move) (state : State) (order : List TermId) → IsSound search → IsQuiet search → HaveValues search → IsSaturation derived.declarations derived.rec.terms search.trail state order → length state.reps ≡ length state.terms → IsAccounted recorded search derived begun moves → AreDecided derived.declarations derived.rec.terms derived.asserts search.trail
AreDecided-from theorems search recorded derived begun moves state order sound quiet all saturation long is = record {
  complete = complete_trail search derived.rec.terms is.variables sound quiet all;
  initial = λ line initial. true_clause search line.clause sound quiet all
      (is.stored line.clause (Contains-map (λ (l : Line). l.clause) is.initial line ((is.are_initial.exact line).1 initial)));
  uncontradicted = uncontradicted theorems derived.declarations derived.rec.terms search.trail state order saturation (long ∙ ap (λ (ts : Terms). length ts) saturation.terms_are);
}
