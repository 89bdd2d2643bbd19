-- A record of a search that spent its decisions: they are fewer than 2^V - 1, where its terms have V propositional variables.
use Rattle.std.proofs.Common.{◌≡◌, ◌↔◌, ℕ, zero, suc, ◌^◌, ◌<◌, ◌≤◌, ◌⊎◌, inl, inr, true, false, eqb, List, [], ◌∷◌, length, Some, slice_get, All, Contains, refl, sym, ap, subst, ◌∙◌, arith}
use Rattle.std.specs.List.{IsDistinct}
use Rattle.std.proofs.lemmas.Bool.Decides.{Decides-eqb}
use Rattle.std.proofs.lemmas.List.Elements.{All-weaker, All-contains, recursion_from_All}
use Rattle.std.proofs.lemmas.Map.Steps.{length-le_from_distinct_below}
use Rattle.std.proofs.lemmas.Option.{same_Some, slice_get_within}
use Rattle.ct_lemmas.proofs.Booleans.{not_true}
use Rattle.ct_lemmas.proofs.Contained.{slice_get-from_Contains, Contains-cons, Contains-first, Contains-map, Contains-none, Contains-rest}
use Rattle.ct_lemmas.proofs.Each.{All-from_Contains, All-one}
use Rattle.ct_lemmas.proofs.Prefixes.{slice_get-take}
use Rattle.ct_sorts.specs.declared.ids.SortId.{SortId}
use Rattle.ct_sorts.specs.Declarations.{Declarations, bool_sort}
use Rattle.ct_terms.specs.declared.ids.TermId.{TermId}
use Rattle.ct_terms.specs.declared.ids.Lit.{Lit}
use Rattle.ct_terms.specs.declared.term.Core.{Core}
use Rattle.ct_terms.specs.declared.term.Core.TheVariants.{Con, Sel, Test, Apply, Eq, Not, And, Or, Iff, Ite}
use Rattle.ct_terms.specs.Clause.{Clause}
use Rattle.ct_terms.specs.Literal.{IsStripped, opposite}
use Rattle.ct_terms.specs.Terms.{Terms, truth_terms}
use Rattle.ct_terms.specs.CoreTree.{CoreTree, con, no_trees, tree_layer, term_at}
use Rattle.ct_closure.specs.Closed.{InClosure, HasVariables, IsVariable, IsNegation}
use Rattle.ct_closure.specs.ClosedTable.{HasTree}
use Rattle.ct_rules.specs.Rules.{truth_term}
use Rattle.ct_log.specs.declared.rules.Gate.TheVariants as gate
use Rattle.ct_log.specs.declared.line.Line.{Line}
use Rattle.ct_log.specs.declared.line.Step.TheVariants as step
use Rattle.ct_log.specs.Acceptance.{clauses_of}
use Rattle.ct_sat.specs.Up.{Up, IsAssigned, positive_of, negative_of}
use Rattle.ct_engine.specs.declared.verdict.Move.{Move}
use Rattle.ct_engine.specs.Moves.{IsLineWith, IsSpentRecord}
use Rattle.ct_engine.specs.Theorems.{GrowthTheorems, TreeTheorems}
use Rattle.ct_engine.proofs.CountLemmas.{Contains-any}
use Rattle.ct_engine.proofs.BoundLemmas.{AreCounted, few_decisions}

-- the term is `true`, is `false`, or is another
truth_or_other : (t : TermId) → (t ≡ truth_term true) ⊎ (t ≡ truth_term false) ⊎ (((t ≡ truth_term true) → ⊥) × ((t ≡ truth_term false) → ⊥))
truth_or_other t = by t.0 refl
  where
    by : (n : ℕ) → t.0 ≡ n → (t ≡ truth_term true) ⊎ (t ≡ truth_term false) ⊎ (((t ≡ truth_term true) → ⊥) × ((t ≡ truth_term false) → ⊥))
    by zero e = inl (ap (λ (k : ℕ). let u : TermId = record { 0 = k } in u) e)
    by (suc zero) e = inr (inl (ap (λ (k : ℕ). let u : TermId = record { 0 = k } in u) e))
    by (suc (suc n)) e = inr (inr (
      λ same. let h = ap (λ (u : TermId). u.0) same in absurd (omega (arith, h, e)),
      λ same. let h = ap (λ (u : TermId). u.0) same in absurd (omega (arith, h, e)),
    ))

-- the tree of a term that is no negation is none
positive_layer : (tree : TermId → CoreTree) (core : Core) → ((a : TermId) → core ≡ Not a → ⊥) → IsNegation (tree_layer tree core) → ⊥
positive_layer tree (Con c args) other h = h
positive_layer tree (Sel s t) other h = h
positive_layer tree (Test c t) other h = h
positive_layer tree (Apply f args) other h = h
positive_layer tree (Eq a b) other h = h
positive_layer tree (Not a) other h = other a refl
positive_layer tree (And args) other h = h
positive_layer tree (Or args) other h = h
positive_layer tree (Iff a b) other h = h
positive_layer tree (Ite c a b) other h = h

module _ (growth : GrowthTheorems) (trees : TreeTheorems) (d : Declarations) (terms : Terms) (asserts : List TermId) (lines : List Line) (moves : List Move) (budget : ℕ) (recorded : IsSpentRecord d terms asserts lines moves budget) where
  -- `true` and `false` stand first
  truth_stands : (i : ℕ) (e : Core × SortId) → slice_get truth_terms i ≡ Some e → slice_get terms i ≡ Some e
  truth_stands i e at = slice_get-take 2 terms i e (ap (λ (ts : Terms). slice_get ts i) recorded.is_table.begins ∙ at)

  within : (t : TermId) → IsStripped terms t → t.0 < length terms
  within t ((core, at), other) = slice_get_within terms t.0 (core, bool_sort) at

  -- a variable of the search that is neither is a variable as a tree
  variable_tree : (t : TermId) → IsStripped terms t → (t ≡ truth_term true → ⊥) → (t ≡ truth_term false → ⊥) → IsVariable d (term_at terms t)
  variable_tree t ((core, at), other) no_true no_false =
      let inside = slice_get_within terms t.0 (core, bool_sort) at in
      let ordered = recorded.is_table.ordered in
      let single = recorded.is_table.single in
      let zero_at = truth_stands 0 (Con (record { 0 = 0 }) [], bool_sort) refl in
      let one_at = truth_stands 1 (Con (record { 0 = 1 }) [], bool_sort) refl in
      record {
        boolean = trees.sorted d terms t bool_sort ordered recorded.sorted (core, at);
        other = λ h. elim (Contains-cons (con (record { 0 = 0 }) no_trees) (con (record { 0 = 1 }) no_trees ∷ []) (term_at terms t) h) [
          | inl same ↦ no_true (trees.one terms t (truth_term true) ordered single inside (slice_get_within terms 0 _ zero_at)
              (sym same ∙ sym (trees.unfolds terms (truth_term true) (Con (record { 0 = 0 }) []) bool_sort ordered zero_at)))
          | inr rest ↦ elim (Contains-cons (con (record { 0 = 1 }) no_trees) [] (term_at terms t) rest) [
            | inl same ↦ no_false (trees.one terms t (truth_term false) ordered single inside (slice_get_within terms 1 _ one_at)
                (sym same ∙ sym (trees.unfolds terms (truth_term false) (Con (record { 0 = 1 }) []) bool_sort ordered one_at)))
            | inr none ↦ Contains-none (term_at terms t) none
          ]
        ];
        positive = λ negated. positive_layer (term_at terms) core (λ a same. other a (bool_sort, subst (λ (c : Core). slice_get terms t.0 ≡ Some (c, bool_sort)) same at))
            (subst IsNegation (trees.unfolds terms t core bool_sort ordered at) negated);
      }

  first : List Clause
  first = clauses_of recorded.initial

  -- a clause of one literal that is an initial line gives the literal its value at the start
  unit_first : (l : Lit) → Contains first (l ∷ []) → Up first [] l
  unit_first l listed =
      growth.forced first [] (l ∷ []) l listed (Contains-first l [])
      (All-one (λ k. (k ≡ l) ⊎ Up first [] (opposite k)) l (inl refl))

  true_first : IsAssigned (Up first []) (truth_term true)
  unfolding first
  true_first =
      let line : Line = record { clause = positive_of (truth_term true) ∷ []; step = step.Gate gate.True (truth_term true) 0 } in
      inl (unit_first (positive_of (truth_term true)) (Contains-map (λ (l : Line). l.clause) recorded.initial line ((recorded.are_initial.exact line).1 (record {
        initial = tt;
        justified = (refl, refl, refl);
      }))))

  false_first : IsAssigned (Up first []) (truth_term false)
  unfolding first
  false_first =
      let line : Line = record { clause = negative_of (truth_term false) ∷ []; step = step.Gate gate.False (truth_term true) 0 } in
      inr (unit_first (negative_of (truth_term false)) (Contains-map (λ (l : Line). l.clause) recorded.initial line ((recorded.are_initial.exact line).1 (record {
        initial = tt;
        justified = (refl, refl, refl);
      }))))

  -- a variable that counts
  record Counts (t : TermId) : Type 0 where
    listed : Contains recorded.variables t
    variable : IsVariable d (term_at terms t)

  stripped : (t : TermId) → Contains recorded.variables t → IsStripped terms t
  stripped t listed = All-contains (IsStripped terms) recorded.variables t recorded.are_variables.boolean listed

  others : (t : TermId) → Contains recorded.variables t → Counts t ⊎ IsAssigned (Up first []) t
  others t listed =
      elim (truth_or_other t) [
        | inl is ↦ inr (subst (IsAssigned (Up first [])) (sym is) true_first)
        | inr rest ↦ elim rest [
          | inl is ↦ inr (subst (IsAssigned (Up first [])) (sym is) false_first)
          | inr none ↦ inl (record { listed = listed; variable = variable_tree t (stripped t listed) none.0 none.1 })
        ]
      ]

  over : (number : ℕ) (line : Line) → IsLineWith lines number line → All (λ l. Contains recorded.variables l.term) line.clause
  over number line (index, is, at) =
      All-weaker (λ l. IsStripped terms l.term) (λ l. Contains recorded.variables l.term) (λ l h. recorded.are_variables.each l.term h) line.clause
      (recorded.accepted index line at).literals

  module _ (roots : List CoreTree) (count : ℕ) (closure : (t : CoreTree) → HasTree terms t ↔ InClosure d roots t) (has : HasVariables d roots count) where
    -- the place of a variable among those of the closure
    record IsAt (t : TermId) (k : ℕ) : Type 0 where
      inside : t.0 < length terms
      stands : slice_get has.variables k ≡ Some (term_at terms t)

    place_of : (t : TermId) → Counts t → (k : ℕ) × IsAt t k
    place_of t c =
        let inside = within t (stripped t c.listed) in
        let found = slice_get-from_Contains has.variables (term_at terms t) ((has.exact (term_at terms t)).1 ((closure (term_at terms t)).0 (t, inside, refl), c.variable)) in
        (found.0, record { inside = inside; stands = found.1 })

    one_at : (t u : TermId) (k : ℕ) → IsAt t k → IsAt u k → t ≡ u
    one_at t u k a b =
        trees.one terms t u recorded.is_table.ordered recorded.is_table.single a.inside b.inside (same_Some (term_at terms t) (term_at terms u) (sym a.stands ∙ b.stands))

    -- different variables have different places
    record ArePlaced (ts : List TermId) (ks : List ℕ) : Type 0 where
      long : length ks ≡ length ts
      distinct : IsDistinct eqb ks
      each : (k : ℕ) → Contains ks k → (t : TermId) × Contains ts t × IsAt t k

    placed : (ts : List TermId) → AreCounted Counts ts → (ks : List ℕ) × ArePlaced ts ks
    unfolding IsDistinct
    placed [] counted = ([], record { long = refl; distinct = tt; each = λ k h. absurd (Contains-none k h) })
    placed (t ∷ ts) (counts, fresh, counted) =
        let rest = placed ts counted in
        let here = place_of t counts in (
          here.0 ∷ rest.0,
          record {
            long = ap suc rest.1.long;
            distinct = (
              recursion_from_All (λ (m : ℕ). eqb here.0 m ≡ false) rest.0 (All-from_Contains (λ (m : ℕ). eqb here.0 m ≡ false) rest.0 (λ m inside.
                  not_true (eqb here.0 m) (λ same.
                  let there = rest.1.each m inside in
                  let is : here.0 ≡ m = (Decides-eqb here.0 m).0 same in
                  fresh (subst (Contains ts) (one_at there.0 t m there.2 (subst (IsAt t) is here.1)) there.1)))),
              rest.1.distinct,
            );
            each = λ k h. elim (Contains-cons here.0 rest.0 k h) [
              | inl same ↦ (t, Contains-first t ts, subst (IsAt t) same here.1)
              | inr later ↦ (let there = rest.1.each k later in (there.0, Contains-rest t ts there.0 there.1, there.2))
            ];
          },
        )

    few : (ts : List TermId) → AreCounted Counts ts → length ts ≤ count
    few ts counted =
        let p = placed ts counted in
        let h : length p.0 ≤ length has.variables = length-le_from_distinct_below p.0 (length has.variables) p.1.distinct
        (λ q h. let at = p.1.each q (Contains-any p.0 q h) in slice_get_within has.variables q (term_at terms at.0) at.2.stands) in
        let long = p.1.long in
        let number = has.number in
        omega arith

    pub spent_bound : suc budget < 2 ^ count
    unfolding first
    spent_bound =
        subst (λ (n : ℕ). suc n < 2 ^ count) recorded.spent
        (few_decisions growth recorded.variables lines Counts first count (λ t c. c.listed) others over few moves recorded.end recorded.legal recorded.lacking)
