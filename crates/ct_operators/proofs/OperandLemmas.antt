-- Terms under an operator: their subterms, their numbers and their sorts.
use Rattle.std.proofs.Common.{◌≡◌, ℕ, suc, ◌<◌, ◌==◌, Bool, true, false, List, [], ◌∷◌, ◌++◌, length, map, if◌then◌else◌, refl, sym, ap, subst, ◌∙◌, arith}
use Rattle.std.specs.List.{AllByRecursion, fold}
use Rattle.std.proofs.lemmas.List.Elements.{Contains-append_left, Contains-append_right}
use Rattle.ct_lemmas.proofs.Contained.{Contains-rest}
use Rattle.ct_sorts.specs.declared.ids.SortId.{SortId}
use Rattle.ct_sorts.specs.Declarations.{Declarations, bool_sort}
use Rattle.ct_terms.specs.declared.ids.TermId.{TermId}
use Rattle.ct_terms.specs.Terms.{Terms}
use Rattle.ct_terms.specs.CoreTree.{CoreTree, equation, negation, equivalence, trees_of, subtrees, term_at}
use Rattle.ct_terms.specs.CoreSorts.{HasTreeSort, AreBooleanTrees, tree_sort}
use Rattle.ct_formulas.specs.Pairs.{neighbours_from, neighbours, pairs}
use Rattle.ct_formulas.specs.Compiled.{all_of, any_of, exclusive, implied_from, equality, inequality}
use Rattle.ct_operators.specs.Effect.{AllStand, Within, AllWithin}
use Rattle.ct_operators.specs.declared.operator.Operator.{Operator}
use Rattle.ct_operators.specs.declared.operator.Operator.TheVariants.{Construct, Select, Inspect, Call, Negation, Conjunction, Disjunction, Exclusion, Implication, Equality, Inequality}
use Rattle.ct_operators.specs.Forms.{head_tree, combined, AllHaveSort, AreOperands}
use Rattle.ct_operators.proofs.WithinLemmas.{within_negation, within_equivalence, within_sel, within_test, within_con, within_apply, within_conjunction, within_disjunction}

module _ (allowed : List CoreTree) where
  pub within_all_of : (us : List CoreTree) → Within allowed (all_of us) → AllWithin allowed us
  within_all_of [] w = tt
  within_all_of (u ∷ []) w = (w, tt)
  within_all_of (u ∷ (v ∷ vs)) w = within_conjunction allowed (u ∷ (v ∷ vs)) w

  within_any_of : (us : List CoreTree) → Within allowed (any_of us) → AllWithin allowed us
  within_any_of [] w = tt
  within_any_of (u ∷ []) w = (w, tt)
  within_any_of (u ∷ (v ∷ vs)) w = within_disjunction allowed (u ∷ (v ∷ vs)) w

  within_exclusive : (x : CoreTree) (us : List CoreTree) → Within allowed (fold exclusive x us) → Within allowed x × AllWithin allowed us
  within_exclusive x [] w = (w, tt)
  within_exclusive x (u ∷ us) w =
      let rest = within_exclusive (exclusive x u) us w in
      let both = within_equivalence allowed x u (within_negation allowed (equivalence x u) rest.0) in
      (both.0, (both.1, rest.1))

  within_implied : (x : CoreTree) (us : List CoreTree) → Within allowed (implied_from x us) → Within allowed x × AllWithin allowed us
  within_implied x [] w = (w, tt)
  within_implied x (u ∷ us) w =
      let parts = within_disjunction allowed (negation x ∷ (implied_from u us ∷ [])) w in
      (within_negation allowed x parts.0, within_implied u us parts.1.0)

  within_equality : (d : Declarations) (a b : CoreTree) (x : Bool) → Within allowed (if x then equivalence a b else equation a b) → Within allowed a × Within allowed b
  within_equality d a b true w = within_equivalence allowed a b w
  within_equality d a b false w = (
    λ s h. w s (Contains-rest (equation a b) (subtrees a ++ subtrees b) s (Contains-append_left (subtrees a) (subtrees b) s h)),
    λ s h. w s (Contains-rest (equation a b) (subtrees a ++ subtrees b) s (Contains-append_right (subtrees a) (subtrees b) s h)),
  )

  within_neighbours : (d : Declarations) (x y : CoreTree) (us : List CoreTree) → AllWithin allowed (neighbours_from (equality d) x (y ∷ us)) → Within allowed x × (Within allowed y × AllWithin allowed us)
  within_neighbours d x y us w =
      let both = within_equality d x y ((tree_sort d x).0 == 0) w.0 in
      (both.0, (both.1, rest us y w.1))
    where
      rest : (vs : List CoreTree) (z : CoreTree) → AllWithin allowed (neighbours_from (equality d) z vs) → AllWithin allowed vs
      rest [] z w = tt
      rest (v ∷ vs) z w = ((within_equality d z v ((tree_sort d z).0 == 0) w.0).1, rest vs v w.1)

  within_pairs : (d : Declarations) (x : CoreTree) (us : List CoreTree) → AllWithin allowed (map (inequality d x) us) → AllWithin allowed us
  within_pairs d x [] w = tt
  within_pairs d x (u ∷ us) w = ((within_equality d x u ((tree_sort d x).0 == 0) (within_negation allowed (equality d x u) w.0)).1, within_pairs d x us w.1)

  within_first : (xs ys : List CoreTree) → AllWithin allowed (xs ++ ys) → AllWithin allowed xs
  within_first [] ys w = tt
  within_first (x ∷ xs) ys w = (w.0, within_first xs ys w.1)

  within_distinct : (d : Declarations) (x y : CoreTree) (us : List CoreTree) → AllWithin allowed (pairs (inequality d) (x ∷ (y ∷ us))) → AllWithin allowed (x ∷ (y ∷ us))
  within_distinct d x y us w =
      let first = within_first (map (inequality d x) (y ∷ us)) (pairs (inequality d) (y ∷ us)) w in
      let both = within_equality d x y ((tree_sort d x).0 == 0) (within_negation allowed (equality d x y) first.0) in
      (both.0, within_pairs d x (y ∷ us) first)

  single_within : (u : CoreTree) (us : List CoreTree) → us ≡ u ∷ [] → Within allowed (head_tree us) → AllWithin allowed us
  single_within u [] is w = tt
  single_within u (v ∷ vs) is w = subst (AllWithin allowed) (sym is) (subst (Within allowed) (first_is v vs u is) w, tt)
    where
      first_is : (v : CoreTree) (vs : List CoreTree) (u : CoreTree) → v ∷ vs ≡ u ∷ [] → v ≡ u
      first_is v vs u e = ap head_tree e

  -- the terms under an operator are subterms of its core term
  pub within_plain : (d : Declarations) (o : Operator) (us : List CoreTree) → AreOperands d o us → Within allowed (combined d o us) → AllWithin allowed us
  within_plain d (Construct c) us o w = within_con allowed c us w
  within_plain d (Call f) us o w = within_apply allowed f us w
  within_plain d (Select s) us o w = single_within o.1.0 us o.1.1 (within_sel allowed s (head_tree us) w)
  within_plain d (Inspect c) us o w = single_within o.1.0 us o.1.1 (within_test allowed c (head_tree us) w)
  within_plain d Negation us o w = single_within o.1.0 us o.1.1 (within_negation allowed (head_tree us) w)
  within_plain d Conjunction us o w = within_all_of us w
  within_plain d Disjunction us o w = within_any_of us w
  within_plain d Exclusion [] o w = tt
  within_plain d Exclusion (u ∷ us) o w = within_exclusive u us w
  within_plain d Implication [] o w = tt
  within_plain d Implication (u ∷ us) o w = within_implied u us w
  within_plain d Equality [] o w = tt
  within_plain d Equality (u ∷ []) o w = absurd (omega (arith, o.1))
  within_plain d Equality (u ∷ (v ∷ us)) o w = within_neighbours d u v us (within_all_of (neighbours (equality d) (u ∷ (v ∷ us))) w)
  within_plain d Inequality [] o w = tt
  within_plain d Inequality (u ∷ []) o w = absurd (omega (arith, o.1))
  within_plain d Inequality (u ∷ (v ∷ us)) o w = within_distinct d u v us (within_all_of (pairs (inequality d) (u ∷ (v ∷ us))) w)

-- numbers at which trees stand
pub all_trees : (table : Terms) (ts : List TermId) (us : List CoreTree) → AllStand table ts us → map (term_at table) ts ≡ us
all_trees table [] [] h = refl
all_trees table [] (u ∷ us) h = absurd h
all_trees table (t ∷ ts) [] h = absurd h
all_trees table (t ∷ ts) (u ∷ us) h = ap (λ (v : CoreTree). v ∷ map (term_at table) ts) h.0.1 ∙ ap (λ (vs : List CoreTree). u ∷ vs) (all_trees table ts us h.1)

pub all_below : (table : Terms) (ts : List TermId) (us : List CoreTree) → AllStand table ts us → AllByRecursion (λ t. t.0 < length table) ts
all_below table [] [] h = tt
all_below table [] (u ∷ us) h = absurd h
all_below table (t ∷ ts) [] h = absurd h
all_below table (t ∷ ts) (u ∷ us) h = (h.0.0, all_below table ts us h.1)

-- trees of one sort, of numbers or of trees
pub sorts_of_terms : (d : Declarations) (side : SortId) (f : TermId → CoreTree) (ts : List TermId) → AllHaveSort d side (map f ts) → AllByRecursion (λ t. HasTreeSort d (f t) side) ts
sorts_of_terms d side f [] h = tt
sorts_of_terms d side f (t ∷ ts) h = (h.0, sorts_of_terms d side f ts h.1)

booleans_of : (d : Declarations) (us : List CoreTree) → AllHaveSort d bool_sort us → AreBooleanTrees d (trees_of us)
booleans_of d [] h = tt
booleans_of d (u ∷ us) h = (h.0, booleans_of d us h.1)

pub conjunction_sorted : (d : Declarations) (us : List CoreTree) → 0 < length us → AllHaveSort d bool_sort us → HasTreeSort d (all_of us) bool_sort
conjunction_sorted d [] some h = absurd (omega (arith, some))
conjunction_sorted d (u ∷ []) some h = h.0
conjunction_sorted d (u ∷ (v ∷ vs)) some h = (tt, booleans_of d (u ∷ (v ∷ vs)) h, refl)

pub disjunction_sorted : (d : Declarations) (us : List CoreTree) → 0 < length us → AllHaveSort d bool_sort us → HasTreeSort d (any_of us) bool_sort
disjunction_sorted d [] some h = absurd (omega (arith, some))
disjunction_sorted d (u ∷ []) some h = h.0
disjunction_sorted d (u ∷ (v ∷ vs)) some h = (tt, booleans_of d (u ∷ (v ∷ vs)) h, refl)

pub map_length : (f : TermId → CoreTree) (ts : List TermId) → length (map f ts) ≡ length ts
map_length f [] = refl
map_length f (t ∷ ts) = ap suc (map_length f ts)

-- the first of the terms, and its tree
pub first_tree : (f : TermId → CoreTree) (ts : List TermId) (t : TermId) (more : List TermId) → ts ≡ t ∷ more → head_tree (map f ts) ≡ f t
first_tree f ts t more e = ap (λ (us : List TermId). head_tree (map f us)) e

pub first_below : (n : ℕ) (ts : List TermId) (t : TermId) (more : List TermId) → ts ≡ t ∷ more → AllByRecursion (λ u. u.0 < n) ts → t.0 < n
first_below n ts t more e h = (subst (AllByRecursion (λ u. u.0 < n)) e h).0

pub first_operand : (us : List CoreTree) (u : CoreTree) → us ≡ u ∷ [] → u ≡ head_tree us
first_operand us u e = ap head_tree (sym e)
