-- The closure as the least closed set: what it has, and how many terms it has.
use Rattle.std.proofs.Common.{◌≡◌, ℕ, zero, suc, ◌<◌, List, [], ◌∷◌, ◌++◌, length, All, Contains, slice_get, Some, refl, sym, ap, subst, ◌∙◌, inl, inr, arith, length-append}
use Rattle.std.proofs.lemmas.List.Elements.{Contains-append_cases, All-contains}
use Rattle.std.proofs.lemmas.Option.{slice_get_within, same_Some}
use Rattle.ct_lemmas.proofs.Contained.{Contains-cons, Contains-from_slice_get, Contains-map_cases, Contains-none, slice_get-from_Contains}
use Rattle.ct_lemmas.proofs.Lists.{slice_get-append_left, slice_get-last}
use Rattle.ct_lemmas.proofs.Numbers.{last_or_before}
use Rattle.ct_lemmas.proofs.Prefixes.{slice_get-take}
use Rattle.ct_sorts.specs.declared.ids.SortId.{SortId}
use Rattle.ct_sorts.specs.Declarations.{Declarations, bool_sort}
use Rattle.ct_terms.specs.declared.ids.TermId.{TermId}
use Rattle.ct_terms.specs.declared.term.Core.TheVariants.{Con}
use Rattle.ct_terms.specs.Terms.{Terms, IsBoolean, BeginsWithTruths, truth_terms}
use Rattle.ct_terms.specs.CoreTree.{CoreTree, con, no_trees, term_at}
use Rattle.ct_closure.specs.Closed.{IsSplit, IsClosed, InClosure, HasMoreThan, truth_trees}
use Rattle.ct_closure.specs.ClosedTable.{HasTree, IsClosedTable, AreSubtermsOf, terms_at}
use Rattle.ct_closure.specs.Steps.{IsStep}
use Rattle.ct_closure.specs.Trees.{TreeTheorems}
use Rattle.ct_closure.proofs.TreeLemmas.{layer_at, term_stays}
use Rattle.ct_closure.proofs.GrowthLemmas.{longer}

-- sets with the same terms are closed alike
module _ (d : Declarations) (P Q : CoreTree → Type 0) (to : (t : CoreTree) → P t → Q t) (from : (t : CoreTree) → Q t → P t) where
  same_split : (t : CoreTree) (sort : SortId) → IsSplit d Q t sort → IsSplit d P t sort
  same_split t sort h =
      record {
        member = from t h.member;
        sorted = h.sorted;
        structured = h.structured;
        unbuilt = h.unbuilt;
        cause = elim h.cause [
          | inl (inl (s, q)) ↦ inl (inl (s, from _ q))
          | inl (inr (c, q)) ↦ inl (inr (c, from _ q))
          | inr finite ↦ inr finite
        ];
      }

  pub same_closed : IsClosed d P → IsClosed d Q
  same_closed h =
      record {
        subterms = λ t s q sub. to s (h.subterms t s (from t q) sub);
        conditionals = λ c a b sort q sorted other. let both = h.conditionals c a b sort (from _ q) sorted other in (to _ both.0, to _ both.1);
        splits = λ t sort c q of_sort. let both = h.splits t sort c (same_split t sort q) of_sort in (to _ both.0, to _ both.1);
      }

-- the trees of the terms below a number, in order
pub trees_below : Terms → ℕ → List CoreTree
trees_below table zero = []
trees_below table (suc n) = trees_below table n ++ (term_at table (record { 0 = n }) ∷ [])

module _ (table : Terms) where
  pub length-trees_below : (n : ℕ) → length (trees_below table n) ≡ n
  unfolding trees_below
  length-trees_below zero = refl
  length-trees_below (suc n) = omega (arith, length-append (trees_below table n) (term_at table (record { 0 = n }) ∷ []), length-trees_below n)

  pub tree_below_at : (n k : ℕ) → k < n → slice_get (trees_below table n) k ≡ Some (term_at table (record { 0 = k }))
  unfolding trees_below
  tree_below_at zero k h = absurd (omega arith)
  tree_below_at (suc n) k h =
      elim (last_or_before k n (omega arith)) [
        | inl before ↦ slice_get-append_left (trees_below table n) (term_at table (record { 0 = n }) ∷ []) k (term_at table (record { 0 = k })) (tree_below_at n k before)
        | inr last ↦
            subst (λ (i : ℕ). slice_get (trees_below table n ++ (term_at table (record { 0 = n }) ∷ [])) i ≡ Some (term_at table (record { 0 = i }))) (sym last)
            (subst (λ (i : ℕ). slice_get (trees_below table n ++ (term_at table (record { 0 = n }) ∷ [])) i ≡ Some (term_at table (record { 0 = n }))) (length-trees_below n)
            (slice_get-last (trees_below table n) (term_at table (record { 0 = n }))))
      ]

-- all trees of the table
pub all_trees : Terms → List CoreTree
all_trees table = trees_below table (length table)

module _ (table : Terms) where
  pub tree_at : (k : ℕ) (t : CoreTree) → slice_get (all_trees table) k ≡ Some t → (k < length table) × (term_at table (record { 0 = k }) ≡ t)
  unfolding all_trees
  tree_at k t e =
      let within : k < length table = omega (arith, slice_get_within (trees_below table (length table)) k t e, length-trees_below table (length table)) in
      (within, same_Some (term_at table (record { 0 = k })) t (sym (tree_below_at table (length table) k within) ∙ e))

  pub Stands-listed : (t : CoreTree) → HasTree table t → Contains (all_trees table) t
  unfolding all_trees
  Stands-listed t (n, within, e) = Contains-from_slice_get (trees_below table (length table)) n.0 t (tree_below_at table (length table) n.0 within ∙ ap Some e)

  pub listed-Stands : (t : CoreTree) → Contains (all_trees table) t → HasTree table t
  listed-Stands t h =
      let found = slice_get-from_Contains (all_trees table) t h in
      let here = tree_at found.0 t found.1 in
      (record { 0 = found.0 }, here.0, here.1)

  pub length-all_trees : length (all_trees table) ≡ length table
  unfolding all_trees
  length-all_trees = length-trees_below table (length table)

-- the terms of a table of subterms of some are in their closure, and these stand there
pub assert_inside : (d : Declarations) (table : Terms) (asserts : List TermId) → AreSubtermsOf table asserts → (t : TermId) → t.0 < length table → InClosure d (terms_at table asserts) (term_at table t)
assert_inside d table asserts exact t below set closed =
    let root = exact t below in
    closed.closed.subterms root.0 (term_at table t) (closed.rooted root.0 root.1) root.2

pub assert_within : (table : Terms) (asserts : List TermId) → All (IsBoolean table) asserts → (a : TermId) → Contains asserts a → a.0 < length table
assert_within table asserts booleans a h =
    let boolean = All-contains (IsBoolean table) asserts a booleans h in
    slice_get_within table a.0 (boolean.0, bool_sort) boolean.1

pub assert_rooted : (table : Terms) (asserts : List TermId) → All (IsBoolean table) asserts → (t : CoreTree) → Contains (terms_at table asserts) t → HasTree table t
assert_rooted table asserts booleans t h =
    let found = Contains-map_cases (term_at table) asserts t h in
    (found.0, assert_within table asserts booleans found.0 found.1, found.2)

module _ (th : TreeTheorems) (d : Declarations) (old new : Terms) (roots : List CoreTree) (inside : (t : TermId) → t.0 < length old → InClosure d roots (term_at old t)) (rooted : (t : CoreTree) → Contains roots t → HasTree old t) (step : IsStep d old new) where
  -- what the table has is in each closed set with the roots
  pub in_closure : (t : CoreTree) → HasTree new t → InClosure d roots t
  in_closure t (n, within, e) set closed =
      subst (Contains set) e (step.forced set closed.closed (λ u below. inside u below set closed) n within)

  -- `true` and `false` stand in the table, and the roots do
  truth_stands : BeginsWithTruths new → (t : CoreTree) → Contains truth_trees t → HasTree new t
  truth_stands begins t h =
      elim (Contains-cons (con (record { 0 = 0 }) no_trees) (con (record { 0 = 1 }) no_trees ∷ []) t h) [
        | inl same ↦ subst (HasTree new) same (truth_at 0 refl)
        | inr rest ↦ elim (Contains-cons (con (record { 0 = 1 }) no_trees) [] t rest) [
          | inl same ↦ subst (HasTree new) same (truth_at 1 refl)
          | inr none ↦ absurd (Contains-none t none)
        ]
      ]
    where
      truth_at : (n : ℕ) → slice_get truth_terms n ≡ Some (Con (record { 0 = n }) [], bool_sort) → HasTree new (con (record { 0 = n }) no_trees)
      truth_at n first =
          let at : slice_get new n ≡ Some (Con (record { 0 = n }) [], bool_sort) = slice_get-take 2 new n (Con (record { 0 = n }) [], bool_sort) (ap (λ (ts : Terms). slice_get ts n) begins ∙ first) in
          (record { 0 = n }, slice_get_within new n (Con (record { 0 = n }) [], bool_sort) at, layer_at th new step.sound.ordered (Con (record { 0 = n }) []) (record { 0 = n }) (bool_sort, at))

  pub roots_stand : (t : CoreTree) → Contains roots t → HasTree new t
  roots_stand t h =
      let at = rooted t h in
      (at.0, omega (arith, at.1, longer old new step.grown), term_stays th old new step.grown step.sound.ordered at.0 at.1 ∙ at.2)

  -- a closed table has the whole closure
  pub has_closure : BeginsWithTruths new → IsClosedTable d new → (t : CoreTree) → InClosure d roots t → HasTree new t
  has_closure begins closed t h =
      listed-Stands new t
      (h (all_trees new) (record {
        rooted = λ u inside. Stands-listed new u (elim (Contains-append_cases truth_trees roots u inside) [ inl truth ↦ truth_stands begins u truth | inr root ↦ roots_stand u root ]);
        closed = same_closed d (HasTree new) (Contains (all_trees new)) (Stands-listed new) (listed-Stands new) closed;
      }))

  -- where the table is long, the closure has as many terms
  pub many : (count : ℕ) → count < length new → HasMoreThan d roots count
  many count large =
      record {
        members = all_trees new;
        many = omega (arith, length-all_trees new);
        different = λ i j t at_i at_j.
            let p = tree_at new i t at_i in
            let q = tree_at new j t at_j in
            ap (λ (n : TermId). n.0) (th.one new (record { 0 = i }) (record { 0 = j }) step.sound.ordered step.sound.single p.0 q.0 (p.1 ∙ sym q.1));
        inside = λ t h. in_closure t (listed-Stands new t h);
      }
