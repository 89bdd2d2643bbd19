-- Operators over several terms, step by step.
use Rattle.std.proofs.Common.{◌≡◌, ℕ, ◌<◌, ◌==◌, Bool, true, false, List, [], ◌∷◌, length, map, if◌then◌else◌, refl, sym, ap, ap₂, subst, ◌∙◌, arith}
use Rattle.std.specs.List.{AllByRecursion, fold}
use Rattle.std.proofs.lemmas.Bool.Decides.{Decides-eqb}
use Rattle.ct_sorts.specs.declared.ids.SortId.{SortId}
use Rattle.ct_sorts.specs.Declarations.{Declarations, bool_sort}
use Rattle.ct_terms.specs.declared.ids.TermId.{TermId}
use Rattle.ct_terms.specs.Terms.{Terms, IsOfSort}
use Rattle.ct_terms.specs.CoreTree.{CoreTree, negation, conjunction, disjunction, equivalence, equation, trees_of, subtrees, term_at}
use Rattle.ct_terms.specs.CoreSorts.{HasTreeSort, tree_sort}
use Rattle.ct_formulas.specs.Compiled.{all_of, any_of, exclusive, equality}
use Rattle.ct_operators.specs.Forms.{implication}
use Rattle.ct_operators.specs.Effect.{Stands, IsSoundTable, Within, IsPrefix, Effect}
use Rattle.ct_operators.proofs.EffectLemmas.{prefix_length, same_tree, effect_none, effect_then, effect_because}
use Rattle.ct_operators.proofs.WithinLemmas.{within_subtrees, within_negation, within_equivalence}

-- what stands, by another name of its tree
pub stands_as : (table : Terms) (t : TermId) (x y : CoreTree) → x ≡ y → Stands table t x → Stands table t y
stands_as table t x y e h = (h.0, h.1 ∙ e)

-- the conjunction of other than one term is one
pub conjunction_not_one : (f : TermId → CoreTree) (args : List TermId) → (length args ≡ 1 → ⊥) → all_of (map f args) ≡ conjunction (trees_of (map f args))
conjunction_not_one f [] several = refl
conjunction_not_one f (t ∷ []) several = absurd (several refl)
conjunction_not_one f (t ∷ (u ∷ us)) several = refl

pub disjunction_not_one : (f : TermId → CoreTree) (args : List TermId) → (length args ≡ 1 → ⊥) → any_of (map f args) ≡ disjunction (trees_of (map f args))
disjunction_not_one f [] several = refl
disjunction_not_one f (t ∷ []) several = absurd (several refl)
disjunction_not_one f (t ∷ (u ∷ us)) several = refl

-- terms below a length, and their trees, as the table grows
pub below_stay : (old new : Terms) (ts : List TermId) → IsPrefix old new → AllByRecursion (λ t. t.0 < length old) ts → AllByRecursion (λ t. t.0 < length new) ts
below_stay old new [] grown h = tt
below_stay old new (t ∷ ts) grown h = (omega (arith, h.0, prefix_length old new grown), below_stay old new ts grown h.1)

pub same_trees : (d : Declarations) (old new : Terms) (ts : List TermId) → IsPrefix old new → IsSoundTable d new → AllByRecursion (λ t. t.0 < length old) ts → map (term_at new) ts ≡ map (term_at old) ts
same_trees d old new [] grown kept below = refl
same_trees d old new (t ∷ ts) grown kept below =
    ap (λ (u : CoreTree). u ∷ map (term_at new) ts) (same_tree d old new t grown kept below.0) ∙ ap (λ (us : List CoreTree). term_at old t ∷ us) (same_trees d old new ts grown kept below.1)

pub sorts_stay : (d : Declarations) (old new : Terms) (side : SortId) (ts : List TermId) → IsPrefix old new → IsSoundTable d new → AllByRecursion (λ t. t.0 < length old) ts → AllByRecursion (λ t. HasTreeSort d (term_at old t) side) ts → AllByRecursion (λ t. HasTreeSort d (term_at new t) side) ts
sorts_stay d old new side [] grown kept below h = tt
sorts_stay d old new side (t ∷ ts) grown kept below h =
    (subst (λ (u : CoreTree). HasTreeSort d u side) (sym (same_tree d old new t grown kept below.0)) h.0, sorts_stay d old new side ts grown kept below.1 h.1)

-- the trees that are folded are within what holds the fold
pub within_fold : (allowed : List CoreTree) (x : CoreTree) (us : List CoreTree) → Within allowed (fold exclusive x us) → Within allowed x
within_fold allowed x [] w = w
within_fold allowed x (u ∷ us) w = (within_equivalence allowed x u (within_negation allowed (equivalence x u) (within_fold allowed (exclusive x u) us w))).0

-- the sort that is stored tells which equality it is
pub equality_of_bool : (d : Declarations) (table : Terms) (kept : IsSoundTable d table) (a b : TermId) (s : SortId) → IsOfSort table a s → s.0 ≡ 0 → equality d (term_at table a) (term_at table b) ≡ equivalence (term_at table a) (term_at table b)
equality_of_bool d table kept a b s of zero_sort =
    let read : tree_sort d (term_at table a) ≡ s = kept.theorems.read d (term_at table a) s (kept.theorems.sorted d table a s kept.ordered kept.sorted of) in
    ap (λ (x : Bool). if x then equivalence (term_at table a) (term_at table b) else equation (term_at table a) (term_at table b)) ((Decides-eqb (tree_sort d (term_at table a)).0 0).1 (ap (λ (r : SortId). r.0) read ∙ zero_sort))

pub equality_of_other : (d : Declarations) (table : Terms) (kept : IsSoundTable d table) (a b : TermId) (s : SortId) → IsOfSort table a s → (s.0 ≡ 0 → ⊥) → equality d (term_at table a) (term_at table b) ≡ equation (term_at table a) (term_at table b)
equality_of_other d table kept a b s of other =
    let read : tree_sort d (term_at table a) ≡ s = kept.theorems.read d (term_at table a) s (kept.theorems.sorted d table a s kept.ordered kept.sorted of) in
    by ((tree_sort d (term_at table a)).0 == 0) refl read
  where
    by : (x : Bool) → ((tree_sort d (term_at table a)).0 == 0) ≡ x → tree_sort d (term_at table a) ≡ s → (if x then equivalence (term_at table a) (term_at table b) else equation (term_at table a) (term_at table b)) ≡ equation (term_at table a) (term_at table b)
    by true e read = absurd (other (sym (ap (λ (r : SortId). r.0) read) ∙ (Decides-eqb (tree_sort d (term_at table a)).0 0).0 e))
    by false e read = refl

-- both equalities are well sorted, each where the sort that is stored asks for it
module _ (d : Declarations) (table : Terms) (kept : IsSoundTable d table) (a b : TermId) (side s : SortId) (of : IsOfSort table a s) (sorted : AllByRecursion (λ t. HasTreeSort d (term_at table t) side) (a ∷ (b ∷ []))) where
  side_is : side ≡ s
  side_is = kept.theorems.one_sort d (term_at table a) side s sorted.0 (kept.theorems.sorted d table a s kept.ordered kept.sorted of)

  pub equivalence_sorted : s.0 ≡ 0 → HasTreeSort d (equivalence (term_at table a) (term_at table b)) bool_sort
  equivalence_sorted zero_sort =
      let id : ℕ → SortId = λ n. record { 0 = n } in
      let same : side ≡ bool_sort = side_is ∙ ap id zero_sort in
      (subst (HasTreeSort d (term_at table a)) same sorted.0, subst (HasTreeSort d (term_at table b)) same sorted.1.0, refl)

  pub equation_sorted : (s.0 ≡ 0 → ⊥) → HasTreeSort d (equation (term_at table a) (term_at table b)) bool_sort
  equation_sorted other = (side, sorted.0, sorted.1.0, (λ e. other (ap (λ (r : SortId). r.0) (sym side_is ∙ e))), refl)

-- an implication between two terms is a disjunction of two
pub implied_layer : (f : TermId → CoreTree) (r b : TermId) (x y : CoreTree) → f r ≡ negation x → f b ≡ y → disjunction (trees_of (map f (r ∷ (b ∷ [])))) ≡ implication x y
implied_layer f r b x y e h = ap₂ (λ (u v : CoreTree). disjunction (trees_of (u ∷ (v ∷ [])))) e h

-- ---- exclusive disjunction of several, as far as it is made

pub record Folding (d : Declarations) (old table : Terms) (first : TermId) (others : List TermId) (left : TermId) (rest : List TermId) : Type 0 where
  pub kept : IsSoundTable d table
  pub below : AllByRecursion (λ t. t.0 < length table) (left ∷ rest)
  pub boolean : AllByRecursion (λ t. HasTreeSort d (term_at table t) bool_sort) (left ∷ rest)
  pub same : fold exclusive (term_at table left) (map (term_at table) rest) ≡ fold exclusive (term_at old first) (map (term_at old) others)
  pub effect : (allowed : List CoreTree) → Within allowed (fold exclusive (term_at old first) (map (term_at old) others)) → Effect d allowed old table ⊥

pub folding_start : (d : Declarations) (old : Terms) (first : TermId) (others : List TermId) → IsSoundTable d old → AllByRecursion (λ t. t.0 < length old) (first ∷ others) → AllByRecursion (λ t. HasTreeSort d (term_at old t) bool_sort) (first ∷ others) → Folding d old old first others first others
folding_start d old first others kept below boolean = record {
  kept = kept;
  below = below;
  boolean = boolean;
  same = refl;
  effect = λ allowed within. effect_none d allowed old ⊥ kept (λ h. h);
}

module _ (d : Declarations) (old table new : Terms) (first : TermId) (others : List TermId) (left next : TermId) (more : List TermId) (h : Folding d old table first others left (next ∷ more)) where
  abbrev step : CoreTree
  step = exclusive (term_at table left) (term_at table next)

  -- the next step makes a subterm of the whole
  pub folding_within : (allowed : List CoreTree) → Within allowed (fold exclusive (term_at old first) (map (term_at old) others)) → Within allowed step
  folding_within allowed within =
      within_fold allowed step (map (term_at table) more) (subst (Within allowed) (sym h.same) within)

  pub folding_step : (t : TermId) (full : Type 0) → Stands new t step → ((allowed : List CoreTree) → Within allowed step → Effect d allowed table new full) → (full → ⊥) → Folding d old new first others t more
  folding_step t full stands effect never =
      let e = effect (subtrees step) (within_subtrees step) in
      let moved = same_trees d table new more e.grown e.kept h.below.1.1 in
      record {
        kept = e.kept;
        below = (stands.0, below_stay table new more e.grown h.below.1.1);
        boolean = (
          subst (λ (u : CoreTree). HasTreeSort d u bool_sort) (sym stands.1) ((h.boolean.0, h.boolean.1.0, refl), refl),
          sorts_stay d table new bool_sort more e.grown e.kept h.below.1.1 h.boolean.1.1,
        );
        same = ap₂ (λ (u : CoreTree) (us : List CoreTree). fold exclusive u us) stands.1 moved ∙ h.same;
        effect = λ allowed within. effect_because d allowed old new full ⊥ (λ x. absurd x) (effect_then d allowed old table new ⊥ full (h.effect allowed within) (effect allowed (folding_within allowed within)));
      }

-- the layer of an implication that is made
pub implied_made : (d : Declarations) (old new : Terms) (a b r : TermId) (args : List TermId) → args ≡ r ∷ (b ∷ []) → Stands new r (negation (term_at old a)) → IsPrefix old new → IsSoundTable d new → b.0 < length old → disjunction (trees_of (map (term_at new) args)) ≡ implication (term_at old a) (term_at old b)
implied_made d old new a b r args is stands grown kept below =
    ap (λ (ts : List TermId). disjunction (trees_of (map (term_at new) ts))) is
    ∙ implied_layer (term_at new) r b (term_at old a) (term_at old b) stands.1 (same_tree d old new b grown kept below)
