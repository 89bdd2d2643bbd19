-- Closed tables: by trees and by numbers, and that a table whose terms are all taken is closed.
use Rattle.std.proofs.Common.{◌≡◌, ℕ, ◌<◌, Bool, List, [], ◌∷◌, length, Contains, slice_get, Some, refl, sym, ap, subst, ◌∙◌, inl, inr, arith}
use Rattle.std.specs.List.{AllZip, AllByRecursion}
use Rattle.std.proofs.lemmas.Option.{slice_get_within, same_Some}
use Rattle.ct_lemmas.proofs.Contained.{Contains-first, Contains-map, Contains-rest}
use Rattle.ct_lemmas.proofs.Lists.{slice_get-there}
use Rattle.ct_sorts.specs.declared.ids.CtorId.{CtorId}
use Rattle.ct_sorts.specs.declared.ids.SelId.{SelId}
use Rattle.ct_sorts.specs.declared.ids.SortId.{SortId}
use Rattle.ct_sorts.specs.Declarations.{Declarations, bool_sort}
use Rattle.ct_terms.specs.declared.ids.TermId.{TermId}
use Rattle.ct_terms.specs.declared.term.Core.{Core}
use Rattle.ct_terms.specs.declared.term.Core.TheVariants.{Con, Sel, Test, Eq, Ite}
use Rattle.ct_terms.specs.Terms.{Terms, HasArgumentsBelow}
use Rattle.ct_terms.specs.CoreTree.{CoreTree, con, sel, test, equation, choice, trees_of, subtrees, tree_layer, term_at}
use Rattle.ct_terms.specs.CoreSorts.{HasTreeSort}
use Rattle.ct_terms.specs.Fields.{fields_of, ctor_ids_of_sort}
use Rattle.ct_closure.specs.Closed.{IsBuilt, IsStructured, IsSplit}
use Rattle.ct_closure.specs.ClosedTable.{HasTree, IsClosedTable, IsPresent, IsOpen, IsSplitTerm, IsFieldTerm, HasCases}
use Rattle.ct_card.specs.Fields.{sels_of}
use Rattle.ct_closure.specs.Steps.{IsSound, IsMarked, IsUnderWay}
use Rattle.ct_closure.specs.Trees.{TreeTheorems}
use Rattle.ct_closure.proofs.TreeLemmas.{list_of_trees_of, IsBuilt-layer, IsConstruction-layer, conditional_layer, subtree_child, layer_at, fields_are}

module _ (th : TreeTheorems) (d : Declarations) (table : Terms) (sound : IsSound d table) where
  abbrev tree : TermId → CoreTree
  tree = term_at table

  -- a term is in the table where its tree is among the trees of the table
  pub present : (core : Core) → HasArgumentsBelow (length table) core → HasTree table (tree_layer (term_at table) core) → IsPresent table core
  present core below stands = (stands.0.0, th.stands table stands.0 core sound.ordered sound.single stands.1 below stands.2)

  pub stands : (core : Core) → IsPresent table core → HasTree table (tree_layer (term_at table) core)
  stands core (n, has) = (record { 0 = n }, slice_get_within table n (core, has.0) has.1, layer_at th table sound.ordered core (record { 0 = n }) has)

  -- the sort of a tree is that of its term
  pub sort_at : (t : TermId) (core : Core) (s sort : SortId) → slice_get table t.0 ≡ Some (core, s) → HasTreeSort d (term_at table t) sort → s ≡ sort
  sort_at t core s sort at sorted = th.one_sort d (term_at table t) s sort (th.sorted d table t s sound.ordered sound.sorted (core, at)) sorted

  open_from : (t : TermId) (sort : SortId) → t.0 < length table → HasTreeSort d (term_at table t) sort → IsStructured d sort → (IsBuilt (term_at table t) → ⊥) → IsOpen d table t sort
  open_from t sort within sorted structured unbuilt =
      let e = slice_get-there table t.0 within in
      let same : e.0.1 ≡ sort = sort_at t e.0.0 e.0.1 sort e.1 sorted in
      record {
        core = e.0.0;
        stands = e.1 ∙ ap (λ (s : SortId). Some (e.0.0, s)) same;
        structured = structured;
        unbuilt = λ h. unbuilt (subst IsBuilt (sym (layer_at th table sound.ordered e.0.0 t (e.0.1, e.1))) (IsConstruction-layer (term_at table) e.0.0 h));
      }

  -- a term is split where its tree is split among the trees of the table
  pub split_tree : (t : TermId) (sort : SortId) → IsSplitTerm d table t sort → IsSplit d (HasTree table) (term_at table t) sort
  split_tree t sort split =
      let u = split.unsettled in
      record {
        member = (t, slice_get_within table t.0 (u.core, sort) u.stands, refl);
        sorted = th.sorted d table t sort sound.ordered sound.sorted (u.core, u.stands);
        structured = u.structured;
        unbuilt = λ built. u.unbuilt (IsBuilt-layer (term_at table) u.core (subst IsBuilt (layer_at th table sound.ordered u.core t (sort, u.stands)) built));
        cause = elim split.cause [
          | inl (inl (s, h)) ↦ inl (inl (s, stands (Sel s t) h))
          | inl (inr (c, h)) ↦ inl (inr (c, stands (Test c t) h))
          | inr finite ↦ inr finite
        ];
      }

  pub split_term : (t : TermId) (sort : SortId) → t.0 < length table → IsSplit d (HasTree table) (term_at table t) sort → IsSplitTerm d table t sort
  split_term t sort within split =
      record {
        unsettled = open_from t sort within split.sorted split.structured split.unbuilt;
        cause = elim split.cause [
          | inl (inl (s, h)) ↦ inl (inl (s, present (Sel s t) (within, tt) h))
          | inl (inr (c, h)) ↦ inl (inr (c, present (Test c t) (within, tt) h))
          | inr finite ↦ inr finite
        ];
      }

  -- where the table is closed, the terms that the rules ask for have numbers
  module _ (closed : IsClosedTable d table) where
    pub equations_present : (t c a b : TermId) (sort : SortId) → slice_get table t.0 ≡ Some (Ite c a b, sort) → (sort ≡ bool_sort → ⊥) → IsPresent table (Eq t a) × IsPresent table (Eq t b)
    equations_present t c a b sort at other =
        let within : t.0 < length table = slice_get_within table t.0 (Ite c a b, sort) at in
        let layer : term_at table t ≡ choice (tree c) (tree a) (tree b) = layer_at th table sound.ordered (Ite c a b) t (sort, at) in
        let below = sound.ordered t.0 (Ite c a b) (sort, at) in
        let below_a : a.0 < length table = omega (arith, below.1.0, within) in
        let below_b : b.0 < length table = omega (arith, below.1.1.0, within) in
        let sorted : HasTreeSort d (choice (tree c) (tree a) (tree b)) sort = subst (λ (u : CoreTree). HasTreeSort d u sort) layer (th.sorted d table t sort sound.ordered sound.sorted (Ite c a b, at)) in
        let both = closed.conditionals (tree c) (tree a) (tree b) sort (t, within, layer) sorted other in (
          present (Eq t a) (within, (below_a, tt)) (subst (λ (u : CoreTree). HasTree table (equation u (tree a))) (sym layer) both.0),
          present (Eq t b) (within, (below_b, tt)) (subst (λ (u : CoreTree). HasTree table (equation u (tree b))) (sym layer) both.1),
        )

    -- the fields of a term, where each selection is there
    collected : (t : TermId) (ss : List SelId) → ((s : SelId) → Contains ss s → IsPresent table (Sel s t)) → (args : List TermId) × AllZip (IsFieldTerm table t) ss args × AllByRecursion (λ (a : TermId). a.0 < length table) args
    collected t [] each = ([], tt, tt)
    collected t (s ∷ ss) each =
        let here = each s (Contains-first s ss) in
        let rest = collected t ss (λ r h. each r (Contains-rest s ss r h)) in
        (record { 0 = here.0 } ∷ rest.0, (here.1, rest.1), (slice_get_within table here.0 (Sel s t, here.1.0) here.1.1, rest.2))

    pub cases_present : (t : TermId) (sort : SortId) → IsSplitTerm d table t sort → HasCases d table t sort
    cases_present t sort split c of_sort =
        let within : t.0 < length table = slice_get_within table t.0 (split.unsettled.core, sort) split.unsettled.stands in
        let both = closed.splits (term_at table t) sort c (split_tree t sort split) of_sort in
        let fields : List CoreTree = fields_of d c (term_at table t) in
        let selected = collected t (sels_of d c)
        (λ s h. present (Sel s t) (within, tt)
        (closed.subterms (con c (trees_of fields)) (sel s (term_at table t)) both.1
        (subtree_child th (con c (trees_of fields)) (sel s (term_at table t))
        (subst (λ (ts : List CoreTree). Contains ts (sel s (term_at table t))) (sym (list_of_trees_of fields)) (Contains-map (λ (r : SelId). sel r (term_at table t)) (sels_of d c) s h))))) in
        record {
          tested = present (Test c t) (within, tt) both.0;
          args = selected.0;
          fields = selected.1;
          built = present (Con c selected.0) selected.2 (subst (λ (ts : List CoreTree). HasTree table (con c (trees_of ts))) (sym (fields_are th table sound.ordered t (sels_of d c) selected.0 selected.1)) both.1);
        }

  -- where all terms of the table are taken, the split ones are marked, and the table is closed
  module _ (marks : List Bool) (long : length marks ≡ length table) (under : IsUnderWay d table marks) where
    taken_at : (n : ℕ) (e : Core × SortId) → slice_get table n ≡ Some e → n < length marks
    taken_at n e at = omega (arith, slice_get_within table n e at)

    pub split_marked : (t : TermId) (sort : SortId) → IsSplitTerm d table t sort → IsMarked marks t
    split_marked t sort split =
        elim split.cause [
          | inl (inl (s, (n, has))) ↦ (under.taken (record { 0 = n }) (taken_at n (Sel s t, has.0) has.1)).argument t sort (inl (s, has)) split.unsettled
          | inl (inr (c, (n, has))) ↦ (under.taken (record { 0 = n }) (taken_at n (Test c t, has.0) has.1)).argument t sort (inr (c, has)) split.unsettled
          | inr finite ↦ (under.taken t (taken_at t.0 (split.unsettled.core, sort) split.unsettled.stands)).finite sort split.unsettled finite
        ]

    pub closed_subterms : (t s : CoreTree) → HasTree table t → Contains (subtrees t) s → HasTree table s
    closed_subterms t s (n, within, e) h =
        let found = th.stand table n s sound.ordered within (subst (λ (u : CoreTree). Contains (subtrees u) s) (sym e) h) in
        (found.0, omega (arith, found.1, within), found.2)

    closed_conditionals : (c a b : CoreTree) (sort : SortId) → HasTree table (choice c a b) → HasTreeSort d (choice c a b) sort → (sort ≡ bool_sort → ⊥) → HasTree table (equation (choice c a b) a) × HasTree table (equation (choice c a b) b)
    closed_conditionals c a b sort (n, within, e) sorted other =
        let here = slice_get-there table n.0 within in
        let layer : term_at table n ≡ tree_layer (term_at table) here.0.0 = layer_at th table sound.ordered here.0.0 n (here.0.1, here.1) in
        let parts = conditional_layer (term_at table) here.0.0 c a b (sym layer ∙ e) in
        let same : here.0.1 ≡ sort = sort_at n here.0.0 here.0.1 sort here.1 (subst (λ (u : CoreTree). HasTreeSort d u sort) (sym e) sorted) in
        let at : slice_get table n.0 ≡ Some (Ite parts.0 parts.1 parts.2, here.0.1) = here.1 ∙ ap (λ (k : Core). Some (k, here.0.1)) parts.3 in
        let both = (under.taken n (taken_at n.0 here.0 here.1)).conditional parts.0 parts.1 parts.2 here.0.1 at (λ bool. other (sym same ∙ bool)) in (
          subst (HasTree table) (ap (λ (u : CoreTree). equation u (tree parts.1)) e ∙ ap (equation (choice c a b)) parts.4) (stands (Eq n parts.1) both.0),
          subst (HasTree table) (ap (λ (u : CoreTree). equation u (tree parts.2)) e ∙ ap (equation (choice c a b)) parts.5) (stands (Eq n parts.2) both.1),
        )

    split_cases : (n : TermId) (sort : SortId) (c : CtorId) → IsSplitTerm d table n sort → Contains (ctor_ids_of_sort d sort) c → HasTree table (test c (term_at table n)) × HasTree table (con c (trees_of (fields_of d c (term_at table n))))
    split_cases n sort c split of_sort =
        let marked = under.marked n (split_marked n sort split) in
        let same : marked.0 ≡ sort = ap (λ (e : Core × SortId). e.1) (same_Some (marked.1.unsettled.core, marked.0) (split.unsettled.core, sort) (sym marked.1.unsettled.stands ∙ split.unsettled.stands)) in
        let case = marked.2 c (subst (λ (s : SortId). Contains (ctor_ids_of_sort d s) c) (sym same) of_sort) in (
          stands (Test c n) case.tested,
          subst (λ (ts : List CoreTree). HasTree table (con c (trees_of ts))) (fields_are th table sound.ordered n (sels_of d c) case.args case.fields) (stands (Con c case.args) case.built),
        )

    closed_splits : (t : CoreTree) (sort : SortId) (c : CtorId) → IsSplit d (HasTree table) t sort → Contains (ctor_ids_of_sort d sort) c → HasTree table (test c t) × HasTree table (con c (trees_of (fields_of d c t)))
    closed_splits t sort c split of_sort =
        let at = split.member in
        let here : IsSplit d (HasTree table) (term_at table at.0) sort = subst (λ (u : CoreTree). IsSplit d (HasTree table) u sort) (sym at.2) split in
        subst (λ (u : CoreTree). HasTree table (test c u) × HasTree table (con c (trees_of (fields_of d c u)))) at.2
        (split_cases at.0 sort c (split_term at.0 sort at.1 here) of_sort)

    pub closed_when_taken : IsClosedTable d table
    closed_when_taken = record { subterms = closed_subterms; conditionals = closed_conditionals; splits = closed_splits }
