-- Terms and closed sets where more is declared.
use Rattle.std.proofs.Common.{◌≡◌, ℕ, ◌<◌, List, [], ◌∷◌, ◌++◌, length, map, Contains, Option, slice_get, Some, option_map, unwrap_or, sym, ap, subst, ◌∙◌, inl, inr}
use Rattle.std.specs.List.{AllZip}
use Rattle.std.proofs.lemmas.Option.{slice_get_within}
use Rattle.std.proofs.lemmas.List.Elements.{Contains-append_cases, Contains-append_left, Contains-append_right}
use Rattle.ct_lemmas.proofs.Contained.{slice_get-from_Contains}
use Rattle.ct_lemmas.proofs.Lists.{slice_get-append_left, slice_get-there}
use Rattle.ct_sorts.specs.declared.ids.CtorId.{CtorId}
use Rattle.ct_sorts.specs.declared.ids.SelId.{SelId}
use Rattle.ct_sorts.specs.declared.ids.SortId.{SortId}
use Rattle.ct_sorts.specs.Declarations.{Declarations, Sort, Constructor, Selector, bool_sort}
use Rattle.ct_sorts.specs.Grown.{Begins, Extends}
use Rattle.ct_sorts.specs.Structure.{HaveOwnConstructors}
use Rattle.ct_card.specs.declared.size.Size.{Size}
use Rattle.ct_card.specs.declared.size.Size.TheVariants.{Finite}
use Rattle.ct_card.specs.Cardinality.{HasSize}
use Rattle.ct_card.specs.Fields.{sels_of}
use Rattle.ct_terms.specs.declared.ids.TermId.{TermId}
use Rattle.ct_terms.specs.Terms.{Terms}
use Rattle.ct_terms.specs.CoreTree.{CoreTree, CoreTrees, con, sel, test, apply, equation, negation, conjunction, disjunction, equivalence, choice, no_trees, with_tree, trees_of}
use Rattle.ct_terms.specs.CoreSorts.{AreFieldSorts, HasTreeSort, HaveTreeSorts, AreBooleanTrees}
use Rattle.ct_terms.specs.Fields.{fields_of, ctor_ids_of_sort}
use Rattle.ct_closure.specs.Closed.{IsStructured, IsSplit, IsClosed, InClosure, truth_trees}
use Rattle.ct_closure.specs.ClosedTable.{IsSplitTerm, IsFieldTerm, HasCases}

module _ (d e : Declarations) (extends : Extends d e) where
  at_later : {X : Type 0} (old new : List X) → Begins old new → (i : ℕ) (x : X) → slice_get old i ≡ Some x → slice_get new i ≡ Some x
  at_later old new begins i x at = ap (λ l. slice_get l i) begins.1 ∙ slice_get-append_left old begins.0 i x at

  at_earlier : {X : Type 0} (old new : List X) → Begins old new → (i : ℕ) (x : X) → i < length old → slice_get new i ≡ Some x → slice_get old i ≡ Some x
  at_earlier old new begins i x within at =
      let found = slice_get-there old i within in
      found.1 ∙ sym (at_later old new begins i found.0 found.1) ∙ at

  sort_later : (s : ℕ) (sort : Sort) → slice_get e.sorts s ≡ Some sort → slice_get d.sorts s ≡ Some sort
  sort_later s sort at = at_later e.sorts d.sorts extends.sorts s sort at

  ctor_later : (c : ℕ) (ctor : Constructor) → slice_get e.ctors c ≡ Some ctor → slice_get d.ctors c ≡ Some ctor
  ctor_later c ctor at = at_later e.ctors d.ctors extends.ctors c ctor at

  sel_later : (s : ℕ) (selector : Selector) → slice_get e.sels s ≡ Some selector → slice_get d.sels s ≡ Some selector
  sel_later s selector at = at_later e.sels d.sels extends.sels s selector at

  fields_later : (sels : List SelId) (sorts : List SortId) → AreFieldSorts e sels sorts → AreFieldSorts d sels sorts
  fields_later [] [] h = tt
  fields_later [] (sort ∷ sorts) h = absurd h
  fields_later (s ∷ sels) [] h = absurd h
  fields_later (s ∷ sels) (sort ∷ sorts) h = ((h.0.0, sel_later s.0 h.0.0 h.0.1, h.0.2), fields_later sels sorts h.1)

  -- a term keeps its sort
  mutual
    pub tree_sort_later : (t : CoreTree) (sort : SortId) → HasTreeSort e t sort → HasTreeSort d t sort
    tree_sort_later (con c ts) sort (ctor, fields, declared, are, have, result) = (ctor, fields, ctor_later c.0 ctor declared, fields_later ctor.sels fields are, tree_sorts_later ts fields have, result)
    tree_sort_later (sel s t) sort (selector, ctor, declared, constructor, inner, result) = (selector, ctor, sel_later s.0 selector declared, ctor_later selector.ctor.0 ctor constructor, tree_sort_later t ctor.sort inner, result)
    tree_sort_later (test c t) sort (ctor, declared, inner, result) = (ctor, ctor_later c.0 ctor declared, tree_sort_later t ctor.sort inner, result)
    tree_sort_later (apply f ts) sort (function, declared, have, result) = (function, at_later e.functions d.functions extends.functions f.0 function declared, tree_sorts_later ts function.args have, result)
    tree_sort_later (equation a b) sort (side, left, right, other, result) = (side, tree_sort_later a side left, tree_sort_later b side right, other, result)
    tree_sort_later (negation t) sort (inner, result) = (tree_sort_later t bool_sort inner, result)
    tree_sort_later (conjunction ts) sort (some, all, result) = (some, boolean_later ts all, result)
    tree_sort_later (disjunction ts) sort (some, all, result) = (some, boolean_later ts all, result)
    tree_sort_later (equivalence a b) sort (left, right, result) = (tree_sort_later a bool_sort left, tree_sort_later b bool_sort right, result)
    tree_sort_later (choice c a b) sort (condition, left, right) = (tree_sort_later c bool_sort condition, tree_sort_later a sort left, tree_sort_later b sort right)

    tree_sorts_later : (ts : CoreTrees) (sorts : List SortId) → HaveTreeSorts e ts sorts → HaveTreeSorts d ts sorts
    tree_sorts_later no_trees [] h = tt
    tree_sorts_later no_trees (sort ∷ sorts) h = absurd h
    tree_sorts_later (with_tree t ts) [] h = absurd h
    tree_sorts_later (with_tree t ts) (sort ∷ sorts) h = (tree_sort_later t sort h.0, tree_sorts_later ts sorts h.1)

    boolean_later : (ts : CoreTrees) → AreBooleanTrees e ts → AreBooleanTrees d ts
    boolean_later no_trees h = tt
    boolean_later (with_tree t ts) h = (tree_sort_later t bool_sort h.0, boolean_later ts h.1)

  pub structured_later : (sort : SortId) → IsStructured e sort → IsStructured d sort
  structured_later sort h = (h.0, sort_later sort.0 h.0 h.1, h.2)

  pub structured_earlier : (sort : SortId) → sort.0 < length e.sorts → IsStructured d sort → IsStructured e sort
  structured_earlier sort within h = (h.0, at_earlier e.sorts d.sorts extends.sorts sort.0 h.0 within h.1, h.2)

  -- the constructors of an earlier sort, and their selectors
  pub ctors_later : (sort : SortId) → sort.0 < length e.sorts → ctor_ids_of_sort d sort ≡ ctor_ids_of_sort e sort
  ctors_later sort within =
      let found = slice_get-there e.sorts sort.0 within in
      let here : slice_get d.sorts sort.0 ≡ slice_get e.sorts sort.0 = sort_later sort.0 found.0 found.1 ∙ sym found.1 in
      ap (λ (o : Option Sort). unwrap_or (option_map (λ (x : Sort). x.ctors) o) []) here

  module _ (own : HaveOwnConstructors e) where
    same_ctor : (sort : SortId) (c : CtorId) → sort.0 < length e.sorts → Contains (ctor_ids_of_sort e sort) c → slice_get d.ctors c.0 ≡ slice_get e.ctors c.0
    same_ctor sort c within of_sort =
        let found = slice_get-there e.sorts sort.0 within in
        let list : ctor_ids_of_sort e sort ≡ found.0.ctors = ap (λ (o : Option Sort). unwrap_or (option_map (λ (x : Sort). x.ctors) o) []) found.1 in
        let at = slice_get-from_Contains found.0.ctors c (subst (λ (cs : List CtorId). Contains cs c) list of_sort) in
        let ctor = own sort.0 at.0 found.0 c found.1 at.1 in
        ctor_later c.0 ctor.0 ctor.1 ∙ sym ctor.1

    pub sels_later : (sort : SortId) (c : CtorId) → sort.0 < length e.sorts → Contains (ctor_ids_of_sort e sort) c → sels_of d c ≡ sels_of e c
    sels_later sort c within of_sort = ap (λ (o : Option Constructor). unwrap_or (option_map (λ (x : Constructor). x.sels) o) []) (same_ctor sort c within of_sort)

    pub fields_of_later : (sort : SortId) (c : CtorId) (t : CoreTree) → sort.0 < length e.sorts → Contains (ctor_ids_of_sort e sort) c → fields_of d c t ≡ fields_of e c t
    fields_of_later sort c t within of_sort = ap (map (λ (s : SelId). sel s t)) (sels_later sort c within of_sort)

    -- the cases of a term of an earlier sort
    pub cases_later : (table : Terms) (t : TermId) (sort : SortId) → sort.0 < length e.sorts → HasCases e table t sort → HasCases d table t sort
    cases_later table t sort within cases c of_sort =
        let earlier : Contains (ctor_ids_of_sort e sort) c = subst (λ (cs : List CtorId). Contains cs c) (ctors_later sort within) of_sort in
        let case = cases c earlier in
        record { tested = case.tested; args = case.args; fields = subst (λ (ss : List SelId). AllZip (IsFieldTerm table t) ss case.args) (sym (sels_later sort c within earlier)) case.fields; built = case.built }

    module _ (sizes : (s : ℕ) (size : Size) → s < length e.sorts → (HasSize e s size → HasSize d s size) × (HasSize d s size → HasSize e s size)) where
      -- a set that is closed over the later declarations is closed over the earlier ones
      pub closed_earlier : (In : CoreTree → Type 0) → IsClosed d In → IsClosed e In
      closed_earlier In closed =
          record {
            subterms = closed.subterms;
            conditionals = λ c a b sort inside sorted other. closed.conditionals c a b sort inside (tree_sort_later (choice c a b) sort sorted) other;
            splits = splits;
          }
        where
          splits : (t : CoreTree) (sort : SortId) (c : CtorId) → IsSplit e In t sort → Contains (ctor_ids_of_sort e sort) c → In (test c t) × In (con c (trees_of (fields_of e c t)))
          splits t sort c split of_sort =
              let within : sort.0 < length e.sorts = slice_get_within e.sorts sort.0 split.structured.0 split.structured.1 in
              let later : IsSplit d In t sort = record {
                member = split.member;
                sorted = tree_sort_later t sort split.sorted;
                structured = structured_later sort split.structured;
                unbuilt = split.unbuilt;
                cause = elim split.cause [ inl inspected ↦ inl inspected | inr finite ↦ inr ((sizes sort.0 Finite within).0 finite) ];
              } in
              let both = closed.splits t sort c later (subst (λ (cs : List CtorId). Contains cs c) (sym (ctors_later sort within)) of_sort) in
              (both.0, subst (λ (fields : List CoreTree). In (con c (trees_of fields))) (fields_of_later sort c t within of_sort) both.1)

      -- what is in the closure over the earlier declarations is in that of more roots over the later ones
      pub closure_later : (roots more : List CoreTree) (t : CoreTree) → InClosure e roots t → InClosure d (roots ++ more) t
      closure_later roots more t inside set over =
          inside set record {
            rooted = λ u root. over.rooted u (elim (Contains-append_cases truth_trees roots u root) [
              | inl truth ↦ Contains-append_left truth_trees (roots ++ more) u truth
              | inr listed ↦ Contains-append_right truth_trees (roots ++ more) u (Contains-append_left roots more u listed)
            ]);
            closed = closed_earlier (Contains set) over.closed;
          }

      -- a term of an earlier sort is split over the one as over the other
      pub split_later : (table : Terms) (t : TermId) (sort : SortId) → IsSplitTerm e table t sort → IsSplitTerm d table t sort
      split_later table t sort split =
          let u = split.unsettled in
          let within : sort.0 < length e.sorts = slice_get_within e.sorts sort.0 u.structured.0 u.structured.1 in
          record {
            unsettled = record { core = u.core; stands = u.stands; structured = structured_later sort u.structured; unbuilt = u.unbuilt };
            cause = elim split.cause [ inl argument ↦ inl argument | inr finite ↦ inr ((sizes sort.0 Finite within).0 finite) ];
          }
