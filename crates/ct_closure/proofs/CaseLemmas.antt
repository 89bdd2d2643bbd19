-- The cases of a split: they are well sorted, and each closed set has them.
use Rattle.std.proofs.Common.{◌≡◌, ℕ, ◌<◌, List, [], ◌∷◌, ◌++◌, ◌+◌, length, take, Option, Contains, slice_get, Some, option_map, unwrap_or, refl, sym, ap, subst, ◌∙◌, inl, inr}
use Rattle.std.specs.List.{AllZip}
use Rattle.std.proofs.lemmas.Option.{slice_get_within, same_Some}
use Rattle.ct_lemmas.proofs.Contained.{Contains-from_slice_get, Contains-map, slice_get-from_Contains}
use Rattle.ct_lemmas.proofs.Numbers.{last_or_before}
use Rattle.ct_lemmas.proofs.Pairs.{AllZip-push}
use Rattle.ct_lemmas.proofs.Prefixes.{take-slice_get_next}
use Rattle.ct_sorts.specs.declared.ids.CtorId.{CtorId}
use Rattle.ct_sorts.specs.declared.ids.SelId.{SelId}
use Rattle.ct_sorts.specs.declared.ids.SortId.{SortId}
use Rattle.ct_sorts.specs.Declarations.{Declarations, Sort, Constructor, Selector, bool_sort}
use Rattle.ct_sorts.specs.Grown.{Begins}
use Rattle.ct_sorts.specs.Structure.{HaveOwnConstructors, HaveOwnSelectors}
use Rattle.ct_terms.specs.declared.ids.TermId.{TermId}
use Rattle.ct_terms.specs.declared.term.Core.{Core}
use Rattle.ct_terms.specs.declared.term.Core.TheVariants.{Con, Sel, Test, Eq, Ite}
use Rattle.ct_terms.specs.Terms.{Terms, Has, IsOfSort, IsOfField, HasSort, Selects}
use Rattle.ct_terms.specs.CoreTree.{CoreTree, con, sel, test, equation, choice, trees_of, tree_layer, term_at}
use Rattle.ct_terms.specs.CoreSorts.{HasTreeSort}
use Rattle.ct_terms.specs.Fields.{fields_of, ctor_ids_of_sort}
use Rattle.ct_closure.specs.Closed.{IsClosed, IsSplit, IsBuilt}
use Rattle.ct_closure.specs.ClosedTable.{IsPresent, IsSplitTerm, IsFieldTerm, HasCase, HasCases}
use Rattle.ct_card.specs.Fields.{sels_of}
use Rattle.ct_closure.specs.Steps.{IsSound, IsAdded, IsStep, IsCaseOf, IsConditionalTaken}
use Rattle.ct_closure.specs.Trees.{TreeTheorems}
use Rattle.ct_closure.proofs.TreeLemmas.{list_of_trees_of, IsBuilt-layer, subtree_child, layer_at, fields_are}
use Rattle.ct_closure.proofs.GrowthLemmas.{AreInBelow, HasCase-stays, IsPresent-stays, step_then, step_added, stays_at, Has-stays, fields_stay}

-- the constructors of a sort, and the selectors of a constructor, by the lists of the declarations
pub ctors_are : (d : Declarations) (s : SortId) (sort : Sort) → slice_get d.sorts s.0 ≡ Some sort → ctor_ids_of_sort d s ≡ sort.ctors
ctors_are d s sort at = ap (λ o. unwrap_or (option_map (λ (x : Sort). x.ctors) o) []) at

pub sels_are : (d : Declarations) (c : CtorId) (ctor : Constructor) → slice_get d.ctors c.0 ≡ Some ctor → sels_of d c ≡ ctor.sels
sels_are d c ctor at = ap (λ o. unwrap_or (option_map (λ (x : Constructor). x.sels) o) []) at

module _ (d : Declarations) (ctors : HaveOwnConstructors d) (sels : HaveOwnSelectors d) where
  -- the constructor is declared, and is of the sort
  abbrev pub IsDeclaredOf : SortId → CtorId → Type 0
  IsDeclaredOf s c = (ctor : Constructor) × (slice_get d.ctors c.0 ≡ Some ctor) × (ctor.sort ≡ s)

  pub declared_of : (table : Terms) (t : TermId) (s : SortId) (c : CtorId) → IsSplitTerm d table t s → Contains (ctor_ids_of_sort d s) c → IsDeclaredOf s c
  declared_of table t s c split of_sort =
      let found = split.unsettled.structured in
      let at = slice_get-from_Contains found.0.ctors c (subst (λ (cs : List CtorId). Contains cs c) (ctors_are d s found.0 found.1) of_sort) in
      let own = ctors s.0 at.0 found.0 c found.1 at.1 in
      let id : ℕ → SortId = λ n. record { 0 = n } in
      (own.0, own.1, ap id own.2)

  pub sort_of_split : (table : Terms) (t : TermId) (s : SortId) → IsSplitTerm d table t s → IsOfSort table t s
  sort_of_split table t s split = (split.unsettled.core, split.unsettled.stands)

  -- the selector is declared, and is of the constructor
  pub selector_of : (c : CtorId) (ctor : Constructor) (s : SelId) → slice_get d.ctors c.0 ≡ Some ctor → Contains ctor.sels s → (selector : Selector) × (slice_get d.sels s.0 ≡ Some selector) × (selector.ctor ≡ c)
  selector_of c ctor s declared of_ctor =
      let at = slice_get-from_Contains ctor.sels s of_ctor in
      let own = sels c.0 at.0 ctor s declared at.1 in
      let id : ℕ → CtorId = λ n. record { 0 = n } in
      (own.0, own.1, ap id own.2)

  -- the test, the fields and the constructor term over them are well sorted
  module _ (table : Terms) (t : TermId) (c : CtorId) (case : IsCaseOf d table t c) where
    pub test_sorted : HasSort d table (Test c t) bool_sort
    test_sorted =
        let ctor = declared_of table t case.0 c case.1 case.2 in
        record { ctor = ctor.0; declared = ctor.1; sorted = subst (IsOfSort table t) (sym ctor.2) (sort_of_split table t case.0 case.1); result = refl }

    pub field_sorted : (s : SelId) → Contains (sels_of d c) s → (sort : SortId) × HasSort d table (Sel s t) sort
    field_sorted s of_ctor =
        let ctor = declared_of table t case.0 c case.1 case.2 in
        let found = selector_of c ctor.0 s ctor.1 (subst (λ (ss : List SelId). Contains ss s) (sels_are d c ctor.0 ctor.1) of_ctor) in (
          found.0.sort,
          record {
            selector = found.0;
            ctor = ctor.0;
            declared = found.1;
            constructor = ap (λ (k : CtorId). slice_get d.ctors k.0) found.2 ∙ ctor.1;
            sorted = subst (IsOfSort table t) (sym ctor.2) (sort_of_split table t case.0 case.1);
            result = refl;
          },
        )

    field_of_sort : IsSound d table → (s : SelId) (a : TermId) → IsFieldTerm table t s a → IsOfField d table a s
    field_of_sort sound s a has =
        let selects : Selects d table s.0 t has.0 = sound.sorted a.0 (Sel s t) has.0 has.1 in
        record { selector = selects.selector; declared = selects.declared; sorted = subst (IsOfSort table a) selects.result (Sel s t, has.1) }

    turned : IsSound d table → (ss : List SelId) (args : List TermId) → AllZip (IsFieldTerm table t) ss args → AllZip (IsOfField d table) args ss
    turned sound [] [] all = tt
    turned sound [] (a ∷ args) all = absurd all
    turned sound (s ∷ ss) [] all = absurd all
    turned sound (s ∷ ss) (a ∷ args) all = (field_of_sort sound s a all.0, turned sound ss args all.1)

    pub construction_sorted : IsSound d table → (args : List TermId) → AllZip (IsFieldTerm table t) (sels_of d c) args → (sort : SortId) × HasSort d table (Con c args) sort
    construction_sorted sound args fields =
        let ctor = declared_of table t case.0 c case.1 case.2 in (
          ctor.0.sort,
          record {
            ctor = ctor.0;
            declared = ctor.1;
            fields = turned sound ctor.0.sels args (subst (λ (ss : List SelId). AllZip (IsFieldTerm table t) ss args) (sels_are d c ctor.0 ctor.1) fields);
            result = refl;
          },
        )

-- in each closed set that has the trees of the old terms
module _ (th : TreeTheorems) (d : Declarations) (old new : Terms) (sound : IsSound d new) (grown : Begins old new) (set : List CoreTree) (closed : IsClosed d (Contains set)) (all : AreInBelow set new (length old)) where
  -- what stands in the old table is in the set
  pub stood_in : (core : Core) (n : TermId) → Has old core n.0 → Contains set (tree_layer (term_at new) core)
  stood_in core n has =
      subst (Contains set) (layer_at th new sound.ordered core n (Has-stays old new grown core n.0 has))
      (all n (slice_get_within old n.0 (core, has.0) has.1))

  -- a term that is split in the table is split in the set
  pub split_in : (t : TermId) (sort : SortId) → IsSplitTerm d old t sort → IsSplit d (Contains set) (term_at new t) sort
  split_in t sort split =
      let core = split.unsettled.core in
      let at : slice_get new t.0 ≡ Some (core, sort) = stays_at old new grown t.0 (core, sort) split.unsettled.stands in
      record {
        member = all t (slice_get_within old t.0 (core, sort) split.unsettled.stands);
        sorted = th.sorted d new t sort sound.ordered sound.sorted (core, at);
        structured = split.unsettled.structured;
        unbuilt = λ built. split.unsettled.unbuilt (IsBuilt-layer (term_at new) core (subst IsBuilt (layer_at th new sound.ordered core t (sort, at)) built));
        cause = elim split.cause [
          | inl (inl (s, (n, has))) ↦ inl (inl (s, stood_in (Sel s t) (record { 0 = n }) has))
          | inl (inr (c, (n, has))) ↦ inl (inr (c, stood_in (Test c t) (record { 0 = n }) has))
          | inr finite ↦ inr finite
        ];
      }

  pub test_in : (t : TermId) (c : CtorId) → IsCaseOf d old t c → Contains set (test c (term_at new t))
  test_in t c case = (closed.splits (term_at new t) case.0 c (split_in t case.0 case.1) case.2).0

  pub whole_in : (t : TermId) (c : CtorId) → IsCaseOf d old t c → Contains set (con c (trees_of (fields_of d c (term_at new t))))
  whole_in t c case = (closed.splits (term_at new t) case.0 c (split_in t case.0 case.1) case.2).1

  pub field_in : (t : TermId) (c : CtorId) (s : SelId) → IsCaseOf d old t c → Contains (sels_of d c) s → Contains set (sel s (term_at new t))
  field_in t c s case of_ctor =
      let tree = term_at new t in
      let fields : List CoreTree = fields_of d c tree in
      let here : Contains fields (sel s tree) = Contains-map (λ (r : SelId). sel r tree) (sels_of d c) s of_ctor in
      closed.subterms (con c (trees_of fields)) (sel s tree) (whole_in t c case)
      (subtree_child th (con c (trees_of fields)) (sel s tree) (subst (λ (ts : List CoreTree). Contains ts (sel s tree)) (sym (list_of_trees_of fields)) here))

  pub construction_in : (t : TermId) (c : CtorId) (args : List TermId) → IsCaseOf d old t c → AllZip (IsFieldTerm old t) (sels_of d c) args → Contains set (tree_layer (term_at new) (Con c args))
  construction_in t c args case fields =
      subst (λ (ts : List CoreTree). Contains set (con c (trees_of ts)))
      (sym (fields_are th new sound.ordered t (sels_of d c) args (fields_stay old new grown d t (sels_of d c) args fields)))
      (whole_in t c case)

-- so adding a test, a field, and the constructor term over the fields are steps
module _ (th : TreeTheorems) (d : Declarations) (old new : Terms) (t : TermId) (c : CtorId) (case : IsCaseOf d old t c) (sound : IsSound d new) where
  pub test_step : IsAdded d old new (Test c t) → IsStep d old new
  test_step added = step_added th d old new (Test c t) sound added (λ grown set closed all. test_in th d old new sound grown set closed all t c case)

  pub field_step : (s : SelId) → Contains (sels_of d c) s → IsAdded d old new (Sel s t) → IsStep d old new
  field_step s of_ctor added = step_added th d old new (Sel s t) sound added (λ grown set closed all. field_in th d old new sound grown set closed all t c s case of_ctor)

  pub construction_step : (args : List TermId) → AllZip (IsFieldTerm old t) (sels_of d c) args → IsAdded d old new (Con c args) → IsStep d old new
  construction_step args fields added = step_added th d old new (Con c args) sound added (λ grown set closed all. construction_in th d old new sound grown set closed all t c args case fields)

-- and so is adding an equation of a conditional that is no formula with one of its branches
module _ (th : TreeTheorems) (d : Declarations) (old new : Terms) (sound : IsSound d new) (grown : Begins old new) (set : List CoreTree) (closed : IsClosed d (Contains set)) (all : AreInBelow set new (length old)) where
  pub equations_in : (t k a b : TermId) (sort : SortId) → slice_get old t.0 ≡ Some (Ite k a b, sort) → (sort ≡ bool_sort → ⊥) → Contains set (tree_layer (term_at new) (Eq t a)) × Contains set (tree_layer (term_at new) (Eq t b))
  equations_in t k a b sort at other =
      let tree = term_at new in
      let here : slice_get new t.0 ≡ Some (Ite k a b, sort) = stays_at old new grown t.0 (Ite k a b, sort) at in
      let layer : term_at new t ≡ choice (tree k) (tree a) (tree b) = layer_at th new sound.ordered (Ite k a b) t (sort, here) in
      let inside : Contains set (choice (tree k) (tree a) (tree b)) = subst (Contains set) layer (all t (slice_get_within old t.0 (Ite k a b, sort) at)) in
      let sorted : HasTreeSort d (choice (tree k) (tree a) (tree b)) sort = subst (λ (u : CoreTree). HasTreeSort d u sort) layer (th.sorted d new t sort sound.ordered sound.sorted (Ite k a b, here)) in
      let both = closed.conditionals (tree k) (tree a) (tree b) sort inside sorted other in
      (subst (λ (u : CoreTree). Contains set (equation u (tree a))) (sym layer) both.0, subst (λ (u : CoreTree). Contains set (equation u (tree b))) (sym layer) both.1)

module _ (th : TreeTheorems) (d : Declarations) (old new : Terms) (t k a b : TermId) (sort : SortId) (at : slice_get old t.0 ≡ Some (Ite k a b, sort)) (other : sort ≡ bool_sort → ⊥) (sound : IsSound d new) where
  pub then_step : IsAdded d old new (Eq t a) → IsStep d old new
  then_step added = step_added th d old new (Eq t a) sound added (λ grown set closed all. (equations_in th d old new sound grown set closed all t k a b sort at other).0)

  pub else_step : IsAdded d old new (Eq t b) → IsStep d old new
  else_step added = step_added th d old new (Eq t b) sound added (λ grown set closed all. (equations_in th d old new sound grown set closed all t k a b sort at other).1)

-- the equations of a conditional that is no formula with its branches are well sorted
pub equations_sorted : (d : Declarations) (table : Terms) → IsSound d table → (t k a b : TermId) (sort : SortId) → slice_get table t.0 ≡ Some (Ite k a b, sort) → (sort ≡ bool_sort → ⊥) → HasSort d table (Eq t a) bool_sort × HasSort d table (Eq t b) bool_sort
equations_sorted d table sound t k a b sort at other =
    let branches = sound.sorted t.0 (Ite k a b) sort at in (
      record { side = sort; left = (Ite k a b, at); right = branches.1; other = other; result = refl },
      record { side = sort; left = (Ite k a b, at); right = branches.2; other = other; result = refl },
    )

-- a term has one sort in a table
pub one_sort_at : (table : Terms) (t : TermId) (r s : SortId) → IsOfSort table t r → IsOfSort table t s → r ≡ s
one_sort_at table t r s at_r at_s = ap (λ (e : Core × SortId). e.1) (same_Some (at_r.0, r) (at_s.0, s) (sym at_r.1 ∙ at_s.1))

-- the sort of a split term is declared, and the constructor of a case is
pub split_sort_inside : (d : Declarations) (table : Terms) (t : TermId) (r s : SortId) → IsOfSort table t r → IsSplitTerm d table t s → r.0 < length d.sorts
split_sort_inside d table t r s at split =
    let found = split.unsettled.structured in
    subst (λ (u : SortId). u.0 < length d.sorts) (one_sort_at table t s r (split.unsettled.core, split.unsettled.stands) at) (slice_get_within d.sorts s.0 found.0 found.1)

pub case_inside : (d : Declarations) → HaveOwnConstructors d → HaveOwnSelectors d → (table : Terms) (t : TermId) (c : CtorId) → IsCaseOf d table t c → c.0 < length d.ctors
case_inside d ctors sels table t c case =
    let ctor = declared_of d ctors sels table t case.0 c case.1 case.2 in
    slice_get_within d.ctors c.0 ctor.0 ctor.1

-- a constructor at an index of those of the sort of a split term is one of a case
pub case_at : (d : Declarations) (table : Terms) (t : TermId) (r s : SortId) (ctors : List CtorId) (k : ℕ) (c : CtorId) → IsOfSort table t r → option_map (λ (x : Sort). x.ctors) (slice_get d.sorts r.0) ≡ Some ctors → slice_get ctors k ≡ Some c → IsSplitTerm d table t s → IsCaseOf d table t c
case_at d table t r s ctors k c at are here split =
    let same : r ≡ s = one_sort_at table t r s at (split.unsettled.core, split.unsettled.stands) in
    let inside : Contains (ctor_ids_of_sort d r) c = subst (λ (cs : List CtorId). Contains cs c) (sym (ap (λ (o : Option (List CtorId)). unwrap_or o []) are)) (Contains-from_slice_get ctors k c here) in
    (s, split, subst (λ (u : SortId). Contains (ctor_ids_of_sort d u) c) same inside)

-- and all of them are all cases
pub cases_at : (d : Declarations) (old new : Terms) (t : TermId) (r : SortId) (ctors : List CtorId) → IsOfSort old t r → option_map (λ (x : Sort). x.ctors) (slice_get d.sorts r.0) ≡ Some ctors → ((k : ℕ) (c : CtorId) → k < length ctors → slice_get ctors k ≡ Some c → HasCase d new t c) → (s : SortId) → IsSplitTerm d old t s → HasCases d new t s
cases_at d old new t r ctors at are each s split c of_sort =
    let same : s ≡ r = one_sort_at old t s r (split.unsettled.core, split.unsettled.stands) at in
    let inside : Contains ctors c = subst (λ (cs : List CtorId). Contains cs c) (ap (λ (o : Option (List CtorId)). unwrap_or o []) are) (subst (λ (u : SortId). Contains (ctor_ids_of_sort d u) c) same of_sort) in
    let found = slice_get-from_Contains ctors c inside in
    each found.0 c (slice_get_within ctors found.0 c found.1) found.1

-- the selectors of a constructor, as a signature has them
pub sels_listed : (d : Declarations) (c : CtorId) (sels : List SelId) → option_map (λ (x : Constructor). x.sels) (slice_get d.ctors c.0) ≡ Some sels → sels_of d c ≡ sels
sels_listed d c sels are = ap (λ (o : Option (List SelId)). unwrap_or o []) are

-- the fields so far with one more
pub fields_more : (d : Declarations) (old new : Terms) → IsStep d old new → (t : TermId) (sels : List SelId) (i : ℕ) (s : SelId) (args after : List TermId) (field : TermId) → slice_get sels i ≡ Some s → AllZip (IsFieldTerm old t) (take i sels) args → IsFieldTerm new t s field → after ≡ args ++ field ∷ [] → AllZip (IsFieldTerm new t) (take (i + 1) sels) after
fields_more d old new step t sels i s args after field at so_far here grown =
    let both : AllZip (IsFieldTerm new t) (take i sels ++ s ∷ []) (args ++ field ∷ []) = AllZip-push (IsFieldTerm new t) (take i sels) args s field (fields_stay old new step.grown d t (take i sels) args so_far) here in
    subst (λ (ss : List SelId). AllZip (IsFieldTerm new t) ss after) (sym (take-slice_get_next sels i s at)) (subst (λ (ts : List TermId). AllZip (IsFieldTerm new t) (take i sels ++ s ∷ []) ts) (sym grown) both)

-- the cases so far with one more
pub cases_more : (d : Declarations) (old new : Terms) → IsStep d old new → (t : TermId) (ctors : List CtorId) (i : ℕ) (c : CtorId) → slice_get ctors i ≡ Some c → ((k : ℕ) (e : CtorId) → k < i → slice_get ctors k ≡ Some e → HasCase d old t e) → HasCase d new t c → (k : ℕ) (e : CtorId) → k < i + 1 → slice_get ctors k ≡ Some e → HasCase d new t e
cases_more d old new step t ctors i c at so_far here k e less at_k =
    elim (last_or_before k i less) [
      | inl before ↦ HasCase-stays old new step.grown d t e (so_far k e before at_k)
      | inr last ↦ subst (λ (x : CtorId). HasCase d new t x) (same_Some c e (sym at ∙ ap (slice_get ctors) (sym last) ∙ at_k)) here
    ]

-- a conditional whose equations are there is taken
pub conditional_taken : (table : Terms) (t k a b : TermId) (sort : SortId) → slice_get table t.0 ≡ Some (Ite k a b, sort) → IsPresent table (Eq t a) → IsPresent table (Eq t b) → IsConditionalTaken table t
conditional_taken table t k a b sort at left right j x y s here other =
    let same : Ite k a b ≡ Ite j x y = ap (λ (e : Core × SortId). e.0) (same_Some (Ite k a b, sort) (Ite j x y, s) (sym at ∙ here)) in
    let same_a : a ≡ x = cc same in
    let same_b : b ≡ y = cc same in
    (subst (λ (z : TermId). IsPresent table (Eq t z)) same_a left, subst (λ (z : TermId). IsPresent table (Eq t z)) same_b right)

-- what stands at a number, by the term and by the sort that are there
pub term_and_sort : (table : Terms) (t : TermId) (core : Core) (sort : SortId) → Has table core t.0 → IsOfSort table t sort → slice_get table t.0 ≡ Some (core, sort)
term_and_sort table t core sort has at =
    let same : has.0 ≡ sort = one_sort_at table t has.0 sort (core, has.1) at in
    has.1 ∙ ap (λ (s : SortId). Some (core, s)) same

-- both equations, one after the other
module _ (th : TreeTheorems) (d : Declarations) (old mid new : Terms) (t k a b : TermId) (sort : SortId) (at : slice_get old t.0 ≡ Some (Ite k a b, sort)) (other : sort ≡ bool_sort → ⊥) (sound_mid : IsSound d mid) (first : IsAdded d old mid (Eq t a)) (sound : IsSound d new) (second : IsAdded d mid new (Eq t b)) where
  to_mid : IsStep d old mid
  to_mid = then_step th d old mid t k a b sort at other sound_mid first

  from_mid : IsStep d mid new
  from_mid = else_step th d mid new t k a b sort (stays_at old mid to_mid.grown t.0 (Ite k a b, sort) at) other sound second

  pub both_steps : IsStep d old new
  both_steps = step_then d old mid new to_mid from_mid

  pub both_taken : IsPresent mid (Eq t a) → IsPresent new (Eq t b) → IsConditionalTaken new t
  both_taken left right = conditional_taken new t k a b sort (stays_at old new both_steps.grown t.0 (Ite k a b, sort) at) (IsPresent-stays mid new from_mid.grown (Eq t a) left) right
