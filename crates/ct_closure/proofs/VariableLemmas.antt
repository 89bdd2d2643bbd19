-- The propositional variables of a table, as trees: counting them by the terms of the table is counting them in the set of its trees.
use Rattle.std.proofs.Common.{◌≡◌, ℕ, zero, suc, ◌+◌, ◌<◌, ◌≤◌, ◌⊎◌, Bool, true, false, not, ◌&&◌, ◌==◌, List, [], ◌∷◌, ◌++◌, length, take, get_or, Contains, slice_get, Some, refl, sym, ap, subst, ◌∙◌, inl, inr, arith, length-append, true≢false}
use Rattle.std.proofs.lemmas.Bool.Decides.{Decides-eqb}
use Rattle.std.proofs.lemmas.List.Elements.{Contains-append_left, Contains-push, Contains-push_cases}
use Rattle.std.proofs.lemmas.List.Sums.{count_by_more_no, count_by_more_yes}
use Rattle.std.proofs.lemmas.Option.{slice_get_within, same_Some, none-some, get_or_from_slice_get}
use Rattle.ct_lemmas.proofs.Contained.{Contains-cons, Contains-first, Contains-from_slice_get, Contains-none, Contains-rest}
use Rattle.ct_lemmas.proofs.Lists.{slice_get-push_cases, slice_get-there}
use Rattle.ct_lemmas.proofs.Numbers.{last_or_before}
use Rattle.ct_lemmas.proofs.Prefixes.{slice_get-take, take-past}
use Rattle.ct_sorts.specs.declared.ids.CtorId.{CtorId}
use Rattle.ct_sorts.specs.declared.ids.SelId.{SelId}
use Rattle.ct_sorts.specs.declared.ids.SortId.{SortId}
use Rattle.ct_sorts.specs.Declarations.{Declarations, Sort, Constructor, start, bool, bool_sort, ctor_ids}
use Rattle.ct_sorts.specs.Consistent.{IsConsistent}
use Rattle.ct_sorts.specs.Structure.{AreOfTheirSorts}
use Rattle.ct_terms.specs.declared.ids.TermId.{TermId}
use Rattle.ct_terms.specs.declared.term.Core.{Core}
use Rattle.ct_terms.specs.declared.term.Core.TheVariants.{Con, Sel, Test, Apply, Eq, Not, And, Or, Iff, Ite}
use Rattle.ct_terms.specs.Terms.{Terms}
use Rattle.ct_terms.specs.CoreTree.{CoreTree, CoreTrees, con, no_trees, with_tree, tree_layer, term_at}
use Rattle.ct_terms.specs.CoreSorts.{HasTreeSort, HaveTreeSorts, AreFieldSorts}
use Rattle.ct_closure.specs.Closed.{IsBuilt, IsNegation, IsVariable, HasVariables, InClosure, AreDifferent, truth_trees}
use Rattle.ct_closure.specs.ClosedTable.{HasTree, IsConstruction}
use Rattle.ct_closure.specs.Steps.{IsSound}
use Rattle.ct_closure.specs.Trees.{TreeTheorems}
use Rattle.ct_closure.specs.Variables.{is_settled, is_variable, variable_count}
use Rattle.ct_closure.proofs.TreeLemmas.{IsBuilt-layer, layer_at}
use Rattle.ct_closure.proofs.ClosedLemmas.{sort_at}

-- a list of arguments without sorts is empty, and so is one of sorts without selectors
no_arguments : (d : Declarations) (ts : CoreTrees) → HaveTreeSorts d ts [] → ts ≡ no_trees
no_arguments d no_trees h = refl
no_arguments d (with_tree t ts) h = absurd h

no_sorts : (d : Declarations) (sorts : List SortId) → AreFieldSorts d [] sorts → sorts ≡ []
no_sorts d [] h = refl
no_sorts d (s ∷ sorts) h = absurd h

-- a constructor of Bool is the first or the second
of_bool : (index : ℕ) (c : CtorId) → slice_get (ctor_ids 0 2) index ≡ Some c → (c ≡ record { 0 = 0 }) ⊎ (c ≡ record { 0 = 1 })
of_bool zero c e = inl (sym (same_Some (record { 0 = 0 }) c e))
of_bool (suc zero) c e = inr (sym (same_Some (record { 0 = 1 }) c e))
of_bool (suc (suc index)) c e = absurd (none-some c e)

module _ (d : Declarations) (consistent : IsConsistent d) (own : AreOfTheirSorts d) where
  -- it has no field
  bare : (n : ℕ) (ctor first : Constructor) (ts : CoreTrees) (fields : List SortId) → slice_get start.ctors n ≡ Some first → first.sels ≡ [] → slice_get d.ctors n ≡ Some ctor → AreFieldSorts d ctor.sels fields → HaveTreeSorts d ts fields → ts ≡ no_trees
  bare n ctor first ts fields at none declared are have =
      let at_d : slice_get d.ctors n ≡ Some first = slice_get-take 2 d.ctors n first (ap (λ (l : List Constructor). slice_get l n) consistent.first_ctors ∙ at) in
      let sels : ctor.sels ≡ [] = ap (λ (k : Constructor). k.sels) (same_Some ctor first (sym declared ∙ at_d)) ∙ none in
      let empty : fields ≡ [] = no_sorts d fields (subst (λ (ss : List SelId). AreFieldSorts d ss fields) sels are) in
      no_arguments d ts (subst (HaveTreeSorts d ts) empty have)

  -- a constructor term of Bool is `true` or `false`
  boolean_construction : (c : CtorId) (ts : CoreTrees) → HasTreeSort d (con c ts) bool_sort → Contains truth_trees (con c ts)
  boolean_construction c ts (ctor, fields, declared, are, have, result) =
      let found = own c.0 ctor declared in
      let at_zero : slice_get d.sorts 0 ≡ Some bool = slice_get-take 1 d.sorts 0 bool (ap (λ (l : List Sort). slice_get l 0) consistent.first_sort) in
      let same : found.0 ≡ bool = same_Some found.0 bool (sym found.2 ∙ ap (λ (s : SortId). slice_get d.sorts s.0) result ∙ at_zero) in
      let listed : slice_get (ctor_ids 0 2) found.1 ≡ Some c = ap (λ (s : Sort). slice_get s.ctors found.1) (sym same) ∙ found.3 in
      elim (of_bool found.1 c listed) [
        | inl is ↦
            let none : ts ≡ no_trees = bare 0 ctor _ ts fields refl refl (ap (λ (k : CtorId). slice_get d.ctors k.0) (sym is) ∙ declared) are have in
            subst (Contains truth_trees) (ap (λ (k : CtorId). con k no_trees) (sym is) ∙ ap (con c) (sym none)) (Contains-first (con (record { 0 = 0 }) no_trees) (con (record { 0 = 1 }) no_trees ∷ []))
        | inr is ↦
            let none : ts ≡ no_trees = bare 1 ctor _ ts fields refl refl (ap (λ (k : CtorId). slice_get d.ctors k.0) (sym is) ∙ declared) are have in
            subst (Contains truth_trees) (ap (λ (k : CtorId). con k no_trees) (sym is) ∙ ap (con c) (sym none))
            (Contains-rest (con (record { 0 = 0 }) no_trees) (con (record { 0 = 1 }) no_trees ∷ []) (con (record { 0 = 1 }) no_trees) (Contains-first (con (record { 0 = 1 }) no_trees) []))
      ]

-- `true` and `false` are constructor terms
truth_built : (t : CoreTree) → Contains truth_trees t → IsBuilt t
truth_built t h =
    elim (Contains-cons (con (record { 0 = 0 }) no_trees) (con (record { 0 = 1 }) no_trees ∷ []) t h) [
      | inl same ↦ subst IsBuilt same tt
      | inr rest ↦ elim (Contains-cons (con (record { 0 = 1 }) no_trees) [] t rest) [ inl same ↦ subst IsBuilt same tt | inr none ↦ absurd (Contains-none t none) ]
    ]

settled_construction : (core : Core) → IsConstruction core → is_settled core ≡ true
settled_construction (Con c args) h = refl
settled_construction (Sel s t) h = absurd h
settled_construction (Test c t) h = absurd h
settled_construction (Apply f args) h = absurd h
settled_construction (Eq a b) h = absurd h
settled_construction (Not t) h = absurd h
settled_construction (And args) h = absurd h
settled_construction (Or args) h = absurd h
settled_construction (Iff a b) h = absurd h
settled_construction (Ite c a b) h = absurd h

settled_negation : (tree : TermId → CoreTree) (core : Core) → IsNegation (tree_layer tree core) → is_settled core ≡ true
settled_negation tree (Con c args) h = absurd h
settled_negation tree (Sel s t) h = absurd h
settled_negation tree (Test c t) h = absurd h
settled_negation tree (Apply f args) h = absurd h
settled_negation tree (Eq a b) h = absurd h
settled_negation tree (Not t) h = refl
settled_negation tree (And args) h = absurd h
settled_negation tree (Or args) h = absurd h
settled_negation tree (Iff a b) h = absurd h
settled_negation tree (Ite c a b) h = absurd h

both_true : (a b : Bool) → a && not b ≡ true → (a ≡ true) × (b ≡ false)
both_true true true h = absurd (true≢false (sym h))
both_true true false h = (refl, refl)
both_true false b h = absurd (true≢false (sym h))

and_true : (a b : Bool) → a ≡ true → b ≡ false → a && not b ≡ true
and_true true true h k = absurd (true≢false k)
and_true true false h k = refl
and_true false b h k = absurd (true≢false (sym h))

module _ (th : TreeTheorems) (d : Declarations) (consistent : IsConsistent d) (own : AreOfTheirSorts d) (table : Terms) (sound : IsSound d table) where
  abbrev id : ℕ → TermId
  id n = record { 0 = n }

  -- what is counted is a variable as a tree
  variable_tree : (n : ℕ) (e : Core × SortId) → slice_get table n ≡ Some e → is_variable e ≡ true → IsVariable d (term_at table (id n))
  variable_tree n (core, sort) at counts =
      let parts = both_true (sort.0 == 0) (is_settled core) counts in
      let of_nat : ℕ → SortId = λ k. record { 0 = k } in
      let is_bool : sort ≡ bool_sort = ap of_nat ((Decides-eqb sort.0 0).0 parts.0) in
      let layer : term_at table (id n) ≡ tree_layer (term_at table) core = layer_at th table sound.ordered core (id n) (sort, at) in
      record {
        boolean = subst (HasTreeSort d (term_at table (id n))) is_bool (th.sorted d table (id n) sort sound.ordered sound.sorted (core, at));
        other = λ truth. true≢false (sym (settled_construction core (IsBuilt-layer (term_at table) core (subst IsBuilt layer (truth_built (term_at table (id n)) truth)))) ∙ parts.1);
        positive = λ negated. true≢false (sym (settled_negation (term_at table) core (subst IsNegation layer negated)) ∙ parts.1);
      }

  -- and back
  unsettled : (core : Core) (sort : SortId) → HasTreeSort d (tree_layer (term_at table) core) bool_sort → (Contains truth_trees (tree_layer (term_at table) core) → ⊥) → (IsNegation (tree_layer (term_at table) core) → ⊥) → is_settled core ≡ false
  unsettled (Con c args) sort boolean other positive = absurd (other (boolean_construction d consistent own c _ boolean))
  unsettled (Sel s t) sort boolean other positive = refl
  unsettled (Test c t) sort boolean other positive = refl
  unsettled (Apply f args) sort boolean other positive = refl
  unsettled (Eq a b) sort boolean other positive = refl
  unsettled (Not t) sort boolean other positive = absurd (positive tt)
  unsettled (And args) sort boolean other positive = refl
  unsettled (Or args) sort boolean other positive = refl
  unsettled (Iff a b) sort boolean other positive = refl
  unsettled (Ite c a b) sort boolean other positive = refl

  tree_variable : (n : ℕ) (e : Core × SortId) → slice_get table n ≡ Some e → IsVariable d (term_at table (id n)) → is_variable e ≡ true
  tree_variable n (core, sort) at v =
      let layer : term_at table (id n) ≡ tree_layer (term_at table) core = layer_at th table sound.ordered core (id n) (sort, at) in
      let is_bool : sort ≡ bool_sort = sort_at th d table sound (id n) core sort bool_sort at v.boolean in
      and_true (sort.0 == 0) (is_settled core) ((Decides-eqb sort.0 0).1 (ap (λ (s : SortId). s.0) is_bool))
      (unsettled core sort (subst (λ (u : CoreTree). HasTreeSort d u bool_sort) layer v.boolean)
      (λ truth. v.other (subst (Contains truth_trees) (sym layer) truth)) (λ negated. v.positive (subst IsNegation (sym layer) negated)))

  -- the variables with numbers below this one, each once
  record AreVariablesBelow (n : ℕ) (ts : List CoreTree) : Type 0 where
    number : length ts ≡ variable_count (take n table)
    only : (t : CoreTree) → Contains ts t → (k : ℕ) × (e : Core × SortId) × (k < n) × (slice_get table k ≡ Some e) × (is_variable e ≡ true) × (term_at table (id k) ≡ t)
    all : (k : ℕ) (e : Core × SortId) → k < n → slice_get table k ≡ Some e → is_variable e ≡ true → Contains ts (term_at table (id k))
    different : AreDifferent ts

  abbrev HasVariableList : ℕ → Type 0
  HasVariableList n = (ts : List CoreTree) × AreVariablesBelow n ts

  one_number : (k n : ℕ) (e f : Core × SortId) → slice_get table k ≡ Some e → slice_get table n ≡ Some f → term_at table (id k) ≡ term_at table (id n) → k ≡ n
  one_number k n e f at_k at_n same =
      ap (λ (t : TermId). t.0) (th.one table (id k) (id n) sound.ordered sound.single (slice_get_within table k e at_k) (slice_get_within table n f at_n) same)

  variable_more : (n : ℕ) (e : Core × SortId) → slice_get table n ≡ Some e → HasVariableList n → (b : Bool) → is_variable e ≡ b → HasVariableList (n + 1)
  variable_more n e at (ts, so_far) true counts =
      let new = term_at table (id n) in
      let here : is_variable (get_or table n e) ≡ true = ap is_variable (get_or_from_slice_get table n e e at) ∙ counts in
      let count = count_by_more_yes is_variable table n e (slice_get_within table n e at) here in (
        ts ++ new ∷ [],
        record {
          number = length-append ts (new ∷ []) ∙ ap (λ k. k + 1) so_far.number ∙ sym count;
          only = λ t h. elim (Contains-push_cases ts new t h) [
            | inl old ↦ let w = so_far.only t old in (w.0, w.1, omega (arith, w.2), w.3, w.4, w.5)
            | inr same ↦ (n, e, omega arith, at, counts, same)
          ];
          all = λ k f less at_k counts_k. elim (last_or_before k n less) [
            | inl before ↦ Contains-append_left ts (new ∷ []) (term_at table (id k)) (so_far.all k f before at_k counts_k)
            | inr last ↦ subst (Contains (ts ++ new ∷ [])) (ap (λ (i : ℕ). term_at table (id i)) (sym last)) (Contains-push ts new)
          ];
          different = λ i j t at_i at_j. elim (slice_get-push_cases ts new t i at_i) [
            | inl old_i ↦ elim (slice_get-push_cases ts new t j at_j) [
              | inl old_j ↦ so_far.different i j t old_i old_j
              | inr new_j ↦
                  let w = so_far.only t (Contains-from_slice_get ts i t old_i) in
                  let same : w.0 ≡ n = one_number w.0 n w.1 e w.3 at (w.5 ∙ sym new_j.1) in
                  absurd (omega (arith, same, w.2))
            ]
            | inr new_i ↦ elim (slice_get-push_cases ts new t j at_j) [
              | inl old_j ↦
                  let w = so_far.only t (Contains-from_slice_get ts j t old_j) in
                  let same : w.0 ≡ n = one_number w.0 n w.1 e w.3 at (w.5 ∙ sym new_i.1) in
                  absurd (omega (arith, same, w.2))
              | inr new_j ↦ new_i.0 ∙ sym new_j.0
            ]
          ];
        },
      )
  variable_more n e at (ts, so_far) false fails =
      let here : is_variable (get_or table n e) ≡ false = ap is_variable (get_or_from_slice_get table n e e at) ∙ fails in
      let count = count_by_more_no is_variable table n e (slice_get_within table n e at) here in (
        ts,
        record {
          number = so_far.number ∙ sym count;
          only = λ t h. let w = so_far.only t h in (w.0, w.1, omega (arith, w.2), w.3, w.4, w.5);
          all = λ k f less at_k counts_k. elim (last_or_before k n less) [
            | inl before ↦ so_far.all k f before at_k counts_k
            | inr last ↦ absurd (true≢false (sym counts_k ∙ ap is_variable (same_Some f e (sym at_k ∙ ap (slice_get table) last ∙ at)) ∙ fails))
          ];
          different = so_far.different;
        },
      )

  variable_list : (n : ℕ) → n ≤ length table → HasVariableList n
  variable_list zero h = (
    [],
    record {
      number = refl;
      only = λ t none. absurd (Contains-none t none);
      all = λ k e less at counts. absurd (omega (arith, less));
      different = λ i j t at_i at_j. absurd (none-some t at_i);
    },
  )
  variable_list (suc n) h =
      let e = slice_get-there table n (omega (arith, h)) in
      let next : n + 1 ≡ suc n = omega arith in
      subst HasVariableList next (variable_more n e.0 e.1 (variable_list n (omega (arith, h))) (is_variable e.0) refl)

  -- so many variables has the closure whose terms are those of the table
  pub counted : (roots : List CoreTree) → ((t : CoreTree) → HasTree table t → InClosure d roots t) → ((t : CoreTree) → InClosure d roots t → HasTree table t) → HasVariables d roots (variable_count table)
  counted roots inside stands =
      let all = variable_list (length table) (omega arith) in
      record {
        variables = all.0;
        number = all.1.number ∙ ap variable_count (take-past (length table) table (omega arith));
        different = all.1.different;
        exact = λ t. (
          λ h.
              let w = all.1.only t h in
              (inside t (id w.0, w.2, w.5), subst (IsVariable d) w.5 (variable_tree w.0 w.1 w.3 w.4)),
          λ (member, v).
              let at = stands t member in
              let e = slice_get-there table at.0.0 at.1 in
              subst (Contains all.0) at.2 (all.1.all at.0.0 e.0 at.1 e.1 (tree_variable at.0.0 e.0 e.1 (subst (IsVariable d) (sym at.2) v))),
        );
      }
