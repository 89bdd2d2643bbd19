-- A term over other numbers: it has the tree and the sort that it had, where the terms right under it have theirs.
use Rattle.std.proofs.Common.{◌≡◌, ℕ, ◌<◌, List, [], ◌∷◌, map, refl, ap, ◌∙◌, arith}
use Rattle.std.specs.List.{AllZip, AllByRecursion}
use Rattle.std.proofs.lemmas.List.{length-map}
use Rattle.std.proofs.lemmas.List.Elements.{All-from_recursion, All-map}
use Rattle.ct_sorts.specs.declared.ids.SortId.{SortId}
use Rattle.ct_sorts.specs.declared.ids.SelId.{SelId}
use Rattle.ct_sorts.specs.Declarations.{Declarations, bool_sort}
use Rattle.ct_terms.specs.declared.ids.TermId.{TermId}
use Rattle.ct_terms.specs.declared.term.Core.{Core}
use Rattle.ct_terms.specs.declared.term.Core.TheVariants.{Con, Sel, Test, Apply, Eq, Not, And, Or, Iff, Ite}
use Rattle.ct_terms.specs.Children.{core_children, HasArgumentsBelow}
use Rattle.ct_terms.specs.Terms.{Terms, IsOfSort, IsBoolean, IsOfField, Joins, HasSort}
use Rattle.ct_terms.specs.CoreTree.{CoreTree, con, sel, test, apply, equation, negation, conjunction, disjunction, equivalence, choice, trees_of, tree_layer}
use Rattle.ct_restriction.specs.Renamed.{renamed}

module _ (P : TermId → Type 0) (f : TermId → TermId) where
  -- the trees at the new numbers are those at the old ones
  module _ (g h : TermId → CoreTree) (same : (t : TermId) → P t → g (f t) ≡ h t) where
    same_lists : (args : List TermId) → AllByRecursion P args → map g (map f args) ≡ map h args
    same_lists [] all = refl
    same_lists (t ∷ args) all = ap (λ (u : CoreTree). u ∷ map g (map f args)) (same t all.0) ∙ ap (λ (us : List CoreTree). h t ∷ us) (same_lists args all.1)

    pub layer_renamed : (core : Core) → AllByRecursion P (core_children core) → tree_layer g (renamed f core) ≡ tree_layer h core
    layer_renamed (Con c args) all = ap (λ (us : List CoreTree). con c (trees_of us)) (same_lists args all)
    layer_renamed (Sel s t) all = ap (sel s) (same t all.0)
    layer_renamed (Test c t) all = ap (test c) (same t all.0)
    layer_renamed (Apply k args) all = ap (λ (us : List CoreTree). apply k (trees_of us)) (same_lists args all)
    layer_renamed (Eq a b) all = ap (λ (u : CoreTree). equation u (g (f b))) (same a all.0) ∙ ap (equation (h a)) (same b all.1.0)
    layer_renamed (Not t) all = ap negation (same t all.0)
    layer_renamed (And args) all = ap (λ (us : List CoreTree). conjunction (trees_of us)) (same_lists args all)
    layer_renamed (Or args) all = ap (λ (us : List CoreTree). disjunction (trees_of us)) (same_lists args all)
    layer_renamed (Iff a b) all = ap (λ (u : CoreTree). equivalence u (g (f b))) (same a all.0) ∙ ap (equivalence (h a)) (same b all.1.0)
    layer_renamed (Ite c a b) all =
        ap (λ (u : CoreTree). choice u (g (f a)) (g (f b))) (same c all.0) ∙ ap (λ (u : CoreTree). choice (h c) u (g (f b))) (same a all.1.0) ∙ ap (choice (h c) (h a)) (same b all.1.1.0)

  -- the terms right under it have their new numbers
  pub renamed_below : (bound : ℕ) → ((t : TermId) → P t → (f t).0 < bound) → (core : Core) → AllByRecursion P (core_children core) → HasArgumentsBelow bound (renamed f core)
  renamed_below bound low = by_kind
    where
      args_below : (args : List TermId) → AllByRecursion P args → AllByRecursion (λ t. t.0 < bound) (map f args)
      args_below [] all = tt
      args_below (t ∷ args) all = (low t all.0, args_below args all.1)

      by_kind : (core : Core) → AllByRecursion P (core_children core) → HasArgumentsBelow bound (renamed f core)
      by_kind (Con c args) all = args_below args all
      by_kind (Sel s t) all = (low t all.0, tt)
      by_kind (Test c t) all = (low t all.0, tt)
      by_kind (Apply k args) all = args_below args all
      by_kind (Eq a b) all = (low a all.0, (low b all.1.0, tt))
      by_kind (Not t) all = (low t all.0, tt)
      by_kind (And args) all = args_below args all
      by_kind (Or args) all = args_below args all
      by_kind (Iff a b) all = (low a all.0, (low b all.1.0, tt))
      by_kind (Ite c a b) all = (low c all.0, (low a all.1.0, (low b all.1.1.0, tt)))

  -- terms that go with something go with it at their new numbers, where each of them does
  AllZip-renamed : {X : Type 0} (R S : TermId → X → Type 0) → ((t : TermId) (x : X) → P t → R t x → S (f t) x) → (ts : List TermId) (xs : List X) → AllByRecursion P ts → AllZip R ts xs → AllZip S (map f ts) xs
  AllZip-renamed R S each [] [] all h = h
  AllZip-renamed R S each [] (x ∷ xs) all h = absurd h
  AllZip-renamed R S each (t ∷ ts) [] all h = absurd h
  AllZip-renamed R S each (t ∷ ts) (x ∷ xs) all h = (each t x all.0 h.0, AllZip-renamed R S each ts xs all.1 h.1)

  -- the terms have the sorts in the new table that they had in the old one
  module _ (d : Declarations) (old new : Terms) (stay : (t : TermId) (s : SortId) → P t → IsOfSort old t s → IsOfSort new (f t) s) where
    IsOfField-renamed : (t : TermId) (s : SelId) → P t → IsOfField d old t s → IsOfField d new (f t) s
    IsOfField-renamed t s p h = record { selector = h.selector; declared = h.declared; sorted = stay t h.selector.sort p h.sorted }

    Joins-renamed : (args : List TermId) (sort : SortId) → AllByRecursion P args → Joins old args sort → Joins new (map f args) sort
    Joins-renamed args sort all h = record {
      some = let some = h.some in omega (arith, length-map args f);
      booleans = All-map (IsBoolean new) f args (λ k e l. stay _ bool_sort (All-from_recursion P args all k e l) (h.booleans k e l));
      result = h.result;
    }

    pub HasSort-renamed : (core : Core) (sort : SortId) → AllByRecursion P (core_children core) → HasSort d old core sort → HasSort d new (renamed f core) sort
    HasSort-renamed (Con c args) sort all h = record {
      ctor = h.ctor;
      declared = h.declared;
      fields = AllZip-renamed (IsOfField d old) (IsOfField d new) IsOfField-renamed args h.ctor.sels all h.fields;
      result = h.result;
    }
    HasSort-renamed (Sel s t) sort all h = record {
      selector = h.selector;
      ctor = h.ctor;
      declared = h.declared;
      constructor = h.constructor;
      sorted = stay t h.ctor.sort all.0 h.sorted;
      result = h.result;
    }
    HasSort-renamed (Test c t) sort all h = record { ctor = h.ctor; declared = h.declared; sorted = stay t h.ctor.sort all.0 h.sorted; result = h.result }
    HasSort-renamed (Apply k args) sort all h = record {
      function = h.function;
      declared = h.declared;
      sorted = AllZip-renamed (IsOfSort old) (IsOfSort new) stay args h.function.args all h.sorted;
      result = h.result;
    }
    HasSort-renamed (Eq a b) sort all h = record {
      side = h.side;
      left = stay a h.side all.0 h.left;
      right = stay b h.side all.1.0 h.right;
      other = h.other;
      result = h.result;
    }
    HasSort-renamed (Not t) sort all h = (stay t bool_sort all.0 h.0, h.1)
    HasSort-renamed (And args) sort all h = Joins-renamed args sort all h
    HasSort-renamed (Or args) sort all h = Joins-renamed args sort all h
    HasSort-renamed (Iff a b) sort all h = (stay a bool_sort all.0 h.0, stay b bool_sort all.1.0 h.1, h.2)
    HasSort-renamed (Ite c a b) sort all h = (stay c bool_sort all.0 h.0, stay a sort all.1.0 h.1, stay b sort all.1.1.0 h.2)
