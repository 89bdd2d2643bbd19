-- Copies of marked terms in a table that begins with `true` and `false`: the first two, one more, and what all of them are.
use Rattle.std.proofs.Common.{◌≡◌, ℕ, zero, suc, ◌+◌, ◌<◌, Bool, true, List, [], ◌∷◌, ◌++◌, length, map, drop, get_or, Some, slice_get, Contains, refl, sym, ap, subst, ◌∙◌, inl, inr, arith, length-append, length-take}
use Rattle.std.specs.List.{AllZip, AllByRecursion}
use Rattle.std.proofs.lemmas.List.{take-append-drop, append-nil}
use Rattle.std.proofs.lemmas.List.Elements.{Contains-append_cases, Contains-append_left, Contains-append_right}
use Rattle.std.proofs.lemmas.Option.{same_Some, slice_get_within, slice_get-get_or}
use Rattle.ct_sorts.specs.declared.ids.SortId.{SortId}
use Rattle.ct_sorts.specs.Declarations.{Declarations}
use Rattle.ct_terms.specs.declared.ids.TermId.{TermId}
use Rattle.ct_terms.specs.declared.term.Core.{Core}
use Rattle.ct_terms.specs.Children.{core_children}
use Rattle.ct_terms.specs.Terms.{Terms, IsOfSort, HasSort, AreSorted, Has, Makes, AreOrdered, BeginsWithTruths, truth_terms}
use Rattle.ct_terms.specs.CoreTree.{CoreTree, subtrees, tree_below, term_at}
use Rattle.ct_closure.specs.Closed.{truth_trees}
use Rattle.ct_closure.specs.ClosedTable.{terms_at, HasTree}
use Rattle.ct_restriction.specs.Renamed.{renamed, number_in}
use Rattle.ct_restriction.specs.Restricted.{IsSubtermOfOne, StandsFor, IsRestriction, IsMarked, MarksUnder, AreMarked, IsCopy, AreCopied}
use Rattle.ct_lemmas.proofs.Contained.{Contains-cons}
use Rattle.ct_lemmas.proofs.Lists.{slice_get-prefix, slice_get-push_cases, slice_get-last}
use Rattle.ct_lemmas.proofs.Numbers.{last_or_before}
use Rattle.ct_terms.proofs.SortLemmas.{IsOfSort-append}
use Rattle.ct_terms.proofs.CoreTreeLemmas.{term_at-unfolds, term_at-longer}
use Rattle.ct_terms.proofs.SubtreeLemmas.{subtrees-itself, subterm_stands}
use Rattle.ct_restriction.proofs.RenamedLemmas.{layer_renamed, HasSort-renamed}

-- the number as that of a term
abbrev id : ℕ → TermId
id k = record { 0 = k }

-- `true` and `false` stand for their trees
truth_tree : (k : ℕ) → k < 2 → Contains truth_trees (term_at truth_terms (id k))
unfolding tree_below
truth_tree zero within = (0, omega arith, refl)
truth_tree (suc zero) within = (1, omega arith, refl)
truth_tree (suc (suc k)) within = absurd (omega (arith, within))

-- and so they do in each table
truth_stays : (table : Terms) → BeginsWithTruths table → AreOrdered table → (t : TermId) → t.0 < 2 → term_at table t ≡ term_at truth_terms t
truth_stays table begins ordered t within =
    let split : table ≡ truth_terms ++ drop 2 table = sym (take-append-drop 2 table) ∙ ap (λ (ts : Terms). ts ++ drop 2 table) begins in
    ap (λ (ts : Terms). term_at ts t) split ∙ term_at-longer truth_terms (drop 2 table) t (subst AreOrdered split ordered) within

-- so those of one table stand for those of another
pub truths_stand : (from to : Terms) → BeginsWithTruths from → AreOrdered from → BeginsWithTruths to → AreOrdered to → (k : ℕ) → k < 2 → StandsFor from to (id k) (id k)
truths_stand from to begins_from ordered_from begins ordered k low =
    let split : (table : Terms) → BeginsWithTruths table → table ≡ truth_terms ++ drop 2 table = λ table begin. sym (take-append-drop 2 table) ∙ ap (λ (ts : Terms). ts ++ drop 2 table) begin in
    let at : (table : Terms) → BeginsWithTruths table → slice_get table k ≡ slice_get truth_terms k = λ table begin. ap (λ (ts : Terms). slice_get ts k) (split table begin) ∙ slice_get-prefix truth_terms (drop 2 table) k low in
    record {
      within = omega (arith, low, ap length begins, length-take 2 to);
      tree = truth_stays to begins ordered (id k) low ∙ sym (truth_stays from begins_from ordered_from (id k) low);
      sort = λ s h. (h.0, at to begins ∙ sym (at from begins_from) ∙ h.1);
    }

-- a number that is its own index
own_number : (t u : TermId) → slice_get (id 0 ∷ id 1 ∷ []) t.0 ≡ Some u → (t ≡ u) × (t.0 < 2)
own_number t u at = by t.0 at
  where
    by : (k : ℕ) → slice_get (id 0 ∷ id 1 ∷ []) k ≡ Some u → (id k ≡ u) × (k < 2)
    by zero e = (same_Some (id 0) u e, omega arith)
    by (suc zero) e = (same_Some (id 1) u e, omega arith)
    by (suc (suc k)) e = absurd (omega (arith, slice_get_within (id 0 ∷ id 1 ∷ []) (suc (suc k)) u e))

-- the first two terms
pub copied_truths : (table : Terms) (marks : List Bool) → BeginsWithTruths table → AreOrdered table → AreCopied table marks truth_terms (id 0 ∷ id 1 ∷ [])
copied_truths table marks begins ordered =
    let split : table ≡ truth_terms ++ drop 2 table = sym (take-append-drop 2 table) ∙ ap (λ (ts : Terms). ts ++ drop 2 table) begins in
    record {
      each = λ t u is_marked at.
          let own = own_number t u at in
          subst (StandsFor table truth_terms t) own.0
          (record {
            within = own.1;
            tree = sym (truth_stays table begins ordered t own.1);
            sort = λ s h. (h.0, sym (slice_get-prefix truth_terms (drop 2 table) t.0 own.1) ∙ ap (λ (ts : Terms). slice_get ts t.0) (sym split) ∙ h.1);
          });
      only = λ u within. inl (truth_tree u.0 within);
      few = omega arith;
    }

-- a number more, of a term that is not marked
pub copied_unmarked : (table : Terms) (marks : List Bool) (restricted : Terms) (numbers : List TermId) (n : TermId) → AreCopied table marks restricted numbers → (IsMarked marks (id (length numbers)) → ⊥) → AreCopied table marks restricted (numbers ++ n ∷ [])
copied_unmarked table marks restricted numbers n copied unmarked = record {
  each = λ t u is_marked at.
      elim (slice_get-push_cases numbers n u t.0 at) [
        | inl before ↦ copied.each t u is_marked before
        | inr last ↦ absurd (unmarked (subst (λ (k : ℕ). slice_get marks k ≡ Some true) last.0 is_marked))
      ];
  only = copied.only;
  few = let few = copied.few in omega (arith, length-append numbers (n ∷ []));
}

-- a mark that is read
pub marked_by : (marks : List Bool) (k : ℕ) (d : Bool) → k < length marks → get_or marks k d ≡ true → IsMarked marks (id k)
marked_by marks k d within is = slice_get-get_or marks k d within ∙ ap Some is

-- what holds of each element twice
both : {X : Type 0} (P Q : X → Type 0) (xs : List X) → AllByRecursion P xs → AllByRecursion Q xs → AllByRecursion (λ x. P x × Q x) xs
both P Q [] p q = tt
both P Q (x ∷ xs) p q = ((p.0, q.0), both P Q xs p.1 q.1)

-- a marked term more
module _ (d : Declarations) (table : Terms) (marks : List Bool) (restricted : Terms) (numbers : List TermId) (core : Core) (sort : SortId)
    (ordered : AreOrdered table) (sorted : AreSorted d table) (under : MarksUnder table marks 0) (copied : AreCopied table marks restricted numbers)
    (at : slice_get table (length numbers) ≡ Some (core, sort)) (is_marked : IsMarked marks (id (length numbers))) where
  abbrev IsBefore : TermId → Type 0
  IsBefore t = IsMarked marks t × (t.0 < length numbers)

  children : AllByRecursion IsBefore (core_children core)
  children =
      both (IsMarked marks) (λ t. t.0 < length numbers) (core_children core)
      (under (id (length numbers)) core (omega arith) (sort, at) is_marked) (ordered (length numbers) core (sort, at))

  stands : (t : TermId) → IsBefore t → StandsFor table restricted t (number_in numbers t)
  stands t h = copied.each t (number_in numbers t) h.0 (slice_get-get_or numbers t.0 t h.1)

  -- over the new numbers it has its sort
  pub copy_sorted : HasSort d restricted (renamed (number_in numbers) core) sort
  copy_sorted =
      HasSort-renamed IsBefore (number_in numbers) d table restricted (λ t s before h. (stands t before).sort s h) core sort children
      (sorted (length numbers) core sort at)

  module _ (new : Terms) (n : TermId) (made : Makes d restricted new (renamed (number_in numbers) core) n.0) (ordered_new : AreOrdered new)
      (of_sort : (s : SortId) → HasSort d restricted (renamed (number_in numbers) core) s → IsOfSort new n s) where
    grown : (more : Terms) × (new ≡ restricted ++ more)
    grown = elim made [
      | inl same ↦ ([], same.0 ∙ sym (append-nil restricted))
      | inr more ↦ ((renamed (number_in numbers) core, more.2.0) ∷ [], more.2.2)
    ]

    stays : (u : TermId) → u.0 < length restricted → term_at new u ≡ term_at restricted u
    stays u within =
        ap (λ (ts : Terms). term_at ts u) grown.1 ∙ term_at-longer restricted grown.0 u (subst AreOrdered grown.1 ordered_new) within

    longer : (t u : TermId) → StandsFor table restricted t u → StandsFor table new t u
    longer t u h = record {
      within = let within = h.within in omega (arith, ap length grown.1, length-append restricted grown.0);
      tree = stays u h.within ∙ h.tree;
      sort = λ s k. subst (λ (ts : Terms). IsOfSort ts u s) (sym grown.1) (IsOfSort-append restricted grown.0 u s (h.sort s k));
    }

    has : Has new (renamed (number_in numbers) core) n.0
    has =
        let h = of_sort sort copy_sorted in
        elim made [
          | inl same ↦ subst (λ (ts : Terms). Has ts (renamed (number_in numbers) core) n.0) (sym same.0) same.1
          | inr more ↦
              subst (λ (ts : Terms). Has ts (renamed (number_in numbers) core) n.0) (sym more.2.2)
              (more.2.0, ap (slice_get (restricted ++ (renamed (number_in numbers) core, more.2.0) ∷ [])) more.1 ∙ slice_get-last restricted (renamed (number_in numbers) core, more.2.0))
        ]

    tree : term_at new n ≡ term_at table (id (length numbers))
    tree =
        term_at-unfolds new n (renamed (number_in numbers) core) has.0 ordered_new has.1
        ∙ layer_renamed IsBefore (number_in numbers) (term_at new) (term_at table)
        (λ t before. let s = stands t before in stays (number_in numbers t) s.within ∙ s.tree) core children
        ∙ sym (term_at-unfolds table (id (length numbers)) core sort ordered at)

    here : StandsFor table new (id (length numbers)) n
    here = record {
      within = slice_get_within new n.0 (renamed (number_in numbers) core, has.0) has.1;
      tree = tree;
      sort = λ s h. subst (IsOfSort new n) (ap (λ (e : Core × SortId). e.1) (same_Some (core, sort) (h.0, s) (sym at ∙ h.1))) (of_sort sort copy_sorted);
    }

    pub copied_marked : AreCopied table marks new (numbers ++ n ∷ [])
    copied_marked = record {
      each = λ t u marked at_u.
          elim (slice_get-push_cases numbers n u t.0 at_u) [
            | inl before ↦ longer t u (copied.each t u marked before)
            | inr last ↦ subst (StandsFor table new t) last.1 (subst (λ (k : ℕ). StandsFor table new (id k) n) (sym last.0) here)
          ];
      only = λ u within. elim made [
        | inl same ↦
            let before : u.0 < length restricted = omega (arith, within, ap length same.0) in
            subst (IsCopy table marks) (sym (stays u before)) (copied.only u before)
        | inr more ↦
            let up_to : u.0 < length restricted + 1 =
            omega (arith, within, ap length more.2.2, length-append restricted ((renamed (number_in numbers) core, more.2.0) ∷ [])) in
            elim (last_or_before u.0 (length restricted) up_to) [
              | inl before ↦ subst (IsCopy table marks) (sym (stays u before)) (copied.only u before)
              | inr last ↦ inr (id (length numbers), is_marked, subst (λ (v : TermId). term_at new v ≡ term_at table (id (length numbers))) (ap id (more.1 ∙ sym last)) tree)
            ]
      ];
      few = let few = copied.few in elim made [
        | inl same ↦ omega (arith, few, ap length same.0, length-append numbers (n ∷ []))
        | inr more ↦
            omega (arith, few, ap length more.2.2, length-append restricted ((renamed (number_in numbers) core, more.2.0) ∷ []), length-append numbers (n ∷ []))
      ];
    }

-- the roots in the table of all marked terms
module _ (table : Terms) (marks : List Bool) (restricted : Terms) (numbers : List TermId) (long : length numbers ≡ length table)
    (copied : AreCopied table marks restricted numbers) where
  stand : (t : TermId) → t.0 < length table → IsMarked marks t → StandsFor table restricted t (number_in numbers t)
  stand t within is_marked = copied.each t (number_in numbers t) is_marked (slice_get-get_or numbers t.0 t (omega (arith, long)))

  pub roots_stand : (ts : List TermId) → AllByRecursion (λ t. t.0 < length table) ts → AllByRecursion (IsMarked marks) ts → AllZip (StandsFor table restricted) ts (map (number_in numbers) ts)
  roots_stand [] within all = tt
  roots_stand (t ∷ ts) within all = (stand t within.0 all.0, roots_stand ts within.1 all.1)

-- terms that stand for others
module _ (table restricted : Terms) where
  pub same_trees : (ts us : List TermId) → AllZip (StandsFor table restricted) ts us → terms_at restricted us ≡ terms_at table ts
  same_trees [] [] all = refl
  same_trees [] (u ∷ us) all = absurd all
  same_trees (t ∷ ts) [] all = absurd all
  same_trees (t ∷ ts) (u ∷ us) all =
      ap (λ (tree : CoreTree). tree ∷ terms_at restricted us) all.0.tree ∙ ap (λ (trees : List CoreTree). term_at table t ∷ trees) (same_trees ts us all.1)

  pub same_sort : (s : SortId) (ts us : List TermId) → AllZip (StandsFor table restricted) ts us → AllByRecursion (λ t. IsOfSort table t s) ts → AllByRecursion (λ t. IsOfSort restricted t s) us
  same_sort s [] [] all h = tt
  same_sort s [] (u ∷ us) all h = absurd all
  same_sort s (t ∷ ts) [] all h = absurd all
  same_sort s (t ∷ ts) (u ∷ us) all h = (all.0.sort s h.0, same_sort s ts us all.1 h.1)

  -- each of their trees stands in the new table
  root_stands : (ts us : List TermId) → AllZip (StandsFor table restricted) ts us → (root : CoreTree) → Contains (terms_at table ts) root → HasTree restricted root
  root_stands [] us all root h = absurd (omega (arith, h.1))
  root_stands (t ∷ ts) [] all root h = absurd all
  root_stands (t ∷ ts) (u ∷ us) all root h =
      elim (Contains-cons (term_at table t) (terms_at table ts) root h) [
        | inl same ↦ (u, all.0.within, all.0.tree ∙ same)
        | inr later ↦ root_stands ts us all.1 root later
      ]

-- `true` and `false` stand in each table
truths_there : (table : Terms) → BeginsWithTruths table → AreOrdered table → (t : CoreTree) → Contains truth_trees t → HasTree table t
unfolding tree_below
truths_there table begins ordered t h =
    elim (Contains-cons (term_at truth_terms (id 0)) (term_at truth_terms (id 1) ∷ []) t h) [
      | inl first ↦ (id 0, omega (arith, ap length begins, length-take 2 table), truth_stays table begins ordered (id 0) (omega arith) ∙ first)
      | inr rest ↦ elim (Contains-cons (term_at truth_terms (id 1)) [] t rest) [
        | inl second ↦ (id 1, omega (arith, ap length begins, length-take 2 table), truth_stays table begins ordered (id 1) (omega arith) ∙ second)
        | inr none ↦ absurd (omega (arith, none.1))
      ]
    ]

-- what `true`, `false` and terms with these trees are built of stands in the new table
subterm_there : (table restricted : Terms) → BeginsWithTruths restricted → AreOrdered restricted → (ts us : List TermId) → AllZip (StandsFor table restricted) ts us → (t : CoreTree) →
    IsSubtermOfOne (truth_trees ++ terms_at table ts) t → HasTree restricted t
subterm_there table restricted begins ordered ts us all t h =
    let root : HasTree restricted h.0 =
    elim (Contains-append_cases truth_trees (terms_at table ts) h.0 h.1) [
      | inl truth ↦ truths_there restricted begins ordered h.0 truth
      | inr given ↦ root_stands table restricted ts us all h.0 given
    ] in
    let found = subterm_stands restricted ordered root.0 t root.1 (subst (λ (r : CoreTree). Contains (subtrees r) t) (sym root.2) h.2) in
    (found.0, (let within = root.1 in omega (arith, found.1)), found.2)

-- the table of all marked terms is what is wanted
pub restriction : (table : Terms) (roots : List TermId) (marks : List Bool) (restricted : Terms) (numbers found : List TermId) → BeginsWithTruths restricted → AreOrdered restricted → AreMarked table roots marks →
    length numbers ≡ length table → AreCopied table marks restricted numbers → AllByRecursion (λ t. t.0 < length table) roots → found ≡ map (number_in numbers) roots → IsRestriction table roots restricted found
restriction table roots marks restricted numbers found begins ordered marked long copied within is =
    let stand = subst (AllZip (StandsFor table restricted) roots) (sym is) (roots_stand table marks restricted numbers long copied roots within marked.rooted) in
    record {
      stand = stand;
      all = subterm_there table restricted begins ordered roots found stand;
      only = λ u there.
          elim (copied.only u there) [
            | inl truth ↦ (term_at restricted u, Contains-append_left truth_trees (terms_at restricted found) (term_at restricted u) truth, subtrees-itself (term_at restricted u))
            | inr copy ↦
                let above = marked.only copy.0 copy.1 in (
                  above.0,
                  Contains-append_right truth_trees (terms_at restricted found) above.0 (subst (λ (ts : List CoreTree). Contains ts above.0) (sym (same_trees table restricted roots found stand)) above.1),
                  subst (Contains (subtrees above.0)) (sym copy.2) above.2,
                )
          ];
    }
