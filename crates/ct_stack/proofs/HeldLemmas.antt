-- What a stack holds stays as it grows: with more declarations, with one definition more, and with one assertion more.
use Rattle.std.proofs.Common.{◌≡◌, ◌∙◌, ℕ, zero, suc, ◌<◌, List, [], ◌∷◌, ◌++◌, length, All, Contains, slice_get, Some, refl, sym, ap, subst, inl, inr, arith}
use Rattle.std.specs.List.{flat_map}
use Rattle.std.proofs.lemmas.List.{map-append, append-nil}
use Rattle.std.proofs.lemmas.List.Elements.{All-nil, All-append, All-head, All-tail, All-weaker, All-cons, Contains-append_cases, Contains-append_left}
use Rattle.std.proofs.lemmas.Option.{slice_get_within, none-some}
use Rattle.ct_lemmas.proofs.Contained.{Contains-cons, Contains-first, Contains-none}
use Rattle.ct_lemmas.proofs.Lists.{slice_get-append_left, slice_get-there}
use Rattle.ct_sorts.specs.declared.ids.SortId.{SortId}
use Rattle.ct_sorts.specs.Declarations.{Declarations, Function, start, bool_sort, with_definition}
use Rattle.ct_sorts.specs.Consistent.{IsConsistent}
use Rattle.ct_sorts.specs.Grown.{Extends}
use Rattle.ct_terms.specs.declared.ids.TermId.{TermId}
use Rattle.ct_terms.specs.declared.term.Core.TheVariants.{Con}
use Rattle.ct_terms.specs.Terms.{Terms, IsBoolean, AreSorted, AreOrdered, truth_terms}
use Rattle.ct_terms.specs.CoreTree.{CoreTree, con, no_trees, tree_children, subtrees, term_at}
use Rattle.ct_terms.specs.CoreSorts.{HasTreeSort}
use Rattle.ct_formulas.specs.Formula.{Formula, bind}
use Rattle.ct_formulas.specs.FormulaSorts.{IsSorted, AreSound}
use Rattle.ct_closure.specs.Closed.{truth_trees}
use Rattle.ct_closure.specs.ClosedTable.{HasTree, terms_at}
use Rattle.ct_compile.specs.Effect.{IsPrefix, Stands, AllStand}
use Rattle.ct_stack.specs.Theorems.{Theorems}
use Rattle.ct_stack.specs.Stack.{Context, core, cores}
use Rattle.ct_stack.specs.Held.{IsTableOf, IsHeld}

module _ (theorems : Theorems) (later earlier : Declarations) (bodies more : List Formula) (consistent : IsConsistent later) (before : IsConsistent earlier) (extends : Extends later earlier) (sound : AreSound earlier bodies) where
  abbrev old : Context
  old = record { declarations = earlier; bodies = bodies }

  abbrev new : Context
  new = record { declarations = later; bodies = bodies ++ more }

  -- the core terms of formulas stay
  cores_stay : (asserts : List Formula) → All (λ t. IsSorted earlier [] t bool_sort) asserts → cores new asserts ≡ cores old asserts
  cores_stay [] all = refl
  cores_stay (t ∷ asserts) all =
      let first : core new t ≡ core old t =
      theorems.core_lasting later earlier bodies more [] [] t bool_sort before extends sound tt (All-head (λ t. IsSorted earlier [] t bool_sort) t asserts all)
      in
      let rest = cores_stay asserts (All-tail (λ t. IsSorted earlier [] t bool_sort) t asserts all) in
      ap (λ (c : CoreTree). c ∷ cores new asserts) first ∙ ap (λ (cs : List CoreTree). core old t ∷ cs) rest

  -- what was held is held
  pub held_lasting : (asserts : List Formula) (table : Terms) (numbers : List TermId) → AreSound later (bodies ++ more) → IsHeld (record { context = old; assertions = asserts }) table numbers → IsHeld (record { context = new; assertions = asserts }) table numbers
  held_lasting asserts table numbers sound_now held =
      let stay = cores_stay asserts held.sound.asserts in
      record {
        sound =
            record {
              bodies = sound_now;
              asserts = All-weaker (λ t. IsSorted earlier [] t bool_sort) (λ t. IsSorted later [] t bool_sort) (λ t h. theorems.sorted_lasting later earlier [] t bool_sort consistent before extends h) asserts held.sound.asserts;
            };
        in_table =
            record {
              exact =
                  record {
                    sorted = theorems.table_lasting later earlier table extends held.in_table.exact.sorted;
                    covered = subst (λ (roots : List CoreTree). (t : TermId) → t.0 < length table → (root : CoreTree) × Contains (truth_trees ++ roots) root × Contains (subtrees root) (term_at table t)) (sym stay) held.in_table.exact.covered;
                    complete = subst (λ (roots : List CoreTree). (root s : CoreTree) → Contains (truth_trees ++ roots) root → Contains (subtrees root) s → HasTree table s) (sym stay) held.in_table.exact.complete;
                  };
              stand = held.in_table.stand ∙ sym stay;
              booleans = held.in_table.booleans;
            };
      }

-- with more declarations alone the definitions stay
pub held_declared : Theorems → (later earlier : Declarations) (bodies asserts : List Formula) (table : Terms) (numbers : List TermId) → IsConsistent later → IsConsistent earlier → Extends later earlier → later.definitions ≡ earlier.definitions → IsHeld (record { context = record { declarations = earlier; bodies = bodies }; assertions = asserts }) table numbers → IsHeld (record { context = record { declarations = later; bodies = bodies }; assertions = asserts }) table numbers
held_declared theorems later earlier bodies asserts table numbers consistent before extends same held =
    let sound : AreSound later bodies = theorems.sound_lasting later earlier bodies consistent before extends same held.sound.bodies in
    subst (λ (all : List Formula). IsHeld (record { context = record { declarations = later; bodies = all }; assertions = asserts }) table numbers) (append-nil bodies)
    (held_lasting theorems later earlier bodies [] consistent before extends held.sound.bodies asserts table numbers (subst (AreSound later) (sym (append-nil bodies)) sound) held)

-- with one definition more
pub held_defined : Theorems → (d : Declarations) (f : Function) (bodies asserts : List Formula) (body : Formula) (table : Terms) (numbers : List TermId) → IsConsistent (with_definition d f) → IsConsistent d → Extends (with_definition d f) d → IsSorted d (bind f.args []) body f.result → IsHeld (record { context = record { declarations = d; bodies = bodies }; assertions = asserts }) table numbers → IsHeld (record { context = record { declarations = with_definition d f; bodies = bodies ++ body ∷ [] }; assertions = asserts }) table numbers
held_defined theorems d f bodies asserts body table numbers consistent before extends sorted held =
    held_lasting theorems (with_definition d f) d bodies (body ∷ []) consistent before extends held.sound.bodies asserts table numbers (theorems.sound_with d f bodies body held.sound.bodies sorted) held

-- a scope without definitions is sound
no_definitions : (d : Declarations) → d.definitions ≡ [] → AreSound d []
no_definitions d none =
    record {
      one_each = sym (ap length none);
      sorted = λ k definition body at_definition at. absurd (none-some body at);
      earlier = λ k body at. absurd (none-some body at);
    }

module _ (theorems : Theorems) where
  -- the terms of the first table are `true` and `false`
  truth_at : (table : Terms) → table ≡ truth_terms → AreOrdered table → (k : ℕ) → k < 2 → Contains truth_trees (term_at table (record { 0 = k }))
  truth_at table e ordered zero h =
      subst (Contains truth_trees) (sym (theorems.unfolds table (record { 0 = 0 }) (Con (record { 0 = 0 }) []) bool_sort ordered (ap (λ (ts : Terms). slice_get ts 0) e))) (0, omega arith, refl)
  truth_at table e ordered (suc zero) h =
      subst (Contains truth_trees) (sym (theorems.unfolds table (record { 0 = 1 }) (Con (record { 0 = 1 }) []) bool_sort ordered (ap (λ (ts : Terms). slice_get ts 1) e))) (1, omega arith, refl)
  truth_at table e ordered (suc (suc k)) h = absurd (omega (arith, h))

  -- a truth value stands in the first table
  truth_stands : (table : Terms) → table ≡ truth_terms → AreOrdered table → (t : CoreTree) → Contains truth_trees t → HasTree table t
  truth_stands table e ordered t h =
      elim (Contains-cons (con (record { 0 = 0 }) no_trees) (con (record { 0 = 1 }) no_trees ∷ []) t h) [
        | inl same ↦ subst (HasTree table) same (at 0 (omega arith) (theorems.unfolds table (record { 0 = 0 }) (Con (record { 0 = 0 }) []) bool_sort ordered (ap (λ (ts : Terms). slice_get ts 0) e)))
        | inr rest ↦ elim (Contains-cons (con (record { 0 = 1 }) no_trees) [] t rest) [
          | inl same ↦ subst (HasTree table) same (at 1 (omega arith) (theorems.unfolds table (record { 0 = 1 }) (Con (record { 0 = 1 }) []) bool_sort ordered (ap (λ (ts : Terms). slice_get ts 1) e)))
          | inr none ↦ absurd (Contains-none t none)
        ]
      ]
    where
      long : length table ≡ 2
      long = ap (λ (ts : Terms). length ts) e

      at : (k : ℕ) → k < 2 → term_at table (record { 0 = k }) ≡ con (record { 0 = k }) no_trees → HasTree table (con (record { 0 = k }) no_trees)
      at k h tree = (record { 0 = k }, omega (arith, h, long), tree)

  -- a subterm of a truth value is it
  truth_alone : (root s : CoreTree) → Contains truth_trees root → Contains (subtrees root) s → Contains truth_trees s
  truth_alone root s h sub =
      elim (Contains-cons (con (record { 0 = 0 }) no_trees) (con (record { 0 = 1 }) no_trees ∷ []) root h) [
        | inl same ↦ subst (Contains truth_trees) (by 0 same) h
        | inr rest ↦ elim (Contains-cons (con (record { 0 = 1 }) no_trees) [] root rest) [
          | inl same ↦ subst (Contains truth_trees) (by 1 same) h
          | inr none ↦ absurd (Contains-none root none)
        ]
      ]
    where
      by : (k : ℕ) → con (record { 0 = k }) no_trees ≡ root → root ≡ s
      by k same =
          elim (Contains-cons (con (record { 0 = k }) no_trees) [] s (subst (λ (r : CoreTree). Contains (subtrees r) s) (sym same) sub)) [
            | inl is ↦ sym same ∙ is
            | inr none ↦ absurd (Contains-none s none)
          ]

  -- nothing but the truth values is made
  pub nothing_made : (d : Declarations) (table : Terms) → table ≡ truth_terms → AreOrdered table → AreSorted d table → IsTableOf d [] table
  nothing_made d table e ordered sorted =
      record {
        sorted = sorted;
        covered = λ t within.
            let truth = truth_at table e ordered t.0 (omega (arith, within, ap (λ (ts : Terms). length ts) e)) in
            (term_at table t, Contains-append_left truth_trees [] (term_at table t) truth, itself (term_at table t));
        complete = λ root s h sub. truth_stands table e ordered s (truth_alone root s (first h) sub);
      }
    where
      itself : (t : CoreTree) → Contains (subtrees t) t
      itself t = subst (λ (ts : List CoreTree). Contains ts t) (sym (theorems.subterms t)) (Contains-first t (flat_map subtrees (tree_children t)))

      first : {root : CoreTree} → Contains (truth_trees ++ []) root → Contains truth_trees root
      first {root} h = elim (Contains-append_cases truth_trees [] root h) [ inl truth ↦ truth | inr none ↦ absurd (Contains-none root none) ]

  -- nothing is asserted
  pub nothing_held : (d : Declarations) (bodies : List Formula) (table : Terms) → AreSound d bodies → table ≡ truth_terms → AreOrdered table → AreSorted d table → IsHeld (record { context = record { declarations = d; bodies = bodies }; assertions = [] }) table []
  nothing_held d bodies table sound e ordered sorted =
      record {
        sound = record { bodies = sound; asserts = All-nil (λ t. IsSorted d [] t bool_sort) };
        in_table = record { exact = nothing_made d table e ordered sorted; stand = refl; booleans = All-nil (IsBoolean table) };
      }

  -- at the start nothing is declared either
  pub first_held : (d : Declarations) (bodies : List Formula) (table : Terms) → d ≡ start → bodies ≡ [] → table ≡ truth_terms → AreOrdered table → AreSorted d table → IsHeld (record { context = record { declarations = d; bodies = bodies }; assertions = [] }) table []
  first_held d bodies table declared none e ordered sorted =
      nothing_held d bodies table (subst (AreSound d) (sym none) (no_definitions d (ap (λ (ds : Declarations). ds.definitions) declared))) e ordered sorted

  -- a term is Boolean where its tree is
  boolean_term : (d : Declarations) (table : Terms) (t : TermId) → AreOrdered table → AreSorted d table → t.0 < length table → HasTreeSort d (term_at table t) bool_sort → IsBoolean table t
  boolean_term d table t ordered sorted within boolean =
      let found = slice_get-there table t.0 within in
      let same : found.0.1 ≡ bool_sort = theorems.one_sort d (term_at table t) found.0.1 bool_sort (theorems.tree_sorted d table t found.0.1 ordered sorted (found.0.0, found.1)) boolean in
      (found.0.0, subst (λ (s : SortId). slice_get table t.0 ≡ Some (found.0.0, s)) same found.1)

  -- with more assertions
  module _ (c : Context) (asserts more : List Formula) (old new : Terms) (numbers found : List TermId) (consistent : IsConsistent c.declarations) (held : IsHeld (record { context = c; assertions = asserts }) old numbers) (sorted : All (λ t. IsSorted c.declarations [] t bool_sort) more) (exact : IsTableOf c.declarations (cores c asserts ++ cores c more) new) (stand : AllStand new found (cores c more)) (grown : IsPrefix old new) (ordered : AreOrdered new) where
    all_cores : cores c (asserts ++ more) ≡ cores c asserts ++ cores c more
    all_cores = map-append (core c) asserts more

    stays : (u : TermId) → u.0 < length old → term_at new u ≡ term_at old u
    stays u within = ap (λ (ts : Terms). term_at ts u) grown.1 ∙ theorems.longer old grown.0 u (subst AreOrdered grown.1 ordered) within

    boolean_stays : (u : TermId) → IsBoolean old u → IsBoolean new u
    boolean_stays u h =
        (h.0, subst (λ (table : Terms). slice_get table u.0 ≡ Some (h.0, bool_sort)) (sym grown.1) (slice_get-append_left old grown.0 u.0 (h.0, bool_sort) h.1))

    all_stay : (ns : List TermId) → All (IsBoolean old) ns → terms_at new ns ≡ terms_at old ns
    all_stay [] all = refl
    all_stay (n ∷ ns) all =
        let first = All-head (IsBoolean old) n ns all in
        let here : term_at new n ≡ term_at old n = stays n (slice_get_within old n.0 (first.0, bool_sort) first.1) in
        ap (λ (tree : CoreTree). tree ∷ terms_at new ns) here ∙ ap (λ (trees : List CoreTree). term_at old n ∷ trees) (all_stay ns (All-tail (IsBoolean old) n ns all))

    boolean : (n : TermId) (t : Formula) → Stands new n (core c t) → IsSorted c.declarations [] t bool_sort → IsBoolean new n
    boolean n t stands is =
        boolean_term c.declarations new n ordered exact.sorted stands.0
        (subst (λ (tree : CoreTree). HasTreeSort c.declarations tree bool_sort) (sym stands.1) (theorems.core_sorted c.declarations c.bodies [] [] t bool_sort consistent held.sound.bodies tt is))

    all_boolean : (ns : List TermId) (ts : List Formula) → AllStand new ns (cores c ts) → All (λ t. IsSorted c.declarations [] t bool_sort) ts → All (IsBoolean new) ns
    all_boolean [] ts all are = All-nil (IsBoolean new)
    all_boolean (n ∷ ns) [] all are = absurd all
    all_boolean (n ∷ ns) (t ∷ ts) all are =
        All-cons (IsBoolean new) n ns (boolean n t all.0 (All-head (λ t. IsSorted c.declarations [] t bool_sort) t ts are)) (all_boolean ns ts all.1 (All-tail (λ t. IsSorted c.declarations [] t bool_sort) t ts are))

    all_there : (ns : List TermId) (trees : List CoreTree) → AllStand new ns trees → terms_at new ns ≡ trees
    all_there [] [] all = refl
    all_there [] (t ∷ trees) all = absurd all
    all_there (n ∷ ns) [] all = absurd all
    all_there (n ∷ ns) (t ∷ trees) all =
        ap (λ (tree : CoreTree). tree ∷ terms_at new ns) all.0.1 ∙ ap (λ (ts : List CoreTree). t ∷ ts) (all_there ns trees all.1)

    pub held_with : IsHeld (record { context = c; assertions = asserts ++ more }) new (numbers ++ found)
    held_with =
        record {
          sound =
              record {
                bodies = held.sound.bodies;
                asserts = All-append (λ t. IsSorted c.declarations [] t bool_sort) asserts more held.sound.asserts sorted;
              };
          in_table =
              record {
                exact = subst (λ (roots : List CoreTree). IsTableOf c.declarations roots new) (sym all_cores) exact;
                stand =
                    map-append (term_at new) numbers found
                    ∙ ap (λ (trees : List CoreTree). trees ++ terms_at new found) (all_stay numbers held.in_table.booleans ∙ held.in_table.stand)
                    ∙ ap (λ (trees : List CoreTree). cores c asserts ++ trees) (all_there found (cores c more) stand)
                    ∙ sym all_cores;
                booleans = All-append (IsBoolean new) numbers found (All-weaker (IsBoolean old) (IsBoolean new) boolean_stays numbers held.in_table.booleans) (all_boolean found more stand sorted);
              };
        }

  -- with one assertion more
  pub held_asserted : (c : Context) (asserts : List Formula) (formula : Formula) (old new : Terms) (numbers : List TermId) (t : TermId) → IsConsistent c.declarations → IsHeld (record { context = c; assertions = asserts }) old numbers → IsSorted c.declarations [] formula bool_sort → IsTableOf c.declarations (cores c asserts ++ core c formula ∷ []) new → (t.0 < length new) × (term_at new t ≡ core c formula) → IsPrefix old new → AreOrdered new → IsHeld (record { context = c; assertions = asserts ++ formula ∷ [] }) new (numbers ++ t ∷ [])
  held_asserted c asserts formula old new numbers t consistent held sorted exact stands grown ordered =
      held_with c asserts (formula ∷ []) old new numbers (t ∷ []) consistent held (All-cons (λ t. IsSorted c.declarations [] t bool_sort) formula [] sorted (All-nil (λ t. IsSorted c.declarations [] t bool_sort))) exact (stands, tt) grown ordered
