-- Of the values that are tried for an open class one is not refused.
use Rattle.std.proofs.Common.{◌≡◌, ℕ, suc, ◌+◌, ◌*◌, ◌<◌, ◌≤◌, ◌⊎◌, List, [], ◌∷◌, ◌++◌, length, get_or, slice_get, Some, sym, ◌∙◌, ap, subst, inl, inr, arith}
use Rattle.std.proofs.lemmas.Bool.{cases_eq, cases_lt, cases_order}
use Rattle.std.proofs.lemmas.Option.{same_Some, slice_get_within, slice_get-get_or}
use Rattle.ct_lemmas.proofs.Lists.{slice_get-append_left, slice_get-last, slice_get-there}
use Rattle.ct_sorts.specs.declared.ids.SortId.{SortId}
use Rattle.ct_sorts.specs.Declarations.{IsSort}
use Rattle.ct_sorts.specs.Grown.{Begins}
use Rattle.ct_card.specs.Cardinality.{IsSingle, IsInfinite}
use Rattle.ct_values.specs.declared.node.NodeId.{NodeId}
use Rattle.ct_values.specs.Graph.{Nodes, IsClosed}
use Rattle.ct_values.specs.Value.{reference}
use Rattle.ct_values.specs.Agreement.{Point, node_point, AgreeAlways}
use Rattle.ct_terms.specs.declared.ids.TermId.{TermId}
use Rattle.ct_terms.specs.Terms.{IsOfSort, AreOrdered}
use Rattle.ct_congr.specs.State.{State, AreEqual}
use Rattle.ct_build.specs.declared.open_classes.OpenClass.{OpenClass}
use Rattle.ct_build.specs.ClassValues.{Laws, IsInside, IsUnbuilt, AreValuesWith, AreApartWith, AreApart, mark}
use Rattle.ct_build.specs.OpenClasses.{AreOpenClasses, AreOfAllSorts}
use Rattle.ct_build.specs.Trials.{IsRefused, AreRefused}
use Rattle.ct_build.proofs.ListLemmas.{length-push}
use Rattle.ct_build.proofs.GraphLemmas.{sort_within}
use Rattle.ct_build.proofs.CollisionLemmas.{one_assignment, one_without}
use Rattle.ct_build.proofs.PigeonLemmas.{pigeons, pair_below, same_pair}

-- the sort of a class without constructor terms has one value, or infinitely many
abbrev pub AreOfSizes : State → Type 0
AreOfSizes state = (t : TermId) → IsInside state t → IsUnbuilt state t → (s : SortId) × IsOfSort state.terms t s × IsSort state.declarations s × (IsSingle state.declarations s.0 ⊎ IsInfinite state.declarations s.0)

-- the terms of one class have one sort, and each has a representative that is its own
pub record AreRepresented (state : State) : Type 0 where
  pub long : length state.reps ≡ length state.terms
  pub own : (t r : TermId) → slice_get state.reps t.0 ≡ Some r → slice_get state.reps r.0 ≡ Some r
  pub one_sort : (x y : TermId) (s : SortId) → AreEqual state x y → IsOfSort state.terms x s → IsOfSort state.terms y s

-- a pair of a list, and its numbers as one
abbrev no_pair : TermId × TermId
no_pair = (record { 0 = 0 }, record { 0 = 0 })

abbrev pair_at : List (TermId × TermId) → ℕ → TermId × TermId
pair_at pairs i = get_or pairs i no_pair

abbrev code : ℕ → List (TermId × TermId) → ℕ → ℕ
code m pairs i = (pair_at pairs i).0.0 * m + (pair_at pairs i).1.0

one_term : (x y : TermId) → x.0 ≡ y.0 → x ≡ y
one_term x y e = λ i. record { 0 = e i }

-- nodes of a graph
abbrev AreWithin : Nodes → List NodeId → Type 0
AreWithin g list = (i : ℕ) (n : NodeId) → slice_get list i ≡ Some n → n.0 < length g

module _ (laws : Laws) (state : State) (ordered : AreOrdered state.terms) (represented : AreRepresented state) (sizes : AreOfSizes state) (defaults : List NodeId) (unbuilt : List OpenClass) (open_classes : AreOpenClasses state unbuilt) where
  rep_of : (t : TermId) → IsInside state t → (r : TermId) × (slice_get state.reps t.0 ≡ Some r)
  rep_of t inside = slice_get-there state.reps t.0 (subst (λ (n : ℕ). t.0 < n) (sym represented.long) inside)

  -- a class without constructor terms is of a single sort or listed
  pub kind_of : (t : TermId) → IsInside state t → IsUnbuilt state t
      → ((s : SortId) × IsOfSort state.terms t s × IsSort state.declarations s × IsSingle state.declarations s.0) ⊎ ((i : ℕ) × (class : OpenClass) × (slice_get unbuilt i ≡ Some class) × AreEqual state t class.rep)
  kind_of t inside none =
      let (s, sorted, declared, size) = sizes t inside none in
      let (r, at) = rep_of t inside in
      let own = represented.own t r at in
      elim size [
        | inl single ↦ inl (s, sorted, declared, single)
        | inr infinite ↦
            let found = open_classes.each (record { rep = r; rank = 0 }) (record {
              own = own;
              sort = s;
              sorted = represented.one_sort t r s (r, at, own) sorted;
              declared = declared;
              infinite = infinite;
              unbuilt = λ con is equal. none con is (equal.0, at ∙ ap Some (same_Some r equal.0 (sym own ∙ equal.1)), equal.2);
            }) in
            inr (found.0, found.1, found.2, (r, at, ap (λ (u : TermId). slice_get state.reps u.0) found.3 ∙ own))
      ]

  node_agrees : (g h : Nodes) (n : NodeId) → IsClosed g → Begins g h → n.0 < length g → AgreeAlways (node_point h n) (node_point g n)
  node_agrees g h n closed (more, is) within = subst (λ (k : Nodes). AgreeAlways (node_point k n) (node_point g n)) (sym is) (laws.grown g more (reference n) closed within)

  -- in a longer graph, with more nodes for open classes, the values of the others are as they were
  module _ (g h : Nodes) (closed : IsClosed g) (grown : Begins g h) (of_sorts : AreOfAllSorts state.declarations g defaults) (chosen : List NodeId) (within : AreWithin g chosen) (value other : TermId → Point) (values : AreValuesWith state g defaults unbuilt chosen value) where
    single_stays : (further : List NodeId) → AreValuesWith state h defaults unbuilt further other → (t : TermId) (s : SortId) → IsUnbuilt state t → IsOfSort state.terms t s → IsSort state.declarations s → IsSingle state.declarations s.0 → AgreeAlways (value t) (other t)
    single_stays further others t s none sorted declared single =
        let (n, at) = slice_get-there defaults s.0 (subst (λ (k : ℕ). s.0 < k) (sym of_sorts.long) declared) in
        let inside : n.0 < length g = sort_within state.declarations g n (record { 0 = s.0 }) (of_sorts.sorted s.0 n at) in
        laws.chained (value t) (node_point g n) (other t) (values.single t s n none sorted single at)
        (laws.turned (other t) (node_point g n) (laws.chained (other t) (node_point h n) (node_point g n) (others.single t s n none sorted single at) (node_agrees g h n closed grown inside)))

    by_rep : (t u : TermId) (further : List NodeId) → AreValuesWith state h defaults unbuilt further other → AreEqual state t u → AgreeAlways (value u) (other u) → AgreeAlways (value t) (other t)
    by_rep t u further others equal same =
        laws.chained (value t) (value u) (other t) (values.classes.equal t u equal)
        (laws.chained (value u) (other u) (other t) same (laws.turned (other t) (other u) (others.classes.equal t u equal)))

    chosen_stays : (further : List NodeId) → AreValuesWith state h defaults unbuilt further other → (i : ℕ) (class : OpenClass) (n : NodeId) → slice_get unbuilt i ≡ Some class → slice_get chosen i ≡ Some n → slice_get further i ≡ Some n → AgreeAlways (value class.rep) (other class.rep)
    chosen_stays further others i class n listed at at_too =
        laws.chained (value class.rep) (node_point g n) (other class.rep) (values.chosen_have i class n listed at)
        (laws.turned (other class.rep) (node_point g n) (laws.chained (other class.rep) (node_point h n) (node_point g n) (others.chosen_have i class n listed at_too) (node_agrees g h n closed grown (within i n at))))

    -- the same nodes
    same_with : AreValuesWith state h defaults unbuilt chosen other → (t : TermId) → IsInside state t → IsUnbuilt state t → AgreeAlways (value t) (other t)
    same_with others t inside none = elim (kind_of t inside none) [
      | inl (s, sorted, declared, single) ↦ single_stays chosen others t s none sorted declared single
      | inr (i, class, listed, equal) ↦ by_rep t class.rep chosen others equal (elim (cases_lt i (length chosen)) [
        | inl less ↦ let (n, at) = slice_get-there chosen i less in chosen_stays chosen others i class n listed at at
        | inr above ↦
            laws.chained (value class.rep) (mark state class.rep) (other class.rep) (values.marked i class listed above)
            (laws.turned (other class.rep) (mark state class.rep) (others.marked i class listed above))
      ])
    ]

    -- so what is apart in one graph is apart in the other
    pub apart_longer : AreApart state value → AreValuesWith state h defaults unbuilt chosen other → AreApart state other
    apart_longer apart others x y in_x in_y h =
        let agree_with = one_assignment laws state ordered value other values.classes others.classes (same_with others) in
        apart x y in_x in_y (laws.chained (value x) (other x) (value y) (agree_with x in_x)
        (laws.chained (other x) (other y) (value y) h (laws.turned (value y) (other y) (agree_with y in_y))))

    -- one node more
    same_but : (node : NodeId) → AreValuesWith state h defaults unbuilt (chosen ++ node ∷ []) other → (o : OpenClass) → slice_get unbuilt (length chosen) ≡ Some o → (t : TermId) → IsInside state t → IsUnbuilt state t → (AreEqual state t o.rep → ⊥) → AgreeAlways (value t) (other t)
    same_but node others o at_o t inside none apart = elim (kind_of t inside none) [
      | inl (s, sorted, declared, single) ↦ single_stays (chosen ++ node ∷ []) others t s none sorted declared single
      | inr (i, class, listed, equal) ↦ by_rep t class.rep (chosen ++ node ∷ []) others equal (elim (cases_order i (length chosen)) [
        | inl e ↦
            let same : class ≡ o = same_Some class o (sym listed ∙ ap (slice_get unbuilt) e ∙ at_o) in
            absurd (apart (subst (λ (k : OpenClass). AreEqual state t k.rep) same equal))
        | inr sides ↦ elim sides [
          | inl less ↦ let (n, at) = slice_get-there chosen i less in chosen_stays (chosen ++ node ∷ []) others i class n listed at (slice_get-append_left chosen (node ∷ []) i n at)
          | inr above ↦
              let long = length-push chosen node in
              let beyond : length (chosen ++ node ∷ []) ≤ i = omega (arith, long, above) in
              laws.chained (value class.rep) (mark state class.rep) (other class.rep) (values.marked i class listed (omega (arith, above)))
              (laws.turned (other class.rep) (mark state class.rep) (others.marked i class listed beyond))
        ]
      ])
    ]

  -- two numbers that are refused for two classes are one
  module _ (IsNumbered : ℕ → Point → Type 0) (different : (m n : ℕ) (p q : Point) → IsNumbered m p → IsNumbered n q → AgreeAlways p q → m ≡ n)
      (g : Nodes) (closed : IsClosed g) (of_sorts : AreOfAllSorts state.declarations g defaults) (chosen : List NodeId) (within : AreWithin g chosen) (apart : AreApartWith state g defaults unbuilt chosen)
      (o : OpenClass) (at_o : slice_get unbuilt (length chosen) ≡ Some o) where
    one_number : (m n : ℕ) (x y : TermId) → IsRefused state IsNumbered g defaults unbuilt chosen m x y → IsRefused state IsNumbered g defaults unbuilt chosen n x y → m ≡ n
    one_number m n x y first second = elim (cases_eq m n) [
      | inl e ↦ e
      | inr other ↦
          let f = first.collide.value in
          let s = second.collide.value in
          let f_at = first.collide.values.chosen_have (length chosen) o first.node at_o (slice_get-last chosen first.node) in
          let s_at = second.collide.values.chosen_have (length chosen) o second.node at_o (slice_get-last chosen second.node) in
          let differ : AgreeAlways (f o.rep) (s o.rep) → ⊥ = λ h. other (different m n (node_point first.longer first.node) (node_point second.longer second.node) first.numbered second.numbered
          (laws.chained (node_point first.longer first.node) (f o.rep) (node_point second.longer second.node) (laws.turned (f o.rep) (node_point first.longer first.node) f_at)
          (laws.chained (f o.rep) (s o.rep) (node_point second.longer second.node) h s_at))) in
          let in_o : IsInside state o.rep = subst (λ (k : ℕ). o.rep.0 < k) represented.long (slice_get_within state.reps o.rep.0 o.rep (open_classes.only (length chosen) o at_o).own) in
          let without = one_without laws state ordered apart.value f s apart.values.classes first.collide.values.classes second.collide.values.classes o.rep in_o
          (same_but g first.longer closed first.grown of_sorts chosen within apart.value f apart.values first.node first.collide.values o at_o)
          (same_but g second.longer closed second.grown of_sorts chosen within apart.value s apart.values second.node second.collide.values o at_o)
          differ x y first.collide.collide.left first.collide.collide.right first.collide.collide.one second.collide.collide.one in
          absurd (first.collide.collide.apart (apart.apart x y first.collide.collide.left first.collide.collide.right without))
    ]

    -- so not all of so many numbers are refused
    pub not_all_refused : (from : ℕ) → AreRefused state IsNumbered g defaults unbuilt chosen from (length state.terms * length state.terms + 1) → ⊥
    not_all_refused from refused = pigeons (length state.terms * length state.terms) (code (length state.terms) refused.pairs) below distinct
      where
        at : (i : ℕ) → i < suc (length state.terms * length state.terms) → slice_get refused.pairs i ≡ Some (pair_at refused.pairs i)
        at i less = slice_get-get_or refused.pairs i no_pair (omega (arith, refused.long, less))

        is_refused : (i : ℕ) → i < suc (length state.terms * length state.terms) → IsRefused state IsNumbered g defaults unbuilt chosen (from + i) (pair_at refused.pairs i).0 (pair_at refused.pairs i).1
        is_refused i less = refused.each i (pair_at refused.pairs i) (at i less)

        in_left : (i : ℕ) → i < suc (length state.terms * length state.terms) → (pair_at refused.pairs i).0.0 < length state.terms
        in_left i less = (is_refused i less).collide.collide.left

        in_right : (i : ℕ) → i < suc (length state.terms * length state.terms) → (pair_at refused.pairs i).1.0 < length state.terms
        in_right i less = (is_refused i less).collide.collide.right

        below : (i : ℕ) → i < suc (length state.terms * length state.terms) → code (length state.terms) refused.pairs i < length state.terms * length state.terms
        below i less = pair_below (length state.terms) (pair_at refused.pairs i).0.0 (pair_at refused.pairs i).1.0 (in_left i less) (in_right i less)

        distinct : (i j : ℕ) → i < j → j < suc (length state.terms * length state.terms) → code (length state.terms) refused.pairs i ≡ code (length state.terms) refused.pairs j → ⊥
        distinct i j less within_j e =
            let less_i : i < suc (length state.terms * length state.terms) = omega (arith, less, within_j) in
            let p = pair_at refused.pairs i in
            let q = pair_at refused.pairs j in
            let parts = same_pair (length state.terms) p.0.0 p.1.0 q.0.0 q.1.0 (in_right i less_i) (in_right j within_j) e in
            let here : IsRefused state IsNumbered g defaults unbuilt chosen (from + i) q.0 q.1 =
            subst (λ (u : TermId). IsRefused state IsNumbered g defaults unbuilt chosen (from + i) q.0 u) (one_term p.1 q.1 parts.1)
            (subst (λ (u : TermId). IsRefused state IsNumbered g defaults unbuilt chosen (from + i) u p.1) (one_term p.0 q.0 parts.0) (is_refused i less_i)) in
            let same : from + i ≡ from + j = one_number (from + i) (from + j) q.0 q.1 here (is_refused j within_j) in
            omega (arith, less, same)
