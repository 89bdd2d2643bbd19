-- The nodes of classes are values of classes.
use Rattle.std.proofs.Common.{◌≡◌, ℕ, suc, ◌+◌, ◌<◌, ◌⊎◌, List, [], ◌∷◌, ◌++◌, length, map, slice_get, Some, Option, option_map, unwrap_or, refl, sym, ◌∙◌, ap, subst, inl, inr, arith, length-append}
use Rattle.std.specs.List.{AllZip}
use Rattle.std.proofs.lemmas.Bool.{cases_eq}
use Rattle.std.proofs.lemmas.Option.{same_Some, slice_get_within, slice_get-get_or}
use Rattle.ct_lemmas.proofs.Lists.{slice_get-append_after, slice_get-append_left, slice_get-there}
use Rattle.ct_sorts.specs.declared.ids.CtorId.{CtorId}
use Rattle.ct_sorts.specs.declared.ids.SortId.{SortId}
use Rattle.ct_sorts.specs.Declarations.{Constructor}
use Rattle.ct_sorts.specs.Grown.{Begins}
use Rattle.ct_card.specs.Cardinality.{IsSingle, IsInfinite}
use Rattle.ct_values.specs.declared.node.Head.TheVariants as heads
use Rattle.ct_values.specs.declared.node.NodeId.{NodeId}
use Rattle.ct_values.specs.declared.node.Node.{Node}
use Rattle.ct_values.specs.Graph.{Nodes, IsClosed, HasChildrenBelow, node_head, node_children}
use Rattle.ct_values.specs.Value.{reference}
use Rattle.ct_values.specs.Agreement.{Point, point, node_point, head, children, AgreeAlways}
use Rattle.ct_terms.specs.declared.ids.TermId.{TermId}
use Rattle.ct_terms.specs.declared.term.Core.TheVariants.{Con}
use Rattle.ct_terms.specs.Terms.{Has, IsOfSort, IsOfField, AreSorted}
use Rattle.ct_rules.specs.Rules.{by_injection}
use Rattle.ct_acyclic.specs.Order.{IsClassOrder}
use Rattle.ct_congr.specs.State.{State, AreEqual, IsQuiet}
use Rattle.ct_eval.specs.EvaluationStep.{node_under}
use Rattle.ct_build.specs.declared.open_classes.OpenClass.{OpenClass}
use Rattle.ct_build.specs.ClassValues.{Laws, IsInside, IsUnbuilt, IsConstructed, AreValuesWith, mark}
use Rattle.ct_build.specs.OpenClasses.{AreOpenClasses, AreOfAllSorts}
use Rattle.ct_build.specs.Nodes.{IsClassList, IsOtherClass, AreNumbered, IsReserved, IsOfTerm, IsCopied, AreClassNodes, term_point, AreAssigned}
use Rattle.ct_build.specs.Chosen.{AreGiven, IsGivenAt}
use Rattle.ct_build.proofs.GraphLemmas.{sort_within}
use Rattle.ct_build.proofs.TermLemmas.{one_term_sort}
use Rattle.ct_build.proofs.StageLemmas.{AreRepresented}

-- two constructors are one or not
pub ctor_cases : (c k : CtorId) → (c ≡ k) ⊎ (c ≡ k → ⊥)
ctor_cases c k = elim (cases_eq c.0 k.0) [
  | inl e ↦ inl (λ i. record { 0 = e i })
  | inr other ↦ inr (λ same. other (ap (λ (q : CtorId). q.0) same))
]

one_length : {X Y : Type 0} (R : X → Y → Type 0) (xs : List X) (ys : List Y) → AllZip R xs ys → length xs ≡ length ys
one_length R [] [] h = refl
one_length R [] (y ∷ ys) h = absurd h
one_length R (x ∷ xs) [] h = absurd h
one_length R (x ∷ xs) (y ∷ ys) h = ap suc (one_length R xs ys h.1)

zip_at : {X : Type 0} (R : X → X → Type 0) (xs ys : List X) → length xs ≡ length ys → ((k : ℕ) (x y : X) → slice_get xs k ≡ Some x → slice_get ys k ≡ Some y → R x y) → AllZip R xs ys
zip_at R [] [] e h = tt
zip_at R [] (y ∷ ys) e h = absurd (omega (arith, e))
zip_at R (x ∷ xs) [] e h = absurd (omega (arith, e))
zip_at R (x ∷ xs) (y ∷ ys) e h = (h 0 x y refl refl, zip_at R xs ys (omega (arith, e)) (λ k. h (suc k)))

module _ (laws : Laws) (state : State) (sorted : AreSorted state.declarations state.terms) (represented : AreRepresented state) (quiet : IsQuiet state) where
  rep_at : (t : TermId) → IsInside state t → (r : TermId) × (slice_get state.reps t.0 ≡ Some r)
  rep_at t inside = slice_get-there state.reps t.0 (subst (λ (n : ℕ). t.0 < n) (sym represented.long) inside)

  -- constructor terms of one class have one constructor and equal arguments
  same_constructor : (x y : TermId) (c k : CtorId) (xs ys : List TermId) → AreEqual state x y → Has state.terms (Con c xs) x.0 → Has state.terms (Con k ys) y.0 → c ≡ k
  same_constructor x y c k xs ys equal left right = elim (ctor_cases c k) [
    | inl e ↦ e
    | inr apart ↦ absurd (quiet.one x y (record { first = c; second = k; xs = xs; ys = ys; left = left; right = right; apart = apart; equal = equal }))
  ]

  arguments_equal : (x y : TermId) (c : CtorId) (xs ys : List TermId) → AreEqual state x y → Has state.terms (Con c xs) x.0 → Has state.terms (Con c ys) y.0 → AllZip (AreEqual state) xs ys
  arguments_equal x y c xs ys equal left right =
      let l = sorted x.0 (Con c xs) left.0 left.1 in
      let r = sorted y.0 (Con c ys) right.0 right.1 in
      let long : length xs ≡ length ys = one_length (IsOfField state.declarations state.terms) xs l.ctor.sels l.fields
      ∙ ap (λ (k : Constructor). length k.sels) (same_Some l.ctor r.ctor (sym l.declared ∙ r.declared))
      ∙ sym (one_length (IsOfField state.declarations state.terms) ys r.ctor.sels r.fields) in
      zip_at (AreEqual state) xs ys long (λ place a b at_a at_b. quiet.closed.closed a b (by_injection (record {
        left = x;
        right = y;
        ctor = c;
        xs = xs;
        ys = ys;
        place = place;
        equal = equal;
        left_stands = left;
        right_stands = right;
        left_at = at_a;
        right_at = at_b;
      })))

  -- ---- the nodes of classes
  module _ (order list : List TermId) (ordered : IsClassOrder state order) (listed : IsClassList state order list) (g : Nodes) (closed : IsClosed g) (values : List NodeId) (term_nodes : List NodeId) (numbered : AreNumbered state list (length g) term_nodes) (added : List Node) (are : AreClassNodes state g values list term_nodes added)
      (data_cases : (t : TermId) → slice_get state.reps t.0 ≡ Some t → IsOtherClass state t ⊎ ((i : ℕ) × (slice_get order i ≡ Some t))) where
    -- each representative is listed
    rep_listed : (r : TermId) → slice_get state.reps r.0 ≡ Some r → (i : ℕ) × (slice_get list i ≡ Some r)
    rep_listed r own =
        let inside : r.0 < length state.terms = subst (λ (n : ℕ). r.0 < n) represented.long (slice_get_within state.reps r.0 r own) in
        elim (data_cases r own) [
          | inl other ↦
              let found = listed.all r other inside in
              (length order + found.0, ap (λ (l : List TermId). slice_get l (length order + found.0)) listed.is ∙ slice_get-append_after order listed.rest found.0 ∙ found.1)
          | inr (i, at) ↦ (i, ap (λ (l : List TermId). slice_get l i) listed.is ∙ slice_get-append_left order listed.rest i r at)
        ]

    -- the node of a term is the one that is reserved for its representative
    pub node_of_class : (t r : TermId) → slice_get state.reps t.0 ≡ Some r → (n : NodeId) × (slice_get term_nodes t.0 ≡ Some n) × IsReserved list (length g) r n
    node_of_class t r at =
        let place = rep_listed r (represented.own t r at) in
        let found = numbered.reserved place.0 r place.1 in
        (found.0, numbered.each t r at ∙ found.1, found.2)

    node_under_is : (t : TermId) (n : NodeId) → slice_get term_nodes t.0 ≡ Some n → node_under term_nodes t ≡ n
    node_under_is t n at = same_Some (node_under term_nodes t) n (sym (slice_get-get_or term_nodes t.0 (record { 0 = 0 }) (slice_get_within term_nodes t.0 n at)) ∙ at)

    pub one_node : (t u : TermId) → AreEqual state t u → node_under term_nodes t ≡ node_under term_nodes u
    one_node t u (r, at_t, at_u) =
        let n = node_of_class t r at_t in
        node_under_is t n.0 n.1 ∙ sym (node_under_is u n.0 (numbered.each u r at_u ∙ sym (numbered.each t r at_t) ∙ n.1))

    -- what stands at the node of a class
    class_node_at : (t r : TermId) → slice_get state.reps t.0 ≡ Some r → (node : Node) × (slice_get (g ++ added) (node_under term_nodes t).0 ≡ Some node) × (IsOfTerm state term_nodes r node ⊎ IsCopied state g values r node)
    class_node_at t r at =
        let (n, at_n, reserved) = node_of_class t r at in
        let found = slice_get-there added reserved.index (omega (arith, are.long, slice_get_within list reserved.index r reserved.listed)) in (
          found.0,
          ap (λ (m : NodeId). slice_get (g ++ added) m.0) (node_under_is t n at_n) ∙ ap (slice_get (g ++ added)) reserved.number ∙ slice_get-append_after g added reserved.index ∙ found.1,
          are.each reserved.index r found.0 reserved.listed found.1,
        )

    abbrev value_of_term : TermId → Point
    value_of_term = term_point (g ++ added) term_nodes

    -- the children of a node of equal arguments
    children_agree : (xs ys : List TermId) → AllZip (AreEqual state) xs ys → AllZip AgreeAlways (map (point (g ++ added)) (map reference (map (node_under term_nodes) xs))) (map value_of_term ys)
    children_agree [] [] h = tt
    children_agree [] (y ∷ ys) h = absurd h
    children_agree (x ∷ xs) [] h = absurd h
    children_agree (x ∷ xs) (y ∷ ys) h =
        (subst (λ (n : NodeId). AgreeAlways (node_point (g ++ added) (node_under term_nodes x)) (node_point (g ++ added) n)) (one_node x y h.0) (laws.itself (node_point (g ++ added) (node_under term_nodes x))), children_agree xs ys h.1)

    -- the head and the children at a node
    head_at : (h : Nodes) (n : NodeId) (node : Node) → slice_get h n.0 ≡ Some node → head (node_point h n) ≡ Some (node_head node)
    head_at h n node at = ap (option_map node_head) at

    children_at : (h : Nodes) (n : NodeId) (node : Node) → slice_get h n.0 ≡ Some node → children (node_point h n) ≡ map (point h) (map reference (node_children node))
    children_at h n node at = ap (λ (o : Option Node). map (point h) (map reference (unwrap_or (option_map node_children o) []))) at

    built_value : (t : TermId) (c : CtorId) (args : List TermId) → Has state.terms (Con c args) t.0 → IsConstructed value_of_term c args (value_of_term t)
    built_value t c args stands =
        let (r, at) = rep_at t (slice_get_within state.terms t.0 _ stands.1) in
        let own = represented.own t r at in
        let (node, at_node, is) = class_node_at t r at in
        elim is [
          | inl of ↦
              let equal : AreEqual state of.con t = (r, subst (λ (q : TermId). slice_get state.reps of.con.0 ≡ Some q) (same_Some of.equal.0 r (sym of.equal.1 ∙ own)) of.equal.2, at) in
              let one : of.ctor ≡ c = same_constructor of.con t of.ctor c of.args args equal of.stands stands in
              let stands_too : Has state.terms (Con c of.args) of.con.0 = subst (λ (k : CtorId). Has state.terms (Con k of.args) of.con.0) one of.stands in
              record {
                head_is = head_at (g ++ added) (node_under term_nodes t) node at_node ∙ ap (λ (x : Node). Some (node_head x)) of.is ∙ ap (λ (k : CtorId). Some (heads.Con k)) one;
                children_are = subst (λ (ps : List Point). AllZip AgreeAlways ps (map value_of_term args))
                    (sym (children_at (g ++ added) (node_under term_nodes t) node at_node ∙ ap (λ (x : Node). map (point (g ++ added)) (map reference (node_children x))) of.is))
                    (children_agree of.args args (arguments_equal of.con t c of.args args equal stands_too stands));
              }
          | inr copied ↦ absurd (copied.unbuilt t (c, args, stands) (r, own, at))
        ]

    -- children of a copied node are nodes of the shorter graph
    shorter_children : (ns : List NodeId) → ((k : ℕ) (n : NodeId) → slice_get ns k ≡ Some n → n.0 < length g) → AllZip AgreeAlways (map (point (g ++ added)) (map reference ns)) (map (point g) (map reference ns))
    shorter_children [] within = tt
    shorter_children (n ∷ ns) within = (laws.grown g added (reference n) closed (within 0 n refl), shorter_children ns (λ k. within (suc k)))

    unbuilt_value : (t r : TermId) → IsUnbuilt state t → slice_get state.reps t.0 ≡ Some r → AgreeAlways (value_of_term t) (term_point g values r)
    unbuilt_value t r none at =
        let own = represented.own t r at in
        let (node, at_node, is) = class_node_at t r at in
        elim is [
          | inl of ↦ absurd (none of.con (of.ctor, of.args, of.stands) (of.equal.0, at ∙ ap Some (same_Some r of.equal.0 (sym own ∙ of.equal.1)), of.equal.2))
          | inr copied ↦
              let under : node_under values r ≡ copied.copied = same_Some (node_under values r) copied.copied (sym (slice_get-get_or values r.0 (record { 0 = 0 }) (slice_get_within values r.0 copied.copied copied.value)) ∙ copied.value) in
              let at_value : slice_get g (node_under values r).0 ≡ Some node = ap (λ (m : NodeId). slice_get g m.0) under ∙ copied.at in
              (laws.always (value_of_term t) (term_point g values r)).1 (
                head_at (g ++ added) (node_under term_nodes t) node at_node ∙ sym (head_at g (node_under values r) node at_value),
                subst (λ (ps : List Point). AllZip AgreeAlways ps (children (term_point g values r))) (sym (children_at (g ++ added) (node_under term_nodes t) node at_node))
                    (subst (λ (qs : List Point). AllZip AgreeAlways (map (point (g ++ added)) (map reference (node_children node))) qs) (sym (children_at g (node_under values r) node at_value))
                    (shorter_children (node_children node) (λ k n at_n. child_within node k n (slice_get_within g (node_under values r).0 node at_value) at_value at_n))),
              )
        ]
      where
        child_within : (node : Node) (k : ℕ) (n : NodeId) → (node_under values r).0 < length g → slice_get g (node_under values r).0 ≡ Some node → slice_get (node_children node) k ≡ Some n → n.0 < length g
        child_within node k n within at_value at_n =
            let below : HasChildrenBelow (length g) node = subst (λ (x : Node). HasChildrenBelow (length g) x) (same_Some _ node (sym (slice_get-get_or g (node_under values r).0 node within) ∙ at_value)) (closed (node_under values r).0 node within) in
            subst (λ (m : NodeId). m.0 < length g) (same_Some _ n (sym (slice_get-get_or (node_children node) k n (slice_get_within (node_children node) k n at_n)) ∙ at_n)) (below k n (slice_get_within (node_children node) k n at_n))

    pub assigned : AreAssigned state g values (g ++ added) term_nodes
    assigned = record {
      long = numbered.long;
      within = λ t n at.
          let (r, at_r) = rep_at (record { 0 = t }) (subst (λ (k : ℕ). t < k) numbered.long (slice_get_within term_nodes t n at)) in
          let (m, at_m, reserved) = node_of_class (record { 0 = t }) r at_r in
          let same : m ≡ n = same_Some m n (sym at_m ∙ at) in
          let number : n.0 ≡ length g + reserved.index = ap (λ (q : NodeId). q.0) (sym same) ∙ reserved.number in
          omega (arith, number, are.long, slice_get_within list reserved.index r reserved.listed, length-append g added);
      classes = record {
        equal = λ x y equal. subst (λ (n : NodeId). AgreeAlways (value_of_term x) (node_point (g ++ added) n)) (one_node x y equal) (laws.itself (value_of_term x));
        built = built_value;
      };
      one_node = one_node;
      unbuilt = unbuilt_value;
    }

  -- ---- values that were given
  module _ (defaults : List NodeId) (unbuilt : List OpenClass) (open_classes : AreOpenClasses state unbuilt) (several : (s : ℕ) → IsInfinite state.declarations s → IsSingle state.declarations s → ⊥) (chosen_graph : Nodes) (closed_chosen : IsClosed chosen_graph) (of_sorts : AreOfAllSorts state.declarations chosen_graph defaults) (chosen : List NodeId) (chosen_within : (i : ℕ) (n : NodeId) → slice_get chosen i ≡ Some n → n.0 < length chosen_graph)
      (g : Nodes) (grown : Begins chosen_graph g) (values : List NodeId) (given : AreGiven state g defaults unbuilt chosen values) (longer : Nodes) (closed_longer : IsClosed longer) (term_nodes : List NodeId) (are : AreAssigned state g values longer term_nodes) where
    under_values : (r : TermId) (n : NodeId) → slice_get values r.0 ≡ Some n → node_under values r ≡ n
    under_values r n at = same_Some (node_under values r) n (sym (slice_get-get_or values r.0 (record { 0 = 0 }) (slice_get_within values r.0 n at)) ∙ at)

    in_chosen : (n : NodeId) → n.0 < length chosen_graph → AgreeAlways (node_point g n) (node_point chosen_graph n)
    in_chosen n within = subst (λ (h : Nodes). AgreeAlways (node_point h n) (node_point chosen_graph n)) (sym grown.1) (laws.grown chosen_graph grown.0 (reference n) closed_chosen within)

    -- the value of an open class is that of its node
    open_value : (i : ℕ) (class : OpenClass) → slice_get unbuilt i ≡ Some class → (n : NodeId) × AgreeAlways (term_point longer term_nodes class.rep) (node_point g n) × IsGivenAt state g unbuilt chosen i n
    open_value i class listed =
        let is = open_classes.only i class listed in
        let (n, at, here) = given.each i class (slice_get_within unbuilt i class listed) listed in
        (n, subst (λ (m : NodeId). AgreeAlways (term_point longer term_nodes class.rep) (node_point g m)) (under_values class.rep n at) (are.unbuilt class.rep class.rep is.unbuilt is.own), here)

    pub values_with : AreValuesWith state chosen_graph defaults unbuilt chosen (term_point longer term_nodes)
    values_with = record {
      classes = are.classes;
      closed = λ t. closed_longer;
      chosen_have = λ i class n listed at.
          let (m, agree, here) = open_value i class listed in
          let same : m ≡ n = sym (here.chosen_is n at) in
          laws.chained (term_point longer term_nodes class.rep) (node_point g n) (node_point chosen_graph n)
          (subst (λ (q : NodeId). AgreeAlways (term_point longer term_nodes class.rep) (node_point g q)) same agree)
          (in_chosen n (chosen_within i n at));
      marked = λ i class listed above.
          let (m, agree, here) = open_value i class listed in
          let at = here.marked class listed above in
          laws.chained (term_point longer term_nodes class.rep) (node_point g m) (mark state class.rep) agree
          ((laws.always (node_point g m) (mark state class.rep)).1 (
            ap (option_map node_head) at,
            subst (λ (ps : List Point). AllZip AgreeAlways ps []) (sym (ap (λ (o : Option Node). map (point g) (map reference (unwrap_or (option_map node_children o) []))) at)) tt,
          ));
      single = λ t s n none is_of single at.
          let inside : t.0 < length state.terms = slice_get_within state.terms t.0 _ is_of.1 in
          let (r, at_r) = rep_at t inside in
          let own = represented.own t r at_r in
          let r_sort = represented.one_sort t r s (r, at_r, own) is_of in
          let (m, at_m) = slice_get-there values r.0 (omega (arith, given.long, slice_get_within state.terms r.0 _ r_sort.1)) in
          let same : m ≡ n = elim (given.only r m at_m) [
            | inl by_class ↦
                let is = open_classes.only by_class.index by_class.class by_class.listed in
                let infinite : IsInfinite state.declarations is.sort.0 = is.infinite in
                let one : is.sort ≡ s = one_term_sort state.terms r is.sort s (subst (λ (q : TermId). IsOfSort state.terms q is.sort) by_class.rep is.sorted) r_sort in
                absurd (several s.0 (subst (λ (q : SortId). IsInfinite state.declarations q.0) one infinite) single)
            | inr (q, q_sort, at_q) ↦
                let one : q ≡ s = one_term_sort state.terms r q s q_sort r_sort in
                same_Some m n (sym at_q ∙ ap (λ (x : SortId). slice_get defaults x.0) one ∙ at)
          ] in
          laws.chained (term_point longer term_nodes t) (node_point g n) (node_point chosen_graph n)
          (subst (λ (q : NodeId). AgreeAlways (term_point longer term_nodes t) (node_point g q)) (under_values r m at_m ∙ same) (are.unbuilt t r none at_r))
          (in_chosen n (sort_within state.declarations chosen_graph n (record { 0 = s.0 }) (of_sorts.sorted s.0 n at)));
    }
