-- Where no open class has a value yet, no two classes have one value.
use Rattle.std.proofs.Common.{◌≡◌, ℕ, ◌<◌, ◌≤◌, ◌⊎◌, Bool, true, false, List, [], ◌∷◌, length, slice_get, Some, option_map, unwrap_or, Contains, refl, sym, ◌∙◌, ap, subst, inl, inr, arith}
use Rattle.std.specs.List.{AllZip}
use Rattle.std.proofs.lemmas.Option.{same_Some}
use Rattle.ct_lemmas.proofs.Contained.{Contains-from_slice_get}
use Rattle.ct_lemmas.proofs.Lists.{slice_get-there}
use Rattle.ct_lemmas.proofs.Prefixes.{slice_get-take}
use Rattle.ct_sorts.specs.declared.ids.CtorId.{CtorId}
use Rattle.ct_sorts.specs.declared.ids.SelId.{SelId}
use Rattle.ct_sorts.specs.declared.ids.SortId.{SortId}
use Rattle.ct_sorts.specs.declared.ids.Kind.{Kind}
use Rattle.ct_sorts.specs.declared.ids.Kind.TheVariants.{Bool as BoolKind, Free, Data, Codata}
use Rattle.ct_sorts.specs.Declarations.{Declarations, Sort, Constructor, IsSort, bool_sort}
use Rattle.ct_sorts.specs.Consistent.{IsConsistent, FitsKind}
use Rattle.ct_sorts.specs.Structure.{AreOfTheirSorts}
use Rattle.ct_card.specs.Cardinality.{IsSingle, IsInfinite}
use Rattle.ct_values.specs.declared.node.Head.{Head}
use Rattle.ct_values.specs.declared.node.Head.TheVariants as heads
use Rattle.ct_values.specs.declared.node.NodeId.{NodeId}
use Rattle.ct_values.specs.declared.node.Node.{Node}
use Rattle.ct_values.specs.declared.node.Node.TheVariants as nodes
use Rattle.ct_values.specs.Graph.{Nodes, node_head}
use Rattle.ct_values.specs.Agreement.{Point, node_point, head, AgreeAlways}
use Rattle.ct_values.specs.Fitting.{HasNodeSort, node_sort}
use Rattle.ct_terms.specs.declared.ids.TermId.{TermId}
use Rattle.ct_terms.specs.declared.term.Core.{Core}
use Rattle.ct_terms.specs.declared.term.Core.TheVariants.{Con, Sel, Test, Apply, Eq, Not, And, Or, Iff, Ite}
use Rattle.ct_terms.specs.Fields.{ctor_ids_of_sort}
use Rattle.ct_terms.specs.Terms.{Terms, Has, IsOfSort, AreSorted, AreOrdered, BeginsWithTruths}
use Rattle.ct_rules.specs.Rules.{truth_term, by_expansion, by_singleton}
use Rattle.ct_closure.specs.ClosedTable.{IsConstruction, IsFieldTerm, IsSplitTerm, HasCases}
use Rattle.ct_congr.specs.State.{State, AreEqual, IsConstructorTerm, IsQuiet}
use Rattle.ct_unique.specs.Partition.{IsStronglyExtensional}
use Rattle.ct_build.specs.declared.open_classes.OpenClass.{OpenClass}
use Rattle.ct_build.specs.Assignment.{AreDecided}
use Rattle.ct_build.specs.ClassValues.{Laws, IsInside, IsUnbuilt, AreValuesWith, AreApart, mark}
use Rattle.ct_build.specs.OpenClasses.{AreOpenClasses, AreOfAllSorts}
use Rattle.ct_build.proofs.TermLemmas.{one_term_sort, sort_declared}
use Rattle.ct_build.proofs.CollisionLemmas.{built_cases, over, apart_where_told}
use Rattle.ct_build.proofs.StageLemmas.{AreOfSizes, AreRepresented, kind_of}

-- each sort is single, infinite, or neither
abbrev pub AreSized : Declarations → Type 0
AreSized d = (s : ℕ) → s < length d.sorts → IsSingle d s ⊎ (IsInfinite d s ⊎ ((IsSingle d s → ⊥) × (IsInfinite d s → ⊥)))

-- the fields of a term, as an expansion takes them
fields_turned : (terms : Terms) (t : TermId) (sels : List SelId) (args : List TermId) → AllZip (IsFieldTerm terms t) sels args → AllZip (λ a s. Has terms (Sel s t) a.0) args sels
fields_turned terms t [] [] h = tt
fields_turned terms t [] (a ∷ args) h = absurd h
fields_turned terms t (s ∷ sels) [] h = absurd h
fields_turned terms t (s ∷ sels) (a ∷ args) h = (h.0, fields_turned terms t sels args h.1)

-- nodes of one head are of one sort
one_head_sort : (d : Declarations) (x y : Node) → node_head x ≡ node_head y → node_sort d x ≡ node_sort d y
one_head_sort d (nodes.Con c xs) (nodes.Con e ys) h = let same : c ≡ e = cc in ap (λ (k : CtorId). option_map (λ (ctor : Constructor). ctor.sort) (slice_get d.ctors k.0)) same
one_head_sort d (nodes.Con c xs) (nodes.Elem s n) h = cc
one_head_sort d (nodes.Elem s n) (nodes.Con c xs) h = cc
one_head_sort d (nodes.Elem s n) (nodes.Elem t m) h = let same : s ≡ t = cc in ap Some same

-- a node of a head of a constructor or of an element has its sort
constructor_sort : (d : Declarations) (x : Node) (c : CtorId) → node_head x ≡ heads.Con c → node_sort d x ≡ option_map (λ (ctor : Constructor). ctor.sort) (slice_get d.ctors c.0)
constructor_sort d x c h = one_head_sort d x (nodes.Con c []) h

element_sort : (d : Declarations) (x : Node) (s : SortId) (n : ℕ) → node_head x ≡ heads.Elem s n → node_sort d x ≡ Some s
element_sort d x s n h = one_head_sort d x (nodes.Elem s n) h

module _ (state : State) (sorted : AreSorted state.declarations state.terms) (ordered : AreOrdered state.terms) (begins : BeginsWithTruths state.terms) (consistent : IsConsistent state.declarations) (own_sorts : AreOfTheirSorts state.declarations) (some : 1 ≤ length state.declarations.sorts) (represented : AreRepresented state) (quiet : IsQuiet state) (decided : AreDecided state) (sized : AreSized state.declarations)
    (splits : (t : TermId) (s : SortId) → IsSplitTerm state.declarations state.terms t s → HasCases state.declarations state.terms t s) where
  -- `true` and `false` are constructor terms
  pub truth_built : (b : Bool) → IsConstructorTerm state.terms (truth_term b)
  truth_built true = (record { 0 = 0 }, [], (bool_sort, slice_get-take 2 state.terms 0 _ (ap (λ (ts : Terms). slice_get ts 0) begins)))
  truth_built false = (record { 0 = 1 }, [], (bool_sort, slice_get-take 2 state.terms 1 _ (ap (λ (ts : Terms). slice_get ts 1) begins)))

  -- what is no constructor term is none
  pub unbuilt_core : (t : TermId) (s : SortId) (core : Core) → IsInside state t → IsUnbuilt state t → slice_get state.terms t.0 ≡ Some (core, s) → IsConstruction core → ⊥
  unbuilt_core t s (Con c args) inside none at h =
      let (r, is) = slice_get-there state.reps t.0 (subst (λ (n : ℕ). t.0 < n) (sym represented.long) inside) in
      none t (c, args, (s, at)) (r, is, is)
  unbuilt_core t s (Sel q a) inside none at h = h
  unbuilt_core t s (Test q a) inside none at h = h
  unbuilt_core t s (Apply q xs) inside none at h = h
  unbuilt_core t s (Eq a b) inside none at h = h
  unbuilt_core t s (Not a) inside none at h = h
  unbuilt_core t s (And xs) inside none at h = h
  unbuilt_core t s (Or xs) inside none at h = h
  unbuilt_core t s (Iff a b) inside none at h = h
  unbuilt_core t s (Ite c a b) inside none at h = h

  -- a term that is split has a constructor term in its class
  pub split_built : (t : TermId) (s : SortId) → IsSplitTerm state.declarations state.terms t s → IsUnbuilt state t → ⊥
  split_built t s split none =
      let tested = decided.splits t s split in
      let test = sorted tested.test.0 (Test tested.ctor t) tested.stands.0 tested.stands.1 in
      let one : test.ctor.sort ≡ s = one_term_sort state.terms t test.ctor.sort s test.sorted (split.unsettled.core, split.unsettled.stands) in
      let own = own_sorts tested.ctor.0 test.ctor test.declared in
      let listed : Contains (ctor_ids_of_sort state.declarations s) tested.ctor =
      subst (λ (q : SortId). Contains (ctor_ids_of_sort state.declarations q) tested.ctor) one
      (subst (λ (cs : List CtorId). Contains cs tested.ctor) (sym (ap (λ o. unwrap_or (option_map (λ (x : Sort). x.ctors) o) []) own.2)) (Contains-from_slice_get own.0.ctors own.1 tested.ctor own.3)) in
      let case = splits t s split tested.ctor listed in
      let con : TermId = record { 0 = case.built.0 } in
      let fields : AllZip (IsFieldTerm state.terms t) test.ctor.sels case.args =
      subst (λ (sels : List SelId). AllZip (IsFieldTerm state.terms t) sels case.args) (ap (λ o. unwrap_or (option_map (λ (k : Constructor). k.sels) o) []) test.declared) case.fields in
      let equal : AreEqual state t con = quiet.closed.closed t con (by_expansion (record {
        test = tested.test;
        id = tested.ctor;
        ctor = test.ctor;
        args = case.args;
        declared = test.declared;
        holds = tested.holds;
        test_stands = tested.stands;
        con_stands = case.built.1;
        fields = fields_turned state.terms t test.ctor.sels case.args fields;
      })) in
      none con (tested.ctor, case.args, case.built.1) equal

  -- so a class without one is of a single or an infinite sort
  pub of_sizes : AreOfSizes state
  of_sizes t inside none =
      let ((core, s), at) = slice_get-there state.terms t.0 inside in
      let declared = sort_declared state.declarations consistent own_sorts some state.terms sorted ordered t s (core, at) in
      let (sort, at_sort) = slice_get-there state.declarations.sorts s.0 declared in (
        s,
        (core, at),
        declared,
        elim (sized s.0 declared) [
          | inl single ↦ inl single
          | inr sides ↦ elim sides [
            | inl infinite ↦ inr infinite
            | inr (several, few) ↦ absurd (by_kind t s core inside none at sort at_sort several few sort.kind refl)
          ]
        ],
      )
    where
      by_kind : (t : TermId) (s : SortId) (core : Core) → IsInside state t → IsUnbuilt state t → slice_get state.terms t.0 ≡ Some (core, s) → (sort : Sort) → slice_get state.declarations.sorts s.0 ≡ Some sort → (IsSingle state.declarations s.0 → ⊥) → (IsInfinite state.declarations s.0 → ⊥) → (kind : Kind) → sort.kind ≡ kind → ⊥
      by_kind t s core inside none at sort at_sort several few BoolKind is =
          let first : s.0 ≡ 0 = subst (λ (k : Kind). FitsKind s.0 k (length sort.ctors)) is (consistent.kinds s.0 sort at_sort) in
          let bool : s ≡ bool_sort = λ i. record { 0 = first i } in
          elim (decided.booleans t (core, at ∙ ap (λ (q : SortId). Some (core, q)) bool)) [
            | inl yes_is ↦ none (truth_term true) (truth_built true) yes_is
            | inr no_is ↦ none (truth_term false) (truth_built false) no_is
          ]
      by_kind t s core inside none at sort at_sort several few Free is = few (λ set closed. closed.free s.0 sort at_sort is)
      by_kind t s core inside none at sort at_sort several few Data is =
          split_built t s (record { unsettled = record { core = core; stands = at; structured = (sort, at_sort, inl is); unbuilt = unbuilt_core t s core inside none at }; cause = inr (several, few) }) none
      by_kind t s core inside none at sort at_sort several few Codata is =
          split_built t s (record { unsettled = record { core = core; stands = at; structured = (sort, at_sort, inr is); unbuilt = unbuilt_core t s core inside none at }; cause = inr (several, few) }) none

  module _ (laws : Laws) (extensional : IsStronglyExtensional state) (defaults : List NodeId) (unbuilt : List OpenClass) (open_classes : AreOpenClasses state unbuilt) (g : Nodes) (of_sorts : AreOfAllSorts state.declarations g defaults) (value : TermId → Point) (values : AreValuesWith state g defaults unbuilt [] value) where
    -- a single class has the node of its sort
    single_node : (t : TermId) (s : SortId) → IsUnbuilt state t → IsOfSort state.terms t s → IsSort state.declarations s → IsSingle state.declarations s.0 → (n : NodeId) × HasNodeSort state.declarations g n s × AgreeAlways (value t) (node_point g n)
    single_node t s none is_of declared single =
        let (n, at) = slice_get-there defaults s.0 (subst (λ (k : ℕ). s.0 < k) (sym of_sorts.long) declared) in
        (n, of_sorts.sorted s.0 n at, values.single t s n none is_of single at)

    node_head_is : (p : Point) (n : NodeId) (node : Node) (h : Head) → AgreeAlways p (node_point g n) → slice_get g n.0 ≡ Some node → head p ≡ Some h → node_head node ≡ h
    node_head_is p n node h same at is = same_Some (node_head node) h (sym (ap (option_map node_head) at) ∙ sym ((laws.always p (node_point g n)).0 same).0 ∙ is)

    -- terms of a single sort are equal
    single_equal : (t u : TermId) (s : SortId) → IsOfSort state.terms t s → IsOfSort state.terms u s → IsSingle state.declarations s.0 → AreEqual state t u
    single_equal t u s left right single = quiet.closed.closed t u (by_singleton (record { sort = s; left = left; right = right; single = single }))

    -- the mark of an open class is no node of a declared sort
    not_marked : (t : TermId) (o : TermId) (s : SortId) (n : NodeId) → IsSort state.declarations s → HasNodeSort state.declarations g n s → AgreeAlways (value t) (node_point g n) → AgreeAlways (value t) (mark state o) → ⊥
    not_marked t o s n declared (node, at, is) same marked =
        let h = node_head_is (value t) n node (heads.Elem (record { 0 = length state.declarations.sorts }) o.0) same at ((laws.always (value t) (mark state o)).0 marked).0 in
        let e = same_Some s (record { 0 = length state.declarations.sorts }) (sym is ∙ element_sort state.declarations node (record { 0 = length state.declarations.sorts }) o.0 h) in
        let number : s.0 ≡ length state.declarations.sorts = ap (λ (q : SortId). q.0) e in
        omega (arith, declared, number)

    marked_at : (t : TermId) (i : ℕ) (class : OpenClass) → slice_get unbuilt i ≡ Some class → AreEqual state t class.rep → AgreeAlways (value t) (mark state class.rep)
    marked_at t i class listed equal = laws.chained (value t) (value class.rep) (mark state class.rep) (values.classes.equal t class.rep equal) (values.marked i class listed (omega arith))

    told_marked : (t u : TermId) (i : ℕ) (class : OpenClass) → slice_get unbuilt i ≡ Some class → AreEqual state t class.rep → IsInside state u → AgreeAlways (value t) (value u) → AreEqual state t u
    told_marked t u i class listed equal inside h =
        let marked = laws.chained (value u) (value t) (mark state class.rep) (laws.turned (value t) (value u) h) (marked_at t i class listed equal) in
        let head_is = ((laws.always (value u) (mark state class.rep)).0 marked).0 in
        elim (built_cases state u) [
          | inl (c, args, built) ↦
              let e = same_Some (heads.Con c) (heads.Elem (record { 0 = length state.declarations.sorts }) class.rep.0) (sym (over laws state ordered value values.classes u c args built).head_is ∙ head_is) in
              cc
          | inr none ↦ elim (kind_of laws state ordered represented of_sizes defaults unbuilt open_classes u inside none) [
            | inl (s, is_of, declared, single) ↦ let (n, has, same) = single_node u s none is_of declared single in absurd (not_marked u class.rep s n declared has same marked)
            | inr (j, other, listed_too, equal_too) ↦
                let other_head = ((laws.always (value u) (mark state other.rep)).0 (marked_at u j other listed_too equal_too)).0 in
                let e = same_Some (heads.Elem (record { 0 = length state.declarations.sorts }) class.rep.0) (heads.Elem (record { 0 = length state.declarations.sorts }) other.rep.0) (sym head_is ∙ other_head) in
                let number : class.rep.0 ≡ other.rep.0 = cc in
                let same : class.rep ≡ other.rep = λ i. record { 0 = number i } in
                (equal.0, equal.1, equal_too.1 ∙ sym equal_too.2 ∙ sym (ap (λ (r : TermId). slice_get state.reps r.0) same) ∙ equal.2)
          ]
        ]

    told_single : (t u : TermId) (s : SortId) → IsUnbuilt state t → IsOfSort state.terms t s → IsSort state.declarations s → IsSingle state.declarations s.0 → IsInside state u → AgreeAlways (value t) (value u) → AreEqual state t u
    told_single t u s none is_of declared single inside h =
        let (n, (node, at, sort_is), same) = single_node t s none is_of declared single in
        let same_u = laws.chained (value u) (value t) (node_point g n) (laws.turned (value t) (value u) h) same in
        elim (built_cases state u) [
          | inl (c, args, built) ↦
              let head_is = node_head_is (value u) n node (heads.Con c) same_u at (over laws state ordered value values.classes u c args built).head_is in
              let constructs = sorted built.con.0 (Con c args) built.stands.0 built.stands.1 in
              let e : constructs.ctor.sort ≡ s = same_Some constructs.ctor.sort s (sym (ap (option_map (λ (k : Constructor). k.sort)) constructs.declared) ∙ sym (constructor_sort state.declarations node c head_is) ∙ sort_is) in
              let con_sort : IsOfSort state.terms built.con s = (Con c args, built.stands.1 ∙ ap (λ (q : SortId). Some (Con c args, q)) (constructs.result ∙ e)) in
              single_equal t u s is_of (represented.one_sort built.con u s (built.equal.0, built.equal.2, built.equal.1) con_sort) single
          | inr none_u ↦ elim (kind_of laws state ordered represented of_sizes defaults unbuilt open_classes u inside none_u) [
            | inl (r, is_of_u, declared_u, single_u) ↦
                let (m, (other, at_other, other_is), same_other) = single_node u r none_u is_of_u declared_u single_u in
                let head_is = node_head_is (value u) n node (node_head other) same_u at (((laws.always (value u) (node_point g m)).0 same_other).0 ∙ ap (option_map node_head) at_other) in
                let e : s ≡ r = same_Some s r (sym sort_is ∙ one_head_sort state.declarations node other head_is ∙ other_is) in
                single_equal t u s is_of (subst (λ (q : SortId). IsOfSort state.terms u q) (sym e) is_of_u) single
            | inr (j, class, listed, equal) ↦ absurd (not_marked u class.rep s n declared (node, at, sort_is) same_u (marked_at u j class listed equal))
          ]
        ]

    pub apart_at_start : AreApart state value
    apart_at_start = apart_where_told laws state ordered value values.classes values.closed extensional
        (λ t inside none u in_u h. elim (kind_of laws state ordered represented of_sizes defaults unbuilt open_classes t inside none) [
          | inl (s, is_of, declared, single) ↦ told_single t u s none is_of declared single in_u h
          | inr (i, class, listed, equal) ↦ told_marked t u i class listed equal in_u h
        ]) represented.long
