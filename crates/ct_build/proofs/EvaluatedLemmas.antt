-- Each term evaluates to the value of its class.
use Rattle.std.proofs.Common.{◌≡◌, ℕ, zero, suc, ◌<◌, ◌⊎◌, Bool, true, false, not, ◌&&◌, ◌||◌, ◌≤◌, IsTrue, List, [], ◌∷◌, length, map, slice_get, Some, Option, All, unwrap_or, ◌==◌, if◌then◌else◌, refl, sym, ◌∙◌, ap, subst, inl, inr, arith, true≢false}
use Rattle.std.specs.List.{AllZip, AllByRecursion, list_all, list_any}
use Rattle.std.specs.Cmp.Lexicographic.{pointwise}
use Rattle.std.proofs.lemmas.Bool.{cases_Bool, and_parts, and_from, eq-eqb, ne_eqb}
use Rattle.std.proofs.lemmas.Option.{none-some, same_Some, slice_get_within, slice_get-get_or}
use Rattle.ct_lemmas.proofs.Contained.{Contains-from_slice_get}
use Rattle.ct_lemmas.proofs.Each.{All-from_slice_get}
use Rattle.ct_lemmas.proofs.Lists.{slice_get-there}
use Rattle.ct_lemmas.proofs.Prefixes.{slice_get-take}
use Rattle.ct_sorts.specs.declared.ids.CtorId.{CtorId}
use Rattle.ct_sorts.specs.declared.ids.SelId.{SelId}
use Rattle.ct_sorts.specs.declared.ids.FunId.{FunId}
use Rattle.ct_sorts.specs.declared.ids.SortId.{SortId}
use Rattle.ct_sorts.specs.declared.ids.Kind.{Kind}
use Rattle.ct_sorts.specs.declared.ids.Kind.TheVariants.{Bool as BoolKind, Free, Data, Codata}
use Rattle.ct_sorts.specs.Declarations.{Sort, Constructor, Selector, bool_sort}
use Rattle.ct_sorts.specs.Consistent.{IsConsistent, FitsKind}
use Rattle.ct_sorts.specs.Structure.{AreOfTheirSorts, AreOfTheirConstructors}
use Rattle.ct_values.specs.declared.node.Head.TheVariants as heads
use Rattle.ct_values.specs.declared.node.NodeId.{NodeId}
use Rattle.ct_values.specs.Graph.{Nodes, IsClosed}
use Rattle.ct_values.specs.Value.{Value, reference, construct, values_of}
use Rattle.ct_values.specs.Agreement.{Point, point, node_point, children, children_of, same, AgreeAlways}
use Rattle.ct_values.specs.TruthValue.{truth, truth_ctor, is_head, is_built, is_true}
use Rattle.ct_terms.specs.declared.ids.TermId.{TermId}
use Rattle.ct_terms.specs.declared.term.Core.{Core}
use Rattle.ct_terms.specs.declared.term.Core.TheVariants.{Con, Sel, Test, Apply, Eq, Not, And, Or, Iff, Ite}
use Rattle.ct_terms.specs.Terms.{Terms, Has, IsOfSort, IsBoolean, IsOfField, AreSorted, AreOrdered, BeginsWithTruths}
use Rattle.ct_rules.specs.Rules.{truth_term, by_congruence, by_selection, by_testing, by_equation_in, by_equation_out, by_negation}
use Rattle.ct_closure.specs.ClosedTable.{IsArgument, IsSplitTerm, HasCases}
use Rattle.ct_congr.specs.State.{State, AreEqual, IsQuiet}
use Rattle.ct_eval.specs.declared.interp.Row.{Row}
use Rattle.ct_eval.specs.declared.interp.Table.{Table}
use Rattle.ct_eval.specs.declared.interp.Interp.{Interp}
use Rattle.ct_eval.specs.LookUp.{are_same, row_for, look_up}
use Rattle.ct_eval.specs.Evaluation.{core_value, select, table_value, value_of}
use Rattle.ct_eval.specs.EvaluationStep.{node_under}
use Rattle.ct_build.specs.Assignment.{AreDecided, IsTrueTerm, IsFalseTerm}
use Rattle.ct_build.specs.ClassValues.{Laws, IsInside, IsBuilt, IsBuiltBy, IsUnbuilt, IsConstructed}
use Rattle.ct_build.specs.Nodes.{term_point, AreValued}
use Rattle.ct_build.specs.Tables.{AreFunctionRows, AreSelectorRows}
use Rattle.ct_build.proofs.CollisionLemmas.{built_cases, over}
use Rattle.ct_build.proofs.StageLemmas.{AreRepresented}
use Rattle.ct_build.proofs.AssignedLemmas.{ctor_cases}
use Rattle.ct_build.proofs.StartLemmas.{AreSized, split_built, unbuilt_core}

-- ---- rows of tables

-- a test of two lists at each place
zip_of : (ps qs : List Point) → pointwise same ps qs ≡ true → AllZip (λ p q. same p q ≡ true) ps qs
zip_of [] [] h = tt
zip_of [] (q ∷ qs) h = absurd (true≢false (sym h))
zip_of (p ∷ ps) [] h = absurd (true≢false (sym h))
zip_of (p ∷ ps) (q ∷ qs) h = let parts = and_parts (same p q) (pointwise same ps qs) h in (parts.0, zip_of ps qs parts.1)

of_zip : (ps qs : List Point) → AllZip (λ p q. same p q ≡ true) ps qs → pointwise same ps qs ≡ true
of_zip [] [] h = refl
of_zip [] (q ∷ qs) h = absurd h
of_zip (p ∷ ps) [] h = absurd h
of_zip (p ∷ ps) (q ∷ qs) h = and_from (same p q) (pointwise same ps qs) h.0 (of_zip ps qs h.1)

-- where every row for these values gives one node, and there is a row, the table gives this node
rows_find : (g : Nodes) (rows : List Row) (values : List Value) (n : NodeId) → ((k : ℕ) (row : Row) → slice_get rows k ≡ Some row → are_same g row.args values ≡ true → row.result ≡ n) → (k : ℕ) (row : Row) → slice_get rows k ≡ Some row → are_same g row.args values ≡ true → row_for g rows values ≡ Some n
rows_find g [] values n all k row at is = absurd (none-some row at)
rows_find g (first ∷ rows) values n all k row at is = elim (cases_Bool (are_same g first.args values)) [
  | inl yes_is ↦ ap (λ (b : Bool). if b then Some first.result else row_for g rows values) yes_is ∙ ap Some (all 0 first refl yes_is)
  | inr no_is ↦ ap (λ (b : Bool). if b then Some first.result else row_for g rows values) no_is ∙ later (λ j r at_r is_r. rows_find g rows values n (λ q x at_x. all (suc q) x at_x) j r at_r is_r) k row at is no_is
]
  where
    later : ((j : ℕ) (r : Row) → slice_get rows j ≡ Some r → are_same g r.args values ≡ true → row_for g rows values ≡ Some n) → (k : ℕ) (row : Row) → slice_get (first ∷ rows) k ≡ Some row → are_same g row.args values ≡ true → are_same g first.args values ≡ false → row_for g rows values ≡ Some n
    later rest zero row at is no_is = absurd (true≢false (sym is ∙ ap (λ (r : Row). are_same g r.args values) (sym (same_Some first row at)) ∙ no_is))
    later rest (suc k) row at is no_is = rest k row at is

look_up_is : (g : Nodes) (table : Table) (values : List Value) (n : NodeId) → row_for g table.rows values ≡ Some n → look_up g table values ≡ n
look_up_is g table values n e = ap (λ (o : Option NodeId). unwrap_or o table.default) e

-- the points of a list of values, and of nodes of terms
children_of_constructed : (g : Nodes) (c : CtorId) (list : List Value) → children_of g (construct c (values_of list)) ≡ list
children_of_constructed g c [] = refl
children_of_constructed g c (v ∷ vs) = ap (λ l. v ∷ l) (children_of_constructed g c vs)

module _ (laws : Laws) (state : State) (sorted : AreSorted state.declarations state.terms) (ordered : AreOrdered state.terms) (begins : BeginsWithTruths state.terms) (consistent : IsConsistent state.declarations) (own_sorts : AreOfTheirSorts state.declarations) (own_ctors : AreOfTheirConstructors state.declarations) (some : 1 ≤ length state.declarations.sorts) (represented : AreRepresented state) (quiet : IsQuiet state) (decided : AreDecided state) (sized : AreSized state.declarations)
    (splits : (t : TermId) (s : SortId) → IsSplitTerm state.declarations state.terms t s → HasCases state.declarations state.terms t s)
    (i : Interp) (closed : IsClosed i.graph) (nodes : List NodeId) (valued : AreValued state i.graph nodes)
    (funs : AreFunctionRows state.terms nodes (length state.terms) i.funs) (offs : AreSelectorRows state nodes (length state.terms) i.offs)
    (unfolds : (t : TermId) (core : Core) (sort : SortId) → slice_get state.terms t.0 ≡ Some (core, sort) → value_of state.declarations i state.terms t ≡ core_value state.declarations i (value_of state.declarations i state.terms) core) where
  -- what a term evaluates to, and the value of its class
  abbrev of_term : TermId → Value
  of_term = value_of state.declarations i state.terms

  abbrev evaluated : TermId → Point
  evaluated t = point i.graph (of_term t)

  abbrev class_value : TermId → Point
  class_value = term_point i.graph nodes

  abbrev Evaluates : TermId → Type 0
  Evaluates t = AgreeAlways (evaluated t) (class_value t)

  -- ---- truth values
  truth_stands : (b : Bool) → Has state.terms (Con (truth_ctor b) []) (truth_term b).0
  truth_stands true = (bool_sort, slice_get-take 2 state.terms 0 _ (ap (λ (ts : Terms). slice_get ts 0) begins))
  truth_stands false = (bool_sort, slice_get-take 2 state.terms 1 _ (ap (λ (ts : Terms). slice_get ts 1) begins))

  truth_constructed : (t : TermId) (b : Bool) → AreEqual state t (truth_term b) → IsConstructed class_value (truth_ctor b) [] (class_value t)
  truth_constructed t b equal = over laws state ordered class_value valued.classes t (truth_ctor b) [] (record { con = truth_term b; equal = equal; stands = truth_stands b })

  truth_agrees : (t : TermId) (b : Bool) → AreEqual state t (truth_term b) → AgreeAlways (point i.graph (truth b)) (class_value t)
  truth_agrees t b equal =
      let is = truth_constructed t b equal in
      (laws.always (point i.graph (truth b)) (class_value t)).1 (sym is.head_is, none_left (children (class_value t)) is.children_are)
    where
      none_left : (ps : List Point) → AllZip AgreeAlways ps [] → AllZip AgreeAlways [] ps
      none_left [] h = tt
      none_left (p ∷ ps) h = absurd h

  -- a term that evaluates to this truth value
  by_truth : (t : TermId) (b : Bool) (v : Value) → of_term t ≡ truth b → AreEqual state t (truth_term b) → Evaluates t
  by_truth t b v e equal = subst (λ (w : Value). AgreeAlways (point i.graph w) (class_value t)) (sym e) (truth_agrees t b equal)

  is_true_of : (a : TermId) (b : Bool) → Evaluates a → AreEqual state a (truth_term b) → is_true i.graph (of_term a) ≡ b
  is_true_of a b agree equal = ap (is_head (truth_ctor true)) (((laws.always (evaluated a) (class_value a)).0 agree).0 ∙ (truth_constructed a b equal).head_is) ∙ computed b
    where
      computed : (b : Bool) → is_head (truth_ctor true) (Some (heads.Con (truth_ctor b))) ≡ b
      computed true = refl
      computed false = refl

  -- the truth value of a Boolean term
  truth_of : (t : TermId) → IsBoolean state.terms t → (b : Bool) × AreEqual state t (truth_term b)
  truth_of t boolean = elim (decided.booleans t boolean) [ inl h ↦ (true, h) | inr h ↦ (false, h) ]

  truths_apart : AreEqual state (truth_term true) (truth_term false) → ⊥
  truths_apart equal = quiet.one (truth_term true) (truth_term false) (record {
    first = record { 0 = 0 };
    second = record { 0 = 1 };
    xs = [];
    ys = [];
    left = truth_stands true;
    right = truth_stands false;
    apart = λ same. let e : zero ≡ suc zero = ap (λ (c : CtorId). c.0) same in absurd (omega (arith, e));
    equal = equal;
  })

  turned_equal : (x y : TermId) → AreEqual state x y → AreEqual state y x
  turned_equal x y h = (h.0, h.2, h.1)

  one_truth : (t : TermId) (a b : Bool) → AreEqual state t (truth_term a) → AreEqual state t (truth_term b) → a ≡ b
  one_truth t true true left right = refl
  one_truth t true false left right = absurd (truths_apart (left.0, left.2, right.2 ∙ sym right.1 ∙ left.1))
  one_truth t false true left right = absurd (truths_apart (left.0, right.2 ∙ sym right.1 ∙ left.1, left.2))
  one_truth t false false left right = refl

  -- ---- inspected terms have constructor terms in their classes
  reflexive : (t : TermId) → IsInside state t → AreEqual state t t
  reflexive t inside = let (r, at) = slice_get-there state.reps t.0 (subst (λ (n : ℕ). t.0 < n) (sym represented.long) inside) in (r, at, at)

  inspected_built : (a : TermId) (c : ℕ) (ctor : Constructor) → IsInside state a → IsArgument state.terms a → slice_get state.declarations.ctors c ≡ Some ctor → IsOfSort state.terms a ctor.sort → IsBuilt state a
  inspected_built a c ctor inside argument declared has = elim (built_cases state a) [
    | inl built ↦ built
    | inr none ↦ absurd (by_kind none (own_sorts c ctor declared).0 (own_sorts c ctor declared).1 (own_sorts c ctor declared).2 (own_sorts c ctor declared).3 (own_sorts c ctor declared).0.kind refl)
  ]
    where
      by_split : IsUnbuilt state a → (sort : Sort) → slice_get state.declarations.sorts ctor.sort.0 ≡ Some sort → (sort.kind ≡ Data) ⊎ (sort.kind ≡ Codata) → ⊥
      by_split none sort at kind = split_built state sorted ordered begins consistent own_sorts some represented quiet decided sized splits a ctor.sort (record {
        unsettled = record { core = has.0; stands = has.1; structured = (sort, at, kind); unbuilt = unbuilt_core state sorted ordered begins consistent own_sorts some represented quiet decided sized splits a ctor.sort has.0 inside none has.1 };
        cause = inl argument;
      }) none

      by_kind : IsUnbuilt state a → (sort : Sort) (index : ℕ) → slice_get state.declarations.sorts ctor.sort.0 ≡ Some sort → slice_get sort.ctors index ≡ Some (record { 0 = c }) → (kind : Kind) → sort.kind ≡ kind → ⊥
      by_kind none sort index at listed BoolKind is =
          let first : ctor.sort.0 ≡ 0 = subst (λ (k : Kind). FitsKind ctor.sort.0 k (length sort.ctors)) is (consistent.kinds ctor.sort.0 sort at) in
          let bool : ctor.sort ≡ bool_sort = λ j. record { 0 = first j } in
          let (b, equal) = truth_of a (has.0, has.1 ∙ ap (λ (q : SortId). Some (has.0, q)) bool) in
          none (truth_term b) (truth_ctor b, [], truth_stands b) equal
      by_kind none sort index at listed Free is =
          let count : length sort.ctors ≡ 0 = subst (λ (k : Kind). FitsKind ctor.sort.0 k (length sort.ctors)) is (consistent.kinds ctor.sort.0 sort at) in
          absurd (omega (arith, count, slice_get_within sort.ctors index (record { 0 = c }) listed))
      by_kind none sort index at listed Data is = by_split none sort at (inl is)
      by_kind none sort index at listed Codata is = by_split none sort at (inr is)

  -- which constructor builds the value of a term
  built_is : (a : TermId) (c k : CtorId) (args : List TermId) → Evaluates a → IsBuiltBy state a k args → is_built i.graph c (of_term a) ≡ (k.0 == c.0)
  built_is a c k args agree built = ap (is_head c) (((laws.always (evaluated a) (class_value a)).0 agree).0 ∙ (over laws state ordered class_value valued.classes a k args built).head_is)

  -- ---- rows for arguments
  same_always : (v : Value) (n : NodeId) → (same (node_point i.graph n) (point i.graph v) ≡ true) → AgreeAlways (node_point i.graph n) (point i.graph v)
  same_always v n h = (laws.every_depth (node_point i.graph n) (point i.graph v) closed closed).0 h

  -- rows whose nodes are those of terms, and values of terms that evaluate to their classes
  args_equal : (xs ys : List TermId) → AllByRecursion (IsInside state) xs → AllByRecursion (IsInside state) ys → AllByRecursion Evaluates ys → AllZip (λ p q. same p q ≡ true) (map (node_point i.graph) (map (node_under nodes) xs)) (map (point i.graph) (map of_term ys)) → AllZip (AreEqual state) xs ys
  args_equal [] [] in_x in_y agree h = tt
  args_equal [] (y ∷ ys) in_x in_y agree h = absurd h
  args_equal (x ∷ xs) [] in_x in_y agree h = absurd h
  args_equal (x ∷ xs) (y ∷ ys) in_x in_y agree h =
      (valued.apart x y in_x.0 in_y.0 (laws.chained (class_value x) (evaluated y) (class_value y) (same_always (of_term y) (node_under nodes x) h.0) agree.0), args_equal xs ys in_x.1 in_y.1 agree.1 h.1)

  args_same : (ys : List TermId) → AllByRecursion Evaluates ys → AllZip (λ p q. same p q ≡ true) (map (node_point i.graph) (map (node_under nodes) ys)) (map (point i.graph) (map of_term ys))
  args_same [] agree = tt
  args_same (y ∷ ys) agree = ((laws.every_depth (class_value y) (evaluated y) closed closed).1 (laws.turned (evaluated y) (class_value y) agree.0), args_same ys agree.1)

  -- terms under a term
  below_inside : (n : ℕ) (args : List TermId) → n < length state.terms → AllByRecursion (λ a. a.0 < n) args → AllByRecursion (IsInside state) args
  below_inside n [] within h = tt
  below_inside n (a ∷ args) within h = (omega (arith, within, h.0), below_inside n args within h.1)

  stands_inside : (t : TermId) (core : Core) → Has state.terms core t.0 → IsInside state t
  stands_inside t core has = slice_get_within state.terms t.0 _ has.1

  -- ---- one kind of term after the other
  abbrev Before : TermId → Type 0
  Before t = (a : TermId) → a.0 < t.0 → Evaluates a

  all_before : (t : TermId) → Before t → (args : List TermId) → AllByRecursion (λ a. a.0 < t.0) args → AllByRecursion Evaluates args
  all_before t before [] h = tt
  all_before t before (a ∷ args) h = (before a h.0, all_before t before args h.1)

  evaluates_con : (t : TermId) (c : CtorId) (args : List TermId) → Has state.terms (Con c args) t.0 → Before t → Evaluates t
  evaluates_con t c args stands before =
      let is = valued.classes.built t c args stands in
      subst (λ (v : Value). AgreeAlways (point i.graph v) (class_value t)) (sym (unfolds t (Con c args) stands.0 stands.1))
      ((laws.always (point i.graph (construct c (values_of (map of_term args)))) (class_value t)).1 (
        sym is.head_is,
        subst (λ (vs : List Value). AllZip AgreeAlways (map (point i.graph) vs) (children (class_value t))) (sym (children_of_constructed i.graph c (map of_term args)))
            (zip_children args (children (class_value t)) (all_before t before args (ordered t.0 (Con c args) stands)) is.children_are),
      ))
    where
      zip_children : (args : List TermId) (ps : List Point) → AllByRecursion Evaluates args → AllZip AgreeAlways ps (map class_value args) → AllZip AgreeAlways (map (point i.graph) (map of_term args)) ps
      zip_children [] [] agree h = tt
      zip_children [] (p ∷ ps) agree h = absurd h
      zip_children (a ∷ args) [] agree h = absurd h
      zip_children (a ∷ args) (p ∷ ps) agree h = (laws.chained (evaluated a) (class_value a) p agree.0 (laws.turned p (class_value a) h.0), zip_children args ps agree.1 h.1)

  evaluates_apply : (t : TermId) (f : FunId) (args : List TermId) → Has state.terms (Apply f args) t.0 → Before t → Evaluates t
  evaluates_apply t f args stands before =
      let inside = stands_inside t (Apply f args) stands in
      let below = ordered t.0 (Apply f args) stands in
      let agree = all_before t before args below in
      let row = funs.each t f args inside stands in
      let found : row_for i.graph row.table.rows (map of_term args) ≡ Some (node_under nodes t) =
      rows_find i.graph row.table.rows (map of_term args) (node_under nodes t)
      (λ k other at is. one_result k other row.table row.at at is inside agree (below_inside t.0 args inside below))
      row.index row.row row.listed
      (of_zip (map (node_point i.graph) row.row.args) (map (point i.graph) (map of_term args))
      (subst (λ (ns : List NodeId). AllZip (λ p q. same p q ≡ true) (map (node_point i.graph) ns) (map (point i.graph) (map of_term args))) (sym row.args_are) (args_same args agree))) in
      let value : of_term t ≡ reference (node_under nodes t) = unfolds t (Apply f args) stands.0 stands.1
      ∙ ap (λ (o : Option Table). table_value i o (map of_term args)) row.at
      ∙ ap reference (look_up_is i.graph row.table (map of_term args) (node_under nodes t) found) in
      subst (λ (v : Value). AgreeAlways (point i.graph v) (class_value t)) (sym value) (laws.itself (class_value t))
    where
      one_result : (k : ℕ) (other : Row) (table : Table) → slice_get i.funs f.0 ≡ Some table → slice_get table.rows k ≡ Some other → are_same i.graph other.args (map of_term args) ≡ true → IsInside state t → AllByRecursion Evaluates args → AllByRecursion (IsInside state) args → other.result ≡ node_under nodes t
      one_result k other table at_table at is inside agree in_args =
          let from = funs.only f.0 k table other at_table at in
          let from_inside = stands_inside from.term (Apply f from.args) from.stands in
          let args_are = args_equal from.args args (below_inside from.term.0 from.args from_inside (ordered from.term.0 (Apply f from.args) from.stands)) in_args agree
          (zip_of (map (node_point i.graph) (map (node_under nodes) from.args)) (map (point i.graph) (map of_term args)) (ap (λ (ns : List NodeId). are_same i.graph ns (map of_term args)) (sym from.args_are) ∙ is)) in
          let equal : AreEqual state from.term t = quiet.closed.closed from.term t (by_congruence (record { left = Apply f from.args; right = Apply f args; left_stands = from.stands; right_stands = stands; head = refl; arguments = args_are })) in
          from.result_is ∙ valued.one_node from.term t equal

  evaluates_sel : (t : TermId) (s : SelId) (a : TermId) → Has state.terms (Sel s a) t.0 → Before t → Evaluates t
  evaluates_sel t s a stands before =
      let inside = stands_inside t (Sel s a) stands in
      let selects = sorted t.0 (Sel s a) stands.0 stands.1 in
      let below : a.0 < t.0 = (ordered t.0 (Sel s a) stands).0 in
      let in_a : IsInside state a = omega (arith, below, inside) in
      let agree = before a below in
      let (k, args, built) = inspected_built a selects.selector.ctor.0 selects.ctor in_a (inl (s, (t.0, stands))) selects.constructor selects.sorted in
      elim (ctor_cases k selects.selector.ctor) [
        | inl e ↦ rightly selects.selector selects.declared args (subst (λ (c : CtorId). IsBuiltBy state a c args) e built) agree
        | inr other ↦ wrongly selects.selector selects.declared k args built other agree inside in_a
      ]
    where
      selected : (selector : Selector) → slice_get state.declarations.sels s.0 ≡ Some selector → (b : Bool) → is_built i.graph selector.ctor (of_term a) ≡ b → of_term t ≡ (if b then unwrap_or (slice_get (children_of i.graph (of_term a)) selector.place) (of_term a) else table_value i (slice_get i.offs s.0) (of_term a ∷ []))
      selected selector declared b e =
          unfolds t (Sel s a) stands.0 stands.1
          ∙ ap (λ (o : Option Selector). core_select o) declared
          ∙ ap (λ (x : Bool). if x then unwrap_or (slice_get (children_of i.graph (of_term a)) selector.place) (of_term a) else table_value i (slice_get i.offs s.0) (of_term a ∷ [])) e
        where
          core_select : Option Selector → Value
          core_select o = select i s o (of_term a)

      rightly : (selector : Selector) → slice_get state.declarations.sels s.0 ≡ Some selector → (args : List TermId) → IsBuiltBy state a selector.ctor args → Evaluates a → Evaluates t
      rightly selector declared args built agree =
          let constructs = sorted built.con.0 (Con selector.ctor args) built.stands.0 built.stands.1 in
          let (own, at_own, listed) = own_ctors s.0 selector declared in
          let same : own ≡ constructs.ctor = same_Some own constructs.ctor (sym at_own ∙ constructs.declared) in
          let (b, at_b) = argument_at args constructs.ctor.sels selector.place constructs.fields (ap (λ (k : Constructor). slice_get k.sels selector.place) (sym same) ∙ listed) in
          let equal : AreEqual state t b = quiet.closed.closed t b (by_selection (record { sel = s; selector = selector; argument = a; con = built.con; args = args; stands = stands; declared = declared; equal = built.equal; con_stands = built.stands; at = at_b })) in
          let is_so : is_built i.graph selector.ctor (of_term a) ≡ true = built_is a selector.ctor selector.ctor args agree built ∙ eq-eqb selector.ctor.0 selector.ctor.0 refl in
          let of_class = over laws state ordered class_value valued.classes a selector.ctor args built in
          let parts = (laws.always (evaluated a) (class_value a)).0 agree in
          let (w, at_w, agree_w) = child_at (children_of i.graph (of_term a)) (children (class_value a)) args selector.place b parts.1 of_class.children_are at_b in
          let value : of_term t ≡ w = selected selector declared true is_so ∙ ap (λ (o : Option Value). unwrap_or o (of_term a)) at_w in
          subst (λ (v : Value). AgreeAlways (point i.graph v) (class_value t)) (sym value) (laws.chained (point i.graph w) (class_value b) (class_value t) agree_w (laws.turned (class_value t) (class_value b) (valued.classes.equal t b equal)))
        where
          argument_at : (args : List TermId) (sels : List SelId) (k : ℕ) → AllZip (IsOfField state.declarations state.terms) args sels → slice_get sels k ≡ Some (record { 0 = s.0 }) → (b : TermId) × (slice_get args k ≡ Some b)
          argument_at [] [] k h at = absurd (none-some _ at)
          argument_at [] (q ∷ sels) k h at = absurd h
          argument_at (b ∷ args) [] k h at = absurd h
          argument_at (b ∷ args) (q ∷ sels) zero h at = (b, refl)
          argument_at (b ∷ args) (q ∷ sels) (suc k) h at = argument_at args sels k h.1 at

          child_at : (vs : List Value) (ps : List Point) (args : List TermId) (k : ℕ) (b : TermId) → AllZip AgreeAlways (map (point i.graph) vs) ps → AllZip AgreeAlways ps (map class_value args) → slice_get args k ≡ Some b → (w : Value) × (slice_get vs k ≡ Some w) × AgreeAlways (point i.graph w) (class_value b)
          child_at vs ps [] k b h g at = absurd (none-some _ at)
          child_at [] [] (c ∷ args) k b h g at = absurd g
          child_at [] (p ∷ ps) (c ∷ args) k b h g at = absurd h
          child_at (v ∷ vs) [] (c ∷ args) k b h g at = absurd h
          child_at (v ∷ vs) (p ∷ ps) (c ∷ args) zero b h g at =
              (v, refl, subst (λ (q : TermId). AgreeAlways (point i.graph v) (class_value q)) (same_Some c b at) (laws.chained (point i.graph v) p (class_value c) h.0 g.0))
          child_at (v ∷ vs) (p ∷ ps) (c ∷ args) (suc k) b h g at = child_at vs ps args k b h.1 g.1 at

      wrongly : (selector : Selector) → slice_get state.declarations.sels s.0 ≡ Some selector → (k : CtorId) (args : List TermId) → IsBuiltBy state a k args → (k ≡ selector.ctor → ⊥) → Evaluates a → IsInside state t → IsInside state a → Evaluates t
      wrongly selector declared k args built other agree inside in_a =
          let wrong : (xs : List TermId) → IsBuiltBy state a selector.ctor xs → ⊥ = λ xs is. absurd (quiet.one built.con is.con (record {
            first = k;
            second = selector.ctor;
            xs = args;
            ys = xs;
            left = built.stands;
            right = is.stands;
            apart = other;
            equal = (built.equal.0, built.equal.2, sym (sym built.equal.1 ∙ is.equal.1 ∙ sym is.equal.2));
          })) in
          let row = offs.each t s a selector inside stands declared wrong in
          let not_so : is_built i.graph selector.ctor (of_term a) ≡ false = built_is a selector.ctor k args agree built ∙ ne_eqb k.0 selector.ctor.0 (λ e. other (λ j. record { 0 = e j })) in
          let found : row_for i.graph row.table.rows (of_term a ∷ []) ≡ Some (node_under nodes t) =
          rows_find i.graph row.table.rows (of_term a ∷ []) (node_under nodes t)
          (λ k row_k at is. one_result k row_k row.table row.at at is agree in_a)
          row.index row.row row.listed
          (of_zip (map (node_point i.graph) row.row.args) (map (point i.graph) (map of_term (a ∷ [])))
          (subst (λ (ns : List NodeId). AllZip (λ p q. same p q ≡ true) (map (node_point i.graph) ns) (map (point i.graph) (map of_term (a ∷ [])))) (sym row.args_are) (args_same (a ∷ []) (agree, tt)))) in
          let value : of_term t ≡ reference (node_under nodes t) = selected selector declared false not_so
          ∙ ap (λ (o : Option Table). table_value i o (of_term a ∷ [])) row.at
          ∙ ap reference (look_up_is i.graph row.table (of_term a ∷ []) (node_under nodes t) found) in
          subst (λ (v : Value). AgreeAlways (point i.graph v) (class_value t)) (sym value) (laws.itself (class_value t))
        where
          one_result : (k : ℕ) (row_k : Row) (table : Table) → slice_get i.offs s.0 ≡ Some table → slice_get table.rows k ≡ Some row_k → are_same i.graph row_k.args (of_term a ∷ []) ≡ true → Evaluates a → IsInside state a → row_k.result ≡ node_under nodes t
          one_result k row_k table at_table at is agree in_a =
              let from = offs.only s.0 k table row_k at_table at in
              let from_inside = stands_inside from.term (Sel s from.of) from.stands in
              let from_below : from.of.0 < from.term.0 = (ordered from.term.0 (Sel s from.of) from.stands).0 in
              let args_are = args_equal (from.of ∷ []) (a ∷ []) (omega (arith, from_inside, from_below), tt) (in_a, tt) (agree, tt)
              (zip_of (map (node_point i.graph) (map (node_under nodes) (from.of ∷ []))) (map (point i.graph) (map of_term (a ∷ []))) (ap (λ (ns : List NodeId). are_same i.graph ns (of_term a ∷ [])) (sym from.args_are) ∙ is)) in
              let equal : AreEqual state from.term t = quiet.closed.closed from.term t (by_congruence (record { left = Sel s from.of; right = Sel s a; left_stands = from.stands; right_stands = stands; head = refl; arguments = args_are })) in
              from.result_is ∙ valued.one_node from.term t equal

  evaluates_test : (t : TermId) (c : CtorId) (a : TermId) → Has state.terms (Test c a) t.0 → Before t → Evaluates t
  evaluates_test t c a stands before =
      let inside = stands_inside t (Test c a) stands in
      let tests = sorted t.0 (Test c a) stands.0 stands.1 in
      let below : a.0 < t.0 = (ordered t.0 (Test c a) stands).0 in
      let agree = before a below in
      let (k, args, built) = inspected_built a c.0 tests.ctor (omega (arith, below, inside)) (inr (c, (t.0, stands))) tests.declared tests.sorted in
      elim (ctor_cases c k) [
        | inl e ↦ by_truth t true (of_term t)
            (unfolds t (Test c a) stands.0 stands.1 ∙ ap truth (built_is a c k args agree built ∙ eq-eqb k.0 c.0 (ap (λ (q : CtorId). q.0) (sym e))))
            (quiet.closed.closed t (truth_term true) (by_testing (record { tested = c; argument = a; con = built.con; ctor = k; args = args; stands = stands; equal = built.equal; con_stands = built.stands; answer = inl (e, refl) })))
        | inr other ↦ by_truth t false (of_term t)
            (unfolds t (Test c a) stands.0 stands.1 ∙ ap truth (built_is a c k args agree built ∙ ne_eqb k.0 c.0 (λ e. other (λ j. record { 0 = sym e j }))))
            (quiet.closed.closed t (truth_term false) (by_testing (record { tested = c; argument = a; con = built.con; ctor = k; args = args; stands = stands; equal = built.equal; con_stands = built.stands; answer = inr (other, refl) })))
      ]

  evaluates_eq : (t a b : TermId) → Has state.terms (Eq a b) t.0 → Before t → Evaluates t
  evaluates_eq t a b stands before =
      let inside = stands_inside t (Eq a b) stands in
      let equates = sorted t.0 (Eq a b) stands.0 stands.1 in
      let below = ordered t.0 (Eq a b) stands in
      let below_a : a.0 < t.0 = below.0 in
      let below_b : b.0 < t.0 = below.1.0 in
      let agree_a = before a below_a in
      let agree_b = before b below_b in
      elim (decided.booleans t (Eq a b, stands.1 ∙ ap (λ (q : SortId). Some (Eq a b, q)) equates.result)) [
        | inl equal ↦
            let sides : AreEqual state a b = quiet.closed.closed a b (by_equation_out (record { term = t; stands = stands; holds = equal })) in
            by_truth t true (of_term t) (unfolds t (Eq a b) stands.0 stands.1 ∙ ap truth ((laws.every_depth (evaluated a) (evaluated b) closed closed).1
            (laws.chained (evaluated a) (class_value a) (evaluated b) agree_a (laws.chained (class_value a) (class_value b) (evaluated b) (valued.classes.equal a b sides) (laws.turned (evaluated b) (class_value b) agree_b))))) equal
        | inr equal ↦ elim (cases_Bool (same (evaluated a) (evaluated b))) [
          | inr no_is ↦ by_truth t false (of_term t) (unfolds t (Eq a b) stands.0 stands.1 ∙ ap truth no_is) equal
          | inl yes_is ↦
              let one = (laws.every_depth (evaluated a) (evaluated b) closed closed).0 yes_is in
              let sides : AreEqual state a b = valued.apart a b (omega (arith, below_a, inside)) (omega (arith, below_b, inside))
              (laws.chained (class_value a) (evaluated a) (class_value b) (laws.turned (evaluated a) (class_value a) agree_a) (laws.chained (evaluated a) (evaluated b) (class_value b) one agree_b)) in
              let holds : AreEqual state t (truth_term true) = quiet.closed.closed t (truth_term true) (by_equation_in (record { left = a; right = b; stands = stands; equal = sides; answer = refl })) in
              absurd (true≢false (one_truth t true false holds equal))
        ]
      ]

  evaluates_not : (t a : TermId) → Has state.terms (Not a) t.0 → Before t → Evaluates t
  evaluates_not t a stands before =
      let below : a.0 < t.0 = (ordered t.0 (Not a) stands).0 in
      let negates = sorted t.0 (Not a) stands.0 stands.1 in
      elim (decided.booleans a negates.0) [
        | inl equal ↦ by_truth t false (of_term t) (unfolds t (Not a) stands.0 stands.1 ∙ ap (λ (b : Bool). truth (not b)) (is_true_of a true (before a below) equal))
            (quiet.closed.closed t (truth_term false) (by_negation (record { argument = a; stands = stands; answer = inl (equal, refl) })))
        | inr equal ↦ by_truth t true (of_term t) (unfolds t (Not a) stands.0 stands.1 ∙ ap (λ (b : Bool). truth (not b)) (is_true_of a false (before a below) equal))
            (quiet.closed.closed t (truth_term true) (by_negation (record { argument = a; stands = stands; answer = inr (equal, refl) })))
      ]

  -- all of these are true, or one is false
  all_true : (args : List TermId) → ((k : ℕ) (a : TermId) → slice_get args k ≡ Some a → IsBoolean state.terms a) → AllByRecursion Evaluates args
      → (((k : ℕ) (a : TermId) → slice_get args k ≡ Some a → IsTrueTerm state a) × (list_all (λ a. is_true i.graph (of_term a)) args ≡ true))
      ⊎ ((k : ℕ) × (a : TermId) × (slice_get args k ≡ Some a) × IsFalseTerm state a × (list_all (λ a. is_true i.graph (of_term a)) args ≡ false))
  all_true [] booleans agree = inl (λ k a at. absurd (none-some a at), refl)
  all_true (a ∷ args) booleans agree = elim (decided.booleans a (booleans 0 a refl)) [
    | inr equal ↦ inr (0, a, refl, equal, ap (λ (b : Bool). b && list_all (λ x. is_true i.graph (of_term x)) args) (is_true_of a false agree.0 equal))
    | inl equal ↦ elim (all_true args (λ k. booleans (suc k)) agree.1) [
      | inl (each, is) ↦ inl (first a args equal each, ap (λ (b : Bool). b && list_all (λ x. is_true i.graph (of_term x)) args) (is_true_of a true agree.0 equal) ∙ is)
      | inr (k, x, at, no_is, is) ↦ inr (suc k, x, at, no_is, ap (λ (b : Bool). b && list_all (λ y. is_true i.graph (of_term y)) args) (is_true_of a true agree.0 equal) ∙ is)
    ]
  ]
    where
      first : (a : TermId) (args : List TermId) → IsTrueTerm state a → ((k : ℕ) (x : TermId) → slice_get args k ≡ Some x → IsTrueTerm state x) → (k : ℕ) (x : TermId) → slice_get (a ∷ args) k ≡ Some x → IsTrueTerm state x
      first a args equal each zero x at = subst (λ (q : TermId). IsTrueTerm state q) (same_Some a x at) equal
      first a args equal each (suc k) x at = each k x at

  all_false : (args : List TermId) → ((k : ℕ) (a : TermId) → slice_get args k ≡ Some a → IsBoolean state.terms a) → AllByRecursion Evaluates args
      → (((k : ℕ) (a : TermId) → slice_get args k ≡ Some a → IsFalseTerm state a) × (list_any (λ a. is_true i.graph (of_term a)) args ≡ false))
      ⊎ ((k : ℕ) × (a : TermId) × (slice_get args k ≡ Some a) × IsTrueTerm state a × (list_any (λ a. is_true i.graph (of_term a)) args ≡ true))
  all_false [] booleans agree = inl (λ k a at. absurd (none-some a at), refl)
  all_false (a ∷ args) booleans agree = elim (decided.booleans a (booleans 0 a refl)) [
    | inl equal ↦ inr (0, a, refl, equal, ap (λ (b : Bool). b || list_any (λ x. is_true i.graph (of_term x)) args) (is_true_of a true agree.0 equal))
    | inr equal ↦ elim (all_false args (λ k. booleans (suc k)) agree.1) [
      | inl (each, is) ↦ inl (first a args equal each, ap (λ (b : Bool). b || list_any (λ x. is_true i.graph (of_term x)) args) (is_true_of a false agree.0 equal) ∙ is)
      | inr (k, x, at, yes_is, is) ↦ inr (suc k, x, at, yes_is, ap (λ (b : Bool). b || list_any (λ y. is_true i.graph (of_term y)) args) (is_true_of a false agree.0 equal) ∙ is)
    ]
  ]
    where
      first : (a : TermId) (args : List TermId) → IsFalseTerm state a → ((k : ℕ) (x : TermId) → slice_get args k ≡ Some x → IsFalseTerm state x) → (k : ℕ) (x : TermId) → slice_get (a ∷ args) k ≡ Some x → IsFalseTerm state x
      first a args equal each zero x at = subst (λ (q : TermId). IsFalseTerm state q) (same_Some a x at) equal
      first a args equal each (suc k) x at = each k x at

  all_at : (P : TermId → Type 0) (args : List TermId) → All P args → (k : ℕ) (a : TermId) → slice_get args k ≡ Some a → P a
  all_at P args all k a at =
      let within = slice_get_within args k a at in
      subst P (same_Some _ a (sym (slice_get-get_or args k a within) ∙ at)) (all k a within)

  evaluates_and : (t : TermId) (args : List TermId) → Has state.terms (And args) t.0 → Before t → Evaluates t
  evaluates_and t args stands before =
      let joins = sorted t.0 (And args) stands.0 stands.1 in
      elim (all_true args (all_at (IsBoolean state.terms) args joins.booleans) (all_before t before args (ordered t.0 (And args) stands))) [
        | inl (each, is) ↦ by_truth t true (of_term t) (unfolds t (And args) stands.0 stands.1 ∙ ap truth is) ((decided.conjunctions t args stands).0 (All-from_slice_get (IsTrueTerm state) args each))
        | inr (k, a, at, no_is, is) ↦ by_truth t false (of_term t) (unfolds t (And args) stands.0 stands.1 ∙ ap truth is) ((decided.conjunctions t args stands).1 a (Contains-from_slice_get args k a at) no_is)
      ]

  evaluates_or : (t : TermId) (args : List TermId) → Has state.terms (Or args) t.0 → Before t → Evaluates t
  evaluates_or t args stands before =
      let joins = sorted t.0 (Or args) stands.0 stands.1 in
      elim (all_false args (all_at (IsBoolean state.terms) args joins.booleans) (all_before t before args (ordered t.0 (Or args) stands))) [
        | inl (each, is) ↦ by_truth t false (of_term t) (unfolds t (Or args) stands.0 stands.1 ∙ ap truth is) ((decided.disjunctions t args stands).0 (All-from_slice_get (IsFalseTerm state) args each))
        | inr (k, a, at, yes_is, is) ↦ by_truth t true (of_term t) (unfolds t (Or args) stands.0 stands.1 ∙ ap truth is) ((decided.disjunctions t args stands).1 a (Contains-from_slice_get args k a at) yes_is)
      ]

  evaluates_iff : (t a b : TermId) → Has state.terms (Iff a b) t.0 → Before t → Evaluates t
  evaluates_iff t a b stands before =
      let below = ordered t.0 (Iff a b) stands in
      let agree_a = before a below.0 in
      let agree_b = before b below.1.0 in
      let equates = sorted t.0 (Iff a b) stands.0 stands.1 in
      let (x, is_a) = truth_of a equates.0 in
      let (y, is_b) = truth_of b equates.1 in
      by x y is_a is_b (unfolds t (Iff a b) stands.0 stands.1
      ∙ ap (λ (p : Bool). truth (if p then is_true i.graph (of_term b) else not (is_true i.graph (of_term b)))) (is_true_of a x agree_a is_a)
      ∙ ap (λ (q : Bool). truth (if x then q else not q)) (is_true_of b y agree_b is_b))
    where
      by : (x y : Bool) → AreEqual state a (truth_term x) → AreEqual state b (truth_term y) → of_term t ≡ truth (if x then y else not y) → Evaluates t
      by true true is_a is_b e = by_truth t true (of_term t) e ((decided.equivalences t a b stands).0 (inl (is_a, is_b)))
      by true false is_a is_b e = by_truth t false (of_term t) e ((decided.equivalences t a b stands).1 (inl (is_a, is_b)))
      by false true is_a is_b e = by_truth t false (of_term t) e ((decided.equivalences t a b stands).1 (inr (is_a, is_b)))
      by false false is_a is_b e = by_truth t true (of_term t) e ((decided.equivalences t a b stands).0 (inr (is_a, is_b)))

  evaluates_ite : (t c a b : TermId) → Has state.terms (Ite c a b) t.0 → Before t → Evaluates t
  evaluates_ite t c a b stands before =
      let below = ordered t.0 (Ite c a b) stands in
      let chooses = sorted t.0 (Ite c a b) stands.0 stands.1 in
      let (x, is_c) = truth_of c chooses.0 in
      by x is_c (before a below.1.0) (before b below.1.1.0) (unfolds t (Ite c a b) stands.0 stands.1 ∙ ap (λ (p : Bool). if p then of_term a else of_term b) (is_true_of c x (before c below.0) is_c))
    where
      chosen : (u : TermId) → Evaluates u → of_term t ≡ of_term u → AreEqual state t u → Evaluates t
      chosen u agree e equal = subst (λ (v : Value). AgreeAlways (point i.graph v) (class_value t)) (sym e) (laws.chained (evaluated u) (class_value u) (class_value t) agree (laws.turned (class_value t) (class_value u) (valued.classes.equal t u equal)))

      by : (x : Bool) → AreEqual state c (truth_term x) → Evaluates a → Evaluates b → of_term t ≡ (if x then of_term a else of_term b) → Evaluates t
      by true is_c agree_a agree_b e = chosen a agree_a e ((decided.choices t c a b stands).0 is_c)
      by false is_c agree_a agree_b e = chosen b agree_b e ((decided.choices t c a b stands).1 is_c)

  evaluates : (t : TermId) (core : Core) → Has state.terms core t.0 → Before t → Evaluates t
  evaluates t (Con c args) stands before = evaluates_con t c args stands before
  evaluates t (Sel s a) stands before = evaluates_sel t s a stands before
  evaluates t (Test c a) stands before = evaluates_test t c a stands before
  evaluates t (Apply f args) stands before = evaluates_apply t f args stands before
  evaluates t (Eq a b) stands before = evaluates_eq t a b stands before
  evaluates t (Not a) stands before = evaluates_not t a stands before
  evaluates t (And args) stands before = evaluates_and t args stands before
  evaluates t (Or args) stands before = evaluates_or t args stands before
  evaluates t (Iff a b) stands before = evaluates_iff t a b stands before
  evaluates t (Ite c a b) stands before = evaluates_ite t c a b stands before

  evaluates_below : (n : ℕ) (t : TermId) → t.0 < n → IsInside state t → Evaluates t
  evaluates_below zero t less inside = absurd (omega (arith, less))
  evaluates_below (suc n) t less inside =
      let ((core, sort), at) = slice_get-there state.terms t.0 inside in
      evaluates t core (sort, at) (λ a below. evaluates_below n a (omega (arith, below, less)) (omega (arith, below, inside)))

  -- each term evaluates to the value of its class
  pub term_evaluates : (t : TermId) → IsInside state t → Evaluates t
  term_evaluates t inside = evaluates_below (suc t.0) t (omega arith) inside

  -- so two terms have one value exactly where they are of one class
  pub one_value : (t u : TermId) → IsInside state t → IsInside state u → (IsTrue (same (evaluated t) (evaluated u)) → AreEqual state t u) × (AreEqual state t u → IsTrue (same (evaluated t) (evaluated u)))
  one_value t u in_t in_u =
      let agree_t = term_evaluates t in_t in
      let agree_u = term_evaluates u in_u in
      let depth = laws.every_depth (evaluated t) (evaluated u) closed closed in (
        λ h. valued.apart t u in_t in_u (laws.chained (class_value t) (evaluated t) (class_value u) (laws.turned (evaluated t) (class_value t) agree_t) (laws.chained (evaluated t) (evaluated u) (class_value u) (depth.0 h) agree_u)),
        λ equal. depth.1 (laws.chained (evaluated t) (class_value t) (evaluated u) agree_t (laws.chained (class_value t) (class_value u) (evaluated u) (valued.classes.equal t u equal) (laws.turned (evaluated u) (class_value u) agree_u))),
      )
