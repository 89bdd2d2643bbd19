-- Interpretations with the same tables evaluate terms to the same.
use Rattle.std.proofs.Common.{◌≡◌, ℕ, zero, suc, ◌<◌, ◌≤◌, Bool, true, false, not, ◌&&◌, ◌||◌, nat_lt, List, [], ◌∷◌, length, map, Option, None, Some, option_map, option_and_then, unwrap_or, slice_get, refl, sym, ap, ap₂, subst, ◌∙◌, arith, true≢false, if◌then◌else◌}
use Rattle.std.specs.List.{AllZip, AllByRecursion, list_all, list_any}
use Rattle.std.proofs.lemmas.Option.{none-some, same_Some, slice_get_within}
use Rattle.std.proofs.lemmas.Bool.Decides.{nat_tests}
use Rattle.ct_lemmas.proofs.Each.{All-at, All-from_slice_get}
use Rattle.ct_lemmas.proofs.Lists.{slice_get-there}
use Rattle.ct_lemmas.proofs.Pairs.{AllZip-one_length}
use Rattle.ct_sorts.specs.declared.ids.CtorId.{CtorId}
use Rattle.ct_sorts.specs.declared.ids.SelId.{SelId}
use Rattle.ct_sorts.specs.declared.ids.SortId.{SortId}
use Rattle.ct_sorts.specs.declared.ids.Kind.{Kind}
use Rattle.ct_sorts.specs.declared.ids.Kind.TheVariants.{Free}
use Rattle.ct_sorts.specs.Declarations.{Declarations, Sort, Constructor, Selector}
use Rattle.ct_sorts.specs.Consistent.{IsConsistent, FitsKind}
use Rattle.ct_sorts.proofs.StructureLemmas.{of_their_sorts, of_their_constructors}
use Rattle.ct_values.specs.declared.node.Head.TheVariants as heads
use Rattle.ct_values.specs.Graph.{Nodes, IsClosed}
use Rattle.ct_values.specs.Value.{Value, list_of, values_of}
use Rattle.ct_values.specs.ValueSort.{HasValueSort}
use Rattle.ct_values.specs.Fitting.{FitsGraph}
use Rattle.ct_values.specs.Agreement.{point, children_of, AgreeAlways}
use Rattle.ct_values.specs.TruthValue.{truth, is_built, is_true}
use Rattle.ct_values.proofs.AgreeLemmas.{AgreeAlways-parts}
use Rattle.ct_values.proofs.SortedLemmas.{HasValueSort-over, not_element, field_there}
use Rattle.ct_values.proofs.BooleanLemmas.{built_by}
use Rattle.ct_values.proofs.LastingLemmas.{fits_closed}
use Rattle.ct_terms.specs.declared.ids.TermId.{TermId}
use Rattle.ct_terms.specs.declared.term.Core.{Core}
use Rattle.ct_terms.specs.declared.term.Core.TheVariants.{Con, Sel, Test, Apply, Eq, Not, And, Or, Iff, Ite}
use Rattle.ct_terms.specs.Terms.{Terms, AreOrdered, AreSorted, HasSort, Selects, Applies, IsOfSort}
use Rattle.ct_terms.specs.Children.{core_children}
use Rattle.ct_eval.specs.declared.interp.Table.{Table}
use Rattle.ct_eval.specs.declared.interp.Interp.{Interp}
use Rattle.ct_eval.specs.Interpretation.{IsProper}
use Rattle.ct_eval.specs.Evaluation.{table_value, select, core_value, layer, value_below, value_of}
use Rattle.ct_eval.specs.Truth.{truth_value, Holds}
use Rattle.ct_eval.proofs.CongruenceLemmas.{built_alike, same_alike}
use Rattle.ct_eval.proofs.EvaluationLemmas.{value_of-unfolds}
use Rattle.ct_eval.proofs.ValueLemmas.{SortTheorems, value_of-sorted}
use Rattle.ct_model.specs.ModelText.{argument_sort, constructor_count, can_miss}
use Rattle.ct_readback.specs.Printed.{HaveSameTables}
use Rattle.ct_readback.proofs.PrintedLookUps.{alike}

sorts : SortTheorems
sorts = record {
  over = HasValueSort-over;
  built = built_by;
  field = λ d g v sort s selector consistent fits sorted declared headed. field_there d g v sort s selector (of_their_constructors d consistent) fits declared sorted headed;
}

-- ---- where a sort has one constructor, its values are built by it

single_place : (xs : List CtorId) (a b : ℕ) (c e : CtorId) → length xs ≤ 1 → slice_get xs a ≡ Some c → slice_get xs b ≡ Some e → c ≡ e
single_place [] a b c e few at_a at_b = absurd (none-some c at_a)
single_place (x ∷ []) zero zero c e few at_a at_b = same_Some c e (sym at_a ∙ at_b)
single_place (x ∷ []) zero (suc b) c e few at_a at_b = absurd (none-some e at_b)
single_place (x ∷ []) (suc a) b c e few at_a at_b = absurd (none-some c at_a)
single_place (x ∷ (y ∷ xs)) a b c e few at_a at_b = absurd (omega (arith, few))

not_free : (s count : ℕ) (kind : Kind) → FitsKind s kind count → 0 < count → kind ≡ Free → ⊥
not_free s count kind fits some e =
    let none_there : count ≡ 0 = subst (λ (k : Kind). FitsKind s k count) e fits in
    omega (arith, none_there, some)

few_by : (n : ℕ) → nat_lt 1 n ≡ false → n ≤ 1
few_by n h = grind (arith, nat_tests)

-- so many constructors has the sort of the selector's argument
count_is : (d : Declarations) (s : SelId) (selector : Selector) (ctor : Constructor) (sort : Sort) → slice_get d.sels s.0 ≡ Some selector → slice_get d.ctors selector.ctor.0 ≡ Some ctor → slice_get d.sorts ctor.sort.0 ≡ Some sort
    → constructor_count d s.0 ≡ length sort.ctors
count_is d s selector ctor sort at at_ctor at_sort =
    let argument : argument_sort d s.0 ≡ Some ctor.sort =
    ap (option_and_then (λ (x : Selector). option_map (λ (k : Constructor). k.sort) (slice_get d.ctors x.ctor.0))) at ∙ ap (option_map (λ (k : Constructor). k.sort)) at_ctor in
    ap (λ (o : Option SortId). unwrap_or (option_and_then (λ (t : SortId). option_map (λ (found : Sort). length found.ctors) (slice_get d.sorts t.0)) o) 0) argument
    ∙ ap (λ (o : Option Sort). unwrap_or (option_map (λ (found : Sort). length found.ctors) o) 0) at_sort

pub built_alone : (d : Declarations) (g : Nodes) (v : Value) (s : SelId) (selector : Selector) (ctor : Constructor) → IsConsistent d → FitsGraph d g → slice_get d.sels s.0 ≡ Some selector → slice_get d.ctors selector.ctor.0 ≡ Some ctor
    → can_miss d s.0 ≡ false → HasValueSort d g v ctor.sort → is_built g selector.ctor v ≡ true
built_alone d g v s selector ctor consistent fits at at_ctor single sorted =
    let own = of_their_sorts d consistent selector.ctor.0 ctor at_ctor in
    let sort = own.0 in
    let some : 0 < length sort.ctors = let within = slice_get_within sort.ctors own.1 (record { 0 = selector.ctor.0 }) own.3 in omega (arith, within) in
    let few : length sort.ctors ≤ 1 = few_by (length sort.ctors) (ap (λ n. nat_lt 1 n) (sym (count_is d s selector ctor sort at at_ctor own.2)) ∙ single) in
    let made = not_element d g v ctor.sort sort fits sorted own.2 (not_free ctor.sort.0 (length sort.ctors) sort.kind (consistent.kinds ctor.sort.0 sort own.2) some) in
    let theirs = of_their_sorts d consistent made.0.0 made.1.ctor made.1.declared in
    let same_sort : theirs.0 ≡ sort = same_Some theirs.0 sort (sym theirs.2 ∙ ap (λ (t : SortId). slice_get d.sorts t.0) made.1.of_sort ∙ own.2) in
    let place : slice_get sort.ctors theirs.1 ≡ Some (record { 0 = made.0.0 }) = subst (λ (x : Sort). slice_get x.ctors theirs.1 ≡ Some (record { 0 = made.0.0 })) same_sort theirs.3 in
    let same : made.0 ≡ selector.ctor = single_place sort.ctors theirs.1 own.1 made.0 selector.ctor few place own.3 in
    (built_by g v selector.ctor).1 (made.1.headed ∙ ap (λ (c : CtorId). Some (heads.Con c)) same)

-- ---- terms

module _ (d : Declarations) (i j : Interp) (consistent : IsConsistent d) (proper_i : IsProper d i) (proper_j : IsProper d j) (tables : HaveSameTables d i j)
    (terms : Terms) (ordered : AreOrdered terms) (sorted : AreSorted d terms)
  where
    abbrev Same : Value → Value → Type 0
    Same v w = AgreeAlways (point i.graph v) (point j.graph w)

    abbrev value : TermId → Value
    value t = value_of d i terms t

    abbrev other : TermId → Value
    other t = value_of d j terms t

    abbrev Alike : TermId → Type 0
    Alike t = Same (value t) (other t)

    closed_i : IsClosed i.graph
    closed_i = fits_closed d i.graph proper_i.graph.fits

    closed_j : IsClosed j.graph
    closed_j = fits_closed d j.graph proper_j.graph.fits

    truths : (a b : Bool) → a ≡ b → Same (truth a) (truth b)
    truths a b e = subst (λ (x : Bool). Same (truth a) (truth x)) e ((AgreeAlways-parts (point i.graph (truth a)) (point j.graph (truth a))).1 (refl, tt))

    true_same : (v w : Value) → Same v w → is_true i.graph v ≡ is_true j.graph w
    true_same v w same = built_alike alike i.graph j.graph (record { 0 = 0 }) v w same

    chosen : (a b : Bool) (v w x y : Value) → a ≡ b → Same v x → Same w y → Same (if a then v else w) (if b then x else y)
    chosen true true v w x y e first second = first
    chosen true false v w x y e first second = absurd (true≢false e)
    chosen false true v w x y e first second = absurd (true≢false (sym e))
    chosen false false v w x y e first second = second

    at_position : (vs ws : List Value) (position : ℕ) (v w : Value) → AllZip AgreeAlways (map (point i.graph) vs) (map (point j.graph) ws) → Same v w → Same (unwrap_or (slice_get vs position) v) (unwrap_or (slice_get ws position) w)
    at_position [] [] position v w all same = same
    at_position [] (y ∷ ws) position v w all same = absurd all
    at_position (x ∷ vs) [] position v w all same = absurd all
    at_position (x ∷ vs) (y ∷ ws) zero v w all same = all.0
    at_position (x ∷ vs) (y ∷ ws) (suc position) v w all same = at_position vs ws position v w all.1 same

    -- lists of terms whose values are the same
    values_same : (ts : List TermId) → AllByRecursion Alike ts → AllZip AgreeAlways (map (point i.graph) (map value ts)) (map (point j.graph) (map other ts))
    values_same [] all = tt
    values_same (t ∷ ts) all = (all.0, values_same ts all.1)

    arguments_same : (ts : List TermId) → AllByRecursion Alike ts → AllZip AgreeAlways (map (point i.graph) (list_of (values_of (map value ts)))) (map (point j.graph) (list_of (values_of (map other ts))))
    arguments_same [] all = tt
    arguments_same (t ∷ ts) all = (all.0, arguments_same ts all.1)

    all_true : (ts : List TermId) → AllByRecursion Alike ts → list_all (λ t. is_true i.graph (value t)) ts ≡ list_all (λ t. is_true j.graph (other t)) ts
    all_true [] all = refl
    all_true (t ∷ ts) all = ap₂ (λ a b. a && b) (true_same (value t) (other t) all.0) (all_true ts all.1)

    one_true : (ts : List TermId) → AllByRecursion Alike ts → list_any (λ t. is_true i.graph (value t)) ts ≡ list_any (λ t. is_true j.graph (other t)) ts
    one_true [] all = refl
    one_true (t ∷ ts) all = ap₂ (λ a b. a || b) (true_same (value t) (other t) all.0) (one_true ts all.1)

    long : (f : TermId → Value) (ts : List TermId) → length (map f ts) ≡ length ts
    long f [] = refl
    long f (t ∷ ts) = ap suc (long f ts)

    -- functions
    function_same : (f : ℕ) (args : List TermId) (sort : SortId) → Applies d terms f args sort → AllByRecursion Alike args
        → Same (table_value i (slice_get i.funs f) (map value args)) (table_value j (slice_get j.funs f) (map other args))
    function_same f args sort applies all =
        let within : f < length d.functions = slice_get_within d.functions f applies.function applies.declared in
        let table = slice_get-there i.funs f (let one = proper_i.functions.one_each in omega (arith, within, one)) in
        let there = slice_get-there j.funs f (let one = proper_j.functions.one_each in omega (arith, within, one)) in
        let count : length (map value args) ≡ length applies.function.args = long value args ∙ AllZip-one_length (IsOfSort terms) args applies.function.args applies.sorted in
        let given = tables.functions f applies.function table.0 there.0 applies.declared table.1 there.1 (map value args) (map other args) count (values_same args all) in
        subst (λ (o : Option Table). Same (table_value i o (map value args)) (table_value j (slice_get j.funs f) (map other args))) (sym table.1)
        (subst (λ (o : Option Table). Same (table_value i (Some table.0) (map value args)) (table_value j o (map other args))) (sym there.1) given)

    -- selectors that are wrongly applied
    missed : (s : SelId) (selector : Selector) (v w : Value) → slice_get d.sels s.0 ≡ Some selector → can_miss d s.0 ≡ true → Same v w
        → Same (table_value i (slice_get i.offs s.0) (v ∷ [])) (table_value j (slice_get j.offs s.0) (w ∷ []))
    missed s selector v w at misses same =
        let within : s.0 < length d.sels = slice_get_within d.sels s.0 selector at in
        let table = slice_get-there i.offs s.0 (let one = proper_i.selectors.one_each in omega (arith, within, one)) in
        let there = slice_get-there j.offs s.0 (let one = proper_j.selectors.one_each in omega (arith, within, one)) in
        let given = tables.offs s.0 table.0 there.0 misses table.1 there.1 (v ∷ []) (w ∷ []) refl (same, tt) in
        subst (λ (o : Option Table). Same (table_value i o (v ∷ [])) (table_value j (slice_get j.offs s.0) (w ∷ []))) (sym table.1)
        (subst (λ (o : Option Table). Same (table_value i (Some table.0) (v ∷ [])) (table_value j o (w ∷ []))) (sym there.1) given)

    select_by : (s : SelId) (selector : Selector) (v w : Value) (a b : Bool) → is_built i.graph selector.ctor v ≡ a → is_built j.graph selector.ctor w ≡ b → Same v w
        → (a ≡ false → Same (table_value i (slice_get i.offs s.0) (v ∷ [])) (table_value j (slice_get j.offs s.0) (w ∷ [])))
        → Same (if a then unwrap_or (slice_get (children_of i.graph v) selector.place) v else table_value i (slice_get i.offs s.0) (v ∷ []))
        (if b then unwrap_or (slice_get (children_of j.graph w) selector.place) w else table_value j (slice_get j.offs s.0) (w ∷ []))
    select_by s selector v w true true e f same miss = at_position (children_of i.graph v) (children_of j.graph w) selector.place v w ((AgreeAlways-parts (point i.graph v) (point j.graph w)).0 same).1 same
    select_by s selector v w true false e f same miss = absurd (true≢false (sym e ∙ built_alike alike i.graph j.graph selector.ctor v w same ∙ f))
    select_by s selector v w false true e f same miss = absurd (true≢false (sym f ∙ sym (built_alike alike i.graph j.graph selector.ctor v w same) ∙ e))
    select_by s selector v w false false e f same miss = miss refl

    selector_same : (s : SelId) (t : TermId) (sort : SortId) → Selects d terms s.0 t sort → Alike t → Same (select i s (slice_get d.sels s.0) (value t)) (select j s (slice_get d.sels s.0) (other t))
    selector_same s t sort selects same =
        subst (λ (o : Option Selector). Same (select i s o (value t)) (select j s o (other t))) (sym selects.declared)
        (select_by s selects.selector (value t) (other t) (is_built i.graph selects.selector.ctor (value t)) (is_built j.graph selects.selector.ctor (other t)) refl refl same
        (λ unbuilt. by (can_miss d s.0) refl unbuilt))
      where
        by : (b : Bool) → can_miss d s.0 ≡ b → is_built i.graph selects.selector.ctor (value t) ≡ false → Same (table_value i (slice_get i.offs s.0) (value t ∷ [])) (table_value j (slice_get j.offs s.0) (other t ∷ []))
        by true misses unbuilt = missed s selects.selector (value t) (other t) selects.declared misses same
        by false single unbuilt =
            let is_of = value_of-sorted sorts d i consistent proper_i terms ordered sorted t selects.ctor.sort selects.sorted in
            absurd (true≢false (sym (built_alone d i.graph (value t) s selects.selector selects.ctor consistent proper_i.graph.fits selects.declared selects.constructor single is_of) ∙ unbuilt))

    -- one layer
    layer_same : (core : Core) (sort : SortId) → HasSort d terms core sort → AllByRecursion Alike (core_children core) → Same (core_value d i value core) (core_value d j other core)
    layer_same (Con c args) sort has all = (AgreeAlways-parts (point i.graph (core_value d i value (Con c args))) (point j.graph (core_value d j other (Con c args)))).1 (refl, arguments_same args all)
    layer_same (Sel s t) sort has all = selector_same s t sort has all.0
    layer_same (Test c t) sort has all = truths _ _ (built_alike alike i.graph j.graph c (value t) (other t) all.0)
    layer_same (Apply f args) sort has all = function_same f.0 args sort has all
    layer_same (Eq a b) sort has all =
        truths _ _ (same_alike alike (point i.graph (value a)) (point i.graph (value b)) (point j.graph (other a)) (point j.graph (other b)) closed_i closed_i closed_j closed_j all.0 all.1.0)
    layer_same (Not t) sort has all = truths _ _ (ap not (true_same (value t) (other t) all.0))
    layer_same (And args) sort has all = truths _ _ (all_true args all)
    layer_same (Or args) sort has all = truths _ _ (one_true args all)
    layer_same (Iff a b) sort has all = truths _ _ (ap₂ (λ (p q : Bool). if p then q else not q) (true_same (value a) (other a) all.0) (true_same (value b) (other b) all.1.0))
    layer_same (Ite c a b) sort has all = chosen (is_true i.graph (value c)) (is_true j.graph (other c)) (value a) (value b) (other a) (other b) (true_same (value c) (other c) all.0) all.1.0 all.1.1.0

    below_all : (bound : ℕ) (ts : List TermId) → ((t : TermId) → t.0 < bound → Alike t) → AllByRecursion (λ t. t.0 < bound) ts → AllByRecursion Alike ts
    below_all bound [] each below = tt
    below_all bound (t ∷ ts) each below = (each t below.0, below_all bound ts each below.1)

    -- what stands nowhere is `false` in both
    nowhere : (t : TermId) → slice_get terms t.0 ≡ None → Alike t
    unfolding value_below
    nowhere t none_there =
        subst (λ (o : Option (Core × SortId)). Same (layer d i (value_below t.0 d i terms) o) (layer d j (value_below t.0 d j terms) o)) (sym none_there) (truths false false refl)

    -- a term has one value where the terms before it have
    at_number : (t : TermId) (o : Option (Core × SortId)) → slice_get terms t.0 ≡ o → ((u : TermId) → u.0 < t.0 → Alike u) → Alike t
    at_number t None at before = nowhere t at
    at_number t (Some (core, sort)) at before =
        subst (λ (v : Value). Same v (other t)) (sym (value_of-unfolds d i terms t core sort ordered at))
        (subst (λ (w : Value). Same (core_value d i value core) w) (sym (value_of-unfolds d j terms t core sort ordered at))
        (layer_same core sort (sorted t.0 core sort at) (below_all t.0 (core_children core) before (ordered t.0 core (sort, at)))))

    same_below : (bound : ℕ) (t : TermId) → t.0 < bound → Alike t
    same_below zero t below = absurd (omega (arith, below))
    same_below (suc bound) t below = at_number t (slice_get terms t.0) refl (λ u less. same_below bound u (omega (arith, less, below)))

    truth_same : (t : TermId) → truth_value d i terms t ≡ truth_value d j terms t
    truth_same t = true_same (value t) (other t) (same_below (suc t.0) t (omega arith))

    -- what held holds
    pub holds_still : (asserts : List TermId) → Holds d i terms asserts → Holds d j terms asserts
    holds_still asserts held =
        All-from_slice_get (λ t. truth_value d j terms t ≡ true) asserts
        (λ k t at. sym (truth_same t) ∙ All-at (λ u. truth_value d i terms u ≡ true) asserts k t held at)
