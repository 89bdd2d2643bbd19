-- What the theorems on meanings rest on: equality of values in a well-formed interpretation, and the sorts of values.
use Rattle.std.proofs.Common.{◌≡◌, ◌⊎◌, ◌↔◌, ℕ, zero, suc, Bool, true, false, ◌&&◌, ◌||◌, IsTrue, List, [], ◌∷◌, map, All, Contains, Option, Some, None, unwrap_or, slice_get, if◌then◌else◌, refl, ap, subst, ◌∙◌}
use Rattle.std.specs.List.{AllZip, list_all, list_any}
use Rattle.ct_lemmas.proofs.Contained.{Contains-first, Contains-rest}
use Rattle.ct_sorts.specs.declared.ids.CtorId.{CtorId}
use Rattle.ct_sorts.specs.declared.ids.FunId.{FunId}
use Rattle.ct_sorts.specs.declared.ids.SelId.{SelId}
use Rattle.ct_sorts.specs.declared.ids.SortId.{SortId}
use Rattle.ct_sorts.specs.declared.ids.Kind.TheVariants.{Data, Codata}
use Rattle.ct_sorts.specs.Declarations.{Declarations, Sort, Constructor, Selector, Function, bool_sort}
use Rattle.ct_sorts.specs.Structure.{HaveOwnSelectors, AreOfTheirSorts}
use Rattle.ct_values.specs.declared.node.NodeId.{NodeId}
use Rattle.ct_values.specs.declared.node.Head.TheVariants as heads
use Rattle.ct_values.specs.Value.{Value, reference, construct, values_of}
use Rattle.ct_values.specs.Agreement.{head_of, children_of}
use Rattle.ct_values.specs.ValueSort.{HasValueSort}
use Rattle.ct_terms.specs.CoreSorts.{AreFieldSorts, HasTreeSort}
use Rattle.ct_listing.specs.Closed.{ClosedValue, IsClosedOf, value_of, term_of}
use Rattle.ct_listing.specs.Listable.{IsListable}
use Rattle.ct_formulas.specs.Choices.{choices_of}
use Rattle.ct_formulas.specs.Formula.{bind}
use Rattle.ct_eval.specs.declared.interp.Interp.{Interp}
use Rattle.ct_eval.specs.declared.interp.Row.{Row}
use Rattle.ct_eval.specs.declared.interp.Table.{Table}
use Rattle.ct_eval.specs.LookUp.{are_same, row_for}
use Rattle.ct_values.specs.TruthValue.{truth, is_head, is_built, is_true}
use Rattle.ct_eval.specs.Evaluation.{is_same, table_value, select}
use Rattle.ct_meaning.specs.Meaning.{Agree}
use Rattle.ct_eval.proofs.StepTruth.{one_answer}

-- what is known of values in a well-formed interpretation
pub record Facts (d : Declarations) (i : Interp) : Type 0 where
  pub itself : (v : Value) → Agree i v v
  pub turned : (v w : Value) → Agree i v w → Agree i w v
  pub chained : (u v w : Value) → Agree i u v → Agree i v w → Agree i u w
  pub one_head : (v w : Value) → Agree i v w → head_of i.graph v ≡ head_of i.graph w
  pub children : (v w : Value) → Agree i v w → AllZip (Agree i) (children_of i.graph v) (children_of i.graph w)
  pub joined : (c : CtorId) (vs ws : List Value) → AllZip (Agree i) vs ws → Agree i (construct c (values_of vs)) (construct c (values_of ws))
  pub decided : (v w : Value) → IsTrue (is_same i.graph v w) ↔ Agree i v w
  pub boolean : (v : Value) → HasValueSort d i.graph v bool_sort → Agree i v (truth (is_true i.graph v))
  pub truth_sorted : (b : Bool) → HasValueSort d i.graph (truth b) bool_sort
  pub given_sorted : (f : FunId) (function : Function) (values : List Value) → slice_get d.functions f.0 ≡ Some function → HasValueSort d i.graph (table_value i (slice_get i.funs f.0) values) function.result
  pub select_sorted : (s : SelId) (selector : Selector) (ctor : Constructor) (v : Value) → slice_get d.sels s.0 ≡ Some selector → slice_get d.ctors selector.ctor.0 ≡ Some ctor → HasValueSort d i.graph v ctor.sort → HasValueSort d i.graph (select i s (slice_get d.sels s.0) v) selector.sort
  pub construct_sorted : (c : CtorId) (ctor : Constructor) (sorts : List SortId) (vs : List Value) → slice_get d.ctors c.0 ≡ Some ctor → AreFieldSorts d ctor.sels sorts → AllZip (HasValueSort d i.graph) vs sorts → HasValueSort d i.graph (construct c (values_of vs)) ctor.sort
  pub matched : (v : Value) (s : SortId) (sort : Sort) → HasValueSort d i.graph v s → slice_get d.sorts s.0 ≡ Some sort → (sort.kind ≡ Data) ⊎ (sort.kind ≡ Codata) → (c : CtorId) × (ctor : Constructor) × (head_of i.graph v ≡ Some (heads.Con c)) × (slice_get d.ctors c.0 ≡ Some ctor) × (ctor.sort ≡ s)
  pub fields : (v : Value) (s : SortId) (c : CtorId) (ctor : Constructor) (sorts : List SortId) → HasValueSort d i.graph v s → head_of i.graph v ≡ Some (heads.Con c) → slice_get d.ctors c.0 ≡ Some ctor → AreFieldSorts d ctor.sels sorts → AllZip (HasValueSort d i.graph) (children_of i.graph v) sorts
  pub chosen : (sorts : List SortId) (vs : List ClosedValue) → All (IsListable d) sorts → Contains (choices_of d sorts) vs → AllZip (IsClosedOf d) vs sorts
  pub closed_term : (v : ClosedValue) (s : SortId) → IsClosedOf d v s → HasTreeSort d (term_of v) s
  pub closed_value : (v : ClosedValue) (s : SortId) → IsClosedOf d v s → HasValueSort d i.graph (value_of v) s
  pub own_selectors : HaveOwnSelectors d
  pub of_their_sorts : AreOfTheirSorts d

-- bound in order, lists that go together go together with the environment
pub AllZip-bind : {X Y : Type 0} (R : X → Y → Type 0) (xs : List X) (ys : List Y) (env : List X) (others : List Y) → AllZip R xs ys → AllZip R env others → AllZip R (bind xs env) (bind ys others)
AllZip-bind R [] [] env others h k = k
AllZip-bind R [] (y ∷ ys) env others h k = absurd h
AllZip-bind R (x ∷ xs) [] env others h k = absurd h
AllZip-bind R (x ∷ xs) (y ∷ ys) env others h k = AllZip-bind R xs ys (x ∷ env) (y ∷ others) h.1 (h.0, k)

-- what stands at one index, or something else in both lists
pub AllZip-either : {X Y : Type 0} (R : X → Y → Type 0) (xs : List X) (ys : List Y) (k : ℕ) (x : X) (y : Y) → AllZip R xs ys → R x y → R (unwrap_or (slice_get xs k) x) (unwrap_or (slice_get ys k) y)
AllZip-either R [] [] k x y h other = other
AllZip-either R [] (z ∷ ys) k x y h other = absurd h
AllZip-either R (w ∷ xs) [] k x y h other = absurd h
AllZip-either R (w ∷ xs) (z ∷ ys) zero x y h other = h.0
AllZip-either R (w ∷ xs) (z ∷ ys) (suc k) x y h other = AllZip-either R xs ys k x y h.1 other

-- the images of one list under two functions go together where each element's do
pub zip_mapped : {X Y Z : Type 0} (R : Y → Z → Type 0) (f : X → Y) (g : X → Z) (xs : List X) → ((x : X) → Contains xs x → R (f x) (g x)) → AllZip R (map f xs) (map g xs)
zip_mapped R f g [] each = tt
zip_mapped R f g (x ∷ xs) each = (each x (Contains-first x xs), zip_mapped R f g xs (λ y at. each y (Contains-rest x xs y at)))

module _ (d : Declarations) (i : Interp) (facts : Facts d i) where
  pub agree_equal : (v w : Value) → v ≡ w → Agree i v w
  agree_equal v w e = subst (Agree i v) e (facts.itself v)

  -- two answers that are one
  pub agree_truth : (a b : Bool) → a ≡ b → Agree i (truth a) (truth b)
  agree_truth a b e = agree_equal (truth a) (truth b) (ap truth e)

  pub built_agrees : (c : CtorId) (v w : Value) → Agree i v w → is_built i.graph c v ≡ is_built i.graph c w
  built_agrees c v w h = ap (is_head c) (facts.one_head v w h)

  pub true_agrees : (v w : Value) → Agree i v w → is_true i.graph v ≡ is_true i.graph w
  true_agrees v w h = built_agrees (record { 0 = 0 }) v w h

  pub same_agrees : (v w x y : Value) → Agree i v x → Agree i w y → is_same i.graph v w ≡ is_same i.graph x y
  same_agrees v w x y h k =
      one_answer (is_same i.graph v w) (is_same i.graph x y) (Agree i v w) (facts.decided v w) (
        λ e. facts.chained v x w h (facts.chained x y w ((facts.decided x y).0 e) (facts.turned w y k)),
        λ a. (facts.decided x y).1 (facts.chained x v y (facts.turned v x h) (facts.chained v w y a k)),
      )

  -- a table gives one result for arguments that are the same
  args_agree : (nodes : List NodeId) (vs ws : List Value) → AllZip (Agree i) vs ws → are_same i.graph nodes vs ≡ are_same i.graph nodes ws
  args_agree [] [] [] h = refl
  args_agree [] [] (w ∷ ws) h = absurd h
  args_agree [] (v ∷ vs) [] h = absurd h
  args_agree [] (v ∷ vs) (w ∷ ws) h = refl
  args_agree (n ∷ nodes) [] [] h = refl
  args_agree (n ∷ nodes) [] (w ∷ ws) h = absurd h
  args_agree (n ∷ nodes) (v ∷ vs) [] h = absurd h
  args_agree (n ∷ nodes) (v ∷ vs) (w ∷ ws) h =
      let first : is_same i.graph (reference n) v ≡ is_same i.graph (reference n) w = same_agrees (reference n) v (reference n) w (facts.itself (reference n)) h.0 in
      ap (λ (b : Bool). b && are_same i.graph nodes vs) first ∙ ap (λ (b : Bool). is_same i.graph (reference n) w && b) (args_agree nodes vs ws h.1)

  row_agrees : (rows : List Row) (vs ws : List Value) → AllZip (Agree i) vs ws → row_for i.graph rows vs ≡ row_for i.graph rows ws
  row_agrees [] vs ws h = refl
  row_agrees (row ∷ rows) vs ws h =
      ap (λ (b : Bool). if b then Some row.result else row_for i.graph rows vs) (args_agree row.args vs ws h)
      ∙ ap (λ (o : Option NodeId). if are_same i.graph row.args ws then Some row.result else o) (row_agrees rows vs ws h)

  pub given_agrees : (o : Option Table) (vs ws : List Value) → AllZip (Agree i) vs ws → table_value i o vs ≡ table_value i o ws
  given_agrees None vs ws h = refl
  given_agrees (Some table) vs ws h = ap (λ (r : Option NodeId). reference (unwrap_or r table.default)) (row_agrees table.rows vs ws h)

  pub select_agrees : (s : SelId) (o : Option Selector) (v w : Value) → Agree i v w → Agree i (select i s o v) (select i s o w)
  select_agrees s None v w h = h
  select_agrees s (Some selector) v w h =
      subst (λ (b : Bool). Agree i (select i s (Some selector) v) (if b then unwrap_or (slice_get (children_of i.graph w) selector.place) w else table_value i (slice_get i.offs s.0) (w ∷ [])))
      (built_agrees selector.ctor v w h)
      (by (is_built i.graph selector.ctor v))
    where
      by : (b : Bool) → Agree i (if b then unwrap_or (slice_get (children_of i.graph v) selector.place) v else table_value i (slice_get i.offs s.0) (v ∷ [])) (if b then unwrap_or (slice_get (children_of i.graph w) selector.place) w else table_value i (slice_get i.offs s.0) (w ∷ []))
      by true = AllZip-either (Agree i) (children_of i.graph v) (children_of i.graph w) selector.place v w (facts.children v w h) h
      by false = agree_equal (table_value i (slice_get i.offs s.0) (v ∷ [])) (table_value i (slice_get i.offs s.0) (w ∷ [])) (given_agrees (slice_get i.offs s.0) (v ∷ []) (w ∷ []) (h, tt))

  pub choice_agrees : (b c : Bool) (v w x y : Value) → b ≡ c → Agree i v x → Agree i w y → Agree i (if b then v else w) (if c then x else y)
  choice_agrees b c v w x y e h k = subst (λ (a : Bool). Agree i (if b then v else w) (if a then x else y)) e (by b)
    where
      by : (a : Bool) → Agree i (if a then v else w) (if a then x else y)
      by true = h
      by false = k

  pub truths_agree : (vs ws : List Value) → AllZip (Agree i) vs ws → map (is_true i.graph) vs ≡ map (is_true i.graph) ws
  truths_agree [] [] h = refl
  truths_agree [] (w ∷ ws) h = absurd h
  truths_agree (v ∷ vs) [] h = absurd h
  truths_agree (v ∷ vs) (w ∷ ws) h =
      ap (λ (b : Bool). b ∷ map (is_true i.graph) vs) (true_agrees v w h.0) ∙ ap (λ (bs : List Bool). is_true i.graph w ∷ bs) (truths_agree vs ws h.1)

  pub all_agree : (vs ws : List Value) → AllZip (Agree i) vs ws → list_all (is_true i.graph) vs ≡ list_all (is_true i.graph) ws
  all_agree [] [] h = refl
  all_agree [] (w ∷ ws) h = absurd h
  all_agree (v ∷ vs) [] h = absurd h
  all_agree (v ∷ vs) (w ∷ ws) h =
      ap (λ (b : Bool). b && list_all (is_true i.graph) vs) (true_agrees v w h.0) ∙ ap (λ (b : Bool). is_true i.graph w && b) (all_agree vs ws h.1)

  pub any_agree : (vs ws : List Value) → AllZip (Agree i) vs ws → list_any (is_true i.graph) vs ≡ list_any (is_true i.graph) ws
  any_agree [] [] h = refl
  any_agree [] (w ∷ ws) h = absurd h
  any_agree (v ∷ vs) [] h = absurd h
  any_agree (v ∷ vs) (w ∷ ws) h =
      ap (λ (b : Bool). b || list_any (is_true i.graph) vs) (true_agrees v w h.0) ∙ ap (λ (b : Bool). is_true i.graph w || b) (any_agree vs ws h.1)
