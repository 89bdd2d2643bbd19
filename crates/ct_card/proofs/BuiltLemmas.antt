-- Nodes over default values: they fit, and what stands in them.
use Rattle.std.proofs.Common.{◌≡◌, ℕ, zero, suc, ◌<◌, false, List, [], ◌∷◌, length, map, slice_get, slice_set, None, Some, Option, option_map, unwrap_or, refl, sym, ◌∙◌, ap, subst}
use Rattle.std.specs.List.{AllZip}
use Rattle.std.proofs.lemmas.Option.{none-some, same_Some, slice_get_within}
use Rattle.ct_lemmas.proofs.Each.{All-from_slice_get}
use Rattle.ct_lemmas.proofs.Lists.{slice_get-map_at, slice_get-map_source, slice_get-there}
use Rattle.ct_sorts.specs.declared.ids.CtorId.{CtorId}
use Rattle.ct_sorts.specs.declared.ids.SelId.{SelId}
use Rattle.ct_sorts.specs.declared.ids.SortId.{SortId}
use Rattle.ct_sorts.specs.Declarations.{Declarations, Constructor, Selector}
use Rattle.ct_sorts.specs.Consistent.{IsConsistent}
use Rattle.ct_sorts.specs.Structure.{HaveOwnConstructors, AreOfTheirSorts, HaveOwnSelectors, AreOfTheirConstructors}
use Rattle.ct_values.specs.declared.node.NodeId.{NodeId}
use Rattle.ct_values.specs.declared.node.Node.{Node}
use Rattle.ct_values.specs.declared.node.Node.TheVariants.{Con}
use Rattle.ct_values.specs.Graph.{Nodes, HasChildrenBelow, node_children, node_head}
use Rattle.ct_values.specs.Value.{reference}
use Rattle.ct_values.specs.Agreement.{point, node_point, head, children}
use Rattle.ct_values.specs.Fitting.{HasNodeSort, IsNodeOfField, FitsNode, node_sort}
use Rattle.ct_card.specs.declared.departure.Step.{Step}
use Rattle.ct_card.specs.Fields.{field_sort, sels_of, ctor_fields, ctors_of}
use Rattle.ct_card.specs.Defaults.{is_free_sort, node_of_sort, AreChosen}
use Rattle.ct_card.specs.Built.{HaveTheirSorts, node_over, node_of_layer, with_second, CanSet}
use Rattle.ct_card.proofs.RuleLemmas.{sels_at, ctors_at, field_at, ctor_field}
use Rattle.ct_card.proofs.WellFormedLemmas.{fits_within}
use Rattle.ct_card.proofs.DefaultLemmas.{free_at, has_ctors}

-- one element put in place of another
paired_set : {A B : Type 0} (R : A → B → Type 0) (xs : List A) (ys : List B) (k : ℕ) (x : A) → AllZip R xs ys → ((y : B) → slice_get ys k ≡ Some y → R x y) → AllZip R (slice_set xs k x) ys
paired_set R [] [] k x h each = h
paired_set R [] (b ∷ ys) k x h each = absurd h
paired_set R (a ∷ xs) [] k x h each = absurd h
paired_set R (a ∷ xs) (b ∷ ys) zero x h each = (each b refl, h.1)
paired_set R (a ∷ xs) (b ∷ ys) (suc k) x h each = (h.0, paired_set R xs ys k x h.1 each)

pub set_there : {A : Type 0} (xs : List A) (k : ℕ) (x y : A) → slice_get xs k ≡ Some y → slice_get (slice_set xs k x) k ≡ Some x
set_there [] k x y at = absurd (none-some _ at)
set_there (a ∷ xs) zero x y at = refl
set_there (a ∷ xs) (suc k) x y at = set_there xs k x y at

pub set_elsewhere : {A : Type 0} (xs : List A) (k j : ℕ) (x y : A) → (j ≡ k → ⊥) → slice_get xs j ≡ Some y → slice_get (slice_set xs k x) j ≡ Some y
set_elsewhere [] k j x y other at = absurd (none-some _ at)
set_elsewhere (a ∷ xs) zero zero x y other at = absurd (other refl)
set_elsewhere (a ∷ xs) zero (suc j) x y other at = at
set_elsewhere (a ∷ xs) (suc k) zero x y other at = at
set_elsewhere (a ∷ xs) (suc k) (suc j) x y other at = set_elsewhere xs k j x y (λ e. other (ap suc e)) at

-- what stands elsewhere than in the place of the field that is set
pub unset_at : (several : List ℕ) (second : ℕ) (set : Option Step) (nodes : List NodeId) (place : ℕ) (node : NodeId) → ((other : Step) → set ≡ Some other → place ≡ other.place → ⊥) → slice_get nodes place ≡ Some node → slice_get (with_second several second set nodes) place ≡ Some node
unset_at several second None nodes place node apart at = at
unset_at several second (Some other) nodes place node apart at = set_elsewhere nodes other.place place (node_of_sort second several other.next) node (apart other refl) at

-- the head of a node, and its child at a place
pub head_at : (g : Nodes) (n : NodeId) (node : Node) → slice_get g n.0 ≡ Some node → head (node_point g n) ≡ Some (node_head node)
head_at g n node at = ap (option_map node_head) at

pub child_at : (g : Nodes) (n : NodeId) (c : CtorId) (ids : List NodeId) (k : ℕ) (id : NodeId) → slice_get g n.0 ≡ Some (Con c ids) → slice_get ids k ≡ Some id → slice_get (children (node_point g n)) k ≡ Some (node_point g id)
child_at g n c ids k id at listed =
    ap (λ (o : Option Node). slice_get (map (point g) (map reference (unwrap_or (option_map node_children o) []))) k) at
    ∙ slice_get-map_at (point g) (map reference ids) k (reference id) (slice_get-map_at reference ids k id listed)

module _ (d : Declarations) (consistent : IsConsistent d) (own : HaveOwnConstructors d) (own_sels : HaveOwnSelectors d) (of_sorts : AreOfTheirSorts d) (of_ctors : AreOfTheirConstructors d) where
  -- a constructor of a sort is there, and is of the sort
  pub own_ctor : (s index : ℕ) (c : CtorId) → s < length d.sorts → slice_get (ctors_of d s) index ≡ Some c → (ctor : Constructor) × (slice_get d.ctors c.0 ≡ Some ctor) × (ctor.sort.0 ≡ s)
  own_ctor s index c within listed =
      let sort = slice_get-there d.sorts s within in
      own s index sort.0 c sort.1 (ap (λ (l : List CtorId). slice_get l index) (sym (ctors_at d consistent own own_sels of_sorts of_ctors s sort.0 sort.1)) ∙ listed)

  pub own_within : (s index : ℕ) (c : CtorId) → s < length d.sorts → slice_get (ctors_of d s) index ≡ Some c → c.0 < length d.ctors
  own_within s index c within listed = let mine = own_ctor s index c within listed in slice_get_within d.ctors c.0 mine.0 mine.1

  -- the chosen constructor of a sort is one of the sort's
  pub listed_choice : (ranks : List ℕ) (ctors : List CtorId) → AreChosen d ranks ctors → (s : ℕ) (c : CtorId) → s < length d.sorts → is_free_sort d s ≡ false → slice_get ctors s ≡ Some c → (index : ℕ) × (slice_get (ctors_of d s) index ≡ Some c)
  listed_choice ranks ctors chosen s c within other at =
      let sort = slice_get-there d.sorts s within in
      let choice = chosen.each s sort.0 c sort.1 at (has_ctors d consistent own own_sels of_sorts of_ctors s sort.0 sort.1 (sym (free_at d consistent own own_sels of_sorts of_ctors s sort.0 sort.1) ∙ other)) in
      (choice.index, ap (λ (l : List CtorId). slice_get l choice.index) (ctors_at d consistent own own_sels of_sorts of_ctors s sort.0 sort.1) ∙ choice.listed)

  -- the sort of a field is there
  pub field_within : (c : CtorId) (k t : ℕ) → c.0 < length d.ctors → slice_get (ctor_fields d c) k ≡ Some t → t < length d.sorts
  field_within c k t within listed =
      let ctor = slice_get-there d.ctors c.0 within in
      let field = ctor_field d consistent own own_sels of_sorts of_ctors c ctor.0 k t ctor.1 listed in
      subst (λ n. n < length d.sorts) field.sorted (consistent.fields field.id.0 field.selector field.declared)

  module _ (ranks : List ℕ) (base : ℕ) (g : Nodes) (sorted : HaveTheirSorts d ranks base g) where
    default_fields : (sels : List SelId) → ((index : ℕ) (id : SelId) → slice_get sels index ≡ Some id → (sel : Selector) × (slice_get d.sels id.0 ≡ Some sel)) → AllZip (IsNodeOfField d g) (map (node_of_sort base ranks) (map (field_sort d) sels)) sels
    default_fields [] each = tt
    default_fields (id ∷ sels) each =
        let sel = each 0 id refl in
        let is = field_at d consistent own own_sels of_sorts of_ctors id sel.0 sel.1 in (
          record { selector = sel.0; declared = sel.1; sorted = subst (λ n. HasNodeSort d g (node_of_sort base ranks n) sel.0.sort) (sym is) (sorted sel.0.sort.0 (consistent.fields id.0 sel.0 sel.1)) },
          default_fields sels (λ index. each (suc index)),
        )

    over_fields : (c : CtorId) (ctor : Constructor) → slice_get d.ctors c.0 ≡ Some ctor → AllZip (IsNodeOfField d g) (map (node_of_sort base ranks) (ctor_fields d c)) ctor.sels
    over_fields c ctor at =
        let list : ctor_fields d c ≡ map (field_sort d) ctor.sels = ap (map (field_sort d)) (sels_at d consistent own own_sels of_sorts of_ctors c ctor at) in
        subst (λ (ts : List ℕ). AllZip (IsNodeOfField d g) (map (node_of_sort base ranks) ts) ctor.sels) (sym list)
        (default_fields ctor.sels (λ index id listed. let h = own_sels c.0 index ctor id at listed in (h.0, h.1)))

    pub fits_over : (c : CtorId) → c.0 < length d.ctors → FitsNode d g (node_over d ranks base c)
    fits_over c within = let ctor = slice_get-there d.ctors c.0 within in record { ctor = ctor.0; declared = ctor.1; fields = over_fields c ctor.0 ctor.1 }

    -- a node of a field's sort stands at a selector of the constructor in the place of the field
    node_of_field : (c : CtorId) (place next : ℕ) (child : NodeId) (ctor : Constructor) → slice_get d.ctors c.0 ≡ Some ctor → slice_get (ctor_fields d c) place ≡ Some next → HasNodeSort d g child (record { 0 = next }) → (id : SelId) → slice_get ctor.sels place ≡ Some id → IsNodeOfField d g child id
    node_of_field c place next child ctor declared field child_sorted id at_id =
        let source = slice_get-map_source (field_sort d) (sels_of d c) place next field in
        let at_sel : slice_get ctor.sels place ≡ Some source.0 = ap (λ (l : List SelId). slice_get l place) (sym (sels_at d consistent own own_sels of_sorts of_ctors c ctor declared)) ∙ source.1 in
        let sel = own_sels c.0 place ctor source.0 declared at_sel in
        let sort : next ≡ sel.0.sort.0 = sym source.2 ∙ field_at d consistent own own_sels of_sorts of_ctors source.0 sel.0 sel.1 in
        let same : id ≡ source.0 = same_Some _ _ (sym at_id ∙ at_sel) in
        record {
          selector = sel.0;
          declared = ap (λ (z : SelId). slice_get d.sels z.0) same ∙ sel.1;
          sorted = subst (λ (z : SortId). HasNodeSort d g child z) (ap (λ n. record { 0 = n }) sort) child_sorted;
        }

    step_fields : (step : Step) (child : NodeId) (ctor : Constructor) → slice_get d.ctors step.ctor.0 ≡ Some ctor → slice_get (ctor_fields d step.ctor) step.place ≡ Some step.next → HasNodeSort d g child (record { 0 = step.next }) → AllZip (IsNodeOfField d g) (slice_set (map (node_of_sort base ranks) (ctor_fields d step.ctor)) step.place child) ctor.sels
    step_fields step child ctor declared field child_sorted =
        paired_set (IsNodeOfField d g) (map (node_of_sort base ranks) (ctor_fields d step.ctor)) ctor.sels step.place child (over_fields step.ctor ctor declared) (node_of_field step.ctor step.place step.next child ctor declared field child_sorted)

    pub fits_layer : (several : List ℕ) (second : ℕ) (step : Step) (set : Option Step) (child : NodeId) → step.ctor.0 < length d.ctors → slice_get (ctor_fields d step.ctor) step.place ≡ Some step.next → HasNodeSort d g child (record { 0 = step.next })
        → ((other : Step) → set ≡ Some other → CanSet d several second g step other) → FitsNode d g (node_of_layer d several ranks base second step set child)
    fits_layer several second step None child within field child_sorted can =
        let ctor = slice_get-there d.ctors step.ctor.0 within in record { ctor = ctor.0; declared = ctor.1; fields = step_fields step child ctor.0 ctor.1 field child_sorted }
    fits_layer several second step (Some other) child within field child_sorted can =
        let ctor = slice_get-there d.ctors step.ctor.0 within in
        let is = can other refl in
        record {
          ctor = ctor.0;
          declared = ctor.1;
          fields = paired_set (IsNodeOfField d g) (slice_set (map (node_of_sort base ranks) (ctor_fields d step.ctor)) step.place child) ctor.0.sels other.place (node_of_sort second several other.next) (step_fields step child ctor.0 ctor.1 field child_sorted) (node_of_field step.ctor other.place other.next (node_of_sort second several other.next) ctor.0 ctor.1 is.field.field is.sorted);
        }

-- the children of a node that fits are below the end of the graph
pub fits_below : (d : Declarations) (g : Nodes) (node : Node) → FitsNode d g node → HasChildrenBelow (length g) node
fits_below d g node fits = All-from_slice_get (λ child. child.0 < length g) (node_children node) (λ k child at. fits_within d g node k child fits at)

-- the sort of a node with a constructor of the sort
pub con_sort : (d : Declarations) (c : CtorId) (ids : List NodeId) (ctor : Constructor) (s : ℕ) → slice_get d.ctors c.0 ≡ Some ctor → ctor.sort.0 ≡ s → node_sort d (Con c ids) ≡ Some (record { 0 = s })
con_sort d c ids ctor s at e = ap (option_map (λ (x : Constructor). x.sort)) at ∙ ap (λ n. Some (record { 0 = n })) e
