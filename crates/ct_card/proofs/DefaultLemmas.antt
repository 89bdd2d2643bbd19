-- Default values of all sorts after a graph keep it well formed.
use Rattle.std.proofs.Common.{◌≡◌, ℕ, suc, ◌+◌, ◌-◌, ◌<◌, ◌⊎◌, Bool, true, false, cond, List, [], ◌∷◌, ◌++◌, length, map, get_or, slice_get, Some, None, Option, option_map, unwrap_or, refl, sym, ◌∙◌, ap, subst, inl, inr, arith, true≢false, All, length-append}
use Rattle.std.specs.List.{AllZip}
use Rattle.std.proofs.lemmas.Bool.{false≢true}
use Rattle.std.proofs.lemmas.Option.{none-some, same_Some, slice_get_within}
use Rattle.ct_lemmas.proofs.Each.{All-from_slice_get}
use Rattle.ct_lemmas.proofs.Lists.{slice_get-append_after, slice_get-map_source, slice_get-there}
use Rattle.ct_sorts.specs.declared.ids.CtorId.{CtorId}
use Rattle.ct_sorts.specs.declared.ids.SelId.{SelId}
use Rattle.ct_sorts.specs.declared.ids.SortId.{SortId}
use Rattle.ct_sorts.specs.declared.ids.Kind.{Kind}
use Rattle.ct_sorts.specs.declared.ids.Kind.TheVariants.{Bool as BoolKind, Free, Data, Codata}
use Rattle.ct_sorts.specs.Declarations.{Declarations, Sort, Constructor, Selector}
use Rattle.ct_sorts.specs.Consistent.{IsConsistent, FitsKind}
use Rattle.ct_sorts.specs.Structure.{HaveOwnConstructors, AreOfTheirSorts, HaveOwnSelectors, AreOfTheirConstructors}
use Rattle.ct_values.specs.declared.node.NodeId.{NodeId}
use Rattle.ct_values.specs.declared.node.Node.{Node}
use Rattle.ct_values.specs.declared.node.Node.TheVariants.{Con, Elem}
use Rattle.ct_values.specs.Graph.{Nodes, HasChildrenBelow, node_children}
use Rattle.ct_values.specs.Fitting.{HasNodeSort, IsNodeOfField, FitsNode, node_sort}
use Rattle.ct_values.specs.WellFormed.{IsData, IsWellFormedGraph}
use Rattle.ct_card.specs.Fields.{field_sort, ctor_fields}
use Rattle.ct_card.specs.Founding.{AreFounded}
use Rattle.ct_card.specs.Defaults.{is_free, is_free_sort, IsChoice, AreChosen, node_of_sort, default_node, AreDefaultNodes, HasDefaults, IsPlan}
use Rattle.ct_card.proofs.SizeLemmas.{derived_within, bool_two}
use Rattle.ct_card.proofs.RuleLemmas.{ctor_field, sels_at, field_at}
use Rattle.ct_card.proofs.WellFormedLemmas.{well_formed_longer, fits_within}

module _ (d : Declarations) (consistent : IsConsistent d) (own : HaveOwnConstructors d) (own_sels : HaveOwnSelectors d) (of_sorts : AreOfTheirSorts d) (of_ctors : AreOfTheirConstructors d) where
  pub free_at : (s : ℕ) (sort : Sort) → slice_get d.sorts s ≡ Some sort → is_free_sort d s ≡ is_free sort.kind
  free_at s sort at = ap (λ (o : Option Sort). unwrap_or (option_map (λ (x : Sort). is_free x.kind) o) false) at

  free_kind : (k : Kind) → is_free k ≡ true → k ≡ Free
  free_kind BoolKind e = absurd (false≢true e)
  free_kind Free e = refl
  free_kind Data e = absurd (false≢true e)
  free_kind Codata e = absurd (false≢true e)

  -- a sort that is not uninterpreted has constructors
  pub has_ctors : (s : ℕ) (sort : Sort) → slice_get d.sorts s ≡ Some sort → is_free sort.kind ≡ false → 0 < length sort.ctors
  has_ctors s sort at e = by sort.kind refl (consistent.kinds s sort at)
    where
      by : (k : Kind) → sort.kind ≡ k → FitsKind s k (length sort.ctors) → 0 < length sort.ctors
      by BoolKind is fits = let two = bool_two d consistent own s sort at fits in omega arith
      by Free is fits = absurd (true≢false (ap is_free (sym is) ∙ e))
      by Data is fits = fits
      by Codata is fits = fits

  -- the chosen constructor of a sort that is not uninterpreted is there
  pub chosen_within : (ranks : List ℕ) (ctors : List CtorId) → AreChosen d ranks ctors → (s : ℕ) (c : CtorId) → s < length d.sorts → is_free_sort d s ≡ false → slice_get ctors s ≡ Some c → c.0 < length d.ctors
  chosen_within ranks ctors chosen s c within other at =
      let sort = slice_get-there d.sorts s within in
      let choice = chosen.each s sort.0 c sort.1 at (has_ctors s sort.0 sort.1 (sym (free_at s sort.0 sort.1) ∙ other)) in
      let mine = own s choice.index sort.0 c sort.1 choice.listed in
      slice_get_within d.ctors c.0 mine.0 mine.1

  -- what the kind of a sort tells
  pub free_kind_at : (s : ℕ) (k : Kind) → option_map (λ (x : Sort). x.kind) (slice_get d.sorts s) ≡ Some k → is_free_sort d s ≡ is_free k
  free_kind_at s k at = by (slice_get d.sorts s) at
    where
      by : (o : Option Sort) → option_map (λ (x : Sort). x.kind) o ≡ Some k → unwrap_or (option_map (λ (x : Sort). is_free x.kind) o) false ≡ is_free k
      by None e = absurd (none-some _ e)
      by (Some x) e = ap is_free (same_Some _ _ e)

  module _ (ranks order : List ℕ) (ctors : List CtorId) (plan : IsPlan d ranks order ctors) (g nodes : Nodes) (are : AreDefaultNodes d ranks order ctors (length g) nodes) where
    -- the node of a sort stands at its number
    standing : (s : ℕ) → s < length d.sorts → (c : CtorId) × (slice_get ctors s ≡ Some c) × (slice_get (g ++ nodes) (node_of_sort (length g) ranks s).0 ≡ Some (default_node d ranks (length g) s c))
    standing s within =
        let ranked : 0 < get_or ranks s 0 = plan.founded.all s within in
        let here : get_or ranks s 0 ≡ suc (get_or ranks s 0 - 1) = omega arith in
        let in_order = plan.founded.ordered.of (get_or ranks s 0 - 1) s here in
        let c = slice_get-there ctors s (omega (arith, plan.chosen.long)) in
        let node = slice_get-there nodes (get_or ranks s 0 - 1) (omega (arith, are.long, slice_get_within order (get_or ranks s 0 - 1) s in_order)) in
        (c.0, c.1, slice_get-append_after g nodes (get_or ranks s 0 - 1) ∙ node.1 ∙ ap Some (are.each (get_or ranks s 0 - 1) s c.0 node.0 node.1 in_order c.1))

    -- all default nodes stand after the graph
    pub defaults_stand : HasDefaults d ranks ctors (g ++ nodes) (length g)
    defaults_stand s c within at =
        let stands = standing s within in
        let same : stands.0 ≡ c = same_Some _ _ (sym stands.1 ∙ at) in
        stands.2 ∙ ap (λ (z : CtorId). Some (default_node d ranks (length g) s z)) same

    -- what a default node is: an element of an uninterpreted sort, or the chosen constructor
    default_cases : (s : ℕ) (sort : Sort) (c : CtorId) → slice_get d.sorts s ≡ Some sort → slice_get ctors s ≡ Some c →
        ((sort.kind ≡ Free) × (default_node d ranks (length g) s c ≡ Elem (record { 0 = s }) 0))
        ⊎ (IsChoice d ranks s sort c × (default_node d ranks (length g) s c ≡ Con c (map (node_of_sort (length g) ranks) (ctor_fields d c))))
    default_cases s sort c at at_c = by (is_free_sort d s) refl
      where
        by : (b : Bool) → is_free_sort d s ≡ b →
            ((sort.kind ≡ Free) × (default_node d ranks (length g) s c ≡ Elem (record { 0 = s }) 0))
            ⊎ (IsChoice d ranks s sort c × (default_node d ranks (length g) s c ≡ Con c (map (node_of_sort (length g) ranks) (ctor_fields d c))))
        by true e = inl (free_kind sort.kind (sym (free_at s sort at) ∙ e), ap (λ b. cond b (Elem (record { 0 = s }) 0) (Con c (map (node_of_sort (length g) ranks) (ctor_fields d c)))) e)
        by false e = inr (plan.chosen.each s sort c at at_c (has_ctors s sort at (sym (free_at s sort at) ∙ e)), ap (λ b. cond b (Elem (record { 0 = s }) 0) (Con c (map (node_of_sort (length g) ranks) (ctor_fields d c)))) e)

    -- the sort of the chosen constructor
    choice_sort : (s : ℕ) (sort : Sort) (c : CtorId) → slice_get d.sorts s ≡ Some sort → IsChoice d ranks s sort c → (ctor : Constructor) × (slice_get d.ctors c.0 ≡ Some ctor) × (ctor.sort ≡ record { 0 = s })
    choice_sort s sort c at choice =
        let mine = own s choice.index sort c at choice.listed in
        (mine.0, mine.1, ap (λ n. record { 0 = n }) mine.2)

    -- each sort's node has the sort
    pub defaults_sorted : (s : ℕ) → s < length d.sorts → HasNodeSort d (g ++ nodes) (node_of_sort (length g) ranks s) (record { 0 = s })
    defaults_sorted s within =
        let stands = standing s within in
        let sort = slice_get-there d.sorts s within in
        elim (default_cases s sort.0 stands.0 sort.1 stands.1) [
          | inl (free, is) ↦ (Elem (record { 0 = s }) 0, stands.2 ∙ ap Some is, refl)
          | inr (choice, is) ↦
              let ctor = choice_sort s sort.0 stands.0 sort.1 choice in
              (Con stands.0 (map (node_of_sort (length g) ranks) (ctor_fields d stands.0)), stands.2 ∙ ap Some is, ap (option_map (λ (x : Constructor). x.sort)) ctor.1 ∙ ap Some ctor.2)
        ]

    -- nodes of the sorts of selectors' fields
    fields_sorted : (c : ℕ) (sels : List SelId) → ((index : ℕ) (id : SelId) → slice_get sels index ≡ Some id → (sel : Selector) × (slice_get d.sels id.0 ≡ Some sel)) → AllZip (IsNodeOfField d (g ++ nodes)) (map (node_of_sort (length g) ranks) (map (field_sort d) sels)) sels
    fields_sorted c [] each = tt
    fields_sorted c (id ∷ sels) each =
        let sel = each 0 id refl in
        let is = field_at d consistent own own_sels of_sorts of_ctors id sel.0 sel.1 in
        let sorted = defaults_sorted sel.0.sort.0 (consistent.fields id.0 sel.0 sel.1) in (
          record { selector = sel.0; declared = sel.1; sorted = subst (λ n. HasNodeSort d (g ++ nodes) (node_of_sort (length g) ranks n) sel.0.sort) (sym is) sorted },
          fields_sorted c sels (λ index. each (suc index)),
        )

    fits_default : (i : ℕ) (node : Node) → slice_get nodes i ≡ Some node → FitsNode d (g ++ nodes) node
    fits_default i node at =
        let s = slice_get-there order i (omega (arith, are.long, slice_get_within nodes i node at)) in
        let rank : get_or ranks s.0 0 ≡ suc i = plan.founded.ordered.at i s.0 s.1 in
        let within : s.0 < length d.sorts = subst (λ n. s.0 < n) plan.founded.long (derived_within ranks s.0 (omega arith)) in
        let sort = slice_get-there d.sorts s.0 within in
        let c = slice_get-there ctors s.0 (omega (arith, plan.chosen.long)) in
        let is = are.each i s.0 c.0 node at s.1 c.1 in
        elim (default_cases s.0 sort.0 c.0 sort.1 c.1) [
          | inl (free, shape) ↦ subst (λ (x : Node). FitsNode d (g ++ nodes) x) (sym (is ∙ shape)) (record { sort = sort.0; declared = sort.1; free = free })
          | inr (choice, shape) ↦
              let ctor = choice_sort s.0 sort.0 c.0 sort.1 choice in
              let fields : AllZip (IsNodeOfField d (g ++ nodes)) (map (node_of_sort (length g) ranks) (map (field_sort d) ctor.0.sels)) ctor.0.sels = fields_sorted c.0.0 ctor.0.sels (λ index id listed. let h = own_sels c.0.0 index ctor.0 id ctor.1 listed in (h.0, h.1)) in
              let list : ctor_fields d c.0 ≡ map (field_sort d) ctor.0.sels = ap (map (field_sort d)) (sels_at d consistent own own_sels of_sorts of_ctors c.0 ctor.0 ctor.1) in
              subst (λ (x : Node). FitsNode d (g ++ nodes) x) (sym (is ∙ shape)) (record {
                ctor = ctor.0;
                declared = ctor.1;
                fields = subst (λ (ts : List ℕ). AllZip (IsNodeOfField d (g ++ nodes)) (map (node_of_sort (length g) ranks) ts) ctor.0.sels) (sym list) fields;
              })
        ]

    -- a child of the node of a datatype has a smaller number
    before_default : (i k : ℕ) (node : Node) (child : NodeId) → slice_get nodes i ≡ Some node → slice_get (node_children node) k ≡ Some child → IsData d (g ++ nodes) (record { 0 = length g + i }) → child.0 < length g + i
    before_default i k node child at listed (sort_id, data_sort, (other, at_other, sorted), at_sort, data_kind) =
        let s = slice_get-there order i (omega (arith, are.long, slice_get_within nodes i node at)) in
        let rank : get_or ranks s.0 0 ≡ suc i = plan.founded.ordered.at i s.0 s.1 in
        let within : s.0 < length d.sorts = subst (λ n. s.0 < n) plan.founded.long (derived_within ranks s.0 (omega arith)) in
        let sort = slice_get-there d.sorts s.0 within in
        let c = slice_get-there ctors s.0 (omega (arith, plan.chosen.long)) in
        let is = are.each i s.0 c.0 node at s.1 c.1 in
        let same_node : other ≡ node = same_Some _ _ (sym at_other ∙ slice_get-append_after g nodes i ∙ at) in
        elim (default_cases s.0 sort.0 c.0 sort.1 c.1) [
          | inl (free, shape) ↦ absurd (none-some _ (ap (λ (x : Node). slice_get (node_children x) k) (sym (is ∙ shape)) ∙ listed))
          | inr (choice, shape) ↦
              let ctor = choice_sort s.0 sort.0 c.0 sort.1 choice in
              let top : other ≡ Con c.0 (map (node_of_sort (length g) ranks) (ctor_fields d c.0)) = same_node ∙ is ∙ shape in
              let of_top : Some ctor.0.sort ≡ Some sort_id = ap (option_map (λ (x : Constructor). x.sort)) (sym ctor.1) ∙ ap (node_sort d) (sym top) ∙ sorted in
              let same_id : sort_id.0 ≡ s.0 = ap (λ (x : SortId). x.0) (sym (same_Some _ _ of_top) ∙ ctor.2) in
              let same_sort : data_sort ≡ sort.0 = same_Some _ _ (sym at_sort ∙ ap (slice_get d.sorts) same_id ∙ sort.1) in
              let lower = choice.lower (ap (λ (x : Sort). x.kind) (sym same_sort) ∙ data_kind) in
              let source = slice_get-map_source (node_of_sort (length g) ranks) (ctor_fields d c.0) k child (ap (λ (x : Node). slice_get (node_children x) k) (sym (is ∙ shape)) ∙ listed) in
              let less : get_or ranks source.0 0 < get_or ranks s.0 0 = lower k source.0 source.1 in
              let number : (node_of_sort (length g) ranks source.0).0 ≡ child.0 = ap (λ (x : NodeId). x.0) source.2 in
              let field = ctor_field d consistent own own_sels of_sorts of_ctors c.0 ctor.0 k source.0 ctor.1 source.1 in
              let inside : source.0 < length d.sorts = subst (λ n. n < length d.sorts) field.sorted (consistent.fields field.id.0 field.selector field.declared) in
              let some : 0 < get_or ranks source.0 0 = plan.founded.all source.0 inside in
              omega arith
        ]

    pub defaults_well_formed : IsWellFormedGraph d g → IsWellFormedGraph d (g ++ nodes)
    defaults_well_formed formed = well_formed_longer d g nodes formed fits_default before_default

    -- their children are below the end of the longer graph
    pub defaults_below : All (HasChildrenBelow (length g + length nodes)) nodes
    defaults_below = All-from_slice_get (HasChildrenBelow (length g + length nodes)) nodes (λ i node at. All-from_slice_get (λ child. child.0 < length g + length nodes) (node_children node) (λ k child listed.
        let within : child.0 < length (g ++ nodes) = fits_within d (g ++ nodes) node k child (fits_default i node at) listed in
        omega (arith, length-append g nodes)))

-- the ranks of sorts count from 1, up to the length of the order
pub ranked_below : (d : Declarations) (ranks order : List ℕ) → AreFounded d ranks order → (base bound : ℕ) → base + length order < bound → (s : ℕ) → s < length ranks → (0 < get_or ranks s 0) × (base + get_or ranks s 0 < bound)
ranked_below d ranks order founded base bound room s within =
    let some : 0 < get_or ranks s 0 = founded.all s (omega (arith, founded.long)) in
    let here : get_or ranks s 0 ≡ suc (get_or ranks s 0 - 1) = omega arith in
    let at = slice_get_within order (get_or ranks s 0 - 1) s (founded.ordered.of (get_or ranks s 0 - 1) s here) in
    (some, omega arith)

-- what stands in the order is a sort
pub order_within : (d : Declarations) (ranks order : List ℕ) → AreFounded d ranks order → (i s : ℕ) → slice_get order i ≡ Some s → s < length d.sorts
order_within d ranks order founded i s at =
    let rank : get_or ranks s 0 ≡ suc i = founded.ordered.at i s at in
    subst (λ n. s < n) founded.long (derived_within ranks s (omega arith))
