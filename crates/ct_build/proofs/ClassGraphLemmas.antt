-- A graph in which each class has a node.
use Rattle.std.proofs.Common.{◌≡◌, ℕ, ◌+◌, ◌<◌, ◌⊎◌, List, [], ◌∷◌, ◌++◌, length, slice_get, Some, All, option_map, refl, sym, ◌∙◌, ap, subst, inl, inr, arith}
use Rattle.std.specs.List.{AllByRecursion}
use Rattle.std.proofs.lemmas.Option.{same_Some, slice_get_within}
use Rattle.ct_lemmas.proofs.Lists.{slice_get-there}
use Rattle.ct_sorts.specs.declared.ids.CtorId.{CtorId}
use Rattle.ct_sorts.specs.declared.ids.SortId.{SortId}
use Rattle.ct_sorts.specs.declared.ids.Kind.{Kind}
use Rattle.ct_sorts.specs.declared.ids.Kind.TheVariants.{Bool as BoolKind, Free, Data, Codata}
use Rattle.ct_sorts.specs.Declarations.{Sort}
use Rattle.ct_values.specs.declared.node.NodeId.{NodeId}
use Rattle.ct_values.specs.declared.node.Node.{Node}
use Rattle.ct_values.specs.Graph.{Nodes, IsClosed, HasChildrenBelow}
use Rattle.ct_values.specs.WellFormed.{IsWellFormedGraph}
use Rattle.ct_terms.specs.declared.ids.TermId.{TermId}
use Rattle.ct_terms.specs.declared.term.Core.TheVariants.{Con}
use Rattle.ct_terms.specs.Terms.{IsOfSort, Has}
use Rattle.ct_congr.specs.State.{State, IsQuiet}
use Rattle.ct_acyclic.specs.Order.{IsClassOrder}
use Rattle.ct_build.specs.OpenClasses.{HaveOwnRepresentatives}
use Rattle.ct_build.specs.Nodes.{HaveSortedNodes, IsOtherClass, IsClassList, AreNumbered, AreClassNodes, AreAssigned}
use Rattle.ct_build.specs.Known.{Known}
use Rattle.ct_build.proofs.TermLemmas.{sort_declared}
use Rattle.ct_build.proofs.ClassLemmas.{class_nodes_well_formed, class_nodes_have, class_nodes_below}
use Rattle.ct_build.proofs.AssignedLemmas.{node_of_class, assigned}
use Rattle.ct_build.proofs.AnswerLemmas.{kind_other}
use Rattle.ct_build.proofs.KnownLemmas.{represented}

module _ (state : State) (known : Known state) (quiet : IsQuiet state) (own : HaveOwnRepresentatives state) (order list : List TermId) (ordered : IsClassOrder state order) (listed : IsClassList state order list) (g : Nodes) (closed : IsClosed g) (values nodes : List NodeId) (numbered : AreNumbered state list (length g) nodes) (added : List Node) (are : AreClassNodes state g values list nodes added) where
  -- a class is of a datatype, or of none
  data_cases : (t : TermId) → slice_get state.reps t.0 ≡ Some t → IsOtherClass state t ⊎ ((i : ℕ) × (slice_get order i ≡ Some t))
  data_cases t own_t =
      let inside : t.0 < length state.terms = subst (λ (n : ℕ). t.0 < n) known.long (slice_get_within state.reps t.0 t own_t) in
      let ((core, s), at) = slice_get-there state.terms t.0 inside in
      let declared = sort_declared state.declarations known.consistent known.own_sorts known.some state.terms known.sorted known.ordered t s (core, at) in
      let (sort, at_sort) = slice_get-there state.declarations.sorts s.0 declared in
      by s (core, at) sort at_sort sort.kind refl
    where
      kind_of : (s : SortId) (sort : Sort) → slice_get state.declarations.sorts s.0 ≡ Some sort → (kind : Kind) → sort.kind ≡ kind → option_map (λ (x : Sort). x.kind) (slice_get state.declarations.sorts s.0) ≡ Some kind
      kind_of s sort at kind is = ap (option_map (λ (x : Sort). x.kind)) at ∙ ap Some is

      by : (s : SortId) → IsOfSort state.terms t s → (sort : Sort) → slice_get state.declarations.sorts s.0 ≡ Some sort → (kind : Kind) → sort.kind ≡ kind → IsOtherClass state t ⊎ ((i : ℕ) × (slice_get order i ≡ Some t))
      by s is_of sort at BoolKind is = inl (kind_other state t s BoolKind own_t is_of (kind_of s sort at BoolKind is) (λ e. cc))
      by s is_of sort at Free is = inl (kind_other state t s Free own_t is_of (kind_of s sort at Free is) (λ e. cc))
      by s is_of sort at Codata is = inl (kind_other state t s Codata own_t is_of (kind_of s sort at Codata is) (λ e. cc))
      by s is_of sort at Data is = inr (ordered.each t (record { own = own_t; datatype = record { id = s; sort = sort; sorted = is_of; declared = at; kind = is } }))

  -- each node of a term is below the end
  nodes_below : (t : ℕ) (n : NodeId) → slice_get nodes t ≡ Some n → n.0 < length g + length list
  nodes_below t n at =
      let inside : t < length state.reps = subst (λ (k : ℕ). t < k) (numbered.long ∙ sym known.long) (slice_get_within nodes t n at) in
      let (r, at_r) = slice_get-there state.reps t inside in
      let (m, at_m, place) = node_of_class known.laws state known.sorted (represented state known own) quiet order list ordered listed g closed values nodes numbered added are data_cases (record { 0 = t }) r at_r in
      let number : n.0 ≡ length g + place.index = ap (λ (q : NodeId). q.0) (same_Some n m (sym at ∙ at_m)) ∙ place.number in
      omega (arith, number, slice_get_within list place.index r place.listed)

  arguments_there : (con : TermId) (c : CtorId) (args : List TermId) → Has state.terms (Con c args) con.0 → AllByRecursion (λ a. a.0 < length nodes) args
  arguments_there con c args stands = all args (known.ordered con.0 (Con c args) stands)
    where
      within : con.0 < length state.terms
      within = slice_get_within state.terms con.0 _ stands.1

      all : (xs : List TermId) → AllByRecursion (λ a. a.0 < con.0) xs → AllByRecursion (λ a. a.0 < length nodes) xs
      all [] h = tt
      all (x ∷ xs) h = (omega (arith, within, h.0, numbered.long), all xs h.1)

  pub added_below : All (HasChildrenBelow (length g + length added)) added
  added_below = class_nodes_below state list g closed values nodes nodes_below arguments_there added are

  pub graph_assigned : AreAssigned state g values (g ++ added) nodes
  graph_assigned = assigned known.laws state known.sorted (represented state known own) quiet order list ordered listed g closed values nodes numbered added are data_cases

  pub graph_sorted : IsWellFormedGraph state.declarations g → HaveSortedNodes state.declarations state.terms g values → IsWellFormedGraph state.declarations (g ++ added) × HaveSortedNodes state.declarations state.terms (g ++ added) nodes
  graph_sorted formed have =
      let of = node_of_class known.laws state known.sorted (represented state known own) quiet order list ordered listed g closed values nodes numbered added are data_cases in (
        class_nodes_well_formed state known.sorted known.one_sort known.long order list ordered listed g formed values have nodes numbered.long of added are,
        class_nodes_have state known.sorted known.one_sort known.long order list ordered listed g formed values have nodes numbered.long of added are,
      )
