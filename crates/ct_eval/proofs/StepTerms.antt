-- The nodes of the terms under a term.
use Rattle.std.proofs.Common.{◌≡◌, ◌<◌, List, [], ◌∷◌, map, length, All}
use Rattle.std.specs.List.{AllZip, AllByRecursion}
use Rattle.std.proofs.lemmas.Option.{slice_get-get_or}
use Rattle.std.proofs.lemmas.List.Elements.{recursion_from_All, All-from_recursion}
use Rattle.ct_lemmas.proofs.Each.{AllByRecursion-weaker}
use Rattle.ct_sorts.specs.declared.ids.SortId.{SortId}
use Rattle.ct_sorts.specs.declared.ids.SelId.{SelId}
use Rattle.ct_sorts.specs.Declarations.{Declarations, bool_sort}
use Rattle.ct_values.specs.declared.node.NodeId.{NodeId}
use Rattle.ct_values.specs.Graph.{Nodes}
use Rattle.ct_values.specs.Value.{Value, reference}
use Rattle.ct_values.specs.Agreement.{point}
use Rattle.ct_values.specs.Fitting as fitting
use Rattle.ct_values.specs.Sharing.{IsRepresentative}
use Rattle.ct_terms.specs.declared.ids.TermId.{TermId}
use Rattle.ct_terms.specs.Terms.{Terms, IsOfSort, IsBoolean, IsOfField}
use Rattle.ct_eval.specs.declared.interp.Interp.{Interp}
use Rattle.ct_values.specs.TruthValue.{is_true}
use Rattle.ct_eval.specs.Index.{AreRepresentatives}
use Rattle.ct_eval.specs.EvaluationStep.{HasValue, AreValued, Theorems, HasNode, node_under}
use Rattle.ct_eval.proofs.StepLists.{zip-left}
use Rattle.ct_eval.proofs.StepNodes.{built_alike}

-- each of the terms has a sort
abbrev pub HasSomeSort : Terms → TermId → Type 0
HasSomeSort terms t = (sort : SortId) × IsOfSort terms t sort

pub fields_sorted : (d : Declarations) (terms : Terms) (args : List TermId) (sels : List SelId) → AllZip (IsOfField d terms) args sels → AllByRecursion (HasSomeSort terms) args
fields_sorted d terms = zip-left (IsOfField d terms) (HasSomeSort terms) (λ t s h. (h.selector.sort, h.sorted))

pub sorts_sorted : (terms : Terms) (args : List TermId) (sorts : List SortId) → AllZip (IsOfSort terms) args sorts → AllByRecursion (HasSomeSort terms) args
sorts_sorted terms = zip-left (IsOfSort terms) (HasSomeSort terms) (λ t s h. (s, h))

pub booleans_sorted : (terms : Terms) (args : List TermId) → All (IsBoolean terms) args → AllByRecursion (HasSomeSort terms) args
booleans_sorted terms args all = AllByRecursion-weaker (IsBoolean terms) (HasSomeSort terms) (λ t h. (bool_sort, h)) args (recursion_from_All (IsBoolean terms) args all)

module _ (d : Declarations) (i : Interp) (terms : Terms) (g : Nodes) (nodes : List NodeId) (value : TermId → Value) (valued : AreValued d i terms g nodes value) where
  -- the node of a term is its value
  pub valued_under : (t : TermId) (sort : SortId) → IsOfSort terms t sort → t.0 < length nodes → HasValue d i g (value t) sort (node_under nodes t)
  valued_under t sort sorted below = valued t sort (node_under nodes t) sorted (slice_get-get_or nodes t.0 (record { 0 = 0 }) below)

  -- and is there
  pub has_node : (t : TermId) (sort : SortId) → IsOfSort terms t sort → t.0 < length nodes → HasNode g nodes t
  has_node t sort sorted below = (below, (valued_under t sort sorted below).first.within)

  -- it is `true` where the term is
  pub true_alike : Theorems → (t : TermId) (sort : SortId) → IsOfSort terms t sort → t.0 < length nodes → is_true g (reference (node_under nodes t)) ≡ is_true i.graph (value t)
  true_alike theorems t sort sorted below = built_alike theorems g i.graph (record { 0 = 0 }) (value t) (node_under nodes t) (valued_under t sort sorted below).first

  -- the same of several terms
  pub are_representatives : (ts : List TermId) → AllByRecursion (HasSomeSort terms) ts → AllByRecursion (λ t. t.0 < length nodes) ts → AreRepresentatives i.graph g (map (node_under nodes) ts) (map value ts)
  are_representatives [] sorted below = tt
  are_representatives (t ∷ ts) sorted below = ((valued_under t sorted.0.0 sorted.0.1 below.0).first, are_representatives ts sorted.1 below.1)

  pub have_nodes : (ts : List TermId) → AllByRecursion (HasSomeSort terms) ts → AllByRecursion (λ t. t.0 < length nodes) ts → AllByRecursion (HasNode g nodes) ts
  have_nodes [] sorted below = tt
  have_nodes (t ∷ ts) sorted below = (has_node t sorted.0.0 sorted.0.1 below.0, have_nodes ts sorted.1 below.1)

  pub trues_alike : Theorems → (ts : List TermId) → AllByRecursion (HasSomeSort terms) ts → AllByRecursion (λ t. t.0 < length nodes) ts → AllByRecursion (λ t. is_true g (reference (node_under nodes t)) ≡ is_true i.graph (value t)) ts
  trues_alike theorems [] sorted below = tt
  trues_alike theorems (t ∷ ts) sorted below = (true_alike theorems t sorted.0.0 sorted.0.1 below.0, trues_alike theorems ts sorted.1 below.1)

  -- nodes of fields have the sorts of the fields
  pub fields_fit : (ts : List TermId) (ss : List SelId) → AllZip (IsOfField d terms) ts ss → AllByRecursion (λ t. t.0 < length nodes) ts → AllZip (fitting.IsNodeOfField d g) (map (node_under nodes) ts) ss
  fields_fit [] [] fields below = tt
  fields_fit [] (s ∷ ss) fields below = fields
  fields_fit (t ∷ ts) [] fields below = fields
  fields_fit (t ∷ ts) (s ∷ ss) fields below = (
    record { selector = fields.0.selector; declared = fields.0.declared; sorted = (valued_under t fields.0.selector.sort fields.0.sorted below.0).sorted },
    fields_fit ts ss fields.1 below.1,
  )

-- nodes that are the first for values are nodes of the graph
pub first_within : (h g : Nodes) (ns : List NodeId) (vs : List Value) → AreRepresentatives h g ns vs → All (λ n. n.0 < length g) ns
first_within h g ns vs first = All-from_recursion (λ n. n.0 < length g) ns (zip-left (λ (n : NodeId) (v : Value). IsRepresentative g (point h v) n) (λ n. n.0 < length g) (λ n v f. f.within) ns vs first)
