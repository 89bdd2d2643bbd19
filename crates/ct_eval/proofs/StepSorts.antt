-- Sorts of nodes: a node has the sort of its head, and a graph fits with one more node that does.
use Rattle.std.proofs.Common.{◌≡◌, ◌⊎◌, inl, inr, [], ◌∷◌, ◌++◌, length, Option, Some, None, option_map, slice_get, refl, sym, ap, subst, ◌∙◌}
use Rattle.std.proofs.lemmas.Option.{none-some, same_Some}
use Rattle.ct_lemmas.proofs.Lists.{slice_get-push_cases}
use Rattle.ct_lemmas.proofs.Pairs.{AllZip-weaker}
use Rattle.ct_sorts.specs.declared.ids.SelId.{SelId}
use Rattle.ct_sorts.specs.declared.ids.SortId.{SortId}
use Rattle.ct_sorts.specs.Declarations.{Declarations}
use Rattle.ct_values.specs.declared.node.NodeId.{NodeId}
use Rattle.ct_values.specs.declared.node.Node.{Node}
use Rattle.ct_values.specs.declared.node.Node.TheVariants.{Con, Elem}
use Rattle.ct_values.specs.declared.node.Head.{Head}
use Rattle.ct_values.specs.declared.node.Head.TheVariants as heads
use Rattle.ct_values.specs.Graph.{Nodes, node_head}
use Rattle.ct_values.specs.Value.{reference}
use Rattle.ct_values.specs.Agreement.{head_of}
use Rattle.ct_values.specs.Fitting.{node_sort, HasNodeSort, IsNodeOfField, FitsNode, FitsGraph}
use Rattle.ct_eval.specs.Valued.{IsLonger}
use Rattle.ct_eval.specs.EvaluationStep.{IsGrown}
use Rattle.ct_eval.proofs.StepNodes.{HasNodeSort-longer, IsLonger-itself}

-- the sort of a head
abbrev pub head_sort : Declarations → Head → Option SortId
head_sort d (heads.Con c) = option_map (λ ctor. ctor.sort) (slice_get d.ctors c.0)
head_sort d (heads.Elem s n) = Some s

node_sort_by_head : (d : Declarations) (node : Node) → node_sort d node ≡ head_sort d (node_head node)
node_sort_by_head d (Con c children) = refl
node_sort_by_head d (Elem s n) = refl

-- a node has the sort of its head
pub sorted_by_head : (d : Declarations) (g : Nodes) (n : NodeId) (h : Head) (s : SortId) → head_of g (reference n) ≡ Some h → head_sort d h ≡ Some s → HasNodeSort d g n s
sorted_by_head d g n h s is sort = at (slice_get g n.0) refl
  where
    at : (found : Option Node) → slice_get g n.0 ≡ found → HasNodeSort d g n s
    at None e = absurd (none-some h (sym (ap (option_map node_head) e) ∙ is))
    at (Some node) e =
        let same : node_head node ≡ h = same_Some (node_head node) h (sym (ap (option_map node_head) e) ∙ is) in
        (node, e, node_sort_by_head d node ∙ ap (head_sort d) same ∙ sort)

-- nodes with one head have one sort
pub same_sorts : (d : Declarations) (g h : Nodes) (m n : NodeId) (s : SortId) → head_of g (reference m) ≡ head_of h (reference n) → HasNodeSort d h n s → HasNodeSort d g m s
same_sorts d g h m n s heads_alike has =
    sorted_by_head d g m (node_head has.0) s (heads_alike ∙ ap (option_map node_head) has.1) (sym (node_sort_by_head d has.0) ∙ has.2)

-- what fits a graph fits a longer one
IsNodeOfField-longer : (d : Declarations) (g longer : Nodes) → IsLonger g longer → (child : NodeId) (s : SelId) → IsNodeOfField d g child s → IsNodeOfField d longer child s
IsNodeOfField-longer d g longer l child s h = record {
  selector = h.selector;
  declared = h.declared;
  sorted = HasNodeSort-longer d g longer child h.selector.sort l h.sorted;
}

FitsNode-longer : (d : Declarations) (g longer : Nodes) (node : Node) → IsLonger g longer → FitsNode d g node → FitsNode d longer node
FitsNode-longer d g longer (Con c children) l h = record {
  ctor = h.ctor;
  declared = h.declared;
  fields = AllZip-weaker (IsNodeOfField d g) (IsNodeOfField d longer) (IsNodeOfField-longer d g longer l) children h.ctor.sels h.fields;
}
FitsNode-longer d g longer (Elem s n) l h = h

-- a graph fits with one more node that fits
FitsGraph-push : (d : Declarations) (g : Nodes) (node : Node) → FitsGraph d g → FitsNode d g node → FitsGraph d (g ++ node ∷ [])
FitsGraph-push d g node fits fit n other at =
    elim (slice_get-push_cases g node other n at) [
      | inl old ↦ FitsNode-longer d g (g ++ node ∷ []) other (node ∷ [], refl) (fits n other old)
      | inr new ↦ subst (FitsNode d (g ++ node ∷ [])) new.1 (FitsNode-longer d g (g ++ node ∷ []) node (node ∷ [], refl) fit)
    ]

-- so it does where a node was constructed, or was there
pub FitsGraph-grown : (d : Declarations) (g new : Nodes) (node : Node) → FitsGraph d g → FitsNode d g node → (new ≡ g) ⊎ (new ≡ g ++ node ∷ []) → FitsGraph d new
FitsGraph-grown d g new node fits fit (inl same) = subst (FitsGraph d) (sym same) fits
FitsGraph-grown d g new node fits fit (inr more) = subst (FitsGraph d) (sym more) (FitsGraph-push d g node fits fit)

pub IsGrown-constructed : (g new : Nodes) (node : Node) (n : NodeId) → (new ≡ g) ⊎ (new ≡ g ++ node ∷ []) → (new ≡ g) ⊎ (n.0 ≡ length g) → IsGrown g new n
IsGrown-constructed g new node n (inl same) numbered = inl same
IsGrown-constructed g new node n (inr more) (inl same) = inl same
IsGrown-constructed g new node n (inr more) (inr last) = inr (node, more, last)

pub IsLonger-grown : (g new : Nodes) (node : Node) → (new ≡ g) ⊎ (new ≡ g ++ node ∷ []) → IsLonger g new
IsLonger-grown g new node (inl same) = subst (IsLonger g) (sym same) (IsLonger-itself g)
IsLonger-grown g new node (inr more) = (node ∷ [], more)
