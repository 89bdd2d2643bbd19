-- The arguments of a constructor term, one after the other.
use Rattle.std.proofs.Common.{◌≡◌, suc, List, [], ◌∷◌, ◌++◌, length, map, Option, None, Some, refl, sym, ap, subst, ◌∙◌, append_assoc, append-nil}
use Rattle.std.proofs.lemmas.Option.{none-some}
use Rattle.std.proofs.lemmas.List.{length-map}
use Rattle.ct_sorts.specs.declared.ids.SelId.{SelId}
use Rattle.ct_sorts.specs.declared.ids.SortId.{SortId}
use Rattle.ct_sorts.specs.Declarations.{Declarations}
use Rattle.ct_sexpr.specs.Expression.{Expression, Expressions, none, more}
use Rattle.ct_values.specs.declared.node.NodeId.{NodeId}
use Rattle.ct_values.specs.Graph.{Nodes, IsClosed}
use Rattle.ct_values.specs.Value.{Value, Values, no_values, with_value}
use Rattle.ct_names.specs.Symbols.{field_sort_id}
use Rattle.ct_readback.specs.Parts.{option_both, count}
use Rattle.ct_readback.specs.Trees.{tree_at, trees_at}
use Rattle.ct_readback.specs.TreeNode.{HasTree, IsNodeOf, HaveTrees, AreFound, AreNodesOf}
use Rattle.ct_readback.proofs.TreeLemmas.{trees_longer}

-- values after values
abbrev pub append_values : Values → Values → Values
append_values no_values ws = ws
append_values (with_value v vs) ws = with_value v (append_values vs ws)

append_values_assoc : (us : Values) (v : Value) (ws : Values) → append_values us (with_value v ws) ≡ append_values (append_values us (with_value v no_values)) ws
append_values_assoc no_values v ws = refl
append_values_assoc (with_value u us) v ws = ap (with_value u) (append_values_assoc us v ws)

append_values_none : (us : Values) → append_values us no_values ≡ us
append_values_none no_values = refl
append_values_none (with_value u us) = ap (with_value u) (append_values_none us)

abbrev pub prepended : Values → Option Values → Option Values
prepended us None = None
prepended us (Some ws) = Some (append_values us ws)

prepended_more : (us : Values) (v : Value) (r : Option Values) → prepended us (option_both with_value (Some v) r) ≡ prepended (append_values us (with_value v no_values)) r
prepended_more us v None = refl
prepended_more us v (Some ws) = ap Some (append_values_assoc us v ws)

-- nodes for one value more
have_more : (d : Declarations) (g : Nodes) (ss : List SelId) (vs : Values) (ns : List NodeId) (s : SelId) (v : Value) (n : NodeId) → HaveTrees d g ss vs ns → HasTree d g (field_sort_id d s) v n
    → HaveTrees d g (ss ++ s ∷ []) (append_values vs (with_value v no_values)) (ns ++ n ∷ [])
have_more d g [] no_values [] s v n h one = (one, tt)
have_more d g [] no_values (m ∷ ns) s v n h one = absurd h
have_more d g [] (with_value w vs) [] s v n h one = absurd h
have_more d g [] (with_value w vs) (m ∷ ns) s v n h one = absurd h
have_more d g (t ∷ ss) no_values [] s v n h one = absurd h
have_more d g (t ∷ ss) no_values (m ∷ ns) s v n h one = absurd h
have_more d g (t ∷ ss) (with_value w vs) [] s v n h one = absurd h
have_more d g (t ∷ ss) (with_value w vs) (m ∷ ns) s v n h one = (h.0, have_more d g ss vs ns s v n h.1 one)

-- the first expressions say these values of the first fields, which the nodes have
pub record AreTreesSoFar (d : Declarations) (g : Nodes) (fields : List SelId) (es : Expressions) (left : List SelId) (rest : Expressions) (nodes : List NodeId) : Type 0 where
  pub done : List SelId
  pub values : Values
  pub split : fields ≡ done ++ left
  pub have : HaveTrees d g done values nodes
  pub whole : trees_at d (map (field_sort_id d) fields) es ≡ prepended values (trees_at d (map (field_sort_id d) left) rest)

same_prepended : (r : Option Values) → r ≡ prepended no_values r
same_prepended None = refl
same_prepended (Some ws) = refl

pub trees_start : (d : Declarations) (g : Nodes) (fields : List SelId) (es : Expressions) → AreTreesSoFar d g fields es fields es []
trees_start d g fields es = record { done = []; values = no_values; split = refl; have = tt; whole = same_prepended (trees_at d (map (field_sort_id d) fields) es) }

pub trees_so_far_longer : (d : Declarations) (g more_nodes : Nodes) (fields : List SelId) (es : Expressions) (left : List SelId) (rest : Expressions) (nodes : List NodeId) → IsClosed g
    → AreTreesSoFar d g fields es left rest nodes → AreTreesSoFar d (g ++ more_nodes) fields es left rest nodes
trees_so_far_longer d g more_nodes fields es left rest nodes closed h =
    record { done = h.done; values = h.values; split = h.split; have = trees_longer d g more_nodes h.done h.values nodes closed h.have; whole = h.whole }

next_by : (d : Declarations) (g : Nodes) (fields : List SelId) (es : Expressions) (s : SelId) (left : List SelId) (e : Expression) (rest : Expressions) (nodes : List NodeId) (n : NodeId) (o : Option Value)
    → tree_at d (field_sort_id d s) e ≡ o → IsNodeOf d (field_sort_id d s) o g (Some n) → AreTreesSoFar d g fields es (s ∷ left) (more e rest) nodes → AreTreesSoFar d g fields es left rest (nodes ++ n ∷ [])
next_by d g fields es s left e rest nodes n None is found h = absurd (none-some n (sym found))
next_by d g fields es s left e rest nodes n (Some v) is found h = record {
  done = h.done ++ s ∷ [];
  values = append_values h.values (with_value v no_values);
  split = h.split ∙ sym (append_assoc h.done (s ∷ []) left);
  have = have_more d g h.done h.values nodes s v n h.have found;
  whole =
      h.whole
      ∙ ap (λ (o : Option Value). prepended h.values (option_both with_value o (trees_at d (map (field_sort_id d) left) rest))) is
      ∙ prepended_more h.values v (trees_at d (map (field_sort_id d) left) rest);
}

-- the next expression says a value, which the node has
pub trees_next : (d : Declarations) (g : Nodes) (fields : List SelId) (es : Expressions) (s : SelId) (left : List SelId) (e : Expression) (rest : Expressions) (nodes : List NodeId) (n : NodeId)
    → IsNodeOf d (field_sort_id d s) (tree_at d (field_sort_id d s) e) g (Some n) → AreTreesSoFar d g fields es (s ∷ left) (more e rest) nodes → AreTreesSoFar d g fields es left rest (nodes ++ n ∷ [])
trees_next d g fields es s left e rest nodes n found h = next_by d g fields es s left e rest nodes n (tree_at d (field_sort_id d s) e) refl found h

stop_by : (d : Declarations) (g h : Nodes) (fields : List SelId) (es : Expressions) (s : SelId) (left : List SelId) (e : Expression) (rest : Expressions) (nodes : List NodeId) (o : Option Value)
    → tree_at d (field_sort_id d s) e ≡ o → IsNodeOf d (field_sort_id d s) o h None → AreTreesSoFar d g fields es (s ∷ left) (more e rest) nodes → (k : Nodes) → AreNodesOf d fields es k None
stop_by d g h fields es s left e rest nodes None is found so_far k =
    let nothing : trees_at d (map (field_sort_id d) fields) es ≡ None = so_far.whole ∙ ap (λ (o : Option Value). prepended so_far.values (option_both with_value o (trees_at d (map (field_sort_id d) left) rest))) is in
    subst (λ (o : Option Values). AreFound d fields o k None) (sym nothing) refl
stop_by d g h fields es s left e rest nodes (Some v) is found so_far k = absurd found

-- or it says none
pub trees_stop : (d : Declarations) (g h : Nodes) (fields : List SelId) (es : Expressions) (s : SelId) (left : List SelId) (e : Expression) (rest : Expressions) (nodes : List NodeId)
    → IsNodeOf d (field_sort_id d s) (tree_at d (field_sort_id d s) e) h None → AreTreesSoFar d g fields es (s ∷ left) (more e rest) nodes → (k : Nodes) → AreNodesOf d fields es k None
trees_stop d g h fields es s left e rest nodes found so_far k = stop_by d g h fields es s left e rest nodes (tree_at d (field_sort_id d s) e) refl found so_far k

-- all were said
pub trees_all : (d : Declarations) (g : Nodes) (fields : List SelId) (es : Expressions) (nodes : List NodeId) → AreTreesSoFar d g fields es [] none nodes → AreNodesOf d fields es g (Some nodes)
trees_all d g fields es nodes h =
    let all : h.done ≡ fields = sym (h.split ∙ append-nil h.done) in
    let values : trees_at d (map (field_sort_id d) fields) es ≡ Some h.values = h.whole ∙ ap Some (append_values_none h.values) in
    subst (λ (o : Option Values). AreFound d fields o g (Some nodes)) (sym values) (subst (λ (ss : List SelId). HaveTrees d g ss h.values nodes) all h.have)

-- where there are not as many expressions as fields, they say none
counts_differ : (d : Declarations) (sorts : List SortId) (es : Expressions) → (length sorts ≡ count es → ⊥) → trees_at d sorts es ≡ None
counts_differ d [] none differ = absurd (differ refl)
counts_differ d [] (more e es) differ = refl
counts_differ d (s ∷ sorts) none differ = refl
counts_differ d (s ∷ sorts) (more e es) differ = rw (counts_differ d sorts es (λ same. differ (ap suc same))) (both_none (tree_at d s e))
  where
    both_none : (o : Option Value) → option_both with_value o None ≡ None
    both_none None = refl
    both_none (Some v) = refl

pub trees_uncounted : (d : Declarations) (g : Nodes) (fields : List SelId) (es : Expressions) → (length fields ≡ count es → ⊥) → AreNodesOf d fields es g None
trees_uncounted d g fields es differ =
    let nothing : trees_at d (map (field_sort_id d) fields) es ≡ None = counts_differ d (map (field_sort_id d) fields) es (λ same. differ (sym (length-map fields (field_sort_id d)) ∙ same)) in
    subst (λ (o : Option Values). AreFound d fields o g None) (sym nothing) refl
