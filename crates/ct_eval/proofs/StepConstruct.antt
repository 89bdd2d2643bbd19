-- The node of a constructor over representatives is the representative of the constructor over their values.
use Rattle.std.proofs.Common.{◌≡◌, ◌⊎◌, ◌<◌, List, [], ◌∷◌, ◌++◌, map, length, Some, option_map, refl, sym, ap, subst, ◌∙◌}
use Rattle.std.specs.List.{AllZip, AllByRecursion}
use Rattle.ct_lemmas.proofs.Pairs.{AllZip-weaker}
use Rattle.ct_sorts.specs.declared.ids.CtorId.{CtorId}
use Rattle.ct_sorts.specs.declared.ids.SortId.{SortId}
use Rattle.ct_sorts.specs.Declarations.{Declarations, Constructor}
use Rattle.ct_values.specs.declared.node.NodeId.{NodeId}
use Rattle.ct_values.specs.declared.node.Node.TheVariants.{Con}
use Rattle.ct_values.specs.declared.node.Head.TheVariants as heads
use Rattle.ct_values.specs.Graph.{Nodes, IsClosed}
use Rattle.ct_values.specs.Value.{Value, reference, construct, values_of, list_of, node_value}
use Rattle.ct_values.specs.Agreement.{point, node_point, AgreeAlways}
use Rattle.ct_values.specs.Fitting.{IsNodeOfField, IsBuilt, FitsGraph}
use Rattle.ct_values.specs.Sharing.{IsRepresentative}
use Rattle.ct_terms.specs.declared.ids.TermId.{TermId}
use Rattle.ct_terms.specs.Terms.{Terms, Constructs}
use Rattle.ct_eval.specs.declared.interp.Interp.{Interp}
use Rattle.ct_eval.specs.Index.{AreRepresentatives}
use Rattle.ct_eval.specs.EvaluationStep.{AreValued, Theorems, IsResult, node_under}
use Rattle.ct_eval.proofs.StepNodes.{IsRepresentative-longer, head_of_representative}
use Rattle.ct_eval.proofs.StepSorts.{sorted_by_head, FitsGraph-grown, IsLonger-grown}
use Rattle.ct_eval.proofs.StepTerms.{are_representatives, fields_fit, fields_sorted}

-- values put under a constructor are the values there
list_of-values_of : (vs : List Value) → list_of (values_of vs) ≡ vs
list_of-values_of [] = refl
list_of-values_of (v ∷ vs) = ap (λ (ws : List Value). v ∷ ws) (list_of-values_of vs)

-- pairs of nodes and values, as points
paired_points : (g h : Nodes) (ns : List NodeId) (vs : List Value) → AllZip (λ n v. AgreeAlways (node_point g n) (point h v)) ns vs → AllZip AgreeAlways (map (point g) (map reference ns)) (map (point h) vs)
paired_points g h [] [] all = tt
paired_points g h [] (v ∷ vs) all = all
paired_points g h (n ∷ ns) [] all = all
paired_points g h (n ∷ ns) (v ∷ vs) all = (all.0, paired_points g h ns vs all.1)

-- a constructor over nodes and over values that agree with them
constructed_alike : Theorems → (g h : Nodes) (c : CtorId) (ns : List NodeId) (vs : List Value) → AllZip (λ n v. AgreeAlways (node_point g n) (point h v)) ns vs → AgreeAlways (point g (node_value (Con c ns))) (point h (construct c (values_of vs)))
constructed_alike theorems g h c ns vs all =
    let left : AllZip AgreeAlways (map (point g) (list_of (values_of (map reference ns)))) (map (point h) vs) = subst (λ (ws : List Value). AllZip AgreeAlways (map (point g) ws) (map (point h) vs)) (sym (list_of-values_of (map reference ns))) (paired_points g h ns vs all) in
    let both : AllZip AgreeAlways (map (point g) (list_of (values_of (map reference ns)))) (map (point h) (list_of (values_of vs))) = subst (λ (ws : List Value). AllZip AgreeAlways (map (point g) (list_of (values_of (map reference ns)))) (map (point h) ws)) (sym (list_of-values_of vs)) left in
    (theorems.always (point g (node_value (Con c ns))) (point h (construct c (values_of vs)))).1 (refl, both)

-- what `construct` gives
pub constructed : Theorems → (d : Declarations) (i : Interp) (old new : Nodes) (c : CtorId) (ns : List NodeId) (vs : List Value) (sort : SortId) (n : NodeId) → IsClosed old → FitsGraph d old → (built : IsBuilt d old c.0 ns) → built.ctor.sort ≡ sort → AreRepresentatives i.graph old ns vs → (new ≡ old) ⊎ (new ≡ old ++ Con c ns ∷ []) → IsRepresentative new (point new (node_value (Con c ns))) n → IsResult d i new (construct c (values_of vs)) sort n
constructed theorems d i old new c ns vs sort n closed fits built is first grown f =
    let longer = IsLonger-grown old new (Con c ns) grown in
    let agree : AllZip (λ m v. AgreeAlways (node_point new m) (point i.graph v)) ns vs = AllZip-weaker (λ (m : NodeId) (v : Value). IsRepresentative old (point i.graph v) m) (λ (m : NodeId) (v : Value). AgreeAlways (node_point new m) (point i.graph v)) (λ m v e. (IsRepresentative-longer theorems old new (point i.graph v) m closed longer e).same) ns vs first in
    let same : AgreeAlways (point new (node_value (Con c ns))) (point i.graph (construct c (values_of vs))) = constructed_alike theorems new i.graph c ns vs agree in (
      FitsGraph-grown d old new (Con c ns) fits built grown,
      record {
        first = theorems.same_first new (point new (node_value (Con c ns))) (point i.graph (construct c (values_of vs))) n same f;
        sorted = sorted_by_head d new n (heads.Con c) sort (head_of_representative theorems new (point new (node_value (Con c ns))) n f) (ap (option_map (λ (k : Constructor). k.sort)) built.declared ∙ ap Some is);
      },
    )

-- the node of a constructor term
pub constructs : Theorems → (d : Declarations) (i : Interp) (terms : Terms) (old new : Nodes) (nodes : List NodeId) (value : TermId → Value) (c : CtorId) (args : List TermId) (sort : SortId) (ns : List NodeId) (n : NodeId) → ns ≡ map (node_under nodes) args → IsClosed old → FitsGraph d old → AreValued d i terms old nodes value → Constructs d terms c.0 args sort → AllByRecursion (λ t. t.0 < length nodes) args → (new ≡ old) ⊎ (new ≡ old ++ Con c ns ∷ []) → IsRepresentative new (point new (node_value (Con c ns))) n → IsResult d i new (construct c (values_of (map value args))) sort n
constructs theorems d i terms old new nodes value c args sort ns n is closed fits valued made below grown f =
    let fields : AllZip (IsNodeOfField d old) ns made.ctor.sels = subst (λ (ms : List NodeId). AllZip (IsNodeOfField d old) ms made.ctor.sels) (sym is) (fields_fit d i terms old nodes value valued args made.ctor.sels made.fields below) in
    let built : IsBuilt d old c.0 ns = record { ctor = made.ctor; declared = made.declared; fields = fields } in
    let first : AreRepresentatives i.graph old ns (map value args) = subst (λ (ms : List NodeId). AreRepresentatives i.graph old ms (map value args)) (sym is) (are_representatives d i terms old nodes value valued args (fields_sorted d terms args made.ctor.sels made.fields) below) in
    constructed theorems d i old new c ns (map value args) sort n closed fits built (sym made.result) first grown f
