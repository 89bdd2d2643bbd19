-- The nodes of truth values, and the terms that have them.
use Rattle.std.proofs.Common.{◌≡◌, ◌⊎◌, ◌↔◌, ℕ, zero, suc, ◌<◌, Bool, true, false, IsTrue, List, [], ◌∷◌, ◌++◌, Some, Result, IfOk, slice_get, refl, sym, subst, arith}
use Rattle.std.specs.List.{AllZip}
use Rattle.std.proofs.lemmas.Result.{IfOk-weaker}
use Rattle.ct_lemmas.proofs.Prefixes.{slice_get-take}
use Rattle.ct_sorts.specs.declared.ids.CtorId.{CtorId}
use Rattle.ct_sorts.specs.declared.ids.SelId.{SelId}
use Rattle.ct_sorts.specs.declared.ids.SortId.{SortId}
use Rattle.ct_sorts.specs.Declarations.{Declarations, Constructor, bool_sort, start}
use Rattle.ct_sorts.specs.Consistent.{IsConsistent}
use Rattle.ct_values.specs.declared.node.NodeId.{NodeId}
use Rattle.ct_values.specs.declared.node.Node.TheVariants.{Con}
use Rattle.ct_values.specs.Graph.{Nodes, IsClosed}
use Rattle.ct_values.specs.Value.{Value, construct, no_values, node_value}
use Rattle.ct_values.specs.Agreement.{point, AgreeAlways}
use Rattle.ct_values.specs.Fitting.{IsBuilt, IsNodeOfField, FitsGraph}
use Rattle.ct_values.specs.Sharing.{IsRepresentative}
use Rattle.ct_terms.specs.declared.ids.TermId.{TermId}
use Rattle.ct_terms.specs.declared.term.Core.{Core}
use Rattle.ct_terms.specs.Terms.{Terms, HasSort}
use Rattle.ct_eval.specs.declared.interp.Interp.{Interp}
use Rattle.ct_values.specs.TruthValue.{truth}
use Rattle.ct_eval.specs.Evaluation.{core_value, is_same}
use Rattle.ct_eval.specs.EvaluationStep.{HasValue, AreValued, Theorems, IsResult, IsNodeFor}
use Rattle.ct_eval.proofs.StepConstruct.{constructed}

-- the constructors 0 and 1 are of the sort Bool, and take nothing
truth_declared : (k : ℕ) → k < 2 → (ctor : Constructor) × (slice_get start.ctors k ≡ Some ctor) × (ctor.sort ≡ bool_sort) × (ctor.sels ≡ [])
truth_declared zero below = (_, refl, refl, refl)
truth_declared (suc zero) below = (_, refl, refl, refl)
truth_declared (suc (suc k)) below = absurd (omega arith)

pub truth_ctor : (d : Declarations) (k : ℕ) → IsConsistent d → k < 2 → (ctor : Constructor) × (slice_get d.ctors k ≡ Some ctor) × (ctor.sort ≡ bool_sort) × (ctor.sels ≡ [])
truth_ctor d k consistent below =
    let at = truth_declared k below in
    (at.0, slice_get-take 2 d.ctors k at.0 (subst (λ (cs : List Constructor). slice_get cs k ≡ Some at.0) (sym consistent.first_ctors) at.1), at.2, at.3)

-- the node of `true` or `false`
pub truth_constructed : Theorems → (d : Declarations) (i : Interp) (old new : Nodes) (c : CtorId) (ns : List NodeId) (b : Bool) (n : NodeId) → IsConsistent d → IsClosed old → FitsGraph d old → c.0 < 2 → ns ≡ [] → truth b ≡ construct c no_values → (new ≡ old) ⊎ (new ≡ old ++ Con c ns ∷ []) → IsRepresentative new (point new (node_value (Con c ns))) n → IsResult d i new (truth b) bool_sort n
truth_constructed theorems d i old new c ns b n consistent closed fits below empty is grown f =
    let grown' : (new ≡ old) ⊎ (new ≡ old ++ Con c [] ∷ []) = subst (λ (ms : List NodeId). (new ≡ old) ⊎ (new ≡ old ++ Con c ms ∷ [])) empty grown in
    let f' : IsRepresentative new (point new (node_value (Con c []))) n = subst (λ (ms : List NodeId). IsRepresentative new (point new (node_value (Con c ms))) n) empty f in
    let ctor = truth_ctor d c.0 consistent below in
    let built : IsBuilt d old c.0 [] = record { ctor = ctor.0; declared = ctor.1; fields = subst (λ (ss : List SelId). AllZip (IsNodeOfField d old) [] ss) (sym ctor.3) tt } in
    subst (λ (v : Value). IsResult d i new v bool_sort n) (sym is) (constructed theorems d i old new c [] [] bool_sort n closed fits built ctor.2 tt grown' f')

-- the node of an answer is that of a Boolean term that has this answer
pub answered : {E : Type 0} (d : Declarations) (i : Interp) (old new : Nodes) (nodes : List NodeId) (core : Core) (answer : Bool) (r : Result NodeId E) → IfOk r (IsResult d i new (truth answer) bool_sort) → ((terms : Terms) (value : TermId → Value) (sort : SortId) → AreValued d i terms old nodes value → HasSort d terms core sort → (truth answer ≡ core_value d i value core) × (sort ≡ bool_sort)) → IfOk r (IsNodeFor d i old new nodes core)
answered d i old new nodes core answer r given reported =
    IfOk-weaker r (IsResult d i new (truth answer) bool_sort) (IsNodeFor d i old new nodes core) (λ n h terms value sort valued sorted.
    let is = reported terms value sort valued sorted in
    subst (λ (s : SortId). IsResult d i new (core_value d i value core) s n) (sym is.1) (subst (λ (v : Value). IsResult d i new v bool_sort n) is.0 h)) given

-- two tests that hold together are one
pub one_answer : (a b : Bool) (P : Type 0) → (IsTrue a ↔ P) → (IsTrue b ↔ P) → a ≡ b
one_answer true b P p q = sym (q.1 (p.0 refl))
one_answer false true P p q = p.1 (q.0 refl)
one_answer false false P p q = refl

-- two values are equal where one node is the representative of both
pub same_value : Theorems → (d : Declarations) (i : Interp) (g : Nodes) (v w : Value) (s t : SortId) (m n : NodeId) (b : Bool) → IsClosed i.graph → HasValue d i g v s m → HasValue d i g w t n → (IsTrue b ↔ (m ≡ n)) → b ≡ is_same i.graph v w
same_value theorems d i g v w s t m n b closed left right reported =
    let one = theorems.one g (point i.graph v) (point i.graph w) m n left.first right.first in
    let every = theorems.every_depth (point i.graph v) (point i.graph w) closed closed in
    one_answer b (is_same i.graph v w) (AgreeAlways (point i.graph v) (point i.graph w)) (λ e. one.0 (reported.0 e), λ h. reported.1 (one.1 h)) every
