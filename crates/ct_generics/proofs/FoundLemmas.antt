-- Nodes that are looked up in a table, and expressions of one table in another.
use Rattle.std.proofs.Common.{◌≡◌, ℕ, Bool, true, false, List, [], ◌∷◌, ◌++◌, nat_eq, length, if◌then◌else◌, ⊎_elim, Some, None, slice_get, position, Option, IfSome, IfNone, Decides, refl, sym, ap, subst, ◌∙◌}
use Rattle.std.specs.List.{list_any}
use Rattle.std.proofs.lemmas.Bool.{false≢true}
use Rattle.std.proofs.lemmas.Bool.Decides.{Decides-eqb, Decides-and}
use Rattle.std.proofs.lemmas.Option.{none-some}
use Rattle.ct_lemmas.proofs.Lists.{slice_get-push_cases}
use Rattle.indexmap.specs.IndexSet.{insert_key}
use Rattle.ct_generics.specs.contracts.nodes.NodePartialEq.TheImpl as derived
use Rattle.ct_generics.specs.declared.nodes.ExprId.{ExprId}
use Rattle.ct_generics.specs.declared.nodes.HeadId.{HeadId}
use Rattle.ct_generics.specs.declared.nodes.Node.{Node}
use Rattle.ct_generics.specs.declared.nodes.Node.TheVariants.{Param, Head, Apply}
use Rattle.ct_generics.specs.Expression.{Expression, parameter, named, applied}
use Rattle.ct_generics.specs.Nodes.{Stands, AreSingle}
use Rattle.ct_generics.specs.Found.{IsFoundAs, AreFoundAs}
use Rattle.ct_generics.proofs.MarkLemmas.{list_any-source}
use Rattle.ct_generics.proofs.PositionLemmas.{position-Some, position-None}
use Rattle.ct_generics.proofs.NodeLemmas.{own_node, Stands-apply, Stands-head, Stands-param, Stands-unique}

-- ---- nodes

same_id : (m n : ExprId) → m.0 ≡ n.0 → m ≡ n
same_id m n e i = record { 0 = e i }

same_head : (m n : HeadId) → m.0 ≡ n.0 → m ≡ n
same_head m n e i = record { 0 = e i }

-- nodes that pass the derived test are one
same_node : (a b : Node) → derived.eq-value.it a b ≡ true → a ≡ b
same_node (Param i) (Param j) e = ap (λ n. Param n) ((Decides-eqb i j).0 e)
same_node (Param i) (Head h) e = absurd (false≢true e)
same_node (Param i) (Apply m k) e = absurd (false≢true e)
same_node (Head h) (Param j) e = absurd (false≢true e)
same_node (Head h) (Head g) e = ap (λ n. Head n) (same_head h g ((Decides-eqb h.0 g.0).0 e))
same_node (Head h) (Apply m k) e = absurd (false≢true e)
same_node (Apply m k) (Param j) e = absurd (false≢true e)
same_node (Apply m k) (Head h) e = absurd (false≢true e)
same_node (Apply m k) (Apply n l) e =
    let both = (Decides-and (nat_eq m.0 n.0) (nat_eq k.0 l.0) (Decides-eqb m.0 n.0) (Decides-eqb k.0 l.0)).0 e in
    ap (λ (x : ExprId). Apply x k) (same_id m n both.0) ∙ ap (λ (x : ExprId). Apply n x) (same_id k l both.1)

decides : (node other : Node) → Decides (derived.eq-value.it node other) (node ≡ other)
decides node other = (same_node node other, λ e. subst (λ (x : Node). derived.eq-value.it node x ≡ true) e (own_node node))

pub node_found : (nodes : List Node) (node : Node) (found : Option ℕ) → found ≡ position (derived.eq-value.it node) nodes → IfSome found (λ i. slice_get nodes i ≡ Some node)
node_found nodes node found is = position-Some node (derived.eq-value.it node) (decides node) nodes found is

pub node_missing : (nodes : List Node) (node : Node) (found : Option ℕ) → found ≡ position (derived.eq-value.it node) nodes → IfNone found ((i : ℕ) → slice_get nodes i ≡ Some node → ⊥)
node_missing nodes node found is = position-None node (derived.eq-value.it node) (decides node) nodes found is

-- a new node comes last
pub node_last : (old new : List Node) (node : Node) → new ≡ insert_key derived.eq-value.it old node → ((i : ℕ) → slice_get old i ≡ Some node → ⊥) → new ≡ old ++ node ∷ []
node_last old new node is fresh = is ∙ by (list_any (derived.eq-value.it node) old) refl
  where
    by : (b : Bool) → list_any (derived.eq-value.it node) old ≡ b → (if b then old else old ++ node ∷ []) ≡ old ++ node ∷ []
    by true e = let found = list_any-source (derived.eq-value.it node) old e in absurd (fresh found.0 (found.2 ∙ ap Some (sym ((decides node found.1).0 found.3))))
    by false e = refl

-- ---- expressions

-- the node stands at this number, or nowhere
abbrev pub IsNodeFound : List Node → Node → Option ExprId → Type 0
IsNodeFound target node None = (n : ℕ) → slice_get target n ≡ Some node → ⊥
IsNodeFound target node (Some n) = slice_get target n.0 ≡ Some node

pub found_param : (target : List Node) (i : ℕ) (result : Option ExprId) → IsNodeFound target (Param i) result → IsFoundAs target (parameter i) result
found_param target i None h = h
found_param target i (Some n) h = h

pub found_head : (target : List Node) (h : HeadId) (result : Option ExprId) → IsNodeFound target (Head h) result → IsFoundAs target (named h.0) result
found_head target h None is = is
found_head target h (Some n) is = is

module _ (target source : List Node) (k : ℕ) (e : Expression) where
  pub IsFoundAs-param : (i : ℕ) (result : Option ExprId) → slice_get source k ≡ Some (Param i) → Stands source k e → IsNodeFound target (Param i) result → IsFoundAs target e result
  IsFoundAs-param i result at stands is = subst (λ (f : Expression). IsFoundAs target f result) (sym (Stands-param source k i e at stands)) (found_param target i result is)

  pub IsFoundAs-head : (h : HeadId) (result : Option ExprId) → slice_get source k ≡ Some (Head h) → Stands source k e → IsNodeFound target (Head h) result → IsFoundAs target e result
  IsFoundAs-head h result at stands is = subst (λ (f : Expression). IsFoundAs target f result) (sym (Stands-head source k h e at stands)) (found_head target h result is)

  module _ (m l : ExprId) (found : List (Option ExprId)) (at : slice_get source k ≡ Some (Apply m l)) (stands : Stands source k e) (are : AreFoundAs target source found) where
    parts : (f a : Expression) × (e ≡ applied f a) × Stands source m.0 f × Stands source l.0 a
    parts = Stands-apply source k m l e at stands

    -- both parts stand in the target
    pub IsFoundAs-apply : (function argument : ExprId) (result : Option ExprId) → AreSingle target → slice_get found m.0 ≡ Some (Some function) → slice_get found l.0 ≡ Some (Some argument) → IsNodeFound target (Apply function argument) result → IsFoundAs target e result
    IsFoundAs-apply function argument result single at_m at_l is =
        subst (λ (f : Expression). IsFoundAs target f result) (sym parts.2) (by result is)
      where
        by : (r : Option ExprId) → IsNodeFound target (Apply function argument) r → IsFoundAs target (applied parts.0 parts.1) r
        by None absent = λ n there.
            let first : there.0.0 ≡ function.0 = Stands-unique target single there.0.0 function.0 parts.0 there.3 (are m.0 parts.0 (Some function) at_m parts.3) in
            let second : there.1.0 ≡ argument.0 = Stands-unique target single there.1.0 argument.0 parts.1 there.4 (are l.0 parts.1 (Some argument) at_l parts.4) in
            let same_first : there.0 ≡ function = λ i. record { 0 = first i } in
            let same_second : there.1 ≡ argument = λ i. record { 0 = second i } in
            absent n (there.2 ∙ ap (λ (x : ExprId). Some (Apply x there.1)) same_first ∙ ap (λ (x : ExprId). Some (Apply function x)) same_second)
        by (Some n) is = (function, argument, is, are m.0 parts.0 (Some function) at_m parts.3, are l.0 parts.1 (Some argument) at_l parts.4)

    -- one of them does not
    pub IsFoundAs-no_function : slice_get found m.0 ≡ Some None → IsFoundAs target e None
    IsFoundAs-no_function at_m n there =
        let is = subst (λ (f : Expression). Stands target n f) parts.2 there in
        are m.0 parts.0 None at_m parts.3 is.0.0 is.3

    pub IsFoundAs-no_argument : slice_get found l.0 ≡ Some None → IsFoundAs target e None
    IsFoundAs-no_argument at_l n there =
        let is = subst (λ (f : Expression). Stands target n f) parts.2 there in
        are l.0 parts.1 None at_l parts.4 is.1.0 is.4

-- ---- what a search over all expressions of the source tells

pub node_is_found : (target : List Node) (node : Node) (result : Option ExprId) → IfSome result (λ n. slice_get target n.0 ≡ Some node) → IfNone result ((n : ℕ) → slice_get target n ≡ Some node → ⊥) → IsNodeFound target node result
node_is_found target node None found missing = missing
node_is_found target node (Some n) found missing = found

pub AreFoundAs-none : (target source : List Node) → AreFoundAs target source []
AreFoundAs-none target source k e n at = absurd (none-some n at)

pub AreFoundAs-push : (target source : List Node) (found : List (Option ExprId)) (next : Option ExprId) → ((e : Expression) → Stands source (length found) e → IsFoundAs target e next) → AreFoundAs target source found → AreFoundAs target source (found ++ next ∷ [])
AreFoundAs-push target source found next last are k e n at stands =
    ⊎_elim (λ before. are k e n before stands)
    (λ is. subst (IsFoundAs target e) is.1 (last e (subst (λ m. Stands source m e) is.0 stands))) (slice_get-push_cases found next n k at)

pub found_some : (target source : List Node) (k : ℕ) (result : Option ExprId) → ((e : Expression) → Stands source k e → IsFoundAs target e result) → IfSome result (λ n. (e : Expression) → Stands source k e → Stands target n.0 e)
found_some target source k None is = tt
found_some target source k (Some n) is = is

pub found_none : (target source : List Node) (k : ℕ) (result : Option ExprId) → ((e : Expression) → Stands source k e → IsFoundAs target e result) → IfNone result ((n : ℕ) (e : Expression) → Stands source k e → Stands target n e → ⊥)
found_none target source k None is = λ n e stands there. is e stands n there
found_none target source k (Some n) is = tt
