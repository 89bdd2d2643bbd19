-- Shared expressions: what a new node keeps, and that a number stands for one expression and an expression has one number.
use Rattle.std.proofs.Common.{◌≡◌, ℕ, zero, suc, ◌<◌, Bool, true, false, List, [], ◌∷◌, ◌++◌, length, nat_eq, Some, slice_get, if◌then◌else◌, refl, sym, ap, ap₂, subst, ◌∙◌, inl, inr, arith}
use Rattle.std.specs.List.{list_any}
use Rattle.std.proofs.lemmas.Bool.{true≢false}
use Rattle.std.proofs.lemmas.Bool.Decides.{Decides-eqb, Decides-and}
use Rattle.std.proofs.lemmas.Option.{same_Some, slice_get_within, none-some}
use Rattle.indexmap.specs.IndexSet.{insert_key}
use Rattle.ct_lemmas.proofs.Booleans.{or_left, or_right}
use Rattle.ct_lemmas.proofs.Lists.{slice_get-there, slice_get-append_left, slice_get-push_cases}
use Rattle.ct_generics.specs.declared.nodes.ExprId.{ExprId}
use Rattle.ct_generics.specs.declared.nodes.HeadId.{HeadId}
use Rattle.ct_generics.specs.declared.nodes.Node.{Node}
use Rattle.ct_generics.specs.declared.nodes.Node.TheVariants.{Param, Head, Apply}
use Rattle.ct_generics.specs.contracts.nodes.NodePartialEq.TheImpl as derived
use Rattle.ct_generics.specs.Expression.{Expression, parameter, named, applied}
use Rattle.ct_generics.specs.Nodes.{Stands, HasPartsBelow, AreOrdered, AreSingle, Stay}

-- ---- one more node

-- the derived test holds of each node and itself
pub own_node : (node : Node) → derived.eq-value.it node node ≡ true
own_node (Param i) = (Decides-eqb i i).1 refl
own_node (Head h) = (Decides-eqb h.0 h.0).1 refl
own_node (Apply m k) = (Decides-and (nat_eq m.0 m.0) (nat_eq k.0 k.0) (Decides-eqb m.0 m.0) (Decides-eqb k.0 k.0)).1 (refl, refl)

list_any-at : {X : Type 0} (test : X → Bool) (xs : List X) (i : ℕ) (x : X) → slice_get xs i ≡ Some x → test x ≡ true → list_any test xs ≡ true
list_any-at test [] i x at holds = absurd (none-some x at)
list_any-at test (y ∷ xs) zero x at holds = or_left (test y) (list_any test xs) (ap test (same_Some y x at) ∙ holds)
list_any-at test (y ∷ xs) (suc i) x at holds = or_right (test y) (list_any test xs) (list_any-at test xs i x at holds)

-- where no node passes the test of this one, it does not stand there
absent : (nodes : List Node) (node : Node) → list_any (derived.eq-value.it node) nodes ≡ false → (i : ℕ) → slice_get nodes i ≡ Some node → ⊥
absent nodes node none i at = true≢false (sym (list_any-at (derived.eq-value.it node) nodes i node at (own_node node)) ∙ none)

-- what holds of the nodes, and with the new one last where it is new, holds after an insertion
pub by_insertion : (P : List Node → Type 0) (old new : List Node) (node : Node) → new ≡ insert_key derived.eq-value.it old node → P old → (((i : ℕ) → slice_get old i ≡ Some node → ⊥) → P (old ++ node ∷ [])) → P new
by_insertion P old new node is stored added = subst P (sym is) (by (list_any (derived.eq-value.it node) old) refl)
  where
    by : (b : Bool) → list_any (derived.eq-value.it node) old ≡ b → P (if b then old else old ++ node ∷ [])
    by true e = stored
    by false e = added (absent old node e)

AreOrdered-push : (nodes : List Node) (node : Node) → HasPartsBelow (length nodes) node → AreOrdered nodes → AreOrdered (nodes ++ node ∷ [])
AreOrdered-push nodes node below ordered n other at =
    elim (slice_get-push_cases nodes node other n at) [
      | inl before ↦ ordered n other before
      | inr last ↦ subst (λ k. HasPartsBelow k other) (sym last.0) (subst (HasPartsBelow (length nodes)) last.1 below)
    ]

AreSingle-push : (nodes : List Node) (node : Node) → ((i : ℕ) → slice_get nodes i ≡ Some node → ⊥) → AreSingle nodes → AreSingle (nodes ++ node ∷ [])
AreSingle-push nodes node new single m n other at_m at_n =
    elim (slice_get-push_cases nodes node other m at_m) [
      | inl m_before ↦ elim (slice_get-push_cases nodes node other n at_n) [
        | inl n_before ↦ single m n other m_before n_before
        | inr n_last ↦ absurd (new m (m_before ∙ ap Some (sym n_last.1)))
      ]
      | inr m_last ↦ elim (slice_get-push_cases nodes node other n at_n) [
        | inl n_before ↦ absurd (new n (n_before ∙ ap Some (sym m_last.1)))
        | inr n_last ↦ m_last.0 ∙ sym n_last.0
      ]
    ]

pub AreOrdered-inserted : (old new : List Node) (node : Node) → new ≡ insert_key derived.eq-value.it old node → HasPartsBelow (length old) node → AreOrdered old → AreOrdered new
AreOrdered-inserted old new node is below ordered = by_insertion AreOrdered old new node is ordered (λ _. AreOrdered-push old node below ordered)

pub AreSingle-inserted : (old new : List Node) (node : Node) → new ≡ insert_key derived.eq-value.it old node → AreSingle old → AreSingle new
AreSingle-inserted old new node is single = by_insertion AreSingle old new node is single (λ fresh. AreSingle-push old node fresh single)

pub Stay-inserted : (old new : List Node) (node : Node) → new ≡ insert_key derived.eq-value.it old node → Stay old new
Stay-inserted old new node is = by_insertion (Stay old) old new node is (λ n x at. at) (λ _ n x at. slice_get-append_left old (node ∷ []) n x at)

-- ---- what numbers stand for

pub Stay-trans : {X : Type 0} (a b c : List X) → Stay a b → Stay b c → Stay a c
Stay-trans a b c first second n x at = second n x (first n x at)

-- what is there stays within
pub Stay-within : {X : Type 0} (old new : List X) → Stay old new → (n : ℕ) → n < length old → n < length new
Stay-within old new stay n within = let at = slice_get-there old n within in slice_get_within new n at.0 (stay n at.0 at.1)

-- a number stands for what it stood for
pub Stands-stay : (old new : List Node) (n : ℕ) (e : Expression) → Stay old new → Stands old n e → Stands new n e
Stands-stay old new n (parameter i) stay stands = stay n (Param i) stands
Stands-stay old new n (named h) stay stands = stay n (Head (record { 0 = h })) stands
Stands-stay old new n (applied e a) stay stands =
    (stands.0, stands.1, stay n (Apply stands.0 stands.1) stands.2, Stands-stay old new stands.0.0 e stay stands.3, Stands-stay old new stands.1.0 a stay stands.4)

-- a number that stands for something is one of a node
pub Stands-within : (nodes : List Node) (n : ℕ) (e : Expression) → Stands nodes n e → n < length nodes
Stands-within nodes n (parameter i) stands = slice_get_within nodes n (Param i) stands
Stands-within nodes n (named h) stands = slice_get_within nodes n (Head (record { 0 = h })) stands
Stands-within nodes n (applied e a) stands = slice_get_within nodes n (Apply stands.0 stands.1) stands.2

same_parts : (m n k l : ExprId) → Apply m k ≡ Apply n l → (m ≡ n) × (k ≡ l)
same_parts m n k l e = (cc, cc)

same_head : (h k : HeadId) → Head h ≡ Head k → h ≡ k
same_head h k e = cc

-- a number stands for one expression
pub Stands-one : (nodes : List Node) (n : ℕ) (a b : Expression) → Stands nodes n a → Stands nodes n b → a ≡ b
Stands-one nodes n (parameter i) (parameter j) left right = ap parameter (let e = same_Some (Param i) (Param j) (sym left ∙ right) in cc)
Stands-one nodes n (parameter i) (named h) left right = absurd (let e = same_Some (Param i) (Head (record { 0 = h })) (sym left ∙ right) in cc)
Stands-one nodes n (parameter i) (applied e a) left right = absurd (let e = same_Some (Param i) (Apply right.0 right.1) (sym left ∙ right.2) in cc)
Stands-one nodes n (named h) (parameter j) left right = absurd (let e = same_Some (Head (record { 0 = h })) (Param j) (sym left ∙ right) in cc)
Stands-one nodes n (named h) (named k) left right =
    ap (λ (x : HeadId). named x.0) (same_head (record { 0 = h }) (record { 0 = k }) (same_Some (Head (record { 0 = h })) (Head (record { 0 = k })) (sym left ∙ right)))
Stands-one nodes n (named h) (applied e a) left right = absurd (let e = same_Some (Head (record { 0 = h })) (Apply right.0 right.1) (sym left ∙ right.2) in cc)
Stands-one nodes n (applied e a) (parameter j) left right = absurd (let e = same_Some (Apply left.0 left.1) (Param j) (sym left.2 ∙ right) in cc)
Stands-one nodes n (applied e a) (named k) left right = absurd (let e = same_Some (Apply left.0 left.1) (Head (record { 0 = k })) (sym left.2 ∙ right) in cc)
Stands-one nodes n (applied e a) (applied f b) left right =
    let parts = same_parts left.0 right.0 left.1 right.1 (same_Some (Apply left.0 left.1) (Apply right.0 right.1) (sym left.2 ∙ right.2)) in
    let first = Stands-one nodes right.0.0 e f (subst (λ (m : ExprId). Stands nodes m.0 e) parts.0 left.3) right.3 in
    let second = Stands-one nodes right.1.0 a b (subst (λ (m : ExprId). Stands nodes m.0 a) parts.1 left.4) right.4 in
    ap₂ applied first second

same_id : (m n : ExprId) → m.0 ≡ n.0 → m ≡ n
same_id m n e i = record { 0 = e i }

-- where no node stands twice, an expression has one number
pub Stands-unique : (nodes : List Node) → AreSingle nodes → (m n : ℕ) (e : Expression) → Stands nodes m e → Stands nodes n e → m ≡ n
Stands-unique nodes single m n (parameter i) left right = single m n (Param i) left right
Stands-unique nodes single m n (named h) left right = single m n (Head (record { 0 = h })) left right
Stands-unique nodes single m n (applied e a) left right =
    let first = same_id left.0 right.0 (Stands-unique nodes single left.0.0 right.0.0 e left.3 right.3) in
    let second = same_id left.1 right.1 (Stands-unique nodes single left.1.0 right.1.0 a left.4 right.4) in
    single m n (Apply right.0 right.1) (left.2 ∙ ap₂ (λ (x y : ExprId). Some (Apply x y)) first second) right.2

-- a node over nodes that stand for expressions stands for one
Stands-node : (nodes : List Node) (n : ℕ) (node : Node) → slice_get nodes n ≡ Some node → HasPartsBelow n node → ((k : ℕ) → k < n → (e : Expression) × Stands nodes k e) → (e : Expression) × Stands nodes n e
Stands-node nodes n (Param i) at below earlier = (parameter i, at)
Stands-node nodes n (Head h) at below earlier = (named h.0, at)
Stands-node nodes n (Apply m k) at below earlier =
    let first = earlier m.0 below.0 in
    let second = earlier k.0 below.1 in
    (applied first.0 second.0, (m, k, at, first.1, second.1))

-- where each node is made of earlier ones, each stands for an expression
Stands-below : (nodes : List Node) → AreOrdered nodes → (bound n : ℕ) → n < bound → n < length nodes → (e : Expression) × Stands nodes n e
Stands-below nodes ordered zero n less within = absurd (omega (arith, less))
Stands-below nodes ordered (suc bound) n less within =
    let at = slice_get-there nodes n within in
    Stands-node nodes n at.0 at.1 (ordered n at.0 at.1) (λ k earlier. Stands-below nodes ordered bound k (omega (arith, less, earlier)) (omega (arith, within, earlier)))

pub Stands-some : (nodes : List Node) → AreOrdered nodes → (n : ℕ) → n < length nodes → (e : Expression) × Stands nodes n e
Stands-some nodes ordered n within = Stands-below nodes ordered (suc n) n (omega arith) within

-- an expression of a node with arguments is one with arguments
pub Stands-apply : (nodes : List Node) (n : ℕ) (m k : ExprId) (e : Expression) → slice_get nodes n ≡ Some (Apply m k) → Stands nodes n e → (f a : Expression) × (e ≡ applied f a) × Stands nodes m.0 f × Stands nodes k.0 a
Stands-apply nodes n m k (parameter i) at stands = absurd (let e = same_Some (Apply m k) (Param i) (sym at ∙ stands) in cc)
Stands-apply nodes n m k (named h) at stands = absurd (let e = same_Some (Apply m k) (Head (record { 0 = h })) (sym at ∙ stands) in cc)
Stands-apply nodes n m k (applied f a) at stands =
    let parts = same_parts stands.0 m stands.1 k (same_Some (Apply stands.0 stands.1) (Apply m k) (sym stands.2 ∙ at)) in
    (f, a, refl, subst (λ (x : ExprId). Stands nodes x.0 f) parts.0 stands.3, subst (λ (x : ExprId). Stands nodes x.0 a) parts.1 stands.4)

-- of a parameter the parameter
pub Stands-param : (nodes : List Node) (n i : ℕ) (e : Expression) → slice_get nodes n ≡ Some (Param i) → Stands nodes n e → e ≡ parameter i
Stands-param nodes n i e at stands = Stands-one nodes n e (parameter i) stands at

-- and of a sort or generic that one
pub Stands-head : (nodes : List Node) (n : ℕ) (h : HeadId) (e : Expression) → slice_get nodes n ≡ Some (Head h) → Stands nodes n e → e ≡ named h.0
Stands-head nodes n h e at stands = Stands-one nodes n e (named h.0) stands at
