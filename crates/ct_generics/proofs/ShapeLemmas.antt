-- Shapes of expressions: what one argument more makes of a shape, and what a shape tells.
use Rattle.std.proofs.Common.{◌≡◌, ◌↔◌, ℕ, suc, ◌+◌, ◌^◌, ◌<◌, ◌≤◌, Bool, true, false, not, ◌&&◌, ◌||◌, ◌==◌, List, [], ◌∷◌, ◌++◌, length, Some, slice_get, IsTrue, refl, sym, ap, ap₂, subst, ◌∙◌, inl, inr, arith}
use Rattle.std.specs.List.{list_all}
use Rattle.std.proofs.lemmas.Bool.{true≢false, false≢true}
use Rattle.std.proofs.lemmas.Bool.Decides.{Decides-eqb}
use Rattle.std.proofs.lemmas.List.{append_assoc, append-nil}
use Rattle.std.proofs.lemmas.List.FromFn.{map-range_with_len_more, length-map-range_with_len}
use Rattle.std.proofs.lemmas.Option.{same_Some}
use Rattle.ct_lemmas.proofs.Booleans.{both_parts, both_true}
use Rattle.ct_lemmas.proofs.Lists.{slice_get-push_cases, slice_get-there, list_all-at}
use Rattle.ct_lemmas.proofs.Pairs.{AllZip-at_left, AllZip-at_right}
use Rattle.ct_generics.specs.declared.nodes.ExprId.{ExprId}
use Rattle.ct_generics.specs.declared.nodes.Node.{Node}
use Rattle.ct_generics.specs.declared.nodes.Node.TheVariants.{Param, Apply}
use Rattle.ct_generics.specs.declared.heads.StoredHead.{StoredHead}
use Rattle.ct_generics.specs.declared.shape.Shape.{Shape}
use Rattle.ct_generics.specs.Expression.{Expression, parameter, named, applied, args_of, parameters}
use Rattle.ct_generics.specs.Declarations.{Head}
use Rattle.ct_generics.specs.Nodes.{Stands, StandFor, AreOrdered}
use Rattle.ct_generics.specs.Stored.{IsStored}
use Rattle.ct_generics.specs.Uniform.{KeepsTo, IsUniform}
use Rattle.ct_generics.specs.Shapes.{IsShape, AreShapes, keeps, keeps_at}
use Rattle.ct_generics.proofs.NodeLemmas.{Stands-apply, Stands-one, Stands-within}
use Rattle.ct_generics.proofs.MarkLemmas.{list_all-each}

-- one parameter more comes last
pub parameters-suc : (n : ℕ) → parameters (n + 1) ≡ parameters n ++ parameter n ∷ []
parameters-suc n = map-range_with_len_more parameter 0 n n (omega arith)

pub length-parameters : (n : ℕ) → length (parameters n) ≡ n
length-parameters n = length-map-range_with_len parameter 0 n

tail_of : {X : Type 0} (x y : X) (xs ys : List X) → x ∷ xs ≡ y ∷ ys → (x ≡ y) × (xs ≡ ys)
tail_of x y xs ys e = (cc, cc)

long : {X : Type 0} (xs : List X) (x : X) → length (xs ++ x ∷ []) ≡ suc (length xs)
long [] x = refl
long (y ∷ xs) x = ap suc (long xs x)

-- lists that are equal with one more at the end
last_parts : {X : Type 0} (xs ys : List X) (x y : X) → xs ++ x ∷ [] ≡ ys ++ y ∷ [] → (xs ≡ ys) × (x ≡ y)
last_parts [] [] x y e = (refl, (tail_of x y [] [] e).0)
last_parts [] (b ∷ ys) x y e = absurd (let n = ap length e in let m = long ys y in omega (arith, n, m))
last_parts (a ∷ xs) [] x y e = absurd (let n = ap length e in let m = long xs x in omega (arith, n, m))
last_parts (a ∷ xs) (b ∷ ys) x y e =
    let parts = tail_of a b (xs ++ x ∷ []) (ys ++ y ∷ []) e in
    let rest = last_parts xs ys x y parts.1 in
    (ap₂ (λ (z : _) (zs : List _). z ∷ zs) parts.0 rest.0, rest.1)

pub shape-parameter : (first params i : ℕ) (shape : Shape) → shape.own ≡ false → shape.ordered ≡ true → shape.count ≡ 0 → shape.inner ≡ true → IsShape first params shape (parameter i)
shape-parameter first params i shape own ordered count inner =
    record {
      keeping = λ args. (λ _. (inner, λ h. absurd (false≢true (sym own ∙ h))), λ _. tt);
      in_order = (λ _. rw count refl, λ _. ordered);
      counted = count;
    }

pub shape-named : (first params h : ℕ) (shape : Shape) → IsTrue shape.own ↔ (first ≤ h) → shape.ordered ≡ true → shape.count ≡ 0 → shape.inner ≡ true → IsShape first params shape (named h)
shape-named first params h shape own ordered count inner =
    record {
      keeping = λ args. (λ keeps. (inner, λ is. keeps (own.0 is)), λ both less. both.1 (own.1 less));
      in_order = (λ _. rw count refl, λ _. ordered);
      counted = count;
    }

-- what a shape tells of an expression without further arguments
pub shape_tells : (first params : ℕ) (shape : Shape) (e : Expression) → IsShape first params shape e → (keeps shape params ≡ true) ↔ KeepsTo first params [] e
shape_tells first params shape e is = by shape.inner refl shape.own refl shape.ordered refl
  where
    nil : args_of e ++ [] ≡ args_of e
    nil = append-nil (args_of e)

    to_count : args_of e ≡ parameters params → shape.count ≡ params
    to_count h = is.counted ∙ ap length h ∙ length-parameters params

    by : (inner : Bool) → shape.inner ≡ inner → (own : Bool) → shape.own ≡ own → (ordered : Bool) → shape.ordered ≡ ordered → ((inner && (not own || (ordered && (shape.count == params)))) ≡ true) ↔ KeepsTo first params [] e
    by false i own o ordered d = (λ h. absurd (false≢true h), λ h. absurd (false≢true (sym i ∙ ((is.keeping []).0 h).0)))
    by true i false o ordered d = (λ _. (is.keeping []).1 (i, λ h. absurd (false≢true (sym o ∙ h))), λ _. refl)
    by true i true o false d = (λ h. absurd (false≢true h), λ h. absurd (false≢true (sym d ∙ is.in_order.1 (let all = sym nil ∙ ((is.keeping []).0 h).1 o in all ∙ ap parameters (sym (to_count all))))))
    by true i true o true d = (
      λ h. (is.keeping []).1 (i, λ _. nil ∙ is.in_order.0 d ∙ ap parameters ((Decides-eqb shape.count params).0 h)),
      λ h. (Decides-eqb shape.count params).1 (to_count (sym nil ∙ ((is.keeping []).0 h).1 o)),
    )

-- the shape of an expression with one argument more
pub shape-applied : (first params : ℕ) (function argument shape : Shape) (f a : Expression) (is_next : Bool) → IsShape first params function f → IsShape first params argument a → (IsTrue is_next ↔ (a ≡ parameter function.count)) → shape.own ≡ function.own → shape.ordered ≡ (function.ordered && is_next) → shape.count ≡ function.count + 1 → shape.inner ≡ (function.inner && keeps argument params) → IsShape first params shape (applied f a)
shape-applied first params function argument shape f a is_next of_f of_a next own ordered count inner =
    record {
      keeping = λ args. (up args, down args);
      in_order = (order_up, order_down);
      counted = count ∙ ap (λ n. n + 1) of_f.counted ∙ omega (arith, long (args_of f) a);
    }
  where
    tells : (keeps argument params ≡ true) ↔ KeepsTo first params [] a
    tells = shape_tells first params argument a of_a

    up : (args : List Expression) → KeepsTo first params (a ∷ args) f × KeepsTo first params [] a → IsTrue shape.inner × (IsTrue shape.own → (args_of f ++ a ∷ []) ++ args ≡ parameters params)
    up args both =
        let left = (of_f.keeping (a ∷ args)).0 both.0 in
        (inner ∙ both_true function.inner (keeps argument params) left.0 (tells.1 both.1), λ h. append_assoc (args_of f) (a ∷ []) args ∙ left.1 (sym own ∙ h))

    down : (args : List Expression) → IsTrue shape.inner × (IsTrue shape.own → (args_of f ++ a ∷ []) ++ args ≡ parameters params) → KeepsTo first params (a ∷ args) f × KeepsTo first params [] a
    down args both =
        let parts = both_parts function.inner (keeps argument params) (sym inner ∙ both.0) in
        ((of_f.keeping (a ∷ args)).1 (parts.0, λ h. sym (append_assoc (args_of f) (a ∷ []) args) ∙ both.1 (own ∙ h)), tells.0 parts.1)

    all : parameters shape.count ≡ parameters function.count ++ parameter function.count ∷ []
    all = ap parameters count ∙ parameters-suc function.count

    order_up : IsTrue shape.ordered → args_of f ++ a ∷ [] ≡ parameters shape.count
    order_up h =
        let parts = both_parts function.ordered is_next (sym ordered ∙ h) in
        ap₂ (λ (xs : List Expression) (x : Expression). xs ++ x ∷ []) (of_f.in_order.0 parts.0) (next.0 parts.1) ∙ sym all

    order_down : args_of f ++ a ∷ [] ≡ parameters shape.count → IsTrue shape.ordered
    order_down h =
        let parts = last_parts (args_of f) (parameters function.count) a (parameter function.count) (h ∙ all) in
        ordered ∙ both_true function.ordered is_next (of_f.in_order.1 parts.0) (next.1 parts.1)

-- that a node is a parameter tells it of the expression
pub param_tells : (nodes : List Node) (k i : ℕ) (node : Node) (a : Expression) (is : Bool) → slice_get nodes k ≡ Some node → Stands nodes k a → (IsTrue is ↔ (node ≡ Param i)) → IsTrue is ↔ (a ≡ parameter i)
param_tells nodes k i node a is at stands tells =
    (λ h. Stands-one nodes k a (parameter i) stands (at ∙ ap Some (tells.0 h)), λ e. tells.1 (same_Some node (Param i) (sym at ∙ subst (Stands nodes k) e stands)))

-- an expression has no more arguments than nodes before it
pub few_args : (nodes : List Node) → AreOrdered nodes → (n : ℕ) (e : Expression) → Stands nodes n e → length (args_of e) ≤ n
few_args nodes ordered n (parameter i) stands = omega arith
few_args nodes ordered n (named h) stands = omega arith
few_args nodes ordered n (applied f a) stands =
    let below = ordered n (Apply stands.0 stands.1) stands.2 in
    omega (arith, few_args nodes ordered stands.0.0 f stands.3, below.0, long (args_of f) a)

-- one shape more
pub AreShapes-push : (first params : ℕ) (nodes : List Node) (shapes : List Shape) (shape : Shape) → AreShapes first params nodes shapes → ((e : Expression) → Stands nodes (length shapes) e → IsShape first params shape e) → AreShapes first params nodes (shapes ++ shape ∷ [])
AreShapes-push first params nodes shapes shape known last k other e at stands =
    elim (slice_get-push_cases shapes shape other k at) [
      | inl before ↦ known k other e before stands
      | inr now ↦ subst (λ (x : Shape). IsShape first params x e) now.1 (last e (subst (λ j. Stands nodes j e) now.0 stands))
    ]

-- what the test of a number tells
pub at_tells : (first params : ℕ) (nodes : List Node) (shapes : List Shape) (id : ExprId) (e : Expression) → length shapes ≡ length nodes → AreShapes first params nodes shapes → Stands nodes id.0 e → (keeps_at shapes params id ≡ true) ↔ KeepsTo first params [] e
at_tells first params nodes shapes id e same known stands =
    let there = slice_get-there shapes id.0 (omega (arith, same, Stands-within nodes id.0 e stands)) in
    rw there.1 (shape_tells first params there.0 e (known id.0 there.0 e there.1 stands))

-- all fields together
pub rows_tell : (first : ℕ) (stored : StoredHead) (head : Head) (shapes : List Shape) → IsStored stored head → length shapes ≡ length stored.template → AreShapes first stored.params stored.template shapes → (list_all (list_all (keeps_at shapes stored.params)) stored.ctors ≡ true) ↔ IsUniform first head
rows_tell first stored head shapes is same known = (up, down)
  where
    test : ExprId → Bool
    test = keeps_at shapes stored.params

    up : list_all (list_all test) stored.ctors ≡ true → IsUniform first head
    up h i j ctor field at_i at_j =
        let row = AllZip-at_right (StandFor stored.template) stored.ctors head.ctors i ctor is.fields at_i in
        let item = AllZip-at_right (λ (id : ExprId) (e : Expression). Stands stored.template id.0 e) row.0 ctor j field row.2 at_j in
        let keeps = list_all-at test row.0 j item.0 (list_all-at (list_all test) stored.ctors i row.0 h row.1) item.1 in
        subst (λ n. KeepsTo first n [] field) (sym is.params_are) ((at_tells first stored.params stored.template shapes item.0 field same known item.2).0 keeps)

    down : IsUniform first head → list_all (list_all test) stored.ctors ≡ true
    down h =
        list_all-each (list_all test) stored.ctors (λ i row at_i.
        let ctor = AllZip-at_left (StandFor stored.template) stored.ctors head.ctors i row is.fields at_i in
        list_all-each test row (λ j id at_j.
        let field = AllZip-at_left (λ (id : ExprId) (e : Expression). Stands stored.template id.0 e) row ctor.0 j id ctor.2 at_j in
        (at_tells first stored.params stored.template shapes id field.0 same known field.2).1 (subst (λ n. KeepsTo first n [] field.0) is.params_are (h i j ctor.0 field.0 ctor.1 field.1))))

-- the shape of a node with arguments, from those of its parts
pub shape-node : (first params : ℕ) (nodes : List Node) (shapes : List Shape) (n : ℕ) (m k : ExprId) (function argument shape : Shape) (node : Node) (e : Expression) → AreOrdered nodes → length shapes < 2 ^ 63 → m.0 < length shapes → AreShapes first params nodes shapes → slice_get shapes m.0 ≡ Some function → slice_get shapes k.0 ≡ Some argument → slice_get nodes k.0 ≡ Some node → slice_get nodes n ≡ Some (Apply m k) → Stands nodes n e → ((first : ℕ) (nodes : List Node) (k : ℕ) (f a : Expression) → slice_get nodes k ≡ Some node → Stands nodes k a → IsShape first params function f → IsShape first params argument a → length (args_of f) < 2 ^ 63 → IsShape first params shape (applied f a)) → IsShape first params shape e
shape-node first params nodes shapes n m k function argument shape node e ordered small below known at_m at_k at_node at stands makes =
    let parts = Stands-apply nodes n m k e at stands in
    let few = few_args nodes ordered m.0 parts.0 parts.3 in
    subst (IsShape first params shape) (sym parts.2) (makes first nodes k.0 parts.0 parts.1 at_node parts.4 (known m.0 function parts.0 at_m parts.3) (known k.0 argument parts.1 at_k parts.4) (omega (arith, few, below, small)))

pub not_false : (b : Bool) → not b ≡ false → b ≡ true
not_false true e = refl
not_false false e = absurd (true≢false e)
