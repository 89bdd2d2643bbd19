-- The first expressions and the first sorts of a table.
use Rattle.std.proofs.Common.{◌≡◌, ℕ, zero, suc, ◌<◌, List, [], ◌∷◌, take, Some, slice_get, refl, arith}
use Rattle.ct_lemmas.proofs.Prefixes.{take-slice_get}
use Rattle.ct_generics.specs.declared.nodes.ExprId.{ExprId}
use Rattle.ct_generics.specs.declared.nodes.Node.{Node}
use Rattle.ct_generics.specs.declared.nodes.Node.TheVariants.{Param, Head, Apply}
use Rattle.ct_generics.specs.Expression.{Expression, parameter, named, applied}
use Rattle.ct_generics.specs.Nodes.{Stands, StandFor, AreOrdered}

Stands-take : (nodes : List Node) (bound n : ℕ) (e : Expression) → AreOrdered nodes → n < bound → Stands nodes n e → Stands (take bound nodes) n e
Stands-take nodes bound n (parameter i) ordered less stands = take-slice_get bound nodes n (Param i) less stands
Stands-take nodes bound n (named h) ordered less stands = take-slice_get bound nodes n (Head (record { 0 = h })) less stands
Stands-take nodes bound n (applied e a) ordered less stands =
    let below = ordered n (Apply stands.0 stands.1) stands.2 in
    (stands.0, stands.1, take-slice_get bound nodes n (Apply stands.0 stands.1) less stands.2, Stands-take nodes bound stands.0.0 e ordered (omega (arith, below.0, less)) stands.3, Stands-take nodes bound stands.1.0 a ordered (omega (arith, below.1, less)) stands.4)

-- the first numbers stand for the first sorts, where these are among the first expressions
pub StandFor-take : (nodes : List Node) (bound count : ℕ) (ids : List ExprId) (es : List Expression) → AreOrdered nodes → StandFor nodes ids es → ((i : ℕ) (id : ExprId) → slice_get ids i ≡ Some id → i < count → id.0 < bound) → StandFor (take bound nodes) (take count ids) (take count es)
StandFor-take nodes bound zero ids es ordered stand below = tt
StandFor-take nodes bound (suc count) [] [] ordered stand below = tt
StandFor-take nodes bound (suc count) [] (e ∷ es) ordered stand below = absurd stand
StandFor-take nodes bound (suc count) (id ∷ ids) [] ordered stand below = absurd stand
StandFor-take nodes bound (suc count) (id ∷ ids) (e ∷ es) ordered stand below =
    (Stands-take nodes bound id.0 e ordered (below 0 id refl (omega arith)) stand.0, StandFor-take nodes bound count ids es ordered stand.1 (λ i other at less. below (suc i) other at (omega (arith, less))))
