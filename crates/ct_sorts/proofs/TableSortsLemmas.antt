-- The list of sorts of a table: what stands there, and one more.
use Rattle.std.proofs.Common.{◌≡◌, ℕ, zero, suc, ◌<◌, List, [], ◌∷◌, ◌++◌, length, slice_get, Some, refl, sym, ◌∙◌, ap, ap₂, subst}
use Rattle.std.specs.List.{AllZip}
use Rattle.std.proofs.lemmas.Option.{none-some, same_Some}
use Rattle.ct_lemmas.proofs.Lists.{slice_get-append_left}
use Rattle.ct_generics.specs.declared.nodes.ExprId.{ExprId}
use Rattle.ct_generics.specs.declared.nodes.HeadId.{HeadId}
use Rattle.ct_generics.specs.declared.nodes.Node.{Node}
use Rattle.ct_generics.specs.declared.nodes.Node.TheVariants.{Param, Head as HeadNode, Apply}
use Rattle.ct_generics.specs.Expression.{Expression, parameter, named, applied}
use Rattle.ct_generics.specs.Nodes.{Stands, StandFor, Stay}

-- what stands at a number stands there still
pub stands_stay : (old new : List Node) → Stay old new → (n : ℕ) (e : Expression) → Stands old n e → Stands new n e
stands_stay old new stay n (parameter i) stands = stay n (Param i) stands
stands_stay old new stay n (named h) stands = stay n (HeadNode (record { 0 = h })) stands
stands_stay old new stay n (applied e a) stands = (stands.0, stands.1, stay n (Apply stands.0 stands.1) stands.2, stands_stay old new stay stands.0.0 e stands.3, stands_stay old new stay stands.1.0 a stands.4)

pub stand_stay : (old new : List Node) → Stay old new → (ids : List ExprId) (es : List Expression) → StandFor old ids es → StandFor new ids es
stand_stay old new stay [] [] all = all
stand_stay old new stay [] (e ∷ es) all = absurd all
stand_stay old new stay (id ∷ ids) [] all = absurd all
stand_stay old new stay (id ∷ ids) (e ∷ es) all = (stands_stay old new stay id.0 e all.0, stand_stay old new stay ids es all.1)

-- a number stands for one expression
pub stands_one : (nodes : List Node) (n : ℕ) (e f : Expression) → Stands nodes n e → Stands nodes n f → e ≡ f
stands_one nodes n (parameter i) (parameter j) p q = let same = same_Some _ _ (sym p ∙ q) in cc
stands_one nodes n (parameter i) (named h) p q = absurd (let same = same_Some _ _ (sym p ∙ q) in cc)
stands_one nodes n (parameter i) (applied f b) p q = absurd (let same = same_Some _ _ (sym p ∙ q.2) in cc)
stands_one nodes n (named g) (parameter j) p q = absurd (let same = same_Some _ _ (sym p ∙ q) in cc)
stands_one nodes n (named g) (named h) p q =
    let same = same_Some _ _ (sym p ∙ q) in
    let inner : ◌≡◌ {A = HeadId} (record { 0 = g }) (record { 0 = h }) = cc in
    ap (λ (k : HeadId). named k.0) inner
stands_one nodes n (named g) (applied f b) p q = absurd (let same = same_Some _ _ (sym p ∙ q.2) in cc)
stands_one nodes n (applied e a) (parameter j) p q = absurd (let same = same_Some _ _ (sym p.2 ∙ q) in cc)
stands_one nodes n (applied e a) (named h) p q = absurd (let same = same_Some _ _ (sym p.2 ∙ q) in cc)
stands_one nodes n (applied e a) (applied f b) p q =
    let same = same_Some _ _ (sym p.2 ∙ q.2) in
    let left : p.0 ≡ q.0 = cc in
    let right : p.1 ≡ q.1 = cc in
    ap₂ applied
    (stands_one nodes q.0.0 e f (subst (λ (k : ExprId). Stands nodes k.0 e) left p.3) q.3)
    (stands_one nodes q.1.0 a b (subst (λ (k : ExprId). Stands nodes k.0 a) right p.4) q.4)

-- what stands at an index of the numbers
pub stand_at : (nodes : List Node) (ids : List ExprId) (es : List Expression) (i : ℕ) (id : ExprId) → StandFor nodes ids es → slice_get ids i ≡ Some id → (e : Expression) × (slice_get es i ≡ Some e) × Stands nodes id.0 e
stand_at nodes [] es i id all at = absurd (none-some _ at)
stand_at nodes (x ∷ ids) [] i id all at = absurd all
stand_at nodes (x ∷ ids) (e ∷ es) zero id all at = (e, refl, subst (λ (k : ExprId). Stands nodes k.0 e) (same_Some _ _ at) all.0)
stand_at nodes (x ∷ ids) (e ∷ es) (suc i) id all at = stand_at nodes ids es i id all.1 at

-- an expression that is not among those of a list has no number there
pub not_listed : (old new : List Node) (ids : List ExprId) (es : List Expression) (id : ExprId) (e : Expression) → StandFor old ids es → Stay old new → Stands new id.0 e → ((s : ℕ) → slice_get es s ≡ Some e → ⊥) → (i : ℕ) → slice_get ids i ≡ Some id → ⊥
not_listed old new ids es id e all stay stands fresh i at =
    let found = stand_at old ids es i id all at in
    fresh i (found.1 ∙ ap Some (stands_one new id.0 found.0 e (stands_stay old new stay id.0 found.0 found.2) stands))

-- one more at the end
pub push_sort : (old new : List Node) (ids : List ExprId) (es : List Expression) (id : ExprId) (e : Expression) → StandFor old ids es → Stay old new → Stands new id.0 e → StandFor new (ids ++ id ∷ []) (es ++ e ∷ [])
push_sort old new [] [] id e all stay stands = (stands, tt)
push_sort old new [] (f ∷ es) id e all stay stands = absurd all
push_sort old new (x ∷ ids) [] id e all stay stands = absurd all
push_sort old new (x ∷ ids) (f ∷ es) id e all stay stands = (stands_stay old new stay x.0 f all.0, push_sort old new ids es id e all.1 stay stands)

pub stay_push : {X : Type 0} (old new : List X) (x : X) → new ≡ old ++ x ∷ [] → Stay old new
stay_push old new x is n y at = ap (λ xs. slice_get xs n) is ∙ slice_get-append_left old (x ∷ []) n y at
