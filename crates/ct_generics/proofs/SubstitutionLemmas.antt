-- Arguments in place of parameters, over shared expressions: node by node.
use Rattle.std.proofs.Common.{◌≡◌, ℕ, suc, ◌+◌, ◌<◌, reverse, List, [], ◌∷◌, ◌++◌, length, Option, Some, None, slice_get, unwrap_or, refl, sym, subst, ◌∙◌, inl, inr, arith}
use Rattle.std.proofs.lemmas.Option.{same_Some, none-some}
use Rattle.std.proofs.lemmas.List.{reverse-append}
use Rattle.ct_lemmas.proofs.Each.{All-at, All-from_slice_get}
use Rattle.ct_lemmas.proofs.Lists.{slice_get-push_cases}
use Rattle.ct_lemmas.proofs.Pairs.{AllZip-at_left, AllZip-at_right, AllZip-weaker}
use Rattle.ct_generics.specs.declared.nodes.ExprId.{ExprId}
use Rattle.ct_generics.specs.declared.nodes.HeadId.{HeadId}
use Rattle.ct_generics.specs.declared.nodes.Node.{Node}
use Rattle.ct_generics.specs.declared.nodes.Node.TheVariants.{Param, Head, Apply}
use Rattle.ct_generics.specs.Expression.{Expression, parameter, named, applied, substitute}
use Rattle.ct_generics.specs.Nodes.{Stands, Stay, StandFor, AreWithin, AreImages}
use Rattle.ct_generics.proofs.NodeLemmas.{Stands-one, Stands-stay, Stay-within}

-- numbers stand for what they stood for
pub StandFor-stay : (old new : List Node) (ids : List ExprId) (es : List Expression) → Stay old new → StandFor old ids es → StandFor new ids es
StandFor-stay old new ids es stay = AllZip-weaker (λ (id : ExprId) (e : Expression). Stands old id.0 e) (λ id e. Stands new id.0 e) (λ id e. Stands-stay old new id.0 e stay) ids es

pub AreWithin-stay : (old new : List Node) (ids : List ExprId) → Stay old new → AreWithin old ids → AreWithin new ids
AreWithin-stay old new ids stay within = All-from_slice_get (λ (id : ExprId). id.0 < length new) ids (λ k id at. Stay-within old new stay id.0 (All-at (λ (id : ExprId). id.0 < length old) ids k id within at))

pub AreWithin-push : (nodes : List Node) (ids : List ExprId) (id : ExprId) → AreWithin nodes ids → id.0 < length nodes → AreWithin nodes (ids ++ id ∷ [])
AreWithin-push nodes ids id within last =
    All-from_slice_get (λ (id : ExprId). id.0 < length nodes) (ids ++ id ∷ []) (λ k other at. elim (slice_get-push_cases ids id other k at) [
      | inl before ↦ All-at (λ (id : ExprId). id.0 < length nodes) ids k other within before
      | inr now ↦ subst (λ (x : ExprId). x.0 < length nodes) now.1 last
    ])

-- the argument of a parameter
pub image_argument : (nodes : List Node) (ids : List ExprId) (es : List Expression) (i : ℕ) (id : ExprId) → StandFor nodes ids es → slice_get ids i ≡ Some id → Stands nodes id.0 (substitute es (parameter i))
image_argument nodes ids es i id stand at =
    let found = AllZip-at_left (λ (id : ExprId) (e : Expression). Stands nodes id.0 e) ids es i id stand at in
    subst (λ (o : Option Expression). Stands nodes id.0 (unwrap_or o (parameter i))) (sym found.1) found.2

-- a parameter without an argument stays
pub image_missing : (nodes : List Node) (ids : List ExprId) (es : List Expression) (i : ℕ) → StandFor nodes ids es → slice_get ids i ≡ None → substitute es (parameter i) ≡ parameter i
image_missing nodes ids es i stand at = by (slice_get es i) refl
  where
    by : (o : Option Expression) → slice_get es i ≡ o → unwrap_or o (parameter i) ≡ parameter i
    by None e = refl
    by (Some x) e = absurd (none-some (AllZip-at_right (λ (id : ExprId) (e : Expression). Stands nodes id.0 e) ids es i x stand e).0 (sym at ∙ (AllZip-at_right (λ (id : ExprId) (e : Expression). Stands nodes id.0 e) ids es i x stand e).1))

-- a parameter's image, where there is an argument
pub image-Some : (template nodes : List Node) (ids : List ExprId) (es : List Expression) (k i : ℕ) (id : ExprId) (e : Expression) → StandFor nodes ids es → slice_get template k ≡ Some (Param i) → Stands template k e → slice_get ids i ≡ Some id → Stands nodes id.0 (substitute es e)
image-Some template nodes ids es k i id e stand node stands at =
    subst (λ (f : Expression). Stands nodes id.0 (substitute es f)) (Stands-one template k (parameter i) e node stands) (image_argument nodes ids es i id stand at)

-- and where there is none
pub image-None : (template old new : List Node) (ids : List ExprId) (es : List Expression) (k i n : ℕ) (e : Expression) → StandFor old ids es → slice_get template k ≡ Some (Param i) → Stands template k e → slice_get ids i ≡ None → Stands new n (parameter i) → Stands new n (substitute es e)
image-None template old new ids es k i n e stand node stands at image =
    subst (λ (f : Expression). Stands new n (substitute es f)) (Stands-one template k (parameter i) e node stands) (subst (Stands new n) (sym (image_missing old ids es i stand at)) image)

-- the image of a sort or generic
pub image-Head : (template new : List Node) (es : List Expression) (k n : ℕ) (h : HeadId) (e : Expression) → slice_get template k ≡ Some (Head h) → Stands template k e → Stands new n (named h.0) → Stands new n (substitute es e)
image-Head template new es k n h e node stands image =
    subst (λ (f : Expression). Stands new n (substitute es f)) (Stands-one template k (named h.0) e node stands) image

same_parts : (m n k l : ExprId) → Apply m k ≡ Apply n l → (m ≡ n) × (k ≡ l)
same_parts m n k l e = (cc, cc)

-- the image of an expression with one argument more
pub image-Apply : (template old new : List Node) (images : List ExprId) (es : List Expression) (k n : ℕ) (m l function argument : ExprId) (e : Expression) → AreImages template old images es → slice_get template k ≡ Some (Apply m l) → Stands template k e → slice_get images m.0 ≡ Some function → slice_get images l.0 ≡ Some argument → ((f a : Expression) → Stands old function.0 f → Stands old argument.0 a → Stands new n (applied f a)) → Stands new n (substitute es e)
image-Apply template old new images es k n m l function argument (parameter i) known node stands at_m at_l makes = absurd (let e = same_Some (Apply m l) (Param i) (sym node ∙ stands) in cc)
image-Apply template old new images es k n m l function argument (named h) known node stands at_m at_l makes = absurd (let e = same_Some (Apply m l) (Head (record { 0 = h })) (sym node ∙ stands) in cc)
image-Apply template old new images es k n m l function argument (applied f a) known node stands at_m at_l makes =
    let parts = same_parts stands.0 m stands.1 l (same_Some (Apply stands.0 stands.1) (Apply m l) (sym stands.2 ∙ node)) in
    makes (substitute es f) (substitute es a)
    (known m.0 function f at_m (subst (λ (x : ExprId). Stands template x.0 f) parts.0 stands.3))
    (known l.0 argument a at_l (subst (λ (x : ExprId). Stands template x.0 a) parts.1 stands.4))

-- one image more
pub AreImages-push : (template old new : List Node) (images : List ExprId) (image : ExprId) (es : List Expression) → Stay old new → AreImages template old images es → ((e : Expression) → Stands template (length images) e → Stands new image.0 (substitute es e)) → AreImages template new (images ++ image ∷ []) es
AreImages-push template old new images image es stay known last k id e at stands =
    elim (slice_get-push_cases images image id k at) [
      | inl before ↦ Stands-stay old new id.0 (substitute es e) stay (known k id e before stands)
      | inr now ↦ subst (λ (x : ExprId). Stands new x.0 (substitute es e)) now.1 (last e (subst (λ n. Stands template n e) now.0 stands))
    ]

pub length-push : {X : Type 0} (xs : List X) (x : X) → length (xs ++ x ∷ []) ≡ length xs + 1
length-push [] x = refl
length-push (y ∷ xs) x = omega (arith, length-push xs x)

pub AreWithin-none : (nodes : List Node) → AreWithin nodes []
AreWithin-none nodes = All-from_slice_get (λ (id : ExprId). id.0 < length nodes) [] (λ k id at. absurd (none-some id at))

pub AreWithin-reverse : (nodes : List Node) (ids : List ExprId) → AreWithin nodes ids → AreWithin nodes (reverse ids)
AreWithin-reverse nodes [] within = within
AreWithin-reverse nodes (id ∷ ids) within =
    let rest : AreWithin nodes ids = All-from_slice_get (λ (id : ExprId). id.0 < length nodes) ids (λ k x at. All-at (λ (id : ExprId). id.0 < length nodes) (id ∷ ids) (suc k) x within at) in
    subst (AreWithin nodes) (sym (reverse-append (id ∷ []) ids)) (AreWithin-push nodes (reverse ids) id (AreWithin-reverse nodes ids rest) (All-at (λ (id : ExprId). id.0 < length nodes) (id ∷ ids) 0 id within refl))
