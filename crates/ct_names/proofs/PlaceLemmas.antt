-- The place of a parameter's name, and parameters in written sorts.
use Rattle.std.proofs.Common.{◌≡◌, ℕ, zero, suc, ◌+◌, ◌<◌, ◌&&◌, Bool, true, false, List, [], ◌∷◌, ◌++◌, length, map, take, drop, get_or, position, Some, Vec, Global, refl, sym, ◌∙◌, ap, subst, arith}
use Rattle.std.specs.Borrow.{Bor}
use Rattle.std.specs.List.{list_all, position_or_len}
use Rattle.std.specs.Str.{bytes_eq}
use Rattle.std.proofs.lemmas.Bool.{false≢true}
use Rattle.std.proofs.lemmas.Bool.Decides.{Decides-ltb}
use Rattle.std.proofs.lemmas.List.{length-map}
use Rattle.std.proofs.lemmas.Option.{slice_get_within}
use Rattle.ct_generics.specs.declared.expr.SortExpr.{SortExpr, Param, App}
use Rattle.ct_generics.specs.declared.expr.SortExpr.TheOpen.{SortExpr-F}
use Rattle.ct_generics.specs.declared.expr.SortExpr.TheFolds.{fold-SortExpr, fold-roll-SortExpr}
use Rattle.ct_generics.specs.declared.expr.SortExpr.TheVariants.{rolls-App, rolls-Param}
use Rattle.ct_generics.specs.WellFormed.{has_below, AreParametersBelow}
use Rattle.ct_names.specs.Sorts.{parameter_at, HaveBelow}
use Rattle.ct_names.proofs.FoundLemmas.{position_passes}

position_or_len-map : {K X : Type 0} (f : K → X) (test : X → Bool) (ks : List K) → position_or_len test (map f ks) ≡ position_or_len (λ k. test (f k)) ks
position_or_len-map f test [] = refl
position_or_len-map f test (k ∷ ks) = by (test (f k)) refl (position_or_len-map f test ks)
  where
    by : (b : Bool) → test (f k) ≡ b → position_or_len test (map f ks) ≡ position_or_len (λ x. test (f x)) ks → position_or_len test (map f (k ∷ ks)) ≡ position_or_len (λ x. test (f x)) (k ∷ ks)
    by true e rest = rw e refl
    by false e rest = rw (e, rest) refl

-- the place of a name among those of the parameters
pub parameter_is : (params : List (Bor (List ℕ))) (name : List ℕ) → position (λ (p : Bor (List ℕ)). bytes_eq name p.now) params ≡ parameter_at (map (λ (p : Bor (List ℕ)). p.now) params) name
parameter_is params name = rw (position_or_len-map (λ (p : Bor (List ℕ)). p.now) (bytes_eq name) params, length-map) refl

-- it is below their number
pub place_within : (params : List (Bor (List ℕ))) (name : List ℕ) (i : ℕ) → parameter_at (map (λ (p : Bor (List ℕ)). p.now) params) name ≡ Some i → i < length params
place_within params name i at =
    let texts = map (λ (p : Bor (List ℕ)). p.now) params in
    let found = position_passes (bytes_eq name) texts i at in
    let long : length texts ≡ length params = length-map params (λ (p : Bor (List ℕ)). p.now) in
    subst (λ (n : ℕ). i < n) long (slice_get_within texts i found.0 found.1)

-- a parameter below the number, and a name with such arguments
pub below_parameter : (params i : ℕ) → i < params → AreParametersBelow params (Param i)
below_parameter params i within =
    ap (fold-SortExpr Bool (has_below params)) (sym (rolls-Param i)) ∙ fold-roll-SortExpr Bool (has_below params) (SortExpr-F.Param i) ∙ (Decides-ltb i params).1 within

pub below_applied : (params : ℕ) (name : List ℕ) (args : Vec SortExpr Global) → HaveBelow params args.items → AreParametersBelow params (App name args)
below_applied params name args below =
    ap (fold-SortExpr Bool (has_below params)) (sym (rolls-App name args)) ∙ fold-roll-SortExpr Bool (has_below params) (SortExpr-F.App name args) ∙ below

pub below-push : (params : ℕ) (ws : List SortExpr) (w : SortExpr) → HaveBelow params ws → AreParametersBelow params w → HaveBelow params (ws ++ w ∷ [])
below-push params [] w all last = ap (λ (b : Bool). b && true) last
below-push params (v ∷ ws) w all last = by (fold-SortExpr Bool (has_below params) v) refl all (λ rest. below-push params ws w rest last)
  where
    by : (b : Bool) → fold-SortExpr Bool (has_below params) v ≡ b → b && list_all (λ below. below) (map (fold-SortExpr Bool (has_below params)) ws) ≡ true → (HaveBelow params ws → HaveBelow params (ws ++ w ∷ [])) → HaveBelow params ((v ∷ ws) ++ w ∷ [])
    by true is rest push = ap (λ (b : Bool). b && list_all (λ below. below) (map (fold-SortExpr Bool (has_below params)) (ws ++ w ∷ []))) is ∙ push rest
    by false is rest push = absurd (false≢true rest)

-- items before one, it, and those after it
pub split_item : {X : Type 0} (xs : List X) (i : ℕ) (x : X) → i < length xs → x ≡ get_or xs i x → xs ≡ take i xs ++ x ∷ drop (i + 1) xs
split_item [] i x h e = absurd (omega (arith, h))
split_item (y ∷ xs) zero x h e = ap (λ z. z ∷ xs) (sym e)
split_item (y ∷ xs) (suc i) x h e =
    let s : suc i + 1 ≡ suc (i + 1) = omega arith in
    rw s (ap (λ rest. y ∷ rest) (split_item xs i x (omega (arith, h)) e))
