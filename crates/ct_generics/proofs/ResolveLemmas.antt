-- What written sort expressions stand for: arguments one by one.
use Rattle.std.proofs.Common.{◌≡◌, ℕ, zero, suc, ◌+◌, ◌<◌, ◌≤◌, Bool, if◌then◌else◌, List, [], ◌∷◌, ◌++◌, length, map, take, drop, get_or, Ok, Err, Option, Some, slice_get, refl, sym, ap, subst, ◌∙◌, arith}
use Rattle.std.specs.List.{AllZip}
use Rattle.std.proofs.lemmas.List.{take_more, length-map}
use Rattle.std.proofs.lemmas.Option.{same_Some, none-some}
use Rattle.std.proofs.lemmas.Bool.Decides.{Decides-eqb}
use Rattle.ct_lemmas.proofs.Pairs.{AllZip-push, AllZip-at_left, AllZip-one_length}
use Rattle.ct_generics.specs.declared.expr.SortExpr.{SortExpr}
use Rattle.ct_generics.specs.Declarations.{Declared}
use Rattle.ct_generics.specs.Refusals.{wrong_count}
use Rattle.ct_generics.specs.Resolved.{Meaning, params_of, instance, with_meaning, resolved}
use Rattle.ct_generics.specs.declared.nodes.ExprId.{ExprId}
use Rattle.ct_generics.specs.declared.nodes.Node.{Node}
use Rattle.ct_generics.specs.Expression.{Expression, applied, with_args}
use Rattle.ct_generics.specs.Nodes.{Stands, Stay, StandFor}
use Rattle.ct_generics.specs.Outcome.{Outcome, and_then, all_of, each}
use Rattle.ct_generics.proofs.NodeLemmas.{Stands-stay}
use Rattle.ct_generics.proofs.OutcomeLemmas.{each-push, each-stop, all_of-each}

-- one more argument comes last
pub with_args-push : (e : Expression) (args : List Expression) (a : Expression) → with_args e (args ++ a ∷ []) ≡ applied (with_args e args) a
with_args-push e [] a = refl
with_args-push e (b ∷ args) a = with_args-push (applied e b) args a

take-at : {X : Type 0} (xs : List X) (i : ℕ) (x : X) → slice_get xs i ≡ Some x → take (i + 1) xs ≡ take i xs ++ x ∷ []
take-at [] i x at = absurd (none-some x at)
take-at (y ∷ xs) zero x at = ap (λ (z : _). z ∷ []) (same_Some y x at)
take-at (y ∷ xs) (suc i) x at = let e : suc i + 1 ≡ suc (i + 1) = omega arith in rw e (ap (λ (zs : List _). y ∷ zs) (take-at xs i x at))

-- one more argument of a sort or generic
pub applied-more : (begin old new : List Node) (n whole : ℕ) (arg : ExprId) (ids : List ExprId) (head : Expression) (es : List Expression) (i : ℕ) → StandFor begin ids es → slice_get ids i ≡ Some arg → Stay begin old → ((e a : Expression) → Stands old whole e → Stands old arg.0 a → Stands new n (applied e a)) → Stands old whole (with_args head (take i es)) → Stands new n (with_args head (take (i + 1) es))
applied-more begin old new n whole arg ids head es i stand at stay makes before =
    let found = AllZip-at_left (λ (id : ExprId) (e : Expression). Stands begin id.0 e) ids es i arg stand at in
    subst (Stands new n) (sym (ap (with_args head) (take-at es i found.0 found.1) ∙ with_args-push head (take i es) found.0)) (makes (with_args head (take i es)) found.0 before (Stands-stay begin old arg.0 found.0 stay found.2))

take-none : {X : Type 0} (i : ℕ) → take {A = X} i [] ≡ []
take-none zero = refl
take-none (suc i) = refl

pub take-past : {X : Type 0} (xs : List X) (i : ℕ) → length xs ≤ i → take i xs ≡ xs
take-past [] i past = take-none i
take-past (x ∷ xs) zero past = absurd (omega (arith, past))
take-past (x ∷ xs) (suc i) past = ap (λ (ys : List _). x ∷ ys) (take-past xs i (omega (arith, past)))

-- all arguments of a sort or generic
pub applied-all : (nodes begin : List Node) (n : ℕ) (ids : List ExprId) (head : Expression) (es : List Expression) (i : ℕ) → StandFor begin ids es → length ids ≤ i → Stands nodes n (with_args head (take i es)) → Stands nodes n (with_args head es)
applied-all nodes begin n ids head es i stand past stands =
    subst (λ (all : List Expression). Stands nodes n (with_args head all)) (take-past es i (omega (arith, past, AllZip-one_length (λ (id : ExprId) (e : Expression). Stands begin id.0 e) ids es stand))) stands

-- the first of a list, and the one that comes next
pub each-more : {X Y Z : Type 0} (R : Z → Y → Type 0) (f : X → Outcome Y) (xs : List X) (i : ℕ) (x : X) (zs : List Z) (z : Z) → i < length xs → x ≡ get_or xs i x → (ys : List Y) × (each f (take i xs) ≡ Ok ys) × AllZip R zs ys → (y : Y) × (f x ≡ Ok y) × R z y → (ys : List Y) × (each f (take (i + 1) xs) ≡ Ok ys) × AllZip R (zs ++ z ∷ []) ys
each-more R f xs i x zs z less item (ys, e, all) (y, at, is) =
    (ys ++ y ∷ [], rw (take_more xs i x less, sym item) (each-push f (take i xs) x ys y e at), AllZip-push R zs ys z y all is)

pub split-at : {X : Type 0} (xs : List X) (i : ℕ) (none : X) → i < length xs → take i xs ++ get_or xs i none ∷ drop (i + 1) xs ≡ xs
split-at [] i none less = absurd (omega (arith, less))
split-at (x ∷ xs) zero none less = refl
split-at (x ∷ xs) (suc i) none less = let e : suc i + 1 ≡ suc (i + 1) = omega arith in rw e (ap (λ (ys : List _). x ∷ ys) (split-at xs i none (omega (arith, less))))

-- the first that is refused
pub each-refused : {X Y : Type 0} (f : X → Outcome Y) (xs : List X) (i : ℕ) (x : X) (n : ℕ) → i < length xs → x ≡ get_or xs i x → (ys : List Y) → each f (take i xs) ≡ Ok ys → f x ≡ Err n → each f xs ≡ Err n
each-refused f xs i x n less item ys e at =
    subst (λ (all : List _). each f all ≡ Err n) (split-at xs i x less) (subst (λ (y : _). each f (take i xs ++ y ∷ drop (i + 1) xs) ≡ Err n) item (each-stop f (take i xs) x (drop (i + 1) xs) ys n e at))

-- all of a list
pub each-all : {X Y Z : Type 0} (R : Z → Y → Type 0) (f : X → Outcome Y) (xs : List X) (i : ℕ) (zs : List Z) → length xs ≤ i → (ys : List Y) × (each f (take i xs) ≡ Ok ys) × AllZip R zs ys → (ys : List Y) × (each f xs ≡ Ok ys) × AllZip R zs ys
each-all R f xs i zs past (ys, e, is) = (ys, subst (λ (some : List _). each f some ≡ Ok ys) (take-past xs i past) e, is)

-- what a name with arguments stands for, where these are known
pub with_meaning-ok : (d : Declared) (o : Option Meaning) (m : Meaning) (args : List SortExpr) (es : List Expression) → o ≡ Some m → length args ≡ params_of m → each (resolved d) args ≡ Ok es → with_meaning o (map (resolved d) args) ≡ Ok (instance m es)
with_meaning-ok d o m args es is count known =
    ap (λ (p : Option Meaning). with_meaning p (map (resolved d) args)) is
    ∙ ap (λ (b : Bool). if b then and_then (all_of (map (resolved d) args)) (λ xs. Ok (instance m xs)) else Err wrong_count) ((Decides-eqb (length (map (resolved d) args)) (params_of m)).1 (length-map args (resolved d) ∙ count))
    ∙ ap (λ (x : Outcome (List Expression)). and_then x (λ xs. Ok (instance m xs))) (all_of-each (resolved d) args ∙ known)

-- and where one of them is refused
pub with_meaning-refused : (d : Declared) (o : Option Meaning) (m : Meaning) (args : List SortExpr) (n : ℕ) → o ≡ Some m → length args ≡ params_of m → each (resolved d) args ≡ Err n → with_meaning o (map (resolved d) args) ≡ Err n
with_meaning-refused d o m args n is count known =
    ap (λ (p : Option Meaning). with_meaning p (map (resolved d) args)) is
    ∙ ap (λ (b : Bool). if b then and_then (all_of (map (resolved d) args)) (λ xs. Ok (instance m xs)) else Err wrong_count) ((Decides-eqb (length (map (resolved d) args)) (params_of m)).1 (length-map args (resolved d) ∙ count))
    ∙ ap (λ (x : Outcome (List Expression)). and_then x (λ xs. Ok (instance m xs))) (all_of-each (resolved d) args ∙ known)
