-- Steps one after the other, up to the first that is refused.
use Rattle.std.proofs.Common.{◌≡◌, ◌∙◌, ℕ, List, [], ◌∷◌, ◌++◌, map, Result, Ok, Err, refl, sym, ap}
use Rattle.std.proofs.lemmas.List.{append_assoc, append-nil}
use Rattle.ct_names.specs.Outcome.{and_then}
use Rattle.ct_stack.specs.Outcomes.{each_of}

-- the whole comes to what is there already, and then to what the rest comes to
abbrev pub Completes : {X Y E : Type 0} → (X → Result Y E) → Result (List Y) E → List Y → List X → Type 0
Completes step whole out left = whole ≡ and_then (each_of step left) (λ ys. Ok (out ++ ys))

module _ {X Y E : Type 0} (step : X → Result Y E) where
  kept : (whole : Result (List Y) E) → whole ≡ and_then whole (λ ys. Ok ([] ++ ys))
  kept (Ok ys) = refl
  kept (Err n) = refl

  pub nothing_yet : (left : List X) → Completes step (each_of step left) [] left
  nothing_yet left = kept (each_of step left)

  fused : (out : List Y) (y : Y) (rest : Result (List Y) E) → and_then (and_then rest (λ ys. Ok (y ∷ ys))) (λ ys. Ok (out ++ ys)) ≡ and_then rest (λ ys. Ok ((out ++ y ∷ []) ++ ys))
  fused out y (Ok ys) = ap (λ (zs : List Y). Ok zs) (sym (append_assoc out (y ∷ []) ys))
  fused out y (Err n) = refl

  pub one_more : (whole : Result (List Y) E) (out : List Y) (x : X) (y : Y) (left : List X) → step x ≡ Ok y → Completes step whole out (x ∷ left) → Completes step whole (out ++ y ∷ []) left
  one_more whole out x y left taken completes =
      completes
      ∙ ap (λ (o : Result Y E). and_then (and_then o (λ y. and_then (each_of step left) (λ ys. Ok (y ∷ ys)))) (λ ys. Ok (out ++ ys))) taken
      ∙ fused out y (each_of step left)

  pub stopped : (whole : Result (List Y) E) (out : List Y) (x : X) (n : E) (left : List X) → step x ≡ Err n → Completes step whole out (x ∷ left) → whole ≡ Err n
  stopped whole out x n left taken completes =
      completes
      ∙ ap (λ (o : Result Y E). and_then (and_then o (λ y. and_then (each_of step left) (λ ys. Ok (y ∷ ys)))) (λ ys. Ok (out ++ ys))) taken

  pub all_taken : (whole : Result (List Y) E) (out : List Y) → Completes step whole out [] → whole ≡ Ok out
  all_taken whole out completes = completes ∙ ap (λ (ys : List Y). Ok ys) (append-nil out)

-- lists that grow by what is taken from the start of another
abbrev pub Moves : {X Y : Type 0} → (X → Y) → List Y → List Y → List X → Type 0
Moves f whole out left = whole ≡ out ++ map f left
