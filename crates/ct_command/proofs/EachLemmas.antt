-- What a row of expressions forms, one expression after the other.
use Rattle.std.proofs.Common.{◌≡◌, ◌∙◌, List, [], ◌∷◌, ◌++◌, map, Option, Some, None, option_map, refl, sym, ap}
use Rattle.std.specs.Option.{option_and_then}
use Rattle.std.proofs.lemmas.List.{append_assoc, append-nil, map-append}
use Rattle.ct_sexpr.specs.Expression.{Expression}
use Rattle.ct_command.specs.Items.{each}

-- the whole row forms what is there already, and then what the rest forms
abbrev pub Completes : {R X : Type 0} → (Expression → Option X) → (R → X) → Option (List X) → List R → List Expression → Type 0
Completes form seen whole out left = whole ≡ option_map (λ xs. map seen out ++ xs) (each form left)

module _ {R X : Type 0} (form : Expression → Option X) (seen : R → X) where
  kept : (whole : Option (List X)) → whole ≡ option_map (λ xs. [] ++ xs) whole
  kept None = refl
  kept (Some xs) = refl

  pub nothing_yet : (left : List Expression) → Completes form seen (each form left) [] left
  nothing_yet left = kept (each form left)

  fused : (out : List R) (x : R) (rest : Option (List X)) → option_map (λ xs. map seen out ++ xs) (option_map (λ xs. seen x ∷ xs) rest) ≡ option_map (λ xs. map seen (out ++ x ∷ []) ++ xs) rest
  fused out x None = refl
  fused out x (Some xs) = ap (λ (ys : List X). Some ys) (sym (append_assoc (map seen out) (seen x ∷ []) xs) ∙ ap (λ (ys : List X). ys ++ xs) (sym (map-append seen out (x ∷ []))))

  pub one_more : (whole : Option (List X)) (out : List R) (x : R) (e : Expression) (left : List Expression) → form e ≡ Some (seen x) → Completes form seen whole out (e ∷ left) → Completes form seen whole (out ++ x ∷ []) left
  one_more whole out x e left read completes =
      completes
      ∙ ap (λ (y : Option X). option_map (λ xs. map seen out ++ xs) (option_and_then (λ y. option_map (λ xs. y ∷ xs) (each form left)) y)) read
      ∙ fused out x (each form left)

  pub none_read : (whole : Option (List X)) (out : List R) (e : Expression) (left : List Expression) → form e ≡ None → Completes form seen whole out (e ∷ left) → whole ≡ None
  none_read whole out e left read completes =
      completes
      ∙ ap (λ (y : Option X). option_map (λ xs. map seen out ++ xs) (option_and_then (λ y. option_map (λ xs. y ∷ xs) (each form left)) y)) read

  pub all_read : (whole : Option (List X)) (out : List R) → Completes form seen whole out [] → whole ≡ Some (map seen out)
  all_read whole out completes = completes ∙ ap (λ (ys : List X). Some ys) (append-nil (map seen out))
