-- Variables that were bound leave.
use Rattle.std.proofs.Common.{◌≡◌, ℕ, ◌+◌, List, [], ◌∷◌, length, drop, refl, sym, ◌∙◌, ap, arith}
use Rattle.std.proofs.lemmas.List.{drop-drop}
use Rattle.ct_formulas.specs.Formula.{bind}

-- what was bound last leaves first
pub drop-bind : {X : Type 0} (xs env : List X) → drop (length xs) (bind xs env) ≡ env
drop-bind [] env = refl
drop-bind (x ∷ xs) env =
    let all = bind xs (x ∷ env) in
    let more : length (x ∷ xs) ≡ length xs + 1 = omega arith in
    ap (λ (n : ℕ). drop n all) more ∙ sym (drop-drop 1 (length xs) all) ∙ ap (λ ys. drop 1 ys) (drop-bind xs (x ∷ env))
