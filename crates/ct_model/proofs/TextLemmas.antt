-- Texts from their parts, as programs write them.
use Rattle.std.proofs.Common.{◌≡◌, ℕ, ◌+◌, ◌<◌, ◌≤◌, List, [], ◌∷◌, ◌++◌, length, take, get_or, sym, ap, ◌∙◌, arith, append_assoc}
use Rattle.std.proofs.lemmas.List.{take_more, length-take, take_all}
use Rattle.ct_sorts.specs.declared.ids.SortId.{SortId}
use Rattle.ct_sorts.specs.Declarations.{Declarations}
use Rattle.ct_value_text.specs.Separation.{gap}
use Rattle.ct_model.specs.Listed.{joined, listed}
use Rattle.ct_model.specs.TableText.{parameters, sorted_parameter}
use Rattle.ct_model.proofs.WrittenLemmas.{parameters-push}

-- one parameter more
pub parameters-more : (d : Declarations) (ss : List SortId) (i : ℕ) (z : SortId) (old now spaced new : List ℕ) → i < length ss
    → now ≡ old ++ 40 ∷ joined (parameters d 0 (take i ss)) → spaced ≡ now ++ gap i → new ≡ spaced ++ sorted_parameter d i (get_or ss i z)
    → new ≡ old ++ 40 ∷ joined (parameters d 0 (take (i + 1) ss))
parameters-more d ss i z old now spaced new within p q r =
    let before = joined (parameters d 0 (take i ss)) in
    let s = get_or ss i z in
    let last = sorted_parameter d i s in
    let long : length (take i ss) ≡ i = omega (arith, length-take {A = SortId}) in
    let pushed : joined (parameters d 0 (take (i + 1) ss)) ≡ before ++ (gap i ++ last) =
    ap (λ zs. joined (parameters d 0 zs)) (take_more ss i z within) ∙ parameters-push d (take i ss) s ∙ ap (λ k. before ++ (gap k ++ sorted_parameter d k s)) long in
    r
    ∙ ap (λ w. w ++ last) (q ∙ ap (λ w. w ++ gap i) p)
    ∙ append_assoc (old ++ 40 ∷ before) (gap i) last
    ∙ append_assoc old (40 ∷ before) (gap i ++ last)
    ∙ ap (λ w. old ++ 40 ∷ w) (sym pushed)

-- all parameters
pub parameters-all : (d : Declarations) (ss : List SortId) (i : ℕ) (old now new : List ℕ) → length ss ≤ i
    → now ≡ old ++ 40 ∷ joined (parameters d 0 (take i ss)) → new ≡ now ++ 41 ∷ []
    → new ≡ old ++ listed (parameters d 0 ss)
parameters-all d ss i old now new all p q =
    q
    ∙ ap (λ w. w ++ 41 ∷ []) (p ∙ ap (λ zs. old ++ 40 ∷ joined (parameters d 0 zs)) (take_all i ss all))
    ∙ append_assoc old (40 ∷ joined (parameters d 0 ss)) (41 ∷ [])
