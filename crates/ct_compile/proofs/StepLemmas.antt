-- Lists that are put together while a slice is gone over.
use Rattle.std.proofs.Common.{◌≡◌, ◌-◌, ◌≤◌, List, [], ◌∷◌, ◌++◌, length, map, reverse, take, drop, get_or, refl, sym, ap, ◌∙◌}
use Rattle.std.proofs.lemmas.List.{append_assoc, reverse-append}
use Rattle.ct_lemmas.proofs.Prefixes.{rest-step}
use Rattle.ct_terms.specs.declared.ids.TermId.{TermId}
use Rattle.ct_scope.specs.declared.bound.Bound.{Bound}
use Rattle.ct_scope.specs.declared.bound.Bound.TheVariants.{Term, Field, Absent}
use Rattle.ct_scope.specs.Calling.{terms_bound}

abbrev rest_of : {X : Type 0} → List X → List X
rest_of xs = take (length xs - 1) (drop 1 xs)

-- each is added as it is
pub all_step : {X : Type 0} (found new : List X) (d : X) (rest goal : List X) → 1 ≤ length rest → new ≡ found ++ get_or rest 0 d ∷ [] → found ++ rest ≡ goal → new ++ rest_of rest ≡ goal
all_step {X} found new d rest goal some items inv =
    ap (λ (xs : List X). xs ++ rest_of rest) items
    ∙ append_assoc found (get_or rest 0 d ∷ []) (rest_of rest)
    ∙ ap (λ (xs : List X). found ++ xs) (sym (rest-step rest d some))
    ∙ inv

-- something of each is added
pub map_step : {X Y : Type 0} (f : X → Y) (found new : List Y) (d : X) (rest : List X) (goal : List Y) → 1 ≤ length rest → new ≡ found ++ f (get_or rest 0 d) ∷ [] → found ++ map f rest ≡ goal → new ++ map f (rest_of rest) ≡ goal
map_step {X} {Y} f found new d rest goal some items inv =
    ap (λ (ys : List Y). ys ++ map f (rest_of rest)) items
    ∙ append_assoc found (f (get_or rest 0 d) ∷ []) (map f (rest_of rest))
    ∙ ap (λ (xs : List X). found ++ map f xs) (sym (rest-step rest d some))
    ∙ inv

terms_first : (b : Bound) (bs : List Bound) → terms_bound (b ∷ []) ++ terms_bound bs ≡ terms_bound (b ∷ bs)
terms_first (Term t) bs = refl
terms_first (Field s t) bs = refl
terms_first Absent bs = refl

-- the term of each is added that has one
pub terms_step : (found new : List TermId) (d : Bound) (rest : List Bound) (goal : List TermId) → 1 ≤ length rest → new ≡ found ++ terms_bound (get_or rest 0 d ∷ []) → found ++ terms_bound rest ≡ goal → new ++ terms_bound (rest_of rest) ≡ goal
terms_step found new d rest goal some items inv =
    ap (λ (ts : List TermId). ts ++ terms_bound (rest_of rest)) items
    ∙ append_assoc found (terms_bound (get_or rest 0 d ∷ [])) (terms_bound (rest_of rest))
    ∙ ap (λ (ts : List TermId). found ++ ts) (terms_first (get_or rest 0 d) (rest_of rest) ∙ ap terms_bound (sym (rest-step rest d some)))
    ∙ inv

-- each is added from the last to the first
pub reverse_step : {X : Type 0} (found new : List X) (x : X) (rest more goal : List X) → rest ≡ more ++ x ∷ [] → new ≡ found ++ x ∷ [] → found ++ reverse rest ≡ goal → new ++ reverse more ≡ goal
reverse_step {X} found new x rest more goal split items inv =
    ap (λ (xs : List X). xs ++ reverse more) items
    ∙ append_assoc found (x ∷ []) (reverse more)
    ∙ ap (λ (xs : List X). found ++ xs) (sym (ap reverse split ∙ reverse-append more (x ∷ [])))
    ∙ inv
