-- Tokens are those of one expression at most.
use Rattle.std.proofs.Common.{◌≡◌, List, [], ◌∷◌, ◌++◌, refl, ap, append_assoc}
use Rattle.ct_sexpr.specs.Token.{Token, closing}
use Rattle.ct_sexpr.specs.Expression.{Expression, Expressions, leaf, list, none, more, tokens_of, tokens_of_each}

mutual
  -- no expression's tokens begin another's
  pub tokens_of-prefix : (e f : Expression) (r s : List Token) → tokens_of e ++ r ≡ tokens_of f ++ s → (e ≡ f) × (r ≡ s)
  tokens_of-prefix (leaf a) (leaf b) r s h = (cc, cc)
  tokens_of-prefix (leaf a) (list fs) r s h = cc
  tokens_of-prefix (list es) (leaf b) r s h = cc
  tokens_of-prefix (list es) (list fs) r s h =
      let inside : (tokens_of_each es ++ closing ∷ []) ++ r ≡ (tokens_of_each fs ++ closing ∷ []) ++ s = cc in
      let p = tokens_of_each-prefix es fs r s (simp append_assoc at inside) in
      (ap list p.0, p.1)

  pub tokens_of_each-prefix : (es fs : Expressions) (r s : List Token) →
      tokens_of_each es ++ closing ∷ r ≡ tokens_of_each fs ++ closing ∷ s → (es ≡ fs) × (r ≡ s)
  tokens_of_each-prefix none none r s h = (refl, cc)
  tokens_of_each-prefix none (more (leaf b) fs) r s h = cc
  tokens_of_each-prefix none (more (list f) fs) r s h = cc
  tokens_of_each-prefix (more (leaf a) es) none r s h = cc
  tokens_of_each-prefix (more (list e) es) none r s h = cc
  tokens_of_each-prefix (more e es) (more f fs) r s h =
      let p = tokens_of-prefix e f (tokens_of_each es ++ closing ∷ r) (tokens_of_each fs ++ closing ∷ s) (simp append_assoc at h) in
      let q = tokens_of_each-prefix es fs r s p.1 in
      (cc (p.0, q.0), q.1)

-- the tokens of two expressions differ
pub tokens_of-injective : (e f : Expression) → tokens_of e ≡ tokens_of f → e ≡ f
tokens_of-injective e f h = (tokens_of-prefix e f [] [] (ap (λ ts. ts ++ []) h)).0
