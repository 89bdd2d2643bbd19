-- Things of one form one after another, read from the first on.
use Rattle.std.proofs.Common.{◌≡◌, List, [], ◌∷◌, ◌++◌, Option, Some, None, option_map, refl, ap, append_assoc, append-nil}
use Rattle.ct_sexpr.specs.Expression.{Expression, Expressions, none, more}
use Rattle.ct_log_lines.specs.Forms.{option_both, each}

-- what is read where these were read before
abbrev pub each_from : {X : Type 0} → (Expression → Option X) → List X → Expressions → Option (List X)
each_from read xs es = option_map (λ ys. xs ++ ys) (each read es)

module _ {X : Type 0} (read : Expression → Option X) where
  each_start_of : (r : Option (List X)) → option_map (λ ys. [] ++ ys) r ≡ r
  each_start_of None = refl
  each_start_of (Some ys) = refl

  pub each_start : (es : Expressions) → each_from read [] es ≡ each read es
  each_start es = each_start_of (each read es)

  each_next_of : (xs : List X) (x : X) (r : Option (List X)) → option_map (λ ys. (xs ++ x ∷ []) ++ ys) r ≡ option_map (λ ys. xs ++ ys) (option_map (λ ys. x ∷ ys) r)
  each_next_of xs x None = refl
  each_next_of xs x (Some ys) = ap (λ zs. Some zs) (append_assoc xs (x ∷ []) ys)

  both_of : (x : X) (r : Option (List X)) → option_both (λ y ys. y ∷ ys) (Some x) r ≡ option_map (λ ys. x ∷ ys) r
  both_of x None = refl
  both_of x (Some ys) = refl

  -- one more was read
  pub each_next : (xs : List X) (e : Expression) (es : Expressions) (x : X) → read e ≡ Some x → each_from read (xs ++ x ∷ []) es ≡ each_from read xs (more e es)
  each_next xs e es x is = rw (is, both_of x (each read es)) (each_next_of xs x (each read es))

  -- one is nothing
  pub each_stop : (xs : List X) (e : Expression) (es : Expressions) → read e ≡ None → each_from read xs (more e es) ≡ None
  each_stop xs e es is = rw is refl

  -- all were read
  pub each_end : (xs : List X) → each_from read xs none ≡ Some xs
  each_end xs = ap (λ zs. Some zs) (append-nil xs)
