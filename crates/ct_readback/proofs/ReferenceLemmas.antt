-- References read from the first on.
use Rattle.std.proofs.Common.{◌≡◌, ℕ, List, [], ◌∷◌, ◌++◌, Option, Some, None, option_map, refl, ap, append_assoc, append-nil, codes}
use Rattle.ct_sexpr.specs.Expression.{Expression, Expressions, none, more}
use Rattle.ct_values.specs.declared.node.NodeId.{NodeId}
use Rattle.ct_readback.specs.Words.{numbered}
use Rattle.ct_readback.specs.Parts.{option_both}
use Rattle.ct_readback.specs.GraphText.{references_in}

-- what is read where these were read before
abbrev pub references_from : List NodeId → Expressions → Option (List NodeId)
references_from ns es = option_map (λ ys. ns ++ ys) (references_in es)

start_of : (r : Option (List NodeId)) → option_map (λ ys. [] ++ ys) r ≡ r
start_of None = refl
start_of (Some ys) = refl

pub references_start : (es : Expressions) → references_from [] es ≡ references_in es
references_start es = start_of (references_in es)

next_of : (ns : List NodeId) (n : NodeId) (r : Option (List NodeId)) → option_map (λ ys. (ns ++ n ∷ []) ++ ys) r ≡ option_map (λ ys. ns ++ ys) (option_map (λ ys. n ∷ ys) r)
next_of ns n None = refl
next_of ns n (Some ys) = ap (λ zs. Some zs) (append_assoc ns (n ∷ []) ys)

both_of : (n : NodeId) (r : Option (List NodeId)) → option_both (λ y ys. y ∷ ys) (Some n) r ≡ option_map (λ ys. n ∷ ys) r
both_of n None = refl
both_of n (Some ys) = refl

-- one more was read
pub references_next : (ns : List NodeId) (e : Expression) (es : Expressions) (n : ℕ) → numbered (codes "@") e ≡ Some n → references_from (ns ++ record { 0 = n } ∷ []) es ≡ references_from ns (more e es)
references_next ns e es n is = rw (is, both_of (record { 0 = n }) (references_in es)) (next_of ns (record { 0 = n }) (references_in es))

-- one is nothing
pub references_stop : (ns : List NodeId) (e : Expression) (es : Expressions) → numbered (codes "@") e ≡ None → references_from ns (more e es) ≡ None
references_stop ns e es is = rw is refl

-- all were read
pub references_end : (ns : List NodeId) → references_from ns none ≡ Some ns
references_end ns = ap (λ zs. Some zs) (append-nil ns)
