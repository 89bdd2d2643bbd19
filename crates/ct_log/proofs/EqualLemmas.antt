-- The derived tests tell whether two things are equal.
use Rattle.std.proofs.Common.{◌≡◌, ℕ, Bool, nat_eq, List, Decides, ap, ◌∙◌}
use Rattle.std.specs.Cmp.{booleans_Decides}
use Rattle.std.proofs.lemmas.Bool.Decides.{Decides-and, Decides-eqb}
use Rattle.ct_terms.specs.declared.ids.Lit.{Lit}
use Rattle.ct_terms.specs.contracts.ids.LitPartialEq.TheImpl as lit_test
use lib.Pointwise.{pointwise, pointwise_decides}

-- two literals
pub Decides-lit : (a b : Lit) → Decides (lit_test.eq-value.it a b) (a ≡ b)
Decides-lit a b =
    let both = Decides-and (nat_eq a.term.0 b.term.0) _ (Decides-eqb a.term.0 b.term.0) (booleans_Decides a.positive b.positive) in
    let of : ℕ → Bool → Lit = λ n s. record { term = record { 0 = n }; positive = s } in
    (λ h. ap (λ n. of n a.positive) (both.0 h).0 ∙ ap (λ s. of b.term.0 s) (both.0 h).1, λ e. both.1 (cc, cc))

-- two lists of literals
pub Decides-lits : (xs ys : List Lit) → Decides (pointwise lit_test.eq-value.it xs ys) (xs ≡ ys)
Decides-lits = pointwise_decides Decides-lit
