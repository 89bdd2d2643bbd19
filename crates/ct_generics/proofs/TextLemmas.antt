-- Counts of the lengths of texts.
use Rattle.std.proofs.Common.{◌≡◌, ℕ, ◌+◌, List, [], ◌∷◌, ◌++◌, length, Some, slice_get, refl, sym, subst, ◌∙◌, inl, inr, ⊎_elim, arith}
use Rattle.ct_lemmas.proofs.Lists.{slice_get-push_cases}
use Rattle.ct_lemmas.proofs.Numbers.{below_or_not}
use Rattle.ct_generics.specs.declared.nodes.ExprId.{ExprId}
use Rattle.ct_generics.specs.declared.nodes.Node.{Node}
use Rattle.ct_generics.specs.declared.nodes.Node.TheVariants.{Apply}
use Rattle.ct_generics.specs.Expression.{Expression}
use Rattle.ct_generics.specs.Declarations.{Head}
use Rattle.ct_generics.specs.Nodes.{Stands}
use Rattle.ct_generics.specs.Text.{text_length, parentheses, most_text}
use Rattle.ct_generics.specs.Lengths.{IsCount, AreCounts}
use Rattle.ct_generics.proofs.NodeLemmas.{Stands-apply}

-- a count of a count
pub IsCount-twice : (r n size : ℕ) → IsCount r n → IsCount n size → IsCount r size
IsCount-twice r n size outer inner =
    record {
      few = outer.few;
      exact = λ small. let e = inner.exact small in outer.exact (omega (arith, e, small)) ∙ e;
      over = λ big. outer.over (inner.over big);
    }

-- a sum of counts
pub IsCount-sum : (r p m k a b : ℕ) → IsCount m a → IsCount k b → IsCount r (m + p + 1 + k) → IsCount r (a + p + 1 + b)
IsCount-sum r p m k a b first second whole =
    record {
      few = whole.few;
      exact = λ small.
          let left = first.exact (omega (arith, small)) in
          let right = second.exact (omega (arith, small)) in
          whole.exact (omega (arith, left, right, small)) ∙ omega (arith, left, right);
      over = λ big. whole.over (⊎_elim (λ more. let m_big = first.over more in omega (arith, m_big)) (λ a_small. ⊎_elim (λ more. let k_big = second.over more in omega (arith, k_big)) (λ b_small. let left = first.exact a_small in let right = second.exact b_small in omega (arith, left, right, big)) (below_or_not most_text b)) (below_or_not most_text a));
    }

-- the count of an expression with an argument
pub IsCount-applied : (heads : List Head) (nodes : List Node) (counts : List ℕ) (n : ℕ) (m k : ExprId) (r function argument p : ℕ) (e : Expression) → ((size : ℕ) → ((n : ℕ) → slice_get counts m.0 ≡ Some n → IsCount n size) → IsCount function size) → ((size : ℕ) → ((n : ℕ) → slice_get counts k.0 ≡ Some n → IsCount n size) → IsCount argument size) → ((f : Expression) → Stands nodes m.0 f → p ≡ parentheses f) → IsCount r (function + p + 1 + argument) → AreCounts heads nodes counts → slice_get nodes n ≡ Some (Apply m k) → Stands nodes n e → IsCount r (text_length heads e)
IsCount-applied heads nodes counts n m k r function argument p e of_function of_argument around whole known at stands =
    let parts = Stands-apply nodes n m k e at stands in
    let f = parts.0 in
    let a = parts.1 in
    let first = of_function (text_length heads f) (λ n at_n. known m.0 n f at_n parts.3) in
    let second = of_argument (text_length heads a) (λ n at_n. known k.0 n a at_n parts.4) in
    let sum : IsCount r (text_length heads f + p + 1 + text_length heads a) = IsCount-sum r p function argument (text_length heads f) (text_length heads a) first second whole in
    subst (λ (x : Expression). IsCount r (text_length heads x)) (sym parts.2) (subst (λ (q : ℕ). IsCount r (text_length heads f + q + 1 + text_length heads a)) (around f parts.3) sum)

-- one count more
pub AreCounts-push : (heads : List Head) (nodes : List Node) (counts : List ℕ) (count : ℕ) → AreCounts heads nodes counts → ((e : Expression) → Stands nodes (length counts) e → IsCount count (text_length heads e)) → AreCounts heads nodes (counts ++ count ∷ [])
AreCounts-push heads nodes counts count known last k n e at stands =
    elim (slice_get-push_cases counts count n k at) [
      | inl before ↦ known k n e before stands
      | inr now ↦ subst (λ (x : ℕ). IsCount x (text_length heads e)) now.1 (last e (subst (λ j. Stands nodes j e) now.0 stands))
    ]

-- the count of one byte
pub IsCount-one : IsCount 1 1
IsCount-one = record { few = omega arith; exact = λ _. refl; over = λ big. absurd (omega (arith, big)) }
