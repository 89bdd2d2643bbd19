-- Terms beside their values, from their parts.
use Rattle.std.proofs.Common.{◌≡◌, ℕ, ◌+◌, ◌<◌, List, [], ◌∷◌, ◌++◌, length, get_or, refl, ap, subst, ◌∙◌, arith, append_assoc, append-nil}
use Rattle.std.specs.List.{AllZip, range_with_len}
use Rattle.std.proofs.lemmas.Option.{slice_get-get_or, slice_get_read}
use Rattle.ct_sorts.specs.Declarations.{Declarations}
use Rattle.ct_sexpr.specs.declared.sexpr.Sexpr.{Sexpr}
use Rattle.ct_sexpr.specs.View.{expression_of}
use Rattle.ct_sexpr.specs.Written.{written}
use Rattle.ct_values.specs.declared.node.NodeId.{NodeId}
use Rattle.ct_values.specs.Graph.{Nodes}
use Rattle.ct_value_text.specs.Separation.{gap}
use Rattle.ct_value_text.specs.ValueText.{IsValueText}
use Rattle.ct_model.specs.Listed.{joined, listed}
use Rattle.ct_model.specs.PairsText.{IsPairText, IsPairAt, IsPairsText}
use Rattle.ct_model.proofs.ListLemmas.{AreWritten, one_more_number}
use Rattle.ct_model.proofs.WrittenLemmas.{joined-push}

-- one pair
pub pair-parts : (d : Declarations) (g : Nodes) (expr : Sexpr) (node : NodeId) (old begun named spaced valued new : List ℕ)
    → begun ≡ old ++ 40 ∷ [] → named ≡ begun ++ written (expression_of expr) → spaced ≡ named ++ 32 ∷ []
    → (text : List ℕ) × IsValueText d g node text × (valued ≡ spaced ++ text) → new ≡ valued ++ 41 ∷ []
    → (text : List ℕ) × IsPairText d g expr node text × (new ≡ old ++ text)
pair-parts d g expr node old begun named spaced valued new p q r value s = (
  listed (written (expression_of expr) ∷ (value.0 ∷ [])),
  record { value = value.0; value_is = value.1; text_is = refl },
  s
      ∙ ap (λ w. w ++ 41 ∷ []) (value.2 ∙ ap (λ w. w ++ value.0) (r ∙ ap (λ w. w ++ 32 ∷ []) (q ∙ ap (λ w. w ++ written (expression_of expr)) p)))
      ∙ simp (append_assoc, append-nil),
)

module _ (d : Declarations) (g : Nodes) (exprs : List Sexpr) (nodes : List NodeId) (one_each : length exprs ≡ length nodes) where
  -- one pair more
  pub pairs-more : (i : ℕ) (expr : Sexpr) (z : NodeId) (old now gapped new : List ℕ) → i < length exprs → expr ≡ get_or exprs i expr
      → AreWritten (IsPairAt d g exprs nodes) joined (range_with_len 0 i) old now → gapped ≡ now ++ gap i
      → (text : List ℕ) × IsPairText d g expr (get_or nodes i z) text × (new ≡ gapped ++ text)
      → AreWritten (IsPairAt d g exprs nodes) joined (range_with_len 0 (i + 1)) old new
  pairs-more i expr z old now gapped new within read before p pair =
      one_more_number (IsPairAt d g exprs nodes) joined (λ n t. gap n ++ t) joined-push i old now new before (
        pair.0,
        record {
          expr = expr;
          at_expr = slice_get_read exprs (length exprs) i expr refl within read;
          node = get_or nodes i z;
          at_node = slice_get-get_or nodes i z (omega (arith, one_each));
          pair = pair.1;
        },
        pair.2 ∙ ap (λ w. w ++ pair.0) p ∙ append_assoc now (gap i) pair.0,
      )

  -- all pairs
  pub pairs-all : (i : ℕ) (empty begun now new : List ℕ) → i ≡ length exprs → empty ≡ [] → begun ≡ empty ++ 40 ∷ []
      → AreWritten (IsPairAt d g exprs nodes) joined (range_with_len 0 i) begun now → new ≡ now ++ 41 ∷ []
      → IsPairsText d g exprs nodes new
  pairs-all i empty begun now new all o p pairs q = record {
    texts = pairs.0;
    pairs_are = subst (λ n. AllZip (IsPairAt d g exprs nodes) (range_with_len 0 n) pairs.0) all pairs.1;
    text_is = q ∙ ap (λ w. w ++ 41 ∷ []) (pairs.2 ∙ ap (λ w. w ++ joined pairs.0) (p ∙ ap (λ w. w ++ 40 ∷ []) o));
  }
