-- The test of a row, as one equation or several.
use Rattle.std.proofs.Common.{◌≡◌, ℕ, Bool, true, false, ◌==◌, List, [], ◌∷◌, length, get_or, None, Some, MatchBool, refl, sym, ap, subst, ◌∙◌, codes, arith}
use Rattle.std.proofs.lemmas.Option.{none-some, same_Some}
use Rattle.std.proofs.lemmas.Bool.Decides.{Decides-eqb}
use Rattle.ct_sorts.specs.declared.ids.SortId.{SortId}
use Rattle.ct_sorts.specs.Declarations.{Declarations}
use Rattle.ct_sexpr.specs.Expression.{Expression, Expressions, none, more}
use Rattle.ct_values.specs.declared.node.NodeId.{NodeId}
use Rattle.ct_values.specs.Graph.{Nodes}
use Rattle.ct_values.specs.Agreement.{Point}
use Rattle.ct_readback.specs.declared.item.Part.{Part}
use Rattle.ct_readback.specs.declared.item.Part.TheVariants as parts
use Rattle.ct_readback.specs.Parts.{only_if, count, parts_after}
use Rattle.ct_readback.specs.Rows.{conjuncts}
use Rattle.ct_readback.specs.ItemAt.{IsTestAt, AreEquationsAt, AreConjunctsAt}
use Rattle.ct_readback.specs.Said.{IsPart, AreNodesFor, all_points}
use Rattle.ct_readback.proofs.ApplicationLemmas.{then_some}

-- what a part says in other words
pub IsPart-map : {X T : Type 0} (d : Declarations) (P Q : X → Type 0) (points : X → List Point) (IsFor : X → T → Type 0) (part : Part T) → ((x : X) → P x → Q x) → ((x : X) → Q x → P x) → IsPart d P points IsFor part → IsPart d Q points IsFor part
IsPart-map d P Q points IsFor parts.Misfit to from h = λ x q. h x (from x q)
IsPart-map d P Q points IsFor parts.Cycle to from (x, h, cycle) = (x, to x h, cycle)
IsPart-map d P Q points IsFor (parts.Fine t) to from (x, h, never, is) = (x, to x h, never, is)

-- one argument
pub test_single : (d : Declarations) (g : Nodes) (s : SortId) (sorts : List SortId) (test : Expression) (part : Part (List NodeId)) → sorts ≡ s ∷ []
    → IsPart d (AreEquationsAt d 0 (s ∷ []) (more test none)) all_points (AreNodesFor d g (s ∷ [])) part → IsPart d (IsTestAt d sorts test) all_points (AreNodesFor d g sorts) part
test_single d g s sorts test part same h =
    subst (λ (ss : List SortId). IsPart d (IsTestAt d ss test) all_points (AreNodesFor d g ss) part) (sym same)
    (IsPart-map d (AreEquationsAt d 0 (s ∷ []) (more test none)) (IsTestAt d (s ∷ []) test) all_points (AreNodesFor d g (s ∷ [])) part (λ x k. k) (λ x k. k) h)

-- several arguments, or none
split_test : (d : Declarations) (sorts : List SortId) (test : Expression) (values : List Point) → (length sorts == 1) ≡ false → IsTestAt d sorts test values → AreConjunctsAt d sorts test values
split_test d sorts test values is h = subst (λ (b : Bool). MatchBool b (AreEquationsAt d 0 sorts (more test none) values) (AreConjunctsAt d sorts test values)) is h

join_test : (d : Declarations) (sorts : List SortId) (test : Expression) (values : List Point) → (length sorts == 1) ≡ false → AreConjunctsAt d sorts test values → IsTestAt d sorts test values
join_test d sorts test values is h = subst (λ (b : Bool). MatchBool b (AreEquationsAt d 0 sorts (more test none) values) (AreConjunctsAt d sorts test values)) (sym is) h

pub test_unlisted : (d : Declarations) (g : Nodes) (sorts : List SortId) (test : Expression) → (length sorts == 1) ≡ false → conjuncts (length sorts) test ≡ None
    → IsPart d (IsTestAt d sorts test) all_points (AreNodesFor d g sorts) parts.Misfit
test_unlisted d g sorts test is nothing = λ values says.
    let all = split_test d sorts test values is says in
    none-some all.equations (sym nothing ∙ all.written)

pub test_listed : (d : Declarations) (g : Nodes) (sorts : List SortId) (test : Expression) (equations : Expressions) (part : Part (List NodeId)) → (length sorts == 1) ≡ false → conjuncts (length sorts) test ≡ Some equations
    → IsPart d (AreEquationsAt d 0 sorts equations) all_points (AreNodesFor d g sorts) part → IsPart d (IsTestAt d sorts test) all_points (AreNodesFor d g sorts) part
test_listed d g sorts test equations part is at h =
    IsPart-map d (AreEquationsAt d 0 sorts equations) (IsTestAt d sorts test) all_points (AreNodesFor d g sorts) part
    (λ values says. join_test d sorts test values is (record { equations = equations; written = at; said = says }))
    (λ values says.
    let all = split_test d sorts test values is says in
    let same : all.equations ≡ equations = same_Some all.equations equations (sym all.written ∙ at) in
    subst (λ (es : Expressions). AreEquationsAt d 0 sorts es values) same all.said)
    h

-- ---- counts

pub other_than_one : (n : ℕ) → (n ≡ 1 → ⊥) → (n == 1) ≡ false
other_than_one n never = by (n == 1) refl
  where
    by : (b : Bool) → (n == 1) ≡ b → b ≡ false
    by true e = absurd (never ((Decides-eqb n 1).0 e))
    by false e = refl

pub only_one : (sorts : List SortId) (z : SortId) → length sorts ≡ 1 → sorts ≡ get_or sorts 0 z ∷ []
only_one [] z e = absurd (omega (arith, e))
only_one (s ∷ []) z e = refl
only_one (s ∷ (t ∷ sorts)) z e = absurd (omega (arith, e))

only_counted : (n : ℕ) (b : Bool) (es found : Expressions) → (count es == n) ≡ b → only_if b es ≡ Some found → count found ≡ n
only_counted n true es found e h = ap count (sym (same_Some es found h)) ∙ (Decides-eqb (count es) n).0 e
only_counted n false es found e h = absurd (none-some found h)

pub conjuncts_count : (n : ℕ) (test : Expression) (found : Expressions) → conjuncts n test ≡ Some found → count found ≡ n
conjuncts_count n test found h =
    let all = then_some (λ (es : Expressions). only_if (count es == n) es) (parts_after (codes "and") test) found h in
    only_counted n (count all.0 == n) all.0 found refl all.2
