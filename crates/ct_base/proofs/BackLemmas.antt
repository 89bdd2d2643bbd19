-- A base that is taken back to a stage of roots that are the first of some assertions.
use Rattle.std.proofs.Common.{◌≡◌, ℕ, zero, suc, ◌<◌, ◌≤◌, List, [], ◌∷◌, ◌++◌, length, take, drop, Contains, refl, sym, ap, subst, ◌∙◌, arith}
use Rattle.std.proofs.lemmas.List.{length-take-le, take-append-drop}
use Rattle.ct_sorts.specs.Declarations.{Declarations}
use Rattle.ct_sorts.specs.Grown.{Begins}
use Rattle.ct_terms.specs.declared.ids.TermId.{TermId}
use Rattle.ct_terms.specs.Terms.{Terms, AreOrdered, BeginsWithTruths, truth_terms}
use Rattle.ct_terms.specs.CoreTree.{tree_below, term_at}
use Rattle.ct_closure.specs.Closed.{truth_trees}
use Rattle.ct_closure.specs.ClosedTable.{terms_at}
use Rattle.ct_base.specs.declared.stage.Stage.{Stage}
use Rattle.ct_base.specs.Base.{AreStages}
use Rattle.ct_base.specs.Cutting.{top_terms, top_closed, top_roots}
use Rattle.ct_base.proofs.RootLemmas.{fewer, trees_longer}
use Rattle.ct_base.proofs.StageLemmas.{top_booleans}

-- the number as that of a term
abbrev id : ℕ → TermId
id k = record { 0 = k }

-- `true` and `false` stand for their trees
truth_tree : (k : ℕ) → k < 2 → Contains truth_trees (term_at truth_terms (id k))
unfolding tree_below
truth_tree zero within = (0, omega arith, refl)
truth_tree (suc zero) within = (1, omega arith, refl)
truth_tree (suc (suc k)) within = absurd (omega (arith, within))

-- what is not closed is `true` or `false`
pub open_rest : (d : Declarations) (table : Terms) (roots split : List TermId) (stages : List Stage) → BeginsWithTruths table → AreStages d table roots split stages
    → (u : TermId) → top_closed stages ≤ u.0 → u.0 < length (take (top_terms stages) table) → Contains truth_trees (term_at (take (top_terms stages) table) u)
open_rest d table roots split [] begins are u past within =
    let low : u.0 < 2 = omega (arith, within, ap (λ (ts : Terms). length ts) begins) in
    subst (λ (ts : Terms). Contains truth_trees (term_at ts u)) (sym begins) (truth_tree u.0 low)
open_rest d table roots split (s ∷ stages) begins are u past within =
    let long : length (take s.terms table) ≡ s.terms = length-take-le s.terms table are.0.terms in
    absurd (omega (arith, past, within, long))

-- the roots that are left are the first assertions
pub roots_left : (d : Declarations) (table from : Terms) (roots asserts split : List TermId) (stages : List Stage) (common : ℕ)
    → ((t more : Terms) (u : TermId) → AreOrdered (t ++ more) → u.0 < length t → term_at (t ++ more) u ≡ term_at t u) → AreOrdered table
    → AreStages d table roots split stages → top_roots stages ≤ common → common ≤ length roots → terms_at table (take common roots) ≡ terms_at from (take common asserts)
    → terms_at (take (top_terms stages) table) (take (top_roots stages) roots) ≡ terms_at from (take (length (take (top_roots stages) roots)) asserts)
roots_left d table from roots asserts split stages common theorem ordered are low within same =
    let first = take (top_terms stages) table in
    let ids = take (top_roots stages) roots in
    let grown : Begins first table = (drop (top_terms stages) table, sym (take-append-drop (top_terms stages) table)) in
    let long : length ids ≡ top_roots stages = length-take-le (top_roots stages) roots (omega (arith, low, within)) in
    sym (trees_longer theorem first table ids grown ordered (top_booleans d table roots split stages are))
    ∙ fewer table from roots asserts (top_roots stages) common low same
    ∙ ap (λ (k : ℕ). terms_at from (take k asserts)) (sym long)
