-- What the formula of a term is that is to be Boolean, step by step, up to the first error; and that it stays.
use Rattle.std.proofs.Common.{◌≡◌, ℕ, Bool, true, false, [], refl, ap, subst, Ok, Err}
use Rattle.ct_sexpr.specs.Expression.{Expression}
use Rattle.ct_sorts.specs.declared.ids.SortId.{SortId}
use Rattle.ct_sorts.specs.Consistent.{IsConsistent}
use Rattle.ct_sorts.specs.Declarations.{Declarations, bool_sort}
use Rattle.ct_formulas.specs.Formula.{Formula}
use Rattle.ct_formulas.specs.FormulaSorts.{IsSorted}
use Rattle.ct_names.specs.Outcome.{Elaborated, Sorted, unless_halted, is_sort}
use Rattle.ct_names.specs.Needs.{Grows, ComesTo}
use Rattle.ct_names.specs.Elaboration.{elaborated}
use Rattle.ct_stack.specs.Elaborations.{boolean_formula}
use Rattle.ct_names.proofs.StayLemmas.{Any, stays_same, stays_then}
use Rattle.ct_names.proofs.StayPatterns.{IsIn}
use Rattle.ct_names.proofs.StayTerms.{elaborated_stays}
use Rattle.ct_stack.proofs.DefineLemmas.{same_sort}
use Rattle.ct_stack.proofs.NeededLemmas.{comes_stop, comes_last, comes_no_last}

module _ (number : ℕ) (t : Expression) (d later : Declarations) where
  abbrev term_in : Declarations → Elaborated Sorted
  term_in n = elaborated n [] t

  abbrev checked : Declarations → Sorted → Elaborated Formula
  checked n formula = unless_halted (is_sort formula.1 bool_sort) number (Ok formula.0)

  pub not_elaborated : (n : ℕ) → ComesTo term_in d later (Err n) → ComesTo (λ n. boolean_formula number n t) d later (Err n)
  not_elaborated n h = comes_stop term_in checked d later n h

  module _ (formula : Formula) (sort : SortId) (h : ComesTo term_in d later (Ok (formula, sort))) where
    pub other_sort : is_sort sort bool_sort ≡ false → ComesTo (λ n. boolean_formula number n t) d later (Err number)
    other_sort differs = comes_no_last term_in checked d later (formula, sort) h number (ap (λ (b : Bool). unless_halted b number (Ok formula)) differs)

    pub boolean : is_sort sort bool_sort ≡ true → ComesTo (λ n. boolean_formula number n t) d later (Ok formula)
    boolean same = comes_last term_in checked d later (formula, sort) h formula (ap (λ (b : Bool). unless_halted b number (Ok formula)) same)

pub boolean_sorted : (d : Declarations) (formula : Formula) (sort : SortId) → IsSorted d [] formula sort → is_sort sort bool_sort ≡ true → IsSorted d [] formula bool_sort
boolean_sorted d formula sort h e = subst (λ (s : SortId). IsSorted d [] formula s) (same_sort sort bool_sort e) h

-- the formula of a term stays where sorts are added
pub boolean_lasts : (number : ℕ) (t : Expression) (later d : Declarations) → Grows later d → IsConsistent d → (formula : Formula) → boolean_formula number d t ≡ Ok formula → boolean_formula number later t ≡ Ok formula
boolean_lasts number t later d grows c formula is =
    let checked_there : Sorted → Elaborated Formula = λ f. unless_halted (is_sort f.1 bool_sort) number (Ok f.0) in
    (stays_then (IsIn d) Any (elaborated d [] t) (elaborated later [] t) checked_there checked_there (elaborated_stays later d grows c [] tt t)
    (λ f _. stays_same Any (checked_there f) (checked_there f) refl (λ _ _. tt)) formula is).0
