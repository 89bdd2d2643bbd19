-- What terms assume, one after the other, and that it is Boolean; and what becomes of the assertion stack.
use Rattle.std.proofs.Common.{◌≡◌, ◌∙◌, ℕ, List, [], ◌∷◌, All, Result, Ok, Err, IfOk, OnOk, OnErr, refl, sym, ap, subst}
use Rattle.std.specs.Global.{Vec}
use Rattle.std.specs.Prelude.{IsErrOf}
use Rattle.std.proofs.lemmas.List.Elements.{All-nil, All-cons, All-head, All-tail, All-weaker}
use Rattle.ct_sexpr.specs.Expression.{Expression}
use Rattle.ct_sexpr.specs.Written.{written}
use Rattle.ct_sorts.specs.Consistent.{IsConsistent}
use Rattle.ct_sorts.specs.Declarations.{Declarations, bool_sort}
use Rattle.ct_sorts.specs.Grown.{Extends}
use Rattle.ct_formulas.specs.Formula.{Formula}
use Rattle.ct_formulas.specs.FormulaSorts.{IsSorted}
use Rattle.ct_formulas.specs.TreeFormula.{formula_of}
use Rattle.ct_formulas.specs.declared.tree.Tree.{Tree}
use Rattle.ct_names.specs.Needs.{Grows, ComesTo}
use Rattle.ct_names.specs.Outcome.{Elaborated, and_then}
use Rattle.ct_names.specs.Refusals.{wrong_sort}
use Rattle.ct_command.specs.declared.error.CommandError.{CommandError}
use Rattle.ct_command.specs.declared.error.CommandError.TheVariants.{Refused}
use Rattle.ct_stack.specs.declared.assuming.Assumption.{Assumption as Assumed}
use Rattle.ct_stack.specs.Assuming.{Assumption, assumption_of, assumptions, assumed_formulas, assumption_seen, assumptions_seen, list_seen, Assumes, RefusesToAssume, IsTruth}
use Rattle.ct_stack.specs.Elaborations.{boolean_formula}
use Rattle.ct_stack.specs.Levels.{pushed}
use Rattle.ct_stack.specs.Stack.{Stack, declaring}
use Rattle.ct_stack.specs.Theorems.{Theorems}
use Rattle.ct_stack.proofs.AssertionLemmas.{boolean_lasts}
use Rattle.ct_stack.proofs.NeededLemmas.{comes_stop, comes_last, comes_grows, value_there}

-- what a term assumes, by its formula
module _ (t : Expression) (d later : Declarations) where
  abbrev formula_in : Declarations → Elaborated Formula
  formula_in n = boolean_formula wrong_sort n t

  abbrev assumed_by : Declarations → Formula → Elaborated Assumption
  assumed_by n formula = Ok (record { text = written t; formula = formula })

  pub no_assumption : (n : ℕ) → ComesTo formula_in d later (Err n) → ComesTo (λ k. assumption_of k t) d later (Err n)
  no_assumption n h = comes_stop formula_in assumed_by d later n h

  module _ (formula : Formula) (text : List ℕ) (is : text ≡ written t) (h : ComesTo formula_in d later (Ok formula)) where
    abbrev given : Assumption
    given = record { text = text; formula = formula }

    as_written : {E : Type 0} → ◌≡◌ {A = Result Assumption E} (Ok (record { text = written t; formula = formula })) (Ok given)
    as_written = ap (λ (x : List ℕ). Ok (record { text = x; formula = formula })) (sym is)

    pub an_assumption : ComesTo (λ k. assumption_of k t) d later (Ok given)
    an_assumption = comes_last formula_in assumed_by d later formula h given as_written

    pub assumption_lasts : IsConsistent later → (n : Declarations) → Grows n later → assumption_of n t ≡ Ok given
    assumption_lasts c n grows =
        ap (λ (o : Elaborated Formula). and_then o (assumed_by n)) (boolean_lasts wrong_sort t n later grows c formula (value_there formula_in d later formula h))
        ∙ as_written

module _ (d : Declarations) where
  -- the formulas of assumptions are Boolean
  pub truths_sorted : (assumed : List Assumed) → All (IsTruth d) assumed → All (λ t. IsSorted d [] t bool_sort) (assumed_formulas (assumptions_seen assumed))
  truths_sorted [] all = All-nil (λ t. IsSorted d [] t bool_sort)
  truths_sorted (a ∷ assumed) all =
      All-cons (λ t. IsSorted d [] t bool_sort) (formula_of a.tree) (assumed_formulas (assumptions_seen assumed)) (All-head (IsTruth d) a assumed all) (truths_sorted assumed (All-tail (IsTruth d) a assumed all))

  -- and so are the assumptions
  pub truths_seen : (assumed : List Assumed) → All (IsTruth d) assumed → All (λ (a : Assumption). IsSorted d [] a.formula bool_sort) (assumptions_seen assumed)
  truths_seen [] all = All-nil (λ (a : Assumption). IsSorted d [] a.formula bool_sort)
  truths_seen (a ∷ assumed) all =
      All-cons (λ (x : Assumption). IsSorted d [] x.formula bool_sort) (assumption_seen a) (assumptions_seen assumed) (All-head (IsTruth d) a assumed all) (truths_seen assumed (All-tail (IsTruth d) a assumed all))

-- as more is declared
pub truths_last : Theorems → (later earlier : Declarations) → IsConsistent later → IsConsistent earlier → Extends later earlier → (assumed : List Assumed) → All (IsTruth earlier) assumed → All (IsTruth later) assumed
truths_last theorems later earlier consistent before extends assumed all =
    All-weaker (IsTruth earlier) (IsTruth later) (λ a h. theorems.sorted_lasting later earlier [] (formula_of a.tree) bool_sort consistent before extends h) assumed all

-- a value that is given stays where nothing was cut back
pub back_value : {T : Type 0} (q r : Result T CommandError) → q ≡ r → (holds : Declarations → T → Type 0) (new mid : Declarations) → IfOk r (holds mid) → OnOk r (new ≡ mid) → IfOk q (holds new)
back_value {T} q r same holds new mid given kept = subst (λ (x : Result T CommandError). IfOk x (holds new)) (sym same) (by r given kept)
  where
    by : (x : Result T CommandError) → IfOk x (holds mid) → OnOk x (new ≡ mid) → IfOk x (holds new)
    by (Ok t) given kept = subst (λ (n : Declarations). holds n t) (sym kept) given
    by (Err e) given kept = tt

-- what the assumptions need was added
pub assumed_grows : (ts : List Expression) (d later : Declarations) (r : Result (Vec Assumed) CommandError) → IfOk r (λ assumed. ComesTo (λ n. assumptions n ts) d later (Ok (list_seen assumed))) → OnOk r (Grows later d)
assumed_grows ts d later (Ok assumed) comes = comes_grows (λ n. assumptions n ts) d later (Ok (list_seen assumed)) comes
assumed_grows ts d later (Err e) comes = tt

-- on the stack whose declarations these are
module _ (ts : List Expression) (s new : Stack) (d later : Declarations) (is : d ≡ s.top.context.declarations) where
  pub assumes : (r : Result (Vec Assumed) CommandError) → IfOk r (λ assumed. ComesTo (λ n. assumptions n ts) d later (Ok (list_seen assumed))) → OnOk r (new ≡ declaring s later) → IfOk r (λ assumed. Assumes s ts s new (list_seen assumed))
  assumes (Ok assumed) comes declared =
      record { later = later; comes = subst (λ (n : Declarations). ComesTo (λ n. assumptions n ts) n later (Ok (list_seen assumed))) is comes; stack_is = declared }
  assumes (Err e) comes declared = tt

-- on a level more the same can be named
module _ (ts : List Expression) (s mid : Stack) (is : mid ≡ pushed s) where
  pub assumes_pushed : (new : Stack) (assumed : List Assumption) → Assumes mid ts mid new assumed → Assumes s ts (pushed s) new assumed
  assumes_pushed new assumed a =
      let own : Assumes (pushed s) ts (pushed s) new assumed = subst (λ (m : Stack). Assumes m ts m new assumed) is a in
      record { later = own.later; comes = own.comes; stack_is = own.stack_is }

  pub refuses_pushed : (n : ℕ) → RefusesToAssume mid ts n → RefusesToAssume s ts n
  refuses_pushed n h = subst (λ (m : Stack). RefusesToAssume m ts n) is h
