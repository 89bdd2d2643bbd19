-- What core terms say in an interpretation of the assertions whose core terms they are.
use Rattle.std.proofs.Common.{◌≡◌, ℕ, zero, suc, List, [], ◌∷◌, take, All, true, refl}
use Rattle.std.specs.List.{AllZip}
use Rattle.std.proofs.lemmas.List.Elements.{All-take}
use Rattle.ct_lemmas.proofs.Each.{All-at, All-one}
use Rattle.ct_lemmas.proofs.Pairs.{AllZip-at_left}
use Rattle.ct_sorts.specs.Declarations.{bool_sort}
use Rattle.ct_sorts.specs.Consistent.{IsConsistent}
use Rattle.ct_terms.specs.declared.ids.TermId.{TermId}
use Rattle.ct_terms.specs.Terms.{Terms}
use Rattle.ct_terms.specs.CoreTree.{term_at}
use Rattle.ct_formulas.specs.Compiled.{core_of}
use Rattle.ct_formulas.specs.Formula.{Formula}
use Rattle.ct_formulas.specs.FormulaSorts.{IsSorted}
use Rattle.ct_eval.specs.declared.interp.Interp.{Interp}
use Rattle.ct_eval.specs.Interpretation.{IsProper}
use Rattle.ct_values.specs.TruthValue.{is_true}
use Rattle.ct_eval.specs.Truth.{Holds, truth_value}
use Rattle.ct_eval.specs.Truth.{IsFirstUntrue as IsFirstUntrueTerm}
use Rattle.ct_meaning.specs.Meaning.{AllTrue, eval}
use Rattle.ct_stack.specs.Stack.{Context}
use Rattle.ct_stack.specs.Held.{IsHeld}
use Rattle.ct_step.specs.Verdict.{Satisfies}
use Rattle.ct_audit.proofs.JudgeLemmas.{Assertions, zipped}
use Rattle.ct_model_audit.specs.ModelAudit.{IsFirstUntrue}

-- the first of two lists that are related element by element
AllZip-take : {X Y : Type 0} (R : X → Y → Type 0) (n : ℕ) (xs : List X) (ys : List Y) → AllZip R xs ys → AllZip R (take n xs) (take n ys)
AllZip-take R zero xs ys all = tt
AllZip-take R (suc n) [] [] all = tt
AllZip-take R (suc n) [] (y ∷ ys) all = absurd all
AllZip-take R (suc n) (x ∷ xs) [] all = absurd all
AllZip-take R (suc n) (x ∷ xs) (y ∷ ys) all = (all.0, AllZip-take R n xs ys all.1)

module _ (assertions : Assertions) (c : Context) (formulas : List Formula) (table : Terms) (numbers : List TermId) (i : Interp) (consistent : IsConsistent c.declarations) (held : IsHeld (record { context = c; assertions = formulas }) table numbers) (proper : IsProper c.declarations i) where
  abbrev IsCore : TermId → Formula → Type 0
  IsCore a t = term_at table a ≡ core_of c.declarations c.bodies [] t

  abbrev IsClosed : Formula → Type 0
  IsClosed t = IsSorted c.declarations [] t bool_sort

  abbrev IsTrueTerm : TermId → Type 0
  IsTrueTerm a = truth_value c.declarations i table a ≡ true

  abbrev IsTrueFormula : Formula → Type 0
  IsTrueFormula t = is_true i.graph (eval c.declarations i c.bodies [] t) ≡ true

  side_by_side : AllZip IsCore numbers formulas
  side_by_side = zipped c table numbers formulas held.in_table.stand

  -- core terms that are all true are those of assertions that are
  all_true : (ids : List TermId) (fs : List Formula) → All IsClosed fs → AllZip IsCore ids fs → Holds c.declarations i table ids → AllTrue c.declarations i c.bodies fs
  all_true ids fs closed zip holds = (assertions c.declarations i c.bodies table ids fs consistent proper held.sound.bodies closed zip).0 holds

  all_hold : (ids : List TermId) (fs : List Formula) → All IsClosed fs → AllZip IsCore ids fs → AllTrue c.declarations i c.bodies fs → Holds c.declarations i table ids
  all_hold ids fs closed zip true_all = (assertions c.declarations i c.bodies table ids fs consistent proper held.sound.bodies closed zip).1 true_all

  pub satisfied : Holds c.declarations i table numbers → Satisfies c formulas i
  satisfied holds = record { proper = proper; holds = all_true numbers formulas held.sound.asserts side_by_side holds }

  -- the first core term that is not true is that of the first assertion that is not
  pub first_untrue : (place : ℕ) → IsFirstUntrueTerm c.declarations i table numbers place → IsFirstUntrue c formulas i place
  first_untrue place first =
      let at = AllZip-at_left IsCore numbers formulas place first.assert side_by_side first.stands in
      let closed = All-at IsClosed formulas place at.0 held.sound.asserts at.1 in
      record {
        formula = at.0;
        stands = at.1;
        untrue = λ is. first.untrue
            (All-at IsTrueTerm (first.assert ∷ []) 0 first.assert
            (all_hold (first.assert ∷ []) (at.0 ∷ []) (All-one IsClosed at.0 closed) (at.2, tt) (All-one IsTrueFormula at.0 is)) refl);
        before = all_true (take place numbers) (take place formulas) (All-take IsClosed place formulas held.sound.asserts) (AllZip-take IsCore place numbers formulas side_by_side) first.before;
      }
