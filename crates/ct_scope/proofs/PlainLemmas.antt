-- Operators: the terms under one are its operands, and subterms of its core term.
use Rattle.std.proofs.Common.{◌≡◌, ℕ, ◌<◌, true, List, length, refl, sym, arith, true≢false}
use Rattle.ct_sorts.specs.declared.ids.SortId.{SortId}
use Rattle.ct_sorts.specs.Declarations.{Declarations, bool_sort}
use Rattle.ct_terms.specs.Terms.{Terms}
use Rattle.ct_terms.specs.CoreTree.{CoreTree}
use Rattle.ct_terms.specs.CoreSorts.{HasTreeSort}
use Rattle.ct_formulas.specs.Formula.{Formula, Formulas, Var, Con, Sel, Test, Apply, Def, Not, And, Or, Xor, Implies, Equal, Distinct, Ite, Let, Match, Quantified, no_formulas, with_formula, AllMentionBelow}
use Rattle.ct_formulas.specs.FormulaSorts.{AreOfSort, HasFormula, AreAtLeastTwo}
use Rattle.ct_formulas.specs.Compiled.{compiled, compiled_all}
use Rattle.ct_scope.specs.declared.bound.Bound.{Bound}
use Rattle.ct_occurrence.specs.Plain.{is_plain, formulas_under}
use Rattle.ct_operators.specs.Forms.{operator_for, AllHaveSort, AreOperands}
use Rattle.ct_scope.specs.Compilable.{compiled_calls, IsCompilable}

module _ (d : Declarations) (bodies : List Formula) (table : Terms) (n : ℕ) (env : List Bound) (trees : List CoreTree) (sorts : List SortId) where
  abbrev core : Formula → CoreTree
  core t = compiled d (compiled_calls d bodies n) trees t

  pub whole_sorted : (t : Formula) (sort : SortId) → IsCompilable d bodies table n env t trees sorts sort → HasTreeSort d (core t) sort
  whole_sorted t sort h =
      let s = h.setting in
      s.kept.theorems.compiled_sorted d n (compiled_calls d bodies n) trees sorts t sort s.consistent (s.kept.theorems.calls_sorted d bodies n s.consistent s.sound) s.fitting h.mentions h.sorted

  all_sorted : (t : Formula) (sort : SortId) → IsCompilable d bodies table n env t trees sorts sort → (ts : Formulas) (side : SortId) → AllMentionBelow n ts → AreOfSort d sorts ts side → AllHaveSort d side (compiled_all d (compiled_calls d bodies n) trees ts)
  all_sorted t sort h no_formulas side mentions of = tt
  all_sorted t sort h (with_formula u us) side mentions of =
      let s = h.setting in (
        s.kept.theorems.compiled_sorted d n (compiled_calls d bodies n) trees sorts u side s.consistent (s.kept.theorems.calls_sorted d bodies n s.consistent s.sound) s.fitting mentions.0 of.0,
        all_sorted t sort h us side mentions.1 of.1,
      )

  some_trees : (ts : Formulas) → HasFormula ts → 0 < length (compiled_all d (compiled_calls d bodies n) trees ts)
  some_trees no_formulas h = absurd h
  some_trees (with_formula t ts) h = omega arith

  several_trees : (ts : Formulas) → AreAtLeastTwo ts → 1 < length (compiled_all d (compiled_calls d bodies n) trees ts)
  several_trees no_formulas h = absurd h
  several_trees (with_formula t ts) h = let k = some_trees ts h in omega arith

  pub operands_of : (t : Formula) (sort : SortId) → is_plain t ≡ true → IsCompilable d bodies table n env t trees sorts sort → AreOperands d (operator_for t) (compiled_all d (compiled_calls d bodies n) trees (formulas_under t))
  operands_of (Con c ts) sort plain h = (sort, whole_sorted (Con c ts) sort h)
  operands_of (Sel s t) sort plain h = (omega arith, (core t, refl, (sort, whole_sorted (Sel s t) sort h)))
  operands_of (Test c t) sort plain h = (omega arith, (core t, refl, (sort, whole_sorted (Test c t) sort h)))
  operands_of (Apply f ts) sort plain h = (sort, whole_sorted (Apply f ts) sort h)
  operands_of (Not t) sort plain h = (omega arith, (core t, refl, (whole_sorted (Not t) sort h).0))
  operands_of (And ts) sort plain h = (some_trees ts h.sorted.0, all_sorted (And ts) sort h ts bool_sort h.mentions h.sorted.1)
  operands_of (Or ts) sort plain h = (some_trees ts h.sorted.0, all_sorted (Or ts) sort h ts bool_sort h.mentions h.sorted.1)
  operands_of (Xor ts) sort plain h = (omega (arith, several_trees ts h.sorted.0), all_sorted (Xor ts) sort h ts bool_sort h.mentions h.sorted.1)
  operands_of (Implies ts) sort plain h = (omega (arith, several_trees ts h.sorted.0), all_sorted (Implies ts) sort h ts bool_sort h.mentions h.sorted.1)
  operands_of (Equal ts) sort plain h = (h.sorted.0, several_trees ts h.sorted.1, all_sorted (Equal ts) sort h ts h.sorted.0 h.mentions h.sorted.2)
  operands_of (Distinct ts) sort plain h = (h.sorted.0, several_trees ts h.sorted.1, all_sorted (Distinct ts) sort h ts h.sorted.0 h.mentions h.sorted.2)
  operands_of (Var i) sort plain h = absurd (true≢false (sym plain))
  operands_of (Def k ts) sort plain h = absurd (true≢false (sym plain))
  operands_of (Ite c t u) sort plain h = absurd (true≢false (sym plain))
  operands_of (Let ts u) sort plain h = absurd (true≢false (sym plain))
  operands_of (Match t cases) sort plain h = absurd (true≢false (sym plain))
  operands_of (Quantified q bound t) sort plain h = absurd (true≢false (sym plain))

-- ---- subterms
