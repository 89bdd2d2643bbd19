-- What takes arguments of stated sorts: symbols, testers and connectives.
use Rattle.std.specs.Prelude.{ℕ, List, [], ◌∷◌, replicate, Ok}
use Rattle.ct_sorts.specs.declared.ids.SortId.{SortId}
use Rattle.ct_sorts.specs.declared.ids.CtorId.{CtorId}
use Rattle.ct_sorts.specs.Declarations.{Declarations, IsConstructor, bool_sort}
use Rattle.ct_sorts.specs.Lookup.{IsSymbol}
use Rattle.ct_formulas.specs.Formula as formula
use Rattle.ct_formulas.specs.Formula.{Formula, Formulas, no_formulas, with_formula}
use Rattle.ct_check.specs.declared.callees.Callee.{Callee}
use Rattle.ct_check.specs.declared.callees.Callee.TheVariants.{Symbol, Tester, Connective}
use Rattle.ct_names.specs.Outcome.{Elaborated, Sorted, and_then}
use Rattle.ct_names.specs.Symbols.{argument_sorts, result_sort, symbol_applied, ctor_sort}
use Rattle.ct_names.specs.Variables.{Variable}
use Rattle.ct_names.specs.Parts.{Parts, count}
use Rattle.ct_names.specs.Elaboration.{arguments, connected}

-- the sorts of its arguments, where there are so many
abbrev pub callee_sorts : Declarations → Callee → ℕ → List SortId
callee_sorts d (Symbol s) n = argument_sorts d s
callee_sorts d (Tester c) n = ctor_sort d c ∷ []
callee_sorts d (Connective o) n = replicate n bool_sort

-- the sort of what it gives
abbrev pub callee_result : Declarations → Callee → SortId
callee_result d (Symbol s) = result_sort d s
callee_result d (Tester c) = bool_sort
callee_result d (Connective o) = bool_sort

-- a test of the first of the formulas, which is the only one
abbrev pub tester_formula : CtorId → Formulas → Formula
tester_formula c no_formulas = formula.And no_formulas
tester_formula c (with_formula t ts) = formula.Test c t

-- its formula with arguments
abbrev pub callee_formula : Callee → Formulas → Formula
callee_formula (Symbol s) ts = symbol_applied s ts
callee_formula (Tester c) ts = tester_formula c ts
callee_formula (Connective o) ts = connected o ts

-- it with these arguments
abbrev pub called : Declarations → List Variable → Callee → Parts → Elaborated Sorted
called d scope f ps = and_then (arguments d scope (callee_sorts d f (count ps)) ps) (λ ts. Ok (callee_formula f ts, callee_result d f))

-- it is declared
abbrev pub IsCallee : Declarations → Callee → Type 0
IsCallee d (Symbol s) = IsSymbol d s
IsCallee d (Tester c) = IsConstructor d c
IsCallee d (Connective o) = Unit {0}
