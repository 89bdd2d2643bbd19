-- What a term means in an interpretation (SMT-LIB 2.7, section 5.3), by recursion on its number: arguments have smaller ones.
use Rattle.std.specs.Prelude.{ℕ, zero, suc, Bool, false, not, List, [], ◌∷◌, map, Option, Some, None, slice_get, unwrap_or, if◌then◌else◌}
use Rattle.std.specs.List.{list_all, list_any}
use Rattle.ct_sorts.specs.declared.ids.SelId.{SelId}
use Rattle.ct_sorts.specs.declared.ids.SortId.{SortId}
use Rattle.ct_sorts.specs.Declarations.{Declarations, Selector}
use Rattle.ct_values.specs.Graph.{Nodes}
use Rattle.ct_values.specs.Value.{Value, reference, construct, values_of}
use Rattle.ct_values.specs.Agreement.{point, same, children_of}
use Rattle.ct_values.specs.TruthValue.{truth, is_built, is_true}
use Rattle.ct_terms.specs.declared.ids.TermId.{TermId}
use Rattle.ct_terms.specs.declared.term.Core.{Core}
use Rattle.ct_terms.specs.declared.term.Core.TheVariants.{Con, Sel, Test, Apply, Eq, Not, And, Or, Iff, Ite}
use Rattle.ct_terms.specs.Terms.{Terms}
use Rattle.ct_eval.specs.declared.interp.Interp.{Interp}
use Rattle.ct_eval.specs.declared.interp.Table.{Table}
use Rattle.ct_eval.specs.LookUp.{look_up}

-- the values are equal
abbrev pub is_same : Nodes → Value → Value → Bool
is_same g v w = same (point g v) (point g w)

-- what a table gives for arguments, as a value; every function and every selector has a table
abbrev pub table_value : Interp → Option Table → List Value → Value
table_value i None values = truth false
table_value i (Some table) values = reference (look_up i.graph table values)

-- the value of a selector: the child at its place where the value is built by its constructor, and else what its table gives
abbrev pub select : Interp → SelId → Option Selector → Value → Value
select i s None v = v
select i s (Some selector) v = if is_built i.graph selector.ctor v then unwrap_or (slice_get (children_of i.graph v) selector.place) v else table_value i (slice_get i.offs s.0) (v ∷ [])

-- one layer of a term, over the values of the terms under it
abbrev pub core_value : Declarations → Interp → (TermId → Value) → Core → Value
core_value d i value (Con c args) = construct c (values_of (map value args))
core_value d i value (Sel s t) = select i s (slice_get d.sels s.0) (value t)
core_value d i value (Test c t) = truth (is_built i.graph c (value t))
core_value d i value (Apply f args) = table_value i (slice_get i.funs f.0) (map value args)
core_value d i value (Eq a b) = truth (is_same i.graph (value a) (value b))
core_value d i value (Not t) = truth (not (is_true i.graph (value t)))
core_value d i value (And args) = truth (list_all (λ t. is_true i.graph (value t)) args)
core_value d i value (Or args) = truth (list_any (λ t. is_true i.graph (value t)) args)
core_value d i value (Iff a b) = truth (if is_true i.graph (value a) then is_true i.graph (value b) else not (is_true i.graph (value b)))
core_value d i value (Ite c a b) = if is_true i.graph (value c) then value a else value b

-- one layer of what stands at a number, where something does
abbrev pub layer : Declarations → Interp → (TermId → Value) → Option (Core × SortId) → Value
layer d i value None = truth false
layer d i value (Some (core, s)) = core_value d i value core

-- the value of a term whose number is below the bound; the terms under it have smaller numbers
unfoldable pub value_below : ℕ → Declarations → Interp → Terms → TermId → Value
value_below zero d i terms t = truth false
value_below (suc n) d i terms t = layer d i (value_below n d i terms) (slice_get terms t.0)

-- the value of a term
abbrev pub value_of : Declarations → Interp → Terms → TermId → Value
value_of d i terms t = value_below (suc t.0) d i terms t
