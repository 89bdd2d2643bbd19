-- The head of a list that is a list: what it stands for stays where sorts were added.
use Rattle.std.proofs.Common.{ℕ, List, not, is_some, codes, Option, Some, None, Err, refl, sym, ap, subst}
use Rattle.ct_sexpr.specs.Expression.{Expression as Sexpr, Expressions as Sexprs, none, more}
use Rattle.ct_sorts.specs.Consistent.{IsConsistent}
use Rattle.ct_sorts.specs.Declarations.{Declarations, IsSort}
use Rattle.ct_sorts.specs.Lookup.{IsSymbol}
use Rattle.ct_instances.specs.Among.{IsNamedCtor}
use Rattle.ct_names.specs.Needs.{Grows}
use Rattle.ct_names.specs.Outcome.{step, refused}
use Rattle.ct_names.specs.Parts.{name_of}
use Rattle.ct_names.specs.Refusals.{unknown_symbol, out_of_scope}
use Rattle.ct_names.specs.Sorts.{sort_of_part}
use Rattle.ct_names.specs.Symbols.{symbol_of}
use Rattle.ct_names.specs.Variables.{Variable, find}
use Rattle.ct_names.specs.Elaboration.{part_of, parts_of, may_qualify, of_result, qualified_name, qualified_symbol, is_text_of_name, tested_name, tester}
use Rattle.ct_names.proofs.StayLemmas.{Stays, stays_err, stays_then, stays_step, stays_unless, stays_unless_refused, name_same}
use Rattle.ct_names.proofs.StayPatterns.{sort_part_stays, qualify_stays, of_result_stays, tested_name_stays}

module _ (later d : Declarations) (grows : Grows later d) (c : IsConsistent d) where
  qualified_name_stays : (scope : List Variable) (name : Option (List ℕ)) (e : Sexpr) → Stays (IsSymbol d) (qualified_name d scope name (part_of d e)) (qualified_name later scope name (part_of later e))
  qualified_name_stays scope None e = stays_err (IsSymbol d) (refused out_of_scope) (Err (refused out_of_scope))
  qualified_name_stays scope (Some name) e =
      stays_unless (IsSymbol d) (not (is_some (find scope name))) (not (is_some (find scope name))) unknown_symbol _ _ refl
      (stays_then (IsSymbol d) (IsSymbol d) (step (may_qualify (symbol_of d name))) (step (may_qualify (symbol_of later name))) _ _ (stays_step (IsSymbol d) (may_qualify (symbol_of d name)) (may_qualify (symbol_of later name)) (qualify_stays later d grows c name))
      (λ s is. stays_then (IsSort d) (IsSymbol d) (sort_of_part d (part_of d e)) (sort_of_part later (part_of later e)) _ _ (sort_part_stays later d grows c e)
      (λ t sort. stays_step (IsSymbol d) (of_result d s t) (of_result later s t) (of_result_stays later d grows c s is t sort))))

  pub qualified_symbol_stays : (scope : List Variable) (es : Sexprs) → Stays (IsSymbol d) (qualified_symbol d scope (parts_of d es)) (qualified_symbol later scope (parts_of later es))
  qualified_symbol_stays scope none = stays_err (IsSymbol d) (refused out_of_scope) (Err (refused out_of_scope))
  qualified_symbol_stays scope (more f none) = stays_err (IsSymbol d) (refused out_of_scope) (Err (refused out_of_scope))
  qualified_symbol_stays scope (more f (more s (more t es))) = stays_err (IsSymbol d) (refused out_of_scope) (Err (refused out_of_scope))
  qualified_symbol_stays scope (more f (more s none)) = subst (λ (n : Option (List ℕ)). Stays (IsSymbol d) (qualified_name d scope (name_of (part_of d f)) (part_of d s)) (qualified_name later scope n (part_of later s))) (sym (name_same later d f)) (qualified_name_stays scope (name_of (part_of d f)) s)

  pub tester_stays : (es : Sexprs) → Stays (IsNamedCtor d) (tester d (parts_of d es)) (tester later (parts_of later es))
  tester_stays none = stays_err (IsNamedCtor d) out_of_scope (Err out_of_scope)
  tester_stays (more w none) = stays_err (IsNamedCtor d) out_of_scope (Err out_of_scope)
  tester_stays (more w (more k (more t es))) = stays_err (IsNamedCtor d) out_of_scope (Err out_of_scope)
  tester_stays (more w (more k none)) =
      stays_unless_refused (IsNamedCtor d) (is_text_of_name (codes "is") (name_of (part_of d w))) (is_text_of_name (codes "is") (name_of (part_of later w))) out_of_scope _ _ (ap (is_text_of_name (codes "is")) (name_same later d w))
      (subst (λ (n : Option (List ℕ)). Stays (IsNamedCtor d) (tested_name d (name_of (part_of d k))) (tested_name later n)) (sym (name_same later d k)) (tested_name_stays later d grows c (name_of (part_of d k))))
