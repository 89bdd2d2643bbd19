-- The theorems on declarations that grow, as one record: what is well sorted over them stays so.
use Rattle.std.specs.Prelude.{ℕ, List}
use Rattle.ct_generics.specs.Declarations.{Head}
use Rattle.ct_generics.specs.Expression.{Expression}
use Rattle.ct_generics.specs.declared.decl.SortDecl.{SortDecl}
use Rattle.ct_sorts.specs.declared.ids.Kind.{Kind}
use Rattle.ct_sorts.specs.declared.ids.Declared.{Declared as Given}
use Rattle.ct_sorts.specs.declared.spelling.Spelling.{Spelling}
use Rattle.ct_sorts.specs.Declarations.{Declarations, Sort, Function, with_sort, with_head, with_function, with_definition}
use Rattle.ct_sorts.specs.Block.{IsWithBlock}
use Rattle.ct_sorts.specs.Grown.{Extends}
use Rattle.ct_sorts.specs.Instances.{IsWithSorts}
use Rattle.ct_terms.specs.Terms.{Terms, AreSorted}
use Rattle.ct_base.specs.declared.base.Base.{Base}
use Rattle.ct_base.specs.Base.{IsBase}
use Rattle.ct_trial.specs.declared.last_model.LastModel.{LastModel}
use Rattle.ct_trial.specs.LastModel.{IsLastModel}
use Rattle.ct_stack.specs.Elaborations.{with_synonym_of}

pub record Growing : Type 0 where
  pub itself : (d : Declarations) → Extends d d
  pub further : (last later earlier : Declarations) → Extends last later → Extends later earlier → Extends last earlier
  pub sort : (d : Declarations) (s : Sort) → Extends (with_sort d s) d
  pub head : (d : Declarations) (head : Head) (ctors : List Spelling) → Extends (with_head d head ctors) d
  pub block : (d later : Declarations) (kind : Kind) (decls : List SortDecl) (given : List Given) → IsWithBlock d kind decls given later → Extends later d
  pub synonym : (d : Declarations) (name : List ℕ) (params : List (List ℕ)) (e : Expression) → Extends (with_synonym_of d name params e) d
  pub sorts : (d later : Declarations) (sorts : List Expression) → IsWithSorts d sorts later → Extends later d
  pub function : (d : Declarations) (f : Function) → Extends (with_function d f) d
  pub definition : (d : Declarations) (f : Function) → Extends (with_definition d f) d
  pub table : (later earlier : Declarations) (table : Terms) → Extends later earlier → AreSorted earlier table → AreSorted later table
  pub bases : (d later : Declarations) (base : Base) → Extends later d → IsBase d base → IsBase later base
  pub models : (d later : Declarations) (model : LastModel) → Extends later d → IsLastModel d model → IsLastModel later model
