-- How a sort is written in a model: its name, or the list of its generic's name and the arguments.
use Rattle.std.specs.Prelude.{ℕ, Bool, true, false, ◌&&◌, List, [], ◌∷◌, Option}
use Rattle.ct_generics.specs.Expression.{Expression as Sort, parameter, named, applied, head_of, args_of}
use Rattle.ct_generics.specs.Declarations.{Head}
use Rattle.ct_sorts.specs.declared.ids.SortId.{SortId}
use Rattle.ct_sorts.specs.Declarations.{Declarations}
use Rattle.ct_sorts.specs.SortText.{head_name}
use Rattle.ct_instances.specs.Among.{origin_of}
use Rattle.ct_sexpr.specs.Expression.{Expression, leaf, list, Expressions, none, more}
use Rattle.ct_readback.specs.Words.{is_name, is_named}
use Rattle.ct_readback.specs.Parts.{holds, are_some}

-- the expression has the form of a sort: a name, or a name before sorts, `(N S ..)`
abbrev mutual
  pub is_sort_text : Expression → Bool
  is_sort_text (leaf a) = is_name (leaf a)
  is_sort_text (list es) = is_sort_list es

  pub is_sort_list : Expressions → Bool
  is_sort_list none = false
  is_sort_list (more e es) = is_name e && (are_some es && are_sort_texts es)

  pub are_sort_texts : Expressions → Bool
  are_sort_texts none = true
  are_sort_texts (more e es) = is_sort_text e && are_sort_texts es

-- the expression is the name of the sort or generic at the head
abbrev pub says_head : List Head → Option ℕ → Expression → Bool
says_head heads h e = holds (λ g. is_named (head_name heads g) e) h

-- there are no arguments
abbrev pub are_none : List Sort → Bool
are_none [] = true
are_none (a ∷ args) = false

-- the expression is the text of the sort: names may be quoted where they need not be, and no synonym stands for a sort
abbrev mutual
  pub says : List Head → Sort → Expression → Bool
  says heads s (leaf a) = are_none (args_of s) && says_head heads (head_of s) (leaf a)
  says heads s (list es) = says_items heads s es

  pub says_items : List Head → Sort → Expressions → Bool
  says_items heads s none = false
  says_items heads s (more e es) = says_head heads (head_of s) e && (are_some es && says_each heads (args_of s) es)

  -- the expressions are the texts of these sorts, one for one
  pub says_each : List Head → List Sort → Expressions → Bool
  says_each heads [] none = true
  says_each heads (a ∷ args) none = false
  says_each heads [] (more e es) = false
  says_each heads (a ∷ args) (more e es) = says heads a e && says_each heads args es

-- it is the text of the sort with this number
abbrev pub says_sort : Declarations → SortId → Expression → Bool
says_sort d s e = says d.declared.heads (origin_of d s) e
