-- Expressions whose lists come with what they mean: a form is then a function of the parts right under it.
use Rattle.std.specs.Prelude.{ℕ, suc, List, Option, None}
use Rattle.ct_sexpr.specs.Atom.{Atom}
use Rattle.ct_sexpr.specs.Expression.{Expression, Expressions, leaf, list, none, more}
use Rattle.ct_sexpr.specs.Readable.{name_of_atom}
use Rattle.ct_names.specs.Outcome.{Elaborated, Sorted}
use Rattle.ct_names.specs.Variables.{Variable}

mutual
  -- an atom, or a list of parts with what the list means where these variables are in scope
  pub data Part : Type 0 where
    atom_part : Atom → Part
    list_part : Parts → (List Variable → Elaborated Sorted) → Part

  pub data Parts : Type 0 where
    no_parts : Parts
    with_part : Part → Parts → Parts

-- how many parts there are
abbrev pub count : Parts → ℕ
count no_parts = 0
count (with_part p ps) = suc (count ps)

-- the name that the part is: a symbol that is no reserved word
abbrev pub name_of : Part → Option (List ℕ)
name_of (atom_part a) = name_of_atom a
name_of (list_part ps meaning) = None

abbrev mutual
  -- the expression that the part is
  pub expression_in : Part → Expression
  expression_in (atom_part a) = leaf a
  expression_in (list_part ps meaning) = list (expressions_in ps)

  pub expressions_in : Parts → Expressions
  expressions_in no_parts = none
  expressions_in (with_part p ps) = more (expression_in p) (expressions_in ps)
