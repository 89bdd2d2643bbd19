-- How a sort expression is kept as a tree of numbers, by which proofs tell declarations apart.
use Rattle.std.specs.Prelude.{◌≡◌, refl}
use mathlib.Core.Path.{ap, ◌∙◌}
use base.Stored.{Gv, gnil, gnum, gcons}
use denote.Struct.Codes.{itself}
use Rattle.std.specs.Coded.{Coded, code_by}
use Rattle.ct_generics.specs.Expression.{Expression, parameter, named, applied}

abbrev of_expression : Expression → Gv
of_expression (parameter i) = gcons gnil (gnum i)
of_expression (named h) = gnum h
of_expression (applied e a) = gcons (gcons gnil (of_expression e)) (of_expression a)

abbrev to_expression : Gv → Expression
to_expression (gcons gnil (gnum i)) = parameter i
to_expression (gnum h) = named h
to_expression (gcons (gcons g e) a) = applied (to_expression e) (to_expression a)
to_expression g = parameter 0

pub expression_back : (e : Expression) → to_expression (of_expression e) ≡ e
expression_back (parameter i) = refl
expression_back (named h) = refl
expression_back (applied e a) = ap (λ (x : Expression). applied x (to_expression (of_expression a))) (expression_back e) ∙ ap (applied e) (expression_back a)

-- the code of sort expressions
abbrev pub coded_expression : Coded Expression
coded_expression = code_by Gv itself of_expression to_expression expression_back
