-- The head of a term as a value of the program.
use Rattle.ct_terms.specs.Children.{CoreHead, con_head, sel_head, test_head, apply_head, eq_head, not_head, and_head, or_head, iff_head, ite_head}
use Rattle.ct_congr.specs.declared.alike.Head.{Head}
use Rattle.ct_congr.specs.declared.alike.Head.TheVariants.{Con, Sel, Test, Apply, Eq, Not, And, Or, Iff, Ite}

abbrev pub head_of : CoreHead → Head
head_of (con_head c) = Con c
head_of (sel_head s) = Sel s
head_of (test_head c) = Test c
head_of (apply_head f) = Apply f
head_of eq_head = Eq
head_of not_head = Not
head_of and_head = And
head_of or_head = Or
head_of iff_head = Iff
head_of ite_head = Ite
