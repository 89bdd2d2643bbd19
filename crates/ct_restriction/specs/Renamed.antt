-- A term over other numbers of the terms right under it.
use Rattle.std.specs.Prelude.{List, map, get_or}
use Rattle.ct_terms.specs.declared.ids.TermId.{TermId}
use Rattle.ct_terms.specs.declared.term.Core.{Core}
use Rattle.ct_terms.specs.declared.term.Core.TheVariants.{Con, Sel, Test, Apply, Eq, Not, And, Or, Iff, Ite}

-- the term with each number right under it exchanged
abbrev pub renamed : (TermId → TermId) → Core → Core
renamed f (Con c args) = Con c (map f args)
renamed f (Sel s t) = Sel s (f t)
renamed f (Test c t) = Test c (f t)
renamed f (Apply g args) = Apply g (map f args)
renamed f (Eq a b) = Eq (f a) (f b)
renamed f (Not t) = Not (f t)
renamed f (And args) = And (map f args)
renamed f (Or args) = Or (map f args)
renamed f (Iff a b) = Iff (f a) (f b)
renamed f (Ite c a b) = Ite (f c) (f a) (f b)

-- the number that stands beside a number in the list
abbrev pub number_in : List TermId → TermId → TermId
number_in numbers t = get_or numbers t.0 t
