-- The term that a term line is of, over what its name stands for.
use Rattle.std.specs.Prelude.{List, [], ◌∷◌, Option, Some, None, option_map, option_and_then}
use Rattle.ct_sorts.specs.declared.ids.Symbol.{Symbol}
use Rattle.ct_sorts.specs.declared.ids.Symbol.TheVariants as symbols
use Rattle.ct_terms.specs.declared.ids.TermId.{TermId}
use Rattle.ct_terms.specs.declared.term.Core.{Core}
use Rattle.ct_terms.specs.declared.term.Core.TheVariants as cores
use Rattle.ct_log_lines.specs.declared.term_lines.TermKind.{TermKind}
use Rattle.ct_log_lines.specs.declared.term_lines.TermKind.TheVariants.{Con, Apply, Sel, Test, Eq, Not, And, Or, Iff, Ite}

-- the terms, where there are so many
abbrev pub one_term : List TermId → Option TermId
one_term [] = None
one_term (t ∷ []) = Some t
one_term (t ∷ (u ∷ ts)) = None

abbrev pub two_terms : List TermId → Option (TermId × TermId)
two_terms [] = None
two_terms (a ∷ []) = None
two_terms (a ∷ (b ∷ [])) = Some (a, b)
two_terms (a ∷ (b ∷ (c ∷ ts))) = None

abbrev pub three_terms : List TermId → Option (TermId × TermId × TermId)
three_terms [] = None
three_terms (a ∷ []) = None
three_terms (a ∷ (b ∷ [])) = None
three_terms (a ∷ (b ∷ (c ∷ []))) = Some (a, b, c)
three_terms (a ∷ (b ∷ (c ∷ (d ∷ ts)))) = None

-- what the name stands for, where that is a constructor, a function or a selector
abbrev pub con_of : Option Symbol → List TermId → Option Core
con_of (Some (symbols.Ctor c)) args = Some (cores.Con c args)
con_of _ args = None

abbrev pub apply_of : Option Symbol → List TermId → Option Core
apply_of (Some (symbols.Fun f)) args = Some (cores.Apply f args)
apply_of _ args = None

abbrev pub field_of : Option Symbol → TermId → Option Core
field_of (Some (symbols.Sel s)) t = Some (cores.Sel s t)
field_of _ t = None

abbrev pub tested : Option Symbol → TermId → Option Core
tested (Some (symbols.Ctor c)) t = Some (cores.Test c t)
tested _ t = None

abbrev pub sel_of : Option Symbol → List TermId → Option Core
sel_of symbol args = option_and_then (field_of symbol) (one_term args)

abbrev pub test_of : Option Symbol → List TermId → Option Core
test_of symbol args = option_and_then (tested symbol) (one_term args)

abbrev pub eq_of : List TermId → Option Core
eq_of args = option_map (λ sides. cores.Eq sides.0 sides.1) (two_terms args)

abbrev pub iff_of : List TermId → Option Core
iff_of args = option_map (λ sides. cores.Iff sides.0 sides.1) (two_terms args)

abbrev pub not_of : List TermId → Option Core
not_of args = option_map (λ t. cores.Not t) (one_term args)

abbrev pub ite_of : List TermId → Option Core
ite_of args = option_map (λ parts. cores.Ite parts.0 parts.1 parts.2) (three_terms args)

-- the term of a line of this kind, where this is what its name stands for; there is none where the name has another role
abbrev pub core_with : TermKind → Option Symbol → List TermId → Option Core
core_with Con symbol args = con_of symbol args
core_with Apply symbol args = apply_of symbol args
core_with Sel symbol args = sel_of symbol args
core_with Test symbol args = test_of symbol args
core_with Eq symbol args = eq_of args
core_with Not symbol args = not_of args
core_with And symbol args = Some (cores.And args)
core_with Or symbol args = Some (cores.Or args)
core_with Iff symbol args = iff_of args
core_with Ite symbol args = ite_of args
