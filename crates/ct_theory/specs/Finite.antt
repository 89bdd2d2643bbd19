-- Tables of terms whose constructor terms all have finite values.
use Rattle.std.specs.Prelude.{◌≡◌, ◌⊎◌, List, []}
use Rattle.ct_sorts.specs.declared.ids.CtorId.{CtorId}
use Rattle.ct_sorts.specs.Declarations.{Declarations}
use Rattle.ct_terms.specs.declared.ids.TermId.{TermId}
use Rattle.ct_terms.specs.declared.term.Core.TheVariants.{Con}
use Rattle.ct_terms.specs.Terms.{Terms, Has}
use Rattle.ct_rules.specs.Cycle.{IsOfDatatype}

-- each constructor term that has arguments is of a datatype
abbrev pub AreFinite : Declarations → Terms → Type 0
AreFinite d terms = (t : TermId) (c : CtorId) (args : List TermId) → Has terms (Con c args) t.0 → (args ≡ []) ⊎ IsOfDatatype d terms t
