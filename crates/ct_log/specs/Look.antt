-- What is looked up of a term: how it is built, and its head as data.
use Rattle.std.specs.Prelude.{◌≡◌, ℕ, Bool, true, false, List, Some, slice_get}
use Rattle.std.specs.List.{AllZip}
use Rattle.ct_sorts.specs.declared.ids.CtorId.{CtorId}
use Rattle.ct_sorts.specs.declared.ids.SelId.{SelId}
use Rattle.ct_sorts.specs.Declarations.{Declarations, Constructor, Selector}
use Rattle.ct_terms.specs.declared.ids.TermId.{TermId}
use Rattle.ct_terms.specs.declared.ids.Lit.{Lit}
use Rattle.ct_terms.specs.declared.term.Core.TheVariants as core
use Rattle.ct_terms.specs.Children.{CoreHead, con_head, sel_head, test_head, apply_head, eq_head, not_head, and_head, or_head, iff_head, ite_head}
use Rattle.ct_terms.specs.Literal.{opposite}
use Rattle.ct_terms.specs.Terms.{Terms, Has, AreSorted}
use Rattle.ct_rules.specs.Rules.{IsSelected}
use Rattle.ct_log.specs.declared.head.Head.{Head}
use Rattle.ct_log.specs.declared.head.Head.TheVariants as head

-- the term is built by the constructor
abbrev pub IsBuiltBy : Terms → TermId → CtorId → Type 0
IsBuiltBy terms t c = (args : List TermId) × Has terms (core.Con c args) t.0

-- the term is built by the constructor, with this argument at the place
abbrev pub HasArgument : Terms → TermId → CtorId → ℕ → TermId → Type 0
HasArgument terms t c place x = (args : List TermId) × Has terms (core.Con c args) t.0 × (slice_get args place ≡ Some x)

-- the two are constructor terms with different constructors
abbrev pub AreApart : Terms → TermId → TermId → Type 0
AreApart terms t u = (c d : CtorId) × IsBuiltBy terms t c × IsBuiltBy terms u d × (c ≡ d → ⊥)

-- the two are terms of one constructor, with these arguments at the place
abbrev pub HaveArguments : Terms → TermId → TermId → ℕ → TermId → TermId → Type 0
HaveArguments terms t u place x y = (c : CtorId) × HasArgument terms t c place x × HasArgument terms u c place y

-- the term is of the selector's constructor, with this argument at the selector's place
abbrev pub SelectsFrom : Declarations → Terms → SelId → TermId → TermId → Type 0
SelectsFrom d terms s con x = (selector : Selector) × (slice_get d.sels s.0 ≡ Some selector) × HasArgument terms con selector.ctor selector.place x

-- the term is the constructor over the selectors of the other term
abbrev pub IsConstructionOver : Declarations → Terms → TermId → CtorId → TermId → Type 0
IsConstructionOver d terms con c u =
    (ctor : Constructor) × (args : List TermId) × (slice_get d.ctors c.0 ≡ Some ctor) × Has terms (core.Con c args) con.0 × AllZip (IsSelected terms u) args ctor.sels

-- the terms are well sorted over some declarations
abbrev pub AreSortedTerms : Terms → Type 0
AreSortedTerms terms = (d : Declarations) × AreSorted d terms

-- the literal, or its opposite where it is not kept
abbrev pub signed : Bool → Lit → Lit
signed true l = l
signed false l = opposite l

-- the head of a term, as data
abbrev pub stored_head : CoreHead → Head
stored_head (con_head c) = head.Con c
stored_head (sel_head s) = head.Sel s
stored_head (test_head c) = head.Test c
stored_head (apply_head f) = head.Apply f
stored_head eq_head = head.Eq
stored_head not_head = head.Not
stored_head and_head = head.And
stored_head or_head = head.Or
stored_head iff_head = head.Iff
stored_head ite_head = head.Ite
