-- What is needed, and what compiling gives, at a level: over its scope, and with what is worked out of its definitions.
use Rattle.std.specs.Prelude.{ℕ, Bool, ◌≡◌, List, length, map, Some, slice_get, Result}
use Rattle.std.specs.List.{AllByRecursion}
use Rattle.indexmap.specs.IndexMap.{IndexMap}
use Rattle.ct_sorts.specs.declared.ids.CtorId.{CtorId}
use Rattle.ct_sorts.specs.declared.ids.DefId.{DefId}
use Rattle.ct_sorts.specs.Declarations.{Declarations}
use Rattle.ct_terms.specs.declared.error.TermError.{TermError}
use Rattle.ct_terms.specs.declared.ids.TermId.{TermId}
use Rattle.ct_formulas.specs.Formula.{Formula, Formulas, Cases}
use Rattle.ct_formulas.specs.Occurrence.{uses_below}
use Rattle.ct_terms.specs.Terms.{Terms}
use Rattle.ct_formulas.specs.TreeFormula.{formula_of}
use Rattle.ct_formulas.specs.Formula.{Quantified}
use Rattle.ct_formulas.specs.Choices.{AreQuantifiable, choices_of}
use Rattle.ct_formulas.specs.Occurrence.{occurs}
use Rattle.ct_listing.specs.Closed.{ClosedValue}
use Rattle.ct_finite.specs.Counts.{AreCounts}
use Rattle.ct_occurrence.specs.Marks.{flags_below}
use Rattle.ct_scope.specs.Choosing.{chosen, all_chosen, AreChosen}
use Rattle.ct_compile.specs.declared.quantification.Quantification.{Quantification}
use Rattle.ct_occurrence.specs.declared.notes.Notes.{Notes}
use Rattle.ct_occurrence.specs.Marks.{Rows, worked_in}
use Rattle.ct_occurrence.specs.Noted.{IsOfFirst, IsNoted, AreNoted, AreNotedWhere, CasesNoted, HaveNotes}
use Rattle.ct_operators.specs.declared.operator.Operator.{Operator}
use Rattle.ct_scope.specs.declared.bound.Bound.{Bound}
use Rattle.ct_scope.specs.declared.known.Called.{Called}
use Rattle.ct_scope.specs.declared.stop.Stop.{Stop}
use Rattle.ct_scope.specs.Binding.{MayBind, Binds}
use Rattle.ct_scope.specs.Calling.{IsState}
use Rattle.ct_scope.specs.Deferral.{Defers, DefersAll, DefersBound, DefersCases}
use Rattle.ct_scope.specs.Matching.{MayCases, CompilesCases}
use Rattle.ct_scope.specs.Compilable.{MayCompile, MayCompileAll, Compiles, CompilesAll}
use Rattle.ct_compile.specs.declared.level.Level.{Level}

-- the declarations, the bodies of definitions, and what is worked out of these
abbrev pub declared_at : Level → Declarations
declared_at l = l.scope.now.sig

abbrev pub bodies_at : Level → List Formula
bodies_at l = map formula_of l.scope.now.bodies

abbrev pub rows_at : Level → Rows
rows_at l = worked_in l.definitions.now

-- the variables that occur in a definition below the level's number
abbrev pub uses_at : Level → DefId → ℕ → Bool
uses_at l = uses_below (declared_at l) (bodies_at l) l.below

-- what is known of calls is true
abbrev pub IsStateAt : {S : Type 0} → Level → Terms → IndexMap Called TermId S → Type 0
IsStateAt l table known = IsState (declared_at l) (bodies_at l) l.below (rows_at l) table known

-- what is worked out of definitions, and of listable sorts, is right
abbrev pub AreWorkedAt : Level → Type 0
AreWorkedAt l = HaveNotes (declared_at l) (bodies_at l) (rows_at l) × AllByRecursion (λ finite. AreCounts (declared_at l) finite) l.finite.now

-- the notes say which variables occur
abbrev pub IsNotedAt : Level → Formula → List Notes → Type 0
IsNotedAt l t ms = AreWorkedAt l × IsOfFirst (IsNoted (declared_at l) (rows_at l) (uses_at l) t) ms

abbrev pub AreNotedAt : Level → Formulas → List Notes → Type 0
AreNotedAt l ts ms = AreWorkedAt l × AreNoted (declared_at l) (rows_at l) (uses_at l) ts ms

abbrev pub AreNotedWhereAt : Level → List Bool → Formulas → List Notes → Type 0
AreNotedWhereAt l flags ts ms = AreWorkedAt l × AreNotedWhere (declared_at l) (rows_at l) (uses_at l) flags ts ms

abbrev pub AreNotedCasesAt : Level → List CtorId → Cases → List Notes → Type 0
AreNotedCasesAt l earlier cases ms = AreWorkedAt l × CasesNoted (declared_at l) (rows_at l) (uses_at l) earlier cases ms

-- a formula may be compiled; several may, under an operator or to be bound; the cases of a `match` may
abbrev pub MayCompileAt : Level → Terms → List Bound → Formula → Type 0
MayCompileAt l table env t = MayCompile (declared_at l) (bodies_at l) table l.below env t

abbrev pub MayCompileAllAt : Level → Terms → List Bound → Operator → Formulas → Type 0
MayCompileAllAt l table env o ts = MayCompileAll (declared_at l) (bodies_at l) table l.below env o ts

abbrev pub MayBindAt : Level → Terms → List Bound → List Bool → Formulas → Type 0
MayBindAt l table env flags ts = MayBind (declared_at l) (bodies_at l) table l.below env flags ts

abbrev pub MayCasesAt : Level → Terms → List Bound → Bound → List CtorId → Cases → Type 0
MayCasesAt l table env matched earlier cases = MayCases (declared_at l) (bodies_at l) table l.below env matched earlier cases

-- what compiling them gives
abbrev pub CompilesAt : Level → Terms → Terms → List Bound → Formula → Result TermId TermError → Type 0
CompilesAt l old new env t r = Compiles (declared_at l) (bodies_at l) l.below old new env t r

abbrev pub CompilesAllAt : Level → Terms → Terms → List Bound → Operator → Formulas → Result (List TermId) TermError → Type 0
CompilesAllAt l old new env o ts r = CompilesAll (declared_at l) (bodies_at l) l.below old new env o ts r

abbrev pub BindsAt : Level → Terms → Terms → List Bound → List Bool → Formulas → Result (List Bound) TermError → Type 0
BindsAt l old new env flags ts r = Binds (declared_at l) (bodies_at l) l.below old new env flags ts r

abbrev pub CompilesCasesAt : Level → Terms → Terms → List Bound → Bound → List CtorId → Cases → Result TermId TermError → Type 0
CompilesCasesAt l old new env matched earlier cases r = CompilesCases (declared_at l) (bodies_at l) l.below old new env matched earlier cases r

-- where a call under them is put off, it waits
abbrev pub DefersAt : Level → Terms → Terms → List Bound → Formula → Result TermId Stop → Type 0
DefersAt l old new env t r = Defers (declared_at l) (bodies_at l) (rows_at l) l.below old new env t r

abbrev pub DefersAllAt : Level → Terms → Terms → List Bound → Operator → Formulas → Result (List TermId) Stop → Type 0
DefersAllAt l old new env o ts r = DefersAll (declared_at l) (bodies_at l) (rows_at l) l.below old new env o ts r

abbrev pub DefersBoundAt : Level → Terms → Terms → List Bound → List Bool → Formulas → Result (List Bound) Stop → Type 0
DefersBoundAt l old new env flags ts r = DefersBound (declared_at l) (bodies_at l) (rows_at l) l.below old new env flags ts r

abbrev pub DefersCasesAt : Level → Terms → Terms → List Bound → Bound → List CtorId → Cases → Result TermId Stop → Type 0
DefersCasesAt l old new env matched earlier cases r = DefersCases (declared_at l) (bodies_at l) (rows_at l) l.below old new env matched earlier cases r

-- the formula with the quantifier
abbrev pub quantified : Quantification → Formula
quantified o = Quantified o.quantifier o.sorts.now (formula_of o.body.now)

-- a quantifier goes over variables of these sorts, and the flags say which of them occur in the body
pub record IsOverAt (l : Level) (o : Quantification) : Type 0 where
  pub counts : AreCounts (declared_at l) o.finite.now
  pub sorts : AreQuantifiable (declared_at l) o.sorts.now
  pub flags : o.flags.now ≡ flags_below (occurs (declared_at l) (uses_at l) (formula_of o.body.now)) (length o.sorts.now)

-- its body with these values for its variables, and with each choice of values
abbrev pub chosen_for : Quantification → List ClosedValue → Formula
chosen_for o vs = chosen (formula_of o.body.now) vs

abbrev pub all_chosen_for : Level → Quantification → Formulas
all_chosen_for l o = all_chosen (declared_at l) o.sorts.now (formula_of o.body.now)

-- the choice with this number
abbrev pub IsChoiceAt : Level → Quantification → ℕ → List ClosedValue → Type 0
IsChoiceAt l o k vs = slice_get (choices_of (declared_at l) o.sorts.now) k ≡ Some vs

-- the first choices are compiled
abbrev pub AreChosenAt : Level → Terms → List Bound → Quantification → ℕ → List TermId → Type 0
AreChosenAt l table env o k args = AreChosen (declared_at l) (bodies_at l) table l.below env o.quantifier o.sorts.now (formula_of o.body.now) k args
