-- Notes on a formula: for each binder in it the flags of the variables that it binds.
use Rattle.std.specs.Prelude.{◌≡◌, ℕ, Bool, true, false, ◌||◌, List, [], ◌∷◌, ◌++◌, length, drop, Some, slice_get}
use Rattle.ct_sorts.specs.declared.ids.CtorId.{CtorId}
use Rattle.ct_sorts.specs.declared.ids.DefId.{DefId}
use Rattle.ct_sorts.specs.Declarations.{Declarations}
use Rattle.ct_formulas.specs.declared.tree.Pattern.TheVariants.{Ctor, Any}
use Rattle.ct_formulas.specs.Formula.{Formula, Formulas, Cases, Var, Con, Sel, Test, Apply, Def, Not, And, Or, Xor, Implies, Equal, Distinct, Ite, Let, Match, Quantified, no_formulas, with_formula, no_cases, with_case}
use Rattle.ct_formulas.specs.Compiled.{surely_fits, are_none}
use Rattle.ct_formulas.specs.Occurrence.{count_of, occurs, matched_occurs, uses_below}
use Rattle.ct_occurrence.specs.declared.notes.Notes.{Notes}
use Rattle.ct_occurrence.specs.declared.definitions.Worked.{Worked}
use Rattle.ct_occurrence.specs.declared.notes.Notes.TheViews.{out-Notes}
use Rattle.ct_occurrence.specs.Marks.{flags_below, Rows, IsKnown}

-- the flags of a binder's variables
abbrev pub bound_of : Notes → List Bool
bound_of m = (out-Notes m).bound.items

-- the notes on the formulas right under it
abbrev pub under_of : Notes → List Notes
under_of m = (out-Notes m).under.items

-- the notes on what is under the binder
abbrev pub inner_of : Notes → List Notes
inner_of m = (out-Notes m).inner.items

-- it is so of the first
abbrev pub IsOfFirst : (Notes → Type 0) → List Notes → Type 0
IsOfFirst P [] = ⊥
IsOfFirst P (m ∷ ms) = P m

abbrev mutual
  -- the notes say for each binder in what the formula compiles to which of its variables occur; the definitions that it
  -- calls are worked out
  pub IsNoted : Declarations → Rows → (DefId → ℕ → Bool) → Formula → Notes → Type 0
  IsNoted d rows uses (Var i) m = Unit {0}
  IsNoted d rows uses (Con c ts) m = AreNoted d rows uses ts (under_of m)
  IsNoted d rows uses (Sel s t) m = IsOfFirst (IsNoted d rows uses t) (under_of m)
  IsNoted d rows uses (Test c t) m = IsOfFirst (IsNoted d rows uses t) (under_of m)
  IsNoted d rows uses (Apply f ts) m = AreNoted d rows uses ts (under_of m)
  IsNoted d rows uses (Def k ts) m = IsKnown rows k × AreNotedWhere d rows uses (flags_below (uses k) (count_of ts)) ts (under_of m)
  IsNoted d rows uses (Not t) m = IsOfFirst (IsNoted d rows uses t) (under_of m)
  IsNoted d rows uses (And ts) m = AreNoted d rows uses ts (under_of m)
  IsNoted d rows uses (Or ts) m = AreNoted d rows uses ts (under_of m)
  IsNoted d rows uses (Xor ts) m = AreNoted d rows uses ts (under_of m)
  IsNoted d rows uses (Implies ts) m = AreNoted d rows uses ts (under_of m)
  IsNoted d rows uses (Equal ts) m = AreNoted d rows uses ts (under_of m)
  IsNoted d rows uses (Distinct ts) m = AreNoted d rows uses ts (under_of m)
  IsNoted d rows uses (Ite c t u) m = IsOfFirst (IsNoted d rows uses c) (under_of m) × IsOfFirst (IsNoted d rows uses t) (drop 1 (under_of m)) × IsOfFirst (IsNoted d rows uses u) (drop 1 (drop 1 (under_of m)))
  IsNoted d rows uses (Let ts u) m = (bound_of m ≡ flags_below (occurs d uses u) (count_of ts)) × AreNotedWhere d rows uses (flags_below (occurs d uses u) (count_of ts)) ts (under_of m) × IsOfFirst (IsNoted d rows uses u) (inner_of m)
  IsNoted d rows uses (Match t cases) m = (bound_of m ≡ matched_occurs d uses [] cases ∷ []) × (matched_occurs d uses [] cases ≡ true → IsOfFirst (IsNoted d rows uses t) (under_of m)) × CasesNoted d rows uses [] cases (inner_of m)
  IsNoted d rows uses (Quantified q sorts t) m = (bound_of m ≡ flags_below (occurs d uses t) (length sorts)) × IsOfFirst (IsNoted d rows uses t) (inner_of m)

  -- so do the notes on several formulas, one for one
  pub AreNoted : Declarations → Rows → (DefId → ℕ → Bool) → Formulas → List Notes → Type 0
  AreNoted d rows uses no_formulas ms = Unit {0}
  AreNoted d rows uses (with_formula t ts) ms = IsOfFirst (IsNoted d rows uses t) ms × AreNoted d rows uses ts (drop 1 ms)

  -- the same where a formula's flag is set
  pub AreNotedWhere : Declarations → Rows → (DefId → ℕ → Bool) → List Bool → Formulas → List Notes → Type 0
  AreNotedWhere d rows uses flags no_formulas ms = Unit {0}
  AreNotedWhere d rows uses [] (with_formula t ts) ms = Unit {0}
  AreNotedWhere d rows uses (b ∷ bs) (with_formula t ts) ms = (b ≡ true → IsOfFirst (IsNoted d rows uses t) ms) × AreNotedWhere d rows uses bs ts (drop 1 ms)

  -- the same of the cases that make terms, after cases of these constructors
  pub CasesNoted : Declarations → Rows → (DefId → ℕ → Bool) → List CtorId → Cases → List Notes → Type 0
  CasesNoted d rows uses earlier no_cases ms = Unit {0}
  CasesNoted d rows uses earlier (with_case Any body cases) ms = IsOfFirst (IsNoted d rows uses body) ms
  CasesNoted d rows uses earlier (with_case (Ctor c) body cases) ms = IsOfFirst (IsNoted d rows uses body) ms × ((surely_fits d earlier c || are_none cases) ≡ false → CasesNoted d rows uses (c ∷ earlier) cases (drop 1 ms))

-- one more is added to the notes
abbrev pub AddsNotes : (Notes → Type 0) → List Notes → List Notes → Type 0
AddsNotes P old new = (m : Notes) × (new ≡ old ++ m ∷ []) × P m

-- several more are added
abbrev pub AddsAllNotes : (List Notes → Type 0) → List Notes → List Notes → Type 0
AddsAllNotes P old new = (ms : List Notes) × (new ≡ old ++ ms) × P ms

-- the notes on the body of each definition that is worked out are right
abbrev pub HaveNotes : Declarations → List Formula → Rows → Type 0
HaveNotes d bodies rows = (k : DefId) (body : Formula) (w : Worked) → slice_get bodies k.0 ≡ Some body → rows k ≡ Some w → IsOfFirst (IsNoted d rows (uses_below d bodies k.0) body) w.notes.items
