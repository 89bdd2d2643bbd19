-- Which variables occur in the core term of a formula. What is bound to the others needs no core term.
use Rattle.std.specs.Prelude.{◌≡◌, ℕ, zero, suc, ◌+◌, Bool, true, false, not, ◌&&◌, ◌||◌, ◌==◌, List, [], ◌∷◌, length, Contains, Option, Some, None, option_map, unwrap_or, slice_get, if◌then◌else◌}
use Rattle.ct_sorts.specs.declared.ids.CtorId.{CtorId}
use Rattle.ct_sorts.specs.declared.ids.DefId.{DefId}
use Rattle.ct_sorts.specs.Declarations.{Declarations, Constructor}
use Rattle.ct_formulas.specs.declared.tree.Pattern.TheVariants.{Ctor, Any}
use Rattle.ct_terms.specs.CoreTree.{CoreTree, subtrees}
use Rattle.ct_formulas.specs.Formula.{Formula, Formulas, Cases, Var, Con, Sel, Test, Apply, Def, Not, And, Or, Xor, Implies, Equal, Distinct, Ite, Let, Match, Quantified, no_formulas, with_formula, no_cases, with_case, bind}
use Rattle.ct_formulas.specs.Compiled.{surely_fits, are_none}

-- how many formulas there are
abbrev pub count_of : Formulas → ℕ
count_of no_formulas = 0
count_of (with_formula t ts) = suc (count_of ts)

-- how many fields a constructor has
abbrev pub field_count : Declarations → CtorId → ℕ
field_count d c = length (unwrap_or (option_map (λ (ctor : Constructor). ctor.sels) (slice_get d.ctors c.0)) [])

-- the test holds of some number below the bound
abbrev pub any_below : (ℕ → Bool) → ℕ → Bool
any_below p zero = false
any_below p (suc n) = p n || any_below p n

abbrev mutual
  -- the variable occurs in the core term, where `uses` says which variables occur in those of the bodies of definitions
  pub occurs : Declarations → (DefId → ℕ → Bool) → Formula → ℕ → Bool
  occurs d uses (Var k) i = k == i
  occurs d uses (Con c ts) i = occurs_in_some d uses ts i
  occurs d uses (Sel s t) i = occurs d uses t i
  occurs d uses (Test c t) i = occurs d uses t i
  occurs d uses (Apply f ts) i = occurs_in_some d uses ts i
  occurs d uses (Def k ts) i = occurs_in_bound d uses (uses k) ts i
  occurs d uses (Not t) i = occurs d uses t i
  occurs d uses (And ts) i = occurs_in_some d uses ts i
  occurs d uses (Or ts) i = occurs_in_some d uses ts i
  occurs d uses (Xor ts) i = occurs_in_some d uses ts i
  occurs d uses (Implies ts) i = occurs_in_some d uses ts i
  occurs d uses (Equal ts) i = occurs_in_some d uses ts i
  occurs d uses (Distinct ts) i = occurs_in_some d uses ts i
  occurs d uses (Ite c t u) i = occurs d uses c i || (occurs d uses t i || occurs d uses u i)
  occurs d uses (Let ts u) i = occurs_in_bound d uses (occurs d uses u) ts i || occurs d uses u (i + count_of ts)
  occurs d uses (Match t cases) i = (matched_occurs d uses [] cases && occurs d uses t i) || occurs_in_cases d uses [] cases i
  occurs d uses (Quantified q sorts t) i = occurs d uses t (i + length sorts)

  -- it occurs in one of these
  pub occurs_in_some : Declarations → (DefId → ℕ → Bool) → Formulas → ℕ → Bool
  occurs_in_some d uses no_formulas i = false
  occurs_in_some d uses (with_formula t ts) i = occurs d uses t i || occurs_in_some d uses ts i

  -- it occurs in one of these that is bound to a variable which occurs in turn; the last of them is variable 0
  pub occurs_in_bound : Declarations → (DefId → ℕ → Bool) → (ℕ → Bool) → Formulas → ℕ → Bool
  occurs_in_bound d uses inner no_formulas i = false
  occurs_in_bound d uses inner (with_formula t ts) i = (inner (count_of ts) && occurs d uses t i) || occurs_in_bound d uses inner ts i

  -- the matched term occurs, in a test or in place of a variable of a case that the core term has, after cases of these constructors
  pub matched_occurs : Declarations → (DefId → ℕ → Bool) → List CtorId → Cases → Bool
  matched_occurs d uses earlier no_cases = false
  matched_occurs d uses earlier (with_case Any body cases) = occurs d uses body 0
  matched_occurs d uses earlier (with_case (Ctor c) body cases) = not (surely_fits d earlier c || are_none cases) || any_below (occurs d uses body) (field_count d c)

  -- the variable occurs in the body of a case that the core term has, after cases of these constructors
  pub occurs_in_cases : Declarations → (DefId → ℕ → Bool) → List CtorId → Cases → ℕ → Bool
  occurs_in_cases d uses earlier no_cases i = false
  occurs_in_cases d uses earlier (with_case Any body cases) i = occurs d uses body (suc i)
  occurs_in_cases d uses earlier (with_case (Ctor c) body cases) i = occurs d uses body (i + field_count d c) || (not (surely_fits d earlier c || are_none cases) && occurs_in_cases d uses (c ∷ earlier) cases i)

-- the variables that occur in a body
abbrev pub body_uses : Declarations → (DefId → ℕ → Bool) → Option Formula → ℕ → Bool
body_uses d uses None i = false
body_uses d uses (Some body) i = occurs d uses body i

-- the variables that occur in the bodies of the definitions below a number
unfoldable pub uses_below : Declarations → List Formula → ℕ → DefId → ℕ → Bool
uses_below d bodies zero k i = false
uses_below d bodies (suc n) k i = if k.0 == n then body_uses d (uses_below d bodies n) (slice_get bodies n) i else uses_below d bodies n k i

-- the variable occurs in the core term of a formula over definitions with these bodies
abbrev pub occurs_in : Declarations → List Formula → Formula → ℕ → Bool
occurs_in d bodies t i = occurs d (uses_below d bodies (length bodies)) t i

-- the two environments have one term for each variable of the test
abbrev pub AreSameAt : (ℕ → Bool) → List CoreTree → List CoreTree → Type 0
AreSameAt p env others = (i : ℕ) → p i ≡ true → slice_get env i ≡ slice_get others i

-- bound in order, the terms are the same for each variable of the test; the last of them is variable 0
abbrev pub AreBoundSame : (ℕ → Bool) → List CoreTree → List CoreTree → Type 0
AreBoundSame p [] [] = Unit {0}
AreBoundSame p [] (u ∷ us) = ⊥
AreBoundSame p (t ∷ ts) [] = ⊥
AreBoundSame p (t ∷ ts) (u ∷ us) = (p (length ts) ≡ true → t ≡ u) × AreBoundSame p ts us

-- each definition gives one term for arguments that are the same where they occur in its body
abbrev pub UseSame : (DefId → ℕ → Bool) → (DefId → List CoreTree → CoreTree) → Type 0
UseSame uses call = (k : DefId) (ts us : List CoreTree) → AreBoundSame (uses k) ts us → call k ts ≡ call k us

-- each definition gives a term that has as subterms the arguments which occur in its body
abbrev pub GiveUsed : (DefId → ℕ → Bool) → (DefId → List CoreTree → CoreTree) → Type 0
GiveUsed uses call = (k : DefId) (args : List CoreTree) (i : ℕ) (u : CoreTree) → uses k i ≡ true → slice_get (bind args []) i ≡ Some u → Contains (subtrees (call k args)) u
