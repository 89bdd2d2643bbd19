-- A list with arguments comes to what its head makes of them: what stays of a head where sorts were added, and the two steps together.
use Rattle.std.proofs.Common.{◌≡◌, ℕ, List, length, Some, Ok, Err, refl, sym, ◌∙◌, ap, ap₂, subst}
use Rattle.ct_generics.specs.Expression.{Expression}
use Rattle.ct_sexpr.specs.Expression.{Expressions as Sexprs}
use Rattle.ct_sorts.specs.declared.ids.SortId.{SortId}
use Rattle.ct_sorts.specs.declared.ids.Symbol.TheVariants.{Ctor, GenCtor, GenSel}
use Rattle.ct_sorts.specs.Consistent.{IsConsistent}
use Rattle.ct_sorts.specs.Declarations.{Declarations}
use Rattle.ct_formulas.specs.Formula.{Formulas}
use Rattle.ct_instances.specs.Matching.{unmatched}
use Rattle.ct_names.specs.Needs.{Grows, Reaches}
use Rattle.ct_names.specs.Outcome.{Elaborated, Halt, and_then}
use Rattle.ct_names.specs.Parts.{Parts, count}
use Rattle.ct_names.specs.Variables.{Variable, ScopeIn}
use Rattle.ct_names.specs.Elaboration.{parts_of}
use Rattle.ct_names.proofs.NeedLemmas.{grows_further, reaches_grows, reaches_first, reaches_both, reaches_same}
use Rattle.ct_names.proofs.LastingLemmas.{symbol_declared, generic_fields_same, generic_params_same, ctor_sort_same, arguments_same}
use Rattle.ct_names.proofs.StayLemmas.{count_same}
use Rattle.ct_check.specs.declared.callees.Callee.TheVariants.{Symbol, Tester, Connective}
use Rattle.ct_check.specs.declared.heads.Head.{Head}
use Rattle.ct_check.specs.declared.heads.Head.TheVariants.{Let, Match, Annotation, Quantified, Whole, Call, GenericCtor, Part, Equation, Choice}
use Rattle.ct_check.specs.declared.parts.Part.TheVariants.{Field, Test}
use Rattle.ct_check.specs.Expected.{Expectation, these, same, fields, expected_terms}
use Rattle.ct_check.specs.Heads.{headed_by, HasCount, expected_at, finished, IsHeadDeclared, TakesArguments}
use Rattle.ct_check.proofs.ExpectedStays.{IsAbout, expected_stay}
use Rattle.ct_check.proofs.HeadedLemmas.{called_are, generic_are, field_is, test_is, equation_is, choice_is}

-- ---- a list with arguments

pub headed_are : (d : Declarations) (scope : List Variable) (head : Head) (ps : Parts) → TakesArguments head → HasCount d head (count ps) → headed_by d scope head ps ≡ and_then (expected_terms d scope (expected_at d head (count ps)) ps) (finished d head)
headed_are d scope (Call f) ps takes many = called_are d scope f ps many
headed_are d scope (GenericCtor g i) ps takes many = generic_are d scope g i ps many
headed_are d scope (Part (Field g i k)) ps takes many = field_is d scope g i k ps many
headed_are d scope (Part (Test g i)) ps takes many = test_is d scope g i ps many
headed_are d scope (Equation o) ps takes many = equation_is d scope o ps many
headed_are d scope Choice ps takes many = choice_is d scope ps many
headed_are d scope Let ps takes many = absurd takes
headed_are d scope Match ps takes many = absurd takes
headed_are d scope Annotation ps takes many = absurd takes
headed_are d scope (Quantified q) ps takes many = absurd takes
headed_are d scope (Whole s) ps takes many = absurd takes

-- ---- what stays of a head

module _ (later d : Declarations) (grows : Grows later d) (c : IsConsistent d) where
  pub count_stays : (head : Head) (n : ℕ) → IsHeadDeclared d head → HasCount d head n → HasCount later head n
  count_stays Let n is many = tt
  count_stays Match n is many = tt
  count_stays Annotation n is many = tt
  count_stays (Quantified q) n is many = tt
  count_stays (Whole s) n is many = tt
  count_stays (Call (Symbol s)) n is many = ap (λ (sorts : List SortId). length sorts) (arguments_same later d grows c s is) ∙ many
  count_stays (Call (Tester k)) n is many = many
  count_stays (Call (Connective o)) n is many = tt
  count_stays (GenericCtor g i) n is many = ap (λ (es : List Expression). length es) (generic_fields_same later d grows c g i) ∙ many
  count_stays (Part p) n is many = many
  count_stays (Equation o) n is many = many
  count_stays Choice n is many = many

  pub expected_same : (head : Head) (n : ℕ) → IsHeadDeclared d head → expected_at later head n ≡ expected_at d head n
  expected_same Let n is = refl
  expected_same Match n is = refl
  expected_same Annotation n is = refl
  expected_same (Quantified q) n is = refl
  expected_same (Whole s) n is = refl
  expected_same (Call (Symbol s)) n is = ap these (arguments_same later d grows c s is)
  expected_same (Call (Tester k)) n is = ap (λ (s : SortId). same (Some s)) (ctor_sort_same later d grows c k is)
  expected_same (Call (Connective o)) n is = refl
  expected_same (GenericCtor g i) n is = ap₂ (λ (es : List Expression) (m : ℕ). fields es (unmatched m)) (generic_fields_same later d grows c g i) (generic_params_same later d grows c g)
  expected_same (Part p) n is = refl
  expected_same (Equation o) n is = refl
  expected_same Choice n is = refl

module _ (later d : Declarations) (grows : Grows later d) (c : IsConsistent d) where
  pub head_declared : (head : Head) → IsHeadDeclared d head → IsHeadDeclared later head
  head_declared Let is = tt
  head_declared Match is = tt
  head_declared Annotation is = tt
  head_declared (Quantified q) is = tt
  head_declared (Whole s) is = symbol_declared later d grows c s is
  head_declared (Call (Symbol s)) is = symbol_declared later d grows c s is
  head_declared (Call (Tester k)) is = symbol_declared later d grows c (Ctor k) is
  head_declared (Call (Connective o)) is = tt
  head_declared (GenericCtor g i) is = symbol_declared later d grows c (GenCtor g i) is
  head_declared (Part (Field g i k)) is = symbol_declared later d grows c (GenSel g i k) is
  head_declared (Part (Test g i)) is = symbol_declared later d grows c (GenCtor g i) is
  head_declared (Equation o) is = tt
  head_declared Choice is = tt

expected_about : (d : Declarations) (head : Head) (n : ℕ) → IsHeadDeclared d head → IsAbout d (expected_at d head n)
expected_about d Let n is = tt
expected_about d Match n is = tt
expected_about d Annotation n is = tt
expected_about d (Quantified q) n is = tt
expected_about d (Whole s) n is = tt
expected_about d (Call (Symbol s)) n is = tt
expected_about d (Call (Tester k)) n is = tt
expected_about d (Call (Connective o)) n is = tt
expected_about d (GenericCtor g i) n is = tt
expected_about d (Part (Field g i k)) n is = (is.0, is.1)
expected_about d (Part (Test g i)) n is = is
expected_about d (Equation o) n is = tt
expected_about d Choice n is = tt

-- ---- the two steps

module _ (first : Declarations) (c : IsConsistent first) (scope : List Variable) (head : Head) (is : IsHeadDeclared first head) (takes : TakesArguments head) (es : Sexprs) (many : HasCount first head (count (parts_of first es))) where
  abbrev n : ℕ
  n = count (parts_of first es)

  -- arguments, and then the rest
  abbrev pub with_args : Declarations → Elaborated (Formulas × Expectation)
  with_args d = expected_terms d scope (expected_at d head n) (parts_of d es)

  whole_is : (d : Declarations) → Grows d first → headed_by d scope head (parts_of d es) ≡ and_then (with_args d) (finished d head)
  whole_is d grows =
      let number : count (parts_of d es) ≡ n = count_same d first es in
      headed_are d scope head (parts_of d es) takes (subst (HasCount d head) (sym number) (count_stays d first grows c head n is many))
      ∙ ap (λ (m : ℕ). and_then (expected_terms d scope (expected_at d head m) (parts_of d es)) (finished d head)) number

  pub args_reach : (d : Declarations) → Reaches with_args first d → Reaches (λ m. headed_by m scope head (parts_of m es)) first d
  args_reach d reaches = reaches_same (λ m. and_then (with_args m) (finished m head)) (λ m. headed_by m scope head (parts_of m es)) first d whole_is (reaches_first with_args (λ m. finished m head) first d reaches)

  pub args_refused : (d : Declarations) (h : Halt) → Reaches with_args first d → with_args d ≡ Err h → headed_by d scope head (parts_of d es) ≡ Err h
  args_refused d h reaches e = whole_is d (reaches_grows with_args first d reaches) ∙ ap (λ o. and_then o (finished d head)) e

  pub args_met : (d later : Declarations) → IsConsistent d → ScopeIn d scope → (r : Formulas × Expectation) → IsHeadDeclared d head → Reaches with_args first d → with_args d ≡ Ok r → Reaches (λ m. finished m head r) d later
      → Reaches (λ m. headed_by m scope head (parts_of m es)) first later × (headed_by later scope head (parts_of later es) ≡ finished later head r)
  args_met d later cd inside r is_d reaches e rest = (
    reaches_same (λ m. and_then (with_args m) (finished m head)) (λ m. headed_by m scope head (parts_of m es)) first later whole_is
        (reaches_both with_args (λ m. finished m head) first d later r reaches stays rest),
    whole_is later (grows_further later d first (reaches_grows (λ m. finished m head r) d later rest) (reaches_grows with_args first d reaches))
        ∙ ap (λ o. and_then o (finished later head)) (stays later (reaches_grows (λ m. finished m head r) d later rest)),
  )
    where
      stays : (m : Declarations) → Grows m d → with_args m ≡ Ok r
      stays m grows =
          ap (λ (x : Expectation). expected_terms m scope x (parts_of m es)) (expected_same m d grows cd head n is_d)
          ∙ (expected_stay m d grows cd scope inside (expected_at d head n) (expected_about d head n is_d) es r e).0
