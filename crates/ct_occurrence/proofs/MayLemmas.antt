-- Marking a formula from the formulas under it.
use Rattle.std.proofs.Common.{◌≡◌, ℕ, zero, suc, ◌+◌, ◌<◌, ◌≤◌, Bool, true, false, not, ◌&&◌, ◌||◌, List, [], ◌∷◌, ◌++◌, length, take, drop, replicate, Some, Result, Ok, Err, OnOk, refl, sym, ap, ap₂, subst, ◌∙◌, arith}
use Rattle.std.proofs.lemmas.Option.{slice_get_within}
use Rattle.ct_sorts.specs.declared.ids.CtorId.{CtorId}
use Rattle.ct_sorts.specs.declared.ids.DefId.{DefId}
use Rattle.ct_sorts.specs.declared.ids.SortId.{SortId}
use Rattle.ct_sorts.specs.Declarations.{Declarations, IsConstructor, bool_sort}
use Rattle.ct_formulas.specs.declared.tree.Pattern.{Pattern}
use Rattle.ct_formulas.specs.declared.tree.Pattern.TheVariants.{Ctor, Any}
use Rattle.ct_formulas.specs.declared.tree.Quantifier.{Quantifier}
use Rattle.ct_formulas.specs.Formula.{Formula, Formulas, Cases, Var, Con, Sel, Test, Apply, Def, Not, And, Or, Xor, Implies, Equal, Distinct, Ite, Let, Match, Quantified, no_formulas, with_formula, with_case, bind}
use Rattle.ct_formulas.specs.FormulaSorts.{IsSorted, AllSorted}
use Rattle.ct_formulas.specs.Compiled.{surely_fits, are_none}
use Rattle.ct_formulas.specs.Occurrence.{count_of, field_count, any_below, occurs, occurs_in_some, occurs_in_bound, matched_occurs, occurs_in_cases}
use Rattle.ct_occurrence.specs.Plain.{is_plain, formulas_under}
use Rattle.ct_occurrence.proofs.Size.{size, sizes}
use Rattle.ct_occurrence.specs.Calls.{CallsAre, AllCallsAre}
use Rattle.ct_occurrence.specs.Marks.{flags_below, mark_each, has_set, Rows, row_in, IsKnown, MayMark, MayMarkAll, MayMarkCases}
use Rattle.ct_occurrence.proofs.OperandLemmas.{plain_sorted, plain_mentions}
use Rattle.ct_formulas.specs.declared.tree.Tree.{Tree}
use Rattle.ct_formulas.specs.TreeFormula.{formulas_of_trees}
use Rattle.std.proofs.Math.Seq.{take-append_seam, drop-append_seam}
use Rattle.std.proofs.lemmas.List.{length-append}
use Rattle.ct_occurrence.proofs.MarkLemmas.{or_swapped, marked_same, marked_then, marked_none, marked_append, marked_length, listed_marked, plain_occurs_same}

-- ---- sizes

plain_heavier : (t : Formula) → is_plain t ≡ true → sizes (formulas_under t) < size t
plain_heavier (Con c ts) plain = omega arith
plain_heavier (Sel s t) plain = omega arith
plain_heavier (Test c t) plain = omega arith
plain_heavier (Apply f ts) plain = omega arith
plain_heavier (Not t) plain = omega arith
plain_heavier (And ts) plain = omega arith
plain_heavier (Or ts) plain = omega arith
plain_heavier (Xor ts) plain = omega arith
plain_heavier (Implies ts) plain = omega arith
plain_heavier (Equal ts) plain = omega arith
plain_heavier (Distinct ts) plain = omega arith
plain_heavier (Var k) plain = cc
plain_heavier (Def k ts) plain = cc
plain_heavier (Ite c t u) plain = cc
plain_heavier (Let ts u) plain = cc
plain_heavier (Match t cases) plain = cc
plain_heavier (Quantified q sorts t) plain = cc

pub plain_calls : (P : DefId → Type 0) (t : Formula) → is_plain t ≡ true → CallsAre P t → AllCallsAre P (formulas_under t)
plain_calls P (Con c ts) plain h = h
plain_calls P (Sel s t) plain h = (h, tt)
plain_calls P (Test c t) plain h = (h, tt)
plain_calls P (Apply f ts) plain h = h
plain_calls P (Not t) plain h = (h, tt)
plain_calls P (And ts) plain h = h
plain_calls P (Or ts) plain h = h
plain_calls P (Xor ts) plain h = h
plain_calls P (Implies ts) plain h = h
plain_calls P (Equal ts) plain h = h
plain_calls P (Distinct ts) plain h = h
plain_calls P (Var i) plain h = cc
plain_calls P (Def k ts) plain h = cc
plain_calls P (Ite c t u) plain h = cc
plain_calls P (Let ts u) plain h = cc
plain_calls P (Match t cases) plain h = cc
plain_calls P (Quantified q sorts t) plain h = cc

-- formulas of as many sorts
pub sorted_count : (d : Declarations) (sorts : List SortId) (ts : Formulas) (each : List SortId) → AllSorted d sorts ts each → count_of ts ≡ length each
sorted_count d sorts no_formulas [] h = refl
sorted_count d sorts no_formulas (s ∷ each) h = absurd h
sorted_count d sorts (with_formula t ts) [] h = absurd h
sorted_count d sorts (with_formula t ts) (s ∷ each) h = ap suc (sorted_count d sorts ts each h.1)

-- the flags of a binder's variables, and whether one is set
pub set_below : (p : ℕ → Bool) (n : ℕ) → has_set (flags_below p n) ≡ any_below p n
set_below p zero = refl
set_below p (suc n) = ap (λ (b : Bool). p n || b) (set_below p n)

pub listed_same : (p q : ℕ → Bool) (n : ℕ) → ((i : ℕ) → p i ≡ q i) → flags_below p n ≡ flags_below q n
listed_same p q zero e = refl
listed_same p q (suc n) e = ap₂ (λ (b : Bool) (bs : List Bool). b ∷ bs) (e n) (listed_same p q n e)

set_of_one : (b : Bool) → has_set (b ∷ []) ≡ b
set_of_one true = refl
set_of_one false = refl

module _ (d : Declarations) (uses : DefId → ℕ → Bool) (n : ℕ) (rows : Rows) where
  -- ---- operators

  pub may_plain : (t : Formula) (ts : Formulas) → is_plain t ≡ true → formulas_under t ≡ ts → MayMark d uses n rows t → MayMarkAll d uses n rows ts
  may_plain t ts plain under h =
      let each = plain_sorted d h.sorted.0 t h.sorted.1 plain h.sorted.2 in
      subst (MayMarkAll d uses n rows) under record {
        have = h.have;
        mentions = plain_mentions n t plain h.mentions;
        known = plain_calls (IsKnown rows) t plain h.known;
        sorted = (h.sorted.0, each.0, each.1);
      }

  pub marks_plain : (t : Formula) (ts : Formulas) → is_plain t ≡ true → formulas_under t ≡ ts → (bs : List Bool) → mark_each (occurs_in_some d uses ts) bs ≡ mark_each (occurs d uses t) bs
  marks_plain t ts plain under bs =
      ap (λ (us : Formulas). mark_each (occurs_in_some d uses us) bs) (sym under) ∙ marked_same (occurs_in_some d uses (formulas_under t)) (occurs d uses t) bs (plain_occurs_same d uses t plain)

  -- ---- several formulas

  pub may_first : (t : Formula) (ts : Formulas) → MayMarkAll d uses n rows (with_formula t ts) → MayMark d uses n rows t
  may_first t ts h = record { have = h.have; mentions = h.mentions.0; known = h.known.0; sorted = of h.sorted.1 h.sorted.2 }
    where
      of : (each : List SortId) → AllSorted d h.sorted.0 (with_formula t ts) each → (sorts : List SortId) × (sort : SortId) × IsSorted d sorts t sort
      of [] k = absurd k
      of (s ∷ each) k = (h.sorted.0, s, k.0)

  pub may_rest : (t : Formula) (ts : Formulas) → MayMarkAll d uses n rows (with_formula t ts) → MayMarkAll d uses n rows ts
  may_rest t ts h = record { have = h.have; mentions = h.mentions.1; known = h.known.1; sorted = of h.sorted.1 h.sorted.2 }
    where
      of : (each : List SortId) → AllSorted d h.sorted.0 (with_formula t ts) each → (sorts : List SortId) × (each : List SortId) × AllSorted d sorts ts each
      of [] k = absurd k
      of (s ∷ each) k = (h.sorted.0, each, k.1)

  -- ---- a choice

  pub may_condition : (c t u : Formula) → MayMark d uses n rows (Ite c t u) → MayMark d uses n rows c
  may_condition c t u h = record { have = h.have; mentions = h.mentions.0; known = h.known.0; sorted = (h.sorted.0, bool_sort, h.sorted.2.0) }

  pub may_then : (c t u : Formula) → MayMark d uses n rows (Ite c t u) → MayMark d uses n rows t
  may_then c t u h = record { have = h.have; mentions = h.mentions.1; known = h.known.1; sorted = (h.sorted.0, h.sorted.1, h.sorted.2.1) }

  pub may_else : (c t u : Formula) → MayMark d uses n rows (Ite c t u) → MayMark d uses n rows u
  may_else c t u h = record { have = h.have; mentions = h.mentions.2; known = h.known.2; sorted = (h.sorted.0, h.sorted.1, h.sorted.2.2) }

  pub marks_choice : (c t u : Formula) (bs : List Bool) → mark_each (occurs d uses u) (mark_each (occurs d uses t) (mark_each (occurs d uses c) bs)) ≡ mark_each (occurs d uses (Ite c t u)) bs
  marks_choice c t u bs =
      marked_then (occurs d uses t) (occurs d uses u) (mark_each (occurs d uses c) bs) ∙ marked_then (occurs d uses c) (λ i. occurs d uses t i || occurs d uses u i) bs

  -- ---- a definition with its arguments

  pub may_args : (k : DefId) (ts : Formulas) → MayMark d uses n rows (Def k ts) → MayMarkAll d uses n rows ts
  may_args k ts h = record { have = h.have; mentions = h.mentions.1; known = h.known.1; sorted = (h.sorted.0, h.sorted.2.0.args, h.sorted.2.2) }

  pub row_there : (k : DefId) (ts : Formulas) → MayMark d uses n rows (Def k ts) → (row : List Bool) → row_in rows k ≡ Some row → row ≡ flags_below (uses k) (count_of ts)
  row_there k ts h row at =
      h.have k h.sorted.2.0 row h.mentions.0 h.sorted.2.1 at ∙ ap (flags_below (uses k)) (sym (sorted_count d h.sorted.0 ts h.sorted.2.0.args h.sorted.2.2))

  -- ---- bindings

  pub may_body : (ts : Formulas) (u : Formula) → MayMark d uses n rows (Let ts u) → MayMark d uses n rows u
  may_body ts u h = record { have = h.have; mentions = h.mentions.1; known = h.known.1; sorted = (bind h.sorted.2.0 h.sorted.0, h.sorted.1, h.sorted.2.3) }

  pub may_bound : (ts : Formulas) (u : Formula) → MayMark d uses n rows (Let ts u) → MayMarkAll d uses n rows ts
  may_bound ts u h = record { have = h.have; mentions = h.mentions.0; known = h.known.0; sorted = (h.sorted.0, h.sorted.2.0, h.sorted.2.2) }

  pub marks_let : (ts : Formulas) (u : Formula) (bs : List Bool) → mark_each (occurs_in_bound d uses (occurs d uses u) ts) (mark_each (λ i. occurs d uses u (i + count_of ts)) bs) ≡ mark_each (occurs d uses (Let ts u)) bs
  marks_let ts u bs =
      marked_then (λ i. occurs d uses u (i + count_of ts)) (occurs_in_bound d uses (occurs d uses u) ts) bs ∙ marked_same _ _ bs (λ i. or_swapped (occurs d uses u (i + count_of ts)) (occurs_in_bound d uses (occurs d uses u) ts i))

  -- ---- a quantifier

  pub may_quantified : (q : Quantifier) (sorts : List SortId) (t : Formula) → MayMark d uses n rows (Quantified q sorts t) → MayMark d uses n rows t
  may_quantified q sorts t h = record { have = h.have; mentions = h.mentions; known = h.known; sorted = (bind sorts h.sorted.0, bool_sort, h.sorted.2.1) }

  -- ---- cases

  pub may_matched : (t : Formula) (cases : Cases) → MayMark d uses n rows (Match t cases) → MayMark d uses n rows t
  may_matched t cases h = record { have = h.have; mentions = h.mentions.0; known = h.known.0; sorted = (h.sorted.0, h.sorted.2.0, h.sorted.2.1) }

  pub may_cases : (t : Formula) (cases : Cases) → MayMark d uses n rows (Match t cases) → MayMarkCases d uses n rows cases
  may_cases t cases h = record { have = h.have; mentions = h.mentions.1; known = h.known.1; sorted = (h.sorted.0, h.sorted.2.0, h.sorted.1, h.sorted.2.4) }

  pub may_case : (p : Pattern) (body : Formula) (cases : Cases) → MayMarkCases d uses n rows (with_case p body cases) → MayMark d uses n rows body
  may_case p body cases h = record { have = h.have; mentions = h.mentions.0; known = h.known.0; sorted = (bind h.sorted.3.0.0 h.sorted.0, h.sorted.2, h.sorted.3.0.2) }

  pub may_later : (p : Pattern) (body : Formula) (cases : Cases) → MayMarkCases d uses n rows (with_case p body cases) → MayMarkCases d uses n rows cases
  may_later p body cases h = record { have = h.have; mentions = h.mentions.1; known = h.known.1; sorted = (h.sorted.0, h.sorted.1, h.sorted.2, h.sorted.3.1) }

  pub case_constructor : (c : CtorId) (body : Formula) (cases : Cases) → MayMarkCases d uses n rows (with_case (Ctor c) body cases) → IsConstructor d c
  case_constructor c body cases h = slice_get_within d.ctors c.0 h.sorted.3.0.1.0 h.sorted.3.0.1.1

  pub marks_match : (t : Formula) (cases : Cases) (b : Bool) (bs : List Bool) → b ≡ matched_occurs d uses [] cases → mark_each (λ i. b && occurs d uses t i) (mark_each (occurs_in_cases d uses [] cases) bs) ≡ mark_each (occurs d uses (Match t cases)) bs
  marks_match t cases b bs is =
      marked_then (occurs_in_cases d uses [] cases) (λ i. b && occurs d uses t i) bs ∙ marked_same _ _ bs same
    where
      same : (i : ℕ) → (occurs_in_cases d uses [] cases i || (b && occurs d uses t i)) ≡ ((matched_occurs d uses [] cases && occurs d uses t i) || occurs_in_cases d uses [] cases i)
      same i = or_swapped (occurs_in_cases d uses [] cases i) (b && occurs d uses t i) ∙ ap (λ (x : Bool). (x && occurs d uses t i) || occurs_in_cases d uses [] cases i) is

  -- the last case that is stored
  pub matched_last : (earlier : List CtorId) (c : CtorId) (body : Formula) (cases : Cases) (bound : List Bool) → (surely_fits d earlier c || are_none cases) ≡ true → bound ≡ flags_below (occurs d uses body) (field_count d c) → has_set bound ≡ matched_occurs d uses earlier (with_case (Ctor c) body cases)
  matched_last earlier c body cases bound fits is =
      ap has_set is ∙ (set_below (occurs d uses body) (field_count d c) ∙ sym (ap (λ (b : Bool). not b || any_below (occurs d uses body) (field_count d c)) fits))

  pub marks_last : (earlier : List CtorId) (c : CtorId) (body : Formula) (cases : Cases) (bs : List Bool) → (surely_fits d earlier c || are_none cases) ≡ true → mark_each (λ i. occurs d uses body (i + field_count d c)) bs ≡ mark_each (occurs_in_cases d uses earlier (with_case (Ctor c) body cases)) bs
  marks_last earlier c body cases bs fits = marked_same _ _ bs same
    where
      or_false : (b : Bool) → b ≡ (b || false)
      or_false true = refl
      or_false false = refl

      same : (i : ℕ) → occurs d uses body (i + field_count d c) ≡ (occurs d uses body (i + field_count d c) || (not (surely_fits d earlier c || are_none cases) && occurs_in_cases d uses (c ∷ earlier) cases i))
      same i = or_false (occurs d uses body (i + field_count d c)) ∙ sym (ap (λ (b : Bool). occurs d uses body (i + field_count d c) || (not b && occurs_in_cases d uses (c ∷ earlier) cases i)) fits)

  -- a case before others that are stored
  pub matched_more : (earlier : List CtorId) (c : CtorId) (body : Formula) (cases : Cases) → (surely_fits d earlier c || are_none cases) ≡ false → true ≡ matched_occurs d uses earlier (with_case (Ctor c) body cases)
  matched_more earlier c body cases fits = sym (ap (λ (b : Bool). not b || any_below (occurs d uses body) (field_count d c)) fits)

  pub marks_more : (earlier : List CtorId) (c : CtorId) (body : Formula) (cases : Cases) (bs : List Bool) → (surely_fits d earlier c || are_none cases) ≡ false → mark_each (occurs_in_cases d uses (c ∷ earlier) cases) (mark_each (λ i. occurs d uses body (i + field_count d c)) bs) ≡ mark_each (occurs_in_cases d uses earlier (with_case (Ctor c) body cases)) bs
  marks_more earlier c body cases bs fits =
      marked_then (λ i. occurs d uses body (i + field_count d c)) (occurs_in_cases d uses (c ∷ earlier) cases) bs ∙ marked_same _ _ bs same
    where
      same : (i : ℕ) → (occurs d uses body (i + field_count d c) || occurs_in_cases d uses (c ∷ earlier) cases i) ≡ (occurs d uses body (i + field_count d c) || (not (surely_fits d earlier c || are_none cases) && occurs_in_cases d uses (c ∷ earlier) cases i))
      same i = sym (ap (λ (b : Bool). occurs d uses body (i + field_count d c) || (not b && occurs_in_cases d uses (c ∷ earlier) cases i)) fits)

  -- a case that fits everything
  pub matched_any : (earlier : List CtorId) (body : Formula) (cases : Cases) (bound : List Bool) → bound ≡ flags_below (occurs d uses body) 1 → has_set bound ≡ matched_occurs d uses earlier (with_case Any body cases)
  matched_any earlier body cases bound is = ap has_set is ∙ set_of_one (occurs d uses body 0)

  pub marks_any : (earlier : List CtorId) (body : Formula) (cases : Cases) (bs : List Bool) → mark_each (λ i. occurs d uses body (i + 1)) bs ≡ mark_each (occurs_in_cases d uses earlier (with_case Any body cases)) bs
  marks_any earlier body cases bs = marked_same _ _ bs (λ i. ap (occurs d uses body) (next i))
    where
      next : (i : ℕ) → i + 1 ≡ suc i
      next i = omega arith

-- ---- the loop over several formulas

pub record MarksRest (d : Declarations) (rows : Rows) (all : Formulas) (first : List Bool) (rest : Formulas) (flags : List Bool) : Type 0 where
  pub step : (uses : DefId → ℕ → Bool) (n : ℕ) → MayMarkAll d uses n rows all → MayMarkAll d uses n rows rest × (mark_each (occurs_in_some d uses rest) flags ≡ mark_each (occurs_in_some d uses all) first)
  pub lighter : sizes rest ≤ sizes all

module _ (d : Declarations) (rows : Rows) (all : Formulas) (first : List Bool) (t : Formula) (ts : Formulas) (flags : List Bool) (h : MarksRest d rows all first (with_formula t ts) flags) where
  pub rest_first : (uses : DefId → ℕ → Bool) (n : ℕ) → MayMarkAll d uses n rows all → MayMark d uses n rows t
  rest_first uses n may = may_first d uses n rows t ts (h.step uses n may).0

  pub rest_lighter : size t < sizes all
  rest_lighter = let k = h.lighter in omega arith

  pub rest_more : (later : List Bool) → ((uses : DefId → ℕ → Bool) (n : ℕ) → MayMark d uses n rows t → later ≡ mark_each (occurs d uses t) flags) → MarksRest d rows all first ts later
  rest_more later marks = record {
    step = λ uses n may.
        let k = h.step uses n may in (
          may_rest d uses n rows t ts k.0,
          ap (mark_each (occurs_in_some d uses ts)) (marks uses n (may_first d uses n rows t ts k.0)) ∙ (marked_then (occurs d uses t) (occurs_in_some d uses ts) flags ∙ k.1),
        );
    lighter = let k = h.lighter in omega arith;
  }

pub rest_end : (d : Declarations) (rows : Rows) (all : Formulas) (first flags : List Bool) (uses : DefId → ℕ → Bool) (n : ℕ) → MarksRest d rows all first no_formulas flags → MayMarkAll d uses n rows all → flags ≡ mark_each (occurs_in_some d uses all) first
rest_end d rows all first flags uses n h may = sym (marked_none flags) ∙ (h.step uses n may).1

-- ---- the loop over formulas that are bound

pub record MarksBound (d : Declarations) (rows : Rows) (bound : List Bool) (all : Formulas) (first : List Bool) (left : List Bool) (rest : Formulas) (flags : List Bool) : Type 0 where
  pub step : (inner : ℕ → Bool) (uses : DefId → ℕ → Bool) (n : ℕ) → MayMarkAll d uses n rows all → bound ≡ flags_below inner (count_of all) → MayMarkAll d uses n rows rest × ((left ≡ flags_below inner (count_of rest)) × (mark_each (occurs_in_bound d uses inner rest) flags ≡ mark_each (occurs_in_bound d uses inner all) first))
  pub lighter : sizes rest ≤ sizes all

module _ (d : Declarations) (rows : Rows) (bound : List Bool) (all : Formulas) (first : List Bool) (b : Bool) (left : List Bool) (t : Formula) (ts : Formulas) (flags : List Bool) (h : MarksBound d rows bound all first (b ∷ left) (with_formula t ts) flags) where
  pub bound_first : (inner : ℕ → Bool) (uses : DefId → ℕ → Bool) (n : ℕ) → MayMarkAll d uses n rows all → bound ≡ flags_below inner (count_of all) → MayMark d uses n rows t
  bound_first inner uses n may e = may_first d uses n rows t ts (h.step inner uses n may e).0

  pub bound_lighter : size t < sizes all
  bound_lighter = let k = h.lighter in omega arith

  pub bound_more : (later : List Bool) → ((uses : DefId → ℕ → Bool) (n : ℕ) → MayMark d uses n rows t → later ≡ mark_each (λ i. b && occurs d uses t i) flags) → MarksBound d rows bound all first left ts later
  bound_more later marks = record {
    step = λ inner uses n may e.
        let k = h.step inner uses n may e in
        let p = heads b left (inner (count_of ts)) (flags_below inner (count_of ts)) k.1.0 in (
          may_rest d uses n rows t ts k.0,
          (
            p.1,
            ap (mark_each (occurs_in_bound d uses inner ts)) (marks uses n (may_first d uses n rows t ts k.0))
                ∙ (marked_then (λ i. b && occurs d uses t i) (occurs_in_bound d uses inner ts) flags
                ∙ (ap (λ (x : Bool). mark_each (λ i. (x && occurs d uses t i) || occurs_in_bound d uses inner ts i) flags) p.0 ∙ k.1.1)),
          ),
        );
    lighter = let k = h.lighter in omega arith;
  }
    where
      heads : (x : Bool) (xs : List Bool) (y : Bool) (ys : List Bool) → x ∷ xs ≡ y ∷ ys → (x ≡ y) × (xs ≡ ys)
      heads x xs y ys e = (cc, cc)

pub bound_end : (d : Declarations) (rows : Rows) (bound : List Bool) (all : Formulas) (first left flags : List Bool) (inner : ℕ → Bool) (uses : DefId → ℕ → Bool) (n : ℕ) → MarksBound d rows bound all first left no_formulas flags → MayMarkAll d uses n rows all → bound ≡ flags_below inner (count_of all) → flags ≡ mark_each (occurs_in_bound d uses inner all) first
bound_end d rows bound all first left flags inner uses n h may e = sym (marked_none flags) ∙ (h.step inner uses n may e).1.1

-- the flags do not end before the formulas
pub bound_short : (d : Declarations) (rows : Rows) (bound : List Bool) (all : Formulas) (first : List Bool) (t : Formula) (ts : Formulas) (flags : List Bool) (inner : ℕ → Bool) (uses : DefId → ℕ → Bool) (n : ℕ) → MarksBound d rows bound all first [] (with_formula t ts) flags → MayMarkAll d uses n rows all → bound ≡ flags_below inner (count_of all) → ⊥
bound_short d rows bound all first t ts flags inner uses n h may e = differ (inner (count_of ts)) (flags_below inner (count_of ts)) (h.step inner uses n may e).1.0
  where
    differ : (x : Bool) (xs : List Bool) → [] ≡ x ∷ xs → ⊥
    differ x xs e = cc

-- ---- flags of a binder

module _ (p : ℕ → Bool) (count : ℕ) (first added later : List Bool) (adds : added ≡ first ++ replicate count false) (marks : later ≡ mark_each p added) where
  zeros : (n : ℕ) → length (replicate n false) ≡ n
  zeros zero = refl
  zeros (suc n) = ap suc (zeros n)

  under_split : later ≡ mark_each (λ i. p (i + count)) first ++ flags_below p count
  under_split =
      marks ∙ (ap (mark_each p) adds ∙ (marked_append p first (replicate count false) ∙ ap₂ (λ (xs ys : List Bool). xs ++ ys) (marked_same _ _ first (λ i. ap (λ (m : ℕ). p (i + m)) (zeros count))) (listed_marked p count)))

  pub under_long : length first ≤ length later
  under_long =
      let e : length later ≡ length (mark_each (λ i. p (i + count)) first ++ flags_below p count) = ap length under_split in
      let f = length-append (mark_each (λ i. p (i + count)) first) (flags_below p count) in
      let g = marked_length (λ i. p (i + count)) first in
      omega (arith, e, f, g)

  pub under_take : (at : ℕ) → at ≡ length first → take at later ≡ mark_each (λ i. p (i + count)) first
  under_take at is =
      ap (take at) under_split
      ∙ (ap (λ (m : ℕ). take m (mark_each (λ i. p (i + count)) first ++ flags_below p count)) (is ∙ sym (marked_length (λ i. p (i + count)) first))
      ∙ take-append_seam (mark_each (λ i. p (i + count)) first) (flags_below p count))

  pub under_drop : (at : ℕ) → at ≡ length first → drop at later ≡ flags_below p count
  under_drop at is =
      ap (drop at) under_split
      ∙ (ap (λ (m : ℕ). drop m (mark_each (λ i. p (i + count)) first ++ flags_below p count)) (is ∙ sym (marked_length (λ i. p (i + count)) first))
      ∙ drop-append_seam (mark_each (λ i. p (i + count)) first) (flags_below p count))

-- ---- answers that may be errors

pub ok_then : {T E : Type 0} (r : Result T E) (x y z : List Bool) → y ≡ z → OnOk r (x ≡ y) → OnOk r (x ≡ z)
ok_then (Ok v) x y z e h = h ∙ e
ok_then (Err v) x y z e h = tt

pub counted : (ts : List Tree) → count_of (formulas_of_trees ts) ≡ length ts
counted [] = refl
counted (t ∷ ts) = ap suc (counted ts)

pub heavier_plain : (t : Formula) (ts : Formulas) → is_plain t ≡ true → formulas_under t ≡ ts → sizes ts < size t
heavier_plain t ts plain under = subst (λ (us : Formulas). sizes us < size t) under (plain_heavier t plain)
