-- What an assertion that may be refused makes of the stack.
use Rattle.std.proofs.Common.{◌≡◌, ◌∙◌, ℕ, List, [], ◌∷◌, ◌++◌, length, map, take, Option, None, Some, Result, Ok, Err, OnOk, OnErr, refl, sym, ap, subst, inl, inr}
use Rattle.std.proofs.lemmas.List.{append-nil, map-append, take-map}
use Rattle.std.proofs.Math.Seq.{take-append_seam}
use Rattle.ct_sexpr.specs.Expression.{Expression}
use Rattle.ct_sorts.specs.Consistent.{IsConsistent}
use Rattle.ct_sorts.specs.Declarations.{Declarations, bool_sort}
use Rattle.ct_sorts.specs.Grown.{Begins, Extends}
use Rattle.ct_sorts.specs.Refusals.{IsFirstCause, IsNone, symbol_taken, too_many}
use Rattle.ct_terms.specs.declared.ids.TermId.{TermId}
use Rattle.ct_formulas.specs.declared.tree.Tree.{Tree}
use Rattle.ct_terms.specs.Terms.{Terms}
use Rattle.ct_formulas.specs.Formula.{Formula}
use Rattle.ct_formulas.specs.FormulaSorts.{IsSorted}
use Rattle.ct_formulas.specs.TreeFormula.{formula_of}
use Rattle.ct_names.specs.Needs.{ComesTo}
use Rattle.ct_names.specs.Outcome.{Elaborated}
use Rattle.ct_scope.specs.declared.scope.Scope.{Scope}
use Rattle.ct_compile.specs.Effect.{IsPrefix}
use Rattle.ct_stack.specs.Theorems.{AddSame, Theorems}
use Rattle.ct_stack.specs.Numbers.{too_many_terms}
use Rattle.ct_stack.specs.Stack.{Context, Stack, core, cores, declaring, named_truth, context_with, asserted_as, asserting_as}
use Rattle.ct_stack.specs.Elaborations.{asserted_formula}
use Rattle.ct_stack.specs.Outcomes.{GivesNeeding}
use Rattle.ct_stack.specs.Refusal.{HasManyTerms, HasManyWith, IsTakenLabel, HasNoRoomForLabel, IsLabelledRefusal, IsAssertedRefusal, over}
use Rattle.ct_stack.specs.Held.{IsHeld, IsAsserted, as_one, context_in, level_in}
use Rattle.ct_stack.specs.Whole.{stack_of, AreHeld}
use Rattle.ct_stack.specs.declared.levels.LevelMark.{LevelMark}
use Rattle.ct_stack.proofs.NeededLemmas.{accepted_needing, refused_needing, value_needing}
use Rattle.ct_stack.proofs.HeldLemmas.{held_defined}
use Rattle.ct_stack.proofs.LevelLemmas.{Grows, held_grown, stack_grown, context_now}
use Rattle.ct_stack.proofs.StepLemmas.{no_cause, no_last, last_cause}
use Rattle.ct_stack.proofs.StackLemmas.{level, whole, one_level, declared_in}

-- the label, or the room for its definition, refuses the assertion
abbrev IsLabelRefusal : Context → Option (List ℕ) → ℕ → Type 0
IsLabelRefusal c label = IsFirstCause symbol_taken (IsTakenLabel c.declarations label) (IsFirstCause too_many (HasNoRoomForLabel c.declarations label) IsNone)

module _ (before : List Formula) (c : Context) (label : Option (List ℕ)) (formula : Formula) where
  abbrev Many : Type 0
  Many = HasManyWith before c label formula

  pub label_refused : (n : ℕ) → IsLabelRefusal c label n → IsLabelledRefusal before c label formula n
  label_refused n h =
      elim h [
        | inl taken ↦ inl taken
        | inr later ↦ inr (later.0, elim later.1 [ inl full ↦ inl full | inr none ↦ absurd none.1 ])
      ]

  module _ (accepted : (n : ℕ) → IsLabelRefusal c label n → ⊥) where
    not_taken : IsTakenLabel c.declarations label → ⊥
    not_taken taken = accepted symbol_taken (inl (refl, taken))

    not_full : HasNoRoomForLabel c.declarations label → ⊥
    not_full full = accepted too_many (inr (not_taken, inl (refl, full)))

    pub terms_refused : (n : ℕ) → (n ≡ too_many_terms) × Many → IsLabelledRefusal before c label formula n
    terms_refused n many = inr (not_taken, inr (not_full, last_cause too_many_terms Many n many.0 many.1))

    pub labelled_accepted : (Many → ⊥) → (n : ℕ) → IsLabelledRefusal before c label formula n → ⊥
    labelled_accepted none =
        no_cause symbol_taken (IsTakenLabel c.declarations label) (IsFirstCause too_many (HasNoRoomForLabel c.declarations label) (IsFirstCause too_many_terms Many IsNone)) not_taken
        (no_cause too_many (HasNoRoomForLabel c.declarations label) (IsFirstCause too_many_terms Many IsNone) not_full (no_last too_many_terms Many none))

-- what refuses an assertion
module _ (c : Context) (before : List Formula) (label : Option (List ℕ)) (e : Expression) where
  abbrev formula_in : Declarations → Elaborated Formula
  formula_in d = asserted_formula d e

  abbrev Later : Declarations → Formula → ℕ → Type 0
  Later later formula = IsLabelledRefusal before (over c later) label formula

  pub no_formula : (later : Declarations) (n : ℕ) → ComesTo formula_in c.declarations later (Err n) → IsAssertedRefusal c before label e n
  no_formula later n h = refused_needing formula_in c.declarations Later later n h

  module _ (later : Declarations) (formula : Formula) (h : ComesTo formula_in c.declarations later (Ok formula)) where
    pub assert_refused : (n : ℕ) → IsLabelledRefusal before (over c later) label formula n → IsAssertedRefusal c before label e n
    assert_refused n why = value_needing formula_in c.declarations Later later formula n h why

    pub assert_accepted : AddSame → {T E : Type 0} (r : Result T E) → OnOk r ((n : ℕ) → IsLabelledRefusal before (over c later) label formula n → ⊥) → OnOk r ((n : ℕ) → IsAssertedRefusal c before label e n → ⊥)
    assert_accepted add_same (Ok x) none = accepted_needing add_same formula_in c.declarations Later later formula h none
    assert_accepted add_same (Err f) none = tt

    pub assert_given : {T E : Type 0} (r : Result T E) (now : Context) (asserts asserts_now : List Tree) (tree : Tree) → now ≡ context_with (over c later) label formula → formula_of tree ≡ asserted_as (over c later) label formula → OnOk r (asserts_now ≡ asserts ++ tree ∷ []) → OnOk r (GivesNeeding formula_in c.declarations (λ d f. IsAsserted (over c d) now asserts asserts_now label f))
    assert_given (Ok x) now asserts asserts_now tree same is added = (later, formula, h, record { context_is = same; with_one = record { tree = tree; added = added; formula_is = is } })
    assert_given (Err f) now asserts asserts_now tree same is added = tt

-- where the core terms with the assertion are not too many, over the context that its label leads to
pub fits_labelled : {T E : Type 0} (r : Result T E) (before : List Formula) (now c : Context) (label : Option (List ℕ)) (formula own : Formula) → now ≡ context_with c label formula → own ≡ asserted_as c label formula → OnOk r (HasManyTerms (cores now before ++ core now own ∷ []) → ⊥) → OnOk r (HasManyWith before c label formula → ⊥)
fits_labelled r before now c label formula own same is h =
    subst (λ (g : Formula). OnOk r (HasManyTerms (cores (context_with c label formula) before ++ core (context_with c label formula) g ∷ []) → ⊥)) is
    (subst (λ (k : Context). OnOk r (HasManyTerms (cores k before ++ core k own ∷ []) → ⊥)) same h)

pub many_labelled : (before : List Formula) (now c : Context) (label : Option (List ℕ)) (formula own : Formula) → now ≡ context_with c label formula → own ≡ asserted_as c label formula → HasManyTerms (cores now before ++ core now own ∷ []) → HasManyWith before c label formula
many_labelled before now c label formula own same is h =
    subst (λ (g : Formula). HasManyTerms (cores (context_with c label formula) before ++ core (context_with c label formula) g ∷ [])) is
    (subst (λ (k : Context). HasManyTerms (cores k before ++ core k own ∷ [])) same h)

-- and so it is accepted
pub accepted_labelled : {T E : Type 0} (r : Result T E) (before : List Formula) (c : Context) (label : Option (List ℕ)) (formula : Formula) → ((n : ℕ) → IsLabelRefusal c label n → ⊥) → OnOk r (HasManyWith before c label formula → ⊥) → OnOk r ((n : ℕ) → IsLabelledRefusal before c label formula n → ⊥)
accepted_labelled (Ok x) before c label formula accepted none = labelled_accepted before c label formula accepted none
accepted_labelled (Err f) before c label formula accepted none = tt

-- a context that a label leads to begins with the one before it
pub label_grows : Theorems → (c : Context) (label : Option (List ℕ)) (formula : Formula) → Extends (context_with c label formula).declarations c.declarations
label_grows theorems c None formula = theorems.itself c.declarations
label_grows theorems c (Some name) formula = theorems.more_definitions c.declarations (named_truth name)

pub label_bodies : (c : Context) (label : Option (List ℕ)) (formula : Formula) → Begins c.bodies (context_with c label formula).bodies
label_bodies c None formula = ([], sym (append-nil c.bodies))
label_bodies c (Some name) formula = (formula ∷ [], refl)

-- what is held stays so over the context that a label leads to
pub label_held : Theorems → (c : Context) (label : Option (List ℕ)) (formula : Formula) (asserts : List Formula) (table : Terms) (numbers : List TermId) → IsConsistent (context_with c label formula).declarations → IsConsistent c.declarations → IsSorted c.declarations [] formula bool_sort → IsHeld (record { context = c; assertions = asserts }) table numbers → IsHeld (record { context = context_with c label formula; assertions = asserts }) table numbers
label_held theorems c None formula asserts table numbers consistent before sorted held = held
label_held theorems c (Some name) formula asserts table numbers consistent before sorted held =
    held_defined theorems c.declarations (named_truth name) c.bodies asserts formula table numbers consistent before (theorems.more_definitions c.declarations (named_truth name)) sorted held

-- where nothing was cut it is said of what can be named then
pub kept_given : {T E : Type 0} (r : Result T E) (P : Declarations → List Formula → Type 0) (sig mid : Declarations) (now before : List Tree) → OnOk r ((sig ≡ mid) × (now ≡ before)) → OnOk r (P mid (map formula_of before)) → OnOk r (P sig (map formula_of now))
kept_given (Ok x) P sig mid now before same h =
    subst (λ (d : Declarations). P d (map formula_of now)) (sym same.0) (subst (λ (bs : List Tree). P mid (map formula_of bs)) (sym same.1) h)
kept_given (Err f) P sig mid now before same h = tt

-- both parts of what holds after an error
pub err_first : {T E : Type 0} (r : Result T E) (P Q : Type 0) → OnErr r (P × Q) → OnErr r P
err_first (Ok x) P Q h = tt
err_first (Err f) P Q h = h.0

pub err_second : {T E : Type 0} (r : Result T E) (P Q : Type 0) → OnErr r (P × Q) → OnErr r Q
err_second (Ok x) P Q h = tt
err_second (Err f) P Q h = h.1

-- the bodies after an error, where they are cut to as many as there were
pub bodies_back : {T E : Type 0} (r : Result T E) (now mid before : List Tree) (n : ℕ) → n ≡ length (map formula_of before) → Begins (map formula_of before) (map formula_of mid) → OnErr r (now ≡ take n mid) → OnErr r (map formula_of now ≡ map formula_of before)
bodies_back (Ok x) now mid before n many begins back = tt
bodies_back (Err f) now mid before n many (more, is) back =
    ap (map formula_of) back
    ∙ sym (take-map formula_of n mid)
    ∙ ap (take n) is
    ∙ ap (λ (k : ℕ). take k (map formula_of before ++ more)) many
    ∙ take-append_seam (map formula_of before) more

-- the assertion stack after an assertion that may be refused
module _ (theorems : Theorems) {T E : Type 0} (r : Result T E) (sig earlier : Declarations) (bodies_now bodies : List Formula) (asserts_now asserts : List Tree) (table_now table : Terms) (numbers_now numbers : List TermId) (marks : List LevelMark) (held : AreHeld (whole earlier bodies (map formula_of asserts) table numbers) marks) (e : Expression) (label : Option (List ℕ)) (ok : OnOk r (GivesNeeding (λ d. asserted_formula d e) earlier (λ d f. IsAsserted (record { declarations = d; bodies = bodies }) (record { declarations = sig; bodies = bodies_now }) asserts asserts_now label f))) (extends : OnOk r (Extends sig earlier)) (more_bodies : OnOk r (Begins bodies bodies_now)) (grown : IsPrefix table table_now) (longer : Begins numbers numbers_now) (back : OnErr r (sig ≡ earlier)) (back_bodies : OnErr r (bodies_now ≡ bodies)) (unchanged : OnErr r (asserts_now ≡ asserts)) (table_same : OnErr r (table_now ≡ table)) (numbers_same : OnErr r (numbers_now ≡ numbers)) where
  abbrev Given : Result T E → Type 0
  Given q = OnOk q (GivesNeeding (λ d. asserted_formula d e) earlier (λ d f. IsAsserted (record { declarations = d; bodies = bodies }) (record { declarations = sig; bodies = bodies_now }) asserts asserts_now label f))

  one_more : (tree : Tree) → asserts_now ≡ asserts ++ tree ∷ [] → map formula_of asserts_now ≡ map formula_of asserts ++ formula_of tree ∷ []
  one_more tree added = ap (map formula_of) added ∙ map-append formula_of asserts (tree ∷ [])

  grows : Extends sig earlier → Begins bodies bodies_now → (tree : Tree) → asserts_now ≡ asserts ++ tree ∷ [] → Grows (whole sig bodies_now (map formula_of asserts_now) table_now numbers_now) (whole earlier bodies (map formula_of asserts) table numbers)
  grows more wider tree added = record { declarations = more; bodies = wider; assertions = (formula_of tree ∷ [], one_more tree added); table = grown; numbers = longer }

  pub held_at_end : OnOk r (IsHeld (level sig bodies_now (map formula_of asserts_now)) table_now numbers_now) → AreHeld (whole sig bodies_now (map formula_of asserts_now) table_now numbers_now) marks
  held_at_end = by r ok extends more_bodies back back_bodies unchanged table_same numbers_same
    where
      by : (q : Result T E) → Given q → OnOk q (Extends sig earlier) → OnOk q (Begins bodies bodies_now) → OnErr q (sig ≡ earlier) → OnErr q (bodies_now ≡ bodies) → OnErr q (asserts_now ≡ asserts) → OnErr q (table_now ≡ table) → OnErr q (numbers_now ≡ numbers) → OnOk q (IsHeld (level sig bodies_now (map formula_of asserts_now)) table_now numbers_now) → AreHeld (whole sig bodies_now (map formula_of asserts_now) table_now numbers_now) marks
      by (Ok x) (later, f, comes, is) more wider _ _ _ _ _ now =
          held_grown theorems (whole sig bodies_now (map formula_of asserts_now) table_now numbers_now) (whole earlier bodies (map formula_of asserts) table numbers) marks (grows more wider is.with_one.tree is.with_one.added) now held
      by (Err x) _ _ _ d b a t n _ =
          subst (λ (x : Declarations). AreHeld (whole x bodies_now (map formula_of asserts_now) table_now numbers_now) marks) (sym d)
          (subst (λ (x : List Formula). AreHeld (whole earlier x (map formula_of asserts_now) table_now numbers_now) marks) (sym b)
          (subst (λ (x : List Tree). AreHeld (whole earlier bodies (map formula_of x) table_now numbers_now) marks) (sym a)
          (subst (λ (x : Terms). AreHeld (whole earlier bodies (map formula_of asserts) x numbers_now) marks) (sym t)
          (subst (λ (x : List TermId). AreHeld (whole earlier bodies (map formula_of asserts) table x) marks) (sym n) held))))

  -- the stack as it was held
  abbrev own : Stack
  own = stack_of (level earlier bodies (map formula_of asserts)) marks

  module _ (s : Stack) (is : own ≡ s) where
    pub asserted_ok : OnOk r (GivesNeeding (λ d. asserted_formula d e) s.top.context.declarations (λ later formula. stack_of (level sig bodies_now (map formula_of asserts_now)) marks ≡ asserting_as (declaring s later) label formula))
    asserted_ok = by r ok extends more_bodies
      where
        by : (q : Result T E) → Given q → OnOk q (Extends sig earlier) → OnOk q (Begins bodies bodies_now) → OnOk q (GivesNeeding (λ d. asserted_formula d e) s.top.context.declarations (λ later formula. stack_of (level sig bodies_now (map formula_of asserts_now)) marks ≡ asserting_as (declaring s later) label formula))
        by (Ok x) (later, f, comes, with_it) more wider = (
          later,
          f,
          subst (λ (d : Declarations). ComesTo (λ d. asserted_formula d e) d later (Ok f)) (declared_in (level earlier bodies (map formula_of asserts)) marks s is) comes,
          stack_grown theorems (whole sig bodies_now (map formula_of asserts_now) table_now numbers_now) (whole earlier bodies (map formula_of asserts) table numbers) marks (formula_of with_it.with_one.tree ∷ []) (grows more wider with_it.with_one.tree with_it.with_one.added) (one_more with_it.with_one.tree with_it.with_one.added) held
              ∙ ap (λ (k : Context). record { top = record { context = k; assertions = own.top.assertions ++ formula_of with_it.with_one.tree ∷ [] }; below = own.below }) with_it.context_is
              ∙ ap (λ (g : Formula). record { top = record { context = context_with (record { declarations = later; bodies = bodies }) label f; assertions = own.top.assertions ++ g ∷ [] }; below = own.below }) with_it.with_one.formula_is
              ∙ ap (λ (k : Context). record { top = record { context = context_with (over k later) label f; assertions = own.top.assertions ++ asserted_as (over k later) label f ∷ [] }; below = own.below }) (sym (context_now (level earlier bodies (map formula_of asserts)) marks))
              ∙ ap (λ (t : Stack). asserting_as (declaring t later) label f) is,
        )
        by (Err x) _ _ _ = tt

    pub asserted_err : OnErr r (stack_of (level sig bodies_now (map formula_of asserts_now)) marks ≡ s)
    asserted_err = by r back back_bodies unchanged
      where
        by : (q : Result T E) → OnErr q (sig ≡ earlier) → OnErr q (bodies_now ≡ bodies) → OnErr q (asserts_now ≡ asserts) → OnErr q (stack_of (level sig bodies_now (map formula_of asserts_now)) marks ≡ s)
        by (Ok x) _ _ _ = tt
        by (Err x) d b a =
            ap (λ (x : Declarations). stack_of (level x bodies_now (map formula_of asserts_now)) marks) d
            ∙ ap (λ (bs : List Formula). stack_of (level earlier bs (map formula_of asserts_now)) marks) b
            ∙ ap (λ (ts : List Tree). stack_of (level earlier bodies (map formula_of ts)) marks) a
            ∙ is

-- all that is asserted, of a stack that is seen so
pub same_level : (d : Declarations) (bodies : List Formula) (asserts : List Tree) (marks : List LevelMark) (s : Stack) → stack_of (level d bodies (map formula_of asserts)) marks ≡ s → level d bodies (map formula_of asserts) ≡ as_one s
same_level d bodies asserts marks s is = sym (one_level (level d bodies (map formula_of asserts)) marks s is)

-- the numbers have one more at the end, or are the same
pub one_longer : (later now before : List TermId) (t : TermId) → later ≡ now ++ t ∷ [] → now ≡ before → Begins before later
one_longer later now before t e same = (t ∷ [], e ∙ ap (λ (ns : List TermId). ns ++ t ∷ []) same)

pub no_longer : (later before : List TermId) → later ≡ before → Begins before later
no_longer later before same = ([], same ∙ sym (append-nil before))

-- with one assertion and its core term put at the ends
pub held_put : (scope : Scope) (now before : List Tree) (tree : Tree) (table : Terms) (numbers_now numbers : List TermId) (t : TermId) → now ≡ before ++ tree ∷ [] → numbers_now ≡ numbers ++ t ∷ [] → IsHeld (record { context = context_in scope; assertions = map formula_of before ++ formula_of tree ∷ [] }) table (numbers ++ t ∷ []) → IsHeld (level_in scope now) table numbers_now
held_put scope now before tree table numbers_now numbers t e f held =
    subst (λ (ns : List TermId). IsHeld (level_in scope now) table ns) (sym f)
    (subst (λ (ts : List Tree). IsHeld (level_in scope ts) table (numbers ++ t ∷ [])) (sym e)
    (subst (λ (fs : List Formula). IsHeld (record { context = context_in scope; assertions = fs }) table (numbers ++ t ∷ [])) (sym (map-append formula_of before (tree ∷ []))) held))
