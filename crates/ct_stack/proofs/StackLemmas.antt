-- What becomes of the assertion stack where a change of its scope or of its assertions may be refused.
use Rattle.std.proofs.Common.{◌≡◌, ◌∙◌, ℕ, zero, suc, List, [], ◌∷◌, ◌++◌, length, take, Result, Ok, Err, OnOk, OnErr, refl, sym, ap, subst, arith}
use Rattle.ct_sorts.specs.Declarations.{Declarations, Function, with_function, with_definition}
use Rattle.ct_generics.specs.Expression.{Expression}
use Rattle.ct_sorts.specs.Consistent.{IsConsistent}
use Rattle.ct_sorts.specs.Grown.{Begins, Extends}
use Rattle.ct_terms.specs.declared.ids.TermId.{TermId}
use Rattle.ct_formulas.specs.declared.tree.Tree.{Tree}
use Rattle.ct_terms.specs.Terms.{Terms}
use Rattle.ct_formulas.specs.Formula.{Formula}
use Rattle.ct_names.specs.Outcome.{Elaborated}
use Rattle.ct_names.specs.Needs.{ComesTo}
use Rattle.ct_scope.specs.declared.scope.Scope.{Scope}
use Rattle.ct_compile.specs.Effect.{IsPrefix}
use Rattle.ct_stack.specs.Theorems.{Theorems}
use Rattle.ct_stack.specs.Stack.{Context, Level, Stack, declaring, in_context, defined_in}
use Rattle.ct_stack.specs.Elaborations.{with_synonym_of}
use Rattle.ct_stack.specs.Outcomes.{Gives, GivesNeeding}
use Rattle.ct_stack.specs.Refusal.{over}
use Rattle.ct_stack.specs.Held.{IsHeld, IsDefined, as_one, level_in}
use Rattle.ct_stack.specs.Whole.{Whole, stack_of, AreHeld}
use Rattle.ct_stack.specs.declared.levels.LevelMark.{LevelMark}
use Rattle.ct_stack.proofs.NeededLemmas.{comes_grows}
use Rattle.ct_stack.proofs.HeldLemmas.{held_declared, held_defined}
use Rattle.ct_stack.proofs.LevelLemmas.{itself, Grows, held_now, context_now, as_one_is, held_grown, in_context_now, declaring_now}

-- the level with these declarations, definitions and assertions
abbrev pub level : Declarations → List Formula → List Formula → Level
level d bodies asserts = record { context = record { declarations = d; bodies = bodies }; assertions = asserts }

-- the same with a table and numbers
abbrev pub whole : Declarations → List Formula → List Formula → Terms → List TermId → Whole
whole d bodies asserts table numbers = record { level = level d bodies asserts; table = table; numbers = numbers }

-- with other declarations and definitions
module _ (theorems : Theorems) (later earlier : Declarations) (bodies asserts : List Formula) (table : Terms) (numbers : List TermId) (marks : List LevelMark) (held : AreHeld (whole earlier bodies asserts table numbers) marks) where
  grows : (bodies_now : List Formula) → Begins bodies bodies_now → Extends later earlier → Grows (whole later bodies_now asserts table numbers) (whole earlier bodies asserts table numbers)
  grows bodies_now more extends =
      record { declarations = extends; bodies = more; assertions = itself asserts; table = itself table; numbers = itself numbers }

  -- the declarations and definitions are the same
  pub held_with : (bodies_now : List Formula) → later ≡ earlier → bodies_now ≡ bodies → AreHeld (whole later bodies_now asserts table numbers) marks
  held_with bodies_now e f =
      subst (λ (bs : List Formula). AreHeld (whole later bs asserts table numbers) marks) (sym f)
      (subst (λ (d : Declarations). AreHeld (whole d bodies asserts table numbers) marks) (sym e) held)

  module _ (consistent : IsConsistent later) (consistent_before : IsConsistent earlier) where
    pub held_more : (grown : Declarations) → later ≡ grown → Extends grown earlier → grown.definitions ≡ earlier.definitions → AreHeld (whole later bodies asserts table numbers) marks
    held_more grown e more same =
        let extends : Extends later earlier = subst (λ (d : Declarations). Extends d earlier) (sym e) more in
        held_grown theorems (whole later bodies asserts table numbers) (whole earlier bodies asserts table numbers) marks (grows bodies (itself bodies) extends)
        (held_declared theorems later earlier bodies asserts table numbers consistent consistent_before extends (ap (λ (d : Declarations). d.definitions) e ∙ same) (held_now (whole earlier bodies asserts table numbers) marks held)) held

    -- after a declaration that may be refused
    pub held_after : {T E : Type 0} (r : Result T E) (grown : Declarations) → OnOk r (later ≡ grown) → OnErr r (later ≡ earlier) → Extends grown earlier → grown.definitions ≡ earlier.definitions → AreHeld (whole later bodies asserts table numbers) marks
    held_after (Ok x) grown ok err more same = held_more grown ok more same
    held_after (Err e) grown ok err more same = held_with bodies err refl

    -- the same where it is said of what is declared later
    pub held_after_change : {T E : Type 0} (r : Result T E) (P : Declarations → Type 0) → OnOk r (P later) → OnErr r (later ≡ earlier) → ((d : Declarations) → P d → Extends d earlier) → ((d : Declarations) → P d → d.definitions ≡ earlier.definitions) → AreHeld (whole later bodies asserts table numbers) marks
    held_after_change (Ok x) P ok err more same = held_more later refl (more later ok) (same later ok)
    held_after_change (Err e) P ok err more same = held_with bodies err refl

    -- the same of a function
    pub held_after_function : {T E : Type 0} (r : Result T E) (o : Declarations → Elaborated Function) → OnOk r (GivesNeeding o earlier (λ mid f. later ≡ with_function mid f)) → OnErr r (later ≡ earlier) → ((mid : Declarations) (f : Function) → Extends (with_function mid f) mid) → AreHeld (whole later bodies asserts table numbers) marks
    held_after_function (Ok x) o (mid, f, comes, e) err more =
        let first = comes_grows o earlier mid (Ok f) comes in
        held_more (with_function mid f) e (theorems.further (with_function mid f) mid earlier (more mid f) first.extends) first.definitions
    held_after_function (Err e) o ok err more = held_with bodies err refl

    -- and of a definition
    pub held_after_definition : {T E : Type 0} (r : Result T E) (o : Declarations → Elaborated (Function × Formula)) (bodies_now : List Formula) → OnOk r (GivesNeeding o earlier (λ mid f. IsDefined mid later bodies bodies_now f)) → OnErr r ((later ≡ earlier) × (bodies_now ≡ bodies)) → ((mid : Declarations) (f : Function) → Extends (with_definition mid f) mid) → AreHeld (whole later bodies_now asserts table numbers) marks
    held_after_definition (Ok x) o bodies_now (mid, f, comes, defined) err more =
        let first = comes_grows o earlier mid (Ok f) comes in
        let extends : Extends later mid = subst (λ (d : Declarations). Extends d mid) (sym defined.declared) (more mid f.0) in
        let before : IsHeld (level mid bodies asserts) table numbers =
        held_declared theorems mid earlier bodies asserts table numbers defined.consistent consistent_before first.extends first.definitions (held_now (whole earlier bodies asserts table numbers) marks held)
        in
        let now : IsHeld (level later bodies_now asserts) table numbers =
        subst (λ (d : Declarations). IsHeld (level d bodies_now asserts) table numbers) (sym defined.declared)
        (subst (λ (bs : List Formula). IsHeld (level (with_definition mid f.0) bs asserts) table numbers) (sym defined.bodies_are)
        (held_defined theorems mid f.0 bodies asserts f.1 table numbers (subst IsConsistent defined.declared consistent) defined.consistent (more mid f.0) defined.sorted before))
        in
        held_grown theorems (whole later bodies_now asserts table numbers) (whole earlier bodies asserts table numbers) marks (grows bodies_now (f.1 ∷ [], defined.bodies_are) (theorems.further later mid earlier extends first.extends)) now held
    held_after_definition (Err e) o bodies_now ok err more = held_with bodies_now err.0 err.1

  -- what a change of the scope makes of the stack
  module _ (s : Stack) (is : stack_of (level earlier bodies asserts) marks ≡ s) where
    pub declared_here : (grown : Declarations) → later ≡ grown → Extends grown earlier → stack_of (level later bodies asserts) marks ≡ declaring (stack_of (level earlier bodies asserts) marks) grown
    declared_here grown e more =
        declaring_now theorems (whole later bodies asserts table numbers) (whole earlier bodies asserts table numbers) marks later (grows bodies (itself bodies) (subst (λ (d : Declarations). Extends d earlier) (sym e) more)) refl held
        ∙ ap (λ (d : Declarations). declaring (stack_of (level earlier bodies asserts) marks) d) e

    -- what is declared at the innermost level
    own : earlier ≡ (stack_of (level earlier bodies asserts) marks).top.context.declarations
    own = ap (λ (c : Context). c.declarations) (sym (context_now (level earlier bodies asserts) marks))

    pub declared_ok : {T E : Type 0} (r : Result T E) (with : Declarations → Declarations) → OnOk r (later ≡ with earlier) → Extends (with earlier) earlier → OnOk r (stack_of (level later bodies asserts) marks ≡ declaring s (with s.top.context.declarations))
    declared_ok (Ok x) with ok more =
        declared_here (with earlier) ok more
        ∙ ap (λ (d : Declarations). declaring (stack_of (level earlier bodies asserts) marks) (with d)) own
        ∙ ap (λ (t : Stack). declaring t (with t.top.context.declarations)) is
    declared_ok (Err e) with ok more = tt

    -- where it is said of what is declared later
    pub change_ok : {T E : Type 0} (r : Result T E) (P : Declarations → Declarations → Type 0) → OnOk r (P earlier later) → ((d : Declarations) → P earlier d → Extends d earlier) → OnOk r ((grown : Declarations) × P s.top.context.declarations grown × (stack_of (level later bodies asserts) marks ≡ declaring s grown))
    change_ok (Ok x) P ok more = (
      later,
      subst (λ (d : Declarations). P d later) (own ∙ ap (λ (t : Stack). t.top.context.declarations) is) ok,
      declared_here later refl (more later ok) ∙ ap (λ (t : Stack). declaring t later) is,
    )
    change_ok (Err e) P ok more = tt

    -- the same of the stack alone
    pub declared_after : {T E : Type 0} (r : Result T E) (P : Declarations → Type 0) → OnOk r (P later) → ((d : Declarations) → P d → Extends d earlier) → OnOk r (stack_of (level later bodies asserts) marks ≡ declaring s later)
    declared_after (Ok x) P ok more = declared_here later refl (more later ok) ∙ ap (λ (t : Stack). declaring t later) is
    declared_after (Err e) P ok more = tt

    pub declared_err : {T E : Type 0} (r : Result T E) → OnErr r (later ≡ earlier) → OnErr r (stack_of (level later bodies asserts) marks ≡ s)
    declared_err (Ok x) err = tt
    declared_err (Err e) err = ap (λ (d : Declarations). stack_of (level d bodies asserts) marks) err ∙ is

    -- where the step came to these declarations
    from_own : {X : Type 0} (o : Declarations → Elaborated X) (mid : Declarations) (x : X) → ComesTo o earlier mid (Ok x) → ComesTo o s.top.context.declarations mid (Ok x)
    from_own o mid x comes = subst (λ (d : Declarations). ComesTo o d mid (Ok x)) (own ∙ ap (λ (t : Stack). t.top.context.declarations) is) comes

    pub function_ok : {T E : Type 0} (r : Result T E) (o : Declarations → Elaborated Function) → OnOk r (GivesNeeding o earlier (λ mid f. later ≡ with_function mid f)) → ((mid : Declarations) (f : Function) → Extends (with_function mid f) mid) → OnOk r (GivesNeeding o s.top.context.declarations (λ mid f. stack_of (level later bodies asserts) marks ≡ declaring s (with_function mid f)))
    function_ok (Ok x) o (mid, f, comes, e) more =
        let first = comes_grows o earlier mid (Ok f) comes in (
          mid,
          f,
          from_own o mid f comes,
          declared_here (with_function mid f) e (theorems.further (with_function mid f) mid earlier (more mid f) first.extends) ∙ ap (λ (t : Stack). declaring t (with_function mid f)) is,
        )
    function_ok (Err e) o ok more = tt

    bodies_own : bodies ≡ s.top.context.bodies
    bodies_own = ap (λ (c : Context). c.bodies) (sym (context_now (level earlier bodies asserts) marks)) ∙ ap (λ (t : Stack). t.top.context.bodies) is

    defined_here : (mid : Declarations) (f : Function × Formula) (bodies_now : List Formula) → later ≡ with_definition mid f.0 → bodies_now ≡ bodies ++ f.1 ∷ [] → Extends (with_definition mid f.0) earlier → stack_of (level later bodies_now asserts) marks ≡ in_context s (defined_in (over s.top.context mid) f)
    defined_here mid f bodies_now e b more =
        in_context_now theorems (whole later bodies_now asserts table numbers) (whole earlier bodies asserts table numbers) marks (grows bodies_now (f.1 ∷ [], b) (subst (λ (d : Declarations). Extends d earlier) (sym e) more)) refl held
        ∙ ap (λ (d : Declarations). in_context (stack_of (level earlier bodies asserts) marks) (record { declarations = d; bodies = bodies_now })) e
        ∙ ap (λ (bs : List Formula). in_context (stack_of (level earlier bodies asserts) marks) (record { declarations = with_definition mid f.0; bodies = bs })) (b ∙ ap (λ (bs : List Formula). bs ++ f.1 ∷ []) bodies_own)
        ∙ ap (λ (t : Stack). in_context t (record { declarations = with_definition mid f.0; bodies = s.top.context.bodies ++ f.1 ∷ [] })) is

    pub definition_ok : {T E : Type 0} (r : Result T E) (o : Declarations → Elaborated (Function × Formula)) (bodies_now : List Formula) → OnOk r (GivesNeeding o earlier (λ mid f. IsDefined mid later bodies bodies_now f)) → ((mid : Declarations) (f : Function) → Extends (with_definition mid f) mid) → OnOk r (GivesNeeding o s.top.context.declarations (λ mid f. stack_of (level later bodies_now asserts) marks ≡ in_context s (defined_in (over s.top.context mid) f)))
    definition_ok (Ok x) o bodies_now (mid, f, comes, defined) more =
        let first = comes_grows o earlier mid (Ok f) comes in (
          mid,
          f,
          from_own o mid f comes,
          defined_here mid f bodies_now defined.declared defined.bodies_are (theorems.further (with_definition mid f.0) mid earlier (more mid f.0) first.extends),
        )
    definition_ok (Err e) o bodies_now ok more = tt

    pub definition_err : {T E : Type 0} (r : Result T E) (bodies_now : List Formula) → OnErr r ((later ≡ earlier) × (bodies_now ≡ bodies)) → OnErr r (stack_of (level later bodies_now asserts) marks ≡ s)
    definition_err (Ok x) bodies_now err = tt
    definition_err (Err e) bodies_now err =
        ap (λ (d : Declarations). stack_of (level d bodies_now asserts) marks) err.0 ∙ ap (λ (bs : List Formula). stack_of (level earlier bs asserts) marks) err.1 ∙ is

-- all that is in force, of a stack that is seen so
pub one_level : (l : Level) (marks : List LevelMark) (s : Stack) → stack_of l marks ≡ s → as_one s ≡ l
one_level l marks s is = ap as_one (sym is) ∙ as_one_is l marks

-- what is declared at its innermost level
pub declared_in : (l : Level) (marks : List LevelMark) (s : Stack) → stack_of l marks ≡ s → l.context.declarations ≡ s.top.context.declarations
declared_in l marks s is = ap (λ (c : Context). c.declarations) (sym (context_now l marks)) ∙ ap (λ (t : Stack). t.top.context.declarations) is

-- what is held of the same values
pub held_same : (scope : Scope) (asserts_now asserts : List Tree) (table_now table : Terms) (numbers_now numbers : List TermId) → asserts_now ≡ asserts → table_now ≡ table → numbers_now ≡ numbers → IsHeld (level_in scope asserts) table numbers → IsHeld (level_in scope asserts_now) table_now numbers_now
held_same scope asserts_now asserts table_now table numbers_now numbers e f g held =
    subst (λ (ts : List Tree). IsHeld (level_in scope ts) table_now numbers_now) (sym e)
    (subst (λ (t : Terms). IsHeld (level_in scope asserts) t numbers_now) (sym f)
    (subst (λ (ns : List TermId). IsHeld (level_in scope asserts) table ns) (sym g) held))

-- what is left of a table that has grown where it is cut back
pub cut_back : (old grown : Terms) (n : ℕ) → n ≡ length old → IsPrefix old grown → take n grown ≡ old
cut_back old grown n e (more, is) = ap (λ (ts : Terms). take n ts) is ∙ by old n e
  where
    by : (ts : Terms) (k : ℕ) → k ≡ length ts → take k (ts ++ more) ≡ ts
    by [] zero e = refl
    by [] (suc k) e = absurd (omega arith)
    by (t ∷ ts) zero e = absurd (omega arith)
    by (t ∷ ts) (suc k) e = ap (λ (us : Terms). t ∷ us) (by ts k (omega arith))

-- what is given of a synonym, of the assertion stack with it
pub given_declaring : {T E : Type 0} (r : Result T E) (o : Declarations → Result Expression ℕ) (name : List ℕ) (params : List (List ℕ)) (s new : Stack) → OnOk r ((later : Declarations) × Gives (o s.top.context.declarations) (λ e. later ≡ with_synonym_of s.top.context.declarations name params e) × (new ≡ declaring s later)) → OnOk r (Gives (o s.top.context.declarations) (λ e. new ≡ declaring s (with_synonym_of s.top.context.declarations name params e)))
given_declaring (Ok x) o name params s new (later, given, is) = by (o s.top.context.declarations) given
  where
    by : (q : Result Expression ℕ) → Gives q (λ e. later ≡ with_synonym_of s.top.context.declarations name params e) → Gives q (λ e. new ≡ declaring s (with_synonym_of s.top.context.declarations name params e))
    by (Ok e) same = is ∙ ap (λ (d : Declarations). declaring s d) same
    by (Err n) none = absurd none
given_declaring (Err e) o name params s new h = tt
