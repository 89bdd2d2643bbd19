-- Where sorts were added, an outcome that is a value stays: steps one after the other, and the forms of names, patterns and binders.
use Rattle.std.proofs.Common.{◌≡◌, ℕ, suc, Bool, true, false, not, ◌&&◌, is_some, if◌then◌else◌, List, [], ◌∷◌, Option, Some, Result, Ok, Err, refl, sym, ◌∙◌, ap, ap₂, subst}
use Rattle.ct_sexpr.specs.Expression.{Expression as Sexpr, Expressions as Sexprs, leaf, list, none, more}
use Rattle.ct_sorts.specs.declared.ids.SortId.{SortId}
use Rattle.ct_sorts.specs.Declarations.{Declarations, IsSort}
use Rattle.ct_formulas.specs.Formula.{bind}
use Rattle.ct_names.specs.Outcome.{Outcome, Elaborated, and_then, unless_refused, unless_halted, step, refused}
use Rattle.ct_names.specs.Parts.{count, name_of, expression_in, expressions_in}
use Rattle.ct_names.specs.Forms.{is_word, is_binding, are_bindings, bound_name, bound_names, is_pattern_variable, are_variables, is_pattern, is_case, are_cases, is_keyword, is_named_attribute, are_attributes_from, are_attributes}
use Rattle.ct_names.specs.Patterns.{variable_names}
use Rattle.ct_names.specs.Variables.{Variable, ScopeIn, find_from, find, is_named, variables}
use Rattle.ct_names.specs.Elaboration.{part_of, parts_of}
use Rattle.ct_names.proofs.LastingLemmas.{AreSorts}

-- ---- outcomes

-- where the first is a value, so is the second, and this is said of it
abbrev pub Stays : {X E : Type 0} → (X → Type 0) → Result X E → Result X E → Type 0
Stays {X} Q first second = (x : X) → first ≡ Ok x → (second ≡ Ok x) × Q x

-- nothing is said
abbrev pub Any : {X : Type 0} → X → Type 0
Any x = Unit {0}

one_value : {X E : Type 0} (x y : X) → (let r : Result X E = Ok x in r) ≡ Ok y → x ≡ y
one_value x y e = cc

no_value : {X E : Type 0} (n : E) (y : X) → (let r : Result X E = Err n in r) ≡ Ok y → ⊥
no_value n y e = cc

pub stays_ok : {X E : Type 0} (Q : X → Type 0) (x : X) → Q x → Stays {X = X} {E = E} Q (Ok x) (Ok x)
stays_ok Q x q y e = (e, subst Q (one_value x y e) q)

pub stays_err : {X E : Type 0} (Q : X → Type 0) (n : E) (other : Result X E) → Stays Q (Err n) other
stays_err Q n other y e = absurd (no_value n y e)

-- the same outcome
pub stays_same : {X E : Type 0} (Q : X → Type 0) (first second : Result X E) → second ≡ first → ((x : X) → first ≡ Ok x → Q x) → Stays Q first second
stays_same Q first second same q x e = (same ∙ e, q x e)

pub stays_weaker : {X E : Type 0} (P Q : X → Type 0) → ((x : X) → P x → Q x) → (first second : Result X E) → Stays P first second → Stays Q first second
stays_weaker P Q weaker first second h x e = let s = h x e in (s.0, weaker x s.1)

pub stays_then : {X Y E : Type 0} (P : X → Type 0) (Q : Y → Type 0) (first second : Result X E) (f g : X → Result Y E) → Stays P first second → ((x : X) → P x → Stays Q (f x) (g x)) → Stays Q (and_then first f) (and_then second g)
stays_then P Q (Ok x) second f g h next y e =
    let s = h x refl in
    let rest = next x s.1 y e in
    (ap (λ o. and_then o g) s.0 ∙ rest.0, rest.1)
stays_then P Q (Err n) second f g h next y e = absurd (no_value n y e)

pub stays_step : {X : Type 0} (Q : X → Type 0) (first second : Outcome X) → Stays Q first second → Stays Q (step first) (step second)
stays_step Q (Ok x) second h y e =
    let s = h x refl in
    (ap (λ o. step o) s.0 ∙ e, subst Q (one_value x y e) s.1)
stays_step Q (Err n) second h y e = absurd (no_value (refused n) y e)

pub stays_unless : {X : Type 0} (Q : X → Type 0) (b c : Bool) (n : ℕ) (first second : Elaborated X) → c ≡ b → Stays Q first second → Stays Q (unless_halted b n first) (unless_halted c n second)
stays_unless Q b c n first second same h = subst (λ (x : Bool). Stays Q (unless_halted b n first) (unless_halted x n second)) (sym same) (by b)
  where
    by : (x : Bool) → Stays Q (unless_halted x n first) (unless_halted x n second)
    by true = h
    by false = stays_err Q (refused n) (Err (refused n))

-- the test holds where it held
pub stays_halted : {X : Type 0} (Q : X → Type 0) (b c : Bool) (n : ℕ) (first second : Elaborated X) → (b ≡ true → c ≡ true) → (b ≡ true → Stays Q first second) → Stays Q (unless_halted b n first) (unless_halted c n second)
stays_halted Q true c n first second kept h = subst (λ (x : Bool). Stays Q first (unless_halted x n second)) (sym (kept refl)) (h refl)
stays_halted Q false c n first second kept h = stays_err Q (refused n) (unless_halted c n second)

pub stays_unless_refused : {X : Type 0} (Q : X → Type 0) (b c : Bool) (n : ℕ) (first second : Outcome X) → c ≡ b → Stays Q first second → Stays Q (unless_refused b n first) (unless_refused c n second)
stays_unless_refused Q b c n first second same h = subst (λ (x : Bool). Stays Q (unless_refused b n first) (unless_refused x n second)) (sym same) (by b)
  where
    by : (x : Bool) → Stays Q (unless_refused x n first) (unless_refused x n second)
    by true = h
    by false = stays_err Q n (Err n)

-- either branch, by one test
pub stays_if : {X E : Type 0} (Q : X → Type 0) (b c : Bool) (x y v w : Result X E) → c ≡ b → Stays Q x v → Stays Q y w → Stays Q (if b then x else y) (if c then v else w)
stays_if Q b c x y v w same first second = subst (λ (t : Bool). Stays Q (if b then x else y) (if t then v else w)) (sym same) (by b)
  where
    by : (t : Bool) → Stays Q (if t then x else y) (if t then v else w)
    by true = first
    by false = second

-- ---- variables

pub ScopeIn-bind : (d : Declarations) (vs scope : List Variable) → ScopeIn d vs → ScopeIn d scope → ScopeIn d (bind vs scope)
ScopeIn-bind d [] scope inner outer = outer
ScopeIn-bind d (v ∷ vs) scope inner outer = ScopeIn-bind d vs (v ∷ scope) inner.1 (inner.0, outer)

pub ScopeIn-variables : (d : Declarations) (names : List (Option (List ℕ))) (sorts : List SortId) → AreSorts d sorts → ScopeIn d (variables names sorts)
ScopeIn-variables d [] sorts all = tt
ScopeIn-variables d (n ∷ names) [] all = tt
ScopeIn-variables d (n ∷ names) (s ∷ sorts) all = (all.0, ScopeIn-variables d names sorts all.1)

find_from_inside : (d : Declarations) (n : ℕ) (scope : List Variable) (name : List ℕ) (v : ℕ × SortId) → ScopeIn d scope → find_from n scope name ≡ Some v → IsSort d v.1
find_from_inside d n [] name v inside e = absurd cc
find_from_inside d n (x ∷ scope) name v inside e = by (is_named name x.name) e (λ f. find_from_inside d (suc n) scope name v inside.1 f)
  where
    by : (b : Bool) → (if b then Some (n, x.sort) else find_from (suc n) scope name) ≡ Some v → (find_from (suc n) scope name ≡ Some v → IsSort d v.1) → IsSort d v.1
    by true f later = let same : (let w : ℕ × SortId = (n, x.sort) in w) ≡ v = cc in subst (λ (w : ℕ × SortId). IsSort d w.1) same inside.0
    by false f later = later f

pub find_inside : (d : Declarations) (scope : List Variable) (name : List ℕ) (v : ℕ × SortId) → ScopeIn d scope → find scope name ≡ Some v → IsSort d v.1
find_inside d scope name v inside e = find_from_inside d 0 scope name v inside e

-- ---- the forms of expressions do not depend on declarations

module _ (later d : Declarations) where
  pub name_same : (e : Sexpr) → name_of (part_of later e) ≡ name_of (part_of d e)
  name_same (leaf a) = refl
  name_same (list es) = refl

  pub word_same : (w : List ℕ) (e : Sexpr) → is_word w (part_of later e) ≡ is_word w (part_of d e)
  word_same w (leaf a) = refl
  word_same w (list es) = refl

  pub count_same : (es : Sexprs) → count (parts_of later es) ≡ count (parts_of d es)
  count_same none = refl
  count_same (more e es) = ap suc (count_same es)

  pub variable_names_same : (es : Sexprs) → variable_names (parts_of later es) ≡ variable_names (parts_of d es)
  variable_names_same none = refl
  variable_names_same (more e es) = ap₂ (λ n ns. n ∷ ns) (name_same e) (variable_names_same es)

  binding_same : (e : Sexpr) → is_binding (part_of later e) ≡ is_binding (part_of d e)
  binding_same (leaf a) = refl
  binding_same (list none) = refl
  binding_same (list (more x none)) = refl
  binding_same (list (more x (more t none))) = ap (λ (n : Option (List ℕ)). is_some n) (name_same x)
  binding_same (list (more x (more t (more u es)))) = refl

  pub bindings_same : (es : Sexprs) → are_bindings (parts_of later es) ≡ are_bindings (parts_of d es)
  bindings_same none = refl
  bindings_same (more e es) = ap₂ (λ (b c : Bool). b && c) (binding_same e) (bindings_same es)

  bound_name_same : (e : Sexpr) → bound_name (part_of later e) ≡ bound_name (part_of d e)
  bound_name_same (leaf a) = refl
  bound_name_same (list none) = refl
  bound_name_same (list (more x es)) = name_same x

  pub bound_names_same : (es : Sexprs) → bound_names (parts_of later es) ≡ bound_names (parts_of d es)
  bound_names_same none = refl
  bound_names_same (more e es) = ap₂ (λ n ns. n ∷ ns) (bound_name_same e) (bound_names_same es)

  variable_same : (e : Sexpr) → is_pattern_variable (part_of later e) ≡ is_pattern_variable (part_of d e)
  variable_same (leaf a) = refl
  variable_same (list es) = refl

  are_variables_same : (es : Sexprs) → are_variables (parts_of later es) ≡ are_variables (parts_of d es)
  are_variables_same none = refl
  are_variables_same (more e es) = ap₂ (λ (b c : Bool). b && c) (variable_same e) (are_variables_same es)

  pattern_form_same : (e : Sexpr) → is_pattern (part_of later e) ≡ is_pattern (part_of d e)
  pattern_form_same (leaf a) = refl
  pattern_form_same (list none) = refl
  pattern_form_same (list (more c xs)) = ap₂ (λ (n : Option (List ℕ)) (b : Bool). is_some n && b) (name_same c) (are_variables_same xs)

  case_same : (e : Sexpr) → is_case (part_of later e) ≡ is_case (part_of d e)
  case_same (leaf a) = refl
  case_same (list none) = refl
  case_same (list (more p none)) = refl
  case_same (list (more p (more t none))) = pattern_form_same p
  case_same (list (more p (more t (more u es)))) = refl

  pub cases_same : (es : Sexprs) → are_cases (parts_of later es) ≡ are_cases (parts_of d es)
  cases_same none = refl
  cases_same (more e es) = ap₂ (λ (b c : Bool). b && c) (case_same e) (cases_same es)

  keyword_same : (e : Sexpr) → is_keyword (part_of later e) ≡ is_keyword (part_of d e)
  keyword_same (leaf a) = refl
  keyword_same (list es) = refl

  named_same : (e : Sexpr) → is_named_attribute (part_of later e) ≡ is_named_attribute (part_of d e)
  named_same (leaf a) = refl
  named_same (list es) = refl

  attributes_from_same : (b : Bool) (es : Sexprs) → are_attributes_from b (parts_of later es) ≡ are_attributes_from b (parts_of d es)
  attributes_from_same b none = refl
  attributes_from_same b (more e es) =
      ap (λ (k : Bool). if k then not (is_named_attribute (part_of later e)) && are_attributes_from true (parts_of later es) else b && are_attributes_from false (parts_of later es)) (keyword_same e)
      ∙ ap (λ (n : Bool). if is_keyword (part_of d e) then not n && are_attributes_from true (parts_of later es) else b && are_attributes_from false (parts_of later es)) (named_same e)
      ∙ ap₂ (λ (x y : Bool). if is_keyword (part_of d e) then not (is_named_attribute (part_of d e)) && x else b && y) (attributes_from_same true es) (attributes_from_same false es)

  pub attributes_same : (es : Sexprs) → are_attributes (parts_of later es) ≡ are_attributes (parts_of d es)
  attributes_same none = refl
  attributes_same (more e es) = attributes_from_same false (more e es)

mutual
  pub expression_same : (d : Declarations) (e : Sexpr) → expression_in (part_of d e) ≡ e
  expression_same d (leaf a) = refl
  expression_same d (list es) = ap list (expressions_same d es)

  expressions_same : (d : Declarations) (es : Sexprs) → expressions_in (parts_of d es) ≡ es
  expressions_same d none = refl
  expressions_same d (more e es) = ap₂ (λ x xs. more x xs) (expression_same d e) (expressions_same d es)
