-- What functions and definitions are, step by step, up to the first error.
use Rattle.std.proofs.Common.{◌≡◌, ◌∙◌, ℕ, Bool, true, false, not, List, [], ◌∷◌, ◌++◌, length, map, Option, Some, Result, Ok, Err, OnOk, OnErr, All, refl, sym, ap, subst, inl, inr, arith}
use Rattle.std.proofs.lemmas.Bool.Decides.{Decides-eqb}
use Rattle.std.proofs.lemmas.List.{length-map}
use Rattle.std.proofs.lemmas.List.Elements.{All-nil, All-cons, All-head, All-tail}
use Rattle.ct_sexpr.specs.Expression.{Expression}
use Rattle.ct_sorts.specs.declared.ids.SortId.{SortId}
use Rattle.ct_sorts.specs.Availability.{IsUnavailable}
use Rattle.ct_sorts.specs.Declarations.{Declarations, Function, IsSort, symbol_names, with_function, with_definition}
use Rattle.ct_sorts.specs.Grown.{Extends}
use Rattle.ct_sorts.specs.Refusals.{IsFirstCause, IsNone, symbol_taken, too_many}
use Rattle.ct_formulas.specs.Formula.{Formula, bind}
use Rattle.ct_formulas.specs.FormulaSorts.{IsSorted}
use Rattle.ct_names.specs.declared.variables.Param.{Param}
use Rattle.ct_names.specs.Bounds.{variable_of_param, parameter_variables}
use Rattle.ct_names.specs.Outcome.{Outcome, Elaborated, Sorted, and_then, unless_halted, is_sort, refused}
use Rattle.ct_names.specs.Needs.{Grows, ComesTo}
use Rattle.ct_names.specs.Refusals.{wrong_sort, repeated_variable}
use Rattle.ct_names.specs.Sorts.{sort_of}
use Rattle.ct_names.specs.Variables.{Variable, variables, variable_sorts, has_repeated}
use Rattle.ct_names.specs.Elaboration.{elaborated}
use Rattle.ct_names.proofs.NeedLemmas.{reaches_grows, grows_further}
use Rattle.ct_command.specs.Command.{Named}
use Rattle.ct_stack.specs.Outcomes.{GivesNeeding, each_of}
use Rattle.ct_stack.specs.Elaborations.{declared_function, defined_function, body_of, parameter_names, parameter_sorts}
use Rattle.ct_stack.specs.Refusal.{IsErrorNeeding}
use Rattle.ct_stack.specs.Theorems.{AddSame, Theorems}
use Rattle.ct_stack.proofs.StepLemmas.{later_cause, no_cause}
use Rattle.ct_stack.proofs.NeededLemmas.{comes_error, comes_same, comes_stop, comes_then, comes_last, comes_no_last, comes_grows, value_there, accepted_needing, value_needing, refused_needing, same_names}

-- as many values as steps
pub each_long : {X Y E : Type 0} (step : X → Result Y E) (xs : List X) (ys : List Y) → each_of step xs ≡ Ok ys → length ys ≡ length xs
each_long {X} {Y} step [] ys e =
    let as_it_is : [] ≡ ys = cc in
    sym (ap (λ (zs : List Y). length zs) as_it_is)
each_long {X} {Y} {E} step (x ∷ xs) ys e = by (step x) (each_of step xs) (each_long step xs) e
  where
    by : (o : Result Y E) (p : Result (List Y) E) → ((zs : List Y) → p ≡ Ok zs → length zs ≡ length xs) → and_then o (λ y. and_then p (λ ys. Ok (y ∷ ys))) ≡ Ok ys → length ys ≡ length (x ∷ xs)
    by (Err n) p rest e = absurd cc
    by (Ok y) (Err n) rest e = absurd cc
    by (Ok y) (Ok zs) rest e =
        let as_it_is : y ∷ zs ≡ ys = cc in
        omega (arith, rest zs refl, ap (λ (ws : List Y). length ws) as_it_is)

map_bind : {X Y : Type 0} (f : X → Y) (xs env : List X) → map f (bind xs env) ≡ bind (map f xs) (map f env)
map_bind f [] env = refl
map_bind f (x ∷ xs) env = map_bind f xs (x ∷ env)

sorts_of_variables : (names : List (Option (List ℕ))) (sorts : List SortId) → length sorts ≡ length names → variable_sorts (variables names sorts) ≡ sorts
sorts_of_variables [] [] e = refl
sorts_of_variables [] (s ∷ sorts) e = absurd (omega arith)
sorts_of_variables (name ∷ names) [] e = absurd (omega arith)
sorts_of_variables (name ∷ names) (s ∷ sorts) e = ap (λ (ss : List SortId). s ∷ ss) (sorts_of_variables names sorts (omega arith))

-- the sorts of parameters, as those of the variables that they are
pub parameter_sorts_are : (params : List Param) → variable_sorts (parameter_variables params) ≡ bind (map (λ (p : Param). p.sort) params) []
parameter_sorts_are params = map_bind (λ (v : Variable). v.sort) (map variable_of_param params) [] ∙ ap (λ (ss : List SortId). bind ss []) (fused params)
  where
    fused : (ps : List Param) → map (λ (v : Variable). v.sort) (map variable_of_param ps) ≡ map (λ (p : Param). p.sort) ps
    fused [] = refl
    fused (p ∷ ps) = ap (λ (ss : List SortId). p.sort ∷ ss) (fused ps)

-- parameters have the sorts that variables of their names have
pub params_inside : (d : Declarations) (params : List Param) (names : List (Option (List ℕ))) (sorts : List SortId) → map variable_of_param params ≡ variables names sorts → All (IsSort d) sorts → All (λ (p : Param). IsSort d p.sort) params
params_inside d [] names sorts e all = All-nil (λ (p : Param). IsSort d p.sort)
params_inside d (p ∷ ps) [] sorts e all = absurd cc
params_inside d (p ∷ ps) (n ∷ ns) [] e all = absurd cc
params_inside d (p ∷ ps) (n ∷ ns) (s ∷ ss) e all =
    let first : variable_of_param p ≡ record { name = n; sort = s } = cc in
    let rest : map variable_of_param ps ≡ variables ns ss = cc in
    All-cons (λ (q : Param). IsSort d q.sort) p ps (subst (IsSort d) (sym (ap (λ (v : Variable). v.sort) first)) (All-head (IsSort d) s ss all)) (params_inside d ps ns ss rest (All-tail (IsSort d) s ss all))

abbrev pub function : List ℕ → List SortId → SortId → Function
function name args result = record { name = name; args = args; result = result }

-- the steps of a function
module _ (name : List ℕ) (ts : List Expression) (sort : Expression) (old : Declarations) where
  abbrev args_in : Declarations → Elaborated (List SortId)
  args_in d = each_of (sort_of d) ts

  abbrev with_args : Declarations → List SortId → Elaborated Function
  with_args d sorts = and_then (sort_of d sort) (λ result. Ok (function name sorts result))

  pub no_args : (later : Declarations) (n : ℕ) → ComesTo args_in old later (Err n) → ComesTo (λ d. declared_function d name ts sort) old later (Err n)
  no_args later n h = comes_stop args_in with_args old later n h

  module _ (middle : Declarations) (args : List SortId) (first : ComesTo args_in old middle (Ok args)) (lasts : (n : Declarations) → Grows n middle → args_in n ≡ Ok args) where
    pub no_sort : (later : Declarations) (n : ℕ) → ComesTo (λ d. sort_of d sort) middle later (Err n) → ComesTo (λ d. declared_function d name ts sort) old later (Err n)
    no_sort later n h = comes_then args_in with_args old middle later args (Err n) first lasts (comes_stop (λ d. sort_of d sort) (λ _ result. Ok (function name args result)) middle later n h)

    module _ (later : Declarations) (result : SortId) (second : ComesTo (λ d. sort_of d sort) middle later (Ok result)) where
      pub both_sorts : ComesTo (λ d. declared_function d name ts sort) old later (Ok (function name args result))
      both_sorts = comes_then args_in with_args old middle later args (Ok (function name args result)) first lasts (comes_last (λ d. sort_of d sort) (λ _ result. Ok (function name args result)) middle later result second (function name args result) refl)

      pub both_last : ((n : Declarations) → Grows n later → sort_of n sort ≡ Ok result) → (n : Declarations) → Grows n later → declared_function n name ts sort ≡ Ok (function name args result)
      both_last also n grows =
          let further = grows_further n later middle grows (comes_grows (λ d. sort_of d sort) middle later (Ok result) second) in
          ap (λ o. and_then o (with_args n)) (lasts n further) ∙ ap (λ o. and_then o (λ result. Ok (function name args result))) (also n grows)

abbrev pub id : ℕ → SortId
id n = record { 0 = n }

-- sorts with one number are one
pub same_sort : (s t : SortId) → is_sort s t ≡ true → s ≡ t
same_sort s t e =
    let as_it_is : s.0 ≡ t.0 = (Decides-eqb s.0 t.0).0 e in
    ap id as_it_is

-- the steps of a definition
module _ (name : List ℕ) (params : List Named) (sort t : Expression) (old : Declarations) where
  abbrev names : List (Option (List ℕ))
  names = map (λ name. Some name) (parameter_names params)

  abbrev definition_in : Declarations → Elaborated (Function × Formula)
  definition_in d = defined_function d name params sort t

  abbrev function_in : Declarations → Elaborated Function
  function_in d = declared_function d name (parameter_sorts params) sort

  abbrev with_body : Declarations → Function → Elaborated (Function × Formula)
  with_body d f = and_then (body_of d (parameter_names params) f t) (λ body. Ok (f, body))

  pub repeated : has_repeated (parameter_names params) ≡ true → ComesTo definition_in old old (Err repeated_variable)
  repeated e = comes_error definition_in old repeated_variable (ap (λ (b : Bool). unless_halted (not b) repeated_variable (and_then (function_in old) (with_body old))) e)

  module _ (unrepeated : has_repeated (parameter_names params) ≡ false) where
    on : (d : Declarations) → definition_in d ≡ and_then (function_in d) (with_body d)
    on d = ap (λ (b : Bool). unless_halted (not b) repeated_variable (and_then (function_in d) (with_body d))) unrepeated

    pub no_function : (later : Declarations) (n : ℕ) → ComesTo function_in old later (Err n) → ComesTo definition_in old later (Err n)
    no_function later n h = comes_same (λ d. and_then (function_in d) (with_body d)) definition_in old later (Err n) on (comes_stop function_in with_body old later n h)

    module _ (middle : Declarations) (f : Function) (first : ComesTo function_in old middle (Ok f)) (lasts : (n : Declarations) → Grows n middle → function_in n ≡ Ok f) (scope : List Variable) (is : bind (variables names f.args) [] ≡ scope) where
      abbrev term_in : Declarations → Elaborated Sorted
      term_in d = elaborated d scope t

      abbrev checked : Declarations → Sorted → Elaborated Formula
      checked d body = unless_halted (is_sort body.1 f.result) wrong_sort (Ok body.0)

      abbrev body_in : Declarations → Elaborated Formula
      body_in d = body_of d (parameter_names params) f t

      body_is : (d : Declarations) → body_in d ≡ and_then (term_in d) (checked d)
      body_is d = ap (λ (vs : List Variable). and_then (elaborated d vs t) (checked d)) is

      with_f : (later : Declarations) (o : Outcome (Function × Formula)) → ComesTo (λ d. with_body d f) middle later o → ComesTo definition_in old later o
      with_f later o h = comes_same (λ d. and_then (function_in d) (with_body d)) definition_in old later o on (comes_then function_in with_body old middle later f o first lasts h)

      stops : (later : Declarations) (n : ℕ) → ComesTo (λ d. and_then (term_in d) (checked d)) middle later (Err n) → ComesTo definition_in old later (Err n)
      stops later n h = with_f later (Err n) (comes_stop body_in (λ _ body. Ok (f, body)) middle later n (comes_same (λ d. and_then (term_in d) (checked d)) body_in middle later (Err n) body_is h))

      pub no_term : (later : Declarations) (n : ℕ) → ComesTo term_in middle later (Err n) → ComesTo definition_in old later (Err n)
      no_term later n h = stops later n (comes_stop term_in checked middle later n h)

      module _ (later : Declarations) (body : Formula) (found : SortId) (second : ComesTo term_in middle later (Ok (body, found))) where
        pub other_sort : is_sort found f.result ≡ false → ComesTo definition_in old later (Err wrong_sort)
        other_sort differs = stops later wrong_sort (comes_no_last term_in checked middle later (body, found) second wrong_sort (ap (λ (b : Bool). unless_halted b wrong_sort (Ok body)) differs))

        pub defined : is_sort found f.result ≡ true → ComesTo definition_in old later (Ok (f, body))
        defined as_it_is =
            with_f later (Ok (f, body))
            (comes_last body_in (λ _ body. Ok (f, body)) middle later body
            (comes_same (λ d. and_then (term_in d) (checked d)) body_in middle later (Ok body) body_is
            (comes_last term_in checked middle later (body, found) second body (ap (λ (b : Bool). unless_halted b wrong_sort (Ok body)) as_it_is)))
            (f, body) refl)

        -- the sorts under which the body is elaborated
        pub body_sorted : each_of (sort_of middle) (parameter_sorts params) ≡ Ok f.args → IsSorted later (variable_sorts scope) body found → is_sort found f.result ≡ true → IsSorted later (bind f.args []) body f.result
        body_sorted sorts h e =
            let sorts_are : variable_sorts scope ≡ bind f.args [] =
            ap variable_sorts (sym is)
            ∙ map_bind (λ (v : Variable). v.sort) (variables names f.args) []
            ∙ ap (λ (ss : List SortId). bind ss [])
            (sorts_of_variables names f.args (each_long (sort_of middle) (parameter_sorts params) f.args sorts ∙ length-map params (λ (p : Named). p.sort) ∙ sym (length-map params (λ (p : Named). p.name)) ∙ sym (length-map (parameter_names params) (λ (name : List ℕ). Some name))))
            in
            subst (λ (s : SortId). IsSorted later (bind f.args []) body s) (same_sort found f.result e)
            (subst (λ (ss : List SortId). IsSorted later ss body found) sorts_are h)

-- what is added after its sorts: a function, or a definition
module _ {X : Type 0} (add_same : AddSame) (f : Declarations → Elaborated X) (d : Declarations) (name own : List ℕ) (own_is : own ≡ name) (available : IsUnavailable (symbol_names d) name → ⊥) (is_full : Declarations → Type 0) where
  abbrev Full : Declarations → X → ℕ → Type 0
  Full later x = IsFirstCause too_many (is_full later) IsNone

  pub step_refused : (later : Declarations) (n : ℕ) → ComesTo f d later (Err n) → IsFirstCause symbol_taken (IsUnavailable (symbol_names d) name) (IsErrorNeeding f d Full) n
  step_refused later n h = inr (available, refused_needing f d Full later n h)

  module _ (later : Declarations) (x : X) (h : ComesTo f d later (Ok x)) where
    available_later : IsUnavailable (symbol_names later) own → ⊥
    available_later taken = available (subst (λ (n : List ℕ). IsUnavailable (symbol_names d) n) own_is (subst (λ (ns : List (List ℕ)). IsUnavailable ns own) (same_names f d later (Ok x) h) taken))

    pub added_refused : (n : ℕ) → IsFirstCause symbol_taken (IsUnavailable (symbol_names later) own) (IsFirstCause too_many (is_full later) IsNone) n → IsFirstCause symbol_taken (IsUnavailable (symbol_names d) name) (IsErrorNeeding f d Full) n
    added_refused n is = inr (available, value_needing f d Full later x n h (later_cause symbol_taken (IsUnavailable (symbol_names later) own) (IsFirstCause too_many (is_full later) IsNone) n available_later is))

    pub added_accepted : {T E : Type 0} (r : Result T E) → OnOk r ((n : ℕ) → IsFirstCause symbol_taken (IsUnavailable (symbol_names later) own) (IsFirstCause too_many (is_full later) IsNone) n → ⊥) → OnOk r ((n : ℕ) → IsFirstCause symbol_taken (IsUnavailable (symbol_names d) name) (IsErrorNeeding f d Full) n → ⊥)
    added_accepted (Ok t) none = no_cause symbol_taken (IsUnavailable (symbol_names d) name) (IsErrorNeeding f d Full) available (accepted_needing add_same f d Full later x h (λ n is. none n (inr (available_later, is))))
    added_accepted (Err e) none = tt

    -- what holds of it
    pub added_ok : {T E : Type 0} (holds : Declarations → X → Type 0) (r : Result T E) → OnOk r (holds later x) → OnOk r (GivesNeeding f d holds)
    added_ok holds (Ok t) is = (later, x, h, is)
    added_ok holds (Err e) is = tt

-- more is declared once it was added, or it was not
pub grown_after : {T E : Type 0} (r : Result T E) (theorems : Theorems) (new later old grown : Declarations) → OnOk r (new ≡ grown) → OnErr r (new ≡ later) → Extends grown later → Extends later old → Extends new old
grown_after (Ok x) theorems new later old grown ok err more before = subst (λ (d : Declarations). Extends d old) (sym ok) (theorems.further grown later old more before)
grown_after (Err e) theorems new later old grown ok err more before = subst (λ (d : Declarations). Extends d old) (sym err) before
