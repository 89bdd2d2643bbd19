-- A quantifier is the conjunction or the disjunction of its body with each choice of closed values, which are bound as by a
-- `let`.
use Rattle.std.proofs.Common.{◌≡◌, ℕ, zero, suc, ◌+◌, ◌<◌, Bool, true, false, ◌&&◌, ◌||◌, List, [], ◌∷◌, ◌++◌, length, map, take, All, Contains, Some, slice_get, Result, Ok, IfOk, IsErrOf, if◌then◌else◌, refl, sym, ap, ap₂, subst, ◌∙◌, inl, inr, arith, true≢false}
use Rattle.std.specs.List.{AllZip}
use Rattle.std.proofs.lemmas.List.{length-map, map-append, append-nil, append_assoc}
use Rattle.std.proofs.lemmas.Option.{none-some, same_Some}
use Rattle.ct_lemmas.proofs.Lists.{slice_get-map_at}
use Rattle.ct_lemmas.proofs.Prefixes.{take-slice_get, take-slice_get_next}
use Rattle.ct_lemmas.proofs.Booleans.{or_cases}
use Rattle.ct_lemmas.proofs.Contained.{Contains-from_slice_get, Contains-none, Contains-first, Contains-rest}
use Rattle.ct_sorts.specs.declared.ids.DefId.{DefId}
use Rattle.ct_sorts.specs.declared.ids.SelId.{SelId}
use Rattle.ct_sorts.specs.declared.ids.SortId.{SortId}
use Rattle.ct_sorts.specs.Declarations.{Declarations, bool_sort}
use Rattle.ct_terms.specs.Terms.{Terms}
use Rattle.ct_terms.specs.CoreTree.{CoreTree, CoreTrees, con, subtrees, trees_of, with_tree}
use Rattle.ct_terms.specs.CoreSorts.{AreFieldSorts}
use Rattle.ct_listing.specs.Closed.{ClosedValue, ClosedValues, IsClosedOf, AreClosedOf, build, no_closed, with_closed, term_of, terms_under}
use Rattle.ct_listing.specs.Listable.{IsListable}
use Rattle.ct_listing.proofs.ListLemmas.{map_same}
use Rattle.ct_formulas.specs.Choices.{AreQuantifiable, choices_of}
use Rattle.ct_formulas.specs.declared.tree.Quantifier.{Quantifier}
use Rattle.ct_formulas.specs.declared.tree.Quantifier.TheVariants.{Forall, Exists}
use Rattle.ct_formulas.specs.Formula.{Formula, Formulas, Con, Let, Quantified, no_formulas, with_formula, bind, MentionsBelow, AllMentionBelow}
use Rattle.ct_formulas.specs.FormulaSorts.{HasFormula, IsSorted, AllSorted}
use Rattle.ct_formulas.specs.TreeFormula.{formulas_of}
use Rattle.ct_formulas.specs.Compiled.{joined, compiled, compiled_all}
use Rattle.ct_formulas.specs.Occurrence.{count_of, occurs, occurs_in_some, occurs_in_bound, uses_below, AreSameAt, AreBoundSame}
use Rattle.ct_formulas.proofs.QuantifierLemmas.{choice_length}
use Rattle.ct_finite.specs.ClosedFormula.{formula_of_value, formulas_under}
use Rattle.ct_occurrence.specs.Marks.{flags_below}
use Rattle.ct_operators.specs.Forms.{combined, AllHaveSort, AreOperands}
use Rattle.ct_operators.specs.Made.{Made, HasTrees, MakesInOrder, terms, made_for, made_by}
use Rattle.ct_operators.specs.Effect.{Stands, AllStand, IsPrefix, IsSoundTable, Within}
use Rattle.ct_operators.specs.Theorems.{Theorems}
use Rattle.ct_finite.specs.Choosing.{AreLike}
use Rattle.ct_terms.specs.declared.error.TermError.{TermError}
use Rattle.ct_terms.specs.declared.error.TermError.TheVariants.{Full}
use Rattle.ct_terms.specs.declared.ids.TermId.{TermId}
use Rattle.ct_scope.specs.declared.bound.Bound.TheVariants.{Term, Field, Absent}
use Rattle.ct_scope.specs.declared.bound.Bound.{Bound}
use Rattle.ct_scope.specs.Making.{Defined, making, made_each, making_bound, making_value, making_under, making_values, operator_of, defined}
use Rattle.ct_scope.specs.Binding.{making_where, Binds}
use Rattle.ct_scope.specs.Values.{AreWithinWhere, BindsValues}
use Rattle.ct_scope.specs.Compilable.{compiled_calls, IsBound, IsThere, ArePresent, Compiles, IsCompilable, AreCompilable, AreUnder, MayCompile, MayCompileAll}
use Rattle.ct_scope.specs.Choosing.{formulas_of_values, chosen, all_chosen, made_choice, AreChosen}
use Rattle.ct_scope.proofs.CompilableLemmas.{present_less, ready_stays}
use Rattle.ct_operators.proofs.EffectLemmas.{all_stay, effect_none}
use Rattle.ct_operators.proofs.MakesLemmas.{have_stay, have_both, have_left, have_right, makes_none, makes_has}
use Rattle.ct_operators.proofs.OperatorLemmas.{stands_as}
use Rattle.ct_operators.proofs.WithinLemmas.{within_subtrees}
use Rattle.ct_scope.proofs.MakingLemmas.{bind_same, where_same, making_same, makes_same_below, making_listed}

-- ---- closed values as formulas

pub count_values : (vs : List ClosedValue) → count_of (formulas_of_values vs) ≡ length vs
count_values [] = refl
count_values (v ∷ vs) = ap suc (count_values vs)

module _ (d : Declarations) (call : DefId → List CoreTree → CoreTree) (env : List CoreTree) where
  mutual
    -- the core term of a closed value is its term
    pub compiled_value : (v : ClosedValue) → compiled d call env (formula_of_value v) ≡ term_of v
    compiled_value (build c vs) = ap (con c) (compiled_under vs)

    compiled_under : (vs : ClosedValues) → trees_of (compiled_all d call env (formulas_under vs)) ≡ terms_under vs
    compiled_under no_closed = refl
    compiled_under (with_closed v vs) = ap₂ with_tree (compiled_value v) (compiled_under vs)

  pub compiled_values : (vs : List ClosedValue) → compiled_all d call env (formulas_of_values vs) ≡ map term_of vs
  compiled_values [] = refl
  compiled_values (v ∷ vs) = ap₂ (λ (t : CoreTree) (ts : List CoreTree). t ∷ ts) (compiled_value v) (compiled_values vs)

  pub compiled_chosen : (t : Formula) (vs : List ClosedValue) → compiled d call env (chosen t vs) ≡ compiled d call (bind (map term_of vs) env) t
  compiled_chosen t vs = ap (λ (us : List CoreTree). compiled d call (bind us env) t) (compiled_values vs)

  -- the core terms of several formulas
  pub compiled_listed : (fs : List Formula) → compiled_all d call env (formulas_of fs) ≡ map (compiled d call env) fs
  compiled_listed [] = refl
  compiled_listed (f ∷ fs) = ap (λ (ts : List CoreTree). compiled d call env f ∷ ts) (compiled_listed fs)

module _ (d : Declarations) (defs : Defined) (env : List CoreTree) where
  mutual
    -- what is made for it as a formula
    pub making_value_is : (v : ClosedValue) → making d defs env (formula_of_value v) ≡ making_value v
    making_value_is (build c vs) = ap₂ (λ (xs : List CoreTree) (ts : CoreTrees). xs ++ con c ts ∷ []) (making_under_is vs) (terms_under_are vs)

    making_under_is : (vs : ClosedValues) → made_for (made_each d defs env (formulas_under vs)) ≡ making_under vs
    making_under_is no_closed = refl
    making_under_is (with_closed v vs) = ap₂ (λ (xs ys : List CoreTree). xs ++ ys) (making_value_is v) (making_under_is vs)

    terms_under_are : (vs : ClosedValues) → trees_of (terms (made_each d defs env (formulas_under vs))) ≡ terms_under vs
    terms_under_are no_closed = refl
    terms_under_are (with_closed v vs) = ap₂ with_tree (compiled_value d defs.gives env v) (terms_under_are vs)

  pub making_where_values : (flags : List Bool) (vs : List ClosedValue) → making_where d defs env flags (formulas_of_values vs) ≡ making_values flags vs
  making_where_values [] vs = refl
  making_where_values (b ∷ flags) [] = refl
  making_where_values (b ∷ flags) (v ∷ vs) = ap₂ (λ (xs ys : List CoreTree). (if b then xs else []) ++ ys) (making_value_is v) (making_where_values flags vs)

  pub making_chosen : (t : Formula) (vs : List ClosedValue) (n : ℕ) → length vs ≡ n → making d defs env (chosen t vs) ≡ making_values (flags_below (occurs d defs.uses t) n) vs ++ making d defs (bind (map term_of vs) env) t
  making_chosen t vs n long =
      ap₂ (λ (xs ys : List CoreTree). xs ++ ys)
      (sym (making_listed d defs env (occurs d defs.uses t) (formulas_of_values vs))
      ∙ making_where_values (flags_below (occurs d defs.uses t) (count_of (formulas_of_values vs))) vs
      ∙ ap (λ (k : ℕ). making_values (flags_below (occurs d defs.uses t) k) vs) (count_values vs ∙ long))
      (ap (λ (us : List CoreTree). making d defs (bind us env) t) (compiled_values d defs.gives env vs))

  -- what is made for several formulas
  pub made_listed : (fs : List Formula) → made_each d defs env (formulas_of fs) ≡ map (λ f. record { making = making d defs env f; term = compiled d defs.gives env f }) fs
  made_listed [] = refl
  made_listed (f ∷ fs) = ap (λ (ps : List Made). record { making = making d defs env f; term = compiled d defs.gives env f } ∷ ps) (made_listed fs)

-- ---- the body with each choice

joined_is : (d : Declarations) (q : Quantifier) (ts : List CoreTree) → joined q ts ≡ combined d (operator_of q) ts
joined_is d Forall ts = refl
joined_is d Exists ts = refl

map_twice : {X Y Z : Type 0} (f : Y → Z) (g : X → Y) (xs : List X) → map f (map g xs) ≡ map (λ x. f (g x)) xs
map_twice f g [] = refl
map_twice {Z = Z} f g (x ∷ xs) = ap (λ (zs : List Z). f (g x) ∷ zs) (map_twice f g xs)

module _ (d : Declarations) (bodies : List Formula) (n : ℕ) (trees : List CoreTree) (q : Quantifier) (bound : List SortId) (t : Formula) where
  -- the core terms of the body, and what is made for each
  pub all_compiled : compiled_all d (compiled_calls d bodies n) trees (all_chosen d bound t) ≡ map (λ vs. compiled d (compiled_calls d bodies n) trees (chosen t vs)) (choices_of d bound)
  all_compiled =
      compiled_listed d (compiled_calls d bodies n) trees (map (chosen t) (choices_of d bound)) ∙ map_twice (compiled d (compiled_calls d bodies n) trees) (chosen t) (choices_of d bound)

  pub all_made : made_each d (defined d bodies n) trees (all_chosen d bound t) ≡ map (made_choice d bodies n trees t) (choices_of d bound)
  all_made =
      made_listed d (defined d bodies n) trees (map (chosen t) (choices_of d bound))
      ∙ map_twice (λ f. record { making = making d (defined d bodies n) trees f; term = compiled d (compiled_calls d bodies n) trees f }) (chosen t) (choices_of d bound)

  -- those of the whole
  pub quantified_core : compiled d (compiled_calls d bodies n) trees (Quantified q bound t) ≡ combined d (operator_of q) (compiled_all d (compiled_calls d bodies n) trees (all_chosen d bound t))
  quantified_core =
      ap (joined q)
      (map_same (λ vs. compiled d (compiled_calls d bodies n) (bind (map term_of vs) trees) t) (λ vs. compiled d (compiled_calls d bodies n) trees (chosen t vs)) (choices_of d bound)
      (λ vs inside. sym (compiled_chosen d (compiled_calls d bodies n) trees t vs)) ∙ sym all_compiled)
      ∙ joined_is d q (compiled_all d (compiled_calls d bodies n) trees (all_chosen d bound t))

  pub quantified_making : making d (defined d bodies n) trees (Quantified q bound t) ≡ (made_by d (operator_of q) (made_each d (defined d bodies n) trees (all_chosen d bound t))).making
  quantified_making =
      let defs = defined d bodies n in
      let one : List CoreTree → CoreTree → Made = λ xs u. record { making = xs; term = u } in
      ap (λ (ps : List Made). (made_by d (operator_of q) ps).making)
      (map_same (λ vs. one (making_values (flags_below (occurs d (uses_below d bodies n) t) (length bound)) vs ++ making d defs (bind (map term_of vs) trees) t) (compiled d (compiled_calls d bodies n) (bind (map term_of vs) trees) t)) (made_choice d bodies n trees t) (choices_of d bound)
      (λ vs inside.
      ap₂ one (sym (making_chosen d defs trees t vs (length bound) (choice_length d bound vs inside))) (sym (compiled_chosen d (compiled_calls d bodies n) trees t vs))) ∙ sym all_made)

-- ---- the body with one choice may be compiled where the whole may

module _ (d : Declarations) (env : List SortId) where
  mutual
    -- a closed value of a sort is a formula of it
    closed_sorted : (v : ClosedValue) (s : SortId) → IsClosedOf d v s → IsSorted d env (formula_of_value v) s
    closed_sorted (build c vs) s h = let fields = fields_sorted vs h.0.sels h.3 in (h.0, fields.0, h.1, fields.1, fields.2, h.2)

    fields_sorted : (vs : ClosedValues) (sels : List SelId) → AreClosedOf d vs sels → (fields : List SortId) × AreFieldSorts d sels fields × AllSorted d env (formulas_under vs) fields
    fields_sorted no_closed [] h = ([], tt, tt)
    fields_sorted no_closed (s ∷ sels) h = absurd h
    fields_sorted (with_closed v vs) [] h = absurd h
    fields_sorted (with_closed v vs) (s ∷ sels) h =
        let rest = fields_sorted vs sels h.1 in
        (h.0.0.sort ∷ rest.0, ((h.0.0, h.0.1, refl), rest.1), (closed_sorted v h.0.0.sort h.0.2, rest.2))

  values_sorted : (vs : List ClosedValue) (ss : List SortId) → AllZip (IsClosedOf d) vs ss → AllSorted d env (formulas_of_values vs) ss
  values_sorted [] [] h = tt
  values_sorted [] (s ∷ ss) h = absurd h
  values_sorted (v ∷ vs) [] h = absurd h
  values_sorted (v ∷ vs) (s ∷ ss) h = (closed_sorted v s h.0, values_sorted vs ss h.1)

module _ (n : ℕ) where
  mutual
    closed_mentions : (v : ClosedValue) → MentionsBelow n (formula_of_value v)
    closed_mentions (build c vs) = under_mentions vs

    under_mentions : (vs : ClosedValues) → AllMentionBelow n (formulas_under vs)
    under_mentions no_closed = tt
    under_mentions (with_closed v vs) = (closed_mentions v, under_mentions vs)

  values_mention : (vs : List ClosedValue) → AllMentionBelow n (formulas_of_values vs)
  values_mention [] = tt
  values_mention (v ∷ vs) = (closed_mentions v, values_mention vs)

module _ (d : Declarations) (uses : DefId → ℕ → Bool) where
  mutual
    closed_occurs : (v : ClosedValue) (i : ℕ) → occurs d uses (formula_of_value v) i ≡ false
    closed_occurs (build c vs) i = under_occurs vs i

    under_occurs : (vs : ClosedValues) (i : ℕ) → occurs_in_some d uses (formulas_under vs) i ≡ false
    under_occurs no_closed i = refl
    under_occurs (with_closed v vs) i = ap₂ (λ (a b : Bool). a || b) (closed_occurs v i) (under_occurs vs i)

  and_false : (b : Bool) → (b && false) ≡ false
  and_false true = refl
  and_false false = refl

  values_occur : (inner : ℕ → Bool) (vs : List ClosedValue) (i : ℕ) → occurs_in_bound d uses inner (formulas_of_values vs) i ≡ false
  values_occur inner [] i = refl
  values_occur inner (v ∷ vs) i =
      ap₂ (λ (a b : Bool). (inner (count_of (formulas_of_values vs)) && a) || b) (closed_occurs v i) (values_occur inner vs i)
      ∙ ap (λ (a : Bool). a || false) (and_false (inner (count_of (formulas_of_values vs))))

  pub chosen_occurs : (t : Formula) (vs : List ClosedValue) (k : ℕ) (i : ℕ) → length vs ≡ k → occurs d uses (chosen t vs) i ≡ occurs d uses t (i + k)
  chosen_occurs t vs k i long =
      ap₂ (λ (a : Bool) (m : ℕ). a || occurs d uses t (i + m)) (values_occur (occurs d uses t) vs i) (count_values vs ∙ long)

-- the sorts of formulas in a list are Bool
abbrev pub booleans : List Formula → List SortId
booleans fs = map (λ f. bool_sort) fs

module _ (d : Declarations) (bodies : List Formula) (table : Terms) (n : ℕ) (env : List Bound) (q : Quantifier) (bound : List SortId) (t : Formula) (trees : List CoreTree) (sorts : List SortId) (sort : SortId) (h : IsCompilable d bodies table n env (Quantified q bound t) trees sorts sort) where
  abbrev uses : DefId → ℕ → Bool
  uses = uses_below d bodies n

  of_sorts : (vs : List ClosedValue) → Contains (choices_of d bound) vs → AllZip (IsClosedOf d) vs bound
  of_sorts vs inside = h.setting.kept.theorems.chosen d bound vs h.setting.consistent h.sorted.0.listable inside

  some_formula : (vs : List ClosedValue) → 0 < length vs → HasFormula (formulas_of_values vs)
  some_formula [] some = absurd (omega (arith, some))
  some_formula (v ∷ vs) some = tt

  chosen_sorted : (vs : List ClosedValue) → Contains (choices_of d bound) vs → IsSorted d sorts (chosen t vs) bool_sort
  chosen_sorted vs inside = (
    bound,
    some_formula vs (omega (arith, h.sorted.0.variable, choice_length d bound vs inside)),
    values_sorted d sorts vs bound (of_sorts vs inside),
    h.sorted.1,
  )

  -- the body with a choice
  pub chosen_ready : (vs : List ClosedValue) → Contains (choices_of d bound) vs → IsCompilable d bodies table n env (chosen t vs) trees sorts bool_sort
  chosen_ready vs inside = record {
    setting = h.setting;
    mentions = (values_mention n vs, h.mentions);
    sorted = chosen_sorted vs inside;
    present = present_less (occurs d uses (chosen t vs)) (occurs d uses (Quantified q bound t)) env
        (λ i e. sym (chosen_occurs d uses t vs (length bound) i (choice_length d bound vs inside)) ∙ e) h.present;
  }

  -- all of them
  all_mention : (cs : List (List ClosedValue)) → AllMentionBelow n (formulas_of (map (chosen t) cs))
  all_mention [] = tt
  all_mention (vs ∷ cs) = ((values_mention n vs, h.mentions), all_mention cs)

  all_sorted : (cs : List (List ClosedValue)) → ((vs : List ClosedValue) → Contains cs vs → Contains (choices_of d bound) vs) → AllSorted d sorts (formulas_of (map (chosen t) cs)) (booleans (map (chosen t) cs))
  all_sorted [] inside = tt
  all_sorted (vs ∷ cs) inside = (chosen_sorted vs (inside vs (Contains-first vs cs)), all_sorted cs (λ ws at. inside ws (Contains-rest vs cs ws at)))

  all_occur : (cs : List (List ClosedValue)) → ((vs : List ClosedValue) → Contains cs vs → Contains (choices_of d bound) vs) → (i : ℕ) → occurs_in_some d uses (formulas_of (map (chosen t) cs)) i ≡ true → occurs d uses (Quantified q bound t) i ≡ true
  all_occur [] inside i e = absurd (true≢false (sym e))
  all_occur (vs ∷ cs) inside i e =
      elim (or_cases (occurs d uses (chosen t vs) i) (occurs_in_some d uses (formulas_of (map (chosen t) cs)) i) e) [
        | inl first ↦ sym (chosen_occurs d uses t vs (length bound) i (choice_length d bound vs (inside vs (Contains-first vs cs)))) ∙ first
        | inr rest ↦ all_occur cs (λ ws at. inside ws (Contains-rest vs cs ws at)) i rest
      ]

  all_ready : AreCompilable d bodies table n env (all_chosen d bound t) trees sorts (booleans (map (chosen t) (choices_of d bound)))
  all_ready = record {
    setting = h.setting;
    mentions = all_mention (choices_of d bound);
    sorted = all_sorted (choices_of d bound) (λ vs inside. inside);
    present = present_less (occurs_in_some d uses (all_chosen d bound t)) (occurs d uses (Quantified q bound t)) env (all_occur (choices_of d bound) (λ vs inside. inside)) h.present;
  }

  cores_sorted : (cs : List (List ClosedValue)) → ((vs : List ClosedValue) → Contains cs vs → Contains (choices_of d bound) vs) → AllHaveSort d bool_sort (compiled_all d (compiled_calls d bodies n) trees (formulas_of (map (chosen t) cs)))
  cores_sorted [] inside = tt
  cores_sorted (vs ∷ cs) inside =
      let s = h.setting in
      let one = chosen_ready vs (inside vs (Contains-first vs cs)) in (
        s.kept.theorems.compiled_sorted d n (compiled_calls d bodies n) trees sorts (chosen t vs) bool_sort s.consistent (s.kept.theorems.calls_sorted d bodies n s.consistent s.sound) s.fitting one.mentions one.sorted,
        cores_sorted cs (λ ws at. inside ws (Contains-rest vs cs ws at)),
      )

  some_core : (cs : List (List ClosedValue)) → 0 < length cs → 0 < length (compiled_all d (compiled_calls d bodies n) trees (formulas_of (map (chosen t) cs)))
  some_core [] some = absurd (omega (arith, some))
  some_core (vs ∷ cs) some = omega arith

  operands_are : (p : Quantifier) → AreOperands d (operator_of p) (compiled_all d (compiled_calls d bodies n) trees (all_chosen d bound t))
  operands_are Forall = (some_core (choices_of d bound) h.sorted.0.some, cores_sorted (choices_of d bound) (λ vs inside. inside))
  operands_are Exists = (some_core (choices_of d bound) h.sorted.0.some, cores_sorted (choices_of d bound) (λ vs inside. inside))

  pub quantified_under : AreUnder d bodies table n env (operator_of q) (all_chosen d bound t) trees sorts (booleans (map (chosen t) (choices_of d bound)))
  quantified_under = record { ready = all_ready; operands = operands_are q }

module _ (d : Declarations) (bodies : List Formula) (table : Terms) (n : ℕ) (env : List Bound) (q : Quantifier) (bound : List SortId) (t : Formula) where
  pub may_choose : MayCompile d bodies table n env (Quantified q bound t) → (vs : List ClosedValue) → Contains (choices_of d bound) vs → MayCompile d bodies table n env (chosen t vs)
  may_choose may vs inside = (may.0, may.1, bool_sort, chosen_ready d bodies table n env q bound t may.0 may.1 may.2 may.3 vs inside)

  pub may_choose_all : MayCompile d bodies table n env (Quantified q bound t) → MayCompileAll d bodies table n env (operator_of q) (all_chosen d bound t)
  may_choose_all may = (may.0, may.1, booleans (map (chosen t) (choices_of d bound)), quantified_under d bodies table n env q bound t may.0 may.1 may.2 may.3)

-- ---- the bounds of a quantifier's variables are those of a `let` of the values

module _ (d : Declarations) (bodies : List Formula) (n : ℕ) (old new : Terms) (env : List Bound) (flags : List Bool) (vs : List ClosedValue) where
  zip_within : (allowed : List CoreTree) (bs : List Bool) (ws : List ClosedValue) → AllZip (λ b u. b ≡ true → Within allowed u) bs (map term_of ws) → AreWithinWhere allowed bs ws
  zip_within allowed [] [] h = tt
  zip_within allowed [] (w ∷ ws) h = absurd h
  zip_within allowed (b ∷ bs) [] h = absurd h
  zip_within allowed (b ∷ bs) (w ∷ ws) h = (h.0, zip_within allowed bs ws h.1)

  pub binds_values : (r : Result (List Bound) TermError) → BindsValues d old new flags vs r → Binds d bodies n old new env flags (formulas_of_values vs) r
  binds_values r all = record {
    core = λ trees sorts each h.
        subst (λ (us : List CoreTree). IfOk r (λ bs. AllZip (IsBound new) bs us)) (sym (compiled_values d (compiled_calls d bodies n) trees vs)) all.core;
    flagged = all.flagged;
    grown = λ trees sorts each h. all.grown;
    effect = λ trees sorts each allowed h w.
        all.effect allowed (zip_within allowed flags vs (subst (λ (us : List CoreTree). AllZip (λ b u. b ≡ true → Within allowed u) flags us) (compiled_values d (compiled_calls d bodies n) trees vs) w));
    order = λ trees sorts each h.
        subst (λ (xs : List CoreTree). IfOk r (λ bs. MakesInOrder old xs new)) (sym (making_where_values d (defined d bodies n) trees flags vs)) all.order;
  }

-- ---- two choices with the same values for the variables that occur

module _ (d : Declarations) (bodies : List Formula) (n : ℕ) (trees : List CoreTree) (t : Formula) (theorems : Theorems) where
  abbrev occurring : ℕ → Bool
  occurring = occurs d (uses_below d bodies n) t

  like_bound : (k : ℕ) (us vs : List ClosedValue) → AreLike (flags_below occurring k) us vs → AreBoundSame occurring (map term_of us) (map term_of vs)
  like_bound zero [] [] h = tt
  like_bound zero [] (v ∷ vs) h = absurd h
  like_bound zero (u ∷ us) [] h = absurd h
  like_bound zero (u ∷ us) (v ∷ vs) h = absurd h
  like_bound (suc k) [] [] h = absurd h
  like_bound (suc k) [] (v ∷ vs) h = absurd h
  like_bound (suc k) (u ∷ us) [] h = absurd h
  like_bound (suc k) (u ∷ us) (v ∷ vs) h = (
    λ e. ap term_of (h.0 (subst (λ (m : ℕ). occurring m ≡ true) (length-map us term_of ∙ like_length k us vs h.1) e)),
    like_bound k us vs h.1,
  )
    where
      like_length : (k : ℕ) (us vs : List ClosedValue) → AreLike (flags_below occurring k) us vs → length us ≡ k
      like_length zero [] [] h = refl
      like_length zero [] (v ∷ vs) h = absurd h
      like_length zero (u ∷ us) [] h = absurd h
      like_length zero (u ∷ us) (v ∷ vs) h = absurd h
      like_length (suc k) [] [] h = absurd h
      like_length (suc k) [] (v ∷ vs) h = absurd h
      like_length (suc k) (u ∷ us) [] h = absurd h
      like_length (suc k) (u ∷ us) (v ∷ vs) h = ap suc (like_length k us vs h.1)

  like_values : (bs : List Bool) (us vs : List ClosedValue) → AreLike bs us vs → making_values bs us ≡ making_values bs vs
  like_values [] [] [] h = refl
  like_values [] [] (v ∷ vs) h = absurd h
  like_values [] (u ∷ us) [] h = absurd h
  like_values [] (u ∷ us) (v ∷ vs) h = absurd h
  like_values (b ∷ bs) [] [] h = absurd h
  like_values (b ∷ bs) [] (v ∷ vs) h = absurd h
  like_values (b ∷ bs) (u ∷ us) [] h = absurd h
  like_values (b ∷ bs) (u ∷ us) (v ∷ vs) h = ap₂ (λ (xs ys : List CoreTree). xs ++ ys) (where_same b (making_value u) (making_value v) (λ e. ap making_value (h.0 e))) (like_values bs us vs h.1)

  module _ (k : ℕ) (us vs : List ClosedValue) (first : length us ≡ k) (second : length vs ≡ k) (like : AreLike (flags_below occurring k) us vs) where
    same_at : AreSameAt occurring (bind (map term_of us) trees) (bind (map term_of vs) trees)
    same_at = bind_same occurring (map term_of us) (map term_of vs) trees trees (like_bound k us vs like) (λ i e. refl)

    -- they have one core term
    pub like_core : compiled d (compiled_calls d bodies n) trees (chosen t us) ≡ compiled d (compiled_calls d bodies n) trees (chosen t vs)
    like_core =
        compiled_chosen d (compiled_calls d bodies n) trees t us
        ∙ theorems.occurring d (uses_below d bodies n) (compiled_calls d bodies n) t (bind (map term_of us) trees) (bind (map term_of vs) trees) (theorems.used d bodies n) same_at
        ∙ sym (compiled_chosen d (compiled_calls d bodies n) trees t vs)

    -- and the same is made for them
    pub like_making : making d (defined d bodies n) trees (chosen t us) ≡ making d (defined d bodies n) trees (chosen t vs)
    like_making =
        making_chosen d (defined d bodies n) trees t us k first
        ∙ ap₂ (λ (xs ys : List CoreTree). xs ++ ys) (like_values (flags_below occurring k) us vs like) (making_same d (defined d bodies n) (λ u xs ys e. theorems.occurring d (uses_below d bodies n) (compiled_calls d bodies n) u xs ys (theorems.used d bodies n) e) (makes_same_below theorems d bodies n) t (bind (map term_of us) trees) (bind (map term_of vs) trees) same_at)
        ∙ sym (making_chosen d (defined d bodies n) trees t vs k second)

-- ---- choices that are compiled

-- the terms of variables that are there are determined
module _ (table : Terms) where
  one_tree : (b : Bound) (x y : CoreTree) → IsThere b → IsBound table b x → IsBound table b y → x ≡ y
  one_tree (Term t) x y there h k = sym h.1 ∙ k.1
  one_tree (Field s t) x y there h k = sym h.1 ∙ k.1
  one_tree Absent x y there h k = absurd there

  pub bound_alike : (p : ℕ → Bool) (env : List Bound) (xs ys : List CoreTree) → ArePresent p env → AllZip (IsBound table) env xs → AllZip (IsBound table) env ys → AreSameAt p xs ys
  bound_alike p [] [] [] present h k i e = refl
  bound_alike p [] [] (y ∷ ys) present h k i e = absurd k
  bound_alike p [] (x ∷ xs) ys present h k i e = absurd h
  bound_alike p (b ∷ env) [] ys present h k i e = absurd h
  bound_alike p (b ∷ env) (x ∷ xs) [] present h k i e = absurd k
  bound_alike p (b ∷ env) (x ∷ xs) (y ∷ ys) present h k zero e = ap Some (one_tree b x y (present 0 b e refl) h.0 k.0)
  bound_alike p (b ∷ env) (x ∷ xs) (y ∷ ys) present h k (suc i) e = bound_alike (λ j. p (suc j)) env xs ys (λ j c f at. present (suc j) c f at) h.1 k.1 i e

made_at : (ps : List Made) (j : ℕ) (p : Made) (table : Terms) → slice_get ps j ≡ Some p → HasTrees table (made_for ps) → HasTrees table p.making
made_at [] j p table at h = absurd (none-some p at)
made_at (q ∷ ps) zero p table at h = subst (λ (x : Made). HasTrees table x.making) (same_Some q p at) (have_left table q.making (made_for ps) h)
made_at (q ∷ ps) (suc j) p table at h = made_at ps j p table at (have_right table q.making (made_for ps) h)

stand_at : (table : Terms) (ts : List TermId) (us : List CoreTree) (j : ℕ) (u : TermId) (x : CoreTree) → AllStand table ts us → slice_get ts j ≡ Some u → slice_get us j ≡ Some x → Stands table u x
stand_at table [] [] j u x h at there = absurd (none-some u at)
stand_at table [] (v ∷ us) j u x h at there = absurd h
stand_at table (t ∷ ts) [] j u x h at there = absurd h
stand_at table (t ∷ ts) (v ∷ us) zero u x h at there =
    subst (λ (w : TermId). Stands table w x) (same_Some t u at) (subst (λ (w : CoreTree). Stands table t w) (same_Some v x there) h.0)
stand_at table (t ∷ ts) (v ∷ us) (suc j) u x h at there = stand_at table ts us j u x h.1 at there

module _ (d : Declarations) (bodies : List Formula) (table : Terms) (n : ℕ) (env : List Bound) (q : Quantifier) (bound : List SortId) (t : Formula) (k : ℕ) (args : List TermId) (h : AreChosen d bodies table n env q bound t k args) where
  -- an earlier choice with the same values for the variables that occur has the term of this one
  pub choice_again : (j : ℕ) (us vs : List ClosedValue) (u : TermId) → j < k → slice_get args j ≡ Some u → slice_get (choices_of d bound) j ≡ Some us → slice_get (choices_of d bound) k ≡ Some vs → AreLike (flags_below (occurs d (uses_below d bodies n) t) (length bound)) us vs → Compiles d bodies n table table env (chosen t vs) (Ok u)
  choice_again j us vs u before at of_j of_k like =
      let own = h.0 in
      let ready = h.3 in
      let kept = ready.setting.kept in
      let theorems = kept.theorems in
      let first = choice_length d bound us (Contains-from_slice_get (choices_of d bound) j us of_j) in
      let second = choice_length d bound vs (Contains-from_slice_get (choices_of d bound) k vs of_k) in
      let there = slice_get-take_below_at k (choices_of d bound) j us before of_j in
      let stands : Stands table u (compiled d (compiled_calls d bodies n) own (chosen t us)) =
      stand_at table args _ j u _ h.4 at (slice_get-map_at (λ ws. compiled d (compiled_calls d bodies n) own (chosen t ws)) (take k (choices_of d bound)) j us there) in
      let has : HasTrees table (making d (defined d bodies n) own (chosen t us)) =
      made_at (map (made_choice d bodies n own t) (take k (choices_of d bound))) j (made_choice d bodies n own t us) table (slice_get-map_at (made_choice d bodies n own t) (take k (choices_of d bound)) j us there) h.5 in
      let core : Stands table u (compiled d (compiled_calls d bodies n) own (chosen t vs)) =
      stands_as table u _ _ (like_core d bodies n own t theorems (length bound) us vs first second like) stands in
      let made : HasTrees table (making d (defined d bodies n) own (chosen t vs)) =
      subst (HasTrees table) (like_making d bodies n own t theorems (length bound) us vs first second like) has in
      record {
        core = λ trees sorts sort c.
            stands_as table u _ _
            (theorems.occurring d (uses_below d bodies n) (compiled_calls d bodies n) (chosen t vs) own trees (theorems.used d bodies n)
            (bound_alike table (occurs d (uses_below d bodies n) (chosen t vs)) env own trees c.present ready.setting.bound c.setting.bound)) core;
        effect = λ trees sorts sort allowed c w. effect_none d allowed table (IsErrOf (Ok u) Full) kept (λ x. cc);
        order = λ trees sorts sort c.
            makes_none (making d (defined d bodies n) trees (chosen t vs)) table
            (subst (HasTrees table)
            (making_same d (defined d bodies n) (λ f xs ys e. theorems.occurring d (uses_below d bodies n) (compiled_calls d bodies n) f xs ys (theorems.used d bodies n) e) (makes_same_below theorems d bodies n) (chosen t vs) own trees
            (bound_alike table (occurs d (uses_below d bodies n) (chosen t vs)) env own trees c.present ready.setting.bound c.setting.bound)) made);
      }
    where
      slice_get-take_below_at : {X : Type 0} (m : ℕ) (xs : List X) (i : ℕ) (x : X) → i < m → slice_get xs i ≡ Some x → slice_get (take m xs) i ≡ Some x
      slice_get-take_below_at m xs i x less at = take-slice_get m xs i x less at

  -- one more choice is compiled, and the table grows after it
  pub chosen_more : (new : Terms) (vs : List ClosedValue) (u : TermId) → slice_get (choices_of d bound) k ≡ Some vs → Compiles d bodies n table new env (chosen t vs) (Ok u) → AreChosen d bodies new n env q bound t (k + 1) (args ++ u ∷ [])
  chosen_more new vs u of_k one =
      let own = h.0 in
      let inside = Contains-from_slice_get (choices_of d bound) k vs of_k in
      let ready = chosen_ready d bodies table n env q bound t own h.1 h.2 h.3 vs inside in
      let core = compiled d (compiled_calls d bodies n) own (chosen t vs) in
      let e = one.effect own h.1 bool_sort (subtrees core) ready (within_subtrees core) in
      let theorems = e.kept.theorems in
      let all = choices_of d bound in
      let next : take (k + 1) all ≡ take k all ++ vs ∷ [] = take-slice_get_next all k vs of_k in
      let cores : List (List ClosedValue) → List CoreTree = map (λ ws. compiled d (compiled_calls d bodies n) own (chosen t ws)) in
      let made : List (List ClosedValue) → List Made = map (made_choice d bodies n own t) in
      let mine = making d (defined d bodies n) own (chosen t vs) in (
        own,
        h.1,
        h.2,
        ready_stays d bodies table new n env (Quantified q bound t) own h.1 h.2 e.grown e.kept h.3,
        subst (AllStand new (args ++ u ∷ [])) (sym (map-append _ (take k all) (vs ∷ [])) ∙ ap cores (sym next))
            (all_stand_push new args (cores (take k all)) u core (all_stay d table new args (cores (take k all)) e.grown e.kept h.4) (one.core own h.1 bool_sort ready)),
        subst (HasTrees new) (sym (made_for_push (made (take k all)) (made_choice d bodies n own t vs)) ∙ ap made_for (sym (map-append _ (take k all) (vs ∷ [])) ∙ ap made (sym next)))
            (have_both new (made_for (made (take k all))) mine (have_stay theorems table new (made_for (made (take k all))) e.grown e.kept.ordered h.5)
            (makes_has theorems mine table new e.kept.ordered (one.order own h.1 bool_sort ready))),
      )
    where
      made_for_push : (ps : List Made) (p : Made) → made_for (ps ++ p ∷ []) ≡ made_for ps ++ p.making
      made_for_push [] p = append-nil p.making
      made_for_push (x ∷ ps) p = ap (λ (xs : List CoreTree). x.making ++ xs) (made_for_push ps p) ∙ sym (append_assoc x.making (made_for ps) p.making)

      all_stand_push : (table : Terms) (ts : List TermId) (us : List CoreTree) (t : TermId) (u : CoreTree) → AllStand table ts us → Stands table t u → AllStand table (ts ++ t ∷ []) (us ++ u ∷ [])
      all_stand_push table [] [] t u h k = (k, tt)
      all_stand_push table [] (v ∷ vs) t u h k = absurd h
      all_stand_push table (s ∷ ss) [] t u h k = absurd h
      all_stand_push table (s ∷ ss) (v ∷ vs) t u h k = (h.0, all_stand_push table ss vs t u h.1 k)

  -- in a longer table they still are
  pub chosen_stay : (new : Terms) → IsPrefix table new → IsSoundTable d new → AreChosen d bodies new n env q bound t k args
  chosen_stay new grown kept = (
    h.0,
    h.1,
    h.2,
    ready_stays d bodies table new n env (Quantified q bound t) h.0 h.1 h.2 grown kept h.3,
    all_stay d table new args _ grown kept h.4,
    have_stay kept.theorems table new _ grown kept.ordered h.5,
  )

-- at first there is none
pub chosen_none : (d : Declarations) (bodies : List Formula) (table : Terms) (n : ℕ) (env : List Bound) (q : Quantifier) (bound : List SortId) (t : Formula) → MayCompile d bodies table n env (Quantified q bound t) → AreChosen d bodies table n env q bound t 0 []
chosen_none d bodies table n env q bound t may = (may.0, may.1, may.2, may.3, tt, tt)
