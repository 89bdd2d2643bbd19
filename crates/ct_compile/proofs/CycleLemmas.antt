-- Compiling a formula from the formulas under it.
use Rattle.std.proofs.Common.{◌≡◌, ℕ, ◌<◌, ◌≤◌, Bool, true, false, List, [], ◌∷◌, ◌++◌, length, map, Option, Some, None, Result, Ok, Err, IfOk, IsErrOf, refl, sym, ap, subst, ◌∙◌, arith}
use Rattle.std.specs.List.{AllByRecursion}
use Rattle.std.proofs.lemmas.Result.{IfOk-weaker}
use Rattle.std.proofs.lemmas.List.{append_assoc, append-nil}
use Rattle.ct_sorts.specs.declared.ids.SortId.{SortId}
use Rattle.ct_sorts.specs.Declarations.{Declarations}
use Rattle.ct_terms.specs.declared.ids.TermId.{TermId}
use Rattle.ct_terms.specs.declared.error.TermError.{TermError}
use Rattle.ct_terms.specs.declared.error.TermError.TheVariants.{Full, NoMemory}
use Rattle.ct_terms.specs.Terms.{Terms}
use Rattle.ct_terms.specs.CoreTree.{CoreTree, subtrees, term_at}
use Rattle.ct_formulas.specs.Choices.{choices_of}
use Rattle.ct_formulas.specs.declared.tree.Quantifier.{Quantifier}
use Rattle.ct_formulas.specs.Formula.{Formula, Formulas, Quantified, no_formulas, with_formula}
use Rattle.ct_formulas.specs.Compiled.{compiled, compiled_all}
use Rattle.ct_scope.specs.declared.bound.Bound.{Bound}
use Rattle.ct_formulas.specs.Occurrence.{count_of}
use Rattle.ct_operators.specs.Effect.{Stands, AllStand, IsSoundTable, Within, AllWithin, IsPrefix, Effect}
use Rattle.ct_scope.specs.declared.stop.DeferredCall.{DeferredCall}
use Rattle.ct_occurrence.specs.Marks.{Rows}
use Rattle.ct_operators.specs.Made.{HasTree, HasTrees, MakesInOrder, Made, leaf, terms, made_by}
use Rattle.ct_scope.specs.Making.{making, made_each, operator_of, defined}
use Rattle.ct_scope.specs.Choosing.{chosen, all_chosen}
use Rattle.ct_scope.proofs.ChosenLemmas.{booleans, quantified_core, quantified_making, quantified_under}
use Rattle.ct_operators.specs.Following.{leading, between, woven, IsLeading, IsFollowing, MayFollow, FollowGives}
use Rattle.ct_operators.specs.declared.operator.Operator.{Operator}
use Rattle.ct_operators.specs.declared.operator.Operator.TheVariants.{Inequality}
use Rattle.ct_occurrence.specs.Plain.{is_plain, formulas_under}
use Rattle.ct_operators.specs.Forms.{operator_for, combined, AreOperands}
use Rattle.ct_scope.proofs.Weight.{weight, weights, weights_below}
use Rattle.ct_scope.specs.Compilable.{compiled_calls, IsCompilable, AreCompilable, AreUnder, MayCompile, MayCompileAll, Compiles, CompilesAll}
use Rattle.ct_operators.proofs.EffectLemmas.{same_error, stands_stays, all_stay, effect_none, effect_then, effect_because}
use Rattle.ct_operators.proofs.WithinLemmas.{within_subtrees}
use Rattle.ct_operators.proofs.MakesLemmas.{makes_then}
use Rattle.ct_operators.proofs.WovenLemmas.{operator_made, terms_append}
use Rattle.ct_operators.proofs.PrefixLemmas.{woven_prefix, prefix_end, prefix_more, operator_next}
use Rattle.ct_scope.proofs.DeferralLemmas.{IsPutOff, ArePutOff, waits_under}
use Rattle.ct_scope.proofs.MakingLemmas.{terms_each, making_plain}
use Rattle.ct_operators.proofs.OperatorLemmas.{stands_as}
use Rattle.ct_scope.proofs.CompilableLemmas.{children_ready, compiled_plain, first_ready, rest_ready, all_ready_stay}
use Rattle.ct_operators.proofs.OperandLemmas.{within_plain, all_trees, all_below}
use Rattle.ct_scope.proofs.PlainLemmas.{operands_of}

-- nothing done, out of memory
pub compiles_nothing : (d : Declarations) (bodies : List Formula) (n : ℕ) (table : Terms) (env : List Bound) (t : Formula) (e : TermError) → e ≡ NoMemory → Compiles d bodies n table table env t (Err e)
compiles_nothing d bodies n table env t e is = record {
  core = λ trees sorts sort h. tt;
  effect = λ trees sorts sort allowed h w. effect_none d allowed table (IsErrOf (Err e) Full) h.setting.kept (λ x. cc);
  order = λ trees sorts sort h. tt;
}

-- where a formula is compiled the table grows, and is kept
pub compiles_grown : (d : Declarations) (bodies : List Formula) (n : ℕ) (old new : Terms) (env : List Bound) (t : Formula) (r : Result TermId TermError) → MayCompile d bodies old n env t → Compiles d bodies n old new env t r → IsPrefix old new × IsSoundTable d new
compiles_grown d bodies n old new env t r may one =
    let core = compiled d (compiled_calls d bodies n) may.0 t in
    let e = one.effect may.0 may.1 may.2 (subtrees core) may.3 (within_subtrees core) in
    (e.grown, e.kept)

-- ---- operators

-- terms that stand are there
trees_stand : (table : Terms) (ts : List TermId) (us : List CoreTree) → AllStand table ts us → HasTrees table us
trees_stand table [] [] h = tt
trees_stand table [] (u ∷ us) h = absurd h
trees_stand table (t ∷ ts) [] h = absurd h
trees_stand table (t ∷ ts) (u ∷ us) h = ((t, h.0), trees_stand table ts us h.1)

ok_with : (r : Result TermId TermError) (P Q : TermId → Type 0) (A : Type 0) → IfOk r P → (A → IfOk r Q) → IfOk r (λ u. P u × (A → Q u))
ok_with (Ok u) P Q A h k = (h, k)
ok_with (Err e) P Q A h k = tt

-- a formula that is an operator over formulas
pub record IsOver (d : Declarations) (bodies : List Formula) (n : ℕ) (old : Terms) (env : List Bound) (t : Formula) (ts : Formulas) (o : Operator) : Type 0 where
  pub ready : (trees : List CoreTree) (sorts : List SortId) (sort : SortId) → IsCompilable d bodies old n env t trees sorts sort → (each : List SortId) × AreUnder d bodies old n env o ts trees sorts each
  pub whole : (trees : List CoreTree) → compiled d (compiled_calls d bodies n) trees t ≡ combined d o (compiled_all d (compiled_calls d bodies n) trees ts)
  pub makes : (trees : List CoreTree) → making d (defined d bodies n) trees t ≡ (made_by d o (made_each d (defined d bodies n) trees ts)).making

module _ (d : Declarations) (bodies : List Formula) (n : ℕ) (old : Terms) (env : List Bound) (t : Formula) (ts : Formulas) (o : Operator) (view : IsOver d bodies n old env t ts o) where
  -- the core terms under it, and its own over them
  abbrev parts : List CoreTree → List CoreTree
  parts trees = compiled_all d (compiled_calls d bodies n) trees ts

  are_under : (trees : List CoreTree) (sorts : List SortId) (sort : SortId) → IsCompilable d bodies old n env t trees sorts sort → (each : List SortId) × AreUnder d bodies old n env o ts trees sorts each
  are_under = view.ready

  operands : (trees : List CoreTree) (sorts : List SortId) (sort : SortId) → IsCompilable d bodies old n env t trees sorts sort → AreOperands d o (parts trees)
  operands trees sorts sort h = (view.ready trees sorts sort h).1.operands

  pub over_children : MayCompile d bodies old n env t → MayCompileAll d bodies old n env o ts
  over_children may = let under = are_under may.0 may.1 may.2 may.3 in (may.0, may.1, under.0, under.1)

  whole_is : (trees : List CoreTree) → compiled d (compiled_calls d bodies n) trees t ≡ combined d o (parts trees)
  whole_is = view.whole

  made_is : (trees : List CoreTree) → making d (defined d bodies n) trees t ≡ (made_by d o (made_each d (defined d bodies n) trees ts)).making
  made_is = view.makes

  -- where a call under it is put off
  pub over_waits : (rows : Rows) (new : Terms) (call : DeferredCall) → ArePutOff d bodies rows n old new env o ts call → IsPutOff d bodies rows n old new env t call
  over_waits rows new call all = λ trees sorts sort h.
      let ready = are_under trees sorts sort h in
      let part = (made_by d o (made_each d (defined d bodies n) trees ts)).making in
      waits_under d bodies rows n n old old new (making d (defined d bodies n) trees t) [] part [] (λ allowed. Within allowed (combined d o (parts trees))) (λ allowed. Within allowed (compiled d (compiled_calls d bodies n) trees t)) call (omega arith) refl
      (made_is trees ∙ sym (append-nil part)) (λ allowed w. subst (Within allowed) (whole_is trees) w) (all trees sorts ready.0 ready.1)

  -- where a formula under it fails
  pub over_failed : (new : Terms) (e : TermError) → CompilesAll d bodies n old new env o ts (Err e) → Compiles d bodies n old new env t (Err e)
  over_failed new e all = record {
    core = λ trees sorts sort h. tt;
    effect = λ trees sorts sort allowed h w.
        let ready = are_under trees sorts sort h in
        effect_because d allowed old new _ _ (same_error e Full) (all.effect trees sorts ready.0 allowed ready.1 (subst (Within allowed) (whole_is trees) w));
    order = λ trees sorts sort h. tt;
  }

  module _ (mid : Terms) (args : List TermId) (all : CompilesAll d bodies n old mid env o ts (Ok args)) where
    effect_of : (trees : List CoreTree) (sorts : List SortId) (sort : SortId) → IsCompilable d bodies old n env t trees sorts sort → Effect d (subtrees (combined d o (parts trees))) old mid (IsErrOf (Ok args) Full)
    effect_of trees sorts sort h =
        let ready = are_under trees sorts sort h in
        all.effect trees sorts ready.0 (subtrees (combined d o (parts trees))) ready.1 (within_subtrees (combined d o (parts trees)))

    stand : (trees : List CoreTree) (sorts : List SortId) (sort : SortId) → IsCompilable d bodies old n env t trees sorts sort → AllStand mid args (parts trees)
    stand trees sorts sort h = let ready = are_under trees sorts sort h in all.core trees sorts ready.0 ready.1

    pub over_kept : MayCompile d bodies old n env t → IsSoundTable d mid
    over_kept may = (effect_of may.0 may.1 may.2 may.3).kept

    pub over_below : MayCompile d bodies old n env t → AllByRecursion (λ u. u.0 < length mid) args
    over_below may = all_below mid args (parts may.0) (stand may.0 may.1 may.2 may.3)

    pub over_operands : MayCompile d bodies old n env t → AreOperands d o (map (term_at mid) args)
    over_operands may = subst (AreOperands d o) (sym (all_trees mid args (parts may.0) (stand may.0 may.1 may.2 may.3))) (operands may.0 may.1 may.2 may.3)

    pub over_made : (new : Terms) (r : Result TermId TermError) → IfOk r (λ u. Stands new u (combined d o (map (term_at mid) args))) → ((allowed : List CoreTree) → Within allowed (combined d o (map (term_at mid) args)) → Effect d allowed mid new (IsErrOf r Full)) → (o ≡ Inequality → IfOk r (λ u. MakesInOrder mid (made_by d Inequality (map leaf (map (term_at mid) args))).making new)) → Compiles d bodies n old new env t r
    over_made new r core effect compared = record {
      core = λ trees sorts sort h.
          let is = ap (combined d o) (all_trees mid args (parts trees) (stand trees sorts sort h)) ∙ sym (whole_is trees) in
          IfOk-weaker r _ (λ u. Stands new u (compiled d (compiled_calls d bodies n) trees t)) (λ u k. stands_as new u _ _ is k) core;
      effect = λ trees sorts sort allowed h w.
          let ready = are_under trees sorts sort h in
          let is = ap (combined d o) (all_trees mid args (parts trees) (stand trees sorts sort h)) ∙ sym (whole_is trees) in
          effect_then d allowed old mid new _ _ (all.effect trees sorts ready.0 allowed ready.1 (subst (Within allowed) (whole_is trees) w))
          (effect allowed (subst (Within allowed) (sym is) w));
      order = λ trees sorts sort h.
          IfOk-weaker r (λ u. Stands new u (combined d o (map (term_at mid) args)) × (o ≡ Inequality → MakesInOrder mid (made_by d Inequality (map leaf (map (term_at mid) args))).making new)) (λ u. MakesInOrder old (making d (defined d bodies n) trees t) new)
          (λ u k. in_order trees sorts sort h (IsErrOf r Full) (effect (subtrees (combined d o (map (term_at mid) args))) (within_subtrees (combined d o (map (term_at mid) args)))) (u, k.0) k.1)
          (ok_with r (λ u. Stands new u (combined d o (map (term_at mid) args))) (λ u. MakesInOrder mid (made_by d Inequality (map leaf (map (term_at mid) args))).making new) (o ≡ Inequality) core compared);
    }
      where
        in_order : (trees : List CoreTree) (sorts : List SortId) (sort : SortId) → IsCompilable d bodies old n env t trees sorts sort → (full : Type 0) → Effect d (subtrees (combined d o (map (term_at mid) args))) mid new full → HasTree new (combined d o (map (term_at mid) args)) → (o ≡ Inequality → MakesInOrder mid (made_by d Inequality (map leaf (map (term_at mid) args))).making new) → MakesInOrder old (making d (defined d bodies n) trees t) new
        in_order trees sorts sort h full e there pairs_made =
            let ready = are_under trees sorts sort h in
            let defs = defined d bodies n in
            let ps = made_each d defs trees ts in
            let terms_are : terms ps ≡ parts trees = terms_each d defs trees ts in
            let all_is : map (term_at mid) args ≡ terms ps = all_trees mid args (parts trees) (stand trees sorts sort h) ∙ sym terms_are in
            subst (λ (xs : List CoreTree). MakesInOrder old xs new) (sym (made_is trees))
            (operator_made d old mid new o ps full
            (subst (AreOperands d o) (sym terms_are) (operands trees sorts sort h))
            (subst (HasTrees mid) (sym terms_are) (trees_stand mid args (parts trees) (stand trees sorts sort h)))
            (effect_of trees sorts sort h).kept.ordered
            (subst (λ (us : List CoreTree). Effect d (subtrees (combined d o us)) mid new full) all_is e)
            (subst (λ (us : List CoreTree). HasTree new (combined d o us)) all_is there)
            (λ is. subst (λ (us : List CoreTree). MakesInOrder mid (made_by d Inequality (map leaf us)).making new) all_is (pairs_made is))
            (all.order trees sorts ready.0 ready.1))

-- operators
module _ (d : Declarations) (bodies : List Formula) (n : ℕ) (old : Terms) (env : List Bound) (t : Formula) (ts : Formulas) (plain : is_plain t ≡ true) (o : Operator) (is_operator : operator_for t ≡ o) (under : formulas_under t ≡ ts) where
  plain_over : IsOver d bodies n old env t ts o
  plain_over = record {
    ready = λ trees sorts sort h.
        let all = children_ready d bodies old n env trees sorts t sort plain h in (
          all.0,
          record {
            ready = subst (λ (us : Formulas). AreCompilable d bodies old n env us trees sorts all.0) under all.1;
            operands = subst (λ (us : Formulas). AreOperands d o (compiled_all d (compiled_calls d bodies n) trees us)) under (subst (λ (x : Operator). AreOperands d x (compiled_all d (compiled_calls d bodies n) trees (formulas_under t))) is_operator (operands_of d bodies old n env trees sorts t sort plain h));
          },
        );
    whole = λ trees. compiled_plain d bodies n trees t plain ∙ ap (λ (x : Operator). combined d x (compiled_all d (compiled_calls d bodies n) trees (formulas_under t))) is_operator ∙ ap (λ (us : Formulas). combined d o (compiled_all d (compiled_calls d bodies n) trees us)) under;
    makes = λ trees.
        let defs = defined d bodies n in
        making_plain d defs trees t plain
        ∙ ap (λ (x : Operator). (made_by d x (made_each d defs trees (formulas_under t))).making) is_operator
        ∙ ap (λ (us : Formulas). (made_by d o (made_each d defs trees us)).making) under;
  }

  pub plain_children : MayCompile d bodies old n env t → MayCompileAll d bodies old n env o ts
  plain_children = over_children d bodies n old env t ts o plain_over

  pub plain_waits : (rows : Rows) (new : Terms) (call : DeferredCall) → ArePutOff d bodies rows n old new env o ts call → IsPutOff d bodies rows n old new env t call
  plain_waits = over_waits d bodies n old env t ts o plain_over

  pub plain_failed : (new : Terms) (e : TermError) → CompilesAll d bodies n old new env o ts (Err e) → Compiles d bodies n old new env t (Err e)
  plain_failed = over_failed d bodies n old env t ts o plain_over

  module _ (mid : Terms) (args : List TermId) (all : CompilesAll d bodies n old mid env o ts (Ok args)) where
    pub plain_kept : MayCompile d bodies old n env t → IsSoundTable d mid
    plain_kept = over_kept d bodies n old env t ts o plain_over mid args all

    pub plain_below : MayCompile d bodies old n env t → AllByRecursion (λ u. u.0 < length mid) args
    plain_below = over_below d bodies n old env t ts o plain_over mid args all

    pub plain_operands : MayCompile d bodies old n env t → AreOperands d o (map (term_at mid) args)
    plain_operands = over_operands d bodies n old env t ts o plain_over mid args all

    pub plain_made : (new : Terms) (r : Result TermId TermError) → IfOk r (λ u. Stands new u (combined d o (map (term_at mid) args))) → ((allowed : List CoreTree) → Within allowed (combined d o (map (term_at mid) args)) → Effect d allowed mid new (IsErrOf r Full)) → (o ≡ Inequality → IfOk r (λ u. MakesInOrder mid (made_by d Inequality (map leaf (map (term_at mid) args))).making new)) → Compiles d bodies n old new env t r
    plain_made = over_made d bodies n old env t ts o plain_over mid args all

-- quantifiers
module _ (d : Declarations) (bodies : List Formula) (n : ℕ) (old : Terms) (env : List Bound) (q : Quantifier) (bound : List SortId) (t : Formula) where
  pub quantified_over : IsOver d bodies n old env (Quantified q bound t) (all_chosen d bound t) (operator_of q)
  quantified_over = record {
    ready = λ trees sorts sort h. (booleans (map (chosen t) (choices_of d bound)), quantified_under d bodies old n env q bound t trees sorts sort h);
    whole = λ trees. quantified_core d bodies n trees q bound t;
    makes = λ trees. quantified_making d bodies n trees q bound t;
  }

-- ---- the formulas under an operator, as far as they are made

all_within_middle : (allowed xs : List CoreTree) (y : CoreTree) (zs : List CoreTree) → AllWithin allowed (xs ++ y ∷ zs) → Within allowed y
all_within_middle allowed [] y zs w = w.0
all_within_middle allowed (x ∷ xs) y zs w = all_within_middle allowed xs y zs w.1

all_stand_push : (table : Terms) (ts : List TermId) (us : List CoreTree) (t : TermId) (u : CoreTree) → AllStand table ts us → Stands table t u → AllStand table (ts ++ t ∷ []) (us ++ u ∷ [])
all_stand_push table [] [] t u h k = (k, tt)
all_stand_push table [] (v ∷ vs) t u h k = absurd h
all_stand_push table (s ∷ ss) [] t u h k = absurd h
all_stand_push table (s ∷ ss) (v ∷ vs) t u h k = (h.0, all_stand_push table ss vs t u h.1 k)

leads_stay : (d : Declarations) (old new : Terms) (o : Operator) (lead : Option TermId) (us : List CoreTree) → IsPrefix old new → IsSoundTable d new → IsLeading old o lead us → IsLeading new o lead us
leads_stay d old new o None us grown kept h = h
leads_stay d old new o (Some t) us grown kept h = (h.0, stands_stays d old new t (leading o us) grown kept h.1)

more_length : (us : List CoreTree) (v : CoreTree) → 0 < length (us ++ v ∷ [])
more_length [] v = omega arith
more_length (u ∷ us) v = omega arith

-- for these terms of the variables: what is made, and what is left
pub record CollectsFor (d : Declarations) (bodies : List Formula) (n : ℕ) (old table : Terms) (env : List Bound) (o : Operator) (all : Formulas) (args : List TermId) (lead : Option TermId) (rest : Formulas) (trees : List CoreTree) (sorts : List SortId) : Type 0 where
  pub each : List SortId
  pub ready : AreCompilable d bodies table n env rest trees sorts each
  pub made : List CoreTree
  pub stand : AllStand table args made
  pub leads : IsLeading table o lead made
  pub same : made ++ compiled_all d (compiled_calls d bodies n) trees rest ≡ compiled_all d (compiled_calls d bodies n) trees all
  pub operands : AreOperands d o (made ++ compiled_all d (compiled_calls d bodies n) trees rest)
  pub effect : (allowed : List CoreTree) → Within allowed (combined d o (compiled_all d (compiled_calls d bodies n) trees all)) → Effect d allowed old table ⊥
  pub done : List Made
  pub all_done : made_each d (defined d bodies n) trees all ≡ done ++ made_each d (defined d bodies n) trees rest
  pub made_is : terms done ≡ made
  pub order : MakesInOrder old (woven_prefix d o [] done (terms (made_each d (defined d bodies n) trees rest))) table

pub record Collects (d : Declarations) (bodies : List Formula) (n : ℕ) (old table : Terms) (env : List Bound) (o : Operator) (all : Formulas) (args : List TermId) (lead : Option TermId) (rest : Formulas) : Type 0 where
  pub may : MayCompileAll d bodies old n env o all
  pub for : (trees : List CoreTree) (sorts each : List SortId) → AreUnder d bodies old n env o all trees sorts each → CollectsFor d bodies n old table env o all args lead rest trees sorts
  pub lighter : weights (weights_below bodies n) rest ≤ weights (weights_below bodies n) all

pub collects_start : (d : Declarations) (bodies : List Formula) (n : ℕ) (old : Terms) (env : List Bound) (o : Operator) (all : Formulas) → MayCompileAll d bodies old n env o all → Collects d bodies n old old env o all [] None all
collects_start d bodies n old env o all may = record {
  may = may;
  for = λ trees sorts each h. record {
    each = each;
    ready = h.ready;
    made = [];
    stand = tt;
    leads = refl;
    same = refl;
    operands = h.operands;
    effect = λ allowed w. effect_none d allowed old ⊥ h.ready.setting.kept (λ x. x);
    done = [];
    all_done = refl;
    made_is = refl;
    order = refl;
  };
  lighter = omega arith;
}

module _ (d : Declarations) (bodies : List Formula) (n : ℕ) (old table : Terms) (env : List Bound) (o : Operator) (all : Formulas) (args : List TermId) (lead : Option TermId) (t : Formula) (more : Formulas) (h : Collects d bodies n old table env o all args lead (with_formula t more)) where
  -- the next formula may be compiled
  pub collects_next : MayCompile d bodies table n env t
  collects_next =
      let f = h.for h.may.0 h.may.1 h.may.2 h.may.3 in
      by f.each f.ready
    where
      by : (each : List SortId) → AreCompilable d bodies table n env (with_formula t more) h.may.0 h.may.1 each → MayCompile d bodies table n env t
      by [] ready = absurd ready.sorted
      by (s ∷ each) ready = (h.may.0, h.may.1, s, first_ready d bodies table n env h.may.0 h.may.1 t more s each ready)

  pub collects_lighter : weight (weights_below bodies n) t < weights (weights_below bodies n) all
  collects_lighter = let k = h.lighter in omega (arith, k)

  -- for these terms of the variables: the next tree, those after it, and that it is ready
  abbrev tree_for : List CoreTree → CoreTree
  tree_for trees = compiled d (compiled_calls d bodies n) trees t

  abbrev later_for : List CoreTree → List CoreTree
  later_for trees = compiled_all d (compiled_calls d bodies n) trees more

  split : {trees : List CoreTree} {sorts : List SortId} (each : List SortId) → AreCompilable d bodies table n env (with_formula t more) trees sorts each → (s : SortId) × (others : List SortId) × IsCompilable d bodies table n env t trees sorts s × AreCompilable d bodies table n env more trees sorts others
  split [] ready = absurd ready.sorted
  split {trees} {sorts} (s ∷ others) ready = (s, others, first_ready d bodies table n env trees sorts t more s others ready, rest_ready d bodies table n env trees sorts t more s others ready)

  tree_within : (trees : List CoreTree) (sorts each : List SortId) (under : AreUnder d bodies old n env o all trees sorts each) (allowed : List CoreTree) → Within allowed (combined d o (compiled_all d (compiled_calls d bodies n) trees all)) → Within allowed (tree_for trees)
  tree_within trees sorts each under allowed w =
      let f = h.for trees sorts each under in
      all_within_middle allowed f.made (tree_for trees) (later_for trees) (subst (AllWithin allowed) (sym f.same) (within_plain allowed d o (compiled_all d (compiled_calls d bodies n) trees all) under.operands w))

  -- it fails
  pub collects_failed : (new : Terms) (e : TermError) → Compiles d bodies n table new env t (Err e) → CompilesAll d bodies n old new env o all (Err e)
  collects_failed new e one = record {
    core = λ trees sorts each under. tt;
    effect = λ trees sorts each allowed under w.
        let f = h.for trees sorts each under in
        let s = split f.each f.ready in
        effect_because d allowed old new _ _ (same_error e Full) (effect_then d allowed old table new ⊥ _ (f.effect allowed w) (one.effect trees sorts s.0 allowed s.2 (tree_within trees sorts each under allowed w)));
    order = λ trees sorts each under. tt;
  }

  -- what is made for it, and its tree
  abbrev one_made : List CoreTree → Made
  one_made trees = record { making = making d (defined d bodies n) trees t; term = tree_for trees }

  -- a call under it is put off
  pub collects_waits : (rows : Rows) (new : Terms) (call : DeferredCall) → IsPutOff d bodies rows n table new env t call → ArePutOff d bodies rows n old new env o all call
  collects_waits rows new call one = λ trees sorts each under.
      let f = h.for trees sorts each under in
      let s = split f.each f.ready in
      let defs = defined d bodies n in
      let later = made_each d defs trees more in
      let all_made = made_each d defs trees all in
      let kept = f.ready.setting.kept in
      let operands : AreOperands d o (terms (f.done ++ one_made trees ∷ later)) = subst (λ (ps : List Made). AreOperands d o (terms ps)) f.all_done (subst (AreOperands d o) (sym (terms_each d defs trees all)) under.operands) in
      let next = operator_next kept.theorems d (one_made trees) later old table kept.ordered o f.done operands f.order in
      waits_under d bodies rows n n old table new (made_by d o all_made).making next.0 (making d defs trees t) next.1.0 (λ allowed. Within allowed (tree_for trees)) (λ allowed. Within allowed (combined d o (compiled_all d (compiled_calls d bodies n) trees all))) call (omega arith) next.2
      (ap (λ (ps : List Made). (made_by d o ps).making) f.all_done ∙ next.1.1)
      (λ allowed w. tree_within trees sorts each under allowed w) (one trees sorts s.0 s.2)

  -- it is made, and what follows it may be
  module _ (mid : Terms) (u : TermId) (one : Compiles d bodies n table mid env t (Ok u)) where
    effect_one : (trees : List CoreTree) (sorts each : List SortId) → AreUnder d bodies old n env o all trees sorts each → Effect d (subtrees (tree_for trees)) table mid (IsErrOf (Ok u) Full)
    effect_one trees sorts each under =
        let s = split (h.for trees sorts each under).each (h.for trees sorts each under).ready in
        one.effect trees sorts s.0 (subtrees (tree_for trees)) s.2 (within_subtrees (tree_for trees))

    core_one : (trees : List CoreTree) (sorts each : List SortId) → AreUnder d bodies old n env o all trees sorts each → Stands mid u (tree_for trees)
    core_one trees sorts each under =
        let s = split (h.for trees sorts each under).each (h.for trees sorts each under).ready in
        one.core trees sorts s.0 s.2

    following : (trees : List CoreTree) (sorts each : List SortId) (under : AreUnder d bodies old n env o all trees sorts each) → IsFollowing d mid o lead u (h.for trees sorts each under).made (later_for trees)
    following trees sorts each under =
        let f = h.for trees sorts each under in
        let e = effect_one trees sorts each under in
        let c = core_one trees sorts each under in
        record {
          kept = e.kept;
          inside = c.0;
          leads = leads_stay d table mid o lead f.made e.grown e.kept f.leads;
          operands = subst (λ (v : CoreTree). AreOperands d o (f.made ++ v ∷ later_for trees)) (sym c.1) f.operands;
        }

    pub collects_follows : MayFollow d mid o lead u
    collects_follows = ((h.for h.may.0 h.may.1 h.may.2 h.may.3).made, later_for h.may.0, following h.may.0 h.may.1 h.may.2 h.may.3)

    module _ (ends : Bool) (is_end : ends ≡ false → 0 < count_of more) (is_last : ends ≡ true → count_of more ≡ 0) (new : Terms) (r : Result TermId TermError) (next : FollowGives d mid new o lead u ends r) where
      later_length : (trees : List CoreTree) (ts : Formulas) → 0 < count_of ts → 0 < length (compiled_all d (compiled_calls d bodies n) trees ts)
      later_length trees no_formulas some = absurd (omega (arith, some))
      later_length trees (with_formula v vs) some = omega arith

      none_later : (trees : List CoreTree) (ts : Formulas) → count_of ts ≡ 0 → compiled_all d (compiled_calls d bodies n) trees ts ≡ []
      none_later trees no_formulas none = refl
      none_later trees (with_formula v vs) none = absurd (omega (arith, none))

      -- what is between it and the later ones is made
      between_made : (trees : List CoreTree) (sorts each : List SortId) (under : AreUnder d bodies old n env o all trees sorts each) (v : TermId) → r ≡ Ok v → MakesInOrder mid (between d o (h.for trees sorts each under).made (tree_for trees) (terms (made_each d (defined d bodies n) trees more))) new
      between_made trees sorts each under v is =
          let f = h.for trees sorts each under in
          let c = core_one trees sorts each under in
          let step : MakesInOrder mid (between d o f.made (term_at mid u) (later_for trees)) new = subst (λ (q : Result TermId TermError). IfOk q (λ z. MakesInOrder mid (between d o f.made (term_at mid u) (later_for trees)) new)) is
          (next.order f.made (later_for trees) (following trees sorts each under) (λ e. later_length trees more (is_end e)) (λ e. none_later trees more (is_last e))) in
          subst (λ (us : List CoreTree). MakesInOrder mid (between d o f.made (tree_for trees) us) new) (sym (terms_each d (defined d bodies n) trees more))
          (subst (λ (w : CoreTree). MakesInOrder mid (between d o f.made w (later_for trees)) new) c.1 step)

      effect_both : (trees : List CoreTree) (sorts each : List SortId) (under : AreUnder d bodies old n env o all trees sorts each) (allowed : List CoreTree) → Within allowed (combined d o (compiled_all d (compiled_calls d bodies n) trees all)) → Effect d allowed old new (IsErrOf r Full)
      effect_both trees sorts each under allowed w =
          let f = h.for trees sorts each under in
          let s = split f.each f.ready in
          let c = core_one trees sorts each under in
          let is : f.made ++ term_at mid u ∷ later_for trees ≡ compiled_all d (compiled_calls d bodies n) trees all = ap (λ (v : CoreTree). f.made ++ v ∷ later_for trees) c.1 ∙ f.same in
          effect_then d allowed old mid new _ _
          (effect_then d allowed old table mid ⊥ _ (f.effect allowed w) (one.effect trees sorts s.0 allowed s.2 (tree_within trees sorts each under allowed w)))
          (next.effect f.made (later_for trees) allowed (following trees sorts each under) (λ e. later_length trees more (is_end e)) (subst (λ (us : List CoreTree). Within allowed (combined d o us)) (sym is) w))

      -- what follows it fails
      pub collects_broken : (e : TermError) → r ≡ Err e → CompilesAll d bodies n old new env o all (Err e)
      collects_broken e is = record {
        core = λ trees sorts each under. tt;
        effect = λ trees sorts each allowed under w.
            effect_because d allowed old new _ _ (λ x. subst (λ (q : Result TermId TermError). IsErrOf q Full) (sym is) (same_error e Full x)) (effect_both trees sorts each under allowed w);
        order = λ trees sorts each under. tt;
      }

      -- the table has grown, and is kept
      pub collects_grown : IsPrefix mid new × IsSoundTable d new
      collects_grown =
          let f = h.for h.may.0 h.may.1 h.may.2 h.may.3 in
          let whole = combined d o (f.made ++ term_at mid u ∷ later_for h.may.0) in
          let step = next.effect f.made (later_for h.may.0) (subtrees whole) (following h.may.0 h.may.1 h.may.2 h.may.3) (λ e. later_length h.may.0 more (is_end e)) (within_subtrees whole) in
          (step.grown, step.kept)

      -- what follows it is made
      pub collects_more : (v : TermId) → r ≡ Ok v → Collects d bodies n old new env o all (args ++ u ∷ []) (Some v) more
      collects_more v is = record {
        may = h.may;
        for = λ trees sorts each under.
            let f = h.for trees sorts each under in
            let s = split f.each f.ready in
            let c = core_one trees sorts each under in
            let first = effect_one trees sorts each under in
            let step = next.effect f.made (later_for trees) (subtrees (combined d o (f.made ++ term_at mid u ∷ later_for trees))) (following trees sorts each under) (λ e. later_length trees more (is_end e)) (within_subtrees (combined d o (f.made ++ term_at mid u ∷ later_for trees))) in
            record {
              each = s.1;
              ready = all_ready_stay d bodies mid new n env more trees sorts s.1 step.grown step.kept (all_ready_stay d bodies table mid n env more trees sorts s.1 first.grown first.kept s.3);
              made = f.made ++ tree_for trees ∷ [];
              stand = all_stay d mid new (args ++ u ∷ []) (f.made ++ tree_for trees ∷ []) step.grown step.kept (all_stand_push mid args f.made u (tree_for trees) (all_stay d table mid args f.made first.grown first.kept f.stand) c);
              leads = (
                more_length f.made (tree_for trees),
                subst (λ (w : CoreTree). Stands new v (leading o (f.made ++ w ∷ []))) c.1 (subst (λ (q : Result TermId TermError). IfOk q (λ z. Stands new z (leading o (f.made ++ term_at mid u ∷ [])))) is (next.next f.made (later_for trees) (following trees sorts each under))),
              );
              same = append_assoc f.made (tree_for trees ∷ []) (later_for trees) ∙ f.same;
              operands = subst (AreOperands d o) (sym (append_assoc f.made (tree_for trees ∷ []) (later_for trees))) f.operands;
              effect = λ allowed w. effect_because d allowed old new _ ⊥ (λ x. absurd x) (effect_both trees sorts each under allowed w);
              done = f.done ++ one_made trees ∷ [];
              all_done = f.all_done ∙ sym (append_assoc f.done (one_made trees ∷ []) (made_each d (defined d bodies n) trees more));
              made_is = terms_append f.done (one_made trees ∷ []) ∙ ap (λ (us : List CoreTree). us ++ tree_for trees ∷ []) f.made_is;
              order =
                  let later = terms (made_each d (defined d bodies n) trees more) in
                  subst (λ (xs : List CoreTree). MakesInOrder old xs new) (sym (prefix_more d o [] f.done (one_made trees) later))
                  (makes_then (woven_prefix d o [] f.done (tree_for trees ∷ later)) (making d (defined d bodies n) trees t ++ between d o (terms f.done) (tree_for trees) later) old table new f.order
                  (makes_then (making d (defined d bodies n) trees t) (between d o (terms f.done) (tree_for trees) later) table mid new (one.order trees sorts s.0 s.2)
                  (subst (λ (us : List CoreTree). MakesInOrder mid (between d o us (tree_for trees) later) new) (sym f.made_is) (between_made trees sorts each under v is))));
            };
        lighter = let k = h.lighter in omega (arith, k);
      }

-- nothing is left
pub collects_end : (d : Declarations) (bodies : List Formula) (n : ℕ) (old table : Terms) (env : List Bound) (o : Operator) (all : Formulas) (args : List TermId) (lead : Option TermId) → Collects d bodies n old table env o all args lead no_formulas → CompilesAll d bodies n old table env o all (Ok args)
collects_end d bodies n old table env o all args lead h = record {
  core = λ trees sorts each under.
      let f = h.for trees sorts each under in
      subst (AllStand table args) (sym (append-nil f.made) ∙ f.same) f.stand;
  effect = λ trees sorts each allowed under w.
      effect_because d allowed old table ⊥ (IsErrOf (Ok args) Full) (λ x. cc) ((h.for trees sorts each under).effect allowed w);
  order = λ trees sorts each under.
      let f = h.for trees sorts each under in
      subst (λ (xs : List CoreTree). MakesInOrder old xs table) (prefix_end d o [] f.done ∙ sym (ap (λ (ps : List Made). woven d o [] ps) (f.all_done ∙ append-nil f.done))) f.order;
}

-- there is no memory for one more
pub collects_out : (d : Declarations) (bodies : List Formula) (n : ℕ) (old table : Terms) (env : List Bound) (o : Operator) (all : Formulas) (args : List TermId) (lead : Option TermId) (rest : Formulas) → Collects d bodies n old table env o all args lead rest → (e : TermError) → e ≡ NoMemory → CompilesAll d bodies n old table env o all (Err e)
collects_out d bodies n old table env o all args lead rest h e is = record {
  core = λ trees sorts each under. tt;
  effect = λ trees sorts each allowed under w. effect_because d allowed old table ⊥ _ (λ x. cc) ((h.for trees sorts each under).effect allowed w);
  order = λ trees sorts each under. tt;
}
