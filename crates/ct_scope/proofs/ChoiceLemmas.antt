-- Compiling a variable, and a choice between two formulas.
use Rattle.std.proofs.Common.{◌≡◌, ℕ, ◌<◌, Bool, ◌||◌, List, [], ◌∷◌, ◌++◌, length, Contains, Result, Ok, Err, IfOk, IsErrOf, Option, Some, unwrap_or, slice_get, refl, sym, ap, ap₂, subst, ◌∙◌, arith}
use Rattle.std.specs.List.{AllByRecursion}
use Rattle.std.proofs.lemmas.Option.{same_Some, slice_get_within}
use Rattle.std.proofs.lemmas.Bool.Decides.{Decides-eqb}
use Rattle.std.proofs.lemmas.List.{append_assoc}
use Rattle.std.proofs.lemmas.Result.{IfOk-weaker}
use Rattle.ct_lemmas.proofs.Booleans.{or_left, or_right}
use Rattle.ct_lemmas.proofs.Pairs.{AllZip-at_right}
use Rattle.ct_sorts.specs.declared.ids.SortId.{SortId}
use Rattle.ct_sorts.specs.Declarations.{Declarations, bool_sort}
use Rattle.ct_terms.specs.declared.ids.TermId.{TermId}
use Rattle.ct_terms.specs.declared.error.TermError.{TermError}
use Rattle.ct_terms.specs.declared.error.TermError.TheVariants.{Full}
use Rattle.ct_terms.specs.Terms.{Terms}
use Rattle.ct_terms.specs.CoreTree.{CoreTree, choice, tree_children, subtrees, no_term, term_at}
use Rattle.ct_terms.specs.CoreSorts.{HasTreeSort}
use Rattle.ct_formulas.specs.Formula.{Formula, Var, Ite}
use Rattle.ct_formulas.specs.Compiled.{compiled}
use Rattle.ct_formulas.specs.Occurrence.{occurs, uses_below}
use Rattle.ct_scope.specs.declared.bound.Bound.{Bound}
use Rattle.ct_scope.specs.declared.bound.Bound.TheVariants.{Term, Field, Absent}
use Rattle.ct_operators.specs.Made.{HasTree, HasTrees, MakesInOrder}
use Rattle.ct_scope.specs.Making.{making, defined}
use Rattle.ct_scope.specs.declared.stop.DeferredCall.{DeferredCall}
use Rattle.ct_occurrence.specs.Marks.{Rows}
use Rattle.ct_operators.specs.Effect.{Stands, IsSoundTable, Within, Effect}
use Rattle.ct_scope.specs.Compilable.{compiled_calls, IsBound, IsThere, IsCompilable, MayCompile, Compiles}
use Rattle.ct_operators.proofs.EffectLemmas.{stands_stays, effect_then}
use Rattle.ct_operators.proofs.WithinLemmas.{within_subtrees, within_itself, within_choice}
use Rattle.ct_operators.proofs.OperatorLemmas.{stands_as}
use Rattle.ct_operators.proofs.MakesLemmas.{makes_then, makes_none, makes_one, makes_same}
use Rattle.ct_scope.proofs.DeferralLemmas.{IsPutOff, waits_under}
use Rattle.ct_scope.proofs.CompilableLemmas.{ready_stays, present_less}
use Rattle.ct_scope.proofs.PlainLemmas.{whole_sorted}

-- ---- a variable

-- what is bound is there, or is a field of what is there
bound_made : (d : Declarations) (table new : Terms) (b : Bound) (tree : CoreTree) (full : Type 0) → IsThere b → IsBound table b tree → Effect d (subtrees tree) table new full → HasTree new tree → MakesInOrder table (tree ∷ []) new
bound_made d table new (Term t) tree full there h effect made =
    subst (λ (ts : Terms). MakesInOrder table (tree ∷ []) ts) (sym (makes_same d table new tree full effect (t, h))) (makes_none (tree ∷ []) table ((t, h), tt))
bound_made d table new (Field s t) tree full there h effect made =
    makes_one d table new tree full effect (subst (λ (x : CoreTree). HasTrees table (tree_children x)) h.1 ((t, (h.0, refl)), tt)) made
bound_made d table new Absent tree full there h effect made = absurd there

module _ (d : Declarations) (bodies : List Formula) (n : ℕ) (table : Terms) (env : List Bound) (i : ℕ) where
  -- what the variable stands for, and its tree
  record Stood (trees : List CoreTree) (sort : SortId) : Type 0 where
    bound : Bound
    at : slice_get env i ≡ Some bound
    tree : CoreTree
    is : slice_get trees i ≡ Some tree
    stands : IsBound table bound tree
    sorted : HasTreeSort d tree sort

  stood : (trees : List CoreTree) (sorts : List SortId) (sort : SortId) → IsCompilable d bodies table n env (Var i) trees sorts sort → Stood trees sort
  stood trees sorts sort h =
      let t = AllZip-at_right (HasTreeSort d) trees sorts i sort h.setting.fitting h.sorted in
      let b = AllZip-at_right (IsBound table) env trees i t.0 h.setting.bound t.1 in
      record { bound = b.0; at = b.1; tree = t.0; is = t.1; stands = b.2; sorted = t.2 }

  pub variable_inside : MayCompile d bodies table n env (Var i) → i < length env
  variable_inside may = let s = stood may.0 may.1 may.2 may.3 in slice_get_within env i s.bound s.at

  module _ (b : Bound) (at : slice_get env i ≡ Some b) where
    pub variable_there : MayCompile d bodies table n env (Var i) → IsThere b
    variable_there may = may.3.present i b ((Decides-eqb i i).1 refl) at

    same : (trees : List CoreTree) (sort : SortId) (s : Stood trees sort) → IsBound table b s.tree
    same trees sort s = subst (λ (x : Bound). IsBound table x s.tree) (same_Some s.bound b (sym s.at ∙ at)) s.stands

    pub variable_bound : MayCompile d bodies table n env (Var i) → (tree : CoreTree) × (sort : SortId) × IsBound table b tree × HasTreeSort d tree sort
    variable_bound may = let s = stood may.0 may.1 may.2 may.3 in (s.tree, may.2, same may.0 may.2 s, s.sorted)

    pub variable_made : (new : Terms) (r : Result TermId TermError) → ((tree : CoreTree) → IsBound table b tree → IfOk r (λ t. Stands new t tree)) → ((tree : CoreTree) (allowed : List CoreTree) → IsBound table b tree → Contains allowed tree → Effect d allowed table new (IsErrOf r Full)) → Compiles d bodies n table new env (Var i) r
    variable_made new r core effect = record {
      core = λ trees sorts sort h.
          let s = stood trees sorts sort h in
          let is : s.tree ≡ compiled d (compiled_calls d bodies n) trees (Var i) = sym (ap (λ (o : Option CoreTree). unwrap_or o no_term) s.is) in
          IfOk-weaker r _ (λ t. Stands new t (compiled d (compiled_calls d bodies n) trees (Var i))) (λ t k. stands_as new t _ _ is k) (core s.tree (same trees sort s));
      effect = λ trees sorts sort allowed h w.
          let s = stood trees sorts sort h in
          let is : compiled d (compiled_calls d bodies n) trees (Var i) ≡ s.tree = ap (λ (o : Option CoreTree). unwrap_or o no_term) s.is in
          effect s.tree allowed (same trees sort s) (subst (Contains allowed) is (within_itself h.setting.kept.theorems allowed _ w));
      order = λ trees sorts sort h.
          let s = stood trees sorts sort h in
          let is : compiled d (compiled_calls d bodies n) trees (Var i) ≡ s.tree = ap (λ (o : Option CoreTree). unwrap_or o no_term) s.is in
          let e = effect s.tree (subtrees s.tree) (same trees sort s) (within_itself h.setting.kept.theorems (subtrees s.tree) s.tree (within_subtrees s.tree)) in
          subst (λ (x : CoreTree). IfOk r (λ t. MakesInOrder table (x ∷ []) new)) (sym is)
          (IfOk-weaker r (λ t. Stands new t s.tree) (λ t. MakesInOrder table (s.tree ∷ []) new)
          (λ t stands. bound_made d table new b s.tree _ (h.present i b ((Decides-eqb i i).1 refl) at) (same trees sort s) e (t, stands))
          (core s.tree (same trees sort s)));
    }

-- ---- a choice

module _ (d : Declarations) (bodies : List Formula) (n : ℕ) (env : List Bound) (c t u : Formula) where
  module _ (old : Terms) (trees : List CoreTree) (sorts : List SortId) (sort : SortId) (h : IsCompilable d bodies old n env (Ite c t u) trees sorts sort) where
    abbrev o : Formula → ℕ → Bool
    o f = occurs d (uses_below d bodies n) f

    pub condition_ready : IsCompilable d bodies old n env c trees sorts bool_sort
    condition_ready = record {
      setting = h.setting;
      mentions = h.mentions.0;
      sorted = h.sorted.0;
      present = present_less (o c) (o (Ite c t u)) env (λ i e. or_left (o c i) (o t i || o u i) e) h.present;
    }

    pub then_ready : IsCompilable d bodies old n env t trees sorts sort
    then_ready = record {
      setting = h.setting;
      mentions = h.mentions.1;
      sorted = h.sorted.1;
      present = present_less (o t) (o (Ite c t u)) env (λ i e. or_right (o c i) (o t i || o u i) (or_left (o t i) (o u i) e)) h.present;
    }

    pub else_ready : IsCompilable d bodies old n env u trees sorts sort
    else_ready = record {
      setting = h.setting;
      mentions = h.mentions.2;
      sorted = h.sorted.2;
      present = present_less (o u) (o (Ite c t u)) env (λ i e. or_right (o c i) (o t i || o u i) (or_right (o t i) (o u i) e)) h.present;
    }

  abbrev core : List CoreTree → Formula → CoreTree
  core trees f = compiled d (compiled_calls d bodies n) trees f

  pub choice_condition : (old : Terms) → MayCompile d bodies old n env (Ite c t u) → MayCompile d bodies old n env c
  choice_condition old may = (may.0, may.1, bool_sort, condition_ready old may.0 may.1 may.2 may.3)

  pub choice_failed_1 : (old new : Terms) (e : TermError) → Compiles d bodies n old new env c (Err e) → Compiles d bodies n old new env (Ite c t u) (Err e)
  choice_failed_1 old new e one = record {
    core = λ trees sorts sort h. tt;
    effect = λ trees sorts sort allowed h w. one.effect trees sorts bool_sort allowed (condition_ready old trees sorts sort h) (within_choice allowed (core trees c) (core trees t) (core trees u) w).0;
    order = λ trees sorts sort h. tt;
  }

  abbrev allows : List CoreTree → Formula → List CoreTree → Type 0
  allows trees f allowed = Within allowed (core trees f)

  abbrev made : List CoreTree → Formula → List CoreTree
  made trees f = making d (defined d bodies n) trees f

  pub choice_waits_1 : (rows : Rows) (old new : Terms) (call : DeferredCall) → IsPutOff d bodies rows n old new env c call → IsPutOff d bodies rows n old new env (Ite c t u) call
  choice_waits_1 rows old new call one = λ trees sorts sort h.
      waits_under d bodies rows n n old old new (made trees (Ite c t u)) [] (made trees c) (made trees t ++ (made trees u ++ core trees (Ite c t u) ∷ [])) (allows trees c) (allows trees (Ite c t u)) call (omega arith) refl refl
      (λ allowed w. (within_choice allowed (core trees c) (core trees t) (core trees u) w).0) (one trees sorts bool_sort (condition_ready old trees sorts sort h))

  module _ (old m1 : Terms) (a : TermId) (first : Compiles d bodies n old m1 env c (Ok a)) where
    e1 : (trees : List CoreTree) (sorts : List SortId) (sort : SortId) → IsCompilable d bodies old n env (Ite c t u) trees sorts sort → Effect d (subtrees (core trees c)) old m1 (IsErrOf (Ok a) Full)
    e1 trees sorts sort h = first.effect trees sorts bool_sort (subtrees (core trees c)) (condition_ready old trees sorts sort h) (within_subtrees (core trees c))

    ready_1 : (trees : List CoreTree) (sorts : List SortId) (sort : SortId) → IsCompilable d bodies old n env (Ite c t u) trees sorts sort → IsCompilable d bodies m1 n env (Ite c t u) trees sorts sort
    ready_1 trees sorts sort h = let e = e1 trees sorts sort h in ready_stays d bodies old m1 n env (Ite c t u) trees sorts sort e.grown e.kept h

    pub choice_then : MayCompile d bodies old n env (Ite c t u) → MayCompile d bodies m1 n env t
    choice_then may = (may.0, may.1, may.2, then_ready m1 may.0 may.1 may.2 (ready_1 may.0 may.1 may.2 may.3))

    pub choice_failed_2 : (new : Terms) (e : TermError) → Compiles d bodies n m1 new env t (Err e) → Compiles d bodies n old new env (Ite c t u) (Err e)
    choice_failed_2 new e one = record {
      core = λ trees sorts sort h. tt;
      effect = λ trees sorts sort allowed h w.
          let parts = within_choice allowed (core trees c) (core trees t) (core trees u) w in
          effect_then d allowed old m1 new _ _ (first.effect trees sorts bool_sort allowed (condition_ready old trees sorts sort h) parts.0)
          (one.effect trees sorts sort allowed (then_ready m1 trees sorts sort (ready_1 trees sorts sort h)) parts.1.0);
      order = λ trees sorts sort h. tt;
    }

    pub choice_waits_2 : (rows : Rows) (new : Terms) (call : DeferredCall) → IsPutOff d bodies rows n m1 new env t call → IsPutOff d bodies rows n old new env (Ite c t u) call
    choice_waits_2 rows new call one = λ trees sorts sort h.
        waits_under d bodies rows n n old m1 new (made trees (Ite c t u)) (made trees c) (made trees t) (made trees u ++ core trees (Ite c t u) ∷ []) (allows trees t) (allows trees (Ite c t u)) call (omega arith)
        (first.order trees sorts bool_sort (condition_ready old trees sorts sort h)) refl
        (λ allowed w. (within_choice allowed (core trees c) (core trees t) (core trees u) w).1.0) (one trees sorts sort (then_ready m1 trees sorts sort (ready_1 trees sorts sort h)))

    module _ (m2 : Terms) (b : TermId) (second : Compiles d bodies n m1 m2 env t (Ok b)) where
      e2 : (trees : List CoreTree) (sorts : List SortId) (sort : SortId) → IsCompilable d bodies old n env (Ite c t u) trees sorts sort → Effect d (subtrees (core trees t)) m1 m2 (IsErrOf (Ok b) Full)
      e2 trees sorts sort h = second.effect trees sorts sort (subtrees (core trees t)) (then_ready m1 trees sorts sort (ready_1 trees sorts sort h)) (within_subtrees (core trees t))

      ready_2 : (trees : List CoreTree) (sorts : List SortId) (sort : SortId) → IsCompilable d bodies old n env (Ite c t u) trees sorts sort → IsCompilable d bodies m2 n env (Ite c t u) trees sorts sort
      ready_2 trees sorts sort h = let e = e2 trees sorts sort h in ready_stays d bodies m1 m2 n env (Ite c t u) trees sorts sort e.grown e.kept (ready_1 trees sorts sort h)

      pub choice_else : MayCompile d bodies old n env (Ite c t u) → MayCompile d bodies m2 n env u
      choice_else may = (may.0, may.1, may.2, else_ready m2 may.0 may.1 may.2 (ready_2 may.0 may.1 may.2 may.3))

      pub choice_failed_3 : (new : Terms) (e : TermError) → Compiles d bodies n m2 new env u (Err e) → Compiles d bodies n old new env (Ite c t u) (Err e)
      choice_failed_3 new e one = record {
        core = λ trees sorts sort h. tt;
        effect = λ trees sorts sort allowed h w.
            let parts = within_choice allowed (core trees c) (core trees t) (core trees u) w in
            effect_then d allowed old m2 new _ _
            (effect_then d allowed old m1 m2 _ _ (first.effect trees sorts bool_sort allowed (condition_ready old trees sorts sort h) parts.0)
            (second.effect trees sorts sort allowed (then_ready m1 trees sorts sort (ready_1 trees sorts sort h)) parts.1.0))
            (one.effect trees sorts sort allowed (else_ready m2 trees sorts sort (ready_2 trees sorts sort h)) parts.1.1);
        order = λ trees sorts sort h. tt;
      }

      pub choice_waits_3 : (rows : Rows) (new : Terms) (call : DeferredCall) → IsPutOff d bodies rows n m2 new env u call → IsPutOff d bodies rows n old new env (Ite c t u) call
      choice_waits_3 rows new call one = λ trees sorts sort h.
          waits_under d bodies rows n n old m2 new (made trees (Ite c t u)) (made trees c ++ made trees t) (made trees u) (core trees (Ite c t u) ∷ []) (allows trees u) (allows trees (Ite c t u)) call (omega arith)
          (makes_then (made trees c) (made trees t) old m1 m2 (first.order trees sorts bool_sort (condition_ready old trees sorts sort h)) (second.order trees sorts sort (then_ready m1 trees sorts sort (ready_1 trees sorts sort h))))
          (sym (append_assoc (made trees c) (made trees t) (made trees u ++ core trees (Ite c t u) ∷ [])))
          (λ allowed w. (within_choice allowed (core trees c) (core trees t) (core trees u) w).1.1) (one trees sorts sort (else_ready m2 trees sorts sort (ready_2 trees sorts sort h)))

      module _ (m3 : Terms) (v : TermId) (third : Compiles d bodies n m2 m3 env u (Ok v)) where
        e3 : (trees : List CoreTree) (sorts : List SortId) (sort : SortId) → IsCompilable d bodies old n env (Ite c t u) trees sorts sort → Effect d (subtrees (core trees u)) m2 m3 (IsErrOf (Ok v) Full)
        e3 trees sorts sort h = third.effect trees sorts sort (subtrees (core trees u)) (else_ready m2 trees sorts sort (ready_2 trees sorts sort h)) (within_subtrees (core trees u))

        stand_1 : (trees : List CoreTree) (sorts : List SortId) (sort : SortId) → IsCompilable d bodies old n env (Ite c t u) trees sorts sort → Stands m3 a (core trees c)
        stand_1 trees sorts sort h =
            let f = e2 trees sorts sort h in
            let g = e3 trees sorts sort h in
            stands_stays d m2 m3 a (core trees c) g.grown g.kept (stands_stays d m1 m2 a (core trees c) f.grown f.kept (first.core trees sorts bool_sort (condition_ready old trees sorts sort h)))

        stand_2 : (trees : List CoreTree) (sorts : List SortId) (sort : SortId) → IsCompilable d bodies old n env (Ite c t u) trees sorts sort → Stands m3 b (core trees t)
        stand_2 trees sorts sort h =
            let g = e3 trees sorts sort h in
            stands_stays d m2 m3 b (core trees t) g.grown g.kept (second.core trees sorts sort (then_ready m1 trees sorts sort (ready_1 trees sorts sort h)))

        stand_3 : (trees : List CoreTree) (sorts : List SortId) (sort : SortId) → IsCompilable d bodies old n env (Ite c t u) trees sorts sort → Stands m3 v (core trees u)
        stand_3 trees sorts sort h = third.core trees sorts sort (else_ready m2 trees sorts sort (ready_2 trees sorts sort h))

        layer : (trees : List CoreTree) (sorts : List SortId) (sort : SortId) → IsCompilable d bodies old n env (Ite c t u) trees sorts sort → choice (term_at m3 a) (term_at m3 b) (term_at m3 v) ≡ core trees (Ite c t u)
        layer trees sorts sort h =
            ap (λ (x : CoreTree). choice x (term_at m3 b) (term_at m3 v)) (stand_1 trees sorts sort h).1 ∙ ap₂ (λ (x y : CoreTree). choice (core trees c) x y) (stand_2 trees sorts sort h).1 (stand_3 trees sorts sort h).1

        pub choice_kept : MayCompile d bodies old n env (Ite c t u) → IsSoundTable d m3
        choice_kept may = (e3 may.0 may.1 may.2 may.3).kept

        pub choice_below : MayCompile d bodies old n env (Ite c t u) → AllByRecursion (λ x. x.0 < length m3) (a ∷ (b ∷ (v ∷ [])))
        choice_below may = ((stand_1 may.0 may.1 may.2 may.3).0, ((stand_2 may.0 may.1 may.2 may.3).0, ((stand_3 may.0 may.1 may.2 may.3).0, tt)))

        pub choice_sorted : MayCompile d bodies old n env (Ite c t u) → (sort : SortId) × HasTreeSort d (choice (term_at m3 a) (term_at m3 b) (term_at m3 v)) sort
        choice_sorted may = (may.2, subst (λ (x : CoreTree). HasTreeSort d x may.2) (sym (layer may.0 may.1 may.2 may.3)) (whole_sorted d bodies old n env may.0 may.1 (Ite c t u) may.2 may.3))

        pub choice_made : (new : Terms) (r : Result TermId TermError) → IfOk r (λ x. Stands new x (choice (term_at m3 a) (term_at m3 b) (term_at m3 v))) → ((allowed : List CoreTree) → Contains allowed (choice (term_at m3 a) (term_at m3 b) (term_at m3 v)) → Effect d allowed m3 new (IsErrOf r Full)) → Compiles d bodies n old new env (Ite c t u) r
        choice_made new r made effect = record {
          core = λ trees sorts sort h. IfOk-weaker r _ (λ x. Stands new x (core trees (Ite c t u))) (λ x k. stands_as new x _ _ (layer trees sorts sort h) k) made;
          effect = λ trees sorts sort allowed h w.
              let parts = within_choice allowed (core trees c) (core trees t) (core trees u) w in
              effect_then d allowed old m3 new _ _
              (effect_then d allowed old m2 m3 _ _
              (effect_then d allowed old m1 m2 _ _ (first.effect trees sorts bool_sort allowed (condition_ready old trees sorts sort h) parts.0)
              (second.effect trees sorts sort allowed (then_ready m1 trees sorts sort (ready_1 trees sorts sort h)) parts.1.0))
              (third.effect trees sorts sort allowed (else_ready m2 trees sorts sort (ready_2 trees sorts sort h)) parts.1.1))
              (effect allowed (subst (Contains allowed) (sym (layer trees sorts sort h)) (within_itself h.setting.kept.theorems allowed _ w)));
          order = λ trees sorts sort h.
              let defs = defined d bodies n in
              let whole = core trees (Ite c t u) in
              IfOk-weaker r (λ x. Stands new x (choice (term_at m3 a) (term_at m3 b) (term_at m3 v))) (λ x. MakesInOrder old (making d defs trees (Ite c t u)) new)
              (λ x k.
              let e = effect (subtrees (choice (term_at m3 a) (term_at m3 b) (term_at m3 v))) (within_itself h.setting.kept.theorems (subtrees (choice (term_at m3 a) (term_at m3 b) (term_at m3 v))) (choice (term_at m3 a) (term_at m3 b) (term_at m3 v)) (within_subtrees (choice (term_at m3 a) (term_at m3 b) (term_at m3 v)))) in
              let last = makes_one d m3 new whole _ (subst (λ (y : CoreTree). Effect d (subtrees y) m3 new (IsErrOf r Full)) (layer trees sorts sort h) e) ((a, stand_1 trees sorts sort h), ((b, stand_2 trees sorts sort h), ((v, stand_3 trees sorts sort h), tt))) (x, stands_as new x _ _ (layer trees sorts sort h) k) in
              makes_then (making d defs trees c) (making d defs trees t ++ (making d defs trees u ++ whole ∷ [])) old m1 new (first.order trees sorts bool_sort (condition_ready old trees sorts sort h))
              (makes_then (making d defs trees t) (making d defs trees u ++ whole ∷ []) m1 m2 new (second.order trees sorts sort (then_ready m1 trees sorts sort (ready_1 trees sorts sort h)))
              (makes_then (making d defs trees u) (whole ∷ []) m2 m3 new (third.order trees sorts sort (else_ready m2 trees sorts sort (ready_2 trees sorts sort h))) last)))
              made;
        }
