-- Formulas that are bound to variables, one after the other.
use Rattle.std.proofs.Common.{◌≡◌, ℕ, suc, ◌<◌, ◌≤◌, Bool, true, false, List, [], ◌∷◌, ◌++◌, length, drop, slice_get, Some, Result, Ok, Err, IsErrOf, refl, sym, ap, ap₂, subst, arith}
use Rattle.std.proofs.lemmas.List.{append_assoc, append-nil}
use Rattle.std.proofs.lemmas.Option.{none-some, same_Some}
use Rattle.ct_lemmas.proofs.Booleans.{or_left, or_right}
use Rattle.ct_sorts.specs.declared.ids.DefId.{DefId}
use Rattle.ct_sorts.specs.declared.ids.SortId.{SortId}
use Rattle.ct_sorts.specs.Declarations.{Declarations}
use Rattle.ct_terms.specs.declared.ids.TermId.{TermId}
use Rattle.ct_terms.specs.declared.error.TermError.{TermError}
use Rattle.ct_terms.specs.declared.error.TermError.TheVariants.{Full, NoMemory}
use Rattle.ct_formulas.specs.declared.tree.Tree.{Tree}
use Rattle.ct_formulas.specs.TreeFormula.{formula_of, formulas_of_trees}
use Rattle.ct_terms.specs.Terms.{Terms}
use Rattle.ct_terms.specs.CoreTree.{CoreTree, subtrees}
use Rattle.ct_formulas.specs.Formula.{Formula, Formulas, no_formulas, with_formula}
use Rattle.ct_formulas.specs.Compiled.{compiled, compiled_all}
use Rattle.ct_formulas.specs.Occurrence.{count_of, occurs, uses_below}
use Rattle.ct_scope.specs.declared.bound.Bound.{Bound}
use Rattle.ct_scope.specs.declared.stop.Stop.{Stop}
use Rattle.ct_scope.specs.Deferral.{ended, Defers, DefersBound}
use Rattle.ct_occurrence.specs.Marks.{Rows}
use Rattle.ct_scope.specs.declared.bound.Bound.TheVariants.{Term, Absent}
use Rattle.ct_operators.specs.Effect.{IsSoundTable, IsPrefix, Within, Effect}
use Rattle.ct_scope.specs.Compilable.{compiled_calls, IsCompilable, MayCompile, Compiles}
use Rattle.ct_scope.proofs.Weight.{weight, weights, weights_below}
use Rattle.ct_scope.specs.Making.{making, defined}
use Rattle.ct_scope.specs.Binding.{occurs_where, WithinWhere, making_where, AreBinding, MayBind, Binds}
use Rattle.ct_operators.proofs.EffectLemmas.{prefix_itself, prefix_trans, effect_none, effect_then, effect_because}
use Rattle.ct_operators.proofs.WithinLemmas.{within_subtrees}
use Rattle.ct_operators.proofs.MakesLemmas.{makes_then}
use Rattle.ct_scope.proofs.CompilableLemmas.{bound_stays, setting_stays, present_less}
use Rattle.ct_operators.proofs.EffectLemmas.{same_error}
use Rattle.ct_scope.proofs.DeferralLemmas.{ended_by, too_deep_by, waits_under}

-- nothing is left
pub binds_none : (d : Declarations) (bodies : List Formula) (n : ℕ) (table : Terms) (env : List Bound) → Binds d bodies n table table env [] no_formulas (Ok [])
binds_none d bodies n table env = record {
  core = λ trees sorts each h. tt;
  flagged = tt;
  grown = λ trees sorts each h. (prefix_itself table, h.setting.kept);
  effect = λ trees sorts each allowed h w. effect_none d allowed table _ h.setting.kept (λ x. cc);
  order = λ trees sorts each h. refl;
}

-- there is no memory
pub binds_out : (d : Declarations) (bodies : List Formula) (n : ℕ) (table : Terms) (env : List Bound) (flags : List Bool) (ts : Formulas) (e : TermError) → e ≡ NoMemory → Binds d bodies n table table env flags ts (Err e)
binds_out d bodies n table env flags ts e is = record {
  core = λ trees sorts each h. tt;
  flagged = tt;
  grown = λ trees sorts each h. (prefix_itself table, h.setting.kept);
  effect = λ trees sorts each allowed h w. effect_none d allowed table _ h.setting.kept (λ x. cc);
  order = λ trees sorts each h. tt;
}

module _ (d : Declarations) (bodies : List Formula) (n : ℕ) (env : List Bound) (flags : List Bool) (t : Formula) (ts : Formulas) where
  abbrev made : List CoreTree → Formula → CoreTree
  made trees f = compiled d (compiled_calls d bodies n) trees f

  abbrev uses : DefId → ℕ → Bool
  uses = uses_below d bodies n

  -- ---- the variable does not occur

  pub absent_rest : (table : Terms) → MayBind d bodies table n env (false ∷ flags) (with_formula t ts) → MayBind d bodies table n env flags ts
  absent_rest table may = by may.2 may.3
    where
      by : (each : List SortId) → AreBinding d bodies table n env (false ∷ flags) (with_formula t ts) may.0 may.1 each → MayBind d bodies table n env flags ts
      by [] h = absurd h.sorted
      by (s ∷ each) h = (may.0, may.1, each, record { setting = h.setting; mentions = h.mentions.1; sorted = h.sorted.1; present = h.present; long = omega (arith, h.long) })

  module _ (table new : Terms) where
    absent_binding : (trees : List CoreTree) (sorts each : List SortId) → AreBinding d bodies table n env (false ∷ flags) (with_formula t ts) trees sorts each → (others : List SortId) × AreBinding d bodies table n env flags ts trees sorts others
    absent_binding trees sorts [] h = absurd h.sorted
    absent_binding trees sorts (s ∷ each) h = (each, record { setting = h.setting; mentions = h.mentions.1; sorted = h.sorted.1; present = h.present; long = omega (arith, h.long) })

    pub absent_done : (bs : List Bound) → Binds d bodies n table new env flags ts (Ok bs) → Binds d bodies n table new env (false ∷ flags) (with_formula t ts) (Ok (Absent ∷ bs))
    absent_done bs rest = record {
      core = λ trees sorts each h. let k = absent_binding trees sorts each h in (tt, rest.core trees sorts k.0 k.1);
      flagged = (tt, rest.flagged);
      grown = λ trees sorts each h. let k = absent_binding trees sorts each h in rest.grown trees sorts k.0 k.1;
      effect = λ trees sorts each allowed h w.
          let k = absent_binding trees sorts each h in
          effect_because d allowed table new _ _ (λ x. cc) (rest.effect trees sorts k.0 allowed k.1 w.1);
      order = λ trees sorts each h. let k = absent_binding trees sorts each h in rest.order trees sorts k.0 k.1;
    }

    pub absent_failed : (e : TermError) → Binds d bodies n table new env flags ts (Err e) → Binds d bodies n table new env (false ∷ flags) (with_formula t ts) (Err e)
    absent_failed e rest = record {
      core = λ trees sorts each h. tt;
      flagged = tt;
      grown = λ trees sorts each h. let k = absent_binding trees sorts each h in rest.grown trees sorts k.0 k.1;
      effect = λ trees sorts each allowed h w.
          let k = absent_binding trees sorts each h in
          rest.effect trees sorts k.0 allowed k.1 w.1;
      order = λ trees sorts each h. tt;
    }

    -- a call under the others is put off
    pub absent_waits : (rows : Rows) (s : Stop) → DefersBound d bodies rows n table new env flags ts (Err s) → DefersBound d bodies rows n table new env (false ∷ flags) (with_formula t ts) (Err s)
    absent_waits rows s rest =
        too_deep_by (List Bound) (List Bound) s _ _ (λ call w trees sorts each h.
        let k = absent_binding trees sorts each h in
        let part = making_where d (defined d bodies n) trees flags ts in
        waits_under d bodies rows n n table table new part [] part [] (λ allowed. WithinWhere allowed flags (compiled_all d (compiled_calls d bodies n) trees ts)) (λ allowed. WithinWhere allowed (false ∷ flags) (compiled_all d (compiled_calls d bodies n) trees (with_formula t ts))) call
        (omega arith) refl (sym (append-nil part)) (λ allowed inside. inside.1) (w trees sorts k.0 k.1)) rest

  -- ---- it occurs

  module _ (table : Terms) (trees : List CoreTree) (sorts : List SortId) where
    -- what the first and the rest need
    first_binding : (s : SortId) (each : List SortId) → AreBinding d bodies table n env (true ∷ flags) (with_formula t ts) trees sorts (s ∷ each) → IsCompilable d bodies table n env t trees sorts s
    first_binding s each h = record {
      setting = h.setting;
      mentions = h.mentions.0;
      sorted = h.sorted.0;
      present = present_less (occurs d uses t) (occurs_where d uses (true ∷ flags) (with_formula t ts)) env (λ i e. or_left (occurs d uses t i) (occurs_where d uses flags ts i) e) h.present;
    }

    rest_binding : (s : SortId) (each : List SortId) → AreBinding d bodies table n env (true ∷ flags) (with_formula t ts) trees sorts (s ∷ each) → AreBinding d bodies table n env flags ts trees sorts each
    rest_binding s each h = record {
      setting = h.setting;
      mentions = h.mentions.1;
      sorted = h.sorted.1;
      present = present_less (occurs_where d uses flags ts) (occurs_where d uses (true ∷ flags) (with_formula t ts)) env (λ i e. or_right (occurs d uses t i) (occurs_where d uses flags ts i) e) h.present;
      long = omega (arith, h.long);
    }

    -- both, for any sorts
    split : (each : List SortId) → AreBinding d bodies table n env (true ∷ flags) (with_formula t ts) trees sorts each → (s : SortId) × (others : List SortId) × IsCompilable d bodies table n env t trees sorts s × AreBinding d bodies table n env flags ts trees sorts others
    split [] h = absurd h.sorted
    split (s ∷ each) h = (s, each, first_binding s each h, rest_binding s each h)

  pub term_next : (table : Terms) → MayBind d bodies table n env (true ∷ flags) (with_formula t ts) → MayCompile d bodies table n env t
  term_next table may = let k = split table may.0 may.1 may.2 may.3 in (may.0, may.1, k.0, k.2)

  pub term_failed : (table new : Terms) (e : TermError) → Compiles d bodies n table new env t (Err e) → Binds d bodies n table new env (true ∷ flags) (with_formula t ts) (Err e)
  term_failed table new e one = record {
    core = λ trees sorts each h. tt;
    flagged = tt;
    grown = λ trees sorts each h.
        let k = split table trees sorts each h in
        let e = one.effect trees sorts k.0 (subtrees (made trees t)) k.2 (within_subtrees (made trees t)) in
        (e.grown, e.kept);
    effect = λ trees sorts each allowed h w.
        let k = split table trees sorts each h in
        effect_because d allowed table new _ _ (same_error e Full) (one.effect trees sorts k.0 allowed k.2 (w.0 refl));
    order = λ trees sorts each h. tt;
  }

  -- a call under the first is put off
  pub term_waits : (rows : Rows) (table new : Terms) (s : Stop) → Defers d bodies rows n table new env t (Err s) → DefersBound d bodies rows n table new env (true ∷ flags) (with_formula t ts) (Err s)
  term_waits rows table new s one =
      too_deep_by TermId (List Bound) s _ _ (λ call w trees sorts each h.
      let k = split table trees sorts each h in
      let part = making d (defined d bodies n) trees t in
      let rest = making_where d (defined d bodies n) trees flags ts in
      waits_under d bodies rows n n table table new (part ++ rest) [] part rest (λ allowed. Within allowed (made trees t)) (λ allowed. WithinWhere allowed (true ∷ flags) (compiled_all d (compiled_calls d bodies n) trees (with_formula t ts))) call
      (omega arith) refl refl (λ allowed inside. inside.0 refl) (w trees sorts k.0 k.2)) one

  module _ (table mid : Terms) (u : TermId) (one : Compiles d bodies n table mid env t (Ok u)) where
    grown : (trees : List CoreTree) (sorts : List SortId) (s : SortId) → IsCompilable d bodies table n env t trees sorts s → Effect d (subtrees (made trees t)) table mid (IsErrOf (Ok u) Full)
    grown trees sorts s ready = one.effect trees sorts s (subtrees (made trees t)) ready (within_subtrees (made trees t))

    rest_after : (trees : List CoreTree) (sorts each : List SortId) (s : SortId) → IsCompilable d bodies table n env t trees sorts s → AreBinding d bodies table n env flags ts trees sorts each → AreBinding d bodies mid n env flags ts trees sorts each
    rest_after trees sorts each s ready h =
        let e = grown trees sorts s ready in
        record { setting = setting_stays d bodies table mid env trees sorts e.grown e.kept h.setting; mentions = h.mentions; sorted = h.sorted; present = h.present; long = h.long }

    pub term_rest : MayBind d bodies table n env (true ∷ flags) (with_formula t ts) → MayBind d bodies mid n env flags ts
    term_rest may =
        let k = split table may.0 may.1 may.2 may.3 in
        (may.0, may.1, k.1, rest_after may.0 may.1 k.1 k.0 k.2 k.3)

    -- a call under the others is put off
    pub term_later : (rows : Rows) (new : Terms) (s : Stop) → DefersBound d bodies rows n mid new env flags ts (Err s) → DefersBound d bodies rows n table new env (true ∷ flags) (with_formula t ts) (Err s)
    term_later rows new s rest =
        too_deep_by (List Bound) (List Bound) s _ _ (λ call w trees sorts each h.
        let k = split table trees sorts each h in
        let before = making d (defined d bodies n) trees t in
        let part = making_where d (defined d bodies n) trees flags ts in
        waits_under d bodies rows n n table mid new (before ++ part) before part [] (λ allowed. WithinWhere allowed flags (compiled_all d (compiled_calls d bodies n) trees ts)) (λ allowed. WithinWhere allowed (true ∷ flags) (compiled_all d (compiled_calls d bodies n) trees (with_formula t ts))) call
        (omega arith) (one.order trees sorts k.0 k.2) (ap (λ (xs : List CoreTree). before ++ xs) (sym (append-nil part))) (λ allowed inside. inside.1) (w trees sorts k.1 (rest_after trees sorts k.1 k.0 k.2 k.3))) rest

    -- the table has grown, and is kept
    pub term_grown : MayBind d bodies table n env (true ∷ flags) (with_formula t ts) → IsPrefix table mid × IsSoundTable d mid
    term_grown may =
        let k = split table may.0 may.1 may.2 may.3 in
        let e = grown may.0 may.1 k.0 k.2 in
        (e.grown, e.kept)

    module _ (new : Terms) where
      effect_both : (full : Type 0) (r : Result (List Bound) TermError) → Binds d bodies n mid new env flags ts r → (full → IsErrOf r Full) → (trees : List CoreTree) (sorts each : List SortId) (allowed : List CoreTree) → AreBinding d bodies table n env (true ∷ flags) (with_formula t ts) trees sorts each → WithinWhere allowed (true ∷ flags) (compiled_all d (compiled_calls d bodies n) trees (with_formula t ts)) → Effect d allowed table new full
      effect_both full r rest why trees sorts each allowed h w =
          let k = split table trees sorts each h in
          effect_because d allowed table new _ full why
          (effect_then d allowed table mid new _ _ (one.effect trees sorts k.0 allowed k.2 (w.0 refl))
          (rest.effect trees sorts k.1 allowed (rest_after trees sorts k.1 k.0 k.2 k.3) w.1))

      grown_both : (r : Result (List Bound) TermError) → Binds d bodies n mid new env flags ts r → (trees : List CoreTree) (sorts each : List SortId) → AreBinding d bodies table n env (true ∷ flags) (with_formula t ts) trees sorts each → IsPrefix table new × IsSoundTable d new
      grown_both r rest trees sorts each h =
          let k = split table trees sorts each h in
          let e = grown trees sorts k.0 k.2 in
          let g = rest.grown trees sorts k.1 (rest_after trees sorts k.1 k.0 k.2 k.3) in
          (prefix_trans table mid new e.grown g.0, g.1)

      pub term_done : (bs : List Bound) → Binds d bodies n mid new env flags ts (Ok bs) → Binds d bodies n table new env (true ∷ flags) (with_formula t ts) (Ok (Term u ∷ bs))
      term_done bs rest = record {
        core = λ trees sorts each h.
            let k = split table trees sorts each h in
            let later = rest_after trees sorts k.1 k.0 k.2 k.3 in
            let g = rest.grown trees sorts k.1 later in
            (bound_stays d mid new (Term u) (made trees t) g.0 g.1 (one.core trees sorts k.0 k.2), rest.core trees sorts k.1 later);
        flagged = (tt, rest.flagged);
        grown = grown_both (Ok bs) rest;
        effect = effect_both _ (Ok bs) rest (λ x. cc);
        order = λ trees sorts each h.
            let k = split table trees sorts each h in
            makes_then (making d (defined d bodies n) trees t) (making_where d (defined d bodies n) trees flags ts) table mid new (one.order trees sorts k.0 k.2) (rest.order trees sorts k.1 (rest_after trees sorts k.1 k.0 k.2 k.3));
      }

      pub term_broken : (e : TermError) → Binds d bodies n mid new env flags ts (Err e) → Binds d bodies n table new env (true ∷ flags) (with_formula t ts) (Err e)
      term_broken e rest = record {
        core = λ trees sorts each h. tt;
        flagged = tt;
        grown = grown_both (Err e) rest;
        effect = effect_both _ (Err e) rest (λ x. x);
        order = λ trees sorts each h. tt;
      }

-- ---- the loop: what completes the rest completes the whole

pub record Completes (d : Declarations) (bodies : List Formula) (n : ℕ) (old table : Terms) (env : List Bound) (flags : List Bool) (all : Formulas) (bounds : List Bound) (left : List Bool) (rest : Formulas) : Type 0 where
  pub may : MayBind d bodies table n env left rest
  pub done : (new : Terms) (more : List Bound) → Binds d bodies n table new env left rest (Ok more) → Binds d bodies n old new env flags all (Ok (bounds ++ more))
  pub failed : (new : Terms) (e : TermError) → Binds d bodies n table new env left rest (Err e) → Binds d bodies n old new env flags all (Err e)
  pub waits : (rows : Rows) (new : Terms) (s : Stop) → DefersBound d bodies rows n table new env left rest (Err s) → DefersBound d bodies rows n old new env flags all (Err s)
  pub lighter : weights (weights_below bodies n) rest ≤ weights (weights_below bodies n) all

pub completes_start : (d : Declarations) (bodies : List Formula) (n : ℕ) (old : Terms) (env : List Bound) (flags : List Bool) (all : Formulas) → MayBind d bodies old n env flags all → Completes d bodies n old old env flags all [] flags all
completes_start d bodies n old env flags all may = record {
  may = may;
  done = λ new more h. h;
  failed = λ new e h. h;
  waits = λ rows new s h. h;
  lighter = omega arith;
}

module _ (d : Declarations) (bodies : List Formula) (n : ℕ) (old table : Terms) (env : List Bound) (flags : List Bool) (all : Formulas) (bounds : List Bound) (left : List Bool) where
  -- there is a flag for each formula
  pub completes_long : (rest : Formulas) → Completes d bodies n old table env flags all bounds left rest → length left ≡ count_of rest
  completes_long rest h = h.may.3.long

  pub completes_end : Completes d bodies n old table env flags all bounds [] no_formulas → Binds d bodies n old table env flags all (Ok bounds)
  completes_end h = subst (λ (bs : List Bound). Binds d bodies n old table env flags all (Ok bs)) (append-nil bounds) (h.done table [] (binds_none d bodies n table env))

  pub completes_out : (rest : Formulas) → Completes d bodies n old table env flags all bounds left rest → (e : TermError) → e ≡ NoMemory → Binds d bodies n old table env flags all (Err e)
  completes_out rest h e is = h.failed table e (binds_out d bodies n table env left rest e is)

  module _ (t : Formula) (more : Formulas) where
    pub completes_absent : Completes d bodies n old table env flags all bounds (false ∷ left) (with_formula t more) → Completes d bodies n old table env flags all (bounds ++ Absent ∷ []) left more
    completes_absent h = record {
      may = absent_rest d bodies n env left t more table h.may;
      done = λ new bs k. subst (λ (xs : List Bound). Binds d bodies n old new env flags all (Ok xs)) (sym (append_assoc bounds (Absent ∷ []) bs)) (h.done new (Absent ∷ bs) (absent_done d bodies n env left t more table new bs k));
      failed = λ new e k. h.failed new e (absent_failed d bodies n env left t more table new e k);
      waits = λ rows new s k. h.waits rows new s (absent_waits d bodies n env left t more table new rows s k);
      lighter = let k = h.lighter in omega (arith, k);
    }

    module _ (h : Completes d bodies n old table env flags all bounds (true ∷ left) (with_formula t more)) where
      pub completes_next : MayCompile d bodies table n env t
      completes_next = term_next d bodies n env left t more table h.may

      pub completes_lighter : weight (weights_below bodies n) t < weights (weights_below bodies n) all
      completes_lighter = let k = h.lighter in omega (arith, k)

      pub completes_failed : (new : Terms) (e : TermError) → Compiles d bodies n table new env t (Err e) → Binds d bodies n old new env flags all (Err e)
      completes_failed new e one = h.failed new e (term_failed d bodies n env left t more table new e one)

      pub completes_stopped : (new : Terms) (s : Stop) → Compiles d bodies n table new env t (ended (Err s)) → Binds d bodies n old new env flags all (ended (Err s))
      completes_stopped new s one = ended_by s (λ r. Compiles d bodies n table new env t r) (λ r. Binds d bodies n old new env flags all r) (completes_failed new) one

      pub completes_waits : (rows : Rows) (new : Terms) (s : Stop) → Defers d bodies rows n table new env t (Err s) → DefersBound d bodies rows n old new env flags all (Err s)
      completes_waits rows new s one = h.waits rows new s (term_waits d bodies n env left t more rows table new s one)

      pub completes_term : (mid : Terms) (u : TermId) → Compiles d bodies n table mid env t (Ok u) → Completes d bodies n old mid env flags all (bounds ++ Term u ∷ []) left more
      completes_term mid u one = record {
        may = term_rest d bodies n env left t more table mid u one h.may;
        done = λ new bs k. subst (λ (xs : List Bound). Binds d bodies n old new env flags all (Ok xs)) (sym (append_assoc bounds (Term u ∷ []) bs)) (h.done new (Term u ∷ bs) (term_done d bodies n env left t more table mid u one new bs k));
        failed = λ new e k. h.failed new e (term_broken d bodies n env left t more table mid u one new e k);
        waits = λ rows new s k. h.waits rows new s (term_later d bodies n env left t more table mid u one rows new s k);
        lighter = let k = h.lighter in omega (arith, k);
      }

-- a list begins with what stands first in it
pub flags_split : {X : Type 0} (xs ys : List X) (x : X) → slice_get xs 0 ≡ Some x → ys ≡ drop 1 xs → xs ≡ x ∷ ys
flags_split [] ys x at is = absurd (none-some x at)
flags_split {X} (y ∷ xs) ys x at is = ap₂ (λ (z : X) (zs : List X). z ∷ zs) (same_Some y x at) (sym is)

-- there is a flag for the first of the formulas
pub completes_flag : (d : Declarations) (bodies : List Formula) (n : ℕ) (old table : Terms) (env : List Bound) (flags : List Bool) (all : Formulas) (bounds : List Bound) (left : List Bool) (rest others : List Tree) (tree : Tree) → rest ≡ tree ∷ others → Completes d bodies n old table env flags all bounds left (formulas_of_trees rest) → 0 < length left
completes_flag d bodies n old table env flags all bounds left rest others tree is h =
    let long = completes_long d bodies n old table env flags all bounds left (formulas_of_trees rest) h in
    let count : count_of (formulas_of_trees rest) ≡ suc (count_of (formulas_of_trees others)) = ap (λ (xs : List Tree). count_of (formulas_of_trees xs)) is in
    omega (arith, long, count)

-- the first formula with its flag
pub completes_split : (d : Declarations) (bodies : List Formula) (n : ℕ) (old table : Terms) (env : List Bound) (flags : List Bool) (all : Formulas) (bounds : List Bound) (left later : List Bool) (rest others : List Tree) (tree : Tree) (occurs b : Bool) → left ≡ occurs ∷ later → rest ≡ tree ∷ others → occurs ≡ b → Completes d bodies n old table env flags all bounds left (formulas_of_trees rest) → Completes d bodies n old table env flags all bounds (b ∷ later) (with_formula (formula_of tree) (formulas_of_trees others))
completes_split d bodies n old table env flags all bounds left later rest others tree occurs b at is same h =
    let one = subst (λ (xs : List Tree). Completes d bodies n old table env flags all bounds left (formulas_of_trees xs)) is h in
    let two = subst (λ (bs : List Bool). Completes d bodies n old table env flags all bounds bs (formulas_of_trees (tree ∷ others))) at one in
    subst (λ (x : Bool). Completes d bodies n old table env flags all bounds (x ∷ later) (formulas_of_trees (tree ∷ others))) same two

-- no formula is left, and so no flag
pub completes_all : (d : Declarations) (bodies : List Formula) (n : ℕ) (old table : Terms) (env : List Bound) (flags : List Bool) (all : Formulas) (bounds : List Bound) (left : List Bool) (rest : List Tree) → rest ≡ [] → Completes d bodies n old table env flags all bounds left (formulas_of_trees rest) → Binds d bodies n old table env flags all (Ok bounds)
completes_all d bodies n old table env flags all bounds left rest is h = by left (subst (λ (xs : List Tree). Completes d bodies n old table env flags all bounds left (formulas_of_trees xs)) is h)
  where
    by : (bs : List Bool) → Completes d bodies n old table env flags all bounds bs no_formulas → Binds d bodies n old table env flags all (Ok bounds)
    by [] k = completes_end d bodies n old table env flags all bounds [] k
    by (x ∷ bs) k = let long = completes_long d bodies n old table env flags all bounds (x ∷ bs) no_formulas k in absurd (omega (arith, long))
