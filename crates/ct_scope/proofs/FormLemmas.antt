-- Compiling a `let`, a call and a `match`: what is needed of the formulas under them, and what they give.
use Rattle.std.proofs.Common.{◌≡◌, ℕ, suc, ◌+◌, ◌<◌, ◌==◌, Bool, true, false, ◌&&◌, List, [], ◌∷◌, length, Result, Ok, Err, Some, slice_get, IsErrOf, refl, sym, ap, ap₂, subst, ◌∙◌, arith, true≢false, ◌++◌, if◌then◌else◌}
use Rattle.std.specs.List.{AllZip}
use Rattle.std.proofs.lemmas.Option.{none-some, same_Some}
use Rattle.std.proofs.lemmas.Bool.Decides.{Decides-eqb}
use Rattle.std.proofs.lemmas.List.{append-nil}
use Rattle.std.proofs.lemmas.Result.{IfOk-weaker}
use Rattle.ct_lemmas.proofs.Booleans.{or_false, or_left, or_right}
use Rattle.ct_sorts.specs.declared.ids.DefId.{DefId}
use Rattle.ct_sorts.specs.declared.ids.SortId.{SortId}
use Rattle.ct_sorts.specs.Declarations.{Declarations}
use Rattle.ct_terms.specs.declared.ids.TermId.{TermId}
use Rattle.ct_terms.specs.declared.error.TermError.{TermError}
use Rattle.ct_terms.specs.declared.error.TermError.TheVariants.{Full, NoMemory}
use Rattle.ct_formulas.specs.declared.tree.Pattern.{Pattern}
use Rattle.ct_formulas.specs.declared.tree.Case.{Case}
use Rattle.ct_formulas.specs.declared.tree.Tree.{Tree}
use Rattle.ct_terms.specs.Terms.{Terms}
use Rattle.ct_terms.specs.CoreTree.{CoreTree}
use Rattle.ct_formulas.specs.Formula.{Formula, Formulas, Cases, Match, no_formulas, with_formula, with_case}
use Rattle.ct_formulas.specs.TreeFormula.{formula_of, formulas_of_trees}
use Rattle.ct_formulas.specs.Compiled.{are_none, compiled, compiled_cases}
use Rattle.ct_formulas.specs.Occurrence.{count_of, occurs, matched_occurs, occurs_in_cases, uses_below}
use Rattle.ct_scope.specs.declared.bound.Bound.{Bound}
use Rattle.ct_scope.specs.declared.stop.Stop.{Stop}
use Rattle.ct_scope.specs.Deferral.{ended, Defers, DefersBound, DefersCases}
use Rattle.ct_occurrence.specs.Marks.{Rows}
use Rattle.ct_scope.specs.declared.bound.Bound.TheVariants.{Term, Field, Absent}
use Rattle.ct_operators.specs.Effect.{Within}
use Rattle.ct_operators.specs.Made.{MakesInOrder}
use Rattle.ct_scope.specs.Making.{making, making_cases, defined}
use Rattle.ct_scope.specs.Compilable.{compiled_calls, IsBound, IsCompilable, MayCompile, Compiles}
use Rattle.ct_scope.specs.Binding.{IsBoundAs, occurs_where, WithinWhere, making_where, AreBinding, MayBind, Binds}
use Rattle.ct_occurrence.specs.CaseFormula.{case_of, cases_of_trees}
use Rattle.ct_scope.specs.Matching.{IsTerm, AreCases, MayCases, CompilesCases}
use Rattle.ct_scope.proofs.Weight.{weight, weights}
use Rattle.ct_operators.proofs.EffectLemmas.{effect_then, effect_because}
use Rattle.ct_scope.proofs.CompilableLemmas.{setting_stays, present_less}
use Rattle.ct_operators.proofs.EffectLemmas.{same_error}
use Rattle.ct_operators.proofs.MakesLemmas.{makes_then}
use Rattle.ct_scope.proofs.MatchLemmas.{matched_under}
use Rattle.ct_scope.proofs.DeferralLemmas.{ended_by, too_deep_by, waits_under}
use Rattle.ct_scope.proofs.UnderLemmas.{too_deep_same}

pub not_full : (e : TermError) → e ≡ NoMemory → IsErrOf {T = TermId} {E = TermError} (Err e) Full → ⊥
not_full e is h = cc

-- ---- formulas and cases of trees

pub count_trees : (ts : List Tree) → count_of (formulas_of_trees ts) ≡ length ts
count_trees [] = refl
count_trees (t ∷ ts) = ap suc (count_trees ts)

pub one_weight : (w : DefId → ℕ) (t : Tree) (ts : List Tree) → formulas_of_trees ts ≡ with_formula (formula_of t) no_formulas → weights w (formulas_of_trees ts) ≡ weight w (formula_of t) + 1
one_weight w t ts is = ap (weights w) is ∙ omega arith

pub cases_is : (cases rest : List Case) (case : Case) (p : Pattern) (body : Formula) → cases ≡ case ∷ rest → p ≡ (case_of case).0 → body ≡ (case_of case).1 → cases_of_trees cases ≡ with_case p body (cases_of_trees rest)
cases_is cases rest case p body is pattern formula =
    ap cases_of_trees is ∙ ap₂ (λ (q : Pattern) (f : Formula). with_case q f (cases_of_trees rest)) (sym pattern) (sym formula)

pub none_is : (cases : List Case) → (length cases == 0) ≡ are_none (cases_of_trees cases)
none_is [] = refl
none_is (c ∷ cases) = by (suc (length cases) == 0) refl
  where
    by : (b : Bool) → (suc (length cases) == 0) ≡ b → b ≡ false
    by true e = absurd (omega (arith, (Decides-eqb (suc (length cases)) 0).0 e))
    by false e = refl

-- the same flags and formulas
pub may_bind_as : (d : Declarations) (bodies : List Formula) (table : Terms) (n : ℕ) (env : List Bound) (flags others : List Bool) (ts us : Formulas) → flags ≡ others → ts ≡ us → MayBind d bodies table n env flags ts → MayBind d bodies table n env others us
may_bind_as d bodies table n env flags others ts us e f h =
    subst (λ (xs : Formulas). MayBind d bodies table n env others xs) f (subst (λ (bs : List Bool). MayBind d bodies table n env bs ts) e h)

pub binds_as : (d : Declarations) (bodies : List Formula) (n : ℕ) (old new : Terms) (env : List Bound) (flags others : List Bool) (ts us : Formulas) (r : Result (List Bound) TermError) → flags ≡ others → ts ≡ us → Binds d bodies n old new env flags ts r → Binds d bodies n old new env others us r
binds_as d bodies n old new env flags others ts us r e f h =
    subst (λ (xs : Formulas). Binds d bodies n old new env others xs r) f (subst (λ (bs : List Bool). Binds d bodies n old new env bs ts r) e h)

pub defers_as : (d : Declarations) (bodies : List Formula) (rows : Rows) (n : ℕ) (old new : Terms) (env : List Bound) (flags others : List Bool) (ts us : Formulas) (r : Result (List Bound) Stop) → flags ≡ others → ts ≡ us → DefersBound d bodies rows n old new env flags ts r → DefersBound d bodies rows n old new env others us r
defers_as d bodies rows n old new env flags others ts us r e f h =
    subst (λ (xs : Formulas). DefersBound d bodies rows n old new env others xs r) f (subst (λ (bs : List Bool). DefersBound d bodies rows n old new env bs ts r) e h)

-- where it is a term that is bound
term_as : (b : Bool) (x : Bound) → IsBoundAs b x → b ≡ true → IsTerm x
term_as true (Term t) h e = tt
term_as true (Field s t) h e = absurd h
term_as true Absent h e = absurd h
term_as false x h e = absurd (true≢false (sym e))

first_zip : {X Y : Type 0} (R : X → Y → Type 0) (xs : List X) (x : Y) (z : X) (ys : List Y) → xs ≡ z ∷ [] → AllZip R xs ys → slice_get ys 0 ≡ Some x → R z x
first_zip R xs x z [] is h at = absurd (none-some x at)
first_zip {X} {Y} R xs x z (v ∷ vs) is h at = subst (R z) (same_Some v x at) (subst (λ (us : List X). AllZip R us (v ∷ vs)) is h).0

zip_first : {X Y : Type 0} (R : X → Y → Type 0) (xs : List X) (x : X) (y : Y) → AllZip R xs (y ∷ []) → slice_get xs 0 ≡ Some x → R x y
zip_first R [] x y h at = absurd h
zip_first R (v ∷ vs) x y h at = subst (λ (u : _). R u y) (same_Some v x at) h.0

module _ (d : Declarations) (bodies : List Formula) (n : ℕ) (old : Terms) (env : List Bound) (t : Formula) (cases : Cases) (b : Bool) (is : b ≡ matched_occurs d (uses_below d bodies n) [] cases) where
  abbrev uses : DefId → ℕ → Bool
  uses = uses_below d bodies n

  abbrev ts : Formulas
  ts = with_formula t no_formulas

  abbrev core : List CoreTree → CoreTree
  core trees = compiled d (compiled_calls d bodies n) trees t

  binding : (trees : List CoreTree) (sorts : List SortId) (sort : SortId) (h : IsCompilable d bodies old n env (Match t cases) trees sorts sort) → AreBinding d bodies old n env (b ∷ []) ts trees sorts (h.sorted.0 ∷ [])
  binding trees sorts sort h = record {
    setting = h.setting;
    mentions = (h.mentions.0, tt);
    sorted = (h.sorted.1, tt);
    present = present_less (occurs_where d uses (b ∷ []) ts) (occurs d uses (Match t cases)) env
        (λ i e. or_left (matched_occurs d uses [] cases && occurs d uses t i) (occurs_in_cases d uses [] cases i) (ap (λ (x : Bool). x && occurs d uses t i) (sym is) ∙ sym (or_false (b && occurs d uses t i)) ∙ e)) h.present;
    long = refl;
  }

  pub match_may : MayCompile d bodies old n env (Match t cases) → MayBind d bodies old n env (b ∷ []) ts
  match_may may = (may.0, may.1, may.3.sorted.0 ∷ [], binding may.0 may.1 may.2 may.3)

  within : (trees : List CoreTree) (sorts : List SortId) (sort : SortId) (h : IsCompilable d bodies old n env (Match t cases) trees sorts sort) (allowed : List CoreTree) → Within allowed (compiled d (compiled_calls d bodies n) trees (Match t cases)) → WithinWhere allowed (b ∷ []) (core trees ∷ [])
  within trees sorts sort h allowed w = (
    λ e s inside.
        let theorems = h.setting.kept.theorems in
        w s (theorems.subterms_of_subterms (compiled d (compiled_calls d bodies n) trees (Match t cases)) (core trees) s
        (matched_under theorems d uses (compiled_calls d bodies n) trees sorts h.sorted.0 sort (core trees) [] cases (theorems.used_subterm d bodies n h.setting.sound) h.sorted.4 (sym is ∙ e)) inside),
    tt,
  )

  pub match_failed : (new : Terms) (e : TermError) → Binds d bodies n old new env (b ∷ []) ts (Err e) → Compiles d bodies n old new env (Match t cases) (Err e)
  match_failed new e all = record {
    core = λ trees sorts sort h. tt;
    effect = λ trees sorts sort allowed h w.
        effect_because d allowed old new _ _ (same_error e Full) (all.effect trees sorts (h.sorted.0 ∷ []) allowed (binding trees sorts sort h) (within trees sorts sort h allowed w));
    order = λ trees sorts sort h. tt;
  }

  pub match_stopped : (new : Terms) (s : Stop) → Binds d bodies n old new env (b ∷ []) ts (ended (Err s)) → Compiles d bodies n old new env (Match t cases) (ended (Err s))
  match_stopped new s all = ended_by s (λ r. Binds d bodies n old new env (b ∷ []) ts r) (λ r. Compiles d bodies n old new env (Match t cases) r) (match_failed new) all

  -- what is made for the matched term, where it occurs
  abbrev here : List CoreTree → List CoreTree
  here trees = if b then making d (defined d bodies n) trees t else []

  match_makes : (trees : List CoreTree) → making d (defined d bodies n) trees (Match t cases) ≡ here trees ++ making_cases d (defined d bodies n) trees (core trees) [] cases
  match_makes trees = ap (λ (y : Bool). (if y then making d (defined d bodies n) trees t else []) ++ making_cases d (defined d bodies n) trees (core trees) [] cases) (sym is)

  -- a call under it is put off
  pub match_waits : (rows : Rows) (new : Terms) (s : Stop) → DefersBound d bodies rows n old new env (b ∷ []) ts (Err s) → Defers d bodies rows n old new env (Match t cases) (Err s)
  match_waits rows new s all =
      too_deep_by (List Bound) TermId s _ _ (λ call w trees sorts sort h.
      let rest = making_cases d (defined d bodies n) trees (core trees) [] cases in
      waits_under d bodies rows n n old old new (making d (defined d bodies n) trees (Match t cases)) [] (making_where d (defined d bodies n) trees (b ∷ []) ts) rest
      (λ allowed. WithinWhere allowed (b ∷ []) (core trees ∷ [])) (λ allowed. Within allowed (compiled d (compiled_calls d bodies n) trees (Match t cases))) call
      (omega arith) refl (match_makes trees ∙ ap (λ (xs : List CoreTree). xs ++ rest) (sym (append-nil (here trees)))) (λ allowed inside. within trees sorts sort h allowed inside)
      (w trees sorts (h.sorted.0 ∷ []) (binding trees sorts sort h))) all

  module _ (mid : Terms) (bs : List Bound) (all : Binds d bodies n old mid env (b ∷ []) ts (Ok bs)) where
    pub match_some : MayCompile d bodies old n env (Match t cases) → 0 < length bs
    match_some may = some bs all.flagged
      where
        some : (xs : List Bound) → AllZip IsBoundAs (b ∷ []) xs → 0 < length xs
        some [] h = absurd h
        some (x ∷ xs) h = omega arith

    module _ (x : Bound) (at : slice_get bs 0 ≡ Some x) where
      cases_ready : (trees : List CoreTree) (sorts : List SortId) (sort : SortId) (h : IsCompilable d bodies old n env (Match t cases) trees sorts sort) → AreCases d bodies mid n env x [] cases (core trees) h.sorted.0 trees sorts sort
      cases_ready trees sorts sort h =
          let k = binding trees sorts sort h in
          let g = all.grown trees sorts (h.sorted.0 ∷ []) k in
          let s = h.setting in
          record {
            setting = setting_stays d bodies old mid env trees sorts g.0 g.1 h.setting;
            mentions = h.mentions.1;
            sorted = h.sorted.4;
            some = h.sorted.3;
            bound = zip_first (IsBound mid) bs x (core trees) (all.core trees sorts (h.sorted.0 ∷ []) k) at;
            fits = s.kept.theorems.compiled_sorted d n (compiled_calls d bodies n) trees sorts t h.sorted.0 s.consistent (s.kept.theorems.calls_sorted d bodies n s.consistent s.sound) s.fitting h.mentions.0 h.sorted.1;
            there = λ e. term_as b x (first_zip IsBoundAs (b ∷ []) x b bs refl all.flagged at) (is ∙ e);
            present = present_less (occurs_in_cases d uses [] cases) (occurs d uses (Match t cases)) env
                (λ i e. or_right (matched_occurs d uses [] cases && occurs d uses t i) (occurs_in_cases d uses [] cases i) e) h.present;
          }

      pub match_cases : MayCompile d bodies old n env (Match t cases) → MayCases d bodies mid n env x [] cases
      match_cases may = (core may.0, may.3.sorted.0, may.0, may.1, may.2, cases_ready may.0 may.1 may.2 may.3)

      pub match_made : (new : Terms) (r : Result TermId TermError) → CompilesCases d bodies n mid new env x [] cases r → Compiles d bodies n old new env (Match t cases) r
      match_made new r one = record {
        core = λ trees sorts sort h. one.core (core trees) h.sorted.0 trees sorts sort (cases_ready trees sorts sort h);
        effect = λ trees sorts sort allowed h w.
            effect_then d allowed old mid new _ _ (all.effect trees sorts (h.sorted.0 ∷ []) allowed (binding trees sorts sort h) (within trees sorts sort h allowed w))
            (one.effect (core trees) h.sorted.0 trees sorts sort allowed (cases_ready trees sorts sort h) w);
        order = λ trees sorts sort h.
            let defs = defined d bodies n in
            let here = if b then making d defs trees t else [] in
            let rest = making_cases d defs trees (core trees) [] cases in
            let first : MakesInOrder old here mid = subst (λ (xs : List CoreTree). MakesInOrder old xs mid) (append-nil here) (all.order trees sorts (h.sorted.0 ∷ []) (binding trees sorts sort h)) in
            IfOk-weaker r (λ x. MakesInOrder mid rest new) (λ x. MakesInOrder old (making d defs trees (Match t cases)) new)
            (λ x k. subst (λ (y : Bool). MakesInOrder old ((if y then making d defs trees t else []) ++ rest) new) is (makes_then here rest old mid new first k))
            (one.order (core trees) h.sorted.0 trees sorts sort (cases_ready trees sorts sort h));
      }

      -- a call under the cases is put off
      pub match_later : (rows : Rows) (new : Terms) (r : Result TermId Stop) → DefersCases d bodies rows n mid new env x [] cases r → Defers d bodies rows n old new env (Match t cases) r
      match_later rows new r one =
          too_deep_same r _ _ (λ call w trees sorts sort h.
          let part = making_cases d (defined d bodies n) trees (core trees) [] cases in
          let first : MakesInOrder old (here trees) mid = subst (λ (xs : List CoreTree). MakesInOrder old xs mid) (append-nil (here trees)) (all.order trees sorts (h.sorted.0 ∷ []) (binding trees sorts sort h)) in
          waits_under d bodies rows n n old mid new (making d (defined d bodies n) trees (Match t cases)) (here trees) part [] (λ allowed. Within allowed (compiled_cases d (compiled_calls d bodies n) trees (core trees) [] cases)) (λ allowed. Within allowed (compiled d (compiled_calls d bodies n) trees (Match t cases))) call
          (omega arith) first (match_makes trees ∙ ap (λ (xs : List CoreTree). here trees ++ xs) (sym (append-nil part))) (λ allowed inside. inside)
          (w (core trees) h.sorted.0 trees sorts sort (cases_ready trees sorts sort h))) one
