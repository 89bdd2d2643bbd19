-- The cases of a `match`, as far as their tests and bodies are made.
use Rattle.std.proofs.Common.{◌≡◌, ℕ, ◌+◌, ◌<◌, ◌≤◌, List, [], ◌∷◌, ◌++◌, length, Result, Ok, Err, IfOk, IsErrOf, refl, sym, ap, subst, ◌∙◌, arith, ◌⊎◌, Contains, inl, inr}
use Rattle.std.specs.List.{AllByRecursion}
use Rattle.std.proofs.lemmas.Result.{IfOk-weaker}
use Rattle.std.proofs.lemmas.List.{append-nil, append_assoc}
use Rattle.ct_lemmas.proofs.Contained.{Contains-cons, Contains-none}
use Rattle.ct_sorts.specs.declared.ids.CtorId.{CtorId}
use Rattle.ct_sorts.specs.declared.ids.SortId.{SortId}
use Rattle.ct_sorts.specs.Declarations.{Declarations}
use Rattle.ct_terms.specs.declared.ids.TermId.{TermId}
use Rattle.ct_terms.specs.declared.error.TermError.{TermError}
use Rattle.ct_terms.specs.declared.error.TermError.TheVariants.{Full}
use Rattle.ct_formulas.specs.declared.tree.Pattern.{Pattern}
use Rattle.ct_terms.specs.Terms.{Terms, AreOrdered}
use Rattle.ct_terms.specs.CoreTree.{CoreTree, choice, tree_children, subtrees, term_at}
use Rattle.ct_terms.specs.CoreSorts.{HasTreeSort}
use Rattle.ct_formulas.specs.Formula.{Formula, Cases, no_cases, with_case}
use Rattle.ct_formulas.specs.Compiled.{compiled_cases}
use Rattle.ct_scope.specs.declared.bound.Bound.{Bound}
use Rattle.ct_scope.specs.declared.stop.Stop.{Stop}
use Rattle.ct_scope.specs.Deferral.{ended, DefersCases}
use Rattle.ct_occurrence.specs.Marks.{Rows}
use Rattle.ct_operators.specs.declared.choosing.Guarded.{Guarded}
use Rattle.ct_operators.specs.Theorems.{Theorems}
use Rattle.ct_operators.specs.Made.{HasTree, MakesInOrder}
use Rattle.ct_scope.specs.Making.{making_cases, defined}
use Rattle.ct_operators.specs.Effect.{Stands, IsSoundTable, Within, Effect}
use Rattle.ct_scope.specs.Compilable.{compiled_calls}
use Rattle.ct_operators.specs.Chosen.{chosen_from, IsGuardedIn}
use Rattle.ct_scope.specs.Matching.{AreCases, MayCases, CompilesCases}
use Rattle.ct_scope.proofs.Weight.{weight, case_weights, weights_below}
use Rattle.ct_operators.proofs.EffectLemmas.{effect_none, effect_then}
use Rattle.ct_operators.proofs.WithinLemmas.{within_subtrees, within_itself, within_choice}
use Rattle.ct_operators.proofs.MakesLemmas.{makes_then, has_subterm, subterm_cases, Rises, rises_stay, makes_rising}
use Rattle.ct_operators.proofs.OperatorLemmas.{stands_as}
use Rattle.ct_scope.proofs.DeferralLemmas.{ended_by, too_deep_by, waits_under}
use Rattle.ct_scope.proofs.MatchLemmas.{IsChosen, cases_sorted}
use Rattle.ct_operators.proofs.ChosenLemmas.{chosen_last, within_chosen, guarded_stay, same_chosen, all_after}

-- for these terms of the variables: the choices that are made, before what the cases that are left give, are the whole
pub record ChoosesFor (d : Declarations) (bodies : List Formula) (n : ℕ) (old table : Terms) (env : List Bound) (matched : Bound) (all : Cases) (made : List Guarded) (earlier : List CtorId) (rest : Cases) (tree : CoreTree) (side : SortId) (trees : List CoreTree) (sorts : List SortId) (sort : SortId) : Type 0 where
  pub ready : AreCases d bodies table n env matched earlier rest tree side trees sorts sort
  pub below : AllByRecursion (IsGuardedIn table) made
  pub same : chosen_from (term_at table) made (compiled_cases d (compiled_calls d bodies n) trees tree earlier rest) ≡ compiled_cases d (compiled_calls d bodies n) trees tree [] all
  pub effect : (allowed : List CoreTree) → Within allowed (compiled_cases d (compiled_calls d bodies n) trees tree [] all) → Effect d allowed old table ⊥
  pub begun : List CoreTree
  pub ends : List CoreTree
  pub makes : making_cases d (defined d bodies n) trees tree [] all ≡ begun ++ (making_cases d (defined d bodies n) trees tree earlier rest ++ ends)
  pub order : MakesInOrder old begun table
  pub rises : Rises table (compiled_cases d (compiled_calls d bodies n) trees tree earlier rest) ends (compiled_cases d (compiled_calls d bodies n) trees tree [] all)

pub record Chooses (d : Declarations) (bodies : List Formula) (n : ℕ) (old table : Terms) (env : List Bound) (matched : Bound) (all : Cases) (made : List Guarded) (earlier : List CtorId) (rest : Cases) : Type 0 where
  pub may : MayCases d bodies old n env matched [] all
  pub for : (tree : CoreTree) (side : SortId) (trees : List CoreTree) (sorts : List SortId) (sort : SortId) → AreCases d bodies old n env matched [] all tree side trees sorts sort → ChoosesFor d bodies n old table env matched all made earlier rest tree side trees sorts sort
  pub lighter : case_weights (weights_below bodies n) rest ≤ case_weights (weights_below bodies n) all

pub chooses_start : (d : Declarations) (bodies : List Formula) (n : ℕ) (old : Terms) (env : List Bound) (matched : Bound) (all : Cases) → MayCases d bodies old n env matched [] all → Chooses d bodies n old old env matched all [] [] all
chooses_start d bodies n old env matched all may = record {
  may = may;
  for = λ tree side trees sorts sort h. record {
    ready = h;
    below = tt;
    same = refl;
    effect = λ allowed w. effect_none d allowed old ⊥ h.setting.kept (λ x. x);
    begun = [];
    ends = [];
    makes = sym (append-nil (making_cases d (defined d bodies n) trees tree [] all));
    order = refl;
    rises = refl;
  };
  lighter = omega arith;
}

module _ (d : Declarations) (bodies : List Formula) (n : ℕ) (old table : Terms) (env : List Bound) (matched : Bound) (all : Cases) (made : List Guarded) (earlier : List CtorId) (rest : Cases) (h : Chooses d bodies n old table env matched all made earlier rest) where
  abbrev whole : CoreTree → List CoreTree → CoreTree
  whole tree trees = compiled_cases d (compiled_calls d bodies n) trees tree [] all

  abbrev later : CoreTree → List CoreTree → CoreTree
  later tree trees = compiled_cases d (compiled_calls d bodies n) trees tree earlier rest

  -- the cases that are left may be compiled
  pub chooses_may : MayCases d bodies table n env matched earlier rest
  chooses_may = (h.may.0, h.may.1, h.may.2, h.may.3, h.may.4, (h.for h.may.0 h.may.1 h.may.2 h.may.3 h.may.4 h.may.5).ready)

  later_effect : (new : Terms) (r : Result TermId TermError) → CompilesCases d bodies n table new env matched earlier rest r → (tree : CoreTree) (side : SortId) (trees : List CoreTree) (sorts : List SortId) (sort : SortId) (allowed : List CoreTree) → AreCases d bodies old n env matched [] all tree side trees sorts sort → Within allowed (whole tree trees) → Effect d allowed old new (IsErrOf r Full)
  later_effect new r one tree side trees sorts sort allowed k w =
      let f = h.for tree side trees sorts sort k in
      effect_then d allowed old table new ⊥ _ (f.effect allowed w)
      (one.effect tree side trees sorts sort allowed f.ready (within_chosen allowed (term_at table) made (later tree trees) (subst (Within allowed) (sym f.same) w)))

  -- they fail
  pub chooses_failed : (new : Terms) (e : TermError) → CompilesCases d bodies n table new env matched earlier rest (Err e) → CompilesCases d bodies n old new env matched [] all (Err e)
  chooses_failed new e one = record {
    core = λ tree side trees sorts sort k. tt;
    effect = λ tree side trees sorts sort allowed k w. later_effect new (Err e) one tree side trees sorts sort allowed k w;
    order = λ tree side trees sorts sort k. tt;
  }

  pub chooses_stopped : (new : Terms) (s : Stop) → CompilesCases d bodies n table new env matched earlier rest (ended (Err s)) → CompilesCases d bodies n old new env matched [] all (ended (Err s))
  chooses_stopped new s one = ended_by s (λ r. CompilesCases d bodies n table new env matched earlier rest r) (λ r. CompilesCases d bodies n old new env matched [] all r) (chooses_failed new) one

  -- a call under them is put off
  pub chooses_waits : (rows : Rows) (new : Terms) (s : Stop) → DefersCases d bodies rows n table new env matched earlier rest (Err s) → DefersCases d bodies rows n old new env matched [] all (Err s)
  chooses_waits rows new s one =
      too_deep_by TermId TermId s _ _ (λ call w tree side trees sorts sort k.
      let f = h.for tree side trees sorts sort k in
      waits_under d bodies rows n n old table new (making_cases d (defined d bodies n) trees tree [] all) f.begun (making_cases d (defined d bodies n) trees tree earlier rest) f.ends (λ allowed. Within allowed (later tree trees)) (λ allowed. Within allowed (whole tree trees)) call
      (omega arith) f.order f.makes (λ allowed inside. within_chosen allowed (term_at table) made (later tree trees) (subst (Within allowed) (sym f.same) inside))
      (w tree side trees sorts sort f.ready)) one

  -- the body of the last is made
  module _ (mid : Terms) (v : TermId) (one : CompilesCases d bodies n table mid env matched earlier rest (Ok v)) where
    last_effect : (tree : CoreTree) (side : SortId) (trees : List CoreTree) (sorts : List SortId) (sort : SortId) → AreCases d bodies old n env matched [] all tree side trees sorts sort → Effect d (subtrees (later tree trees)) table mid (IsErrOf (Ok v) Full)
    last_effect tree side trees sorts sort k = one.effect tree side trees sorts sort (subtrees (later tree trees)) (h.for tree side trees sorts sort k).ready (within_subtrees (later tree trees))

    layer : (tree : CoreTree) (side : SortId) (trees : List CoreTree) (sorts : List SortId) (sort : SortId) → AreCases d bodies old n env matched [] all tree side trees sorts sort → chosen_from (term_at mid) made (term_at mid v) ≡ whole tree trees
    layer tree side trees sorts sort k =
        let f = h.for tree side trees sorts sort k in
        let e = last_effect tree side trees sorts sort k in
        let s : Stands mid v (later tree trees) = one.core tree side trees sorts sort f.ready in
        ap (chosen_from (term_at mid) made) s.1 ∙ same_chosen d table mid made (later tree trees) e.grown e.kept f.below ∙ f.same

    pub last_kept : IsSoundTable d mid
    last_kept = (last_effect h.may.0 h.may.1 h.may.2 h.may.3 h.may.4 h.may.5).kept

    pub last_below : AllByRecursion (IsGuardedIn mid) made
    last_below = guarded_stay table mid made (last_effect h.may.0 h.may.1 h.may.2 h.may.3 h.may.4 h.may.5).grown (h.for h.may.0 h.may.1 h.may.2 h.may.3 h.may.4 h.may.5).below

    pub last_inside : v.0 < length mid
    last_inside =
        let s : Stands mid v (later h.may.0 h.may.2) = one.core h.may.0 h.may.1 h.may.2 h.may.3 h.may.4 (h.for h.may.0 h.may.1 h.may.2 h.may.3 h.may.4 h.may.5).ready in
        s.0

    pub last_sorted : (sort : SortId) × HasTreeSort d (chosen_from (term_at mid) made (term_at mid v)) sort
    last_sorted = (h.may.4, subst (λ (x : CoreTree). HasTreeSort d x h.may.4) (sym (layer h.may.0 h.may.1 h.may.2 h.may.3 h.may.4 h.may.5)) (cases_sorted d bodies old n env matched all [] h.may.0 h.may.1 h.may.2 h.may.3 h.may.4 h.may.5))

    -- the choices are made
    pub chooses_end : (new : Terms) (r : Result TermId TermError) → IfOk r (λ x. Stands new x (chosen_from (term_at mid) made (term_at mid v))) → ((allowed : List CoreTree) → Within allowed (chosen_from (term_at mid) made (term_at mid v)) → Effect d allowed mid new (IsErrOf r Full)) → CompilesCases d bodies n old new env matched [] all r
    chooses_end new r core effect = record {
      core = λ tree side trees sorts sort k. IfOk-weaker r _ (λ x. Stands new x (whole tree trees)) (λ x s. stands_as new x _ _ (layer tree side trees sorts sort k) s) core;
      effect = λ tree side trees sorts sort allowed k w.
          effect_then d allowed old mid new _ _ (later_effect mid (Ok v) one tree side trees sorts sort allowed k w)
          (effect allowed (subst (Within allowed) (sym (layer tree side trees sorts sort k)) w));
      order = λ tree side trees sorts sort k.
          let f = h.for tree side trees sorts sort k in
          let g = last_effect tree side trees sorts sort k in
          let is = layer tree side trees sorts sort k in
          let top = chosen_from (term_at mid) made (term_at mid v) in
          let rest_made = making_cases d (defined d bodies n) trees tree earlier rest in
          IfOk-weaker r (λ x. Stands new x top) (λ x. MakesInOrder old (making_cases d (defined d bodies n) trees tree [] all) new)
          (λ x s.
          let e = subst (λ (y : CoreTree). Effect d (subtrees y) mid new (IsErrOf r Full)) is (effect (subtrees top) (within_subtrees top)) in
          let rises = rises_stay g.kept.theorems table mid (later tree trees) f.ends (whole tree trees) g.grown g.kept.ordered f.rises in
          let last = makes_rising d mid new (later tree trees) f.ends (whole tree trees) (IsErrOf r Full) e rises (v, one.core tree side trees sorts sort f.ready) (x, stands_as new x _ _ is s) in
          subst (λ (xs : List CoreTree). MakesInOrder old xs new) (sym f.makes)
          (makes_then f.begun (rest_made ++ f.ends) old table new f.order (makes_then rest_made f.ends table mid new (one.order tree side trees sorts sort f.ready) last)))
          core;
    }

-- what was made, and what is to come
regroup : (xs ys zs : List CoreTree) (w : CoreTree) (ws : List CoreTree) → xs ++ ((ys ++ (zs ++ w ∷ [])) ++ ws) ≡ (xs ++ ys) ++ (zs ++ w ∷ ws)
regroup xs ys zs w ws =
    ap (λ (vs : List CoreTree). xs ++ vs) (append_assoc ys (zs ++ w ∷ []) ws ∙ ap (λ (vs : List CoreTree). ys ++ vs) (append_assoc zs (w ∷ []) ws))
    ∙ sym (append_assoc xs ys (zs ++ w ∷ ws))

-- a choice is over what comes after it, and over its test and body
choice_rises : (theorems : Theorems) (table : Terms) (a b : TermId) (now later : CoreTree) (ends : List CoreTree) (whole : CoreTree) → AreOrdered table → a.0 < length table → b.0 < length table → now ≡ choice (term_at table a) (term_at table b) later → Rises table now ends whole → Rises table later (now ∷ ends) whole
choice_rises theorems table a b now later ends whole ordered a_in b_in is r =
    let up = choice (term_at table a) (term_at table b) later in
    let under : Contains (subtrees up) later = within_itself theorems (subtrees up) later (within_choice (subtrees up) (term_at table a) (term_at table b) later (within_subtrees up)).1.1 in (
      subst (λ (x : CoreTree). Contains (subtrees x) later) (sym is) under,
      (
        λ s c. elim (subterm_cases theorems now s c) [
          | inl e ↦ inl e
          | inr deeper ↦ inr (by s deeper.0 (subst (λ (x : CoreTree). Contains (tree_children x) deeper.0) is deeper.1.0) deeper.1.1)
        ],
        r,
      ),
    )
  where
    by : (s u : CoreTree) → Contains (term_at table a ∷ (term_at table b ∷ (later ∷ []))) u → Contains (subtrees u) s → Contains (subtrees later) s ⊎ HasTree table s
    by s u inside c = elim (Contains-cons (term_at table a) (term_at table b ∷ (later ∷ [])) u inside) [
      | inl e ↦ inr (has_subterm theorems table (term_at table a) s ordered (a, (a_in, refl)) (subst (λ (x : CoreTree). Contains (subtrees x) s) (sym e) c))
      | inr second ↦ elim (Contains-cons (term_at table b) (later ∷ []) u second) [
        | inl e ↦ inr (has_subterm theorems table (term_at table b) s ordered (b, (b_in, refl)) (subst (λ (x : CoreTree). Contains (subtrees x) s) (sym e) c))
        | inr third ↦ elim (Contains-cons later [] u third) [
          | inl e ↦ inl (subst (λ (x : CoreTree). Contains (subtrees x) s) (sym e) c)
          | inr none ↦ absurd (Contains-none u none)
        ]
      ]
    ]

-- one more case is made
module _ (d : Declarations) (bodies : List Formula) (n : ℕ) (old table : Terms) (env : List Bound) (matched : Bound) (all : Cases) (made : List Guarded) (earlier : List CtorId) (p : Pattern) (body : Formula) (rest : Cases) (h : Chooses d bodies n old table env matched all made earlier (with_case p body rest)) where
  pub chooses_lighter : weight (weights_below bodies n) body + 1 < case_weights (weights_below bodies n) all
  chooses_lighter = let k = h.lighter in omega (arith, k)

  pub chooses_more : (new : Terms) (c : CtorId) (g : Guarded) → ((tree : CoreTree) (side : SortId) (trees : List CoreTree) (sorts : List SortId) (sort : SortId) → AreCases d bodies table n env matched earlier (with_case p body rest) tree side trees sorts sort → IsChosen d bodies n env matched earlier c (with_case p body rest) rest table new g.condition g.body tree side trees sorts sort) → Chooses d bodies n old new env matched all (made ++ g ∷ []) (c ∷ earlier) rest
  chooses_more new c g chosen = record {
    may = h.may;
    for = λ tree side trees sorts sort k.
        let f = h.for tree side trees sorts sort k in
        let s = chosen tree side trees sorts sort f.ready in
        let now = compiled_cases d (compiled_calls d bodies n) trees tree earlier (with_case p body rest) in
        let later = compiled_cases d (compiled_calls d bodies n) trees tree (c ∷ earlier) rest in
        record {
          ready = s.ready;
          below = all_after (IsGuardedIn new) made g (guarded_stay table new made s.grown f.below) (s.condition, s.body);
          same =
              chosen_last (term_at new) made g later
              ∙ ap (chosen_from (term_at new) made) (sym s.same)
              ∙ same_chosen d table new made now s.grown s.kept f.below
              ∙ f.same;
          effect = λ allowed w. effect_then d allowed old table new ⊥ ⊥ (f.effect allowed w) (s.effect allowed (within_chosen allowed (term_at table) made now (subst (Within allowed) (sym f.same) w)));
          begun = f.begun ++ s.begun;
          ends = now ∷ f.ends;
          makes =
              f.makes
              ∙ ap (λ (xs : List CoreTree). f.begun ++ (xs ++ f.ends)) s.makes
              ∙ regroup f.begun s.begun (making_cases d (defined d bodies n) trees tree (c ∷ earlier) rest) now f.ends;
          order = makes_then f.begun s.begun old table new f.order s.order;
          rises = choice_rises s.kept.theorems new g.condition g.body now later f.ends (compiled_cases d (compiled_calls d bodies n) trees tree [] all) s.kept.ordered s.condition s.body s.same (rises_stay s.kept.theorems table new now f.ends (compiled_cases d (compiled_calls d bodies n) trees tree [] all) s.grown s.kept.ordered f.rises);
        };
    lighter = let k = h.lighter in omega (arith, k);
  }

-- no case is left
pub chooses_none : (d : Declarations) (bodies : List Formula) (n : ℕ) (old table : Terms) (env : List Bound) (matched : Bound) (all : Cases) (made : List Guarded) (earlier : List CtorId) → Chooses d bodies n old table env matched all made earlier no_cases → ⊥
chooses_none d bodies n old table env matched all made earlier h = (h.for h.may.0 h.may.1 h.may.2 h.may.3 h.may.4 h.may.5).ready.some
