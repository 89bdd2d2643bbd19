-- What is made after a term of an operator is a subterm of the operator's core term.
use Rattle.std.proofs.Common.{◌≡◌, ◌<◌, ◌==◌, Bool, true, false, if◌then◌else◌, List, [], ◌∷◌, ◌++◌, length, map, Contains, Option, Some, None, Result, Ok, Err, IfOk, IsErrOf, refl, sym, ap, subst, ◌∙◌, arith}
use Rattle.std.specs.List.{AllByRecursion, fold}
use Rattle.std.proofs.lemmas.Result.{IfOk-weaker}
use Rattle.ct_sorts.specs.declared.ids.SortId.{SortId}
use Rattle.ct_sorts.specs.Declarations.{Declarations, bool_sort}
use Rattle.ct_terms.specs.declared.ids.TermId.{TermId}
use Rattle.ct_terms.specs.declared.error.TermError.{TermError}
use Rattle.ct_terms.specs.declared.error.TermError.TheVariants.{Full}
use Rattle.ct_terms.specs.Terms.{Terms}
use Rattle.ct_terms.specs.CoreTree.{CoreTree, negation, equivalence, equation, tree_children, subtrees, term_at}
use Rattle.ct_terms.specs.CoreSorts.{HasTreeSort, tree_sort}
use Rattle.ct_formulas.specs.Pairs.{neighbours_from, neighbours, pairs}
use Rattle.ct_formulas.specs.Compiled.{exclusive, exclusive_of, implied_from, implication_of, equality, inequality}
use Rattle.ct_operators.specs.declared.operator.Operator.{Operator}
use Rattle.ct_operators.specs.declared.operator.Operator.TheVariants.{Exclusion, Implication, Equality, Inequality}
use Rattle.ct_operators.specs.Effect.{Stands, Within, AllWithin, Effect}
use Rattle.ct_operators.specs.Made.{HasTree, HasTrees, MakesInOrder}
use Rattle.ct_operators.specs.Forms.{head_tree, combined, AllHaveSort}
use Rattle.ct_operators.specs.Following.{last_from, last_tree, leading, between, IsLeading, IsFollowing, MayFollow, FollowGives}
use Rattle.ct_operators.proofs.EffectLemmas.{stands_stays, effect_none, effect_because}
use Rattle.ct_operators.proofs.MakesLemmas.{makes_one, makes_two}
use Rattle.ct_operators.proofs.WithinLemmas.{within_itself, within_subtrees, within_disjunction}
use Rattle.ct_operators.proofs.OperatorLemmas.{stands_as, within_fold}
use Rattle.ct_operators.proofs.OperandLemmas.{within_all_of}

-- ---- sorts

middle_sort : (d : Declarations) (side : SortId) (us : List CoreTree) (u : CoreTree) (later : List CoreTree) → AllHaveSort d side (us ++ u ∷ later) → HasTreeSort d u side
middle_sort d side [] u later h = h.0
middle_sort d side (v ∷ vs) u later h = middle_sort d side vs u later h.1

front_sorts : (d : Declarations) (side : SortId) (us vs : List CoreTree) → AllHaveSort d side (us ++ vs) → AllHaveSort d side us
front_sorts d side [] vs h = tt
front_sorts d side (u ∷ us) vs h = (h.0, front_sorts d side us vs h.1)

last_sort : (d : Declarations) (side : SortId) (u : CoreTree) (us : List CoreTree) → AllHaveSort d side (u ∷ us) → HasTreeSort d (last_from u us) side
last_sort d side u [] h = h.0
last_sort d side u (v ∷ vs) h = last_sort d side v vs h.1

fold_sort : (d : Declarations) (x : CoreTree) (us : List CoreTree) → HasTreeSort d x bool_sort → AllHaveSort d bool_sort us → HasTreeSort d (fold exclusive x us) bool_sort
fold_sort d x [] h k = h
fold_sort d x (u ∷ us) h k = fold_sort d (exclusive x u) us ((h, k.0, refl), refl) k.1

pub last_of_sort : (d : Declarations) (side : SortId) (us : List CoreTree) → 0 < length us → AllHaveSort d side us → HasTreeSort d (last_tree us) side
last_of_sort d side [] some h = absurd (omega (arith, some))
last_of_sort d side (u ∷ us) some h = last_sort d side u us h

pub first_of_sort : (d : Declarations) (side : SortId) (us : List CoreTree) → 0 < length us → AllHaveSort d side us → HasTreeSort d (head_tree us) side
first_of_sort d side [] some h = absurd (omega (arith, some))
first_of_sort d side (u ∷ us) some h = h.0

pub exclusive_sort : (d : Declarations) (us : List CoreTree) → 0 < length us → AllHaveSort d bool_sort us → HasTreeSort d (exclusive_of us) bool_sort
exclusive_sort d [] some h = absurd (omega (arith, some))
exclusive_sort d (u ∷ us) some h = fold_sort d u us h.0 h.1

-- ---- what leads the next term

last_push : (u : CoreTree) (us : List CoreTree) (v : CoreTree) → last_from u (us ++ v ∷ []) ≡ v
last_push u [] v = refl
last_push u (w ∷ ws) v = last_push w ws v

pub last_of_push : (us : List CoreTree) (v : CoreTree) → last_tree (us ++ v ∷ []) ≡ v
last_of_push [] v = refl
last_of_push (u ∷ us) v = last_push u us v

pub first_of_push : (us : List CoreTree) (v : CoreTree) → 0 < length us → head_tree (us ++ v ∷ []) ≡ head_tree us
first_of_push [] v some = absurd (omega (arith, some))
first_of_push (u ∷ us) v some = refl

fold_more : (x : CoreTree) (us : List CoreTree) (v : CoreTree) (later : List CoreTree) → fold exclusive x (us ++ v ∷ later) ≡ fold exclusive (exclusive (fold exclusive x us) v) later
fold_more x [] v later = refl
fold_more x (u ∷ us) v later = fold_more (exclusive x u) us v later

pub exclusive_more : (us : List CoreTree) (v : CoreTree) (later : List CoreTree) → 0 < length us → exclusive_of (us ++ v ∷ later) ≡ fold exclusive (exclusive (exclusive_of us) v) later
exclusive_more [] v later some = absurd (omega (arith, some))
exclusive_more (u ∷ us) v later some = fold_more u us v later

-- ---- subterms

module _ (allowed : List CoreTree) where
  neighbour_within : (d : Declarations) (x : CoreTree) (us : List CoreTree) (v : CoreTree) (later : List CoreTree) → AllWithin allowed (neighbours_from (equality d) x (us ++ v ∷ later)) → Within allowed (equality d (last_from x us) v)
  neighbour_within d x [] v later w = w.0
  neighbour_within d x (u ∷ us) v later w = neighbour_within d u us v later w.1

  pub equality_within : (d : Declarations) (us : List CoreTree) (v : CoreTree) (later : List CoreTree) → 0 < length us → Within allowed (combined d Equality (us ++ v ∷ later)) → Within allowed (equality d (last_tree us) v)
  equality_within d [] v later some w = absurd (omega (arith, some))
  equality_within d (u ∷ us) v later some w = neighbour_within d u us v later (within_all_of allowed (neighbours (equality d) (u ∷ (us ++ v ∷ later))) w)

  pair_within : (d : Declarations) (x : CoreTree) (us : List CoreTree) (v : CoreTree) (later more : List CoreTree) → AllWithin allowed (map (inequality d x) (us ++ v ∷ later) ++ more) → Within allowed (inequality d x v)
  pair_within d x [] v later more w = w.0
  pair_within d x (u ∷ us) v later more w = pair_within d x us v later more w.1

  pub inequality_within : (d : Declarations) (us : List CoreTree) (v : CoreTree) (later : List CoreTree) → 0 < length us → Within allowed (combined d Inequality (us ++ v ∷ later)) → Within allowed (inequality d (head_tree us) v)
  inequality_within d [] v later some w = absurd (omega (arith, some))
  inequality_within d (u ∷ us) v later some w = pair_within d u us v later (pairs (inequality d) (us ++ v ∷ later)) (within_all_of allowed (pairs (inequality d) (u ∷ (us ++ v ∷ later))) w)

  pub exclusion_within : (us : List CoreTree) (v : CoreTree) (later : List CoreTree) → 0 < length us → Within allowed (exclusive_of (us ++ v ∷ later)) → Within allowed (exclusive (exclusive_of us) v)
  exclusion_within us v later some w = within_fold allowed (exclusive (exclusive_of us) v) later (subst (Within allowed) (exclusive_more us v later some) w)

  implied_within : (x : CoreTree) (us : List CoreTree) (v : CoreTree) (later : List CoreTree) → Within allowed (implied_from x (us ++ v ∷ later)) → Within allowed (implied_from v later)
  implied_within x [] v later w = (within_disjunction allowed (negation x ∷ (implied_from v later ∷ [])) w).1.0
  implied_within x (u ∷ us) v later w = implied_within u us v later (within_disjunction allowed (negation x ∷ (implied_from u (us ++ v ∷ later) ∷ [])) w).1.0

  refuted_within : (v : CoreTree) (later : List CoreTree) → 0 < length later → Within allowed (implied_from v later) → Within allowed (negation v)
  refuted_within v [] some w = absurd (omega (arith, some))
  refuted_within v (u ∷ us) some w = (within_disjunction allowed (negation v ∷ (implied_from u us ∷ [])) w).0

  pub implication_within : (us : List CoreTree) (v : CoreTree) (later : List CoreTree) → 0 < length later → Within allowed (implication_of (us ++ v ∷ later)) → Within allowed (negation v)
  implication_within [] v later some w = refuted_within v later some w
  implication_within (u ∷ us) v later some w = refuted_within v later some (implied_within u us v later w)

-- ---- what is between a term and the later ones

between_equality : (d : Declarations) (us : List CoreTree) (u : CoreTree) (later : List CoreTree) → 0 < length us → between d Equality us u later ≡ equality d (last_tree us) u ∷ []
between_equality d [] u later some = absurd (omega (arith, some))
between_equality d (v ∷ us) u later some = refl

between_inequality : (d : Declarations) (us : List CoreTree) (u : CoreTree) (later : List CoreTree) → 0 < length us → between d Inequality us u later ≡ equality d (head_tree us) u ∷ (inequality d (head_tree us) u ∷ [])
between_inequality d [] u later some = absurd (omega (arith, some))
between_inequality d (v ∷ us) u later some = refl

between_exclusion : (d : Declarations) (us : List CoreTree) (u : CoreTree) (later : List CoreTree) → 0 < length us → between d Exclusion us u later ≡ equivalence (exclusive_of us) u ∷ (exclusive (exclusive_of us) u ∷ [])
between_exclusion d [] u later some = absurd (omega (arith, some))
between_exclusion d (v ∷ us) u later some = refl

between_implication : (d : Declarations) (us : List CoreTree) (u : CoreTree) (later : List CoreTree) → 0 < length later → between d Implication us u later ≡ negation u ∷ []
between_implication d us u [] some = absurd (omega (arith, some))
between_implication d us u (w ∷ later) some = refl

-- the terms under an equality
pub equality_under : (d : Declarations) (table : Terms) (a b : CoreTree) → HasTree table a → HasTree table b → HasTrees table (tree_children (equality d a b))
equality_under d table a b h k = by ((tree_sort d a).0 == 0)
  where
    by : (x : Bool) → HasTrees table (tree_children (if x then equivalence a b else equation a b))
    by true = (h, (k, tt))
    by false = (h, (k, tt))

-- ---- nothing is made

-- the term itself leads the next
pub follows_itself : (d : Declarations) (table : Terms) (o : Operator) (lead : Option TermId) (term : TermId) (ends : Bool) → ((us : List CoreTree) → IsLeading table o lead us → leading o (us ++ term_at table term ∷ []) ≡ term_at table term) → ((us later : List CoreTree) → IsLeading table o lead us → (ends ≡ true → later ≡ []) → between d o us (term_at table term) later ≡ []) → FollowGives d table table o lead term ends (Ok term)
follows_itself d table o lead term ends is none = record {
  next = λ us later h. (h.inside, sym (is us h.leads));
  effect = λ us later allowed h more w. effect_none d allowed table (IsErrOf (Ok term) Full) h.kept (λ x. cc);
  order = λ us later h more last. subst (λ (xs : List CoreTree). MakesInOrder table xs table) (sym (none us later h.leads last)) refl;
}

pub equality_first : (d : Declarations) (table : Terms) (term : TermId) (ends : Bool) → FollowGives d table table Equality None term ends (Ok term)
equality_first d table term ends = follows_itself d table Equality None term ends (λ us e. last_of_push us (term_at table term)) (λ us later e last. ap (λ (ws : List CoreTree). between d Equality ws (term_at table term) later) e)

pub inequality_first : (d : Declarations) (table : Terms) (term : TermId) (ends : Bool) → FollowGives d table table Inequality None term ends (Ok term)
inequality_first d table term ends = follows_itself d table Inequality None term ends (λ us e. ap (λ (ws : List CoreTree). head_tree (ws ++ term_at table term ∷ [])) e) (λ us later e last. ap (λ (ws : List CoreTree). between d Inequality ws (term_at table term) later) e)

pub exclusion_first : (d : Declarations) (table : Terms) (term : TermId) (ends : Bool) → FollowGives d table table Exclusion None term ends (Ok term)
exclusion_first d table term ends = follows_itself d table Exclusion None term ends (λ us e. ap (λ (ws : List CoreTree). exclusive_of (ws ++ term_at table term ∷ [])) e) (λ us later e last. ap (λ (ws : List CoreTree). between d Exclusion ws (term_at table term) later) e)

pub implication_last : (d : Declarations) (table : Terms) (lead : Option TermId) (term : TermId) (ends : Bool) → ends ≡ true → FollowGives d table table Implication lead term ends (Ok term)
implication_last d table lead term ends is_last = follows_itself d table Implication lead term ends (λ us e. last_of_push us (term_at table term)) (λ us later e last. ap (between d Implication us (term_at table term)) (last is_last))

-- ---- equality

one_tree : (t : CoreTree) → Contains (t ∷ []) t
one_tree t = (0, omega arith, refl)

-- two terms that stand, the first with the leading tree
both_below : (d : Declarations) (table : Terms) (o : Operator) (before term : TermId) (us later : List CoreTree) → IsFollowing d table o (Some before) term us later → AllByRecursion (λ t. t.0 < length table) (before ∷ (term ∷ []))
both_below d table o before term us later h = (h.leads.1.0, (h.inside, tt))

module _ (d : Declarations) (old : Terms) (before term : TermId) where
  pub equality_pair : MayFollow d old Equality (Some before) term → AllByRecursion (λ t. t.0 < length old) (before ∷ (term ∷ []))
  equality_pair may = both_below d old Equality before term may.0 may.1 may.2

  pub equality_sorts : MayFollow d old Equality (Some before) term → (side : SortId) × AllByRecursion (λ t. HasTreeSort d (term_at old t) side) (before ∷ (term ∷ []))
  equality_sorts may =
      let h = may.2 in
      let side = h.operands.0 in (
        side,
        (
          subst (λ (u : CoreTree). HasTreeSort d u side) (sym h.leads.1.1) (last_of_sort d side may.0 h.leads.0 (front_sorts d side may.0 (term_at old term ∷ may.1) h.operands.2)),
          (middle_sort d side may.0 (term_at old term) may.1 h.operands.2, tt),
        ),
      )

  module _ (new : Terms) (full : Type 0) (effect : (allowed : List CoreTree) → Contains allowed (equality d (term_at old before) (term_at old term)) → Effect d allowed old new full) where
    equality_effect : (us later allowed : List CoreTree) → IsFollowing d old Equality (Some before) term us later → Within allowed (combined d Equality (us ++ term_at old term ∷ later)) → Effect d allowed old new full
    equality_effect us later allowed h w = effect allowed (subst (λ (u : CoreTree). Contains allowed (equality d u (term_at old term))) (sym h.leads.1.1) (within_itself h.kept.theorems allowed _ (equality_within allowed d us (term_at old term) later h.leads.0 w)))

    pub equality_failed : (e : TermError) (ends : Bool) → (IsErrOf {T = TermId} {E = TermError} (Err e) Full → full) → FollowGives d old new Equality (Some before) term ends (Err e)
    equality_failed e ends why = record {
      next = λ us later h. tt;
      effect = λ us later allowed h more w. effect_because d allowed old new full _ why (equality_effect us later allowed h w);
      order = λ us later h more last. tt;
    }

    pub equality_done : (ends : Bool) → HasTree new (equality d (term_at old before) (term_at old term)) → FollowGives d old new Equality (Some before) term ends (Ok term)
    equality_done ends made = record {
      next = λ us later h.
          let e = effect (equality d (term_at old before) (term_at old term) ∷ []) (one_tree (equality d (term_at old before) (term_at old term))) in
          stands_as new term _ _ (sym (last_of_push us (term_at old term))) (stands_stays d old new term (term_at old term) e.grown e.kept (h.inside, refl));
      effect = λ us later allowed h more w. effect_because d allowed old new full _ (λ x. cc) (equality_effect us later allowed h w);
      order = λ us later h more last.
          let x = equality d (term_at old before) (term_at old term) in
          let e = effect (subtrees x) (within_itself h.kept.theorems (subtrees x) x (within_subtrees x)) in
          subst (λ (xs : List CoreTree). MakesInOrder old xs new) (ap (λ (u : CoreTree). equality d u (term_at old term) ∷ []) h.leads.1.1 ∙ sym (between_equality d us (term_at old term) later h.leads.0))
          (makes_one d old new x full e (equality_under d old (term_at old before) (term_at old term) (before, (h.leads.1.0, refl)) (term, (h.inside, refl))) made);
    }

  -- ---- inequality

  pub inequality_pair : MayFollow d old Inequality (Some before) term → AllByRecursion (λ t. t.0 < length old) (before ∷ (term ∷ []))
  inequality_pair may = both_below d old Inequality before term may.0 may.1 may.2

  pub inequality_sorts : MayFollow d old Inequality (Some before) term → (side : SortId) × AllByRecursion (λ t. HasTreeSort d (term_at old t) side) (before ∷ (term ∷ []))
  inequality_sorts may =
      let h = may.2 in
      let side = h.operands.0 in (
        side,
        (
          subst (λ (u : CoreTree). HasTreeSort d u side) (sym h.leads.1.1) (first_of_sort d side may.0 h.leads.0 (front_sorts d side may.0 (term_at old term ∷ may.1) h.operands.2)),
          (middle_sort d side may.0 (term_at old term) may.1 h.operands.2, tt),
        ),
      )

  module _ (new : Terms) (full : Type 0) (effect : (allowed : List CoreTree) → Within allowed (inequality d (term_at old before) (term_at old term)) → Effect d allowed old new full) where
    inequality_effect : (us later allowed : List CoreTree) → IsFollowing d old Inequality (Some before) term us later → Within allowed (combined d Inequality (us ++ term_at old term ∷ later)) → Effect d allowed old new full
    inequality_effect us later allowed h w = effect allowed (subst (λ (u : CoreTree). Within allowed (inequality d u (term_at old term))) (sym h.leads.1.1) (inequality_within allowed d us (term_at old term) later h.leads.0 w))

    pub inequality_failed : (e : TermError) (ends : Bool) → (IsErrOf {T = TermId} {E = TermError} (Err e) Full → full) → FollowGives d old new Inequality (Some before) term ends (Err e)
    inequality_failed e ends why = record {
      next = λ us later h. tt;
      effect = λ us later allowed h more w. effect_because d allowed old new full _ why (inequality_effect us later allowed h w);
      order = λ us later h more last. tt;
    }

    pub inequality_done : (ends : Bool) → HasTree new (inequality d (term_at old before) (term_at old term)) → FollowGives d old new Inequality (Some before) term ends (Ok before)
    inequality_done ends made = record {
      next = λ us later h.
          let e = effect (subtrees (inequality d (term_at old before) (term_at old term))) (within_subtrees (inequality d (term_at old before) (term_at old term))) in
          stands_as new before _ _ (sym (first_of_push us (term_at old term) h.leads.0)) (stands_stays d old new before (head_tree us) e.grown e.kept h.leads.1);
      effect = λ us later allowed h more w. effect_because d allowed old new full _ (λ x. cc) (inequality_effect us later allowed h w);
      order = λ us later h more last.
          let x = equality d (term_at old before) (term_at old term) in
          subst (λ (xs : List CoreTree). MakesInOrder old xs new) (ap (λ (u : CoreTree). equality d u (term_at old term) ∷ (inequality d u (term_at old term) ∷ [])) h.leads.1.1 ∙ sym (between_inequality d us (term_at old term) later h.leads.0))
          (makes_two d old new x (negation x) full (effect (subtrees (negation x)) (within_subtrees (negation x))) refl (equality_under d old (term_at old before) (term_at old term) (before, (h.leads.1.0, refl)) (term, (h.inside, refl))) made);
    }

  -- ---- exclusive disjunction

  pub exclusion_pair : MayFollow d old Exclusion (Some before) term → AllByRecursion (λ t. t.0 < length old) (before ∷ (term ∷ []))
  exclusion_pair may = both_below d old Exclusion before term may.0 may.1 may.2

  pub exclusion_sorts : MayFollow d old Exclusion (Some before) term → AllByRecursion (λ t. HasTreeSort d (term_at old t) bool_sort) (before ∷ (term ∷ []))
  exclusion_sorts may =
      let h = may.2 in (
        subst (λ (u : CoreTree). HasTreeSort d u bool_sort) (sym h.leads.1.1) (exclusive_sort d may.0 h.leads.0 (front_sorts d bool_sort may.0 (term_at old term ∷ may.1) h.operands.1)),
        (middle_sort d bool_sort may.0 (term_at old term) may.1 h.operands.1, tt),
      )

  pub exclusion_done : (new : Terms) (r : Result TermId TermError) (ends : Bool) → IfOk r (λ t. Stands new t (exclusive (term_at old before) (term_at old term))) → ((allowed : List CoreTree) → Within allowed (exclusive (term_at old before) (term_at old term)) → Effect d allowed old new (IsErrOf r Full)) → FollowGives d old new Exclusion (Some before) term ends r
  exclusion_done new r ends core effect = record {
    next = λ us later h. subst (λ (u : CoreTree). IfOk r (λ t. Stands new t u)) (ap (λ (u : CoreTree). exclusive u (term_at old term)) h.leads.1.1 ∙ sym (exclusive_more us (term_at old term) [] h.leads.0)) core;
    effect = λ us later allowed h more w. effect allowed (subst (λ (u : CoreTree). Within allowed (exclusive u (term_at old term))) (sym h.leads.1.1) (exclusion_within allowed us (term_at old term) later h.leads.0 w));
    order = λ us later h more last.
        let x = equivalence (term_at old before) (term_at old term) in
        IfOk-weaker r (λ t. Stands new t (negation x)) (λ t. MakesInOrder old (between d Exclusion us (term_at old term) later) new)
        (λ t made.
        subst (λ (xs : List CoreTree). MakesInOrder old xs new) (ap (λ (u : CoreTree). equivalence u (term_at old term) ∷ (exclusive u (term_at old term) ∷ [])) h.leads.1.1 ∙ sym (between_exclusion d us (term_at old term) later h.leads.0))
        (makes_two d old new x (negation x) _ (effect (subtrees (negation x)) (within_subtrees (negation x))) refl ((before, (h.leads.1.0, refl)), ((term, (h.inside, refl)), tt)) (t, made)))
        core;
  }

-- ---- implication

module _ (d : Declarations) (old : Terms) (term : TermId) where
  pub implication_sort : (lead : Option TermId) → MayFollow d old Implication lead term → HasTreeSort d (term_at old term) bool_sort
  implication_sort lead may = middle_sort d bool_sort may.0 (term_at old term) may.1 may.2.operands.1

  module _ (ends : Bool) (more_come : ends ≡ false) (new : Terms) (full : Type 0) (effect : (allowed : List CoreTree) → Contains allowed (negation (term_at old term)) → Effect d allowed old new full) where
    pub implication_failed : (lead : Option TermId) (e : TermError) → (IsErrOf {T = TermId} {E = TermError} (Err e) Full → full) → FollowGives d old new Implication lead term ends (Err e)
    implication_failed lead e why = record {
      next = λ us later h. tt;
      effect = λ us later allowed h more w. effect_because d allowed old new full _ why (effect allowed (within_itself h.kept.theorems allowed _ (implication_within allowed us (term_at old term) later (more more_come) w)));
      order = λ us later h more last. tt;
    }

    pub implication_done : (lead : Option TermId) → HasTree new (negation (term_at old term)) → FollowGives d old new Implication lead term ends (Ok term)
    implication_done lead made = record {
      next = λ us later h.
          let e = effect (negation (term_at old term) ∷ []) (one_tree (negation (term_at old term))) in
          stands_as new term _ _ (sym (last_of_push us (term_at old term))) (stands_stays d old new term (term_at old term) e.grown e.kept (h.inside, refl));
      effect = λ us later allowed h more w. effect_because d allowed old new full _ (λ x. cc) (effect allowed (within_itself h.kept.theorems allowed _ (implication_within allowed us (term_at old term) later (more more_come) w)));
      order = λ us later h more last.
          let x = negation (term_at old term) in
          subst (λ (xs : List CoreTree). MakesInOrder old xs new) (sym (between_implication d us (term_at old term) later (more more_come)))
          (makes_one d old new x full (effect (subtrees x) (within_itself h.kept.theorems (subtrees x) x (within_subtrees x))) ((term, (h.inside, refl)), tt) made);
    }
