-- Implication of several terms, from the last on.
use Rattle.std.proofs.Common.{◌≡◌, ℕ, zero, suc, ◌-◌, ◌<◌, ◌≤◌, List, [], ◌∷◌, ◌++◌, length, take, get_or, map, refl, sym, ap, ap₂, subst, ◌∙◌, arith}
use Rattle.std.specs.List.{AllByRecursion}
use Rattle.std.proofs.lemmas.List.{length-append}
use Rattle.ct_sorts.specs.Declarations.{Declarations, bool_sort}
use Rattle.ct_terms.specs.declared.ids.TermId.{TermId}
use Rattle.ct_terms.specs.Terms.{Terms}
use Rattle.ct_terms.specs.CoreTree.{CoreTree, negation, subtrees, term_at}
use Rattle.ct_terms.specs.CoreSorts.{HasTreeSort}
use Rattle.ct_formulas.specs.Compiled.{implied_from, implication_of}
use Rattle.ct_operators.specs.Effect.{Stands, IsSoundTable, Within, Effect}
use Rattle.ct_operators.specs.Forms.{implication}
use Rattle.ct_operators.proofs.EffectLemmas.{effect_none, effect_then, effect_because}
use Rattle.ct_operators.proofs.WithinLemmas.{within_subtrees, within_disjunction}
use Rattle.ct_operators.proofs.OperatorLemmas.{below_stay, same_trees, sorts_stay}

-- a list is what is before its last element, and that
last_at : {X : Type 0} (xs : List X) (x : X) (n : ℕ) → length xs ≡ suc n → xs ≡ take n xs ++ get_or xs n x ∷ []
last_at [] x n e = absurd (omega (arith, e))
last_at (y ∷ []) x zero e = refl
last_at (y ∷ (z ∷ zs)) x zero e = absurd (omega (arith, e))
last_at {X} (y ∷ ys) x (suc n) e = ap (λ (us : List X). y ∷ us) (last_at ys x n (omega (arith, e)))

pub last_step : {X : Type 0} (xs : List X) (x : X) → 1 ≤ length xs → xs ≡ take (length xs - 1) xs ++ get_or xs (length xs - 1) x ∷ []
last_step xs x h = last_at xs x (length xs - 1) (omega (arith, h))

-- each term implies what follows it
abbrev implies_all : List CoreTree → CoreTree → CoreTree
implies_all [] v = v
implies_all (u ∷ us) v = implication u (implies_all us v)

implied_from_last : (f : TermId → CoreTree) (t : CoreTree) (ts : List TermId) (last : TermId) → implied_from t (map f (ts ++ last ∷ [])) ≡ implication t (implies_all (map f ts) (f last))
implied_from_last f t [] last = refl
implied_from_last f t (u ∷ us) last = ap (λ (v : CoreTree). implication t v) (implied_from_last f (f u) us last)

implication_is : (f : TermId → CoreTree) (ts : List TermId) (last : TermId) → implication_of (map f (ts ++ last ∷ [])) ≡ implies_all (map f ts) (f last)
implication_is f [] last = refl
implication_is f (t ∷ ts) last = implied_from_last f (f t) ts last

implies_last : (f : TermId → CoreTree) (ts : List TermId) (t : TermId) (v : CoreTree) → implies_all (map f (ts ++ t ∷ [])) v ≡ implies_all (map f ts) (implication (f t) v)
implies_last f [] t v = refl
implies_last f (u ∷ us) t v = ap (implication (f u)) (implies_last f us t v)

within_implies : (allowed : List CoreTree) (us : List CoreTree) (v : CoreTree) → Within allowed (implies_all us v) → Within allowed v
within_implies allowed [] v w = w
within_implies allowed (u ∷ us) v w = within_implies allowed us v (within_disjunction allowed (negation u ∷ (implies_all us v ∷ [])) w).1.0

pub all_before : {X : Type 0} (P : X → Type 0) (xs : List X) (x : X) → AllByRecursion P (xs ++ x ∷ []) → AllByRecursion P xs × P x
all_before P [] x h = (tt, h.0)
all_before P (y ∷ ys) x h = let k = all_before P ys x h.1 in ((h.0, k.0), k.1)

pub record Implying (d : Declarations) (old table : Terms) (others : List TermId) (last term : TermId) (rest : List TermId) : Type 0 where
  pub kept : IsSoundTable d table
  pub below : AllByRecursion (λ t. t.0 < length table) rest
  pub boolean : AllByRecursion (λ t. HasTreeSort d (term_at table t) bool_sort) rest
  pub inside : term.0 < length table
  pub truth : HasTreeSort d (term_at table term) bool_sort
  pub same : implies_all (map (term_at table) rest) (term_at table term) ≡ implication_of (map (term_at old) (others ++ last ∷ []))
  pub effect : (allowed : List CoreTree) → Within allowed (implication_of (map (term_at old) (others ++ last ∷ []))) → Effect d allowed old table ⊥
  pub shorter : length rest ≤ length others

pub implying_start : (d : Declarations) (old : Terms) (others : List TermId) (last : TermId) → IsSoundTable d old → AllByRecursion (λ t. t.0 < length old) (others ++ last ∷ []) → AllByRecursion (λ t. HasTreeSort d (term_at old t) bool_sort) (others ++ last ∷ []) → Implying d old old others last last others
implying_start d old others last kept below boolean =
    let b = all_before (λ (t : TermId). t.0 < length old) others last below in
    let s = all_before (λ (t : TermId). HasTreeSort d (term_at old t) bool_sort) others last boolean in
    record {
      kept = kept;
      below = b.0;
      boolean = s.0;
      inside = b.1;
      truth = s.1;
      same = sym (implication_is (term_at old) others last);
      effect = λ allowed within. effect_none d allowed old ⊥ kept (λ h. h);
      shorter = omega arith;
    }

module _ (d : Declarations) (old table : Terms) (others : List TermId) (last term : TermId) (more : List TermId) (previous : TermId) (h : Implying d old table others last term (more ++ previous ∷ [])) where
  pub implying_below : AllByRecursion (λ t. t.0 < length table) (previous ∷ (term ∷ []))
  implying_below = ((all_before (λ (t : TermId). t.0 < length table) more previous h.below).1, (h.inside, tt))

  pub implying_boolean : AllByRecursion (λ t. HasTreeSort d (term_at table t) bool_sort) (previous ∷ (term ∷ []))
  implying_boolean = ((all_before (λ (t : TermId). HasTreeSort d (term_at table t) bool_sort) more previous h.boolean).1, (h.truth, tt))

  abbrev step : CoreTree
  step = implication (term_at table previous) (term_at table term)

  step_is : implies_all (map (term_at table) more) step ≡ implication_of (map (term_at old) (others ++ last ∷ []))
  step_is = sym (implies_last (term_at table) more previous (term_at table term)) ∙ h.same

  -- the next step makes a subterm of the whole
  pub implying_within : (allowed : List CoreTree) → Within allowed (implication_of (map (term_at old) (others ++ last ∷ []))) → Within allowed step
  implying_within allowed within = within_implies allowed (map (term_at table) more) step (subst (Within allowed) (sym step_is) within)

  pub implying_step : (new : Terms) (t : TermId) (full : Type 0) → Stands new t step → ((allowed : List CoreTree) → Within allowed step → Effect d allowed table new full) → Implying d old new others last t more
  implying_step new t full stands effect =
      let e = effect (subtrees step) (within_subtrees step) in
      let below = (all_before (λ (u : TermId). u.0 < length table) more previous h.below).0 in
      let boolean = (all_before (λ (u : TermId). HasTreeSort d (term_at table u) bool_sort) more previous h.boolean).0 in
      let is : HasTreeSort d step bool_sort = (tt, ((implying_boolean.0, refl), (h.truth, tt)), refl) in
      record {
        kept = e.kept;
        below = below_stay table new more e.grown below;
        boolean = sorts_stay d table new bool_sort more e.grown e.kept below boolean;
        inside = stands.0;
        truth = subst (λ (u : CoreTree). HasTreeSort d u bool_sort) (sym stands.1) is;
        same = ap₂ implies_all (same_trees d table new more e.grown e.kept below) stands.1 ∙ step_is;
        effect = λ allowed within. effect_because d allowed old new full ⊥ (λ x. absurd x) (effect_then d allowed old table new ⊥ full (h.effect allowed within) (effect allowed (implying_within allowed within)));
        shorter = let k = h.shorter in omega (arith, k, length-append more (previous ∷ []));
      }

-- nothing is left
pub implying_end : (d : Declarations) (old table : Terms) (others : List TermId) (last term : TermId) → Implying d old table others last term [] → Stands table term (implication_of (map (term_at old) (others ++ last ∷ [])))
implying_end d old table others last term h = (h.inside, h.same)
