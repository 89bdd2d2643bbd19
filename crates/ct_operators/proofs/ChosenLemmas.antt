-- Choices between several terms, from the last on.
use Rattle.std.proofs.Common.{◌≡◌, ◌<◌, ◌≤◌, List, [], ◌∷◌, ◌++◌, length, Contains, refl, sym, ap, ap₂, subst, ◌∙◌, arith}
use Rattle.std.specs.List.{AllByRecursion}
use Rattle.std.proofs.lemmas.List.{length-append}
use Rattle.ct_sorts.specs.declared.ids.SortId.{SortId}
use Rattle.ct_sorts.specs.Declarations.{Declarations}
use Rattle.ct_terms.specs.declared.ids.TermId.{TermId}
use Rattle.ct_terms.specs.Terms.{Terms}
use Rattle.ct_terms.specs.CoreTree.{CoreTree, choice, subtrees, term_at}
use Rattle.ct_terms.specs.CoreSorts.{HasTreeSort}
use Rattle.ct_operators.specs.declared.choosing.Guarded.{Guarded}
use Rattle.ct_operators.specs.Effect.{Stands, IsSoundTable, IsPrefix, Within, Effect}
use Rattle.ct_operators.specs.Chosen.{chosen_from, IsGuardedIn}
use Rattle.ct_operators.proofs.EffectLemmas.{prefix_length, same_tree, effect_none, effect_then, effect_because}
use Rattle.ct_operators.proofs.WithinLemmas.{within_subtrees, within_itself, within_choice}
use Rattle.ct_operators.proofs.ImplyingLemmas.{all_before}

pub chosen_last : (f : TermId → CoreTree) (gs : List Guarded) (g : Guarded) (v : CoreTree) → chosen_from f (gs ++ g ∷ []) v ≡ chosen_from f gs (choice (f g.condition) (f g.body) v)
chosen_last f [] g v = refl
chosen_last f (k ∷ gs) g v = ap (choice (f k.condition) (f k.body)) (chosen_last f gs g v)

pub within_chosen : (allowed : List CoreTree) (f : TermId → CoreTree) (gs : List Guarded) (v : CoreTree) → Within allowed (chosen_from f gs v) → Within allowed v
within_chosen allowed f [] v w = w
within_chosen allowed f (g ∷ gs) v w = within_chosen allowed f gs v (within_choice allowed (f g.condition) (f g.body) (chosen_from f gs v) w).1.1

sorted_chosen : (d : Declarations) (f : TermId → CoreTree) (gs : List Guarded) (v : CoreTree) (sort : SortId) → HasTreeSort d (chosen_from f gs v) sort → HasTreeSort d v sort
sorted_chosen d f [] v sort h = h
sorted_chosen d f (g ∷ gs) v sort h = sorted_chosen d f gs v sort h.2

pub guarded_stay : (old new : Terms) (gs : List Guarded) → IsPrefix old new → AllByRecursion (IsGuardedIn old) gs → AllByRecursion (IsGuardedIn new) gs
guarded_stay old new [] grown h = tt
guarded_stay old new (g ∷ gs) grown h = ((omega (arith, h.0.0, prefix_length old new grown), omega (arith, h.0.1, prefix_length old new grown)), guarded_stay old new gs grown h.1)

pub same_chosen : (d : Declarations) (old new : Terms) (gs : List Guarded) (v : CoreTree) → IsPrefix old new → IsSoundTable d new → AllByRecursion (IsGuardedIn old) gs → chosen_from (term_at new) gs v ≡ chosen_from (term_at old) gs v
same_chosen d old new [] v grown kept h = refl
same_chosen d old new (g ∷ gs) v grown kept h =
    ap (λ (x : CoreTree). choice x (term_at new g.body) (chosen_from (term_at new) gs v)) (same_tree d old new g.condition grown kept h.0.0)
    ∙ ap₂ (λ (x y : CoreTree). choice (term_at old g.condition) x y) (same_tree d old new g.body grown kept h.0.1) (same_chosen d old new gs v grown kept h.1)

pub all_after : {X : Type 0} (P : X → Type 0) (xs : List X) (x : X) → AllByRecursion P xs → P x → AllByRecursion P (xs ++ x ∷ [])
all_after P [] x h k = (k, tt)
all_after P (y ∷ ys) x h k = (h.0, all_after P ys x h.1 k)

-- the terms that are left, and the choice that is made of the others
pub record Choosing (d : Declarations) (old table : Terms) (guarded : List Guarded) (last term : TermId) (rest : List Guarded) : Type 0 where
  pub kept : IsSoundTable d table
  pub below : AllByRecursion (IsGuardedIn table) rest
  pub inside : term.0 < length table
  pub sorted : (sort : SortId) × HasTreeSort d (chosen_from (term_at table) rest (term_at table term)) sort
  pub same : chosen_from (term_at table) rest (term_at table term) ≡ chosen_from (term_at old) guarded (term_at old last)
  pub effect : (allowed : List CoreTree) → Within allowed (chosen_from (term_at old) guarded (term_at old last)) → Effect d allowed old table ⊥
  pub shorter : length rest ≤ length guarded

pub choosing_start : (d : Declarations) (old : Terms) (guarded : List Guarded) (last : TermId) → IsSoundTable d old → AllByRecursion (IsGuardedIn old) guarded → last.0 < length old → (sort : SortId) × HasTreeSort d (chosen_from (term_at old) guarded (term_at old last)) sort → Choosing d old old guarded last last guarded
choosing_start d old guarded last kept below inside sorted = record {
  kept = kept;
  below = below;
  inside = inside;
  sorted = sorted;
  same = refl;
  effect = λ allowed w. effect_none d allowed old ⊥ kept (λ h. h);
  shorter = omega arith;
}

module _ (d : Declarations) (old table : Terms) (guarded : List Guarded) (last term : TermId) (more : List Guarded) (g : Guarded) (h : Choosing d old table guarded last term (more ++ g ∷ [])) where
  abbrev step : CoreTree
  step = choice (term_at table g.condition) (term_at table g.body) (term_at table term)

  before : AllByRecursion (IsGuardedIn table) more × IsGuardedIn table g
  before = all_before (IsGuardedIn table) more g h.below

  pub choosing_below : AllByRecursion (λ x. x.0 < length table) (g.condition ∷ (g.body ∷ (term ∷ [])))
  choosing_below = (before.1.0, (before.1.1, (h.inside, tt)))

  step_sorted : HasTreeSort d (chosen_from (term_at table) more step) h.sorted.0
  step_sorted = subst (λ (x : CoreTree). HasTreeSort d x h.sorted.0) (chosen_last (term_at table) more g (term_at table term)) h.sorted.1

  pub choosing_sorted : (sort : SortId) × HasTreeSort d step sort
  choosing_sorted = (h.sorted.0, sorted_chosen d (term_at table) more step h.sorted.0 step_sorted)

  step_is : chosen_from (term_at table) more step ≡ chosen_from (term_at old) guarded (term_at old last)
  step_is = sym (chosen_last (term_at table) more g (term_at table term)) ∙ h.same

  -- the next choice is a subterm of the whole
  pub choosing_inside : (allowed : List CoreTree) → Within allowed (chosen_from (term_at old) guarded (term_at old last)) → Contains allowed step
  choosing_inside allowed w = within_itself h.kept.theorems allowed step (within_chosen allowed (term_at table) more step (subst (Within allowed) (sym step_is) w))

  pub choosing_step : (new : Terms) (t : TermId) (full : Type 0) → Stands new t step → ((allowed : List CoreTree) → Contains allowed step → Effect d allowed table new full) → Choosing d old new guarded last t more
  choosing_step new t full stands effect =
      let e = effect (subtrees step) (within_itself h.kept.theorems (subtrees step) step (within_subtrees step)) in
      let is : chosen_from (term_at new) more (term_at new t) ≡ chosen_from (term_at table) more step = ap (chosen_from (term_at new) more) stands.1 ∙ same_chosen d table new more step e.grown e.kept before.0 in
      record {
        kept = e.kept;
        below = guarded_stay table new more e.grown before.0;
        inside = stands.0;
        sorted = (h.sorted.0, subst (λ (x : CoreTree). HasTreeSort d x h.sorted.0) (sym is) step_sorted);
        same = is ∙ step_is;
        effect = λ allowed w. effect_because d allowed old new full ⊥ (λ x. absurd x) (effect_then d allowed old table new ⊥ full (h.effect allowed w) (effect allowed (choosing_inside allowed w)));
        shorter = let k = h.shorter in omega (arith, k, length-append more (g ∷ []));
      }
