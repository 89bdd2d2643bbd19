-- Pairs of terms, and what is made of them one after the other.
use Rattle.std.proofs.Common.{◌≡◌, ◌-◌, ◌<◌, ◌≤◌, Bool, true, false, List, [], ◌∷◌, ◌++◌, length, take, drop, get_or, map, refl, sym, ap, ap₂, subst, ◌∙◌, arith}
use Rattle.std.specs.List.{AllByRecursion}
use Rattle.std.proofs.lemmas.List.{append_assoc, append-nil}
use Rattle.ct_lemmas.proofs.Prefixes.{rest-step}
use Rattle.ct_sorts.specs.declared.ids.SortId.{SortId}
use Rattle.ct_sorts.specs.Declarations.{Declarations}
use Rattle.ct_terms.specs.declared.ids.TermId.{TermId}
use Rattle.ct_terms.specs.Terms.{Terms}
use Rattle.ct_terms.specs.CoreTree.{CoreTree, negation, subtrees, term_at}
use Rattle.ct_terms.specs.CoreSorts.{HasTreeSort}
use Rattle.ct_formulas.specs.Pairs.{neighbours_from, pairs}
use Rattle.ct_operators.specs.Effect.{Stands, AllStand, IsSoundTable, Within, AllWithin, IsPrefix, Effect}
use Rattle.ct_formulas.specs.Compiled.{equality}
use Rattle.ct_operators.specs.Made.{HasTree, MakesInOrder, leaf, made_for}
use Rattle.ct_operators.specs.Pairing.{both, compared_as, compared_all, made_compared, made_compared_all, IsPair}
use Rattle.ct_operators.proofs.EffectLemmas.{prefix_itself, prefix_trans, prefix_length, same_tree, all_stay, effect_none, effect_then, effect_because}
use Rattle.ct_operators.proofs.WithinLemmas.{within_subtrees}
use Rattle.ct_operators.proofs.MakesLemmas.{makes_then, makes_one, makes_two}
use Rattle.ct_operators.proofs.FollowLemmas.{equality_under}

abbrev rest_of : {X : Type 0} → List X → List X
rest_of xs = take (length xs - 1) (drop 1 xs)

pub neighbours_step : (found new : List (TermId × TermId)) (left d : TermId) (rest : List TermId) (goal : List (TermId × TermId)) → 1 ≤ length rest → new ≡ found ++ (left, get_or rest 0 d) ∷ [] → found ++ neighbours_from both left rest ≡ goal → new ++ neighbours_from both (get_or rest 0 d) (take (length rest - 1) (drop 1 rest)) ≡ goal
neighbours_step found new left d rest goal some items inv =
    ap (λ (xs : List (TermId × TermId)). xs ++ neighbours_from both (get_or rest 0 d) (rest_of rest)) items
    ∙ append_assoc found ((left, get_or rest 0 d) ∷ []) (neighbours_from both (get_or rest 0 d) (rest_of rest))
    ∙ ap (λ (xs : List TermId). found ++ neighbours_from both left xs) (sym (rest-step rest d some))
    ∙ inv

pub added_step : (found new : List (TermId × TermId)) (first d : TermId) (rest : List TermId) (goal : List (TermId × TermId)) → 1 ≤ length rest → new ≡ found ++ (first, get_or rest 0 d) ∷ [] → found ++ map (both first) rest ≡ goal → new ++ map (both first) (take (length rest - 1) (drop 1 rest)) ≡ goal
added_step found new first d rest goal some items inv =
    ap (λ (xs : List (TermId × TermId)). xs ++ map (both first) (rest_of rest)) items
    ∙ append_assoc found ((first, get_or rest 0 d) ∷ []) (map (both first) (rest_of rest))
    ∙ ap (λ (xs : List TermId). found ++ map (both first) xs) (sym (rest-step rest d some))
    ∙ inv

pub pairs_step : (found new : List (TermId × TermId)) (d : TermId) (rest : List TermId) (goal : List (TermId × TermId)) → 1 ≤ length rest → new ≡ found ++ map (both (get_or rest 0 d)) (take (length rest - 1) (drop 1 rest)) → found ++ pairs both rest ≡ goal → new ++ pairs both (take (length rest - 1) (drop 1 rest)) ≡ goal
pairs_step found new d rest goal some items inv =
    ap (λ (xs : List (TermId × TermId)). xs ++ pairs both (rest_of rest)) items
    ∙ append_assoc found (map (both (get_or rest 0 d)) (rest_of rest)) (pairs both (rest_of rest))
    ∙ ap (λ (xs : List TermId). found ++ pairs both xs) (sym (rest-step rest d some))
    ∙ inv

-- ---- what is made

-- the comparison of two terms that are there
pub compare_made : (d : Declarations) (different : Bool) (table new : Terms) (a b : TermId) (full : Type 0) → Effect d (subtrees (compared_as d different (term_at table a) (term_at table b))) table new full → HasTree new (compared_as d different (term_at table a) (term_at table b)) → a.0 < length table → b.0 < length table → MakesInOrder table (made_compared d different (leaf (term_at table a)) (leaf (term_at table b))).making new
compare_made d true table new a b full effect made a_in b_in =
    let x = equality d (term_at table a) (term_at table b) in
    makes_two d table new x (negation x) full effect refl (equality_under d table (term_at table a) (term_at table b) (a, (a_in, refl)) (b, (b_in, refl))) made
compare_made d false table new a b full effect made a_in b_in =
    makes_one d table new (equality d (term_at table a) (term_at table b)) full effect (equality_under d table (term_at table a) (term_at table b) (a, (a_in, refl)) (b, (b_in, refl))) made

module _ (d : Declarations) (different : Bool) where
  pub record Comparing (old table : Terms) (side : SortId) (all : List (TermId × TermId)) (args : List TermId) (rest : List (TermId × TermId)) : Type 0 where
    pub kept : IsSoundTable d table
    pub grown : IsPrefix old table
    pub fitting : AllByRecursion (IsPair d old side) rest
    pub made : List CoreTree
    pub stand : AllStand table args made
    pub same : made ++ compared_all d different (term_at old) rest ≡ compared_all d different (term_at old) all
    pub effect : (allowed : List CoreTree) → AllWithin allowed (compared_all d different (term_at old) all) → Effect d allowed old table ⊥
    pub begun : List CoreTree
    pub begins : begun ++ made_for (made_compared_all d different (term_at old) rest) ≡ made_for (made_compared_all d different (term_at old) all)
    pub order : MakesInOrder old begun table

  pub comparing_start : (old : Terms) (side : SortId) (all : List (TermId × TermId)) → IsSoundTable d old → AllByRecursion (IsPair d old side) all → Comparing old old side all [] all
  comparing_start old side all kept fitting = record {
    kept = kept;
    grown = prefix_itself old;
    fitting = fitting;
    made = [];
    stand = tt;
    same = refl;
    effect = λ allowed w. effect_none d allowed old ⊥ kept (λ x. x);
    begun = [];
    begins = refl;
    order = refl;
  }

  middle : (allowed xs : List CoreTree) (y : CoreTree) (zs : List CoreTree) → AllWithin allowed (xs ++ y ∷ zs) → Within allowed y
  middle allowed [] y zs w = w.0
  middle allowed (x ∷ xs) y zs w = middle allowed xs y zs w.1

  stand_push : (table : Terms) (ts : List TermId) (us : List CoreTree) (t : TermId) (u : CoreTree) → AllStand table ts us → Stands table t u → AllStand table (ts ++ t ∷ []) (us ++ u ∷ [])
  stand_push table [] [] t u h k = (k, tt)
  stand_push table [] (v ∷ vs) t u h k = absurd h
  stand_push table (s ∷ ss) [] t u h k = absurd h
  stand_push table (s ∷ ss) (v ∷ vs) t u h k = (h.0, stand_push table ss vs t u h.1 k)

  module _ (old table : Terms) (side : SortId) (all : List (TermId × TermId)) (args : List TermId) (p : TermId × TermId) (more : List (TermId × TermId)) (h : Comparing old table side all args (p ∷ more)) where
    -- the pair's term, in the table as it was and as it is
    abbrev tree : CoreTree
    tree = compared_as d different (term_at old p.0) (term_at old p.1)

    -- what is made for it
    abbrev here : List CoreTree
    here = (made_compared d different (leaf (term_at old p.0)) (leaf (term_at old p.1))).making

    abbrev compared_steps : CoreTree → List CoreTree
    compared_steps x = (made_compared d different (leaf x) (leaf (term_at old p.1))).making

    left_same : term_at table p.0 ≡ term_at old p.0
    left_same = same_tree d old table p.0 h.grown h.kept h.fitting.0.0

    right_same : term_at table p.1 ≡ term_at old p.1
    right_same = same_tree d old table p.1 h.grown h.kept h.fitting.0.1

    pub comparing_is : compared_as d different (term_at table p.0) (term_at table p.1) ≡ tree
    comparing_is = ap₂ (compared_as d different) left_same right_same

    pub comparing_pair : (s : SortId) × IsPair d table s p
    comparing_pair = (
      side,
      (
        omega (arith, h.fitting.0.0, prefix_length old table h.grown),
        omega (arith, h.fitting.0.1, prefix_length old table h.grown),
        subst (λ (u : CoreTree). HasTreeSort d u side) (sym left_same) h.fitting.0.2,
        subst (λ (u : CoreTree). HasTreeSort d u side) (sym right_same) h.fitting.0.3,
      ),
    )

    pub comparing_within : (allowed : List CoreTree) → AllWithin allowed (compared_all d different (term_at old) all) → Within allowed (compared_as d different (term_at table p.0) (term_at table p.1))
    comparing_within allowed w = subst (Within allowed) (sym comparing_is) (middle allowed h.made tree (compared_all d different (term_at old) more) (subst (AllWithin allowed) (sym h.same) w))

    pub comparing_step : (new : Terms) (t : TermId) (full : Type 0) → Stands new t (compared_as d different (term_at table p.0) (term_at table p.1)) → ((allowed : List CoreTree) → Within allowed (compared_as d different (term_at table p.0) (term_at table p.1)) → Effect d allowed table new full) → Comparing old new side all (args ++ t ∷ []) more
    comparing_step new t full stands effect =
        let e = effect (subtrees (compared_as d different (term_at table p.0) (term_at table p.1))) (within_subtrees (compared_as d different (term_at table p.0) (term_at table p.1))) in
        record {
          kept = e.kept;
          grown = prefix_trans old table new h.grown e.grown;
          fitting = h.fitting.1;
          made = h.made ++ tree ∷ [];
          stand = stand_push new args h.made t tree (all_stay d table new args h.made e.grown e.kept h.stand) (stands.0, stands.1 ∙ comparing_is);
          same = append_assoc h.made (tree ∷ []) (compared_all d different (term_at old) more) ∙ h.same;
          effect = λ allowed w. effect_because d allowed old new full ⊥ (λ x. absurd x) (effect_then d allowed old table new ⊥ full (h.effect allowed w) (effect allowed (comparing_within allowed w)));
          begun = h.begun ++ here;
          begins = append_assoc h.begun here (made_for (made_compared_all d different (term_at old) more)) ∙ h.begins;
          order = makes_then h.begun here old table new h.order
              (subst (λ (x : CoreTree). MakesInOrder table (compared_steps x) new) left_same
              (subst (λ (y : CoreTree). MakesInOrder table (made_compared d different (leaf (term_at table p.0)) (leaf y)).making new) right_same
              (compare_made d different table new p.0 p.1 full e (t, stands) comparing_pair.1.0 comparing_pair.1.1)));
        }

  pub comparing_end : (old table : Terms) (side : SortId) (all : List (TermId × TermId)) (args : List TermId) → Comparing old table side all args [] → AllStand table args (compared_all d different (term_at old) all)
  comparing_end old table side all args h = subst (AllStand table args) (sym (append-nil h.made) ∙ h.same) h.stand

  pub comparing_order : (old table : Terms) (side : SortId) (all : List (TermId × TermId)) (args : List TermId) → Comparing old table side all args [] → MakesInOrder old (made_for (made_compared_all d different (term_at old) all)) table
  comparing_order old table side all args h = subst (λ (xs : List CoreTree). MakesInOrder old xs table) (sym (append-nil h.begun) ∙ h.begins) h.order
