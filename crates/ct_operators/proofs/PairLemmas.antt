-- Comparing the neighbours, or all pairs, of a list of terms.
use Rattle.std.proofs.Common.{◌≡◌, ℕ, suc, ◌<◌, ◌==◌, Bool, true, false, List, [], ◌∷◌, ◌++◌, length, map, if◌then◌else◌, refl, sym, ap, ap₂, subst, ◌∙◌, arith, true≢false}
use Rattle.std.specs.List.{AllByRecursion}
use Rattle.std.proofs.lemmas.Bool.Decides.{Decides-eqb}
use Rattle.ct_sorts.specs.declared.ids.SortId.{SortId}
use Rattle.ct_sorts.specs.Declarations.{Declarations, bool_sort}
use Rattle.ct_terms.specs.declared.ids.TermId.{TermId}
use Rattle.ct_terms.specs.Terms.{Terms}
use Rattle.ct_terms.specs.CoreTree.{CoreTree, equivalence, equation, subtrees, term_at}
use Rattle.ct_terms.specs.CoreSorts.{HasTreeSort, tree_sort}
use Rattle.ct_formulas.specs.Pairs.{neighbours_from, neighbours, pairs}
use Rattle.ct_formulas.specs.Compiled.{all_of, equality, inequality}
use Rattle.ct_operators.specs.Theorems.{Theorems}
use Rattle.ct_operators.specs.Effect.{Stands, AllStand, IsSoundTable, Effect}
use Rattle.ct_operators.specs.Made.{HasTrees, MakesInOrder, Made, leaf, terms, made_for, made_all, made_inequality}
use Rattle.ct_operators.specs.Forms.{AllHaveSort}
use Rattle.ct_operators.specs.Pairing.{both, compared_as, compared_all, made_compared, made_compared_all, IsPair}
use Rattle.ct_operators.proofs.OperandLemmas.{all_trees, all_below, conjunction_sorted}
use Rattle.ct_operators.proofs.WovenLemmas.{conjoined}

-- ---- pairs of a list

-- what each pair of a list of pairs is
pub neighbours_pairs : (d : Declarations) (table : Terms) (side : SortId) (t : TermId) (ts : List TermId) → AllByRecursion (λ u. u.0 < length table) (t ∷ ts) → AllByRecursion (λ u. HasTreeSort d (term_at table u) side) (t ∷ ts) → AllByRecursion (IsPair d table side) (neighbours_from both t ts)
neighbours_pairs d table side t [] below sorted = tt
neighbours_pairs d table side t (u ∷ us) below sorted = ((below.0, below.1.0, sorted.0, sorted.1.0), neighbours_pairs d table side u us below.1 sorted.1)

all_append : {X : Type 0} (P : X → Type 0) (xs ys : List X) → AllByRecursion P xs → AllByRecursion P ys → AllByRecursion P (xs ++ ys)
all_append P [] ys h k = k
all_append P (x ∷ xs) ys h k = (h.0, all_append P xs ys h.1 k)

first_pairs : (d : Declarations) (table : Terms) (side : SortId) (t : TermId) (ts : List TermId) → t.0 < length table → HasTreeSort d (term_at table t) side → AllByRecursion (λ u. u.0 < length table) ts → AllByRecursion (λ u. HasTreeSort d (term_at table u) side) ts → AllByRecursion (IsPair d table side) (map (both t) ts)
first_pairs d table side t [] within sort below sorted = tt
first_pairs d table side t (u ∷ us) within sort below sorted = ((within, below.0, sort, sorted.0), first_pairs d table side t us within sort below.1 sorted.1)

pub pairs_pairs : (d : Declarations) (table : Terms) (side : SortId) (ts : List TermId) → AllByRecursion (λ u. u.0 < length table) ts → AllByRecursion (λ u. HasTreeSort d (term_at table u) side) ts → AllByRecursion (IsPair d table side) (pairs both ts)
pairs_pairs d table side [] below sorted = tt
pairs_pairs d table side (t ∷ ts) below sorted = all_append (IsPair d table side) (map (both t) ts) (pairs both ts) (first_pairs d table side t ts below.0 sorted.0 below.1 sorted.1) (pairs_pairs d table side ts below.1 sorted.1)

-- comparing the pairs is comparing the trees
pub neighbours_compared : (d : Declarations) (f : TermId → CoreTree) (t : TermId) (ts : List TermId) → compared_all d false f (neighbours_from both t ts) ≡ neighbours_from (equality d) (f t) (map f ts)
neighbours_compared d f t [] = refl
neighbours_compared d f t (u ∷ us) = ap (λ (xs : List CoreTree). equality d (f t) (f u) ∷ xs) (neighbours_compared d f u us)

map_append : {X Y : Type 0} (f : X → Y) (xs ys : List X) → map f (xs ++ ys) ≡ map f xs ++ map f ys
map_append f [] ys = refl
map_append f (x ∷ xs) ys = ap (λ zs. f x ∷ zs) (map_append f xs ys)

first_compared : (d : Declarations) (f : TermId → CoreTree) (t : TermId) (ts : List TermId) → compared_all d true f (map (both t) ts) ≡ map (inequality d (f t)) (map f ts)
first_compared d f t [] = refl
first_compared d f t (u ∷ us) = ap (λ (xs : List CoreTree). inequality d (f t) (f u) ∷ xs) (first_compared d f t us)

pub pairs_compared : (d : Declarations) (f : TermId → CoreTree) (ts : List TermId) → compared_all d true f (pairs both ts) ≡ pairs (inequality d) (map f ts)
pairs_compared d f [] = refl
pairs_compared d f (t ∷ ts) =
    map_append (λ (p : TermId × TermId). compared_as d true (f p.0) (f p.1)) (map (both t) ts) (pairs both ts)
    ∙ ap₂ (λ (xs ys : List CoreTree). xs ++ ys) (first_compared d f t ts) (pairs_compared d f ts)

-- what is compared is Boolean
equality_sorted : (theorems : Theorems) (d : Declarations) (a b : CoreTree) (side : SortId) → HasTreeSort d a side → HasTreeSort d b side → HasTreeSort d (equality d a b) bool_sort
equality_sorted theorems d a b side h k = by ((tree_sort d a).0 == 0) refl
  where
    read : tree_sort d a ≡ side
    read = theorems.read d a side h

    by : (x : Bool) → ((tree_sort d a).0 == 0) ≡ x → HasTreeSort d (if x then equivalence a b else equation a b) bool_sort
    by true e =
        let id : ℕ → SortId = λ n. record { 0 = n } in
        let is : side ≡ bool_sort = sym read ∙ ap id ((Decides-eqb (tree_sort d a).0 0).0 e) in
        (subst (HasTreeSort d a) is h, subst (HasTreeSort d b) is k, refl)
    by false e =
        let other : side ≡ bool_sort → ⊥ = λ is. true≢false (sym ((Decides-eqb (tree_sort d a).0 0).1 (ap (λ (s : SortId). s.0) (read ∙ is))) ∙ e) in
        (side, h, k, other, refl)

pub compared_sorted : (theorems : Theorems) (d : Declarations) (different : Bool) (table : Terms) (side : SortId) (ps : List (TermId × TermId)) → AllByRecursion (IsPair d table side) ps → AllHaveSort d bool_sort (compared_all d different (term_at table) ps)
compared_sorted theorems d different table side [] h = tt
compared_sorted theorems d true table side (p ∷ ps) h = ((equality_sorted theorems d (term_at table p.0) (term_at table p.1) side h.0.2 h.0.3, refl), compared_sorted theorems d true table side ps h.1)
compared_sorted theorems d false table side (p ∷ ps) h = (equality_sorted theorems d (term_at table p.0) (term_at table p.1) side h.0.2 h.0.3, compared_sorted theorems d false table side ps h.1)

pub some_neighbours : (t : TermId) (ts : List TermId) → 1 < length (t ∷ ts) → 0 < length (neighbours_from both t ts)
some_neighbours t [] h = absurd (omega (arith, h))
some_neighbours t (u ∷ us) h = omega arith

pub some_pairs : (ts : List TermId) → 1 < length ts → 0 < length (pairs both ts)
some_pairs [] h = absurd (omega (arith, h))
some_pairs (t ∷ []) h = absurd (omega (arith, h))
some_pairs (t ∷ (u ∷ us)) h = omega arith

pub compared_count : (d : Declarations) (different : Bool) (f : TermId → CoreTree) (ps : List (TermId × TermId)) → length (compared_all d different f ps) ≡ length ps
compared_count d different f [] = refl
compared_count d different f (p ∷ ps) = ap suc (compared_count d different f ps)

-- ---- the conjunction of what was compared

module _ (d : Declarations) (different : Bool) (old mid : Terms) (side : SortId) (ps : List (TermId × TermId)) (parts : List TermId) (kept : IsSoundTable d old) (fitting : AllByRecursion (IsPair d old side) ps) (stand : AllStand mid parts (compared_all d different (term_at old) ps)) where
  abbrev trees : List CoreTree
  trees = compared_all d different (term_at old) ps

  pub parts_below : AllByRecursion (λ t. t.0 < length mid) parts
  parts_below = all_below mid parts trees stand

  pub parts_sorted : 0 < length ps → HasTreeSort d (all_of (map (term_at mid) parts)) bool_sort
  parts_sorted some =
      let count = compared_count d different (term_at old) ps in
      subst (λ (us : List CoreTree). HasTreeSort d (all_of us) bool_sort) (sym (all_trees mid parts trees stand))
      (conjunction_sorted d trees (omega (arith, some, count)) (compared_sorted kept.theorems d different old side ps fitting))

  pub parts_are : all_of (map (term_at mid) parts) ≡ all_of trees
  parts_are = ap all_of (all_trees mid parts trees stand)

pub neighbours_all_pairs : (d : Declarations) (table : Terms) (side : SortId) (ts : List TermId) → AllByRecursion (λ u. u.0 < length table) ts → AllByRecursion (λ u. HasTreeSort d (term_at table u) side) ts → AllByRecursion (IsPair d table side) (neighbours both ts)
neighbours_all_pairs d table side [] below sorted = tt
neighbours_all_pairs d table side (t ∷ ts) below sorted = neighbours_pairs d table side t ts below sorted

pub neighbours_all_compared : (d : Declarations) (f : TermId → CoreTree) (ts : List TermId) → compared_all d false f (neighbours both ts) ≡ neighbours (equality d) (map f ts)
neighbours_all_compared d f [] = refl
neighbours_all_compared d f (t ∷ ts) = neighbours_compared d f t ts

pub some_all_neighbours : (ts : List TermId) → 1 < length ts → 0 < length (neighbours both ts)
some_all_neighbours [] h = absurd (omega (arith, h))
some_all_neighbours (t ∷ ts) h = some_neighbours t ts h

-- ---- the order

terms_compared : (d : Declarations) (different : Bool) (f : TermId → CoreTree) (ps : List (TermId × TermId)) → terms (made_compared_all d different f ps) ≡ compared_all d different f ps
terms_compared d different f [] = refl
terms_compared d true f (p ∷ ps) = ap (λ (xs : List CoreTree). inequality d (f p.0) (f p.1) ∷ xs) (terms_compared d true f ps)
terms_compared d false f (p ∷ ps) = ap (λ (xs : List CoreTree). equality d (f p.0) (f p.1) ∷ xs) (terms_compared d false f ps)

trees_there : (table : Terms) (ts : List TermId) (us : List CoreTree) → AllStand table ts us → HasTrees table us
trees_there table [] [] h = tt
trees_there table [] (u ∷ us) h = absurd h
trees_there table (t ∷ ts) [] h = absurd h
trees_there table (t ∷ ts) (u ∷ us) h = ((t, h.0), trees_there table ts us h.1)

-- the conjunction is made after what was compared
pub conjoined_made : (d : Declarations) (different : Bool) (old mid new : Terms) (ps : List (TermId × TermId)) (parts : List TermId) (full : Type 0) (t : TermId) → 0 < length ps → AllStand mid parts (compared_all d different (term_at old) ps) → MakesInOrder old (made_for (made_compared_all d different (term_at old) ps)) mid → Effect d (subtrees (all_of (map (term_at mid) parts))) mid new full → Stands new t (all_of (map (term_at mid) parts)) → MakesInOrder old (made_all (made_compared_all d different (term_at old) ps)).making new
conjoined_made d different old mid new ps parts full t some stand order effect stands =
    let all = made_compared_all d different (term_at old) ps in
    let terms_are : terms all ≡ compared_all d different (term_at old) ps = terms_compared d different (term_at old) ps in
    let is : map (term_at mid) parts ≡ terms all = all_trees mid parts (compared_all d different (term_at old) ps) stand ∙ sym terms_are in
    let count = compared_count d different (term_at old) ps in
    conjoined d old mid new all full
    (let long = ap (λ (us : List CoreTree). length us) terms_are in omega (arith, some, count, long))
    (subst (HasTrees mid) (sym terms_are) (trees_there mid parts (compared_all d different (term_at old) ps) stand))
    (subst (λ (us : List CoreTree). Effect d (subtrees (all_of us)) mid new full) is effect)
    (t, subst (λ (us : List CoreTree). Stands new t (all_of us)) is stands) order

first_made : (d : Declarations) (f : TermId → CoreTree) (t : TermId) (ts : List TermId) → made_compared_all d true f (map (both t) ts) ≡ map (made_inequality d (leaf (f t))) (map leaf (map f ts))
first_made d f t [] = refl
first_made d f t (u ∷ us) = ap (λ (xs : List Made). made_inequality d (leaf (f t)) (leaf (f u)) ∷ xs) (first_made d f t us)

pub pairs_made : (d : Declarations) (f : TermId → CoreTree) (ts : List TermId) → made_compared_all d true f (pairs both ts) ≡ pairs (made_inequality d) (map leaf (map f ts))
pairs_made d f [] = refl
pairs_made d f (t ∷ ts) =
    map_append (λ (p : TermId × TermId). made_compared d true (leaf (f p.0)) (leaf (f p.1))) (map (both t) ts) (pairs both ts)
    ∙ ap₂ (λ (xs ys : List Made). xs ++ ys) (first_made d f t ts) (pairs_made d f ts)
