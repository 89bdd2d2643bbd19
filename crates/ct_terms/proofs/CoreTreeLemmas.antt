-- Terms as trees: what stands at a number is one layer over what stands under it, and one tree has one number.
use Rattle.std.proofs.Common.{◌≡◌, ℕ, zero, suc, ◌<◌, List, [], ◌∷◌, ◌++◌, length, map, Option, Some, None, slice_get, refl, sym, ap, ◌∙◌, arith}
use Rattle.std.specs.List.{AllByRecursion}
use Rattle.std.proofs.lemmas.Option.{same_Some}
use Rattle.ct_lemmas.proofs.Lists.{slice_get-prefix}
use Rattle.ct_sorts.specs.declared.ids.SortId.{SortId}
use Rattle.ct_terms.specs.declared.ids.TermId.{TermId}
use Rattle.ct_terms.specs.declared.term.Core.{Core}
use Rattle.ct_terms.specs.declared.term.Core.TheVariants.{Con, Sel, Test, Apply, Eq, Not, And, Or, Iff, Ite}
use Rattle.ct_terms.specs.Children.{CoreHead, con_head, sel_head, test_head, apply_head, eq_head, not_head, and_head, or_head, iff_head, ite_head, core_head, core_children, HasArgumentsBelow}
use Rattle.ct_terms.specs.Terms.{Terms, Has, AreOrdered, AreSingle}
use Rattle.ct_terms.specs.CoreTree.{CoreTree, con, sel, test, apply, equation, negation, conjunction, disjunction, equivalence, choice, list_of_trees, trees_of, tree_head, tree_children, tree_layer, tree_of_entry, tree_below, term_at}

-- the arguments made of a list are the list
pub list_of_trees_of : (ts : List CoreTree) → list_of_trees (trees_of ts) ≡ ts
list_of_trees_of [] = refl
list_of_trees_of (t ∷ ts) = ap (λ (us : List CoreTree). t ∷ us) (list_of_trees_of ts)

-- one layer has the head of the term
pub head_of_layer : (tree : TermId → CoreTree) (core : Core) → tree_head (tree_layer tree core) ≡ core_head core
head_of_layer tree (Con c args) = refl
head_of_layer tree (Sel s t) = refl
head_of_layer tree (Test c t) = refl
head_of_layer tree (Apply f args) = refl
head_of_layer tree (Eq a b) = refl
head_of_layer tree (Not t) = refl
head_of_layer tree (And args) = refl
head_of_layer tree (Or args) = refl
head_of_layer tree (Iff a b) = refl
head_of_layer tree (Ite c a b) = refl

-- the trees right under it are those of the terms right under the term
pub children_of_layer : (tree : TermId → CoreTree) (core : Core) → tree_children (tree_layer tree core) ≡ map tree (core_children core)
children_of_layer tree (Con c args) = list_of_trees_of (map tree args)
children_of_layer tree (Sel s t) = refl
children_of_layer tree (Test c t) = refl
children_of_layer tree (Apply f args) = list_of_trees_of (map tree args)
children_of_layer tree (Eq a b) = refl
children_of_layer tree (Not t) = refl
children_of_layer tree (And args) = list_of_trees_of (map tree args)
children_of_layer tree (Or args) = list_of_trees_of (map tree args)
children_of_layer tree (Iff a b) = refl
children_of_layer tree (Ite c a b) = refl

-- the term of a head and the terms right under it
abbrev with_one : (TermId → Core) → List TermId → Option Core
with_one f (t ∷ ts) = Some (f t)
with_one f _ = None

abbrev with_two : (TermId → TermId → Core) → List TermId → Option Core
with_two f (a ∷ b ∷ ts) = Some (f a b)
with_two f _ = None

abbrev with_three : (TermId → TermId → TermId → Core) → List TermId → Option Core
with_three f (c ∷ a ∷ b ∷ ts) = Some (f c a b)
with_three f _ = None

abbrev rebuilt : CoreHead → List TermId → Option Core
rebuilt (con_head c) ts = Some (Con c ts)
rebuilt (sel_head s) ts = with_one (Sel s) ts
rebuilt (test_head c) ts = with_one (Test c) ts
rebuilt (apply_head f) ts = Some (Apply f ts)
rebuilt eq_head ts = with_two Eq ts
rebuilt not_head ts = with_one Not ts
rebuilt and_head ts = Some (And ts)
rebuilt or_head ts = Some (Or ts)
rebuilt iff_head ts = with_two Iff ts
rebuilt ite_head ts = with_three Ite ts

rebuilt_is : (core : Core) → rebuilt (core_head core) (core_children core) ≡ Some core
rebuilt_is (Con c args) = refl
rebuilt_is (Sel s t) = refl
rebuilt_is (Test c t) = refl
rebuilt_is (Apply f args) = refl
rebuilt_is (Eq a b) = refl
rebuilt_is (Not t) = refl
rebuilt_is (And args) = refl
rebuilt_is (Or args) = refl
rebuilt_is (Iff a b) = refl
rebuilt_is (Ite c a b) = refl

-- a term is determined by its head and the terms right under it
pub one_core : (a b : Core) → core_head a ≡ core_head b → core_children a ≡ core_children b → a ≡ b
one_core a b heads children =
    same_Some a b (sym (rebuilt_is a) ∙ ap (λ (h : CoreHead). rebuilt h (core_children a)) heads ∙ ap (rebuilt (core_head b)) children ∙ rebuilt_is b)

-- one layer over trees that are the same below a bound
module _ (f g : TermId → CoreTree) (n : ℕ) (agree : (t : TermId) → t.0 < n → f t ≡ g t) where
  same_lists : (args : List TermId) → AllByRecursion (λ t. t.0 < n) args → map f args ≡ map g args
  same_lists [] below = refl
  same_lists (t ∷ args) below =
      ap (λ (u : CoreTree). u ∷ map f args) (agree t below.0) ∙ ap (λ (us : List CoreTree). g t ∷ us) (same_lists args below.1)

  pub layer_agrees : (core : Core) → HasArgumentsBelow n core → tree_layer f core ≡ tree_layer g core
  layer_agrees (Con c args) below = ap (λ (us : List CoreTree). con c (trees_of us)) (same_lists args below)
  layer_agrees (Sel s t) below = ap (sel s) (agree t below.0)
  layer_agrees (Test c t) below = ap (test c) (agree t below.0)
  layer_agrees (Apply h args) below = ap (λ (us : List CoreTree). apply h (trees_of us)) (same_lists args below)
  layer_agrees (Eq a b) below = ap (λ (u : CoreTree). equation u (f b)) (agree a below.0) ∙ ap (equation (g a)) (agree b below.1.0)
  layer_agrees (Not t) below = ap negation (agree t below.0)
  layer_agrees (And args) below = ap (λ (us : List CoreTree). conjunction (trees_of us)) (same_lists args below)
  layer_agrees (Or args) below = ap (λ (us : List CoreTree). disjunction (trees_of us)) (same_lists args below)
  layer_agrees (Iff a b) below = ap (λ (u : CoreTree). equivalence u (f b)) (agree a below.0) ∙ ap (equivalence (g a)) (agree b below.1.0)
  layer_agrees (Ite c a b) below =
      ap (λ (u : CoreTree). choice u (f a) (f b)) (agree c below.0) ∙ ap (λ (u : CoreTree). choice (g c) u (f b)) (agree a below.1.0) ∙ ap (choice (g c) (g a)) (agree b below.1.1.0)

  pub entry_agrees : (o : Option (Core × SortId)) → ((core : Core) (s : SortId) → o ≡ Some (core, s) → HasArgumentsBelow n core) → tree_of_entry f o ≡ tree_of_entry g o
  entry_agrees None below = refl
  entry_agrees (Some (core, s)) below = layer_agrees core (below core s refl)

-- any two bounds above the number give one tree
pub tree_below-enough : (table : Terms) → AreOrdered table → (n m : ℕ) (t : TermId) → t.0 < n → t.0 < m → tree_below n table t ≡ tree_below m table t
unfolding tree_below
tree_below-enough table ordered zero m t h k = absurd (omega arith)
tree_below-enough table ordered (suc n) zero t h k = absurd (omega arith)
tree_below-enough table ordered (suc n) (suc m) t h k =
    entry_agrees (tree_below n table) (tree_below m table) t.0
    (λ u below. tree_below-enough table ordered n m u (omega arith) (omega arith))
    (slice_get table t.0)
    (λ core s e. ordered t.0 core (s, e))

-- a tree is one layer over the trees of the terms right under its term
pub term_at-unfolds : (table : Terms) (t : TermId) (core : Core) (sort : SortId) → AreOrdered table → slice_get table t.0 ≡ Some (core, sort) → term_at table t ≡ tree_layer (term_at table) core
unfolding tree_below
term_at-unfolds table t core sort ordered at =
    ap (tree_of_entry (tree_below t.0 table)) at ∙ layer_agrees (tree_below t.0 table) (term_at table) t.0
    (λ u below. tree_below-enough table ordered t.0 (suc u.0) u below (omega arith))
    core (ordered t.0 core (sort, at))

-- it stays as the table grows
tree_below-longer : (table more : Terms) → AreOrdered (table ++ more) → (n : ℕ) (t : TermId) → t.0 < length table → tree_below n (table ++ more) t ≡ tree_below n table t
unfolding tree_below
tree_below-longer table more ordered zero t within = refl
tree_below-longer table more ordered (suc n) t within =
    entry_agrees (tree_below n (table ++ more)) (tree_below n table) t.0
    (λ u below. tree_below-longer table more ordered n u (omega arith))
    (slice_get (table ++ more) t.0)
    (λ core s e. ordered t.0 core (s, e)) ∙ ap (tree_of_entry (tree_below n table)) (slice_get-prefix table more t.0 within)

pub term_at-longer : (table more : Terms) (t : TermId) → AreOrdered (table ++ more) → t.0 < length table → term_at (table ++ more) t ≡ term_at table t
term_at-longer table more t ordered within = tree_below-longer table more ordered (suc t.0) t within

-- what stands at a number of the table
pub entry_at : (table : Terms) (t : TermId) → t.0 < length table → (e : Core × SortId) × (slice_get table t.0 ≡ Some e)
entry_at table t within = by table t.0 within
  where
    by : (xs : Terms) (k : ℕ) → k < length xs → (e : Core × SortId) × (slice_get xs k ≡ Some e)
    by [] k h = absurd (omega arith)
    by (x ∷ xs) zero h = (x, refl)
    by (x ∷ xs) (suc k) h = by xs k (omega arith)

-- lists of terms with the same trees are the same, where terms below the bound are
same_terms : (tree : TermId → CoreTree) (n m : ℕ) → ((s t : TermId) → s.0 < n → t.0 < m → tree s ≡ tree t → s ≡ t) → (ss ts : List TermId) → AllByRecursion (λ s. s.0 < n) ss → AllByRecursion (λ t. t.0 < m) ts → map tree ss ≡ map tree ts → ss ≡ ts
same_terms tree n m one [] [] h k e = refl
same_terms tree n m one [] (t ∷ ts) h k e = cc e
same_terms tree n m one (s ∷ ss) [] h k e = cc e
same_terms tree n m one (s ∷ ss) (t ∷ ts) h k e =
    ap (λ (u : TermId). u ∷ ss) (one s t h.0 k.0 (cc e)) ∙ ap (λ (us : List TermId). t ∷ us) (same_terms tree n m one ss ts h.1 k.1 (cc e))

-- two numbers of one tree are one, below any bound
one_number : (table : Terms) → AreOrdered table → AreSingle table → (n : ℕ) (s t : TermId) → s.0 < n → s.0 < length table → t.0 < length table → term_at table s ≡ term_at table t → s ≡ t
one_number table ordered single zero s t bound in_s in_t same = absurd (omega arith)
one_number table ordered single (suc n) s t bound in_s in_t same =
    let a = entry_at table s in_s in
    let b = entry_at table t in_t in
    let tree = term_at table in
    let layers : tree_layer tree a.0.0 ≡ tree_layer tree b.0.0 = sym (term_at-unfolds table s a.0.0 a.0.1 ordered a.1) ∙ same ∙ term_at-unfolds table t b.0.0 b.0.1 ordered b.1 in
    let heads : core_head a.0.0 ≡ core_head b.0.0 = sym (head_of_layer tree a.0.0) ∙ ap tree_head layers ∙ head_of_layer tree b.0.0 in
    let under : map tree (core_children a.0.0) ≡ map tree (core_children b.0.0) = sym (children_of_layer tree a.0.0) ∙ ap tree_children layers ∙ children_of_layer tree b.0.0 in
    let children : core_children a.0.0 ≡ core_children b.0.0 =
    same_terms tree s.0 t.0 (λ u v below_s below_t e. one_number table ordered single n u v (omega (arith, bound, below_s)) (omega (arith, in_s, below_s)) (omega (arith, in_t, below_t)) e)
    (core_children a.0.0) (core_children b.0.0) (ordered s.0 a.0.0 (a.0.1, a.1)) (ordered t.0 b.0.0 (b.0.1, b.1)) under in
    let core : a.0.0 ≡ b.0.0 = one_core a.0.0 b.0.0 heads children in
    let id : ℕ → TermId = λ k. record { 0 = k } in
    ap id (single s.0 t.0 a.0.0 (a.0.1, a.1) (b.0.1, b.1 ∙ ap (λ (c : Core). Some (c, b.0.1)) (sym core)))

pub term_at-one : (table : Terms) (s t : TermId) → AreOrdered table → AreSingle table → s.0 < length table → t.0 < length table → term_at table s ≡ term_at table t → s ≡ t
term_at-one table s t ordered single = one_number table ordered single (suc s.0) s t (omega arith)

-- a term whose tree is one layer over trees of the table is the term of that layer
pub term_at-stands : (table : Terms) (t : TermId) (core : Core) → AreOrdered table → AreSingle table → t.0 < length table → HasArgumentsBelow (length table) core → term_at table t ≡ tree_layer (term_at table) core → Has table core t.0
term_at-stands table t core ordered single within below same =
    let a = entry_at table t within in
    let tree = term_at table in
    let layers : tree_layer tree a.0.0 ≡ tree_layer tree core = sym (term_at-unfolds table t a.0.0 a.0.1 ordered a.1) ∙ same in
    let heads : core_head a.0.0 ≡ core_head core = sym (head_of_layer tree a.0.0) ∙ ap tree_head layers ∙ head_of_layer tree core in
    let under : map tree (core_children a.0.0) ≡ map tree (core_children core) = sym (children_of_layer tree a.0.0) ∙ ap tree_children layers ∙ children_of_layer tree core in
    let children : core_children a.0.0 ≡ core_children core =
    same_terms tree t.0 (length table) (λ u v below_u below_v e. term_at-one table u v ordered single (omega (arith, within, below_u)) below_v e)
    (core_children a.0.0) (core_children core) (ordered t.0 a.0.0 (a.0.1, a.1)) below under in
    let is : a.0.0 ≡ core = one_core a.0.0 core heads children in
    (a.0.1, a.1 ∙ ap (λ (c : Core). Some (c, a.0.1)) is)
