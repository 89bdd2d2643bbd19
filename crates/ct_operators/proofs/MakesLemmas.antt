-- Tables that grow by trees in order: one growth after the other, and growth whose order has no choice.
use Rattle.std.proofs.Common.{◌≡◌, ◌⊎◌, ℕ, suc, ◌+◌, ◌<◌, ◌≤◌, List, [], ◌∷◌, ◌++◌, length, Contains, Some, slice_get, refl, sym, ap, subst, ◌∙◌, inl, inr, arith}
use Rattle.std.specs.List.{AllByRecursion, flat_map}
use Rattle.std.proofs.lemmas.List.{append-nil, append_assoc, length-append}
use Rattle.std.proofs.lemmas.List.Elements.{Contains-append_cases, Contains-append_left}
use Rattle.std.proofs.lemmas.Bool.{cases_lt}
use Rattle.ct_lemmas.proofs.Contained.{Contains-cons, Contains-first, Contains-none, Contains-rest}
use Rattle.ct_lemmas.proofs.Lists.{slice_get-append_left}
use Rattle.ct_sorts.specs.Declarations.{Declarations}
use Rattle.ct_sorts.specs.declared.ids.SortId.{SortId}
use Rattle.ct_terms.specs.declared.ids.TermId.{TermId}
use Rattle.ct_terms.specs.declared.term.Core.{Core}
use Rattle.ct_terms.specs.Terms.{Terms, AreOrdered, AreSingle}
use Rattle.ct_terms.specs.CoreTree.{CoreTree, tree_children, subtrees, term_at}
use Rattle.ct_operators.specs.Theorems.{Theorems}
use Rattle.ct_operators.specs.Effect.{Stands, IsPrefix, Effect}
use Rattle.ct_operators.specs.Made.{HasTree, HasTrees, MakesInOrder}
use Rattle.ct_operators.proofs.EffectLemmas.{prefix_length, prefix_trans}

abbrev id : ℕ → TermId
id k = record { 0 = k }

-- ---- first parts of a table

pub prefix_ordered : (old new : Terms) → IsPrefix old new → AreOrdered new → AreOrdered old
prefix_ordered old new grown ordered t core has = ordered t core (has.0, subst (λ (ts : Terms). slice_get ts t ≡ Some (core, has.0)) (sym grown.1) (slice_get-append_left old grown.0 t (core, has.0) has.1))

pub longer_tree : (theorems : Theorems) (old new : Terms) (t : TermId) → IsPrefix old new → AreOrdered new → t.0 < length old → term_at new t ≡ term_at old t
longer_tree theorems old new t grown ordered within = ap (λ (ts : Terms). term_at ts t) grown.1 ∙ theorems.longer old grown.0 t (subst AreOrdered grown.1 ordered) within

pub has_stays : (theorems : Theorems) (old new : Terms) (t : CoreTree) → IsPrefix old new → AreOrdered new → HasTree old t → HasTree new t
has_stays theorems old new t grown ordered h = (h.0, (omega (arith, h.1.0, prefix_length old new grown), longer_tree theorems old new h.0 grown ordered h.1.0 ∙ h.1.1))

pub have_stay : (theorems : Theorems) (old new : Terms) (ts : List CoreTree) → IsPrefix old new → AreOrdered new → HasTrees old ts → HasTrees new ts
have_stay theorems old new [] grown ordered h = tt
have_stay theorems old new (t ∷ ts) grown ordered h = (has_stays theorems old new t grown ordered h.0, have_stay theorems old new ts grown ordered h.1)

pub have_both : (table : Terms) (xs ys : List CoreTree) → HasTrees table xs → HasTrees table ys → HasTrees table (xs ++ ys)
have_both table [] ys h k = k
have_both table (x ∷ xs) ys h k = (h.0, have_both table xs ys h.1 k)

pub have_left : (table : Terms) (xs ys : List CoreTree) → HasTrees table (xs ++ ys) → HasTrees table xs
have_left table [] ys h = tt
have_left table (x ∷ xs) ys h = (h.0, have_left table xs ys h.1)

pub have_right : (table : Terms) (xs ys : List CoreTree) → HasTrees table (xs ++ ys) → HasTrees table ys
have_right table [] ys h = h
have_right table (x ∷ xs) ys h = have_right table xs ys h.1

-- ---- growth in order

pub makes_grown : (xs : List CoreTree) (old new : Terms) → MakesInOrder old xs new → IsPrefix old new
makes_grown [] old new h = ([], h ∙ sym (append-nil old))
makes_grown (x ∷ xs) old new (inl h) = makes_grown xs old new h.1
makes_grown (x ∷ xs) old new (inr h) = prefix_trans old (old ++ h.1.0 ∷ []) new (h.1.0 ∷ [], refl) (makes_grown xs (old ++ h.1.0 ∷ []) new h.1.2)

-- one after the other
pub makes_then : (xs ys : List CoreTree) (a b c : Terms) → MakesInOrder a xs b → MakesInOrder b ys c → MakesInOrder a (xs ++ ys) c
makes_then [] ys a b c h k = subst (λ (ts : Terms). MakesInOrder ts ys c) h k
makes_then (x ∷ xs) ys a b c (inl h) k = inl (h.0, makes_then xs ys a b c h.1 k)
makes_then (x ∷ xs) ys a b c (inr h) k = inr (h.0, (h.1.0, h.1.1, makes_then xs ys (a ++ h.1.0 ∷ []) b c h.1.2 k))

-- what is there makes nothing
pub makes_none : (xs : List CoreTree) (a : Terms) → HasTrees a xs → MakesInOrder a xs a
makes_none [] a h = refl
makes_none (x ∷ xs) a h = inl (h.0, makes_none xs a h.1)

pub makes_nothing : (xs : List CoreTree) (a b : Terms) → HasTrees a xs → MakesInOrder a xs b → b ≡ a
makes_nothing [] a b h k = k
makes_nothing (x ∷ xs) a b h (inl k) = makes_nothing xs a b h.1 k.1
makes_nothing (x ∷ xs) a b h (inr k) = absurd (k.0 h.0.0 h.0.1.0 h.0.1.1)

-- what is made in two parts
pub makes_split : (xs ys : List CoreTree) (a c : Terms) → MakesInOrder a (xs ++ ys) c → (b : Terms) × (MakesInOrder a xs b × MakesInOrder b ys c)
makes_split [] ys a c h = (a, (refl, h))
makes_split (x ∷ xs) ys a c (inl h) = let r = makes_split xs ys a c h.1 in (r.0, (inl (h.0, r.1.0), r.1.1))
makes_split (x ∷ xs) ys a c (inr h) = let r = makes_split xs ys (a ++ h.1.0 ∷ []) c h.1.2 in (r.0, (inr (h.0, (h.1.0, h.1.1, r.1.0)), r.1.1))

-- what was made is there
pub makes_has : (theorems : Theorems) (xs : List CoreTree) (a b : Terms) → AreOrdered b → MakesInOrder a xs b → HasTrees b xs
makes_has theorems [] a b ordered h = tt
makes_has theorems (x ∷ xs) a b ordered (inl h) = (has_stays theorems a b x (makes_grown xs a b h.1) ordered h.0, makes_has theorems xs a b ordered h.1)
makes_has theorems (x ∷ xs) a b ordered (inr h) = (
  has_stays theorems (a ++ h.1.0 ∷ []) b x (makes_grown xs (a ++ h.1.0 ∷ []) b h.1.2) ordered (id (length a), h.1.1),
  makes_has theorems xs (a ++ h.1.0 ∷ []) b ordered h.1.2,
)

-- ---- growth whose order has no choice: each tree is a subterm of the later ones

abbrev pub Climbs : List CoreTree → Type 0
Climbs [] = Unit {0}
Climbs (x ∷ xs) = AllByRecursion (λ y. Contains (subtrees y) x) xs × Climbs xs

all_at : (P : CoreTree → Type 0) (xs : List CoreTree) (x : CoreTree) → AllByRecursion P xs → Contains xs x → P x
all_at P [] x h c = absurd (Contains-none x c)
all_at P (y ∷ ys) x h c = elim (Contains-cons y ys x c) [ inl e ↦ subst P e h.0 | inr rest ↦ all_at P ys x h.1 rest ]

module _ (theorems : Theorems) (new : Terms) (ordered : AreOrdered new) (single : AreSingle new) where
  one_number : (s t : TermId) → s.0 < length new → t.0 < length new → term_at new s ≡ term_at new t → s.0 ≡ t.0
  one_number s t s_in t_in e = ap (λ (u : TermId). u.0) (theorems.one new s t ordered single s_in t_in e)

  -- every new term is in the list
  abbrev pub AllNew : Terms → List CoreTree → Type 0
  AllNew old xs = (t : TermId) → length old ≤ t.0 → t.0 < length new → Contains xs (term_at new t)

  nothing_new : (old more : Terms) → new ≡ old ++ more → AllNew old [] → new ≡ old
  nothing_new old [] e adds = e ∙ append-nil old
  nothing_new old (m ∷ ms) e adds =
      let long : length new ≡ length old + length (m ∷ ms) = ap (λ (ts : Terms). length ts) e ∙ length-append old (m ∷ ms) in
      absurd (Contains-none (term_at new (id (length old))) (adds (id (length old)) (omega arith) (omega (arith, long))))

  -- the first new term
  next_new : (x : CoreTree) (xs : List CoreTree) (old more : Terms) (u : TermId) → new ≡ old ++ more → length old ≤ u.0 → Stands new u x → u.0 ≤ length old → ((entry : Core × SortId) → IsPrefix (old ++ entry ∷ []) new → MakesInOrder (old ++ entry ∷ []) xs new) → ((entry : Core × SortId) × Stands (old ++ entry ∷ []) (id (length old)) x × MakesInOrder (old ++ entry ∷ []) xs new)
  next_new x xs old [] u e over stands under rest =
      let long : length new ≡ length old = ap (λ (ts : Terms). length ts) (e ∙ append-nil old) in
      absurd (omega (arith, over, stands.0, long))
  next_new x xs old (m ∷ ms) u e over stands under rest =
      let grown : IsPrefix (old ++ m ∷ []) new = (ms, e ∙ sym (append_assoc old (m ∷ []) ms)) in
      let inside : length old < length (old ++ m ∷ []) = omega (arith, length-append old (m ∷ [])) in
      let number : u.0 ≡ length old = omega (arith, over, under) in
      (m, (inside, sym (longer_tree theorems (old ++ m ∷ []) new (id (length old)) grown ordered inside) ∙ ap (λ (k : ℕ). term_at new (id k)) (sym number) ∙ stands.1), rest m grown)

  pub forced : (xs : List CoreTree) (old : Terms) → IsPrefix old new → AllNew old xs → HasTrees new xs → Climbs xs → MakesInOrder old xs new
  forced [] old grown adds there climbs = nothing_new old grown.0 grown.1 adds
  forced (x ∷ xs) old grown adds there climbs =
      let u = there.0.0 in
      let stands : Stands new u x = there.0.1 in
      elim (cases_lt u.0 (length old)) [
        | inl below ↦ inl (
          (u, (below, sym (longer_tree theorems old new u grown ordered below) ∙ stands.1)),
          forced xs old grown
              (λ t from to. elim (Contains-cons x xs (term_at new t) (adds t from to)) [
                | inl e ↦ absurd (let same = one_number u t stands.0 to (stands.1 ∙ e) in omega (arith, same, below, from))
                | inr rest ↦ rest
              ])
              there.1 climbs.1,
        )
        | inr over ↦
            let first : u.0 ≤ length old = elim (Contains-cons x xs (term_at new (id (length old))) (adds (id (length old)) (omega arith) (omega (arith, over, stands.0)))) [
              | inl e ↦ (let same = one_number u (id (length old)) stands.0 (omega (arith, over, stands.0)) (stands.1 ∙ e) in omega (arith, same))
              | inr rest ↦
                  (let inside : Contains (subtrees (term_at new (id (length old)))) x = all_at (λ y. Contains (subtrees y) x) xs (term_at new (id (length old))) climbs.0 rest in
                  let v = theorems.subterms_stand new (id (length old)) x ordered (omega (arith, over, stands.0)) inside in
                  let same = one_number u v.0 stands.0 (omega (arith, v.1, over, stands.0)) (stands.1 ∙ sym v.2) in
                  omega (arith, same, v.1))
            ] in
            inr (
              (λ t within e. absurd (let same = one_number u t stands.0 (omega (arith, within, prefix_length old new grown)) (stands.1 ∙ sym e ∙ sym (longer_tree theorems old new t grown ordered within)) in omega (arith, same, within, over))),
              next_new x xs old grown.0 u grown.1 over stands first (λ entry longer.
                  forced xs (old ++ entry ∷ []) longer
                  (λ t from to.
                  let past : suc (length old) ≤ t.0 = omega (arith, from, length-append old (entry ∷ [])) in
                  elim (Contains-cons x xs (term_at new t) (adds t (omega (arith, past)) to)) [
                    | inl e ↦ absurd (let same = one_number u t stands.0 to (stands.1 ∙ e) in omega (arith, same, past, first))
                    | inr rest ↦ rest
                  ])
                  there.1 climbs.1),
            )
      ]

-- ---- one term over others that are there

flat_contains : {X : Type 0} (f : CoreTree → List X) (xs : List CoreTree) (y : X) → Contains (flat_map f xs) y → (x : CoreTree) × (Contains xs x × Contains (f x) y)
flat_contains f [] y h = absurd (Contains-none y h)
flat_contains {X} f (x ∷ xs) y h = elim (Contains-append_cases (f x) (flat_map f xs) y h) [
  | inl here ↦ (x, (Contains-first x xs, here))
  | inr later ↦ (let r = flat_contains f xs y later in (r.0, ((suc r.1.0.0, omega (arith, r.1.0.1), r.1.0.2), r.1.1)))
]

-- a subterm of a tree that is there is there
pub has_subterm : (theorems : Theorems) (table : Terms) (t s : CoreTree) → AreOrdered table → HasTree table t → Contains (subtrees t) s → HasTree table s
has_subterm theorems table t s ordered h inside =
    let v = theorems.subterms_stand table h.0 s ordered h.1.0 (subst (λ (x : CoreTree). Contains (subtrees x) s) (sym h.1.1) inside) in
    (v.0, (omega (arith, v.1, h.1.0), v.2))

-- a subterm is the tree, or is one of a tree right under it
pub subterm_cases : (theorems : Theorems) (t s : CoreTree) → Contains (subtrees t) s → (t ≡ s) ⊎ ((u : CoreTree) × (Contains (tree_children t) u × Contains (subtrees u) s))
subterm_cases theorems t s h =
    elim (Contains-cons t (flat_map subtrees (tree_children t)) s (subst (λ (xs : List CoreTree). Contains xs s) (theorems.subterms t) h)) [
      | inl e ↦ inl e
      | inr deeper ↦ inr (flat_contains subtrees (tree_children t) s deeper)
    ]

-- a tree that is not new
not_new : (theorems : Theorems) (old new : Terms) → IsPrefix old new → AreOrdered new → AreSingle new → (t : TermId) → length old ≤ t.0 → t.0 < length new → HasTree old (term_at new t) → ⊥
not_new theorems old new grown ordered single t from to h =
    let same = one_number theorems new ordered single h.0 t (omega (arith, h.1.0, prefix_length old new grown)) to (longer_tree theorems old new h.0 grown ordered h.1.0 ∙ h.1.1) in
    omega (arith, same, h.1.0, from)

module _ (d : Declarations) (old new : Terms) (core : CoreTree) (full : Type 0) (effect : Effect d (subtrees core) old new full) where
  -- all that it stands over is there: it alone is made
  pub makes_one : HasTrees old (tree_children core) → HasTree new core → MakesInOrder old (core ∷ []) new
  makes_one under there =
      let theorems = effect.kept.theorems in
      let before = prefix_ordered old new effect.grown effect.kept.ordered in
      forced theorems new effect.kept.ordered effect.kept.single (core ∷ []) old effect.grown
      (λ t from to. elim (subterm_cases theorems core (term_at new t) (effect.adds t from to)) [
        | inl e ↦ subst (λ (x : CoreTree). Contains (core ∷ []) x) e (Contains-first core [])
        | inr deeper ↦ absurd (not_new theorems old new effect.grown effect.kept.ordered effect.kept.single t from to
            (has_subterm theorems old deeper.0 (term_at new t) before (all_at (HasTree old) (tree_children core) deeper.0 under deeper.1.0) deeper.1.1))
      ])
      (there, tt) (tt, tt)

  -- it is there: nothing is made
  pub makes_same : HasTree old core → MakesInOrder old [] new
  makes_same h =
      let theorems = effect.kept.theorems in
      let before = prefix_ordered old new effect.grown effect.kept.ordered in
      forced theorems new effect.kept.ordered effect.kept.single [] old effect.grown
      (λ t from to. absurd (not_new theorems old new effect.grown effect.kept.ordered effect.kept.single t from to (has_subterm theorems old core (term_at new t) before h (effect.adds t from to))))
      tt tt

-- a term over another one, which is over others that are there: both are made
pub makes_two : (d : Declarations) (old new : Terms) (x y : CoreTree) (full : Type 0) → Effect d (subtrees y) old new full → tree_children y ≡ x ∷ [] → HasTrees old (tree_children x) → HasTree new y → MakesInOrder old (x ∷ (y ∷ [])) new
makes_two d old new x y full effect is under there =
    let theorems = effect.kept.theorems in
    let before = prefix_ordered old new effect.grown effect.kept.ordered in
    let inside : Contains (subtrees y) x = subst (λ (xs : List CoreTree). Contains xs x) (sym (theorems.subterms y ∙ ap (λ (us : List CoreTree). y ∷ flat_map subtrees us) is)) (second x y (theorems.subterms x)) in
    forced theorems new effect.kept.ordered effect.kept.single (x ∷ (y ∷ [])) old effect.grown
    (λ t from to. elim (subterm_cases theorems y (term_at new t) (effect.adds t from to)) [
      | inl e ↦ (1, omega arith, e)
      | inr deeper ↦
          let one : Contains (x ∷ []) deeper.0 = subst (λ (us : List CoreTree). Contains us deeper.0) is deeper.1.0 in
          let same : x ≡ deeper.0 = elim (Contains-cons x [] deeper.0 one) [ inl e ↦ e | inr none ↦ absurd (Contains-none deeper.0 none) ] in
          elim (subterm_cases theorems x (term_at new t) (subst (λ (w : CoreTree). Contains (subtrees w) (term_at new t)) (sym same) deeper.1.1)) [
            | inl e ↦ subst (λ (w : CoreTree). Contains (x ∷ (y ∷ [])) w) e (Contains-first x (y ∷ []))
            | inr further ↦ absurd (not_new theorems old new effect.grown effect.kept.ordered effect.kept.single t from to
                (has_subterm theorems old further.0 (term_at new t) before (all_at (HasTree old) (tree_children x) further.0 under further.1.0) further.1.1))
          ]
    ])
    (has_subterm theorems new y x effect.kept.ordered there inside, (there, tt))
    ((inside, tt), (tt, tt))
  where
    second : (a b : CoreTree) → subtrees a ≡ a ∷ flat_map subtrees (tree_children a) → Contains (b ∷ flat_map subtrees (a ∷ [])) a
    second a b e = Contains-rest b (flat_map subtrees (a ∷ [])) a (Contains-append_left (subtrees a) [] a (subst (λ (xs : List CoreTree). Contains xs a) (sym e) (Contains-first a (flat_map subtrees (tree_children a)))))

-- ---- terms one over the other

-- each tree of the list is over the one before it, and over trees that are there; the first is over `x`, and the last is `y`
abbrev pub Rises : Terms → CoreTree → List CoreTree → CoreTree → Type 0
Rises table x [] y = x ≡ y
Rises table x (z ∷ zs) y = (Contains (subtrees z) x) × (((s : CoreTree) → Contains (subtrees z) s → (z ≡ s) ⊎ (Contains (subtrees x) s ⊎ HasTree table s)) × Rises table z zs y)

pub rises_stay : (theorems : Theorems) (old new : Terms) (x : CoreTree) (zs : List CoreTree) (y : CoreTree) → IsPrefix old new → AreOrdered new → Rises old x zs y → Rises new x zs y
rises_stay theorems old new x [] y grown ordered h = h
rises_stay theorems old new x (z ∷ zs) y grown ordered h = (
  h.0,
  (
    λ s c. elim (h.1.0 s c) [
      | inl e ↦ inl e
      | inr k ↦ inr (elim k [ inl under ↦ inl under | inr there ↦ inr (has_stays theorems old new s grown ordered there) ])
    ],
    rises_stay theorems old new z zs y grown ordered h.1.1,
  ),
)

module _ (theorems : Theorems) (table : Terms) where
  -- a subterm of the first is one of all
  rises_all : (x : CoreTree) (zs : List CoreTree) (y s : CoreTree) → Rises table x zs y → Contains (subtrees x) s → AllByRecursion (λ z. Contains (subtrees z) s) zs
  rises_all x [] y s h c = tt
  rises_all x (z ∷ zs) y s h c = let k = theorems.subterms_of_subterms z x s h.0 c in (k, rises_all z zs y s h.1.1 k)

  rises_top : (x : CoreTree) (zs : List CoreTree) (y s : CoreTree) → Rises table x zs y → Contains (subtrees x) s → Contains (subtrees y) s
  rises_top x [] y s h c = subst (λ (w : CoreTree). Contains (subtrees w) s) h c
  rises_top x (z ∷ zs) y s h c = rises_top z zs y s h.1.1 (theorems.subterms_of_subterms z x s h.0 c)

  itself : (t : CoreTree) → Contains (subtrees t) t
  itself t = subst (λ (xs : List CoreTree). Contains xs t) (sym (theorems.subterms t)) (Contains-first t (flat_map subtrees (tree_children t)))

  pub rises_climbs : (x : CoreTree) (zs : List CoreTree) (y : CoreTree) → Rises table x zs y → Climbs zs
  rises_climbs x [] y h = tt
  rises_climbs x (z ∷ zs) y h = (rises_all z zs y z h.1.1 (itself z), rises_climbs z zs y h.1.1)

  rises_have : (new : Terms) (x : CoreTree) (zs : List CoreTree) (y : CoreTree) → AreOrdered new → HasTree new y → Rises table x zs y → HasTrees new zs
  rises_have new x [] y ordered there h = tt
  rises_have new x (z ∷ zs) y ordered there h = (has_subterm theorems new y z ordered there (rises_top z zs y z h.1.1 (itself z)), rises_have new z zs y ordered there h.1.1)

  -- a subterm of the last is in the list, is under the first, or is there
  rises_cases : (x : CoreTree) (zs : List CoreTree) (y s : CoreTree) → Rises table x zs y → Contains (subtrees y) s → Contains zs s ⊎ (Contains (subtrees x) s ⊎ HasTree table s)
  rises_cases x [] y s h c = inr (inl (subst (λ (w : CoreTree). Contains (subtrees w) s) (sym h) c))
  rises_cases x (z ∷ zs) y s h c = elim (rises_cases z zs y s h.1.1 c) [
    | inl later ↦ inl (suc later.0, omega (arith, later.1), later.2)
    | inr k ↦ elim k [
      | inr there ↦ inr (inr there)
      | inl under ↦ elim (h.1.0 s under) [
        | inl e ↦ inl (subst (λ (w : CoreTree). Contains (z ∷ zs) w) e (Contains-first z zs))
        | inr further ↦ inr further
      ]
    ]
  ]

pub makes_rising : (d : Declarations) (old new : Terms) (x : CoreTree) (zs : List CoreTree) (y : CoreTree) (full : Type 0) → Effect d (subtrees y) old new full → Rises old x zs y → HasTree old x → HasTree new y → MakesInOrder old zs new
makes_rising d old new x zs y full effect rises first last =
    let theorems = effect.kept.theorems in
    let before = prefix_ordered old new effect.grown effect.kept.ordered in
    forced theorems new effect.kept.ordered effect.kept.single zs old effect.grown
    (λ t from to. elim (rises_cases theorems old x zs y (term_at new t) rises (effect.adds t from to)) [
      | inl inside ↦ inside
      | inr k ↦ absurd (not_new theorems old new effect.grown effect.kept.ordered effect.kept.single t from to
          (elim k [ inl under ↦ has_subterm theorems old x (term_at new t) before first under | inr there ↦ there ]))
    ])
    (rises_have theorems old new x zs y effect.kept.ordered last rises)
    (rises_climbs theorems old x zs y rises)
