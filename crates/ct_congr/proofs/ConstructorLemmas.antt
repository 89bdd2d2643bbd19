-- The map of constructor terms by constructor and class, injectivity, and the shapes of classes.
use Rattle.std.proofs.Common.{◌≡◌, ℕ, ◌+◌, ◌<◌, ◌⊎◌, List, length, slice_get, set, Some, None, refl, sym, ap, subst, ◌∙◌, inl, inr, arith}
use Rattle.std.proofs.lemmas.Option.{none-some, same_Some, slice_get_within}
use Rattle.std.proofs.lemmas.List.{length-set}
use Rattle.ct_lemmas.proofs.Lists.{slice_get-one_length, slice_get-set_other, slice_get-set_same}
use Rattle.ct_lemmas.proofs.Numbers.{same_or_other}
use Rattle.indexmap.specs.IndexMap.{IndexMap, get}
use Rattle.ct_sorts.specs.declared.ids.CtorId.{CtorId}
use Rattle.ct_sorts.specs.Declarations.{Declarations}
use Rattle.ct_terms.specs.declared.ids.TermId.{TermId}
use Rattle.ct_terms.specs.declared.term.Core.{Core}
use Rattle.ct_terms.specs.declared.term.Core.TheVariants.{Con}
use Rattle.ct_terms.specs.Terms.{Terms, Has, AreSorted}
use Rattle.ct_congr.specs.declared.constructors.Shape.{Shape}
use Rattle.ct_congr.specs.Partition.{InOneClass}
use Rattle.ct_congr.specs.Index.{same_core, IsUnder, IsEntered, IsConIndex, IsInjectedAt, class_key}
use Rattle.ct_congr.specs.Rules.{IsInjective, IsBuiltIn, IsShape, AreShapes}
use Rattle.ct_congr.proofs.ClassLemmas.{InOneClass-sym, InOneClass-trans}
use Rattle.ct_congr.proofs.TermLemmas.{Has-inside, Has-constructor, one_arity}

-- a number below the next one is below or is it
below_cases : (t u : TermId) → u.0 < t.0 + 1 → (u.0 < t.0) ⊎ (t ≡ u)
below_cases t u below = elim (same_or_other u.0 t.0) [
  | inl e ↦ inr (λ i. record { 0 = sym e i })
  | inr other ↦ inl (omega (arith, other, below))
]

module _ {S : Type 0} (terms : Terms) (reps : List TermId) where
  pub IsConIndex-more : (index more : IndexMap Core TermId S) (t u r : TermId) (c : CtorId) (args : List TermId) → Has terms (Con c args) t.0 → slice_get reps t.0 ≡ Some r → IsEntered index more (class_key c r) t u → IsConIndex terms reps t.0 index → IsConIndex terms reps (t.0 + 1) more
  IsConIndex-more index more t u r c args has at entered old = record {
    listed = λ v s k ys below stands rep. elim (below_cases t v below) [
      | inl before ↦ let h = old.listed v s k ys before stands rep in (h.0, entered.stay (class_key k s) h.0 h.1)
      | inr is ↦
          let ctor : c ≡ k = (Has-constructor terms c k args ys v.0 (subst (λ (w : TermId). Has terms (Con c args) w.0) is has) stands).0 in
          let class : r ≡ s = same_Some r s (sym (subst (λ (w : TermId). slice_get reps w.0 ≡ Some r) is at) ∙ rep) in
          (u, subst (λ (q : CtorId). IsUnder more (class_key q s) u) ctor (subst (λ (q : TermId). IsUnder more (class_key c q) u) class entered.under))
    ];
    only = λ s v k under. elim (entered.only (class_key k s) v under) [
      | inl had ↦ old.only s v k had
      | inr new ↦
          let key = new.0 in
          let ctor : c ≡ k = cc in
          let class : r ≡ s = cc in (
            args,
            subst (λ (q : CtorId). Has terms (Con q args) v.0) ctor (subst (λ (w : TermId). Has terms (Con c args) w.0) (sym new.1) has),
            subst (λ (w : TermId). slice_get reps w.0 ≡ Some s) (sym new.1) (at ∙ ap Some class),
          )
    ];
  }

  pub IsConIndex-skip : (index : IndexMap Core TermId S) (t : TermId) → ((c : CtorId) (args : List TermId) → Has terms (Con c args) t.0 → ⊥) → IsConIndex terms reps t.0 index → IsConIndex terms reps (t.0 + 1) index
  IsConIndex-skip index t none old = record {
    listed = λ v s k ys below stands rep. elim (below_cases t v below) [
      | inl before ↦ old.listed v s k ys before stands rep
      | inr is ↦ absurd (none k ys (subst (λ (w : TermId). Has terms (Con k ys) w.0) (sym is) stands))
    ];
    only = old.only;
  }

  -- where the arguments of each term are those of the term of its constructor and class, constructors are injective
  pub IsInjective-all : (d : Declarations) (index : IndexMap Core TermId S) → AreSorted d terms → ((t : TermId) → t.0 < length terms → IsInjectedAt terms reps index t) → IsInjective terms (InOneClass reps)
  IsInjective-all d index sorted all x y rule =
      let r = rule.equal.0 in
      let p = all rule.left (Has-inside terms (Con rule.ctor rule.xs) rule.left.0 rule.left_stands) rule.ctor rule.xs r rule.left_stands rule.equal.1 in
      let q = all rule.right (Has-inside terms (Con rule.ctor rule.ys) rule.right.0 rule.right_stands) rule.ctor rule.ys r rule.right_stands rule.equal.2 in
      let first : p.0 ≡ q.0 = same_Some p.0 q.0 (sym p.2 ∙ q.2) in
      let stands : Has terms (Con rule.ctor q.1) p.0.0 = subst (λ (w : TermId). Has terms (Con rule.ctor q.1) w.0) (sym first) q.3 in
      let same : p.1 ≡ q.1 = (Has-constructor terms rule.ctor rule.ctor p.1 q.1 p.0.0 p.3 stands).1 in
      let z = slice_get-one_length rule.xs p.1 rule.place x (one_arity d terms rule.ctor rule.xs p.1 rule.left.0 p.0.0 sorted rule.left_stands p.3) rule.left_at in
      let left : InOneClass reps x z.0 = p.4 rule.place x z.0 rule.left_at z.1 in
      let right : InOneClass reps y z.0 = q.4 rule.place y z.0 rule.right_at (ap (λ (list : List TermId). slice_get list rule.place) (sym same) ∙ z.1) in
      InOneClass-trans reps x z.0 y left (InOneClass-sym reps y z.0 right)

-- nothing under a key: no term of the constructor in the class
pub none_built : {S : Type 0} (terms : Terms) (reps : List TermId) (index : IndexMap Core TermId S) (n : ℕ) (c : CtorId) (u t r : TermId) (args : List TermId) → IsConIndex terms reps n index → get same_core index (class_key c r) ≡ None → slice_get reps u.0 ≡ Some r → t.0 < n → Has terms (Con c args) t.0 → InOneClass reps u t → ⊥
none_built terms reps index n c u t r args is none at below has equal =
    let class : equal.0 ≡ r = same_Some equal.0 r (sym equal.1 ∙ at) in
    let found = is.listed t r c args below has (equal.2 ∙ ap Some class) in
    none-some found.0 (sym none ∙ found.1)

-- ---- shapes

module _ (terms : Terms) (reps : List TermId) (r : TermId) (c : CtorId) (t : TermId) (built : IsBuiltIn terms reps r c t) where
  -- the constructor of the same term
  same_ctor : (k : CtorId) (u : TermId) → t ≡ u → IsBuiltIn terms reps r k u → c ≡ k
  same_ctor k u is other = (Has-constructor terms c k built.0 other.0 u.0 (subst (λ (w : TermId). Has terms (Con c built.0) w.0) is built.1) other.1).0

  pub IsShape-first : (shape : Shape) → shape.first ≡ None → IsShape terms reps t.0 r shape → IsShape terms reps (t.0 + 1) r (record { first = Some t; other = None })
  IsShape-first shape none old = record {
    first = λ u e. (c, subst (IsBuiltIn terms reps r c) (same_Some t u e) built);
    other = λ u e. absurd (none-some u e);
    all = λ u k below stands. (
      t,
      refl,
      λ _. elim (below_cases t u below) [
        | inl before ↦ let h = old.all u k before stands in absurd (none-some h.0 (sym none ∙ h.1))
        | inr is ↦ subst (λ (q : CtorId). IsBuiltIn terms reps r q t) (same_ctor k u is stands) built
      ],
    );
  }

  pub IsShape-kept : (shape : Shape) (f : TermId) → shape.first ≡ Some f → (shape.other ≡ None → (args : List TermId) × Has terms (Con c args) f.0) → IsShape terms reps t.0 r shape → IsShape terms reps (t.0 + 1) r shape
  IsShape-kept shape f is_first mine old = record {
    first = old.first;
    other = old.other;
    all = λ u k below stands. elim (below_cases t u below) [
      | inl before ↦ old.all u k before stands
      | inr is ↦ (
        f,
        is_first,
        λ none.
            let h = mine none in
            let inside = (old.first f is_first).1 in
            subst (λ (q : CtorId). IsBuiltIn terms reps r q f) (same_ctor k u is stands) (h.0, h.1, inside.2),
      )
    ];
  }

  pub IsShape-other : (shape : Shape) (f : TermId) → shape.first ≡ Some f → ((args : List TermId) → Has terms (Con c args) f.0 → ⊥) → IsShape terms reps t.0 r shape → IsShape terms reps (t.0 + 1) r (record { first = Some f; other = Some t })
  IsShape-other shape f is_first apart old =
      let mine = old.first f is_first in
      record {
        first = λ u e. old.first u (is_first ∙ e);
        other = λ u e. (f, mine.0, c, refl, mine.1, subst (IsBuiltIn terms reps r c) (same_Some t u e) built, λ same. apart mine.1.0 (subst (λ (q : CtorId). Has terms (Con q mine.1.0) f.0) same mine.1.1));
        all = λ u k below stands. elim (below_cases t u below) [
          | inl before ↦ let h = old.all u k before stands in (f, refl, λ none. absurd (none-some t (sym none)))
          | inr is ↦ (f, refl, λ none. absurd (none-some t (sym none)))
        ];
      }

-- a class that the next term is not of keeps its shape
IsShape-skip : (terms : Terms) (reps : List TermId) (r t : TermId) (shape : Shape) → ((c : CtorId) → IsBuiltIn terms reps r c t → ⊥) → IsShape terms reps t.0 r shape → IsShape terms reps (t.0 + 1) r shape
IsShape-skip terms reps r t shape none old = record {
  first = old.first;
  other = old.other;
  all = λ u k below stands. elim (below_cases t u below) [
    | inl before ↦ old.all u k before stands
    | inr is ↦ absurd (none k (subst (IsBuiltIn terms reps r k) (sym is) stands))
  ];
}

pub AreShapes-skip : (terms : Terms) (reps : List TermId) (t : TermId) (shapes : List Shape) → ((c : CtorId) (args : List TermId) → Has terms (Con c args) t.0 → ⊥) → AreShapes terms reps t.0 shapes → AreShapes terms reps (t.0 + 1) shapes
AreShapes-skip terms reps t shapes none old r shape at = IsShape-skip terms reps r t shape (λ c built. none c built.0 built.1) (old r shape at)

pub AreShapes-more : (terms : Terms) (reps : List TermId) (t r : TermId) (shapes : List Shape) (shape : Shape) → slice_get reps t.0 ≡ Some r → IsShape terms reps (t.0 + 1) r shape → AreShapes terms reps t.0 shapes → AreShapes terms reps (t.0 + 1) (set shapes r.0 shape)
AreShapes-more terms reps t r shapes shape at mine old s other at_s = elim (same_or_other s.0 r.0) [
  | inl e ↦
      let is : r ≡ s = λ i. record { 0 = sym e i } in
      let within : r.0 < length shapes = omega (arith, slice_get_within (set shapes r.0 shape) s.0 other at_s, length-set shapes r.0 shape, e) in
      let there : slice_get (set shapes r.0 shape) s.0 ≡ Some shape = ap (slice_get (set shapes r.0 shape)) e ∙ slice_get-set_same shapes r.0 shape within in
      let same : shape ≡ other = same_Some shape other (sym there ∙ at_s) in
      subst (IsShape terms reps (t.0 + 1) s) same (subst (λ (q : TermId). IsShape terms reps (t.0 + 1) q shape) is mine)
  | inr apart ↦
      IsShape-skip terms reps s t other (λ c built. apart (ap (λ q. q.0) (same_Some s r (sym built.2 ∙ at))))
      (old s other (sym (slice_get-set_other shapes r.0 s.0 shape apart) ∙ at_s))
]

-- where the first is of the constructor and there is no other, all are
pub different-none : (terms : Terms) (reps : List TermId) (n : ℕ) (r : TermId) (shape : Shape) (f : TermId) (c k : CtorId) (t : TermId) (args : List TermId) → shape.first ≡ Some f → Has terms (Con c args) f.0 → shape.other ≡ None → IsShape terms reps n r shape → t.0 < n → IsBuiltIn terms reps r k t → c ≡ k
different-none terms reps n r shape f c k t args is_first mine none is below built =
    let h = is.all t k below built in
    let same : h.0 ≡ f = same_Some h.0 f (sym h.1 ∙ is_first) in
    let stands = h.2 none in
    (Has-constructor terms c k args stands.0 f.0 mine (subst (λ (w : TermId). Has terms (Con k stands.0) w.0) same stands.1)).0

-- where the first is not of the constructor, it is of another one
pub different-found : (terms : Terms) (reps : List TermId) (n : ℕ) (r : TermId) (shape : Shape) (f : TermId) (c : CtorId) → shape.first ≡ Some f → ((args : List TermId) → Has terms (Con c args) f.0 → ⊥) → IsShape terms reps n r shape → (k : CtorId) × IsBuiltIn terms reps r k f × (c ≡ k → ⊥)
different-found terms reps n r shape f c is_first apart is =
    let h = is.first f is_first in
    (h.0, h.1, λ same. apart h.1.0 (subst (λ (q : CtorId). Has terms (Con q h.1.0) f.0) (sym same) h.1.1))

-- the pairs of arguments with one term under the key are those that are asked for
pub injected_at : {S : Type 0} (terms : Terms) (reps : List TermId) (index : IndexMap Core TermId S) (t first r : TermId) (c : CtorId) (xs ys : List TermId) → Has terms (Con c xs) t.0 → slice_get reps t.0 ≡ Some r → IsUnder index (class_key c r) first → Has terms (Con c ys) first.0 → ((k : ℕ) (x y : TermId) → slice_get xs k ≡ Some x → slice_get ys k ≡ Some y → InOneClass reps x y) → IsInjectedAt terms reps index t
injected_at terms reps index t first r c xs ys stands at under first_stands pairs k zs s has rep =
    let same = Has-constructor terms c k xs zs t.0 stands has in
    let class : r ≡ s = same_Some r s (sym at ∙ rep) in (
      first,
      ys,
      subst (λ (q : CtorId). IsUnder index (class_key q s) first) same.0 (subst (λ (q : TermId). IsUnder index (class_key c q) first) class under),
      subst (λ (q : CtorId). Has terms (Con q ys) first.0) same.0 first_stands,
      λ j x y at_x at_y. pairs j x y (ap (λ (list : List TermId). slice_get list j) same.1 ∙ at_x) at_y,
    )

-- a constructor term has a term under its key
pub not_unknown : {S : Type 0} (terms : Terms) (reps : List TermId) (index : IndexMap Core TermId S) (n : ℕ) (t r : TermId) (c : CtorId) (xs : List TermId) → IsConIndex terms reps n index → t.0 < n → Has terms (Con c xs) t.0 → slice_get reps t.0 ≡ Some r → get same_core index (class_key c r) ≡ None → ⊥
not_unknown terms reps index n t r c xs is below has at none = let h = is.listed t r c xs below has at in none-some h.0 (sym none ∙ h.1)
